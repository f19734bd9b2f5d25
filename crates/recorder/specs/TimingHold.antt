-- What holds of the list of tags: document 02, [4], "It also lists the message's tag numbers holding ADKD 4, ascending, whether or not the slots fit."
-- Assumes nothing.
use Rattle.std.specs.Prelude.{ℕ, suc, ◌+◌, ◌≤◌, ◌<◌, List, [], ◌∷◌, true, ◌≡◌, ◌↔◌, length, get_or, take}
use Rattle.layouts.specs.Answer.{gives, refusal}
use Rattle.layouts.specs.Mack.{listed, size_checks, nt}
use Rattle.layouts.specs.Maclt.{fixed, table, row_of, slots, flx_of}
use Rattle.layouts.specs.MacltTable.{timing as slot_timing}
use Rattle.recorder.specs.Slots.{adkd_at, prnd_at, slot_at, judged}
use Rattle.recorder.specs.Timing.{timing_of, nine, timing_tags}
use Rattle.recorder.specs.Walk.{walk_checks, walk}

abbrev pub Ascending : List ℕ → Type 0
Ascending l = (i : ℕ) → suc i < length l → get_or l i 0 < get_or l (suc i) 0

pub record Lists (m : List ℕ) (k T : ℕ) : Type 0 where
  -- a tag is listed exactly if it is one of tags 1 to nt-1 and holds ADKD 4
  pub exactly_if : (n : ℕ) → listed n (timing_of m k T) ≡ true ↔ ((1 ≤ n) × (n < nt k T) × (adkd_at m T n ≡ 4))
  pub ascending : Ascending (timing_of m k T)
  -- at most nine, so that the nine bytes begin with all of them
  pub few : length (timing_of m k T) ≤ 9
  pub in_front : take (length (timing_of m k T)) (nine (timing_of m k T)) ≡ timing_of m k T

abbrev pub TimingListed : Type 0
TimingListed = (m : List ℕ) (k T : ℕ) → refusal (size_checks k T) ≡ 0 → Lists m k T

-- "whether or not the slots fit": the list of a walk is that of the message alone, whatever the sender, the table and the message number
abbrev pub SameList : Type 0
SameList = (m : List ℕ) (k T sender id msg : ℕ) → refusal (walk_checks m k T sender id msg) ≡ 0 → (walk m k T sender id msg).timing ≡ timing_tags m k T

-- "which tag speaks for the leap second". Where all fit and the slot of tag n asks for ADKD 4: the slot is S, by the table (`TimingIsSelf`); the tag is listed;
-- and its PRND is 255, as asked.
pub record Speaks (m : List ℕ) (k T n object : ℕ) : Type 0 where
  pub self : object ≡ 0
  pub is_listed : listed n (timing_of m k T) ≡ true
  pub prnd : prnd_at m T n ≡ 255

abbrev pub TimingSpeaks : Type 0
TimingSpeaks =
    (m : List ℕ) (k T sender id msg : ℕ) → refusal (walk_checks m k T sender id msg) ≡ 0 → judged m k T sender id msg ≡ gives (0 ∷ [])
    → (n : ℕ) → 1 ≤ n → n < nt k T → (object : ℕ) → slot_at id msg n ≡ fixed 4 object → Speaks m k T n object

-- Where all fit and the message has no FLX slot, the list is the table's own (`Timing`, layouts/specs/MacltTable.antt),
abbrev pub ListIsTable : Type 0
ListIsTable =
    (m : List ℕ) (k T sender id msg : ℕ) → refusal (walk_checks m k T sender id msg) ≡ 0 → judged m k T sender id msg ≡ gives (0 ∷ [])
    → flx_of msg (row_of id table) ≡ [] → timing_of m k T ≡ slot_timing 1 (slots msg (row_of id table))

-- which has one tag in one of the two messages and none in the other
abbrev pub OneOfTwo : Type 0
OneOfTwo =
    (id : ℕ) → ((row_of id table).nt ≡ 0 → ⊥) → length (slot_timing 1 (row_of id table).message0) + length (slot_timing 1 (row_of id table).message1) ≡ 1
