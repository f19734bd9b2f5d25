-- What holds of the list of tags.
-- Assumes nothing.
use mathlib.Core.Path.{◌≡◌, refl, sym, ap, ◌∙◌}
use mathlib.Core.Bool.{Bool, true, false, cond}
use mathlib.Core.List.{List, [], ◌∷◌, ◌++◌, map, append-nil, append_assoc}
use mathlib.Core.Logic.{◌⊎◌, inl, inr, ⊎_elim}
use Prim.Native.Nat.{ℕ, zero, suc, ◌+◌, ◌-◌, ◌≤◌, ◌<◌}
use native.Mathlib.Nat.{le_of_suc-le-suc, not-suc-le-zero}
use native.Mathlib.Omega.{arith}
use lib.Dec.{eqb}
use lib.ListN.{length, get_or, replicate}
use lib.Seq.{take-append_seam, take-take}
use borrow.Author.Tests.{eq-eqb, eqb-true, eqb-false}
use Rattle.layouts.specs.Answer.{refused}
use Rattle.layouts.specs.Mack.{listed, mack_checks, nt}
use Rattle.layouts.specs.Maclt.{Slot, fixed, flex, Row, table, row_of, slots, flx}
use Rattle.layouts.specs.MacltTable.{timed, timing as slot_timing, Speaks as TagsOf}
use Rattle.layouts.proofs.Readers.{first_of}
use Rattle.layouts.proofs.Layouts.{tags_at_least_four}
use Rattle.layouts.proofs.MacltTable.{timing_is_self, timing as table_timing}
use Rattle.recorder.specs.Slots.{adkd_at, prnd_at, prnd_fits, slot_at, broken}
use Rattle.recorder.specs.Timing.{timing, timing_of, timing_tags}
use Rattle.recorder.specs.Walk.{Walk, verdict, unjudged, walk}
use Rattle.recorder.specs.TimingHold.{Ascending, TimingListed, SameList, TimingSpeaks, ListIsTable, OneOfTwo}
use Rattle.recorder.proofs.TimingList.{timing_few}
use Rattle.recorder.proofs.WalkTags.{of_row, as_many}
use Rattle.recorder.proofs.WalkAnswers.{with_given, known}
use Rattle.recorder.proofs.SlotsHold.{behind, first_breaks, same_tags, fitted}

-- whether a number stands in a list with one more
listed_more : (n x : ℕ) (l : List ℕ) → listed n (l ++ (x ∷ [])) ≡ cond (listed n l) true (eqb n x)
unfolding listed
listed_more n x [] = go (eqb n x)
  where
    go : (b : Bool) → cond b true false ≡ b
    go true = refl
    go false = refl
listed_more n x (y ∷ l) = go (eqb n y) (listed_more n x l)
  where
    go : (b : Bool) → listed n (l ++ (x ∷ [])) ≡ cond (listed n l) true (eqb n x)
        → cond b true (listed n (l ++ (x ∷ []))) ≡ cond (cond b true (listed n l)) true (eqb n x)
    go true h = refl
    go false h = h

-- tags 1 to j: which are listed
record Held (m : List ℕ) (T n j : ℕ) : Type 0 where
  some : 1 ≤ n
  few : n ≤ j
  four : adkd_at m T n ≡ 4

listed_then : (m : List ℕ) (T n j : ℕ) → listed n (timing m T j) ≡ true → Held m T n j
unfolding timing listed
listed_then m T n zero e = let z : ◌≡◌ {A = ℕ} 0 1 = cc in absurd (omega arith)
listed_then m T n (suc j) e = go (eqb (adkd_at m T (suc j)) 4) refl (listed_then m T n j) e
  where
    up : Held m T n j → Held m T n (suc j)
    up h = record { some = h.some; few = omega (arith, h.few); four = h.four }

    last : (x : Bool) → (x ≡ true → Held m T n j) → cond x true (eqb n (suc j)) ≡ true → adkd_at m T (suc j) ≡ 4 → Held m T n (suc j)
    last true ih q four = up (ih refl)
    last false ih q four =
        let same : n ≡ suc j = eqb-true n (suc j) q in
        record { some = omega (arith, same); few = omega (arith, same); four = ap (adkd_at m T) same ∙ four }

    go : (b : Bool) → eqb (adkd_at m T (suc j)) 4 ≡ b → (listed n (timing m T j) ≡ true → Held m T n j)
        → listed n (timing m T j ++ cond b (suc j ∷ []) []) ≡ true → Held m T n (suc j)
    go true h ih q = last (listed n (timing m T j)) ih (sym (listed_more n (suc j) (timing m T j)) ∙ q) (eqb-true (adkd_at m T (suc j)) 4 h)
    go false h ih q = up (ih (ap (listed n) (sym (append-nil (timing m T j))) ∙ q))

listed_if : (m : List ℕ) (T n j : ℕ) → Held m T n j → listed n (timing m T j) ≡ true
unfolding timing
listed_if m T n zero h = absurd (omega (arith, h.some, h.few))
listed_if m T n (suc j) h = go (eqb n (suc j)) refl (listed_if m T n j)
  where
    earlier : (b : Bool) → listed n (timing m T j) ≡ true → listed n (timing m T j ++ cond b (suc j ∷ []) []) ≡ true
    earlier true q = listed_more n (suc j) (timing m T j) ∙ ap (λ (x : Bool). cond x true (eqb n (suc j))) q
    earlier false q = ap (listed n) (append-nil (timing m T j)) ∙ q

    either : (x : Bool) → cond x true true ≡ true
    either true = refl
    either false = refl

    go : (b : Bool) → eqb n (suc j) ≡ b → (Held m T n j → listed n (timing m T j) ≡ true)
        → listed n (timing m T j ++ cond (eqb (adkd_at m T (suc j)) 4) (suc j ∷ []) []) ≡ true
    go true q ih =
        let same : n ≡ suc j = eqb-true n (suc j) q in
        let four = eq-eqb (adkd_at m T (suc j)) 4 (ap (adkd_at m T) (sym same) ∙ h.four) in
        ap (λ (b : Bool). listed n (timing m T j ++ cond b (suc j ∷ []) [])) four ∙ listed_more n (suc j) (timing m T j)
        ∙ ap (λ (x : Bool). cond (listed n (timing m T j)) true x) q ∙ either (listed n (timing m T j))
    go false q ih =
        let other = eqb-false n (suc j) q in
        earlier (eqb (adkd_at m T (suc j)) 4)
        (ih (record { some = h.some; few = omega (arith, h.few, other); four = h.four }))

-- a list with one more, at each of its places
at_end : (l : List ℕ) (x i : ℕ) → i < length (l ++ (x ∷ []))
    → ((i < length l) × (get_or (l ++ (x ∷ [])) i 0 ≡ get_or l i 0)) ⊎ ((i ≡ length l) × (get_or (l ++ (x ∷ [])) i 0 ≡ x))
at_end [] x zero h = inr (refl, refl)
at_end [] x (suc i) h = absurd (not-suc-le-zero (le_of_suc-le-suc h))
at_end (y ∷ l) x zero h = inl (omega arith, refl)
at_end (y ∷ l) x (suc i) h =
    ⊎_elim (λ e. inl (omega (arith, e.0), e.1)) (λ e. inr (ap suc e.0, e.1)) (at_end l x i (le_of_suc-le-suc h))

-- no tag above j is among tags 1 to j
timing_below : (m : List ℕ) (T j i : ℕ) → i < length (timing m T j) → get_or (timing m T j) i 0 ≤ j
unfolding timing
timing_below m T zero i h = absurd (not-suc-le-zero h)
timing_below m T (suc j) i h = go (eqb (adkd_at m T (suc j)) 4) (timing_below m T j i) h
  where
    go : (b : Bool) → (i < length (timing m T j) → get_or (timing m T j) i 0 ≤ j) → i < length (timing m T j ++ cond b (suc j ∷ []) [])
        → get_or (timing m T j ++ cond b (suc j ∷ []) []) i 0 ≤ suc j
    go true ih l = ⊎_elim (λ e. omega (arith, e.1, ih e.0)) (λ e. omega (arith, e.1)) (at_end (timing m T j) (suc j) i l)
    go false ih l = rw (append-nil (timing m T j)) (omega (arith, ih (rw (append-nil (timing m T j)) at l)))

timing_ascends : (m : List ℕ) (T j : ℕ) → Ascending (timing m T j)
unfolding timing
timing_ascends m T zero i h = absurd (not-suc-le-zero h)
timing_ascends m T (suc j) i h = go (eqb (adkd_at m T (suc j)) 4) (timing_ascends m T j i) h
  where
    go : (b : Bool) → (suc i < length (timing m T j) → get_or (timing m T j) i 0 < get_or (timing m T j) (suc i) 0)
        → suc i < length (timing m T j ++ cond b (suc j ∷ []) [])
        → get_or (timing m T j ++ cond b (suc j ∷ []) []) i 0 < get_or (timing m T j ++ cond b (suc j ∷ []) []) (suc i) 0
    go false ih l = rw (append-nil (timing m T j)) (ih (rw (append-nil (timing m T j)) at l))
    go true ih l = last (at_end (timing m T j) (suc j) i (omega (arith, l))) (at_end (timing m T j) (suc j) (suc i) l)
      where
        last : ((i < length (timing m T j)) × (get_or (timing m T j ++ (suc j ∷ [])) i 0 ≡ get_or (timing m T j) i 0))
            ⊎ ((i ≡ length (timing m T j)) × (get_or (timing m T j ++ (suc j ∷ [])) i 0 ≡ suc j))
            → ((suc i < length (timing m T j)) × (get_or (timing m T j ++ (suc j ∷ [])) (suc i) 0 ≡ get_or (timing m T j) (suc i) 0))
            ⊎ ((suc i ≡ length (timing m T j)) × (get_or (timing m T j ++ (suc j ∷ [])) (suc i) 0 ≡ suc j))
            → get_or (timing m T j ++ (suc j ∷ [])) i 0 < get_or (timing m T j ++ (suc j ∷ [])) (suc i) 0
        last (inl a) (inl b) = omega (arith, a.1, b.1, ih b.0)
        last (inl a) (inr b) = omega (arith, a.1, b.1, timing_below m T j i a.0)
        last (inr a) (inl b) = absurd (omega (arith, a.0, b.0))
        last (inr a) (inr b) = absurd (omega (arith, a.0, b.0))

pub timing_listed : TimingListed
timing_listed m k T z =
    let tags = tags_at_least_four k T z in
    let few = timing_few m T (nt k T - 1) in
    let nine-hold : length (timing_of m k T) ≤ 9 = omega (arith, tags.1, few) in
    record {
      exactly_if = λ n. (
        λ e. let h = listed_then m T n (nt k T - 1) e in (h.some, omega (arith, h.some, h.few), h.four),
        λ h. listed_if m T n (nt k T - 1) (record { some = h.0; few = omega (arith, h.1); four = h.2 }),
      );
      ascending = timing_ascends m T (nt k T - 1);
      few = nine-hold;
      in_front =
          take-take (length (timing_of m k T)) 9 (timing_of m k T ++ replicate 9 0) nine-hold ∙ take-append_seam (timing_of m k T) (replicate 9 0);
    }

-- The list of a walk is that of the message.
pub same_list : SameList
unfolding walk verdict timing_tags
same_list m k T sender id msg z =
    let mack = (known m k T sender id msg z).mack in
    ap (λ (q : ℕ). (cond {A = Walk} (eqb q 0) (verdict m k T sender id msg) (unjudged (refused q))).timing) z ∙ with_given (mack_checks m k T) _ _ _ mack

-- What a tag that fits a fixed slot holds.
fits_fixed : (a o sender adkd prnd : ℕ) → broken (fixed a o) sender adkd prnd ≡ 0 → (adkd ≡ a) × (prnd_fits a o sender prnd ≡ true)
unfolding broken
fits_fixed a o sender adkd prnd e = go (eqb adkd a) refl (prnd_fits a o sender prnd) e
  where
    go : (x : Bool) → eqb adkd a ≡ x → (y : Bool) → ◌≡◌ {A = ℕ} (cond x (cond y 0 2) 1) 0 → (adkd ≡ a) × (y ≡ true)
    go true h true f = (eqb-true adkd a h, refl)
    go true h false f = absurd (omega (arith, f))
    go false h y f = absurd (omega (arith, f))

-- An ADKD 4 slot is S, of every ID and message (`TimingIsSelf`).
listed_left : (n : ℕ) (a b : List ℕ) → listed n a ≡ true → listed n (a ++ b) ≡ true
unfolding listed
listed_left n [] b e = let z : ◌≡◌ {A = ℕ} 0 1 = cc in absurd (omega arith)
listed_left n (x ∷ a) b e = go (eqb n x) (listed_left n a b) e
  where
    go : (y : Bool) → (listed n a ≡ true → listed n (a ++ b) ≡ true) → cond y true (listed n a) ≡ true → cond y true (listed n (a ++ b)) ≡ true
    go true ih h = refl
    go false ih h = ih h

listed_right : (n : ℕ) (a b : List ℕ) → listed n b ≡ true → listed n (a ++ b) ≡ true
unfolding listed
listed_right n [] b e = e
listed_right n (x ∷ a) b e = go (eqb n x) (listed_right n a b e)
  where
    go : (y : Bool) → listed n (a ++ b) ≡ true → cond y true (listed n (a ++ b)) ≡ true
    go true h = refl
    go false h = h

in_timed : (ss : List Slot) (i o : ℕ) → i < length ss → get_or ss i flex ≡ fixed 4 o → listed o (timed ss) ≡ true
unfolding listed
in_timed [] i o l e = absurd (not-suc-le-zero l)
in_timed (flex ∷ ss) zero o l e = let z : ◌≡◌ {A = ℕ} 0 1 = cc in absurd (omega arith)
in_timed (flex ∷ ss) (suc i) o l e = in_timed ss i o (le_of_suc-le-suc l) e
in_timed (fixed a q ∷ ss) zero o l e =
    let x : a ≡ 4 = cc in
    let y : q ≡ o = cc in
    rw (eq-eqb a 4 x, eq-eqb o q (sym y))
in_timed (fixed a q ∷ ss) (suc i) o l e = go (eqb a 4) (in_timed ss i o (le_of_suc-le-suc l) e)
  where
    head : (b : Bool) → listed o (timed ss) ≡ true → cond b true (listed o (timed ss)) ≡ true
    head true h = refl
    head false h = h

    go : (b : Bool) → listed o (timed ss) ≡ true → listed o (cond b (q ∷ timed ss) (timed ss)) ≡ true
    go true h = head (eqb o q) h
    go false h = h

all_self : map (λ (r : Row). timed r.message0 ++ timed r.message1) table ≡ map (λ (r : Row). 0 ∷ []) table
unfolding table
all_self = timing_is_self

slot_self : (id msg n o : ℕ) → ((row_of id table).nt ≡ 0 → ⊥) → 1 ≤ n → n < (row_of id table).nt → slot_at id msg n ≡ fixed 4 o → o ≡ 0
unfolding listed
slot_self id msg n o ne some few e = one (eqb o 0) refl (rw only at (go (eqb msg 0) here))
  where
    only : timed (row_of id table).message0 ++ timed (row_of id table).message1 ≡ 0 ∷ []
    only = of_row (λ (r : Row). timed r.message0 ++ timed r.message1) (λ (r : Row). 0 ∷ []) id table all_self ne

    here : listed o (timed (slots msg (row_of id table))) ≡ true
    here = in_timed (slots msg (row_of id table)) (n - 1) o (omega (arith, some, few, as_many id msg ne)) e

    go : (b : Bool) → listed o (timed (cond b (row_of id table).message0 (row_of id table).message1)) ≡ true
        → listed o (timed (row_of id table).message0 ++ timed (row_of id table).message1) ≡ true
    go true h = listed_left o (timed (row_of id table).message0) (timed (row_of id table).message1) h
    go false h = listed_right o (timed (row_of id table).message0) (timed (row_of id table).message1) h

    one : (b : Bool) → eqb o 0 ≡ b → cond b true false ≡ true → o ≡ 0
    one true h f = eqb-true o 0 h
    one false h f = let z : ◌≡◌ {A = ℕ} 0 1 = cc in absurd (omega arith)

-- "but 255 for ADKD 4"
constellation : (sender prnd : ℕ) → prnd_fits 4 0 sender prnd ≡ true → prnd ≡ 255
unfolding prnd_fits
constellation sender prnd e = eqb-true prnd 255 e

pub timing_speaks : TimingSpeaks
timing_speaks m k T sender id msg z e n some few o at =
    let facts = known m k T sender id msg z in
    let same = same_tags m k T sender id msg e in
    let fit = (first_breaks m k T sender id msg facts.some same).fits_all.0 e n some few in
    let holds = fits_fixed 4 o sender (adkd_at m T n) (prnd_at m T n) (ap (λ (s : Slot). broken s sender (adkd_at m T n) (prnd_at m T n)) (sym at) ∙ fit) in
    let self = slot_self id msg n o facts.some some (omega (arith, few, same)) at in
    record {
      self = self;
      is_listed = ((timing_listed m k T facts.sizes).exactly_if n).1 (some, few, holds.0);
      prnd = constellation sender (prnd_at m T n) (ap (λ (x : ℕ). prnd_fits 4 x sender (prnd_at m T n)) (sym self) ∙ holds.1);
    }

-- The tags from n on that hold ADKD 4.
abbrev ahead : List ℕ → ℕ → ℕ → ℕ → List ℕ
ahead m T n zero = []
ahead m T n (suc j) = cond (eqb (adkd_at m T n) 4) (n ∷ []) [] ++ ahead m T (suc n) j

ahead_more : (m : List ℕ) (T n j : ℕ) → ahead m T n (suc j) ≡ ahead m T n j ++ cond (eqb (adkd_at m T (n + j)) 4) ((n + j) ∷ []) []
ahead_more m T n zero = ap (λ (k : ℕ). cond (eqb (adkd_at m T k) 4) (k ∷ []) [] ++ []) (omega arith) ∙ append-nil _
ahead_more m T n (suc j) =
    let next : suc n + j ≡ n + suc j = omega arith in
    ap (λ (l : List ℕ). cond (eqb (adkd_at m T n) 4) (n ∷ []) [] ++ l) (ahead_more m T (suc n) j)
    ∙ sym (append_assoc (cond (eqb (adkd_at m T n) 4) (n ∷ []) []) (ahead m T (suc n) j) _)
    ∙ ap (λ (k : ℕ). ahead m T n (suc j) ++ cond (eqb (adkd_at m T k) 4) (k ∷ []) []) next

timing_ahead : (m : List ℕ) (T j : ℕ) → timing m T j ≡ ahead m T 1 j
unfolding timing
timing_ahead m T zero = refl
timing_ahead m T (suc j) =
    let next : suc j ≡ 1 + j = omega arith in
    ap (λ (l : List ℕ). l ++ cond (eqb (adkd_at m T (suc j)) 4) (suc j ∷ []) []) (timing_ahead m T j)
    ∙ ap (λ (k : ℕ). ahead m T 1 j ++ cond (eqb (adkd_at m T k) 4) (k ∷ []) []) next ∙ sym (ahead_more m T 1 j)

-- slots without FLX that all fit
slots_ahead : (m : List ℕ) (T sender n : ℕ) (ss : List Slot) → flx n ss ≡ [] → ((i : ℕ) → i < length ss → behind m T sender n ss i ≡ 0)
    → ahead m T n (length ss) ≡ slot_timing n ss
slots_ahead m T sender n [] e h = refl
slots_ahead m T sender n (flex ∷ ss) e h = let z : ◌≡◌ {A = ℕ} 0 1 = cc in absurd (omega arith)
slots_ahead m T sender n (fixed a o ∷ ss) e h =
    let fit : broken (fixed a o) sender (adkd_at m T n) (prnd_at m T n) ≡ 0 =
    ap (λ (k : ℕ). broken (fixed a o) sender (adkd_at m T k) (prnd_at m T k)) (omega arith) ∙ h 0 (omega arith) in
    let same = (fits_fixed a o sender (adkd_at m T n) (prnd_at m T n) fit).0 in
    let rest = slots_ahead m T sender (suc n) ss e
    (λ i l. ap (λ (k : ℕ). broken (get_or ss i flex) sender (adkd_at m T k) (prnd_at m T k)) (omega arith) ∙ h (suc i) (omega (arith, l))) in
    ap (λ (x : ℕ). cond (eqb x 4) (n ∷ []) [] ++ ahead m T (suc n) (length ss)) same
    ∙ ap (λ (l : List ℕ). cond (eqb a 4) (n ∷ []) [] ++ l) rest ∙ go (eqb a 4)
  where
    go : (b : Bool) → cond b (n ∷ []) [] ++ slot_timing (suc n) ss ≡ cond b (n ∷ slot_timing (suc n) ss) (slot_timing (suc n) ss)
    go true = refl
    go false = refl

pub list_is_table : ListIsTable
list_is_table m k T sender id msg z e none =
    let facts = known m k T sender id msg z in
    let same = same_tags m k T sender id msg e in
    let many : nt k T - 1 ≡ length (slots msg (row_of id table)) = omega (arith, same, as_many id msg facts.some) in
    timing_ahead m T (nt k T - 1) ∙ ap (ahead m T 1) many
    ∙ slots_ahead m T sender 1 (slots msg (row_of id table)) none (fitted m k T sender id msg e).each

-- one tag in one of the two messages (`Timing`)
all_one :
    map (λ (r : Row). (length (slot_timing 1 r.message0) + length (slot_timing 1 r.message1)) ∷ []) table ≡ map (λ (r : Row). 1 ∷ []) table
unfolding table
all_one = ap (map (λ (s : TagsOf). (length s.message0 + length s.message1) ∷ [])) table_timing

pub one_of_two : OneOfTwo
one_of_two id ne =
    first_of
    (of_row (λ (r : Row). (length (slot_timing 1 r.message0) + length (slot_timing 1 r.message1)) ∷ []) (λ (r : Row). 1 ∷ []) id table all_one ne)
