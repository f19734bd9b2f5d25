-- The walk over the tags: what each turn needs and leaves.
-- Assumes nothing.
use mathlib.Core.Path.{◌≡◌, refl, sym, ap, ◌∙◌}
use mathlib.Core.Bool.{Bool, true, false, cond}
use mathlib.Core.List.{List, [], ◌∷◌, map}
use Prim.Native.Nat.{ℕ, zero, suc, ◌+◌, ◌-◌, ◌≤◌, ◌<◌}
use native.Mathlib.Nat.{le_of_suc-le-suc, not-suc-le-zero}
use native.Mathlib.Omega.{arith}
use lib.Dec.{eqb}
use lib.ListN.{length, get_or, drop, drop_of_length-le}
use borrow.Author.Tests.{ne_eqb, lt-leb, le-ltb}
use Rattle.std.specs.Prelude.{Option, Some, None}
use Rattle.layouts.specs.Answer.{gives, refusal}
use Rattle.layouts.specs.Mack.{size_checks, mack_checks, nt, tag_checks}
use Rattle.layouts.specs.Maclt.{Slot, flex, Row, table, row_of, slots, entry_checks}
use Rattle.layouts.proofs.Answers.{all_pass, none_fails, went_on}
use Rattle.layouts.proofs.Readers.{first_of, second_of}
use Rattle.layouts.proofs.Layouts.{tags_at_least_four}
use Rattle.layouts.proofs.MacltTable.{filled}
use Rattle.recorder.specs.Slots.{adkd_at, prnd_at, broken, broken_at, walked}
use Rattle.recorder.specs.WalkPromises.{field_number}
use Rattle.recorder.specs.inner.Code.{Readable, Walkable, field_or_0}
use Rattle.recorder.specs.declared.slots.TagField.{TagField}
use Rattle.recorder.specs.declared.slots.TagField.TheVariants.{Adkd, Prnd}

-- An equation of two lists over the rows of the table holds of the row of any ID that is known.
pub of_row : (f g : Row → List ℕ) (k : ℕ) (rs : List Row) → map f rs ≡ map g rs → ((row_of k rs).nt ≡ 0 → ⊥) → f (row_of k rs) ≡ g (row_of k rs)
of_row f g k [] e ne = absurd (ne refl)
of_row f g k (r ∷ rs) e ne = go (eqb k r.id) (of_row f g k rs later) ne
  where
    now : f r ≡ g r
    now = cc

    later : map f rs ≡ map g rs
    later = cc

    go : (b : Bool) → (((row_of k rs).nt ≡ 0 → ⊥) → f (row_of k rs) ≡ g (row_of k rs)) → ((cond b r (row_of k rs)).nt ≡ 0 → ⊥)
        → f (cond b r (row_of k rs)) ≡ g (cond b r (row_of k rs))
    go true ih n = now
    go false ih n = ih n

-- every ID has nt-1 slots in both messages (`Filled`)
pub as_many : (id msg : ℕ) → ((row_of id table).nt ≡ 0 → ⊥) → length (slots msg (row_of id table)) + 1 ≡ (row_of id table).nt
as_many id msg ne = go (eqb msg 0)
  where
    both :
        ◌≡◌ {A = List ℕ} ((length (row_of id table).message0 + 1) ∷ (length (row_of id table).message1 + 1) ∷ [])
        ((row_of id table).nt ∷ (row_of id table).nt ∷ [])
    both =
        of_row (λ (r : Row). (length r.message0 + 1) ∷ (length r.message1 + 1) ∷ []) (λ (r : Row). r.nt ∷ r.nt ∷ []) id table filled ne

    go : (b : Bool) → length (cond b (row_of id table).message0 (row_of id table).message1) + 1 ≡ (row_of id table).nt
    go true = first_of both
    go false = second_of both

-- a message that can be read has four to ten tags
pub tags_known : (m : List ℕ) (k T : ℕ) {q : ℕ} → Readable m k T q → (4 ≤ q) × (q ≤ 10)
tags_known m k T r =
    let sizes = (none_fails (mack_checks m k T) tt r.0).1 in
    let few = tags_at_least_four k T (all_pass (size_checks k T) sizes) in
    (omega (arith, few.0, r.1), omega (arith, few.1, r.1))

-- what is asked of a tag and of its slot
pub tag_readable : (m : List ℕ) (k T : ℕ) {q : ℕ} → Readable m k T q → (n : ℕ) → 1 ≤ n → n < q → refusal (tag_checks m k T n) ≡ 0
tag_readable m k T r n some few =
    let in_row : n < nt k T = omega (arith, r.1) in
    sym (went_on (mack_checks m k T) _ tt refl r.0
    (sym (all_pass _ (ne_eqb n 0 (λ z. absurd (omega (arith, z, some))), (lt-leb (nt k T) n in_row, tt)))))

pub slot_known : (id msg : ℕ) {q : ℕ} → msg ≤ 1 → q ≡ (row_of id table).nt → (n : ℕ) → 1 ≤ n → n < q → refusal (entry_checks id msg n) ≡ 0
slot_known id msg low e n some few =
    let not_None = ne_eqb n 0 (λ z. absurd (omega (arith, z, some))) in
    let has-slots = ne_eqb (row_of id table).nt 0 (λ z. absurd (omega (arith, z, e, few))) in
    all_pass _ (le-ltb 1 msg low, (not_None, (has-slots, (lt-leb (row_of id table).nt n (omega (arith, e, few)), tt))))

pub tag_ready : (m : List ℕ) (k T id msg : ℕ) {q n from : ℕ} → Walkable m k T id msg q → from ≡ n → 1 ≤ n → n < q
    → (refusal (tag_checks m k T from) ≡ 0) × (refusal (entry_checks id msg from) ≡ 0)
tag_ready m k T id msg {n} w e some few = (
  ap (λ (j : ℕ). refusal (tag_checks m k T j)) e ∙ tag_readable m k T w.0 n some few,
  ap (λ (j : ℕ). refusal (entry_checks id msg j)) e ∙ slot_known id msg w.1 w.2 n some few,
)

-- a slot behind others
drop_more : (ss : List Slot) (i : ℕ) → i < length ss → drop i ss ≡ get_or ss i flex ∷ drop (suc i) ss
drop_more [] i l = absurd (not-suc-le-zero l)
drop_more (s ∷ ss) zero l = refl
drop_more (s ∷ ss) (suc i) l = drop_more ss i (le_of_suc-le-suc l)

-- the walk from tag n on, where slot n is one of these
walk_at : (m : List ℕ) (T sender n : ℕ) (ss : List Slot) → 1 ≤ n → n ≤ length ss
    → walked m T sender n (drop (n - 1) ss)
    ≡ cond (eqb (broken (get_or ss (n - 1) flex) sender (adkd_at m T n) (prnd_at m T n)) 0) (walked m T sender (n + 1) (drop n ss))
    (gives (1 ∷ n ∷ broken (get_or ss (n - 1) flex) sender (adkd_at m T n) (prnd_at m T n) ∷ []))
unfolding walked
walk_at m T sender n ss some few =
    let next : suc (n - 1) ≡ n = omega arith in
    let more : suc n ≡ n + 1 = omega arith in
    let b = broken (get_or ss (n - 1) flex) sender (adkd_at m T n) (prnd_at m T n) in
    ap (walked m T sender n) (drop_more ss (n - 1) (omega arith))
    ∙ ap (λ (j : ℕ). cond (eqb b 0) (walked m T sender (suc n) (drop j ss)) (gives (1 ∷ n ∷ b ∷ []))) next
    ∙ ap (λ (j : ℕ). cond (eqb b 0) (walked m T sender j (drop n ss)) (gives (1 ∷ n ∷ b ∷ []))) more

-- The turns of the loop. What is left, walked from tag n on, gives what all gives from tag 1 on.
module _ (m : List ℕ) (T sender id msg : ℕ) where
  abbrev pub Left : ℕ → Type 0
  Left n = walked m T sender n (drop (n - 1) (slots msg (row_of id table))) ≡ walked m T sender 1 (slots msg (row_of id table))

  module _ (n : ℕ) {q : ℕ} (e : q ≡ (row_of id table).nt) (some : 1 ≤ n) (few : n < q) (left : Left n) {from : ℕ} (same : from ≡ n)
      (f : Option TagField) (is : field_or_0 f ≡ broken_at m T sender id msg from) where
    inside : n ≤ length (slots msg (row_of id table))
    inside = let all = as_many id msg (λ z. absurd (omega (arith, z, e, few))) in omega (arith, all, e, few)

    here : cond (eqb (field_or_0 f) 0) (walked m T sender (n + 1) (drop n (slots msg (row_of id table)))) (gives (1 ∷ n ∷ field_or_0 f ∷ []))
        ≡ walked m T sender 1 (slots msg (row_of id table))
    here = rw (is ∙ ap (broken_at m T sender id msg) same) (sym (walk_at m T sender n (slots msg (row_of id table)) some inside) ∙ left)

    pub fits_on : f ≡ None → Left (n + 1)
    fits_on g =
        let h : walked m T sender (n + 1) (drop n (slots msg (row_of id table))) ≡ walked m T sender 1 (slots msg (row_of id table)) = rw g at here in
        let back : n + 1 - 1 ≡ n = omega arith in
        rw back h

    pub breaks_here : (d : TagField) → f ≡ Some d → gives (1 ∷ n ∷ field_number d ∷ []) ≡ walked m T sender 1 (slots msg (row_of id table))
    breaks_here d g = go d (rw g at here)
      where
        go : (d : TagField)
            → cond (eqb (field_number d) 0) (walked m T sender (n + 1) (drop n (slots msg (row_of id table)))) (gives (1 ∷ n ∷ field_number d ∷ []))
            ≡ walked m T sender 1 (slots msg (row_of id table))
            → gives (1 ∷ n ∷ field_number d ∷ []) ≡ walked m T sender 1 (slots msg (row_of id table))
        go Adkd h = h
        go Prnd h = h

  -- behind the last slot: all fit
  pub all_walked : (n : ℕ) {q : ℕ} → q ≡ (row_of id table).nt → 1 ≤ n → n ≡ q → Left n → gives (0 ∷ []) ≡ walked m T sender 1 (slots msg (row_of id table))
  unfolding walked
  all_walked n e some end left =
      let all = as_many id msg (λ z. absurd (omega (arith, z, e, some, end))) in
      let none : drop (n - 1) (slots msg (row_of id table)) ≡ [] = drop_of_length-le (slots msg (row_of id table)) {i = n - 1} (omega (arith, all, e, end)) in
      ap (walked m T sender n) (sym none) ∙ left
