-- What the verdict says of the tags.
-- Assumes nothing.
use mathlib.Core.Path.{◌≡◌, refl, sym, ap, ◌∙◌, subst}
use mathlib.Core.Bool.{Bool, true, false, cond}
use mathlib.Core.List.{List, [], ◌∷◌}
use mathlib.Core.Logic.{◌⊎◌, inl, inr, ⊎_elim}
use Prim.Native.Nat.{ℕ, zero, suc, ◌+◌, ◌-◌, ◌≤◌, ◌<◌}
use native.Mathlib.Nat.{le_of_suc-le-suc, not-suc-le-zero}
use native.Mathlib.Omega.{arith}
use lib.Dec.{eqb, eqb-suc-zero, ltb}
use lib.ListN.{length, get_or}
use borrow.Author.Tests.{eq-eqb, ne_eqb, eqb-true, ltb-true, ltb-false}
use Rattle.layouts.specs.Answer.{Answer, gives}
use Rattle.layouts.specs.Mack.{nt}
use Rattle.layouts.specs.Maclt.{Slot, fixed, flex, table, row_of, slots}
use Rattle.recorder.specs.Slots.{adkd_at, prnd_at, prnd_fits, broken, broken_at, walked, judged}
use Rattle.recorder.specs.SlotsHold.{FitBelow, FirstBroken, SlotsJudged, FirstBreaks, TagsCompared}
use Rattle.recorder.proofs.WalkTags.{as_many}

-- what breaks the slot of the tag that is i behind tag n
abbrev pub behind : List ℕ → ℕ → ℕ → ℕ → List Slot → ℕ → ℕ
behind m T sender n ss i = broken (get_or ss i flex) sender (adkd_at m T (n + i)) (prnd_at m T (n + i))

-- The walk from tag n on: all fit, or the one that is i behind is the first that does not.
record Broke (m : List ℕ) (T sender n : ℕ) (ss : List Slot) : Type 0 where
  i : ℕ
  inside : i < length ss
  is : walked m T sender n ss ≡ gives (1 ∷ (n + i) ∷ behind m T sender n ss i ∷ [])
  some : behind m T sender n ss i ≡ 0 → ⊥
  before : (j : ℕ) → j < i → behind m T sender n ss j ≡ 0

pub record Fitted (m : List ℕ) (T sender n : ℕ) (ss : List Slot) : Type 0 where
  pub is : walked m T sender n ss ≡ gives (0 ∷ [])
  pub each : (j : ℕ) → j < length ss → behind m T sender n ss j ≡ 0

-- one tag later
later : (m : List ℕ) (T sender n i : ℕ) (s : Slot) (ss : List Slot) → behind m T sender (suc n) ss i ≡ behind m T sender n (s ∷ ss) (suc i)
later m T sender n i s ss = ap (λ (k : ℕ). broken (get_or ss i flex) sender (adkd_at m T k) (prnd_at m T k)) (omega arith)

here : (m : List ℕ) (T sender n : ℕ) (s : Slot) (ss : List Slot) → behind m T sender n (s ∷ ss) 0 ≡ broken s sender (adkd_at m T n) (prnd_at m T n)
here m T sender n s ss = ap (λ (k : ℕ). broken s sender (adkd_at m T k) (prnd_at m T k)) (omega arith)

in_front : (m : List ℕ) (T sender n : ℕ) (s : Slot) (ss : List Slot) (many : ℕ) → broken s sender (adkd_at m T n) (prnd_at m T n) ≡ 0
    → ((i : ℕ) → i < many → behind m T sender (suc n) ss i ≡ 0) → (i : ℕ) → i < suc many → behind m T sender n (s ∷ ss) i ≡ 0
in_front m T sender n s ss many b h zero l = here m T sender n s ss ∙ b
in_front m T sender n s ss many b h (suc i) l = sym (later m T sender n i s ss) ∙ h i (le_of_suc-le-suc l)

outcome : (m : List ℕ) (T sender n : ℕ) (ss : List Slot) → Fitted m T sender n ss ⊎ Broke m T sender n ss
unfolding walked
outcome m T sender n [] = inl (record { is = refl; each = λ j l. absurd (not-suc-le-zero l) })
outcome m T sender n (s ∷ ss) = go (broken s sender (adkd_at m T n) (prnd_at m T n)) refl (outcome m T sender (suc n) ss)
  where
    w : ℕ → Answer
    w b = cond (eqb b 0) (walked m T sender (suc n) ss) (gives (1 ∷ n ∷ b ∷ []))

    go : (b : ℕ) → broken s sender (adkd_at m T n) (prnd_at m T n) ≡ b → Fitted m T sender (suc n) ss ⊎ Broke m T sender (suc n) ss
        → Fitted m T sender n (s ∷ ss) ⊎ Broke m T sender n (s ∷ ss)
    go zero e (inl f) = inl (record { is = ap w e ∙ f.is; each = in_front m T sender n s ss (length ss) e f.each })
    go zero e (inr b) =
        inr (record {
          i = suc b.i;
          inside = omega (arith, b.inside);
          is =
              ap w e ∙ b.is ∙ ap (λ (k : ℕ). gives (1 ∷ k ∷ behind m T sender (suc n) ss b.i ∷ [])) (omega arith)
              ∙ ap (λ (f : ℕ). gives (1 ∷ (n + suc b.i) ∷ f ∷ [])) (later m T sender n b.i s ss);
          some = λ z. b.some (later m T sender n b.i s ss ∙ z);
          before = in_front m T sender n s ss b.i e b.before;
        })
    go (suc q) e x =
        inr (record {
          i = 0;
          inside = omega arith;
          is =
              ap w e ∙ ap (λ (x : Bool). cond x (walked m T sender (suc n) ss) (gives (1 ∷ n ∷ suc q ∷ []))) (eqb-suc-zero q)
              ∙ ap (λ (k : ℕ). gives (1 ∷ k ∷ suc q ∷ [])) (omega arith)
              ∙ ap (λ (f : ℕ). gives (1 ∷ (n + 0) ∷ f ∷ [])) (sym (here m T sender n s ss ∙ e));
          some = λ z. absurd (omega (arith, sym (here m T sender n s ss ∙ e) ∙ z));
          before = λ j l. absurd (not-suc-le-zero l);
        })

-- a slot is broken in ADKD or in PRND
which : (s : Slot) (sender a p : ℕ) → (broken s sender a p ≡ 0 → ⊥) → (broken s sender a p ≡ 1) ⊎ (broken s sender a p ≡ 2)
unfolding broken
which flex sender a p ne = absurd (ne refl)
which (fixed x o) sender a p ne = go (eqb a x) (prnd_fits x o sender p) ne
  where
    number : Bool → Bool → ℕ
    number same fits = cond same (cond fits 0 2) 1

    go : (same fits : Bool) → (number same fits ≡ 0 → ⊥) → (number same fits ≡ 1) ⊎ (number same fits ≡ 2)
    go true true n = absurd (n refl)
    go true false n = inr refl
    go false fits n = inl refl

-- Of an ID: tag n is n - 1 behind tag 1.
module _ (m : List ℕ) (T sender id msg : ℕ) where
  abbrev ss : List Slot
  ss = slots msg (row_of id table)

  to_tag : (i : ℕ) → behind m T sender 1 ss i ≡ broken_at m T sender id msg (1 + i)
  to_tag i = ap (λ (k : ℕ). broken (get_or ss k flex) sender (adkd_at m T (1 + i)) (prnd_at m T (1 + i))) (omega arith)

  of_tag : (n : ℕ) → 1 ≤ n → broken_at m T sender id msg n ≡ behind m T sender 1 ss (n - 1)
  of_tag n some = ap (λ (k : ℕ). broken (get_or ss (n - 1) flex) sender (adkd_at m T k) (prnd_at m T k)) (omega arith)

module _ (m : List ℕ) (k T sender id msg : ℕ) (known : (row_of id table).nt ≡ 0 → ⊥) (same : (row_of id table).nt ≡ nt k T) where
  abbrev tags : List Slot
  tags = slots msg (row_of id table)

  many : length tags + 1 ≡ (row_of id table).nt
  many = as_many id msg known

  is_walk : judged m k T sender id msg ≡ walked m T sender 1 tags
  unfolding judged
  is_walk = rw (eq-eqb (row_of id table).nt (nt k T) same)

  -- what either outcome says
  fit_all : Fitted m T sender 1 tags → FitBelow m T sender id msg (nt k T)
  fit_all f i some few = of_tag m T sender id msg i some ∙ f.each (i - 1) (omega (arith, some, few, many, same))

  broke_first : (b : Broke m T sender 1 tags) → FirstBroken m T sender id msg (1 + b.i) (behind m T sender 1 tags b.i)
  broke_first b =
      record {
        some = omega arith;
        few = omega (arith, b.inside, many);
        breaks = sym (to_tag m T sender id msg b.i);
        field_is = which (get_or tags b.i flex) sender (adkd_at m T (1 + b.i)) (prnd_at m T (1 + b.i)) b.some;
        before = λ i some few. of_tag m T sender id msg i some ∙ b.before (i - 1) (omega (arith, some, few));
      }

  -- a broken tag is not fitted
  not_fitted : (tag field : ℕ) → FirstBroken m T sender id msg tag field → broken_at m T sender id msg tag ≡ 0 → ⊥
  not_fitted tag field f z = ⊎_elim (λ e. absurd (omega (arith, e, z, f.breaks))) (λ e. absurd (omega (arith, e, z, f.breaks))) f.field_is

  -- the first is one alone
  one_first : (b : Broke m T sender 1 tags) (tag field : ℕ) → FirstBroken m T sender id msg tag field → 1 + b.i ≡ tag
  one_first b tag field f = go (ltb (1 + b.i) tag) refl (ltb tag (1 + b.i)) refl
    where
      go : (x : Bool) → ltb (1 + b.i) tag ≡ x → (y : Bool) → ltb tag (1 + b.i) ≡ y → 1 + b.i ≡ tag
      go true ex y ey =
          absurd (b.some (to_tag m T sender id msg b.i ∙ f.before (1 + b.i) (omega arith) (ltb-true (1 + b.i) tag ex)))
      go false ex true ey =
          let l : tag < 1 + b.i = ltb-true tag (1 + b.i) ey in
          absurd (not_fitted tag field f (of_tag m T sender id msg tag f.some ∙ b.before (tag - 1) (omega (arith, l, f.some))))
      go false ex false ey = omega (arith, ltb-false (1 + b.i) tag ex, ltb-false tag (1 + b.i) ey)

  all_fit_then : judged m k T sender id msg ≡ gives (0 ∷ []) → FitBelow m T sender id msg (nt k T)
  all_fit_then e =
      ⊎_elim fit_all (λ b. let f = sym b.is ∙ sym is_walk ∙ e in let z : ◌≡◌ {A = ℕ} 0 1 = cc in absurd (omega arith)) (outcome m T sender 1 tags)

  all_fit_if : FitBelow m T sender id msg (nt k T) → judged m k T sender id msg ≡ gives (0 ∷ [])
  all_fit_if h =
      ⊎_elim (λ f. is_walk ∙ f.is)
      (λ b. absurd (b.some (to_tag m T sender id msg b.i ∙ h (1 + b.i) (omega arith) (omega (arith, b.inside, many, same)))))
      (outcome m T sender 1 tags)

  first_then : (tag field : ℕ) → judged m k T sender id msg ≡ gives (1 ∷ tag ∷ field ∷ []) → FirstBroken m T sender id msg tag field
  first_then tag field e = go (outcome m T sender 1 tags)
    where
      go : Fitted m T sender 1 tags ⊎ Broke m T sender 1 tags → FirstBroken m T sender id msg tag field
      go (inl f) = let g = sym f.is ∙ sym is_walk ∙ e in let z : ◌≡◌ {A = ℕ} 0 1 = cc in absurd (omega arith)
      go (inr b) =
          let g : gives (1 ∷ (1 + b.i) ∷ behind m T sender 1 tags b.i ∷ []) ≡ gives (1 ∷ tag ∷ field ∷ []) = sym b.is ∙ sym is_walk ∙ e in
          let x : 1 + b.i ≡ tag = cc in
          let y : behind m T sender 1 tags b.i ≡ field = cc in
          subst (λ (n : ℕ). FirstBroken m T sender id msg n field) x
          (subst (λ (f : ℕ). FirstBroken m T sender id msg (1 + b.i) f) y (broke_first b))

  first_if : (tag field : ℕ) → FirstBroken m T sender id msg tag field → judged m k T sender id msg ≡ gives (1 ∷ tag ∷ field ∷ [])
  first_if tag field f = go (outcome m T sender 1 tags)
    where
      go : Fitted m T sender 1 tags ⊎ Broke m T sender 1 tags → judged m k T sender id msg ≡ gives (1 ∷ tag ∷ field ∷ [])
      go (inl g) = absurd (not_fitted tag field f (fit_all g tag f.some (omega (arith, f.few, same))))
      go (inr b) =
          let x = one_first b tag field f in
          let y : behind m T sender 1 tags b.i ≡ field =
          to_tag m T sender id msg b.i ∙ ap (broken_at m T sender id msg) x ∙ f.breaks in
          is_walk ∙ b.is ∙ ap (λ (n : ℕ). gives (1 ∷ n ∷ behind m T sender 1 tags b.i ∷ [])) x ∙ ap (λ (q : ℕ). gives (1 ∷ tag ∷ q ∷ [])) y

  slots_judged : SlotsJudged m k T sender id msg
  slots_judged =
      record {
        first_breaks = λ tag field. (first_then tag field, first_if tag field);
        fits_all = (all_fit_then, all_fit_if);
        nothing_else =
            ⊎_elim (λ f. inl (is_walk ∙ f.is)) (λ b. inr (1 + b.i, behind m T sender 1 tags b.i, is_walk ∙ b.is)) (outcome m T sender 1 tags);
      }

pub first_breaks : FirstBreaks
first_breaks m k T sender id msg known same = slots_judged m k T sender id msg known same

pub tags_compared : TagsCompared
unfolding judged
tags_compared m k T sender id msg ne = rw (ne_eqb (row_of id table).nt (nt k T) ne)

-- Where all fit, table and message have as many tags, and each tag fits.
pub same_tags : (m : List ℕ) (k T sender id msg : ℕ) → judged m k T sender id msg ≡ gives (0 ∷ []) → (row_of id table).nt ≡ nt k T
unfolding judged
same_tags m k T sender id msg e = go (eqb (row_of id table).nt (nt k T)) refl e
  where
    go : (b : Bool) → eqb (row_of id table).nt (nt k T) ≡ b
        → cond b (walked m T sender 1 (slots msg (row_of id table))) (gives (2 ∷ (row_of id table).nt ∷ nt k T ∷ [])) ≡ gives (0 ∷ [])
        → (row_of id table).nt ≡ nt k T
    go true h f = eqb-true (row_of id table).nt (nt k T) h
    go false h f = let z : ◌≡◌ {A = ℕ} 0 1 = cc in absurd (omega arith)

pub fitted : (m : List ℕ) (k T sender id msg : ℕ) → judged m k T sender id msg ≡ gives (0 ∷ []) → Fitted m T sender 1 (slots msg (row_of id table))
unfolding judged
fitted m k T sender id msg e = go (outcome m T sender 1 (slots msg (row_of id table)))
  where
    is : walked m T sender 1 (slots msg (row_of id table)) ≡ gives (0 ∷ [])
    is =
        sym (ap (λ (b : Bool). cond b (walked m T sender 1 (slots msg (row_of id table))) (gives (2 ∷ (row_of id table).nt ∷ nt k T ∷ [])))
        (eq-eqb (row_of id table).nt (nt k T) (same_tags m k T sender id msg e)))
        ∙ e

    go : Fitted m T sender 1 (slots msg (row_of id table)) ⊎ Broke m T sender 1 (slots msg (row_of id table))
        → Fitted m T sender 1 (slots msg (row_of id table))
    go (inl f) = f
    go (inr b) = let g = sym b.is ∙ is in let z : ◌≡◌ {A = ℕ} 0 1 = cc in absurd (omega arith)
