-- One tag at its slot: one law for each `return`.
-- Assumes nothing.
use mathlib.Core.Path.{◌≡◌, refl, sym, ap, ◌∙◌}
use mathlib.Core.Bool.{Bool, true, false, cond, not}
use mathlib.Core.List.{[], ◌∷◌}
use Prim.Native.Nat.{ℕ, ◌≤◌, ◌<◌}
use native.Mathlib.Omega.{arith}
use lib.Dec.{leb, eqb}
use borrow.Author.Tests.{eq-eqb, ne_eqb, lt-leb, le-leb}
use Rattle.layouts.specs.Answer.{gives, refused, refusal, answered}
use Rattle.std.specs.Prelude.{Result, Ok, Err, Option}
use Rattle.std.specs.Result.{IsOk}
use Rattle.layouts.specs.Meaning.{meaning_number, object_number, slot_numbers, meaning_slot}
use Rattle.layouts.specs.Refusals.{refusal_number}
use Rattle.layouts.specs.declared.refusal.Refusal.{Refusal}
use Rattle.layouts.specs.Maclt.{Slot, fixed, flex, numbers, entry, entry_checks}
use Rattle.layouts.specs.declared.tag_info.Adkd.TheVariants.{InavCed, InavTiming, SlowMac, Reserved}
use Rattle.layouts.specs.declared.maclt.AuthObject.{AuthObject}
use Rattle.layouts.specs.declared.maclt.AuthObject.TheVariants.{SelfAuth, CrossAuth}
use Rattle.layouts.specs.declared.maclt.MacLTSlot.{MacLTSlot}
use Rattle.layouts.specs.declared.maclt.MacLTSlot.TheVariants.{Fixed, Flex}
use Rattle.layouts.specs.declared.tag_info.Adkd.{Adkd}
use Rattle.recorder.specs.Slots.{prnd_fits, slot_at, broken}
use Rattle.recorder.specs.inner.Code.{adkd_number, slot_of, field_or_0}
use Rattle.recorder.specs.declared.slots.TagField.{TagField}
use Rattle.layouts.proofs.Given.{not_refused, given_is}

-- A number that is not refused: its value.
pub value_of : (q w : ℕ) {x : Result ℕ Refusal} {v : ℕ} → q ≡ 0 → meaning_number x ≡ answered q (gives (w ∷ [])) → x ≡ Ok v → v ≡ w
unfolding answered
value_of q w {x} {v} z e g =
    let f : gives (v ∷ []) ≡ answered q (gives (w ∷ [])) = rw g at e in
    let h : gives (v ∷ []) ≡ gives (w ∷ []) = rw z at f in
    cc

pub value_none : (q w : ℕ) {x : Result ℕ Refusal} {n : Refusal} {r : ℕ} → q ≡ 0 → meaning_number x ≡ answered q (gives (w ∷ [])) → x ≡ Err n → r ≡ w
unfolding answered
value_none q w {x} {n} {r} z e g =
    let f : refused (refusal_number n) ≡ answered q (gives (w ∷ [])) = rw g at e in
    let h : refused (refusal_number n) ≡ gives (w ∷ []) = rw z at f in
    let y : ◌≡◌ {A = ℕ} 0 1 = cc in
    absurd (omega arith)

-- PRND against the object.
pub self_timing : {o : AuthObject} {a : ℕ} (s p : ℕ) → o ≡ SelfAuth → a ≡ 4 → eqb p 255 ≡ prnd_fits a (object_number o) s p
unfolding prnd_fits
self_timing s p eo ea = rw (eo, ea)

pub self_other : {o : AuthObject} (a s p : ℕ) → o ≡ SelfAuth → (a ≡ 4 → ⊥) → eqb p s ≡ prnd_fits a (object_number o) s p
unfolding prnd_fits
self_other a s p eo ne = rw (eo, ne_eqb a 4 ne)

pub cross_low : {o : AuthObject} (a s p : ℕ) → o ≡ CrossAuth → p < 1 → false ≡ prnd_fits a (object_number o) s p
unfolding prnd_fits
cross_low a s p eo l = rw (eo, lt-leb 1 p l)

pub cross_some : {o : AuthObject} (a s p : ℕ) → o ≡ CrossAuth → 1 ≤ p → leb p 36 ≡ prnd_fits a (object_number o) s p
unfolding prnd_fits
cross_some a s p eo l = rw (eo, le-leb 1 p l)

pub cross_above : {o : AuthObject} (a s p : ℕ) → o ≡ CrossAuth → 1 ≤ p → 36 < p → false ≡ prnd_fits a (object_number o) s p
unfolding prnd_fits
cross_above a s p eo l h = rw (eo, le-leb 1 p l, lt-leb p 36 h)

pub cross_within : {o : AuthObject} (a s p : ℕ) → o ≡ CrossAuth → 1 ≤ p → p ≤ 36 → true ≡ prnd_fits a (object_number o) s p
unfolding prnd_fits
cross_within a s p eo l h = rw (eo, le-leb 1 p l, le-leb p 36 h)

-- A tag at a slot.
pub flex_fits : {x : MacLTSlot} (s a p : ℕ) → x ≡ Flex → 0 ≡ broken (slot_of x) s a p
unfolding broken
flex_fits s a p e = rw e

module _ {x : MacLTSlot} {d : Adkd} {o : AuthObject} {asked : ℕ} (s a p : ℕ) (e : x ≡ Fixed d o) (n : asked ≡ adkd_number d) where
  at_slot : broken (slot_of x) s a p ≡ cond (eqb a asked) (cond (prnd_fits asked (object_number o) s p) 0 2) 1
  unfolding broken
  at_slot = rw (e, n)

  pub adkd_breaks : (a ≡ asked → ⊥) → 1 ≡ broken (slot_of x) s a p
  adkd_breaks ne = sym (at_slot ∙ rw (ne_eqb a asked ne))

  module _ {b : Bool} (same : a ≡ asked) (h : b ≡ prnd_fits asked (object_number o) s p) where
    by_prnd : broken (slot_of x) s a p ≡ cond b 0 2
    by_prnd = at_slot ∙ rw (eq-eqb a asked same, ← h)

    pub prnd_breaks : not b ≡ true → 2 ≡ broken (slot_of x) s a p
    prnd_breaks z = sym (by_prnd ∙ go b z)
      where
        go : (c : Bool) → not c ≡ true → ◌≡◌ {A = ℕ} (cond c 0 2) 2
        go true y = let z : ◌≡◌ {A = ℕ} 0 1 = cc in absurd (omega arith)
        go false y = refl

    pub both_fit : not b ≡ false → 0 ≡ broken (slot_of x) s a p
    both_fit z = sym (by_prnd ∙ go b z)
      where
        go : (c : Bool) → not c ≡ false → ◌≡◌ {A = ℕ} (cond c 0 2) 0
        go true y = refl
        go false y = let z : ◌≡◌ {A = ℕ} 0 1 = cc in absurd (omega arith)

-- The slot that the look-up table's reader gives is the paper's.
slot_same : (s : MacLTSlot) (t : Slot) → slot_numbers s ≡ numbers t → slot_of s ≡ t
slot_same Flex flex e = refl
slot_same Flex (fixed a o) e = let z : ◌≡◌ {A = ℕ} 0 1 = cc in absurd (omega arith)
slot_same (Fixed InavCed o) (fixed a q) e = let x : 0 ≡ a = cc in let y : object_number o ≡ q = cc in rw (← x, ← y)
slot_same (Fixed InavTiming o) (fixed a q) e = let x : 4 ≡ a = cc in let y : object_number o ≡ q = cc in rw (← x, ← y)
slot_same (Fixed SlowMac o) (fixed a q) e = let x : 12 ≡ a = cc in let y : object_number o ≡ q = cc in rw (← x, ← y)
slot_same (Fixed Reserved o) (fixed a q) e = let z : ◌≡◌ {A = ℕ} 0 1 = cc in absurd (omega arith)
slot_same (Fixed InavCed o) flex e = let z : ◌≡◌ {A = ℕ} 0 1 = cc in absurd (omega arith)
slot_same (Fixed InavTiming o) flex e = let z : ◌≡◌ {A = ℕ} 0 1 = cc in absurd (omega arith)
slot_same (Fixed SlowMac o) flex e = let z : ◌≡◌ {A = ℕ} 0 1 = cc in absurd (omega arith)
slot_same (Fixed Reserved o) flex e = let z : ◌≡◌ {A = ℕ} 0 1 = cc in absurd (omega arith)

-- What is read of a tag and of its slot, where nothing is refused.
pub number_ok : (q w : ℕ) → q ≡ 0 → (r : Result ℕ Refusal) → meaning_number r ≡ answered q (gives (w ∷ [])) → IsOk r
number_ok q w z r e = not_refused (λ (v : ℕ). v ∷ []) q (w ∷ []) r z e

module _ (id msg n : ℕ) (x : Result MacLTSlot Refusal) (e : meaning_slot x ≡ entry id msg n) where
  pub slot_ok : refusal (entry_checks id msg n) ≡ 0 → IsOk x
  unfolding entry
  slot_ok z = not_refused slot_numbers (refusal (entry_checks id msg n)) (numbers (slot_at id msg n)) x z e

  pub slot_given : {s : MacLTSlot} → x ≡ Ok s → slot_of s ≡ slot_at id msg n
  unfolding entry
  slot_given {s} g = slot_same s (slot_at id msg n) (given_is slot_numbers (refusal (entry_checks id msg n)) (numbers (slot_at id msg n)) x e g)

  pub tag_fits : {s : MacLTSlot} {from sender a p a' p' : ℕ} (f : Option TagField) → x ≡ Ok s → from ≡ sender → a ≡ a' → p ≡ p'
      → field_or_0 f ≡ broken (slot_of s) from a p → field_or_0 f ≡ broken (slot_at id msg n) sender a' p'
  tag_fits {from} {a} {p} f g es ea ep h = h ∙ ap (λ (t : Slot). broken t from a p) (slot_given g) ∙ rw (es, ea, ep)
