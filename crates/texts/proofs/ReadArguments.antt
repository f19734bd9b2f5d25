-- What is answered to the arguments of a page replay.
-- Assumes nothing.
use mathlib.Core.Path.{◌≡◌, refl, sym, ap, ◌∙◌}
use mathlib.Core.List.{List, [], ◌∷◌, ◌++◌}
use mathlib.Core.Bool.{Bool, true, false, not}
use Prim.Native.Nat.{ℕ, zero, suc, ◌-◌, ◌+◌, ◌*◌, ◌≤◌, ◌<◌, min}
use native.Mathlib.Omega.{arith}
use lib.ListN.{length, get_or, take}
use lib.Seq.{take_all}
use lib.Dec.{ltb, eqb, eqb-suc-zero}
use borrow.Author.Tests.{ltb-true, ltb-false, lt-ltb, le-ltb, eq-eqb, ne_eqb, eqb-true, eqb-false}
use Rattle.layouts.specs.Answer.{Answer, refused, gives, Check, ◌when◌, refusal, answered}
use Rattle.layouts.specs.Gst.{svn_gst_checks}
use Rattle.layouts.specs.Refusals.{refusal_number}
use Rattle.layouts.specs.declared.refusal.Refusal.{Refusal}
use Rattle.layouts.proofs.Answers.{stop, pass, done, by_value, none_fails, refused_too, passed}
use Rattle.layouts.proofs.Answers.{answer_of as same_values}
use Rattle.layouts.proofs.Refused.{err_answer, ok_answer}
use Rattle.texts.specs.Decimal.{is_digit, digits_only, is_decimal, number, most}
use Rattle.texts.specs.Arguments.{text_checks}
use Rattle.texts.proofs.Decimals.{none_given, not_digit, all_digits, number_more}

-- one argument by itself: what is checked, and what is answered
abbrev pub decimal_checks : List ℕ → List Check
decimal_checks s = 7 when not (is_decimal s) ∷ []

abbrev pub decimal_answer : List ℕ → Answer
decimal_answer s = answered (refusal (decimal_checks s)) (gives (min (number s) most ∷ []))

module _ (s : List ℕ) {b : Bool} where
  pub none_refused : b ≡ eqb (length s) 0 → b ≡ true → refused 7 ≡ decimal_answer s
  none_refused e t = stop 7 (not (is_decimal s)) [] _ tt (ap not (sym (none_given s (eqb-true (length s) 0 (sym e ∙ t)))))

  pub digit_refused : (i : ℕ) → i < length s → b ≡ is_digit (get_or s i 0) → not b ≡ true → refused 7 ≡ decimal_answer s
  digit_refused i h e t = stop 7 (not (is_decimal s)) [] _ tt (ap not (sym (not_digit s i h e t)))

  pub decimal_given : (i : ℕ) {n : ℕ} → b ≡ eqb (length s) 0 → b ≡ false → length s ≤ i → digits_only (take i s) ≡ true
      → n ≡ min (number (take i s)) most → gives (n ∷ []) ≡ decimal_answer s
  decimal_given i e f h d v =
      let a = all_digits s i (eqb-false (length s) 0 (sym e ∙ f)) h d in
      pass 7 (not (is_decimal s)) [] _ (ap not (sym a)) (done _ (by_value (v ∙ ap (λ (l : List ℕ). min (number l) most) (take_all i s h))))

-- a turn of the loop that reads
pub value_more :
    (s : List ℕ) (i : ℕ) {n m d r : ℕ} → i < length s → n ≡ min (number (take i s)) most → m ≡ min (n * 10) most → d ≡ get_or s i 0 - 48
    → r ≡ min (m + d) most → r ≡ min (number (take (i + 1) s)) most
value_more s i {n} {m} {d} {r} h e f g k = number_more s i h e refl (added n m d r (get_or s i 0) f g k)
  where
    added : (n m d r c : ℕ) → m ≡ min (n * 10) most → d ≡ c - 48 → r ≡ min (m + d) most → r ≡ min (n * 10 + (c - 48)) most
    added n m d r c f g k = omega arith

-- the three together: 7 first
pub other_many : (many : ℕ) (s w t : List ℕ) (ds : List Check) (a : Answer) → (many ≡ 3 → ⊥) → refused 7 ≡ answered (refusal (text_checks many s w t ++ ds)) a
other_many many s w t ds a n = stop 7 _ _ a tt (ap not (ne_eqb many 3 n))

module _ (many : ℕ) (s w t : List ℕ) (ds : List Check) (a : Answer) (n : many ≡ 3) where
  three : {r : Answer} → r ≡ answered (refusal (decimal_checks s ++ (decimal_checks w ++ (decimal_checks t ++ ds)))) a
      → r ≡ answered (refusal (text_checks many s w t ++ ds)) a
  three h = pass 7 _ _ a (ap not (eq-eqb many 3 n)) h

  pub first_refused : {k : ℕ} → refused k ≡ decimal_answer s → refused k ≡ answered (refusal (text_checks many s w t ++ ds)) a
  first_refused e = three (refused_too (decimal_checks s) (decimal_checks w ++ (decimal_checks t ++ ds)) _ a e)

  module _ {u : ℕ} (p : gives (u ∷ []) ≡ decimal_answer s) where
    pub second_refused : {k : ℕ} → refused k ≡ decimal_answer w → refused k ≡ answered (refusal (text_checks many s w t ++ ds)) a
    second_refused e =
        three (passed (decimal_checks s) (decimal_checks w ++ (decimal_checks t ++ ds)) _ a tt p (refused_too (decimal_checks w) (decimal_checks t ++ ds) _ a e))

    module _ {v : ℕ} (q : gives (v ∷ []) ≡ decimal_answer w) where
      behind : {r : Answer} → r ≡ answered (refusal (decimal_checks t ++ ds)) a → r ≡ answered (refusal (text_checks many s w t ++ ds)) a
      behind h =
          three
          (passed (decimal_checks s) (decimal_checks w ++ (decimal_checks t ++ ds)) _ a tt p (passed (decimal_checks w) (decimal_checks t ++ ds) _ a tt q h))

      pub third_refused : {k : ℕ} → refused k ≡ decimal_answer t → refused k ≡ answered (refusal (text_checks many s w t ++ ds)) a
      third_refused e = behind (refused_too (decimal_checks t) ds _ a e)

      all_decimal : {k : ℕ} {r : Answer} → gives (k ∷ []) ≡ decimal_answer t → r ≡ answered (refusal ds) a
          → r ≡ answered (refusal (text_checks many s w t ++ ds)) a
      all_decimal o h = behind (passed (decimal_checks t) ds _ a tt o h)

-- what the checks of the three numbers tell
pub in_range : (x y z : ℕ) → 0 ≡ refusal (svn_gst_checks x y z) → (x ≤ 36) × (y ≤ 4095) × (z ≤ 604799)
in_range x y z e =
    let p = none_fails (svn_gst_checks x y z) tt (sym e) in
    (ltb-false 36 x p.1.0, ltb-false 4095 y p.1.1.0, ltb-false 604799 z p.1.1.1.0)

-- A number that is capped is out of a range where the number is, and in it the same.
over : (b x u : ℕ) → b < most → u ≡ min x most → ltb b u ≡ ltb b x
over b x u h e = go (ltb b x) refl
  where
    go : (t : Bool) → ltb b x ≡ t → ltb b u ≡ t
    go true f = let g = ltb-true b x f in lt-ltb b u (omega arith)
    go false f = let g = ltb-false b x f in le-ltb b u (omega arith)

under : (b x u : ℕ) → b < most → u ≡ min x most → ltb u b ≡ ltb x b
under b x u h e = go (ltb x b) refl
  where
    go : (t : Bool) → ltb x b ≡ t → ltb u b ≡ t
    go true f = let g = ltb-true x b f in lt-ltb u b (omega arith)
    go false f = let g = ltb-false x b f in le-ltb u b (omega arith)

same_ranges : (x y z u v w : ℕ) → u ≡ min x most → v ≡ min y most → w ≡ min z most → svn_gst_checks u v w ≡ svn_gst_checks x y z
same_ranges x y z u v w e f g = rw (under 1 x u (omega arith) e, over 36 x u (omega arith) e, over 4095 y v (omega arith) f, over 604799 z w (omega arith) g)

in_ranges :
    (x y z u v w : ℕ) → u ≡ min x most → v ≡ min y most → w ≡ min z most → refusal (svn_gst_checks x y z) ≡ 0
    → gives (u ∷ v ∷ w ∷ []) ≡ gives (x ∷ y ∷ z ∷ [])
in_ranges x y z u v w e f g r =
    let p = none_fails (svn_gst_checks x y z) tt r in
    let a = ltb-false 36 x p.1.0 in
    let b = ltb-false 4095 y p.1.1.0 in
    let c = ltb-false 604799 z p.1.1.1.0 in
    let i : u ≡ x = omega arith in
    let j : v ≡ y = omega arith in
    let k : w ≡ z = omega arith in
    rw (i, j, k)

same_answer : (q : ℕ) (a b : Answer) → (q ≡ 0 → a ≡ b) → answered q a ≡ answered q b
unfolding answered
same_answer zero a b f = f refl
same_answer (suc q) a b f = rw eqb-suc-zero

pub uncapped :
    (x y z : ℕ) {u v w : ℕ} {r : Answer} → u ≡ min x most → v ≡ min y most → w ≡ min z most
    → r ≡ answered (refusal (svn_gst_checks u v w)) (gives (u ∷ v ∷ w ∷ []))
    → r ≡ answered (refusal (svn_gst_checks x y z)) (gives (x ∷ y ∷ z ∷ []))
uncapped x y z {u} {v} {w} e f g h =
    h
    ∙ ap (λ (cs : List Check). answered (refusal cs) (gives (u ∷ v ∷ w ∷ []))) (same_ranges x y z u v w e f g)
    ∙ same_answer (refusal (svn_gst_checks x y z)) (gives (u ∷ v ∷ w ∷ [])) (gives (x ∷ y ∷ z ∷ [])) (in_ranges x y z u v w e f g)

-- the number that one argument gives
given : (s : List ℕ) {u : ℕ} → gives (u ∷ []) ≡ decimal_answer s → u ≡ min (number s) most
given s e = ap (λ (l : List ℕ). get_or l 0 0) (same_values _ _ e)

module _
    (many : ℕ) (s w t : List ℕ) (n : many ≡ 3) {u v k : ℕ} (p : gives (u ∷ []) ≡ decimal_answer s) (q : gives (v ∷ []) ≡ decimal_answer w)
    (o : gives (k ∷ []) ≡ decimal_answer t) where
  all_given : {r : Answer} → r ≡ answered (refusal (svn_gst_checks u v k)) (gives (u ∷ v ∷ k ∷ []))
      → r ≡ answered (refusal (text_checks many s w t ++ svn_gst_checks (number s) (number w) (number t))) (gives (number s ∷ number w ∷ number t ∷ []))
  all_given h =
      all_decimal many s w t (svn_gst_checks (number s) (number w) (number t)) (gives (number s ∷ number w ∷ number t ∷ [])) n p q o
      (uncapped (number s) (number w) (number t) (given s p) (given w q) (given t o) h)

  pub range_refused : (e : Refusal) → refusal_number e ≡ refusal (svn_gst_checks u v k)
      → refused (refusal_number e)
      ≡ answered (refusal (text_checks many s w t ++ svn_gst_checks (number s) (number w) (number t))) (gives (number s ∷ number w ∷ number t ∷ []))
  range_refused e h = all_given (err_answer _ _ e h)

  pub range_given : 0 ≡ refusal (svn_gst_checks u v k)
      → gives (u ∷ v ∷ k ∷ [])
      ≡ answered (refusal (text_checks many s w t ++ svn_gst_checks (number s) (number w) (number t))) (gives (number s ∷ number w ∷ number t ∷ []))
  range_given h = all_given (ok_answer _ _ h refl)
