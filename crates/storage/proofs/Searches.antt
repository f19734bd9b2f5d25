-- A test of every number, and the first number that passes one.
-- Assumes nothing.
use Prim.Native.Nat.{ℕ, zero, suc, ◌+◌, ◌≤◌, ◌<◌}
use native.Mathlib.Nat.{add-zero, zero-add}
use native.Mathlib.Numerals.{add-one}
use native.Mathlib.Omega.{arith}
use mathlib.Core.Path.{◌≡◌, refl, sym, ap, ◌∙◌}
use mathlib.Core.Bool.{Bool, true, false, cond, ◌&&◌}
use lib.Dec.{eqb}
use borrow.Author.Tests.{eqb-true, eqb-false}
use mathlib.Core.List.{List}
use lib.ListN.{length, get_or, take}
use Rattle.std.specs.List.{fold, list_all, range_with_len, position_or_len}
use Rattle.std.proofs.lemmas.List.Sums.{fold_more, position_or_len_is}
use Rattle.storage.proofs.Bytes.{part, part_long, part_byte}
use Rattle.layouts.specs.Lists.{all}
use Rattle.storage.specs.Store.{first}

pub and_left : (a b : Bool) → (a && b) ≡ true → a ≡ true
and_left true b e = refl
and_left false b e = e

pub and_right : (a b : Bool) → (a && b) ≡ true → b ≡ true
and_right true b e = e
and_right false b e = let z : ◌≡◌ {A = ℕ} 0 1 = cc in absurd (omega arith)

pub all_at : (test : ℕ → Bool) (n i : ℕ) → all test n ≡ true → i < n → test i ≡ true
unfolding all
all_at test zero i e h = absurd (omega arith)
all_at test (suc n) i e h = go (eqb i n) refl (all_at test n i (and_left (all test n) (test n) e))
  where
    go : (b : Bool) → eqb i n ≡ b → (i < n → test i ≡ true) → test i ≡ true
    go true q ih = rw (eqb-true i n q) (and_right (all test n) (test n) e)
    go false q ih = ih (omega (arith, eqb-false i n q))

and_one : (a : Bool) → (a && true) ≡ a
and_one true = refl
and_one false = refl

and_three : (a b c : Bool) → ((a && b) && c) ≡ (a && (b && c))
and_three true b c = refl
and_three false b c = refl

pub and_only : {a b : Bool} → a ≡ true → (a && b) ≡ b
and_only e = rw e

pub and_first : {a : Bool} (b : Bool) → a ≡ false → (a && b) ≡ false
and_first b e = rw e

pub and_last : {a b : Bool} → a ≡ true → b ≡ false → (a && b) ≡ false
and_last e f = rw (e, f)

pub and_both : {a b : Bool} → a ≡ true → b ≡ true → (a && b) ≡ true
and_both e f = rw (e, f)

pub all_intro : (test : ℕ → Bool) (n : ℕ) → ((i : ℕ) → i < n → test i ≡ true) → all test n ≡ true
unfolding all
all_intro test zero f = refl
all_intro test (suc n) f = and_both (all_intro test n (λ i h. f i (omega arith))) (f n (omega arith))

-- a test of the numbers 0 to n, one after the other
all_from : (test : ℕ → Bool) (n i : ℕ) → (all test i && list_all test (range_with_len i n)) ≡ all test (n + i)
unfolding all
all_from test zero i = rw (zero-add i) (and_one (all test i))
all_from test (suc n) i =
    let far : n + suc i ≡ suc n + i = omega arith in
    sym (and_three (all test i) (test i) (list_all test (range_with_len (i + 1) n)))
    ∙ rw (add-one i) (all_from test n (suc i)) ∙ ap (all test) far

pub all_ranged : (test : ℕ → Bool) (n : ℕ) → list_all test (range_with_len 0 n) ≡ all test n
unfolding all
all_ranged test n = all_from test n 0 ∙ ap (all test) (add-zero n)

pub first_past : (test : ℕ → Bool) (n i : ℕ) → ((k : ℕ) → i ≤ k → k < n + i → test k ≡ false) → first test n i ≡ n + i
unfolding first
first_past test zero i f = sym (zero-add i)
first_past test (suc n) i f = rw (f i (omega arith) (omega arith)) (first_past test n (suc i) (λ k a b. f k (omega arith) (omega arith)) ∙ omega arith)

pub all_same : (f g : ℕ → Bool) (n : ℕ) → ((j : ℕ) → j < n → f j ≡ g j) → all f n ≡ all g n
unfolding all
all_same f g zero h = refl
all_same f g (suc n) h = rw (all_same f g n (λ j l. h j (omega arith)), h n (omega arith)) refl

-- a test of every element, by a fold
pub folded : {X : Type 0} (t : X → Bool) (l : List X) (d : X) (n : ℕ) → n ≤ length l → fold (λ b x. b && t x) true (take n l) ≡ all (λ j. t (get_or l j d)) n
unfolding all
folded t l d zero h = refl
folded t l d (suc n) h =
    ap (λ (k : ℕ). fold (λ b x. b && t x) true (take k l)) (sym (add-one n)) ∙ fold_more (λ b x. b && t x) true l n d (omega arith)
    ∙ ap (λ (b : Bool). b && t (get_or l n d)) (folded t l d n (omega arith))

pub first_is : (test : ℕ → Bool) (n i r : ℕ) → i ≤ r → r < i + n → test r ≡ true → ((k : ℕ) → i ≤ k → k < r → test k ≡ false) → first test n i ≡ r
unfolding first
first_is test zero i r h g t f = absurd (omega arith)
first_is test (suc n) i r h g t f = go (eqb i r) refl (λ l. first_is test n (suc i) r l (omega arith) t (λ k a b. f k (omega arith) b))
  where
    go : (b : Bool) → eqb i r ≡ b → (suc i ≤ r → first test n (suc i) ≡ r) → cond (test i) i (first test n (suc i)) ≡ r
    go true q ih = let e : i ≡ r = eqb-true i r q in rw (e, t)
    go false q ih = let l : i < r = omega (arith, eqb-false i r q) in rw (f i (omega arith) l) (ih l)

pub first_before : (test : ℕ → Bool) (n i r k : ℕ) → first test n i ≡ r → i ≤ k → k < r → k < i + n → test k ≡ false
unfolding first
first_before test zero i r k e h g l = absurd (omega arith)
first_before test (suc n) i r k e h g l = go (test i) refl (eqb i k) refl e (λ d a. first_before test n (suc i) r k d a g (omega arith))
  where
    go :
        (b : Bool) → test i ≡ b → (c : Bool) → eqb i k ≡ c → cond b i (first test n (suc i)) ≡ r
        → (first test n (suc i) ≡ r → suc i ≤ k → test k ≡ false) → test k ≡ false
    go true q c z d ih = absurd (omega arith)
    go false q true z d ih = rw (eqb-true i k z) at q
    go false q false z d ih = ih d (omega (arith, eqb-false i k z))

pub first_most : (test : ℕ → Bool) (n i : ℕ) → first test n i ≤ i + n
unfolding first
first_most test zero i = omega arith
first_most test (suc n) i = go (test i) (first_most test n (suc i))
  where
    go : (b : Bool) → first test n (suc i) ≤ suc i + n → cond b i (first test n (suc i)) ≤ i + suc n
    go true h = omega arith
    go false h = omega arith

pub first_passes : (test : ℕ → Bool) (n i r : ℕ) → first test n i ≡ r → r < i + n → test r ≡ true
unfolding first
first_passes test zero i r e l = absurd (omega arith)
first_passes test (suc n) i r e l = go (test i) refl e (λ d. first_passes test n (suc i) r d (omega arith))
  where
    go : (b : Bool) → test i ≡ b → cond b i (first test n (suc i)) ≡ r → (first test n (suc i) ≡ r → test r ≡ true) → test r ≡ true
    go true q e ih = rw e at q
    go false q e ih = ih e

-- the first element of a part of a list that passes
pub first_listed :
    (test : ℕ → Bool) (xs : List ℕ) (at many : ℕ) → at + many ≤ length xs
    → position_or_len test (part at many xs) ≡ first (λ j. test (get_or xs (at + j) 0)) many 0
first_listed test xs at many h =
    let at_test : ℕ → Bool = λ j. test (get_or xs (at + j) 0) in
    let long = part_long at many xs h in
    position_or_len_is test (part at many xs) (first at_test many 0) 0 (omega (arith, long, first_most at_test many 0))
    (λ k l.
    let few : k < many = omega (arith, first_most at_test many 0) in
    ap test (part_byte at many xs k few) ∙ first_before at_test many 0 (first at_test many 0) k refl (omega arith) l (omega arith))
    (λ l.
    let few : first at_test many 0 < many = omega (arith, long) in
    ap test (part_byte at many xs (first at_test many 0) few) ∙ first_passes at_test many 0 (first at_test many 0) refl (omega arith))
