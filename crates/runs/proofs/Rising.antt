-- Rising positions: a count that goes on by one where an element hits it takes the earliest choice.
-- Assumes nothing.
use Prim.Native.Nat.{ℕ, zero, suc, ◌≤◌, ◌<◌, zero-le}
use native.Mathlib.Nat.{le_refl, eq-or-lt_of_le, le_of_suc-le-suc, not-suc-le-zero}
use native.Mathlib.Decide.{dec_le}
use native.Mathlib.Omega.{arith}
use mathlib.Core.Path.{◌≡◌, refl, subst}
use mathlib.Core.Logic.{⊎_elim, ◌↔◌}
use mathlib.Core.List.{List, [], ◌∷◌, ◌++◌}
use mathlib.Core.Bool.{Bool, true, false, cond}
use lib.ListN.{length, get_or}
use lib.Dec.{eqb}
use Rattle.runs.specs.Rising.{Choice}
use borrow.Author.Tests.{eq-eqb, ne_eqb, eqb-true, eqb-false}

-- one less, and 0 of 0
abbrev down : ℕ → ℕ
down zero = zero
down (suc j) = j

suc_down : (j : ℕ) → 0 < j → suc (down j) ≡ j
suc_down zero h = absurd (not-suc-le-zero h)
suc_down (suc j) h = refl

module _ {A : Type 0} (hit : A → ℕ → Bool) where
  -- the count after one more element
  abbrev pub next : ℕ → A → ℕ
  next n a = cond (hit a n) (suc n) n

  -- the count after a list, from n
  abbrev pub count : ℕ → List A → ℕ
  count n [] = n
  count n (a ∷ xs) = count (next n a) xs

  -- the position at which k was counted, where the count was n at the start
  abbrev pub taken : ℕ → List A → ℕ → ℕ
  taken n [] k = 0
  taken n (a ∷ xs) k = cond (hit a n) (cond (eqb k n) 0 (suc (taken (suc n) xs k))) (suc (taken n xs k))

module _ {A : Type 0} (hit : A → ℕ → Bool) (d : A) where
  abbrev Chain : List A → ℕ → ℕ → Type 0
  Chain xs n m = Choice hit d xs n m

  get_d_down : (a : A) (xs : List A) (j : ℕ) → 0 < j → get_or (a ∷ xs) j d ≡ get_or xs (down j) d
  get_d_down a xs zero h = absurd (not-suc-le-zero h)
  get_d_down a xs (suc j) h = refl

  -- a chain none of whose positions is the first is one of the rest
  lower : {a : A} {xs : List A} {n m : ℕ} (q : Chain (a ∷ xs) n m) (n' : ℕ) → n ≤ n' → ((k : ℕ) → n' ≤ k → k < m → 0 < q.at k) → Chain xs n' m
  lower {a} {xs} {n} {m} q n' le up =
      record {
        at = λ k. down (q.at k);
        inside = λ k l u. omega (arith, q.inside k (omega arith) u, suc_down (q.at k) (up k l u));
        hits = λ k l u. rw (← get_d_down a xs (q.at k) (up k l u)) (q.hits k (omega arith) u);
        rising = λ k l u. let here = suc_down (q.at k) (up k l (omega arith)) in let then = suc_down (q.at (suc k)) (up (suc k) (omega arith) u) in
            omega (arith, q.rising k (omega arith) u, here, then);
      }

  above : {xs : List A} {n m : ℕ} (q : Chain xs n m) (k : ℕ) → n < k → k < m → 0 < q.at k
  above q zero l u = absurd (not-suc-le-zero l)
  above q (suc k) l u = omega (arith, q.rising k (le_of_suc-le-suc l) u)

  missed : {a : A} {xs : List A} {n m : ℕ} (q : Chain (a ∷ xs) n m) → hit a n ≡ false → n < m → 0 < q.at n
  missed {a} {xs} {n} {m} q e u = go (q.at n) (q.hits n (le_refl n) u)
    where
      go : (p : ℕ) → hit (get_or (a ∷ xs) p d) n ≡ true → 0 < p
      go zero h = let z : ◌≡◌ {A = ℕ} 0 1 = cc in omega arith
      go (suc p) h = omega arith

  past : {a : A} {xs : List A} {n m : ℕ} (q : Chain (a ∷ xs) n m) → hit a n ≡ false → (k : ℕ) → n ≤ k → k < m → 0 < q.at k
  past q e k l u = ⊎_elim (λ p. subst (λ (j : ℕ). 0 < q.at j) p (missed q e (omega arith))) (λ lt. above q k lt u) (eq-or-lt_of_le l)

  -- no chain goes past the count
  pub bound : (xs : List A) (n m : ℕ) → Chain xs n m → m ≤ count hit n xs
  bound [] n m q = go (dec_le m n)
    where
      go : Dec (m ≤ n) → m ≤ n
      go (yes h) = h
      go (no h) = absurd (not-suc-le-zero (q.inside n (le_refl n) (omega arith)))
  bound (a ∷ xs) n m q = go (hit a n) refl (bound xs (suc n) m) (bound xs n m)
    where
      go : (b : Bool) → hit a n ≡ b → (Chain xs (suc n) m → m ≤ count hit (suc n) xs) → (Chain xs n m → m ≤ count hit n xs)
          → m ≤ count hit (cond b (suc n) n) xs
      go true e up same = up (lower q (suc n) (omega arith) (above q))
      go false e up same = same (lower q n (le_refl n) (past q e))

  -- and no chain has a position before the one at which the count took it
  pub earliest : (xs : List A) (n m : ℕ) (q : Chain xs n m) (k : ℕ) → n ≤ k → k < m → taken hit n xs k ≤ q.at k
  unfolding lower
  earliest [] n m q k l u = zero-le
  earliest (a ∷ xs) n m q k l u = go (hit a n) refl (eqb k n) refl (λ c. earliest xs (suc n) m c k) (λ c. earliest xs n m c k)
    where
      go : (b : Bool) → hit a n ≡ b → (t : Bool) → eqb k n ≡ t
          → ((c : Chain xs (suc n) m) → suc n ≤ k → k < m → taken hit (suc n) xs k ≤ c.at k)
          → ((c : Chain xs n m) → n ≤ k → k < m → taken hit n xs k ≤ c.at k)
          → cond b (cond t 0 (suc (taken hit (suc n) xs k))) (suc (taken hit n xs k)) ≤ q.at k
      go true e true f up same = zero-le
      go true e false f up same =
          let ne = eqb-false k n f in
          omega (arith, up (lower q (suc n) (omega arith) (above q)) (omega arith) u, suc_down (q.at k) (above q k (omega arith) u))
      go false e t f up same =
          omega (arith, same (lower q n (le_refl n) (past q e)) l u, suc_down (q.at k) (past q e k l u))

  -- the positions at which the count took its numbers are a chain
  pub up_from : (xs : List A) (n : ℕ) → n ≤ count hit n xs
  up_from [] n = le_refl n
  up_from (a ∷ xs) n = go (hit a n) (up_from xs (suc n)) (up_from xs n)
    where
      go : (b : Bool) → suc n ≤ count hit (suc n) xs → n ≤ count hit n xs → n ≤ count hit (cond b (suc n) n) xs
      go true up same = omega arith
      go false up same = same

  pub taken_inside : (xs : List A) (n k : ℕ) → n ≤ k → k < count hit n xs → taken hit n xs k < length xs
  taken_inside [] n k l u = omega arith
  taken_inside (a ∷ xs) n k l u = go (hit a n) (eqb k n) refl u (taken_inside xs (suc n) k) (taken_inside xs n k)
    where
      go : (b t : Bool) → eqb k n ≡ t → k < count hit (cond b (suc n) n) xs
          → (suc n ≤ k → k < count hit (suc n) xs → taken hit (suc n) xs k < length xs)
          → (n ≤ k → k < count hit n xs → taken hit n xs k < length xs)
          → cond b (cond t 0 (suc (taken hit (suc n) xs k))) (suc (taken hit n xs k)) < suc (length xs)
      go true true f u up same = omega arith
      go true false f u up same = let ne = eqb-false k n f in omega (arith, up (omega arith) u)
      go false t f u up same = omega (arith, same l u)

  pub taken_hits : (xs : List A) (n k : ℕ) → n ≤ k → k < count hit n xs → hit (get_or xs (taken hit n xs k) d) k ≡ true
  taken_hits [] n k l u = absurd (omega arith)
  taken_hits (a ∷ xs) n k l u = go (hit a n) refl (eqb k n) refl u (taken_hits xs (suc n) k) (taken_hits xs n k)
    where
      go : (b : Bool) → hit a n ≡ b → (t : Bool) → eqb k n ≡ t → k < count hit (cond b (suc n) n) xs
          → (suc n ≤ k → k < count hit (suc n) xs → hit (get_or xs (taken hit (suc n) xs k) d) k ≡ true)
          → (n ≤ k → k < count hit n xs → hit (get_or xs (taken hit n xs k) d) k ≡ true)
          → hit (get_or (a ∷ xs) (cond b (cond t 0 (suc (taken hit (suc n) xs k))) (suc (taken hit n xs k))) d) k ≡ true
      go true e true f u up same = rw (eqb-true k n f) e
      go true e false f u up same = let ne = eqb-false k n f in up (omega arith) u
      go false e t f u up same = same l u

  pub taken_rising : (xs : List A) (n k : ℕ) → n ≤ k → suc k < count hit n xs → taken hit n xs k < taken hit n xs (suc k)
  taken_rising [] n k l u = absurd (omega arith)
  taken_rising (a ∷ xs) n k l u = go (hit a n) (eqb k n) refl (eqb (suc k) n) refl u (taken_rising xs (suc n) k) (taken_rising xs n k)
    where
      go : (b t : Bool) → eqb k n ≡ t → (t' : Bool) → eqb (suc k) n ≡ t' → suc k < count hit (cond b (suc n) n) xs
          → (suc n ≤ k → suc k < count hit (suc n) xs → taken hit (suc n) xs k < taken hit (suc n) xs (suc k))
          → (n ≤ k → suc k < count hit n xs → taken hit n xs k < taken hit n xs (suc k))
          → cond b (cond t 0 (suc (taken hit (suc n) xs k))) (suc (taken hit n xs k))
          < cond b (cond t' 0 (suc (taken hit (suc n) xs (suc k)))) (suc (taken hit n xs (suc k)))
      go true t f true f' u up same = absurd (omega (arith, eqb-true (suc k) n f'))
      go true true f false f' u up same = omega arith
      go true false f false f' u up same = let ne = eqb-false k n f in omega (arith, up (omega arith) u)
      go false t f t' f' u up same = omega (arith, same l u)

  -- the chain that the count takes
  abbrev pub taken_chain : (xs : List A) (n : ℕ) → Chain xs n (count hit n xs)
  taken_chain xs n = record { at = taken hit n xs; inside = taken_inside xs n; hits = taken_hits xs n; rising = taken_rising xs n }

  -- the first part of a chain
  abbrev pub shorter : {xs : List A} {n m : ℕ} (l : ℕ) → l ≤ m → Chain xs n m → Chain xs n l
  shorter l h q =
      record {
        at = q.at;
        inside = λ k a b. q.inside k a (omega arith);
        hits = λ k a b. q.hits k a (omega arith);
        rising = λ k a b. q.rising k a (omega arith);
      }

  -- there is a chain up to m exactly where the count reaches m
  pub reaches : (xs : List A) (n m : ℕ) → (m ≤ count hit n xs) ↔ Chain xs n m
  reaches xs n m = (λ h. shorter m h (taken_chain xs n), bound xs n m)

  -- the element that the count took for k
  abbrev pub chosen : ℕ → List A → ℕ → A
  chosen n xs k = get_or xs (taken hit n xs k) d

  -- one element more
  pub count_more : (xs : List A) (n : ℕ) (c : A) → count hit n (xs ++ (c ∷ [])) ≡ next hit (count hit n xs) c
  count_more [] n c = refl
  count_more (a ∷ xs) n c = count_more xs (next hit n a) c

  pub chosen_kept : (xs : List A) (n : ℕ) (c : A) (k : ℕ) → n ≤ k → k < count hit n xs → chosen n (xs ++ (c ∷ [])) k ≡ chosen n xs k
  chosen_kept [] n c k l u = absurd (omega arith)
  chosen_kept (a ∷ xs) n c k l u = go (hit a n) (eqb k n) refl u (chosen_kept xs (suc n) c k) (chosen_kept xs n c k)
    where
      go : (b t : Bool) → eqb k n ≡ t → k < count hit (cond b (suc n) n) xs
          → (suc n ≤ k → k < count hit (suc n) xs → chosen (suc n) (xs ++ (c ∷ [])) k ≡ chosen (suc n) xs k)
          → (n ≤ k → k < count hit n xs → chosen n (xs ++ (c ∷ [])) k ≡ chosen n xs k)
          → get_or (a ∷ (xs ++ (c ∷ []))) (cond b (cond t 0 (suc (taken hit (suc n) (xs ++ (c ∷ [])) k))) (suc (taken hit n (xs ++ (c ∷ [])) k))) d
          ≡ get_or (a ∷ xs) (cond b (cond t 0 (suc (taken hit (suc n) xs k))) (suc (taken hit n xs k))) d
      go true true f u up same = refl
      go true false f u up same = let ne = eqb-false k n f in up (omega arith) u
      go false t f u up same = same l u

  pub chosen_new : (xs : List A) (n : ℕ) (c : A) → hit c (count hit n xs) ≡ true → chosen n (xs ++ (c ∷ [])) (count hit n xs) ≡ c
  chosen_new [] n c h = rw (h, eq-eqb n n refl)
  chosen_new (a ∷ xs) n c h = go (hit a n) h (chosen_new xs (suc n) c) (chosen_new xs n c) (up_from xs (suc n))
    where
      -- where k is taken, by whether a was taken for n
      place : Bool → ℕ → ℕ
      place b k = cond b (cond (eqb k n) 0 (suc (taken hit (suc n) (xs ++ (c ∷ [])) k))) (suc (taken hit n (xs ++ (c ∷ [])) k))

      go : (b : Bool) → hit c (count hit (cond b (suc n) n) xs) ≡ true
          → (hit c (count hit (suc n) xs) ≡ true → chosen (suc n) (xs ++ (c ∷ [])) (count hit (suc n) xs) ≡ c)
          → (hit c (count hit n xs) ≡ true → chosen n (xs ++ (c ∷ [])) (count hit n xs) ≡ c)
          → suc n ≤ count hit (suc n) xs
          → get_or (a ∷ (xs ++ (c ∷ []))) (place b (count hit (cond b (suc n) n) xs)) d ≡ c
      go true h up same l = rw (ne_eqb (count hit (suc n) xs) n (λ z. absurd (omega (arith, l, z)))) (up h)
      go false h up same l = same h
