-- Rising positions: where a list has something for each of n, n + 1, .., in that order. What a hit is, is each collector's own.
-- Assumes nothing.
use Rattle.std.specs.Prelude.{ℕ, suc, ◌≤◌, ◌<◌, List, Bool, true, ◌≡◌, length, get_or}

-- `hit a k`: the element a is one for the number k. `none` stands for an element past the end, which is never looked at.
module _ {A : Type 0} (hit : A → ℕ → Bool) (none : A) where
  -- a choice of positions for the numbers from n to below m, each after the one before
  pub record Choice (xs : List A) (n m : ℕ) : Type 0 where
    pub at : ℕ → ℕ
    pub inside : (k : ℕ) → n ≤ k → k < m → at k < length xs
    pub hits : (k : ℕ) → n ≤ k → k < m → hit (get_or xs (at k) none) k ≡ true
    pub rising : (k : ℕ) → n ≤ k → suc k < m → at k < at (suc k)

  -- no other choice has any position before
  abbrev pub Earliest : {xs : List A} {n m : ℕ} → Choice xs n m → Type 0
  Earliest {xs} {n} {m} q = (other : Choice xs n m) (k : ℕ) → n ≤ k → k < m → q.at k ≤ other.at k
