-- Lists of bytes and numbers, for every crate.
-- Assumes nothing.
use Rattle.std.specs.Prelude.{ℕ, zero, suc, ◌+◌, List, ◌++◌, Bool, true, ◌&&◌, take, drop}

-- `s` in the place of the `many` bytes from byte `at` on
abbrev pub put : List ℕ → ℕ → ℕ → List ℕ → List ℕ
put bytes at many s = take at bytes ++ s ++ drop (at + many) bytes

-- the test holds of every number below n
unfoldable pub all : (ℕ → Bool) → ℕ → Bool
all test zero = true
all test (suc n) = all test n && test n
