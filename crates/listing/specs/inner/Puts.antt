-- What private functions that put lines do.
-- Assumes nothing.
use Rattle.std.specs.Prelude.{ℕ, ◌+◌, ◌≡◌, List, length}
use Rattle.layouts.specs.Lists.{put}

-- the text `s` goes into the room `before` from `at` on, and ends at `end`
pub record Puts (s before : List ℕ) (at : ℕ) (after : List ℕ) (end : ℕ) : Type 0 where
  pub bytes : after ≡ put before at (length s) s
  pub ends : end ≡ at + length s
