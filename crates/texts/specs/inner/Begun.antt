-- What private functions of `lines` need and do.
-- Assumes nothing.
use Rattle.std.specs.Prelude.{ℕ, ◌≤◌, ◌≡◌, List, length}
use Rattle.layouts.specs.Lists.{put}

-- a line is begun: the first bytes of a buffer `m` are `s`, and the line goes on at `at`
pub record Begun (m s out : List ℕ) (at : ℕ) : Type 0 where
  pub room : length s ≤ length m
  pub end : at ≡ length s
  pub bytes : out ≡ put m 0 (length s) s
