-- What the ID that the table is asked for has in common with the one that was handed in.
-- Assumes nothing.
use Rattle.std.specs.Prelude.{ℕ, ◌≡◌}
use Rattle.layouts.specs.Maclt.{entry, flx_indices, nt_of}

-- the look-up table says the same of two IDs
pub record SameId (i j : ℕ) : Type 0 where
  pub entries : (message tag : ℕ) → entry i message tag ≡ entry j message tag
  pub indices : (message : ℕ) → flx_indices i message ≡ flx_indices j message
  pub tags : nt_of i ≡ nt_of j
