-- `maclt::nt`.
-- Assumes nothing.
use mathlib.Core.List.{[], ◌∷◌}
use Rattle.layouts.proofs.LookUp.{nt_unknown, nt_given}
use Rattle.layouts.proofs.Refused.{err_as}
use Rattle.layouts.proofs.maclt.nt.Goals as goal

pub returns-in_err-known_row : goal.returns-in_err-known_row
returns-in_err-known_row c = err_as (λ v. v ∷ []) _ _ c.from_residual.ensures.1 (nt_unknown _ _ c.in_err-known_row.ensures)

pub returns : goal.returns
returns c = nt_given _ c.in_ok-known_row.ensures
