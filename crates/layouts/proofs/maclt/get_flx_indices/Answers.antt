-- `maclt::get_flx_indices`: the tests of the definition, in its order.
-- Assumes nothing.
use mathlib.Core.List.{[], ◌∷◌}
use Rattle.layouts.specs.declared.maclt.FlxIndices.{FlxIndices}
use Rattle.layouts.proofs.LookUp.{flx_message, flx_unknown, flx_given}
use Rattle.layouts.proofs.Refused.{err_as_bytes}
use Rattle.layouts.proofs.maclt.get_flx_indices.Goals as goal

pub returns-then-msg-gt1 : goal.returns-then-msg-gt1
returns-then-msg-gt1 c = search flx_message

pub returns-in_err-known_row : goal.returns-in_err-known_row
returns-in_err-known_row c =
    err_as_bytes 4 (λ (f : FlxIndices). f.count ∷ []) (λ (f : FlxIndices). f.indices) _ _ c.from_residual.ensures.1
    (flx_unknown _ _ c.if-msg-gt1.false _ c.in_err-known_row.ensures)

pub returns : goal.returns
returns c = flx_given _ _ c.if-msg-gt1.false c.in_ok-known_row.ensures c.flx_tags.ensures c.how_many.ensures
