-- `fields::any_wide`: the search among the values.
-- Assumes nothing.
use mathlib.Core.Path.{◌≡◌}
use mathlib.Core.Bool.{true, false}
use Rattle.std.proofs.lemmas.Iterator.{cases_from_any, YieldsList-from_slice}
use borrow.Author.Rules.{rules}
use borrow.Author.Tests.{tests}
use Rattle.transmitter.proofs.Rows.{is_wide, wide_among}
use Rattle.transmitter.proofs.fields.any_wide.Goals as goal

pub returns : goal.returns
returns c =
    wide_among c.args.values.now c.any.result
    (cases_from_any _ _ _ (λ p. is_wide p ≡ true) (λ p. is_wide p ≡ false) c.any.ensures.ran (YieldsList-from_slice c.args.values.now cc)
    (λ x q k. search (rules, tests))
    (λ x q k. search (rules, tests)))
