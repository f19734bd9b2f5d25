-- `replay::totals_few`: the test of each total.
-- Assumes nothing.
use mathlib.Core.Path.{◌∙◌}
use mathlib.Core.List.{[]}
use lib.Dec.{leb}
use borrow.Author.Rules.{rules}
use borrow.Author.Tests.{tests}
use Rattle.std.proofs.lemmas.Iterator.{YieldsList-from_slice}
use Rattle.std.proofs.lemmas.Iterator.Search.{all_from_yields_List}
use Rattle.page_replay.specs.Replay.{most}
use Rattle.page_replay.specs.ReplayPromises.{state}
use Rattle.page_replay.proofs.PageRefusals.{totals_of, all_are_few}
use Rattle.page_replay.proofs.replay.totals_few.Goals as goal

pub returns : goal.returns
returns c =
    let t = (state c.args.«record» [] [] []).totals in
    all_from_yields_List (λ n. leb n most) _ _ _ c.all.ensures.ran (YieldsList-from_slice (totals_of t) cc) (λ x b q k. search (rules, tests))
    ∙ all_are_few t
