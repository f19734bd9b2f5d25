-- `dsm::begin`: each case of the definition.
-- Assumes nothing.
use mathlib.Core.Bool.{true}
use mathlib.Core.Path.{ap, ◌∙◌}
use borrow.Author.Tests.{eq-eqb, ne_eqb}
use Rattle.dsms.specs.Dsm.{State}
use Rattle.dsms.specs.DsmPromises.{state}
use Rattle.dsms.proofs.Blocks.{begun_first, begun_other, begun_same}
use Rattle.dsms.proofs.dsm.begin.Goals as goal
use Rattle.dsms.proofs.dsm.begin.Goals.{else-collector-via-then-collector+else-collector-id, else-collector-via-else-collector}

pub returns-then-collector-id : goal.returns-then-collector-id
returns-then-collector-id c = let a = c.args in λ m. begun_same (state a.collector m) a.id c.if-collector.true (eq-eqb _ _ c.if-collector-id.true)

pub returns : goal.returns
returns c =
    λ m.
    let i = c.args.id in
    let s = state c.args.collector m in
    ap (λ (n : State). record { id = i; came = true; held = n.held; done = n.done; memory = m }) c.new.ensures
    ∙ elim c.else-collector.branch [
      | else-collector-via-then-collector+else-collector-id w ↦ begun_other s i w.if-collector.true (ne_eqb _ _ w.if-collector-id.false)
      | else-collector-via-else-collector w ↦ begun_first s i w.if-collector.false
    ]
