-- `dsm::view_shown`: each case of the definition.
-- Assumes nothing.
use mathlib.Core.Path.{◌≡◌, sym, ◌∙◌}
use Prim.Native.Nat.{◌≤◌}
use borrow.Author.Rules.{rules}
use borrow.Author.Tests.{not-true, not-false}
use native.Mathlib.Omega.{arith}
use Rattle.layouts.specs.DsmHeader.{dsm_type_of}
use Rattle.dsms.specs.Dsm.{count}
use Rattle.dsms.specs.inner.Dsm.{legal}
use Rattle.dsms.specs.DsmPromises.{state}
use Rattle.dsms.proofs.Blocks.{type_of, legal_lent, count_few, view_refused, view_undone, view_counted}
use Rattle.dsms.proofs.dsm.view_shown.Goals as goal
use Rattle.dsms.proofs.dsm.view_shown.Goals.{After-count}

pub returns-in_err-check_lent : goal.returns-in_err-check_lent
returns-in_err-check_lent c = let a = c.args in view_refused (state a.collector a.dsm.now) _ _ c.from_residual.ensures.1 c.in_err-check_lent.ensures

pub returns-then-not-collector : goal.returns-then-not-collector
returns-then-not-collector c = let a = c.args in view_undone (state a.collector a.dsm.now) c.in_ok-check_lent.ensures (not-true _ c.if-not-collector.true)

pub overflow_mul-collector : goal.overflow_mul-collector
overflow_mul-collector c = omega (arith, legal_lent c.args.collector.id c.args.dsm.now c.in_ok-check_lent.ensures)

pub count-requires : goal.count-requires
count-requires c = (legal_lent c.args.collector.id c.args.dsm.now c.in_ok-check_lent.ensures).0

-- the number of blocks is that of the ID
is_count : (c : After-count) → let a = c.args in c.count.result ≡ legal (count (state a.collector a.dsm.now))
is_count c =
    let a = c.args in
    let t = c.dsm_type in
    let fits = legal_lent a.collector.id a.dsm.now c.in_ok-check_lent.ensures in
    c.count.ensures (dsm_type_of a.collector.id) (type_of a.collector.id t.result fits.1 t.ensures)

pub map-requires : goal.map-requires
map-requires c = λ x e. let few : x ≤ 16 = count_few (state c.args.collector c.args.dsm.now) (sym e ∙ is_count c) in search rules

pub returns : goal.returns
returns c =
    let a = c.args in
    view_counted (state a.collector a.dsm.now) c.in_ok-check_lent.ensures (not-false _ c.if-not-collector.false) _ (is_count (goal.at.returns c).After-count) c.map.result (search rules)
