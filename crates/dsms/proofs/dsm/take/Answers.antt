-- `dsm::take`: nothing when done; else the block is stored and the count looked at.
-- Assumes nothing.
use Rattle.dsms.specs.DsmPromises.{state}
use Rattle.dsms.proofs.Blocks.{taken_done, taken_on}
use borrow.Author.Rules.{rules}
use Rattle.dsms.proofs.dsm.take.Goals as goal

pub returns-then-collector : goal.returns-then-collector
returns-then-collector c = search taken_done

pub returns : goal.returns
returns c =
    let a = c.args in
    let d = a.collector in
    taken_on (state d a.dsm.now) a.n a.block.now (search rules)
    (c.store.ensures d.id d.came d.done) c.finish.ensures
