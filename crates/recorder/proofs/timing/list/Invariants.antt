-- `timing::list`: before each turn the tags before `n` that hold ADKD 4 are listed.
-- Assumes nothing.
use Rattle.recorder.proofs.TimingList.{Sofar}
use Rattle.recorder.proofs.timing.list.Given as goal

abbrev pub invariant-loop-n : goal.invariant-loop-n
invariant-loop-n l = Sofar l.mack.msg.now l.mack.sizes.tag_bits l.n l.count l.tags
