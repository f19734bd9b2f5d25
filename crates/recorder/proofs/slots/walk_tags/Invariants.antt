-- `slots::walk_tags`: before each turn the tags before `tag` fit, so that what is left, walked from it on, gives what all gives.
-- Assumes nothing.
use Rattle.recorder.proofs.WalkTags.{Left}
use Rattle.recorder.proofs.slots.walk_tags.Given as goal

abbrev pub invariant-loop-tag : goal.invariant-loop-tag
invariant-loop-tag l = Left l.mack.msg.now l.mack.sizes.tag_bits l.sender l.maclt l.msg l.tag
