-- `records::read_full`: what has been read is within the bytes.
-- Assumes nothing.
use Rattle.std.proofs.Common.{◌-◌, ◌≤◌, length}
use Rattle.vectors.proofs.records.read_full.Given as goal

abbrev pub invariant-loop-many : goal.invariant-loop-many
invariant-loop-many g l = l.many ≤ length l.bytes

abbrev pub decreases-loop-many : goal.decreases-loop-many
decreases-loop-many g l = length l.bytes - l.many
