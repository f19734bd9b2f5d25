-- `stream::piece`: the rest becomes shorter at each turn. Nothing has to hold from turn to turn.
-- Assumes nothing.
use Rattle.std.proofs.Common.{length}
use Rattle.replay.proofs.stream.piece.Given as goal

abbrev pub decreases-loop-rest : goal.decreases-loop-rest
decreases-loop-rest g l = length l.rest
