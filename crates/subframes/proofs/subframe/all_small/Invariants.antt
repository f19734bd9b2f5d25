-- `subframe::all_small`: before each turn what is left is small exactly if all is.
-- Assumes nothing.
use lib.ListN.{drop}
use Prim.Native.Nat.{◌+◌, ◌*◌}
use mathlib.Core.Path.{◌≡◌}
use Rattle.subframes.specs.Subframe.{small}
use Rattle.subframes.proofs.subframe.all_small.Given as goal

abbrev pub invariant-loop-k : goal.invariant-loop-k
invariant-loop-k l = small (drop (4 + 8 * l.k) l.counts) ≡ small l.counts
