-- `put::put_each`: before each turn the first `k` bytes are put.
-- Assumes nothing.
use Rattle.std.proofs.Common.{◌≡◌, ℕ, List, ◌<◌, length, get_or}
use lib.Seq.{paste}
use Rattle.texts.proofs.put.put_each.Given as goal

abbrev pub invariant-loop-k : goal.invariant-loop-k
invariant-loop-k g l = record {
  long : length l.out ≡ length l.initial.out;
  bytes : (s : List ℕ) → length s ≡ l.many → ((k r : ℕ) → k < l.many → g.F.Fn.post l.byte (k, tt) r → r ≡ get_or s k 0) → l.out ≡ paste l.initial.out l.at s l.k;
}
