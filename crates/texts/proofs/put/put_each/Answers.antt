-- `put::put_each`: before each turn the first `k` bytes are put.
-- Assumes nothing.
use mathlib.Core.Path.{refl, ◌∙◌}
use native.Mathlib.Omega.{arith}
use lib.ListN.{length-set}
use Rattle.texts.proofs.Written.{paste_more, paste_done, paste_none}
use Rattle.texts.proofs.put.put_each.Goals as goal

pub loop-k-init : goal.loop-k-init
loop-k-init g c = record { long = refl; bytes = λ s e f. paste_none c.args.out.now c.args.at s }

pub loop-k-preserved : goal.loop-k-preserved
loop-k-preserved g c = let h = c.loop-k in record {
  long = length-set h.out _ _ ∙ h.invariant.long;
  bytes = λ s e f.
      paste_more c.args.out.now c.args.at s h.k (h.invariant.bytes s e f) (f h.k _ (omega arith) c.byte.ensures) (omega arith) (omega arith);
}

pub returns-clause-out_after : goal.returns-clause-out_after
returns-clause-out_after g c = λ s e f. let h = c.loop-k in paste_done c.args.out.now c.args.at s h.k (h.invariant.bytes s e f) (omega arith)
