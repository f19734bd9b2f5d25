-- `lines::put_end`: one byte more.
-- Assumes nothing.
use Rattle.texts.proofs.Written.{begun_end, end_counts}
use Rattle.texts.proofs.lines.put_end.Goals as goal

pub returns : goal.returns
returns c = record {
  by_index = λ m s b. begun_end m s c.args.out.now c.args.at c.requires b;
  counts = end_counts c.args.out.now c.args.at c.requires;
}
