-- `lines::refused`: the word and the number.
-- Assumes nothing.
use mathlib.Core.Path.{◌∙◌}
use Rattle.texts.specs.Lines.{refused_parts, bytes}
use Rattle.texts.proofs.Written.{begun_none, line_done}
use Rattle.texts.proofs.lines.refused.Goals as goal

pub returns : goal.returns
unfolding bytes
returns c =
    let a = c.args in
    let b0 = begun_none a.out.now in
    let b1 = c.put_part-a.ensures.by_index a.out.now _ b0 in record {
      refused_line = line_done a.out.now (refused_parts c.from.result) (c.put_end.ensures.by_index a.out.now _ b1)
          ∙ rw c.from.ensures;
      counts = c.put_end.ensures.counts;
    }
