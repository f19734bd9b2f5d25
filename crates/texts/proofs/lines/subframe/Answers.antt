-- `lines::subframe`: its three parts, one after the other.
-- Assumes nothing.
use mathlib.Core.Path.{◌∙◌}
use Rattle.texts.specs.Lines.{subframe_parts, bytes}
use Rattle.texts.proofs.Written.{begun_none, line_done}
use Rattle.texts.proofs.lines.subframe.Goals as goal

pub returns : goal.returns
unfolding bytes
returns c =
    let a = c.args in
    let b0 = begun_none a.out.now in
    let b1 = c.put_part-a.ensures.by_index a.out.now _ b0 in
    let b2 = c.put_part-b.ensures.by_index a.out.now _ b1 in
    let b3 = c.put_part-c.ensures.by_index a.out.now _ b2 in record {
      subframe_line = line_done a.out.now (subframe_parts c.from.result c.from-2.result c.from-3.result) (c.put_end.ensures.by_index a.out.now _ b3)
          ∙ rw (c.from.ensures, c.from-2.ensures, c.from-3.ensures);
      counts = c.put_end.ensures.counts;
    }
