-- `lines::dsm`: its two parts, one after the other.
-- Assumes nothing.
use mathlib.Core.Path.{◌∙◌}
use Rattle.texts.specs.Lines.{dsm_parts, bytes}
use Rattle.texts.proofs.Written.{begun_none, line_done}
use Rattle.texts.proofs.lines.dsm.Goals as goal

pub returns : goal.returns
unfolding bytes
returns c =
    let a = c.args in
    let b0 = begun_none a.out.now in
    let b1 = c.put_part-a.ensures.by_index a.out.now _ b0 in
    let b2 = c.put_part-b.ensures.by_index a.out.now _ b1 in record {
      dsm_line = line_done a.out.now (dsm_parts c.from.result a.bytes) (c.put_end.ensures.by_index a.out.now _ b2)
          ∙ rw c.from.ensures;
      counts = c.put_end.ensures.counts;
    }
