-- `lines::totals`: its six parts, one after the other.
-- Assumes nothing.
use Rattle.texts.specs.Lines.{totals_parts, bytes}
use Rattle.texts.proofs.Written.{begun_none, line_done}
use Rattle.texts.proofs.lines.totals.Goals as goal

pub returns : goal.returns
unfolding bytes
returns c =
    let a = c.args in
    let t = c.args.counts in
    let b0 = begun_none a.out.now in
    let b1 = c.put_part-a.ensures.by_index a.out.now _ b0 in
    let b2 = c.put_part-b.ensures.by_index a.out.now _ b1 in
    let b3 = c.put_part-c.ensures.by_index a.out.now _ b2 in
    let b4 = c.put_part-d.ensures.by_index a.out.now _ b3 in
    let b5 = c.put_part-e.ensures.by_index a.out.now _ b4 in
    let b6 = c.put_part-f.ensures.by_index a.out.now _ b5 in record {
      totals_line = line_done a.out.now (totals_parts t.pages t.skipped t.subframes t.dsms t.silent t.tail)
          (c.put_end.ensures.by_index a.out.now _ b6);
      counts = c.put_end.ensures.counts;
    }
