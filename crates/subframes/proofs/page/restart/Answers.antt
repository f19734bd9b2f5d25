-- `page::restart`: no change, or one of either.
-- Assumes nothing.
use Rattle.subframes.proofs.Pages.{other_week_taken, other_subframe_taken, same_subframe}
use Rattle.subframes.specs.inner.Page.{state_of}
use Rattle.subframes.proofs.page.restart.Goals as goal
use Rattle.subframes.proofs.page.restart.Goals.{then-week-to_week+else-subframe-to_subframe, else-week-to_week}

pub returns-then-subframe-to_subframe : goal.returns-then-subframe-to_subframe
returns-then-subframe-to_subframe c = λ h m. same_subframe c.args.counts.now h m c.if-week-to_week.true c.if-subframe-to_subframe.true

pub returns : goal.returns
returns c =
    let a = c.args in λ h m.
    let s = state_of a.week a.subframe a.counts.now h m in
    elim c.if-week-to_week.branch [
      | then-week-to_week+else-subframe-to_subframe w ↦
          other_subframe_taken s a.to_week a.to_subframe w.if-week-to_week.true w.if-subframe-to_subframe.false
      | else-week-to_week w ↦ other_week_taken s a.to_week a.to_subframe w.if-week-to_week.false
    ]
