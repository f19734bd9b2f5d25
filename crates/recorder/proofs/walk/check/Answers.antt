-- `walk::check`: the bytes, the sender, then the table.
-- Assumes nothing.
use Rattle.recorder.proofs.WalkAnswers.{walk_misfit, sender_refused, table_asked}
use Rattle.recorder.proofs.walk.check.Goals as goal

pub returns-then-mack-ne60 : goal.returns-then-mack-ne60
returns-then-mack-ne60 c = search walk_misfit

pub returns-in_err-check_svn : goal.returns-in_err-check_svn
returns-in_err-check_svn c =
    let a = c.args in
    sender_refused a.mack.msg.now a.mack.sizes.key_bytes a.mack.sizes.tag_bits a.sender a.maclt a.msg c.if-mack-ne60.false c.from.ensures _ _
    c.from_residual.ensures.1 c.in_err-check_svn.ensures

pub returns : goal.returns
returns c =
    let a = c.args in
    table_asked a.mack.msg.now a.mack.sizes.key_bytes a.mack.sizes.tag_bits a.sender a.maclt a.msg c.if-mack-ne60.false c.from.ensures
    c.in_ok-check_svn.ensures c.check_table.ensures
