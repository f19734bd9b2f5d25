-- `walk::check_table`: sizes, message number and ID.
-- Assumes nothing.
use Rattle.recorder.proofs.WalkAnswers.{sizes_refused, message_refused, id_refused, id_known}
use Rattle.recorder.proofs.walk.check_table.Goals as goal

pub returns-in_err-num_tags : goal.returns-in_err-num_tags
returns-in_err-num_tags c =
    let a = c.args in sizes_refused a.sizes.key_bytes a.sizes.tag_bits a.maclt a.msg _ _ c.from_residual.ensures.1 c.in_err-num_tags.ensures

pub returns-then-msg-gt1 : goal.returns-then-msg-gt1
returns-then-msg-gt1 c = let a = c.args in message_refused a.sizes.key_bytes a.sizes.tag_bits a.maclt a.msg c.in_ok-num_tags.ensures c.if-msg-gt1.true

pub returns-in_err-nt : goal.returns-in_err-nt
returns-in_err-nt c =
    let a = c.args in
    id_refused a.sizes.key_bytes a.sizes.tag_bits a.maclt a.msg c.in_ok-num_tags.ensures c.if-msg-gt1.false _ _ c.from_residual-in_err-nt.ensures.1
    c.in_err-nt.ensures

pub returns : goal.returns
returns c =
    let a = c.args in
    id_known a.sizes.key_bytes a.sizes.tag_bits a.maclt a.msg c.in_ok-num_tags.ensures c.if-msg-gt1.false c.in_ok-nt.ensures
