-- `walk::judge`: both parts of the verdict.
-- Assumes nothing.
use native.Mathlib.Omega.{arith}
use Rattle.recorder.proofs.WalkAnswers.{Known, known, tags_ok, tags_are, table_ok, table_is, verdict_differ, verdict_same}
use Rattle.recorder.proofs.walk.judge.Goals as goal
use Rattle.recorder.proofs.walk.judge.Goals.{Start}

-- nothing is refused
passes : (c : Start) → let a = c.args in let m = a.mack in Known m.msg.now m.sizes.key_bytes m.sizes.tag_bits a.sender a.maclt a.msg
passes c = let a = c.args in let m = a.mack in known m.msg.now m.sizes.key_bytes m.sizes.tag_bits a.sender a.maclt a.msg c.requires

pub unwrap-message-requires : goal.unwrap-message-requires
unwrap-message-requires c = tags_ok _ _ _ c.num_tags.ensures (passes (goal.at.unwrap-message-requires c).Start).sizes

pub overflow_cast-message : goal.overflow_cast-message
overflow_cast-message c =
    omega (arith, (tags_are _ _ _ c.num_tags.ensures (passes (goal.at.overflow_cast-message c).Start).sizes c.unwrap-message.ensures).1)

pub unwrap-table-requires : goal.unwrap-table-requires
unwrap-table-requires c = table_ok c.args.maclt _ c.nt.ensures (passes (goal.at.unwrap-table-requires c).Start).some

pub overflow_cast-table : goal.overflow_cast-table
overflow_cast-table c = omega (arith, (table_is c.args.maclt _ c.nt.ensures c.unwrap-table.ensures).1)

pub list-timing-requires : goal.list-timing-requires
list-timing-requires c =
    let k = passes (goal.at.list-timing-requires c).Start in
    (k.mack, (tags_are _ _ _ c.num_tags.ensures k.sizes c.unwrap-message.ensures).0)

pub returns-then-table-message : goal.returns-then-table-message
returns-then-table-message c =
    let k = passes (goal.at.returns-then-table-message c).Start in
    verdict_differ _ _ _ _ _ _ (table_is c.args.maclt _ c.nt.ensures c.unwrap-table.ensures).0
    (tags_are _ _ _ c.num_tags.ensures k.sizes c.unwrap-message.ensures).0 c.list-timing.ensures
    (λ z. absurd (omega (arith, c.if-table-message.true, z)))

pub walk_tags-requires : goal.walk_tags-requires
walk_tags-requires c =
    let k = passes (goal.at.walk_tags-requires c).Start in
    let message = (tags_are _ _ _ c.num_tags.ensures k.sizes c.unwrap-message.ensures).0 in
    ((k.mack, message), k.low, omega (arith, c.if-table-message.false, (table_is c.args.maclt _ c.nt.ensures c.unwrap-table.ensures).0))

pub returns : goal.returns
returns c =
    let k = passes (goal.at.returns c).Start in
    verdict_same _ _ _ _ _ _ (table_is c.args.maclt _ c.nt.ensures c.unwrap-table.ensures).0
    (tags_are _ _ _ c.num_tags.ensures k.sizes c.unwrap-message.ensures).0 c.list-timing.ensures
    (omega (arith, c.if-table-message.false)) c.walk_tags.ensures
