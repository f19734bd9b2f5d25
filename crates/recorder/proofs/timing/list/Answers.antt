-- `timing::list`: before each turn the tags before `n` that hold ADKD 4 are listed.
-- Assumes nothing.
use Prim.Native.Nat.{◌≤◌}
use native.Mathlib.Omega.{arith}
use Rattle.recorder.proofs.WalkTags.{tags_known}
use Rattle.recorder.proofs.TimingList.{none_yet, adkd_read, adkd_value, has_room, listed_too, not_listed, all_listed}
use Rattle.recorder.proofs.timing.list.Goals as goal
use Rattle.recorder.proofs.timing.list.Goals.{then-unwrap-eq4, else-unwrap-eq4}

pub loop-n-init : goal.loop-n-init
loop-n-init c = none_yet c.args.mack.msg.now c.args.mack.sizes.tag_bits

pub unwrap-requires : goal.unwrap-requires
unwrap-requires c =
    let m = c.args.mack in
    adkd_read m.msg.now m.sizes.key_bytes m.sizes.tag_bits c.requires c.from.ensures c.loop-n.auto.n c.loop-n-test.true c.adkd_number.result
    c.adkd_number.ensures

-- a tag in the loop has room in the list
pub bounds-tags-from : goal.bounds-tags-from
bounds-tags-from c =
    let m = c.args.mack in
    let room = has_room c.loop-n.invariant (omega (arith, c.loop-n-test.true, (tags_known m.msg.now m.sizes.key_bytes m.sizes.tag_bits c.requires).1)) in
    omega (arith, room, c.from-then-unwrap-eq4.ensures)

pub overflow_add-count : goal.overflow_add-count
overflow_add-count c =
    let m = c.args.mack in
    let room = has_room c.loop-n.invariant (omega (arith, c.loop-n-test.true, (tags_known m.msg.now m.sizes.key_bytes m.sizes.tag_bits c.requires).1)) in
    omega (arith, room)

pub loop-n-preserved : goal.loop-n-preserved
loop-n-preserved c =
    let h = c.loop-n in
    let m = c.args.mack in
    let few : h.n ≤ 9 = omega (arith, c.loop-n-test.true, (tags_known m.msg.now m.sizes.key_bytes m.sizes.tag_bits c.requires).1) in
    let adkd =
    adkd_value m.msg.now m.sizes.key_bytes m.sizes.tag_bits c.from.ensures c.adkd_number.result c.adkd_number.ensures c.unwrap.ensures in
    elim c.if-unwrap-eq4.branch [
      | then-unwrap-eq4 w ↦ listed_too h.invariant few adkd w.if-unwrap-eq4.true w.from-then-unwrap-eq4.ensures w.tags-is w.count-is
      | else-unwrap-eq4 w ↦ not_listed h.invariant adkd w.if-unwrap-eq4.false w.tags-is w.count-is
    ]

pub returns : goal.returns
returns c =
    let h = c.loop-n in
    let m = c.args.mack in
    let some = (tags_known m.msg.now m.sizes.key_bytes m.sizes.tag_bits c.requires).0 in
    all_listed h.invariant m.sizes.key_bytes c.requires.1 (omega (arith, some, h.auto.n-end, c.loop-n-test.false))
