-- `slots::walk_tags`: before each turn the tags before `tag` fit, so that what is left, walked from it on, gives what all gives.
-- Assumes nothing.
use native.Mathlib.Omega.{arith}
use Rattle.recorder.proofs.WalkTags.{tags_known, tag_ready, fits_on, breaks_here, all_walked}
use Rattle.recorder.proofs.slots.walk_tags.Goals as goal

pub tag_breaks-requires : goal.tag_breaks-requires
tag_breaks-requires c =
    let m = c.args.mack in
    tag_ready m.msg.now m.sizes.key_bytes m.sizes.tag_bits c.args.maclt c.args.msg c.requires c.from.ensures c.loop-tag.auto.tag c.loop-tag-test.true

pub returns-in-Some : goal.returns-in-Some
returns-in-Some c =
    let h = c.loop-tag in
    breaks_here c.args.mack.msg.now c.args.mack.sizes.tag_bits c.args.sender c.args.maclt c.args.msg h.tag c.requires.2 h.auto.tag c.loop-tag-test.true
    h.invariant c.from.ensures c.tag_breaks.result c.tag_breaks.ensures c.in-Some.field c.in-Some.is

pub loop-tag-preserved : goal.loop-tag-preserved
loop-tag-preserved c =
    let h = c.loop-tag in
    fits_on c.args.mack.msg.now c.args.mack.sizes.tag_bits c.args.sender c.args.maclt c.args.msg h.tag c.requires.2 h.auto.tag c.loop-tag-test.true
    h.invariant c.from.ensures c.tag_breaks.result c.tag_breaks.ensures c.in_default.is

pub returns : goal.returns
returns c =
    let h = c.loop-tag in
    let m = c.args.mack in
    let some = (tags_known m.msg.now m.sizes.key_bytes m.sizes.tag_bits c.requires.0).0 in
    all_walked m.msg.now m.sizes.tag_bits c.args.sender c.args.maclt c.args.msg h.tag c.requires.2 h.auto.tag
    (omega (arith, some, h.auto.tag-end, c.loop-tag-test.false)) h.invariant
