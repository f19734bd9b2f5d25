-- `slots::tag_breaks`: tag `n` at its slot.
-- Assumes nothing.
use Rattle.layouts.proofs.Given.{number_is}
use Rattle.recorder.proofs.TagFit.{number_ok, slot_ok, tag_fits}
use Rattle.recorder.proofs.slots.tag_breaks.Goals as goal

pub unwrap-adkd-requires : goal.unwrap-adkd-requires
unwrap-adkd-requires c = number_ok _ _ c.requires.0 _ c.adkd_number.ensures

pub unwrap-prnd-requires : goal.unwrap-prnd-requires
unwrap-prnd-requires c = number_ok _ _ c.requires.0 _ c.prnd_number.ensures

pub unwrap-slot-requires : goal.unwrap-slot-requires
unwrap-slot-requires c = slot_ok _ _ _ _ c.get_maclt_entry.ensures c.requires.1

pub returns : goal.returns
returns c =
    tag_fits c.args.maclt c.args.msg c.args.n c.get_maclt_entry.result c.get_maclt_entry.ensures c.broken_field.result c.unwrap-slot.ensures c.from.ensures
    (number_is _ _ _ c.adkd_number.ensures c.unwrap-adkd.ensures) (number_is _ _ _ c.prnd_number.ensures c.unwrap-prnd.ensures) c.broken_field.ensures
