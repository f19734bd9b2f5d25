-- `slots::broken_field`: a tag at a slot.
-- Assumes nothing.
use Rattle.recorder.proofs.TagFit.{flex_fits, adkd_breaks, prnd_breaks, both_fit}
use Rattle.recorder.proofs.slots.broken_field.Goals as goal

pub returns-then-adkd-asked : goal.returns-then-adkd-asked
returns-then-adkd-asked c = search adkd_breaks

pub returns-then-not-prnd_fits : goal.returns-then-not-prnd_fits
returns-then-not-prnd_fits c = search prnd_breaks

pub returns-in-Flex : goal.returns-in-Flex
returns-in-Flex c = search flex_fits

pub returns-else-not-prnd_fits : goal.returns-else-not-prnd_fits
returns-else-not-prnd_fits c = search both_fit
