-- `fields::is_wide`: what is left above the field.
-- Assumes nothing.
use Rattle.transmitter.proofs.Rows.{wide_shift, wide_never}
use Rattle.transmitter.proofs.fields.is_wide.Goals as goal

pub returns-then-at-lt64 : goal.returns-then-at-lt64
returns-then-at-lt64 c = wide_shift c.args.v c.args.at.width

pub returns-else-at-lt64 : goal.returns-else-at-lt64
returns-else-at-lt64 c = wide_never c.args.v c.args.at.width c.if-at-lt64.false c.ranges.v.fits
