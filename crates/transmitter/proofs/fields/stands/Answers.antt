-- `fields::stands`: the message has the field, so that nothing is refused.
-- Assumes nothing.
use Rattle.transmitter.proofs.Rows.{stands_there, stands_value}
use Rattle.transmitter.proofs.fields.stands.Goals as goal

pub unwrap-requires : goal.unwrap-requires
unwrap-requires c = search stands_there

pub returns : goal.returns
returns c = search stands_value
