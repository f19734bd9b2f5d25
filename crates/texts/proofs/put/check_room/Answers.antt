-- `put::check_room`: 1, or nothing.
-- Assumes nothing.
use native.Mathlib.Omega.{arith}
use Rattle.texts.proofs.PutTexts.{room_off, room_on}
use Rattle.texts.proofs.put.check_room.Goals.{then-long-at-via-then-long-at, then-long-at-via-else-long-at+then-long-at-2}
use Rattle.texts.proofs.put.check_room.Goals as goal

pub returns-then-long-at : goal.returns-then-long-at
returns-then-long-at c = elim c.then-long-at.branch [
  | then-long-at-via-then-long-at w ↦ room_off c.args.long c.args.at c.args.many (omega arith)
  | then-long-at-via-else-long-at+then-long-at-2 w ↦ room_off c.args.long c.args.at c.args.many (omega arith)
]

pub returns : goal.returns
returns c = room_on c.args.long c.args.at c.args.many (omega arith)
