-- `subframe::part`: the bytes that are shown.
-- Assumes nothing.
use native.Mathlib.Nat.{add-sub_cancel_left}
use Rattle.subframes.proofs.Pages.{part_bytes, part_nothing}
use Rattle.subframes.proofs.subframe.part.Goals as goal

pub returns-in_default : goal.returns-in_default
returns-in_default c = search part_nothing

pub returns : goal.returns
returns c = search (part_bytes, add-sub_cancel_left)
