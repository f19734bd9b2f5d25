-- `subframe::hkroot_message`: the bytes that `view_shown` tells of.
-- Assumes nothing.
use Rattle.subframes.specs.SubframePromises.{meaning_message}
use Rattle.subframes.proofs.Pages.{message_refused, message_nothing, message_bytes, message_room_15}
use Rattle.layouts.proofs.Refused.{carry}
use Rattle.subframes.proofs.subframe.hkroot_message.Goals as goal

pub returns-in_err-part : goal.returns-in_err-part
returns-in_err-part c =
    let a = c.args in
    carry meaning_message _ _ c.from_residual.ensures.1 (message_refused a.collector a.hkroot.now a.mack.now a.satellite _ c.in_err-part.ensures)

pub returns-in_default : goal.returns-in_default
returns-in_default c =
    let a = c.args in message_nothing a.collector a.hkroot.now a.mack.now a.satellite c.in_ok-part.ensures c.in_default.is

pub message_at-bytes-requires : goal.message_at-bytes-requires
message_at-bytes-requires c =
    let a = c.args in message_room_15 a.collector a.hkroot.now a.mack.now a.satellite c.in_ok-part.ensures c.in-Some.is

pub returns : goal.returns
returns c =
    let a = c.args in
    message_bytes a.collector a.hkroot.now a.mack.now a.satellite c.in_ok-part.ensures c.in-Some.is c.message_at-bytes.ensures
