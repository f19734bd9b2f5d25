-- `subframe::view_shown`: each case of the definition.
-- Assumes nothing.
use Prim.Native.Nat.{◌≤◌}
use mathlib.Core.Path.{◌≡◌, refl}
use lib.ListN.{length}
use native.Mathlib.Omega.{arith}
use Rattle.layouts.proofs.Refused.{number_some}
use Rattle.subframes.specs.SubframePromises.{state, size_of, meaning_shown}
use Rattle.subframes.proofs.Pages.{seen_satellite, view_refused, view_less, view_15}
use Rattle.layouts.proofs.Refused.{carry}
use Rattle.subframes.proofs.subframe.view_shown.Goals as goal
use Rattle.subframes.proofs.subframe.view_shown.Goals.{In_ok-check_view}

seen_here : (c : In_ok-check_view)
    → (1 ≤ c.args.satellite) × (c.args.satellite ≤ 36) × (length c.args.hkroot.now ≡ 540) × (length c.args.mack.now ≡ 2160)
seen_here c = let a = c.args in seen_satellite (state a.collector a.hkroot.now a.mack.now) a.satellite c.in_ok-check_view.ensures refl

pub returns-in_err-check_view : goal.returns-in_err-check_view
returns-in_err-check_view c =
    let a = c.args in
    carry meaning_shown _ _ c.from_residual.ensures.1
    (view_refused (state a.collector a.hkroot.now a.mack.now) (size_of a.message) a.satellite c.in_err-check_view.ensures (number_some _))

pub overflow_sub-i : goal.overflow_sub-i
overflow_sub-i c = (seen_here (goal.at.overflow_sub-i c).In_ok-check_view).0

pub bounds-collector-i : goal.bounds-collector-i
bounds-collector-i c = let f = seen_here (goal.at.bounds-collector-i c).In_ok-check_view in omega (arith, f.0, f.1)

pub returns-then-collector-i-ne15 : goal.returns-then-collector-i-ne15
returns-then-collector-i-ne15 c =
    let a = c.args in
    view_less (state a.collector a.hkroot.now a.mack.now) (size_of a.message) a.satellite c.in_ok-check_view.ensures refl c.if-collector-i-ne15.true

pub returns : goal.returns
returns c =
    let a = c.args in
    view_15 (state a.collector a.hkroot.now a.mack.now) (size_of a.message) a.satellite c.in_ok-check_view.ensures refl c.if-collector-i-ne15.false
    c.message_bytes-many.ensures
