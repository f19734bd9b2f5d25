-- `replay::run`: before each turn the state is what the first `k` pages make of the record.
-- Assumes nothing.
use Prim.Native.Nat.{ℕ}
use mathlib.Core.Path.{◌≡◌, refl, ap, ◌∙◌}
use native.Mathlib.Omega.{arith}
use Rattle.page_replay.specs.Replay.{replayed, pages_of}
use Rattle.page_replay.specs.inner.Steps.{ran}
use Rattle.page_replay.specs.ReplayPromises.{state}
use Rattle.page_replay.proofs.PageFold.{turn_range, turn_room, turn_one, turn_again, slice_30, slice_long, sound_first}
use Rattle.page_replay.proofs.replay.run.Goals as goal

pub loop-k-init : goal.loop-k-init
unfolding replayed pages_of
loop-k-init c = refl

pub and_then-requires : goal.and_then-requires
and_then-requires c =
    let first = sound_first c.args.«record» _ _ _ c.requires.0 c.requires.1 in
    let h = c.loop-k in record {
      in_range = (
        turn_range (state c.args.«record» c.args.hkroot.now c.args.mack.now c.args.dsm.now) c.args.pages.now h.k h.so_far h.hkroot h.mack h.dsm h.invariant first,
        turn_room (state c.args.«record» c.args.hkroot.now c.args.mack.now c.args.dsm.now) c.args.pages.now h.k h.so_far h.hkroot h.mack h.dsm h.invariant first (omega arith),
        slice_long c.args.pages.now h.k c.args.n (omega arith) c.requires.3,
      );
      at_most_one = turn_one (state c.args.«record» c.args.hkroot.now c.args.mack.now c.args.dsm.now) c.args.pages.now h.k h.so_far h.hkroot h.mack h.dsm h.invariant (slice_30 c.args.pages.now h.k) (omega arith);
    }

pub loop-k-preserved : goal.loop-k-preserved
loop-k-preserved c =
    let p = c.and_then in
    let h = c.loop-k in
    turn_again (state c.args.«record» c.args.hkroot.now c.args.mack.now c.args.dsm.now) c.args.pages.now h.k h.so_far h.hkroot h.mack h.dsm h.invariant (slice_30 c.args.pages.now h.k)
    {y = ran p.new.so_far p.new.hkroot p.new.mack p.new.dsm} p.ensures

pub returns : goal.returns
returns c =
    let a = c.args in
    let h = c.loop-k in
    let end : h.k ≡ a.n = omega arith in
    let s = state a.«record» a.hkroot.now a.mack.now a.dsm.now in
    h.invariant ∙ ap (λ (k : ℕ). replayed s (pages_of k a.pages.now)) end
