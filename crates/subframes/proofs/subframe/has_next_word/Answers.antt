-- `subframe::has_next_word`: the word against the count, which is 0 after a change.
-- Assumes nothing.
use native.Mathlib.Omega.{arith}
use mathlib.Core.List.{[]}
use Prim.Native.Nat.{◌≤◌}
use Rattle.subframes.specs.Subframe.{State, Page}
use Rattle.subframes.specs.SubframePromises.{state, page_of}
use Rattle.subframes.proofs.Pages.{asked_is, used_other_week, used_other_subframe, used_same}
use Rattle.subframes.proofs.subframe.has_next_word.Goals as goal
use Rattle.subframes.proofs.subframe.has_next_word.Goals.{Start, then-collector-stamp+else-collector-stamp-2, else-collector-stamp}

-- the record, and the page that is asked for
abbrev s : Start → State
s c = state c.args.collector [] []

abbrev p : Start → Page
p c = page_of c.args.stamp []

in_range : (c : Start) → (1 ≤ c.args.stamp.satellite) × (c.args.stamp.satellite ≤ 36) × (c.args.stamp.time ≤ 604799)
in_range c = asked_is (s c) (p c) c.requires

pub overflow_sub-i : goal.overflow_sub-i
overflow_sub-i c = (in_range (goal.at.overflow_sub-i c).Start).0

pub bounds-collector-i : goal.bounds-collector-i
bounds-collector-i c = let i = in_range (goal.at.bounds-collector-i c).Start in omega (arith, i.0, i.1)

pub overflow_cast-stamp : goal.overflow_cast-stamp
overflow_cast-stamp c = omega (arith, (in_range (goal.at.overflow_cast-stamp c).Start).2)

pub returns-then-collector-stamp-2 : goal.returns-then-collector-stamp-2
returns-then-collector-stamp-2 c =
    let b = (goal.at.returns-then-collector-stamp-2 c).Start in used_same (s b) (p b) b.requires c.if-collector-stamp.true c.if-collector-stamp-2.true

pub returns : goal.returns
returns c =
    let b = (goal.at.returns c).Start in
    elim c.if-collector-stamp.branch [
      | then-collector-stamp+else-collector-stamp-2 w ↦
          used_other_subframe (s b) (p b) b.requires w.if-collector-stamp.true w.if-collector-stamp-2.false
      | else-collector-stamp w ↦ used_other_week (s b) (p b) b.requires w.if-collector-stamp.false
    ]
