-- `trace::feed_entries`: a turn, when its entry was checked, and when its page was taken.
-- Assumes nothing.
use mathlib.Core.Path.{refl, sym, ◌∙◌}
use native.Mathlib.Omega.{arith}
use Rattle.layouts.specs.Refusals.{refusal_number}
use Rattle.layouts.proofs.Refused.{number_some}
use Rattle.subframes.specs.SubframePromises.{state}
use Rattle.subframes.proofs.Entries.{Turn, Taken, turn_first, turn_none, turn_ends, turn_asks, turn_time, turn_satellite}
use Rattle.subframes.proofs.Entries.{turn_sound, turn_last, turn_goes_on}
use Rattle.subframes.proofs.trace.feed_entries.Goals as goal
use Rattle.subframes.proofs.trace.feed_entries.Goals.{In-Err, In_default, After-take_page-taken}

abbrev refused_turn : In-Err → Turn
refused_turn c =
    record {
      s₀ = _;
      s = _;
      trace = _;
      k = _;
      e = c.entry_at-stamp.result;
      q = refusal_number c.in-Err.refusal;
      left = c.loop-n.invariant;
      inside = c.loop-n-test.true;
      entry_is = c.entry_at-stamp.ensures;
      number_is = c.in-Err.ensures;
    }

abbrev turn : In_default → Turn
turn c =
    record {
      s₀ = _;
      s = _;
      trace = _;
      k = _;
      e = c.entry_at-stamp.result;
      q = 0;
      left = c.loop-n.invariant;
      inside = c.loop-n-test.true;
      entry_is = c.entry_at-stamp.ensures;
      number_is = c.in_default.ensures;
    }

abbrev taken : After-take_page-taken → Taken
taken c =
    record {
      turn = record {
        s₀ = _;
        s = _;
        trace = _;
        k = _;
        e = c.entry_at-stamp.result;
        q = 0;
        left = c.loop-n.invariant;
        inside = c.loop-n-test.true;
        entry_is = c.entry_at-stamp.ensures;
        number_is = c.in_default.ensures;
      };
      passed = refl;
      r = c.take_page-taken.result;
      counts = _;
      hkroot = _;
      mack = _;
      fed = c.take_page-taken.ensures;
    }

pub loop-n-init : goal.loop-n-init
loop-n-init c =
    let a = c.args in turn_first (state a.collector a.hkroot.now a.mack.now) a.trace.now c.requires

pub returns-in-Err : goal.returns-in-Err
returns-in-Err c = turn_ends (refused_turn (goal.at.returns-in-Err c).In-Err) (number_some c.in-Err.refusal) c.ended.ensures (c.fed.ensures _ _)

pub take_page-taken-requires : goal.take_page-taken-requires
take_page-taken-requires c = turn_asks (turn (goal.at.take_page-taken-requires c).In_default) refl

pub overflow_cast-subframe : goal.overflow_cast-subframe
overflow_cast-subframe c = let w = taken (goal.at.overflow_cast-subframe c).After-take_page-taken in omega (arith, turn_time w.turn w.passed)

pub overflow_sub-i : goal.overflow_sub-i
overflow_sub-i c = let w = taken (goal.at.overflow_sub-i c).After-take_page-taken in (turn_satellite w.turn w.passed).0

pub is_silent-silent-requires : goal.is_silent-silent-requires
is_silent-silent-requires c =
    let w = taken (goal.at.is_silent-silent-requires c).After-take_page-taken in
    let s = turn_satellite w.turn w.passed in
    ((turn_sound w).h540, (turn_sound w).m2160, omega (arith, s.0, s.1))

pub returns-then-is_last : goal.returns-then-is_last
returns-then-is_last c =
    turn_last (taken (goal.at.returns-then-is_last c).After-take_page-taken) (sym c.is_last.ensures ∙ c.if-is_last.true) c.is_silent-silent.ensures
    c.out_of-pair.ensures (c.fed-then-is_last.ensures _ _)

pub loop-n-preserved : goal.loop-n-preserved
loop-n-preserved c = turn_goes_on (taken (goal.at.loop-n-preserved c).After-take_page-taken) (sym c.is_last.ensures ∙ c.if-is_last.false)

pub returns : goal.returns
returns c = turn_none c.loop-n.invariant c.loop-n-test.false (c.fed-2.ensures _ _)
