-- `trace::feed_all`: the refusals, then the entries.
-- Assumes nothing.
use mathlib.Core.Path.{refl}
use Rattle.layouts.proofs.Refused.{number_some}
use Rattle.subframes.specs.SubframePromises.{state}
use Rattle.subframes.proofs.Entries.{all_refused, all_asks, all_fed}
use Rattle.subframes.proofs.trace.feed_all.Goals as goal

pub returns-in-Err : goal.returns-in-Err
returns-in-Err c =
    let a = c.args in
    all_refused (state a.collector a.hkroot.now a.mack.now) a.trace.now c.in-Err.ensures (number_some c.in-Err.refusal)

pub feed_entries-requires : goal.feed_entries-requires
feed_entries-requires c =
    let a = c.args in all_asks (state a.collector a.hkroot.now a.mack.now) a.trace.now c.in_default.ensures refl

pub returns : goal.returns
returns c =
    let a = c.args in all_fed (state a.collector a.hkroot.now a.mack.now) a.trace.now c.in_default.ensures refl c.feed_entries.ensures
