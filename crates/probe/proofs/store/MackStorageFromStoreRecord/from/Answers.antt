-- The C record as the store has it.
-- Assumes nothing.
use Rattle.std.proofs.Common.{rules}
use native.Mathlib.Omega.{arith}
use mathlib.Core.Path.{refl, sym, ap}
use Rattle.probe.proofs.Places.{made_turn, read_of}
use Rattle.storage.specs.declared.mack_storage.Place.{Place}
use Rattle.probe.proofs.store.MackStorageFromStoreRecord.from.Goals as goal

pub loop-p-init : goal.loop-p-init
loop-p-init c = (refl, λ k h. absurd (omega arith))

pub loop-p-preserved : goal.loop-p-preserved
loop-p-preserved c = search made_turn

pub returns : goal.returns
returns c =
    let r = c.args.from in
    let places = c.loop-p.places in
    let i = c.loop-p.invariant in
    rw (
      read_of (λ p. p.timed) places r.timed i.0 (search rules) (λ k h. sym (ap (λ (p : Place). p.timed) (i.1 k (omega (arith, c.loop-p-test.false))))),
      read_of (λ p. p.week) places r.weeks i.0 (search rules) (λ k h. sym (ap (λ (p : Place). p.week) (i.1 k (omega (arith, c.loop-p-test.false))))),
      read_of (λ p. p.tow) places r.tows i.0 (search rules) (λ k h. sym (ap (λ (p : Place). p.tow) (i.1 k (omega (arith, c.loop-p-test.false))))),
      read_of (λ p. p.count) places r.counts i.0 (search rules) (λ k h. sym (ap (λ (p : Place). p.count) (i.1 k (omega (arith, c.loop-p-test.false))))),
    )
