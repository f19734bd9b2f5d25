-- `MackStorage::enter`: the definition, field by field.
-- Assumes nothing.
use mathlib.Core.Path.{refl}
use mathlib.Core.Bool.{true}
use Prim.Native.Nat.{◌+◌}
use lib.Seq.{map-set}
use Rattle.storage.specs.Store.{entered}
use Rattle.storage.specs.declared.mack_storage.Place.{Place}
use Rattle.storage.proofs.mack_storage.MackStorage.enter.Goals as goal

pub returns : goal.returns
unfolding entered
returns c =
    let l = c.args.self.places in
    let p = c.args.slot.place in
    let here : Place = record { timed = true; count = c.args.slot.number + 1; week = c.args.stamp.week; tow = c.args.stamp.time } in
    rw (
      c.entry-i.ensures,
      map-set (λ (x : Place). x.timed) l p here,
      map-set (λ (x : Place). x.week) l p here,
      map-set (λ (x : Place). x.tow) l p here,
      map-set (λ (x : Place). x.count) l p here,
    ) refl
