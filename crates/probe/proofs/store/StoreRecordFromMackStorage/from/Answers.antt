-- The store as the C record has it.
-- Assumes nothing.
use mathlib.Core.Bool.{false}
use Rattle.std.proofs.Common.{rules}
use Rattle.probe.proofs.Places.{read_of, empty}
use Rattle.probe.proofs.store.StoreRecordFromMackStorage.from.Goals as goal

pub returns : goal.returns
returns c =
    let l = c.args.from.places in
    rw (
      read_of (λ p. p.timed) l c.map.result (search rules) c.map.ensures.items.long (λ k h. let m = c.map.ensures.items.at k empty false h in search rules),
      read_of (λ p. p.week) l c.map-2.result (search rules) c.map-2.ensures.items.long (λ k h. let m = c.map-2.ensures.items.at k empty 0 h in search rules),
      read_of (λ p. p.tow) l c.map-3.result (search rules) c.map-3.ensures.items.long (λ k h. let m = c.map-3.ensures.items.at k empty 0 h in search rules),
      read_of (λ p. p.count) l c.map-4.result (search rules) c.map-4.ensures.items.long (λ k h. let m = c.map-4.ensures.items.at k empty 0 h in search rules),
    )
