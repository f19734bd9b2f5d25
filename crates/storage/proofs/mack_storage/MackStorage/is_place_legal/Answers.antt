-- `MackStorage::is_place_legal`: time and count, then the messages, which lie among all of them.
-- Assumes nothing.
use native.Mathlib.Omega.{arith}
use Rattle.storage.specs.StorePromises.{storage_of}
use Rattle.storage.specs.inner.Places.{nth}
use Rattle.storage.proofs.StoreRecord.{time_count, place_is, place_off, place_on}
use Rattle.storage.proofs.mack_storage.MackStorage.is_place_legal.Goals as goal

pub returns-else-is_legal : goal.returns-else-is_legal
returns-else-is_legal c =
    let r = c.args.self.now in
    let p = c.args.p in
    place_off 36 (storage_of r) p (nth r p) (place_is r p) c.is_legal.ensures c.if-is_legal.false

pub entries_legal-requires : goal.entries_legal-requires
entries_legal-requires c =
    let h = nth c.args.self.now c.args.p in
    let few = time_count 36 h.timed h.week h.tow h.count c.is_legal.ensures c.if-is_legal.true in
    (omega (arith, few, c.from.ensures), omega (arith, few, c.from.ensures))

pub returns-then-is_legal : goal.returns-then-is_legal
returns-then-is_legal c =
    let r = c.args.self.now in
    let p = c.args.p in
    place_on 36 (storage_of r) p (nth r p) (place_is r p) c.is_legal.ensures c.if-is_legal.true c.from.ensures c.entries_legal.ensures
