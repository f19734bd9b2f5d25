-- `MackStorage::lowest`: the first place with that time.
-- Assumes nothing.
use mathlib.Core.Path.{◌≡◌}
use mathlib.Core.Bool.{true, false}
use borrow.Author.Rules.{rules}
use borrow.Author.Tests.{tests}
use Rattle.std.proofs.lemmas.Iterator.{IsFirst-from_position, YieldsList-from_slice}
use Rattle.storage.specs.Store.{is_time}
use Rattle.storage.specs.declared.mack_storage.Place.{Place}
use Rattle.storage.proofs.StoreRecord.{reaches}
use Rattle.storage.proofs.mack_storage.MackStorage.lowest.Goals as goal

pub returns : goal.returns
returns c =
    let a = c.args in
    reaches 12 a.self.now a.week a.time c.position.result (search rules)
    (IsFirst-from_position _ _ c.position.result (λ (p : Place). is_time p.timed p.week p.tow a.week a.time ≡ true)
    (λ (p : Place). is_time p.timed p.week p.tow a.week a.time ≡ false) c.position.ensures.ran (YieldsList-from_slice a.self.now.places cc)
    (λ x q k. search (rules, tests)) (λ x q k. search (rules, tests)))
