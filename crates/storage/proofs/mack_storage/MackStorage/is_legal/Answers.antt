-- `MackStorage::is_legal`: the current place, then every place.
-- Assumes nothing.
use mathlib.Core.Path.{refl, ◌∙◌}
use borrow.Author.Rules.{rules}
use borrow.Author.Tests.{tests}
use Rattle.std.proofs.lemmas.Iterator.{YieldsList-from_range}
use Rattle.std.proofs.lemmas.Iterator.Search.{all_from_yields_List}
use Rattle.storage.specs.Store.{legal_place}
use Rattle.storage.specs.StorePromises.{storage_of}
use Rattle.storage.proofs.Searches.{all_ranged}
use Rattle.storage.proofs.StoreRecord.{current_off, places_are}
use Rattle.storage.proofs.mack_storage.MackStorage.is_legal.Goals as goal

pub returns-then-self-lt12 : goal.returns-then-self-lt12
returns-then-self-lt12 c =
    let o = storage_of c.args.self.now in
    places_are 36 12 o c.if-self-lt12.true
    (all_from_yields_List (legal_place 36 o) _ _ _ c.all.ensures.ran (YieldsList-from_range 0 12 12 refl refl) (λ x b q k. search (rules, tests))
    ∙ all_ranged (legal_place 36 o) 12)

pub returns-else-self-lt12 : goal.returns-else-self-lt12
returns-else-self-lt12 c = current_off 36 12 (storage_of c.args.self.now) c.if-self-lt12.false
