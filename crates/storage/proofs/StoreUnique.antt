-- Two answers of the MACK store that meet a promise agree, with the record and every lent byte.
-- Assumes nothing.
use mathlib.Core.Path.{◌≡◌, refl, sym, ap, ◌∙◌}
use mathlib.Core.List.{List, [], ◌∷◌, map}
use mathlib.Core.Bool.{Bool}
use Prim.Native.Nat.{ℕ}
use Rattle.std.specs.Prelude.{Result, Ok, Err, Option, Some, None}
use Rattle.std.specs.Bool.{⊤}
use Rattle.layouts.specs.declared.refusal.Refusal.{Refusal}
use Rattle.layouts.proofs.Back.{refusal_at, undo_refusal}
use Rattle.layouts.specs.Agree.{Agree, AgreeWith}
use Rattle.layouts.specs.Answer.{Answer, refused, nothing, gives}
use Rattle.storage.specs.Store.{Storage, Asked, Call, Outcome}
use Rattle.storage.specs.Agreed.{Agreed}
use Rattle.storage.specs.StorePromises.{storage_of, outcome, meaning_store, meaning_get, NewStorage, StoreMack, GetMack}
use Rattle.storage.specs.declared.mack_storage.MackStorage.{MackStorage}
use Rattle.storage.specs.declared.mack_storage.Place.{Place}
use Rattle.storage.specs.declared.mack_storage.MackStored.{MackStored}
use Rattle.storage.specs.declared.mack_storage.MackFound.{MackFound}

-- `back` undoes each `meaning`
abbrev back_store : Answer → Result ⊤ Refusal
back_store (refused n) = Err (refusal_at n)
back_store nothing = Ok tt
back_store (gives l) = Ok tt

undo_store : (r : Result ⊤ Refusal) → back_store (meaning_store r) ≡ r
undo_store (Ok x) = refl
undo_store (Err e) = ap Err (undo_refusal e)

abbrev back_found : Answer → Result (Option MackFound) Refusal
back_found (refused n) = Err (refusal_at n)
back_found nothing = Ok None
back_found (gives []) = Ok None
back_found (gives (f ∷ [])) = Ok None
back_found (gives (f ∷ s ∷ l)) = Ok (Some (record { first = f; status = s }))

undo_found : (r : Result (Option MackFound) Refusal) → back_found (meaning_get r) ≡ r
undo_found (Ok (Some m)) = refl
undo_found (Ok None) = refl
undo_found (Err e) = ap Err (undo_refusal e)

-- the code's record is the definition's
abbrev back_places : List Bool → List ℕ → List ℕ → List ℕ → List Place
back_places (t ∷ ts) (w ∷ ws) (u ∷ us) (c ∷ cs) = record { timed = t; count = c; week = w; tow = u } ∷ back_places ts ws us cs
back_places ts ws us cs = []

undo_places : (l : List Place) → back_places (map (λ p. p.timed) l) (map (λ p. p.week) l) (map (λ p. p.tow) l) (map (λ p. p.count) l) ≡ l
undo_places [] = refl
undo_places (p ∷ l) = ap (λ (k : List Place). p ∷ k) (undo_places l)

abbrev back_storage : Storage → MackStorage
back_storage o =
    record {
      current = o.current;
      places = back_places o.timed o.weeks o.tows o.counts;
      satellites = o.satellites;
      statuses = o.statuses;
    }

undo_storage : (r : MackStorage) → back_storage (storage_of r) ≡ r
undo_storage r = ap (λ (l : List Place). record { current = r.current; places = l; satellites = r.satellites; statuses = r.statuses }) (undo_places r.places)

new_storage : Agree NewStorage
new_storage r s p q = sym (undo_storage r) ∙ ap back_storage (p ∙ sym q) ∙ undo_storage s

abbrev back_stored : Outcome → MackStored
back_stored f = record { storage = back_storage f.state.storage; answer = back_store f.answer }

store_mack : (o : MackStorage) (m : List ℕ) (c : Call) → AgreeWith (StoreMack o m c)
store_mack o m c r s x y p q =
    let e : outcome r x ≡ outcome s y = p ∙ sym q in
    (whole r ∙ ap back_stored e ∙ sym (whole s), ap (λ (f : Outcome). f.state.memory) e)
  where
    whole : (f : MackStored) → ◌≡◌ {A = MackStored} f (back_stored (outcome f []))
    whole f = rw (undo_storage f.storage, undo_store f.answer)

get_mack : (o : MackStorage) (a : Asked) → Agree (GetMack o a)
get_mack o a r s p q = sym (undo_found r) ∙ ap back_found (p ∙ sym q) ∙ undo_found s

pub agreed : Agreed
agreed = record { new = new_storage; store = store_mack; get = get_mack }
