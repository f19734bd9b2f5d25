-- The store's places as four lists, and back.
-- Assumes nothing.
use mathlib.Core.Path.{◌≡◌, refl, sym, ◌∙◌}
use mathlib.Core.List.{List, map}
use mathlib.Core.Bool.{Bool, true, false}
use Prim.Native.Nat.{ℕ, ◌+◌, ◌<◌}
use native.Mathlib.Omega.{arith}
use lib.Dec.{eqb}
use lib.ListN.{length, get_or, set}
use borrow.Author.Tests.{eqb-true, eqb-false}
use Rattle.std.proofs.lemmas.List.{ext_get_or, get_or-map, length-map, length-set, get_or-set_same, get_or-set_other}
use Rattle.storage.specs.declared.mack_storage.Place.{Place}
use Rattle.probe.specs.declared.store.StoreRecord.{StoreRecord}

abbrev pub empty : Place
empty = record { timed = false; count = 0; week = 0; tow = 0 }

-- a list that has of each place what h reads of it
pub read_of : {X : Type 0} (h : Place → X) (places : List Place) (l : List X) → length places ≡ 12 → length l ≡ 12
    → ((k : ℕ) → k < 12 → get_or l k (h empty) ≡ h (get_or places k empty)) → l ≡ map h places
read_of h places l ep el r =
    ext_get_or
    (h empty)
    l
    (map h places)
    (el ∙ sym (length-map places h ∙ ep))
    (λ k b. r k (omega arith) ∙ sym (get_or-map h places k empty (h empty) (omega arith)))

-- the place of which a record has so much in its four lists
abbrev pub place_at : StoreRecord → ℕ → Place
place_at r k = record { timed = get_or r.timed k false; count = get_or r.counts k 0; week = get_or r.weeks k 0; tow = get_or r.tows k 0 }

-- the loop: the first n places are made
abbrev pub Made : StoreRecord → List Place → ℕ → Type 0
Made r places n = (length places ≡ 12) × ((k : ℕ) → k < n → get_or places k empty ≡ place_at r k)

pub made_turn : (r : StoreRecord) (places : List Place) (p : ℕ) → p < 12 → Made r places p → Made r (set places p (place_at r p)) (p + 1)
made_turn r places p b m = (length-set places p (place_at r p) ∙ m.0, λ k h. go k h (eqb k p) refl)
  where
    go : (k : ℕ) → k < p + 1 → (t : Bool) → eqb k p ≡ t → get_or (set places p (place_at r p)) k empty ≡ place_at r k
    go k h true e =
        let s : k ≡ p = eqb-true k p e in
        rw s (get_or-set_same places p (place_at r p) empty (omega (arith, m.0)))
    go k h false e = get_or-set_other places p k (place_at r p) empty (eqb-false k p e) ∙ m.1 k (omega (arith, eqb-false k p e))
