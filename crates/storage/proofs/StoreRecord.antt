-- Laws of the MACK store's record: what is in range, the ring, and the loops over places and messages.
-- Assumes nothing.
use Prim.Native.Nat.{ℕ, ◌+◌, ◌*◌, ◌≤◌, ◌<◌}
use native.Mathlib.Nat.{mul-suc, mul-le-mul_left}
use native.Mathlib.Omega.{arith}
use mathlib.Core.Path.{◌≡◌, refl, sym, ap, ◌∙◌}
use mathlib.Core.List.{List}
use mathlib.Core.Bool.{Bool, true, false, cond, ◌&&◌}
use lib.ListN.{length, get_or, get_or-map}
use lib.Dec.{leb, ltb, eqb}
use borrow.Author.Tests.{le-ltb, lt-ltb, eqb-true, eqb-false, leb-true, ltb-true}
use Rattle.layouts.specs.Lists.{all}
use Rattle.storage.specs.Store.{Storage, legal_entry, legal_time, legal_entries, legal_place, legal, is_time, has_time, next_place, reached}
use Rattle.std.specs.Prelude.{Option, Some, None}
use Rattle.std.specs.Option.{MatchOption}
use Rattle.storage.specs.declared.mack_storage.Place.{Place}
use Rattle.storage.specs.inner.Places.{IsPlace, Reaches, nowhere, nth}
use Rattle.storage.specs.StorePromises.{storage_of}
use Rattle.storage.specs.declared.mack_storage.MackStorage.{MackStorage}
use Rattle.std.specs.List.{AllWithin, HoldsAt, fold, zip}
use Rattle.std.proofs.lemmas.List.{take_all}
use Rattle.std.proofs.lemmas.Slice.Zip.{length-zip, get_or-zip}
use Rattle.storage.proofs.Bytes.{part, part_long, part_byte}
use Rattle.storage.proofs.Searches.{and_left, and_right, and_first, and_only, all_at, all_same, folded, first_is, first_past}

-- The messages of a place are in range: a fold over satellites and statuses.
abbrev pub legal_at : List ℕ → List ℕ → ℕ → ℕ → Bool
legal_at satellites statuses at j = legal_entry (get_or satellites (at + j) 0) (get_or statuses (at + j) 0)

abbrev pub legal_pair : ℕ × ℕ → Bool
legal_pair p = legal_entry p.0 p.1

pub entries_folded :
    (satellites statuses : List ℕ) (at many : ℕ) → at + many ≤ length satellites → at + many ≤ length statuses
    → fold (λ b p. b && legal_pair p) true (zip (part at many satellites) (part at many statuses)) ≡ legal_entries satellites statuses at many
unfolding legal_entries
entries_folded satellites statuses at many h k =
    let xs = part at many satellites in
    let ys = part at many statuses in
    let l = zip xs ys in
    let lx = part_long at many satellites h in
    let ly = part_long at many statuses k in
    let long : length l ≡ many = omega (arith, lx, ly, length-zip xs ys) in
    ap (fold (λ b p. b && legal_pair p) true) (sym (take_all many l (omega (arith, long))))
    ∙ folded legal_pair l (0, 0) many (omega (arith, long))
    ∙ all_same (λ j. legal_pair (get_or l j (0, 0))) (legal_at satellites statuses at) many
    (λ j g.
    rw (get_or-zip xs ys j (0, 0) (omega (arith, lx)) (omega (arith, ly)), part_byte at many satellites j g, part_byte at many statuses j g) refl)

-- The ring.
module _ (times p : ℕ) where
  pub next_below : p < times → next_place times p < times
  unfolding next_place
  next_below h = go (eqb (p + 1) times) refl
    where
      go : (b : Bool) → eqb (p + 1) times ≡ b → cond b 0 (p + 1) < times
      go true e = omega arith
      go false e = omega (arith, eqb-false (p + 1) times e)

-- a message of a place lies among all of them
pub room : (messages times p j : ℕ) → p < times → j ≤ messages → messages * p + j ≤ messages * times
room messages times p j h g = omega (arith, mul-le-mul_left messages h, mul-suc messages p)

abbrev pub time_at : ℕ → Storage → ℕ → Bool
time_at messages o p = legal_time messages (get_or o.timed p false) (get_or o.weeks p 0) (get_or o.tows p 0) (get_or o.counts p 0)

abbrev pub entries_at : ℕ → Storage → ℕ → Bool
entries_at messages o p = legal_entries o.satellites o.statuses (messages * p) (get_or o.counts p 0)

-- a place whose count is in range
pub time_count : (messages : ℕ) (timed : Bool) (week tow count : ℕ) {b : Bool} → b ≡ legal_time messages timed week tow count → b ≡ true → count ≤ messages
unfolding legal_time
time_count messages timed week tow count e g = leb-true count messages (and_left (leb count messages) _ (sym e ∙ g))

-- place p of the record has the numbers of place p
pub place_is : (r : MackStorage) (p : ℕ) → IsPlace (storage_of r) p (nth r p)
place_is r p =
    record {
      timed_is = sym (get_or-map (λ (x : Place). x.timed) r.places p nowhere);
      week_is = sym (get_or-map (λ (x : Place). x.week) r.places p nowhere);
      tow_is = sym (get_or-map (λ (x : Place). x.tow) r.places p nowhere);
      count_is = sym (get_or-map (λ (x : Place). x.count) r.places p nowhere);
    }

-- the code's place is legal where its time and its messages are
module _ (messages : ℕ) (o : Storage) (p : ℕ) (here : Place) (h : IsPlace o p here) {a : Bool} (e : a ≡ legal_time messages here.timed here.week here.tow here.count) where
  same_legal : a ≡ time_at messages o p
  same_legal = e ∙ rw (h.timed_is, h.week_is, h.tow_is, h.count_is)

  pub place_off : a ≡ false → a ≡ legal_place messages o p
  place_off g = g ∙ sym (and_first (entries_at messages o p) (sym same_legal ∙ g))

  pub place_on : a ≡ true → {b : Bool} {count : ℕ} → count ≡ here.count → b ≡ legal_entries o.satellites o.statuses (messages * p) count → b ≡ legal_place messages o p
  place_on g c q =
      let same = c ∙ h.count_is in
      q ∙ ap (legal_entries o.satellites o.statuses (messages * p)) same ∙ sym (and_only (sym same_legal ∙ g))

-- the record: the current place, then every place
module _ (messages times : ℕ) (o : Storage) where
  pub current_off : times ≤ o.current → ltb o.current times ≡ legal messages times o
  unfolding legal
  current_off h = rw (le-ltb o.current times h)

  pub places_are : o.current < times → {r : Bool} → r ≡ all (legal_place messages o) times → r ≡ legal messages times o
  unfolding legal
  places_are h e = rw (lt-ltb o.current times h) e

-- the lowest place with a time, from a search that ended at it, or at none
pub reaches : (times : ℕ) (r : MackStorage) (week time : ℕ) (q : Option ℕ) → length r.places ≡ times
    → MatchOption q (AllWithin (λ (p : Place). is_time p.timed p.week p.tow week time ≡ false) r.places 0 (length r.places))
    (λ i.
    (i < length r.places) × HoldsAt (λ (p : Place). is_time p.timed p.week p.tow week time ≡ true) r.places i
    × AllWithin (λ (p : Place). is_time p.timed p.week p.tow week time ≡ false) r.places 0 i)
    → Reaches times (storage_of r) week time q
unfolding reached
reaches times r week time q l f = go q f
  where
    same : (p : ℕ) → has_time (storage_of r) week time p ≡ is_time (nth r p).timed (nth r p).week (nth r p).tow week time
    same p = let h = place_is r p in rw (h.timed_is, h.week_is, h.tow_is)

    go : (q : Option ℕ)
        → MatchOption q (AllWithin (λ (p : Place). is_time p.timed p.week p.tow week time ≡ false) r.places 0 (length r.places))
        (λ i.
        (i < length r.places) × HoldsAt (λ (p : Place). is_time p.timed p.week p.tow week time ≡ true) r.places i
        × AllWithin (λ (p : Place). is_time p.timed p.week p.tow week time ≡ false) r.places 0 i)
        → Reaches times (storage_of r) week time q
    go None f =
        rw (first_past (has_time (storage_of r) week time) times 0 (λ k a b. same k ∙ f k nowhere a (omega (arith, l)))) (omega arith)
    go (Some i) f = (
      sym (first_is (has_time (storage_of r) week time) times 0 i (omega arith) (omega (arith, l, f.0)) (same i ∙ f.1 nowhere) (λ k a b. same k ∙ f.2 k nowhere a b)),
      omega (arith, l, f.0),
    )

-- What is known of a legal record.
module _ (messages times : ℕ) (o : Storage) (e : legal messages times o ≡ true) where
  pub legal_current : o.current < times
  unfolding legal
  legal_current = ltb-true o.current times (and_left _ _ e)

  pub legal_at_lem : (p : ℕ) → p < times → legal_place messages o p ≡ true
  unfolding legal
  legal_at_lem p h = all_at (legal_place messages o) times p (and_right (ltb o.current times) _ e) h

module _ (messages : ℕ) (o : Storage) (p : ℕ) (e : legal_place messages o p ≡ true) where
  pub place_few : get_or o.counts p 0 ≤ messages
  unfolding legal_time
  place_few = leb-true (get_or o.counts p 0) messages (and_left _ _ (and_left (time_at messages o p) (entries_at messages o p) e))

  pub place_untimed : get_or o.timed p false ≡ false → get_or o.counts p 0 ≡ 0
  unfolding legal_time
  place_untimed f =
      let g : cond (get_or o.timed p false) (leb (get_or o.weeks p 0) 4095 && leb (get_or o.tows p 0) 604799) (eqb (get_or o.counts p 0) 0) ≡ true =
      and_right (leb (get_or o.counts p 0) messages) _ (and_left (time_at messages o p) (entries_at messages o p) e) in
      eqb-true (get_or o.counts p 0) 0 (rw f at g)
