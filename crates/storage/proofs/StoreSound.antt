-- Whatever calls the MACK store gets, its record stays legal and its lists keep their lengths.
-- Assumes nothing.
use Prim.Native.Nat.{ℕ, suc, ◌+◌, ◌*◌, ◌≤◌, ◌<◌}
use native.Mathlib.Nat.{mul-suc, mul-le-mul_left}
use native.Mathlib.Omega.{arith}
use mathlib.Core.Path.{◌≡◌, refl, sym, ap, ◌∙◌, subst⁻¹}
use mathlib.Core.List.{List, [], ◌∷◌}
use mathlib.Core.Bool.{Bool, true, false, cond}
use lib.ListN.{length, get_or, length-set, length-replicate, get_or-replicate}
use lib.Dec.{ltb, eqb}
use borrow.Author.Tests.{le-leb, lt-ltb, eq-eqb, eqb-true, eqb-false, ltb-true, ltb-false}
use Rattle.layouts.specs.Answer.{refusal}
use Rattle.storage.specs.Store.{Storage, State, Asked, Call, Outcome, entry, legal_entry, legal_time, legal_entries, legal_place, legal, is_time, has_time}
use Rattle.storage.specs.Store.{store_checks, next_place, moves, place_for, number_for, place_of, number_of, entered, stored, new_storage}
use lib.Seq.{get_or-set_same, get_or-set_other}
use Rattle.storage.specs.inner.Places.{Long}
use Rattle.storage.specs.StoreKeeps.{new_store, next, after, first_byte, is_stored}
use Rattle.storage.proofs.Bytes.{put_long}
use Rattle.storage.proofs.Searches.{and_left, and_right, all_at, and_both, all_intro}
use Rattle.storage.proofs.StoreRecord.{legal_at, room, time_at, entries_at, legal_current, legal_at_lem, place_few}
use Rattle.storage.proofs.Stored.{Fine, fine, store_refused, store_stored}

-- Two messages have different numbers.
pub apart : (messages q i p j : ℕ) → i < messages → j < messages → (q ≡ p → i ≡ j → ⊥) → messages * q + i ≡ messages * p + j → ⊥
apart messages q i p j hi hj ne e = go (ltb q p) refl (ltb p q) refl
  where
    go : (a : Bool) → ltb q p ≡ a → (b : Bool) → ltb p q ≡ b → ⊥
    go true x b y = omega (arith, mul-le-mul_left messages (ltb-true q p x), mul-suc messages q)
    go false x true y = omega (arith, mul-le-mul_left messages (ltb-true p q y), mul-suc messages p)
    go false x false y =
        let same : q ≡ p = omega (arith, ltb-false q p x, ltb-false p q y) in
        let f : messages * p + i ≡ messages * p + j = rw same at e in
        ne same (omega arith)

-- What holds of every state that calls lead to.
pub record Sound (messages times : ℕ) (s : State) : Type 0 where
  pub long : Long messages times s.storage
  pub memory_long : length s.memory ≡ 60 * (messages * times)
  pub is_legal : legal messages times s.storage ≡ true

-- a legal record, made of its parts
legal_made : (messages times : ℕ) (o : Storage) → o.current < times → ((p : ℕ) → p < times → legal_place messages o p ≡ true) → legal messages times o ≡ true
unfolding legal
legal_made messages times o h f = and_both (lt-ltb o.current times h) (all_intro (legal_place messages o) times f)

entries_at_lem : (satellites statuses : List ℕ) (at n i : ℕ) → legal_entries satellites statuses at n ≡ true → i < n → legal_at satellites statuses at i ≡ true
unfolding legal_entries
entries_at_lem satellites statuses at n i e h = all_at (legal_at satellites statuses at) n i e h

entries_made :
    (satellites statuses : List ℕ) (at n : ℕ) → ((i : ℕ) → i < n → legal_at satellites statuses at i ≡ true)
    → legal_entries satellites statuses at n ≡ true
unfolding legal_entries
entries_made satellites statuses at n f = all_intro (legal_at satellites statuses at) n f

place_made :
    (messages : ℕ) (o : Storage) (q : ℕ) {t : Bool} {w u n : ℕ} → get_or o.timed q false ≡ t → get_or o.weeks q 0 ≡ w → get_or o.tows q 0 ≡ u
    → get_or o.counts q 0 ≡ n
    → legal_time messages t w u n ≡ true → ((i : ℕ) → i < n → legal_at o.satellites o.statuses (messages * q) i ≡ true) → legal_place messages o q ≡ true
place_made messages o q {n = n} et ew eu en l f = rw (et, ew, eu, en) (and_both l (entries_made o.satellites o.statuses (messages * q) n f))

time_empty : (messages : ℕ) → legal_time messages false 0 0 0 ≡ true
unfolding legal_time
time_empty messages = rw (le-leb 0 messages (omega arith))

time_made : (messages week tow count : ℕ) → count ≤ messages → week ≤ 4095 → tow ≤ 604799 → legal_time messages true week tow count ≡ true
unfolding legal_time
time_made messages week tow count h g f = rw (le-leb count messages h, le-leb week 4095 g, le-leb tow 604799 f)

entry_made : (satellite status : ℕ) → 1 ≤ satellite → satellite ≤ 36 → status ≤ 3 → legal_entry satellite status ≡ true
unfolding legal_entry
entry_made satellite status h g f = rw (le-leb 1 satellite h, le-leb satellite 36 g, le-leb status 3 f)

pub new_sound :
    (messages times : ℕ) (memory : List ℕ) → 0 < times → length memory ≡ 60 * (messages * times)
    → Sound messages times (new_store messages times memory)
new_sound messages times memory some l =
    record {
      long =
          record {
            timed_long = length-replicate times false;
            weeks_long = length-replicate times 0;
            tows_long = length-replicate times 0;
            counts_long = length-replicate times 0;
            satellites_long = length-replicate (messages * times) 0;
            statuses_long = length-replicate (messages * times) 0;
          };
      memory_long = l;
      is_legal = legal_made messages times (new_storage messages times) some (λ p h. empty p h);
    }
  where
    empty : (p : ℕ) → p < times → legal_place messages (new_storage messages times) p ≡ true
    empty p h =
        place_made messages (new_storage messages times) p (get_or-replicate times p false false h) (get_or-replicate times p 0 0 h)
        (get_or-replicate times p 0 0 h) (get_or-replicate times p 0 0 h) (time_empty messages)
        (λ i g. absurd (omega arith))

-- One message more.
module _ (messages times : ℕ) (o : Storage) (p j : ℕ) (a : Asked) (status : ℕ) (lo : Long messages times o) (hp : p < times) (hj : j < messages) where
  abbrev new : Storage
  new = entered messages o p j a status

  new_entry : entry messages p j < messages * times
  new_entry = omega (arith, room messages times p (suc j) hp hj)

  entered_long : Long messages times new
  unfolding entered
  entered_long =
      record {
        timed_long = length-set o.timed p true ∙ lo.timed_long;
        weeks_long = length-set o.weeks p a.week ∙ lo.weeks_long;
        tows_long = length-set o.tows p a.time ∙ lo.tows_long;
        counts_long = length-set o.counts p (j + 1) ∙ lo.counts_long;
        satellites_long = length-set o.satellites (entry messages p j) a.satellite ∙ lo.satellites_long;
        statuses_long = length-set o.statuses (entry messages p j) status ∙ lo.statuses_long;
      }

  -- other places, and other messages, are as they were
  entered_current : new.current < times
  unfolding entered
  entered_current = hp

  other_timed : (q : ℕ) → (q ≡ p → ⊥) → get_or new.timed q false ≡ get_or o.timed q false
  unfolding entered
  other_timed q ne = get_or-set_other o.timed p q true false ne

  other_week : (q : ℕ) → (q ≡ p → ⊥) → get_or new.weeks q 0 ≡ get_or o.weeks q 0
  unfolding entered
  other_week q ne = get_or-set_other o.weeks p q a.week 0 ne

  other_tow : (q : ℕ) → (q ≡ p → ⊥) → get_or new.tows q 0 ≡ get_or o.tows q 0
  unfolding entered
  other_tow q ne = get_or-set_other o.tows p q a.time 0 ne

  pub other_count : (q : ℕ) → (q ≡ p → ⊥) → get_or new.counts q 0 ≡ get_or o.counts q 0
  unfolding entered
  other_count q ne = get_or-set_other o.counts p q (j + 1) 0 ne

  pub other_satellite :
      (q i : ℕ) → i < messages → (q ≡ p → i ≡ j → ⊥)
      → get_or new.satellites (messages * q + i) 0 ≡ get_or o.satellites (messages * q + i) 0
  unfolding entered
  other_satellite q i hi ne = get_or-set_other o.satellites (entry messages p j) (messages * q + i) a.satellite 0 (apart messages q i p j hi hj ne)

  pub other_status :
      (q i : ℕ) → i < messages → (q ≡ p → i ≡ j → ⊥)
      → get_or new.statuses (messages * q + i) 0 ≡ get_or o.statuses (messages * q + i) 0
  unfolding entered
  other_status q i hi ne = get_or-set_other o.statuses (entry messages p j) (messages * q + i) status 0 (apart messages q i p j hi hj ne)

  -- its own
  own_timed : get_or new.timed p false ≡ true
  unfolding entered
  own_timed = get_or-set_same o.timed p true false (omega (arith, lo.timed_long))

  own_week : get_or new.weeks p 0 ≡ a.week
  unfolding entered
  own_week = get_or-set_same o.weeks p a.week 0 (omega (arith, lo.weeks_long))

  own_tow : get_or new.tows p 0 ≡ a.time
  unfolding entered
  own_tow = get_or-set_same o.tows p a.time 0 (omega (arith, lo.tows_long))

  pub other_time : (w t q : ℕ) → (q ≡ p → ⊥) → has_time new w t q ≡ has_time o w t q
  other_time w t q ne = rw (other_timed q ne, other_week q ne, other_tow q ne)

  pub own_time : has_time new a.week a.time p ≡ true
  unfolding is_time
  own_time = rw (own_timed, own_week, own_tow, eq-eqb a.week a.week refl, eq-eqb a.time a.time refl)

  pub own_count : get_or new.counts p 0 ≡ j + 1
  unfolding entered
  own_count = get_or-set_same o.counts p (j + 1) 0 (omega (arith, lo.counts_long))

  pub own_satellite : get_or new.satellites (messages * p + j) 0 ≡ a.satellite
  unfolding entered
  own_satellite = get_or-set_same o.satellites (entry messages p j) a.satellite 0 (omega (arith, new_entry, lo.satellites_long))

  pub own_status : get_or new.statuses (messages * p + j) 0 ≡ status
  unfolding entered
  own_status = get_or-set_same o.statuses (entry messages p j) status 0 (omega (arith, new_entry, lo.statuses_long))

  -- a legal record stays legal
  module _ (ok : legal messages times o ≡ true) (some : 1 ≤ a.satellite) (few : a.satellite ≤ 36) (in_week : a.week ≤ 4095)
      (in_time : a.time ≤ 604799) (in-status : status ≤ 3)
      (before : (i : ℕ) → i < j → legal_at o.satellites o.statuses (messages * p) i ≡ true) where
    own_entries :
        (i : ℕ) → i < j + 1
        → legal_at new.satellites new.statuses (messages * p) i ≡ true
    own_entries i h = go (eqb i j) refl
      where
        go :
            (b : Bool) → eqb i j ≡ b
            → legal_at new.satellites new.statuses (messages * p) i ≡ true
        go true e = rw (eqb-true i j e, own_satellite, own_status) (entry_made a.satellite status some few in-status)
        go false e =
            let ne = eqb-false i j e in
            rw (other_satellite p i (omega arith) (λ x y. ne y), other_status p i (omega arith) (λ x y. ne y)) (before i (omega arith))

    own_place : legal_place messages new p ≡ true
    own_place = go own_entries own_count
      where
        go :
            ((i : ℕ) → i < j + 1
            → legal_at new.satellites new.statuses (messages * p) i ≡ true)
            → get_or new.counts p 0 ≡ j + 1
            → legal_place messages new p ≡ true
        go f e =
            place_made messages new p own_timed own_week own_tow e
            (time_made messages a.week a.time (j + 1) (omega arith) in_week in_time) f

    other_place : (q : ℕ) → q < times → (q ≡ p → ⊥) → legal_place messages new q ≡ true
    other_place q h ne =
        let old : legal_place messages o q ≡ true = legal_at_lem messages times o ok q h in
        place_made messages new q (other_timed q ne) (other_week q ne) (other_tow q ne) (other_count q ne)
        (and_left (time_at messages o q) (entries_at messages o q) old)
        (λ i g.
        let l : i < messages = omega (arith, place_few messages o q old) in
        rw (other_satellite q i l (λ x y. ne x), other_status q i l (λ x y. ne x))
        (entries_at_lem o.satellites o.statuses (messages * q) (get_or o.counts q 0) i (and_right (time_at messages o q) (entries_at messages o q) old) g))

    entered_legal : legal messages times new ≡ true
    entered_legal = legal_made messages times new entered_current (λ q h. go q h (eqb q p) refl)
      where
        go : (q : ℕ) → q < times → (b : Bool) → eqb q p ≡ b → legal_place messages new q ≡ true
        go q h true e = rw (eqb-true q p e) own_place
        go q h false e = other_place q h (eqb-false q p e)

-- the messages that a place has before the new one
number_legal : (messages times : ℕ) (o : Storage) (week time : ℕ) → legal messages times o ≡ true
    → (i : ℕ) → i < number_for o week time → legal_at o.satellites o.statuses (messages * place_for times o week time) i ≡ true
unfolding place_for number_for
number_legal messages times o week time ok i h = go (moves o week time) h
  where
    go :
        (b : Bool) → i < cond b 0 (get_or o.counts o.current 0)
        → legal_at o.satellites o.statuses (messages * cond b (next_place times o.current) o.current) i ≡ true
    go true g = absurd (omega arith)
    go false g =
        entries_at_lem o.satellites o.statuses (messages * o.current) (get_or o.counts o.current 0) i
        (and_right (time_at messages o o.current) _ (legal_at_lem messages times o ok o.current (legal_current messages times o ok))) g

-- A call: the state that it leaves.
module _ (messages times : ℕ) (s : State) (c : Call) where
  pub state_stored : is_stored messages times s c ≡ true → next messages times s c ≡ stored messages times s c
  state_stored e = sym (ap (λ (x : Outcome). x.state) (store_stored messages times s c refl (eqb-true (refusal (store_checks messages times s c)) 0 e)))

  pub state_refused : is_stored messages times s c ≡ false → next messages times s c ≡ s
  state_refused e = sym (ap (λ (x : Outcome). x.state) (store_refused messages times s c refl (eqb-false (refusal (store_checks messages times s c)) 0 e)))

  module _ (pos : 0 < messages) where
    pub fine_of : is_stored messages times s c ≡ true → Fine messages times s c
    fine_of e = fine messages times s c pos refl (eqb-true (refusal (store_checks messages times s c)) 0 e)

    -- the bytes of the new message lie in the memory
    pub fits : Fine messages times s c → first_byte messages times s c + 60 ≤ length s.memory
    fits f = omega (arith, f.memory_long, room messages times (place_of times s c) (suc (number_of s c)) f.place_in f.number_in)

    stored_sound : Sound messages times s → Fine messages times s c → Sound messages times (stored messages times s c)
    unfolding stored
    stored_sound z f =
        record {
          long = entered_long messages times s.storage (place_of times s c) (number_of s c) c.asked c.status z.long f.place_in f.number_in;
          memory_long = put_long s.memory c.message (first_byte messages times s c) 60 f.message_long (fits f) ∙ z.memory_long;
          is_legal =
              entered_legal messages times s.storage (place_of times s c) (number_of s c) c.asked c.status z.long f.place_in
              f.number_in z.is_legal f.some f.few f.week_in f.time_in f.status_in
              (number_legal messages times s.storage c.asked.week c.asked.time z.is_legal);
        }

    pub store_sound : Sound messages times s → Sound messages times (next messages times s c)
    store_sound z = go (is_stored messages times s c) refl
      where
        go : (b : Bool) → is_stored messages times s c ≡ b → Sound messages times (next messages times s c)
        go true e = subst⁻¹ (Sound messages times) (state_stored e) (stored_sound z (fine_of e))
        go false e = subst⁻¹ (Sound messages times) (state_refused e) z

pub after_sound : (messages times : ℕ) (s : State) (cs : List Call) → 0 < messages → Sound messages times s → Sound messages times (after messages times s cs)
after_sound messages times s [] pos z = z
after_sound messages times s (c ∷ cs) pos z = after_sound messages times (next messages times s c) cs pos (store_sound messages times s c pos z)
