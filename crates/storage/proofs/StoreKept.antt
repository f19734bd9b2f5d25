-- What the MACK store keeps: bytes of other messages stay, and a message is found until its place is emptied.
-- Assumes nothing.
use Prim.Native.Nat.{ℕ, suc, ◌+◌, ◌*◌, ◌≤◌, ◌<◌}
use native.Mathlib.Omega.{arith}
use mathlib.Core.Path.{◌≡◌, refl, sym, ap, ◌∙◌, subst, subst⁻¹}
use mathlib.Core.List.{List, [], ◌∷◌}
use mathlib.Core.Bool.{Bool, true, false, not, ◌&&◌}
use lib.ListN.{length, get_or, take, drop}
use lib.Dec.{ltb, eqb}
use borrow.Author.Tests.{eq-eqb, eqb-true, eqb-false, ltb-true, ltb-false, not-true, not-false}
use Rattle.layouts.proofs.Timed.{satellite_fits, fits_all}
use Rattle.layouts.specs.Answer.{gives}
use Rattle.storage.specs.Store.{Storage, State, Call, first, entry, is_time, has_time, next_place, moves, place_of}
use Rattle.layouts.specs.Lists.{put}
use Rattle.storage.specs.Store.{number_of, stored, reached, first_of, get}
use Rattle.storage.specs.StoreKeeps.{new_store, next, after, entry_of, first_byte, at_time, reached_by, moves_on, bytes_at, is_stored, empties, lasts, Keeps}
use Rattle.storage.specs.StoreKeeps.{StoreKeeps, StoreFinds}
use Rattle.storage.proofs.Bytes.{put_long, put_before, put_behind, part_put, part_before, part_behind}
use Rattle.storage.proofs.Searches.{and_left, and_right, and_both, first_is, first_before}
use Rattle.storage.proofs.StoreRecord.{room, legal_at_lem, place_few}
use Rattle.storage.specs.inner.Places.{sent_by}
use Rattle.storage.proofs.Stored.{record_on, Fine, find_at, moved_place, same_place, same_number, get_there}
use Rattle.storage.proofs.StoreSound.{apart, Sound, new_sound, other_count, other_satellite, other_status, other_time, own_time, own_count}
use Rattle.storage.proofs.StoreSound.{own_satellite, own_status, state_stored, state_refused, fine_of, fits, store_sound, after_sound}

-- The lent bytes.
module _ (messages times : ℕ) (s : State) (c : Call) (pos : 0 < messages) where
  at_state :
      (P : State → Type 0) → (is_stored messages times s c ≡ true → Fine messages times s c → P (stored messages times s c)) → P s
      → P (next messages times s c)
  at_state P f g = go (is_stored messages times s c) refl
    where
      go : (b : Bool) → is_stored messages times s c ≡ b → P (next messages times s c)
      go true e = subst⁻¹ P (state_stored messages times s c e) (f e (fine_of messages times s c pos e))
      go false e = subst⁻¹ P (state_refused messages times s c e) g

  module _ (f : Fine messages times s c) where
    before : (k : ℕ) → k < first_byte messages times s c → get_or (stored messages times s c).memory k 0 ≡ get_or s.memory k 0
    unfolding stored
    before k h = put_before s.memory c.message (first_byte messages times s c) 60 f.message_long (fits messages times s c pos f) k h

    behind : (k : ℕ) → first_byte messages times s c + 60 ≤ k → get_or (stored messages times s c).memory k 0 ≡ get_or s.memory k 0
    unfolding stored
    behind k h = put_behind s.memory c.message (first_byte messages times s c) 60 f.message_long (fits messages times s c pos f) k h

    as_long : length (stored messages times s c).memory ≡ length s.memory
    unfolding stored
    as_long = put_long s.memory c.message (first_byte messages times s c) 60 f.message_long (fits messages times s c pos f)

    own : bytes_at messages (stored messages times s c) (place_of times s c) (number_of s c) ≡ c.message
    unfolding stored
    own = part_put s.memory c.message (first_byte messages times s c) 60 f.message_long (fits messages times s c pos f)

  kept_bytes :
      (q j : ℕ) → q < times → j < messages → (q ≡ place_of times s c → j ≡ number_of s c → ⊥) → Fine messages times s c
      → bytes_at messages (stored messages times s c) q j ≡ bytes_at messages s q j
  unfolding stored
  kept_bytes q j hq hj ne f = go (ltb (entry messages q j) (entry_of messages times s c)) refl
    where
      inside : 60 * entry messages q j + 60 ≤ length s.memory
      inside = omega (arith, f.memory_long, room messages times q (suc j) hq hj)

      go : (b : Bool) → ltb (entry messages q j) (entry_of messages times s c) ≡ b
          → take 60 (drop (60 * entry messages q j) (put s.memory (first_byte messages times s c) 60 c.message))
          ≡ take 60 (drop (60 * entry messages q j) s.memory)
      go true e =
          part_before s.memory c.message (first_byte messages times s c) 60 f.message_long (fits messages times s c pos f)
          (60 * entry messages q j) 60 inside
          (omega (arith, ltb-true (entry messages q j) (entry_of messages times s c) e))
      go false e =
          part_behind s.memory c.message (first_byte messages times s c) 60 f.message_long (fits messages times s c pos f)
          (60 * entry messages q j) 60 inside
          (omega (
            arith,
            ltb-false (entry messages q j) (entry_of messages times s c) e,
            apart messages q j (place_of times s c) (number_of s c) hj f.number_in ne,
          ))

  pub keeps : Sound messages times s → Keeps messages times s c
  keeps z =
      record {
        refused_call = state_refused messages times s c;
        bytes_before = λ k h. at_state (λ (t : State). get_or t.memory k 0 ≡ get_or s.memory k 0) (λ e f. before f k h) refl;
        bytes_behind = λ k h. at_state (λ (t : State). get_or t.memory k 0 ≡ get_or s.memory k 0) (λ e f. behind f k h) refl;
        long = at_state (λ (t : State). length t.memory ≡ length s.memory) (λ e f. as_long f) refl;
        own_bytes =
            λ e. subst⁻¹ (λ (t : State). bytes_at messages t (place_of times s c) (number_of s c) ≡ c.message) (state_stored messages times s c e)
            (own (fine_of messages times s c pos e));
        other_places =
            λ q j hq hj ne.
            at_state (λ (t : State). bytes_at messages t q j ≡ bytes_at messages s q j) (λ e f. kept_bytes q j hq hj (λ x y. ne x) f) refl;
      }

pub store_keeps : StoreKeeps
store_keeps messages times pos some memory l cs c =
    let z = after_sound messages times (new_store messages times memory) cs pos (new_sound messages times memory some l) in
    (z.is_legal, keeps messages times (after messages times (new_store messages times memory) cs) c pos z)

-- A message that is the first of its satellite in its place: what holds of it until the place is emptied.
pub record Holds (messages : ℕ) (s : State) (p j : ℕ) (c : Call) : Type 0 where
  pub its_time : at_time s c p ≡ true
  pub below : j < get_or s.storage.counts p 0
  pub sent : get_or s.storage.satellites (messages * p + j) 0 ≡ c.asked.satellite
  pub status_is : get_or s.storage.statuses (messages * p + j) 0 ≡ c.status
  pub none_before : (i : ℕ) → i < j → sent_by s.storage.satellites (messages * p) c.asked.satellite i ≡ false
  pub bytes : bytes_at messages s p j ≡ c.message

-- It holds once the message is stored.
module _ (messages times : ℕ) (s : State) (c : Call) (pos : 0 < messages) (z : Sound messages times s) (f : Fine messages times s c) where
  stored_time : at_time (stored messages times s c) c (place_of times s c) ≡ true
  unfolding stored
  stored_time = own_time messages times s.storage (place_of times s c) (number_of s c) c.asked c.status z.long f.place_in f.number_in

  stored_count : get_or (stored messages times s c).storage.counts (place_of times s c) 0 ≡ number_of s c + 1
  unfolding stored
  stored_count = own_count messages times s.storage (place_of times s c) (number_of s c) c.asked c.status z.long f.place_in f.number_in

  stored_satellite : get_or (stored messages times s c).storage.satellites (messages * place_of times s c + number_of s c) 0 ≡ c.asked.satellite
  unfolding stored
  stored_satellite = own_satellite messages times s.storage (place_of times s c) (number_of s c) c.asked c.status z.long f.place_in f.number_in

  stored_status : get_or (stored messages times s c).storage.statuses (messages * place_of times s c + number_of s c) 0 ≡ c.status
  unfolding stored
  stored_status = own_status messages times s.storage (place_of times s c) (number_of s c) c.asked c.status z.long f.place_in f.number_in

  module _ (q i : ℕ) (hi : i < messages) (ne : q ≡ place_of times s c → i ≡ number_of s c → ⊥) where
    kept_satellite : get_or (stored messages times s c).storage.satellites (messages * q + i) 0 ≡ get_or s.storage.satellites (messages * q + i) 0
    unfolding stored
    kept_satellite =
        other_satellite messages times s.storage (place_of times s c) (number_of s c) c.asked c.status z.long f.place_in f.number_in q
        i hi ne

    kept_status : get_or (stored messages times s c).storage.statuses (messages * q + i) 0 ≡ get_or s.storage.statuses (messages * q + i) 0
    unfolding stored
    kept_status =
        other_status messages times s.storage (place_of times s c) (number_of s c) c.asked c.status z.long f.place_in f.number_in q i
        hi ne

  module _ (q : ℕ) (ne : q ≡ place_of times s c → ⊥) where
    kept_time : (w t : ℕ) → has_time (stored messages times s c).storage w t q ≡ has_time s.storage w t q
    unfolding stored
    kept_time w t =
        other_time messages times s.storage (place_of times s c) (number_of s c) c.asked c.status z.long f.place_in f.number_in w t q
        ne

    kept_count : get_or (stored messages times s c).storage.counts q 0 ≡ get_or s.storage.counts q 0
    unfolding stored
    kept_count = other_count messages times s.storage (place_of times s c) (number_of s c) c.asked c.status z.long f.place_in f.number_in q ne

  holds_first :
      first_of s.storage.satellites (messages * place_of times s c) (number_of s c) c.asked.satellite ≡ number_of s c
      → Holds messages (stored messages times s c) (place_of times s c) (number_of s c) c
  unfolding first_of
  holds_first e =
      record {
        its_time = stored_time;
        below = omega (arith, stored_count);
        sent = stored_satellite;
        status_is = stored_status;
        none_before =
            λ i h.
            let ne : i ≡ number_of s c → ⊥ = λ x. omega arith in
            ap (λ (x : ℕ). eqb x c.asked.satellite) (kept_satellite (place_of times s c) i (omega (arith, f.number_in)) (λ x y. ne y))
            ∙ first_before (sent_by s.storage.satellites (messages * place_of times s c) c.asked.satellite) (number_of s c) 0 (number_of s c) i e
            (omega arith) h (omega arith);
        bytes = own messages times s c pos f;
      }

left_not : (a b : Bool) → a ≡ true → (a && not b) ≡ false → b ≡ true
left_not true b e f = not-false b f
left_not false b e f = let z : ◌≡◌ {A = ℕ} 0 1 = cc in absurd (omega arith)

module _ (times : ℕ) (o : Storage) (week time : ℕ) where
  -- a place that has a time and is not left has the call's
  current_time : moves o week time ≡ false → get_or o.timed o.current false ≡ true → has_time o week time o.current ≡ true
  current_time e t = left_not (get_or o.timed o.current false) (has_time o week time o.current) t e

is_timed : (t : Bool) (w u x y : ℕ) → is_time t w u x y ≡ true → t ≡ true
unfolding is_time
is_timed t w u x y e = and_left t (eqb w x) (and_left (t && eqb w x) (eqb u y) e)

same_time : (t : Bool) (w u x y v z : ℕ) → is_time t w u x y ≡ true → is_time t w u v z ≡ true → (v ≡ x) × (z ≡ y)
unfolding is_time
same_time t w u x y v z e f = (
  sym (eqb-true w v (and_right t (eqb w v) (and_left (t && eqb w v) (eqb u z) f))) ∙ eqb-true w x (and_right t (eqb w x) (and_left (t && eqb w x) (eqb u y) e)),
  sym (eqb-true u z (and_right (t && eqb w v) (eqb u z) f)) ∙ eqb-true u y (and_right (t && eqb w x) (eqb u y) e),
)

-- A call that does not empty the place leaves all of it as it was.
module _ (messages times : ℕ) (s : State) (d : Call) (pos : 0 < messages) (z : Sound messages times s) (p j : ℕ) (c : Call) (hp : p < times)
    (h : Holds messages s p j c) where
  room_j : j < messages
  room_j = omega (arith, h.below, place_few messages s.storage p (legal_at_lem messages times s.storage z.is_legal p hp))

  module _ (f : Fine messages times s d) where
    -- entries at or below the message's own are not touched
    kept_holds :
        ((i : ℕ) → i ≤ j → p ≡ place_of times s d → i ≡ number_of s d → ⊥) → at_time (stored messages times s d) c p ≡ true
        → j < get_or (stored messages times s d).storage.counts p 0
        → Holds messages (stored messages times s d) p j c
    kept_holds ne t b =
        record {
          its_time = t;
          below = b;
          sent = kept_satellite messages times s d pos z f p j room_j (ne j (omega arith)) ∙ h.sent;
          status_is = kept_status messages times s d pos z f p j room_j (ne j (omega arith)) ∙ h.status_is;
          none_before =
              λ i g. ap (λ (x : ℕ). eqb x c.asked.satellite)
              (kept_satellite messages times s d pos z f p i (omega (arith, room_j)) (ne i (omega arith)))
              ∙ h.none_before i g;
          bytes = kept_bytes messages times s d pos p j hp room_j (ne j (omega arith)) f ∙ h.bytes;
        }

    holds_elsewhere : (p ≡ place_of times s d → ⊥) → Holds messages (stored messages times s d) p j c
    holds_elsewhere ne =
        kept_holds (λ i g x y. ne x) (kept_time messages times s d pos z f p ne c.asked.week c.asked.time ∙ h.its_time)
        (rw (kept_count messages times s d pos z f p ne) h.below)

    holds_here : moves_on s d ≡ false → p ≡ place_of times s d → Holds messages (stored messages times s d) p j c
    holds_here m e =
        let here : p ≡ s.storage.current = e ∙ same_place times s.storage d.asked.week d.asked.time m in
        let old : at_time s c s.storage.current ≡ true = subst (λ (x : ℕ). at_time s c x ≡ true) here h.its_time in
        let new : at_time s d s.storage.current ≡ true = current_time times s.storage d.asked.week d.asked.time m (is_timed _ _ _ _ _ old) in
        let same = same_time _ _ _ c.asked.week c.asked.time d.asked.week d.asked.time old new in
        let held : j < get_or s.storage.counts s.storage.current 0 = subst (λ (x : ℕ). j < get_or s.storage.counts x 0) here h.below in
        let few : j < number_of s d = subst⁻¹ (λ (x : ℕ). j < x) (same_number times s.storage d.asked.week d.asked.time m) held in
        let at : at_time (stored messages times s d) d (place_of times s d) ≡ true = stored_time messages times s d pos z f in
        let there : at_time (stored messages times s d) d p ≡ true = subst⁻¹ (λ (x : ℕ). at_time (stored messages times s d) d x ≡ true) e at in
        kept_holds (λ i g x y. omega arith)
        (subst (λ (x : ℕ). has_time (stored messages times s d).storage c.asked.week x p ≡ true) same.1
        (subst (λ (x : ℕ). has_time (stored messages times s d).storage x d.asked.time p ≡ true) same.0 there))
        (subst⁻¹ (λ (x : ℕ). j < get_or (stored messages times s d).storage.counts x 0) e (omega (arith, stored_count messages times s d pos z f)))

    not_emptied : is_stored messages times s d ≡ true → empties messages times s d p ≡ false → p ≡ place_of times s d → moves_on s d ≡ false
    not_emptied e g q = go (moves_on s d) refl
      where
        go : (b : Bool) → moves_on s d ≡ b → b ≡ false
        go false m = refl
        go true m =
            let to : next_place times s.storage.current ≡ p = sym (q ∙ moved_place times s.storage d.asked.week d.asked.time m) in
            let yes : empties messages times s d p ≡ true = and_both (and_both e m) (eq-eqb (next_place times s.storage.current) p to) in
            sym yes ∙ g

  pub holds_step : empties messages times s d p ≡ false → Holds messages (next messages times s d) p j c
  holds_step g = at_state messages times s d pos (λ (t : State). Holds messages t p j c) (λ e f. go e f (eqb p (place_of times s d)) refl) h
    where
      go :
          is_stored messages times s d ≡ true → Fine messages times s d → (b : Bool) → eqb p (place_of times s d) ≡ b
          → Holds messages (stored messages times s d) p j c
      go e f true q = let same = eqb-true p (place_of times s d) q in holds_here f (not_emptied f e g same) same
      go e f false q = holds_elsewhere f (eqb-false p (place_of times s d) q)

pub holds_after :
    (messages times : ℕ) (s : State) (cs : List Call) (p j : ℕ) (c : Call) → 0 < messages → p < times → Sound messages times s
    → lasts messages times s cs p ≡ true → Holds messages s p j c
    → Holds messages (after messages times s cs) p j c
holds_after messages times s [] p j c pos hp z l h = h
holds_after messages times s (d ∷ cs) p j c pos hp z l h =
    holds_after messages times (next messages times s d) cs p j c pos hp (store_sound messages times s d pos z)
    (and_right (not (empties messages times s d p)) _ l)
    (holds_step messages times s d pos z p j c hp h (not-true (empties messages times s d p) (and_left (not (empties messages times s d p)) _ l)))

-- Asking for it.
module _ (messages times : ℕ) (s : State) (p j : ℕ) (c : Call) (hp : p < times) (z : Sound messages times s) (h : Holds messages s p j c) where
  held_lowest : ((q : ℕ) → q < p → at_time s c q ≡ false) → reached_by times s c ≡ p
  unfolding reached
  held_lowest f = first_is (at_time s c) times 0 p (omega arith) (omega arith) h.its_time (λ k a b. f k b)

  held_found : 1 ≤ c.asked.satellite → c.asked.satellite ≤ 36 → c.asked.week ≤ 4095 → c.asked.time ≤ 604799 → reached_by times s c ≡ p
      → get messages times s.storage c.asked ≡ gives (60 * entry messages p j ∷ c.status ∷ [])
  held_found some few in_week in_time r =
      let count = get_or s.storage.counts p 0 in
      let sent = sent_by s.storage.satellites (messages * p) c.asked.satellite in
      let own = eq-eqb _ c.asked.satellite h.sent in
      let it : first sent count 0 ≡ j = first_is sent count 0 j (omega arith) (omega (arith, h.below)) own (λ k a b. h.none_before k b) in
      let here = find_at s.storage.satellites s.storage.statuses (messages * p) count c.asked.satellite (sym it) h.below in
      let fits = satellite_fits c.asked.satellite some few in
      let fine = fits_all c.asked.satellite c.asked.week c.asked.time fits refl in_week in_time in
      let checks = record_on messages times s.storage c.asked (sym z.is_legal) refl fine in
      sym
      (ap (λ (x : ℕ). gives (60 * entry messages p j ∷ x ∷ [])) (sym h.status_is)
      ∙ get_there messages times s.storage c.asked checks (sym r) hp here)

pub store_finds : StoreFinds
store_finds messages times pos some memory l before c cs s p j es ep ej e g k =
    let z : Sound messages times s = subst⁻¹ (Sound messages times) es
    (after_sound messages times (new_store messages times memory) before pos (new_sound messages times memory some l)) in
    let f : Fine messages times s c = fine_of messages times s c pos e in
    let hp : p < times = omega (arith, f.place_in) in
    let first_one : first_of s.storage.satellites (messages * place_of times s c) (number_of s c) c.asked.satellite ≡ number_of s c = rw (ep, ej) at g in
    let now : Holds messages (stored messages times s c) p j c = rw (ep, ej) (holds_first messages times s c pos z f first_one) in
    let held : Holds messages (next messages times s c) p j c = subst⁻¹ (λ (t : State). Holds messages t p j c) (state_stored messages times s c e) now in
    let sound : Sound messages times (next messages times s c) = store_sound messages times s c pos z in
    let later : Holds messages (after messages times (next messages times s c) cs) p j c = holds_after messages times (next messages times s c) cs p j
    c pos hp sound k held in
    let ok : Sound messages times (after messages times (next messages times s c) cs) = after_sound messages times (next messages times s c) cs pos sound in
    record {
      lowest = held_lowest messages times (after messages times (next messages times s c) cs) p j c hp ok later;
      found = held_found messages times (after messages times (next messages times s c) cs) p j c hp ok later f.some f.few f.week_in f.time_in;
      bytes = later.bytes;
    }
