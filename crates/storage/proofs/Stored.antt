-- Laws of the MACK store's calls: the refusals, where a message goes, and what is found.
-- Assumes nothing.
use Prim.Native.Nat.{ℕ, ◌+◌, ◌*◌, ◌≤◌, ◌<◌}
use native.Mathlib.Omega.{arith}
use mathlib.Core.Path.{◌≡◌, refl, sym, ap, ◌∙◌, subst, subst⁻¹}
use mathlib.Core.List.{List, [], ◌∷◌}
use mathlib.Core.Bool.{Bool, true, false, cond, not, ◌&&◌}
use lib.ListN.{length, get_or}
use lib.Dec.{ltb, eqb}
use borrow.Author.Tests.{le-ltb, lt-ltb, eq-eqb, ne_eqb, eqb-true, eqb-false, ltb-false, not-false}
use Rattle.layouts.specs.Answer.{Answer, refused, nothing, gives, refusal}
use Rattle.std.specs.Prelude.{Result, Ok, Err, Option, Some, None}
use Rattle.std.specs.Result.{IsErrAnd}
use Rattle.layouts.specs.Refusals.{refusal_number}
use Rattle.layouts.specs.declared.refusal.Refusal.{Refusal}
use Rattle.storage.specs.declared.mack_storage.Place.{Place}
use Rattle.storage.specs.declared.places.Slot.{Slot}
use Rattle.storage.specs.inner.Places.{IsPlace, Admits, Reaches, sent_by}
use Rattle.layouts.proofs.Answers.{none_fails}
use Rattle.layouts.proofs.Refused.{carried, number_some, err_answer, ok_answer}
use Rattle.storage.specs.StorePromises.{meaning_get}
use Rattle.storage.specs.declared.mack_storage.MackFound.{MackFound}
use Rattle.layouts.specs.Gst.{svn_gst_checks}
use Rattle.storage.specs.Store.{Storage, State, Asked, Call, Outcome, first, entry, legal_place, legal, is_time, has_time, ask_checks, full}
use Rattle.layouts.specs.Lists.{put}
use Rattle.storage.specs.Store.{entry_checks, store_checks, next_place, moves, place_for, number_for, place_of, number_of, entered}
use Rattle.storage.specs.Store.{stored, store, reached, first_of, found_among, found, get}
use Rattle.std.specs.List.{position_or_len}
use Rattle.storage.proofs.Bytes.{part, part_long}
use Rattle.storage.proofs.Searches.{first_listed}
use Rattle.storage.proofs.StoreRecord.{next_below, legal_current, legal_at_lem, place_few, place_untimed}

-- The refusals of what is asked.
module _ (messages times : ℕ) (o : Storage) (a : Asked) {b : Bool} (e : b ≡ legal messages times o) where
  pub record_off : not b ≡ true → 12 ≡ refusal (ask_checks messages times o a)
  unfolding refusal
  record_off h = rw (← e, h)

  pub record_on : not b ≡ false → {r : ℕ} → r ≡ refusal (svn_gst_checks a.satellite a.week a.time) → r ≡ refusal (ask_checks messages times o a)
  unfolding refusal
  record_on h g = rw (← e, h) g

pub ask_legal : (messages times : ℕ) (o : Storage) (a : Asked) {q : ℕ} → q ≡ refusal (ask_checks messages times o a) → q ≡ 0 → legal messages times o ≡ true
ask_legal messages times o a e z = not-false _ (none_fails (ask_checks messages times o a) tt (sym e ∙ z)).0

-- The refusals of a message.
module _ (messages times : ℕ) (s : State) (c : Call) where
  pub other_memory : (length s.memory ≡ 60 * (messages * times) → ⊥) → 1 ≡ refusal (store_checks messages times s c)
  unfolding refusal
  other_memory ne = rw (ne_eqb (length s.memory) (60 * (messages * times)) ne)

  module _ (l : length s.memory ≡ 60 * (messages * times)) where
    pub other_message : (length c.message ≡ 60 → ⊥) → 1 ≡ refusal (store_checks messages times s c)
    unfolding refusal
    other_message ne = rw (eq-eqb (length s.memory) (60 * (messages * times)) l, ne_eqb (length c.message) 60 ne)

    module _ (k : length c.message ≡ 60) where
      pub well_lent : {r : ℕ} → r ≡ refusal (entry_checks messages times s.storage c.asked c.status) → r ≡ refusal (store_checks messages times s c)
      unfolding refusal
      well_lent h = rw (eq-eqb (length s.memory) (60 * (messages * times)) l, eq-eqb (length c.message) 60 k) h

-- where a message goes, by whether the ring moves on
module _ (times : ℕ) (o : Storage) (week time : ℕ) where
  pub moved_place : moves o week time ≡ true → place_for times o week time ≡ next_place times o.current
  unfolding place_for
  moved_place e = rw e

  pub moved_number : moves o week time ≡ true → number_for o week time ≡ 0
  unfolding number_for
  moved_number e = rw e

  pub same_place : moves o week time ≡ false → place_for times o week time ≡ o.current
  unfolding place_for
  same_place e = rw e

  pub same_number : moves o week time ≡ false → number_for o week time ≡ get_or o.counts o.current 0
  unfolding number_for
  same_number e = rw e

-- The same, of the code's place p, which is the current one.
module _ (messages times : ℕ) (o : Storage) (a : Asked) (status : ℕ) where
  -- a refusal that is handed on
  pub admits_none : (r : Result Slot Refusal) (e : Refusal) → IsErrAnd r (λ (f : Refusal). f ≡ e)
      → refusal_number e ≡ refusal (entry_checks messages times o a status) → Admits messages times o a status r
  admits_none r e i h = subst⁻¹ (Admits messages times o a status) (carried r i) h

  module _ (p : ℕ) (k : p ≡ o.current) (here : Place) (h : IsPlace o p here) {same : Bool} (e : same ≡ is_time here.timed here.week here.tow a.week a.time) where
    pub same_time : same ≡ has_time o a.week a.time o.current
    same_time = e ∙ rw (h.timed_is, h.week_is, h.tow_is, k)

    pub same_full : {f : Bool} → f ≡ (same && eqb here.count messages) → f ≡ full messages o a.week a.time
    same_full g = g ∙ rw (same_time, h.count_is, k)

    pub same_moves : {b : Bool} → (here.timed && not same) ≡ b → moves o a.week a.time ≡ b
    same_moves g = let m : (here.timed && not same) ≡ moves o a.week a.time = rw (same_time, h.timed_is, k) in sym m ∙ g

-- what holds of a message that is not refused
pub record Fine (messages times : ℕ) (s : State) (c : Call) : Type 0 where
  pub memory_long : length s.memory ≡ 60 * (messages * times)
  pub message_long : length c.message ≡ 60
  pub is_legal : legal messages times s.storage ≡ true
  pub some : 1 ≤ c.asked.satellite
  pub few : c.asked.satellite ≤ 36
  pub week_in : c.asked.week ≤ 4095
  pub time_in : c.asked.time ≤ 604799
  pub status_in : c.status ≤ 3
  pub place_in : place_of times s c < times
  pub number_in : number_of s c < messages

number_below :
    (messages : ℕ) (o : Storage) (week time : ℕ) → 0 < messages → legal_place messages o o.current ≡ true → full messages o week time ≡ false
    → number_for o week time < messages
unfolding number_for is_time
number_below messages o week time some e f =
    go (get_or o.timed o.current false) (eqb (get_or o.weeks o.current 0) week) (eqb (get_or o.tows o.current 0) time)
    (eqb (get_or o.counts o.current 0) messages) refl (place_untimed messages o o.current e) f
  where
    go : (t w m n : Bool) → eqb (get_or o.counts o.current 0) messages ≡ n → (t ≡ false → get_or o.counts o.current 0 ≡ 0) → (t && w && m && n) ≡ false
        → cond (t && not (t && w && m)) 0 (get_or o.counts o.current 0) < messages
    go false w m n q z g = omega (arith, z refl)
    go true true true true q z g = let y : ◌≡◌ {A = ℕ} 0 1 = cc in absurd (omega arith)
    go true true true false q z g = omega (arith, place_few messages o o.current e, eqb-false (get_or o.counts o.current 0) messages q)
    go true true false n q z g = omega arith
    go true false m n q z g = omega arith

place_below : (times : ℕ) (o : Storage) (week time : ℕ) → o.current < times → place_for times o week time < times
unfolding place_for
place_below times o week time h = go (moves o week time)
  where
    go : (b : Bool) → cond b (next_place times o.current) o.current < times
    go true = next_below times o.current h
    go false = h

pub fine : (messages times : ℕ) (s : State) (c : Call) {q : ℕ} → 0 < messages → q ≡ refusal (store_checks messages times s c) → q ≡ 0 → Fine messages times s c
fine messages times s c pos e z =
    let f = none_fails (store_checks messages times s c) tt (sym e ∙ z) in
    let ok : legal messages times s.storage ≡ true = not-false _ f.1.1.0 in
    record {
      memory_long = eqb-true (length s.memory) (60 * (messages * times)) (not-false _ f.0);
      message_long = eqb-true (length c.message) 60 (not-false _ f.1.0);
      is_legal = ok;
      some = ltb-false c.asked.satellite 1 f.1.1.1.0;
      few = ltb-false 36 c.asked.satellite f.1.1.1.1.0;
      week_in = ltb-false 4095 c.asked.week f.1.1.1.1.1.0;
      time_in = ltb-false 604799 c.asked.time f.1.1.1.1.1.1.0;
      status_in = ltb-false 3 c.status f.1.1.1.1.1.1.1.0;
      place_in = place_below times s.storage c.asked.week c.asked.time (legal_current messages times s.storage ok);
      number_in =
          number_below messages s.storage c.asked.week c.asked.time pos
          (legal_at_lem messages times s.storage ok s.storage.current (legal_current messages times s.storage ok)) f.1.1.1.1.1.1.1.1.0;
    }

-- A store.
module _ (messages times : ℕ) (s : State) (c : Call) {q : ℕ} (e : q ≡ refusal (store_checks messages times s c)) where
  pub store_refused : (q ≡ 0 → ⊥) → ◌≡◌ {A = Outcome} (record { state = s; answer = refused q }) (store messages times s c)
  unfolding store
  store_refused ne = rw (← e, ne_eqb q 0 ne)

  pub store_stored : q ≡ 0 → ◌≡◌ {A = Outcome} (record { state = stored messages times s c; answer = gives [] }) (store messages times s c)
  unfolding store
  store_stored z = rw (← e, z)

pub stored_is : (messages times : ℕ) (s : State) (c : Call) {p j : ℕ} {o : Storage} {m : List ℕ} → p ≡ place_of times s c → j ≡ number_of s c
    → o ≡ entered messages s.storage p j c.asked c.status → m ≡ put s.memory (60 * entry messages p j) 60 c.message
    → ◌≡◌ {A = State} (record { storage = o; memory = m }) (stored messages times s c)
unfolding stored
stored_is messages times s c ep ej eo em = rw (eo, em, ep, ej)

-- What is told of where a message goes, the lent bytes and the message being as long as they should.
module _ (messages times : ℕ) (s : State) (c : Call) (l : length s.memory ≡ 60 * (messages * times)) (k : length c.message ≡ 60) where
  pub told_refused : (e : Refusal) → Admits messages times s.storage c.asked c.status (Err e)
      → ◌≡◌ {A = Outcome} (record { state = s; answer = refused (refusal_number e) }) (store messages times s c)
  told_refused e f = store_refused messages times s c (well_lent messages times s c l k f) (number_some e)

  module _ (t : Slot) (f : Admits messages times s.storage c.asked c.status (Ok t)) where
    told_none : 0 ≡ refusal (store_checks messages times s c)
    told_none = well_lent messages times s c l k f.0

    pub told_below : 0 < messages → (t.place < times) × (t.number < messages)
    told_below pos = let g = fine messages times s c pos told_none refl in (omega (arith, g.place_in, f.1), omega (arith, g.number_in, f.2))

    pub told_stored :
        {o : Storage} {m : List ℕ} → o ≡ entered messages s.storage t.place t.number c.asked c.status
        → m ≡ put s.memory (60 * entry messages t.place t.number) 60 c.message
        → ◌≡◌ {A = Outcome} (record { state = record { storage = o; memory = m }; answer = gives [] }) (store messages times s c)
    told_stored eo em =
        ap (λ (t : State). record { state = t; answer = gives [] }) (stored_is messages times s c f.1 f.2 eo em)
        ∙ store_stored messages times s c told_none refl

-- Finding, by a search of the place's messages that ended at one or at none.
module _ (satellites statuses : List ℕ) (at count satellite : ℕ) {r : Option ℕ} {all : List ℕ}
    (e : r ≡ cond (ltb (position_or_len (λ x. eqb x satellite) all) (length all)) (Some (position_or_len (λ x. eqb x satellite) all)) None)
    (q : all ≡ part at count satellites) (inside : at + count ≤ length satellites) where
  searched : r ≡ cond (ltb (first_of satellites at count satellite) count) (Some (first_of satellites at count satellite)) None
  unfolding first_of
  searched = e ∙ rw (q, part_long at count satellites inside, first_listed (λ x. eqb x satellite) satellites at count inside)

  pub search_none : r ≡ None → nothing ≡ found_among satellites statuses at count satellite
  unfolding found_among
  search_none h = go (ltb (first_of satellites at count satellite) count) (first_of satellites at count satellite) (sym searched ∙ h)
    where
      go : (b : Bool) (n : ℕ) → cond b (Some n) None ≡ None → nothing ≡ cond b (gives (60 * (at + n) ∷ get_or statuses (at + n) 0 ∷ [])) nothing
      go true n f = absurd (cc)
      go false n f = refl

  pub search_some : {j : ℕ} → r ≡ Some j → gives (60 * (at + j) ∷ get_or statuses (at + j) 0 ∷ []) ≡ found_among satellites statuses at count satellite
  unfolding found_among
  search_some {j} h = go (ltb (first_of satellites at count satellite) count) (first_of satellites at count satellite) (sym searched ∙ h)
    where
      go : (b : Bool) (n : ℕ) → cond b (Some n) None ≡ Some j
          → gives (60 * (at + j) ∷ get_or statuses (at + j) 0 ∷ []) ≡ cond b (gives (60 * (at + n) ∷ get_or statuses (at + n) 0 ∷ [])) nothing
      go true n f = cc
      go false n f = absurd (cc)

-- a message that is the first
pub find_at : (satellites statuses : List ℕ) (at count satellite : ℕ) {j : ℕ} → j ≡ first (sent_by satellites at satellite) count 0 → j < count
    → gives (60 * (at + j) ∷ get_or statuses (at + j) 0 ∷ []) ≡ found_among satellites statuses at count satellite
unfolding found_among first_of
find_at satellites statuses at count satellite {j} e h = rw (← e, lt-ltb j count h)

-- Asking: what the place that is reached says, or that none is.
module _ (messages times : ℕ) (o : Storage) (a : Asked) (e : 0 ≡ refusal (ask_checks messages times o a)) where
  pub get_there : {p : ℕ} → p ≡ reached times o a.week a.time → p < times → {x : Answer} → x ≡ found messages o p a.satellite → x ≡ get messages times o a
  unfolding get
  get_there {p} h l g = ok_answer _ _ e (rw (← h, lt-ltb p times l) g)

  pub get_nowhere : times ≤ reached times o a.week a.time → nothing ≡ get messages times o a
  unfolding get
  get_nowhere l = ok_answer _ _ e (rw (le-ltb (reached times o a.week a.time) times l))

-- a refusal that is handed on
pub get_refused : (messages times : ℕ) (o : Storage) (a : Asked) (r : Result (Option MackFound) Refusal) (e : Refusal) → IsErrAnd r (λ (f : Refusal). f ≡ e)
    → refusal_number e ≡ refusal (ask_checks messages times o a) → meaning_get r ≡ get messages times o a
unfolding get
get_refused messages times o a r e i h = rw (carried r i) (err_answer _ _ e h)

-- what the search of the places told
module _ (times : ℕ) (o : Storage) (a : Asked) where
  pub reached_some : (r : Option ℕ) {p : ℕ} → Reaches times o a.week a.time r → r ≡ Some p → (p ≡ reached times o a.week a.time) × (p < times)
  reached_some r h q = subst (Reaches times o a.week a.time) q h
