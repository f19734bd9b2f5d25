-- The answers of `walk` and `timing_tags`: what is refused, and the verdict.
-- Assumes nothing.
use mathlib.Core.Path.{◌≡◌, sym, ap, ◌∙◌}
use mathlib.Core.List.{List, [], ◌∷◌}
use Prim.Native.Nat.{ℕ, ◌≤◌, ◌<◌}
use native.Mathlib.Omega.{arith}
use lib.Dec.{T, ltb, eqb}
use lib.ListN.{length, replicate}
use borrow.Author.Tests.{eq-eqb, ne_eqb, lt-ltb, le-ltb, ltb-false, eqb-false}
use Rattle.std.specs.Prelude.{Result, Ok, ⊤}
use Rattle.std.specs.Result.{IsOk, IsErrAnd}
use Rattle.layouts.specs.Answer.{Answer, refused, gives, Check, ◌when◌, refusal, answered, Copied, answered_with}
use Rattle.layouts.specs.Gst.{svn_checks}
use Rattle.layouts.specs.Mack.{size_checks, mack_checks, nt, NumTags}
use Rattle.layouts.specs.Maclt.{table, row_of, slots, nt_of}
use Rattle.layouts.specs.MacltPromises.{NtRead}
use Rattle.layouts.specs.Refusals.{refusal_number, refused_by}
use Rattle.layouts.specs.declared.refusal.Refusal.{Refusal}
use Rattle.layouts.proofs.Answers.{all_pass, none_fails, stop_n, pass_n, differs, equals}
use Rattle.layouts.proofs.Readers.{first_of}
use Rattle.layouts.proofs.Refused.{number_some, carried, err_as_bytes, err_on, ok_on, err_through}
use Rattle.layouts.proofs.Tags.{good, tags_few}
use Rattle.layouts.proofs.LookUp.{nt_few}
use Rattle.recorder.specs.Slots.{judged, walked}
use Rattle.recorder.specs.Timing.{timing_tags, tags_listed}
use Rattle.recorder.specs.Walk.{Walk, verdict, table_checks, walk_checks, walk}
use Rattle.recorder.specs.WalkPromises.{TimingTagsRead, WalkSlots}
use Rattle.recorder.specs.declared.timing.TimingTags.{TimingTags}
use Rattle.recorder.specs.declared.walk.Walked.{Walked}
use Rattle.recorder.specs.inner.Code.{Readable}
use Rattle.layouts.proofs.Given.{err_number, ok_given, not_refused, number_is}

-- an answer with bytes beside it, refused and not
with_refused : (cs : List Check) (a : Answer) (b o : List ℕ) {q : ℕ} → q ≡ refusal cs → (q ≡ 0 → ⊥)
    → ◌≡◌ {A = Copied} (record { answer = refused q; bytes = o }) (answered_with cs a b o)
unfolding answered
with_refused cs a b o {q} e ne = rw (← e, ne_eqb q 0 ne)

pub with_given : (cs : List Check) (a : Answer) (b o : List ℕ) → refusal cs ≡ 0 → ◌≡◌ {A = Copied} (record { answer = a; bytes = b }) (answered_with cs a b o)
unfolding answered
with_given cs a b o e = rw e

-- The sizes' nt, as it is given.
abbrev Tags : ℕ → ℕ → Answer
Tags k T = answered (refusal (size_checks k T)) (gives (nt k T ∷ []))

pub nt_small : (k T : ℕ) {v : ℕ} → gives (v ∷ []) ≡ Tags k T → v ≤ 10
nt_small k T g =
    let y = ok_given (refusal (size_checks k T)) (nt k T ∷ []) g in
    let few = tags_few k T (good k T (sym y.0)) in
    omega (arith, few, first_of y.1)

-- The list of a message.
module _ (m : List ℕ) (k T : ℕ) where
  pub timing_misfit : (length m ≡ 60 → ⊥) → ◌≡◌ {A = Copied} (record { answer = refused 1; bytes = replicate 9 0 }) (timing_tags m k T)
  unfolding timing_tags
  timing_misfit ne = with_refused (mack_checks m k T) _ _ _ (stop_n 1 _ _ (differs (length m) 60 ne)) (λ z. absurd (omega (arith, z)))

  pub timing_refused : length m ≡ 60 → (r : Result TimingTags Refusal) (e : Refusal) → IsErrAnd r (λ (f : Refusal). f ≡ e) → refused (refusal_number e) ≡ Tags k T
      → TimingTagsRead m k T r
  unfolding timing_tags
  timing_refused l r e i h =
      err_as_bytes 9 (λ (t : TimingTags). t.count ∷ []) (λ (t : TimingTags). t.tags) r e i
      (with_refused (mack_checks m k T) _ _ _ (pass_n 1 _ _ (equals (length m) 60 l) (err_number (refusal (size_checks k T)) (nt k T ∷ []) h)) (number_some e))

  pub mack_passes : length m ≡ 60 → {v : ℕ} → gives (v ∷ []) ≡ Tags k T → Readable m k T v
  mack_passes l g =
      let y = ok_given (refusal (size_checks k T)) (nt k T ∷ []) g in
      (sym (pass_n 1 _ _ (equals (length m) 60 l) y.0), first_of y.1)

  pub timing_given : length m ≡ 60 → {v : ℕ} {r : Copied} → gives (v ∷ []) ≡ Tags k T → r ≡ tags_listed m k T → r ≡ timing_tags m k T
  unfolding timing_tags
  timing_given l g h = h ∙ with_given (mack_checks m k T) _ _ _ (mack_passes l g).0

-- The refusals of sizes, message number and ID.
module _ (k T id msg : ℕ) where
  abbrev behind : List Check
  behind = 7 when ltb 1 msg ∷ 8 when eqb (row_of id table).nt 0 ∷ []

  pub sizes_refused : (r : Result ⊤ Refusal) (e : Refusal) → IsErrAnd r (λ (f : Refusal). f ≡ e) → refused (refusal_number e) ≡ Tags k T
      → refused_by r ≡ refusal (table_checks k T id msg)
  sizes_refused r e i h = err_through (size_checks k T) behind r e i (err_number (refusal (size_checks k T)) (nt k T ∷ []) h)

  module _ {v : ℕ} (g : gives (v ∷ []) ≡ Tags k T) where
    then : {r : ℕ} → r ≡ refusal behind → r ≡ refusal (table_checks k T id msg)
    then h = ok_on (size_checks k T) behind tt (ok_given (refusal (size_checks k T)) (nt k T ∷ []) g).0 h

    pub message_refused : 1 < msg → 7 ≡ refusal (table_checks k T id msg)
    message_refused h = then (stop_n 7 _ _ (lt-ltb 1 msg h))

    pub id_refused : msg ≤ 1 → (r : Result ⊤ Refusal) (e : Refusal) → IsErrAnd r (λ (f : Refusal). f ≡ e) → refused (refusal_number e) ≡ nt_of id
        → refused_by r ≡ refusal (table_checks k T id msg)
    unfolding nt_of
    id_refused low r e i h =
        rw (carried r i) (then (pass_n 7 _ _ (le-ltb 1 msg low) (err_number (refusal (8 when eqb (row_of id table).nt 0 ∷ [])) ((row_of id table).nt ∷ []) h)))

    pub id_known : msg ≤ 1 → {w : ℕ} → gives (w ∷ []) ≡ nt_of id → 0 ≡ refusal (table_checks k T id msg)
    unfolding nt_of
    id_known low h = then (pass_n 7 _ _ (le-ltb 1 msg low) (ok_given (refusal (8 when eqb (row_of id table).nt 0 ∷ [])) ((row_of id table).nt ∷ []) h).0)

-- The two nt, where nothing is refused.
module _ (k T : ℕ) (r : Result ℕ Refusal) (e : NumTags k T r) where
  pub tags_ok : refusal (size_checks k T) ≡ 0 → IsOk r
  tags_ok z = not_refused (λ (v : ℕ). v ∷ []) (refusal (size_checks k T)) (nt k T ∷ []) r z e

  pub tags_are : {v : ℕ} → refusal (size_checks k T) ≡ 0 → r ≡ Ok v → (v ≡ nt k T) × (v ≤ 10)
  tags_are z g =
      let y = number_is (refusal (size_checks k T)) (nt k T) r e g in
      let few = tags_few k T (good k T z) in
      (y, omega (arith, few, y))

module _ (id : ℕ) (r : Result ℕ Refusal) (e : NtRead id r) where
  pub table_ok : ((row_of id table).nt ≡ 0 → ⊥) → IsOk r
  unfolding nt_of
  table_ok ne =
      not_refused (λ (v : ℕ). v ∷ []) (refusal (8 when eqb (row_of id table).nt 0 ∷ [])) ((row_of id table).nt ∷ []) r (all_pass _ (ne_eqb (row_of id table).nt 0 ne, tt)) e

  pub table_is : {v : ℕ} → r ≡ Ok v → (v ≡ (row_of id table).nt) × (v ≤ 10)
  unfolding nt_of
  table_is g =
      let y = number_is (refusal (8 when eqb (row_of id table).nt 0 ∷ [])) (row_of id table).nt r e g in
      (y, omega (arith, y, nt_few id))

-- The refusals of a walk.
module _ (m : List ℕ) (k T sender id msg : ℕ) where
  pub walk_misfit : (length m ≡ 60 → ⊥) → 1 ≡ refusal (walk_checks m k T sender id msg)
  walk_misfit ne = stop_n 1 _ _ (differs (length m) 60 ne)

  module _ (l : length m ≡ 60) {from : ℕ} (s : from ≡ sender) where
    pub sender_refused : (r : Result ⊤ Refusal) (e : Refusal) → IsErrAnd r (λ (f : Refusal). f ≡ e) → refusal_number e ≡ refusal (svn_checks from)
        → refused_by r ≡ refusal (walk_checks m k T sender id msg)
    sender_refused r e i h =
        rw (carried r i) (pass_n 1 _ _ (equals (length m) 60 l) (err_on (svn_checks sender) _ e (h ∙ ap (λ (x : ℕ). refusal (svn_checks x)) s)))

    pub table_asked : {r : ℕ} → 0 ≡ refusal (svn_checks from) → r ≡ refusal (table_checks k T id msg) → r ≡ refusal (walk_checks m k T sender id msg)
    table_asked z h = pass_n 1 _ _ (equals (length m) 60 l) (ok_on (svn_checks sender) _ tt (z ∙ ap (λ (x : ℕ). refusal (svn_checks x)) s) h)

  -- what is known where nothing is refused
  pub record Known : Type 0 where
    pub sizes : refusal (size_checks k T) ≡ 0
    pub mack : refusal (mack_checks m k T) ≡ 0
    pub low : msg ≤ 1
    pub some : (row_of id table).nt ≡ 0 → ⊥

  pub known : refusal (walk_checks m k T sender id msg) ≡ 0 → Known
  known z =
      let p = none_fails (walk_checks m k T sender id msg) tt z in
      let sizes = p.1.1.1 in
      record {
        sizes = all_pass (size_checks k T) (sizes.0, (sizes.1.0, tt));
        mack = all_pass (mack_checks m k T) (p.0, (sizes.0, (sizes.1.0, tt)));
        low = ltb-false 1 msg sizes.1.1.0;
        some = eqb-false (row_of id table).nt 0 sizes.1.1.1.0;
      }

  -- The verdict.
  module _ {table_nt message-nt : ℕ} (et : table_nt ≡ (row_of id table).nt) (em : message-nt ≡ nt k T) {l : Copied} (el : l ≡ tags_listed m k T) where
    pub verdict_differ : (table_nt ≡ message-nt → ⊥)
        → ◌≡◌ {A = Walk} (record { slots = gives (2 ∷ table_nt ∷ message-nt ∷ []); timing = l }) (verdict m k T sender id msg)
    unfolding verdict judged
    verdict_differ ne = rw (el, et, em, ne_eqb (row_of id table).nt (nt k T) (λ z. ne (et ∙ z ∙ sym em)))

    pub verdict_same : {a : Answer} → table_nt ≡ message-nt → a ≡ walked m T sender 1 (slots msg (row_of id table))
        → ◌≡◌ {A = Walk} (record { slots = a; timing = l }) (verdict m k T sender id msg)
    unfolding verdict judged
    verdict_same e h = rw (el, h, eq-eqb (row_of id table).nt (nt k T) (sym et ∙ e ∙ em))

  pub walk_refused : (r : Result Walked Refusal) (e : Refusal) → IsErrAnd r (λ (f : Refusal). f ≡ e) → refusal_number e ≡ refusal (walk_checks m k T sender id msg)
      → WalkSlots m k T sender id msg r
  unfolding walk
  walk_refused r e i h = rw (carried r i, ← h, ne_eqb (refusal_number e) 0 (number_some e))

  pub walk_given : {w : Walk} → 0 ≡ refusal (walk_checks m k T sender id msg) → w ≡ verdict m k T sender id msg → w ≡ walk m k T sender id msg
  unfolding walk
  walk_given z h = h ∙ rw (sym z)
