-- The DSM collector recovers: what the record and the memory say is what the run says.
-- Assumes nothing.
use mathlib.Core.Path.{◌≡◌, refl, sym, ap, ◌∙◌, subst, subst⁻¹}
use mathlib.Core.List.{List, [], ◌∷◌, ◌++◌}
use mathlib.Core.Bool.{Bool, true, false, cond, not, ◌&&◌}
use Prim.Native.Nat.{ℕ, zero, suc, ◌+◌, ◌*◌, ◌≤◌, ◌<◌}
use native.Mathlib.Omega.{arith}
use lib.Dec.{eqb, eqb-suc-zero}
use lib.Arith.{lt_of_le-ne}
use native.Mathlib.Nat.{le_of_suc-le-suc}
use lib.ListN.{length, get_or, set, take, replicate, length-set, get_or-replicate}
use lib.Seq.{get_or-set_same, get_or-set_other, take-add}
use borrow.Author.Tests.{eqb-true, eqb-false, eq-eqb, ne_eqb}
use Rattle.layouts.specs.Lists.{all}
use Rattle.layouts.specs.Answer.{Answer, refused, nothing, gives, shown}
use Rattle.layouts.specs.DsmHeader.{dsm_type_of}
use Rattle.dsms.specs.Dsm.{State, new, Fed, begun, fresh, copied, stored, counted, count, all_held, whole, completed, finished, taken, view}
use Rattle.dsms.specs.DsmRecovery.{Call, id_in, block_in, is_admitted, fed_to, after, same_id, before, grown, run, fed, first_copy, counts, all_fed, is_whole}
use Rattle.dsms.specs.DsmRecovery.{first_copies, dsm_of, comes_out, in_view, bytes_in_view, Alike, DsmRecovers, run_id, Viewed, DsmShows}
use Rattle.runs.specs.Runs.{goes_on, run_from}
use Rattle.runs.proofs.Runs.{goes_on_lem, before_twice, run_before_lem, run_from_lem, kept_by_all}
use Rattle.runs.proofs.Basics.{and_true}
use Rattle.dsms.proofs.DsmRun.{fed_more, copy_kept, copy_new, copy_none, same_bool, yes_or, or_no, block_at, placed, put_long, block_put, block_other}
use Rattle.dsms.proofs.DsmRun.{counted_byte, first_byte, counted_none, fed_stays, whole_parts, counts_stay, whole_stays, id_of_last}
use Rattle.dsms.proofs.Blocks.{counted_few, header_id, header_block, other_block, lent, whole_block, feed_refused, feed_taken, begun_same, begun_other}
use Rattle.dsms.proofs.Blocks.{view_given, view_undone, nothing_shown}

-- What the record and the memory say of a run of the ID i.
record Core (i : ℕ) (s : State) (r : List Call) : Type 0 where
  id_is : s.id ≡ i
  long : length s.memory ≡ 208
  flags : length s.held ≡ 16
  done_is : s.done ≡ is_whole i r
  was_fed : (n : ℕ) → n < 16 → get_or s.held n false ≡ true → fed n r ≡ true
  copy : (n : ℕ) → n < 16 → get_or s.held n false ≡ true → block_at n s.memory ≡ first_copy n r
  is_held : s.done ≡ false → (n : ℕ) → n < 16 → fed n r ≡ true → get_or s.held n false ≡ true
  all : s.done ≡ true → all_held s.held (counts i r) ≡ true

-- what holds of a collector that is not done, with one block more
record Flags (i : ℕ) (s : State) (r : List Call) : Type 0 where
  id_is : s.id ≡ i
  long : length s.memory ≡ 208
  flags : length s.held ≡ 16
  undone : s.done ≡ false
  flag : (n : ℕ) → n < 16 → get_or s.held n false ≡ fed n r
  copy : (n : ℕ) → n < 16 → get_or s.held n false ≡ true → block_at n s.memory ≡ first_copy n r

held_below : (held : List Bool) (n : ℕ) → all_held held n ≡ true → (k : ℕ) → k < n → get_or held k false ≡ true
unfolding all
held_below held zero h k l = absurd (omega arith)
held_below held (suc n) h k l = go (eqb k n) refl (held_below held n (and_true (all_held held n) (get_or held n false) h).0)
  where
    go : (b : Bool) → eqb k n ≡ b → ((j : ℕ) → j < n → get_or held j false ≡ true) → get_or held k false ≡ true
    go true e ih = rw (eqb-true k n e) (and_true (all_held held n) (get_or held n false) h).1
    go false e ih = ih k (lt_of_le-ne (le_of_suc-le-suc l) (eqb-false k n e))

first_missing : (held : List Bool) (n : ℕ) → get_or held 0 false ≡ false → all_held held (suc n) ≡ false
unfolding all
first_missing held zero h = rw h
first_missing held (suc n) h = rw (first_missing held n h)

held_fed : (i : ℕ) (s : State) (r : List Call) → Flags i s r → (n : ℕ) → n ≤ 16 → all_held s.held n ≡ all_fed n r
unfolding all
held_fed i s r f zero h = refl
held_fed i s r f (suc n) h = rw (held_fed i s r f n (omega arith), f.flag n h)

-- all counted blocks are held exactly if all counted blocks were fed
same_count : (i : ℕ) (s : State) (r : List Call) → s.id ≡ i → block_at 0 s.memory ≡ first_copy 0 r → count s ≡ counts i r
same_count i s r e c = rw e (counted_byte (dsm_type_of i) s.memory (first_copy 0 r) (first_byte s.memory ∙ ap (λ (l : List ℕ). get_or l 0 0) c))

whole_is : (i : ℕ) (s : State) (r : List Call) → Flags i s r → whole s ≡ is_whole i r
whole_is i s r f = go (get_or s.held 0 false) refl
  where
    missing : get_or s.held 0 false ≡ false → (k : ℕ) → (not (eqb k 0) && all_held s.held k) ≡ false
    missing h zero = refl
    missing h (suc k) = rw (eqb-suc-zero k, first_missing s.held k h)

    go : (b : Bool) → get_or s.held 0 false ≡ b → whole s ≡ is_whole i r
    go true e =
        let c : count s ≡ counts i r = same_count i s r f.id_is (f.copy 0 (omega arith) e) in
        rw (c, held_fed i s r f (counts i r) (counted_few (dsm_type_of i) (first_copy 0 r)))
    go false e =
        let none : counts i r ≡ 0 = ap (counted (dsm_type_of i)) (copy_none 0 r (sym (f.flag 0 (omega arith)) ∙ e)) ∙ counted_none (dsm_type_of i) in
        missing e (count s) ∙ rw none

-- A block is stored, by a collector that is not done.
module _ (i : ℕ) (s : State) (r : List Call) (k : Core i s r) (c : Call) (lb : length c.block ≡ 13) (und : s.done ≡ false) where
  agree : (n : ℕ) → n < 16 → get_or s.held n false ≡ fed n r
  agree n h = same_bool (get_or s.held n false) (fed n r) (k.was_fed n h) (k.is_held und n h)

  again : get_or s.held (block_in c) false ≡ true → Flags i s (r ++ (c ∷ []))
  again e =
      let known : fed (block_in c) r ≡ true = sym (agree (block_in c) (header_block c.header)) ∙ e in
      record {
        id_is = k.id_is;
        long = k.long;
        flags = k.flags;
        undone = und;
        flag = λ n h. agree n h ∙ sym (fed_more n r c ∙ go n known (eqb (block_in c) n) refl (fed n r) refl);
        copy = λ n h e. k.copy n h e ∙ sym (copy_kept n r c (k.was_fed n h e));
      }
    where
      go : (n : ℕ) → fed (block_in c) r ≡ true → (x : Bool) → eqb (block_in c) n ≡ x → (y : Bool) → fed n r ≡ y → cond y true x ≡ y
      go n known x ex true ey = refl
      go n known true ex false ey = sym (rw (eqb-true (block_in c) n ex) at known) ∙ ey
      go n known false ex false ey = refl

  first_time : get_or s.held (block_in c) false ≡ false
      → Flags i (copied s (block_in c) c.block) (r ++ (c ∷ []))
  first_time e =
      let hb : block_in c < 16 = header_block c.header in
      let unknown : fed (block_in c) r ≡ false = sym (agree (block_in c) hb) ∙ e in
      record {
        id_is = k.id_is;
        long = put_long s.memory (block_in c) c.block k.long lb hb;
        flags = length-set s.held (block_in c) true ∙ k.flags;
        undone = und;
        flag = λ n h. flag n h (eqb n (block_in c)) refl;
        copy = λ n h e. copy n h e unknown (eqb n (block_in c)) refl;
      }
    where
      flag : (n : ℕ) → n < 16 → (x : Bool) → eqb n (block_in c) ≡ x → get_or (set s.held (block_in c) true) n false ≡ fed n (r ++ (c ∷ []))
      flag n h true ex =
          let same : n ≡ block_in c = eqb-true n (block_in c) ex in
          rw same (get_or-set_same s.held (block_in c) true false (rw k.flags (header_block c.header))
          ∙ sym (fed_more (block_in c) r c ∙ rw (eq-eqb (block_in c) (block_in c) refl) (yes_or (fed (block_in c) r))))
      flag n h false ex =
          let ne : n ≡ block_in c → ⊥ = eqb-false n (block_in c) ex in
          get_or-set_other s.held (block_in c) n true false ne ∙ agree n h
          ∙ sym (fed_more n r c ∙ rw (ne_eqb (block_in c) n (λ z. ne (sym z))) (or_no (fed n r)))

      copy : (n : ℕ) → n < 16 → get_or (set s.held (block_in c) true) n false ≡ true → fed (block_in c) r ≡ false → (x : Bool) → eqb n (block_in c) ≡ x
          → block_at n (placed s.memory (block_in c) c.block) ≡ first_copy n (r ++ (c ∷ []))
      copy n h e unknown true ex =
          let same : n ≡ block_in c = eqb-true n (block_in c) ex in
          rw same (block_put s.memory (block_in c) c.block k.long lb (header_block c.header) ∙ sym (copy_new (block_in c) r c unknown refl))
      copy n h e unknown false ex =
          let ne : n ≡ block_in c → ⊥ = eqb-false n (block_in c) ex in
          let e : get_or s.held n false ≡ true = sym (get_or-set_other s.held (block_in c) n true false ne) ∙ e in
          block_other s.memory (block_in c) c.block k.long lb (header_block c.header) n h ne ∙ k.copy n h e
          ∙ sym (copy_kept n r c (k.was_fed n h e))

  stored_flags : Flags i (stored s (block_in c) c.block) (r ++ (c ∷ []))
  unfolding stored
  stored_flags = go (get_or s.held (block_in c) false) again first_time refl
    where
      go : (x : Bool) → (get_or s.held (block_in c) false ≡ true → Flags i s (r ++ (c ∷ [])))
          → (get_or s.held (block_in c) false ≡ false → Flags i (copied s (block_in c) c.block) (r ++ (c ∷ [])))
          → get_or s.held (block_in c) false ≡ x
          → Flags i (cond x s (copied s (block_in c) c.block)) (r ++ (c ∷ []))
      go true f g e = f e
      go false f g e = g e

-- done, where the run is whole
counted_held : (i : ℕ) (s : State) (r : List Call) → Flags i s r → is_whole i r ≡ true → all_held s.held (counts i r) ≡ true
counted_held i s r f w = held_fed i s r f (counts i r) (counted_few (dsm_type_of i) (first_copy 0 r)) ∙ (whole_parts i r w).1

from_flags : (i : ℕ) (s : State) (r : List Call) → Flags i s r → (d : Bool) → d ≡ is_whole i r
    → Core i (record { id = s.id; came = s.came; held = s.held; done = d; memory = s.memory }) r
from_flags i s r f d e =
    record {
      id_is = f.id_is;
      long = f.long;
      flags = f.flags;
      done_is = e;
      was_fed = λ n h g. sym (f.flag n h) ∙ g;
      copy = f.copy;
      is_held = λ u n h g. f.flag n h ∙ g;
      all = λ g. counted_held i s r f (sym e ∙ g);
    }

whole_count : (i : ℕ) (s : State) (r : List Call) → Flags i s r → is_whole i r ≡ true → count s ≡ counts i r
whole_count i s r f w =
    let h : get_or s.held 0 false ≡ true = held_below s.held (counts i r) (counted_held i s r f w) 0 (whole_parts i r w).0 in
    same_count i s r f.id_is (f.copy 0 (omega arith) h)

record Step (i : ℕ) (old r : List Call) (f : Fed) : Type 0 where
  core : Core i f.state r
  answer : f.answer ≡ comes_out i old r

finished_step : (i : ℕ) (s : State) (old r : List Call) → Flags i s r → is_whole i old ≡ false → Step i old r (finished s)
unfolding finished
finished_step i s old r f w = go (is_whole i r) refl
  where
    go : (x : Bool) → is_whole i r ≡ x → Step i old r (finished s)
    go true e =
        let yes' : whole s ≡ true = whole_is i s r f ∙ e in
        record {
          core = rw yes' (from_flags i s r f true (sym e));
          answer = rw (yes', e, w, f.id_is) (ap (λ (k : ℕ). gives (i ∷ dsm_type_of i ∷ 13 * k ∷ [])) (rw f.id_is at (whole_count i s r f e)));
        }
    go false e =
        let no' : whole s ≡ false = whole_is i s r f ∙ e in
        record {
          core = rw no' (from_flags i s r f s.done (f.undone ∙ sym e));
          answer = rw (no', e);
        }

done_core : (i : ℕ) (s : State) (r : List Call) → Core i s r → s.done ≡ true → (c : Call) → Core i s (r ++ (c ∷ []))
done_core i s r k d c =
    let w : is_whole i r ≡ true = sym k.done_is ∙ d in
    record {
      id_is = k.id_is;
      long = k.long;
      flags = k.flags;
      done_is = d ∙ sym (whole_stays i r c w);
      was_fed = λ n h e. fed_stays n r c (k.was_fed n h e);
      copy = λ n h e. k.copy n h e ∙ sym (copy_kept n r c (k.was_fed n h e));
      is_held = λ u n h e. let z : ◌≡◌ {A = ℕ} 0 1 = (let q : true ≡ false = sym d ∙ u in cc) in absurd (omega arith);
      all = λ u. rw (counts_stay i r c w) (k.all u);
    }

not_both : (x : Bool) → (x && false) ≡ false
not_both true = refl
not_both false = refl

taken_step : (i : ℕ) (s : State) (r : List Call) → Core i s r → (c : Call) → length c.block ≡ 13
    → Step i r (r ++ (c ∷ [])) (taken s (block_in c) c.block)
unfolding taken
taken_step i s r k c l = go s.done refl
  where
    go : (x : Bool) → s.done ≡ x → Step i r (r ++ (c ∷ [])) (taken s (block_in c) c.block)
    go true e =
        let q : taken s (block_in c) c.block ≡ record { state = s; answer = nothing } = rw e in
        subst⁻¹ (λ (f : Fed). Step i r (r ++ (c ∷ [])) f) q (record {
          core = done_core i s r k e c;
          answer = rw (sym k.done_is ∙ e, not_both (is_whole i (r ++ (c ∷ []))));
        })
    go false e =
        let q : taken s (block_in c) c.block ≡ finished (stored s (block_in c) c.block) = rw e in
        subst⁻¹ (λ (f : Fed). Step i r (r ++ (c ∷ [])) f) q
        (finished_step i (stored s (block_in c) c.block) r (r ++ (c ∷ [])) (stored_flags i s r k c l e) (sym k.done_is ∙ e))

-- A run that begins.
none_held : (n : ℕ) → n < 16 → get_or (replicate 16 false) n false ≡ false
none_held n h = get_or-replicate 16 n false false h

fresh_core : (i : ℕ) (s : State) → length s.memory ≡ 208 → Core i (fresh s i) []
unfolding fed first_copy
fresh_core i s l =
    record {
      id_is = refl;
      long = l;
      flags = refl;
      done_is = sym (rw (counted_none (dsm_type_of i)));
      was_fed = λ n h e. let z : ◌≡◌ {A = ℕ} 0 1 = (let q : true ≡ false = sym e ∙ none_held n h in cc) in absurd (omega arith);
      copy = λ n h e. let z : ◌≡◌ {A = ℕ} 0 1 = (let q : true ≡ false = sym e ∙ none_held n h in cc) in absurd (omega arith);
      is_held = λ u n h e. let z : ◌≡◌ {A = ℕ} 0 1 = cc in absurd (omega arith);
      all = λ u. let z : ◌≡◌ {A = ℕ} 0 1 = cc in absurd (omega arith);
    }

-- What holds between two calls: whatever comes next, the collector is at its run.
record Holds (s : State) (r : List Call) : Type 0 where
  long : length s.memory ≡ 208
  small : s.id ≤ 15
  at_run : (c : Call) → Core (id_in c) (begun s (id_in c)) (before r c)

new_holds : (m : List ℕ) → length m ≡ 208 → Holds (new m) []
unfolding begun
new_holds m l = record { long = l; small = omega arith; at_run = λ c. fresh_core (id_in c) (new m) l }

next_run : (i : ℕ) (s : State) (r : List Call) → s.came ≡ true → Core i s r → (d : Call) → goes_on is_admitted same_id r d ≡ eqb i (id_in d)
    → Core (id_in d) (begun s (id_in d)) (before r d)
next_run i s r came k d e = go (eqb i (id_in d)) refl
  where
    go : (b : Bool) → eqb i (id_in d) ≡ b → Core (id_in d) (begun s (id_in d)) (before r d)
    go true h =
        let same : eqb s.id (id_in d) ≡ true = rw k.id_is h in
        let here : before r d ≡ r = rw (e, h) in
        subst⁻¹ (λ (l : List Call). Core (id_in d) (begun s (id_in d)) l) here
        (subst (λ (t : State). Core (id_in d) t r) (begun_same s (id_in d) came same) (subst (λ (j : ℕ). Core j s r) (eqb-true i (id_in d) h) k))
    go false h =
        let other : eqb s.id (id_in d) ≡ false = rw k.id_is h in
        let none : before r d ≡ [] = rw (e, h) in
        subst⁻¹ (λ (l : List Call). Core (id_in d) (begun s (id_in d)) l) none
        (subst (λ (t : State). Core (id_in d) t []) (begun_other s (id_in d) came other) (fresh_core (id_in d) s k.long))

begun_came : (s : State) (i : ℕ) → (begun s i).came ≡ true
unfolding begun
begun_came s i = go s.came (eqb s.id i) refl
  where
    go : (a b : Bool) → s.came ≡ a → (cond (a && b) s (fresh s i)).came ≡ true
    go true true e = e
    go true false e = refl
    go false b e = refl

finished_came : (s : State) → (finished s).state.came ≡ s.came
unfolding finished
finished_came s = go (whole s) (gives (s.id ∷ dsm_type_of s.id ∷ 13 * count s ∷ []))
  where
    go : (x : Bool) (a : Answer)
        → (cond {A = Fed} x (record { state = completed s; answer = a }) (record { state = s; answer = nothing })).state.came ≡ s.came
    go true a = refl
    go false a = refl

stored_came : (s : State) (n : ℕ) (b : List ℕ) → (stored s n b).came ≡ s.came
unfolding stored
stored_came s n b = go (get_or s.held n false)
  where
    go : (x : Bool) → (cond x s (copied s n b)).came ≡ s.came
    go true = refl
    go false = refl

taken_came : (s : State) (n : ℕ) (b : List ℕ) → (taken s n b).state.came ≡ s.came
unfolding taken
taken_came s n b = go s.done
  where
    go : (x : Bool) → (cond {A = Fed} x (record { state = s; answer = nothing }) (finished (stored s n b))).state.came ≡ s.came
    go true = refl
    go false = finished_came (stored s n b) ∙ stored_came s n b

-- A call, at a run.
module _ (s : State) (r : List Call) (w : Holds s r) (c : Call) where
  refused_is : is_admitted c ≡ false → fed_to s c ≡ record { state = s; answer = refused 1 }
  refused_is e =
      sym (feed_refused s c.header c.block (other_block s.id s.memory c.block (eqb-false (length c.block) 13 e))
      (λ z. absurd (omega (arith, z))))

  module _ (e : is_admitted c ≡ true) where
    thirteen : length c.block ≡ 13
    thirteen = eqb-true (length c.block) 13 e

    taken_is : fed_to s c ≡ taken (begun s (id_in c)) (block_in c) c.block
    taken_is =
        sym (feed_taken s c.header c.block (whole_block s.id s.memory c.block thirteen (lent s.id s.memory w.long w.small)) refl refl refl refl)

    grown_is : grown r c ≡ before r c ++ (c ∷ [])
    grown_is = rw e

    fed_step : Step (id_in c) (before r c) (grown r c) (fed_to s c)
    fed_step =
        subst⁻¹ (λ (l : List Call). Step (id_in c) (before r c) l (fed_to s c)) grown_is
        (subst⁻¹ (λ (f : Fed). Step (id_in c) (before r c) (before r c ++ (c ∷ [])) f) taken_is
        (taken_step (id_in c) (begun s (id_in c)) (before r c) (w.at_run c) c thirteen))

    fed_came : (fed_to s c).state.came ≡ true
    fed_came = ap (λ (f : Fed). f.state.came) taken_is ∙ taken_came (begun s (id_in c)) (block_in c) c.block ∙ begun_came s (id_in c)

    goes_with : (d : Call) → goes_on is_admitted same_id (grown r c) d ≡ same_id c d
    goes_with d = ap (λ (l : List Call). goes_on is_admitted same_id l d) grown_is ∙ goes_on_lem is_admitted same_id (before r c) c d

    fed_holds : Holds (fed_to s c).state (grown r c)
    fed_holds =
        let k = fed_step.core in
        record {
          long = k.long;
          small = rw k.id_is (header_id c.header);
          at_run = λ d. next_run (id_in c) (fed_to s c).state (grown r c) fed_came k d (goes_with d);
        }

  still_holds : is_admitted c ≡ false → Holds (fed_to s c).state (grown r c)
  still_holds e =
      let same : grown r c ≡ r = rw e in
      subst⁻¹ (λ (l : List Call). Holds (fed_to s c).state l) same (subst⁻¹ (λ (f : Fed). Holds f.state r) (refused_is e) w)

  call_holds : Holds (fed_to s c).state (grown r c)
  call_holds = go (is_admitted c) refl
    where
      go : (b : Bool) → is_admitted c ≡ b → Holds (fed_to s c).state (grown r c)
      go true e = fed_holds e
      go false e = still_holds e

after_holds : (s : State) (r cs : List Call) → Holds s r → Holds (after s cs) (run_from is_admitted same_id r cs)
after_holds s r cs h = kept_by_all is_admitted same_id (λ (t : State) (c : Call). (fed_to t c).state) Holds call_holds s r cs h

-- What is shown.
module _ (i : ℕ) (s : State) (r : List Call) (k : Core i s r) where
  core_count : is_whole i r ≡ true → count s ≡ counts i r
  core_count w =
      let h : get_or s.held 0 false ≡ true = held_below s.held (counts i r) (k.all (k.done_is ∙ w)) 0 (whole_parts i r w).0 in
      same_count i s r k.id_is (k.copy 0 (omega arith) h)

  core_view : i ≤ 15 → view s ≡ in_view i r
  core_view h = go (is_whole i r) refl
    where
      go : (b : Bool) → is_whole i r ≡ b → view s ≡ cond b (gives (0 ∷ 13 * counts i r ∷ [])) nothing
      go true w =
          sym (view_given s (lent s.id s.memory k.long (rw k.id_is h)) (rw (k.done_is, w)) (sym (core_count w))
          (λ z. absurd (omega (arith, (whole_parts i r w).0, z))))
      go false w = sym (view_undone s (lent s.id s.memory k.long (rw k.id_is h)) (rw (k.done_is, w)))

  copies : (n : ℕ) → n ≤ 16 → all_held s.held n ≡ true → take (13 * n) s.memory ≡ first_copies n r
  unfolding all first_copies
  copies zero l h = refl
  copies (suc n) l h =
      let p = and_true (all_held s.held n) (get_or s.held n false) h in
      let more : 13 * suc n ≡ 13 * n + 13 = omega arith in
      rw more (take-add (13 * n) 13 s.memory) ∙ ap (λ (x : List ℕ). x ++ block_at n s.memory) (copies n (omega arith) p.0)
      ∙ ap (λ (x : List ℕ). first_copies n r ++ x) (k.copy n l p.1)

  core_bytes : is_whole i r ≡ true → take (13 * counts i r) s.memory ≡ dsm_of i r
  core_bytes w = copies (counts i r) (counted_few (dsm_type_of i) (first_copy 0 r)) (k.all (k.done_is ∙ w))

  core_shown : i ≤ 15 → shown s.memory (view s) ≡ bytes_in_view i r
  unfolding shown
  core_shown h = ap (shown s.memory) (core_view h) ∙ go (is_whole i r) core_bytes
    where
      go : (x : Bool) → (x ≡ true → take (13 * counts i r) s.memory ≡ dsm_of i r)
          → shown s.memory (cond x (gives (0 ∷ 13 * counts i r ∷ [])) nothing) ≡ cond x (dsm_of i r) []
      go true h = h refl
      go false h = refl

-- Two collectors that are at the same run.
module _ (s : State) (r : List Call) (w : Holds s r) (c : Call) (e : is_admitted c ≡ true) where
  viewed_is : view (fed_to s c).state ≡ in_view (id_in c) (grown r c)
  viewed_is = core_view (id_in c) (fed_to s c).state (grown r c) (fed_step s r w c e).core (header_id c.header)

  shown_is : shown (fed_to s c).state.memory (view (fed_to s c).state) ≡ bytes_in_view (id_in c) (grown r c)
  shown_is = core_shown (id_in c) (fed_to s c).state (grown r c) (fed_step s r w c e).core (header_id c.header)

same_run : (s t : State) (r q : List Call) (c : Call) → Holds s r → Holds t q → is_admitted c ≡ true → before r c ≡ before q c
    → Alike (fed_to s c) (fed_to t c)
same_run s t r q c a b e h =
    let g : grown r c ≡ grown q c = rw e (ap (λ (l : List Call). l ++ (c ∷ [])) h) in
    record {
      answer = (fed_step s r a c e).answer ∙ ap (λ (l : List Call). comes_out (id_in c) l (grown r c)) h
          ∙ ap (λ (l : List Call). comes_out (id_in c) (before q c) l) g ∙ sym (fed_step t q b c e).answer;
      view_is = viewed_is s r a c e ∙ ap (λ (l : List Call). in_view (id_in c) l) g ∙ sym (viewed_is t q b c e);
      bytes = shown_is s r a c e ∙ ap (λ (l : List Call). bytes_in_view (id_in c) l) g ∙ sym (shown_is t q b c e);
    }

like_new_at : (s : State) (r : List Call) → Holds s r → run r ≡ r → (c : Call) (o : List ℕ) → length o ≡ 208 → is_admitted c ≡ true
    → Alike (fed_to s c) (fed_to (after (new o) (before r c)) c)
like_new_at s r w own c o l e =
    same_run s (after (new o) (before r c)) r (run (before r c)) c w (after_holds (new o) [] (before r c) (new_holds o l)) e
    (sym (ap (λ (q : List Call). before q c) (run_before_lem is_admitted same_id r c own) ∙ before_twice is_admitted same_id r c))

once_at : (s : State) (r : List Call) → Holds s r → (c : Call) → is_admitted c ≡ true → is_whole (id_in c) (before r c) ≡ true
    → (is_whole (id_in c) (grown r c) ≡ true) × ((fed_to s c).answer ≡ nothing)
once_at s r w c e h =
    let still : is_whole (id_in c) (grown r c) ≡ true = ap (is_whole (id_in c)) (grown_is s r w c e) ∙ whole_stays (id_in c) (before r c) c h in
    let none : comes_out (id_in c) (before r c) (grown r c) ≡ nothing = rw (still, h) in
    (still, (fed_step s r w c e).answer ∙ none)

pub dsm_recovers : DsmRecovers
dsm_recovers m l cs c =
    let s = after (new m) cs in
    let w : Holds (after (new m) cs) (run cs) = after_holds (new m) [] cs (new_holds m l) in
    record {
      like_new = like_new_at s (run cs) w (run_from_lem is_admitted same_id [] cs refl) c;
      exactly_when = λ e. (fed_step s (run cs) w c e).answer;
      first_fed = λ e h. core_bytes (id_in c) (fed_to s c).state (grown (run cs) c) (fed_step s (run cs) w c e).core h;
      once = once_at s (run cs) w c;
      viewed = viewed_is s (run cs) w c;
      refused_call = refused_is s (run cs) w c;
    }

-- What is shown between the calls.
record Seen (s : State) (r : List Call) : Type 0 where
  holds : Holds s r
  sees : Viewed s r

seen_call : (s : State) (r : List Call) → Seen s r → (c : Call) → Seen (fed_to s c).state (grown r c)
seen_call s r w c = record { holds = call_holds s r w.holds c; sees = go (is_admitted c) refl }
  where
    go : (b : Bool) → is_admitted c ≡ b → Viewed (fed_to s c).state (grown r c)
    go true e =
        let own : run_id (grown r c) ≡ id_in c = ap run_id (grown_is s r w.holds c e) ∙ id_of_last (before r c) c in
        record {
          id_is = (fed_step s r w.holds c e).core.id_is ∙ sym own;
          view_is = rw own (viewed_is s r w.holds c e);
          bytes = rw own (shown_is s r w.holds c e);
        }
    go false e =
        let same : grown r c ≡ r = rw e in
        subst⁻¹ (λ (l : List Call). Viewed (fed_to s c).state l) same (subst⁻¹ (λ (f : Fed). Viewed f.state r) (refused_is s r w.holds c e) w.sees)

new_seen : (m : List ℕ) → length m ≡ 208 → Seen (new m) []
new_seen m l =
    let k : Core 0 (fresh (new m) 0) [] = fresh_core 0 (new m) l in
    let none : in_view 0 [] ≡ nothing = rw (sym k.done_is) in
    let bytes : bytes_in_view 0 [] ≡ [] = rw (sym k.done_is) in
    let v : nothing ≡ view (new m) = view_undone (new m) (lent 0 m l (omega arith)) refl in
    record {
      holds = new_holds m l;
      sees = record { id_is = refl; view_is = sym v ∙ sym none; bytes = sym (nothing_shown m v) ∙ sym bytes };
    }

pub dsm_shows : DsmShows
dsm_shows m l cs = (kept_by_all is_admitted same_id (λ (t : State) (c : Call). (fed_to t c).state) Seen seen_call (new m) [] cs (new_seen m l)).sees
