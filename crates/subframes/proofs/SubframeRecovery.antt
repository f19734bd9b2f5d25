-- The subframe collector recovers: what the record and the memory say is what the run says.
-- Assumes nothing.
use Prim.Native.Nat.{ℕ, zero, suc, ◌+◌, ◌-◌, ◌*◌, ◌≤◌, ◌<◌}
use native.Mathlib.Omega.{arith}
use native.Mathlib.Decide.{ℕ_discrete}
use mathlib.Core.Path.{◌≡◌, refl, sym, ap, ◌∙◌, subst, subst⁻¹}
use mathlib.Core.Logic.{◌↔◌, ◌⊎◌, ⊎_elim, inl, inr}
use mathlib.Core.List.{List, [], ◌∷◌, ◌++◌}
use mathlib.Core.Bool.{Bool, true, false, cond, not, ◌&&◌}
use lib.ListN.{length, get_or, take, drop, replicate, length-drop, length-append, get_or-replicate, get_or-append}
use lib.Seq.{length-take-le, get_or-take, get_or-drop, get_or_at, drop-drop, take-add}
use lib.Dec.{leb, eqb}
use borrow.Author.Tests.{le-leb, le-ltb, ne_eqb, eqb-true, ltb-false, leb-true, leb-false}
use Rattle.layouts.specs.Answer.{Answer, refused, nothing, gives, shown, refusal}
use Rattle.layouts.specs.Gst.{svn_checks}
use Rattle.layouts.proofs.Answers.{none_fails}
use Rattle.subframes.specs.Subframe.{State, new, Page, subframe_of, word_of, Fed, small, view_checks, fresh, changed, feed, view}
use Rattle.subframes.specs.Subframe.{offered, zeros, is_silent, complete, silent, out_of}
use Rattle.runs.specs.Runs.{goes_on, run_from}
use Rattle.subframes.specs.SubframeRecovery.{call_checks, is_admitted, same_subframe, before, grown, run, after, has_word, no_page, Words}
use Rattle.subframes.specs.SubframeRecovery.{hkroot_of, mack_of, message, Built, ComesOut, are_zeros, Alike, Viewed, SubframesRecover, SubframesShow}
use Rattle.runs.proofs.Basics.{and_true, part_is}
use Rattle.subframes.proofs.SubframeSound.{Sound, sound_passes, Admitted, admitted_is, turned_away, let_in}
use Rattle.runs.specs.Rising.{Earliest}
use Rattle.runs.proofs.Rising.{taken, taken_chain, shorter, earliest, reaches, chosen_kept}
use Rattle.runs.proofs.Runs.{goes_on_lem, before_twice, run_before_lem, run_from_lem, kept_by_all, first_from, as_the_first}
use Rattle.subframes.proofs.SubframeRun.{words, page_of, pair_at, words_few, words_up, Of, Core, Step, offered_step}

-- The messages of a satellite, from the pages that it took.
module _ (n : ℕ) (s : State) (r : List Page) (o : Of n s r) (some : 1 ≤ n) (few : n ≤ 36) (h540 : length s.hkroot ≡ 540)
    (m2160 : length s.mack ≡ 2160) where
  abbrev hkroot_part : List ℕ
  hkroot_part = drop (15 * (n - 1)) s.hkroot

  abbrev mack_part : List ℕ
  mack_part = drop (60 * (n - 1)) s.mack

  one_byte : (m : ℕ) → m < words n r → take 1 (drop m hkroot_part) ≡ take 1 (page_of n r m).bytes
  one_byte m h =
      ap (take 1) (drop-drop m (15 * (n - 1)) s.hkroot)
      ∙ part_is 1 s.hkroot (15 * (n - 1) + m) (take 1 (page_of n r m).bytes) (omega (arith, words_few n r))
      (length-take-le 1 (page_of n r m).bytes (omega (arith, o.five m h)))
      (λ i l. ap (λ (j : ℕ). get_or s.hkroot j 0) (omega arith) ∙ o.hk m h ∙ ap (λ (j : ℕ). get_or (page_of n r m).bytes j 0) (omega arith)
      ∙ sym (get_or-take 1 (page_of n r m).bytes i 0 l))

  four_bytes : (m : ℕ) → m < words n r → take 4 (drop (4 * m) mack_part) ≡ drop 1 (page_of n r m).bytes
  four_bytes m h =
      ap (take 4) (drop-drop (4 * m) (60 * (n - 1)) s.mack)
      ∙ part_is 4 s.mack (60 * (n - 1) + 4 * m) (drop 1 (page_of n r m).bytes) (omega (arith, words_few n r))
      (length-drop 1 (page_of n r m).bytes ∙ omega (arith, o.five m h))
      (λ i l. o.mk m i h l ∙ ap (λ (j : ℕ). get_or (page_of n r m).bytes j 0) (omega arith) ∙ sym (get_or-drop 1 (page_of n r m).bytes i 0))

  hkroot_of_lem : (m : ℕ) → m ≤ words n r → take m hkroot_part ≡ hkroot_of (page_of n r) m
  unfolding hkroot_of
  hkroot_of_lem zero l = refl
  hkroot_of_lem (suc m) l =
      let more : suc m ≡ m + 1 = omega arith in
      ap (λ (j : ℕ). take j hkroot_part) more ∙ take-add m 1 hkroot_part ∙ ap (λ (x : List ℕ). x ++ take 1 (drop m hkroot_part)) (hkroot_of_lem m (omega arith))
      ∙ ap (λ (x : List ℕ). hkroot_of (page_of n r) m ++ x) (one_byte m l)

  mack_of_lem : (m : ℕ) → m ≤ words n r → take (4 * m) mack_part ≡ mack_of (page_of n r) m
  unfolding mack_of
  mack_of_lem zero l = refl
  mack_of_lem (suc m) l =
      let more : 4 * suc m ≡ 4 * m + 4 = omega arith in
      ap (λ (j : ℕ). take j mack_part) more ∙ take-add (4 * m) 4 mack_part ∙ ap (λ (x : List ℕ). x ++ take 4 (drop (4 * m) mack_part)) (mack_of_lem m (omega arith))
      ∙ ap (λ (x : List ℕ). mack_of (page_of n r) m ++ x) (four_bytes m l)

  module _ (all : 15 ≤ words n r) where
    pub hkroot_message : message 15 n s.hkroot ≡ hkroot_of (page_of n r) 15
    hkroot_message = hkroot_of_lem 15 all

    pub mack_message : message 60 n s.mack ≡ mack_of (page_of n r) 15
    mack_message = mack_of_lem 15 all

    pub built : Built s n r
    built =
        record {
          choice = shorter (has_word n) no_page 15 all (taken_chain (has_word n) no_page r 0);
          earliest = λ other k l h. earliest (has_word n) no_page r 0 15 other k l h;
          hkroot_is = hkroot_message;
          mack_is = mack_message;
        }

-- The same pages make the same messages.
hkroot_same : (f g : ℕ → Page) (m : ℕ) → ((k : ℕ) → k < m → f k ≡ g k) → hkroot_of f m ≡ hkroot_of g m
unfolding hkroot_of
hkroot_same f g zero h = refl
hkroot_same f g (suc m) h =
    ap (λ (x : List ℕ). x ++ take 1 (f m).bytes) (hkroot_same f g m (λ k l. h k (omega arith)))
    ∙ ap (λ (q : Page). hkroot_of g m ++ take 1 q.bytes) (h m (omega arith))

mack_same : (f g : ℕ → Page) (m : ℕ) → ((k : ℕ) → k < m → f k ≡ g k) → mack_of f m ≡ mack_of g m
unfolding mack_of
mack_same f g zero h = refl
mack_same f g (suc m) h =
    ap (λ (x : List ℕ). x ++ drop 1 (f m).bytes) (mack_same f g m (λ k l. h k (omega arith)))
    ∙ ap (λ (q : Page). mack_of g m ++ drop 1 q.bytes) (h m (omega arith))

-- Whether the pair is zeros, by the pages that were taken of the run: in memory, and by any choice that is the earliest.
abbrev zeros_of : (ℕ → Page) → Bool
zeros_of f = zeros (hkroot_of f 15) && zeros (mack_of f 15)

core_silent :
    (week subframe : ℕ) (s : State) (r : List Page) → Core week subframe s r → (n : ℕ) → 1 ≤ n → n ≤ 36 → 15 ≤ words n r
    → is_silent s.hkroot s.mack (n - 1) ≡ zeros_of (page_of n r)
unfolding is_silent
core_silent week subframe s r k n some few all =
    let o = k.of n some few in
    ap (λ (x : List ℕ). zeros x && zeros (message 60 n s.mack)) (hkroot_message n s r o some few k.h540 k.m2160 all)
    ∙ ap (λ (x : List ℕ). zeros (hkroot_of (page_of n r) 15) && zeros x) (mack_message n s r o some few k.h540 k.m2160 all)

earliest_zeros :
    (n : ℕ) (r : List Page) (all : 15 ≤ words n r) (q : Words n r) → Earliest (has_word n) no_page q → zeros_of (page_of n r) ≡ are_zeros r q.at
earliest_zeros n r all q first =
    let same = hkroot_same (page_of n r) (λ k. get_or r (q.at k) no_page) 15 page in
    ap (λ (x : List ℕ). zeros x && zeros (mack_of (page_of n r) 15)) same
    ∙ ap (λ (x : List ℕ). zeros (hkroot_of (λ k. get_or r (q.at k) no_page) 15) && zeros x) (mack_same (page_of n r) (λ k. get_or r (q.at k) no_page) 15 page)
  where
    taken_first : Words n r
    taken_first = shorter (has_word n) no_page 15 all (taken_chain (has_word n) no_page r 0)

    page : (k : ℕ) → k < 15 → page_of n r k ≡ get_or r (q.at k) no_page
    page k l =
        let here : taken (has_word n) 0 r k ≡ q.at k =
        omega (arith, earliest (has_word n) no_page r 0 15 q k (omega arith) l, first taken_first k (omega arith) l) in
        ap (λ (j : ℕ). get_or r j no_page) here

-- What is refused of a satellite at a record that is not.
view_number : (s : State) → Sound s → (n : ℕ) → refusal (view_checks s n) ≡ refusal (svn_checks n)
view_number s l n = sound_passes s l (svn_checks n)

-- What the viewer shows, said of the run alone.
abbrev view_of : List Page → ℕ → ℕ → Answer
view_of r size n =
    cond (eqb (refusal (svn_checks n)) 0) (cond (leb 15 (words n r)) (gives (size * (n - 1) ∷ size ∷ [])) nothing) (refused (refusal (svn_checks n)))

seen : (n : ℕ) → eqb (refusal (svn_checks n)) 0 ≡ true → (1 ≤ n) × (n ≤ 36)
seen n e =
    let f = none_fails (svn_checks n) tt (eqb-true (refusal (svn_checks n)) 0 e) in
    (ltb-false n 1 f.0, ltb-false 36 n f.1.0)

in_range : (n : ℕ) → 1 ≤ n → n ≤ 36 → eqb (refusal (svn_checks n)) 0 ≡ true
unfolding refusal
in_range n l u = rw (le-ltb n 1 l, le-ltb 36 n u)

eqb_top : (m : ℕ) → m ≤ 15 → eqb m 15 ≡ leb 15 m
eqb_top m l = go (ℕ_discrete m 15)
  where
    go : Dec (m ≡ 15) → eqb m 15 ≡ leb 15 m
    go (yes e) = rw e
    go (no ne) = ne_eqb m 15 ne ∙ sym (below (leb 15 m) refl)
      where
        below : (b : Bool) → leb 15 m ≡ b → leb 15 m ≡ false
        below false e = e
        below true e = absurd (omega (arith, leb-true 15 m e, ne))

module _ (week subframe : ℕ) (s : State) (r : List Page) (k : Core week subframe s r) (l : Sound s) where
  core_view : (size n : ℕ) → view s size n ≡ view_of r size n
  unfolding view
  core_view size n = rw (view_number s l n) (go (eqb (refusal (svn_checks n)) 0) refl)
    where
      go : (b : Bool) → eqb (refusal (svn_checks n)) 0 ≡ b
          → cond b (cond (eqb (get_or s.counts (n - 1) 0) 15) (gives (size * (n - 1) ∷ size ∷ [])) nothing) (refused (refusal (svn_checks n)))
          ≡ cond b (cond (leb 15 (words n r)) (gives (size * (n - 1) ∷ size ∷ [])) nothing) (refused (refusal (svn_checks n)))
      go true e =
          let h = seen n e in
          ap (λ (x : Bool). cond x (gives (size * (n - 1) ∷ size ∷ [])) nothing)
          (ap (λ (m : ℕ). eqb m 15) (k.of n h.0 h.1).count_is ∙ eqb_top (words n r) (words_few n r))
      go false e = refl

  core_hkroot : (n : ℕ) → shown s.hkroot (view s 15 n) ≡ cond (eqb (refusal (svn_checks n)) 0 && leb 15 (words n r)) (hkroot_of (page_of n r) 15) []
  unfolding shown
  core_hkroot n = ap (shown s.hkroot) (core_view 15 n) ∙ go (eqb (refusal (svn_checks n)) 0) refl (leb 15 (words n r)) refl
    where
      go : (a : Bool) → eqb (refusal (svn_checks n)) 0 ≡ a → (b : Bool) → leb 15 (words n r) ≡ b
          → shown s.hkroot (cond a (cond b (gives (15 * (n - 1) ∷ 15 ∷ [])) nothing) (refused (refusal (svn_checks n))))
          ≡ cond (a && b) (hkroot_of (page_of n r) 15) []
      go true e true f = let h = seen n e in hkroot_message n s r (k.of n h.0 h.1) h.0 h.1 k.h540 k.m2160 (leb-true 15 (words n r) f)
      go true e false f = refl
      go false e b f = refl

  core_mack : (n : ℕ) → shown s.mack (view s 60 n) ≡ cond (eqb (refusal (svn_checks n)) 0 && leb 15 (words n r)) (mack_of (page_of n r) 15) []
  unfolding shown
  core_mack n = ap (shown s.mack) (core_view 60 n) ∙ go (eqb (refusal (svn_checks n)) 0) refl (leb 15 (words n r)) refl
    where
      go : (a : Bool) → eqb (refusal (svn_checks n)) 0 ≡ a → (b : Bool) → leb 15 (words n r) ≡ b
          → shown s.mack (cond a (cond b (gives (60 * (n - 1) ∷ 60 ∷ [])) nothing) (refused (refusal (svn_checks n))))
          ≡ cond (a && b) (mack_of (page_of n r) 15) []
      go true e true f = let h = seen n e in mack_message n s r (k.of n h.0 h.1) h.0 h.1 k.h540 k.m2160 (leb-true 15 (words n r) f)
      go true e false f = refl
      go false e b f = refl

  core_viewed : (n : ℕ) → 1 ≤ n → n ≤ 36 → Viewed s r n
  core_viewed n some few =
      record {
        pair = λ w. let all : 15 ≤ words n r = (reaches (has_word n) no_page r 0 15).1 w in
            (built n s r (k.of n some few) some few k.h540 k.m2160 all, λ size. core_view size n ∙ rw (in_range n some few, le-leb 15 (words n r) all));
        none = λ w size. core_view size n ∙ rw (in_range n some few) (go size w (leb 15 (words n r)) refl);
      }
    where
      go : (size : ℕ) → (Words n r → ⊥) → (b : Bool) → leb 15 (words n r) ≡ b → cond b (gives (size * (n - 1) ∷ size ∷ [])) nothing ≡ nothing
      go size w true e = absurd (w ((reaches (has_word n) no_page r 0 15).0 (leb-true 15 (words n r) e)))
      go size w false e = refl

-- Another subframe, or the same.
fresh_core :
    (week subframe : ℕ) (h m : List ℕ) → length h ≡ 540 → length m ≡ 2160
    → Core week subframe (record { week = week; subframe = subframe; counts = replicate 36 0; hkroot = h; mack = m }) []
unfolding small
fresh_core week subframe h m lh lm =
    record {
      week_is = refl;
      subframe_is = refl;
      h540 = lh;
      m2160 = lm;
      c36 = refl;
      is_small = refl;
      of =
          λ n l u. record {
            count_is = get_or-replicate 36 (n - 1) 0 0 (omega arith);
            five = λ k h. absurd (omega arith);
            hk = λ k h. absurd (omega arith);
            mk = λ k b h g. absurd (omega arith);
          };
    }

changed_core :
    (w t : ℕ) (s : State) (r : List Page) → Core w t s r → (week subframe : ℕ)
    → Core week subframe (changed s week subframe) (cond (eqb w week && eqb t subframe) r [])
unfolding changed
changed_core w t s r k week subframe = go (eqb w week) refl (eqb t subframe) refl
  where
    same : (eqb s.week week && eqb s.subframe subframe) ≡ (eqb w week && eqb t subframe)
    same = ap (λ (x : ℕ). eqb x week && eqb s.subframe subframe) k.week_is ∙ ap (λ (x : ℕ). eqb w week && eqb x subframe) k.subframe_is

    go : (a : Bool) → eqb w week ≡ a → (b : Bool) → eqb t subframe ≡ b → Core week subframe (changed s week subframe) (cond (a && b) r [])
    go true e true f =
        let both : (eqb w week && eqb t subframe) ≡ true = rw (e, f) in
        let is : changed s week subframe ≡ s = ap (λ (x : Bool). cond x s (fresh s week subframe)) (same ∙ both) in
        subst⁻¹ (λ (x : State). Core week subframe x r) is
        (subst (λ (x : ℕ). Core week x s r) (eqb-true t subframe f) (subst (λ (x : ℕ). Core x t s r) (eqb-true w week e) k))
    go true e false f =
        let one : (eqb w week && eqb t subframe) ≡ false = rw (e, f) in
        let is : changed s week subframe ≡ fresh s week subframe = ap (λ (x : Bool). cond x s (fresh s week subframe)) (same ∙ one) in
        subst⁻¹ (λ (x : State). Core week subframe x []) is (fresh_core week subframe s.hkroot s.mack k.h540 k.m2160)
    go false e b f =
        let other : (eqb w week && eqb t subframe) ≡ false = rw e in
        let is : changed s week subframe ≡ fresh s week subframe = ap (λ (x : Bool). cond x s (fresh s week subframe)) (same ∙ other) in
        subst⁻¹ (λ (x : State). Core week subframe x []) is (fresh_core week subframe s.hkroot s.mack k.h540 k.m2160)

changed_memory : (s : State) (week subframe : ℕ) → ((changed s week subframe).hkroot ≡ s.hkroot) × ((changed s week subframe).mack ≡ s.mack)
unfolding changed
changed_memory s week subframe = go (eqb s.week week && eqb s.subframe subframe)
  where
    go : (b : Bool) → ((cond b s (fresh s week subframe)).hkroot ≡ s.hkroot) × ((cond b s (fresh s week subframe)).mack ≡ s.mack)
    go true = (refl, refl)
    go false = (refl, refl)

core_sound : (week subframe : ℕ) (s : State) (r : List Page) → Core week subframe s r → week ≤ 4095 → subframe ≤ 20159 → Sound s
core_sound week subframe s r k w t =
    record { h540 = k.h540; m2160 = k.m2160; week_fits = rw k.week_is w; subframe_fits = rw k.subframe_is t; all_small = k.is_small }

-- What holds between two calls: whatever comes next, the collector is at its run.
record Holds (s : State) (r : List Page) : Type 0 where
  sound : Sound s
  at_run : (p : Page) → Core p.week (subframe_of p.time) (changed s p.week (subframe_of p.time)) (before r p)

new_holds : (h m : List ℕ) → length h ≡ 540 → length m ≡ 2160 → Holds (new h m) []
new_holds h m lh lm =
    let k : Core 0 0 (new h m) [] = fresh_core 0 0 h m lh lm in
    record {
      sound = core_sound 0 0 (new h m) [] k (omega arith) (omega arith);
      at_run =
          λ p. subst (λ (r : List Page). Core p.week (subframe_of p.time) (changed (new h m) p.week (subframe_of p.time)) r)
          (none (eqb 0 p.week && eqb 0 (subframe_of p.time))) (changed_core 0 0 (new h m) [] k p.week (subframe_of p.time));
    }
  where
    none : (b : Bool) → cond {A = List Page} b [] [] ≡ []
    none true = refl
    none false = refl

same_as_first : (x c d : Page) → same_subframe x c ≡ true → same_subframe x d ≡ same_subframe c d
same_as_first x c d e =
    let q = and_true (eqb x.week c.week) (eqb (subframe_of x.time) (subframe_of c.time)) e in
    ap (λ (k : ℕ). eqb k d.week && eqb (subframe_of x.time) (subframe_of d.time)) (eqb-true x.week c.week q.0)
    ∙ ap (λ (k : ℕ). eqb c.week d.week && eqb k (subframe_of d.time)) (eqb-true (subframe_of x.time) (subframe_of c.time) q.1)

-- a run cut by its first page instead of the one before is the same
pub run_by_first : (ps : List Page) → run ps ≡ first_from is_admitted same_subframe [] ps
run_by_first ps = as_the_first is_admitted same_subframe same_as_first ps

-- A call, at a run.
module _ (s : State) (r : List Page) (w : Holds s r) (p : Page) where
  refused_is : is_admitted p ≡ false → feed s p ≡ record { state = s; answer = refused (refusal (call_checks p)) }
  refused_is e = turned_away s w.sound p e

  module _ (e : is_admitted p ≡ true) where
    fine : Admitted p
    fine = admitted_is p e

    abbrev begun : State
    begun = changed s p.week (subframe_of p.time)

    offered_is : feed s p ≡ offered begun p.bytes (p.satellite - 1) (word_of p.time)
    offered_is = let_in s w.sound p e

    grown_is : grown r p ≡ before r p ++ (p ∷ [])
    grown_is = rw e

    fed_step : Step p.week (subframe_of p.time) p (before r p) (feed s p)
    fed_step =
        subst⁻¹ (λ (f : Fed). Step p.week (subframe_of p.time) p (before r p) f) offered_is
        (offered_step p.week (subframe_of p.time) begun (before r p) (w.at_run p) p fine.p5 fine.some fine.few)

    fed_core : Core p.week (subframe_of p.time) (feed s p).state (grown r p)
    fed_core = subst⁻¹ (λ (l : List Page). Core p.week (subframe_of p.time) (feed s p).state l) grown_is fed_step.core

    fed_sound : Sound (feed s p).state
    fed_sound = core_sound p.week (subframe_of p.time) (feed s p).state (grown r p) fed_core fine.in_weeks (omega (arith, fine.in_week))

    -- the answer, by the run alone
    fed_answer :
        (feed s p).answer
        ≡ pair_at p.week (subframe_of p.time) p.satellite (before r p) p (zeros_of (page_of p.satellite (before r p ++ (p ∷ []))))
    fed_answer = fed_step.answer ∙ go (leb 15 (words p.satellite (before r p ++ (p ∷ [])))) refl (leb 15 (words p.satellite (before r p)))
      where
        go : (a : Bool) → leb 15 (words p.satellite (before r p ++ (p ∷ []))) ≡ a → (b : Bool)
            → cond (a && not b) (out_of (is_silent (feed s p).state.hkroot (feed s p).state.mack (p.satellite - 1)) p.week (subframe_of p.time)) nothing
            ≡ cond (a && not b) (out_of (zeros_of (page_of p.satellite (before r p ++ (p ∷ [])))) p.week (subframe_of p.time)) nothing
        go true e true = refl
        go true e false =
            ap (λ (x : Bool). out_of x p.week (subframe_of p.time))
            (core_silent p.week (subframe_of p.time) (feed s p).state (before r p ++ (p ∷ [])) fed_step.core p.satellite fine.some fine.few
            (leb-true 15 (words p.satellite (before r p ++ (p ∷ []))) e))
        go false e b = refl

    goes_with : (q : Page) → goes_on is_admitted same_subframe (grown r p) q ≡ same_subframe p q
    goes_with q = ap (λ (l : List Page). goes_on is_admitted same_subframe l q) grown_is ∙ goes_on_lem is_admitted same_subframe (before r p) p q

    fed_holds : Holds (feed s p).state (grown r p)
    fed_holds =
        record {
          sound = fed_sound;
          at_run = λ q.
              let week = q.week in
              let subframe = subframe_of q.time in
              let t = (feed s p).state in
              subst⁻¹ (λ (b : Bool). Core week subframe (changed t week subframe) (cond b (grown r p) [])) (goes_with q)
              (changed_core p.week (subframe_of p.time) t (grown r p) fed_core week subframe);
        }

  still_holds : is_admitted p ≡ false → Holds (feed s p).state (grown r p)
  still_holds e =
      let same : grown r p ≡ r = rw e in
      subst⁻¹ (λ (l : List Page). Holds (feed s p).state l) same (subst⁻¹ (λ (f : Fed). Holds f.state r) (refused_is e) w)

  call_holds : Holds (feed s p).state (grown r p)
  call_holds = go (is_admitted p) refl
    where
      go : (b : Bool) → is_admitted p ≡ b → Holds (feed s p).state (grown r p)
      go true e = fed_holds e
      go false e = still_holds e

after_holds : (s : State) (r ps : List Page) → Holds s r → Holds (after s ps) (run_from is_admitted same_subframe r ps)
after_holds s r ps h = kept_by_all is_admitted same_subframe (λ (t : State) (p : Page). (feed t p).state) Holds call_holds s r ps h

-- Two collectors that are at the same run.
same_run : (s t : State) (r q : List Page) (p : Page) → Holds s r → Holds t q → is_admitted p ≡ true → before r p ≡ before q p → Alike (feed s p) (feed t p)
same_run s t r q p a b e h =
    let g : grown r p ≡ grown q p = rw e (ap (λ (l : List Page). l ++ (p ∷ [])) h) in
    let ks = fed_core s r a p e in
    let kt = fed_core t q b p e in
    let ls = fed_sound s r a p e in
    let lt = fed_sound t q b p e in
    record {
      answer = fed_answer s r a p e
          ∙ ap (λ (l : List Page). pair_at p.week (subframe_of p.time) p.satellite l p (zeros_of (page_of p.satellite (l ++ (p ∷ []))))) h
          ∙ sym (fed_answer t q b p e);
      view_is = λ size n. core_view p.week (subframe_of p.time) (feed s p).state (grown r p) ks ls size n
          ∙ ap (λ (l : List Page). view_of l size n) g
          ∙ sym (core_view p.week (subframe_of p.time) (feed t p).state (grown q p) kt lt size n);
      hkroot_is = λ n. core_hkroot p.week (subframe_of p.time) (feed s p).state (grown r p) ks ls n
          ∙ ap (λ (l : List Page). cond (eqb (refusal (svn_checks n)) 0 && leb 15 (words n l)) (hkroot_of (page_of n l) 15) []) g
          ∙ sym (core_hkroot p.week (subframe_of p.time) (feed t p).state (grown q p) kt lt n);
      mack_is = λ n. core_mack p.week (subframe_of p.time) (feed s p).state (grown r p) ks ls n
          ∙ ap (λ (l : List Page). cond (eqb (refusal (svn_checks n)) 0 && leb 15 (words n l)) (mack_of (page_of n l) 15) []) g
          ∙ sym (core_mack p.week (subframe_of p.time) (feed t p).state (grown q p) kt lt n);
    }

like_new_at :
    (s : State) (r : List Page) → Holds s r → run r ≡ r → (p : Page) (h m : List ℕ) → length h ≡ 540 → length m ≡ 2160 → is_admitted p ≡ true
    → Alike (feed s p) (feed (after (new h m) (before r p)) p)
like_new_at s r w own p h m lh lm e =
    same_run s (after (new h m) (before r p)) r (run (before r p)) p w (after_holds (new h m) [] (before r p) (new_holds h m lh lm)) e
    (sym (ap (λ (q : List Page). before q p) (run_before_lem is_admitted same_subframe r p own) ∙ before_twice is_admitted same_subframe r p))

-- When the pair comes out.
abbrev OneOf : Answer → ℕ → ℕ → Type 0
OneOf x w t = (x ≡ complete w t) ⊎ (x ≡ silent w t)

out_as : (c : Bool) (x : Answer) (w t : ℕ) → x ≡ out_of c w t → OneOf x w t
out_as true x w t e = inr e
out_as false x w t e = inl e

none_out : (x : Answer) (w t : ℕ) → x ≡ nothing → OneOf x w t → ⊥
none_out x w t e z = ⊎_elim (λ y. gives_none (sym e ∙ y)) (λ y. gives_none (sym e ∙ y)) z
  where
    gives_none : {l : List ℕ} → nothing ≡ gives l → ⊥
    gives_none q = let y : ◌≡◌ {A = ℕ} 0 1 = cc in absurd (omega arith)

came_out : (a b c : Bool) (x : Answer) (w t : ℕ) → x ≡ cond (a && not b) (out_of c w t) nothing → OneOf x w t ↔ ((a ≡ true) × (b ≡ false))
came_out true false c x w t e = (λ z. (refl, refl), λ z. out_as c x w t e)
came_out true true c x w t e = (
  λ z. absurd (none_out x w t e z),
  λ z. let q : true ≡ false = z.1 in let y : ◌≡◌ {A = ℕ} 0 1 = cc in absurd (omega arith),
)
came_out false b c x w t e = (
  λ z. absurd (none_out x w t e z),
  λ z. let q : false ≡ true = z.0 in let y : ◌≡◌ {A = ℕ} 0 1 = cc in absurd (omega arith),
)

stayed_in : (a b c : Bool) (x : Answer) (w t : ℕ) → x ≡ cond (a && not b) (out_of c w t) nothing → (OneOf x w t → ⊥) → x ≡ nothing
stayed_in true false c x w t e ne = absurd (ne (out_as c x w t e))
stayed_in true true c x w t e ne = e
stayed_in false b c x w t e ne = e

module _ (s : State) (r : List Page) (w : Holds s r) (p : Page) (e : is_admitted p ≡ true) where
  abbrev n : ℕ
  n = p.satellite

  out_now : ComesOut (feed s p).answer p ↔ ((leb 15 (words n (before r p ++ (p ∷ []))) ≡ true) × (leb 15 (words n (before r p)) ≡ false))
  out_now =
      came_out (leb 15 (words n (before r p ++ (p ∷ [])))) (leb 15 (words n (before r p))) (zeros_of (page_of n (before r p ++ (p ∷ []))))
      (feed s p).answer p.week (subframe_of p.time) (fed_answer s r w p e)

  all_there : leb 15 (words n (before r p ++ (p ∷ []))) ≡ true → 15 ≤ words n (grown r p)
  all_there h = rw (grown_is s r w p e) (leb-true 15 (words n (before r p ++ (p ∷ []))) h)

  not_yet : (b : Bool) → leb 15 (words n (before r p)) ≡ b → (Words n (before r p) → ⊥) → b ≡ false
  not_yet true h none = absurd (none ((reaches (has_word n) no_page (before r p) 0 15).0 (leb-true 15 (words n (before r p)) h)))
  not_yet false h none = refl

  comes_out : ComesOut (feed s p).answer p ↔ (Words n (grown r p) × (Words n (before r p) → ⊥))
  comes_out = (
    λ z. let q = out_now.0 z in (
      (reaches (has_word n) no_page (grown r p) 0 15).0 (all_there q.0),
      λ c. absurd (omega (arith, leb-false 15 (words n (before r p)) q.1, (reaches (has_word n) no_page (before r p) 0 15).1 c)),
    ),
    λ z. out_now.1 (
      le-leb 15 (words n (before r p ++ (p ∷ []))) (rw (grown_is s r w p e) at ((reaches (has_word n) no_page (grown r p) 0 15).1 z.0)),
      not_yet (leb 15 (words n (before r p))) refl z.1,
    ),
  )

  said_then : (q : Words n (grown r p)) → Earliest (has_word n) no_page q → (Words n (before r p) → ⊥)
      → (feed s p).answer ≡ out_of (are_zeros (grown r p) q.at) p.week (subframe_of p.time)
  said_then q first none =
      let all : 15 ≤ words n (grown r p) = (reaches (has_word n) no_page (grown r p) 0 15).1 q in
      let now : leb 15 (words n (before r p ++ (p ∷ []))) ≡ true =
      le-leb 15 (words n (before r p ++ (p ∷ []))) (rw (grown_is s r w p e) at all) in
      let past = not_yet (leb 15 (words n (before r p))) refl none in
      fed_answer s r w p e
      ∙ ap (λ (x : Bool). cond (x && not (leb 15 (words n (before r p)))) (out (before r p ++ (p ∷ []))) nothing) now
      ∙ ap (λ (x : Bool). cond (not x) (out (before r p ++ (p ∷ []))) nothing) past
      ∙ ap out (sym (grown_is s r w p e))
      ∙ ap (λ (x : Bool). out_of x p.week (subframe_of p.time)) (earliest_zeros n (grown r p) all q first)
    where
      out : List Page → Answer
      out l = out_of (zeros_of (page_of n l)) p.week (subframe_of p.time)

  built_then : ComesOut (feed s p).answer p → Built (feed s p).state n (grown r p)
  built_then z =
      let k = fed_core s r w p e in
      let f = fine s r w p e in
      built n (feed s p).state (grown r p) (k.of n f.some f.few) f.some f.few k.h540 k.m2160 (all_there (out_now.0 z).0)

-- What was shown stays.
stays : (s : State) (r : List Page) → Holds s r → (p : Page) → goes_on is_admitted same_subframe r p ≡ true → (n : ℕ) → 1 ≤ n → n ≤ 36 → Words n r
    → (message 15 n (feed s p).state.hkroot ≡ message 15 n s.hkroot) × (message 60 n (feed s p).state.mack ≡ message 60 n s.mack)
stays s r w p on n some few all = go (is_admitted p) refl
  where
    here : before r p ≡ r
    here = rw on

    kept : 15 ≤ words n (before r p) → (j : ℕ) → j < 15 → page_of n (before r p ++ (p ∷ [])) j ≡ page_of n (before r p) j
    kept full j l = chosen_kept (has_word n) no_page (before r p) 0 p j (omega arith) (omega (arith, full, l))

    go :
        (b : Bool) → is_admitted p ≡ b
        → (message 15 n (feed s p).state.hkroot ≡ message 15 n s.hkroot) × (message 60 n (feed s p).state.mack ≡ message 60 n s.mack)
    go false e = (
      ap (λ (f : Fed). message 15 n f.state.hkroot) (refused_is s r w p e),
      ap (λ (f : Fed). message 60 n f.state.mack) (refused_is s r w p e),
    )
    go true e =
        let c = w.at_run p in
        let k = (fed_step s r w p e).core in
        let same = changed_memory s p.week (subframe_of p.time) in
        let full : 15 ≤ words n (before r p) = rw here ((reaches (has_word n) no_page r 0 15).1 all) in
        let more : words n (before r p) ≤ words n (before r p ++ (p ∷ [])) = words_up n (before r p) p in (
          hkroot_message n (feed s p).state (before r p ++ (p ∷ [])) (k.of n some few) some few k.h540 k.m2160 (omega (arith, full, more))
              ∙ hkroot_same (page_of n (before r p ++ (p ∷ []))) (page_of n (before r p)) 15 (kept full)
              ∙ sym (hkroot_message n (changed s p.week (subframe_of p.time)) (before r p) (c.of n some few) some few c.h540 c.m2160 full)
              ∙ ap (message 15 n) same.0,
          mack_message n (feed s p).state (before r p ++ (p ∷ [])) (k.of n some few) some few k.h540 k.m2160 (omega (arith, full, more))
              ∙ mack_same (page_of n (before r p ++ (p ∷ []))) (page_of n (before r p)) 15 (kept full)
              ∙ sym (mack_message n (changed s p.week (subframe_of p.time)) (before r p) (c.of n some few) some few c.h540 c.m2160 full)
              ∙ ap (message 60 n) same.1,
        )

pub subframes_recover : SubframesRecover
subframes_recover h m lh lm ps p =
    let s = after (new h m) ps in
    let w : Holds (after (new h m) ps) (run ps) = after_holds (new h m) [] ps (new_holds h m lh lm) in
    record {
      like_new = like_new_at s (run ps) w (run_from_lem is_admitted same_subframe [] ps refl) p;
      exactly_when = λ e. comes_out s (run ps) w p e;
      else_nothing =
          λ e ne. stayed_in (leb 15 (words p.satellite (before (run ps) p ++ (p ∷ [])))) (leb 15 (words p.satellite (before (run ps) p)))
          (zeros_of (page_of p.satellite (before (run ps) p ++ (p ∷ [])))) (feed s p).answer p.week (subframe_of p.time)
          (fed_answer s (run ps) w p e) ne;
      earliest = λ e z. built_then s (run ps) w p e z;
      said = λ e q first none. said_then s (run ps) w p e q first none;
      viewed =
          λ e n some few. core_viewed p.week (subframe_of p.time) (feed s p).state (grown (run ps) p) (fed_core s (run ps) w p e)
          (fed_sound s (run ps) w p e) n some few;
      until_changed = λ on n some few all. stays s (run ps) w p on n some few all;
      refused_call = refused_is s (run ps) w p;
    }

-- What is shown between the calls.
record Seen (s : State) (r : List Page) : Type 0 where
  holds : Holds s r
  sees : (n : ℕ) → 1 ≤ n → n ≤ 36 → Viewed s r n

seen_call : (s : State) (r : List Page) → Seen s r → (p : Page) → Seen (feed s p).state (grown r p)
seen_call s r w p = record { holds = call_holds s r w.holds p; sees = λ n some few. go n some few (is_admitted p) refl }
  where
    go : (n : ℕ) → 1 ≤ n → n ≤ 36 → (b : Bool) → is_admitted p ≡ b → Viewed (feed s p).state (grown r p) n
    go n some few true e =
        core_viewed p.week (subframe_of p.time) (feed s p).state (grown r p) (fed_core s r w.holds p e) (fed_sound s r w.holds p e) n some
        few
    go n some few false e =
        let same : grown r p ≡ r = rw e in
        subst⁻¹ (λ (l : List Page). Viewed (feed s p).state l n) same
        (subst⁻¹ (λ (f : Fed). Viewed f.state r n) (refused_is s r w.holds p e) (w.sees n some few))

pub subframes_show : SubframesShow
subframes_show h m lh lm ps n some few =
    let k : Core 0 0 (new h m) [] = fresh_core 0 0 h m lh lm in
    let first : Seen (new h m) [] = record
    { holds = new_holds h m lh lm; sees = core_viewed 0 0 (new h m) [] k (core_sound 0 0 (new h m) [] k (omega arith) (omega arith)) } in
    (kept_by_all is_admitted same_subframe (λ (t : State) (p : Page). (feed t p).state) Seen seen_call (new h m) [] ps first).sees n some few

-- The record's week and subframe are those of every page of its run.
abbrev pub OfPage : State → Page → Type 0
OfPage s p = (s.week ≡ p.week) × (s.subframe ≡ subframe_of p.time)

record Dated (s : State) (r : List Page) : Type 0 where
  holds : Holds s r
  dated : (j : ℕ) → j < length r → OfPage s (get_or r j no_page)

-- a page that goes on with a run is of the same subframe as one of its pages
same_as_one : (r : List Page) (p : Page) → goes_on is_admitted same_subframe r p ≡ true → (i : ℕ) × (i < length r) × (same_subframe (get_or r i no_page) p ≡ true)
same_as_one [] p e = let z : ◌≡◌ {A = ℕ} 0 1 = cc in absurd (omega arith)
same_as_one (d ∷ []) p e = (0, omega arith, e)
same_as_one (d ∷ q ∷ r) p e = let w = same_as_one (q ∷ r) p e in (suc w.0, omega (arith, w.1), w.2)

dated_call : (s : State) (r : List Page) → Dated s r → (p : Page) → Dated (feed s p).state (grown r p)
dated_call s r w p = record { holds = call_holds s r w.holds p; dated = go (is_admitted p) refl }
  where
    earlier : (b : Bool) → goes_on is_admitted same_subframe r p ≡ b → (t : State) → OfPage t p → (j : ℕ) → j < length (cond b r [])
        → OfPage t (get_or (cond b r []) j no_page)
    earlier false e t o j l = absurd (omega (arith, l))
    earlier true e t o j l =
        let i = same_as_one r p e in
        let q = get_or r i.0 no_page in
        let same = and_true (eqb q.week p.week) (eqb (subframe_of q.time) (subframe_of p.time)) i.2 in
        let there = w.dated i.0 i.1 in
        let here = w.dated j l in (
          o.0 ∙ sym (eqb-true q.week p.week same.0) ∙ sym there.0 ∙ here.0,
          o.1 ∙ sym (eqb-true (subframe_of q.time) (subframe_of p.time) same.1) ∙ sym there.1 ∙ here.1,
        )

    go : (b : Bool) → is_admitted p ≡ b → (j : ℕ) → j < length (cond b (before r p ++ (p ∷ [])) r)
        → OfPage (feed s p).state (get_or (cond b (before r p ++ (p ∷ [])) r) j no_page)
    go false e j l = subst⁻¹ (λ (f : Fed). OfPage f.state (get_or r j no_page)) (refused_is s r w.holds p e) (w.dated j l)
    go true e j l = at (ℕ_discrete (length (before r p)) j)
      where
        own : OfPage (feed s p).state p
        own = let k = fed_core s r w.holds p e in (k.week_is, k.subframe_is)

        at : Dec (length (before r p) ≡ j) → OfPage (feed s p).state (get_or (before r p ++ (p ∷ [])) j no_page)
        at (yes h) = subst⁻¹ (OfPage (feed s p).state) (get_or_at (before r p) p [] no_page j h) own
        at (no h) =
            let few : j < length (before r p) = omega (arith, l, h, length-append (before r p) (p ∷ [])) in
            subst⁻¹ (OfPage (feed s p).state) (get_or-append (before r p) (p ∷ []) no_page j few)
            (earlier (goes_on is_admitted same_subframe r p) refl (feed s p).state own j few)

pub of_run :
    (h m : List ℕ) → length h ≡ 540 → length m ≡ 2160 → (ps : List Page) (j : ℕ) → j < length (run ps)
    → OfPage (after (new h m) ps) (get_or (run ps) j no_page)
of_run h m lh lm ps =
    let first : Dated (new h m) [] = record { holds = new_holds h m lh lm; dated = λ j l. absurd (omega (arith, l)) } in
    (kept_by_all is_admitted same_subframe (λ (t : State) (p : Page). (feed t p).state) Dated dated_call (new h m) [] ps first).dated
