-- What one page does to a collector that is at its run: the counts are how many words the run's pages were taken for, and the bytes are theirs.
-- Assumes nothing.
use Prim.Native.Nat.{ℕ, suc, ◌+◌, ◌-◌, ◌*◌, ◌≤◌, ◌<◌}
use native.Mathlib.Omega.{arith}
use native.Mathlib.Decide.{ℕ_discrete}
use native.Mathlib.Nat.{add-zero}
use mathlib.Core.Path.{◌≡◌, refl, sym, ap, ◌∙◌, subst}
use mathlib.Core.List.{List, [], ◌∷◌, ◌++◌}
use mathlib.Core.Bool.{Bool, true, false, cond, not, ◌&&◌}
use lib.ListN.{length, get_or, set, length-set}
use lib.Seq.{get_or-set_same, get_or-set_other}
use lib.Dec.{leb, eqb}
use borrow.Author.Tests.{lt-leb, eq-eqb, ne_eqb, eqb-true}
use Rattle.layouts.specs.Answer.{Answer, nothing}
use Rattle.subframes.specs.Subframe.{State, Page, Fed, word_of, small, put4, is_silent, out_of, answer_at, used, offered}
use Rattle.subframes.specs.SubframeRecovery.{has_word, no_page}
use Rattle.runs.proofs.Basics.{and_true}
use Rattle.subframes.proofs.SubframeSound.{small_set}
use Rattle.runs.proofs.Rising.{count, chosen, count_more, chosen_kept, chosen_new}

-- how many words of a satellite a run has brought, and the page that brought word k
abbrev pub words : ℕ → List Page → ℕ
words n r = count (has_word n) 0 r

abbrev pub page_of : ℕ → List Page → ℕ → Page
page_of n r k = chosen (has_word n) no_page 0 r k

-- the answer to a page of satellite n, by how many words there are with it and were before, and whether the bytes are zeros
abbrev pub pair_at : ℕ → ℕ → ℕ → List Page → Page → Bool → Answer
pair_at week subframe n r p are_zeros = cond (leb 15 (words n (r ++ (p ∷ []))) && not (leb 15 (words n r))) (out_of are_zeros week subframe) nothing

-- at most 15, since a word is at most 14
words_few_from : (n : ℕ) (r : List Page) (m : ℕ) → m ≤ 15 → count (has_word n) m r ≤ 15
words_few_from n [] m h = h
words_few_from n (p ∷ r) m h = go (has_word n p m) refl (words_few_from n r (suc m)) (words_few_from n r m h)
  where
    go :
        (b : Bool) → has_word n p m ≡ b → (suc m ≤ 15 → count (has_word n) (suc m) r ≤ 15) → count (has_word n) m r ≤ 15
        → count (has_word n) (cond b (suc m) m) r ≤ 15
    go true e up same =
        let w : word_of p.time ≡ m = eqb-true (word_of p.time) m (and_true (eqb p.satellite n) (eqb (word_of p.time) m) e).1 in
        up (omega arith)
    go false e up same = same

pub words_few : (n : ℕ) (r : List Page) → words n r ≤ 15
words_few n r = words_few_from n r 0 (omega arith)

-- one page more brings no fewer
pub words_up : (n : ℕ) (r : List Page) (p : Page) → words n r ≤ words n (r ++ (p ∷ []))
words_up n r p = rw (count_more (has_word n) no_page r 0 p) (go (has_word n p (words n r)))
  where
    go : (b : Bool) → words n r ≤ cond b (suc (words n r)) (words n r)
    go true = omega arith
    go false = omega arith

-- four bytes in a row
pub length_put4 : (l : List ℕ) (at : ℕ) (bytes : List ℕ) → length (put4 l at bytes) ≡ length l
length_put4 l at bytes = simp length-set

put4_other :
    (l : List ℕ) (at : ℕ) (bytes : List ℕ) (j : ℕ) → (j ≡ at → ⊥) → (j ≡ at + 1 → ⊥) → (j ≡ at + 2 → ⊥) → (j ≡ at + 3 → ⊥)
    → get_or (put4 l at bytes) j 0 ≡ get_or l j 0
put4_other l at bytes j n₀ n₁ n₂ n₃ =
    let p₀ = set l at (get_or bytes 1 0) in
    let p₁ = set p₀ (at + 1) (get_or bytes 2 0) in
    let p₂ = set p₁ (at + 2) (get_or bytes 3 0) in
    get_or-set_other p₂ (at + 3) j (get_or bytes 4 0) 0 n₃ ∙ get_or-set_other p₁ (at + 2) j (get_or bytes 3 0) 0 n₂
    ∙ get_or-set_other p₀ (at + 1) j (get_or bytes 2 0) 0 n₁ ∙ get_or-set_other l at j (get_or bytes 1 0) 0 n₀

put4_same : (l : List ℕ) (at : ℕ) (bytes : List ℕ) (b : ℕ) → b < 4 → at + 3 < length l → get_or (put4 l at bytes) (at + b) 0 ≡ get_or bytes (b + 1) 0
put4_same l at bytes b h u = go (ℕ_discrete b 3) (ℕ_discrete b 2) (ℕ_discrete b 1)
  where
    p₀ : List ℕ
    p₀ = set l at (get_or bytes 1 0)

    p₁ : List ℕ
    p₁ = set p₀ (at + 1) (get_or bytes 2 0)

    p₂ : List ℕ
    p₂ = set p₁ (at + 2) (get_or bytes 3 0)

    go : Dec (b ≡ 3) → Dec (b ≡ 2) → Dec (b ≡ 1) → get_or (set p₂ (at + 3) (get_or bytes 4 0)) (at + b) 0 ≡ get_or bytes (b + 1) 0
    go (yes e) y z = rw e (get_or-set_same p₂ (at + 3) (get_or bytes 4 0) 0 (simp length-set u))
    go (no n) (yes e) z =
        rw e
        (get_or-set_other p₂ (at + 3) (at + 2) (get_or bytes 4 0) 0 (omega arith)
        ∙ get_or-set_same p₁ (at + 2) (get_or bytes 3 0) 0 (simp length-set (omega arith)))
    go (no n) (no m) (yes e) =
        rw e
        (get_or-set_other p₂ (at + 3) (at + 1) (get_or bytes 4 0) 0 (omega arith)
        ∙ get_or-set_other p₁ (at + 2) (at + 1) (get_or bytes 3 0) 0 (omega arith)
        ∙ get_or-set_same p₀ (at + 1) (get_or bytes 2 0) 0 (simp length-set (omega arith)))
    go (no n) (no m) (no k) =
        let e : b ≡ 0 = omega arith in
        rw (e, add-zero)
        (get_or-set_other p₂ (at + 3) at (get_or bytes 4 0) 0 (omega arith) ∙ get_or-set_other p₁ (at + 2) at (get_or bytes 3 0) 0 (omega arith)
        ∙ get_or-set_other p₀ (at + 1) at (get_or bytes 2 0) 0 (omega arith) ∙ get_or-set_same l at (get_or bytes 1 0) 0 (omega arith))

-- What the state says of satellite n in a run.
pub record Of (n : ℕ) (s : State) (r : List Page) : Type 0 where
  pub count_is : get_or s.counts (n - 1) 0 ≡ words n r
  pub five : (k : ℕ) → k < words n r → length (page_of n r k).bytes ≡ 5
  pub hk : (k : ℕ) → k < words n r → get_or s.hkroot (15 * (n - 1) + k) 0 ≡ get_or (page_of n r k).bytes 0 0
  pub mk : (k b : ℕ) → k < words n r → b < 4 → get_or s.mack (60 * (n - 1) + 4 * k + b) 0 ≡ get_or (page_of n r k).bytes (b + 1) 0

-- a page that is not the satellite's next word
module _ (n : ℕ) (s t : State) (r : List Page) (p : Page) (o : Of n s r) (miss : has_word n p (words n r) ≡ false) where
  words_same : words n (r ++ (p ∷ [])) ≡ words n r
  words_same = count_more (has_word n) no_page r 0 p ∙ rw miss

  pub of_missed : get_or t.counts (n - 1) 0 ≡ get_or s.counts (n - 1) 0
      → ((k : ℕ) → k < 15 → get_or t.hkroot (15 * (n - 1) + k) 0 ≡ get_or s.hkroot (15 * (n - 1) + k) 0)
      → ((k b : ℕ) → k < 15 → b < 4 → get_or t.mack (60 * (n - 1) + 4 * k + b) 0 ≡ get_or s.mack (60 * (n - 1) + 4 * k + b) 0)
      → Of n t (r ++ (p ∷ []))
  of_missed same same-hk same-mk =
      record {
        count_is = same ∙ o.count_is ∙ sym words_same;
        five = λ k h. let h : k < words n r = rw words_same at h in ap (λ (q : Page). length q.bytes) (page k h) ∙ o.five k h;
        hk =
            λ k h. let h : k < words n r = rw words_same at h in
            same-hk k (omega (arith, words_few n r, h)) ∙ o.hk k h ∙ sym (ap (λ (q : Page). get_or q.bytes 0 0) (page k h));
        mk =
            λ k b h l. let h : k < words n r = rw words_same at h in
            same-mk k b (omega (arith, words_few n r, h)) l ∙ o.mk k b h l ∙ sym (ap (λ (q : Page). get_or q.bytes (b + 1) 0) (page k h));
      }
    where
      page : (k : ℕ) → k < words n r → page_of n (r ++ (p ∷ [])) k ≡ page_of n r k
      page k h = chosen_kept (has_word n) no_page r 0 p k (omega arith) h

-- a page that is
module _ (n : ℕ) (s : State) (r : List Page) (p : Page) (o : Of n s r) (next : has_word n p (words n r) ≡ true) where
  words_more : words n (r ++ (p ∷ [])) ≡ suc (words n r)
  words_more = count_more (has_word n) no_page r 0 p ∙ rw next

  pub word_is : word_of p.time ≡ words n r
  word_is = eqb-true (word_of p.time) (words n r) (and_true (eqb p.satellite n) (eqb (word_of p.time) (words n r)) next).1

  kept_page : (k : ℕ) → k < words n r → page_of n (r ++ (p ∷ [])) k ≡ page_of n r k
  kept_page k h = chosen_kept (has_word n) no_page r 0 p k (omega arith) h

  new_page : (k : ℕ) → k ≡ words n r → page_of n (r ++ (p ∷ [])) k ≡ p
  new_page k e = ap (page_of n (r ++ (p ∷ []))) e ∙ chosen_new (has_word n) no_page r 0 p next

  module _ (some : 1 ≤ n) (few : n ≤ 36) (h540 : length s.hkroot ≡ 540) (m2160 : length s.mack ≡ 2160) (c36 : length s.counts ≡ 36)
      (p5 : length p.bytes ≡ 5) where
    abbrev t : State
    t = (used s p.bytes (n - 1) (word_of p.time)).state

    hk_then :
        (k : ℕ) → Dec (k ≡ words n r) → k < suc (words n r)
        → get_or (set s.hkroot (15 * (n - 1) + word_of p.time) (get_or p.bytes 0 0)) (15 * (n - 1) + k) 0
        ≡ get_or (page_of n (r ++ (p ∷ [])) k).bytes 0 0
    hk_then k (yes e) h =
        let here : 15 * (n - 1) + k ≡ 15 * (n - 1) + word_of p.time = rw (e, word_is) in
        ap (λ (j : ℕ). get_or (set s.hkroot (15 * (n - 1) + word_of p.time) (get_or p.bytes 0 0)) j 0) here
        ∙ get_or-set_same s.hkroot (15 * (n - 1) + word_of p.time) (get_or p.bytes 0 0) 0 (omega arith)
        ∙ sym (ap (λ (q : Page). get_or q.bytes 0 0) (new_page k e))
    hk_then k (no ne) h =
        let less : k < words n r = omega arith in
        get_or-set_other s.hkroot (15 * (n - 1) + word_of p.time) (15 * (n - 1) + k) (get_or p.bytes 0 0) 0 (omega (arith, word_is))
        ∙ o.hk k less ∙ sym (ap (λ (q : Page). get_or q.bytes 0 0) (kept_page k less))

    mk_then :
        (k b : ℕ) → Dec (k ≡ words n r) → k < suc (words n r) → b < 4
        → get_or (put4 s.mack (60 * (n - 1) + 4 * word_of p.time) p.bytes) (60 * (n - 1) + 4 * k + b) 0
        ≡ get_or (page_of n (r ++ (p ∷ [])) k).bytes (b + 1) 0
    mk_then k b (yes e) h l =
        let here : 60 * (n - 1) + 4 * k + b ≡ 60 * (n - 1) + 4 * word_of p.time + b = rw (e, word_is) in
        ap (λ (j : ℕ). get_or (put4 s.mack (60 * (n - 1) + 4 * word_of p.time) p.bytes) j 0) here
        ∙ put4_same s.mack (60 * (n - 1) + 4 * word_of p.time) p.bytes b l (omega arith)
        ∙ sym (ap (λ (q : Page). get_or q.bytes (b + 1) 0) (new_page k e))
    mk_then k b (no ne) h l =
        let less : k < words n r = omega arith in
        put4_other s.mack (60 * (n - 1) + 4 * word_of p.time) p.bytes (60 * (n - 1) + 4 * k + b) (omega (arith, word_is))
        (omega (arith, word_is)) (omega (arith, word_is)) (omega (arith, word_is))
        ∙ o.mk k b less l ∙ sym (ap (λ (q : Page). get_or q.bytes (b + 1) 0) (kept_page k less))

    five_then : (k : ℕ) → Dec (k ≡ words n r) → k < suc (words n r) → length (page_of n (r ++ (p ∷ [])) k).bytes ≡ 5
    five_then k (yes e) h = ap (λ (q : Page). length q.bytes) (new_page k e) ∙ p5
    five_then k (no ne) h = let less : k < words n r = omega arith in ap (λ (q : Page). length q.bytes) (kept_page k less) ∙ o.five k less

    pub of_used : Of n t (r ++ (p ∷ []))
    unfolding used
    of_used =
        record {
          count_is = get_or-set_same s.counts (n - 1) (word_of p.time + 1) 0 (omega arith) ∙ omega (arith, word_is, words_more);
          five = λ k h. five_then k (ℕ_discrete k (words n r)) (rw words_more at h);
          hk = λ k h. hk_then k (ℕ_discrete k (words n r)) (rw words_more at h);
          mk = λ k b h l. mk_then k b (ℕ_discrete k (words n r)) (rw words_more at h) l;
        }

-- the page of another satellite
of_others :
    (n : ℕ) (s : State) (r : List Page) (p : Page) → Of n s r → 1 ≤ n → n ≤ 36 → 1 ≤ p.satellite → (p.satellite ≡ n → ⊥)
    → Of n (used s p.bytes (p.satellite - 1) (word_of p.time)).state (r ++ (p ∷ []))
unfolding used
of_others n s r p o some few pos ne =
    of_missed n s (used s p.bytes (p.satellite - 1) (word_of p.time)).state r p o (rw (ne_eqb p.satellite n ne))
    (get_or-set_other s.counts (p.satellite - 1) (n - 1) (word_of p.time + 1) 0 (omega arith))
    (λ k h. get_or-set_other s.hkroot (15 * (p.satellite - 1) + word_of p.time) (15 * (n - 1) + k) (get_or p.bytes 0 0) 0 (omega arith))
    (λ k b h l. put4_other s.mack (60 * (p.satellite - 1) + 4 * word_of p.time) p.bytes (60 * (n - 1) + 4 * k + b) (omega arith)
    (omega arith) (omega arith) (omega arith))

-- What the state says of a run in that week and subframe.
pub record Core (week subframe : ℕ) (s : State) (r : List Page) : Type 0 where
  pub week_is : s.week ≡ week
  pub subframe_is : s.subframe ≡ subframe
  pub h540 : length s.hkroot ≡ 540
  pub m2160 : length s.mack ≡ 2160
  pub c36 : length s.counts ≡ 36
  pub is_small : small s.counts ≡ true
  pub of : (n : ℕ) → 1 ≤ n → n ≤ 36 → Of n s r

-- what a call adds: the state, and the answer by how many words there are and were
pub record Step (week subframe : ℕ) (p : Page) (r : List Page) (f : Fed) : Type 0 where
  pub core : Core week subframe f.state (r ++ (p ∷ []))
  pub answer :
      f.answer
      ≡ pair_at week subframe p.satellite r p (is_silent f.state.hkroot f.state.mack (p.satellite - 1))

module _ (week subframe : ℕ) (s : State) (r : List Page) (k : Core week subframe s r) (p : Page) (p5 : length p.bytes ≡ 5)
    (some : 1 ≤ p.satellite) (few : p.satellite ≤ 36) where
  abbrev n : ℕ
  n = p.satellite

  abbrev own : Of n s r
  own = k.of n some few

  own_word : (b : Bool) → eqb (word_of p.time) (get_or s.counts (n - 1) 0) ≡ b → has_word n p (words n r) ≡ b
  own_word b e = rw (eq-eqb n n refl, ← own.count_is) e

  module _ (e : eqb (word_of p.time) (get_or s.counts (n - 1) 0) ≡ true) where
    hit : has_word n p (words n r) ≡ true
    hit = own_word true e

    used_core : Core week subframe (used s p.bytes (n - 1) (word_of p.time)).state (r ++ (p ∷ []))
    unfolding used
    used_core =
        record {
          week_is = k.week_is;
          subframe_is = k.subframe_is;
          h540 = simp length-set k.h540;
          m2160 = length_put4 s.mack (60 * (n - 1) + 4 * word_of p.time) p.bytes ∙ k.m2160;
          c36 = simp length-set k.c36;
          is_small = small_set s.counts (n - 1) (word_of p.time + 1) (omega arith) k.is_small;
          of = λ m l u. go m l u (ℕ_discrete n m);
        }
      where
        go : (m : ℕ) → 1 ≤ m → m ≤ 36 → Dec (n ≡ m) → Of m (used s p.bytes (n - 1) (word_of p.time)).state (r ++ (p ∷ []))
        go m l u (yes q) =
            subst (λ (j : ℕ). Of j (used s p.bytes (n - 1) (word_of p.time)).state (r ++ (p ∷ []))) q
            (of_used n s r p own hit some few k.h540 k.m2160 k.c36 p5)
        go m l u (no q) = of_others m s r p (k.of m l u) l u some q

    abbrev used_then : State
    used_then = (used s p.bytes (n - 1) (word_of p.time)).state

    used_answer :
        (used s p.bytes (n - 1) (word_of p.time)).answer
        ≡ pair_at week subframe n r p (is_silent used_then.hkroot used_then.mack (n - 1))
    unfolding used answer_at
    used_answer = go (is_silent used_then.hkroot used_then.mack (n - 1)) (ℕ_discrete (words n r) 14)
      where
        fewer : words n r ≤ 14
        fewer = omega (arith, word_is n s r p own hit)

        go :
            (b : Bool) → Dec (words n r ≡ 14)
            → cond (eqb (word_of p.time + 1) 15) (out_of b s.week s.subframe) nothing
            ≡ pair_at week subframe n r p b
        go b (yes q) =
            let w : word_of p.time + 1 ≡ 15 = omega (arith, word_is n s r p own hit) in
            rw (words_more n s r p own hit, eq-eqb (word_of p.time + 1) 15 w, q, k.week_is, k.subframe_is)
        go b (no q) =
            let w : word_of p.time + 1 ≡ 15 → ⊥ = (λ z. absurd (omega (arith, z, word_is n s r p own hit))) in
            rw (words_more n s r p own hit, ne_eqb (word_of p.time + 1) 15 w, lt-leb 15 (suc (words n r)) (omega (arith, fewer, q)))

  module _ (e : eqb (word_of p.time) (get_or s.counts (n - 1) 0) ≡ false) where
    missed_core : Core week subframe s (r ++ (p ∷ []))
    missed_core =
        record {
          week_is = k.week_is;
          subframe_is = k.subframe_is;
          h540 = k.h540;
          m2160 = k.m2160;
          c36 = k.c36;
          is_small = k.is_small;
          of = λ m l u. of_missed m s s r p (k.of m l u) (go m l u (ℕ_discrete n m)) refl (λ j h. refl) (λ j b h g. refl);
        }
      where
        go : (m : ℕ) → 1 ≤ m → m ≤ 36 → Dec (n ≡ m) → has_word m p (words m r) ≡ false
        go m l u (yes q) = subst (λ (j : ℕ). has_word j p (words j r) ≡ false) q (own_word false e)
        go m l u (no q) = rw (ne_eqb n m q)

    missed_answer : (are_zeros : Bool) → nothing ≡ pair_at week subframe n r p are_zeros
    missed_answer are_zeros = rw (words_same n s s r p own (own_word false e)) (go (leb 15 (words n r)))
      where
        go : (b : Bool) → nothing ≡ cond (b && not b) (out_of are_zeros week subframe) nothing
        go true = refl
        go false = refl

  pub offered_step : Step week subframe p r (offered s p.bytes (n - 1) (word_of p.time))
  unfolding offered
  offered_step = go (eqb (word_of p.time) (get_or s.counts (n - 1) 0)) refl
    where
      go :
          (b : Bool) → eqb (word_of p.time) (get_or s.counts (n - 1) 0) ≡ b
          → Step week subframe p r (cond b (used s p.bytes (n - 1) (word_of p.time)) (record { state = s; answer = nothing }))
      go true e = record { core = used_core e; answer = used_answer e }
      go false e = record { core = missed_core e; answer = missed_answer e (is_silent s.hkroot s.mack (n - 1)) }
