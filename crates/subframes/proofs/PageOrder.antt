-- Two pages of different satellites in one subframe: what one writes is nothing that the other reads or writes.
-- Assumes nothing.
use Prim.Native.Nat.{ℕ, ◌+◌, ◌-◌, ◌*◌, ◌≤◌, ◌<◌}
use native.Mathlib.Omega.{arith}
use native.Mathlib.Decide.{ℕ_discrete, dec_le}
use mathlib.Core.Path.{◌≡◌, refl, sym, ap, ◌∙◌, subst⁻¹}
use mathlib.Core.Logic.{◌⊎◌, ⊎_elim, inl, inr}
use mathlib.Core.List.{List}
use mathlib.Core.Bool.{Bool, true, false, cond, ◌&&◌}
use lib.ListN.{length, get_or, set, take, drop}
use lib.Seq.{get_or-set_other, set_comm, take-set-le, drop-set-lt, drop-set-add}
use lib.Dec.{eqb}
use borrow.Author.Tests.{eqb-true}
use Rattle.layouts.specs.Answer.{Answer, nothing, refused, refusal}
use Rattle.subframes.specs.Subframe.{State, Page, Fed, word_of, subframe_of, small, record_checks, feed_checks, fresh, changed, put4, zeros, is_silent}
use Rattle.subframes.specs.Subframe.{answer_at, used, offered, feed}
use Rattle.subframes.specs.SubframeRecovery.{call_checks, is_admitted}
use Rattle.subframes.specs.PageOrder.{Commute, EitherOrder, OrderExample, SideBySide, OrderMatters, SmallestOrder, WeekMatters, OwnOrderMatters}
use Rattle.subframes.proofs.Pages.{feed_refused, not_taken, other_page, unchanged}
use Rattle.subframes.proofs.SubframeSound.{Sound, sound, sound_fed, admitted_is, turned_away, let_in}

-- A byte that is set outside a part leaves the part.
part_other : (n a k v : ℕ) (l : List ℕ) → (k < a) ⊎ (a + n ≤ k) → take n (drop a (set l k v)) ≡ take n (drop a l)
part_other n a k v l (inl h) = ap (take n) (drop-set-lt a l k v h)
part_other n a k v l (inr h) =
    let far : k ≡ a + (k - a) = omega arith in
    ap (λ (j : ℕ). take n (drop a (set l j v))) far ∙ ap (take n) (drop-set-add a l (k - a) v) ∙ take-set-le n (drop a l) (k - a) v (omega arith)

-- Four bytes from a place, and a byte elsewhere, or four.
set_put4 : (l : List ℕ) (at k v : ℕ) (bytes : List ℕ) → (k < at) ⊎ (at + 4 ≤ k) → set (put4 l at bytes) k v ≡ put4 (set l k v) at bytes
set_put4 l at k v bytes h =
    let p₀ = set l at (get_or bytes 1 0) in
    let p₁ = set p₀ (at + 1) (get_or bytes 2 0) in
    let p₂ = set p₁ (at + 2) (get_or bytes 3 0) in
    set_comm p₂ (at + 3) k (get_or bytes 4 0) v (far 3 (omega arith))
    ∙ ap (λ (x : List ℕ). set x (at + 3) (get_or bytes 4 0)) (set_comm p₁ (at + 2) k (get_or bytes 3 0) v (far 2 (omega arith)))
    ∙ ap (λ (x : List ℕ). set (set x (at + 2) (get_or bytes 3 0)) (at + 3) (get_or bytes 4 0)) (set_comm p₀ (at + 1) k (get_or bytes 2 0) v (far 1 (omega arith)))
    ∙ ap (λ (x : List ℕ). set (set (set x (at + 1) (get_or bytes 2 0)) (at + 2) (get_or bytes 3 0)) (at + 3) (get_or bytes 4 0))
    (set_comm l at k (get_or bytes 1 0) v (near h))
  where
    near : (k < at) ⊎ (at + 4 ≤ k) → at ≡ k → ⊥
    near (inl x) e = absurd (omega (arith, x, e))
    near (inr x) e = absurd (omega (arith, x, e))

    far : (d : ℕ) → d < 4 → at + d ≡ k → ⊥
    far d u e = away h
      where
        away : (k < at) ⊎ (at + 4 ≤ k) → ⊥
        away (inl x) = absurd (omega (arith, x, e))
        away (inr x) = absurd (omega (arith, x, e, u))

-- the places of four bytes each do not meet
abbrev Far : ℕ → ℕ → Type 0
Far a b = (a + 4 ≤ b) ⊎ (b + 4 ≤ a)

outside : (a b d : ℕ) → d < 4 → Far a b → (b + d < a) ⊎ (a + 4 ≤ b + d)
outside a b d u (inl h) = inr (omega arith)
outside a b d u (inr h) = inl (omega arith)

put4_comm : (l : List ℕ) (a b : ℕ) (x y : List ℕ) → Far a b → put4 (put4 l a x) b y ≡ put4 (put4 l b y) a x
put4_comm l a b x y h =
    let q₀ = set l b (get_or y 1 0) in
    let q₁ = set q₀ (b + 1) (get_or y 2 0) in
    let q₂ = set q₁ (b + 2) (get_or y 3 0) in
    ap (λ (m : List ℕ). set (set (set m (b + 1) (get_or y 2 0)) (b + 2) (get_or y 3 0)) (b + 3) (get_or y 4 0)) (set_put4 l a b (get_or y 1 0) x here)
    ∙ ap (λ (m : List ℕ). set (set m (b + 2) (get_or y 3 0)) (b + 3) (get_or y 4 0)) (set_put4 q₀ a (b + 1) (get_or y 2 0) x (outside a b 1 (omega arith) h))
    ∙ ap (λ (m : List ℕ). set m (b + 3) (get_or y 4 0)) (set_put4 q₁ a (b + 2) (get_or y 3 0) x (outside a b 2 (omega arith) h))
    ∙ set_put4 q₂ a (b + 3) (get_or y 4 0) x (outside a b 3 (omega arith) h)
  where
    go : Far a b → (b < a) ⊎ (a + 4 ≤ b)
    go (inl k) = inr k
    go (inr k) = inl (omega arith)

    here : (b < a) ⊎ (a + 4 ≤ b)
    here = go h

-- Two satellites' places do not meet, by whose is the lower.
module _ (i j : ℕ) (ne : i ≡ j → ⊥) where
  lower : (j < i) ⊎ (i < j)
  lower = go (dec_le i j)
    where
      go : Dec (i ≤ j) → (j < i) ⊎ (i < j)
      go (yes h) = inr (omega arith)
      go (no h) = inl (omega arith)

  -- of one's own part in a buffer of 15 or 60 bytes each, a place of the other's is before it or behind it
  beside_15 : (k : ℕ) → k < 15 → (15 * j + k < 15 * i) ⊎ (15 * i + 15 ≤ 15 * j + k)
  beside_15 k u = ⊎_elim (λ h. inl (omega arith)) (λ h. inr (omega arith)) lower

  beside_60 : (w d : ℕ) → w < 15 → d < 4 → (60 * j + 4 * w + d < 60 * i) ⊎ (60 * i + 60 ≤ 60 * j + 4 * w + d)
  beside_60 w d u l = ⊎_elim (λ h. inl (omega arith)) (λ h. inr (omega arith)) lower

  far_60 : (v w : ℕ) → v < 15 → w < 15 → Far (60 * i + 4 * v) (60 * j + 4 * w)
  far_60 v w l u = ⊎_elim (λ h. inr (omega arith)) (λ h. inl (omega arith)) lower

  mack_part : (m : List ℕ) (w : ℕ) (b : List ℕ) → w < 15 → take 60 (drop (60 * i) (put4 m (60 * j + 4 * w) b)) ≡ take 60 (drop (60 * i) m)
  mack_part m w b u =
      let at = 60 * j + 4 * w in
      let p₀ = set m at (get_or b 1 0) in
      let p₁ = set p₀ (at + 1) (get_or b 2 0) in
      let p₂ = set p₁ (at + 2) (get_or b 3 0) in
      part_other 60 (60 * i) (at + 3) (get_or b 4 0) p₂ (beside_60 w 3 u (omega arith))
      ∙ part_other 60 (60 * i) (at + 2) (get_or b 3 0) p₁ (beside_60 w 2 u (omega arith))
      ∙ part_other 60 (60 * i) (at + 1) (get_or b 2 0) p₀ (beside_60 w 1 u (omega arith))
      ∙ part_other 60 (60 * i) at (get_or b 1 0) m (⊎_elim (λ h. inl (omega arith)) (λ h. inr (omega arith)) lower)

  -- so that the other's bytes do not decide whether one's own pair is silent
  silent_kept : (h m : List ℕ) (w : ℕ) (b : List ℕ) → w < 15
      → is_silent (set h (15 * j + w) (get_or b 0 0)) (put4 m (60 * j + 4 * w) b) i ≡ is_silent h m i
  unfolding is_silent
  silent_kept h m w b u =
      ap (λ (x : List ℕ). zeros x && zeros (take 60 (drop (60 * i) (put4 m (60 * j + 4 * w) b))))
      (part_other 15 (15 * i) (15 * j + w) (get_or b 0 0) h (beside_15 w u))
      ∙ ap (λ (x : List ℕ). zeros (take 15 (drop (15 * i) h)) && zeros x) (mack_part m w b u)

-- A page offered: it is used, or nothing is done.
pub took : (t : State) (a : List ℕ) (i v : ℕ) → eqb v (get_or t.counts i 0) ≡ true → offered t a i v ≡ used t a i v
unfolding offered
took t a i v e = rw e

pub passed_over : (t : State) (a : List ℕ) (i v : ℕ) → eqb v (get_or t.counts i 0) ≡ false → offered t a i v ≡ record { state = t; answer = nothing }
unfolding offered
passed_over t a i v e = rw e

-- Two satellites' pages offered to a record, whose words they are.
module _ (t : State) (a b : List ℕ) (i j v w : ℕ) (ne : i ≡ j → ⊥) (lv : v < 15) (lw : w < 15) where
  abbrev hk : List ℕ
  hk = set t.hkroot (15 * i + v) (get_or a 0 0)

  abbrev mk : List ℕ
  mk = put4 t.mack (60 * i + 4 * v) a

  hkroot_comm : set hk (15 * j + w) (get_or b 0 0) ≡ set (set t.hkroot (15 * j + w) (get_or b 0 0)) (15 * i + v) (get_or a 0 0)
  hkroot_comm = set_comm t.hkroot (15 * i + v) (15 * j + w) (get_or a 0 0) (get_or b 0 0) (λ e. absurd (omega arith))

  mack_comm : put4 mk (60 * j + 4 * w) b ≡ put4 (put4 t.mack (60 * j + 4 * w) b) (60 * i + 4 * v) a
  mack_comm = put4_comm t.mack (60 * i + 4 * v) (60 * j + 4 * w) a b (far_60 i j ne v w lv lw)

  used_comm : (used (used t a i v).state b j w).state ≡ (used (used t b j w).state a i v).state
  unfolding used
  used_comm =
      ap (λ (c : List ℕ). record
      { week = t.week; subframe = t.subframe; counts = c; hkroot = set hk (15 * j + w) (get_or b 0 0); mack = put4 mk (60 * j + 4 * w) b })
      (set_comm t.counts i j (v + 1) (w + 1) ne)
      ∙ ap (λ (h : List ℕ). record
      { week = t.week; subframe = t.subframe; counts = set (set t.counts j (w + 1)) i (v + 1); hkroot = h; mack = put4 mk (60 * j + 4 * w) b })
      hkroot_comm
      ∙ ap (λ (m : List ℕ). record {
        week = t.week;
        subframe = t.subframe;
        counts = set (set t.counts j (w + 1)) i (v + 1);
        hkroot = set (set t.hkroot (15 * j + w) (get_or b 0 0)) (15 * i + v) (get_or a 0 0);
        mack = m;
      }) mack_comm

  used_alike : (used t a i v).answer ≡ (used (used t b j w).state a i v).answer
  unfolding used
  used_alike =
      ap (answer_at (v + 1) t.week t.subframe)
      (sym (silent_kept i j ne hk mk w b lw)
      ∙ ap (λ (h : List ℕ). is_silent h (put4 mk (60 * j + 4 * w) b) i) hkroot_comm
      ∙ ap (λ (m : List ℕ). is_silent (set (set t.hkroot (15 * j + w) (get_or b 0 0)) (15 * i + v) (get_or a 0 0)) m i) mack_comm)

  -- the other's count stays
  count_kept : get_or (offered t b j w).state.counts i 0 ≡ get_or t.counts i 0
  unfolding offered used
  count_kept = go (eqb w (get_or t.counts j 0))
    where
      go : (y : Bool) → get_or (cond {A = Fed} y (used t b j w) (record { state = t; answer = nothing })).state.counts i 0 ≡ get_or t.counts i 0
      go true = get_or-set_other t.counts j i (w + 1) 0 ne
      go false = refl

-- the answer to one's own page does not depend on whether the other's came before
offered_alike :
    (t : State) (a b : List ℕ) (i j v w : ℕ) → (i ≡ j → ⊥) → v < 15 → w < 15
    → (offered t a i v).answer ≡ (offered (offered t b j w).state a i v).answer
offered_alike t a b i j v w ne lv lw = go (eqb w (get_or t.counts j 0)) refl (eqb v (get_or t.counts i 0)) refl
  where
    then : eqb v (get_or (offered t b j w).state.counts i 0) ≡ eqb v (get_or t.counts i 0)
    then = ap (eqb v) (count_kept t a b i j v w ne lv lw)

    go : (y : Bool) → eqb w (get_or t.counts j 0) ≡ y → (x : Bool) → eqb v (get_or t.counts i 0) ≡ x
        → (offered t a i v).answer ≡ (offered (offered t b j w).state a i v).answer
    go false f x e = ap (λ (u : Fed). (offered u.state a i v).answer) (sym (passed_over t b j w f))
    go true f false e =
        ap (λ (u : Fed). u.answer) (passed_over t a i v e) ∙ sym (ap (λ (u : Fed). u.answer) (passed_over (offered t b j w).state a i v (then ∙ e)))
    go true f true e =
        ap (λ (u : Fed). u.answer) (took t a i v e)
        ∙ used_alike t a b i j v w ne lv lw
        ∙ ap (λ (u : Fed). (used u.state a i v).answer) (sym (took t b j w f))
        ∙ sym (ap (λ (u : Fed). u.answer) (took (offered t b j w).state a i v (then ∙ e)))

-- and both orders end the same
offered_comm :
    (t : State) (a b : List ℕ) (i j v w : ℕ) → (i ≡ j → ⊥) → v < 15 → w < 15
    → (offered (offered t a i v).state b j w).state ≡ (offered (offered t b j w).state a i v).state
offered_comm t a b i j v w ne lv lw = go (eqb w (get_or t.counts j 0)) refl (eqb v (get_or t.counts i 0)) refl
  where
    then_i : eqb v (get_or (offered t b j w).state.counts i 0) ≡ eqb v (get_or t.counts i 0)
    then_i = ap (eqb v) (count_kept t a b i j v w ne lv lw)

    then_j : eqb w (get_or (offered t a i v).state.counts j 0) ≡ eqb w (get_or t.counts j 0)
    then_j = ap (eqb w) (count_kept t b a j i w v (λ e. ne (sym e)) lw lv)

    go : (y : Bool) → eqb w (get_or t.counts j 0) ≡ y → (x : Bool) → eqb v (get_or t.counts i 0) ≡ x
        → (offered (offered t a i v).state b j w).state ≡ (offered (offered t b j w).state a i v).state
    go false f x e =
        ap (λ (u : Fed). u.state) (passed_over (offered t a i v).state b j w (then_j ∙ f))
        ∙ ap (λ (u : Fed). (offered u.state a i v).state) (sym (passed_over t b j w f))
    go true f false e =
        ap (λ (u : Fed). (offered u.state b j w).state) (passed_over t a i v e)
        ∙ sym (ap (λ (u : Fed). u.state) (passed_over (offered t b j w).state a i v (then_i ∙ e)))
    go true f true e =
        ap (λ (u : Fed). u.state) (took (offered t a i v).state b j w (then_j ∙ f))
        ∙ ap (λ (u : Fed). (used u.state b j w).state) (took t a i v e)
        ∙ used_comm t a b i j v w ne lv lw
        ∙ ap (λ (u : Fed). (used u.state a i v).state) (sym (took t b j w f))
        ∙ sym (ap (λ (u : Fed). u.state) (took (offered t b j w).state a i v (then_i ∙ e)))

-- the record is then in the page's week and subframe
pub changed_to : (s : State) (week subframe : ℕ) → ((changed s week subframe).week ≡ week) × ((changed s week subframe).subframe ≡ subframe)
unfolding changed
changed_to s week subframe = go (eqb s.week week) refl (eqb s.subframe subframe) refl
  where
    go : (a : Bool) → eqb s.week week ≡ a → (b : Bool) → eqb s.subframe subframe ≡ b
        → ((cond (a && b) s (fresh s week subframe)).week ≡ week) × ((cond (a && b) s (fresh s week subframe)).subframe ≡ subframe)
    go true e true f = (eqb-true s.week week e, eqb-true s.subframe subframe f)
    go true e false f = (refl, refl)
    go false e b f = (refl, refl)

pub offered_in : (t : State) (a : List ℕ) (i v : ℕ) → ((offered t a i v).state.week ≡ t.week) × ((offered t a i v).state.subframe ≡ t.subframe)
unfolding offered used
offered_in t a i v = go (eqb v (get_or t.counts i 0))
  where
    go : (y : Bool) → ((cond {A = Fed} y (used t a i v) (record { state = t; answer = nothing })).state.week ≡ t.week)
        × ((cond {A = Fed} y (used t a i v) (record { state = t; answer = nothing })).state.subframe ≡ t.subframe)
    go true = (refl, refl)
    go false = (refl, refl)

-- a page behind another of its week and subframe
let_in_then :
    (s : State) → Sound s → (p q : Page) → is_admitted p ≡ true → is_admitted q ≡ true → p.week ≡ q.week → subframe_of p.time ≡ subframe_of q.time
    → let t = changed s p.week (subframe_of p.time) in
    feed (feed s p).state q ≡ offered (offered t p.bytes (p.satellite - 1) (word_of p.time)).state q.bytes (q.satellite - 1) (word_of q.time)
let_in_then s l p q ep eq sw st =
    let t = changed s p.week (subframe_of p.time) in
    let u = (offered t p.bytes (p.satellite - 1) (word_of p.time)).state in
    let there = changed_to s p.week (subframe_of p.time) in
    let kept = offered_in t p.bytes (p.satellite - 1) (word_of p.time) in
    let fed : (feed s p).state ≡ u = ap (λ (f : Fed). f.state) (let_in s l p ep) in
    let same : changed u q.week (subframe_of q.time) ≡ u =
    sym (unchanged u q.week (subframe_of q.time) (kept.0 ∙ there.0 ∙ sw) (kept.1 ∙ there.1 ∙ st)) in
    let_in (feed s p).state (sound_fed s p l) q eq
    ∙ ap (λ (x : State). offered (changed x q.week (subframe_of q.time)) q.bytes (q.satellite - 1) (word_of q.time)) fed
    ∙ ap (λ (x : State). offered x q.bytes (q.satellite - 1) (word_of q.time)) same

-- Either order, both admitted.
both_admitted :
    (s : State) → Sound s → (p q : Page) → is_admitted p ≡ true → is_admitted q ≡ true → (p.satellite ≡ q.satellite → ⊥) → p.week ≡ q.week
    → subframe_of p.time ≡ subframe_of q.time → Commute s p q
both_admitted s l p q ep eq ne sw st =
    record {
      ends = ap (λ (f : Fed). f.state) pq
          ∙ offered_comm t p.bytes q.bytes (p.satellite - 1) (q.satellite - 1) (word_of p.time) (word_of q.time) apart (omega arith) (omega arith)
          ∙ sym (ap (λ (f : Fed). f.state) qp);
      answer_p = ap (λ (f : Fed). f.answer) (let_in s l p ep)
          ∙ offered_alike t p.bytes q.bytes (p.satellite - 1) (q.satellite - 1) (word_of p.time) (word_of q.time) apart (omega arith) (omega arith)
          ∙ sym (ap (λ (f : Fed). f.answer) qp);
      answer_q = ap (λ (f : Fed). f.answer) pq
          ∙ sym (offered_alike t q.bytes p.bytes (q.satellite - 1) (p.satellite - 1) (word_of q.time) (word_of p.time) (λ e. apart (sym e))
          (omega arith) (omega arith))
          ∙ sym (ap (λ (f : Fed). f.answer) (let_in s l q eq ∙ at_q));
    }
  where
    t : State
    t = changed s p.week (subframe_of p.time)

    apart : p.satellite - 1 ≡ q.satellite - 1 → ⊥
    apart e = ne (omega (arith, e, (admitted_is p ep).some, (admitted_is q eq).some))

    same : changed s q.week (subframe_of q.time) ≡ t
    same = ap (λ (x : ℕ). changed s x (subframe_of q.time)) (sym sw) ∙ ap (changed s p.week) (sym st)

    at_q : offered (changed s q.week (subframe_of q.time)) q.bytes (q.satellite - 1) (word_of q.time)
        ≡ offered t q.bytes (q.satellite - 1) (word_of q.time)
    at_q = ap (λ (x : State). offered x q.bytes (q.satellite - 1) (word_of q.time)) same

    pq : feed (feed s p).state q
        ≡ offered (offered t p.bytes (p.satellite - 1) (word_of p.time)).state q.bytes (q.satellite - 1) (word_of q.time)
    pq = let_in_then s l p q ep eq sw st

    qp : feed (feed s q).state p
        ≡ offered (offered t q.bytes (q.satellite - 1) (word_of q.time)).state p.bytes (p.satellite - 1) (word_of p.time)
    qp =
        let_in_then s l q p eq ep (sym sw) (sym st)
        ∙ ap (λ (f : Fed). offered f.state p.bytes (p.satellite - 1) (word_of p.time)) at_q

-- Where one is refused, before the other and after it.
one_refused :
    (s : State) (p q : Page) (a : Answer) → ((t : State) → (t ≡ s) ⊎ (t ≡ (feed s q).state) → feed t p ≡ record { state = t; answer = a }) → Commute s p q
one_refused s p q a away =
    let here = away s (inl refl) in
    let then = away (feed s q).state (inr refl) in
    record {
      ends = ap (λ (f : Fed). (feed f.state q).state) here ∙ sym (ap (λ (f : Fed). f.state) then);
      answer_p = ap (λ (f : Fed). f.answer) here ∙ sym (ap (λ (f : Fed). f.answer) then);
      answer_q = ap (λ (f : Fed). (feed f.state q).answer) here;
    }

turned : (s : State) (p q : Page) → Commute s p q → Commute s q p
turned s p q c = record { ends = sym c.ends; answer_p = sym c.answer_q; answer_q = sym c.answer_p }

-- at a record that is refused every page is
stuck : (s : State) → (refusal (record_checks s) ≡ 0 → ⊥) → (p : Page) → feed s p ≡ record { state = s; answer = refused (refusal (feed_checks s p)) }
stuck s ne p = sym (feed_refused s p refl (go (ℕ_discrete (length p.bytes) 5)))
  where
    go : Dec (length p.bytes ≡ 5) → refusal (feed_checks s p) ≡ 0 → ⊥
    go (yes h) e = ne (not_taken s p h refl ne ∙ e)
    go (no h) e = absurd (omega (arith, e, other_page s p h))

-- Of pages in one subframe where both are admitted.
pub in_one :
    (s : State) (p q : Page) → (p.satellite ≡ q.satellite → ⊥)
    → (is_admitted p ≡ true → is_admitted q ≡ true → (p.week ≡ q.week) × (subframe_of p.time ≡ subframe_of q.time)) → Commute s p q
in_one s p q ne same = go (ℕ_discrete (refusal (record_checks s)) 0)
  where
    met : Sound s → (a : Bool) → is_admitted p ≡ a → (b : Bool) → is_admitted q ≡ b → Commute s p q
    met l false ep b eq =
        one_refused s p q (refused (refusal (call_checks p)))
        (λ t h. turned_away t (⊎_elim (λ e. subst⁻¹ Sound e l) (λ e. subst⁻¹ Sound e (sound_fed s q l)) h) p ep)
    met l true ep false eq =
        turned s q p
        (one_refused s q p (refused (refusal (call_checks q)))
        (λ t h. turned_away t (⊎_elim (λ e. subst⁻¹ Sound e l) (λ e. subst⁻¹ Sound e (sound_fed s p l)) h) q eq))
    met l true ep true eq = let h = same ep eq in both_admitted s l p q ep eq ne h.0 h.1

    go : Dec (refusal (record_checks s) ≡ 0) → Commute s p q
    go (yes e) = met (sound s e) (is_admitted p) refl (is_admitted q) refl
    go (no e) =
        let is : (feed s q).state ≡ s = ap (λ (f : Fed). f.state) (stuck s e q) in
        one_refused s p q (refused (refusal (feed_checks s p)))
        (λ t h. let at : t ≡ s = ⊎_elim (λ x. x) (λ x. x ∙ is) h in
        subst⁻¹ (λ (u : State). feed u p ≡ record { state = u; answer = refused (refusal (feed_checks s p)) }) at (stuck s e p))

pub either_order : EitherOrder
either_order s p q ne sw st = in_one s p q ne (λ ep eq. (sw, st))

-- The examples, computed.
pub order_example : OrderExample
unfolding feed offered used changed answer_at is_silent zeros refusal small
order_example = record { one_first = refl; two_first = refl }

pub side_by_side : SideBySide
unfolding feed offered used changed answer_at is_silent zeros refusal small
side_by_side = record { one_first = refl; two_first = refl }

pub order_matters : OrderMatters
unfolding feed offered used changed answer_at is_silent zeros refusal small
order_matters = record { in_time = refl; too_late = refl }

pub smallest_order : SmallestOrder
unfolding feed offered used changed answer_at refusal small
smallest_order = record { in_time = refl; too_late = refl }

pub week_matters : WeekMatters
unfolding feed offered used changed answer_at refusal small
week_matters = record { in_time = refl; too_late = refl }

pub own_order_matters : OwnOrderMatters
unfolding feed offered used changed answer_at refusal small
own_order_matters =
    record { in_order = refl; out_of_order = refl; one_copy = refl; other_copy = refl; last_in_order = refl; last_out_of_order = refl }
