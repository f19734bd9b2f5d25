-- Merges by week and time: the first page of one merge goes to the front of the other, over pages of the same second.
-- Assumes nothing.
use Prim.Native.Nat.{ℕ, ◌+◌, ◌≤◌, ◌<◌}
use native.Mathlib.Omega.{arith}
use native.Mathlib.Nat.{le_refl}
use mathlib.Core.Path.{◌≡◌, refl, sym, ap, ◌∙◌, subst, subst⁻¹}
use mathlib.Core.Logic.{◌⊎◌, inl, inr}
use mathlib.Core.List.{List, [], ◌∷◌, ◌++◌}
use mathlib.Core.Bool.{Bool, true, false, cond, ◌&&◌}
use lib.ListN.{length, replicate}
use lib.Dec.{leb, eqb}
use borrow.Author.Tests.{le-leb, eq-eqb, ne_eqb, eqb-true, eqb-false, leb-true}
use Rattle.runs.proofs.Basics.{and_true}
use Rattle.layouts.specs.Answer.{refusal}
use Rattle.subframes.specs.Subframe.{Page, subframe_of, small, changed, answer_at, used, offered, feed}
use Rattle.subframes.specs.SubframePromises.{call}
use Rattle.subframes.specs.SubframeRecovery.{is_admitted}
use Rattle.subframes.specs.PageOrder.{page}
use Rattle.subframes.specs.DoubledPages.{one_subframe}
use Rattle.subframes.specs.CardMerges.{those, of_satellite, EndSame, Merge, none, from_one, from_two}
use Rattle.subframes.specs.TimeMerges.{not_later, in_time, is_at, TimeOrder, Received, none as no_page, and as one_page, TimeMerges, TimeExample}
use Rattle.subframes.proofs.CardMerges.{same_end, joined, turned, behind, to_front, not_none, passes_first, none_passes, first_of, rest_same}

-- What holds of every page of a list.
data Every (P : Page → Type 0) : List Page → Type 0 where
  nil : Every P []
  cons : {ps : List Page} (p : Page) → P p → Every P ps → Every P (p ∷ ps)

-- By week, then by time.
abbrev NotLater : Page → Page → Type 0
NotLater p q = (p.week < q.week) ⊎ ((p.week ≡ q.week) × (p.time ≤ q.time))

not_later_lem : (p q : Page) → not_later p q ≡ true → NotLater p q
not_later_lem p q e = go (eqb p.week q.week) refl e
  where
    go : (b : Bool) → eqb p.week q.week ≡ b → cond b (leb p.time q.time) (leb p.week q.week) ≡ true → NotLater p q
    go true f h = inr (eqb-true p.week q.week f, leb-true p.time q.time h)
    go false f h = inl (let ne = eqb-false p.week q.week f in omega (arith, leb-true p.week q.week h, ne))

is_not_later : (p q : Page) → NotLater p q → not_later p q ≡ true
is_not_later p q (inl h) = rw (ne_eqb p.week q.week (λ e. absurd (omega (arith, h, e)))) (le-leb p.week q.week (omega (arith, h)))
is_not_later p q (inr h) = rw (eq-eqb p.week q.week h.0) (le-leb p.time q.time h.1)

later_still : (p q r : Page) → NotLater p q → NotLater q r → NotLater p r
later_still p q r (inl h) (inl k) = inl (omega (arith, h, k))
later_still p q r (inl h) (inr k) = inl (omega (arith, h, k.0))
later_still p q r (inr h) (inl k) = inl (omega (arith, h.0, k))
later_still p q r (inr h) (inr k) = inr (h.0 ∙ k.0, omega (arith, h.1, k.1))

-- the same second
abbrev Same : Page → Page → Type 0
Same p q = (p.week ≡ q.week) × (p.time ≡ q.time)

same_second : (p q : Page) → NotLater p q → NotLater q p → Same p q
same_second p q (inl h) (inl k) = absurd (omega (arith, h, k))
same_second p q (inl h) (inr k) = absurd (omega (arith, h, k.0))
same_second p q (inr h) (inl k) = absurd (omega (arith, h.0, k))
same_second p q (inr h) (inr k) = (h.0, omega (arith, h.1, k.1))

-- A list in the order of time, from its front.
module _ (p : Page) where
  rest_in : (ps : List Page) → in_time (p ∷ ps) ≡ true → in_time ps ≡ true
  unfolding in_time
  rest_in [] e = refl
  rest_in (q ∷ ps) e = (and_true (not_later p q) (in_time (q ∷ ps)) e).1

none_earlier : (p : Page) (ps : List Page) → in_time (p ∷ ps) ≡ true → Every (NotLater p) ps
unfolding in_time
none_earlier p [] e = nil
none_earlier p (q ∷ ps) e =
    let both = and_true (not_later p q) (in_time (q ∷ ps)) e in
    let next = not_later_lem p q both.0 in
    cons q next (all ps (none_earlier q ps both.1) next)
  where
    all : (l : List Page) → Every (NotLater q) l → NotLater p q → Every (NotLater p) l
    all [] nil n = nil
    all (r ∷ l) (cons r' h t) n = cons r (later_still p q r n h) (all l t n)

-- Of every page, and of those that pass a test.
every_those : {P : Page → Type 0} (test : Page → Bool) {ps : List Page} → Every P ps → Every P (those test ps)
every_those test nil = nil
every_those {P} test (cons {ps} p h t) = go (test p) (every_those test t)
  where
    go : (b : Bool) → Every P (those test ps) → Every P (cond b (p ∷ those test ps) (those test ps))
    go true k = cons p h k
    go false k = k

every_first : {P : Page → Type 0} {p : Page} {ps : List Page} → Every P (p ∷ ps) → P p
every_first (cons p h t) = h

every_front : {P : Page → Type 0} (ps qs : List Page) → Every P (ps ++ qs) → Every P ps
every_front [] qs e = nil
every_front (p ∷ ps) qs (cons p' h t) = cons p h (every_front ps qs t)

every_both : {P Q : Page → Type 0} {ps : List Page} → Every P ps → Every Q ps → Every (λ p. P p × Q p) ps
every_both nil nil = nil
every_both (cons p h t) (cons p' k u) = cons p (h, k) (every_both t u)

-- a page's own satellite and second
own : (p : Page) → is_at p.satellite p.week p.time p ≡ true
own p = rw (eq-eqb p.satellite p.satellite refl, eq-eqb p.week p.week refl, eq-eqb p.time p.time refl)

-- the same pages in each second
abbrev SameSeconds : List Page → List Page → Type 0
SameSeconds ps qs = (n week time : ℕ) → those (is_at n week time) ps ≡ those (is_at n week time) qs

every_all : {P : Page → Type 0} (qs : List Page) → ((n week time : ℕ) → Every P (those (is_at n week time) qs)) → Every P qs
every_all [] h = nil
every_all {P} (q ∷ qs) h =
    cons q (every_first (subst (Every P) (passes_first (is_at q.satellite q.week q.time) q qs (own q)) (h q.satellite q.week q.time)))
    (every_all qs (λ n week time. go (is_at n week time) (is_at n week time q) (h n week time)))
  where
    go : (test : Page → Bool) (b : Bool) → Every P (cond b (q ∷ those test qs) (those test qs)) → Every P (those test qs)
    go test true (cons q' k t) = t
    go test false k = k

every_other : {P : Page → Type 0} (ps qs : List Page) → SameSeconds ps qs → Every P ps → Every P qs
every_other {P} ps qs same e = every_all qs (λ n week time. subst (Every P) (same n week time) (every_those (is_at n week time) e))

-- What stands before a page is not later.
middle : {P : Page → Type 0} (front : List Page) (p : Page) (rest : List Page) → Every P (front ++ (p ∷ rest)) → P p
middle [] p rest e = every_first e
middle (a ∷ front) p rest (cons a' h t) = middle front p rest t

before_it : (front : List Page) (p : Page) (rest : List Page) → in_time (front ++ (p ∷ rest)) ≡ true → Every (λ q. NotLater q p) front
before_it [] p rest e = nil
before_it (a ∷ front) p rest e =
    cons a (middle {P = NotLater a} front p rest (none_earlier a (front ++ (p ∷ rest)) e)) (before_it front p rest (rest_in a (front ++ (p ∷ rest)) e))

-- Without it the order is one of time still.
without : (front : List Page) (p : Page) (rest : List Page) → in_time (front ++ (p ∷ rest)) ≡ true → in_time (front ++ rest) ≡ true
unfolding in_time
without [] p rest e = rest_in p rest e
without (a ∷ []) p [] e = refl
without (a ∷ []) p (r ∷ rest) e =
    let one = and_true (not_later a p) (not_later p r && in_time (r ∷ rest)) e in
    let two = and_true (not_later p r) (in_time (r ∷ rest)) one.1 in
    rw (is_not_later a r (later_still a p r (not_later_lem a p one.0) (not_later_lem p r two.0))) two.1
without (a ∷ b ∷ front) p rest e =
    let both = and_true (not_later a b) (in_time (b ∷ (front ++ (p ∷ rest)))) e in
    rw both.0 (without (b ∷ front) p rest both.1)

-- Pages of p's second are of its subframe, and where none is of its satellite in that second none is at all.
second_one : (p : Page) (ps : List Page) → Every (Same p) ps → one_subframe p.week (subframe_of p.time) ps ≡ true
unfolding one_subframe
second_one p [] nil = refl
second_one p (q ∷ ps) (cons q' h t) = rw (stays (is_admitted q)) (second_one p ps t)
  where
    stays : (b : Bool) → cond b (eqb q.week p.week && eqb (subframe_of q.time) (subframe_of p.time)) true ≡ true
    stays true =
        rw (eq-eqb q.week p.week (sym h.0), eq-eqb (subframe_of q.time) (subframe_of p.time) (ap subframe_of (sym h.1)))
    stays false = refl

second_none : (p : Page) (ps : List Page) → Every (Same p) ps → those (is_at p.satellite p.week p.time) ps ≡ [] → of_satellite p.satellite ps ≡ []
second_none p [] nil e = refl
second_none p (q ∷ ps) (cons q' h t) e =
    let other = none_passes (is_at p.satellite p.week p.time) q ps e in
    let is : eqb q.satellite p.satellite ≡ false = here (eqb q.satellite p.satellite) other.0 in
    ap (λ (b : Bool). cond b (q ∷ of_satellite p.satellite ps) (of_satellite p.satellite ps)) is ∙ second_none p ps t other.1
  where
    here : (b : Bool) → (b && (eqb q.week p.week && eqb q.time p.time)) ≡ false → b ≡ false
    here false f = refl
    here true f =
        let z : true ≡ false =
        sym (rw (eq-eqb q.week p.week (sym h.0), eq-eqb q.time p.time (sym h.1))) ∙ f in
        let y : ◌≡◌ {A = ℕ} 0 1 = cc in
        absurd (omega arith)

-- a list with no page of any satellite in any second
no_seconds : (qs : List Page) → ((n week time : ℕ) → those (is_at n week time) qs ≡ []) → qs ≡ []
no_seconds [] h = refl
no_seconds (q ∷ qs) h =
    absurd (not_none q (those (is_at q.satellite q.week q.time) qs)
    (sym (passes_first (is_at q.satellite q.week q.time) q qs (own q)) ∙ h q.satellite q.week q.time))

-- a page with a satellite and second is that page's
at_own : (p : Page) (n week time : ℕ) → is_at n week time p ≡ true → (p.satellite ≡ n) × (p.week ≡ week) × (p.time ≡ time)
at_own p n week time e =
    let a = and_true (eqb p.satellite n) (eqb p.week week && eqb p.time time) e in
    let b = and_true (eqb p.week week) (eqb p.time time) a.1 in
    (eqb-true p.satellite n a.0, eqb-true p.week week b.0, eqb-true p.time time b.1)

pub time_order : TimeOrder
time_order s [] qs e f same = subst⁻¹ (EndSame s []) (no_seconds qs (λ n week time. sym (same n week time))) (same_end s [])
time_order s (p ∷ ps) qs e f same =
    let mine = is_at p.satellite p.week p.time in
    let w = first_of mine qs p (those mine ps) (sym (same p.satellite p.week p.time) ∙ passes_first mine p ps (own p)) in
    let is : in_time (w.front ++ (p ∷ w.rest)) ≡ true = ap in_time (sym w.is) ∙ f in
    let same_then : SameSeconds (p ∷ ps) (w.front ++ (p ∷ w.rest)) =
    (λ n week time. same n week time ∙ ap (those (is_at n week time)) w.is) in
    let all : Every (NotLater p) (w.front ++ (p ∷ w.rest)) =
    every_other (p ∷ ps) (w.front ++ (p ∷ w.rest)) same_then (cons p (inr (refl, le_refl p.time)) (none_earlier p ps e)) in
    let here : Every (Same p) w.front =
    each w.front (every_both (every_front w.front (p ∷ w.rest) all) (before_it w.front p w.rest is)) in
    let rest : SameSeconds ps (w.front ++ w.rest) =
    (λ n week time. rest_same (is_at n week time) p ps w.front w.rest (same_then n week time)
    (λ x. let at = at_own p n week time x in
    ap (λ (k : ℕ). those (is_at k week time) w.front) (sym at.0)
    ∙ ap (λ (k : ℕ). those (is_at p.satellite k time) w.front) (sym at.1)
    ∙ ap (λ (k : ℕ). those (is_at p.satellite p.week k) w.front) (sym at.2) ∙ w.none_before)) in
    subst⁻¹ (EndSame s (p ∷ ps)) w.is
    (joined s (behind s p (time_order (feed s p).state ps (w.front ++ w.rest) (rest_in p ps e) (without w.front p w.rest is) rest))
    (turned s (to_front s p.week (subframe_of p.time) p w.front w.rest (in_own (is_admitted p)) (second_one p w.front here)
    (second_none p w.front here w.none_before))))
  where
    in_own : (b : Bool) → cond b (eqb p.week p.week && eqb (subframe_of p.time) (subframe_of p.time)) true ≡ true
    in_own true = rw (eq-eqb p.week p.week refl, eq-eqb (subframe_of p.time) (subframe_of p.time) refl)
    in_own false = refl

    each : (l : List Page) → Every (λ q. NotLater p q × NotLater q p) l → Every (Same p) l
    each [] nil = nil
    each (q ∷ l) (cons q' h t) = cons q (same_second p q h.0 h.1) (each l t)

-- Two cards: a satellite's pages of a second are as many as both have, and all the same.
received_merge : (sent : ℕ → ℕ → ℕ → List ℕ) {one two merged : List Page} → Merge one two merged → Received sent one → Received sent two
    → Received sent merged
received_merge sent none a b = no_page
received_merge sent (from_one p m) (one_page p' e a) b = one_page p e (received_merge sent m a b)
received_merge sent (from_two p m) a (one_page p' e b) = one_page p e (received_merge sent m a b)

as_many : (test : Page → Bool) {one two merged : List Page} → Merge one two merged
    → length (those test merged) ≡ length (those test one) + length (those test two)
as_many test none = refl
as_many test (from_one {one} {two} {merged} p m) = go (test p) (as_many test m)
  where
    go : (b : Bool) → length (those test merged) ≡ length (those test one) + length (those test two)
        → length (cond b (p ∷ those test merged) (those test merged)) ≡ length (cond b (p ∷ those test one) (those test one)) + length (those test two)
    go true e = omega (arith, e)
    go false e = e
as_many test (from_two {one} {two} {merged} p m) = go (test p) (as_many test m)
  where
    go : (b : Bool) → length (those test merged) ≡ length (those test one) + length (those test two)
        → length (cond b (p ∷ those test merged) (those test merged)) ≡ length (those test one) + length (cond b (p ∷ those test two) (those test two))
    go true e = omega (arith, e)
    go false e = e

module _ (sent : ℕ → ℕ → ℕ → List ℕ) (n week time : ℕ) where
  -- what was sent in that second
  abbrev sent_then : Page
  sent_then = call (sent n week time) n week time

  is_sent : (p : Page) → p.bytes ≡ sent p.satellite p.week p.time → is_at n week time p ≡ true → p ≡ sent_then
  is_sent p e x =
      let at = at_own p n week time x in
      let bytes : p.bytes ≡ sent n week time =
      e ∙ ap (λ (k : ℕ). sent k p.week p.time) at.0 ∙ ap (λ (k : ℕ). sent n k p.time) at.1 ∙ ap (sent n week) at.2 in
      ap (λ (b : List ℕ). call b p.satellite p.week p.time) bytes
      ∙ ap (λ (k : ℕ). call (sent n week time) k p.week p.time) at.0
      ∙ ap (λ (k : ℕ). call (sent n week time) n k p.time) at.1
      ∙ ap (λ (k : ℕ). call (sent n week time) n week k) at.2

  all_sent : {ps : List Page} → Received sent ps → those (is_at n week time) ps ≡ replicate (length (those (is_at n week time) ps)) sent_then
  all_sent no_page = refl
  all_sent (one_page {ps} p e r) = go (is_at n week time p) refl (all_sent r)
    where
      go : (b : Bool) → is_at n week time p ≡ b
          → those (is_at n week time) ps ≡ replicate (length (those (is_at n week time) ps)) sent_then
          → cond b (p ∷ those (is_at n week time) ps) (those (is_at n week time) ps)
          ≡ replicate (length (cond b (p ∷ those (is_at n week time) ps) (those (is_at n week time) ps))) sent_then
      go true f h = ap (λ (x : Page). x ∷ those (is_at n week time) ps) (is_sent p e f) ∙ ap (λ (l : List Page). sent_then ∷ l) h
      go false f h = h

pub time_merges : TimeMerges
time_merges s sent one two ps qs a b m k e f =
    time_order s ps qs e f
    (λ n week time. let test = is_at n week time in
    all_sent sent n week time (received_merge sent m a b)
    ∙ ap (λ (j : ℕ). replicate j (sent_then sent n week time)) (as_many test m ∙ sym (as_many test k))
    ∙ sym (all_sent sent n week time (received_merge sent k a b)))

-- The example, computed.
pub time_example : TimeExample
unfolding in_time feed offered used changed answer_at refusal small
time_example =
    record {
      one_received = one_page (page 1 1 0 0) refl (one_page (page 1 1 0 4) refl no_page);
      two_received = one_page (page 2 2 0 0) refl (one_page (page 1 1 0 0) refl (one_page (page 1 1 0 2) refl no_page));
      one_merged = from_one (page 1 1 0 0) (from_two (page 2 2 0 0) (from_two (page 1 1 0 0) (from_two (page 1 1 0 2) (from_one (page 1 1 0 4) none))));
      two_merged = from_two (page 2 2 0 0) (from_two (page 1 1 0 0) (from_one (page 1 1 0 0) (from_two (page 1 1 0 2) (from_one (page 1 1 0 4) none))));
      one_in_time = refl;
      two_in_time = refl;
      all_there = refl;
      behind = refl;
      one_lost = refl;
    }
