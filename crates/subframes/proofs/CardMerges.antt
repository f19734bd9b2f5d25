-- Merges of two cards: pages of different satellites change places until one merge is the other.
-- Assumes nothing.
use Prim.Native.Nat.{ℕ}
use native.Mathlib.Omega.{arith}
use native.Mathlib.Decide.{ℕ_discrete}
use mathlib.Core.Path.{◌≡◌, refl, sym, ap, ◌∙◌, subst⁻¹}
use mathlib.Core.Logic.{◌⊎◌, ⊎_elim, inl, inr}
use mathlib.Core.List.{List, [], ◌∷◌, ◌++◌}
use mathlib.Core.Bool.{Bool, true, false, cond, ◌&&◌}
use lib.ListN.{drop}
use lib.Dec.{eqb}
use borrow.Author.Tests.{eq-eqb, ne_eqb, eqb-true, eqb-false}
use Rattle.layouts.specs.Answer.{Answer, refusal}
use Rattle.runs.proofs.Basics.{and_true}
use Rattle.subframes.specs.Subframe.{State, Page, subframe_of, small, changed, zeros, is_silent, answer_at, used, offered, feed, came_out}
use Rattle.subframes.specs.SubframeRecovery.{is_admitted, after}
use Rattle.subframes.specs.SubframeHistory.{words_from}
use Rattle.subframes.specs.TraceWalk.{answers}
use Rattle.subframes.specs.PageOrder.{Commute, page}
use Rattle.subframes.specs.DoubledPages.{stays_in, one_subframe}
use Rattle.subframes.specs.CardMerges.{those, of_satellite, answers_of, SameOrder, EndSame, Merges, Recording, ends, next, RecordingMerges, Merge}
use Rattle.subframes.specs.CardMerges.{none, from_one, from_two, Apart, TwoMerges, no_more, and_then, CardsMerge, CardsExample, no_word3, no_word5}
use Rattle.subframes.specs.CardMerges.{AnswersExample, SharedSatellite}
use Rattle.subframes.proofs.PageOrder.{in_one}
use Rattle.subframes.proofs.TraceSteps.{after_more}

-- Two that are not both there change places.
two_apart : {A : Type 0} (x y : Bool) (a b : A) (l : List A) → (x ≡ true → y ≡ true → ⊥)
    → cond x (a ∷ cond y (b ∷ l) l) (cond y (b ∷ l) l) ≡ cond y (b ∷ cond x (a ∷ l) l) (cond x (a ∷ l) l)
two_apart true true a b l ne = absurd (ne refl refl)
two_apart true false a b l ne = refl
two_apart false y a b l ne = refl

-- Ending the same, one step after the other.
module _ (s : State) where
  pub same_end : (ps : List Page) → EndSame s ps ps
  same_end ps = record { state_is = refl; pages_are = λ n. refl; answers_are = λ n. refl }

  pub turned : {ps qs : List Page} → EndSame s ps qs → EndSame s qs ps
  turned e = record { state_is = sym e.state_is; pages_are = λ n. sym (e.pages_are n); answers_are = λ n. sym (e.answers_are n) }

  pub joined : {ps qs rs : List Page} → EndSame s ps qs → EndSame s qs rs → EndSame s ps rs
  joined e f =
      record {
        state_is = e.state_is ∙ f.state_is;
        pages_are = λ n. e.pages_are n ∙ f.pages_are n;
        answers_are = λ n. e.answers_are n ∙ f.answers_are n;
      }

  -- behind the same page
  pub behind : (p : Page) {ps qs : List Page} → EndSame (feed s p).state ps qs → EndSame s (p ∷ ps) (p ∷ qs)
  behind p e =
      record {
        state_is = e.state_is;
        pages_are = λ n. ap (λ (l : List Page). cond (eqb p.satellite n) (p ∷ l) l) (e.pages_are n);
        answers_are = λ n. ap (λ (l : List Answer). cond (eqb p.satellite n) ((feed s p).answer ∷ l) l) (e.answers_are n);
      }

  -- two pages of different satellites change places
  swapped : (p q : Page) (ps : List Page) → (p.satellite ≡ q.satellite → ⊥) → Commute s p q → EndSame s (p ∷ q ∷ ps) (q ∷ p ∷ ps)
  swapped p q ps ne c =
      record {
        state_is = ap (λ (t : State). after t ps) c.ends;
        pages_are = λ n. two_apart (eqb p.satellite n) (eqb q.satellite n) p q (of_satellite n ps) (apart n);
        answers_are = λ n.
            ap (list n (feed s p).answer (feed (feed s p).state q).answer) (ap (λ (t : State). answers_of n ps (answers t ps)) c.ends)
            ∙ ap (λ (a : Answer). list n a (feed (feed s p).state q).answer (last n)) c.answer_p
            ∙ ap (λ (a : Answer). list n (feed (feed s q).state p).answer a (last n)) c.answer_q
            ∙ two_apart (eqb p.satellite n) (eqb q.satellite n) (feed (feed s q).state p).answer (feed s q).answer (last n) (apart n);
      }
    where
      apart : (n : ℕ) → eqb p.satellite n ≡ true → eqb q.satellite n ≡ true → ⊥
      apart n e f = ne (eqb-true p.satellite n e ∙ sym (eqb-true q.satellite n f))

      last : ℕ → List Answer
      last n = answers_of n ps (answers (feed (feed s q).state p).state ps)

      list : ℕ → Answer → Answer → List Answer → List Answer
      list n a b l = cond (eqb p.satellite n) (a ∷ cond (eqb q.satellite n) (b ∷ l) l) (cond (eqb q.satellite n) (b ∷ l) l)

-- A list with a member is not empty.
pub not_none : {A : Type 0} (a : A) (l : List A) → a ∷ l ≡ [] → ⊥
not_none a l e = let z : ◌≡◌ {A = ℕ} 0 1 = cc in absurd (omega arith)

pub head_is : {A : Type 0} (a b : A) (l m : List A) → a ∷ l ≡ b ∷ m → a ≡ b
head_is a b l m e = cc

pub tail_is : {A : Type 0} (a b : A) (l m : List A) → a ∷ l ≡ b ∷ m → l ≡ m
tail_is a b l m e = ap (drop 1) e

-- The pages that pass a test.
module _ (test : Page → Bool) where
  pub those_append : (ps qs : List Page) → those test (ps ++ qs) ≡ those test ps ++ those test qs
  those_append [] qs = refl
  those_append (p ∷ ps) qs = go (test p) (those_append ps qs)
    where
      go : (b : Bool) → those test (ps ++ qs) ≡ those test ps ++ those test qs
          → cond b (p ∷ those test (ps ++ qs)) (those test (ps ++ qs)) ≡ cond b (p ∷ those test ps) (those test ps) ++ those test qs
      go true e = ap (λ (l : List Page). p ∷ l) e
      go false e = e

  -- where none does, the first does not
  pub none_passes : (p : Page) (ps : List Page) → those test (p ∷ ps) ≡ [] → (test p ≡ false) × (those test ps ≡ [])
  none_passes p ps e = go (test p) refl e
    where
      go : (b : Bool) → test p ≡ b → cond b (p ∷ those test ps) (those test ps) ≡ [] → (b ≡ false) × (those test ps ≡ [])
      go true f h = absurd (not_none p (those test ps) h)
      go false f h = (refl, h)

  -- one that does
  pub passes_first : (p : Page) (ps : List Page) → test p ≡ true → those test (p ∷ ps) ≡ p ∷ those test ps
  passes_first p ps e = ap (λ (b : Bool). cond b (p ∷ those test ps) (those test ps)) e

  -- where the first of those is
  pub record First (qs : List Page) (p : Page) : Type 0 where
    pub front : List Page
    pub rest : List Page
    pub is : qs ≡ front ++ (p ∷ rest)
    pub none_before : those test front ≡ []

  pub first_of : (qs : List Page) (p : Page) (l : List Page) → those test qs ≡ p ∷ l → First qs p
  first_of [] p l e = absurd (not_none p l (sym e))
  first_of (q ∷ qs) p l e = go (first_of qs p l) (test q) refl e
    where
      go : (those test qs ≡ p ∷ l → First qs p) → (b : Bool) → test q ≡ b → cond b (q ∷ those test qs) (those test qs) ≡ p ∷ l → First (q ∷ qs) p
      go later true f h =
          record { front = []; rest = qs; is = ap (λ (x : Page). x ∷ qs) (head_is q p (those test qs) l h); none_before = refl }
      go later false f h =
          let w = later h in
          record {
            front = q ∷ w.front;
            rest = w.rest;
            is = ap (λ (x : List Page). q ∷ x) w.is;
            none_before = ap (λ (b : Bool). cond b (q ∷ those test w.front) (those test w.front)) f ∙ w.none_before;
          }

  -- without a page that stands behind none of its kind the rest are the same
  pub rest_same : (p : Page) (ps front rest : List Page) → those test (p ∷ ps) ≡ those test (front ++ (p ∷ rest))
      → (test p ≡ true → those test front ≡ []) → those test ps ≡ those test (front ++ rest)
  rest_same p ps front rest same h = go (test p) refl (same ∙ those_append front (p ∷ rest))
    where
      go : (b : Bool) → test p ≡ b → cond b (p ∷ those test ps) (those test ps) ≡ those test front ++ cond b (p ∷ those test rest) (those test rest)
          → those test ps ≡ those test (front ++ rest)
      go true e all =
          let before = h e in
          tail_is p p (those test ps) (those test rest) (all ∙ ap (λ (l : List Page). l ++ (p ∷ those test rest)) before)
          ∙ sym (those_append front rest ∙ ap (λ (l : List Page). l ++ those test rest) before)
      go false e all = all ∙ sym (those_append front rest)

-- of a satellite: none of its pages
none_first : (n : ℕ) (p : Page) (ps : List Page) → of_satellite n (p ∷ ps) ≡ [] → (p.satellite ≡ n → ⊥) × (of_satellite n ps ≡ [])
none_first n p ps e =
    let h = none_passes (λ (q : Page). eqb q.satellite n) p ps e in
    (eqb-false p.satellite n h.0, h.1)

no_pages : (ps : List Page) → ((n : ℕ) → of_satellite n ps ≡ []) → ps ≡ []
no_pages [] h = refl
no_pages (p ∷ ps) h = absurd ((none_first p.satellite p ps (h p.satellite)).0 refl)

-- Pages of one subframe.
one_front : (week subframe : ℕ) (ps qs : List Page) → one_subframe week subframe (ps ++ qs) ≡ true → one_subframe week subframe ps ≡ true
unfolding one_subframe
one_front week subframe [] qs e = refl
one_front week subframe (p ∷ ps) qs e =
    let both = and_true (stays_in week subframe p) (one_subframe week subframe (ps ++ qs)) e in
    rw both.0 (one_front week subframe ps qs both.1)

one_each : (week subframe : ℕ) (ps : List Page) → one_subframe week subframe ps ≡ true → (n : ℕ) → one_subframe week subframe (of_satellite n ps) ≡ true
unfolding one_subframe
one_each week subframe [] e n = refl
one_each week subframe (p ∷ ps) e n =
    let both = and_true (stays_in week subframe p) (one_subframe week subframe ps) e in
    go (eqb p.satellite n) both.0 (one_each week subframe ps both.1 n)
  where
    go : (b : Bool) → stays_in week subframe p ≡ true → one_subframe week subframe (of_satellite n ps) ≡ true
        → one_subframe week subframe (cond b (p ∷ of_satellite n ps) (of_satellite n ps)) ≡ true
    go true f h = rw f h
    go false f h = h

one_all : (week subframe : ℕ) (ps : List Page) → ((n : ℕ) → one_subframe week subframe (of_satellite n ps) ≡ true) → one_subframe week subframe ps ≡ true
unfolding one_subframe
one_all week subframe [] h = refl
one_all week subframe (p ∷ ps) h =
    let own : one_subframe week subframe (p ∷ of_satellite p.satellite ps) ≡ true =
    ap (λ (b : Bool). one_subframe week subframe (cond b (p ∷ of_satellite p.satellite ps) (of_satellite p.satellite ps)))
    (sym (eq-eqb p.satellite p.satellite refl)) ∙ h p.satellite in
    rw (and_true (stays_in week subframe p) (one_subframe week subframe (of_satellite p.satellite ps)) own).0
    (one_all week subframe ps (λ n. go n (eqb p.satellite n) (h n)))
  where
    go : (n : ℕ) (b : Bool) → one_subframe week subframe (cond b (p ∷ of_satellite n ps) (of_satellite n ps)) ≡ true
        → one_subframe week subframe (of_satellite n ps) ≡ true
    go n true e = (and_true (stays_in week subframe p) (one_subframe week subframe (of_satellite n ps)) e).1
    go n false e = e

-- the same pages in another order are of the same subframe
one_other : (week subframe : ℕ) (ps qs : List Page) → SameOrder ps qs → one_subframe week subframe ps ≡ true → one_subframe week subframe qs ≡ true
one_other week subframe ps qs same e =
    one_all week subframe qs (λ n. ap (one_subframe week subframe) (sym (same n)) ∙ one_each week subframe ps e n)

-- two pages of one subframe, of different satellites
stay_commute :
    (s : State) (week subframe : ℕ) (p q : Page) → stays_in week subframe p ≡ true → stays_in week subframe q ≡ true → (p.satellite ≡ q.satellite → ⊥)
    → Commute s p q
stay_commute s week subframe p q ep eq ne =
    in_one s p q ne
    (λ a b. let x = own p ep a in let y = own q eq b in (x.0 ∙ sym y.0, x.1 ∙ sym y.1))
  where
    own : (r : Page) → stays_in week subframe r ≡ true → is_admitted r ≡ true → (r.week ≡ week) × (subframe_of r.time ≡ subframe)
    own r e a =
        let is : (eqb r.week week && eqb (subframe_of r.time) subframe) ≡ true =
        ap (λ (b : Bool). cond b (eqb r.week week && eqb (subframe_of r.time) subframe) true) (sym a) ∙ e in
        let both = and_true (eqb r.week week) (eqb (subframe_of r.time) subframe) is in
        (eqb-true r.week week both.0, eqb-true (subframe_of r.time) subframe both.1)

-- A satellite's first page goes to the front.
pub to_front :
    (s : State) (week subframe : ℕ) (p : Page) (ps qs : List Page) → stays_in week subframe p ≡ true → one_subframe week subframe ps ≡ true
    → of_satellite p.satellite ps ≡ [] → EndSame s (ps ++ (p ∷ qs)) (p ∷ (ps ++ qs))
unfolding one_subframe
to_front s week subframe p [] qs e o h = same_end s (p ∷ qs)
to_front s week subframe p (a ∷ ps) qs e o h =
    let both = and_true (stays_in week subframe a) (one_subframe week subframe ps) o in
    let other = none_first p.satellite a ps h in
    joined s (behind s a (to_front (feed s a).state week subframe p ps qs e both.1 other.1))
    (swapped s a p (ps ++ qs) other.0 (stay_commute s week subframe a p both.0 e other.0))

-- Within a subframe.
pub merges : Merges
unfolding one_subframe
merges s week subframe [] qs o same = subst⁻¹ (EndSame s []) (no_pages qs (λ n. sym (same n))) (same_end s [])
merges s week subframe (p ∷ ps) qs o same =
    let both = and_true (stays_in week subframe p) (one_subframe week subframe ps) o in
    let mine : Page → Bool = (λ (q : Page). eqb q.satellite p.satellite) in
    let own : of_satellite p.satellite qs ≡ p ∷ of_satellite p.satellite ps =
    sym (same p.satellite) ∙ passes_first mine p ps (eq-eqb p.satellite p.satellite refl) in
    let w = first_of mine qs p (of_satellite p.satellite ps) own in
    let same_then : SameOrder (p ∷ ps) (w.front ++ (p ∷ w.rest)) = (λ n. same n ∙ ap (of_satellite n) w.is) in
    let front-one : one_subframe week subframe w.front ≡ true =
    one_front week subframe w.front (p ∷ w.rest) (one_other week subframe (p ∷ ps) (w.front ++ (p ∷ w.rest)) same_then o) in
    let rest : SameOrder ps (w.front ++ w.rest) =
    (λ n. rest_same (λ (q : Page). eqb q.satellite n) p ps w.front w.rest (same_then n)
    (λ e. ap (λ (k : ℕ). of_satellite k w.front) (sym (eqb-true p.satellite n e)) ∙ w.none_before)) in
    subst⁻¹ (EndSame s (p ∷ ps)) w.is
    (joined s (behind s p (merges (feed s p).state week subframe ps (w.front ++ w.rest) both.1 rest))
    (turned s (to_front s week subframe p w.front w.rest both.0 front-one w.none_before)))

-- One subframe after the other.
answers_append : (n : ℕ) (s : State) (ps qs : List Page)
    → answers_of n (ps ++ qs) (answers s (ps ++ qs)) ≡ answers_of n ps (answers s ps) ++ answers_of n qs (answers (after s ps) qs)
answers_append n s [] qs = refl
answers_append n s (p ∷ ps) qs = go (eqb p.satellite n) (answers_append n (feed s p).state ps qs)
  where
    all : List Answer
    all = answers_of n (ps ++ qs) (answers (feed s p).state (ps ++ qs))

    front : List Answer
    front = answers_of n ps (answers (feed s p).state ps)

    last : List Answer
    last = answers_of n qs (answers (after (feed s p).state ps) qs)

    go : (b : Bool) → all ≡ front ++ last → cond b ((feed s p).answer ∷ all) all ≡ cond b ((feed s p).answer ∷ front) front ++ last
    go true e = ap (λ (l : List Answer). (feed s p).answer ∷ l) e
    go false e = e

appended : (s : State) (ps qs rest others : List Page) → EndSame s ps qs → EndSame (after s ps) rest others → EndSame s (ps ++ rest) (qs ++ others)
appended s ps qs rest others e f =
    record {
      state_is = after_more s ps rest ∙ f.state_is ∙ ap (λ (t : State). after t others) e.state_is ∙ sym (after_more s qs others);
      pages_are = λ n. let mine : Page → Bool = (λ (p : Page). eqb p.satellite n) in
          those_append mine ps rest
          ∙ ap (λ (l : List Page). l ++ of_satellite n rest) (e.pages_are n)
          ∙ ap (λ (l : List Page). of_satellite n qs ++ l) (f.pages_are n)
          ∙ sym (those_append mine qs others);
      answers_are = λ n.
          answers_append n s ps rest
          ∙ ap (λ (l : List Answer). l ++ answers_of n rest (answers (after s ps) rest)) (e.answers_are n)
          ∙ ap (λ (l : List Answer). answers_of n qs (answers s qs) ++ l)
          (f.answers_are n ∙ ap (λ (t : State). answers_of n others (answers t others)) e.state_is)
          ∙ sym (answers_append n s qs others);
    }

recording : (s : State) {ps qs : List Page} → Recording ps qs → EndSame s ps qs
recording s ends = same_end s []
recording s (next {rest} {others} week subframe ps qs o same r) =
    appended s ps qs rest others (merges s week subframe ps qs o same) (recording (after s ps) r)

pub recording_merges : RecordingMerges
recording_merges s ps qs r = recording s r

-- Two cards with no satellite on both: each merge has one card's pages of a satellite, or the other's, in their order.
of_merge : {one two merged : List Page} → Merge one two merged → (n : ℕ) → (of_satellite n two ≡ [] → of_satellite n merged ≡ of_satellite n one)
    × (of_satellite n one ≡ [] → of_satellite n merged ≡ of_satellite n two)
of_merge none n = (λ e. refl, λ e. refl)
of_merge (from_one {one} {two} {merged} p m) n =
    let w = of_merge m n in (
      λ e. ap (λ (l : List Page). cond (eqb p.satellite n) (p ∷ l) l) (w.0 e),
      λ e. let h = none_first n p one e in
          ap (λ (b : Bool). cond b (p ∷ of_satellite n merged) (of_satellite n merged)) (ne_eqb p.satellite n h.0) ∙ w.1 h.1,
    )
of_merge (from_two {one} {two} {merged} p m) n =
    let w = of_merge m n in (
      λ e. let h = none_first n p two e in
          ap (λ (b : Bool). cond b (p ∷ of_satellite n merged) (of_satellite n merged)) (ne_eqb p.satellite n h.0) ∙ w.0 h.1,
      λ e. ap (λ (l : List Page). cond (eqb p.satellite n) (p ∷ l) l) (w.1 e),
    )

merge_same : {one two merged other : List Page} → Apart one two → Merge one two merged → Merge one two other → SameOrder merged other
merge_same apart m k n =
    ⊎_elim (λ e. (of_merge m n).1 e ∙ sym ((of_merge k n).1 e)) (λ e. (of_merge m n).0 e ∙ sym ((of_merge k n).0 e)) (apart n)

-- and its pages are of the cards' subframe
merge_one : (week subframe : ℕ) {one two merged : List Page} → Merge one two merged → one_subframe week subframe one ≡ true
    → one_subframe week subframe two ≡ true → one_subframe week subframe merged ≡ true
unfolding one_subframe
merge_one week subframe none e f = refl
merge_one week subframe (from_one {one} p m) e f =
    let both = and_true (stays_in week subframe p) (one_subframe week subframe one) e in
    rw both.0 (merge_one week subframe m both.1 f)
merge_one week subframe (from_two {two = two} p m) e f =
    let both = and_true (stays_in week subframe p) (one_subframe week subframe two) f in
    rw both.0 (merge_one week subframe m e both.1)

two_merges : {ps qs : List Page} → TwoMerges ps qs → Recording ps qs
two_merges no_more = ends
two_merges (and_then week subframe one two merged other e f apart m k rest) =
    next week subframe merged other (merge_one week subframe m e f) (merge_same apart m k) (two_merges rest)

pub cards_merge : CardsMerge
cards_merge ps qs m = two_merges m

-- The examples.
one_by_one : (ps qs rs merged : List Page) → Merge qs rs merged → Merge (ps ++ qs) rs (ps ++ merged)
one_by_one [] qs rs merged m = m
one_by_one (p ∷ ps) qs rs merged m = from_one p (one_by_one ps qs rs merged m)

two_by_two : (ps qs rs merged : List Page) → Merge qs rs merged → Merge qs (ps ++ rs) (ps ++ merged)
two_by_two [] qs rs merged m = m
two_by_two (p ∷ ps) qs rs merged m = from_two p (two_by_two ps qs rs merged m)

-- pages of satellite 1 on one card and of satellite 2 on the other
one_or_two : (one two : List Page) → ((n : ℕ) → (n ≡ 1 → ⊥) → of_satellite n one ≡ []) → ((n : ℕ) → (n ≡ 2 → ⊥) → of_satellite n two ≡ []) → Apart one two
one_or_two one two f g n = go (ℕ_discrete n 1)
  where
    go : Dec (n ≡ 1) → (of_satellite n one ≡ []) ⊎ (of_satellite n two ≡ [])
    go (yes e) = inr (g n (λ z. absurd (omega (arith, z, e))))
    go (no ne) = inl (f n ne)

pub answers_example : AnswersExample
unfolding feed offered used changed answer_at is_silent zeros refusal small
answers_example = record { pages_of_1 = refl; answers_of_1 = refl; answers_of_2 = refl }

pub cards_example : CardsExample
unfolding one_subframe refusal
cards_example =
    and_then 0 0 (page 1 1 0 0 ∷ page 2 1 0 2 ∷ []) (page 3 2 0 0 ∷ []) (page 1 1 0 0 ∷ page 2 1 0 2 ∷ page 3 2 0 0 ∷ [])
    (page 3 2 0 0 ∷ page 1 1 0 0 ∷ page 2 1 0 2 ∷ []) refl refl
    (one_or_two (page 1 1 0 0 ∷ page 2 1 0 2 ∷ []) (page 3 2 0 0 ∷ []) (λ n ne. rw (ne_eqb 1 n (λ z. ne (sym z)))) (λ n ne. rw (ne_eqb 2 n (λ z. ne (sym z)))))
    (from_one (page 1 1 0 0) (from_one (page 2 1 0 2) (from_two (page 3 2 0 0) none)))
    (from_two (page 3 2 0 0) (from_one (page 1 1 0 0) (from_one (page 2 1 0 2) none)))
    (and_then 0 1 (page 5 1 0 30 ∷ []) (page 4 2 0 30 ∷ []) (page 4 2 0 30 ∷ page 5 1 0 30 ∷ []) (page 5 1 0 30 ∷ page 4 2 0 30 ∷ []) refl refl
    (one_or_two (page 5 1 0 30 ∷ []) (page 4 2 0 30 ∷ []) (λ n ne. rw (ne_eqb 1 n (λ z. ne (sym z)))) (λ n ne. rw (ne_eqb 2 n (λ z. ne (sym z)))))
    (from_two (page 4 2 0 30) (from_one (page 5 1 0 30) none))
    (from_one (page 5 1 0 30) (from_two (page 4 2 0 30) none)) no_more)

pub shared_satellite : SharedSatellite
unfolding feed offered used changed answer_at is_silent zeros refusal small came_out
shared_satellite =
    record {
      one_behind = one_by_one no_word3 [] no_word5 no_word5 (two_by_two no_word5 [] [] [] none);
      merged_by_words = one_by_one (words_from 0 3) (words_from 4 11) no_word5 (words_from 0 5 ++ (words_from 4 11 ++ words_from 6 9))
          (two_by_two (words_from 0 5) (words_from 4 11) (words_from 6 9) (words_from 4 11 ++ words_from 6 9)
          (one_by_one (words_from 4 11) [] (words_from 6 9) (words_from 6 9) (two_by_two (words_from 6 9) [] [] [] none)));
      lost = refl;
      found = refl;
    }
