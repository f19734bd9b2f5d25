-- What entries that are fed one by one make of a state.
-- Assumes nothing.
use Prim.Native.Nat.{ℕ, zero, suc, ◌+◌, ◌-◌, ◌≤◌, ◌<◌}
use native.Mathlib.Omega.{arith}
use mathlib.Core.Path.{◌≡◌, refl, sym, ap, ◌∙◌, subst⁻¹}
use mathlib.Core.List.{List, [], ◌∷◌, ◌++◌}
use mathlib.Core.Bool.{Bool, true, false, cond}
use lib.ListN.{length, get_or, take}
use lib.Dec.{eqb}
use borrow.Author.Tests.{eq-eqb, ne_eqb, eqb-false}
use Rattle.layouts.specs.Answer.{Answer, refused, nothing, gives, refusal}
use Rattle.subframes.specs.Subframe.{State, Page, Fed, word_of, subframe_of, feed_checks, changed, is_silent, out_of, answer_at, used, offered, feed}
use Rattle.subframes.specs.Trace.{entries, FedMany, by_answer, feed_each, trace_checks, feed_all}
use Rattle.subframes.specs.TraceWalk.{answers, told}
use Rattle.subframes.specs.SubframeRecovery.{after, no_page}

-- After some calls and then others.
pub after_more : (s : State) (ps qs : List Page) → after s (ps ++ qs) ≡ after (after s ps) qs
after_more s [] qs = refl
after_more s (p ∷ ps) qs = after_more (feed s p).state ps qs

pub answers_more : (s : State) (ps qs : List Page) → answers s (ps ++ qs) ≡ answers s ps ++ answers (after s ps) qs
answers_more s [] qs = refl
answers_more s (p ∷ ps) qs = ap (λ (l : List Answer). (feed s p).answer ∷ l) (answers_more (feed s p).state ps qs)

-- One entry more.
pub after_next : (s : State) (ps : List Page) (k : ℕ) → k < length ps → after s (take (suc k) ps) ≡ (feed (after s (take k ps)) (get_or ps k no_page)).state
after_next s [] k h = absurd (omega arith)
after_next s (p ∷ ps) zero h = refl
after_next s (p ∷ ps) (suc k) h = after_next (feed s p).state ps k (omega (arith, h))

-- A refused page leaves the state.
still : (s : State) (p : Page) (q : ℕ) → (feed s p).answer ≡ refused q → (feed s p).state ≡ s
unfolding feed offered used answer_at
still s p q e =
    go (eqb (refusal (feed_checks s p)) 0) (eqb (word_of p.time) (get_or t.counts (p.satellite - 1) 0)) (eqb (word_of p.time + 1) 15)
    (is_silent mem.hkroot mem.mack (p.satellite - 1)) e
  where
    t : State
    t = changed s p.week (subframe_of p.time)

    mem : State
    mem = (used t p.bytes (p.satellite - 1) (word_of p.time)).state

    fed : Bool → Bool → Bool → Bool → Fed
    fed a b c d =
        cond a (cond b (record { state = mem; answer = cond c (out_of d t.week t.subframe) nothing }) (record { state = t; answer = nothing }))
        (record { state = s; answer = refused (refusal (feed_checks s p)) })

    go : (a b c d : Bool) → (fed a b c d).answer ≡ refused q → (fed a b c d).state ≡ s
    go true true true true f = let z : ◌≡◌ {A = ℕ} 0 1 = cc in absurd (omega arith)
    go true true true false f = let z : ◌≡◌ {A = ℕ} 0 1 = cc in absurd (omega arith)
    go true true false d f = let z : ◌≡◌ {A = ℕ} 0 1 = cc in absurd (omega arith)
    go true false c d f = let z : ◌≡◌ {A = ℕ} 0 1 = cc in absurd (omega arith)
    go false b c d f = refl

-- What is told of a page more that brought nothing.
told_more : (m : ℕ) (a : Answer) → ((q : ℕ) → a ≡ refused q → ⊥) → (m ≡ 0 → a ≡ nothing) → told (suc m) a ≡ nothing ∷ told m a
told_more m (refused q) ne z = absurd (ne q refl)
told_more m nothing ne z = refl
told_more zero (gives l) ne z = let e : gives l ≡ nothing = z refl in let y : ◌≡◌ {A = ℕ} 0 1 = cc in absurd (omega arith)
told_more (suc m) (gives l) ne z =
    let e : suc (suc m) - 1 ≡ suc m = omega arith in
    let f : suc m - 1 ≡ m = omega arith in
    rw (e, f)

-- The answers l are those of the first entries, and t is the state after these.
pub record Tells (s : State) (ps : List Page) (t : State) (l : List Answer) : Type 0 where
  pub room : length l ≤ length ps
  pub answers_are : l ≡ answers s (take (length l) ps)
  pub state_is : t ≡ after s (take (length l) ps)

-- What entries fed one by one, n of them consumed before, make of a state: the first `more` of them are fed. (`Fine`: the call itself is not refused.)
pub record Walked (Fine : Type 0) (n : ℕ) (s : State) (ps : List Page) (f : FedMany) : Type 0 where
  pub more : ℕ
  pub consumed_is : f.consumed ≡ n + more
  pub few : more ≤ length ps
  pub state_is : f.state ≡ after s (take more ps)
  pub quiet : (k : ℕ) → suc k < more → (feed (after s (take k ps)) (get_or ps k no_page)).answer ≡ nothing
  pub last : (k : ℕ) → suc k ≡ more → feed (after s (take k ps)) (get_or ps k no_page) ≡ record { state = f.state; answer = f.answer }
  pub idle : more ≡ 0 → (n ≡ 0 → ⊥) → f.answer ≡ nothing
  pub stops : Fine → more < length ps → ((l : List ℕ) → f.answer ≡ gives l → ⊥)
      → (q : ℕ) × ((feed (after s (take more ps)) (get_or ps more no_page)).answer ≡ refused q)
  -- it refuses with none before and none consumed, and else tells of as many as it consumed
  pub unrefused : (n ≡ 0 → ⊥) → (q : ℕ) → f.answer ≡ refused q → ⊥
  pub refused_none : (q : ℕ) → f.answer ≡ refused q → more ≡ 0
  pub length_told : ((q : ℕ) → f.answer ≡ refused q → ⊥) → length (told more f.answer) ≡ more
  pub tells : Fine → Tells s ps f.state (told more f.answer)
  pub onward : Fine → n ≡ 0 → 0 < length ps → 0 < length (told more f.answer)

-- none is left
walked_none : (n : ℕ) (s : State) → Walked (Unit {0}) n s [] (record { state = s; answer = nothing; consumed = n })
walked_none n s =
    record {
      more = 0;
      consumed_is = omega arith;
      few = omega arith;
      state_is = refl;
      quiet = λ k h. absurd (omega arith);
      last = λ k h. absurd (omega arith);
      idle = λ z ne. refl;
      stops = λ u h ne. absurd (omega arith);
      unrefused = λ ne q e. let z : ◌≡◌ {A = ℕ} 0 1 = cc in absurd (omega arith);
      refused_none = λ q e. refl;
      length_told = λ ne. refl;
      tells = λ u. record { room = omega arith; answers_are = refl; state_is = refl };
      onward = λ u z h. absurd (omega arith);
    }

module _ (n : ℕ) (s : State) (p : Page) (ps : List Page) where
  -- the first one is refused
  walked_refused : (q : ℕ) → (feed s p).answer ≡ refused q
      → Walked (Unit {0}) n s (p ∷ ps) (record { state = s; answer = cond (eqb n 0) (refused q) nothing; consumed = n })
  walked_refused q e =
      record {
        more = 0;
        consumed_is = omega arith;
        few = omega arith;
        state_is = refl;
        quiet = λ k h. absurd (omega arith);
        last = λ k h. absurd (omega arith);
        idle = λ z ne. rw (ne_eqb n 0 ne);
        stops = λ u h ne. (q, e);
        unrefused = λ ne q' f. let f : nothing ≡ refused q' = rw (ne_eqb n 0 ne) at f in let z : ◌≡◌ {A = ℕ} 0 1 = cc in absurd (omega arith);
        refused_none = λ q f. refl;
        length_told = λ ne. so_long (eqb n 0) ne;
        tells = λ u. so_told (eqb n 0);
        onward = λ u z h. rw (eq-eqb n 0 z) (omega arith);
      }
    where
      so_long : (b : Bool) → ((q' : ℕ) → cond b (refused q) nothing ≡ refused q' → ⊥) → length (told 0 (cond b (refused q) nothing)) ≡ 0
      so_long true ne = absurd (ne q refl)
      so_long false ne = refl

      so_told : (b : Bool) → Tells s (p ∷ ps) s (told 0 (cond b (refused q) nothing))
      so_told true = record { room = omega arith; answers_are = ap (λ (a : Answer). a ∷ []) (sym e); state_is = sym (still s p q e) }
      so_told false = record { room = omega arith; answers_are = refl; state_is = refl }

  -- with it a pair comes out
  walked_complete : (l : List ℕ) → (feed s p).answer ≡ gives l
      → Walked (Unit {0}) n s (p ∷ ps) (record { state = (feed s p).state; answer = gives l; consumed = n + 1 })
  walked_complete l e =
      record {
        more = 1;
        consumed_is = refl;
        few = omega arith;
        state_is = refl;
        quiet = λ k h. absurd (omega arith);
        last = λ k h. only k (omega arith);
        idle = λ z ne. absurd (omega arith);
        stops = λ u h ne. absurd (ne l refl);
        unrefused = λ ne q f. let z : ◌≡◌ {A = ℕ} 0 1 = cc in absurd (omega arith);
        refused_none = λ q f. let z : ◌≡◌ {A = ℕ} 0 1 = cc in absurd (omega arith);
        length_told = λ ne. refl;
        tells = λ u. record { room = omega arith; answers_are = ap (λ (a : Answer). a ∷ []) (sym e); state_is = refl };
        onward = λ u z h. omega arith;
      }
    where
      only : (k : ℕ) → k ≡ 0 → feed (after s (take k (p ∷ ps))) (get_or (p ∷ ps) k no_page) ≡ record { state = (feed s p).state; answer = gives l }
      only zero z = ap (λ (a : Answer). record { state = (feed s p).state; answer = a }) e
      only (suc k) z = absurd (omega arith)

  -- it brings nothing, and what is left gave f
  module _ (f : FedMany) (w : Walked (Unit {0}) (n + 1) (feed s p).state ps f) (e : (feed s p).answer ≡ nothing) where
    later : n + 1 ≡ 0 → ⊥
    later y = absurd (omega (arith, y))

    one_more : told (suc w.more) f.answer ≡ nothing ∷ told w.more f.answer
    one_more = told_more w.more f.answer (w.unrefused later) (λ z. w.idle z later)

    quiet_then : (k : ℕ) → suc k < suc w.more → (feed (after s (take k (p ∷ ps))) (get_or (p ∷ ps) k no_page)).answer ≡ nothing
    quiet_then zero h = e
    quiet_then (suc k) h = w.quiet k (omega (arith, h))

    last_then : (k : ℕ) → suc k ≡ suc w.more → feed (after s (take k (p ∷ ps))) (get_or (p ∷ ps) k no_page) ≡ record { state = f.state; answer = f.answer }
    last_then zero h =
        let z : w.more ≡ 0 = omega (arith, h) in
        let at : f.state ≡ (feed s p).state = w.state_is ∙ ap (λ (m : ℕ). after (feed s p).state (take m ps)) z in
        let no : f.answer ≡ nothing = w.idle z later in
        rw (at, no, ← e)
    last_then (suc k) h = w.last k (omega (arith, h))

    tells_then : Tells s (p ∷ ps) f.state (nothing ∷ told w.more f.answer)
    tells_then =
        let t = w.tells tt in
        record {
          room = omega (arith, t.room);
          answers_are = ap (λ (a : Answer). a ∷ told w.more f.answer) (sym e) ∙ ap (λ (l : List Answer). (feed s p).answer ∷ l) t.answers_are;
          state_is = t.state_is;
        }

    walked_quiet : Walked (Unit {0}) n s (p ∷ ps) f
    walked_quiet =
        record {
          more = suc w.more;
          consumed_is = omega (arith, w.consumed_is);
          few = omega (arith, w.few);
          state_is = w.state_is;
          quiet = quiet_then;
          last = last_then;
          idle = λ z ne. absurd (omega arith);
          stops = λ u h ne. w.stops u (omega (arith, h)) ne;
          unrefused = λ ne. w.unrefused later;
          refused_none = λ q g. absurd (w.unrefused later q g);
          length_told = λ ne. ap length one_more ∙ ap suc (w.length_told ne);
          tells = λ u. subst⁻¹ (λ (l : List Answer). Tells s (p ∷ ps) f.state l) one_more tells_then;
          onward = λ u z h. omega (arith, ap length one_more);
        }

walked : (n : ℕ) (s : State) (ps : List Page) → Walked (Unit {0}) n s ps (feed_each n s ps)
unfolding feed_each
walked n s [] = walked_none n s
walked n s (p ∷ ps) = go (feed s p).answer refl (walked (n + 1) (feed s p).state ps)
  where
    rest : FedMany
    rest = feed_each (n + 1) (feed s p).state ps

    by : Answer → FedMany
    by a =
        by_answer a (record { state = s; answer = cond (eqb n 0) a nothing; consumed = n }) rest
        (record { state = (feed s p).state; answer = a; consumed = n + 1 })

    go : (a : Answer) → (feed s p).answer ≡ a → Walked (Unit {0}) (n + 1) (feed s p).state ps rest → Walked (Unit {0}) n s (p ∷ ps) (by a)
    go (refused q) e w = walked_refused n s p ps q e
    go (gives l) e w = walked_complete n s p ps l e
    go nothing e w = walked_quiet n s p ps rest w e

pub walked_all : (s : State) (trace : List ℕ) → Walked (refusal (trace_checks s trace) ≡ 0) 0 s (entries trace) (feed_all s trace)
unfolding feed_all
walked_all s trace = go (eqb (refusal (trace_checks s trace)) 0) refl
  where
    fed : Bool → FedMany
    fed b = cond b (feed_each 0 s (entries trace)) (record { state = s; answer = refused (refusal (trace_checks s trace)); consumed = 0 })

    go : (b : Bool) → eqb (refusal (trace_checks s trace)) 0 ≡ b → Walked (refusal (trace_checks s trace) ≡ 0) 0 s (entries trace) (fed b)
    go true e =
        let w = walked 0 s (entries trace) in
        record {
          more = w.more;
          consumed_is = w.consumed_is;
          few = w.few;
          state_is = w.state_is;
          quiet = w.quiet;
          last = w.last;
          idle = w.idle;
          stops = λ u. w.stops tt;
          unrefused = w.unrefused;
          refused_none = w.refused_none;
          length_told = w.length_told;
          tells = λ u. w.tells tt;
          onward = λ u. w.onward tt;
        }
    go false e =
        record {
          more = 0;
          consumed_is = refl;
          few = omega arith;
          state_is = refl;
          quiet = λ k h. absurd (omega arith);
          last = λ k h. absurd (omega arith);
          idle = λ z ne. absurd (ne refl);
          stops = λ u h ne. absurd (eqb-false (refusal (trace_checks s trace)) 0 e u);
          unrefused = λ ne. absurd (ne refl);
          refused_none = λ q f. refl;
          length_told = λ ne. absurd (ne (refusal (trace_checks s trace)) refl);
          tells = λ u. absurd (eqb-false (refusal (trace_checks s trace)) 0 e u);
          onward = λ u. absurd (eqb-false (refusal (trace_checks s trace)) 0 e u);
        }
