-- Calls of the code from any record: record, memory and answers are those of their pages, so that what holds of the definition holds of the code.
-- Assumes nothing.
use Prim.Native.Nat.{ℕ, suc, zero, ◌%◌, ◌≤◌, ◌<◌}
use native.Mathlib.Omega.{arith}
use native.Mathlib.Decide.{ℕ_discrete}
use mathlib.Core.Path.{◌≡◌, refl, sym, ap, ◌∙◌, subst, subst⁻¹}
use mathlib.Core.List.{List, [], ◌∷◌, ◌++◌, append-nil, append_assoc}
use mathlib.Core.Bool.{Bool, true, false, cond}
use lib.ListN.{length, get_or, take}
use lib.Seq.{take-length}
use Rattle.layouts.specs.Answer.{Answer, refused, nothing, gives, refusal}
use Rattle.subframes.specs.Subframe.{State, Page, Fed, subframe_of, feed_checks, is_used, feed}
use Rattle.subframes.specs.Trace.{entries, FedMany}
use Rattle.subframes.specs.SubframePromises.{state, meaning_subframe, IsUsed}
use Rattle.subframes.specs.SubframeRecovery.{after, no_page}
use Rattle.subframes.specs.SubframeHistory.{Call, one, many, History, called as and_called, misfit as and_misfit, looked as and_looked}
use Rattle.subframes.specs.TraceWalk.{answers, Walk}
use Rattle.subframes.specs.DoubledPages.{one_subframe, Copy}
use Rattle.subframes.specs.CardMerges.{answers_of, EndSame}
use Rattle.subframes.specs.OrderHistory.{answered, Calls, begins, called, misfit, looked}
use Rattle.subframes.specs.OrderHistory.{HoldSame, TwoWays, by_subframe, by_time, AnsweredSame, CodeOrder}
use Rattle.subframes.specs.declared.subframe.CollectSubframe.{CollectSubframe}
use Rattle.std.specs.Prelude.{Result, Ok, Option}
use Rattle.layouts.specs.declared.refusal.Refusal.{Refusal}
use Rattle.subframes.specs.declared.subframe.Pair.{Pair}
use Rattle.subframes.proofs.Pages.{feed_refused}
use Rattle.subframes.proofs.SubframeUsed.{used_is_asked}
use Rattle.subframes.proofs.SubframeUnique.{back_state}
use Rattle.subframes.proofs.SubframeHistory.{misfit_call, call_feeds, any_call}
use Rattle.subframes.proofs.TraceSteps.{after_more, answers_more, walked_all}
use Rattle.subframes.proofs.TraceWalk.{trace_walked}
use Rattle.subframes.proofs.PageOrder.{either_order}
use Rattle.subframes.proofs.DoubledPages.{doubled}
use Rattle.subframes.proofs.CardMerges.{recording_merges}
use Rattle.subframes.proofs.TimeMerges.{time_merges}

-- What a call told of its pages is what they get one by one.
told_of :
    (s : State) (ps : List Page) (n : ℕ) (a : Answer) → n ≤ length ps
    → ((k : ℕ) → suc k < n → (feed (after s (take k ps)) (get_or ps k no_page)).answer ≡ nothing)
    → ((k : ℕ) → suc k ≡ n → (feed (after s (take k ps)) (get_or ps k no_page)).answer ≡ a) → answered (take n ps) a ≡ answers s (take n ps)
told_of s [] zero a h quiet last = refl
told_of s [] (suc n) a h quiet last = absurd (omega (arith, h))
told_of s (p ∷ ps) zero a h quiet last = refl
told_of s (p ∷ ps) (suc zero) a h quiet last = ap (λ (x : Answer). x ∷ []) (sym (last 0 refl))
told_of s (p ∷ []) (suc (suc n)) a h quiet last = absurd (omega (arith, h))
told_of s (p ∷ q ∷ ps) (suc (suc n)) a h quiet last =
    let later =
    told_of (feed s p).state (q ∷ ps) (suc n) a (omega (arith, h)) (λ k l. quiet (suc k) (omega (arith, l))) (λ k e. last (suc k) (ap suc e)) in
    ap (λ (l : List Answer). nothing ∷ l) later
    ∙ ap (λ (x : Answer). x ∷ answers (feed s p).state (q ∷ take n ps)) (sym (quiet 0 (omega arith)))

call_tells :
    {c c' : CollectSubframe} {h m h' m' : List ℕ} {qs : List Page} {a : Result (Option Pair) Refusal} → Call c h m qs a c' h' m'
    → answered qs (meaning_subframe a) ≡ answers (state c h m) qs
call_tells (one p r h' m' e) = ap (λ (f : Fed). f.answer ∷ []) e
call_tells {c} {h = h} {m = m} (many trace r h' m' e) =
    let s = state c h m in
    let w = walked_all s trace in
    let same : w.more ≡ r.consumed = omega (arith, w.consumed_is, ap (λ (f : FedMany). f.consumed) e) in
    told_of s (entries trace) r.consumed (meaning_subframe r.answer) (omega (arith, w.few, same)) (λ k l. w.quiet k (omega (arith, l, same)))
    (λ k l. ap (λ (f : Fed). f.answer) (w.last k (l ∙ sym same)) ∙ sym (ap (λ (f : FedMany). f.answer) e))

-- what the caller holds, and what was answered, from the pages alone
record Fed-by (s t : State) (ps : List Page) (l : List Answer) : Type 0 where
  state_is : t ≡ after s ps
  answers_are : l ≡ answers s ps

calls_feed : {c : CollectSubframe} {h m : List ℕ} {d : CollectSubframe} {x y : List ℕ} {ps : List Page} {l : List Answer} → Calls c h m ps l d x y → Fed-by (state c h m) (state d x y) ps l
calls_feed begins = record { state_is = refl; answers_are = refl }
calls_feed {c} {h = h} {m = m} (called {d = d} {x = x} {y = y} {ps = ps} {qs = qs} {l = l} {a = a} k k') =
    let s = state c h m in
    let w = calls_feed k in
    record {
      state_is = call_feeds k' ∙ ap (λ (t : State). after t qs) w.state_is ∙ sym (after_more s ps qs);
      answers_are = ap (λ (z : List Answer). z ++ answered qs (meaning_subframe a)) w.answers_are
          ∙ ap (λ (z : List Answer). answers s ps ++ z) (call_tells k' ∙ ap (λ (t : State). answers t qs) w.state_is)
          ∙ sym (answers_more s ps qs);
    }
calls_feed (looked k k') = calls_feed k
calls_feed {c} {h = h} {m = m} (misfit {d = d} {u = u} {v = v} {u' = u'} {v' = v'} {ps = ps} {l = l} x y k w k') =
    let s = state c h m in
    let q = misfit_call w k' in
    subst⁻¹ (λ (e : CollectSubframe). Fed-by s (state e (x u' v') (y u' v')) ps l) q.record_is
    (subst⁻¹ (λ (z : List ℕ). Fed-by s (state d (x z v') (y z v')) ps l) q.hkroot_is
    (subst⁻¹ (λ (z : List ℕ). Fed-by s (state d (x u z) (y u z)) ps l) q.mack_is (calls_feed k)))

-- equal states are equal records and bytes
hold_same : {d e : CollectSubframe} {x x' y y' : List ℕ} → state d x y ≡ state e x' y' → HoldSame d e x x' y y'
hold_same q = record { record_is = ap back_state q; hkroot_is = ap (λ (s : State). s.hkroot) q; mack_is = ap (λ (s : State). s.mack) q }

-- Two lists of two answers.
pair_is : {a b a' b' : Answer} → a ∷ b ∷ [] ≡ a' ∷ b' ∷ [] → (a ≡ a') × (b ≡ b')
pair_is e = (ap (λ (l : List Answer). get_or l 0 nothing) e, ap (λ (l : List Answer). get_or l 1 nothing) e)

code_either :
    {c d e : CollectSubframe} {h m x y x' y' : List ℕ} {a b a' b' : Answer} (p q : Page) → (p.satellite ≡ q.satellite → ⊥) → p.week ≡ q.week
    → subframe_of p.time ≡ subframe_of q.time → Calls c h m (p ∷ q ∷ []) (a ∷ b ∷ []) d x y → Calls c h m (q ∷ p ∷ []) (b' ∷ a' ∷ []) e x' y'
    → HoldSame d e x x' y y' × (a ≡ a') × (b ≡ b')
code_either {c} {h = h} {m = m} p q ne sw st k k' =
    let w = calls_feed k in
    let w' = calls_feed k' in
    let either = either_order (state c h m) p q ne sw st in
    let pq = pair_is w.answers_are in
    let qp = pair_is w'.answers_are in
    (hold_same (w.state_is ∙ either.ends ∙ sym w'.state_is), pq.0 ∙ either.answer_p ∙ sym qp.1, pq.1 ∙ either.answer_q ∙ sym qp.0)

-- A page that was answered and not refused was admitted; and what `is_used` says of it is so.
not_refused : (s : State) (p : Page) (a : Answer) → a ≡ (feed s p).answer → ((n : ℕ) → a ≡ refused n → ⊥) → refusal (feed_checks s p) ≡ 0
not_refused s p a e ne = go (ℕ_discrete (refusal (feed_checks s p)) 0)
  where
    go : Dec (refusal (feed_checks s p) ≡ 0) → refusal (feed_checks s p) ≡ 0
    go (yes z) = z
    go (no z) = absurd (ne (refusal (feed_checks s p)) (e ∙ sym (ap (λ (f : Fed). f.answer) (feed_refused s p refl z))))

said_used : (c : CollectSubframe) (h m : List ℕ) (p : Page) → refusal (feed_checks (state c h m) p) ≡ 0 → IsUsed c p.satellite p.week p.time (Ok true)
    → is_used (state c h m) p ≡ true
said_used c h m p z e = go (is_used (state c h m) p) (used_is_asked c h m p.bytes p.satellite p.week p.time (Ok true) z e)
  where
    go : (b : Bool) → gives [] ≡ cond b (gives []) nothing → b ≡ true
    go true f = refl
    go false f = let y : ◌≡◌ {A = ℕ} 0 1 = cc in absurd (omega arith)

code_doubled :
    {c d e : CollectSubframe} {h m x y x' y' : List ℕ} {between : List Page} {a b : Answer} {l : List Answer} (p q : Page) → length c.counts ≡ 36
    → IsUsed c p.satellite p.week p.time (Ok true) → ((n : ℕ) → a ≡ refused n → ⊥) → Calls c h m (p ∷ between) (a ∷ l) d x y
    → one_subframe p.week (subframe_of p.time) between ≡ true → Copy p q → Calls d x y (q ∷ []) (b ∷ []) e x' y'
    → (b ≡ nothing) × HoldSame e d x' x y' y
code_doubled {c} {d} {h = h} {m = m} {x = x} {y = y} {between = between} {a = a} p q c36 asked ne k o copy k' =
    let s = state c h m in
    let w = calls_feed k in
    let w' = calls_feed k' in
    let z = not_refused s p a (ap (λ (l : List Answer). get_or l 0 nothing) w.answers_are) ne in
    let is : feed (state d x y) q ≡ record { state = state d x y; answer = nothing } =
    subst⁻¹ (λ (t : State). feed t q ≡ record { state = t; answer = nothing }) w.state_is
    (doubled s c36 p q between z (said_used c h m p z asked) o copy) in
    (ap (λ (l : List Answer). get_or l 0 nothing) w'.answers_are ∙ ap (λ (f : Fed). f.answer) is, hold_same (w'.state_is ∙ ap (λ (f : Fed). f.state) is))

-- Two merges.
two_ways : (s : State) {ps qs : List Page} → TwoWays ps qs → EndSame s ps qs
two_ways s {ps} {qs} (by_subframe r) = recording_merges s ps qs r
two_ways s {ps} {qs} (by_time sent card other a b m k e f) = time_merges s sent card other ps qs a b m k e f

ended :
    {c d e : CollectSubframe} {h m x y x' y' : List ℕ} {ps qs : List Page} {l k : List Answer} → EndSame (state c h m) ps qs
    → Fed-by (state c h m) (state d x y) ps l → Fed-by (state c h m) (state e x' y') qs k
    → HoldSame d e x x' y y' × AnsweredSame ps l qs k
ended {ps = ps} {qs = qs} same v w = (
  hold_same (v.state_is ∙ same.state_is ∙ sym w.state_is),
  (same.pages_are, λ n. ap (answers_of n ps) v.answers_are ∙ same.answers_are n ∙ sym (ap (answers_of n qs) w.answers_are)),
)

-- a trace that was walked to its end
walked_through :
    {c d : CollectSubframe} {h m x y : List ℕ} {ps : List Page} {l : List Answer} (trace : List ℕ) → length trace % 12 ≡ 0 → History c h m ps
    → Walk trace c h m (length (entries trace)) l d x y → Fed-by (state c h m) (state d x y) (entries trace) l
walked_through {c} {d} {h} {m} {x} {y} {ps} {l} trace whole k w =
    let v = trace_walked trace whole c h m ps k (length (entries trace)) l d x y w in
    let all = take-length (entries trace) in
    record { state_is = v.state_is ∙ ap (after (state c h m)) all; answers_are = v.done_is ∙ ap (answers (state c h m)) all }

-- A history and calls after it.
goes_on :
    {c : CollectSubframe} {h m : List ℕ} {ps : List Page} {d : CollectSubframe} {x y : List ℕ} {qs : List Page} {l : List Answer} → History c h m ps → Calls c h m qs l d x y → History d x y (ps ++ qs)
goes_on {c} {h = h} {m = m} {ps = ps} j begins = subst⁻¹ (λ (l : List Page). History c h m l) (append-nil ps) j
goes_on {ps = ps} j (called {d' = d'} {x' = x'} {y' = y'} {ps = rs} {qs = qs} k k') =
    subst (λ (l : List Page). History d' x' y' l) (append_assoc ps rs qs) (and_called (goes_on j k) k')
goes_on j (misfit x y k w k') = and_misfit x y (goes_on j k) w k'
goes_on j (looked k k') = and_looked (goes_on j k) k'

any_more :
    {c : CollectSubframe} {h m : List ℕ} {d : CollectSubframe} {x y : List ℕ} {qs : List Page} {l : List Answer} → Calls c h m qs l d x y → (ps : List Page)
    → (l' : List Answer) × (d' : CollectSubframe) × (x' : List ℕ) × (y' : List ℕ) × Calls c h m (qs ++ ps) l' d' x' y'
any_more {c} {h} {m} {d} {x} {y} {qs} {l} k [] = (l, d, x, y, subst⁻¹ (λ (z : List Page). Calls c h m z l d x y) (append-nil qs) k)
any_more {c} {h} {m} {d} {x} {y} {qs} {l} k (p ∷ ps) =
    let f = feed (state d x y) p in
    let w = any_more {d = back_state f.state} {x = f.state.hkroot} {y = f.state.mack} {qs = qs ++ (p ∷ [])} (called k (any_call d x y p)) ps in
    (w.0, w.1, w.2, w.3, subst (λ (z : List Page). Calls c h m z w.0 w.1 w.2 w.3) (append_assoc qs (p ∷ []) ps) w.4)

pub code_order : CodeOrder
code_order =
    record {
      either_order = code_either;
      doubled = code_doubled;
      merges = λ {c} {hkroot = h} {mack = m} r k k'. ended (two_ways (state c h m) r) (calls_feed k) (calls_feed k');
      traces = λ {c} {hkroot = h} {mack = m} trace other whole whole' r j w w'.
          ended (two_ways (state c h m) r) (walked_through trace whole j w) (walked_through other whole' j w');
      goes_on = λ j k. goes_on j k;
      any_calls = λ c hkroot mack ps. any_more {c = c} {h = hkroot} {m = mack} begins ps;
    }
