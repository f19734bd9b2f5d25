-- A whole trace: `feed_all`, called again and again with what is left, tells of every entry.
-- Assumes nothing.
use Prim.Native.Nat.{ℕ, zero, suc, ◌+◌, ◌-◌, ◌*◌, ◌/◌, ◌%◌, ◌≤◌, ◌<◌}
use native.Mathlib.Omega.{arith}
use mathlib.Core.Path.{◌≡◌, refl, sym, ap, ◌∙◌, subst}
use mathlib.Core.List.{List, [], ◌∷◌, ◌++◌, append-nil, append_assoc}
use mathlib.Core.Bool.{false}
use lib.ListN.{length, get_or, take, drop, replicate, length-drop}
use lib.Seq.{get_or-drop, drop-drop, take-add}
use Rattle.layouts.specs.Answer.{Answer, refused, nothing, gives, refusal}
use Rattle.subframes.specs.Subframe.{State, Page, small, changed, answer_at, used, offered, feed}
use Rattle.subframes.specs.Trace.{entry_at, entries_from, entries, FedMany, trace_checks, feed_each, feed_all}
use Rattle.subframes.specs.SubframePromises.{state, meaning_subframe}
use Rattle.subframes.specs.TracePromises.{FeedAll}
use Rattle.runs.specs.Runs.{run_from}
use Rattle.subframes.specs.SubframeRecovery.{is_admitted, same_subframe, grown, run, after, no_page}
use Rattle.subframes.specs.SubframeHistory.{many, History, called}
use Rattle.subframes.specs.TraceWalk.{answers, told, tells, Walk, begins, goes_on, Walks, TraceWalked, seven_at, WalkExample}
use Rattle.subframes.specs.declared.subframe.CollectSubframe.{CollectSubframe}
use Rattle.std.specs.Prelude.{Result, Ok, Err, Option, Some, None}
use Rattle.layouts.specs.declared.refusal.Refusal.{Refusal}
use Rattle.layouts.specs.declared.refusal.Refusal.TheVariants.{Satellite}
use Rattle.subframes.specs.declared.subframe.Pair.{Pair}
use Rattle.subframes.specs.declared.subframe.Pair.TheVariants.{Complete, Silent}
use Rattle.subframes.specs.declared.trace.TraceFed.{TraceFed}
use Rattle.subframes.proofs.TraceSteps.{after_more, answers_more, Walked, Tells, walked_all}
use Rattle.subframes.proofs.SubframeHistory.{whole_passed, feed_all_recovers}

-- The entries that are left.
entry_later : (trace : List ℕ) (k j : ℕ) → entry_at (drop (12 * k) trace) j ≡ entry_at trace (k + j)
unfolding entry_at
entry_later trace k j = rw (bytes, first, at 1, at 2, at 3, at 4, at 5, at 6)
  where
    bytes : drop (12 * j + 7) (drop (12 * k) trace) ≡ drop (12 * (k + j) + 7) trace
    bytes = let e : 12 * k + (12 * j + 7) ≡ 12 * (k + j) + 7 = omega arith in drop-drop (12 * j + 7) (12 * k) trace ∙ ap (λ (n : ℕ). drop n trace) e

    first : get_or (drop (12 * k) trace) (12 * j) 0 ≡ get_or trace (12 * (k + j)) 0
    first = let e : 12 * k + 12 * j ≡ 12 * (k + j) = omega arith in get_or-drop (12 * k) trace (12 * j) 0 ∙ ap (λ (n : ℕ). get_or trace n 0) e

    at : (i : ℕ) → get_or (drop (12 * k) trace) (12 * j + i) 0 ≡ get_or trace (12 * (k + j) + i) 0
    at i = let e : 12 * k + (12 * j + i) ≡ 12 * (k + j) + i = omega arith in get_or-drop (12 * k) trace (12 * j + i) 0 ∙ ap (λ (n : ℕ). get_or trace n 0) e

entries_later : (trace : List ℕ) (k j n : ℕ) → entries_from (drop (12 * k) trace) j n ≡ entries_from trace (k + j) n
unfolding entries_from
entries_later trace k j zero = refl
entries_later trace k j (suc n) =
    let on : k + (j + 1) ≡ k + j + 1 = omega arith in
    ap (λ (p : Page). p ∷ entries_from (drop (12 * k) trace) (j + 1) n) (entry_later trace k j)
    ∙ ap (λ (l : List Page). entry_at trace (k + j) ∷ l) (entries_later trace k (j + 1) n ∙ ap (λ (i : ℕ). entries_from trace i n) on)

drop_entries : (trace : List ℕ) (k j n : ℕ) → k ≤ n → drop k (entries_from trace j n) ≡ entries_from trace (j + k) (n - k)
unfolding entries_from
drop_entries trace zero j n h = let a : j + 0 ≡ j = omega arith in let b : n - 0 ≡ n = omega arith in rw (a, b)
drop_entries trace (suc k) j zero h = absurd (omega (arith, h))
drop_entries trace (suc k) j (suc n) h =
    let a : j + 1 + k ≡ j + suc k = omega arith in
    let b : n - k ≡ suc n - suc k = omega arith in
    drop_entries trace k (j + 1) n (omega (arith, h)) ∙ ap (λ (i : ℕ). entries_from trace i (n - k)) a ∙ ap (λ (i : ℕ). entries_from trace (j + suc k) i) b

length_entries : (trace : List ℕ) (j n : ℕ) → length (entries_from trace j n) ≡ n
unfolding entries_from
length_entries trace j zero = refl
length_entries trace j (suc n) = ap suc (length_entries trace (j + 1) n)

rest_is : (trace : List ℕ) (k : ℕ) → k ≤ length (entries trace) → entries (drop (12 * k) trace) ≡ drop k (entries trace)
rest_is trace k h =
    let few : k ≤ length trace / 12 = omega (arith, h, length_entries trace 0 (length trace / 12)) in
    let n : length (drop (12 * k) trace) / 12 ≡ length trace / 12 - k = rw (length-drop (12 * k) trace) (omega (arith, few)) in
    let z : k + 0 ≡ 0 + k = omega arith in
    entries_later trace k 0 (length (drop (12 * k) trace) / 12) ∙ ap (λ (i : ℕ). entries_from trace (k + 0) i) n
    ∙ ap (λ (i : ℕ). entries_from trace i (length trace / 12 - k)) z
    ∙ sym (drop_entries trace k 0 (length trace / 12) few)

-- A page that is not admitted belongs to no run.
run_append : (r a b : List Page) → run_from is_admitted same_subframe r (a ++ b) ≡ run_from is_admitted same_subframe (run_from is_admitted same_subframe r a) b
run_append r [] b = refl
run_append r (p ∷ a) b = run_append (grown r p) a b

run_over : (ps : List Page) (p : Page) → is_admitted p ≡ false → run (ps ++ (p ∷ [])) ≡ run ps
run_over ps p e = run_append [] ps (p ∷ []) ∙ rw e

run_alike : (ps qs us : List Page) → run ps ≡ run qs → run (ps ++ us) ≡ run (qs ++ us)
run_alike ps qs us e = run_append [] ps us ∙ ap (λ (r : List Page). run_from is_admitted same_subframe r us) e ∙ sym (run_append [] qs us)

take_1 : (ps : List Page) → 0 < length ps → take 1 ps ≡ get_or ps 0 no_page ∷ []
take_1 [] h = absurd (omega arith)
take_1 (p ∷ ps) h = refl

not_complete : (a : Result (Option Pair) Refusal) (q : ℕ) → meaning_subframe a ≡ refused q → (week time : ℕ) → a ≡ Ok (Some (Complete week time)) → ⊥
not_complete a q e week time f =
    let g : gives (week ∷ time ∷ []) ≡ refused q = rw f at e in
    let z : ◌≡◌ {A = ℕ} 0 1 = cc in
    absurd (omega arith)

not_silent : (a : Result (Option Pair) Refusal) (q : ℕ) → meaning_subframe a ≡ refused q → (week time : ℕ) → a ≡ Ok (Some (Silent week time)) → ⊥
not_silent a q e week time f =
    let g : gives (week ∷ time ∷ 1 ∷ []) ≡ refused q = rw f at e in
    let z : ◌≡◌ {A = ℕ} 0 1 = cc in
    absurd (omega arith)

-- One call with whole entries.
module _ {d : CollectSubframe} {x y : List ℕ} {qs : List Page} (j : History d x y qs) (rest : List ℕ) (whole : length rest % 12 ≡ 0)
    (r : TraceFed) (x' y' : List ℕ) (e : FeedAll d x y rest r x' y') where
  abbrev t : State
  t = state d x y

  w : Walked (refusal (trace_checks t rest) ≡ 0) 0 t (entries rest) (feed_all t rest)
  w = walked_all t rest

  same : w.more ≡ r.consumed
  same = omega (arith, w.consumed_is, ap (λ (f : FedMany). f.consumed) e)

  said : (feed_all t rest).answer ≡ meaning_subframe r.answer
  said = sym (ap (λ (f : FedMany). f.answer) e)

  told_is : told w.more (feed_all t rest).answer ≡ tells r
  told_is = ap (λ (n : ℕ). told n (feed_all t rest).answer) same ∙ ap (told r.consumed) said

  fine : refusal (trace_checks t rest) ≡ 0
  fine = whole_passed j rest whole

  pub call_tells : Tells t (entries rest) (state r.collector x' y') (tells r)
  call_tells =
      subst (λ (l : List Answer). Tells t (entries rest) (state r.collector x' y') l) told_is
      (subst (λ (u : State). Tells t (entries rest) u (told w.more (feed_all t rest).answer)) (sym (ap (λ (f : FedMany). f.state) e)) (w.tells fine))

  pub call_onward : 0 < length (entries rest) → 0 < length (tells r)
  call_onward h = subst (λ (l : List Answer). 0 < length l) told_is (w.onward fine refl h)

  -- the entries that it told of are in the run as those that it consumed are
  pub call_run : run (qs ++ take r.consumed (entries rest)) ≡ run (qs ++ take (length (tells r)) (entries rest))
  call_run = go (meaning_subframe r.answer) refl
    where
      as_many : ((q : ℕ) → meaning_subframe r.answer ≡ refused q → ⊥) → length (tells r) ≡ r.consumed
      as_many ne = ap length (sym told_is) ∙ w.length_told (λ q f. ne q (sym said ∙ f)) ∙ same

      alike : ((q : ℕ) → meaning_subframe r.answer ≡ refused q → ⊥)
          → run (qs ++ take r.consumed (entries rest)) ≡ run (qs ++ take (length (tells r)) (entries rest))
      alike ne = ap (λ (n : ℕ). run (qs ++ take n (entries rest))) (sym (as_many ne))

      go : (a : Answer) → meaning_subframe r.answer ≡ a → run (qs ++ take r.consumed (entries rest)) ≡ run (qs ++ take (length (tells r)) (entries rest))
      go nothing f = alike (λ q g. let h : nothing ≡ refused q = sym f ∙ g in let z : ◌≡◌ {A = ℕ} 0 1 = cc in absurd (omega arith))
      go (gives l) f = alike (λ q g. let h : gives l ≡ refused q = sym f ∙ g in let z : ◌≡◌ {A = ℕ} 0 1 = cc in absurd (omega arith))
      go (refused q) f =
          let none : r.consumed ≡ 0 = sym same ∙ w.refused_none q (said ∙ f) in
          let one : length (tells r) ≡ 1 = ap (λ (a : Answer). length (told r.consumed a)) f in
          let some : 0 < length (entries rest) = omega (arith, one, call_tells.room) in
          let first =
          (feed_all_recovers j rest r x' y' e).stops whole (omega (arith, none, some)) (not_complete r.answer q f) (not_silent r.answer q f) in
          let off : is_admitted (get_or (entries rest) 0 no_page) ≡ false = ap (λ (n : ℕ). is_admitted (get_or (entries rest) n no_page)) (sym none) ∙ first in
          ap (λ (n : ℕ). run (qs ++ take n (entries rest))) none
          ∙ ap run (append-nil qs)
          ∙ sym (run_over qs (get_or (entries rest) 0 no_page) off)
          ∙ ap (λ (l : List Page). run (qs ++ l)) (sym (take_1 (entries rest) some))
          ∙ ap (λ (n : ℕ). run (qs ++ take n (entries rest))) (sym one)

-- All of them.
module _ (trace : List ℕ) (whole : length trace % 12 ≡ 0) (c : CollectSubframe) (h m : List ℕ) (ps : List Page) (j : History c h m ps) where
  abbrev s : State
  s = state c h m

  abbrev es : List Page
  es = entries trace

  abbrev left : ℕ → List ℕ
  left k = drop (12 * k) trace

  left_whole : (k : ℕ) → k ≤ length es → length (left k) % 12 ≡ 0
  left_whole k inside =
      let few : k ≤ length trace / 12 = omega (arith, inside, length_entries trace 0 (length trace / 12)) in
      rw (length-drop (12 * k) trace) (omega (arith, few, whole))

  left_many : (k : ℕ) → k ≤ length es → length (entries (left k)) ≡ length es - k
  left_many k inside = ap length (rest_is trace k inside) ∙ length-drop k es

  walks : {k : ℕ} {done : List Answer} {d : CollectSubframe} {x y : List ℕ} → Walk trace c h m k done d x y → Walks trace c h m ps k done d x y
  walks begins =
      record {
        inside = omega arith;
        state_is = refl;
        done_is = refl;
        history = (ps, j, ap run (sym (append-nil ps)));
        onward = λ less r x' y' e. call_onward j (left 0) (left_whole 0 (omega arith)) r x' y' e (omega (arith, less, left_many 0 (omega arith)));
      }
  walks (goes_on {k} {done} {d} {x} {y} before r x' y' e) =
      let v = walks before in
      let qs = v.history.0 in
      let n = length (tells r) in
      let fed = call_tells v.history.1 (left k) (left_whole k v.inside) r x' y' e in
      let rest : entries (left k) ≡ drop k es = rest_is trace k v.inside in
      let all : take k es ++ take n (entries (left k)) ≡ take (k + n) es = ap (λ (l : List Page). take k es ++ take n l) rest ∙ sym (take-add k n es) in
      let inside : k + n ≤ length es = omega (arith, v.inside, fed.room, left_many k v.inside) in
      let at : History r.collector x' y' (qs ++ take r.consumed (entries (left k))) = called v.history.1 (many (left k) r x' y' e) in
      record {
        inside = inside;
        state_is = fed.state_is
            ∙ ap (λ (u : State). after u (take n (entries (left k)))) v.state_is
            ∙ sym (after_more s (take k es) (take n (entries (left k))))
            ∙ ap (after s) all;
        done_is = ap (λ (l : List Answer). l ++ tells r) v.done_is
            ∙ ap (λ (l : List Answer). answers s (take k es) ++ l) fed.answers_are
            ∙ ap (λ (u : State). answers s (take k es) ++ answers u (take n (entries (left k)))) v.state_is
            ∙ sym (answers_more s (take k es) (take n (entries (left k))))
            ∙ ap (answers s) all;
        history = (
          qs ++ take r.consumed (entries (left k)),
          at,
          call_run v.history.1 (left k) (left_whole k v.inside) r x' y' e
              ∙ run_alike qs (ps ++ take k es) (take n (entries (left k))) v.history.2
              ∙ ap run (append_assoc ps (take k es) (take n (entries (left k))) ∙ ap (λ (l : List Page). ps ++ l) all),
        );
        onward = λ less r' x'' y'' f. call_onward at (left (k + n)) (left_whole (k + n) inside) r' x'' y'' f (omega (arith, less, left_many (k + n) inside));
      }

pub trace_walked : TraceWalked
trace_walked trace whole c h m ps j k done d x y w = walks trace whole c h m ps j w

-- The example: each of the three calls computes.
pub walk_example : WalkExample
unfolding feed_all feed_each feed offered used changed answer_at refusal small entries_from entry_at
walk_example =
    goes_on
    (goes_on (goes_on begins (record { collector = seven_at 1; answer = Ok None; consumed = 1 }) (replicate 540 0) (replicate 2160 0) refl)
    (record { collector = seven_at 1; answer = Err Satellite; consumed = 0 }) (replicate 540 0) (replicate 2160 0) refl)
    (record { collector = seven_at 2; answer = Ok None; consumed = 1 }) (replicate 540 0) (replicate 2160 0) refl
