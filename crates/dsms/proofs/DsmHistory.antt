-- Whatever history of calls: the record and the memory that the code left are those of its blocks, so that what holds of the definition holds of the code.
-- Assumes nothing.
use Prim.Native.Nat.{ℕ, ◌*◌}
use native.Mathlib.Omega.{arith}
use mathlib.Core.Path.{◌≡◌, refl, sym, ap, ◌∙◌, subst, subst⁻¹}
use mathlib.Core.List.{List, [], ◌∷◌, ◌++◌, append-nil, append_assoc}
use mathlib.Core.Bool.{Bool, true, false, cond, not, ◌&&◌}
use lib.Dec.{ltb, eqb}
use borrow.Author.Tests.{eqb-false}
use lib.ListN.{length, replicate}
use Rattle.std.specs.Prelude.{◌⊎◌, Ok, Err, Some, None}
use Rattle.std.proofs.Common.{inl, inr}
use Rattle.layouts.specs.declared.refusal.Refusal.TheVariants.{SliceLength}
use Rattle.layouts.specs.Answer.{Answer, refused, nothing, gives, shown, refusal}
use Rattle.layouts.specs.Refusals.{refusal_number}
use Rattle.layouts.specs.Meaning.{meaning_type}
use Rattle.layouts.specs.DsmHeader.{dsm_type_of}
use Rattle.layouts.specs.Bits.{field, bit}
use Rattle.layouts.specs.Lists.{all}
use Rattle.layouts.specs.Sizes.{kroot_blocks}
use Rattle.dsms.specs.Dsm.{State, new, Fed, id_of, block_of, feed_checks, view_checks, begun as begun_at, stored, counted, count, whole, completed}
use Rattle.dsms.specs.Dsm.{finished, taken, feed, view}
use Rattle.dsms.specs.DsmPromises.{state, meaning_dsm, meaning_shown, FeedDsm, ViewDsm}
use Rattle.dsms.specs.DsmView.{where_shown, shown_id, shown_type, kept, none, named_by}
use Rattle.dsms.specs.DsmRecovery.{Call, is_admitted, fed_to, after, same_id, before, grown, run, fed, first_copy, first_copies, counts, is_whole, dsm_of}
use Rattle.dsms.specs.DsmRecovery.{Alike, Recovers, run_id, Viewed}
use Rattle.dsms.specs.DsmHistory.{Answered, seven, Feeding, by_value, in_place, Misfit, History, begun, called, viewed, misfit, gave, FeedRecovers, Shows, MisfitViews}
use Rattle.dsms.specs.DsmHistory.{CodeRecovers, AnyCalls, sent, first_four, with_short, SmallestCase}
use Rattle.dsms.specs.declared.dsm.CollectDsm.{CollectDsm}
use Rattle.dsms.specs.declared.dsm.DsmFed.{DsmFed}
use Rattle.dsms.specs.declared.dsm_view.Dsm.{Dsm}
use Rattle.runs.specs.Runs.{run_from}
use Rattle.dsms.proofs.Blocks.{other_lent, feed_refused, view_memory, not_shown, shown_size}
use Rattle.dsms.proofs.DsmRecovery.{dsm_recovers, dsm_shows}
use Rattle.layouts.proofs.Back.{refusal_at}
use Rattle.dsms.proofs.DsmUnique.{back_dsm, undo_dsm, back_shown, undo_shown, back_state}
use Rattle.dsms.proofs.DsmViewUnique.{back_kind}
use Rattle.dsms.proofs.Kept.{told_apart}

-- An answer is the code's, if it means that.
answer_back : (a b : Answered) → meaning_dsm a ≡ meaning_dsm b → a ≡ b
answer_back a b e = sym (undo_dsm a) ∙ ap back_dsm e ∙ undo_dsm b

-- Either function gives what the definition gives.
pub feeding_is : {c c' : CollectDsm} {x x' : List ℕ} {d : Call} {a : Answered} → Feeding c x d a c' x' → gave a c' x' ≡ fed_to (state c x) d
feeding_is (by_value d r x' e) = e
feeding_is (in_place d a c' x' e) = e

-- A call that gave a refusal and the same state.
record Unchanged (c : CollectDsm) (x : List ℕ) (a : Answered) (c' : CollectDsm) (x' : List ℕ) : Type 0 where
  answer : a ≡ Err SliceLength
  record_is : c' ≡ c
  memory_is : x' ≡ x

unchanged : {c c' : CollectDsm} {x x' : List ℕ} {a : Answered} → gave a c' x' ≡ record { state = state c x; answer = refused 1 } → Unchanged c x a c' x'
unchanged {a = a} q =
    record {
      answer = answer_back a (Err SliceLength) (ap (λ (f : Fed). f.answer) q);
      record_is = ap (λ (f : Fed). back_state f.state) q;
      memory_is = ap (λ (f : Fed). f.state.memory) q;
    }

-- Lent bytes of another length: refused with 1.
misfit_call : {c c' : CollectDsm} {x x' : List ℕ} {d : Call} {a : Answered} → Misfit x → Feeding c x d a c' x' → Unchanged c x a c' x'
misfit_call {c} {x = x} {d = d} w call =
    unchanged (feeding_is call
    ∙ sym (feed_refused (state c x) d.header d.block (other_lent c.id x d.block w) (λ z. absurd (omega (arith, z)))))

misfit_view : (c : CollectDsm) (x : List ℕ) → Misfit x → MisfitViews c x
misfit_view c x w =
    let v : refused 1 ≡ view (state c x) = view_memory (state c x) w in
    record {
      view = λ bytes e. e ∙ sym (not_shown x v);
      view_shown = λ y e. sym (undo_shown y) ∙ ap back_shown (e ∙ sym v);
      view_dsm = λ d e. e ∙ (told_apart (state c x)).refused_none 1 (sym v);
      view_answer = λ a e. answer_back a (Err SliceLength) (e ∙ ap (named_by (state c x)) (sym v));
    }

-- One call more.
pub after_more : (s : State) (cs : List Call) (d : Call) → after s (cs ++ (d ∷ [])) ≡ (fed_to (after s cs) d).state
after_more s [] d = refl
after_more s (c ∷ cs) d = after_more (fed_to s c).state cs d

run_more : (r cs : List Call) (d : Call) → run_from is_admitted same_id r (cs ++ (d ∷ [])) ≡ grown (run_from is_admitted same_id r cs) d
run_more r [] d = refl
run_more r (c ∷ cs) d = run_more (grown r c) cs d

-- After a history the state is that of its blocks.
record Reached (s : State) (cs : List Call) : Type 0 where
  memory : List ℕ
  long : length memory ≡ 208
  is : s ≡ after (new memory) cs

reached : {c : CollectDsm} {memory : List ℕ} {cs : List Call} → History c memory cs → Reached (state c memory) cs
reached (begun c memory e l) =
    record {
      memory = memory;
      long = l;
      is = ap (λ (s : State). record { id = s.id; came = s.came; held = s.held; done = s.done; memory = memory }) e;
    }
reached (called {cs = cs} {d = d} k call) =
    let w = reached k in
    record {
      memory = w.memory;
      long = w.long;
      is = ap (λ (f : Fed). f.state) (feeding_is call ∙ ap (λ (s : State). fed_to s d) w.is) ∙ sym (after_more (new w.memory) cs d);
    }
reached (viewed k x v) = reached k
reached (misfit {c = c} {x = x} {x' = x'} {cs = cs} memory k w call) =
    let q = misfit_call w call in
    subst⁻¹ (λ (k : CollectDsm). Reached (state k (memory x')) cs) q.record_is
    (subst⁻¹ (λ (z : List ℕ). Reached (state c (memory z)) cs) q.memory_is (reached k))

-- so that a call recovers, whatever gave what the definition gives
reached_recovers : {s : State} {cs : List Call} → Reached s cs → (d : Call) (f : Fed) → f ≡ fed_to s d → Recovers s (run cs) d f
reached_recovers {s} {cs} w d f e =
    subst⁻¹ (λ (g : Fed). Recovers s (run cs) d g) e
    (subst⁻¹ (λ (t : State). Recovers t (run cs) d (fed_to t d)) w.is (dsm_recovers w.memory w.long cs d))

feed_recovers : {c c' : CollectDsm} {memory memory' : List ℕ} {cs : List Call} {d : Call} {a : Answered}
    → History c memory cs → Feeding c memory d a c' memory' → FeedRecovers c memory cs d a c' memory'
feed_recovers {c} {c'} {memory} {memory'} {cs} {d} {a} k call =
    let f = gave a c' memory' in
    let w = reached_recovers (reached k) d (gave a c' memory') (feeding_is call) in
    record {
      recovers = w;
      like_new = λ {k} {k'} {x} {x'} {b} j call' e.
          let o = reached j in
          let g : gave b k' x' ≡ fed_to (after (new o.memory) (before (run cs) d)) d = feeding_is call' ∙ ap (λ (t : State). fed_to t d) o.is in
          let z : Alike f (gave b k' x') = subst⁻¹ (λ (i : Fed). Alike f i) g (w.like_new o.memory o.long e) in
          (answer_back a b z.answer, z);
      refused_one = λ e.
          let q = unchanged (w.refused_call e) in
          (q.answer, q.record_is, q.memory_is, run_more [] cs d ∙ rw e);
    }

-- What the views hand out.
module _ (c : CollectDsm) (memory : List ℕ) (r : List Call) (v : Viewed (state c memory) r) where
  unfold_kept : (b : Bool) → is_whole (run_id r) r ≡ b → kept (state c memory)
      ≡ cond b (record { id = run_id r; kind = gives (dsm_type_of (run_id r) ∷ []); bytes = dsm_of (run_id r) r }) none
  unfolding shown_id shown_type
  unfold_kept true e =
      let g : view (state c memory) ≡ gives (0 ∷ 13 * counts (run_id r) r ∷ []) = v.view_is ∙ rw e in
      let bytes : shown memory (view (state c memory)) ≡ dsm_of (run_id r) r = v.bytes ∙ rw e in
      ap (λ (x : List ℕ). record { id = shown_id (state c memory); kind = shown_type (state c memory); bytes = x }) bytes
      ∙ rw (g, v.id_is)
  unfold_kept false e = (told_apart (state c memory)).nothing_none (v.view_is ∙ rw e)

  named : (b : Bool) → is_whole (run_id r) r ≡ b → named_by (state c memory) (view (state c memory))
      ≡ cond b (gives (run_id r ∷ dsm_type_of (run_id r) ∷ 13 * counts (run_id r) r ∷ [])) nothing
  named true e =
      let g : view (state c memory) ≡ gives (0 ∷ 13 * counts (run_id r) r ∷ []) = v.view_is ∙ rw e in
      ap (named_by (state c memory)) g ∙ ap (λ (i : ℕ). gives (i ∷ dsm_type_of i ∷ 13 * count (state c memory) ∷ [])) v.id_is
      ∙ ap (λ (n : ℕ). gives (run_id r ∷ dsm_type_of (run_id r) ∷ n ∷ [])) (sym (shown_size (state c memory) (sym g)).size_is)
  named false e = let g : view (state c memory) ≡ nothing = v.view_is ∙ rw e in ap (named_by (state c memory)) g

  viewed_shows : Shows c memory r
  viewed_shows =
      record {
        view = λ bytes e. e ∙ v.bytes;
        view_shown = λ x e. e ∙ v.view_is;
        view_dsm = λ d e. e ∙ unfold_kept (is_whole (run_id r) r) refl;
        view_answer = λ a e. e ∙ named (is_whole (run_id r) r) refl;
      }

shows : {c : CollectDsm} {memory : List ℕ} {cs : List Call} → History c memory cs → Shows c memory (run cs)
shows {c} {memory} {cs} k =
    let w = reached k in
    viewed_shows c memory (run cs) (subst⁻¹ (λ (s : State). Viewed s (run cs)) w.is (dsm_shows w.memory w.long cs))

pub code_recovers : CodeRecovers
code_recovers = record {
  feed_recovers = feed_recovers;
  shows = shows;
  misfit_refused = λ w call. let q = misfit_call w call in (q.answer, q.record_is, q.memory_is);
  misfit_views = misfit_view;
}

-- Every answer of the definition is one of the code's.
abbrev Coded : Answer → Type 0
Coded a = meaning_dsm (back_dsm a) ≡ a

either_coded : (b : Bool) (f g : Fed) → Coded f.answer → Coded g.answer → Coded (cond b f g).answer
either_coded true f g x y = x
either_coded false f g x y = y

named_coded : (i n : ℕ) → Coded (gives (i ∷ dsm_type_of i ∷ n ∷ []))
named_coded i n = go (ltb i 12)
  where
    go : (b : Bool) → Coded (gives (i ∷ cond b 0 1 ∷ n ∷ []))
    go true = refl
    go false = refl

finished_coded : (t : State) → Coded (finished t).answer
unfolding finished
finished_coded t =
    either_coded (whole t) (record { state = completed t; answer = gives (t.id ∷ dsm_type_of t.id ∷ 13 * count t ∷ []) })
    (record { state = t; answer = nothing }) (named_coded t.id (13 * count t)) refl

taken_coded : (t : State) (n : ℕ) (block : List ℕ) → Coded (taken t n block).answer
unfolding taken
taken_coded t n block =
    either_coded t.done (record { state = t; answer = nothing }) (finished (stored t n block)) refl (finished_coded (stored t n block))

-- A number of the checks: none, or a refusal's.
abbrev Numbered : ℕ → Type 0
Numbered q = (q ≡ 0) ⊎ (refusal_number (refusal_at q) ≡ q)

view_numbered : (id : ℕ) (m : List ℕ) → Numbered (refusal (view_checks id m))
unfolding refusal
view_numbered id m = go (not (eqb (length m) 208)) (ltb 15 id)
  where
    go : (x y : Bool) → Numbered (cond x 1 (cond y 12 0))
    go true y = inr refl
    go false true = inr refl
    go false false = inl refl

feed_numbered : (id : ℕ) (m b : List ℕ) → Numbered (refusal (feed_checks id m b))
unfolding refusal
feed_numbered id m b = go (not (eqb (length m) 208)) (not (eqb (length b) 13)) (ltb 15 id)
  where
    go : (x y z : Bool) → Numbered (cond x 1 (cond y 1 (cond z 12 0)))
    go true y z = inr refl
    go false true z = inr refl
    go false false true = inr refl
    go false false false = inl refl

refusal_is : (q : ℕ) → Numbered q → eqb q 0 ≡ false → refused (refusal_number (refusal_at q)) ≡ refused q
refusal_is q (inl z) e = absurd (eqb-false q 0 e z)
refusal_is q (inr h) e = ap refused h

fed_coded : (t : State) (d : Call) → Coded (fed_to t d).answer
unfolding feed
fed_coded t d =
    let q = refusal (feed_checks t.id t.memory d.block) in
    let u = begun_at t (id_of d.header) in
    go (eqb q 0) q (taken u (block_of d.header) d.block) refl (feed_numbered t.id t.memory d.block) (taken_coded u (block_of d.header) d.block)
  where
    go : (b : Bool) (q : ℕ) (f : Fed) → eqb q 0 ≡ b → Numbered q → Coded f.answer → Coded (cond b f (record { state = t; answer = refused q })).answer
    go true q f e n c = c
    go false q f e n c = refusal_is q n e

-- So there is an answer to every call.
any_feed : (c : CollectDsm) (memory : List ℕ) (d : Call) → (r : DsmFed) × (memory' : List ℕ) × FeedDsm c memory d.header d.block r memory'
any_feed c memory d =
    let f = fed_to (state c memory) d in
    let r : DsmFed = record { collector = back_state f.state; answer = back_dsm f.answer } in
    (r, f.state.memory, ap (λ (a : Answer). record { state = f.state; answer = a }) (fed_coded (state c memory) d))

shown_coded : (s : State) → meaning_shown (back_shown (view s)) ≡ view s
unfolding view
shown_coded s =
    let q = refusal (view_checks s.id s.memory) in
    go q (eqb q 0) (s.done && not (eqb (count s) 0)) refl (view_numbered s.id s.memory)
  where
    go : (q : ℕ) (a b : Bool) → eqb q 0 ≡ a → Numbered q
        → meaning_shown (back_shown (cond a (cond b (gives (0 ∷ 13 * count s ∷ [])) nothing) (refused q)))
        ≡ cond a (cond b (gives (0 ∷ 13 * count s ∷ [])) nothing) (refused q)
    go q true true e n = refl
    go q true false e n = refl
    go q false b e n = refusal_is q n e

answer_coded : (s : State) (a : Answer) → meaning_shown (back_shown a) ≡ a → Coded (named_by s a)
answer_coded s (refused n) e = e
answer_coded s nothing e = refl
answer_coded s (gives ns) e = named_coded s.id (13 * count s)

-- the struct, with its slice at any address
struct : ℕ → Answer → List ℕ → Dsm
struct i kind bytes = record { id = i; dsm_type = back_kind kind; «data» = record { ref_ptr = (0, 0); now = bytes } }

kind_coded : (s : State) → meaning_type (back_kind (shown_type s)) ≡ shown_type s
unfolding shown_type
kind_coded s = go (view s) (ltb s.id 12)
  where
    go : (a : Answer) (b : Bool)
        → meaning_type (back_kind (gives (where_shown a (cond b 0 1) ∷ []))) ≡ gives (where_shown a (cond b 0 1) ∷ [])
    go (refused n) b = refl
    go nothing b = refl
    go (gives ns) true = refl
    go (gives ns) false = refl

any_more : (cs : List Call) {c : CollectDsm} {memory : List ℕ} {ds : List Call} → History c memory ds
    → (k : CollectDsm) × (x : List ℕ) × History k x (ds ++ cs)
any_more [] {c} {memory} {ds} h = (c, memory, subst⁻¹ (λ (l : List Call). History c memory l) (append-nil ds) h)
any_more (d ∷ cs) {c} {memory} {ds} h =
    let f = any_feed c memory d in
    let w = any_more cs (called h (by_value d f.0 f.1 f.2)) in
    (w.0, w.1, subst (λ (l : List Call). History w.0 w.1 l) (append_assoc ds (d ∷ []) cs) w.2)

pub any_calls : AnyCalls
unfolding struct
any_calls = record {
  feed = any_feed;
  feed_in_place = λ c memory d. let f = any_feed c memory d in (f.0.answer, f.0.collector, f.1, f.2);
  view = λ c memory. (shown memory (view (state c memory)), refl);
  view_shown = λ c memory. (back_shown (view (state c memory)), shown_coded (state c memory));
  view_dsm = λ c memory.
      let s = state c memory in (
        struct (shown_id s) (shown_type s) (shown memory (view s)),
        ap (λ (k : Answer). record { id = shown_id s; kind = k; bytes = shown memory (view s) }) (kind_coded s),
      );
  view_answer = λ c memory. let s = state c memory in (back_dsm (named_by s (view s)), answer_coded s (view s) (shown_coded s));
  blocks = λ memory l cs. any_more cs (begun (record { id = 0; came = false; held = replicate 16 false; done = false }) memory refl l);
}

-- The smallest case, computed.
abbrev five : List Call
five = first_four ++ (sent 4 ∷ [])

abbrev six : List Call
six = five ++ (sent 5 ∷ [])

module _ {c c' : CollectDsm} {memory memory' : List ℕ} {a : Answered} where
  after_four : History c memory first_four → Feeding c memory (sent 4) a c' memory' → a ≡ Ok None
  unfolding fed first_copy counted all kroot_blocks field bit
  after_four h call = answer_back a (Ok None) ((feed_recovers h call).recovers.exactly_when refl)

  after_five : History c memory five → Feeding c memory (sent 5) a c' memory' → a ≡ Ok None
  unfolding fed first_copy counted all kroot_blocks field bit
  after_five h call = answer_back a (Ok None) ((feed_recovers h call).recovers.exactly_when refl)

  after_six : History c memory six → Feeding c memory (sent 6) a c' memory' → a ≡ Ok (Some seven)
  unfolding fed first_copy counted all kroot_blocks field bit
  after_six h call = answer_back a (Ok (Some seven)) ((feed_recovers h call).recovers.exactly_when refl)

  fourth_missing : History c memory with_short → Feeding c memory (sent 6) a c' memory' → a ≡ Ok None
  unfolding fed first_copy counted all kroot_blocks field bit
  fourth_missing h call = answer_back a (Ok None) ((feed_recovers h call).recovers.exactly_when refl)

  fourth_after : History c memory (with_short ++ (sent 6 ∷ [])) → Feeding c memory (sent 3) a c' memory' → a ≡ Ok (Some seven)
  unfolding fed first_copy counted all kroot_blocks field bit
  fourth_after h call = answer_back a (Ok (Some seven)) ((feed_recovers h call).recovers.exactly_when refl)

seven_shown : {c : CollectDsm} {memory : List ℕ} → History c memory (six ++ (sent 6 ∷ [])) → (bytes : List ℕ) → ViewDsm c memory bytes
    → bytes ≡ (sent 0).block ++ (sent 1).block ++ (sent 2).block ++ (sent 3).block ++ (sent 4).block ++ (sent 5).block ++ (sent 6).block
unfolding fed first_copy first_copies counted all kroot_blocks field bit
seven_shown h bytes e = (shows h).view bytes e

pub smallest_case : SmallestCase
smallest_case = record {
  comes_out_lem = λ {x = x} memory h l call call₄ call₅ call₆.
      let w : Misfit x = λ z. absurd (omega (arith, l, z)) in
      let h₄ = misfit memory h w call in
      let h₅ = called h₄ call₄ in
      let h₆ = called h₅ call₅ in (
        (misfit_call w call).answer,
        after_four h₄ call₄,
        after_five h₅ call₅,
        after_six h₆ call₆,
        seven_shown (called h₆ call₆),
      );
  stays_out = λ h call call'. (fourth_missing h call, fourth_after (called h call) call');
}
