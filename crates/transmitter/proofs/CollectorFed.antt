-- The collector fed from what a writer left, whatever came before.
-- Assumes nothing.
use mathlib.Core.Path.{◌≡◌, refl, sym, ap, ◌∙◌, subst, subst⁻¹}
use mathlib.Core.List.{List, [], ◌∷◌, ◌++◌, map-append, append_assoc, append-nil}
use mathlib.Core.Bool.{Bool, true, false, cond, not, ◌&&◌}
use Prim.Native.Nat.{ℕ, ◌+◌, ◌*◌, ◌≤◌, ◌<◌}
use native.Mathlib.Omega.{arith}
use lib.Dec.{eqb, ltb}
use lib.ListN.{length, take, drop, get_or, length-drop, length-append}
use borrow.Author.Tests.{ltb-true, ltb-false, eqb-true, eqb-false, lt-ltb, le-ltb, not-false}
use Rattle.layouts.specs.Answer.{Answer, nothing, gives, Check, refusal, shown, Copied}
use Rattle.layouts.specs.Bits.{the, value}
use Rattle.layouts.specs.Packed.{packed_on}
use Rattle.layouts.specs.Sizes.{size, kroot_blocks, pkr_blocks}
use Rattle.layouts.specs.DsmHeader.{dsm_type_of}
use Rattle.layouts.specs.DsmKroot.{kroot_layout}
use Rattle.layouts.specs.DsmPkr.{pkr_layout}
use Rattle.layouts.proofs.Answers.{Passed, none_fails, converse}
use Rattle.layouts.proofs.Packed.{field_front}
use Rattle.dsms.specs.Dsm as dsm
use Rattle.dsms.specs.Dsm.{State, new, id_of, block_of, fresh, begun, taken, counted, view}
use Rattle.dsms.specs.DsmPromises.{state}
use Rattle.dsms.specs.DsmRecovery.{Call, is_admitted, fed_to, after, before, grown, counts, is_whole, dsm_of, in_view, bytes_in_view, first_copies}
use Rattle.dsms.specs.DsmRecovery.{run_id, comes_out, Recovers, Viewed}
use Rattle.dsms.specs.DsmHistory.{by_value}
use Rattle.dsms.specs.declared.dsm.CollectDsm.{CollectDsm}
use Rattle.dsms.proofs.Blocks.{counted_few, lent, whole_block, other_block, feed_taken, feed_refused}
use Rattle.dsms.proofs.DsmSound.{Sound, sound_fed}
use Rattle.dsms.proofs.DsmRecovery.{dsm_recovers, dsm_shows}
use Rattle.dsms.proofs.DsmHistory.{feeding_is, after_more, code_recovers, any_calls}
use Rattle.transmitter.specs.Write.{Written, written, KrootValues, PkrValues, blocks, header, cut, cut_checks, kroot_message, kroot_checks, write_kroot}
use Rattle.transmitter.specs.Write.{pkr_message, pkr_checks, write_pkr}
use Rattle.transmitter.specs.WritePromises.{kroot_of, pkr_of, CutBlock}
use Rattle.transmitter.specs.Sending.{IsCut, Fed, idle, called, refused_one, misfit, viewed, among, all_of, ComesOut, Counted, AnyOrder, CollectorFed}
use Rattle.transmitter.specs.inner.Parts.{over}
use Rattle.std.specs.Prelude.{Result, Ok, Err}
use Rattle.layouts.specs.declared.refusal.Refusal.{Refusal}
use Rattle.layouts.specs.declared.refusal.Refusal.TheVariants.{Argument}
use Rattle.transmitter.specs.declared.blocks.BlockCut.{BlockCut}
use Rattle.transmitter.proofs.Cutting.{cut_beyond, cut_number, cut_within, cut_given, cut_refused}
use Rattle.transmitter.proofs.Putting.{kroot_blocks_few}
use Rattle.transmitter.proofs.PkrRefusals.{pkr_blocks_few}
use Rattle.transmitter.proofs.Writes.{third_of, written_is, none_refused}
use Rattle.transmitter.proofs.KrootBack.{KrootFacts, kroot_facts}
use Rattle.transmitter.proofs.PkrBack.{PkrFacts, pkr_facts}
use Rattle.transmitter.proofs.WriteUnique.{same_cut}
use Rattle.transmitter.proofs.SentCalls as sent_calls
use Rattle.transmitter.proofs.SentCalls.{counted_more}

-- From any record in which no run of this ID goes on, a block of this ID does what it does from a new one.
anew : (s : State) (i : ℕ) → (s.came && eqb s.id i) ≡ false → begun s i ≡ begun (new s.memory) i
unfolding begun
anew s i e = ap (λ (x : Bool). cond x s (fresh s i)) e

start : (s : State) (d : Call) (i : ℕ) → Sound s → (s.came && eqb s.id i) ≡ false → id_of d.header ≡ i → length d.block ≡ 13
    → fed_to s d ≡ fed_to (new s.memory) d
start s d i h e same b =
    let at : (t : State) → length t.memory ≡ 208 → t.id ≤ 15 → fed_to t d ≡ taken (begun t (id_of d.header)) (block_of d.header) d.block =
    λ t m k. sym (feed_taken t d.header d.block (whole_block t.id t.memory d.block b (lent t.id t.memory m k)) refl refl refl refl) in
    at s h.d208 h.id_low
    ∙ ap (λ (t : State). taken t (block_of d.header) d.block) (ap (begun s) same ∙ anew s i e ∙ sym (ap (begun (new s.memory)) same))
    ∙ sym (at (new s.memory) h.d208 (omega arith))

-- a block of another length: nothing changes
refused_call : (s : State) (d : Call) → length s.memory ≡ 208 → is_admitted d ≡ false → (fed_to s d).state ≡ s
refused_call s d l e =
    sym (ap (λ (f : dsm.Fed). f.state)
    (feed_refused s d.header d.block (other_block s.id s.memory d.block (eqb-false (length d.block) 13 e))
    (λ z. absurd (omega (arith, z)))))

module _ (sent : List ℕ) (id : ℕ) (long : length sent ≡ 208) (few : id ≤ 15) where
  abbrev c# : ℕ
  c# = blocks sent id

  abbrev call : ℕ → Call
  call = sent_calls.call sent id long few

  abbrev calls : List ℕ → List Call
  calls = sent_calls.calls sent id long few

  -- what can be cut: the counted blocks, and no other
  module _ (k : ℕ) (h : k < c#) where
    is_cut : ◌≡◌ {A = Copied} (record { answer = gives ((id * 16 + k) ∷ []); bytes = take 13 (drop (13 * k) sent) }) (cut sent id k)
    unfolding packed_on
    is_cut =
        let low : k ≤ 15 = omega (arith, counted_few (dsm_type_of id) sent) in
        cut_given sent id k (cut_within sent id k long few low refl (λ z. omega arith) h) (omega arith) refl

  within : (k : ℕ) (r : Result BlockCut Refusal) → k < c# → CutBlock sent id k r
      → r ≡ Ok (record { header = 16 * id + k; bytes = take 13 (drop (13 * k) sent) })
  within k r h p =
      let turn : id * 16 + k ≡ 16 * id + k = omega arith in
      same_cut r (Ok (record { header = 16 * id + k; bytes = take 13 (drop (13 * k) sent) }))
      (p ∙ sym (is_cut k h) ∙ ap (λ (n : ℕ). record { answer = gives (n ∷ []); bytes = take 13 (drop (13 * k) sent) }) turn)

  beyond : (k : ℕ) (r : Result BlockCut Refusal) → c# ≤ k → 0 < c# → CutBlock sent id k r → r ≡ Err Argument
  beyond k r h some p =
      same_cut r (Err Argument) (p ∙ sym (cut_refused sent id k (seven (ltb 15 k) refl) (λ z. absurd (omega (arith, z)))))
    where
      seven : (x : Bool) → ltb 15 k ≡ x → 7 ≡ refusal (cut_checks sent id k)
      seven true q = cut_number sent id k long few (ltb-true 15 k q)
      seven false q = cut_beyond sent id k long few (ltb-false 15 k q) refl (λ z. omega arith) h

  -- a block that was cut is a counted one, and is fed as its call
  module _ (k : ℕ) (d : Call) (x : IsCut sent id k d) where
    given : (cut sent id k).answer ≡ gives (d.header ∷ [])
    given = sym (ap (λ (c : Copied). c.answer) x)

    counted_one : k < c#
    unfolding cut
    counted_one =
        ltb-true k c# (not-false _ (converse (cut_checks sent id k) (header id k ∷ []) tt (sym given)).1.1.1.1.0)

    its_call : d ≡ call k
    its_call =
        let same : d.header ≡ id * 16 + k = first_gives (sym given ∙ sym (ap (λ (c : Copied). c.answer) (is_cut k counted_one))) in
        let block : d.block ≡ take 13 (drop (13 * k) sent) =
        ap (λ (c : Copied). c.bytes) x ∙ sym (ap (λ (c : Copied). c.bytes) (is_cut k counted_one)) in
        ap (λ (n : ℕ). made n d.block) same ∙ ap (made (id * 16 + k)) block
      where
        first_gives : {a b : ℕ} → gives (a ∷ []) ≡ gives (b ∷ []) → a ≡ b
        first_gives e = cc

        made : ℕ → List ℕ → Call
        made n l = record { header = n; block = l }

  -- Any history: as if a new collector had been fed the blocks, once one was.
  record Held (s : State) (ns : List ℕ) : Type 0 where
    sound : Sound s
    below : Counted c# ns
    base : List ℕ
    base_long : length base ≡ 208
    next : (k : ℕ) → k < c# → fed_to s (call k) ≡ fed_to (after (new base) (calls ns)) (call k)
    same : 0 < length ns → s ≡ after (new base) (calls ns)

  one_more : (s : State) (ns : List ℕ) (k : ℕ) (d : Call) → Held s ns → IsCut sent id k d → Held (fed_to s d).state (ns ++ (k ∷ []))
  one_more s ns k d h x =
      let low : k < c# = counted_one k d x in
      let st : (fed_to s d).state ≡ after (new h.base) (calls (ns ++ (k ∷ []))) =
      ap (λ (e : Call). (fed_to s e).state) (its_call k d x) ∙ ap (λ (f : dsm.Fed). f.state) (h.next k low)
      ∙ sym (after_more (new h.base) (calls ns) (call k)) ∙ ap (after (new h.base)) (sym (map-append call ns (k ∷ []))) in
      record {
        sound = sound_fed s d.header d.block h.sound;
        below = counted_more c# ns k h.below low;
        base = h.base;
        base_long = h.base_long;
        next = λ j g. ap (λ (t : State). fed_to t (call j)) st;
        same = λ g. st;
      }

  held : {c : CollectDsm} {memory ns : List ℕ} → Fed sent id c memory ns → Held (state c memory) ns
  held (idle c memory l low e) =
      record {
        sound = record { d208 = l; id_low = low };
        below = tt;
        base = memory;
        base_long = l;
        next = λ k g.
            start (state c memory) (call k) id (record { d208 = l; id_low = low }) e (sent_calls.id_of_lem sent id long few k g)
            (sent_calls.block_long sent id long few k g);
        same = λ g. absurd (omega arith);
      }
  held (called {c} {c'} {memory} {memory'} {ns} {d} {a} k f x call') =
      subst⁻¹ (λ (s : State). Held s (ns ++ (k ∷ []))) (ap (λ (g : dsm.Fed). g.state) (feeding_is call')) (one_more (state c memory) ns k d (held f) x)
  held (refused_one {c} {c'} {memory} {memory'} {ns} {d} {a} f e call') =
      let h : Held (state c memory) ns = held f in
      subst⁻¹ (λ (s : State). Held s ns)
      (ap (λ (g : dsm.Fed). g.state) (feeding_is call') ∙ refused_call (state c memory) d h.sound.d208 e) h
  held (misfit {c} {c'} {x} {x'} {ns} {d} {a} memory f w call') =
      let u = code_recovers.misfit_refused w call' in
      subst⁻¹ (λ (s : State). Held s ns) (ap (λ (k : CollectDsm). state k (memory x')) u.1 ∙ ap (λ (y : List ℕ). state c (memory y)) u.2) (held f)
  held (viewed f x v) = held f

  module _ (some : 0 < c#) (n : ℕ) (bytes : 13 * c# ≡ n) where
    -- what is answered to one block more
    module _ (s : State) (ns : List ℕ) (k : ℕ) (h : Held s ns) (low : k < c#) where
      recovers : Recovers (after (new h.base) (calls ns)) (calls ns) (call k) (fed_to (after (new h.base) (calls ns)) (call k))
      recovers =
          subst (λ (r : List Call). Recovers (after (new h.base) (calls ns)) r (call k) (fed_to (after (new h.base) (calls ns)) (call k)))
          (sent_calls.run_calls sent id long few ns h.below) (dsm_recovers h.base h.base_long (calls ns) (call k))

      told : (fed_to s (call k)).answer ≡ comes_out id (calls ns) (calls (ns ++ (k ∷ [])))
      told =
          ap (λ (f : dsm.Fed). f.answer) (h.next k low)
          ∙ recovers.exactly_when (sent_calls.is_admitted_lem sent id long few k low)
          ∙ ap (λ (i : ℕ). comes_out i (before (calls ns) (call k)) (grown (calls ns) (call k))) (sent_calls.id_of_lem sent id long few k low)
          ∙ ap (λ (r : List Call). comes_out id r (grown (calls ns) (call k))) (sent_calls.before_calls sent id long few ns k h.below low)
          ∙ ap (comes_out id (calls ns)) (sent_calls.grown_calls sent id long few ns k h.below low)

      answer_is : (fed_to s (call k)).answer
          ≡ cond (all_of sent id (ns ++ (k ∷ [])) && not (all_of sent id ns)) (gives (id ∷ dsm_type_of id ∷ n ∷ [])) nothing
      answer_is =
          told
          ∙ ap (λ (x : Bool). cond (x && not (is_whole id (calls ns))) (gives (id ∷ dsm_type_of id ∷ 13 * counts id (calls (ns ++ (k ∷ []))) ∷ [])) nothing)
          (sent_calls.whole_is sent id long few some (ns ++ (k ∷ [])) more)
          ∙ ap (λ (x : Bool). cond (all_of sent id (ns ++ (k ∷ [])) && not x) (gives (id ∷ dsm_type_of id ∷ 13 * counts id (calls (ns ++ (k ∷ []))) ∷ [])) nothing)
          (sent_calls.whole_is sent id long few some ns h.below)
          ∙ go (all_of sent id (ns ++ (k ∷ []))) refl
        where
          more : Counted c# (ns ++ (k ∷ []))
          more = counted_more c# ns k h.below low

          go : (x : Bool) → all_of sent id (ns ++ (k ∷ [])) ≡ x
              → cond (x && not (all_of sent id ns)) (gives (id ∷ dsm_type_of id ∷ 13 * counts id (calls (ns ++ (k ∷ []))) ∷ [])) nothing
              ≡ cond (x && not (all_of sent id ns)) (gives (id ∷ dsm_type_of id ∷ n ∷ [])) nothing
          go true e =
              ap (λ (m : ℕ). cond (not (all_of sent id ns)) (gives (id ∷ dsm_type_of id ∷ m ∷ [])) nothing)
              (ap (λ (m : ℕ). 13 * m) (sent_calls.counts_whole sent id long few some (ns ++ (k ∷ [])) more e) ∙ bytes)
          go false e = refl

    -- what is shown where all were fed
    some_fed : (ns : List ℕ) → all_of sent id ns ≡ true → 0 < length ns
    unfolding among
    some_fed [] e =
        let f : ◌≡◌ {A = Bool} false true = sent_calls.all_at (λ k. among k []) c# e 0 some in
        let z : ◌≡◌ {A = ℕ} 0 1 = cc in absurd (omega arith)
    some_fed (k ∷ ns) e = omega arith

    run_id_lem : (ns : List ℕ) → 0 < length ns → Counted c# ns → run_id (calls ns) ≡ id
    run_id_lem [] h b = absurd (omega arith)
    run_id_lem (k ∷ ns) h b = sent_calls.run_id_lem sent id long few k ns b

    module _ (s : State) (ns : List ℕ) (h : Held s ns) (e : all_of sent id ns ≡ true) where
      sees : Viewed s (calls ns)
      sees =
          subst⁻¹ (λ (t : State). Viewed t (calls ns)) (h.same (some_fed ns e))
          (subst (λ (r : List Call). Viewed (after (new h.base) (calls ns)) r) (sent_calls.run_calls sent id long few ns h.below)
          (dsm_shows h.base h.base_long (calls ns)))

      whole : is_whole id (calls ns) ≡ true
      whole = sent_calls.whole_is sent id long few some ns h.below ∙ e

      counts_are : counts id (calls ns) ≡ c#
      counts_are = sent_calls.counts_whole sent id long few some ns h.below e

      view_is : view s ≡ gives (0 ∷ n ∷ [])
      view_is =
          sees.view_is
          ∙ ap (λ (i : ℕ). in_view i (calls ns)) (run_id_lem ns (some_fed ns e) h.below)
          ∙ ap (λ (x : Bool). cond x (gives (0 ∷ 13 * counts id (calls ns) ∷ [])) nothing) whole
          ∙ ap (λ (m : ℕ). gives (0 ∷ m ∷ [])) (ap (λ (m : ℕ). 13 * m) counts_are ∙ bytes)

      bytes_are : shown s.memory (view s) ≡ take n sent
      bytes_are =
          sees.bytes
          ∙ ap (λ (i : ℕ). bytes_in_view i (calls ns)) (run_id_lem ns (some_fed ns e) h.below)
          ∙ ap (λ (x : Bool). cond x (dsm_of id (calls ns)) []) whole
          ∙ ap (λ (m : ℕ). first_copies m (calls ns)) counts_are
          ∙ sent_calls.copies_are sent id long few ns h.below e
          ∙ ap (λ (m : ℕ). take m sent) bytes

    pub comes_out_lem : ComesOut sent id n
    comes_out_lem =
        record {
          counts = bytes;
          cuts = within;
          beyond = λ k b h p. beyond k b h some p;
          exactly_when = λ {c} {c'} {memory} {memory'} {ns} {d} {a} k f x call'.
              ap (λ (g : dsm.Fed). g.answer) (feeding_is call')
              ∙ ap (λ (e : Call). (fed_to (state c memory) e).answer) (its_call k d x)
              ∙ answer_is (state c memory) ns k (held f) (counted_one k d x);
          shows = λ {c} {memory} {ns} f e. (
            λ x p. p ∙ view_is (state c memory) ns (held f) e,
            λ l p. p ∙ bytes_are (state c memory) ns (held f) e,
          );
        }

-- No order is ruled out.
module _ (sent : List ℕ) (id : ℕ) (long : length sent ≡ 208) (few : id ≤ 15) where
  one_cut : (k : ℕ) → k < blocks sent id → IsCut sent id k (call sent id long few k)
  one_cut k h = is_cut sent id long few k h

  any_more : (ns : List ℕ) {c : CollectDsm} {memory ms : List ℕ} → Fed sent id c memory ms → Counted (blocks sent id) ns
      → (c' : CollectDsm) × (memory' : List ℕ) × Fed sent id c' memory' (ms ++ ns)
  any_more [] {c} {memory} {ms} f b = (c, memory, subst⁻¹ (λ (l : List ℕ). Fed sent id c memory l) (append-nil ms) f)
  any_more (n ∷ ns) {c} {memory} {ms} f b =
      let r = any_calls.feed c memory (call sent id long few n) in
      let g = any_more ns (called n f (one_cut n b.0) (by_value (call sent id long few n) r.0 r.1 r.2)) b.1 in
      (g.0, g.1, subst (λ (l : List ℕ). Fed sent id g.0 g.1 l) (append_assoc ms (n ∷ []) ns) g.2)

  any_order : AnyOrder sent id
  any_order c memory l low e ns b = any_more ns (idle c memory l low e) b

-- what a write leaves
over_long : (m d : List ℕ) → length m ≤ length d → length (over m d) ≡ length d
over_long m d h = length-append m (drop (length m) d) ∙ ap (λ (n : ℕ). length m + n) (length-drop (length m) d) ∙ omega arith

module _ (checks : List Check) (memory message : List ℕ) (id t n : ℕ) {a : Answer} {sent : List ℕ}
    (w : ◌≡◌ {A = Written} (record { memory = sent; answer = a }) (written checks memory message id)) (e : a ≡ gives (id ∷ t ∷ n ∷ [])) where
  passes : refusal checks ≡ 0
  passes = none_refused checks memory message id (sym (ap (λ (x : Written). x.answer) w) ∙ e)

  left : ◌≡◌ {A = Written} (record { memory = sent; answer = a })
      (record { memory = over message memory; answer = gives (id ∷ dsm_type_of id ∷ length message ∷ []) })
  left = w ∙ written_is checks memory message id passes

  write_fed : length memory ≡ 208 → length message ≤ 208 → id ≤ 15 → 0 < length message → length message ≡ 13 * blocks (over message memory) id
      → ComesOut sent id n × AnyOrder sent id
  write_fed l m few some c =
      let there : sent ≡ over message memory = ap (λ (x : Written). x.memory) left in
      let long : length message ≡ n = third_of (sym (ap (λ (x : Written). x.answer) left) ∙ e) in
      let counts : length message ≡ 13 * blocks sent id = c ∙ ap (λ (x : List ℕ). 13 * blocks x id) (sym there) in
      let all : length sent ≡ 208 = ap length there ∙ over_long message memory (omega arith) ∙ l in
      (comes_out_lem sent id all few (omega arith) n (sym counts ∙ long), any_order sent id all few)

kroot_count_lem : (m d : List ℕ) (id n : ℕ) → id ≤ 11 → 4 ≤ 8 * length m → value (the "NB_DK" kroot_layout) m ≡ n → blocks (over m d) id ≡ size kroot_blocks n
unfolding counted
kroot_count_lem m d id n h l e = rw (lt-ltb id 12 (omega arith)) (ap (size kroot_blocks) (field_front m (drop (length m) d) 0 4 l ∙ e))

pkr_count_lem : (m d : List ℕ) (id n : ℕ) → 12 ≤ id → 4 ≤ 8 * length m → value (the "NB_DP" pkr_layout) m ≡ n → blocks (over m d) id ≡ size pkr_blocks n
unfolding counted
pkr_count_lem m d id n h l e = rw (le-ltb id 12 h) (ap (size pkr_blocks) (field_front m (drop (length m) d) 0 4 l ∙ e))

kroot_fed : (memory : List ℕ) (id : ℕ) (v : KrootValues) (key signature padding : List ℕ) (a : Answer) (sent : List ℕ) (n : ℕ)
    → ◌≡◌ {A = Written} (record { memory = sent; answer = a }) (write_kroot memory id v key signature padding) → a ≡ gives (id ∷ 0 ∷ n ∷ [])
    → ComesOut sent id n × AnyOrder sent id
unfolding write_kroot
kroot_fed memory id v key signature padding a sent n w e =
    let checks = kroot_checks memory id v key signature padding in
    let message = kroot_message v key signature padding in
    let p : Passed checks = none_fails checks tt (passes checks memory message id 0 n w e) in
    let f : KrootFacts message v key signature padding = kroot_facts memory id v key signature padding p in
    let whole : length message ≡ 13 * size kroot_blocks v.nb_dk = f.long ∙ f.whole in
    let few : id ≤ 11 = ltb-false 11 id p.1.1.1.0 in
    let some : 13 ≤ length message = omega (arith, f.long) in
    let nb : value (the "NB_DK" kroot_layout) message ≡ v.nb_dk = ap (λ (l : List ℕ). get_or l 0 0) f.values in
    write_fed checks memory message id 0 n w e (eqb-true (length memory) 208 (not-false _ p.0)) (omega (arith, kroot_blocks_few v.nb_dk, whole))
    (omega arith) (omega arith) (whole ∙ ap (λ (x : ℕ). 13 * x) (sym (kroot_count_lem message memory id v.nb_dk few (omega arith) nb)))

pkr_fed : (memory : List ℕ) (id : ℕ) (v : PkrValues) (nodes key padding : List ℕ) (a : Answer) (sent : List ℕ) (n : ℕ)
    → ◌≡◌ {A = Written} (record { memory = sent; answer = a }) (write_pkr memory id v nodes key padding) → a ≡ gives (id ∷ 1 ∷ n ∷ [])
    → ComesOut sent id n × AnyOrder sent id
unfolding write_pkr
pkr_fed memory id v nodes key padding a sent n w e =
    let checks = pkr_checks memory id v nodes key padding in
    let message = pkr_message v nodes key padding in
    let p : Passed checks = none_fails checks tt (passes checks memory message id 1 n w e) in
    let f : PkrFacts message v nodes key padding = pkr_facts memory id v nodes key padding p in
    let whole : length message ≡ 13 * size pkr_blocks v.nb_dp = f.long ∙ f.whole in
    let kind : 12 ≤ id = ltb-false id 12 p.1.1.1.0 in
    let few : id ≤ 15 = ltb-false 15 id p.1.1.1.1.0 in
    let some : 130 ≤ length message = omega (arith, f.long) in
    write_fed checks memory message id 1 n w e (eqb-true (length memory) 208 (not-false _ p.0)) (omega (arith, pkr_blocks_few v.nb_dp, whole)) few
    (omega arith) (whole ∙ ap (λ (x : ℕ). 13 * x) (sym (pkr_count_lem message memory id v.nb_dp kind (omega arith) f.count_says)))

pub collector_fed : CollectorFed
collector_fed =
    record {
      kroot = λ memory id v key signature padding r sent n w e. kroot_fed memory id (kroot_of v) key signature padding _ sent n w e;
      pkr = λ memory id v nodes key padding r sent n w e. pkr_fed memory id (pkr_of v) nodes key padding _ sent n w e;
    }
