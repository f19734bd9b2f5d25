-- Laws of the DSM collector's steps.
-- Assumes nothing.
use mathlib.Core.Path.{◌≡◌, refl, sym, ap, ◌∙◌}
use mathlib.Core.List.{List, [], ◌∷◌, append_assoc}
use mathlib.Core.Bool.{Bool, true, false, cond, not, ◌&&◌}
use Prim.Native.Nat.{ℕ, zero, suc, ◌+◌, ◌-◌, ◌*◌, ◌≤◌, ◌<◌}
use native.Mathlib.Nat.{zero-add, suc-add}
use native.Mathlib.Omega.{arith}
use native.Mathlib.Numerals.{add-one}
use lib.Dec.{ltb, eqb, eqb-suc-zero}
use lib.ListN.{length, get_or, set, take, drop}
use borrow.Rule.Slice.PartMut.{put_mid}
use Rattle.std.proofs.lemmas.List.{drop-drop}
use lib.Seq.{get_or-take}
use borrow.Author.Tests.{eqb-true, eqb-false, ltb-false, lt-ltb, le-ltb, eq-eqb, ne_eqb, not-false}
use Rattle.layouts.specs.Lists.{all}
use Rattle.layouts.specs.Answer.{Answer, refused, nothing, gives, ◌when◌, refusal, answered, shown}
use Rattle.layouts.specs.Bits.{Field, the, value}
use Rattle.layouts.specs.Sizes.{size, kroot_blocks, pkr_blocks, read_size}
use Rattle.layouts.specs.DsmHeader.{dsm_type_of}
use Rattle.layouts.specs.DsmKroot.{kroot_layout}
use Rattle.layouts.specs.DsmPkr.{pkr_layout}
use Rattle.layouts.specs.Meaning.{meaning_number, meaning_type}
use Rattle.layouts.specs.declared.refusal.Refusal.{Refusal}
use Rattle.layouts.specs.Refusals.{refusal_number}
use Rattle.layouts.proofs.Refused.{number_some, carried}
use Rattle.layouts.specs.declared.dsm_header.DsmType.{DsmType}
use Rattle.layouts.specs.declared.dsm_header.DsmType.TheVariants.{Kroot, Pkr}
use Rattle.layouts.specs.Bits.{field}
use Rattle.layouts.proofs.Fields.{field_of_byte, field_lt}
use Rattle.layouts.proofs.Answers.{none_fails}
use Rattle.layouts.proofs.Kroot as kroot
use Rattle.layouts.proofs.Pkr as pkr
use Rattle.std.specs.Prelude.{Option, Some, None, Result, Ok, Err}
use Rattle.std.specs.Bool.{MatchBool}
use Rattle.std.specs.Option.{MatchOption}
use Rattle.std.specs.List.{AllWithin, HoldsAt}
use Rattle.std.specs.Result.{IsErrAnd}
use Rattle.dsms.specs.inner.Dsm.{legal}
use Rattle.dsms.specs.DsmPromises.{type_number, meaning_shown}
use Rattle.dsms.specs.Dsm.{State, Fed, id_of, block_of, feed_checks, view_checks, fresh, begun, stored, kroot_count, pkr_count, counted, count, all_held}
use Rattle.dsms.specs.Dsm.{completed, finished, taken, feed, view}

-- The refusals: of the record and the lent bytes, and with a block.
module _ (id : ℕ) (m : List ℕ) where
  pub other_memory : (length m ≡ 208 → ⊥) → 1 ≡ refusal (view_checks id m)
  unfolding refusal
  other_memory ne = rw (ne_eqb (length m) 208 ne)

  module _ (e : length m ≡ 208) where
    pub other_id : 15 < id → 12 ≡ refusal (view_checks id m)
    unfolding refusal
    other_id h = rw (eq-eqb (length m) 208 e, lt-ltb 15 id h)

    pub lent : id ≤ 15 → 0 ≡ refusal (view_checks id m)
    unfolding refusal
    lent h = rw (eq-eqb (length m) 208 e, le-ltb 15 id h)

  module _ (b : List ℕ) where
    pub other_block : (length b ≡ 13 → ⊥) → 1 ≡ refusal (feed_checks id m b)
    unfolding refusal
    other_block ne = go (not (eqb (length m) 208))
      where
        go : (w : Bool) → ◌≡◌ {A = ℕ} 1 (cond w 1 (cond (not (eqb (length b) 13)) 1 (cond (ltb 15 id) 12 0)))
        go true = refl
        go false = rw (ne_eqb (length b) 13 ne)

    pub other_lent : (length m ≡ 208 → ⊥) → 1 ≡ refusal (feed_checks id m b)
    unfolding refusal
    other_lent ne = rw (ne_eqb (length m) 208 ne)

    pub whole_block : length b ≡ 13 → {q : ℕ} → q ≡ refusal (view_checks id m) → q ≡ refusal (feed_checks id m b)
    unfolding refusal
    whole_block e h = rw (eq-eqb (length b) 13 e) h

-- A change of ID.
module _ (s : State) (i : ℕ) where
  pub begun_first : s.came ≡ false → fresh s i ≡ begun s i
  unfolding begun
  begun_first h = rw h

  pub begun_other : s.came ≡ true → eqb s.id i ≡ false → fresh s i ≡ begun s i
  unfolding begun
  begun_other h ne = rw (h, ne)

  pub begun_same : s.came ≡ true → eqb s.id i ≡ true → s ≡ begun s i
  unfolding begun
  begun_same h e = let q : (s.came && eqb s.id i) ≡ true = rw (h, e) in sym (ap (λ (b : Bool). cond b s (fresh s i)) q)

-- A count, by the reader of `layouts`: legal exactly where it is not refused.
abbrev pub number_read : Result ℕ Refusal → Option ℕ
number_read (Ok n) = Some n
number_read (Err n) = None

legal_read : (v : ℕ) (x : Result ℕ Refusal) → meaning_number x ≡ answered (refusal (6 when eqb v 0 ∷ [])) (gives (v ∷ [])) → number_read x ≡ legal v
unfolding refusal answered
legal_read zero (Ok n) e = let z : ◌≡◌ {A = ℕ} 0 1 = cc in absurd (omega arith)
legal_read zero (Err n) e = refl
legal_read (suc v) (Ok n) e = let f : gives (n ∷ []) ≡ gives (suc v ∷ []) = rw eqb-suc-zero at e in let g : n ≡ suc v = cc in rw g
legal_read (suc v) (Err n) e = let f : refused (refusal_number n) ≡ gives (suc v ∷ []) = rw eqb-suc-zero at e in let z : ◌≡◌ {A = ℕ} 0 1 = cc in absurd (omega arith)

size_legal : (f : Field) (g : ℕ → ℕ) (m : List ℕ) (x : Result ℕ Refusal) → f.first + f.width ≤ 8 * length m → meaning_number x ≡ read_size f g m
    → number_read x ≡ legal (g (value f m))
unfolding refusal
size_legal f g m x l e = legal_read (g (value f m)) x (rw (le-ltb (8 * length m) (f.first + f.width) l) at e)

-- the count of m for the type that k means
abbrev pub Counts : DsmType → List ℕ → Option ℕ → Type 0
Counts k m n = (t : ℕ) → meaning_type k ≡ gives (t ∷ []) → n ≡ legal (counted t m)

kroot_type : {k : DsmType} → k ≡ Kroot → (t : ℕ) → meaning_type k ≡ gives (t ∷ []) → 0 ≡ t
kroot_type g t q = let f : gives (0 ∷ []) ≡ gives (t ∷ []) = rw g at q in cc

pkr_type : {k : DsmType} → k ≡ Pkr → (t : ℕ) → meaning_type k ≡ gives (t ∷ []) → 1 ≡ t
pkr_type g t q = let f : gives (1 ∷ []) ≡ gives (t ∷ []) = rw g at q in cc

module _ (m : List ℕ) (l : length m ≡ 208) {k : DsmType} (x : Result ℕ Refusal) where
  pub kroot_counts : k ≡ Kroot → meaning_number x ≡ read_size (the "NB_DK" kroot_layout) (size kroot_blocks) m → Counts k m (number_read x)
  unfolding counted
  kroot_counts g e t q = rw (← kroot_type g t q) (size_legal (the "NB_DK" kroot_layout) (size kroot_blocks) m x (omega arith) e)

  pub pkr_counts : k ≡ Pkr → meaning_number x ≡ read_size (the "NB_DP" pkr_layout) (size pkr_blocks) m → Counts k m (number_read x)
  unfolding counted
  pkr_counts g e t q = rw (← pkr_type g t q) (size_legal (the "NB_DP" pkr_layout) (size pkr_blocks) m x (omega arith) e)

pub counted_few : (t : ℕ) (m : List ℕ) → counted t m ≤ 16
unfolding counted
counted_few t m = go (eqb t 0)
  where
    go : (b : Bool) → cond b (kroot_count m) (pkr_count m) ≤ 16
    go true = omega (arith, kroot.blocks_few m)
    go false = pkr.blocks_few m

legal_some : (k : ℕ) {n : ℕ} → Some n ≡ legal k → (n ≡ k) × (n ≡ 0 → ⊥)
legal_some zero e = let z : ◌≡◌ {A = ℕ} 0 1 = cc in absurd (omega arith)
legal_some (suc k) {n} e = let g : n ≡ suc k = cc in (g, λ z. absurd (omega (arith, g, z)))

legal_none : (k : ℕ) → None ≡ legal k → k ≡ 0
legal_none zero e = refl
legal_none (suc k) e = let z : ◌≡◌ {A = ℕ} 0 1 = cc in absurd (omega arith)

-- The blocks that are held.
pub held_more : (held : List Bool) (i : ℕ) → all_held held i ≡ true → not (get_or held i false) ≡ false → all_held held (i + 1) ≡ true
unfolding all
held_more held i e h = rw (add-one i, e, not-false (get_or held i false) h)

every_held : (held : List Bool) (n : ℕ) → ((k : ℕ) → k < n → get_or held k false ≡ true) → all_held held n ≡ true
unfolding all
every_held held zero f = refl
every_held held (suc n) f = rw (every_held held n (λ k h. f k (omega (arith, h))), f n (omega arith))

false_stays : (held : List Bool) (i k : ℕ) → all_held held i ≡ false → all_held held (k + i) ≡ false
unfolding all
false_stays held i zero e = rw (zero-add i) e
false_stays held i (suc k) e = rw (suc-add k i, false_stays held i k e)

one_missing : (held : List Bool) (i n : ℕ) → i < n → get_or held i false ≡ false → all_held held n ≡ false
unfolding all
one_missing held i n h g =
    let here : all_held held (suc i) ≡ false = rw g (and_false (all_held held i)) in
    let far : (n - suc i) + suc i ≡ n = omega arith in
    rw far at (false_stays held (suc i) (n - suc i) here)
  where
    and_false : (b : Bool) → (b && false) ≡ false
    and_false true = refl
    and_false false = refl

-- the search among the first n flags
pub held_are : (held : List Bool) (n : ℕ) → n ≡ length (take n held) → (b : Bool)
    → MatchBool b (AllWithin (λ h. h ≡ true) (take n held) 0 (length (take n held))) ((k : ℕ) × (k < length (take n held)) × HoldsAt (λ h. h ≡ false) (take n held) k)
    → b ≡ all_held held n
held_are held n l true f =
    sym (every_held held n (λ k h. rw (← get_or-take n held k false h) (f k false (omega arith) (omega (arith, h, l)))))
held_are held n l false (k, h, f) =
    let i : k < n = omega (arith, h, l) in
    sym (one_missing held k n i (rw (← get_or-take n held k false i) (f false)))

-- Done, or not.
module _ (s : State) where
  pub uncounted : None ≡ legal (count s) → ◌≡◌ {A = Fed} (record { state = s; answer = nothing }) (finished s)
  unfolding finished
  uncounted e = rw (legal_none (count s) e)

  module _ {n : ℕ} (e : Some n ≡ legal (count s)) {b : Bool} (h : b ≡ all_held s.held n) where
    pub missing : b ≡ false → ◌≡◌ {A = Fed} (record { state = s; answer = nothing }) (finished s)
    unfolding finished
    missing f = let p = legal_some (count s) e in rw (← p.0, ne_eqb n 0 p.1, ← h, f)

    pub complete : {t : ℕ} → b ≡ true → t ≡ dsm_type_of s.id
        → ◌≡◌ {A = Fed} (record { state = completed s; answer = gives (s.id ∷ t ∷ 13 * n ∷ []) }) (finished s)
    unfolding finished
    complete f g = let p = legal_some (count s) e in rw (← p.0, ne_eqb n 0 p.1, ← h, f, g)

  pub count_few : {n : ℕ} → Some n ≡ legal (count s) → n ≤ 16
  count_few e = let p = legal_some (count s) e in omega (arith, p.0, counted_few (dsm_type_of s.id) s.memory)

pub taken_done : (s : State) (n : ℕ) (b : List ℕ) → s.done ≡ true → ◌≡◌ {A = Fed} (record { state = s; answer = nothing }) (taken s n b)
unfolding taken
taken_done s n b h = rw h

pub taken_on : (s : State) (n : ℕ) (b : List ℕ) {f : Fed} {t : State} → s.done ≡ false → t ≡ stored s n b → f ≡ finished t → f ≡ taken s n b
unfolding taken
taken_on s n b h e g = let q : taken s n b ≡ finished (stored s n b) = rw h in g ∙ ap finished e ∙ sym q

pub stored_held : (s : State) (n : ℕ) (b : List ℕ) → get_or s.held n false ≡ true → s ≡ stored s n b
unfolding stored
stored_held s n b h = rw h

pub stored_new : (s : State) (n : ℕ) (b : List ℕ) {k : ℕ} {c : List ℕ} → get_or s.held n false ≡ false → k ≡ 13 → c ≡ b
    → ◌≡◌ {A = State} (record { id = s.id; came = s.came; held = set s.held n true; done = s.done; memory = put_mid (13 * n) k s.memory c }) (stored s n b)
unfolding stored
stored_new s n b h e f = rw (h, e, f, drop-drop 13 (13 * n) s.memory, append_assoc (take (13 * n) s.memory) b (drop (13 * n + 13) s.memory)) refl

-- The type of an ID, by the header byte that has it.
pub type_of : (i : ℕ) (k : DsmType) → i ≤ 15 → meaning_type k ≡ gives (dsm_type_of (id_of (i * 16)) ∷ []) → meaning_type k ≡ gives (dsm_type_of i ∷ [])
type_of i k h e =
    let back : field (i * 16 ∷ []) 0 4 ≡ i = omega (arith, field_of_byte (i * 16) 0 4 (omega arith)) in
    e ∙ ap (λ (x : ℕ). gives (dsm_type_of x ∷ [])) back

pub type_meant : (t : ℕ) (k : DsmType) → meaning_type k ≡ gives (t ∷ []) → type_number k ≡ t
type_meant t Kroot e = let z : 0 ≡ t = cc in z
type_meant t Pkr e = let z : 1 ≡ t = cc in z

-- The collector at a header's ID.
pub header_id : (h : ℕ) → id_of h ≤ 15
header_id h = omega (arith, field_lt (h ∷ []) 0 4)

pub header_block : (h : ℕ) → block_of h < 16
header_block h = omega (arith, field_lt (h ∷ []) 4 4)

pub begun_id : (s : State) (i : ℕ) → (begun s i).id ≡ i
unfolding begun
begun_id s i = go s.came (eqb s.id i) refl
  where
    go : (a b : Bool) → eqb s.id i ≡ b → (cond (a && b) s (fresh s i)).id ≡ i
    go true true e = eqb-true s.id i e
    go true false e = refl
    go false b e = refl

-- A call.
module _ (s : State) (header : ℕ) (block : List ℕ) where
  pub feed_refused : {q : ℕ} → q ≡ refusal (feed_checks s.id s.memory block) → (q ≡ 0 → ⊥)
      → ◌≡◌ {A = Fed} (record { state = s; answer = refused q }) (feed s header block)
  unfolding feed
  feed_refused {q} e ne = rw (← e, ne_eqb q 0 ne)

  pub feed_err : (e : Refusal) → refusal_number e ≡ refusal (feed_checks s.id s.memory block)
      → ◌≡◌ {A = Fed} (record { state = s; answer = refused (refusal_number e) }) (feed s header block)
  feed_err e h = feed_refused h (number_some e)

  pub feed_taken : {f : Fed} {t : State} {i n : ℕ} → 0 ≡ refusal (feed_checks s.id s.memory block) → i ≡ id_of header → n ≡ block_of header
      → t ≡ begun s i → f ≡ taken t n block
      → f ≡ feed s header block
  unfolding feed
  feed_taken {i = i} {n = n} z ei en et g =
      let whole : feed s header block ≡ taken (begun s (id_of header)) (block_of header) block = rw (← z) in
      g ∙ ap (λ (x : State). taken x n block) (et ∙ ap (begun s) ei) ∙ ap (λ (k : ℕ). taken (begun s (id_of header)) k block) en ∙ sym whole

pub admitted_then : (id : ℕ) (m b : List ℕ) → 0 ≡ refusal (feed_checks id m b) → (length m ≡ 208) × (length b ≡ 13)
admitted_then id m b z =
    let p = none_fails (feed_checks id m b) tt (sym z) in
    (eqb-true (length m) 208 (not-false _ p.0), eqb-true (length b) 13 (not-false _ p.1.0))

-- The view.
pub legal_lent : (id : ℕ) (m : List ℕ) → 0 ≡ refusal (view_checks id m) → (length m ≡ 208) × (id ≤ 15)
legal_lent id m z =
    let p = none_fails (view_checks id m) tt (sym z) in
    (eqb-true (length m) 208 (not-false _ p.0), ltb-false 15 id p.1.0)

module _ (s : State) where
  view_err : {q : ℕ} → q ≡ refusal (view_checks s.id s.memory) → (q ≡ 0 → ⊥) → refused q ≡ view s
  unfolding view
  view_err {q} e ne = rw (← e, ne_eqb q 0 ne)

  pub view_memory : (length s.memory ≡ 208 → ⊥) → refused 1 ≡ view s
  view_memory ne = view_err (other_memory s.id s.memory ne) (λ z. absurd (omega (arith, z)))

  pub view_refused : (r : Result (Option ℕ) Refusal) (e : Refusal) → IsErrAnd r (λ (f : Refusal). f ≡ e)
      → refusal_number e ≡ refusal (view_checks s.id s.memory)
      → meaning_shown r ≡ view s
  view_refused r e i h = rw (carried r i) (view_err h (number_some e))

  module _ (z : 0 ≡ refusal (view_checks s.id s.memory)) where
    pub view_undone : s.done ≡ false → nothing ≡ view s
    unfolding view
    view_undone f = rw (← z, f)

    pub view_given : s.done ≡ true → {n : ℕ} → n ≡ count s → (n ≡ 0 → ⊥) → gives (0 ∷ 13 * n ∷ []) ≡ view s
    unfolding view
    view_given d {n} g ne = rw (← z, d, ← g, ne_eqb n 0 ne)

    pub view_uncounted : s.done ≡ true → None ≡ legal (count s) → nothing ≡ view s
    unfolding view
    view_uncounted d e = rw (← z, d, legal_none (count s) e)

    pub view_counted : s.done ≡ true → (n : Option ℕ) → n ≡ legal (count s) → (o : Option ℕ) → MatchOption n (o ≡ None) (λ k. o ≡ Some (13 * k)) → meaning_shown (Ok o) ≡ view s
    view_counted d (Some n) e o h = let p = legal_some (count s) e in rw h (view_given d p.0 p.1)
    view_counted d None e o h = rw h (view_uncounted d e)

-- what is shown is 13 x count, is not empty and lies in the memory
pub record ShownSize (s : State) (n : ℕ) : Type 0 where
  pub size_is : n ≡ 13 * count s
  pub some : 0 < n
  pub fits : n ≤ length s.memory
  pub low : s.id ≤ 15

pub shown_size : (s : State) {n : ℕ} → gives (0 ∷ n ∷ []) ≡ view s → ShownSize s n
unfolding view refusal
shown_size s e = go (eqb (length s.memory) 208) (ltb 15 s.id) s.done (eqb (count s) 0) refl refl refl e
  where
    go : (a b c d : Bool) {n : ℕ} → eqb (length s.memory) 208 ≡ a → ltb 15 s.id ≡ b → eqb (count s) 0 ≡ d
        → gives (0 ∷ n ∷ [])
        ≡ cond (eqb (cond (not a) 1 (cond b 12 0)) 0) (cond (c && not d) (gives (0 ∷ 13 * count s ∷ [])) nothing)
        (refused (cond (not a) 1 (cond b 12 0)))
        → ShownSize s n
    go true false true false {n} l o m f =
        let k : n ≡ 13 * count s = cc in
        record {
          size_is = k;
          some = omega (arith, eqb-false (count s) 0 m);
          fits = omega (arith, counted_few (dsm_type_of s.id) s.memory, eqb-true (length s.memory) 208 l);
          low = ltb-false 15 s.id o;
        }
    go true false true true l o m f = let z : ◌≡◌ {A = ℕ} 0 1 = cc in absurd (omega arith)
    go true false false d l o m f = let z : ◌≡◌ {A = ℕ} 0 1 = cc in absurd (omega arith)
    go true true c d l o m f = let z : ◌≡◌ {A = ℕ} 0 1 = cc in absurd (omega arith)
    go false b c d l o m f = let z : ◌≡◌ {A = ℕ} 0 1 = cc in absurd (omega arith)

pub not_shown : (m : List ℕ) {a : Answer} {n : ℕ} → refused n ≡ a → [] ≡ shown m a
unfolding shown
not_shown m e = rw (← e)

pub nothing_shown : (m : List ℕ) {a : Answer} → nothing ≡ a → [] ≡ shown m a
unfolding shown
nothing_shown m e = rw (← e)
