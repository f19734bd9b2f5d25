-- Laws of MACK messages.
-- Assumes nothing.
use mathlib.Core.Path.{◌≡◌, refl, sym, ap, ◌∙◌}
use mathlib.Core.Logic.{⊎_elim, inl, inr}
use mathlib.Core.Bool.{Bool, true, false, cond, not}
use mathlib.Core.List.{List, [], ◌∷◌, ◌++◌}
use Prim.Native.Nat.{ℕ, zero, suc, ◌+◌, ◌-◌, ◌*◌, ◌/◌, ◌%◌, ◌^◌, ◌≤◌, ◌<◌}
use native.Mathlib.Nat.{mul_assoc, div-mul-le_self, mul-le-mul_left, mul-le-mul_right, add-mul, one-mul, zero-mul, le_of_suc-le-suc, not-suc-le-zero}
use native.Mathlib.Omega.{arith}
use lib.Dec.{T, leb, eqb, leb→le, eqb→eq}
use lib.ListN.{length, get_or, take, drop, set, length-set}
use lib.Seq.{take_all, drop-cons}
use types.Run.{OneOf}
use borrow.Author.Tests.{eqb-true, eqb-false, leb-false, eq-eqb, ne_eqb, lt-ltb, le-ltb, le-leb, lt-leb, not-false}
use Rattle.layouts.specs.Answer.{Answer, refused, gives, Copied, ◌when◌, refusal, answered}
use Rattle.layouts.specs.Bits.{field, bytes_from}
use Rattle.layouts.specs.Sizes.{key_sizes, tag_sizes}
use Rattle.layouts.specs.Mack.{listed, sizes_of, size_checks, mack_checks, nt, tag_checks, prnd_name, key_checks, key_copied}
use Rattle.layouts.specs.inner.Code.{Room}
use Rattle.layouts.specs.Meaning.{meaning_done}
use Rattle.layouts.specs.Refusals.{refusal_number, refused_by}
use Rattle.layouts.specs.declared.refusal.Refusal.{Refusal}
use Rattle.std.specs.Prelude.{Result, ⊤}
use Rattle.std.specs.Result.{IsErrAnd}
use Rattle.layouts.proofs.Refused.{carried, number_some, err_on, ok_answer, err_through, ok_on}
use Rattle.layouts.proofs.Answers.{none_fails, given_same, answer_of}
use Rattle.layouts.proofs.Fields.{field_byte, field_across}
use Rattle.layouts.proofs.Readers.{first_of}
use Rattle.layouts.proofs.Copies.{copy_more, copy_all}
use Rattle.layouts.proofs.Tables.{both_left, both_right, every}

-- a size in a list, from the code's match
in_later : (n s : ℕ) (ss : List ℕ) → OneOf (s ∷ ss) n → true ≡ listed n (s ∷ ss)
unfolding listed
in_later n s [] e = rw (eq-eqb n s e)
in_later n s (t ∷ ss) e = ⊎_elim (λ h. rw (eq-eqb n s h)) (λ h. go (eqb n s) (in_later n t ss h)) e
  where
    go : (b : Bool) → true ≡ listed n (t ∷ ss) → true ≡ cond b true (listed n (t ∷ ss))
    go true h = refl
    go false h = h

pub in_list : (n : ℕ) (ss : List ℕ) → OneOf ss n → true ≡ listed n ss
in_list n [] e = absurd e
in_list n (s ∷ ss) e = in_later n s ss e

out_later : (n s : ℕ) (ss : List ℕ) → (OneOf (s ∷ ss) n → ⊥) → false ≡ listed n (s ∷ ss)
unfolding listed
out_later n s [] e = rw (ne_eqb n s e)
out_later n s (t ∷ ss) e = rw (ne_eqb n s (λ h. e (inl h))) (out_later n t ss (λ h. e (inr h)))

pub not_in_list : (n : ℕ) (ss : List ℕ) → (OneOf ss n → ⊥) → false ≡ listed n ss
unfolding listed
not_in_list n [] e = refl
not_in_list n (s ∷ ss) e = out_later n s ss e

-- Numbers in a row are one range to the code's match: a list that begins with `many` of them, from `lo` on.
abbrev row_then : ℕ → ℕ → List ℕ → List ℕ
row_then lo zero ss = ss
row_then lo (suc many) ss = lo ∷ row_then (suc lo) many ss

pub in_row : (lo many n : ℕ) (ss : List ℕ) → lo ≤ n → n < lo + many → true ≡ listed n (row_then lo many ss)
unfolding listed
in_row lo zero n ss l h = absurd (omega arith)
in_row lo (suc many) n ss l h = go (eqb n lo) refl (λ r. in_row (suc lo) many n ss r (omega arith))
  where
    go : (b : Bool) → eqb n lo ≡ b → (suc lo ≤ n → true ≡ listed n (row_then (suc lo) many ss))
        → true ≡ cond b true (listed n (row_then (suc lo) many ss))
    go true e more = refl
    go false e more = more (omega (arith, eqb-false n lo e))

pub behind_row : (lo many n : ℕ) (ss : List ℕ) → OneOf ss n → true ≡ listed n (row_then lo many ss)
unfolding listed
behind_row lo zero n ss e = in_list n ss e
behind_row lo (suc many) n ss e = go (eqb n lo) (behind_row (suc lo) many n ss e)
  where
    go : (b : Bool) → true ≡ listed n (row_then (suc lo) many ss) → true ≡ cond b true (listed n (row_then (suc lo) many ss))
    go true more = refl
    go false more = more

pub not_in_row : (lo many n : ℕ) (ss : List ℕ) → (OneOf ss n → ⊥) → (lo ≤ n → lo + many ≤ n) → false ≡ listed n (row_then lo many ss)
unfolding listed
not_in_row lo zero n ss e h = not_in_list n ss e
not_in_row lo (suc many) n ss e h =
    rw (ne_eqb n lo (λ z. omega (arith, h (omega arith)))) (not_in_row (suc lo) many n ss e (λ l. omega (arith, h (omega arith))))

-- a test of every number of a list is a test of any that is listed
pub of_listed : (test : ℕ → Bool) (n : ℕ) (ss : List ℕ) → T (every test ss) → listed n ss ≡ true → T (test n)
unfolding listed
of_listed test n [] t e = let f : false ≡ true = e in let z : ◌≡◌ {A = ℕ} 0 1 = cc in absurd (omega arith)
of_listed test n (s ∷ ss) t e =
    go (eqb n s) refl (both_left (test s) (every test ss) t) (of_listed test n ss (both_right (test s) (every test ss) t)) e
  where
    go : (b : Bool) → eqb n s ≡ b → T (test s) → (listed n ss ≡ true → T (test n)) → cond b true (listed n ss) ≡ true → T (test n)
    go true b t ih h = rw (eqb-true n s b) t
    go false b t ih h = ih h

-- what is known of a key size k in bytes and a tag size T in bits that are not refused, and of the message
pub record Good (k T : ℕ) : Type 0 where
  pub key_some : 12 ≤ k
  pub key_few : k ≤ 32
  pub tag_some : 20 ≤ T
  pub tag_few : T ≤ 40
  pub tag_half : T % 4 ≡ 0

good_sizes : (k T : ℕ) → listed k (sizes_of key_sizes) ≡ true → listed T (sizes_of tag_sizes) ≡ true → Good k T
unfolding key_sizes tag_sizes
good_sizes k T ek et =
    record {
      key_some = leb→le _ _ (of_listed (λ s. leb 12 s) k (sizes_of key_sizes) tt ek);
      key_few = leb→le _ _ (of_listed (λ s. leb s 32) k (sizes_of key_sizes) tt ek);
      tag_some = leb→le _ _ (of_listed (λ s. leb 20 s) T (sizes_of tag_sizes) tt et);
      tag_few = leb→le _ _ (of_listed (λ s. leb s 40) T (sizes_of tag_sizes) tt et);
      tag_half = eqb→eq _ _ (of_listed (λ s. eqb (s % 4) 0) T (sizes_of tag_sizes) tt et);
    }

pub good : (k T : ℕ) → refusal (size_checks k T) ≡ 0 → Good k T
good k T e =
    let p = none_fails (size_checks k T) tt e in
    good_sizes k T (not-false _ p.0) (not-false _ p.1.0)

module _ (m : List ℕ) (k T : ℕ) (e : refusal (mack_checks m k T) ≡ 0) where
  pub good_mack : Good k T
  good_mack =
      let p = none_fails (mack_checks m k T) tt e in
      good_sizes k T (not-false _ p.1.0) (not-false _ p.1.1.0)

  pub sixty : length m ≡ 60
  sixty = eqb-true (length m) 60 (not-false _ (none_fails (mack_checks m k T) tt e).0)

-- tag n ends before the key, and the key before the end
pub tag_fits : (k T n : ℕ) → Good k T → n < nt k T → n * (T + 16) + T + 16 ≤ 480
unfolding nt
tag_fits k T n g h =
    let a : (n + 1) * (T + 16) ≤ nt k T * (T + 16) = mul-le-mul_right (T + 16) (omega arith) in
    let b : nt k T * (T + 16) ≤ 480 - 8 * k = div-mul-le_self (480 - 8 * k) (T + 16) in
    let c : (n + 1) * (T + 16) ≡ n * (T + 16) + (T + 16) = add-mul n 1 (T + 16) ∙ ap (λ (x : ℕ). n * (T + 16) + x) (one-mul (T + 16)) in
    omega arith

pub key_fits : (k T : ℕ) → Good k T → nt k T * (T + 16) + 8 * k ≤ 480
unfolding nt
key_fits k T g = omega (arith, div-mul-le_self (480 - 8 * k) (T + 16), g.key_few)

-- The refusal numbers, each from the tests that lead to it.
module _ (k T : ℕ) where
  module _ {a : Bool} (ea : a ≡ listed k (sizes_of key_sizes)) where
    pub key_unlisted : not a ≡ true → 7 ≡ refusal (size_checks k T)
    unfolding refusal
    key_unlisted h = rw (← ea, h)

    module _ (ha : not a ≡ false) {b : Bool} (eb : b ≡ listed T (sizes_of tag_sizes)) where
      pub tag_unlisted : not b ≡ true → 7 ≡ refusal (size_checks k T)
      unfolding refusal
      tag_unlisted h = rw (← ea, ha, ← eb, h)

      pub sizes_listed : not b ≡ false → 0 ≡ refusal (size_checks k T)
      unfolding refusal
      sizes_listed h = rw (← ea, ha, ← eb, h)

module _ (m : List ℕ) (k T : ℕ) where
  pub not_sixty : (length m ≡ 60 → ⊥) → 1 ≡ refusal (mack_checks m k T)
  unfolding refusal
  not_sixty h = rw (ne_eqb (length m) 60 h)

  pub sixty_then : {r : ℕ} → length m ≡ 60 → r ≡ refusal (size_checks k T) → r ≡ refusal (mack_checks m k T)
  unfolding refusal
  sixty_then e h = rw (eq-eqb (length m) 60 e) h

module _ (m : List ℕ) (k T : ℕ) (z : 0 ≡ refusal (mack_checks m k T)) where
  pub sizes_known : Good k T
  sizes_known = good_mack m k T (sym z)

  pub key_sixty : length m ≡ 60
  key_sixty = sixty m k T (sym z)

  pub tags_ready : (k ≤ 32) × (T ≤ 40)
  tags_ready = (sizes_known.key_few, sizes_known.tag_few)

  -- room in the message for tag 0 and the header's other fields
  pub header_room : Room m T 0
  header_room = (key_sixty, omega (arith, sizes_known.tag_few, zero-mul (T + 16)), sizes_known.tag_few)

module _ (m : List ℕ) (k T n : ℕ) where
  pub tag_refused : (r : Result ⊤ Refusal) (e : Refusal) → IsErrAnd r (λ (f : Refusal). f ≡ e) → refusal_number e ≡ refusal (mack_checks m k T)
      → refused_by r ≡ refusal (tag_checks m k T n)
  tag_refused r e i h = err_through (mack_checks m k T) _ r e i h

  module _ (z : 0 ≡ refusal (mack_checks m k T)) where
    then : {r : ℕ} → r ≡ refusal (7 when eqb n 0 ∷ 7 when leb (nt k T) n ∷ []) → r ≡ refusal (tag_checks m k T n)
    then h = ok_on (mack_checks m k T) _ tt z h

    pub tag_zero : n ≡ 0 → 7 ≡ refusal (tag_checks m k T n)
    unfolding refusal
    tag_zero h = then (rw (eq-eqb n 0 h))

    module _ (h0 : n ≡ 0 → ⊥) {t : ℕ} (et : t ≡ nt k T) where
      pub tag_beyond : t ≤ n → 7 ≡ refusal (tag_checks m k T n)
      unfolding refusal
      tag_beyond h = then (rw (ne_eqb n 0 h0, ← et, le-leb t n h))

      pub tag_there : n < t → 0 ≡ refusal (tag_checks m k T n)
      unfolding refusal
      tag_there h = then (rw (ne_eqb n 0 h0, ← et, lt-leb t n h))

  -- room for tag n and its info
  pub tag_room : 0 ≡ refusal (tag_checks m k T n) → Room m T n
  tag_room z =
      let p = none_fails (tag_checks m k T n) tt (sym z) in
      let g = good_sizes k T (not-false _ p.1.0) (not-false _ p.1.1.0) in
      let few : n < nt k T = leb-false (nt k T) n p.1.1.1.1.0 in
      (eqb-true (length m) 60 (not-false _ p.0), tag_fits k T n g few, g.tag_few)

-- num_tags
pub tags_told : (k T : ℕ) {t : ℕ} → 0 ≡ refusal (size_checks k T) → t ≡ nt k T
    → gives (t ∷ []) ≡ answered (refusal (size_checks k T)) (gives (nt k T ∷ []))
tags_told k T z h = ok_answer (refusal (size_checks k T)) (gives (nt k T ∷ [])) z (ap (λ (x : ℕ). gives (x ∷ [])) h)

pub sizes_ready : (k T : ℕ) → 0 ≡ refusal (size_checks k T) → (k ≤ 32) × (T ≤ 40)
sizes_ready k T z = let g = good k T (sym z) in (g.key_few, g.tag_few)

-- A number that was read, at the place of tag 0, of the header's other fields, of a tag and of its info.
module _ (m : List ℕ) (w q : ℕ) (z : 0 ≡ q) where
  abbrev Told : ℕ → ℕ → Type 0
  Told v t = gives (v ∷ []) ≡ answered q (gives (field m t w ∷ []))

  told_at : {v : ℕ} (s t : ℕ) → s ≡ t → v ≡ field m s w → Told v t
  told_at s t e h = ok_answer q (gives (field m t w ∷ [])) z (rw (h, e))

  pub told_tag : {v : ℕ} (s : ℕ) → v ≡ field m s w → Told v s
  told_tag s h = told_at s s refl h

  pub told_tag0 : {v : ℕ} (T : ℕ) → v ≡ field m (0 * (T + 16)) w → Told v 0
  told_tag0 T h = told_at (0 * (T + 16)) 0 (omega arith) h

  pub told_header : {v : ℕ} (T o : ℕ) → v ≡ field m (0 * (T + 16) + T + o) w → Told v (T + o)
  told_header T o h = told_at (0 * (T + 16) + T + o) (T + o) (omega arith) h

  pub told_macseq : {v : ℕ} (T : ℕ) → v ≡ field m (0 * (T + 16) + T + 0) w → Told v T
  told_macseq T h = told_at (0 * (T + 16) + T + 0) T (omega arith) h

-- a name, after the number
pub name_told : (name : ℕ → List ℕ) (q w : ℕ) {v : ℕ} {l : List ℕ} → gives (v ∷ []) ≡ answered q (gives (w ∷ [])) → l ≡ name v
    → gives l ≡ answered q (gives (name w))
name_told name q w gave h = given_same q (w ∷ []) (gives (name w)) gave (ap gives (h ∙ ap name (first_of (answer_of q (w ∷ []) gave))))

pub prnd_zero : (v : ℕ) → v < 1 → [] ≡ prnd_name v
unfolding prnd_name
prnd_zero v h = rw (lt-ltb v 1 h)

module _ (v : ℕ) (h : 1 ≤ v) where
  pub prnd_svid : v ≤ 36 → (1 ∷ v ∷ []) ≡ prnd_name v
  unfolding prnd_name
  prnd_svid l = rw (le-ltb v 1 h, le-leb v 36 l)

  module _ (l : 36 < v) where
    pub prnd_constellation : v ≡ 255 → (255 ∷ []) ≡ prnd_name v
    unfolding prnd_name
    prnd_constellation e = rw (le-ltb v 1 h, lt-leb v 36 l, eq-eqb v 255 e)

    pub prnd_reserved : (v ≡ 255 → ⊥) → [] ≡ prnd_name v
    unfolding prnd_name
    prnd_reserved e = rw (le-ltb v 1 h, lt-leb v 36 l, ne_eqb v 255 e)

-- The key's bytes.
cons_same : {x y : ℕ} {xs ys : List ℕ} → x ≡ y → xs ≡ ys → (x ∷ xs) ≡ (y ∷ ys)
cons_same e h = rw (e, h)

pub bytes_long : (m : List ℕ) (s n : ℕ) → length (bytes_from m s n) ≡ n
unfolding bytes_from
bytes_long m s zero = refl
bytes_long m s (suc n) = ap suc (bytes_long m (s + 8) n)

byte_of : (m : List ℕ) (s n i : ℕ) → i < n → get_or (bytes_from m s n) i 0 ≡ field m (s + 8 * i) 8
unfolding bytes_from
byte_of m s zero i h = absurd (not-suc-le-zero h)
byte_of m s (suc n) zero h = ap (λ (k : ℕ). field m k 8) (omega arith)
byte_of m s (suc n) (suc i) h = byte_of m (s + 8) n i (le_of_suc-le-suc h) ∙ ap (λ (k : ℕ). field m k 8) (omega arith)

-- bytes that are copied whole
pub whole_bytes : (m : List ℕ) (f n : ℕ) → f + n ≤ length m → ((i : ℕ) → get_or m i 0 < 2 ^ 8) → take n (drop f m) ≡ bytes_from m (8 * f) n
unfolding bytes_from
whole_bytes m f zero h small = refl
whole_bytes m f (suc n) h small =
    let here : f < length m = omega arith in
    let place : 8 * suc f ≡ 8 * f + 8 = omega arith in
    rw (drop-cons m f 0 here) (
    cons_same (sym (field_byte m f (small f)))
    (whole_bytes m (suc f) n (omega arith) small ∙ ap (λ (s : ℕ). bytes_from m s n) place)
    )

-- A loop that copies them into `d`, those from bit `s` on: so far `i` of them, and `d` has become `now`.
pub record Begun (m d : List ℕ) (s i : ℕ) (now : List ℕ) : Type 0 where
  pub few : i ≤ length d
  pub long : length now ≡ length d
  pub bytes : now ≡ take i (bytes_from m s (length d)) ++ drop i d

pub key_begun : (m d : List ℕ) (s : ℕ) → Begun m d s 0 d
key_begun m d s = record { few = omega arith; long = refl; bytes = refl }

module _ {m d now : List ℕ} {s i : ℕ} (e : Begun m d s i now) where
  key_turn : {b : ℕ} → i < length d → b ≡ field m (s + 8 * i) 8 → Begun m d s (i + 1) (set now i b)
  key_turn {b} h eb =
      let l : List ℕ = bytes_from m s (length d) in
      let here : i < length l = rw (bytes_long m s (length d)) h in
      record {
        few = omega arith;
        long = length-set now i b ∙ e.long;
        bytes = rw (e.bytes, eb, ← byte_of m s (length d) i h) (copy_more l d i here h);
      }

  pub key_copied_lem : length d ≤ i → now ≡ bytes_from m s (length d)
  key_copied_lem h =
      e.bytes ∙ copy_all (bytes_from m s (length d)) d i h
      ∙ take_all i (bytes_from m s (length d)) (rw (bytes_long m s (length d)) h)

-- a turn from a whole byte on, and one from half a byte in
pub whole_turn : (m d now : List ℕ) (f i : ℕ) → Begun m d (8 * f) i now → i < length d → get_or m (f + i) 0 < 2 ^ 8
    → Begun m d (8 * f) (i + 1) (set now i (get_or m (f + i) 0))
whole_turn m d now f i e h small =
    let place : 8 * (f + i) ≡ 8 * f + 8 * i = omega arith in
    key_turn e h (sym (field_byte m (f + i) small) ∙ ap (λ (n : ℕ). field m n 8) place)

pub half_turn : (m d now : List ℕ) (f i : ℕ) {b : ℕ} → Begun m d (8 * f + 4) i now → i < length d → get_or m (f + i + 1) 0 < 2 ^ 8
    → b ≡ get_or m (f + i) 0 % 16 * 16 + get_or m (f + i + 1) 0 / 16 → Begun m d (8 * f + 4) (i + 1) (set now i b)
half_turn m d now f i e h small eb =
    let place : 8 * (f + i) + 4 ≡ 8 * f + 4 + 8 * i = omega arith in
    key_turn e h (eb ∙ sym (field_across m (f + i) small) ∙ ap (λ (n : ℕ). field m n 8) place)

-- The same of the bytes alone, where each is copied from half a byte in.
module _ (m d now : List ℕ) (f i : ℕ) (e : now ≡ take i (bytes_from m (8 * f + 4) (length d)) ++ drop i d) where
  pub half_more : {b : ℕ} → i < length d → get_or m (f + i + 1) 0 < 2 ^ 8 → b ≡ get_or m (f + i) 0 % 16 * 16 + get_or m (f + i + 1) 0 / 16
      → set now i b ≡ take (i + 1) (bytes_from m (8 * f + 4) (length d)) ++ drop (i + 1) d
  half_more h small eb =
      let l : List ℕ = bytes_from m (8 * f + 4) (length d) in
      let here : i < length l = rw (bytes_long m (8 * f + 4) (length d)) h in
      let place : 8 * (f + i) + 4 ≡ 8 * f + 4 + 8 * i = omega arith in
      let byte : get_or l i 0 ≡ field m (8 * f + 4 + 8 * i) 8 = byte_of m (8 * f + 4) (length d) i h in
      let read : field m (8 * (f + i) + 4) 8 ≡ field m (8 * f + 4 + 8 * i) 8 = ap (λ (n : ℕ). field m n 8) place in
      rw (e, eb ∙ sym (field_across m (f + i) small) ∙ read, ← byte) (copy_more l d i here h)

  pub half_done : length d ≤ i → now ≡ bytes_from m (8 * f + 4) (length d)
  half_done h =
      let l : List ℕ = bytes_from m (8 * f + 4) (length d) in
      e ∙ copy_all l d i h ∙ take_all i l (rw (bytes_long m (8 * f + 4) (length d)) h)

-- the key starts with a byte or half a byte in
pub key_half : (t T : ℕ) → T % 4 ≡ 0 → t * (T + 16) % 4 ≡ 0
key_half t T e =
    let fours : T + 16 ≡ (T + 16) / 4 * 4 = omega arith in
    rw fours (omega (arith, mul_assoc t ((T + 16) / 4) 4))

-- The key's answers, each from the tests that lead to it.
module _ (m : List ℕ) (k T : ℕ) (out : List ℕ) where
  abbrev Copies : Answer → List ℕ → Type 0
  Copies a l = ◌≡◌ {A = Copied} (record { answer = a; bytes = l }) (key_copied m k T out)

  refused_key : (n : ℕ) → n ≡ refusal (key_checks m k T out) → (n ≡ 0 → ⊥) → Copies (refused n) out
  unfolding key_copied answered
  refused_key n f ne = rw (← f, ne_eqb n 0 ne)

  pub key_refused : (r : Result ⊤ Refusal) (e : Refusal) → IsErrAnd r (λ (f : Refusal). f ≡ e) → refusal_number e ≡ refusal (mack_checks m k T)
      → Copies (meaning_done r) out
  key_refused r e i h = rw (carried r i) (refused_key (refusal_number e) (err_on (mack_checks m k T) _ e h) (number_some e))

  module _ (z : 0 ≡ refusal (mack_checks m k T)) where
    key_then : {r : ℕ} → r ≡ refusal (1 when not (eqb (length out) k) ∷ []) → r ≡ refusal (key_checks m k T out)
    key_then h = ok_on (mack_checks m k T) _ tt z h

    pub key_length : (length out ≡ k → ⊥) → Copies (refused 1) out
    unfolding refusal
    key_length ne = refused_key 1 (key_then (rw (ne_eqb (length out) k ne))) (λ h. omega arith)

    pub key_done : {t : ℕ} {l : List ℕ} → length out ≡ k → t ≡ nt k T → l ≡ bytes_from m (t * (T + 16)) (length out)
        → Copies (gives []) l
    unfolding key_copied answered refusal
    key_done h et el =
        let none : 0 ≡ refusal (key_checks m k T out) = key_then (rw (eq-eqb (length out) k h)) in
        rw (← none, el, et, h)

-- there are at most 10 tags
pub tags_few : (k T : ℕ) → Good k T → nt k T ≤ 10
unfolding nt
tags_few k T g =
    let a : nt k T * 36 ≤ nt k T * (T + 16) = mul-le-mul_left (nt k T) (omega (arith, g.tag_some)) in
    omega (arith, div-mul-le_self (480 - 8 * k) (T + 16), g.key_some)

-- what the methods want, each at its goals
pub ruleset of_sizes = (key_unlisted, tag_unlisted, sizes_listed, sizes_ready, tags_told)

pub ruleset of_mack = (not_sixty, sixty_then, tags_ready, tag_zero, tag_beyond, tag_there, header_room, tag_room, told_tag, told_tag0, told_header, told_macseq)
