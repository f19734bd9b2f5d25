-- Messages from their parts, put one behind the other; what the writers answer.
-- Assumes nothing.
use mathlib.Core.Path.{◌≡◌, refl, sym, ap, ◌∙◌}
use mathlib.Core.List.{List, [], ◌∷◌, ◌++◌}
use mathlib.Core.Bool.{Bool, true, false, cond, not}
use Prim.Native.Nat.{ℕ, zero, suc, ◌+◌, ◌*◌, ◌^◌, ◌≤◌, ◌<◌}
use native.Mathlib.Nat.{le_of_suc-le-suc, not-suc-le-zero}
use native.Mathlib.Omega.{arith}
use lib.Dec.{ltb, eqb}
use lib.ListN.{length, get_or, take, drop, length-append}
use lib.Seq.{take_at, drop-append-add, drop-drop}
use borrow.Author.Tests.{ltb-false, eqb-true, lt-ltb, le-ltb, ne_eqb, not-false}
use Rattle.std.specs.Prelude.{Result}
use Rattle.std.specs.Result.{IsErrAnd}
use Rattle.layouts.specs.Refusals.{refusal_number}
use Rattle.layouts.specs.declared.refusal.Refusal.{Refusal}
use Rattle.layouts.proofs.Refused.{number_some, carried}
use Rattle.dsms.specs.declared.dsm.CompleteDsm.{CompleteDsm}
use Rattle.layouts.specs.Answer.{gives, Check, refusal}
use Rattle.layouts.specs.Bits.{Field, row}
use Rattle.layouts.specs.Sizes.{size, kroot_blocks, pkr_blocks}
use Rattle.layouts.specs.DsmHeader.{dsm_type_of}
use Rattle.layouts.specs.DsmKroot.{kroot_layout}
use Rattle.layouts.proofs.Answers.{Passed, none_fails}
use Rattle.layouts.specs.Packed.{too_wide, bytes_of, packed_on}
use Rattle.transmitter.specs.Write.{Written, written, KrootValues, kroot_numbers, kroot_message, kroot_checks, write_kroot, pkr_rows, pkr_numbers}
use Rattle.transmitter.specs.Write.{pkr_first, pkr_second}
use Rattle.transmitter.specs.Write.{PkrValues, pkr_message, pkr_checks, write_pkr}
use Rattle.transmitter.specs.WritePromises.{kroot_of, pkr_of, meaning_written}
use Rattle.transmitter.specs.inner.Parts.{put_at, over, Narrow, Halves}
use Rattle.transmitter.specs.declared.kroot.KrootValues.{KrootValues as KrootNumbers}
use Rattle.transmitter.specs.declared.pkr.PkrValues.{PkrValues as PkrNumbers}
use Rattle.layouts.proofs.Packed.{length_bytes, or_false, not_wide}
use Rattle.transmitter.proofs.PkrRefusals.{pkr_blocks_few}
use Rattle.transmitter.proofs.Rows.{more}
use Rattle.transmitter.proofs.Writes.{written_is}

-- one part more behind what stands there
pub put_on : (d p s : List ℕ) {now after : List ℕ} (at : ℕ) → after ≡ put_at now at s → now ≡ over p d → at ≡ length p → after ≡ over (p ++ s) d
put_on d p s {now} at a e l =
    let front : take at now ≡ p = ap (take at) e ∙ take_at p (drop (length p) d) at (sym l) in
    let back : drop (at + length s) now ≡ drop (length (p ++ s)) d =
    ap (λ (n : ℕ). drop (n + length s) now) l ∙ ap (drop (length p + length s)) e ∙ drop-append-add p (drop (length p) d) (length s)
    ∙ drop-drop (length s) (length p) d ∙ ap (λ (n : ℕ). drop n d) (sym (length-append p s)) in
    a ∙ ap (λ (x : List ℕ). x ++ s ++ drop (at + length s) now) front ∙ ap (λ (x : List ℕ). p ++ s ++ x) back

-- 7 bytes of a head, then 6 of alpha
pub head_apart : (n h l : ℕ) → n ≡ h * 2 ^ 48 + l → l < 2 ^ 48 → bytes_of 13 n ≡ bytes_of 7 h ++ bytes_of 6 l
unfolding bytes_of
head_apart n h l e b =
    more (omega arith) (more (omega arith) (more (omega arith) (more (omega arith) (more (omega arith) (more (omega arith) (more (omega arith)
    (more (omega arith) (more (omega arith) (more (omega arith) (more (omega arith) (more (omega arith) (more (omega arith) refl))))))))))))

pub kroot_put : (v : KrootValues) (key signature padding d : List ℕ) (h : ℕ) {a b c e f : List ℕ} {k s : ℕ}
    → packed_on 0 kroot_layout (kroot_numbers v) ≡ h * 2 ^ 48 + v.alpha → v.alpha < 2 ^ 48
    → a ≡ put_at d 0 (bytes_of 7 h) → b ≡ put_at a 7 (bytes_of 6 v.alpha) → c ≡ put_at b 13 key → e ≡ put_at c k signature → k ≡ 13 + length key
    → f ≡ put_at e s padding → s ≡ k + length signature
    → f ≡ over (kroot_message v key signature padding) d
unfolding kroot_message
kroot_put v key signature padding d h {k = k} {s = s} n l ea eb ec ee ek ef es =
    let p7 : List ℕ = bytes_of 7 h in
    let p13 : List ℕ = bytes_of 7 h ++ bytes_of 6 v.alpha in
    let l7 : length p7 ≡ 7 = length_bytes 7 h in
    let l13 : length p13 ≡ 13 = simp length-append (omega (arith, l7, length_bytes 6 v.alpha)) in
    let sa = put_on d [] p7 0 ea refl refl in
    let sb = put_on d p7 (bytes_of 6 v.alpha) 7 eb sa (sym l7) in
    let sc = put_on d p13 key 13 ec sb (sym l13) in
    let lk : k ≡ length (p13 ++ key) = ek ∙ sym (length-append p13 key ∙ ap (λ (n : ℕ). n + length key) l13) in
    let ls : s ≡ length (p13 ++ key ++ signature) = es ∙ sym (length-append (p13 ++ key) signature ∙ ap (λ (n : ℕ). n + length signature) (sym lk)) in
    let se = put_on d (p13 ++ key) signature k ee sc lk in
    let sf = put_on d (p13 ++ key ++ signature) padding s ef se ls in
    sf ∙ ap (λ (x : List ℕ). over (x ++ key ++ signature ++ padding) d) (sym (head_apart (packed_on 0 kroot_layout (kroot_numbers v)) h v.alpha n l))

-- a write that is refused, and one that is not
pub write_refused : (checks : List Check) (memory message : List ℕ) (id : ℕ) (r : Result CompleteDsm Refusal) (e : Refusal)
    → IsErrAnd r (λ (f : Refusal). f ≡ e) → refusal_number e ≡ refusal checks
    → ◌≡◌ {A = Written} (record { memory = memory; answer = meaning_written r }) (written checks memory message id)
unfolding written
write_refused checks memory message id r e i h =
    rw (carried r i, ← h, ne_eqb (refusal_number e) 0 (number_some e))

pub write_done : (checks : List Check) (memory message : List ℕ) (id t : ℕ) {n : ℕ} {after : List ℕ} → 0 ≡ refusal checks
    → after ≡ over message memory → dsm_type_of id ≡ t → n ≡ length message
    → ◌≡◌ {A = Written} (record { memory = after; answer = gives (id ∷ t ∷ n ∷ []) }) (written checks memory message id)
write_done checks memory message id t e a d l =
    rw (a, ← d, l) (sym (written_is checks memory message id (sym e)))

pub kroot_blocks_few : (n : ℕ) → size kroot_blocks n ≤ 14
unfolding kroot_blocks
kroot_blocks_few n = go (eqb n 1) (eqb n 2) (eqb n 3) (eqb n 4) (eqb n 5) (eqb n 6) (eqb n 7) (eqb n 8)
  where
    go : (a b c d e f g h : Bool) → cond a 7 (cond b 8 (cond c 9 (cond d 10 (cond e 11 (cond f 12 (cond g 13 (cond h 14 0))))))) ≤ 14
    go true b c d e f g h = omega arith
    go false true c d e f g h = omega arith
    go false false true d e f g h = omega arith
    go false false false true e f g h = omega arith
    go false false false false true f g h = omega arith
    go false false false false false true g h = omega arith
    go false false false false false false true h = omega arith
    go false false false false false false false true = omega arith
    go false false false false false false false false = omega arith

-- not too wide: each value fits its row
pub fits_at : (fs : List Field) (vs : List ℕ) (i : ℕ) → i < length fs → i < length vs → too_wide fs vs ≡ false → get_or vs i 0 < 2 ^ (get_or fs i (row "" 0 0)).width
unfolding too_wide
fits_at [] vs i h l e = absurd (not-suc-le-zero h)
fits_at (f ∷ fs) [] i h l e = absurd (not-suc-le-zero l)
fits_at (f ∷ fs) (v ∷ vs) zero h l e = not_wide v (2 ^ f.width) (or_false (not (ltb v (2 ^ f.width))) (too_wide fs vs) e).0
fits_at (f ∷ fs) (v ∷ vs) (suc i) h l e =
    fits_at fs vs i (le_of_suc-le-suc h) (le_of_suc-le-suc l) (or_false (not (ltb v (2 ^ f.width))) (too_wide fs vs) e).1

pub narrow : (v : KrootNumbers) → too_wide kroot_layout (kroot_numbers (kroot_of v)) ≡ false → Narrow v
narrow v e =
    let at : (i : ℕ) → i < 13 → get_or (kroot_numbers (kroot_of v)) i 0 < 2 ^ (get_or kroot_layout i (row "" 0 0)).width =
    λ i h. fits_at kroot_layout (kroot_numbers (kroot_of v)) i h h e in
    record {
      nb_dk = at 0 (omega arith);
      pkid = at 1 (omega arith);
      cidkr = at 2 (omega arith);
      hf = at 4 (omega arith);
      mf = at 5 (omega arith);
      ks = at 6 (omega arith);
      ts = at 7 (omega arith);
      maclt = at 8 (omega arith);
      wn_k = at 10 (omega arith);
      towh_k = at 11 (omega arith);
      alpha = at 12 (omega arith);
    }

-- what a KROOT message that is not refused meets
module _ (memory : List ℕ) (id : ℕ) (v : KrootNumbers) (key signature padding : List ℕ)
    (e : 0 ≡ refusal (kroot_checks memory id (kroot_of v) key signature padding)) where
  checked : Passed (kroot_checks memory id (kroot_of v) key signature padding)
  checked = none_fails (kroot_checks memory id (kroot_of v) key signature padding) tt (sym e)

  pub kroot_narrow : Narrow v
  kroot_narrow = narrow v checked.1.1.0

  pub kroot_id : id ≤ 11
  kroot_id = ltb-false 11 id checked.1.1.1.0

  kroot_208 : length memory ≡ 208
  kroot_208 = eqb-true (length memory) 208 (not-false _ checked.0)

  kroot_whole : 13 + length key + length signature + length padding ≡ 13 * size kroot_blocks v.nb_dk
  kroot_whole =
      eqb-true (13 + length key + length signature + length padding) (13 * size kroot_blocks v.nb_dk) (not-false _ checked.1.1.1.1.1.1.1.1.1.0)

  pub kroot_fits : 13 + length key + length signature + length padding ≤ length memory
  kroot_fits =
      omega (arith, kroot_blocks_few v.nb_dk, kroot_208, kroot_whole)

  pub kroot_long : 13 + length key + length signature + length padding ≤ 208
  kroot_long = omega (arith, kroot_fits, kroot_208)

length_kroot : (v : KrootValues) (key signature padding : List ℕ)
    → length (kroot_message v key signature padding) ≡ 13 + length key + length signature + length padding
unfolding kroot_message
length_kroot v key signature padding = simp length-append (omega (arith, length_bytes 13 (packed_on 0 kroot_layout (kroot_numbers v))))

pub kroot_refused : (memory : List ℕ) (id : ℕ) (v : KrootValues) (key signature padding : List ℕ) (r : Result CompleteDsm Refusal) (e : Refusal)
    → IsErrAnd r (λ (f : Refusal). f ≡ e) → refusal_number e ≡ refusal (kroot_checks memory id v key signature padding)
    → ◌≡◌ {A = Written} (record { memory = memory; answer = meaning_written r }) (write_kroot memory id v key signature padding)
unfolding write_kroot
kroot_refused memory id v key signature padding r e i h = write_refused _ memory _ id r e i h

pub kroot_written : (memory : List ℕ) (id : ℕ) (v : KrootValues) (key signature padding : List ℕ) {n : ℕ} {after : List ℕ}
    → 0 ≡ refusal (kroot_checks memory id v key signature padding)
    → after ≡ over (kroot_message v key signature padding) memory → id ≤ 11 → n ≡ 13 + length key + length signature + length padding
    → ◌≡◌ {A = Written} (record { memory = after; answer = gives (id ∷ 0 ∷ n ∷ []) }) (write_kroot memory id v key signature padding)
unfolding write_kroot
kroot_written memory id v key signature padding e a h n =
    write_done _ memory (kroot_message v key signature padding) id 0 e a (ap (λ (b : Bool). cond b 0 1) (lt-ltb id 12 (omega arith)))
    (n ∙ sym (length_kroot v key signature padding))

-- the same of a PKR message
pub pkr_put : (v : PkrValues) (nodes key padding d : List ℕ) (x y : ℕ) {a b c e f : List ℕ} {k : ℕ} → length nodes ≡ 128
    → x ≡ packed_on 0 pkr_first (v.nb_dp ∷ v.mid ∷ []) → y ≡ packed_on 0 pkr_second (v.npkt ∷ v.npkid ∷ [])
    → a ≡ put_at d 0 (bytes_of 1 x) → b ≡ put_at a 1 nodes → c ≡ put_at b 129 (bytes_of 1 y) → e ≡ put_at c 130 key → f ≡ put_at e k padding → k ≡ 130 + length key
    → f ≡ over (pkr_message v nodes key padding) d
unfolding pkr_message
pkr_put v nodes key padding d x y {k = k} n ex ey ea eb ec ee ef ek =
    let p : List ℕ = bytes_of 1 x in
    let q : List ℕ = bytes_of 1 y in
    let lp : length p ≡ 1 = length_bytes 1 x in
    let lq : length q ≡ 1 = length_bytes 1 y in
    let l129 : length (p ++ nodes) ≡ 129 = length-append p nodes ∙ omega arith in
    let l130 : length (p ++ nodes ++ q) ≡ 130 = length-append (p ++ nodes) q ∙ omega arith in
    let lk : k ≡ length (p ++ nodes ++ q ++ key) = ek ∙ sym (length-append (p ++ nodes ++ q) key ∙ ap (λ (n : ℕ). n + length key) l130) in
    let sa = put_on d [] p 0 ea refl refl in
    let sb = put_on d p nodes 1 eb sa (sym lp) in
    let sc = put_on d (p ++ nodes) q 129 ec sb (sym l129) in
    let se = put_on d (p ++ nodes ++ q) key 130 ee sc (sym l130) in
    let sf = put_on d (p ++ nodes ++ q ++ key) padding k ef se lk in
    sf ∙ ap (λ (n : ℕ). over (bytes_of 1 n ++ nodes ++ q ++ key ++ padding) d) ex
    ∙ ap (λ (n : ℕ). over (bytes_of 1 (packed_on 0 pkr_first (v.nb_dp ∷ v.mid ∷ [])) ++ nodes ++ bytes_of 1 n ++ key ++ padding) d) ey

module _ (memory : List ℕ) (id : ℕ) (v : PkrNumbers) (nodes key padding : List ℕ)
    (e : 0 ≡ refusal (pkr_checks memory id (pkr_of v) nodes key padding)) where
  pkr_checked : Passed (pkr_checks memory id (pkr_of v) nodes key padding)
  pkr_checked = none_fails (pkr_checks memory id (pkr_of v) nodes key padding) tt (sym e)

  pub pkr_halves : Halves v
  pkr_halves =
      let at : (i : ℕ) → i < 4 → get_or (pkr_numbers (pkr_of v)) i 0 < 2 ^ (get_or pkr_rows i (row "" 0 0)).width =
      λ i h. fits_at pkr_rows (pkr_numbers (pkr_of v)) i h h pkr_checked.1.1.0 in
      record { nb_dp = at 0 (omega arith); mid = at 1 (omega arith); npkt = at 2 (omega arith); npkid = at 3 (omega arith) }

  pub pkr_id : id ≤ 15
  pkr_id = ltb-false 15 id pkr_checked.1.1.1.1.0

  pub pkr_kind : 12 ≤ id
  pkr_kind = ltb-false id 12 pkr_checked.1.1.1.0

  pub pkr_nodes_long : length nodes ≡ 128
  pkr_nodes_long = eqb-true (length nodes) 128 (not-false _ pkr_checked.1.0)

  pkr_208 : length memory ≡ 208
  pkr_208 = eqb-true (length memory) 208 (not-false _ pkr_checked.0)

  pkr_whole : 130 + length key + length padding ≡ 13 * size pkr_blocks v.nb_dp
  pkr_whole = eqb-true (130 + length key + length padding) (13 * size pkr_blocks v.nb_dp) (not-false _ pkr_checked.1.1.1.1.1.1.1.1.0)

  pub pkr_fits : 130 + length key + length padding ≤ length memory
  pkr_fits = omega (arith, pkr_blocks_few v.nb_dp, pkr_208, pkr_whole)

  pub pkr_long : 130 + length key + length padding ≤ 208
  pkr_long = omega (arith, pkr_fits, pkr_208)

length_pkr : (v : PkrValues) (nodes key padding : List ℕ) → length nodes ≡ 128 → length (pkr_message v nodes key padding) ≡ 130 + length key + length padding
unfolding pkr_message
length_pkr v nodes key padding h =
    simp length-append
    (omega (arith, length_bytes 1 (packed_on 0 pkr_first (v.nb_dp ∷ v.mid ∷ [])), length_bytes 1 (packed_on 0 pkr_second (v.npkt ∷ v.npkid ∷ []))))

pub pkr_refused : (memory : List ℕ) (id : ℕ) (v : PkrValues) (nodes key padding : List ℕ) (r : Result CompleteDsm Refusal) (e : Refusal)
    → IsErrAnd r (λ (f : Refusal). f ≡ e) → refusal_number e ≡ refusal (pkr_checks memory id v nodes key padding)
    → ◌≡◌ {A = Written} (record { memory = memory; answer = meaning_written r }) (write_pkr memory id v nodes key padding)
unfolding write_pkr
pkr_refused memory id v nodes key padding r e i h = write_refused _ memory _ id r e i h

pub pkr_written : (memory : List ℕ) (id : ℕ) (v : PkrValues) (nodes key padding : List ℕ) {n : ℕ} {after : List ℕ}
    → 0 ≡ refusal (pkr_checks memory id v nodes key padding)
    → after ≡ over (pkr_message v nodes key padding) memory → 12 ≤ id → length nodes ≡ 128 → n ≡ 130 + length key + length padding
    → ◌≡◌ {A = Written} (record { memory = after; answer = gives (id ∷ 1 ∷ n ∷ []) }) (write_pkr memory id v nodes key padding)
unfolding write_pkr
pkr_written memory id v nodes key padding e a h l n =
    write_done _ memory (pkr_message v nodes key padding) id 1 e a (ap (λ (b : Bool). cond b 0 1) (le-ltb id 12 h))
    (n ∙ sym (length_pkr v nodes key padding l))
