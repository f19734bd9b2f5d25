-- What one call more does to a run of blocks, and the blocks in memory.
-- Assumes nothing.
use mathlib.Core.Path.{◌≡◌, refl, sym, ap, ◌∙◌}
use mathlib.Core.List.{List, [], ◌∷◌, ◌++◌, append_assoc}
use mathlib.Core.Bool.{Bool, true, false, cond, not}
use Prim.Native.Nat.{ℕ, zero, suc, ◌+◌, ◌-◌, ◌*◌, ◌/◌, ◌%◌, ◌^◌, ◌<◌}
use native.Mathlib.Omega.{arith}
use lib.Dec.{leb, eqb}
use lib.ListN.{length, get_or, take, drop, length-append, length-drop, get_or-append}
use lib.Seq.{length-take-le, get_or-take, get_or-drop, get_or-append-add, ext_get_or}
use borrow.Author.Tests.{leb-true, leb-false, eqb-true, eq-eqb}
use Rattle.layouts.specs.Lists.{put, all}
use Rattle.layouts.specs.Bits.{field, bit}
use Rattle.layouts.specs.Sizes.{kroot_blocks, pkr_blocks}
use Rattle.layouts.specs.DsmHeader.{dsm_type_of}
use Rattle.layouts.proofs.Fields.{field_in_byte}
use Rattle.dsms.specs.Dsm.{kroot_count, pkr_count, counted}
use Rattle.dsms.specs.DsmRecovery.{Call, id_in, block_in, is_admitted, same_id, run, fed, first_copy, counts, all_fed, is_whole, run_id}
use Rattle.runs.proofs.Runs.{first_from, as_the_first}
use Rattle.runs.proofs.Basics.{and_true}

-- a run with one call more
pub fed_more : (n : ℕ) (r : List Call) (c : Call) → fed n (r ++ (c ∷ [])) ≡ cond (fed n r) true (eqb (block_in c) n)
unfolding fed
fed_more n [] c = go (eqb (block_in c) n)
  where
    go : (b : Bool) → cond b true false ≡ b
    go true = refl
    go false = refl
fed_more n (d ∷ r) c = go (eqb (block_in d) n) (fed_more n r c)
  where
    go : (b : Bool) → fed n (r ++ (c ∷ [])) ≡ cond (fed n r) true (eqb (block_in c) n)
        → cond b true (fed n (r ++ (c ∷ []))) ≡ cond (cond b true (fed n r)) true (eqb (block_in c) n)
    go true h = refl
    go false h = h

pub copy_kept : (n : ℕ) (r : List Call) (c : Call) → fed n r ≡ true → first_copy n (r ++ (c ∷ [])) ≡ first_copy n r
unfolding fed first_copy
copy_kept n [] c h = let z : ◌≡◌ {A = ℕ} 0 1 = cc in absurd (omega arith)
copy_kept n (d ∷ r) c h = go (eqb (block_in d) n) (copy_kept n r c) h
  where
    go : (b : Bool) → (fed n r ≡ true → first_copy n (r ++ (c ∷ [])) ≡ first_copy n r) → cond b true (fed n r) ≡ true
        → cond b d.block (first_copy n (r ++ (c ∷ []))) ≡ cond b d.block (first_copy n r)
    go true ih h = refl
    go false ih h = ih h

pub copy_new : (n : ℕ) (r : List Call) (c : Call) → fed n r ≡ false → block_in c ≡ n → first_copy n (r ++ (c ∷ [])) ≡ c.block
unfolding fed first_copy
copy_new n [] c h e = rw (eq-eqb (block_in c) n e)
copy_new n (d ∷ r) c h e = go (eqb (block_in d) n) (λ k. copy_new n r c k e) h
  where
    go : (b : Bool) → (fed n r ≡ false → first_copy n (r ++ (c ∷ [])) ≡ c.block) → cond b true (fed n r) ≡ false
        → cond b d.block (first_copy n (r ++ (c ∷ []))) ≡ c.block
    go true ih h = let z : ◌≡◌ {A = ℕ} 0 1 = cc in absurd (omega arith)
    go false ih h = ih h

pub copy_none : (n : ℕ) (r : List Call) → fed n r ≡ false → first_copy n r ≡ []
unfolding fed first_copy
copy_none n [] h = refl
copy_none n (d ∷ r) h = go (eqb (block_in d) n) (copy_none n r) h
  where
    go : (b : Bool) → (fed n r ≡ false → first_copy n r ≡ []) → cond b true (fed n r) ≡ false → cond b d.block (first_copy n r) ≡ []
    go true ih h = let z : ◌≡◌ {A = ℕ} 0 1 = cc in absurd (omega arith)
    go false ih h = ih h

pub same_bool : (x y : Bool) → (x ≡ true → y ≡ true) → (y ≡ true → x ≡ true) → x ≡ y
same_bool true y f g = sym (f refl)
same_bool false true f g = g refl
same_bool false false f g = refl

pub yes_or : (x : Bool) → cond x true true ≡ true
yes_or true = refl
yes_or false = refl

pub or_no : (x : Bool) → cond x true false ≡ x
or_no true = refl
or_no false = refl

-- a block of the memory
abbrev pub block_at : ℕ → List ℕ → List ℕ
block_at n m = take 13 (drop (13 * n) m)

abbrev pub placed : List ℕ → ℕ → List ℕ → List ℕ
placed m n block = put m (13 * n) 13 block

pub block_long : (n : ℕ) (m : List ℕ) → length m ≡ 208 → n < 16 → length (block_at n m) ≡ 13
block_long n m l h = length-take-le 13 (drop (13 * n) m) (rw length-drop (omega arith))

pub block_byte : (n : ℕ) (m : List ℕ) (k : ℕ) → k < 13 → get_or (block_at n m) k 0 ≡ get_or m (13 * n + k) 0
block_byte n m k h = get_or-take 13 (drop (13 * n) m) k 0 h ∙ get_or-drop (13 * n) m k 0

module _ (m : List ℕ) (b : ℕ) (block : List ℕ) (lm : length m ≡ 208) (lb : length block ≡ 13) (hb : b < 16) where
  front_long : length (take (13 * b) m) ≡ 13 * b
  front_long = length-take-le (13 * b) m (omega arith)

  pub put_long : length (placed m b block) ≡ 208
  put_long = rw (length-append, length-append, front_long, length-drop) (omega arith)

  put_before : (j : ℕ) → j < 13 * b → get_or (placed m b block) j 0 ≡ get_or m j 0
  put_before j h =
      ap (λ (l : List ℕ). get_or l j 0) (append_assoc (take (13 * b) m) block (drop (13 * b + 13) m))
      ∙ get_or-append (take (13 * b) m) (block ++ drop (13 * b + 13) m) 0 j (rw front_long h) ∙ get_or-take (13 * b) m j 0 h

  put_at : (k : ℕ) → k < 13 → get_or (placed m b block) (13 * b + k) 0 ≡ get_or block k 0
  put_at k h =
      ap (λ (l : List ℕ). get_or l (13 * b + k) 0) (append_assoc (take (13 * b) m) block (drop (13 * b + 13) m))
      ∙ ap (λ (j : ℕ). get_or (take (13 * b) m ++ (block ++ drop (13 * b + 13) m)) (j + k) 0) (sym front_long)
      ∙ get_or-append-add (take (13 * b) m) (block ++ drop (13 * b + 13) m) k 0
      ∙ get_or-append block (drop (13 * b + 13) m) 0 k (rw lb h)

  put_after : (k : ℕ) → get_or (placed m b block) (13 * b + 13 + k) 0 ≡ get_or m (13 * b + 13 + k) 0
  put_after k =
      let ends : 13 * b + 13 ≡ length (take (13 * b) m ++ block) = sym (length-append (take (13 * b) m) block ∙ rw (front_long, lb)) in
      ap (λ (j : ℕ). get_or (placed m b block) (j + k) 0) ends ∙ get_or-append-add (take (13 * b) m ++ block) (drop (13 * b + 13) m) k 0
      ∙ get_or-drop (13 * b + 13) m k 0

  pub block_put : block_at b (placed m b block) ≡ block
  block_put =
      ext_get_or 0 (block_at b (placed m b block)) block (block_long b (placed m b block) put_long hb ∙ sym lb)
      (λ k h. let h : k < 13 = rw (block_long b (placed m b block) put_long hb) at h in block_byte b (placed m b block) k h ∙ put_at k h)

  pub block_other : (n : ℕ) → n < 16 → (n ≡ b → ⊥) → block_at n (placed m b block) ≡ block_at n m
  block_other n hn ne =
      ext_get_or 0 (block_at n (placed m b block)) (block_at n m) (block_long n (placed m b block) put_long hn ∙ sym (block_long n m lm hn))
      (λ k h.
      let h : k < 13 = rw (block_long n (placed m b block) put_long hn) at h in
      block_byte n (placed m b block) k h ∙ go k h (leb (13 * n + k) (13 * b)) refl ∙ sym (block_byte n m k h))
    where
      go : (k : ℕ) → k < 13 → (x : Bool) → leb (13 * n + k) (13 * b) ≡ x → get_or (placed m b block) (13 * n + k) 0 ≡ get_or m (13 * n + k) 0
      go k h true e = put_before (13 * n + k) (omega (arith, leb-true (13 * n + k) (13 * b) e))
      go k h false e =
          let far : 13 * n + k ≡ 13 * b + 13 + (13 * n + k - (13 * b + 13)) = omega (arith, leb-false (13 * n + k) (13 * b) e) in
          rw far (put_after (13 * n + k - (13 * b + 13)))

-- The count goes by byte 0 alone.
pub counted_byte : (t : ℕ) (m l : List ℕ) → get_or m 0 0 ≡ get_or l 0 0 → counted t m ≡ counted t l
unfolding counted
counted_byte t m l e =
    let half : field m 0 4 ≡ field l 0 4 =
    field_in_byte m 0 0 4 (omega arith) ∙ ap (λ (x : ℕ). x / 2 ^ 4 % 2 ^ 4) e ∙ sym (field_in_byte l 0 0 4 (omega arith)) in
    rw half

pub first_byte : (m : List ℕ) → get_or m 0 0 ≡ get_or (block_at 0 m) 0 0
first_byte [] = refl
first_byte (x ∷ m) = refl

pub counted_none : (t : ℕ) → counted t [] ≡ 0
unfolding counted kroot_blocks pkr_blocks field bit
counted_none t = go (eqb t 0)
  where
    go : (b : Bool) → cond b (kroot_count []) (pkr_count []) ≡ 0
    go true = refl
    go false = refl

-- A collector that is done stays as it is, and the run stays whole.
pub fed_stays : (n : ℕ) (r : List Call) (c : Call) → fed n r ≡ true → fed n (r ++ (c ∷ [])) ≡ true
fed_stays n r c h = fed_more n r c ∙ rw h

pub all_stays : (n : ℕ) (r : List Call) (c : Call) → all_fed n r ≡ true → all_fed n (r ++ (c ∷ [])) ≡ true
unfolding all
all_stays zero r c h = refl
all_stays (suc n) r c h = let p = and_true (all_fed n r) (fed n r) h in rw (all_stays n r c p.0, fed_stays n r c p.1)

pub fed_first : (n : ℕ) (r : List Call) → 0 < n → all_fed n r ≡ true → fed 0 r ≡ true
unfolding all
fed_first zero r l h = absurd (omega arith)
fed_first (suc zero) r l h = (and_true (all_fed zero r) (fed zero r) h).1
fed_first (suc (suc n)) r l h = fed_first (suc n) r (omega arith) (and_true (all_fed (suc n) r) (fed (suc n) r) h).0

pub nonzero : (n : ℕ) → not (eqb n 0) ≡ true → 0 < n
nonzero zero e = let z : ◌≡◌ {A = ℕ} 0 1 = cc in absurd (omega arith)
nonzero (suc n) e = omega arith

pub whole_parts : (i : ℕ) (r : List Call) → is_whole i r ≡ true → (0 < counts i r) × (all_fed (counts i r) r ≡ true)
whole_parts i r w = let p = and_true (not (eqb (counts i r) 0)) (all_fed (counts i r) r) w in (nonzero (counts i r) p.0, p.1)

pub counts_stay : (i : ℕ) (r : List Call) (c : Call) → is_whole i r ≡ true → counts i (r ++ (c ∷ [])) ≡ counts i r
counts_stay i r c w = let p = whole_parts i r w in ap (counted (dsm_type_of i)) (copy_kept 0 r c (fed_first (counts i r) r p.0 p.1))

pub whole_stays : (i : ℕ) (r : List Call) (c : Call) → is_whole i r ≡ true → is_whole i (r ++ (c ∷ [])) ≡ true
whole_stays i r c w =
    let p = and_true (not (eqb (counts i r) 0)) (all_fed (counts i r) r) w in
    rw (counts_stay i r c w, p.0, all_stays (counts i r) r c p.1)

-- the ID of a run is that of its last call
pub id_of_last : (r : List Call) (c : Call) → run_id (r ++ (c ∷ [])) ≡ id_in c
id_of_last [] c = refl
id_of_last (x ∷ []) c = refl
id_of_last (x ∷ y ∷ r) c = id_of_last (y ∷ r) c

-- All of a run have one ID, so that its first call says as much as the one before.
same_as_first : (x c d : Call) → same_id x c ≡ true → same_id x d ≡ same_id c d
same_as_first x c d e = ap (λ (k : ℕ). eqb k (id_in d)) (eqb-true (id_in x) (id_in c) e)

pub run_by_first : (cs : List Call) → run cs ≡ first_from is_admitted same_id [] cs
run_by_first cs = as_the_first is_admitted same_id same_as_first cs
