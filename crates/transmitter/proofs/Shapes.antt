-- The shapes that exist, computed.
-- Assumes nothing.
use mathlib.Core.Path.{◌≡◌, refl, sym, ap, ◌∙◌, subst}
use mathlib.Core.List.{List}
use mathlib.Core.Bool.{Bool, true, false, cond, ◌||◌}
use Prim.Native.Nat.{ℕ, ◌+◌, ◌-◌, ◌*◌, ◌≤◌, ◌<◌}
use native.Mathlib.Omega.{arith}
use lib.Dec.{T, ltb, eqb}
use lib.ListN.{length}
use borrow.Author.Tests.{ltb-false, eqb-true, le-ltb, not-false}
use Rattle.layouts.specs.Answer.{refusal}
use Rattle.layouts.specs.Packed.{too_wide}
use Rattle.layouts.specs.Sizes.{size, kroot_blocks, pkr_blocks, key_sizes, tag_sizes, key_types, naming}
use Rattle.layouts.specs.DsmKroot.{kroot_layout}
use Rattle.layouts.specs.DsmPkr.{new_key_sizes}
use Rattle.layouts.proofs.Answers.{Passed, none_fails}
use Rattle.layouts.proofs.Tables.{below, holds_below}
use Rattle.transmitter.specs.Write.{KrootValues, kroot_numbers, kroot_checks, PkrValues, pkr_rows, pkr_numbers, pkr_checks}
use Rattle.transmitter.specs.Shapes.{shape, kroot_shapes, is_kroot_shape, is_one_of, pkr_shape, pkr_shapes, is_pkr_shape, NoOtherShape, EachShape}
use Rattle.transmitter.proofs.Putting.{fits_at}

past : (a b : Bool) → a ≡ false → T (cond a true b) → T b
past true b e t = let z : ◌≡◌ {A = ℕ} 0 1 = cc in absurd (omega arith)
past false b e t = t

is_true : (a : Bool) → T a → a ≡ true
is_true true t = refl
is_true false t = absurd t

-- whatever padding fills the counted blocks, of at most 12 bytes: the shape is listed
abbrev kroot_test : ℕ → ℕ → ℕ → Bool
kroot_test s nb ks =
    cond (eqb (size kroot_blocks nb) 0) true
    (cond (eqb (size key_sizes ks) 0) true
    (cond (ltb (13 * size kroot_blocks nb) (13 + size key_sizes ks + s)) true
    (cond (ltb 12 (13 * size kroot_blocks nb - (13 + size key_sizes ks + s))) true
    (is_one_of is_kroot_shape (shape nb ks (size key_sizes ks) s (13 * size kroot_blocks nb - (13 + size key_sizes ks + s))) kroot_shapes))))

kroot_listed : (s : ℕ) → (eqb s 64 || eqb s 132) ≡ true → (nb ks : ℕ) → nb < 16 → ks < 16 → T (kroot_test s nb ks)
unfolding kroot_blocks key_sizes is_one_of kroot_shapes
kroot_listed s e nb ks h g = go (eqb s 64) (eqb s 132) refl refl e
  where
    go : (x y : Bool) → eqb s 64 ≡ x → eqb s 132 ≡ y → (x || y) ≡ true → T (kroot_test s nb ks)
    go true y ex ey o =
        subst (λ (z : ℕ). T (kroot_test z nb ks)) (sym (eqb-true s 64 ex))
        (holds_below 16 (λ k. kroot_test 64 nb k) (holds_below 16 (λ n. below 16 (λ k. kroot_test 64 n k)) tt nb h) ks g)
    go false true ex ey o =
        subst (λ (z : ℕ). T (kroot_test z nb ks)) (sym (eqb-true s 132 ey))
        (holds_below 16 (λ k. kroot_test 132 nb k) (holds_below 16 (λ n. below 16 (λ k. kroot_test 132 n k)) tt nb h) ks g)
    go false false ex ey o = let z : ◌≡◌ {A = ℕ} 0 1 = cc in absurd (omega arith)

kroot_shaped : (memory : List ℕ) (id : ℕ) (v : KrootValues) (key signature padding : List ℕ) → refusal (kroot_checks memory id v key signature padding) ≡ 0
    → is_one_of is_kroot_shape (shape v.nb_dk v.ks (length key) (length signature) (length padding)) kroot_shapes ≡ true
kroot_shaped memory id v key signature padding e =
    let p : Passed (kroot_checks memory id v key signature padding) = none_fails (kroot_checks memory id v key signature padding) tt e in
    let nb : v.nb_dk < 16 = fits_at kroot_layout (kroot_numbers v) 0 (omega arith) (omega arith) p.1.1.0 in
    let ks : v.ks < 16 = fits_at kroot_layout (kroot_numbers v) 6 (omega arith) (omega arith) p.1.1.0 in
    let k : length key ≡ size key_sizes v.ks = eqb-true _ _ (not-false _ p.1.1.1.1.1.1.1.0) in
    let few : length padding ≤ 12 = ltb-false 12 _ p.1.1.1.1.1.1.1.1.0 in
    let whole : 13 + length key + length signature + length padding ≡ 13 * size kroot_blocks v.nb_dk =
    eqb-true _ _ (not-false _ p.1.1.1.1.1.1.1.1.1.0) in
    let start : ℕ = 13 + size key_sizes v.ks + length signature in
    let end : ℕ = 13 * size kroot_blocks v.nb_dk in
    let rest : ℕ = end - start in
    let left : length padding ≡ rest = omega arith in
    ap (λ (n : ℕ). is_one_of is_kroot_shape (shape v.nb_dk v.ks n (length signature) (length padding)) kroot_shapes) k
    ∙ ap (λ (n : ℕ). is_one_of is_kroot_shape (shape v.nb_dk v.ks (size key_sizes v.ks) (length signature) n) kroot_shapes) left
    ∙ is_true _
    (past _ _ (le-ltb 12 rest (omega arith)) (past _ _ (le-ltb end start (omega arith)) (past _ _ p.1.1.1.1.1.0 (past _ _ p.1.1.1.1.0
    (kroot_listed (length signature) (not-false _ p.1.0) v.nb_dk v.ks nb ks)))))

abbrev pkr_test : ℕ → ℕ → Bool
pkr_test nb t =
    cond (eqb (size pkr_blocks nb) 0) true
    (cond (eqb (length (naming key_types t)) 0) true
    (cond (ltb (13 * size pkr_blocks nb) (130 + size (new_key_sizes (size pkr_blocks nb)) t)) true
    (is_one_of is_pkr_shape
    (pkr_shape nb t (size (new_key_sizes (size pkr_blocks nb)) t) (13 * size pkr_blocks nb - (130 + size (new_key_sizes (size pkr_blocks nb)) t))) pkr_shapes)))

pkr_listed : (nb t : ℕ) → nb < 16 → t < 16 → T (pkr_test nb t)
unfolding pkr_blocks key_types is_one_of pkr_shapes
pkr_listed nb t h g = holds_below 16 (λ k. pkr_test nb k) (holds_below 16 (λ n. below 16 (λ k. pkr_test n k)) tt nb h) t g

pkr_shaped : (memory : List ℕ) (id : ℕ) (v : PkrValues) (nodes key padding : List ℕ) → refusal (pkr_checks memory id v nodes key padding) ≡ 0
    → is_one_of is_pkr_shape (pkr_shape v.nb_dp v.npkt (length key) (length padding)) pkr_shapes ≡ true
pkr_shaped memory id v nodes key padding e =
    let p : Passed (pkr_checks memory id v nodes key padding) = none_fails (pkr_checks memory id v nodes key padding) tt e in
    let nb : v.nb_dp < 16 = fits_at pkr_rows (pkr_numbers v) 0 (omega arith) (omega arith) p.1.1.0 in
    let ty : v.npkt < 16 = fits_at pkr_rows (pkr_numbers v) 2 (omega arith) (omega arith) p.1.1.0 in
    let k : length key ≡ size (new_key_sizes (size pkr_blocks v.nb_dp)) v.npkt = eqb-true _ _ (not-false _ p.1.1.1.1.1.1.1.0) in
    let whole : 130 + length key + length padding ≡ 13 * size pkr_blocks v.nb_dp = eqb-true _ _ (not-false _ p.1.1.1.1.1.1.1.1.0) in
    let start : ℕ = 130 + size (new_key_sizes (size pkr_blocks v.nb_dp)) v.npkt in
    let end : ℕ = 13 * size pkr_blocks v.nb_dp in
    let left : length padding ≡ end - start = omega arith in
    ap (λ (n : ℕ). is_one_of is_pkr_shape (pkr_shape v.nb_dp v.npkt n (length padding)) pkr_shapes) k
    ∙ ap (λ (n : ℕ). is_one_of is_pkr_shape (pkr_shape v.nb_dp v.npkt (size (new_key_sizes (size pkr_blocks v.nb_dp)) v.npkt) n) pkr_shapes) left
    ∙ is_true _
    (past _ _ (le-ltb end start (omega arith)) (past _ _ p.1.1.1.1.1.1.0 (past _ _ p.1.1.1.1.1.0 (pkr_listed v.nb_dp v.npkt nb ty))))

pub no_other_shape : NoOtherShape
no_other_shape = record { kroot = kroot_shaped; pkr = pkr_shaped }

pub each_shape : EachShape
unfolding refusal too_wide kroot_blocks pkr_blocks key_sizes tag_sizes key_types kroot_shapes pkr_shapes
each_shape = record { kroot = refl; pkr = refl }
