-- Request 1: the messages that exist. "11 for a key not as long as its size or type says, KROOT padding above 12 bytes, or parts that don't fill the
-- counted blocks" leaves 18 shapes of a KROOT message and 9 of a PKR message.
-- Assumes nothing.
use Rattle.std.specs.Prelude.{ℕ, List, [], ◌∷◌, map, Bool, true, false, ◌&&◌, ◌||◌, ◌≡◌, length, replicate, eqb}
use Rattle.layouts.specs.Answer.{refusal}
use Rattle.transmitter.specs.Write.{KrootValues, kroot_checks, PkrValues, pkr_checks}

-- KROOT: the code of the count, the code of the key's size, and the bytes of key, signature and padding
pub record KrootShape : Type 0 where
  pub nb_dk : ℕ
  pub ks : ℕ
  pub key : ℕ
  pub signature : ℕ
  pub padding : ℕ

abbrev pub shape : ℕ → ℕ → ℕ → ℕ → ℕ → KrootShape
shape nb_dk ks key signature padding = record { nb_dk = nb_dk; ks = ks; key = key; signature = signature; padding = padding }

-- one for each key size and signature: NB_DK 4, 5 and 6 are never written
unfoldable pub kroot_shapes : List KrootShape
kroot_shapes =
    shape 1 0 12 64 2 ∷
    shape 1 1 13 64 1 ∷
    shape 1 2 14 64 0 ∷
    shape 2 3 15 64 12 ∷
    shape 2 4 16 64 11 ∷
    shape 2 5 20 64 7 ∷
    shape 2 6 24 64 3 ∷
    shape 3 7 28 64 12 ∷
    shape 3 8 32 64 8 ∷
    shape 7 0 12 132 12 ∷
    shape 7 1 13 132 11 ∷
    shape 7 2 14 132 10 ∷
    shape 7 3 15 132 9 ∷
    shape 7 4 16 132 8 ∷
    shape 7 5 20 132 4 ∷
    shape 7 6 24 132 0 ∷
    shape 8 7 28 132 9 ∷
    shape 8 8 32 132 5 ∷
    []

abbrev pub is_kroot_shape : KrootShape → KrootShape → Bool
is_kroot_shape s t =
    eqb s.nb_dk t.nb_dk && eqb s.ks t.ks && eqb s.key t.key && eqb s.signature t.signature && eqb s.padding t.padding

unfoldable pub is_one_of : {A : Type 0} → (A → A → Bool) → A → List A → Bool
is_one_of same s [] = false
is_one_of same s (t ∷ ts) = same s t || is_one_of same s ts

-- PKR: the code of the count, the type, and the bytes of key and padding
pub record PkrShape : Type 0 where
  pub nb_dp : ℕ
  pub npkt : ℕ
  pub key : ℕ
  pub padding : ℕ

abbrev pub pkr_shape : ℕ → ℕ → ℕ → ℕ → PkrShape
pkr_shape nb_dp npkt key padding = record { nb_dp = nb_dp; npkt = npkt; key = key; padding = padding }

-- a P-256 key in 13 to 16 blocks, a P-521 key in 16 alone, an alert that fills 13 to 16
unfoldable pub pkr_shapes : List PkrShape
pkr_shapes =
    pkr_shape 7 1 33 6 ∷
    pkr_shape 8 1 33 19 ∷
    pkr_shape 9 1 33 32 ∷
    pkr_shape 10 1 33 45 ∷
    pkr_shape 10 3 67 11 ∷
    pkr_shape 7 4 39 0 ∷
    pkr_shape 8 4 52 0 ∷
    pkr_shape 9 4 65 0 ∷
    pkr_shape 10 4 78 0 ∷
    []

abbrev pub is_pkr_shape : PkrShape → PkrShape → Bool
is_pkr_shape s t = eqb s.nb_dp t.nb_dp && eqb s.npkt t.npkt && eqb s.key t.key && eqb s.padding t.padding

-- No other is written, ..
pub record NoOtherShape : Type 0 where
  pub kroot : (memory : List ℕ) (id : ℕ) (v : KrootValues) (key signature padding : List ℕ)
      → refusal (kroot_checks memory id v key signature padding) ≡ 0
      → is_one_of is_kroot_shape (shape v.nb_dk v.ks (length key) (length signature) (length padding)) kroot_shapes ≡ true
  pub pkr : (memory : List ℕ) (id : ℕ) (v : PkrValues) (nodes key padding : List ℕ)
      → refusal (pkr_checks memory id v nodes key padding) ≡ 0
      → is_one_of is_pkr_shape (pkr_shape v.nb_dp v.npkt (length key) (length padding)) pkr_shapes ≡ true

-- .. and each of them is: here with zeros for all that has no part in it, and the smallest legal tag size.
abbrev pub of_kroot_shape : KrootShape → ℕ
of_kroot_shape s =
    refusal
    (kroot_checks (replicate 208 0) 0
    (record { nb_dk = s.nb_dk; pkid = 0; cidkr = 0; hf = 0; mf = 0; ks = s.ks; ts = 5; maclt = 0; wn_k = 0; towh_k = 0; alpha = 0 })
    (replicate s.key 0) (replicate s.signature 0) (replicate s.padding 0))

abbrev pub of_pkr_shape : PkrShape → ℕ
of_pkr_shape s =
    refusal
    (pkr_checks (replicate 208 0) 12 (record { nb_dp = s.nb_dp; mid = 0; npkt = s.npkt; npkid = 0 }) (replicate 128 0) (replicate s.key 0)
    (replicate s.padding 0))

pub record EachShape : Type 0 where
  pub kroot : map of_kroot_shape kroot_shapes ≡ replicate 18 0
  pub pkr : map of_pkr_shape pkr_shapes ≡ replicate 9 0
