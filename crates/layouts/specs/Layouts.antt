-- What can be said of the tables as a whole.
-- Assumes nothing.
use Rattle.std.specs.Prelude.{ℕ, ◌+◌, ◌*◌, ◌%◌, ◌≤◌, ◌<◌, List, [], ◌∷◌, map, true, false, cond, ◌≡◌, T, eqb, length, get_or, drop, replicate}
use Rattle.layouts.specs.Answer.{Answer, refused, nothing, gives, Refusal, refusals, refusal}
use Rattle.layouts.specs.Bits.{row, the, value, gapless}
use Rattle.layouts.specs.NmaHeader.{nma_header}
use Rattle.layouts.specs.DsmHeader.{dsm_header}
use Rattle.layouts.specs.InavPage.{inav_page}
use Rattle.layouts.specs.DsmKroot.{kroot_layout, signature_checks, kroot_part, signature_part, padding_part}
use Rattle.layouts.specs.DsmPkr.{pkr_layout, count, padding_checks, new_key_part, padding_part as new_padding_part}
use Rattle.layouts.specs.Sizes.{key_sizes, tag_sizes}
use Rattle.layouts.specs.Mack.{listed, sizes_of, size_checks, mack_checks, tag_checks, key_checks, nt, tag_layout, tag_info, key_start, mack_layout}

-- each layout covers its bits, every bit once: the headers a byte, the page its 30 bytes, KROOT the 13 before its key, PKR the 130 before
-- its, and MACK its 60, whatever sizes it has that are not refused
pub record Covered : Type 0 where
  pub page : T (gapless 0 inav_page (8 * 30))
  pub nma : T (gapless 0 nma_header 8)
  pub dsm : T (gapless 0 dsm_header 8)
  pub kroot : T (gapless 0 kroot_layout (8 * 13))
  pub pkr : T (gapless 0 pkr_layout (8 * 130))
  pub mack : (k t : ℕ) → refusal (size_checks k t) ≡ 0 → T (gapless 0 (mack_layout k t) (8 * 60))

-- the parts are shown and follow one another without a gap, from one byte to another
abbrev pub Follow : ℕ → List Answer → ℕ → Type 0
Follow from [] to = from ≡ to
Follow from (refused n ∷ parts) to = ⊥
Follow from (nothing ∷ parts) to = ⊥
Follow from (gives [] ∷ parts) to = ⊥
Follow from (gives (first ∷ []) ∷ parts) to = ⊥
Follow from (gives (first ∷ many ∷ more) ∷ parts) to = (first ≡ from) × Follow (from + many) parts to

-- KROOT, where its checks pass: key, signature and padding cover the bytes from byte 13 to the message's end
abbrev pub KrootFollows : Type 0
KrootFollows =
    (m : List ℕ) → refusal (signature_checks m) ≡ 0 → Follow 13 (kroot_part m ∷ signature_part m ∷ padding_part m ∷ []) (length m)

-- PKR, where its checks pass and the blocks counted are there: key and padding cover the bytes from byte 130 to the end of the blocks
abbrev pub PkrFollows : Type 0
PkrFollows =
    (m : List ℕ)
    → refusal (padding_checks m) ≡ 0
    → 13 * count m ≤ length m
    → Follow 130 (new_key_part m ∷ new_padding_part m ∷ []) (13 * count m)

-- the refusal numbers are 1 to 12, in order
abbrev pub Numbered : Type 0
Numbered =
    map (λ (r : Refusal). r.number) refusals ≡ 1 ∷ 2 ∷ 3 ∷ 4 ∷ 5 ∷ 6 ∷ 7 ∷ 8 ∷ 9 ∷ 10 ∷ 11 ∷ 12 ∷ []

-- "four 32-byte tree nodes from byte 1": the rows of the nodes are those bytes
abbrev pub NodesLie : Type 0
NodesLie =
    (n : ℕ)
    → n < 4
    → ((get_or (drop 2 pkr_layout) n (row "" 0 0)).first ≡ 8 * (1 + 32 * n)) × ((get_or (drop 2 pkr_layout) n (row "" 0 0)).width ≡ 8 * 32)

-- of sizes that are not refused: a MACK message has 4 to 10 tags
abbrev pub TagsAtLeastFour : Type 0
TagsAtLeastFour = (k T : ℕ) → refusal (size_checks k T) ≡ 0 → (4 ≤ nt k T) × (nt k T ≤ 10)

-- "With 40-bit tags the key always starts on a byte" (request 3). For each listed key size in bytes, which stands first in its line,
-- and each listed tag size, 20, 24, 28, 32 and 40 bits: the bit of a byte at which the key starts. 0 is a whole byte, 4 is half a byte in.
abbrev pub KeyStarts : Type 0
KeyStarts =
    map (λ (k : ℕ). k ∷ map (λ (T : ℕ). key_start k T % 8) (sizes_of tag_sizes)) (sizes_of key_sizes)
    ≡ (12 ∷ 0 ∷ 0 ∷ 0 ∷ 0 ∷ 0 ∷ [])
    ∷ (13 ∷ 0 ∷ 0 ∷ 0 ∷ 0 ∷ 0 ∷ [])
    ∷ (14 ∷ 0 ∷ 0 ∷ 0 ∷ 0 ∷ 0 ∷ [])
    ∷ (15 ∷ 0 ∷ 0 ∷ 0 ∷ 0 ∷ 0 ∷ [])
    ∷ (16 ∷ 4 ∷ 0 ∷ 0 ∷ 0 ∷ 0 ∷ [])
    ∷ (20 ∷ 0 ∷ 0 ∷ 4 ∷ 0 ∷ 0 ∷ [])
    ∷ (24 ∷ 0 ∷ 0 ∷ 0 ∷ 0 ∷ 0 ∷ [])
    ∷ (28 ∷ 4 ∷ 0 ∷ 4 ∷ 0 ∷ 0 ∷ [])
    ∷ (32 ∷ 0 ∷ 0 ∷ 4 ∷ 0 ∷ 0 ∷ [])
    ∷ []

-- Document 01 has the key sizes in bits, "96, 104, 112, 120, 128, 160, 192, 224, 256": the listed bytes are those keys
abbrev pub key_bits : List ℕ
key_bits = 96 ∷ 104 ∷ 112 ∷ 120 ∷ 128 ∷ 160 ∷ 192 ∷ 224 ∷ 256 ∷ []

abbrev pub SameKeys : Type 0
SameKeys = map (λ (k : ℕ). 8 * k) (sizes_of key_sizes) ≡ key_bits

-- no number of that list is on the new one
abbrev pub NoneOnBoth : Type 0
NoneOnBoth = map (λ (K : ℕ). listed K (sizes_of key_sizes)) key_bits ≡ replicate 9 false

-- a size that every reader of a MACK refuses, whatever else it is asked: with 7, or with 1 for other than 60 bytes, which comes before
abbrev pub seven_of : List ℕ → ℕ
seven_of m = cond (eqb (length m) 60) 7 1

pub record SizeRefused (K : ℕ) : Type 0 where
  pub num_tags : (T : ℕ) → refusal (size_checks K T) ≡ 7
  pub header : (T : ℕ) (m : List ℕ) → refusal (mack_checks m K T) ≡ seven_of m
  pub tag : (T n : ℕ) (m : List ℕ) → refusal (tag_checks m K T n) ≡ seven_of m
  pub key : (T : ℕ) (m out : List ℕ) → refusal (key_checks m K T out) ≡ seven_of m

-- "a size of 96 is then refused with 7" (request 9): so is every size in bits
abbrev pub BitsRefused : Type 0
BitsRefused = (K : ℕ) → listed K key_bits ≡ true → SizeRefused K

-- Key and tag size exchanged are not always refused. For each listed key size k, which stands first in its line: the listed tag sizes T
-- other than k of which T bytes and k bits are not refused either. 12 pairs.
abbrev pub passing : ℕ → List ℕ → List ℕ
passing k [] = []
passing k (T ∷ Ts) = cond (eqb T k) (passing k Ts) (cond (eqb (refusal (size_checks T k)) 0) (T ∷ passing k Ts) (passing k Ts))

abbrev pub Exchanged : Type 0
Exchanged =
    map (λ (k : ℕ). k ∷ passing k (sizes_of tag_sizes)) (sizes_of key_sizes)
    ≡ (12 ∷ [])
    ∷ (13 ∷ [])
    ∷ (14 ∷ [])
    ∷ (15 ∷ [])
    ∷ (16 ∷ [])
    ∷ (20 ∷ 24 ∷ 28 ∷ 32 ∷ [])
    ∷ (24 ∷ 20 ∷ 28 ∷ 32 ∷ [])
    ∷ (28 ∷ 20 ∷ 24 ∷ 32 ∷ [])
    ∷ (32 ∷ 20 ∷ 24 ∷ 28 ∷ [])
    ∷ []

-- Tag-Info is PRND x 256 + ADKD x 16 + COP, in any message
abbrev pub TagInfoIs : Type 0
TagInfoIs =
    (m : List ℕ) (T n : ℕ)
    → value (tag_info T n) m
    ≡ value (the "PRND" (tag_layout T n)) m * 256 + value (the "ADKD" (tag_layout T n)) m * 16 + value (the "COP" (tag_layout T n)) m
