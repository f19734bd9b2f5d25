-- Document 01, "Edges, twelve marked": P1 to P12, in its order and words. Each edge is what is asked and what is to be answered;
-- the answers come from the definitions that the promises cite. The program of this crate runs other edges, those of a page replay.
-- Assumes nothing.
use Rattle.std.specs.Prelude.{ℕ, zero, suc, ◌+◌, ◌-◌, ◌*◌, ◌/◌, ◌^◌, List, [], ◌∷◌, ◌++◌, map, ◌≡◌, replicate}
use Prim.Native.String.{String}
use Rattle.layouts.specs.Answer.{Answer, refused, gives, answered, refusal}
use Rattle.layouts.specs.Bits.{the, bit}
use Rattle.layouts.specs.Sizes.{size, read_size, kroot_blocks, pkr_blocks}
use Rattle.layouts.specs.DsmKroot.{kroot_layout, ecdsa_function}
use Rattle.layouts.specs.DsmPkr.{pkr_layout, new_key_sizes, count}
use Rattle.layouts.specs.Mack.{size_checks, nt, key_copied}
use Rattle.layouts.specs.Maclt.{entry, flx_indices}
use Rattle.subframes.specs.Subframe.{word_of, subframe_of}

-- What is asked.
pub data Asked : Type 0 where
  -- the word of a time of week, and its subframe
  word : ℕ → Asked
  subframe : ℕ → Asked
  -- the blocks of a KROOT or PKR message with that count in its first half byte
  kroot_count : ℕ → Asked
  pkr_count : ℕ → Asked
  -- the number of tags for a key size k in bytes and a tag size T in bits
  tags : ℕ → ℕ → Asked
  -- for k and T, the key of a MACK message whose ones are 8 k bits from that bit on: it is all ones exactly if the key starts there
  key_at : ℕ → ℕ → ℕ → Asked
  -- the ECDSA function of a KROOT message of that length, whose key size has that code
  curve : ℕ → ℕ → Asked
  -- how many FLX tags a table's message has, and which, in four bytes; and the slot of a tag
  flx_many : ℕ → ℕ → Asked
  flx : ℕ → ℕ → Asked
  slot : ℕ → ℕ → ℕ → Asked
  -- the key bytes of a PKR message with that count in its first half byte and that key type
  new_key : ℕ → ℕ → Asked

-- that many bytes, whose ones are the bits from `first` to before `end`: the ones of a byte from its bit f on are 2 ^ (8 - f) - 1
abbrev pub ones : ℕ → ℕ → ℕ → List ℕ
ones first end zero = []
ones first end (suc many) = (2 ^ (8 - first) - 2 ^ (8 - end)) ∷ ones (first - 8) (end - 8) many

-- the zeros of a key's output, and a PKR message of 169 bytes: its first byte, and the key's type in byte 129
abbrev pub output : ℕ → List ℕ
output k = replicate k 0

abbrev pub pkr : ℕ → ℕ → List ℕ
pkr c type = 16 * c ∷ replicate 128 0 ++ (16 * type ∷ replicate 39 0)

-- What the definitions answer.
abbrev pub answer : Asked → Answer
answer (word tow) = gives (word_of tow ∷ [])
answer (subframe tow) = gives (subframe_of tow ∷ [])
answer (kroot_count c) = read_size (the "NB_DK" kroot_layout) (size kroot_blocks) (16 * c ∷ [])
answer (pkr_count c) = read_size (the "NB_DP" pkr_layout) (size pkr_blocks) (16 * c ∷ [])
answer (tags k T) = answered (refusal (size_checks k T)) (gives (nt k T ∷ []))
answer (key_at k T first) = gives (key_copied (ones first (first + 8 * k) 60) k T (output k)).bytes
answer (curve code len) = ecdsa_function (0 ∷ 0 ∷ 16 * code ∷ replicate (len - 3) 0)
answer (flx_many id message) = (flx_indices id message).answer
answer (flx id message) = gives (flx_indices id message).bytes
answer (slot id message tag) = entry id message tag
answer (new_key c type) = read_size (the "NPKT" pkr_layout) (size (new_key_sizes (count (pkr c type)))) (pkr c type)

-- An edge: the paper's words, and pairs of what is asked and what is to be answered.
infix 70 ◌⇒◌
pub record Pair : Type 0 where
  pub asked : Asked
  pub expected : Answer

abbrev pub ◌⇒◌ : Asked → Answer → Pair
a ⇒ e = record { asked = a; expected = e }

pub record Edge : Type 0 where
  pub words : String
  pub pairs : List Pair

abbrev pub edge : String → List Pair → Edge
edge w ps = record { words = w; pairs = ps }

-- the only number of an answer; no number of blocks; a key of 16 bytes that are all ones
abbrev pub is : ℕ → Answer
is n = gives (n ∷ [])

abbrev pub none : Answer
none = refused 6

abbrev pub all_ones : Answer
all_ones = gives (replicate 16 255)

-- The paper's K is in bits: what is asked has K / 8 bytes. A slot is its ADKD, then 0 for S (self) and 1 for E (cross).
-- A PKR has 13 blocks where its half byte says 7; an alert has type 4.
abbrev pub edges : List Edge
edges =
    edge "P1 tow 604799: word 14, subframe 20159." (word 604799 ⇒ is 14 ∷ subframe 604799 ⇒ is 20159 ∷ []) ∷
    edge "P2 tow 0 and 1: word 0." (word 0 ⇒ is 0 ∷ word 1 ⇒ is 0 ∷ []) ∷
    edge "P3 tow 30: word 0, subframe 1." (word 30 ⇒ is 0 ∷ subframe 30 ⇒ is 1 ∷ []) ∷
    edge "P4 KROOT counts 0 and 9: none; 8: 14." (kroot_count 0 ⇒ none ∷ kroot_count 9 ⇒ none ∷ kroot_count 8 ⇒ is 14 ∷ []) ∷
    edge "P5 PKR 6 and 11: none; 10: 16." (pkr_count 6 ⇒ none ∷ pkr_count 11 ⇒ none ∷ pkr_count 10 ⇒ is 16 ∷ []) ∷
    edge "P6 K 128, T 40: nt 6, key at bit 336." (tags (128 / 8) 40 ⇒ is 6 ∷ key_at (128 / 8) 40 336 ⇒ all_ones ∷ []) ∷
    edge "P7 K 128, T 20: nt 9, key at bit 324." (tags (128 / 8) 20 ⇒ is 9 ∷ key_at (128 / 8) 20 324 ⇒ all_ones ∷ []) ∷
    edge "P8 K 96, T 20: nt 10." (tags (96 / 8) 20 ⇒ is 10 ∷ []) ∷
    edge
    "P9 k 16, length 104: P-256; 169: P-521; 117: refusal 11."
    (curve 4 104 ⇒ is 256 ∷ curve 4 169 ⇒ is 521 ∷ curve 4 117 ⇒ refused 11 ∷ []) ∷
    edge "P10 table 35, message 1: FLX 1, 2, 4, 5." (flx_many 35 1 ⇒ is 4 ∷ flx 35 1 ⇒ gives (1 ∷ 2 ∷ 4 ∷ 5 ∷ []) ∷ []) ∷
    edge "P11 table 28, message 1: tag 6 is 04S, tag 10 is 9." (slot 28 1 6 ⇒ gives (4 ∷ 0 ∷ []) ∷ slot 28 1 10 ⇒ refused 9 ∷ []) ∷
    edge "P12 alert, count 13: 39 bytes." (new_key 7 4 ⇒ is 39 ∷ []) ∷
    []

-- Of every edge all that is asked is answered as expected.
abbrev pub answers : Edge → List Answer
answers e = map (λ (p : Pair). answer p.asked) e.pairs

abbrev pub expects : Edge → List Answer
expects e = map (λ (p : Pair). p.expected) e.pairs

abbrev pub EdgesHold : Type 0
EdgesHold = map answers edges ≡ map expects edges

-- Beside the list, request 9: "a size of 96 is then refused with 7". P8 with its K handed in as it stands, in bits.
abbrev pub RefusedInBits : Type 0
RefusedInBits = answer (tags 96 20) ≡ refused 7

-- The messages of P6 and P7, bit by bit: that many zeros, 128 ones, zeros to the end.
abbrev pub bits_from : List ℕ → ℕ → ℕ → List ℕ
bits_from m start zero = []
bits_from m start (suc many) = bit m start ∷ bits_from m (suc start) many

abbrev pub OnesLie : ℕ → Type 0
OnesLie first = bits_from (ones first (first + 128) 60) 0 480 ≡ replicate first 0 ++ replicate 128 1 ++ replicate (352 - first) 0
