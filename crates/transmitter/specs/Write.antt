-- Request 1 of document 02, "Bench transmitter: write KROOT and PKR": the message that values and parts make, what is refused, the raw numbers of a
-- message, and the blocks that it is cut into. The rows are those of the readers (`DsmKroot.antt`, `DsmPkr.antt`, `DsmHeader.antt` of `layouts`).
-- Assumes nothing.
use Rattle.std.specs.Prelude.{ℕ, ◌+◌, ◌*◌, List, [], ◌∷◌, ◌++◌, map, cond, not, ◌||◌, length, take, drop, replicate, ltb, eqb}
use Rattle.layouts.specs.Answer.{Answer, refused, gives, Check, ◌when◌, refusal, answered, Copied, answered_with}
use Rattle.layouts.specs.Bits.{Field, the, value, reach}
use Rattle.layouts.specs.Packed.{packed_on, packed, too_wide}
use Rattle.layouts.specs.Sizes.{size, kroot_blocks, pkr_blocks, key_sizes, tag_sizes, key_types, naming}
use Rattle.layouts.specs.DsmHeader.{dsm_header, dsm_type_of}
use Rattle.layouts.specs.DsmKroot.{kroot_layout}
use Rattle.layouts.specs.DsmPkr.{pkr_layout, new_key_sizes}
use Rattle.dsms.specs.Dsm.{counted}

-- What a write makes of the lent bytes, and its answer: an ID, a type and the message's length, as the collector answers them.
pub record Written : Type 0 where
  pub memory : List ℕ
  pub answer : Answer

-- "write the DSM into 208 lent bytes; bytes after its end keep their contents"; where refused all do
unfoldable pub written : List Check → List ℕ → List ℕ → ℕ → Written
written checks memory message id =
    cond (eqb (refusal checks) 0)
    (record { memory = message ++ drop (length message) memory; answer = gives (id ∷ dsm_type_of id ∷ length message ∷ []) })
    (record { memory = memory; answer = refused (refusal checks) })

-- KROOT: "a full set of field values as raw numbers (so a hash, MAC or table number that reads as Reserved or unknown is carried as it stands)"
pub record KrootValues : Type 0 where
  pub nb_dk : ℕ
  pub pkid : ℕ
  pub cidkr : ℕ
  pub hf : ℕ
  pub mf : ℕ
  pub ks : ℕ
  pub ts : ℕ
  pub maclt : ℕ
  pub wn_k : ℕ
  pub towh_k : ℕ
  pub alpha : ℕ

-- in the layout's order; "Reserved bits are written as zero"
abbrev pub kroot_numbers : KrootValues → List ℕ
kroot_numbers v =
    v.nb_dk ∷ v.pkid ∷ v.cidkr ∷ 0 ∷ v.hf ∷ v.mf ∷ v.ks ∷ v.ts ∷ v.maclt ∷ 0 ∷ v.wn_k ∷ v.towh_k ∷ v.alpha ∷ []

-- "a key, a signature or tree nodes, and padding": the 13 bytes of the rows, then the parts
unfoldable pub kroot_message : KrootValues → List ℕ → List ℕ → List ℕ → List ℕ
kroot_message v key signature padding = packed 13 kroot_layout (kroot_numbers v) ++ key ++ signature ++ padding

-- "Refusals, in this order: 1 (signature 64 or 132 bytes, nodes 128); 7 for a value too wide for its field, a week too, or a DSM ID of the other kind;
-- 6 for a reserved size, count or key type; 11 for a key not as long as its size or type says, KROOT padding above 12 bytes, or parts that don't fill
-- the counted blocks."
abbrev pub kroot_checks : List ℕ → ℕ → KrootValues → List ℕ → List ℕ → List ℕ → List Check
kroot_checks memory id v key signature padding =
    1 when not (eqb (length memory) 208) ∷
    1 when not (eqb (length signature) 64 || eqb (length signature) 132) ∷
    7 when too_wide kroot_layout (kroot_numbers v) ∷
    7 when ltb 11 id ∷
    6 when eqb (size kroot_blocks v.nb_dk) 0 ∷
    6 when eqb (size key_sizes v.ks) 0 ∷
    6 when eqb (size tag_sizes v.ts) 0 ∷
    11 when not (eqb (length key) (size key_sizes v.ks)) ∷
    11 when ltb 12 (length padding) ∷
    11 when not (eqb (13 + length key + length signature + length padding) (13 * size kroot_blocks v.nb_dk)) ∷
    []

unfoldable pub write_kroot : List ℕ → ℕ → KrootValues → List ℕ → List ℕ → List ℕ → Written
write_kroot memory id v key signature padding =
    written (kroot_checks memory id v key signature padding) memory (kroot_message v key signature padding) id

-- PKR: the two halves of byte 0, the nodes, the two halves of byte 129, the key, the padding
pub record PkrValues : Type 0 where
  pub nb_dp : ℕ
  pub mid : ℕ
  pub npkt : ℕ
  pub npkid : ℕ

-- the rows but for the nodes, and the values in their order
abbrev pub pkr_rows : List Field
pkr_rows = the "NB_DP" pkr_layout ∷ the "MID" pkr_layout ∷ the "NPKT" pkr_layout ∷ the "NPKID" pkr_layout ∷ []

abbrev pub pkr_numbers : PkrValues → List ℕ
pkr_numbers v = v.nb_dp ∷ v.mid ∷ v.npkt ∷ v.npkid ∷ []

-- bytes 0 and 129
abbrev pub pkr_first : List Field
pkr_first = the "NB_DP" pkr_layout ∷ the "MID" pkr_layout ∷ []

abbrev pub pkr_second : List Field
pkr_second = the "NPKT" pkr_layout ∷ the "NPKID" pkr_layout ∷ []

unfoldable pub pkr_message : PkrValues → List ℕ → List ℕ → List ℕ → List ℕ
pkr_message v nodes key padding =
    packed 1 pkr_first (v.nb_dp ∷ v.mid ∷ []) ++ nodes ++ packed 1 pkr_second (v.npkt ∷ v.npkid ∷ []) ++ key ++ padding

abbrev pub pkr_checks : List ℕ → ℕ → PkrValues → List ℕ → List ℕ → List ℕ → List Check
pkr_checks memory id v nodes key padding =
    1 when not (eqb (length memory) 208) ∷
    1 when not (eqb (length nodes) 128) ∷
    7 when too_wide pkr_rows (pkr_numbers v) ∷
    7 when ltb id 12 ∷
    7 when ltb 15 id ∷
    6 when eqb (size pkr_blocks v.nb_dp) 0 ∷
    6 when eqb (length (naming key_types v.npkt)) 0 ∷
    11 when not (eqb (length key) (size (new_key_sizes (size pkr_blocks v.nb_dp)) v.npkt)) ∷
    11 when not (eqb (130 + length key + length padding) (13 * size pkr_blocks v.nb_dp)) ∷
    []

unfoldable pub write_pkr : List ℕ → ℕ → PkrValues → List ℕ → List ℕ → List ℕ → Written
write_pkr memory id v nodes key padding =
    written (pkr_checks memory id v nodes key padding) memory (pkr_message v nodes key padding) id

-- The raw numbers of a message, each as it stands in its row: 5 where the message ends before one of the rows does.
unfoldable pub raw_numbers : List Field → List ℕ → Answer
raw_numbers rows m = answered (refusal (map (λ (f : Field). reach f m) rows)) (gives (map (λ (f : Field). value f m) rows))

-- the rows of a KROOT message but for the reserved ones
abbrev pub kroot_rows : List Field
kroot_rows =
    the "NB_DK" kroot_layout ∷
    the "PKID" kroot_layout ∷
    the "CIDKR" kroot_layout ∷
    the "HF" kroot_layout ∷
    the "MF" kroot_layout ∷
    the "KS" kroot_layout ∷
    the "TS" kroot_layout ∷
    the "MACLT" kroot_layout ∷
    the "WN_K" kroot_layout ∷
    the "TOWH_K" kroot_layout ∷
    the "alpha" kroot_layout ∷
    []

-- "Cut it into blocks with headers too": the number of blocks that byte 0 says, for the type that the ID has; 0 where it is reserved
abbrev pub blocks : List ℕ → ℕ → ℕ
blocks memory id = counted (dsm_type_of id) memory

abbrev pub cut_checks : List ℕ → ℕ → ℕ → List Check
cut_checks memory id n =
    1 when not (eqb (length memory) 208) ∷
    7 when ltb 15 id ∷
    7 when ltb 15 n ∷
    6 when eqb (blocks memory id) 0 ∷
    7 when not (ltb n (blocks memory id)) ∷
    []

-- "with headers": the two halves of a header byte
abbrev pub header : ℕ → ℕ → ℕ
header id n = packed_on 0 dsm_header (id ∷ n ∷ [])

-- block n: its header byte and its 13 bytes; zeros where refused
unfoldable pub cut : List ℕ → ℕ → ℕ → Copied
cut memory id n = answered_with (cut_checks memory id n) (gives (header id n ∷ [])) (take 13 (drop (13 * n) memory)) (replicate 13 0)
