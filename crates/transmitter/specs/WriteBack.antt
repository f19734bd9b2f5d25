-- Request 1: "Writing what was read gives the same bytes exactly if no reader of document 01 refuses a field of the message, its length is 13 times its
-- count and its reserved bits were zero." Of the definitions, and of the code.
-- Assumes nothing.
use Rattle.std.specs.Prelude.{ℕ, ◌*◌, ◌<◌, List, [], ◌∷◌, ◌++◌, map, ◌≡◌, Bool, true, false, ◌&&◌, length, drop, eqb, Result, Ok}
use Rattle.layouts.specs.Answer.{Answer, refused, nothing, gives, shown, copied}
use Rattle.layouts.specs.Bits.{Field, the, value, read}
use Rattle.layouts.specs.Sizes.{size, kroot_blocks, pkr_blocks, key_sizes, tag_sizes, read_size, hash_functions, mac_functions, key_types, read_name}
use Rattle.layouts.specs.DsmHeader.{dsm_type_of}
use Rattle.layouts.specs.DsmKroot as kroot
use Rattle.layouts.specs.DsmKroot.{kroot_layout, kroot_part, signature_part, ecdsa_function}
use Rattle.layouts.specs.DsmPkr as pkr
use Rattle.layouts.specs.DsmPkr.{pkr_layout, new_key_sizes, count, node_part, new_key_part, leaf_part}
use Rattle.layouts.specs.declared.dsm_header.DsmType.TheVariants.{Kroot, Pkr}
use Rattle.layouts.specs.declared.refusal.Refusal.{Refusal}
use Rattle.layouts.specs.declared.dsm_pkr.TreeNode.{TreeNode}
use Rattle.transmitter.specs.Write.{Written, KrootValues, write_kroot, PkrValues, write_pkr}
use Rattle.transmitter.specs.WritePromises.{WriteKroot, WritePkr, ReadKrootValues, ReadPkrValues}
use Rattle.dsms.specs.declared.dsm.CompleteDsm.{CompleteDsm}
use Rattle.transmitter.specs.declared.kroot.KrootValues.{KrootValues as KrootNumbers}
use Rattle.transmitter.specs.declared.pkr.PkrValues.{PkrValues as PkrNumbers}

-- "no reader of document 01 refuses a field of the message"
abbrev pub given : Answer → Bool
given (refused n) = false
given nothing = false
given (gives l) = true

unfoldable pub all_given : List Answer → Bool
all_given [] = true
all_given (a ∷ more) = given a && all_given more

abbrev pub kroot_answers : List ℕ → List Answer
kroot_answers m =
    map (λ (f : Field). read f m) kroot_layout ++
    (read_size (the "NB_DK" kroot_layout) (size kroot_blocks) m ∷
    read_name (the "HF" kroot_layout) hash_functions m ∷
    read_name (the "MF" kroot_layout) mac_functions m ∷
    read_size (the "KS" kroot_layout) (size key_sizes) m ∷
    read_size (the "TS" kroot_layout) (size tag_sizes) m ∷
    kroot_part m ∷
    signature_part m ∷
    ecdsa_function m ∷
    kroot.padding_part m ∷
    [])

-- ".. its length is 13 times its count and its reserved bits were zero"
unfoldable pub is_good_kroot : List ℕ → Bool
is_good_kroot m =
    all_given (kroot_answers m) && eqb (length m) (13 * size kroot_blocks (value (the "NB_DK" kroot_layout) m))
    && eqb (value (the "Reserved 1" kroot_layout) m) 0
    && eqb (value (the "Reserved 2" kroot_layout) m) 0

abbrev pub pkr_answers : List ℕ → List Answer
pkr_answers m =
    read_size (the "NB_DP" pkr_layout) (size pkr_blocks) m ∷
    read (the "MID" pkr_layout) m ∷
    node_part m 0 ∷
    node_part m 1 ∷
    node_part m 2 ∷
    node_part m 3 ∷
    read (the "NPKT" pkr_layout) m ∷
    read_name (the "NPKT" pkr_layout) key_types m ∷
    read (the "NPKID" pkr_layout) m ∷
    read_size (the "NPKT" pkr_layout) (size (new_key_sizes (count m))) m ∷
    new_key_part m ∷
    leaf_part m ∷
    pkr.padding_part m ∷
    []

-- PKR has no reserved bits
unfoldable pub is_good_pkr : List ℕ → Bool
is_good_pkr m = all_given (pkr_answers m) && eqb (length m) (13 * count m)

-- What was read: each row as it stands, each part as it is shown.
abbrev pub kroot_read : List ℕ → KrootValues
kroot_read m =
    record {
      nb_dk = value (the "NB_DK" kroot_layout) m;
      pkid = value (the "PKID" kroot_layout) m;
      cidkr = value (the "CIDKR" kroot_layout) m;
      hf = value (the "HF" kroot_layout) m;
      mf = value (the "MF" kroot_layout) m;
      ks = value (the "KS" kroot_layout) m;
      ts = value (the "TS" kroot_layout) m;
      maclt = value (the "MACLT" kroot_layout) m;
      wn_k = value (the "WN_K" kroot_layout) m;
      towh_k = value (the "TOWH_K" kroot_layout) m;
      alpha = value (the "alpha" kroot_layout) m;
    }

abbrev pub kroot_rewritten : List ℕ → ℕ → List ℕ → Written
kroot_rewritten memory id m =
    write_kroot memory id (kroot_read m) (shown m (kroot_part m)) (shown m (signature_part m)) (shown m (kroot.padding_part m))

abbrev pub pkr_read : List ℕ → PkrValues
pkr_read m =
    record {
      nb_dp = value (the "NB_DP" pkr_layout) m;
      mid = value (the "MID" pkr_layout) m;
      npkt = value (the "NPKT" pkr_layout) m;
      npkid = value (the "NPKID" pkr_layout) m;
    }

abbrev pub node : List ℕ → ℕ → List ℕ
node m k = (copied 32 m (node_part m k)).bytes

abbrev pub pkr_rewritten : List ℕ → ℕ → List ℕ → Written
pkr_rewritten memory id m =
    write_pkr memory id (pkr_read m) (node m 0 ++ node m 1 ++ node m 2 ++ node m 3) (shown m (new_key_part m)) (shown m (pkr.padding_part m))

-- "gives the same bytes": all of the message, and nothing but it
abbrev pub Same : List ℕ → ℕ → List ℕ → Written → Type 0
Same memory id m w = w ≡ record { memory = m ++ drop (length m) memory; answer = gives (id ∷ dsm_type_of id ∷ length m ∷ []) }

-- the elements of a list are bytes
abbrev pub Bytes : List ℕ → Type 0
Bytes [] = Unit {0}
Bytes (b ∷ bs) = (b < 256) × Bytes bs

-- ".. exactly if ..", both ways; `only` for any values and parts at all, of which those that were read are one choice
pub record ExactlyIf (memory : List ℕ) (id : ℕ) (m : List ℕ) : Type 0 where
  pub if_kroot : id < 12 → is_good_kroot m ≡ true → Same memory id m (kroot_rewritten memory id m)
  pub only_kroot : (v : KrootValues) (key signature padding : List ℕ)
      → Same memory id m (write_kroot memory id v key signature padding) → is_good_kroot m ≡ true
  pub if_pkr : 11 < id → id < 16 → is_good_pkr m ≡ true → Same memory id m (pkr_rewritten memory id m)
  pub only_pkr : (v : PkrValues) (nodes key padding : List ℕ) → Same memory id m (write_pkr memory id v nodes key padding) → is_good_pkr m ≡ true

abbrev pub WritesBackExactlyIf : Type 0
WritesBackExactlyIf = (memory : List ℕ) (id : ℕ) (m : List ℕ) → length memory ≡ 208 → Bytes m → ExactlyIf memory id m

-- Of the code. What a write left and answered is the message m, all of it and nothing but it.
abbrev pub LeftKroot : List ℕ → ℕ → List ℕ → Result CompleteDsm Refusal → List ℕ → Type 0
LeftKroot memory id m r after = (r ≡ Ok (record { id = id; dsm_type = Kroot; bytes = length m })) × (after ≡ m ++ drop (length m) memory)

abbrev pub LeftPkr : List ℕ → ℕ → List ℕ → Result CompleteDsm Refusal → List ℕ → Type 0
LeftPkr memory id m r after = (r ≡ Ok (record { id = id; dsm_type = Pkr; bytes = length m })) × (after ≡ m ++ drop (length m) memory)

-- "a technician changes one field of a recording and sends it": `kroot_values` and the readers of the parts, called on m, then `write_kroot` with what they
-- gave; for PKR `pkr_values`, the four nodes and the parts, then `write_pkr`
pub record CodeExactlyIf (memory : List ℕ) (id : ℕ) (m : List ℕ) : Type 0 where
  pub if_kroot : id < 12 → is_good_kroot m ≡ true
      → (x : Result KrootNumbers Refusal) (key signature padding : List ℕ)
      → ReadKrootValues m x → kroot.Kroot m key → kroot.DigitalSignature m signature → kroot.Padding m padding
      → (v : KrootNumbers) × (x ≡ Ok v)
      × ((r : Result CompleteDsm Refusal) (after : List ℕ) → WriteKroot memory id v key signature padding r after → LeftKroot memory id m r after)
  pub only_kroot : (v : KrootNumbers) (key signature padding : List ℕ) (r : Result CompleteDsm Refusal) (after : List ℕ)
      → WriteKroot memory id v key signature padding r after → LeftKroot memory id m r after → is_good_kroot m ≡ true
  pub if_pkr : 11 < id → id < 16 → is_good_pkr m ≡ true
      → (x : Result PkrNumbers Refusal) (x₀ x₁ x₂ x₃ : Result TreeNode Refusal) (key padding : List ℕ)
      → ReadPkrValues m x
      → pkr.IntermediateTreeNode m 0 x₀ → pkr.IntermediateTreeNode m 1 x₁ → pkr.IntermediateTreeNode m 2 x₂ → pkr.IntermediateTreeNode m 3 x₃
      → pkr.NewPublicKey m key → pkr.Padding m padding
      → (v : PkrNumbers) × (x ≡ Ok v)
      × (n₀ : TreeNode) × (x₀ ≡ Ok n₀) × (n₁ : TreeNode) × (x₁ ≡ Ok n₁) × (n₂ : TreeNode) × (x₂ ≡ Ok n₂) × (n₃ : TreeNode) × (x₃ ≡ Ok n₃)
      × ((r : Result CompleteDsm Refusal) (after : List ℕ)
      → WritePkr memory id v (n₀.bytes ++ n₁.bytes ++ n₂.bytes ++ n₃.bytes) key padding r after → LeftPkr memory id m r after)
  pub only_pkr : (v : PkrNumbers) (nodes key padding : List ℕ) (r : Result CompleteDsm Refusal) (after : List ℕ)
      → WritePkr memory id v nodes key padding r after → LeftPkr memory id m r after → is_good_pkr m ≡ true

abbrev pub CodeWritesBackExactlyIf : Type 0
CodeWritesBackExactlyIf = (memory : List ℕ) (id : ℕ) (m : List ℕ) → length memory ≡ 208 → Bytes m → CodeExactlyIf memory id m
