-- Request 1: "Reading what was written gives the same fields back", for every reader of document 01; of the definitions, and of the code.
-- Assumes nothing.
use Rattle.std.specs.Prelude.{ℕ, ◌+◌, ◌*◌, ◌<◌, List, [], ◌∷◌, map, ◌≡◌, length, take, drop, Result, Ok}
use Rattle.layouts.specs.Answer.{gives, shown, copied}
use Rattle.layouts.specs.Bits.{Field, the, read}
use Rattle.layouts.specs.Sizes.{size, kroot_blocks, pkr_blocks, key_sizes, tag_sizes, read_size, hash_functions, mac_functions, key_types, naming, read_name}
use Rattle.layouts.specs.Sizes.{ecdsa_functions}
use Rattle.layouts.specs.DsmKroot as kroot
use Rattle.layouts.specs.DsmKroot.{kroot_layout, kroot_part, signature_part, ecdsa_function}
use Rattle.layouts.specs.DsmPkr as pkr
use Rattle.layouts.specs.DsmPkr.{pkr_layout, new_key_sizes, count, node_part, new_key_part, leaf_part}
use Rattle.layouts.specs.Meaning.{meaning_number, meaning_part, meaning_hash, meaning_mac, meaning_ecdsa, meaning_key_type}
use Rattle.layouts.specs.declared.part.Part.{Part}
use Rattle.layouts.specs.declared.dsm_kroot.HashFunction.{HashFunction}
use Rattle.layouts.specs.declared.dsm_kroot.MacFunction.{MacFunction}
use Rattle.layouts.specs.declared.dsm_kroot.EcdsaFunction.{EcdsaFunction}
use Rattle.layouts.specs.declared.dsm_pkr.NewPublicKeyType.{NewPublicKeyType}
use Rattle.layouts.specs.declared.dsm_pkr.TreeNode.{TreeNode}
use Rattle.transmitter.specs.Write.{KrootValues, kroot_numbers, write_kroot, PkrValues, write_pkr}
use Rattle.transmitter.specs.WritePromises.{meaning_written, WriteKroot, WritePkr, ReadKrootValues, ReadPkrValues}
use Rattle.dsms.specs.declared.dsm.CompleteDsm.{CompleteDsm}
use Rattle.layouts.specs.declared.refusal.Refusal.{Refusal}
use Rattle.transmitter.specs.declared.kroot.KrootValues.{KrootValues as KrootNumbers}
use Rattle.transmitter.specs.declared.pkr.PkrValues.{PkrValues as PkrNumbers}

-- What the readers say of a KROOT message m: none refuses.
pub record KrootReads (m : List ℕ) (v : KrootValues) (key signature padding : List ℕ) : Type 0 where
  -- every row of the layout as it stands, the reserved ones 0
  pub rows : map (λ (f : Field). read f m) kroot_layout ≡ map (λ (n : ℕ). gives (n ∷ [])) (kroot_numbers v)
  pub count_read : read_size (the "NB_DK" kroot_layout) (size kroot_blocks) m ≡ gives (size kroot_blocks v.nb_dk ∷ [])
  pub hash_read : read_name (the "HF" kroot_layout) hash_functions m ≡ gives (naming hash_functions v.hf)
  pub mac_read : read_name (the "MF" kroot_layout) mac_functions m ≡ gives (naming mac_functions v.mf)
  pub key_size_read : read_size (the "KS" kroot_layout) (size key_sizes) m ≡ gives (size key_sizes v.ks ∷ [])
  pub tag_size_read : read_size (the "TS" kroot_layout) (size tag_sizes) m ≡ gives (size tag_sizes v.ts ∷ [])
  pub key_shown : kroot_part m ≡ gives (13 ∷ length key ∷ [])
  pub key_read : shown m (kroot_part m) ≡ key
  pub signature_shown : signature_part m ≡ gives ((13 + length key) ∷ length signature ∷ [])
  pub signature_read : shown m (signature_part m) ≡ signature
  pub curve_read : ecdsa_function m ≡ gives (size ecdsa_functions (length signature) ∷ [])
  pub padding_shown : kroot.padding_part m ≡ gives ((13 + length key + length signature) ∷ length padding ∷ [])
  pub padding_read : shown m (kroot.padding_part m) ≡ padding

-- not refused: on the first n bytes, n the length that the write answered
abbrev pub KrootReadsBack : Type 0
KrootReadsBack =
    (memory : List ℕ) (id : ℕ) (v : KrootValues) (key signature padding : List ℕ) (n : ℕ)
    → (write_kroot memory id v key signature padding).answer ≡ gives (id ∷ 0 ∷ n ∷ [])
    → KrootReads (take n (write_kroot memory id v key signature padding).memory) v key signature padding

-- What the readers say of a PKR message m: none refuses.
pub record PkrReads (m : List ℕ) (v : PkrValues) (nodes key padding : List ℕ) : Type 0 where
  pub count_read : read_size (the "NB_DP" pkr_layout) (size pkr_blocks) m ≡ gives (size pkr_blocks v.nb_dp ∷ [])
  pub count_as_it_stands : read (the "NB_DP" pkr_layout) m ≡ gives (v.nb_dp ∷ [])
  pub message_read : read (the "MID" pkr_layout) m ≡ gives (v.mid ∷ [])
  pub nodes_read : (k : ℕ) → k < 4
      → copied 32 m (node_part m k) ≡ record { answer = gives ((1 + 32 * k) ∷ 32 ∷ []); bytes = take 32 (drop (32 * k) nodes) }
  pub type_as_it_stands : read (the "NPKT" pkr_layout) m ≡ gives (v.npkt ∷ [])
  pub type_read : read_name (the "NPKT" pkr_layout) key_types m ≡ gives (naming key_types v.npkt)
  pub key_id_read : read (the "NPKID" pkr_layout) m ≡ gives (v.npkid ∷ [])
  pub key_size_read : read_size (the "NPKT" pkr_layout) (size (new_key_sizes (count m))) m ≡ gives (length key ∷ [])
  pub key_shown : new_key_part m ≡ gives (130 ∷ length key ∷ [])
  pub key_read : shown m (new_key_part m) ≡ key
  pub leaf_shown : leaf_part m ≡ gives (129 ∷ (1 + length key) ∷ [])
  pub leaf_read : shown m (leaf_part m) ≡ (16 * v.npkt + v.npkid) ∷ key
  pub padding_shown : pkr.padding_part m ≡ gives ((130 + length key) ∷ length padding ∷ [])
  pub padding_read : shown m (pkr.padding_part m) ≡ padding

abbrev pub PkrReadsBack : Type 0
PkrReadsBack =
    (memory : List ℕ) (id : ℕ) (v : PkrValues) (nodes key padding : List ℕ) (n : ℕ)
    → (write_pkr memory id v nodes key padding).answer ≡ gives (id ∷ 1 ∷ n ∷ [])
    → PkrReads (take n (write_pkr memory id v nodes key padding).memory) v nodes key padding

-- Of the code: each reader of `layouts::dsm_kroot`, called on the message m, and `kroot_values`.
pub record KrootReadByCode (m : List ℕ) (v : KrootNumbers) (key signature padding : List ℕ) : Type 0 where
  pub number_of_blocks : (r : Result ℕ Refusal) → kroot.NumberOfBlocks m r → meaning_number r ≡ gives (size kroot_blocks v.nb_dk ∷ [])
  pub public_key_id : (r : Result ℕ Refusal) → kroot.PublicKeyId m r → meaning_number r ≡ gives (v.pkid ∷ [])
  pub kroot_chain_id : (r : Result ℕ Refusal) → kroot.KrootChainId m r → meaning_number r ≡ gives (v.cidkr ∷ [])
  pub hash_function_number : (r : Result ℕ Refusal) → kroot.HashFunctionNumber m r → meaning_number r ≡ gives (v.hf ∷ [])
  pub hash_function : (r : Result HashFunction Refusal) → kroot.HashFunctionRead m r → meaning_hash r ≡ gives (naming hash_functions v.hf)
  pub mac_function_number : (r : Result ℕ Refusal) → kroot.MacFunctionNumber m r → meaning_number r ≡ gives (v.mf ∷ [])
  pub mac_function : (r : Result MacFunction Refusal) → kroot.MacFunctionRead m r → meaning_mac r ≡ gives (naming mac_functions v.mf)
  pub key_size : (r : Result ℕ Refusal) → kroot.KeySize m r → meaning_number r ≡ gives (size key_sizes v.ks ∷ [])
  pub tag_size : (r : Result ℕ Refusal) → kroot.TagSize m r → meaning_number r ≡ gives (size tag_sizes v.ts ∷ [])
  pub mac_lookup_table : (r : Result ℕ Refusal) → kroot.MacLookupTable m r → meaning_number r ≡ gives (v.maclt ∷ [])
  pub kroot_wn : (r : Result ℕ Refusal) → kroot.KrootWn m r → meaning_number r ≡ gives (v.wn_k ∷ [])
  pub kroot_towh : (r : Result ℕ Refusal) → kroot.KrootTowh m r → meaning_number r ≡ gives (v.towh_k ∷ [])
  pub alpha : (r : Result ℕ Refusal) → kroot.Alpha m r → meaning_number r ≡ gives (v.alpha ∷ [])
  pub ecdsa_function_is : (r : Result EcdsaFunction Refusal) → kroot.EcdsaFunctionRead m r → meaning_ecdsa r ≡ gives (size ecdsa_functions (length signature) ∷ [])
  pub kroot_shown : (r : Result Part Refusal) → kroot.KrootShown m r → meaning_part r ≡ gives (13 ∷ length key ∷ [])
  pub kroot_bytes : (r : List ℕ) → kroot.Kroot m r → r ≡ key
  pub digital_signature_shown : (r : Result Part Refusal) → kroot.DigitalSignatureShown m r → meaning_part r ≡ gives ((13 + length key) ∷ length signature ∷ [])
  pub digital_signature : (r : List ℕ) → kroot.DigitalSignature m r → r ≡ signature
  pub padding_shown : (r : Result Part Refusal) → kroot.PaddingShown m r → meaning_part r ≡ gives ((13 + length key + length signature) ∷ length padding ∷ [])
  pub padding_bytes : (r : List ℕ) → kroot.Padding m r → r ≡ padding
  pub kroot_values : (r : Result KrootNumbers Refusal) → ReadKrootValues m r → r ≡ Ok v

-- a write that is not refused, and then a reader
abbrev pub KrootCodeReadsBack : Type 0
KrootCodeReadsBack =
    (memory : List ℕ) (id : ℕ) (v : KrootNumbers) (key signature padding : List ℕ) (r : Result CompleteDsm Refusal) (after : List ℕ) (n : ℕ)
    → WriteKroot memory id v key signature padding r after
    → meaning_written r ≡ gives (id ∷ 0 ∷ n ∷ [])
    → KrootReadByCode (take n after) v key signature padding

-- Of the code: each reader of `layouts::dsm_pkr`, called on the message m, and `pkr_values`.
pub record PkrReadByCode (m : List ℕ) (v : PkrNumbers) (nodes key padding : List ℕ) : Type 0 where
  pub number_of_blocks : (r : Result ℕ Refusal) → pkr.NumberOfBlocks m r → meaning_number r ≡ gives (size pkr_blocks v.nb_dp ∷ [])
  pub message_id : (r : Result ℕ Refusal) → pkr.MessageId m r → meaning_number r ≡ gives (v.mid ∷ [])
  pub tree_node : (k : ℕ) → k < 4 → (r : Result TreeNode Refusal) → pkr.IntermediateTreeNode m k r
      → r ≡ Ok (record { part = record { first = 1 + 32 * k; many = 32 }; bytes = take 32 (drop (32 * k) nodes) })
  pub key_type_number : (r : Result ℕ Refusal) → pkr.NewPublicKeyTypeNumber m r → meaning_number r ≡ gives (v.npkt ∷ [])
  pub key_type : (r : Result NewPublicKeyType Refusal) → pkr.NewPublicKeyTypeRead m r → meaning_key_type r ≡ gives (naming key_types v.npkt)
  pub key_id : (r : Result ℕ Refusal) → pkr.NewPublicKeyId m r → meaning_number r ≡ gives (v.npkid ∷ [])
  pub key_size : (r : Result ℕ Refusal) → pkr.KeySize m r → meaning_number r ≡ gives (length key ∷ [])
  pub new_public_key_shown : (r : Result Part Refusal) → pkr.NewPublicKeyShown m r → meaning_part r ≡ gives (130 ∷ length key ∷ [])
  pub new_public_key : (r : List ℕ) → pkr.NewPublicKey m r → r ≡ key
  pub merkle_tree_leaf_shown : (r : Result Part Refusal) → pkr.MerkleTreeLeafShown m r → meaning_part r ≡ gives (129 ∷ (1 + length key) ∷ [])
  pub merkle_tree_leaf : (r : List ℕ) → pkr.MerkleTreeLeaf m r → r ≡ (16 * v.npkt + v.npkid) ∷ key
  pub padding_shown : (r : Result Part Refusal) → pkr.PaddingShown m r → meaning_part r ≡ gives ((130 + length key) ∷ length padding ∷ [])
  pub padding_bytes : (r : List ℕ) → pkr.Padding m r → r ≡ padding
  pub pkr_values : (r : Result PkrNumbers Refusal) → ReadPkrValues m r → r ≡ Ok v

abbrev pub PkrCodeReadsBack : Type 0
PkrCodeReadsBack =
    (memory : List ℕ) (id : ℕ) (v : PkrNumbers) (nodes key padding : List ℕ) (r : Result CompleteDsm Refusal) (after : List ℕ) (n : ℕ)
    → WritePkr memory id v nodes key padding r after
    → meaning_written r ≡ gives (id ∷ 1 ∷ n ∷ [])
    → PkrReadByCode (take n after) v nodes key padding
