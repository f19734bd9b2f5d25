-- DSM-PKR: document 01, "DSM fields". The field names are those of the Rust's comments; ITN, NPK and P_DP are named alike. (The ICD was not at hand.)
-- Assumes nothing.
use Rattle.std.specs.Prelude.{ℕ, ◌+◌, ◌-◌, ◌*◌, List, [], ◌∷◌, ◌++◌, ◌≡◌, ltb, eqb, Result, Option}
use Rattle.layouts.specs.declared.refusal.Refusal.{Refusal}
use Rattle.layouts.specs.Answer.{Answer, Check, ◌when◌, part, shown, Copied, copied}
use Rattle.layouts.specs.Bits.{Field, row, the, value, reach, read}
use Rattle.layouts.specs.Sizes.{Size, ◌⟶◌, size, unless_0, pkr_blocks, read_size, key_types, read_name}
use Rattle.layouts.specs.Refusals.{with_bytes}
use Rattle.layouts.specs.Meaning.{meaning_number, meaning_part, meaning_key_type, part_numbers}
use Rattle.layouts.specs.declared.part.Part.{Part}
use Rattle.layouts.specs.declared.dsm_pkr.NewPublicKeyType.{NewPublicKeyType}
use Rattle.layouts.specs.declared.dsm_pkr.TreeNode.{TreeNode}

-- The layout, as far as no size moves it: field, first bit, width. The key starts at byte 130.
abbrev pub pkr_layout : List Field
pkr_layout =
    row "NB_DP" 0 4 ∷
    row "MID" 4 4 ∷
    row "ITN 0" 8 256 ∷
    row "ITN 1" 264 256 ∷
    row "ITN 2" 520 256 ∷
    row "ITN 3" 776 256 ∷
    row "NPKT" 1032 4 ∷
    row "NPKID" 1036 4 ∷
    []

-- The plain fields.
abbrev pub NumberOfBlocks : List ℕ → Result ℕ Refusal → Type 0
NumberOfBlocks m r = meaning_number r ≡ read_size (the "NB_DP" pkr_layout) (size pkr_blocks) m

abbrev pub MessageId : List ℕ → Result ℕ Refusal → Type 0
MessageId m r = meaning_number r ≡ read (the "MID" pkr_layout) m

abbrev pub NewPublicKeyTypeNumber : List ℕ → Result ℕ Refusal → Type 0
NewPublicKeyTypeNumber m r = meaning_number r ≡ read (the "NPKT" pkr_layout) m

abbrev pub NewPublicKeyTypeRead : List ℕ → Result NewPublicKeyType Refusal → Type 0
NewPublicKeyTypeRead m r = meaning_key_type r ≡ read_name (the "NPKT" pkr_layout) key_types m

abbrev pub NewPublicKeyId : List ℕ → Result ℕ Refusal → Type 0
NewPublicKeyId m r = meaning_number r ≡ read (the "NPKID" pkr_layout) m

-- "four 32-byte tree nodes from byte 1 (each returned as 32 bytes by value; node above 3 is 7)"
unfoldable pub node_part : List ℕ → ℕ → Answer
node_part m n = part m (7 when ltb 3 n ∷ []) (1 + 32 * n) 32

abbrev pub IntermediateTreeNode : List ℕ → ℕ → Result TreeNode Refusal → Type 0
IntermediateTreeNode m n r =
    ◌≡◌ {A = Copied} (with_bytes 32 (λ (t : TreeNode). part_numbers t.part) (λ (t : TreeNode). t.bytes) r) (copied 32 m (node_part m n))

-- "Type 1: 33 bytes; 3: 67; 4: 13 x count - 130; for others key, padding and leaf refuse 6":
-- an alert has no size either where the count is reserved, which is a count of 0 here
abbrev pub new_key_sizes : ℕ → List Size
new_key_sizes count = 1 ⟶ 33 ∷ 3 ⟶ 67 ∷ 4 ⟶ (13 * count - 130) ∷ []

abbrev pub count : List ℕ → ℕ
count m = size pkr_blocks (value (the "NB_DP" pkr_layout) m)

abbrev pub key_bytes : List ℕ → ℕ
key_bytes m = size (new_key_sizes (count m)) (value (the "NPKT" pkr_layout) m)

abbrev pub key_checks : List ℕ → List Check
key_checks m = reach (the "NPKT" pkr_layout) m ∷ 6 when eqb (key_bytes m) 0 ∷ []

-- the size of a key by its type and the number of blocks; none where it is reserved
abbrev pub KeyLength : ℕ → ℕ → Option ℕ → Type 0
KeyLength type blocks r = r ≡ unless_0 (size (new_key_sizes blocks) type)

-- in bytes
abbrev pub KeySize : List ℕ → Result ℕ Refusal → Type 0
KeySize m r = meaning_number r ≡ read_size (the "NPKT" pkr_layout) (size (new_key_sizes (count m))) m

-- "key from byte 130"
unfoldable pub new_key_part : List ℕ → Answer
new_key_part m = part m (key_checks m) 130 (key_bytes m)

-- "The leaf is byte 129 through the key's end."
unfoldable pub leaf_part : List ℕ → Answer
leaf_part m = part m (key_checks m) 129 (1 + key_bytes m)

-- "Padding runs from the key's end to 13 x count; 11 if the key ends later."
abbrev pub padding_checks : List ℕ → List Check
padding_checks m = key_checks m ++ (6 when eqb (count m) 0 ∷ 11 when ltb (13 * count m) (130 + key_bytes m) ∷ [])

unfoldable pub padding_part : List ℕ → Answer
padding_part m = part m (padding_checks m) (130 + key_bytes m) (13 * count m - (130 + key_bytes m))

abbrev pub NewPublicKeyShown : List ℕ → Result Part Refusal → Type 0
NewPublicKeyShown m r = meaning_part r ≡ new_key_part m

abbrev pub NewPublicKey : List ℕ → List ℕ → Type 0
NewPublicKey m r = r ≡ shown m (new_key_part m)

abbrev pub MerkleTreeLeafShown : List ℕ → Result Part Refusal → Type 0
MerkleTreeLeafShown m r = meaning_part r ≡ leaf_part m

abbrev pub MerkleTreeLeaf : List ℕ → List ℕ → Type 0
MerkleTreeLeaf m r = r ≡ shown m (leaf_part m)

abbrev pub PaddingShown : List ℕ → Result Part Refusal → Type 0
PaddingShown m r = meaning_part r ≡ padding_part m

abbrev pub Padding : List ℕ → List ℕ → Type 0
Padding m r = r ≡ shown m (padding_part m)
