-- DSM-KROOT: document 01, "DSM fields". The field names are those of the Rust's comments, WNK and TOWHK with an underscore. (The ICD was not at hand.)
-- Assumes nothing.
use Rattle.std.specs.Prelude.{ℕ, ◌+◌, ◌-◌, ◌%◌, List, [], ◌∷◌, ◌++◌, ◌≡◌, cond, length, ltb, eqb, Result}
use Rattle.layouts.specs.declared.refusal.Refusal.{Refusal}
use Rattle.layouts.specs.Answer.{Answer, gives, Check, ◌when◌, refusal, answered, part, shown}
use Rattle.layouts.specs.Bits.{Field, row, the, value, reach, read}
use Rattle.layouts.specs.Sizes.{size, kroot_blocks, key_sizes, tag_sizes, read_size, hash_functions, mac_functions, ecdsa_functions, read_name}
use Rattle.layouts.specs.Meaning.{meaning_number, meaning_part, meaning_hash, meaning_mac, meaning_ecdsa}
use Rattle.layouts.specs.declared.part.Part.{Part}
use Rattle.layouts.specs.declared.dsm_kroot.HashFunction.{HashFunction}
use Rattle.layouts.specs.declared.dsm_kroot.MacFunction.{MacFunction}
use Rattle.layouts.specs.declared.dsm_kroot.EcdsaFunction.{EcdsaFunction}

-- The layout, as far as no size moves it: field, first bit, width. The key starts at byte 13.
abbrev pub kroot_layout : List Field
kroot_layout =
    row "NB_DK" 0 4 ∷
    row "PKID" 4 4 ∷
    row "CIDKR" 8 2 ∷
    row "Reserved 1" 10 2 ∷
    row "HF" 12 2 ∷
    row "MF" 14 2 ∷
    row "KS" 16 4 ∷
    row "TS" 20 4 ∷
    row "MACLT" 24 8 ∷
    row "Reserved 2" 32 4 ∷
    row "WN_K" 36 12 ∷
    row "TOWH_K" 48 8 ∷
    row "alpha" 56 48 ∷
    []

-- The plain fields.
abbrev pub NumberOfBlocks : List ℕ → Result ℕ Refusal → Type 0
NumberOfBlocks m r = meaning_number r ≡ read_size (the "NB_DK" kroot_layout) (size kroot_blocks) m

abbrev pub PublicKeyId : List ℕ → Result ℕ Refusal → Type 0
PublicKeyId m r = meaning_number r ≡ read (the "PKID" kroot_layout) m

abbrev pub KrootChainId : List ℕ → Result ℕ Refusal → Type 0
KrootChainId m r = meaning_number r ≡ read (the "CIDKR" kroot_layout) m

abbrev pub HashFunctionNumber : List ℕ → Result ℕ Refusal → Type 0
HashFunctionNumber m r = meaning_number r ≡ read (the "HF" kroot_layout) m

abbrev pub HashFunctionRead : List ℕ → Result HashFunction Refusal → Type 0
HashFunctionRead m r = meaning_hash r ≡ read_name (the "HF" kroot_layout) hash_functions m

abbrev pub MacFunctionNumber : List ℕ → Result ℕ Refusal → Type 0
MacFunctionNumber m r = meaning_number r ≡ read (the "MF" kroot_layout) m

abbrev pub MacFunctionRead : List ℕ → Result MacFunction Refusal → Type 0
MacFunctionRead m r = meaning_mac r ≡ read_name (the "MF" kroot_layout) mac_functions m

-- request 9: "The KROOT reader shall promise bytes"
abbrev pub KeySize : List ℕ → Result ℕ Refusal → Type 0
KeySize m r = meaning_number r ≡ read_size (the "KS" kroot_layout) (size key_sizes) m

-- "Tag sizes stay in bits, since 20 and 28 aren't whole bytes."
abbrev pub TagSize : List ℕ → Result ℕ Refusal → Type 0
TagSize m r = meaning_number r ≡ read_size (the "TS" kroot_layout) (size tag_sizes) m

abbrev pub MacLookupTable : List ℕ → Result ℕ Refusal → Type 0
MacLookupTable m r = meaning_number r ≡ read (the "MACLT" kroot_layout) m

abbrev pub KrootWn : List ℕ → Result ℕ Refusal → Type 0
KrootWn m r = meaning_number r ≡ read (the "WN_K" kroot_layout) m

-- in hours
abbrev pub KrootTowh : List ℕ → Result ℕ Refusal → Type 0
KrootTowh m r = meaning_number r ≡ read (the "TOWH_K" kroot_layout) m

abbrev pub Alpha : List ℕ → Result ℕ Refusal → Type 0
Alpha m r = meaning_number r ≡ read (the "alpha" kroot_layout) m

-- "key from byte 13. With k key bytes, .."
abbrev pub key_bytes : List ℕ → ℕ
key_bytes m = size key_sizes (value (the "KS" kroot_layout) m)

abbrev pub key_checks : List ℕ → List Check
key_checks m = reach (the "KS" kroot_layout) m ∷ 6 when eqb (size key_sizes (value (the "KS" kroot_layout) m)) 0 ∷ []

unfoldable pub kroot_part : List ℕ → Answer
kroot_part m = part m (key_checks m) 13 (key_bytes m)

-- "(13 - (k+64) mod 13) mod 13"
unfoldable pub padding_to_block : ℕ → ℕ
padding_to_block n = (13 - n % 13) % 13

-- ".. P-256 if r = 64 + ((13 - (k+64) mod 13) mod 13), P-521 if the same holds with 132 for 64, else 11": 0 where neither
unfoldable pub signature_length : ℕ → ℕ → ℕ
signature_length k r =
    cond (eqb r (64 + padding_to_block (k + 64))) 64 (cond (eqb r (132 + padding_to_block (k + 132))) 132 0)

-- ".. r = length - 13 - k (5 if below zero)"
abbrev pub signature_bytes : List ℕ → ℕ
signature_bytes m = signature_length (key_bytes m) (length m - (13 + key_bytes m))

abbrev pub signature_checks : List ℕ → List Check
signature_checks m = key_checks m ++ (5 when ltb (length m) (13 + key_bytes m) ∷ 11 when eqb (signature_bytes m) 0 ∷ [])

-- "Signature of 64 or 132 bytes, .."
unfoldable pub signature_part : List ℕ → Answer
signature_part m = part m (signature_checks m) (13 + key_bytes m) (signature_bytes m)

unfoldable pub ecdsa_function : List ℕ → Answer
ecdsa_function m = answered (refusal (signature_checks m)) (gives (size ecdsa_functions (signature_bytes m) ∷ []))

-- ".. then padding to the end."
unfoldable pub padding_part : List ℕ → Answer
padding_part m =
    part m (signature_checks m) (13 + key_bytes m + signature_bytes m) (length m - (13 + key_bytes m + signature_bytes m))

abbrev pub EcdsaFunctionRead : List ℕ → Result EcdsaFunction Refusal → Type 0
EcdsaFunctionRead m r = meaning_ecdsa r ≡ ecdsa_function m

abbrev pub KrootShown : List ℕ → Result Part Refusal → Type 0
KrootShown m r = meaning_part r ≡ kroot_part m

abbrev pub Kroot : List ℕ → List ℕ → Type 0
Kroot m r = r ≡ shown m (kroot_part m)

abbrev pub DigitalSignatureShown : List ℕ → Result Part Refusal → Type 0
DigitalSignatureShown m r = meaning_part r ≡ signature_part m

abbrev pub DigitalSignature : List ℕ → List ℕ → Type 0
DigitalSignature m r = r ≡ shown m (signature_part m)

abbrev pub PaddingShown : List ℕ → Result Part Refusal → Type 0
PaddingShown m r = meaning_part r ≡ padding_part m

abbrev pub Padding : List ℕ → List ℕ → Type 0
Padding m r = r ≡ shown m (padding_part m)
