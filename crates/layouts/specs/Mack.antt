-- MACK messages: document 01, "MACK". The field names are those of the Rust's comments. Key sizes are in bytes (request 9), tag sizes in bits: K is 8 k.
-- Assumes nothing.
use Rattle.std.specs.Prelude.{ℕ, zero, suc, ◌+◌, ◌-◌, ◌*◌, ◌/◌, List, [], ◌∷◌, ◌++◌, map, Bool, true, false, cond, not, ◌≡◌, length, ltb, leb, eqb, Result, ⊤}
use Rattle.layouts.specs.declared.refusal.Refusal.{Refusal}
use Rattle.layouts.specs.Answer.{Answer, gives, Check, ◌when◌, refusal, answered, Copied, answered_with}
use Rattle.layouts.specs.Bits.{Field, row, the, value, bytes_from}
use Rattle.layouts.specs.Sizes.{Size, key_sizes, tag_sizes, naming, adkds}
use Rattle.layouts.specs.Meaning.{meaning_number, meaning_prnd, meaning_adkd, meaning_done}
use Rattle.layouts.specs.declared.tag_info.Prnd.{Prnd}
use Rattle.layouts.specs.declared.tag_info.Adkd.{Adkd}

-- whether a size is one that some code stands for
unfoldable pub listed : ℕ → List ℕ → Bool
listed n [] = false
listed n (s ∷ ss) = cond (eqb n s) true (listed n ss)

abbrev pub sizes_of : List Size → List ℕ
sizes_of sizes = map (λ (s : Size). s.stands_for) sizes

-- "60 bytes, else 1; key size K and tag size T only from the lists above, else 7; then the tag number, 7"
abbrev pub size_checks : ℕ → ℕ → List Check
size_checks k T = 7 when not (listed k (sizes_of key_sizes)) ∷ 7 when not (listed T (sizes_of tag_sizes)) ∷ []

abbrev pub mack_checks : List ℕ → ℕ → ℕ → List Check
mack_checks m k T = 1 when not (eqb (length m) 60) ∷ size_checks k T

-- "Tags nt = (480 - K) / (T + 16), rounded down."; request 9: "(480 - 8 x key bytes) / (T + 16)"
unfoldable pub nt : ℕ → ℕ → ℕ
nt k T = (480 - 8 * k) / (T + 16)

-- "Tag n in 1..nt-1 (else 7)"
abbrev pub tag_checks : List ℕ → ℕ → ℕ → ℕ → List Check
tag_checks m k T n = mack_checks m k T ++ (7 when eqb n 0 ∷ 7 when leb (nt k T) n ∷ [])

-- "Tag 0: T bits, MACSEQ 12, COP 4."
abbrev pub header_layout : ℕ → List Field
header_layout T =
    row "Tag0" 0 T ∷
    row "MACSEQ" T 12 ∷
    row "COP" (T + 12) 4 ∷
    []

-- "Tag n .. starts at bit n(T+16): T bits, PRND 8, ADKD 4, COP 4"; the last three are its info, of 16 bits
abbrev pub tag_layout : ℕ → ℕ → List Field
tag_layout T n =
    row "Tag" (n * (T + 16)) T ∷
    row "PRND" (n * (T + 16) + T) 8 ∷
    row "ADKD" (n * (T + 16) + T + 8) 4 ∷
    row "COP" (n * (T + 16) + T + 12) 4 ∷
    []

abbrev pub tag_info : ℕ → ℕ → Field
tag_info T n = row "Tag-Info" (n * (T + 16) + T) 16

-- what the readers of the header, and those of a tag, answer
abbrev pub read_header : Field → List ℕ → ℕ → ℕ → Answer
read_header f m k T = answered (refusal (mack_checks m k T)) (gives (value f m ∷ []))

abbrev pub read_tag : Field → List ℕ → ℕ → ℕ → ℕ → Answer
read_tag f m k T n = answered (refusal (tag_checks m k T n)) (gives (value f m ∷ []))

-- any field of a tag's info, so many bits behind the tag's end
abbrev pub InfoRead : List ℕ → ℕ → ℕ → ℕ → ℕ → ℕ → Result ℕ Refusal → Type 0
InfoRead m k T n first width r = meaning_number r ≡ read_tag (row "Info" (n * (T + 16) + T + first) width) m k T n

abbrev pub NumTags : ℕ → ℕ → Result ℕ Refusal → Type 0
NumTags k T r = meaning_number r ≡ answered (refusal (size_checks k T)) (gives (nt k T ∷ []))

abbrev pub Tag0 : List ℕ → ℕ → ℕ → Result ℕ Refusal → Type 0
Tag0 m k T r = meaning_number r ≡ read_header (the "Tag0" (header_layout T)) m k T

abbrev pub Macseq : List ℕ → ℕ → ℕ → Result ℕ Refusal → Type 0
Macseq m k T r = meaning_number r ≡ read_header (the "MACSEQ" (header_layout T)) m k T

abbrev pub Cop : List ℕ → ℕ → ℕ → Result ℕ Refusal → Type 0
Cop m k T r = meaning_number r ≡ read_header (the "COP" (header_layout T)) m k T

abbrev pub Tag : List ℕ → ℕ → ℕ → ℕ → Result ℕ Refusal → Type 0
Tag m k T n r = meaning_number r ≡ read_tag (the "Tag" (tag_layout T n)) m k T n

abbrev pub TagInfo : List ℕ → ℕ → ℕ → ℕ → Result ℕ Refusal → Type 0
TagInfo m k T n r = meaning_number r ≡ read_tag (tag_info T n) m k T n

abbrev pub PrndNumber : List ℕ → ℕ → ℕ → ℕ → Result ℕ Refusal → Type 0
PrndNumber m k T n r = meaning_number r ≡ read_tag (the "PRND" (tag_layout T n)) m k T n

abbrev pub AdkdNumber : List ℕ → ℕ → ℕ → ℕ → Result ℕ Refusal → Type 0
AdkdNumber m k T n r = meaning_number r ≡ read_tag (the "ADKD" (tag_layout T n)) m k T n

abbrev pub TagCop : List ℕ → ℕ → ℕ → ℕ → Result ℕ Refusal → Type 0
TagCop m k T n r = meaning_number r ≡ read_tag (the "COP" (tag_layout T n)) m k T n

-- "(1..36 satellite, 255 constellation, else Reserved)": 1 and the number for a satellite, 255 for the constellation, no number for Reserved
unfoldable pub prnd_name : ℕ → List ℕ
prnd_name v = cond (ltb v 1) [] (cond (leb v 36) (1 ∷ v ∷ []) (cond (eqb v 255) (255 ∷ []) []))

abbrev pub PrndRead : List ℕ → ℕ → ℕ → ℕ → Result Prnd Refusal → Type 0
PrndRead m k T n r =
    meaning_prnd r
    ≡ answered (refusal (tag_checks m k T n)) (gives (prnd_name (value (the "PRND" (tag_layout T n)) m)))

-- "(0, 4, 12, else Reserved)"
abbrev pub AdkdRead : List ℕ → ℕ → ℕ → ℕ → Result Adkd Refusal → Type 0
AdkdRead m k T n r =
    meaning_adkd r
    ≡ answered (refusal (tag_checks m k T n)) (gives (naming adkds (value (the "ADKD" (tag_layout T n)) m)))

-- "for the key an output of other than K/8 bytes, 1, tested last here"
abbrev pub key_checks : List ℕ → ℕ → ℕ → List ℕ → List Check
key_checks m k T out = mack_checks m k T ++ (1 when not (eqb (length out) k) ∷ [])

-- "The key starts at bit nt(T+16), which may be half a byte in, .."
abbrev pub key_start : ℕ → ℕ → ℕ
key_start k T = nt k T * (T + 16)

-- the rows of `many` tags from tag n on
abbrev pub tag_rows : ℕ → ℕ → ℕ → List Field
tag_rows T n zero = []
tag_rows T n (suc many) = tag_layout T n ++ tag_rows T (suc n) many

-- The whole message: tag 0, tags 1 to nt-1, the key, and what is left behind it.
abbrev pub mack_layout : ℕ → ℕ → List Field
mack_layout k T =
    header_layout T
    ++ tag_rows T 1 (nt k T - 1)
    ++ (row "Key" (key_start k T) (8 * k) ∷ row "Padding" (key_start k T + 8 * k) (8 * 60 - (key_start k T + 8 * k)) ∷ [])

-- ".. and is copied to K/8 lent bytes": the answer, and what the output then has
unfoldable pub key_copied : List ℕ → ℕ → ℕ → List ℕ → Copied
key_copied m k T out = answered_with (key_checks m k T out) (gives []) (bytes_from m (key_start k T) k) out

abbrev pub Key : List ℕ → ℕ → ℕ → List ℕ → Result ⊤ Refusal → List ℕ → Type 0
Key m k T out r after =
    ◌≡◌ {A = Copied} (record { answer = meaning_done r; bytes = after }) (key_copied m k T out)
