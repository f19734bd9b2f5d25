-- What the manual, include/osnma.h, says beside the promises: each statement under the sentence that it is for. That a field has those bits, that a
-- code stands for that size and that a refusal is given exactly so is said by the promises themselves.
-- Assumes nothing.
use Rattle.std.specs.Prelude.{ℕ, ◌+◌, ◌*◌, ◌/◌, ◌^◌, ◌≤◌, ◌<◌, List, [], ◌∷◌, ◌++◌, map, true, cond, ◌≡◌, length, ltb, eqb}
use Rattle.layouts.specs.Answer.{Answer, gives, Check, refusal, answered}
use Rattle.layouts.specs.Bits.{Field, value, reach, bytes_from}
use Rattle.layouts.specs.Sizes.{Size, size, kroot_blocks, pkr_blocks, key_sizes, tag_sizes}
use Rattle.layouts.specs.DsmKroot as kroot
use Rattle.layouts.specs.DsmPkr as pkr
use Rattle.layouts.specs.Mack.{sizes_of, listed, nt, key_checks, key_start, key_copied}
use Rattle.layouts.specs.Layouts.{SizeRefused}
use Rattle.layouts.specs.Maclt as paper
use Rattle.firmware.specs.Outcome.{One, one, Two, two, Slot, slot, Bytes, bytes, Counted, counted}

-- "A function returns 0 and writes every result, or it returns the number of a refusal and writes nothing": lent one number, two, a slot's three,
-- a key's bytes, or a number and four bytes; q is the refusal number
abbrev pub OneWritten : Type 0
OneWritten =
    (q v a : ℕ)
    → one a (answered q (gives (v ∷ [])))
    ≡ cond {A = One} (eqb q 0) (record { refusal = 0; value = v }) (record { refusal = q; value = a })

abbrev pub TwoWritten : Type 0
TwoWritten =
    (q f n a b : ℕ)
    → two a b (answered q (gives (f ∷ n ∷ [])))
    ≡ cond {A = Two} (eqb q 0) (record { refusal = 0; first = f; many = n }) (record { refusal = q; first = a; many = b })

-- "flex is 1 for FLX, and then adkd and object are 0. Else flex is 0, .."
abbrev pub slot_told : paper.Slot → Slot
slot_told (paper.fixed k o) = record { refusal = 0; flex = 0; adkd = k; object = o }
slot_told paper.flex = record { refusal = 0; flex = 1; adkd = 0; object = 0 }

abbrev pub SlotWritten : Type 0
SlotWritten =
    (q a b c : ℕ) (s : paper.Slot)
    → slot a b c (answered q (gives (paper.numbers s)))
    ≡ cond {A = Slot} (eqb q 0) (slot_told s) (record { refusal = q; flex = a; adkd = b; object = c })

abbrev pub KeyWritten : Type 0
KeyWritten =
    (m : List ℕ) (k T : ℕ) (out : List ℕ)
    → bytes (key_copied m k T out)
    ≡ cond
    {A = Bytes}
    (eqb (refusal (key_checks m k T out)) 0)
    (record { refusal = 0; bytes = bytes_from m (key_start k T) k })
    (record { refusal = refusal (key_checks m k T out); bytes = out })

abbrev pub CountedWritten : Type 0
CountedWritten =
    (q v a : ℕ) (now held : List ℕ)
    → counted a held (record { answer = answered q (gives (v ∷ [])); bytes = now })
    ≡ cond {A = Counted} (eqb q 0) (record { refusal = 0; value = v; bytes = now }) (record { refusal = q; value = a; bytes = held })

-- "No other comes up": a refusal is one of the numbers of the checks
abbrev pub NoOther : Type 0
NoOther = (cs : List Check) → listed (refusal cs) (0 ∷ map (λ (c : Check). c.number) cs) ≡ true

-- ".. bits 4..7: 0..15": a field of w bits is below 2 ^ w
abbrev pub FieldsFit : Type 0
FieldsFit = (f : Field) (m : List ℕ) → value f m < 2 ^ f.width

-- "5 len below 6": how many bytes a field needs, and the rows' numbers in their order
abbrev pub needs : Field → ℕ
needs f = (f.first + f.width + 7) / 8

abbrev pub NeedsBytes : Type 0
NeedsBytes = (f : Field) (m : List ℕ) → (reach f m).fails ≡ ltb (length m) (needs f)

abbrev pub KrootNeeds : Type 0
KrootNeeds = map needs kroot.kroot_layout ≡ 1 ∷ 1 ∷ 2 ∷ 2 ∷ 2 ∷ 2 ∷ 3 ∷ 3 ∷ 4 ∷ 5 ∷ 6 ∷ 7 ∷ 13 ∷ []

abbrev pub PkrNeeds : Type 0
PkrNeeds = map needs pkr.pkr_layout ≡ 1 ∷ 1 ∷ 33 ∷ 65 ∷ 97 ∷ 129 ∷ 130 ∷ 130 ∷ []

-- "it is the many bytes from msg + first on, and lies inside the message"
abbrev pub Inside : List ℕ → Answer → Type 0
Inside m a = (f n : ℕ) → gives (f ∷ n ∷ []) ≡ a → f + n ≤ length m

pub record PartsInside (m : List ℕ) : Type 0 where
  pub root_key : Inside m (kroot.kroot_part m)
  pub signature : Inside m (kroot.signature_part m)
  pub kroot_padding : Inside m (kroot.padding_part m)
  pub node : (n : ℕ) → Inside m (pkr.node_part m n)
  pub new_key : Inside m (pkr.new_key_part m)
  pub leaf : Inside m (pkr.leaf_part m)
  pub pkr_padding : Inside m (pkr.padding_part m)

-- DS: "len .. is 13 plus k + 64 rounded up to a multiple of 13, or the same with 132 for 64. With a key of 16 bytes that is 104 or 169."
abbrev pub up : ℕ → ℕ
up n = (n + 12) / 13 * 13

abbrev pub SignatureLengths : Type 0
SignatureLengths =
    (k r : ℕ) → kroot.signature_length k r ≡ cond (eqb (k + r) (up (k + 64))) 64 (cond (eqb (k + r) (up (k + 132))) 132 0)

abbrev pub LengthsOf16 : Type 0
LengthsOf16 = (13 + up (16 + 64)) ∷ (13 + up (16 + 132)) ∷ [] ≡ 104 ∷ 169 ∷ []

-- P_DK: "from the end of the signature to the end of the message: many is 0..12"
abbrev pub KrootPaddingEnds : Type 0
KrootPaddingEnds = (m : List ℕ) (f n : ℕ) → gives (f ∷ n ∷ []) ≡ kroot.padding_part m → (f + n ≡ length m) × (n ≤ 12)

-- "13 x blocks - 130, that is 39, 52, 65 or 78"; "the key ends after 13 x blocks (NPKT 3 with 13, 14 or 15 blocks)": for types 1, 3 and 4
abbrev pub AlertSizes : Type 0
AlertSizes = map (λ (b : ℕ). size (pkr.new_key_sizes b) 4) (13 ∷ 14 ∷ 15 ∷ 16 ∷ []) ≡ 39 ∷ 52 ∷ 65 ∷ 78 ∷ []

abbrev pub ends_after : ℕ → ℕ → ℕ
ends_after type b = cond (ltb (13 * b) (130 + size (pkr.new_key_sizes b) type)) b 0

abbrev pub EndsAfter : Type 0
EndsAfter =
    map (λ (type : ℕ). map (ends_after type) (13 ∷ 14 ∷ 15 ∷ 16 ∷ [])) (1 ∷ 3 ∷ 4 ∷ [])
    ≡ (0 ∷ 0 ∷ 0 ∷ 0 ∷ []) ∷ (13 ∷ 14 ∷ 15 ∷ 0 ∷ []) ∷ (0 ∷ 0 ∷ 0 ∷ 0 ∷ []) ∷ []

-- "nt = (480 - 8 x k) / (T + 16), rounded down: 4..10": a line for each k, with T from 20 to 40
abbrev pub NumTagsOf : Type 0
NumTagsOf =
    map (λ (k : ℕ). map (nt k) (sizes_of tag_sizes)) (sizes_of key_sizes)
    ≡ (10 ∷ 9 ∷ 8 ∷ 8 ∷ 6 ∷ []) ∷
    (10 ∷ 9 ∷ 8 ∷ 7 ∷ 6 ∷ []) ∷
    (10 ∷ 9 ∷ 8 ∷ 7 ∷ 6 ∷ []) ∷
    (10 ∷ 9 ∷ 8 ∷ 7 ∷ 6 ∷ []) ∷
    (9 ∷ 8 ∷ 8 ∷ 7 ∷ 6 ∷ []) ∷
    (8 ∷ 8 ∷ 7 ∷ 6 ∷ 5 ∷ []) ∷
    (8 ∷ 7 ∷ 6 ∷ 6 ∷ 5 ∷ []) ∷
    (7 ∷ 6 ∷ 5 ∷ 5 ∷ 4 ∷ []) ∷
    (6 ∷ 5 ∷ 5 ∷ 4 ∷ 4 ∷ []) ∷
    []

-- "Known IDs: 27, 28, 31, 33 to 41"; "nt of an ID: 4, 5, 6 or 10"
abbrev pub KnownIds : Type 0
KnownIds = map (λ (r : paper.Row). r.id) paper.table ≡ 27 ∷ 28 ∷ 31 ∷ 33 ∷ 34 ∷ 35 ∷ 36 ∷ 37 ∷ 38 ∷ 39 ∷ 40 ∷ 41 ∷ []

abbrev pub NtOfIds : Type 0
NtOfIds = map (λ (r : paper.Row). r.nt) paper.table ≡ 6 ∷ 10 ∷ 5 ∷ 6 ∷ 6 ∷ 6 ∷ 5 ∷ 5 ∷ 5 ∷ 4 ∷ 4 ∷ 4 ∷ []

-- "adkd is 0, 4 or 12 and object is 0 or 1": the slots of the table that are none of these
abbrev pub odd : List paper.Slot → List paper.Slot
odd [] = []
odd (paper.flex ∷ ss) = odd ss
odd (paper.fixed adkd object ∷ ss) =
    cond (listed adkd (0 ∷ 4 ∷ 12 ∷ [])) (cond (ltb object 2) (odd ss) (paper.fixed adkd object ∷ odd ss)) (paper.fixed adkd object ∷ odd ss)

abbrev pub odd_of : List paper.Row → List paper.Slot
odd_of [] = []
odd_of (r ∷ rs) = odd r.message0 ++ odd r.message1 ++ odd_of rs

abbrev pub NoneOdd : Type 0
NoneOdd = odd_of paper.table ≡ []

-- OSNMA_DSM_MAX_BYTES 208: 13 bytes for each block
abbrev pub DsmBytes : Type 0
DsmBytes =
    map (λ (s : Size). 13 * s.stands_for) (kroot_blocks ++ pkr_blocks)
    ≡ 91 ∷ 104 ∷ 117 ∷ 130 ∷ 143 ∷ 156 ∷ 169 ∷ 182 ∷ 169 ∷ 182 ∷ 195 ∷ 208 ∷ []

-- "Firmware that still divides it by 8 gets 1 to 4, which is refused with 7 too": the quotients, and by every function. (That a size in bits
-- is always refused is `BitsRefused` of `layouts`, and which sizes pass exchanged is `Exchanged`.)
abbrev pub Divided : Type 0
Divided = map (λ (k : ℕ). k / 8) (sizes_of key_sizes) ≡ 1 ∷ 1 ∷ 1 ∷ 1 ∷ 2 ∷ 2 ∷ 3 ∷ 3 ∷ 4 ∷ []

abbrev pub DividedRefused : Type 0
DividedRefused = (k : ℕ) → listed k (sizes_of key_sizes) ≡ true → SizeRefused (k / 8)
