-- What the manual says, beside the promises.
-- Assumes nothing.
use mathlib.Core.Path.{◌≡◌, refl}
use mathlib.Core.Bool.{Bool, true, false, cond}
use mathlib.Core.List.{List, [], ◌∷◌, ◌++◌, map}
use Prim.Native.Nat.{ℕ, ◌+◌, ◌-◌, ◌*◌, ◌/◌, ◌≤◌, ◌<◌}
use native.Mathlib.Omega.{arith}
use lib.Dec.{ltb, eqb}
use lib.ListN.{length}
use borrow.Author.Tests.{eq-eqb, eqb-true, eqb-false, ltb-true, ltb-false}
use Rattle.layouts.specs.Answer.{gives, Check, ◌when◌, refusal, answered}
use Rattle.layouts.specs.Sizes.{kroot_blocks, pkr_blocks, key_sizes, tag_sizes}
use Rattle.layouts.specs.DsmKroot as kroot
use Rattle.layouts.specs.DsmPkr as pkr
use Rattle.layouts.specs.Mack.{listed, sizes_of, nt, key_checks, key_copied}
use Rattle.layouts.specs.Maclt as paper
use Rattle.layouts.proofs.Fields.{field_lt}
use Rattle.layouts.proofs.Answers.{converse}
use Rattle.layouts.proofs.Readers.{part_first, part_many, part_inside}
use Rattle.layouts.proofs.Kroot.{padding_few}
use Rattle.layouts.proofs.Layouts.{none_listed}
use Rattle.firmware.specs.Outcome.{One, one, Two, two, Slot, slot, Bytes, bytes, Counted, counted}
use Rattle.firmware.specs.Manual as manual

-- each by whether something is refused
told : (b : Bool) (q v a : ℕ) → eqb q 0 ≡ b
    → one a (answered q (gives (v ∷ []))) ≡ cond {A = One} b (record { refusal = 0; value = v }) (record { refusal = q; value = a })
unfolding one answered
told true q v a e = rw e
told false q v a e = rw e

pub one_written : manual.OneWritten
one_written q v a = told (eqb q 0) q v a refl

placed : (b : Bool) (q f n x y : ℕ) → eqb q 0 ≡ b
    → two x y (answered q (gives (f ∷ n ∷ [])))
    ≡ cond {A = Two} b (record { refusal = 0; first = f; many = n }) (record { refusal = q; first = x; many = y })
unfolding two answered
placed true q f n x y e = rw e
placed false q f n x y e = rw e

pub two_written : manual.TwoWritten
two_written q f n a b = placed (eqb q 0) q f n a b refl

slotted : (d : Bool) (q a b c : ℕ) (s : paper.Slot) → eqb q 0 ≡ d
    → slot a b c (answered q (gives (paper.numbers s)))
    ≡ cond {A = Slot} d (manual.slot_told s) (record { refusal = q; flex = a; adkd = b; object = c })
unfolding slot answered
slotted true q a b c (paper.fixed k o) e = rw e
slotted true q a b c paper.flex e = rw e
slotted false q a b c s e = rw e

pub slot_written : manual.SlotWritten
slot_written q a b c s = slotted (eqb q 0) q a b c s refl

copied : (d : Bool) (q : ℕ) (now out : List ℕ) → eqb q 0 ≡ d
    → bytes (record { answer = answered q (gives []); bytes = cond d now out })
    ≡ cond {A = Bytes} d (record { refusal = 0; bytes = now }) (record { refusal = q; bytes = out })
unfolding bytes answered
copied true q now out e = rw e
copied false q now out e = rw e

pub key_written : manual.KeyWritten
unfolding key_copied
key_written m k T out = copied (eqb (refusal (key_checks m k T out)) 0) (refusal (key_checks m k T out)) _ out refl

counts : (d : Bool) (q v a : ℕ) (now held : List ℕ) → eqb q 0 ≡ d
    → counted a held (record { answer = answered q (gives (v ∷ [])); bytes = now })
    ≡ cond {A = Counted} d (record { refusal = 0; value = v; bytes = now }) (record { refusal = q; value = a; bytes = held })
unfolding counted answered
counts true q v a now held e = rw e
counts false q v a now held e = rw e

pub counted_written : manual.CountedWritten
counted_written q v a now held = counts (eqb q 0) q v a now held refl

-- the first check's number, or what the rest refuses with
module _ (n : ℕ) (ns : List ℕ) where
  abbrev In : ℕ → Type 0
  In q = listed q (0 ∷ ns) ≡ true

  abbrev More : ℕ → Type 0
  More q = listed q (0 ∷ n ∷ ns) ≡ true

  one_more : (b z : Bool) (q : ℕ) → eqb q n ≡ b → eqb q 0 ≡ z → In q → More q
  unfolding listed
  one_more true true q e f h = rw (e, f)
  one_more true false q e f h = rw (e, f)
  one_more false true q e f h = rw (e, f)
  one_more false false q e f h = rw (e, f) (rw f at h)

  itself : (z : Bool) → eqb n 0 ≡ z → More n
  unfolding listed
  itself true f = rw f
  itself false f = rw (f, eq-eqb n n refl)

  either : (b : Bool) (q : ℕ) → In q → More (cond b n q)
  either true q h = itself (eqb n 0) refl
  either false q h = one_more (eqb q n) (eqb q 0) q refl refl h

pub no_other : manual.NoOther
unfolding refusal listed
no_other [] = refl
no_other (c ∷ cs) = either c.number (map (λ (d : Check). d.number) cs) c.fails (refusal cs) (no_other cs)

pub fields_fit : manual.FieldsFit
fields_fit f m = field_lt m f.first f.width

same_test : (n k : ℕ) (b c : Bool) → ltb (8 * n) k ≡ b → ltb n ((k + 7) / 8) ≡ c → b ≡ c
same_test n k true true e f = refl
same_test n k false false e f = refl
same_test n k true false e f = absurd (omega (arith, ltb-true (8 * n) k e, ltb-false n ((k + 7) / 8) f))
same_test n k false true e f = absurd (omega (arith, ltb-false (8 * n) k e, ltb-true n ((k + 7) / 8) f))

pub needs_bytes : manual.NeedsBytes
needs_bytes f m = same_test (length m) (f.first + f.width) _ _ refl refl

pub kroot_needs : manual.KrootNeeds
kroot_needs = refl

pub pkr_needs : manual.PkrNeeds
pkr_needs = refl

pub parts_inside : (m : List ℕ) → manual.PartsInside m
unfolding kroot.kroot_part kroot.signature_part kroot.padding_part pkr.node_part pkr.new_key_part pkr.leaf_part pkr.padding_part
parts_inside m =
    record {
      root_key = λ f n e. part_inside m _ _ (kroot.key_checks m) e tt;
      signature = λ f n e. part_inside m _ _ (kroot.signature_checks m) e tt;
      kroot_padding = λ f n e. part_inside m _ _ (kroot.signature_checks m) e tt;
      node = λ n f k e. part_inside m (1 + 32 * n) 32 (7 when ltb 3 n ∷ []) e tt;
      new_key = λ f n e. part_inside m _ _ (pkr.key_checks m) e tt;
      leaf = λ f n e. part_inside m _ _ (pkr.key_checks m) e tt;
      pkr_padding = λ f n e. part_inside m _ _ (pkr.padding_checks m) e tt;
    }

-- a number of bytes and what is left of its last block
rounded : (n : ℕ) → n + kroot.padding_to_block n ≡ manual.up n
unfolding kroot.padding_to_block
rounded n = omega arith

same_length : (k r s : ℕ) (b c : Bool) → eqb r (s + kroot.padding_to_block (k + s)) ≡ b → eqb (k + r) (manual.up (k + s)) ≡ c → b ≡ c
same_length k r s true true e f = refl
same_length k r s false false e f = refl
same_length k r s true false e f =
    absurd (eqb-false (k + r) (manual.up (k + s)) f (omega (arith, eqb-true r (s + kroot.padding_to_block (k + s)) e, rounded (k + s))))
same_length k r s false true e f =
    absurd (eqb-false r (s + kroot.padding_to_block (k + s)) e (omega (arith, eqb-true (k + r) (manual.up (k + s)) f, rounded (k + s))))

pub signature_lengths : manual.SignatureLengths
unfolding kroot.signature_length
signature_lengths k r = rw (same_length k r 64 _ _ refl refl, same_length k r 132 _ _ refl refl)

-- what is left behind the signature is a padding
few : (k r : ℕ) → (kroot.signature_length k r ≡ 0 → ⊥) → (kroot.signature_length k r ≤ r) × (r ≤ kroot.signature_length k r + 12)
unfolding kroot.signature_length
few k r = go (eqb r a) (eqb r b) refl refl
  where
    a : ℕ
    a = 64 + kroot.padding_to_block (k + 64)

    b : ℕ
    b = 132 + kroot.padding_to_block (k + 132)

    go : (x y : Bool) → eqb r a ≡ x → eqb r b ≡ y → (◌≡◌ {A = ℕ} (cond x 64 (cond y 132 0)) 0 → ⊥)
        → (cond x 64 (cond y 132 0) ≤ r) × (r ≤ cond x 64 (cond y 132 0) + 12)
    go true y ex ey ne =
        let e : r ≡ a = eqb-true r a ex in
        let h : kroot.padding_to_block (k + 64) < 13 = padding_few (k + 64) in
        (omega arith, omega arith)
    go false true ex ey ne =
        let e : r ≡ b = eqb-true r b ey in
        let h : kroot.padding_to_block (k + 132) < 13 = padding_few (k + 132) in
        (omega arith, omega arith)
    go false false ex ey ne = absurd (ne refl)

-- for k key bytes and a signature of s in a message of l bytes
ends : (l k s f n : ℕ) → 13 + k ≤ l → (s ≤ l - (13 + k)) × (l - (13 + k) ≤ s + 12) → f ≡ 13 + k + s → n ≡ l - (13 + k + s)
    → (f + n ≡ l) × (n ≤ 12)
ends l k s f n h (p, q) e g = (omega arith, omega arith)

pub kroot_padding_ends : manual.KrootPaddingEnds
unfolding kroot.padding_part
kroot_padding_ends m f n e =
    let k = kroot.key_bytes m in
    let s = kroot.signature_bytes m in
    let p = converse (kroot.signature_checks m ++ (5 when ltb (length m) (13 + k + s + (length m - (13 + k + s))) ∷ [])) _ tt e in
    ends
    (length m)
    k
    s
    f
    n
    (ltb-false (length m) (13 + k) p.1.1.0)
    (few k (length m - (13 + k)) (eqb-false s 0 p.1.1.1.0))
    (part_first m _ _ (kroot.signature_checks m) e)
    (part_many m _ _ (kroot.signature_checks m) e)

pub lengths_of_16 : manual.LengthsOf16
lengths_of_16 = refl

pub alert_sizes : manual.AlertSizes
alert_sizes = refl

pub ends_after : manual.EndsAfter
ends_after = refl

pub num_tags_of : manual.NumTagsOf
unfolding nt key_sizes tag_sizes
num_tags_of = refl

pub known_ids : manual.KnownIds
unfolding paper.table
known_ids = refl

pub nt_of_ids : manual.NtOfIds
unfolding paper.table
nt_of_ids = refl

pub none_odd : manual.NoneOdd
unfolding paper.table listed
none_odd = refl

pub dsm_bytes : manual.DsmBytes
unfolding kroot_blocks pkr_blocks
dsm_bytes = refl

pub divided : manual.Divided
unfolding key_sizes
divided = refl

pub divided_refused : manual.DividedRefused
unfolding key_sizes listed
divided_refused = none_listed (λ k. k / 8) (sizes_of key_sizes) tt
