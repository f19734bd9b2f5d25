-- The tables, as a whole: each statement computes.
-- Assumes nothing.
use Prim.Native.Nat.{ℕ, ◌+◌, ◌*◌}
use native.Mathlib.Omega.{arith}
use mathlib.Core.Bool.{Bool, true, false, cond, not}
use mathlib.Core.List.{List}
use mathlib.Core.Path.{◌≡◌, refl, ap}
use lib.Dec.{T, leb, leb→le, eqb, eqb→eq}
use lib.ListN.{length, get_or, drop}
use borrow.Author.Tests.{not-false}
use Rattle.layouts.specs.Answer.{refusals, refusal}
use Rattle.layouts.specs.Bits.{field, Field, row, gapless}
use Rattle.layouts.specs.DsmPkr.{pkr_layout}
use Rattle.layouts.specs.Sizes.{key_sizes, tag_sizes}
use Rattle.layouts.specs.Mack.{listed, sizes_of, size_checks, nt, mack_layout}
use Rattle.layouts.specs.Layouts.{Covered, KrootFollows, PkrFollows, Numbered, NodesLie, TagsAtLeastFour, KeyStarts, TagInfoIs}
use Rattle.layouts.specs.Layouts.{key_bits, SameKeys, NoneOnBoth, SizeRefused, BitsRefused, Exchanged}
use Rattle.layouts.proofs.Answers.{none_fails}
use Rattle.layouts.proofs.Fields.{field_add}
use Rattle.layouts.proofs.Tables.{holds_below, every}
use Rattle.layouts.proofs.Tags.{of_listed}
use Rattle.layouts.proofs.Kroot as kroot
use Rattle.layouts.proofs.Pkr as pkr

pub refusals_numbered : Numbered
unfolding refusals
refusals_numbered = refl

abbrev node_row : ℕ → Field
node_row n = get_or (drop 2 pkr_layout) n (row "" 0 0)

pub nodes_lie : NodesLie
nodes_lie n h = (
  eqb→eq _ _ (holds_below 4 (λ k. eqb (node_row k).first (8 * (1 + 32 * k))) tt n h),
  eqb→eq _ _ (holds_below 4 (λ k. eqb (node_row k).width (8 * 32)) tt n h),
)

-- a test of every listed key size and tag size is a test of any that are not refused
abbrev every_pair : (ℕ → ℕ → Bool) → Bool
every_pair test = every (λ k. every (λ T. test k T) (sizes_of tag_sizes)) (sizes_of key_sizes)

of_sizes : (test : ℕ → ℕ → Bool) (k T' : ℕ) → T (every_pair test) → refusal (size_checks k T') ≡ 0 → T (test k T')
of_sizes test k T' t e =
    let p = none_fails (size_checks k T') tt e in
    let of-key = of_listed (λ k. every (λ T. test k T) (sizes_of tag_sizes)) k (sizes_of key_sizes) t (not-false _ p.0) in
    of_listed (λ T. test k T) T' (sizes_of tag_sizes) of-key (not-false _ p.1.0)

pub covered : Covered
unfolding key_sizes tag_sizes nt
covered =
    record {
      page = tt;
      nma = tt;
      dsm = tt;
      kroot = tt;
      pkr = tt;
      mack = λ k t. of_sizes (λ k t. gapless 0 (mack_layout k t) (8 * 60)) k t tt;
    }

pub kroot_follows : KrootFollows
kroot_follows = kroot.parts_follow

pub pkr_follows : PkrFollows
pkr_follows = pkr.parts_follow

pub tags_at_least_four : TagsAtLeastFour
unfolding key_sizes tag_sizes nt
tags_at_least_four k T e = (
  leb→le 4 (nt k T) (of_sizes (λ k T. leb 4 (nt k T)) k T tt e),
  leb→le (nt k T) 10 (of_sizes (λ k T. leb (nt k T) 10) k T tt e),
)

pub key_starts : KeyStarts
unfolding key_sizes tag_sizes nt
key_starts = refl

pub same_keys : SameKeys
unfolding key_sizes
same_keys = refl

pub none_on_both : NoneOnBoth
unfolding key_sizes listed
none_on_both = refl

-- a size that is not listed is refused by every reader; so are all numbers of a list, or what is made of them, of which none is listed
seven_of : (b : Bool) → ◌≡◌ {A = ℕ} (cond (not b) 1 7) (cond b 7 1)
seven_of true = refl
seven_of false = refl

size_refused : (K : ℕ) → listed K (sizes_of key_sizes) ≡ false → SizeRefused K
unfolding refusal
size_refused K e =
    record {
      num_tags = λ T. rw e;
      header = λ T m. rw e (seven_of (eqb (length m) 60));
      tag = λ T n m. rw e (seven_of (eqb (length m) 60));
      key = λ T m out. rw e (seven_of (eqb (length m) 60));
    }

is_not : (b : Bool) → T (not b) → b ≡ false
is_not true t = absurd t
is_not false t = refl

pub none_listed : (f : ℕ → ℕ) (ss : List ℕ) → T (every (λ n. not (listed (f n) (sizes_of key_sizes))) ss)
    → (n : ℕ) → listed n ss ≡ true → SizeRefused (f n)
none_listed f ss t n e = size_refused (f n) (is_not _ (of_listed (λ n. not (listed (f n) (sizes_of key_sizes))) n ss t e))

pub bits_refused : BitsRefused
unfolding key_sizes listed
bits_refused = none_listed (λ K. K) key_bits tt

pub exchanged : Exchanged
unfolding key_sizes tag_sizes listed refusal
exchanged = refl

pub tag_info_is : TagInfoIs
tag_info_is m T n =
    let s : ℕ = n * (T + 16) + T in
    let behind : field m (s + 8 + 4) 4 ≡ field m (s + 12) 4 = ap (λ (i : ℕ). field m i 4) (omega arith) in
    omega (arith, field_add m s 8 8, field_add m (s + 8) 4 4)
