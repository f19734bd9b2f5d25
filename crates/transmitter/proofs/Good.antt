-- A message that a write yields is good.
-- Assumes nothing.
use mathlib.Core.Path.{◌≡◌, refl, sym, ap, ◌∙◌, subst}
use mathlib.Core.List.{List, [], ◌∷◌, ◌++◌, map}
use mathlib.Core.Bool.{Bool, true, ◌&&◌}
use Prim.Native.Nat.{ℕ, ◌+◌, ◌*◌, ◌≤◌}
use native.Mathlib.Omega.{arith}
use lib.ListN.{length, take, drop, get_or}
use lib.Seq.{take_at}
use borrow.Author.Tests.{eq-eqb}
use Rattle.layouts.specs.Answer.{Answer, gives, Check, refusal}
use Rattle.layouts.specs.Bits.{Field, the, value}
use Rattle.layouts.specs.Sizes.{size, kroot_blocks, pkr_blocks}
use Rattle.layouts.specs.DsmHeader.{dsm_type_of}
use Rattle.layouts.specs.DsmKroot.{kroot_layout}
use Rattle.layouts.specs.DsmPkr.{node_part, count}
use Rattle.layouts.proofs.Answers.{Passed, none_fails}
use Rattle.layouts.proofs.Pkr.{node_there}
use Rattle.transmitter.specs.Write.{Written, written, KrootValues, kroot_numbers, kroot_message, kroot_checks, write_kroot, PkrValues, pkr_message}
use Rattle.transmitter.specs.Write.{pkr_checks, write_pkr}
use Rattle.transmitter.specs.ReadBack.{KrootReads, PkrReads}
use Rattle.transmitter.specs.WriteBack.{given, all_given, kroot_answers, is_good_kroot, pkr_answers, is_good_pkr, Same}
use Rattle.transmitter.proofs.Writes.{none_refused, message_back}
use Rattle.transmitter.proofs.KrootBack.{KrootFacts, kroot_reads, kroot_facts}
use Rattle.transmitter.proofs.PkrBack.{PkrFacts, pkr_reads, pkr_facts}

-- one answer more is given
pub next : (as' : List Answer) {a : Answer} {l : List ℕ} → a ≡ gives l → all_given as' ≡ true → all_given (a ∷ as') ≡ true
unfolding all_given
next as' e h = ap (λ (x : Answer). given x && all_given as') e ∙ h

pub none_left : all_given [] ≡ true
unfolding all_given
none_left = refl

all_behind : (ns : List ℕ) (rest : List Answer) → all_given rest ≡ true → all_given (map (λ (n : ℕ). gives (n ∷ [])) ns ++ rest) ≡ true
all_behind [] rest h = h
all_behind (n ∷ ns) rest h = next _ refl (all_behind ns rest h)

and_all : {a b : Bool} → a ≡ true → b ≡ true → (a && b) ≡ true
and_all e f = rw (e, f)

-- what a write that yields exactly m tells
module _ (checks : List Check) (memory message : List ℕ) (id : ℕ) (m : List ℕ) (s : Same memory id m (written checks memory message id)) where
  answer_is : (written checks memory message id).answer ≡ gives (id ∷ dsm_type_of id ∷ length m ∷ [])
  answer_is = ap (λ (w : Written). w.answer) s

  pub same_none : refusal checks ≡ 0
  same_none = none_refused checks memory message id answer_is

  pub same_message : message ≡ m
  same_message =
      sym (message_back checks memory message id (dsm_type_of id) (length m) answer_is)
      ∙ ap (λ (w : Written). take (length m) w.memory) s
      ∙ take_at m (drop (length m) memory) (length m) refl

module _ (m : List ℕ) (v : KrootValues) (key signature padding : List ℕ) (f : KrootFacts m v key signature padding) where
  kroot_given : KrootReads m v key signature padding → all_given (kroot_answers m) ≡ true
  kroot_given r =
      ap (λ (l : List Answer). all_given (l ++ drop 13 (kroot_answers m))) r.rows
      ∙ all_behind (kroot_numbers v) (drop 13 (kroot_answers m))
      (next _ r.count_read (next _ r.hash_read (next _ r.mac_read (next _ r.key_size_read (next _ r.tag_size_read
      (next _ r.key_shown (next _ r.signature_shown (next _ r.curve_read (next _ r.padding_shown none_left)))))))))

  pub kroot_good : is_good_kroot m ≡ true
  unfolding is_good_kroot
  kroot_good =
      let says : (i : ℕ) → get_or (map (λ (f : Field). value f m) kroot_layout) i 0 ≡ get_or (kroot_numbers v) i 0 =
      λ i. ap (λ (l : List ℕ). get_or l i 0) f.values in
      and_all (and_all (and_all (kroot_given (kroot_reads m v key signature padding f))
      (eq-eqb (length m) (13 * size kroot_blocks (value (the "NB_DK" kroot_layout) m))
      (f.long ∙ f.whole ∙ ap (λ (n : ℕ). 13 * size kroot_blocks n) (sym (says 0)))))
      (eq-eqb (value (the "Reserved 1" kroot_layout) m) 0 (says 3)))
      (eq-eqb (value (the "Reserved 2" kroot_layout) m) 0 (says 9))

pub only_kroot : (memory : List ℕ) (id : ℕ) (m : List ℕ) (v : KrootValues) (key signature padding : List ℕ)
    → Same memory id m (write_kroot memory id v key signature padding) → is_good_kroot m ≡ true
unfolding write_kroot
only_kroot memory id m v key signature padding s =
    let checks = kroot_checks memory id v key signature padding in
    let message = kroot_message v key signature padding in
    let p : Passed checks = none_fails checks tt (same_none checks memory message id m s) in
    subst (λ (l : List ℕ). is_good_kroot l ≡ true) (same_message checks memory message id m s)
    (kroot_good message v key signature padding (kroot_facts memory id v key signature padding p))

module _ (m : List ℕ) (v : PkrValues) (nodes key padding : List ℕ) (f : PkrFacts m v nodes key padding) where
  node_given : (k : ℕ) → k ≤ 3 → node_part m k ≡ gives ((1 + 32 * k) ∷ 32 ∷ [])
  node_given k h = sym (node_there m k h (omega (arith, f.long)))

  pkr_given : PkrReads m v nodes key padding → all_given (pkr_answers m) ≡ true
  pkr_given r =
      next _ r.count_read
      (next _ r.message_read
      (next _ (node_given 0 (omega arith)) (next _ (node_given 1 (omega arith)) (next _ (node_given 2 (omega arith)) (next _ (node_given 3 (omega arith))
      (next _ r.type_as_it_stands
      (next _ r.type_read
      (next _ r.key_id_read (next _ r.key_size_read (next _ r.key_shown (next _ r.leaf_shown (next _ r.padding_shown none_left))))))))))))

  pub pkr_good : is_good_pkr m ≡ true
  unfolding is_good_pkr
  pkr_good =
      and_all (pkr_given (pkr_reads m v nodes key padding f))
      (eq-eqb (length m) (13 * count m) (f.long ∙ f.whole ∙ ap (λ (n : ℕ). 13 * size pkr_blocks n) (sym f.count_says)))

pub only_pkr : (memory : List ℕ) (id : ℕ) (m : List ℕ) (v : PkrValues) (nodes key padding : List ℕ)
    → Same memory id m (write_pkr memory id v nodes key padding) → is_good_pkr m ≡ true
unfolding write_pkr
only_pkr memory id m v nodes key padding s =
    let checks = pkr_checks memory id v nodes key padding in
    let message = pkr_message v nodes key padding in
    let p : Passed checks = none_fails checks tt (same_none checks memory message id m s) in
    subst (λ (l : List ℕ). is_good_pkr l ≡ true) (same_message checks memory message id m s)
    (pkr_good message v nodes key padding (pkr_facts memory id v nodes key padding p))
