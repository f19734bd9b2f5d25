-- Writing with the code what the code read.
-- Assumes nothing.
use mathlib.Core.Path.{◌≡◌, refl, sym, ap, ◌∙◌}
use mathlib.Core.List.{List, [], ◌∷◌, ◌++◌}
use mathlib.Core.Bool.{Bool, true, cond}
use Prim.Native.Nat.{ℕ, ◌≤◌, ◌<◌}
use native.Mathlib.Omega.{arith}
use lib.ListN.{length}
use borrow.Author.Tests.{lt-ltb, le-ltb}
use Rattle.layouts.specs.Answer.{gives, Check, shown}
use Rattle.layouts.specs.Bits.{the, value}
use Rattle.layouts.specs.DsmHeader.{dsm_type_of}
use Rattle.layouts.specs.DsmKroot.{kroot_layout, kroot_part, signature_part}
use Rattle.layouts.specs.DsmPkr.{pkr_layout, new_key_part}
use Rattle.layouts.specs.declared.dsm_header.DsmType.TheVariants.{Kroot, Pkr}
use Rattle.transmitter.specs.Write.{Written, written, write_kroot, kroot_checks, kroot_message, write_pkr, pkr_checks, pkr_message}
use Rattle.transmitter.specs.WritePromises.{kroot_of, pkr_of, meaning_written, WriteKroot, WritePkr}
use Rattle.transmitter.specs.WriteBack.{is_good_kroot, is_good_pkr, kroot_read, pkr_read, node, Same, Bytes, LeftKroot, LeftPkr}
use Rattle.transmitter.specs.WriteBack.{CodeExactlyIf, CodeWritesBackExactlyIf}
use Rattle.dsms.specs.declared.dsm.CompleteDsm.{CompleteDsm}
use Rattle.layouts.specs.declared.refusal.Refusal.{Refusal}
use Rattle.transmitter.specs.declared.kroot.KrootValues.{KrootValues}
use Rattle.std.specs.Prelude.{Result, Ok}
use Rattle.transmitter.specs.declared.pkr.PkrValues.{PkrValues}
use Rattle.transmitter.proofs.Rows.{kroot_raw, pkr_raw}
use Rattle.transmitter.proofs.Writes.{written_is, none_refused}
use Rattle.transmitter.proofs.Good.{only_kroot, only_pkr}
use Rattle.transmitter.proofs.KrootAgain.{if_kroot, head_there}
use Rattle.transmitter.proofs.PkrAgain as again
use Rattle.transmitter.proofs.PkrAgain.{node_of}
use Rattle.transmitter.proofs.WriteUnique.{same_written, same_kroot, same_pkr}

-- the values that were read, under the code's names
abbrev kroot_values : List ℕ → KrootValues
kroot_values m =
    record {
      nb_dk = value (the "NB_DK" kroot_layout) m;
      pkid = value (the "PKID" kroot_layout) m;
      cidkr = value (the "CIDKR" kroot_layout) m;
      hf = value (the "HF" kroot_layout) m;
      mf = value (the "MF" kroot_layout) m;
      ks = value (the "KS" kroot_layout) m;
      ts = value (the "TS" kroot_layout) m;
      maclt = value (the "MACLT" kroot_layout) m;
      wn_k = value (the "WN_K" kroot_layout) m;
      towh_k = value (the "TOWH_K" kroot_layout) m;
      alpha = value (the "alpha" kroot_layout) m;
    }

abbrev pkr_values : List ℕ → PkrValues
pkr_values m =
    record {
      nb_dp = value (the "NB_DP" pkr_layout) m;
      mid = value (the "MID" pkr_layout) m;
      npkt = value (the "NPKT" pkr_layout) m;
      npkid = value (the "NPKID" pkr_layout) m;
    }

-- what a write that yields the message tells, and what tells that it did
kroot_left : (memory : List ℕ) (id : ℕ) (m : List ℕ) (r : Result CompleteDsm Refusal) (after : List ℕ) → id < 12
    → Same memory id m (record { memory = after; answer = meaning_written r }) → LeftKroot memory id m r after
kroot_left memory id m r after h s = (
  same_written r (Ok (record { id = id; dsm_type = Kroot; bytes = length m }))
      (ap (λ (w : Written). w.answer) s ∙ ap (λ (b : Bool). gives (id ∷ cond b 0 1 ∷ length m ∷ [])) (lt-ltb id 12 h)),
  ap (λ (w : Written). w.memory) s,
)

pkr_left : (memory : List ℕ) (id : ℕ) (m : List ℕ) (r : Result CompleteDsm Refusal) (after : List ℕ) → 11 < id
    → Same memory id m (record { memory = after; answer = meaning_written r }) → LeftPkr memory id m r after
pkr_left memory id m r after h s = (
  same_written r (Ok (record { id = id; dsm_type = Pkr; bytes = length m }))
      (ap (λ (w : Written). w.answer) s ∙ ap (λ (b : Bool). gives (id ∷ cond b 0 1 ∷ length m ∷ [])) (le-ltb id 12 h)),
  ap (λ (w : Written). w.memory) s,
)

-- the type is that of the ID
same_type : (checks : List Check) (memory message : List ℕ) (id t n : ℕ) {x : List ℕ}
    → written checks memory message id ≡ record { memory = x; answer = gives (id ∷ t ∷ n ∷ []) }
    → written checks memory message id ≡ record { memory = x; answer = gives (id ∷ dsm_type_of id ∷ n ∷ []) }
same_type checks memory message id t n {x} e =
    let a : (written checks memory message id).answer ≡ gives (id ∷ t ∷ n ∷ []) = ap (λ (w : Written). w.answer) e in
    let b : gives (id ∷ dsm_type_of id ∷ length message ∷ []) ≡ gives (id ∷ t ∷ n ∷ []) =
    sym (ap (λ (w : Written). w.answer) (written_is checks memory message id (none_refused checks memory message id a))) ∙ a in
    let c : t ≡ dsm_type_of id = cc in
    e ∙ ap (λ (k : ℕ). record { memory = x; answer = gives (id ∷ k ∷ n ∷ []) }) c

module _ (memory : List ℕ) (id : ℕ) (m : List ℕ) (long : length memory ≡ 208) (b : Bytes m) where
  kroot_only : (v : KrootValues) (key signature padding : List ℕ) (r : Result CompleteDsm Refusal) (after : List ℕ)
      → WriteKroot memory id v key signature padding r after → LeftKroot memory id m r after → is_good_kroot m ≡ true
  unfolding write_kroot
  kroot_only v key signature padding r after w l =
      only_kroot memory id m (kroot_of v) key signature padding
      (same_type (kroot_checks memory id (kroot_of v) key signature padding) memory (kroot_message (kroot_of v) key signature padding) id 0 (length m)
      (sym w ∙ ap (λ (x : Result CompleteDsm Refusal). record { memory = after; answer = meaning_written x }) l.0
      ∙ ap (λ (x : List ℕ). record { memory = x; answer = gives (id ∷ 0 ∷ length m ∷ []) }) l.1))

  pkr_only : (v : PkrValues) (nodes key padding : List ℕ) (r : Result CompleteDsm Refusal) (after : List ℕ)
      → WritePkr memory id v nodes key padding r after → LeftPkr memory id m r after → is_good_pkr m ≡ true
  unfolding write_pkr
  pkr_only v nodes key padding r after w l =
      only_pkr memory id m (pkr_of v) nodes key padding
      (same_type (pkr_checks memory id (pkr_of v) nodes key padding) memory (pkr_message (pkr_of v) nodes key padding) id 1 (length m)
      (sym w ∙ ap (λ (x : Result CompleteDsm Refusal). record { memory = after; answer = meaning_written x }) l.0
      ∙ ap (λ (x : List ℕ). record { memory = x; answer = gives (id ∷ 1 ∷ length m ∷ []) }) l.1))

  exactly_if : CodeExactlyIf memory id m
  exactly_if =
      record {
        if_kroot = λ kind good x key signature padding px pk ps pp. (
          kroot_values m,
          same_kroot x (Ok (kroot_values m)) (px ∙ sym (kroot_raw m (omega (arith, head_there m good)) refl)),
          λ r after w.
              kroot_left memory id m r after kind
              (w ∙ ap (λ (y : List ℕ). write_kroot memory id (kroot_read m) y signature padding) pk
              ∙ ap (λ (y : List ℕ). write_kroot memory id (kroot_read m) (shown m (kroot_part m)) y padding) ps
              ∙ ap (λ (y : List ℕ). write_kroot memory id (kroot_read m) (shown m (kroot_part m)) (shown m (signature_part m)) y) pp
              ∙ if_kroot m good memory id long b kind),
        );
        only_kroot = kroot_only;
        if_pkr = λ low high good x x₀ x₁ x₂ x₃ key padding px p₀ p₁ p₂ p₃ pk pp.
            let n : (k : ℕ) → k ≤ 3 → (node_of m k).bytes ≡ node m k = λ k h. sym (again.node_is m good k h) in (
              pkr_values m,
              same_pkr x (Ok (pkr_values m)) (px ∙ sym (pkr_raw m (omega (arith, again.head_there m good)) refl)),
              node_of m 0,
              again.node_read m good 0 (omega arith) x₀ p₀,
              node_of m 1,
              again.node_read m good 1 (omega arith) x₁ p₁,
              node_of m 2,
              again.node_read m good 2 (omega arith) x₂ p₂,
              node_of m 3,
              again.node_read m good 3 (omega arith) x₃ p₃,
              λ r after w.
                  pkr_left memory id m r after low
                  (w ∙ ap (λ (y : List ℕ). write_pkr memory id (pkr_read m) (y ++ (node_of m 1).bytes ++ (node_of m 2).bytes ++ (node_of m 3).bytes) key padding) (n 0 (omega arith))
                  ∙ ap (λ (y : List ℕ). write_pkr memory id (pkr_read m) (node m 0 ++ y ++ (node_of m 2).bytes ++ (node_of m 3).bytes) key padding) (n 1 (omega arith))
                  ∙ ap (λ (y : List ℕ). write_pkr memory id (pkr_read m) (node m 0 ++ node m 1 ++ y ++ (node_of m 3).bytes) key padding) (n 2 (omega arith))
                  ∙ ap (λ (y : List ℕ). write_pkr memory id (pkr_read m) (node m 0 ++ node m 1 ++ node m 2 ++ y) key padding) (n 3 (omega arith))
                  ∙ ap (λ (y : List ℕ). write_pkr memory id (pkr_read m) (node m 0 ++ node m 1 ++ node m 2 ++ node m 3) y padding) pk
                  ∙ ap (λ (y : List ℕ). write_pkr memory id (pkr_read m) (node m 0 ++ node m 1 ++ node m 2 ++ node m 3) (shown m (new_key_part m)) y) pp
                  ∙ again.if_pkr m good memory id long b low high),
            );
        only_pkr = pkr_only;
      }

pub code_writes_back : CodeWritesBackExactlyIf
code_writes_back memory id m long b = exactly_if memory id m long b
