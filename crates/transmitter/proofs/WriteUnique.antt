-- Two answers that meet a promise agree, with every lent byte.
-- Assumes nothing.
use mathlib.Core.Path.{◌≡◌, refl, sym, ap, ◌∙◌}
use mathlib.Core.List.{List, [], ◌∷◌}
use Prim.Native.Nat.{ℕ}
use lib.ListN.{get_or}
use Rattle.std.specs.Prelude.{Result}
use Rattle.layouts.specs.declared.dsm_header.DsmType.{DsmType}
use Rattle.layouts.specs.declared.refusal.Refusal.{Refusal}
use Rattle.dsms.specs.DsmPromises.{complete_numbers}
use Rattle.dsms.specs.declared.dsm.CompleteDsm.{CompleteDsm}
use Rattle.layouts.proofs.Back.{results, results_with_bytes}
use Rattle.dsms.proofs.DsmUnique.{type_back, type_undone}
use Rattle.transmitter.specs.Write.{Written}
use Rattle.transmitter.specs.WritePromises.{kroot_raw, pkr_raw, meaning_written, meaning_kroot, meaning_pkr, meaning_cut}
use Rattle.transmitter.specs.Agreed.{Agreed}
use Rattle.transmitter.specs.declared.kroot.KrootValues.{KrootValues}
use Rattle.transmitter.specs.declared.pkr.PkrValues.{PkrValues}
use Rattle.transmitter.specs.declared.blocks.BlockCut.{BlockCut}

abbrev complete_back : List ℕ → CompleteDsm
complete_back l = record { id = get_or l 0 0; dsm_type = type_back (get_or l 1 0); bytes = get_or l 2 0 }

complete_undone : (d : CompleteDsm) → complete_back (complete_numbers d) ≡ d
complete_undone d = ap (λ (t : DsmType). record { id = d.id; dsm_type = t; bytes = d.bytes }) (type_undone d.dsm_type)

pub same_written : (r s : Result CompleteDsm Refusal) → meaning_written r ≡ meaning_written s → r ≡ s
same_written r s e = results complete_numbers complete_back complete_undone _ r s e refl

abbrev kroot_back : List ℕ → KrootValues
kroot_back l =
    record {
      nb_dk = get_or l 0 0;
      pkid = get_or l 1 0;
      cidkr = get_or l 2 0;
      hf = get_or l 3 0;
      mf = get_or l 4 0;
      ks = get_or l 5 0;
      ts = get_or l 6 0;
      maclt = get_or l 7 0;
      wn_k = get_or l 8 0;
      towh_k = get_or l 9 0;
      alpha = get_or l 10 0;
    }

pub same_kroot : (r s : Result KrootValues Refusal) → meaning_kroot r ≡ meaning_kroot s → r ≡ s
same_kroot r s e = results kroot_raw kroot_back (λ v. refl) _ r s e refl

abbrev pkr_back : List ℕ → PkrValues
pkr_back l = record { nb_dp = get_or l 0 0; mid = get_or l 1 0; npkt = get_or l 2 0; npkid = get_or l 3 0 }

pub same_pkr : (r s : Result PkrValues Refusal) → meaning_pkr r ≡ meaning_pkr s → r ≡ s
same_pkr r s e = results pkr_raw pkr_back (λ v. refl) _ r s e refl

-- a block, from its header byte and its bytes
abbrev cut_back : List ℕ → List ℕ → BlockCut
cut_back l b = record { header = get_or l 0 0; bytes = b }

pub same_cut : (r s : Result BlockCut Refusal) → meaning_cut r ≡ meaning_cut s → r ≡ s
same_cut r s e = results_with_bytes 13 (λ (b : BlockCut). b.header ∷ []) (λ (b : BlockCut). b.bytes) cut_back (λ b. refl) _ r s e refl

written_agrees : {r s : Result CompleteDsm Refusal} {x y : List ℕ} → ◌≡◌ {A = Written} (record { memory = x; answer = meaning_written r })
    (record { memory = y; answer = meaning_written s })
    → (r ≡ s) × (x ≡ y)
written_agrees {r} {s} e = (same_written r s (ap (λ (w : Written). w.answer) e), ap (λ (w : Written). w.memory) e)

pub agreed : Agreed
agreed =
    record {
      write_kroot = λ memory id v key signature padding r s x y p q. written_agrees (p ∙ sym q);
      kroot_values = λ m r s p q. same_kroot r s (p ∙ sym q);
      write_pkr = λ memory id v nodes key padding r s x y p q. written_agrees (p ∙ sym q);
      pkr_values = λ m r s p q. same_pkr r s (p ∙ sym q);
      block = λ memory id n r s p q. same_cut r s (p ∙ sym q);
    }
