-- What the functions of the transmitter promise, and the paper's numbers and values for each case of their answers.
-- Assumes nothing.
use Rattle.std.specs.Prelude.{ℕ, List, [], ◌∷◌, ◌≡◌, Result}
use Rattle.layouts.specs.Answer.{Answer, Copied}
use Rattle.layouts.specs.Refusals.{answer_of, with_bytes}
use Rattle.layouts.specs.declared.refusal.Refusal.{Refusal}
use Rattle.dsms.specs.DsmPromises.{complete_numbers}
use Rattle.dsms.specs.declared.dsm.CompleteDsm.{CompleteDsm}
use Rattle.transmitter.specs.Write.{Written, KrootValues, PkrValues, write_kroot, write_pkr, raw_numbers, kroot_rows, pkr_rows, cut}
use Rattle.transmitter.specs.declared.kroot.KrootValues.{KrootValues as KrootNumbers}
use Rattle.transmitter.specs.declared.pkr.PkrValues.{PkrValues as PkrNumbers}
use Rattle.transmitter.specs.declared.blocks.BlockCut.{BlockCut}

-- the code's values under the paper's names
abbrev pub kroot_of : KrootNumbers → KrootValues
kroot_of v =
    record {
      nb_dk = v.nb_dk;
      pkid = v.pkid;
      cidkr = v.cidkr;
      hf = v.hf;
      mf = v.mf;
      ks = v.ks;
      ts = v.ts;
      maclt = v.maclt;
      wn_k = v.wn_k;
      towh_k = v.towh_k;
      alpha = v.alpha;
    }

abbrev pub pkr_of : PkrNumbers → PkrValues
pkr_of v = record { nb_dp = v.nb_dp; mid = v.mid; npkt = v.npkt; npkid = v.npkid }

-- what was written, as the collector answers it: KROOT is 0 and PKR is 1
abbrev pub meaning_written : Result CompleteDsm Refusal → Answer
meaning_written r = answer_of complete_numbers r

-- the lent bytes, all of them, and the answer
abbrev pub WriteKroot : List ℕ → ℕ → KrootNumbers → List ℕ → List ℕ → List ℕ → Result CompleteDsm Refusal → List ℕ → Type 0
WriteKroot memory id v key signature padding r after =
    ◌≡◌ {A = Written} (record { memory = after; answer = meaning_written r }) (write_kroot memory id (kroot_of v) key signature padding)

abbrev pub WritePkr : List ℕ → ℕ → PkrNumbers → List ℕ → List ℕ → List ℕ → Result CompleteDsm Refusal → List ℕ → Type 0
WritePkr memory id v nodes key padding r after =
    ◌≡◌ {A = Written} (record { memory = after; answer = meaning_written r }) (write_pkr memory id (pkr_of v) nodes key padding)

-- the raw numbers, in the order of their rows
abbrev pub kroot_raw : KrootNumbers → List ℕ
kroot_raw v = v.nb_dk ∷ v.pkid ∷ v.cidkr ∷ v.hf ∷ v.mf ∷ v.ks ∷ v.ts ∷ v.maclt ∷ v.wn_k ∷ v.towh_k ∷ v.alpha ∷ []

abbrev pub meaning_kroot : Result KrootNumbers Refusal → Answer
meaning_kroot r = answer_of kroot_raw r

abbrev pub pkr_raw : PkrNumbers → List ℕ
pkr_raw v = v.nb_dp ∷ v.mid ∷ v.npkt ∷ v.npkid ∷ []

abbrev pub meaning_pkr : Result PkrNumbers Refusal → Answer
meaning_pkr r = answer_of pkr_raw r

abbrev pub ReadKrootValues : List ℕ → Result KrootNumbers Refusal → Type 0
ReadKrootValues m r = meaning_kroot r ≡ raw_numbers kroot_rows m

abbrev pub ReadPkrValues : List ℕ → Result PkrNumbers Refusal → Type 0
ReadPkrValues m r = meaning_pkr r ≡ raw_numbers pkr_rows m

-- a block's header byte and its bytes; beside a refusal the definition has zeros
abbrev pub meaning_cut : Result BlockCut Refusal → Copied
meaning_cut r = with_bytes 13 (λ (b : BlockCut). b.header ∷ []) (λ (b : BlockCut). b.bytes) r

abbrev pub CutBlock : List ℕ → ℕ → ℕ → Result BlockCut Refusal → Type 0
CutBlock memory id n r = meaning_cut r ≡ cut memory id n
