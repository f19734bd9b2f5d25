-- The functions over the writers: what `transmitter` promises, told in numbers.
-- Assumes nothing.
use Rattle.std.specs.Prelude.{ℕ, List, [], ◌≡◌, get_or}
use Rattle.layouts.specs.Answer.{Answer, refused, nothing, gives, Copied}
use Rattle.transmitter.specs.Write.{Written, write_kroot, write_pkr, raw_numbers, kroot_rows, pkr_rows, cut}
use Rattle.transmitter.specs.WritePromises.{kroot_of as values_of_kroot, pkr_of as values_of_pkr}
use Rattle.transmitter.specs.declared.kroot.KrootValues.{KrootValues}
use Rattle.transmitter.specs.declared.pkr.PkrValues.{PkrValues}
use Rattle.probe.specs.Telling.{told}
use Rattle.probe.specs.declared.tell.Told.{Told}
use Rattle.probe.specs.declared.writers.KrootRecord.{KrootRecord}
use Rattle.probe.specs.declared.writers.KrootCalled.{KrootCalled}
use Rattle.probe.specs.declared.writers.PkrRecord.{PkrRecord}
use Rattle.probe.specs.declared.writers.PkrCalled.{PkrCalled}
use Rattle.probe.specs.declared.writers.BlockCalled.{BlockCalled}

-- the same values under their two names
abbrev pub kroot_of : KrootRecord → KrootValues
kroot_of v =
    record {
      nb_dk = v.nb_dk;
      pkid = v.pkid;
      cidkr = v.cidkr;
      hf = v.hf;
      mf = v.mf;
      ks = v.ks;
      ts = v.ts;
      maclt = v.maclt;
      wn_k = v.wn_k;
      towh_k = v.towh_k;
      alpha = v.alpha;
    }

abbrev pub kroot_record_of : KrootValues → KrootRecord
kroot_record_of v =
    record {
      nb_dk = v.nb_dk;
      pkid = v.pkid;
      cidkr = v.cidkr;
      hf = v.hf;
      mf = v.mf;
      ks = v.ks;
      ts = v.ts;
      maclt = v.maclt;
      wn_k = v.wn_k;
      towh_k = v.towh_k;
      alpha = v.alpha;
    }

abbrev pub pkr_of : PkrRecord → PkrValues
pkr_of v = record { nb_dp = v.nb_dp; mid = v.mid; npkt = v.npkt; npkid = v.npkid }

abbrev pub pkr_record_of : PkrValues → PkrRecord
pkr_record_of v = record { nb_dp = v.nb_dp; mid = v.mid; npkt = v.npkt; npkid = v.npkid }

-- the lent bytes after a write, and the answer in numbers
pub record Sent : Type 0 where
  pub memory : List ℕ
  pub answer : Told

abbrev pub sent : Written → Sent
sent w = record { memory = w.memory; answer = told w.answer }

abbrev pub WriteKroot : List ℕ → ℕ → KrootRecord → List ℕ → List ℕ → List ℕ → Told → List ℕ → Type 0
WriteKroot memory id v key signature padding r after =
    ◌≡◌ {A = Sent} (record { memory = after; answer = r }) (sent (write_kroot memory id (values_of_kroot (kroot_of v)) key signature padding))

abbrev pub WritePkr : List ℕ → ℕ → PkrRecord → List ℕ → List ℕ → List ℕ → Told → List ℕ → Type 0
WritePkr memory id v nodes key padding r after =
    ◌≡◌ {A = Sent} (record { memory = after; answer = r }) (sent (write_pkr memory id (values_of_pkr (pkr_of v)) nodes key padding))

-- a block: its header byte in numbers, and its bytes
pub record Block13 : Type 0 where
  pub answer : Told
  pub bytes : List ℕ

abbrev pub block13 : Copied → Block13
block13 c = record { answer = told c.answer; bytes = c.bytes }

abbrev pub CutBlock : List ℕ → ℕ → ℕ → BlockCalled → Type 0
CutBlock memory id n r = ◌≡◌ {A = Block13} (record { answer = r.answer; bytes = r.bytes }) (block13 (cut memory id n))

-- the raw numbers of a message in a record, zeros where there are none; the answer beside them has no number of its own
abbrev pub kroot_numbers : List ℕ → KrootRecord
kroot_numbers l =
    record {
      nb_dk = get_or l 0 0;
      pkid = get_or l 1 0;
      cidkr = get_or l 2 0;
      hf = get_or l 3 0;
      mf = get_or l 4 0;
      ks = get_or l 5 0;
      ts = get_or l 6 0;
      maclt = get_or l 7 0;
      wn_k = get_or l 8 0;
      towh_k = get_or l 9 0;
      alpha = get_or l 10 0;
    }

unfoldable pub kroot_told : Answer → KrootCalled
kroot_told (refused n) = record { values = kroot_numbers []; answer = told (refused n) }
kroot_told nothing = record { values = kroot_numbers []; answer = told nothing }
kroot_told (gives l) = record { values = kroot_numbers l; answer = told (gives []) }

abbrev pub pkr_numbers : List ℕ → PkrRecord
pkr_numbers l = record { nb_dp = get_or l 0 0; mid = get_or l 1 0; npkt = get_or l 2 0; npkid = get_or l 3 0 }

unfoldable pub pkr_told : Answer → PkrCalled
pkr_told (refused n) = record { values = pkr_numbers []; answer = told (refused n) }
pkr_told nothing = record { values = pkr_numbers []; answer = told nothing }
pkr_told (gives l) = record { values = pkr_numbers l; answer = told (gives []) }

abbrev pub ReadKrootValues : List ℕ → KrootCalled → Type 0
ReadKrootValues m r = r ≡ kroot_told (raw_numbers kroot_rows m)

abbrev pub ReadPkrValues : List ℕ → PkrCalled → Type 0
ReadPkrValues m r = r ≡ pkr_told (raw_numbers pkr_rows m)
