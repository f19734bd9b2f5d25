-- Document 01, "How far each promise reaches": "show that any two answers satisfying it agree". `Agree` is of `layouts`; a line for each public function.
-- Assumes nothing.
use Rattle.std.specs.Prelude.{ℕ, List}
use Rattle.layouts.specs.Agree.{Agree, AgreeWith}
use Rattle.transmitter.specs.WritePromises.{WriteKroot, WritePkr, ReadKrootValues, ReadPkrValues, CutBlock}
use Rattle.transmitter.specs.declared.kroot.KrootValues.{KrootValues}
use Rattle.transmitter.specs.declared.pkr.PkrValues.{PkrValues}

pub record Agreed : Type 0 where
  -- `kroot`
  pub write_kroot : (memory : List ℕ) (id : ℕ) (v : KrootValues) (key signature padding : List ℕ) → AgreeWith (WriteKroot memory id v key signature padding)
  pub kroot_values : (m : List ℕ) → Agree (ReadKrootValues m)
  -- `pkr`
  pub write_pkr : (memory : List ℕ) (id : ℕ) (v : PkrValues) (nodes key padding : List ℕ) → AgreeWith (WritePkr memory id v nodes key padding)
  pub pkr_values : (m : List ℕ) → Agree (ReadPkrValues m)
  -- `blocks`
  pub block : (memory : List ℕ) (id n : ℕ) → Agree (CutBlock memory id n)
