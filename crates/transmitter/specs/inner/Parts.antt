-- What the private functions of the writers do.
-- Assumes nothing.
use Rattle.std.specs.Prelude.{ℕ, zero, suc, ◌+◌, ◌^◌, ◌<◌, List, ◌++◌, length, take, drop, map, Result, Ok, Err}
use Rattle.layouts.specs.Bits.{Field, row}
use Rattle.layouts.specs.declared.bits.Field.{Field as Row}
use Rattle.layouts.specs.declared.refusal.Refusal.{Refusal}
use Rattle.layouts.specs.declared.refusal.Refusal.TheVariants.{Reserved}
use Rattle.transmitter.specs.declared.kroot.KrootValues.{KrootValues}
use Rattle.transmitter.specs.declared.pkr.PkrValues.{PkrValues}

-- a size or a count; where it is 0 its code is reserved
abbrev pub sized : ℕ → Result ℕ Refusal
sized zero = Err Reserved
sized (suc n) = Ok (suc n)

-- values with their rows
abbrev pub rows_of : List (ℕ × Row) → List Field
rows_of l = map (λ (p : ℕ × Row). row "" p.1.first p.1.width) l

abbrev pub values_of : List (ℕ × Row) → List ℕ
values_of l = map (λ (p : ℕ × Row). p.0) l

-- bytes from a place on
abbrev pub put_at : List ℕ → ℕ → List ℕ → List ℕ
put_at memory at bytes = take at memory ++ bytes ++ drop (at + length bytes) memory

-- bytes from the beginning on
abbrev pub over : List ℕ → List ℕ → List ℕ
over message memory = message ++ drop (length message) memory

-- the values of a KROOT message fit into their fields
pub record Narrow (v : KrootValues) : Type 0 where
  pub nb_dk : v.nb_dk < 16
  pub pkid : v.pkid < 16
  pub cidkr : v.cidkr < 4
  pub hf : v.hf < 4
  pub mf : v.mf < 4
  pub ks : v.ks < 16
  pub ts : v.ts < 16
  pub maclt : v.maclt < 256
  pub wn_k : v.wn_k < 4096
  pub towh_k : v.towh_k < 256
  pub alpha : v.alpha < 2 ^ 48

-- those of a PKR message
pub record Halves (v : PkrValues) : Type 0 where
  pub nb_dp : v.nb_dp < 16
  pub mid : v.mid < 16
  pub npkt : v.npkt < 16
  pub npkid : v.npkid < 16
