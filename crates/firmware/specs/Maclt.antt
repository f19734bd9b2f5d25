-- The look-up table for C. An ID that is no byte is unknown.
-- Assumes nothing.
use Rattle.std.specs.Prelude.{ℕ, List, cond, ◌≡◌, eqb, length}
use Rattle.layouts.specs.Maclt.{entry, flx_indices, nt_of}
use Rattle.firmware.specs.Outcome.{Told, Slotted, Counted, counted}

abbrev pub GetMacltEntry : ℕ → ℕ → ℕ → ℕ → ℕ → ℕ → ℕ → ℕ → ℕ → ℕ → Type 0
GetMacltEntry i message tag a b c r x y z = Slotted a b c r x y z (entry i message tag)

-- 1 first: the output has four bytes
abbrev pub GetFlxIndices : ℕ → ℕ → ℕ → List ℕ → ℕ → ℕ → List ℕ → Type 0
GetFlxIndices i message before held r after now =
    ◌≡◌ {A = Counted} (record { refusal = r; value = after; bytes = now })
    (cond (eqb (length held) 4) (counted before held (flx_indices i message)) (record { refusal = 1; value = before; bytes = held }))

abbrev pub MacltNt : ℕ → ℕ → ℕ → ℕ → Type 0
MacltNt i before r after = Told before r after (nt_of i)
