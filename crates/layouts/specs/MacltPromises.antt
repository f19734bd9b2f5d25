-- What the readers of the look-up table promise.
-- Assumes nothing.
use Rattle.std.specs.Prelude.{ℕ, [], ◌∷◌, ◌≡◌, Result}
use Rattle.layouts.specs.declared.refusal.Refusal.{Refusal}
use Rattle.layouts.specs.Answer.{Copied}
use Rattle.layouts.specs.Maclt.{entry, flx_indices, nt_of}
use Rattle.layouts.specs.Refusals.{with_bytes}
use Rattle.layouts.specs.Meaning.{meaning_number, meaning_slot}
use Rattle.layouts.specs.declared.maclt.MacLTSlot.{MacLTSlot}
use Rattle.layouts.specs.declared.maclt.FlxIndices.{FlxIndices}

abbrev pub MacltEntryRead : ℕ → ℕ → ℕ → Result MacLTSlot Refusal → Type 0
MacltEntryRead i message tag r = meaning_slot r ≡ entry i message tag

abbrev pub FlxIndicesRead : ℕ → ℕ → Result FlxIndices Refusal → Type 0
FlxIndicesRead i message r =
    ◌≡◌ {A = Copied} (with_bytes 4 (λ (f : FlxIndices). f.count ∷ []) (λ (f : FlxIndices). f.indices) r) (flx_indices i message)

abbrev pub NtRead : ℕ → Result ℕ Refusal → Type 0
NtRead i r = meaning_number r ≡ nt_of i
