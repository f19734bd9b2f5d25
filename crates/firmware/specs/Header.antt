-- The two headers for C. A header is a byte: another number is 7.
-- Assumes nothing.
use Rattle.std.specs.Prelude.{ℕ, [], ◌∷◌}
use Rattle.layouts.specs.Bits.{the, value}
use Rattle.layouts.specs.NmaHeader.{nma_header}
use Rattle.layouts.specs.DsmHeader.{dsm_header, dsm_type_of}
use Rattle.firmware.specs.Arguments.{of_header, header_field}
use Rattle.firmware.specs.Outcome.{Told}

abbrev pub NmaStatus : ℕ → ℕ → ℕ → ℕ → Type 0
NmaStatus header before r after = Told before r after (header_field (the "NMAS" nma_header) header)

abbrev pub ChainId : ℕ → ℕ → ℕ → ℕ → Type 0
ChainId header before r after = Told before r after (header_field (the "CID" nma_header) header)

abbrev pub ChainAndPubkeyStatus : ℕ → ℕ → ℕ → ℕ → Type 0
ChainAndPubkeyStatus header before r after = Told before r after (header_field (the "CPKS" nma_header) header)

abbrev pub DsmId : ℕ → ℕ → ℕ → ℕ → Type 0
DsmId header before r after = Told before r after (header_field (the "DSM_ID" dsm_header) header)

abbrev pub DsmBlockId : ℕ → ℕ → ℕ → ℕ → Type 0
DsmBlockId header before r after = Told before r after (header_field (the "DSM_BLOCK_ID" dsm_header) header)

-- 0 KROOT, 1 PKR
abbrev pub DsmType : ℕ → ℕ → ℕ → ℕ → Type 0
DsmType header before r after =
    Told before r after (of_header header (dsm_type_of (value (the "DSM_ID" dsm_header) (header ∷ [])) ∷ []))
