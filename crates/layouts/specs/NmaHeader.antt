-- The NMA header: document 01, "A subframe from its pages". The field names are those of the Rust's comments.
-- Assumes nothing.
use Rattle.std.specs.Prelude.{ℕ, List, [], ◌∷◌, ◌≡◌}
use Rattle.layouts.specs.Answer.{gives}
use Rattle.layouts.specs.Bits.{Field, row, the, value}
use Rattle.layouts.specs.Meaning.{meaning_status, meaning_chain_status}
use Rattle.layouts.specs.declared.nma_header.NmaStatus.{NmaStatus}
use Rattle.layouts.specs.declared.nma_header.ChainAndPubkeyStatus.{ChainAndPubkeyStatus}

-- "high bits first: status 2, chain 2, chain and key status 3, reserved 1"
abbrev pub nma_header : List Field
nma_header =
    row "NMAS" 0 2 ∷
    row "CID" 2 2 ∷
    row "CPKS" 4 3 ∷
    row "Reserved" 7 1 ∷
    []

abbrev pub NmaStatusRead : ℕ → NmaStatus → Type 0
NmaStatusRead header r = meaning_status r ≡ gives (value (the "NMAS" nma_header) (header ∷ []) ∷ [])

abbrev pub ChainIdRead : ℕ → ℕ → Type 0
ChainIdRead header r = r ≡ value (the "CID" nma_header) (header ∷ [])

abbrev pub ChainAndPubkeyStatusRead : ℕ → ChainAndPubkeyStatus → Type 0
ChainAndPubkeyStatusRead header r = meaning_chain_status r ≡ gives (value (the "CPKS" nma_header) (header ∷ []) ∷ [])
