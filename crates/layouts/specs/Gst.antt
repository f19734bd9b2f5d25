-- Satellite, week and time of week: document 01, "Refusal numbers", 2, 3 and 4, for every call that is handed them. (`svn.rs` and `gst.rs` of the Rust.)
-- Assumes nothing.
use Rattle.std.specs.Prelude.{ℕ, List, [], ◌∷◌, ◌++◌, ◌≡◌, ltb, Result, ⊤}
use Rattle.layouts.specs.Answer.{Check, ◌when◌, refusal}
use Rattle.layouts.specs.Refusals.{refused_by}
use Rattle.layouts.specs.declared.refusal.Refusal.{Refusal}

-- "satellite number not 1..36"
abbrev pub svn_checks : ℕ → List Check
svn_checks satellite = 2 when ltb satellite 1 ∷ 2 when ltb 36 satellite ∷ []

-- "week above 4,095", "time of week above 604,799"
abbrev pub gst_checks : ℕ → ℕ → List Check
gst_checks week time = 3 when ltb 4095 week ∷ 4 when ltb 604799 time ∷ []

-- all three: 2, 3, 4
abbrev pub svn_gst_checks : ℕ → ℕ → ℕ → List Check
svn_gst_checks satellite week time = svn_checks satellite ++ gst_checks week time

-- the refusal number, 0 for none: of a satellite alone, and of all three
abbrev pub SvnRefuses : ℕ → Result ⊤ Refusal → Type 0
SvnRefuses satellite r = refused_by r ≡ refusal (svn_checks satellite)

abbrev pub GstRefuses : ℕ → ℕ → ℕ → Result ⊤ Refusal → Type 0
GstRefuses satellite week time r = refused_by r ≡ refusal (svn_gst_checks satellite week time)
