-- What private functions of the listing need and do.
-- Assumes nothing.
use Rattle.std.specs.Prelude.{ℕ, ◌≤◌, ◌≡◌, Bool, false, List, [], ◌∷◌, ◌++◌, length, replicate}
use Rattle.layouts.specs.Answer.{Answer, refused, nothing, gives}
use Rattle.layouts.specs.Refusals.{refusal_number}
use Rattle.layouts.specs.declared.refusal.Refusal.{Refusal}
use Rattle.page_replay.specs.Replay.{Outcome, begun}
use Rattle.listing.specs.Listing.{subframe_lines, dsm_lines}
use Rattle.listing.specs.Pieces.{Running, Told, says}

-- a listing of no pages, as the page replay begins
abbrev pub fresh : ℕ → ℕ → ℕ → Bool → Running
fresh satellite week time over = record { replay = (begun satellite week time [] [] []).state; page = replicate 30 0; held = 0; over = over }

-- what is kept and taken beside what it answered
pub record Kept : Type 0 where
  pub page : List ℕ
  pub held : ℕ
  pub taken : ℕ

abbrev pub after : Running → Kept → Outcome → List ℕ → Told
after s k o out =
    says
    (record { replay = o.state; page = k.page; held = k.held; over = false })
    k.taken
    (subframe_lines s.replay.satellite o.subframes ++ dsm_lines o.dsms)
    out

-- the answer of the page replay, told
abbrev pub told_by : Answer → Running → List ℕ → Told → Told
told_by (refused n) s out t = record { state = s; answer = refused n; out = out }
told_by nothing s out t = t
told_by (gives l) s out t = t

abbrev pub tells : Running → Kept → Outcome → List ℕ → Told
tells s k o out = told_by o.answer s out (after s k o out)

-- the record and the output as they are, with the refusal, or with what was taken and written
abbrev pub refused_as : Running → Refusal → List ℕ → Told
refused_as s e out = record { state = s; answer = refused (refusal_number e); out = out }

abbrev pub told_as : Running → ℕ → ℕ → List ℕ → Told
told_as s taken written out = record { state = s; answer = gives (taken ∷ written ∷ []); out = out }

-- a call that the room and the held bytes do not refuse
pub record Ready (s : Running) (out : List ℕ) : Type 0 where
  pub room : 256 ≤ length out
  pub few : s.held ≤ 29
  pub goes : s.over ≡ false
