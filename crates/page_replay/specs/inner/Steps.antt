-- What private functions of the page replay need and do.
-- Assumes nothing.
use Rattle.std.specs.Prelude.{ℕ, ◌≤◌, List, length}
use Rattle.page_replay.specs.Replay.{Run}
use Rattle.page_replay.specs.ReplayPromises.{state, meaning_subframes, meaning_dsms}
use Rattle.page_replay.specs.declared.replay.PageReplay.{PageReplay}
use Rattle.page_replay.specs.declared.page_step.Stepped.{Stepped}

-- what pages made of a replay, with the lent bytes then
abbrev pub ran : Stepped → List ℕ → List ℕ → List ℕ → Run
ran r hkroot mack memory =
    record { state = state r.replay hkroot mack memory; subframes = meaning_subframes r.subframe; dsms = meaning_dsms r.dsm }

-- there is room for one more in every total
pub record Room (r : PageReplay) (many : ℕ) : Type 0 where
  pub pages_room : r.pages ≤ many
  pub skipped_room : r.skipped ≤ many
  pub used_room : r.used ≤ many
  pub unused_room : r.unused ≤ many
  pub subframes_room : r.subframes_done ≤ many
  pub dsms_room : r.dsms_done ≤ many
  pub silent_room : r.silent ≤ many

-- the satellite and the time of the next page are in range
pub record InRange (r : PageReplay) : Type 0 where
  pub some : 1 ≤ r.next.satellite
  pub few : r.next.satellite ≤ 36
  pub in_weeks : r.next.week ≤ 4095
  pub in_week : r.next.time ≤ 604799

-- at most one subframe and one DSM were completed
pub record AtMostOne (r : Run) : Type 0 where
  pub subframe_one : length r.subframes ≤ 1
  pub dsm_one : length r.dsms ≤ 1
