-- What the page replay promises, and the paper's numbers and values for each case of its answers.
-- Assumes nothing.
use Rattle.std.specs.Prelude.{ℕ, List, [], ◌∷◌, ◌≡◌, Result, Option, Some, None}
use Rattle.layouts.specs.Answer.{Answer}
use Rattle.layouts.specs.Refusals.{answer_of}
use Rattle.layouts.specs.Meaning.{meaning_done}
use Rattle.layouts.specs.declared.refusal.Refusal.{Refusal}
use Rattle.page_replay.specs.Replay.{State, Time, Dsm, Begun, begun, Outcome, replay}
use Rattle.subframes.specs.SubframePromises.{state as subframe_state}
use Rattle.dsms.specs.DsmPromises.{state as dsm_state}
use Rattle.page_replay.specs.declared.replay.PageReplay.{PageReplay}
use Rattle.page_replay.specs.declared.replay.NewReplay.{NewReplay}
use Rattle.page_replay.specs.declared.replay.SubframeDone.{SubframeDone}
use Rattle.page_replay.specs.declared.replay.DsmDone.{DsmDone}
use Rattle.page_replay.specs.declared.replay.Replayed.{Replayed}

-- the record with the lent bytes beside it
abbrev pub state : PageReplay → List ℕ → List ℕ → List ℕ → State
state r hkroot mack memory =
    record {
      satellite = r.next.satellite;
      next = record { week = r.next.week; time = r.next.time };
      subframes = subframe_state r.subframes hkroot mack;
      dsms = dsm_state r.dsms memory;
      totals =
          record {
            pages = r.pages;
            skipped = r.skipped;
            used = r.used;
            unused = r.unused;
            subframes = r.subframes_done;
            dsms = r.dsms_done;
            silent = r.silent;
          };
    }

abbrev pub meaning_replay : Result ℕ Refusal → Answer
meaning_replay r = answer_of (λ n. n ∷ []) r

-- the subframe and the DSM that were completed, if any
abbrev pub meaning_subframes : Option SubframeDone → List Time
meaning_subframes None = []
meaning_subframes (Some s) = record { week = s.week; time = s.time } ∷ []

abbrev pub meaning_dsms : Option DsmDone → List Dsm
meaning_dsms None = []
meaning_dsms (Some d) = record { id = d.id; bytes = d.bytes } ∷ []

abbrev pub BeginReplay : ℕ → ℕ → ℕ → NewReplay → Type 0
BeginReplay satellite week time r =
    ◌≡◌ {A = Begun} (record { state = state r.replay [] [] []; answer = meaning_done r.answer }) (begun satellite week time [] [] [])

-- the record and the answers handed back, with the lent bytes then
abbrev pub outcome : Replayed → List ℕ → List ℕ → List ℕ → Outcome
outcome r hkroot mack memory =
    record {
      state = state r.replay hkroot mack memory;
      answer = meaning_replay r.answer;
      subframes = meaning_subframes r.subframe;
      dsms = meaning_dsms r.dsm;
    }

abbrev pub ReplayPages : PageReplay → List ℕ → List ℕ → List ℕ → List ℕ → ℕ → Replayed → List ℕ → List ℕ → List ℕ → Type 0
ReplayPages c hkroot mack memory pages budget r hkroot-after mack-after memory-after =
    outcome r hkroot-after mack-after memory-after ≡ replay (state c hkroot mack memory) pages budget
