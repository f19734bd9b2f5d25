-- Document 01, "How far each promise reaches": "show that any two answers satisfying it agree". A line for each public function.
-- Assumes nothing.
use Rattle.std.specs.Prelude.{ℕ, List}
use Rattle.layouts.specs.Agree.{Agree}
use Rattle.subframes.specs.declared.subframe.CollectSubframe.{CollectSubframe}
use Rattle.recorder.specs.WalkPromises.{TimingTagsRead, WalkSlots, WalkComplete}

pub record Agreed : Type 0 where
  pub timing_tags : (m : List ℕ) (k T : ℕ) → Agree (TimingTagsRead m k T)
  pub walk : (m : List ℕ) (k T sender id msg : ℕ) → Agree (WalkSlots m k T sender id msg)
  pub walk_complete : (c : CollectSubframe) (hkroot mack : List ℕ) (satellite k T id : ℕ) → Agree (WalkComplete c hkroot mack satellite k T id)
