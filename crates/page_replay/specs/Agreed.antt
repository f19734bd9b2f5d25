-- Document 01, "How far each promise reaches": "show that any two answers satisfying it agree". A line for each public function: its promise fixes the
-- answer, the record and every lent byte.
-- Assumes nothing.
use Rattle.std.specs.Prelude.{ℕ, List, ◌≡◌}
use Rattle.layouts.specs.Agree.{Agree}
use Rattle.page_replay.specs.ReplayPromises.{BeginReplay, ReplayPages}
use Rattle.page_replay.specs.declared.replay.PageReplay.{PageReplay}

-- an answer beside what three lent slices hold at the end
abbrev pub AgreeWithThree : {A : Type 0} → (A → List ℕ → List ℕ → List ℕ → Type 0) → Type 0
AgreeWithThree {A} Promise =
    (r s : A) (x y z x' y' z' : List ℕ) → Promise r x y z → Promise s x' y' z' → (r ≡ s) × (x ≡ x') × (y ≡ y') × (z ≡ z')

pub record Agreed : Type 0 where
  pub new : (satellite week time : ℕ) → Agree (BeginReplay satellite week time)
  pub replay : (c : PageReplay) (hkroot mack memory pages : List ℕ) (budget : ℕ) → AgreeWithThree (ReplayPages c hkroot mack memory pages budget)
