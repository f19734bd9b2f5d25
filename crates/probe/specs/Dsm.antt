-- The functions over the DSM collector: what `dsms` promises, told in numbers.
-- Assumes nothing.
use Rattle.std.specs.Prelude.{ℕ, List, [], ◌≡◌}
use Rattle.dsms.specs.Dsm.{State, Fed, new, feed, view}
use Rattle.dsms.specs.DsmPromises.{state}
use Rattle.dsms.specs.DsmView.{named_by}
use Rattle.dsms.specs.declared.dsm.CollectDsm.{CollectDsm}
use Rattle.probe.specs.Telling.{told, Viewed, viewed}
use Rattle.probe.specs.declared.tell.Told.{Told}
use Rattle.probe.specs.declared.dsm.DsmRecord.{DsmRecord}
use Rattle.probe.specs.declared.dsm.DsmCalled.{DsmCalled}

-- the same record under its two names
abbrev pub collector_of : DsmRecord → CollectDsm
collector_of c = record { id = c.id; came = c.came; held = c.held; done = c.done }

abbrev pub record_of : CollectDsm → DsmRecord
record_of c = record { id = c.id; came = c.came; held = c.held; done = c.done }

-- the state after a call, and the answer in numbers
pub record Called : Type 0 where
  pub state : State
  pub answer : Told

abbrev pub called : Fed → Called
called f = record { state = f.state; answer = told f.answer }

abbrev pub DsmNew : DsmRecord → Type 0
DsmNew r = state (collector_of r) [] ≡ new []

abbrev pub DsmFeed : DsmRecord → List ℕ → ℕ → List ℕ → DsmCalled → List ℕ → Type 0
DsmFeed c memory header block r after =
    ◌≡◌ {A = Called} (record { state = state (collector_of r.collector) after; answer = r.answer })
    (called (feed (state (collector_of c) memory) header block))

abbrev pub DsmView : DsmRecord → List ℕ → List ℕ → Told → List ℕ → Type 0
DsmView c memory out r out-after =
    ◌≡◌ {A = Viewed} (record { answer = r; out = out-after }) (viewed out memory (view (state (collector_of c) memory)))

abbrev pub DsmViewAnswer : DsmRecord → List ℕ → Told → Type 0
DsmViewAnswer c memory r = r ≡ told (named_by (state (collector_of c) memory) (view (state (collector_of c) memory)))
