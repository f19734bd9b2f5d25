-- The C record as the store has it: the places that are made.
-- Assumes nothing.
use Rattle.probe.proofs.Places.{Made}
use Rattle.probe.proofs.store.MackStorageFromStoreRecord.from.Given as goal

abbrev pub invariant-loop-p : goal.invariant-loop-p
invariant-loop-p l = Made l.fn.from l.places l.p
