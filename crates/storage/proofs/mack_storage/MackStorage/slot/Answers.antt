-- `MackStorage::slot`: the refusals, then the numbers of the current place.
-- Assumes nothing.
use mathlib.Core.Path.{◌≡◌, refl, sym, ap, ◌∙◌}
use mathlib.Core.Bool.{Bool, not, false, ◌&&◌}
use Prim.Native.Nat.{ℕ}
use lib.Dec.{eqb}
use native.Mathlib.Omega.{arith}
use Rattle.std.proofs.lemmas.Bool.Decides.{nat_tests}
use Rattle.layouts.proofs.Refused.{err_on, ok_on}
use lib.ListN.{get_or}
use Rattle.layouts.specs.Answer.{refusal}
use Rattle.storage.specs.Store.{ask_checks, status_checks, entry_checks, full, next_place}
use Rattle.storage.specs.StorePromises.{storage_of, asked_of}
use Rattle.storage.proofs.Searches.{and_both}
use Rattle.storage.proofs.StoreRecord.{legal_current, place_is}
use Rattle.storage.specs.inner.Places.{nth}
use Rattle.storage.proofs.Stored.{ask_legal, admits_none, same_full, same_moves, moved_place, moved_number, same_place, same_number}
use Rattle.storage.proofs.mack_storage.MackStorage.slot.Goals as goal
use Rattle.storage.proofs.mack_storage.MackStorage.slot.Goals.{After-check_status, In_ok-check_status}

pub returns-in_err-check : goal.returns-in_err-check
returns-in_err-check c =
    let o = storage_of c.args.self.now in
    let a = asked_of c.args.stamp in
    let s = c.args.status in
    admits_none 36 12 o a s _ _ c.from_residual.ensures.1
    (err_on (ask_checks 36 12 o a) (status_checks s (full 36 o a.week a.time)) _ c.in_err-check.ensures)

pub bounds-self-current : goal.bounds-self-current
bounds-self-current c =
    let o = storage_of c.args.self.now in
    omega (arith, legal_current 36 12 o (ask_legal 36 12 o (asked_of c.args.stamp) c.in_ok-check.ensures refl), c.from-current.ensures)

-- the place is full where the definition's is
full_is : (c : After-check_status) → let o = storage_of c.args.self.now in let a = asked_of c.args.stamp in c.if-same.check_status ≡ full 36 o a.week a.time
full_is c =
    let o = storage_of c.args.self.now in
    let h = nth c.args.self.now c.from-current.result in
    let f : c.if-same.check_status ≡ (c.has_time-same.result && eqb h.count 36) = grind (arith, nat_tests) in
    same_full 36 12 o (asked_of c.args.stamp) c.args.status c.from-current.result c.from-current.ensures h (place_is c.args.self.now c.from-current.result) c.has_time-same.ensures f

pub returns-in_err-check_status : goal.returns-in_err-check_status
returns-in_err-check_status c =
    let o = storage_of c.args.self.now in
    let a = asked_of c.args.stamp in
    let s = c.args.status in
    let f = full_is (goal.at.returns-in_err-check_status c).After-check_status in
    admits_none 36 12 o a s _ _ c.from_residual-in_err-check_status.ensures.1
    (ok_on (ask_checks 36 12 o a) (status_checks s (full 36 o a.week a.time)) tt c.in_ok-check.ensures
    (c.in_err-check_status.ensures ∙ ap (λ (b : Bool). refusal (status_checks s b)) f))

-- nothing is refused
none : (c : In_ok-check_status) → let o = storage_of c.args.self.now in let a = asked_of c.args.stamp in c.if-same.check_status ≡ full 36 o a.week a.time → 0 ≡ refusal (entry_checks 36 12 o a c.args.status)
none c f =
    let o = storage_of c.args.self.now in
    let a = asked_of c.args.stamp in
    let s = c.args.status in
    ok_on (ask_checks 36 12 o a) (status_checks s (full 36 o a.week a.time)) tt c.in_ok-check.ensures
    (c.in_ok-check_status.ensures ∙ ap (λ (b : Bool). refusal (status_checks s b)) f)

pub returns-then-not-same : goal.returns-then-not-same
returns-then-not-same c =
    let o = storage_of c.args.self.now in
    let a = asked_of c.args.stamp in
    let p = c.from-current.result in
    let h = nth c.args.self.now c.from-current.result in
    let m = same_moves 36 12 o a c.args.status p c.from-current.ensures h (place_is c.args.self.now c.from-current.result) c.has_time-same.ensures
    (and_both c.if-here.true (ap not c.if-not-same.true)) in (
      none (goal.at.returns-then-not-same c).In_ok-check_status (full_is (goal.at.returns-then-not-same c).After-check_status),
      c.next_place.ensures ∙ ap (next_place 12) c.from-current.ensures ∙ sym (moved_place 12 o a.week a.time m),
      sym (moved_number 12 o a.week a.time m),
    )

pub returns : goal.returns
returns c =
    let o = storage_of c.args.self.now in
    let a = asked_of c.args.stamp in
    let p = c.from-current.result in
    let h = nth c.args.self.now c.from-current.result in
    let f : (h.timed && not c.has_time-same.result) ≡ false = grind (arith, nat_tests) in
    let m = same_moves 36 12 o a c.args.status p c.from-current.ensures h (place_is c.args.self.now c.from-current.result) c.has_time-same.ensures f in (
      none (goal.at.returns c).In_ok-check_status (full_is (goal.at.returns c).After-check_status),
      c.from-current.ensures ∙ sym (same_place 12 o a.week a.time m),
      c.from.ensures ∙ (place_is c.args.self.now c.from-current.result).count_is ∙ ap (λ (k : ℕ). get_or o.counts k 0) c.from-current.ensures ∙ sym (same_number 12 o a.week a.time m),
    )
