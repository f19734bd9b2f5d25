-- `mack_storage::store`: the lengths, then what is told of where the message goes.
-- Assumes nothing.
use mathlib.Core.Path.{ap, ◌∙◌}
use mathlib.Core.Logic.{⊎_elim}
use Prim.Native.Nat.{ℕ, ◌+◌, ◌-◌, ◌*◌, ◌<◌}
use native.Mathlib.Omega.{arith}
use borrow.Rule.Slice.PartMut.{put_mid}
use Rattle.layouts.specs.Lists.{put}
use Rattle.storage.proofs.Bytes.{put_is}
use Rattle.storage.specs.StorePromises.{state, call}
use Rattle.storage.proofs.Stored.{other_memory, other_message, store_refused, told_refused, told_below, told_stored}
use Rattle.storage.proofs.mack_storage.store.Goals as goal
use Rattle.storage.proofs.mack_storage.store.Goals.{In-Ok}

-- where the message goes is in range
below : (c : In-Ok) → (c.in-Ok.slot.place < 12) × (c.in-Ok.slot.number < 36)
below c =
    let a = c.args in
    told_below 36 12 (state a.storage a.memory.now) (call a.message.now a.stamp a.status) c.if-memory-ne25920.false c.if-message-ne60.false
    c.in-Ok.slot c.in-Ok.ensures (omega arith)

pub returns-then-memory-ne25920 : goal.returns-then-memory-ne25920
returns-then-memory-ne25920 c =
    let a = c.args in
    let s = state a.storage a.memory.now in
    let d = call a.message.now a.stamp a.status in
    store_refused 36 12 s d
    (⊎_elim (λ w. other_memory 36 12 s d w) (λ w. other_message 36 12 s d w.0 w.1) c.then-memory-ne25920.either)
    (λ z. omega arith)

pub returns-in-Err : goal.returns-in-Err
returns-in-Err c =
    let a = c.args in
    told_refused 36 12 (state a.storage a.memory.now) (call a.message.now a.stamp a.status) c.if-memory-ne25920.false c.if-message-ne60.false
    c.in-Err.refusal c.in-Err.ensures

pub entry-first-requires : goal.entry-first-requires
entry-first-requires c = below (goal.at.entry-first-requires c).In-Ok

pub overflow_mul-first : goal.overflow_mul-first
overflow_mul-first c = let b = below (goal.at.overflow_mul-first c).In-Ok in omega (arith, b.0, b.1, c.entry-first.ensures)

pub overflow_add-first : goal.overflow_add-first
overflow_add-first c = let b = below (goal.at.overflow_add-first c).In-Ok in omega (arith, b.0, b.1, c.entry-first.ensures)

pub slice_bounds-copy_from_slice-end : goal.slice_bounds-copy_from_slice-end
slice_bounds-copy_from_slice-end c =
    let b = below (goal.at.slice_bounds-copy_from_slice-end c).In-Ok in omega (arith, b.0, b.1, c.entry-first.ensures, c.if-memory-ne25920.false)

pub enter-requires : goal.enter-requires
enter-requires c = below (goal.at.enter-requires c).In-Ok

pub returns-in-Ok : goal.returns-in-Ok
returns-in-Ok c =
    let a = c.args in
    let at = 60 * c.entry-first.result in
    told_stored 36 12 (state a.storage a.memory.now) (call a.message.now a.stamp a.status) c.if-memory-ne25920.false c.if-message-ne60.false
    c.in-Ok.slot c.in-Ok.ensures c.enter.ensures
    (ap (put_mid at (at + 60 - at) a.memory.now) c.copy_from_slice.ensures.after
    ∙ put_is a.memory.now a.message.now at 60 _ (omega arith)
    ∙ ap (λ (n : ℕ). put a.memory.now (60 * n) 60 a.message.now) c.entry-first.ensures)
