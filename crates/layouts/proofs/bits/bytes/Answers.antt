-- `bits::bytes`: before each turn `acc` is the field of the bytes passed.
-- Assumes nothing.
use mathlib.Core.Path.{◌≡◌, refl, ◌∙◌}
use Prim.Native.Nat.{ℕ, ◌+◌, ◌*◌, ◌≤◌, ◌<◌, ◌-◌}
use native.Mathlib.Omega.{arith}
use lib.ListN.{take, drop, get_or, length}
use lib.Seq.{get_or-take, get_or-drop, length-take-le}
use Rattle.std.specs.Prelude.{List}
use Rattle.std.proofs.lemmas.List.{length-drop}
use Rattle.layouts.specs.Bits.{field}
use Rattle.layouts.proofs.Fields.{field_next, field_room}
use Rattle.layouts.proofs.bits.bytes.Goals as goal

-- how many bytes the slice has, and the byte of a turn by its place in the message
long : (s : List ℕ) (f m : ℕ) → f + m ≤ length s → length (take (f + m - f) (drop f s)) ≡ m
long s f m h = length-take-le (f + m - f) (drop f s) (rw length-drop (omega (arith, h))) ∙ omega arith

here : (s : List ℕ) (f m i : ℕ) → i < m → get_or (take (f + m - f) (drop f s)) i 0 ≡ get_or s (f + i) 0
here s f m i h = get_or-take (f + m - f) (drop f s) i 0 (omega (arith, h)) ∙ get_or-drop f s i 0

pub loop-byte-init : goal.loop-byte-init
unfolding field
loop-byte-init c = refl

pub joined-acc-requires : goal.joined-acc-requires
joined-acc-requires c =
    let a = c.args in
    let h = c.loop-byte in
    let i : h.byte-index < a.many = omega (arith, c.loop-byte-test.true, long a.s.now a.first a.many c.requires.1) in (
      omega arith,
      omega (arith, c.from.ensures, here a.s.now a.first a.many h.byte-index i, c.type_inv.s (a.first + h.byte-index)),
      rw h.invariant (field_room a.s.now (8 * a.first) (8 * h.byte-index) 8 (omega (arith, i, c.requires.0))),
    )

pub loop-byte-preserved : goal.loop-byte-preserved
loop-byte-preserved c =
    let a = c.args in
    let h = c.loop-byte in
    let i : h.byte-index < a.many = omega (arith, c.loop-byte-test.true, long a.s.now a.first a.many c.requires.1) in
    c.joined-acc.ensures
    ∙ rw (h.invariant, c.from.ensures, here a.s.now a.first a.many h.byte-index i) (field_next a.s.now a.first h.byte-index (omega (arith, c.type_inv.s (a.first + h.byte-index))))
