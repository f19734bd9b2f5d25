-- `bits::long`: the two fields, one behind the other, are one.
-- Assumes nothing.
use mathlib.Core.Path.{◌≡◌, sym, ap, ◌∙◌}
use Prim.Native.Nat.{ℕ, ◌-◌, ◌+◌, ◌*◌, ◌/◌, ◌%◌}
use native.Mathlib.Omega.{arith}
use Rattle.layouts.specs.Bits.{field}
use Rattle.layouts.proofs.Fields.{field_add, field_lt, field_room}
use Rattle.layouts.proofs.bits.long.Goals as goal

pub returns-then-before-width-lt64 : goal.returns-then-before-width-lt64
returns-then-before-width-lt64 c =
    let a = c.args in
    c.short.ensures ∙ ap (λ (n : ℕ). field a.s.now n a.width) (omega arith)

pub joined-requires : goal.joined-requires
joined-requires c =
    let a = c.args in
    let f : ℕ = a.start / 8 in
    let o : ℕ = a.start % 8 in
    let h : ℕ = a.width - 32 in (
      omega arith,
      rw c.short-3.ensures (field_lt a.s.now (8 * (f + (o + h) / 8) + (o + h) % 8) 32),
      rw c.short-2.ensures (field_room a.s.now (8 * f + o) h 32 (omega arith)),
    )

pub returns : goal.returns
returns c =
    let a = c.args in
    let l = a.s.now in
    let f : ℕ = a.start / 8 in
    let o : ℕ = a.start % 8 in
    let h : ℕ = a.width - 32 in
    let here : 8 * f + o ≡ a.start = omega arith in
    let there : 8 * (f + (o + h) / 8) + (o + h) % 8 ≡ a.start + h = omega arith in
    let all : h + 32 ≡ a.width = omega arith in
    c.joined.ensures
    ∙ rw (c.short-2.ensures, c.short-3.ensures, here, there)
    (sym (field_add l a.start h 32) ∙ ap (λ (n : ℕ). field l a.start n) all)
