-- `mack::Mack::key`: each check, in its order, then the copy.
-- Assumes nothing.
use Prim.Native.Nat.{◌+◌, ◌*◌, ◌≤◌}
use native.Mathlib.Omega.{arith}
use Rattle.layouts.proofs.Tags.{Good, sizes_known, tags_ready, key_refused, key_sixty, key_half, key_fits, key_length, key_done}
use Rattle.layouts.proofs.mack.Mack.key.Goals as goal
use Rattle.layouts.proofs.mack.Mack.key.Goals.{After-tags, In_ok-check}

-- the sizes are listed, and the key ends with the message at the latest
sizes : (c : In_ok-check) → let s = c.args.self.sizes in Good s.key_bytes s.tag_bits
sizes c = sizes_known _ _ _ c.in_ok-check.ensures

fits : (c : After-tags) → let s = c.args.self.sizes in Good s.key_bytes s.tag_bits → c.tags.result * (s.tag_bits + 16) + 8 * s.key_bytes ≤ 480
fits c g = rw c.tags.ensures (key_fits c.args.self.sizes.key_bytes c.args.self.sizes.tag_bits g)

pub returns-in_err-check : goal.returns-in_err-check
returns-in_err-check c = key_refused _ _ _ _ _ _ c.from_residual.ensures.1 c.in_err-check.ensures

pub returns-then-out-self : goal.returns-then-out-self
returns-then-out-self c = key_length _ _ _ _ c.in_ok-check.ensures c.if-out-self.true

pub tags-requires : goal.tags-requires
tags-requires c = tags_ready _ _ _ c.in_ok-check.ensures

pub overflow_add-start : goal.overflow_add-start
overflow_add-start c = omega (arith, (sizes (goal.at.overflow_add-start c).In_ok-check).tag_few)

pub overflow_mul-start : goal.overflow_mul-start
overflow_mul-start c =
    let at = goal.at.overflow_mul-start c in
    omega (arith, fits at.After-tags (sizes at.In_ok-check))

pub copy_from-requires : goal.copy_from-requires
copy_from-requires c =
    let at = goal.at.copy_from-requires c in
    let g = sizes at.In_ok-check in
    omega (
      arith,
      c.if-out-self.false,
      key_half c.tags.result c.args.self.sizes.tag_bits g.tag_half,
      fits at.After-tags g,
      key_sixty c.args.self.msg.now c.args.self.sizes.key_bytes c.args.self.sizes.tag_bits c.in_ok-check.ensures,
    )

pub returns : goal.returns
returns c = key_done _ _ _ _ c.in_ok-check.ensures c.if-out-self.false c.tags.ensures c.copy_from.ensures
