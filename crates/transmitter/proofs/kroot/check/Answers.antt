-- `kroot::check`: each check, in its order.
-- Assumes nothing.
use mathlib.Core.Path.{◌≡◌, ap, ◌∙◌}
use mathlib.Core.Bool.{not}
use Prim.Native.Nat.{ℕ}
use lib.ListN.{drop}
use Rattle.std.specs.Prelude.{Ok}
use Rattle.layouts.specs.Answer.{refusal}
use Rattle.layouts.specs.Sizes.{size, kroot_blocks, key_sizes, tag_sizes}
use Rattle.layouts.proofs.Tables.{by_code}
use Rattle.transmitter.specs.Write.{kroot_checks}
use Rattle.transmitter.specs.WritePromises.{kroot_of}
use Rattle.transmitter.specs.inner.Parts.{sized}
use Rattle.transmitter.proofs.Rows.{sized_ok, sized_stop, sized_pass}
use Rattle.transmitter.proofs.KrootRefusals.{kroot_memory, kroot_signature, kroot_wide, kroot_id, kroot_sizes}
use Rattle.transmitter.proofs.KrootRefusals.{kroot_key, kroot_padding, kroot_unfilled, kroot_filled}
use Rattle.transmitter.proofs.kroot.check.Goals as goal
use Rattle.transmitter.proofs.kroot.check.Goals.{Else-id-gt11, In_ok-listed, In_ok-listed-2, In_ok-listed-3}
use Rattle.transmitter.proofs.kroot.check.Goals.{then-key-k-via-then-key-k, then-key-k-via-else-key-k+then-p-gt-MOST_PADDING}
use Rattle.transmitter.proofs.kroot.check.Goals.{then-key-k-via-else-key-k+else-p-gt-MOST_PADDING+then-k-s}

-- the first four pass
four : (c : Else-id-gt11) → let a = c.args in (r : ℕ)
    → r ≡ refusal (drop 4 (kroot_checks a.dsm.now a.id (kroot_of a.v) a.key.now a.signature.now a.padding.now))
    → r ≡ refusal (kroot_checks a.dsm.now a.id (kroot_of a.v) a.key.now a.signature.now a.padding.now)
four c r h =
    let a = c.args in
    kroot_sizes a.dsm.now a.id (kroot_of a.v) a.key.now a.signature.now a.padding.now c.if-dsm-ne208.false c.is_signature.ensures
    (ap not c.if-not-is_signature.false) c.is_wide.ensures c.if-is_wide.false c.if-id-gt11.false h

blocks_are : (c : In_ok-listed) → Ok c.in_ok-listed.field-0 ≡ sized (size kroot_blocks c.args.v.nb_dk)
unfolding kroot_blocks
blocks_are c = c.in_ok-listed.ensures ∙ ap sized (by_code kroot_blocks c.args.v.nb_dk tt)

key_is : (c : In_ok-listed-2) → Ok c.in_ok-listed-2.field-0 ≡ sized (size key_sizes c.args.v.ks)
unfolding key_sizes
key_is c = c.in_ok-listed-2.ensures ∙ ap sized (by_code key_sizes c.args.v.ks tt)

tag_is : (c : In_ok-listed-3) → Ok c.in_ok-listed-3.field-0 ≡ sized (size tag_sizes c.args.v.ts)
unfolding tag_sizes
tag_is c = c.in_ok-listed-3.ensures ∙ ap sized (by_code tag_sizes c.args.v.ts tt)

pub returns-then-dsm-ne208 : goal.returns-then-dsm-ne208
returns-then-dsm-ne208 c = search kroot_memory

pub returns-then-not-is_signature : goal.returns-then-not-is_signature
returns-then-not-is_signature c = search kroot_signature

pub returns-then-is_wide : goal.returns-then-is_wide
returns-then-is_wide c = search kroot_wide

pub returns-then-id-gt11 : goal.returns-then-id-gt11
returns-then-id-gt11 c = search kroot_id

pub returns-in_err-listed : goal.returns-in_err-listed
unfolding kroot_blocks
returns-in_err-listed c =
    let v = c.args.v in
    four (goal.at.returns-in_err-listed c).Else-id-gt11 _
    (sized_stop (size kroot_blocks v.nb_dk) _ _ _ c.from_residual.ensures.1 (c.in_err-listed.ensures ∙ ap sized (by_code kroot_blocks v.nb_dk tt)))

pub returns-in_err-listed-2 : goal.returns-in_err-listed-2
unfolding key_sizes
returns-in_err-listed-2 c =
    let v = c.args.v in
    let d = goal.at.returns-in_err-listed-2 c in
    four d.Else-id-gt11 _
    (sized_pass (size kroot_blocks v.nb_dk) _ (blocks_are d.In_ok-listed)
    (sized_stop (size key_sizes v.ks) _ _ _ c.from_residual-in_err-listed-2.ensures.1 (c.in_err-listed-2.ensures ∙ ap sized (by_code key_sizes v.ks tt))))

pub returns-in_err-listed-3 : goal.returns-in_err-listed-3
unfolding tag_sizes
returns-in_err-listed-3 c =
    let v = c.args.v in
    let d = goal.at.returns-in_err-listed-3 c in
    four d.Else-id-gt11 _
    (sized_pass (size kroot_blocks v.nb_dk) _ (blocks_are d.In_ok-listed)
    (sized_pass (size key_sizes v.ks) _ (key_is d.In_ok-listed-2)
    (sized_stop (size tag_sizes v.ts) _ _ _ c.from_residual-in_err-listed-3.ensures.1 (c.in_err-listed-3.ensures ∙ ap sized (by_code tag_sizes v.ts tt)))))

pub returns-then-key-k : goal.returns-then-key-k
returns-then-key-k c =
    let a = c.args in
    let v = a.v in
    let d = goal.at.returns-then-key-k c in
    let n = c.from-blocks.ensures ∙ (sized_ok (size kroot_blocks v.nb_dk) (blocks_are d.In_ok-listed)).0 in
    let k = c.from-k.ensures ∙ (sized_ok (size key_sizes v.ks) (key_is d.In_ok-listed-2)).0 in
    four d.Else-id-gt11 _
    (sized_pass (size kroot_blocks v.nb_dk) _ (blocks_are d.In_ok-listed)
    (sized_pass (size key_sizes v.ks) _ (key_is d.In_ok-listed-2)
    (sized_pass (size tag_sizes v.ts) _ (tag_is d.In_ok-listed-3)
    (elim c.then-key-k.branch [
      | then-key-k-via-then-key-k w ↦ kroot_key a.dsm.now a.id (kroot_of v) a.key.now a.signature.now a.padding.now n k w.if-key-k.true
      | then-key-k-via-else-key-k+then-p-gt-MOST_PADDING w ↦
          kroot_padding a.dsm.now a.id (kroot_of v) a.key.now a.signature.now a.padding.now n k w.if-key-k.false w.if-p-gt-MOST_PADDING.true
      | then-key-k-via-else-key-k+else-p-gt-MOST_PADDING+then-k-s w ↦
          kroot_unfilled a.dsm.now a.id (kroot_of v) a.key.now a.signature.now a.padding.now n k w.if-key-k.false w.if-p-gt-MOST_PADDING.false w.if-k-s.true
    ]))))

pub returns : goal.returns
returns c =
    let a = c.args in
    let v = a.v in
    let d = goal.at.returns c in
    let n = c.from-blocks.ensures ∙ (sized_ok (size kroot_blocks v.nb_dk) (blocks_are d.In_ok-listed)).0 in
    let k = c.from-k.ensures ∙ (sized_ok (size key_sizes v.ks) (key_is d.In_ok-listed-2)).0 in
    four d.Else-id-gt11 _
    (sized_pass (size kroot_blocks v.nb_dk) _ (blocks_are d.In_ok-listed)
    (sized_pass (size key_sizes v.ks) _ (key_is d.In_ok-listed-2)
    (sized_pass (size tag_sizes v.ts) _ (tag_is d.In_ok-listed-3)
    (kroot_filled a.dsm.now a.id (kroot_of v) a.key.now a.signature.now a.padding.now n k c.if-key-k.false c.if-p-gt-MOST_PADDING.false c.if-k-s.false))))
