-- `hexadecimal::spells`: another length, or the test of each digit.
-- Assumes nothing.
use mathlib.Core.Path.{◌≡◌, refl}
use native.Mathlib.Omega.{arith}
use Rattle.std.proofs.Common.{rules, length, get_or}
use Rattle.std.proofs.lemmas.Iterator.{cases_from_all, YieldsList-from_range}
use borrow.Author.Tests.{tests}
use Rattle.texts.specs.Hexadecimal.{capitals}
use Rattle.texts.proofs.Hexadecimals.{other_long, same_digits}
use Rattle.texts.proofs.hexadecimal.spells.Goals as goal

pub returns-then-text-bytes : goal.returns-then-text-bytes
returns-then-text-bytes c =
    let t = c.args.text.now in
    let digits = capitals c.args.bytes.now in
    same_digits t c.args.bytes.now (length t) c.all.result refl c.if-text-bytes.true
    (cases_from_all _ _ _ (λ k. get_or t k 0 ≡ get_or digits k 0) (λ k. get_or t k 0 ≡ get_or digits k 0 → ⊥) c.all.ensures.ran
    (YieldsList-from_range 0 (length t) (length t) refl (omega arith)) (λ x q k. search (rules, tests)) (λ x q k. search (rules, tests)))

pub returns-else-text-bytes : goal.returns-else-text-bytes
returns-else-text-bytes c = other_long c.args.text.now c.args.bytes.now c.if-text-bytes.false
