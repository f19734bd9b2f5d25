-- `hexadecimal::is_hexadecimal`: an odd byte, or the test of each.
-- Assumes nothing.
use mathlib.Core.Path.{◌≡◌}
use mathlib.Core.Bool.{true, false}
use Rattle.std.proofs.Common.{rules}
use Rattle.std.proofs.lemmas.Iterator.{cases_from_all, YieldsList-from_slice}
use Rattle.texts.specs.Hexadecimal.{is_hex_digit}
use Rattle.texts.proofs.Hexadecimals.{hexdigit_told, all_hex}
use Rattle.texts.proofs.hexadecimal.is_hexadecimal.Goals as goal

pub returns-then-text-eq0 : goal.returns-then-text-eq0
returns-then-text-eq0 c =
    let cases = cases_from_all _ _ _ (λ x. is_hex_digit x ≡ true) (λ x. is_hex_digit x ≡ false) c.all.ensures.ran (YieldsList-from_slice c.args.text.now cc)
    (λ x q k. search (rules, hexdigit_told)) (λ x q k. search (rules, hexdigit_told)) in
    all_hex c.args.text.now c.all.result c.if-text-eq0.true cases
