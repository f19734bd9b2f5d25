-- `subframe::is_used`: each case of the definition.
-- Assumes nothing.
use mathlib.Core.List.{[]}
use mathlib.Core.Path.{refl, sym}
use Rattle.layouts.proofs.Refused.{number_some}
use Rattle.subframes.specs.SubframePromises.{state, page_of, meaning_word}
use Rattle.subframes.proofs.Pages.{ask_refused, ask_said}
use Rattle.layouts.proofs.Refused.{carry}
use Rattle.subframes.proofs.subframe.is_used.Goals as goal

pub returns-in_err-check_asked : goal.returns-in_err-check_asked
returns-in_err-check_asked c =
    carry meaning_word _ _ c.from_residual.ensures.1
    (ask_refused (state c.args.collector [] []) (page_of c.args.stamp []) c.in_err-check_asked.ensures (number_some _))

pub has_next_word-requires : goal.has_next_word-requires
has_next_word-requires c = sym c.in_ok-check_asked.ensures

pub returns : goal.returns
returns c = ask_said (state c.args.collector [] []) (page_of c.args.stamp []) c.in_ok-check_asked.ensures refl _ c.has_next_word.ensures
