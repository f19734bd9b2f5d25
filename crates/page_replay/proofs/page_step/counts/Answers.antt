-- `page_step::counts`: what the page's reader answers; it has no reason to refuse.
-- Assumes nothing.
use mathlib.Core.Path.{ap, sym, ◌∙◌}
use Rattle.std.specs.Prelude.{Ok}
use Rattle.layouts.specs.Meaning.{meaning_page_kind}
use Rattle.page_replay.proofs.PageSteps.{kind_counts, kind_skipped, kind_refused}
use Rattle.page_replay.proofs.page_step.counts.Goals as goal

pub returns-in-Ok-Counts : goal.returns-in-Ok-Counts
returns-in-Ok-Counts c =
    kind_counts c.args.page.now c.requires (sym (ap meaning_page_kind (c.in-Ok-Counts.is ∙ ap Ok c.in-Ok-Counts.field-0-is)) ∙ c.kind.ensures)

pub returns-in-Ok-Skipped : goal.returns-in-Ok-Skipped
returns-in-Ok-Skipped c =
    kind_skipped c.args.page.now c.requires (sym (ap meaning_page_kind (c.in-Ok-Skipped.is ∙ ap Ok c.in-Ok-Skipped.field-0-is)) ∙ c.kind.ensures)

pub returns-in-Err : goal.returns-in-Err
returns-in-Err c = kind_refused c.args.page.now c.requires c.in-Err.field-0 c.in-Err.ensures
