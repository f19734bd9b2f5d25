-- `dsm::finish`: done where all counted blocks are held.
-- Assumes nothing.
use mathlib.Core.Path.{◌≡◌, sym, ◌∙◌}
use mathlib.Core.List.{[], ◌∷◌}
use mathlib.Core.Bool.{true, false}
use lib.ListN.{take}
use Rattle.layouts.specs.Answer.{gives}
use Rattle.layouts.specs.Meaning.{meaning_type}
use Rattle.layouts.specs.DsmHeader.{dsm_type_of}
use Rattle.std.proofs.lemmas.Iterator.{cases_from_all, YieldsList-from_slice}
use borrow.Author.Rules.{rules}
use borrow.Author.Tests.{tests}
use Rattle.dsms.specs.Dsm.{count, all_held}
use Rattle.dsms.specs.inner.Dsm.{legal}
use Rattle.dsms.specs.DsmPromises.{state}
use Rattle.dsms.proofs.Blocks.{type_of, count_few, uncounted, missing, complete, type_meant, held_are}
use Rattle.dsms.proofs.dsm.finish.Goals as goal
use Rattle.dsms.proofs.dsm.finish.Goals.{After-count, After-all}

-- the type and the number of blocks are those of the ID
is_type : (c : After-count) → meaning_type c.dsm_type-dsm_type.result ≡ gives (dsm_type_of c.args.collector.id ∷ [])
is_type c = type_of c.args.collector.id c.dsm_type-dsm_type.result c.requires.0 c.dsm_type-dsm_type.ensures

is_count : (c : After-count) → let a = c.args in c.count.result ≡ legal (count (state a.collector a.dsm.now))
is_count c = c.count.ensures (dsm_type_of c.args.collector.id) (is_type c)

are_held : (c : After-all) → c.all.result ≡ all_held c.args.collector.held c.in-Some.n
are_held c =
    held_are c.args.collector.held c.in-Some.n (search rules) c.all.result
    (cases_from_all _ _ _ (λ b. b ≡ true) (λ b. b ≡ false) c.all.ensures.ran (YieldsList-from_slice (take c.in-Some.n c.args.collector.held) cc)
    (λ x q k. search (rules, tests))
    (λ x q k. search (rules, tests)))

pub shared_ref_as_front-iter : goal.shared_ref_as_front-iter
shared_ref_as_front-iter c = count_few (state c.args.collector c.args.dsm.now) (sym c.in-Some.is ∙ is_count (goal.at.shared_ref_as_front-iter c).After-count)

pub returns-in-Some : goal.returns-in-Some
returns-in-Some c =
    let a = c.args in
    let d = (goal.at.returns-in-Some c).After-count in
    complete (state a.collector a.dsm.now) (sym c.in-Some.is ∙ is_count d) (are_held (goal.at.returns-in-Some c).After-all) c.if-all.true
    (type_meant (dsm_type_of a.collector.id) c.dsm_type-dsm_type.result (is_type d))

pub returns-in_default : goal.returns-in_default
returns-in_default c =
    let a = c.args in
    missing (state a.collector a.dsm.now) (sym c.in-Some.is ∙ is_count (goal.at.returns-in_default c).After-count)
    (are_held (goal.at.returns-in_default c).After-all) c.if-all.false

pub returns-in_default-2 : goal.returns-in_default-2
returns-in_default-2 c =
    let a = c.args in uncounted (state a.collector a.dsm.now) (sym c.in_default.is ∙ is_count (goal.at.returns-in_default-2 c).After-count)
