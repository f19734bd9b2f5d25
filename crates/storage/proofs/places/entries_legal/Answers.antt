-- `places::entries_legal`: the fold over satellites and statuses.
-- Assumes nothing.
use mathlib.Core.Path.{◌≡◌, ◌∙◌}
use mathlib.Core.Bool.{Bool, true, ◌&&◌}
use Prim.Native.Nat.{ℕ, ◌+◌, ◌-◌}
use native.Mathlib.Omega.{arith}
use borrow.Author.Rules.{rules}
use borrow.Author.Tests.{tests}
use Rattle.std.specs.List.{between}
use Rattle.std.proofs.lemmas.Iterator.{YieldsList-from_slice, YieldsList-from_zip}
use Rattle.std.proofs.lemmas.Iterator.Consumers.{fold_from_yields_List}
use Rattle.storage.proofs.StoreRecord.{legal_pair, entries_folded}
use Rattle.storage.proofs.places.entries_legal.Goals as goal

pub returns : goal.returns
returns c =
    let a = c.args in
    let many : a.at + a.many - a.at ≡ a.many = omega arith in
    fold_from_yields_List _ (λ (b : Bool) (p : ℕ × ℕ). b && legal_pair p) true c.fold.result c.fold.ensures.ran
    (YieldsList-from_zip (YieldsList-from_slice (between a.at (a.at + a.many) a.satellites.now) cc)
    (YieldsList-from_slice (between a.at (a.at + a.many) a.statuses.now) cc))
    (λ a x b q k. search (rules, tests))
    ∙ rw many (entries_folded a.satellites.now a.statuses.now a.at a.many c.requires.0 c.requires.1)
