-- `MackStorage::find`: the first message of the satellite, or none.
-- Assumes nothing.
use mathlib.Core.Path.{◌≡◌, subst⁻¹}
use mathlib.Core.List.{List}
use mathlib.Core.Bool.{Bool, cond}
use Prim.Native.Nat.{ℕ, ◌+◌, ◌-◌, ◌*◌, ◌≤◌}
use lib.Dec.{ltb, eqb}
use lib.ListN.{get_or, length}
use native.Mathlib.Omega.{arith}
use borrow.Author.Rules.{rules}
use borrow.Author.Tests.{tests}
use Rattle.std.specs.Prelude.{Some, None}
use Rattle.std.specs.List.{between, position_or_len}
use Rattle.std.proofs.lemmas.Iterator.{YieldsList-from_slice}
use Rattle.std.proofs.lemmas.Iterator.Search.{position_from_yields_List}
use Rattle.storage.specs.StorePromises.{storage_of}
use Rattle.storage.specs.inner.Places.{FindsFirst}
use Rattle.storage.proofs.Bytes.{part}
use Rattle.storage.proofs.StoreRecord.{place_is}
use Rattle.storage.proofs.Stored.{search_none, search_some}
use Rattle.storage.proofs.mack_storage.MackStorage.find.Goals as goal
use Rattle.storage.proofs.mack_storage.MackStorage.find.Goals.{After-position}

-- the messages of the place, and where the search ends in them
abbrev here : After-position → List ℕ
here c = between (36 * c.args.p) (36 * c.args.p + c.from.result) c.args.self.now.satellites

here_is : (c : After-position) → here c ≡ part (36 * c.args.p) (get_or (storage_of c.args.self.now).counts c.args.p 0) c.args.self.now.satellites
here_is c =
    let r = c.args.self.now in
    let p = c.args.p in
    let many : 36 * p + c.from.result - 36 * p ≡ get_or (storage_of r).counts p 0 = omega (arith, c.from.ensures, (place_is r p).count_is) in
    rw many

ends : (c : After-position) → let test : ℕ → Bool = λ x. eqb x c.args.satellite in c.position.result ≡ cond (ltb (position_or_len test (here c)) (length (here c))) (Some (position_or_len test (here c))) None
ends c =
    position_from_yields_List (λ x. eqb x c.args.satellite) _ _ c.position.result c.position.ensures.ran
    (YieldsList-from_slice (here c) cc) (λ x b q k. search (rules, tests))

inside : (c : After-position) → 36 * c.args.p + get_or (storage_of c.args.self.now).counts c.args.p 0 ≤ length c.args.self.now.satellites
inside c = search (rules, arith)

pub returns-in_err-j : goal.returns-in_err-j
returns-in_err-j c =
    let o = c.args.self.now in
    let p = c.args.p in
    let g = (goal.at.returns-in_err-j c).After-position in
    subst⁻¹ (FindsFirst 36 (storage_of o) p c.args.satellite) c.from_residual.ensures
    (search_none o.satellites o.statuses (36 * p) (get_or (storage_of o).counts p 0) c.args.satellite (ends g) (here_is g) (inside g) c.in_err-j.was)

pub returns : goal.returns
returns c =
    let o = c.args.self.now in
    let p = c.args.p in
    let g = (goal.at.returns c).After-position in
    search_some o.satellites o.statuses (36 * p) (get_or (storage_of o).counts p 0) c.args.satellite (ends g) (here_is g) (inside g) c.in_ok-j.was
