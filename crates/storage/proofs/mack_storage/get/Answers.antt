-- `mack_storage::get`: the refusals, then the place that asking reaches.
-- Assumes nothing.
use mathlib.Core.Path.{◌≡◌, refl}
use Prim.Native.Nat.{ℕ, ◌<◌, ◌≤◌}
use lib.ListN.{get_or}
use borrow.Author.Rules.{rules}
use Rattle.std.specs.Prelude.{Option, Some, None}
use Rattle.std.specs.Option.{MatchOption}
use Rattle.layouts.specs.Answer.{refusal}
use Rattle.storage.specs.declared.mack_storage.MackFound.{MackFound}
use Rattle.storage.specs.Store.{Storage, Asked, ask_checks, get}
use Rattle.storage.specs.inner.Places.{Reaches, FindsFirst}
use Rattle.storage.specs.StorePromises.{storage_of, asked_of, meaning_found}
use Rattle.storage.proofs.StoreRecord.{legal_at_lem, place_few}
use Rattle.storage.proofs.Stored.{ask_legal, reached_some, get_refused, get_there, get_nowhere}
use Rattle.storage.proofs.mack_storage.get.Goals as goal

pub returns-in_err-check : goal.returns-in_err-check
returns-in_err-check c = get_refused 36 12 (storage_of c.args.storage) (asked_of c.args.stamp) _ _ c.from_residual.ensures.1 c.in_err-check.ensures

pub and_then-requires : goal.and_then-requires
and_then-requires c = λ x e.
    let o = storage_of c.args.storage in
    let a = asked_of c.args.stamp in
    let p = reached_some 12 o a _ c.lowest-place.ensures e in
    let low : x < 12 = p.1 in
    let few : get_or o.counts x 0 ≤ 36 = place_few 36 o x (legal_at_lem 36 12 o (ask_legal 36 12 o a c.in_ok-check.ensures refl) x p.1) in
    search (rules, low, few)

-- the first message in the place that asking reaches, or nothing
told : (o : Storage) (a : Asked) → 0 ≡ refusal (ask_checks 36 12 o a) → (n : Option ℕ) (q : Option MackFound) → Reaches 12 o a.week a.time n
    → MatchOption n (q ≡ None) (λ p. FindsFirst 36 o p a.satellite q) → meaning_found q ≡ get 36 12 o a
told o a e (Some p) q r h = get_there 36 12 o a e r.0 r.1 h
told o a e None q r h = rw h (get_nowhere 36 12 o a e r)

pub returns : goal.returns
returns c =
    told (storage_of c.args.storage) (asked_of c.args.stamp) c.in_ok-check.ensures c.lowest-place.result c.and_then.result c.lowest-place.ensures (search rules)
