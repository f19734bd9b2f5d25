-- `dsm::count`: the count of the type, by its reader.
-- Assumes nothing.
use mathlib.Core.Path.{◌≡◌, refl, ap, ◌∙◌}
use Prim.Native.Nat.{ℕ}
use borrow.Author.Rules.{rules}
use Rattle.std.specs.Prelude.{Option, Some, None, Result, Ok, Err}
use Rattle.std.specs.Result.{result_ok}
use Rattle.layouts.specs.declared.refusal.Refusal.{Refusal}
use Rattle.layouts.specs.Meaning.{meaning_number}
use Rattle.dsms.proofs.Blocks.{Counts, number_read, kroot_counts, pkr_counts}
use Rattle.dsms.proofs.dsm.count.Goals as goal
use Rattle.dsms.proofs.dsm.count.Goals.{Joined-dsm_type, in-Kroot, in-Pkr}

read : (c : Joined-dsm_type) → Counts c.args.dsm_type c.args.dsm.now (number_read c.match-dsm_type.number)
read c =
    let m = c.args.dsm.now in
    elim c.match-dsm_type.branch [
      | in-Kroot w ↦ kroot_counts m c.requires _ w.in-Kroot.is (ap meaning_number w.number-is ∙ w.number_of_blocks-number.ensures)
      | in-Pkr w ↦ pkr_counts m c.requires _ w.in-Pkr.is (ap meaning_number w.number-is ∙ w.number_of_blocks-number-in-Pkr.ensures)
    ]

same : (o q : Option ℕ) → ((x : ℕ) → o ≡ Some x → q ≡ Some x) → (o ≡ None → q ≡ None) → q ≡ o
same (Some x) q f g = f x refl
same None q f g = g refl

kept : (r : Result ℕ Refusal) → result_ok r ≡ number_read r
kept (Ok x) = refl
kept (Err e) = refl

pub returns : goal.returns
returns c = λ t h.
    same c.ok.result c.map.result (search rules) (search rules)
    ∙ c.ok.ensures.value ∙ kept c.match-dsm_type.number ∙ read (goal.at.returns c).Joined-dsm_type t h
