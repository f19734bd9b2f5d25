-- Two answers that meet a promise of `texts` agree, with every lent byte.
-- Assumes nothing.
use mathlib.Core.Path.{◌≡◌, refl, sym, ap, ◌∙◌}
use mathlib.Core.List.{List, [], ◌∷◌}
use Prim.Native.Nat.{ℕ}
use lib.ListN.{get_or}
use Rattle.std.specs.Prelude.{Result}
use Rattle.layouts.specs.declared.gst.Stamp.{Stamp}
use Rattle.layouts.specs.declared.refusal.Refusal.{Refusal}
use Rattle.layouts.proofs.Back.{results}
use Rattle.layouts.specs.Agree.{AgreeWith}
use Rattle.texts.specs.Agreed.{Agreed}
use Rattle.texts.specs.Lines.{Written, wrote}
use Rattle.texts.specs.Puts.{Puts, outcome}

-- one number, and a stamp
abbrev one : List ℕ → ℕ
one [] = 0
one (n ∷ l) = n

abbrev stamp : List ℕ → Stamp
stamp l = record { satellite = get_or l 0 0; week = get_or l 1 0; time = get_or l 2 0 }

-- where a text ends, and its buffer; how many bytes a line has, and its buffer
both_put : {p : Puts} → AgreeWith (λ (r : Result ℕ Refusal) (x : List ℕ). outcome r x ≡ p)
both_put r s x y p q =
    (results (λ n. n ∷ []) one (λ n. refl) _ r s (ap (λ (f : Puts). f.answer) p) (ap (λ (f : Puts). f.answer) q), ap (λ (f : Puts). f.out) (p ∙ sym q))

both_written : {w : Written} → AgreeWith (λ (r : ℕ) (x : List ℕ). wrote r x ≡ w)
both_written r s x y p q = (ap (λ (f : Written). f.many) (p ∙ sym q), ap (λ (f : Written). f.out) (p ∙ sym q))

pub agreed : Agreed
agreed =
    record {
      decimal = λ text r s p q. results (λ n. n ∷ []) one (λ n. refl) _ r s p q;
      read = λ many satellite week time r s p q. results (λ (x : Stamp). x.satellite ∷ x.week ∷ x.time ∷ []) stamp (λ x. refl) _ r s p q;
      words = λ out at words. both_put;
      number = λ out at n. both_put;
      hexadecimal = λ out at bytes. both_put;
      newline = λ out at. both_put;
      read_hexadecimal = λ out at text. both_put;
      spells = λ text bytes r s p q. p ∙ sym q;
      subframe = λ out stamp. both_written;
      dsm = λ out id bytes. both_written;
      totals = λ out counts. both_written;
      refused = λ out n. both_written;
      subframe_at = λ out at stamp. both_put;
      dsm_at = λ out at id bytes. both_put;
      totals_at = λ out at counts. both_put;
      refused_at = λ out at n. both_put;
    }
