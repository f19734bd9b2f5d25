-- Laws of the DSM that is shown, kept as one value, and of the record changed in place.
-- Assumes nothing.
use mathlib.Core.Path.{◌≡◌, sym, ap, ◌∙◌}
use mathlib.Core.List.{List, [], ◌∷◌}
use Prim.Native.Nat.{ℕ, ◌≤◌}
use native.Mathlib.Omega.{arith}
use lib.ListN.{length, take}
use lib.Seq.{length-take-le}
use Rattle.std.specs.Prelude.{Result, Ok, Err, Option, Some, None, unwrap_or}
use Rattle.std.specs.Result.{result_unwrap_or}
use Rattle.std.specs.Option.{MatchOption}
use Rattle.layouts.specs.Answer.{Answer, gives, shown}
use Rattle.layouts.specs.DsmHeader.{dsm_type_of}
use Rattle.layouts.specs.Meaning.{meaning_type}
use Rattle.layouts.specs.declared.dsm_header.DsmType.{DsmType}
use Rattle.layouts.specs.declared.dsm_header.DsmType.TheVariants.{Kroot}
use Rattle.layouts.specs.declared.refusal.Refusal.{Refusal}
use Rattle.dsms.specs.Dsm.{State, view}
use Rattle.dsms.specs.DsmPromises.{state, meaning_dsm, meaning_shown, FeedDsm}
use Rattle.dsms.specs.DsmView.{Kept, kept_of, shown_id, shown_type, kept, ToldApart, named_by, FeedInPlace}
use Rattle.dsms.specs.declared.dsm.CollectDsm.{CollectDsm}
use Rattle.dsms.specs.declared.dsm.CompleteDsm.{CompleteDsm}
use Rattle.dsms.specs.declared.dsm.DsmFed.{DsmFed}
use Rattle.dsms.proofs.Blocks.{type_meant, shown_size}

-- The question's answer, with no byte where nothing is shown.
abbrev pub bytes_of : Result (Option ℕ) Refusal → Option ℕ
bytes_of x = result_unwrap_or x None

module _ (s : State) where
  pub bytes_fit : (x : Result (Option ℕ) Refusal) → meaning_shown x ≡ view s → unwrap_or (bytes_of x) 0 ≤ length s.memory
  bytes_fit (Ok (Some n)) e = (shown_size s e).fits
  bytes_fit (Ok None) e = omega arith
  bytes_fit (Err r) e = omega arith

  pub bytes_shown : (x : Result (Option ℕ) Refusal) → meaning_shown x ≡ view s → take (unwrap_or (bytes_of x) 0) s.memory ≡ shown s.memory (view s)
  unfolding shown
  bytes_shown (Ok (Some n)) e = rw (← e)
  bytes_shown (Ok None) e = rw (← e)
  bytes_shown (Err r) e = rw (← e)

  pub is_shown : (x : Result (Option ℕ) Refusal) {n : ℕ} → meaning_shown x ≡ view s → bytes_of x ≡ Some n → gives (0 ∷ n ∷ []) ≡ view s
  is_shown (Ok (Some k)) {n} e g = let z : n ≡ k = cc in rw z e
  is_shown (Ok None) e g = let z : ◌≡◌ {A = ℕ} 0 1 = cc in absurd (omega arith)
  is_shown (Err r) e g = let z : ◌≡◌ {A = ℕ} 0 1 = cc in absurd (omega arith)

  -- The struct: of a DSM that is shown, and of none.
  pub kept_some : (t : DsmType) {n : ℕ} → gives (0 ∷ n ∷ []) ≡ view s → meaning_type t ≡ gives (dsm_type_of s.id ∷ []) → kept_of s.id t (take n s.memory) ≡ kept s
  unfolding shown_id shown_type shown
  kept_some t e g = rw (← e, g)

  pub kept_none : (x : Result (Option ℕ) Refusal) → meaning_shown x ≡ view s → bytes_of x ≡ None → kept_of 0 Kroot [] ≡ kept s
  unfolding shown_id shown_type shown
  kept_none (Ok (Some k)) e g = let z : ◌≡◌ {A = ℕ} 0 1 = cc in absurd (omega arith)
  kept_none (Ok None) e g = rw (← e)
  kept_none (Err r) e g = rw (← e)

-- The record that is stored is the one that `feed` hands back.
pub stored_back : (k : CollectDsm) (m : List ℕ) (h : ℕ) (block : List ℕ) (r : DsmFed) (after : List ℕ) → FeedDsm k m h block r after
    → FeedInPlace k m h block r.answer r.collector after
stored_back k m h block r after e = e

pub told_apart : (s : State) → ToldApart s
unfolding shown_id shown_type shown
told_apart s = record {
  refused_none = λ n e. rw e;
  nothing_none = λ e. rw e;
  shown_some = λ n e.
      let z = shown_size s (sym e) in
      (ap (λ (a : Answer). length (shown s.memory a)) e ∙ length-take-le n s.memory z.fits, z.some);
}

-- The answer, from the struct and the question.
module _ (k : CollectDsm) (m : List ℕ) (i : ℕ) (t : DsmType) (bytes : List ℕ) (e : kept_of i t bytes ≡ kept (state k m)) where
  complete_kept : {n : ℕ} → gives (0 ∷ n ∷ []) ≡ view (state k m)
      → meaning_dsm (Ok (Some (record { id = i; dsm_type = t; bytes = n }))) ≡ named_by (state k m) (view (state k m))
  unfolding shown_id shown_type shown
  complete_kept {n} g =
      let same : i ≡ k.id = ap (λ (x : Kept). x.id) e ∙ rw (← g) in
      let kind : meaning_type t ≡ gives (dsm_type_of k.id ∷ []) = ap (λ (x : Kept). x.kind) e ∙ rw (← g) in
      rw (same, type_meant (dsm_type_of k.id) t kind, (shown_size (state k m) g).size_is, ← g)

  pub answer_kept : (x : Option ℕ) (o : Option CompleteDsm) → meaning_shown (Ok x) ≡ view (state k m)
      → MatchOption x (o ≡ None) (λ n. o ≡ Some (record { id = i; dsm_type = t; bytes = n }))
      → meaning_dsm (Ok o) ≡ named_by (state k m) (view (state k m))
  answer_kept (Some n) o g h = rw h (complete_kept g)
  answer_kept None o g h = rw (h, ← g)
