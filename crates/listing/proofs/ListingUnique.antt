-- Two answers of the listing that meet a promise agree, with the record and every lent byte.
-- Assumes nothing.
use Prim.Native.Nat.{ℕ}
use mathlib.Core.Path.{◌≡◌, refl, sym, ap, ◌∙◌}
use mathlib.Core.List.{List, [], ◌∷◌}
use Rattle.layouts.specs.Answer.{Answer, refused, nothing, gives}
use Rattle.page_replay.proofs.ReplayUnique.{back_state}
use Rattle.listing.specs.Pieces.{Told}
use Rattle.listing.specs.PiecePromises.{meaning_listing, outcome}
use Rattle.listing.specs.Agreed.{Agreed}
use Rattle.std.specs.Prelude.{Result, Ok, Err}
use Rattle.layouts.specs.declared.refusal.Refusal.{Refusal}
use Rattle.layouts.specs.declared.refusal.Refusal.TheVariants.{SliceLength}
use Rattle.layouts.proofs.Back.{refusal_at, undo_refusal}
use Rattle.listing.specs.declared.pieces.Told.{Told as TookAndWrote}
use Rattle.listing.specs.declared.pieces.ListingStep.{ListingStep}

-- `back` undoes the `meaning`
abbrev pub back_answer : Answer → Result TookAndWrote Refusal
back_answer (refused n) = Err (refusal_at n)
back_answer nothing = Err SliceLength
back_answer (gives []) = Err SliceLength
back_answer (gives (k ∷ [])) = Err SliceLength
back_answer (gives (k ∷ n ∷ l)) = Ok (record { taken = k; written = n })

undo_answer : (r : Result TookAndWrote Refusal) → back_answer (meaning_listing r) ≡ r
undo_answer (Err e) = ap Err (undo_refusal e)
undo_answer (Ok t) = refl

abbrev pub back : Told → ListingStep
back t =
    record {
      listing = record { replay = back_state t.state.replay; page = t.state.page; held = t.state.held; over = t.state.over };
      answer = back_answer t.answer;
    }

whole : (r : ListingStep) (h m d out : List ℕ) → r ≡ back (outcome r h m d out)
whole r h m d out = ap (λ (a : Result TookAndWrote Refusal). with_answer r a) (sym (undo_answer r.answer))
  where
    with_answer : ListingStep → Result TookAndWrote Refusal → ListingStep
    with_answer s a = record { listing = s.listing; answer = a }

module _ (r s : ListingStep) (h m d o h' m' d' o' : List ℕ) (e : outcome r h m d o ≡ outcome s h' m' d' o') where
  same : (r ≡ s) × (h ≡ h') × (m ≡ m') × (d ≡ d') × (o ≡ o')
  same = (
    whole r h m d o ∙ ap back e ∙ sym (whole s h' m' d' o'),
    ap (λ (t : Told). t.state.replay.subframes.hkroot) e,
    ap (λ (t : Told). t.state.replay.subframes.mack) e,
    ap (λ (t : Told). t.state.replay.dsms.memory) e,
    ap (λ (t : Told). t.out) e,
  )

pub agreed : Agreed
agreed =
    record {
      begin = λ many satellite week time out r s x y p q. let e = same r s [] [] [] x [] [] [] y (p ∙ sym q) in (e.0, e.4);
      feed = λ l hkroot mack memory piece out r s h m d o h' m' d' o' p q. same r s h m d o h' m' d' o' (p ∙ sym q);
      finish = λ l hkroot mack memory out r s h m d o h' m' d' o' p q. same r s h m d o h' m' d' o' (p ∙ sym q);
    }
