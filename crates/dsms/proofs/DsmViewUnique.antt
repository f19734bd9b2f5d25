-- Two answers that meet a promise of the forms over a reference agree, with the record behind the reference and every lent byte.
-- Assumes nothing.
use mathlib.Core.Path.{◌≡◌, refl, sym, ap, ◌∙◌}
use mathlib.Core.List.{List, [], ◌∷◌}
use Prim.Native.Nat.{ℕ}
use denote.Ref.{Bor}
use Rattle.layouts.specs.Answer.{Answer, refused, nothing, gives}
use Rattle.layouts.specs.Meaning.{meaning_type}
use Rattle.layouts.specs.declared.dsm_header.DsmType.{DsmType}
use Rattle.layouts.specs.declared.dsm_header.DsmType.TheVariants.{Kroot, Pkr}
use Rattle.dsms.specs.Agreed.{SameDsm, Agreed}
use Rattle.dsms.specs.DsmView.{Kept, kept_of, ViewKept, IdKept, TypeKept, DataKept, ViewAnswer, FeedInPlace}
use Rattle.dsms.specs.declared.dsm.CollectDsm.{CollectDsm}
use Rattle.dsms.specs.declared.dsm.CompleteDsm.{CompleteDsm}
use Rattle.std.specs.Prelude.{Result, Option}
use Rattle.layouts.specs.declared.refusal.Refusal.{Refusal}
use Rattle.dsms.specs.declared.dsm.DsmFed.{DsmFed}
use Rattle.dsms.specs.declared.dsm_view.Dsm.{Dsm}
use Rattle.dsms.proofs.DsmUnique.{type_back, back_dsm, undo_dsm, new_dsm, feed_dsm, view_dsm_shown, view_dsm}

abbrev pub back_kind : Answer → DsmType
back_kind (refused n) = Kroot
back_kind nothing = Kroot
back_kind (gives []) = Kroot
back_kind (gives (t ∷ l)) = type_back t

undo_kind : (t : DsmType) → back_kind (meaning_type t) ≡ t
undo_kind Kroot = refl
undo_kind Pkr = refl

pub view_kept : (c : CollectDsm) (memory : List ℕ) (r s : Dsm) → ViewKept c memory r → ViewKept c memory s → SameDsm r s
view_kept c memory r s p q =
    let e : kept_of r.id r.dsm_type r.«data».now ≡ kept_of s.id s.dsm_type s.«data».now = p ∙ sym q in
    record {
      id = ap (λ (x : Kept). x.id) e;
      kind = sym (undo_kind r.dsm_type) ∙ ap (λ (x : Kept). back_kind x.kind) e ∙ undo_kind s.dsm_type;
      bytes = ap (λ (x : Kept). x.bytes) e;
    }

pub id_kept : (d : Dsm) (r s : ℕ) → IdKept d r → IdKept d s → r ≡ s
id_kept d r s p q = p ∙ sym q

pub type_kept : (d : Dsm) (r s : DsmType) → TypeKept d r → TypeKept d s → r ≡ s
type_kept d r s p q = p ∙ sym q

pub data_kept : (d : Dsm) (r s : Bor (List ℕ)) → DataKept d r → DataKept d s → r ≡ s
data_kept d r s p q = p ∙ sym q

pub view_answer : (c : CollectDsm) (memory : List ℕ) (r s : Result (Option CompleteDsm) Refusal) → ViewAnswer c memory r → ViewAnswer c memory s → r ≡ s
view_answer c memory r s p q = sym (undo_dsm r) ∙ ap back_dsm (p ∙ sym q) ∙ undo_dsm s

pub feed_in_place : (c : CollectDsm) (memory : List ℕ) (header : ℕ) (block : List ℕ) (r s : Result (Option CompleteDsm) Refusal) (k l : CollectDsm) (x y : List ℕ)
    → FeedInPlace c memory header block r k x → FeedInPlace c memory header block s l y → (r ≡ s) × (k ≡ l) × (x ≡ y)
feed_in_place c memory header block r s k l x y p q =
    let e = feed_dsm c memory header block (record { collector = k; answer = r }) (record { collector = l; answer = s }) x y p q in
    (ap (λ (f : DsmFed). f.answer) e.0, ap (λ (f : DsmFed). f.collector) e.0, e.1)

pub agreed : Agreed
agreed = record {
  new = new_dsm;
  feed = feed_dsm;
  view_shown = view_dsm_shown;
  view = view_dsm;
  feed_in_place = feed_in_place;
  view_dsm = view_kept;
  dsm_id = id_kept;
  dsm_type_lem = type_kept;
  dsm_data = data_kept;
  view_answer = view_answer;
}
