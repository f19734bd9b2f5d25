-- Two answers of the recorder that meet a promise agree.
-- Assumes nothing.
use mathlib.Core.Path.{◌≡◌, refl, sym, ap, ◌∙◌}
use mathlib.Core.Bool.{cond}
use mathlib.Core.List.{List, [], ◌∷◌}
use Prim.Native.Nat.{ℕ}
use lib.Dec.{eqb}
use Rattle.std.specs.Prelude.{Result, Ok, Err, Option, Some, None}
use Rattle.layouts.specs.Answer.{Answer, refused, nothing, gives, Copied}
use Rattle.layouts.specs.Agree.{Agree}
use Rattle.layouts.specs.declared.refusal.Refusal.{Refusal}
use Rattle.subframes.specs.declared.subframe.CollectSubframe.{CollectSubframe}
use Rattle.layouts.proofs.Back.{refusal_at, undo_refusal}
use Rattle.recorder.specs.Agreed.{Agreed}
use Rattle.recorder.specs.Walk.{Walk}
use Rattle.recorder.specs.WalkPromises.{verdict_numbers, judged_walk, meaning_timing, meaning_walk, meaning_complete, TimingTagsRead, WalkSlots, WalkComplete}
use Rattle.recorder.specs.declared.slots.TagField.{TagField}
use Rattle.recorder.specs.declared.slots.TagField.TheVariants.{Adkd, Prnd}
use Rattle.recorder.specs.declared.slots.Verdict.{Verdict}
use Rattle.recorder.specs.declared.slots.Verdict.TheVariants.{AllFit, Breaks, TagsDiffer}
use Rattle.recorder.specs.declared.timing.TimingTags.{TimingTags}
use Rattle.recorder.specs.declared.walk.Walked.{Walked}

-- `back` undoes each `meaning`
abbrev back_field : ℕ → TagField
back_field n = cond (eqb n 1) Adkd Prnd

abbrev back_verdict : List ℕ → Verdict
back_verdict [] = AllFit
back_verdict (n ∷ []) = AllFit
back_verdict (n ∷ x ∷ []) = AllFit
back_verdict (n ∷ x ∷ y ∷ l) = cond (eqb n 1) (Breaks x (back_field y)) (TagsDiffer x y)

undo_verdict : (v : Verdict) → back_verdict (verdict_numbers v) ≡ v
undo_verdict AllFit = refl
undo_verdict (Breaks tag Adkd) = refl
undo_verdict (Breaks tag Prnd) = refl
undo_verdict (TagsDiffer table message) = refl

abbrev back_count : List ℕ → ℕ
back_count [] = 0
back_count (n ∷ l) = n

-- the numbers that are given
abbrev numbers_in : Answer → List ℕ
numbers_in (refused n) = []
numbers_in nothing = []
numbers_in (gives ns) = ns

abbrev back_tags : Answer → List ℕ → Result TimingTags Refusal
back_tags (refused n) l = Err (refusal_at n)
back_tags nothing l = Ok (record { count = 0; tags = l })
back_tags (gives ns) l = Ok (record { count = back_count ns; tags = l })

undo_timing : (r : Result TimingTags Refusal) → back_tags (meaning_timing r).answer (meaning_timing r).bytes ≡ r
undo_timing (Ok t) = refl
undo_timing (Err e) = ap Err (undo_refusal e)

abbrev back_judged : List ℕ → Copied → Walked
back_judged ns c = record { slots = back_verdict ns; timing = record { count = back_count (numbers_in c.answer); tags = c.bytes } }

undo_judged : (w : Walked) → back_judged (verdict_numbers w.slots) (judged_walk w).timing ≡ w
undo_judged w = ap (λ (v : Verdict). record { slots = v; timing = w.timing }) (undo_verdict w.slots)

abbrev back_walked : Answer → Copied → Result (Option Walked) Refusal
back_walked (refused n) c = Err (refusal_at n)
back_walked nothing c = Ok None
back_walked (gives ns) c = Ok (Some (back_judged ns c))

undo_complete : (r : Result (Option Walked) Refusal) → back_walked (meaning_complete r).slots (meaning_complete r).timing ≡ r
undo_complete (Ok (Some w)) = ap (λ (x : Walked). Ok (Some x)) (undo_judged w)
undo_complete (Ok None) = refl
undo_complete (Err e) = ap Err (undo_refusal e)

abbrev back_walk : Answer → Copied → Result Walked Refusal
back_walk (refused n) c = Err (refusal_at n)
back_walk nothing c = Ok (back_judged [] c)
back_walk (gives ns) c = Ok (back_judged ns c)

undo_walk : (r : Result Walked Refusal) → back_walk (meaning_walk r).slots (meaning_walk r).timing ≡ r
undo_walk (Ok w) = ap Ok (undo_judged w)
undo_walk (Err e) = ap Err (undo_refusal e)

timing_tags : (m : List ℕ) (k T : ℕ) → Agree (TimingTagsRead m k T)
timing_tags m k T r s p q = sym (undo_timing r) ∙ ap (λ (c : Copied). back_tags c.answer c.bytes) (p ∙ sym q) ∙ undo_timing s

walk : (m : List ℕ) (k T sender id msg : ℕ) → Agree (WalkSlots m k T sender id msg)
walk m k T sender id msg r s p q = sym (undo_walk r) ∙ ap (λ (w : Walk). back_walk w.slots w.timing) (p ∙ sym q) ∙ undo_walk s

walk_complete : (c : CollectSubframe) (hkroot mack : List ℕ) (satellite k T id : ℕ) → Agree (WalkComplete c hkroot mack satellite k T id)
walk_complete c hkroot mack satellite k T id r s p q =
    sym (undo_complete r) ∙ ap (λ (w : Walk). back_walked w.slots w.timing) (p ∙ sym q) ∙ undo_complete s

pub agreed : Agreed
agreed = record { timing_tags = timing_tags; walk = walk; walk_complete = walk_complete }
