-- Two answers of the page replay that meet a promise agree, with the record and every lent byte.
-- Assumes nothing.
use mathlib.Core.Path.{◌≡◌, refl, sym, ap, ◌∙◌}
use mathlib.Core.List.{List, [], ◌∷◌}
use Prim.Native.Nat.{ℕ}
use Rattle.layouts.specs.Answer.{Answer, refused, nothing, gives}
use Rattle.page_replay.specs.Agreed.{Agreed}
use Rattle.page_replay.specs.Replay.{State, Time, Dsm, Begun, Outcome}
use Rattle.std.specs.Prelude.{Result, Ok, Err, Option, Some, None, ⊤}
use Rattle.layouts.specs.Meaning.{meaning_done}
use Rattle.layouts.specs.declared.refusal.Refusal.{Refusal}
use Rattle.layouts.proofs.Back.{refusal_at, undo_refusal}
use Rattle.page_replay.specs.ReplayPromises.{meaning_replay, meaning_subframes, meaning_dsms, outcome, BeginReplay, ReplayPages}
use Rattle.page_replay.specs.declared.replay.PageReplay.{PageReplay}
use Rattle.page_replay.specs.declared.replay.NewReplay.{NewReplay}
use Rattle.page_replay.specs.declared.replay.SubframeDone.{SubframeDone}
use Rattle.page_replay.specs.declared.replay.DsmDone.{DsmDone}
use Rattle.page_replay.specs.declared.replay.Replayed.{Replayed}

-- `back` undoes each `meaning`
abbrev pub back_begun : Answer → Result ⊤ Refusal
back_begun (refused n) = Err (refusal_at n)
back_begun nothing = Ok tt
back_begun (gives l) = Ok tt

pub undo_begun : (r : Result ⊤ Refusal) → back_begun (meaning_done r) ≡ r
undo_begun (Err e) = ap Err (undo_refusal e)
undo_begun (Ok x) = refl

abbrev pub back_answer : Answer → Result ℕ Refusal
back_answer (refused n) = Err (refusal_at n)
back_answer nothing = Ok 0
back_answer (gives []) = Ok 0
back_answer (gives (n ∷ l)) = Ok n

pub undo_answer : (r : Result ℕ Refusal) → back_answer (meaning_replay r) ≡ r
undo_answer (Err e) = ap Err (undo_refusal e)
undo_answer (Ok n) = refl

abbrev pub back_subframes : List Time → Option SubframeDone
back_subframes [] = None
back_subframes (t ∷ l) = Some (record { week = t.week; time = t.time })

pub undo_subframes : (r : Option SubframeDone) → back_subframes (meaning_subframes r) ≡ r
undo_subframes None = refl
undo_subframes (Some d) = refl

abbrev pub back_dsms : List Dsm → Option DsmDone
back_dsms [] = None
back_dsms (d ∷ l) = Some (record { id = d.id; bytes = d.bytes })

pub undo_dsms : (r : Option DsmDone) → back_dsms (meaning_dsms r) ≡ r
undo_dsms None = refl
undo_dsms (Some d) = refl

-- the record is its state without the lent bytes
abbrev pub back_state : State → PageReplay
back_state s =
    record {
      next = record { satellite = s.satellite; week = s.next.week; time = s.next.time };
      subframes = record { week = s.subframes.week; subframe = s.subframes.subframe; counts = s.subframes.counts };
      dsms = record { id = s.dsms.id; came = s.dsms.came; held = s.dsms.held; done = s.dsms.done };
      pages = s.totals.pages;
      skipped = s.totals.skipped;
      used = s.totals.used;
      unused = s.totals.unused;
      subframes_done = s.totals.subframes;
      dsms_done = s.totals.dsms;
      silent = s.totals.silent;
    }

abbrev back_new : Begun → NewReplay
back_new b = record { replay = back_state b.state; answer = back_begun b.answer }

pub begin_replay : (satellite week time : ℕ) (r s : NewReplay) → BeginReplay satellite week time r → BeginReplay satellite week time s → r ≡ s
begin_replay satellite week time r s p q = whole r ∙ ap back_new (p ∙ sym q) ∙ sym (whole s)
  where
    whole : (f : NewReplay) → ◌≡◌ {A = NewReplay} f (record { replay = f.replay; answer = back_begun (meaning_done f.answer) })
    whole f = rw (undo_begun f.answer)

abbrev pub back_outcome : Outcome → Replayed
back_outcome o =
    record { replay = back_state o.state; answer = back_answer o.answer; subframe = back_subframes o.subframes; dsm = back_dsms o.dsms }

pub replay_pages : (c : PageReplay) (h m d pages : List ℕ) (budget : ℕ) (r s : Replayed) (x y z x' y' z' : List ℕ)
    → ReplayPages c h m d pages budget r x y z → ReplayPages c h m d pages budget s x' y' z' → (r ≡ s) × (x ≡ x') × (y ≡ y') × (z ≡ z')
replay_pages c h m d pages budget r s x y z x' y' z' p q =
    let e : outcome r x y z ≡ outcome s x' y' z' = p ∙ sym q in (
      whole r ∙ ap back_outcome e ∙ sym (whole s),
      ap (λ (o : Outcome). o.state.subframes.hkroot) e,
      ap (λ (o : Outcome). o.state.subframes.mack) e,
      ap (λ (o : Outcome). o.state.dsms.memory) e,
    )
  where
    whole : (f : Replayed)
        → ◌≡◌ {A = Replayed} f
        (record {
          replay = f.replay;
          answer = back_answer (meaning_replay f.answer);
          subframe = back_subframes (meaning_subframes f.subframe);
          dsm = back_dsms (meaning_dsms f.dsm);
        })
    whole f = rw (undo_answer f.answer, undo_subframes f.subframe, undo_dsms f.dsm)

pub agreed : Agreed
agreed = record { new = begin_replay; replay = replay_pages }
