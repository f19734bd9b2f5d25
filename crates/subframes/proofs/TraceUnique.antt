-- Two answers of `feed_all` that meet its promise agree, with the record, the number consumed and every lent byte; and so do those of all public functions.
-- Assumes nothing.
use mathlib.Core.Path.{◌≡◌, sym, ap, ◌∙◌}
use mathlib.Core.List.{List}
use Prim.Native.Nat.{ℕ}
use Rattle.layouts.specs.Agree.{AgreeWithTwo}
use Rattle.subframes.specs.Trace.{FedMany}
use Rattle.subframes.specs.SubframePromises.{meaning_subframe}
use Rattle.subframes.specs.TracePromises.{outcome_all, FeedAll}
use Rattle.subframes.specs.declared.subframe.CollectSubframe.{CollectSubframe}
use Rattle.subframes.specs.declared.trace.TraceFed.{TraceFed}
use Rattle.subframes.specs.Agreed.{Agreed}
use Rattle.subframes.proofs.SubframeUnique.{back_subframe, undo_subframe, back_state, new_subframe, take_word, used_as, feed_subframe}
use Rattle.subframes.proofs.SubframeUnique.{view_subframe_shown, came_out, view_subframe, hkroot_message}

abbrev back_all : FedMany → TraceFed
back_all f = record { collector = back_state f.state; answer = back_subframe f.answer; consumed = f.consumed }

pub feed_all : (c : CollectSubframe) (h m trace : List ℕ) → AgreeWithTwo (FeedAll c h m trace)
feed_all c h m trace r s x y x' y' p q =
    let e : outcome_all r x x' ≡ outcome_all s y y' = p ∙ sym q in
    (whole r ∙ ap back_all e ∙ sym (whole s), ap (λ (f : FedMany). f.state.hkroot) e, ap (λ (f : FedMany). f.state.mack) e)
  where
    whole :
        (f : TraceFed)
        → ◌≡◌ {A = TraceFed} f (record { collector = f.collector; answer = back_subframe (meaning_subframe f.answer); consumed = f.consumed })
    whole f = rw (undo_subframe f.answer)

-- all public functions
pub agreed : Agreed
agreed =
    record {
      new = new_subframe;
      take = take_word;
      feed = feed_subframe;
      used_as = used_as;
      view_shown = view_subframe_shown;
      came_out = came_out;
      view = view_subframe;
      hkroot_message = hkroot_message;
      feed_all = feed_all;
    }
