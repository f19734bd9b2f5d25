-- Examples, computed.
-- Assumes nothing.
use mathlib.Core.Path.{refl}
use Rattle.layouts.specs.Answer.{refusal, answered}
use Rattle.layouts.specs.Bits.{bit, field}
use Rattle.layouts.specs.Mack.{listed, nt}
use Rattle.layouts.specs.Maclt.{table}
use Rattle.layouts.specs.Sizes.{key_sizes, tag_sizes}
use Rattle.subframes.specs.Subframe.{small, changed, zeros, is_silent, answer_at, used, offered, feed}
use Rattle.recorder.specs.Slots.{prnd_fits, broken, walked, judged}
use Rattle.recorder.specs.Timing.{timing, timing_tags}
use Rattle.recorder.specs.Walk.{verdict, walk, walk_complete}
use Rattle.recorder.specs.WalkExamples.{WalkExamples, PrndExamples, WalkRefusals, CompleteExamples}

pub walk_examples : WalkExamples
unfolding walk verdict judged walked broken prnd_fits timing timing_tags refusal answered bit field listed nt table key_sizes tag_sizes
walk_examples =
    record {
      fits_all = refl;
      guidelines = refl;
      adkd_first = refl;
      first = refl;
      last = refl;
      another_sender = refl;
      other_message = refl;
      fewer = refl;
      more = refl;
      flexible = refl;
      own_of_27 = refl;
      own_of_35 = refl;
      tag_0 = refl;
      alone = refl;
      all_nine = refl;
    }

pub prnd_examples : PrndExamples
unfolding prnd_fits
prnd_examples = record { self = refl; self_timing = refl; cross = refl }

pub walk_refusals : WalkRefusals
unfolding walk timing_tags refusal answered listed table key_sizes tag_sizes
walk_refusals =
    record {
      bytes_59 = refl;
      bytes_61 = refl;
      sender_0 = refl;
      sender_37 = refl;
      sender_255 = refl;
      key_in_bits = refl;
      tag_41 = refl;
      message_2 = refl;
      id_30 = refl;
      list_59 = refl;
      list_17 = refl;
    }

pub complete_examples : CompleteExamples
unfolding walk_complete verdict judged walked broken prnd_fits timing refusal answered bit field listed nt table key_sizes tag_sizes
    feed changed offered used answer_at is_silent zeros small
complete_examples =
    record {
      second_half = refl;
      first_half = refl;
      end_of_week = refl;
      fourteen = refl;
      another = refl;
      silent = refl;
      lent_539 = refl;
      week_4096 = refl;
      satellite_37 = refl;
      key_17 = refl;
      id_30 = refl;
    }
