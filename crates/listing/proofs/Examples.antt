-- The listing's examples, computed.
-- Assumes nothing.
use mathlib.Core.Path.{refl}
use mathlib.Core.List.{List}
use Prim.Native.Nat.{ℕ}
use Rattle.layouts.specs.Answer.{refusal, answered, copied}
use Rattle.layouts.specs.Bits.{bit, field, bytes_from}
use Rattle.layouts.specs.InavPage.{is_counted, osnma}
use Rattle.layouts.specs.Lists.{all}
use Rattle.layouts.specs.Sizes.{kroot_blocks}
use Rattle.subframes.specs.Subframe.{used_answer, is_used, small, changed, zeros, is_silent, answer_at, used, offered, feed as feed_page, view as view_page}
use Rattle.dsms.specs.Dsm.{begun, stored, counted as counted_blocks, finished, taken, feed as feed_block}
use Rattle.page_replay.specs.Replay.{skipped, counted, fed, page_step, and_then, replayed, pages_of, fed_hkroot, later}
use Rattle.texts.specs.Decimal.{only, number_behind, spelt, digits}
use Rattle.texts.specs.Lines.{bytes, line}
use Rattle.listing.specs.Listing.{page_lines}
use Rattle.listing.specs.Examples.{Fifteen, Refused, Few, Examples}
use Rattle.listing.proofs.KrootExample.{kroot}

fifteen : Fifteen
unfolding
    page_lines line bytes digits spelt only number_behind refusal answered pages_of replayed and_then page_step is_counted skipped fed counted used_answer is_used later
    osnma fed_hkroot bit field small changed zeros is_silent answer_at used offered feed_page view_page copied begun stored counted_blocks all finished taken
    feed_block kroot_blocks bytes_from
fifteen = record { zeros = refl; but_one = refl }

refused : (input : List ℕ) → Refused input
unfolding page_lines line bytes digits spelt only number_behind refusal answered
refused input =
    record {
      none = refl;
      missing = refl;
      extra = refl;
      not_decimal = refl;
      empty = refl;
      satellite = refl;
      satellite_high = refl;
      week = refl;
      time = refl;
      long = refl;
    }

few : Few
unfolding page_lines line bytes digits spelt only number_behind refusal answered pages_of replayed
few = record { no_pages = refl; tail_alone = refl }

pub examples : Examples
examples = record { fifteen = fifteen; kroot = kroot; refused = refused; few = few }
