-- The examples of the writers, computed.
-- Assumes nothing.
use mathlib.Core.Path.{refl}
use Rattle.layouts.specs.Answer.{refusal, answered}
use Rattle.layouts.specs.Bits.{field, bit}
use Rattle.layouts.specs.Lists.{all}
use Rattle.layouts.specs.Packed.{packed_on, bytes_of, too_wide}
use Rattle.layouts.specs.Sizes.{kroot_blocks, pkr_blocks, key_sizes, tag_sizes, key_types}
use Rattle.layouts.specs.DsmKroot.{kroot_part, padding_to_block, signature_length, signature_part, ecdsa_function, padding_part}
use Rattle.layouts.specs.DsmPkr as pkr
use Rattle.layouts.specs.DsmPkr.{node_part, new_key_part, leaf_part}
use Rattle.dsms.specs.Dsm.{begun, stored, counted, finished, taken, feed}
use Rattle.transmitter.specs.Write.{written, kroot_message, write_kroot, pkr_message, write_pkr, cut}
use Rattle.transmitter.specs.WriteBack.{all_given, is_good_kroot, is_good_pkr}
use Rattle.transmitter.specs.WriteExamples.{WrittenExamples, KrootExamples, PkrExamples, FedExamples}

pub written_examples : WrittenExamples
unfolding write_kroot write_pkr written refusal kroot_blocks pkr_blocks key_sizes tag_sizes key_types too_wide kroot_message pkr_message bytes_of packed_on
written_examples =
    record {
      kroot = refl;
      kroot_bytes = refl;
      kroot_behind = refl;
      pkr = refl;
      pkr_second = refl;
      padding_13 = refl;
      padding_80 = refl;
      alert_33 = refl;
    }

pub kroot_examples : KrootExamples
unfolding is_good_kroot all_given refusal answered field bit kroot_blocks key_sizes tag_sizes kroot_part padding_to_block signature_length
    signature_part padding_part ecdsa_function
kroot_examples =
    record {
      good = refl;
      reserved_hash = refl;
      other_length = (refl, refl);
      reserved_bit = (refl, refl);
      reserved_tag = refl;
    }

pub pkr_examples : PkrExamples
unfolding is_good_pkr all_given refusal answered field bit pkr_blocks key_types node_part new_key_part leaf_part pkr.padding_part
pkr_examples = record { good = refl; longer = (refl, refl) }

pub fed_examples : FedExamples
unfolding write_kroot written refusal kroot_blocks key_sizes tag_sizes too_wide kroot_message bytes_of packed_on cut
    answered counted field bit begun stored finished taken feed all
fed_examples = record { any_order = refl; within_a_run = refl; mixed = refl }
