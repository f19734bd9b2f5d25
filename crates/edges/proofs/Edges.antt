-- P1 to P12 hold: computed.
-- Assumes nothing.
use mathlib.Core.Path.{refl}
use Rattle.layouts.specs.Answer.{answered, refusal}
use Rattle.layouts.specs.Bits.{field, bit, bytes_from}
use Rattle.layouts.specs.Sizes.{kroot_blocks, pkr_blocks, key_sizes, tag_sizes, ecdsa_functions}
use Rattle.layouts.specs.DsmKroot.{padding_to_block, signature_length, ecdsa_function}
use Rattle.layouts.specs.Mack.{listed, nt, key_copied}
use Rattle.layouts.specs.Maclt.{table, entry, flx_indices}
use Rattle.edges.specs.Edges.{EdgesHold, RefusedInBits, OnesLie}

pub edges_hold : EdgesHold
unfolding answered refusal field bit kroot_blocks pkr_blocks key_sizes tag_sizes ecdsa_functions padding_to_block signature_length ecdsa_function
    listed nt bytes_from key_copied table entry flx_indices
edges_hold = refl

pub refused_in_bits : RefusedInBits
unfolding answered refusal key_sizes listed
refused_in_bits = refl

pub ones_lie_P6 : OnesLie 336
unfolding bit
ones_lie_P6 = refl

pub ones_lie_P7 : OnesLie 324
unfolding bit
ones_lie_P7 = refl
