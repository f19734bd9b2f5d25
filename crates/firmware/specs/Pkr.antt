-- DSM-PKR for C: each function tells what the reader of `layouts` answers.
-- Assumes nothing.
use Rattle.std.specs.Prelude.{ℕ, List}
use Rattle.layouts.specs.Bits.{the, read}
use Rattle.layouts.specs.Sizes.{size, pkr_blocks, read_size}
use Rattle.layouts.specs.DsmPkr.{pkr_layout, new_key_sizes, count, node_part, new_key_part, leaf_part, padding_part}
use Rattle.firmware.specs.Outcome.{Told, Placed}

abbrev pub PkrNumberOfBlocks : List ℕ → ℕ → ℕ → ℕ → Type 0
PkrNumberOfBlocks m before r after = Told before r after (read_size (the "NB_DP" pkr_layout) (size pkr_blocks) m)

abbrev pub PkrMessageId : List ℕ → ℕ → ℕ → ℕ → Type 0
PkrMessageId m before r after = Told before r after (read (the "MID" pkr_layout) m)

abbrev pub PkrNewPublicKeyType : List ℕ → ℕ → ℕ → ℕ → Type 0
PkrNewPublicKeyType m before r after = Told before r after (read (the "NPKT" pkr_layout) m)

abbrev pub PkrNewPublicKeyId : List ℕ → ℕ → ℕ → ℕ → Type 0
PkrNewPublicKeyId m before r after = Told before r after (read (the "NPKID" pkr_layout) m)

abbrev pub PkrKeySize : List ℕ → ℕ → ℕ → ℕ → Type 0
PkrKeySize m before r after = Told before r after (read_size (the "NPKT" pkr_layout) (size (new_key_sizes (count m))) m)

abbrev pub PkrNewPublicKey : List ℕ → ℕ → ℕ → ℕ → ℕ → ℕ → Type 0
PkrNewPublicKey m a b r c d = Placed a b r c d (new_key_part m)

abbrev pub PkrPadding : List ℕ → ℕ → ℕ → ℕ → ℕ → ℕ → Type 0
PkrPadding m a b r c d = Placed a b r c d (padding_part m)

abbrev pub PkrMerkleTreeLeaf : List ℕ → ℕ → ℕ → ℕ → ℕ → ℕ → Type 0
PkrMerkleTreeLeaf m a b r c d = Placed a b r c d (leaf_part m)

abbrev pub PkrIntermediateTreeNode : List ℕ → ℕ → ℕ → ℕ → ℕ → ℕ → ℕ → Type 0
PkrIntermediateTreeNode m n a b r c d = Placed a b r c d (node_part m n)
