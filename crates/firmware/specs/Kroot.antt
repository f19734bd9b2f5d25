-- DSM-KROOT for C: each function tells what the reader of `layouts` answers.
-- Assumes nothing.
use Rattle.std.specs.Prelude.{ℕ, List}
use Rattle.layouts.specs.Bits.{the, read}
use Rattle.layouts.specs.Sizes.{size, kroot_blocks, key_sizes, tag_sizes, read_size}
use Rattle.layouts.specs.DsmKroot.{kroot_layout, kroot_part, signature_part, padding_part, ecdsa_function}
use Rattle.firmware.specs.Outcome.{Told, Placed}

abbrev pub KrootNumberOfBlocks : List ℕ → ℕ → ℕ → ℕ → Type 0
KrootNumberOfBlocks m before r after = Told before r after (read_size (the "NB_DK" kroot_layout) (size kroot_blocks) m)

abbrev pub KrootPublicKeyId : List ℕ → ℕ → ℕ → ℕ → Type 0
KrootPublicKeyId m before r after = Told before r after (read (the "PKID" kroot_layout) m)

abbrev pub KrootChainId : List ℕ → ℕ → ℕ → ℕ → Type 0
KrootChainId m before r after = Told before r after (read (the "CIDKR" kroot_layout) m)

abbrev pub KrootHashFunction : List ℕ → ℕ → ℕ → ℕ → Type 0
KrootHashFunction m before r after = Told before r after (read (the "HF" kroot_layout) m)

abbrev pub KrootMacFunction : List ℕ → ℕ → ℕ → ℕ → Type 0
KrootMacFunction m before r after = Told before r after (read (the "MF" kroot_layout) m)

abbrev pub KrootKeySize : List ℕ → ℕ → ℕ → ℕ → Type 0
KrootKeySize m before r after = Told before r after (read_size (the "KS" kroot_layout) (size key_sizes) m)

abbrev pub KrootTagSize : List ℕ → ℕ → ℕ → ℕ → Type 0
KrootTagSize m before r after = Told before r after (read_size (the "TS" kroot_layout) (size tag_sizes) m)

abbrev pub KrootMacLookupTable : List ℕ → ℕ → ℕ → ℕ → Type 0
KrootMacLookupTable m before r after = Told before r after (read (the "MACLT" kroot_layout) m)

abbrev pub KrootWn : List ℕ → ℕ → ℕ → ℕ → Type 0
KrootWn m before r after = Told before r after (read (the "WN_K" kroot_layout) m)

abbrev pub KrootTowh : List ℕ → ℕ → ℕ → ℕ → Type 0
KrootTowh m before r after = Told before r after (read (the "TOWH_K" kroot_layout) m)

abbrev pub KrootAlpha : List ℕ → ℕ → ℕ → ℕ → Type 0
KrootAlpha m before r after = Told before r after (read (the "alpha" kroot_layout) m)

abbrev pub KrootKroot : List ℕ → ℕ → ℕ → ℕ → ℕ → ℕ → Type 0
KrootKroot m a b r c d = Placed a b r c d (kroot_part m)

abbrev pub KrootDigitalSignature : List ℕ → ℕ → ℕ → ℕ → ℕ → ℕ → Type 0
KrootDigitalSignature m a b r c d = Placed a b r c d (signature_part m)

abbrev pub KrootPadding : List ℕ → ℕ → ℕ → ℕ → ℕ → ℕ → Type 0
KrootPadding m a b r c d = Placed a b r c d (padding_part m)

abbrev pub KrootEcdsaFunction : List ℕ → ℕ → ℕ → ℕ → Type 0
KrootEcdsaFunction m before r after = Told before r after (ecdsa_function m)
