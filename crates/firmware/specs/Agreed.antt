-- Document 01, "How far each promise reaches": "any two answers satisfying it agree". A line for each exported function: what is returned and what every
-- lent number and byte then holds are the same.
-- Assumes nothing.
use Rattle.std.specs.Prelude.{ℕ, List, ◌≡◌}
use Rattle.layouts.specs.Agree.{AgreeWith}
use Rattle.firmware.specs.Bits as bits
use Rattle.firmware.specs.Header as header
use Rattle.firmware.specs.Kroot as kroot
use Rattle.firmware.specs.Pkr as pkr
use Rattle.firmware.specs.Mack as mack
use Rattle.firmware.specs.Maclt as maclt

-- the number returned beside one lent number, beside two, beside three, and beside a lent number and lent bytes
abbrev pub AgreeOne : (ℕ → ℕ → Type 0) → Type 0
AgreeOne Promise = (r s x y : ℕ) → Promise r x → Promise s y → (r ≡ s) × (x ≡ y)

abbrev pub AgreeTwo : (ℕ → ℕ → ℕ → Type 0) → Type 0
AgreeTwo Promise = (r s x y v w : ℕ) → Promise r x v → Promise s y w → (r ≡ s) × (x ≡ y) × (v ≡ w)

abbrev pub AgreeThree : (ℕ → ℕ → ℕ → ℕ → Type 0) → Type 0
AgreeThree Promise = (r s x y v w k l : ℕ) → Promise r x v k → Promise s y w l → (r ≡ s) × (x ≡ y) × (v ≡ w) × (k ≡ l)

abbrev pub AgreeCounted : (ℕ → ℕ → List ℕ → Type 0) → Type 0
AgreeCounted Promise = (r s x y : ℕ) (v w : List ℕ) → Promise r x v → Promise s y w → (r ≡ s) × (x ≡ y) × (v ≡ w)

-- before each function's name: what it is asked, and what the lent numbers and bytes held
pub record Agreed : Type 0 where
  pub osnma_read_bits : (m : List ℕ) (start width b : ℕ) → AgreeOne (bits.ReadBits m start width b)
  pub osnma_nma_status : (h b : ℕ) → AgreeOne (header.NmaStatus h b)
  pub osnma_chain_id : (h b : ℕ) → AgreeOne (header.ChainId h b)
  pub osnma_chain_and_pubkey_status : (h b : ℕ) → AgreeOne (header.ChainAndPubkeyStatus h b)
  pub osnma_dsm_id : (h b : ℕ) → AgreeOne (header.DsmId h b)
  pub osnma_dsm_block_id : (h b : ℕ) → AgreeOne (header.DsmBlockId h b)
  pub osnma_dsm_type : (h b : ℕ) → AgreeOne (header.DsmType h b)
  pub osnma_kroot_number_of_blocks : (m : List ℕ) (b : ℕ) → AgreeOne (kroot.KrootNumberOfBlocks m b)
  pub osnma_kroot_public_key_id : (m : List ℕ) (b : ℕ) → AgreeOne (kroot.KrootPublicKeyId m b)
  pub osnma_kroot_chain_id : (m : List ℕ) (b : ℕ) → AgreeOne (kroot.KrootChainId m b)
  pub osnma_kroot_hash_function : (m : List ℕ) (b : ℕ) → AgreeOne (kroot.KrootHashFunction m b)
  pub osnma_kroot_mac_function : (m : List ℕ) (b : ℕ) → AgreeOne (kroot.KrootMacFunction m b)
  pub osnma_kroot_key_size_bytes : (m : List ℕ) (b : ℕ) → AgreeOne (kroot.KrootKeySize m b)
  pub osnma_kroot_tag_size : (m : List ℕ) (b : ℕ) → AgreeOne (kroot.KrootTagSize m b)
  pub osnma_kroot_mac_lookup_table : (m : List ℕ) (b : ℕ) → AgreeOne (kroot.KrootMacLookupTable m b)
  pub osnma_kroot_wn : (m : List ℕ) (b : ℕ) → AgreeOne (kroot.KrootWn m b)
  pub osnma_kroot_towh : (m : List ℕ) (b : ℕ) → AgreeOne (kroot.KrootTowh m b)
  pub osnma_kroot_alpha : (m : List ℕ) (b : ℕ) → AgreeOne (kroot.KrootAlpha m b)
  pub osnma_kroot_ecdsa_function : (m : List ℕ) (b : ℕ) → AgreeOne (kroot.KrootEcdsaFunction m b)
  pub osnma_kroot_kroot : (m : List ℕ) (f n : ℕ) → AgreeTwo (kroot.KrootKroot m f n)
  pub osnma_kroot_digital_signature : (m : List ℕ) (f n : ℕ) → AgreeTwo (kroot.KrootDigitalSignature m f n)
  pub osnma_kroot_padding : (m : List ℕ) (f n : ℕ) → AgreeTwo (kroot.KrootPadding m f n)
  pub osnma_pkr_number_of_blocks : (m : List ℕ) (b : ℕ) → AgreeOne (pkr.PkrNumberOfBlocks m b)
  pub osnma_pkr_message_id : (m : List ℕ) (b : ℕ) → AgreeOne (pkr.PkrMessageId m b)
  pub osnma_pkr_new_public_key_type : (m : List ℕ) (b : ℕ) → AgreeOne (pkr.PkrNewPublicKeyType m b)
  pub osnma_pkr_new_public_key_id : (m : List ℕ) (b : ℕ) → AgreeOne (pkr.PkrNewPublicKeyId m b)
  pub osnma_pkr_key_size : (m : List ℕ) (b : ℕ) → AgreeOne (pkr.PkrKeySize m b)
  pub osnma_pkr_new_public_key : (m : List ℕ) (f n : ℕ) → AgreeTwo (pkr.PkrNewPublicKey m f n)
  pub osnma_pkr_padding : (m : List ℕ) (f n : ℕ) → AgreeTwo (pkr.PkrPadding m f n)
  pub osnma_pkr_merkle_tree_leaf : (m : List ℕ) (f n : ℕ) → AgreeTwo (pkr.PkrMerkleTreeLeaf m f n)
  pub osnma_pkr_intermediate_tree_node : (m : List ℕ) (node f n : ℕ) → AgreeTwo (pkr.PkrIntermediateTreeNode m node f n)
  pub osnma_mack_num_tags : (K T b : ℕ) → AgreeOne (mack.MackNumTags K T b)
  pub osnma_mack_tag0 : (m : List ℕ) (K T b : ℕ) → AgreeOne (mack.MackTag0 m K T b)
  pub osnma_mack_macseq : (m : List ℕ) (K T b : ℕ) → AgreeOne (mack.MackMacseq m K T b)
  pub osnma_mack_cop : (m : List ℕ) (K T b : ℕ) → AgreeOne (mack.MackCop m K T b)
  pub osnma_mack_tag : (m : List ℕ) (K T n b : ℕ) → AgreeOne (mack.MackTag m K T n b)
  pub osnma_mack_tag_info : (m : List ℕ) (K T n b : ℕ) → AgreeOne (mack.MackTagInfo m K T n b)
  pub osnma_mack_prnd : (m : List ℕ) (K T n b : ℕ) → AgreeOne (mack.MackPrnd m K T n b)
  pub osnma_mack_adkd : (m : List ℕ) (K T n b : ℕ) → AgreeOne (mack.MackAdkd m K T n b)
  pub osnma_mack_tag_cop : (m : List ℕ) (K T n b : ℕ) → AgreeOne (mack.MackTagCop m K T n b)
  pub osnma_mack_key : (m : List ℕ) (K T : ℕ) (out : List ℕ) → AgreeWith (mack.MackKey m K T out)
  pub osnma_get_maclt_entry : (i message tag a b c : ℕ) → AgreeThree (maclt.GetMacltEntry i message tag a b c)
  pub osnma_get_flx_indices : (i message b : ℕ) (held : List ℕ) → AgreeCounted (maclt.GetFlxIndices i message b held)
  pub osnma_maclt_nt : (i b : ℕ) → AgreeOne (maclt.MacltNt i b)
