-- Document 01, "How far each promise reaches": "show that any two answers satisfying it agree": a line for each public function.
-- Assumes nothing.
use Rattle.std.specs.Prelude.{ℕ, List}
use Rattle.layouts.specs.Agree.{Agree, AgreeWith}
use Rattle.layouts.specs.BitReader.{ReadBits}
use Rattle.layouts.specs.Refusals.{RefusalNumber}
use Rattle.layouts.specs.declared.refusal.Refusal.{Refusal}
use Rattle.layouts.specs.Numbers.{Wide, Smaller}
use Rattle.layouts.specs.Gst.{SvnRefuses, GstRefuses}
use Rattle.layouts.specs.InavPage.{PageKindRead, OsnmaRead}
use Rattle.layouts.specs.NmaHeader.{NmaStatusRead, ChainIdRead, ChainAndPubkeyStatusRead}
use Rattle.layouts.specs.DsmHeader.{DsmIdRead, DsmBlockIdRead, DsmTypeRead}
use Rattle.layouts.specs.DsmKroot as kroot
use Rattle.layouts.specs.DsmPkr as pkr
use Rattle.layouts.specs.Mack as mack
use Rattle.layouts.specs.MacltPromises.{MacltEntryRead, FlxIndicesRead, NtRead}

pub record Agreed : Type 0 where
  pub wide : (x : ℕ) → Agree (Wide x)
  pub refusal_number_lem : (e : Refusal) → Agree (RefusalNumber e)
  pub smaller : (a b : ℕ) → Agree (Smaller a b)
  pub svn_refuses : (satellite : ℕ) → Agree (SvnRefuses satellite)
  pub gst_refuses : (satellite week time : ℕ) → Agree (GstRefuses satellite week time)
  pub page_kind : (page : List ℕ) → Agree (PageKindRead page)
  pub page_osnma : (page : List ℕ) → Agree (OsnmaRead page)
  pub read_bits : (m : List ℕ) (start width : ℕ) → Agree (ReadBits m start width)
  pub nma_status : (header : ℕ) → Agree (NmaStatusRead header)
  pub chain_id : (header : ℕ) → Agree (ChainIdRead header)
  pub chain_and_pubkey_status : (header : ℕ) → Agree (ChainAndPubkeyStatusRead header)
  pub dsm_id : (header : ℕ) → Agree (DsmIdRead header)
  pub dsm_block_id : (header : ℕ) → Agree (DsmBlockIdRead header)
  pub dsm_type_lem : (header : ℕ) → Agree (DsmTypeRead header)
  pub kroot_number_of_blocks : (m : List ℕ) → Agree (kroot.NumberOfBlocks m)
  pub kroot_public_key_id : (m : List ℕ) → Agree (kroot.PublicKeyId m)
  pub kroot_chain_id : (m : List ℕ) → Agree (kroot.KrootChainId m)
  pub kroot_hash_function_number : (m : List ℕ) → Agree (kroot.HashFunctionNumber m)
  pub kroot_hash_function : (m : List ℕ) → Agree (kroot.HashFunctionRead m)
  pub kroot_mac_function_number : (m : List ℕ) → Agree (kroot.MacFunctionNumber m)
  pub kroot_mac_function : (m : List ℕ) → Agree (kroot.MacFunctionRead m)
  pub kroot_key_size : (m : List ℕ) → Agree (kroot.KeySize m)
  pub kroot_tag_size : (m : List ℕ) → Agree (kroot.TagSize m)
  pub kroot_mac_lookup_table : (m : List ℕ) → Agree (kroot.MacLookupTable m)
  pub kroot_wn : (m : List ℕ) → Agree (kroot.KrootWn m)
  pub kroot_towh : (m : List ℕ) → Agree (kroot.KrootTowh m)
  pub kroot_alpha : (m : List ℕ) → Agree (kroot.Alpha m)
  pub kroot_ecdsa_function : (m : List ℕ) → Agree (kroot.EcdsaFunctionRead m)
  pub kroot_shown : (m : List ℕ) → Agree (kroot.KrootShown m)
  pub kroot_bytes : (m : List ℕ) → Agree (kroot.Kroot m)
  pub kroot_digital_signature_shown : (m : List ℕ) → Agree (kroot.DigitalSignatureShown m)
  pub kroot_digital_signature : (m : List ℕ) → Agree (kroot.DigitalSignature m)
  pub kroot_padding_shown : (m : List ℕ) → Agree (kroot.PaddingShown m)
  pub kroot_padding : (m : List ℕ) → Agree (kroot.Padding m)
  pub pkr_number_of_blocks : (m : List ℕ) → Agree (pkr.NumberOfBlocks m)
  pub pkr_message_id : (m : List ℕ) → Agree (pkr.MessageId m)
  pub pkr_new_public_key_type_number : (m : List ℕ) → Agree (pkr.NewPublicKeyTypeNumber m)
  pub pkr_new_public_key_type : (m : List ℕ) → Agree (pkr.NewPublicKeyTypeRead m)
  pub pkr_new_public_key_id : (m : List ℕ) → Agree (pkr.NewPublicKeyId m)
  pub pkr_key_length : (type blocks : ℕ) → Agree (pkr.KeyLength type blocks)
  pub pkr_key_size : (m : List ℕ) → Agree (pkr.KeySize m)
  pub pkr_new_public_key_shown : (m : List ℕ) → Agree (pkr.NewPublicKeyShown m)
  pub pkr_new_public_key : (m : List ℕ) → Agree (pkr.NewPublicKey m)
  pub pkr_merkle_tree_leaf_shown : (m : List ℕ) → Agree (pkr.MerkleTreeLeafShown m)
  pub pkr_merkle_tree_leaf : (m : List ℕ) → Agree (pkr.MerkleTreeLeaf m)
  pub pkr_padding_shown : (m : List ℕ) → Agree (pkr.PaddingShown m)
  pub pkr_padding : (m : List ℕ) → Agree (pkr.Padding m)
  pub pkr_intermediate_tree_node : (m : List ℕ) (n : ℕ) → Agree (pkr.IntermediateTreeNode m n)
  pub num_tags : (K T : ℕ) → Agree (mack.NumTags K T)
  pub tag0 : (m : List ℕ) (K T : ℕ) → Agree (mack.Tag0 m K T)
  pub macseq : (m : List ℕ) (K T : ℕ) → Agree (mack.Macseq m K T)
  pub cop : (m : List ℕ) (K T : ℕ) → Agree (mack.Cop m K T)
  pub tag : (m : List ℕ) (K T n : ℕ) → Agree (mack.Tag m K T n)
  pub tag_info : (m : List ℕ) (K T n : ℕ) → Agree (mack.TagInfo m K T n)
  pub prnd_number : (m : List ℕ) (K T n : ℕ) → Agree (mack.PrndNumber m K T n)
  pub prnd : (m : List ℕ) (K T n : ℕ) → Agree (mack.PrndRead m K T n)
  pub adkd_number : (m : List ℕ) (K T n : ℕ) → Agree (mack.AdkdNumber m K T n)
  pub adkd : (m : List ℕ) (K T n : ℕ) → Agree (mack.AdkdRead m K T n)
  pub tag_cop : (m : List ℕ) (K T n : ℕ) → Agree (mack.TagCop m K T n)
  pub key : (m : List ℕ) (K T : ℕ) (out : List ℕ) → AgreeWith (mack.Key m K T out)
  pub get_maclt_entry : (i message tag : ℕ) → Agree (MacltEntryRead i message tag)
  pub get_flx_indices : (i message : ℕ) → Agree (FlxIndicesRead i message)
  pub nt : (i : ℕ) → Agree (NtRead i)
