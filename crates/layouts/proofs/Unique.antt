-- Two answers that meet a promise agree: `meaning` tells the code's cases apart, and each promise is one equation.
-- Assumes nothing.
use mathlib.Core.Path.{◌≡◌, refl, ap, sym, ◌∙◌}
use mathlib.Core.List.{List, [], ◌∷◌}
use mathlib.Core.Bool.{cond}
use Prim.Native.Nat.{ℕ}
use lib.ListN.{get_or}
use lib.Dec.{eqb}
use Rattle.std.specs.Prelude.{Result, Ok, Err, ⊤}
use Rattle.layouts.specs.Agree.{Agree}
use Rattle.layouts.specs.Agreed.{Agreed}
use Rattle.layouts.specs.Answer.{Answer, refused, nothing, gives}
use Rattle.layouts.specs.Meaning.{meaning_number, meaning_part, meaning_done, meaning_status, meaning_chain_status, meaning_type, meaning_page_kind}
use Rattle.layouts.specs.Meaning.{part_numbers, hash_numbers, mac_numbers, ecdsa_numbers, key_type_numbers, adkd_numbers, prnd_numbers, slot_numbers}
use Rattle.layouts.specs.declared.refusal.Refusal.{Refusal}
use Rattle.layouts.specs.declared.part.Part.{Part}
use Rattle.layouts.specs.declared.nma_header.NmaStatus.{NmaStatus}
use Rattle.layouts.specs.declared.nma_header.NmaStatus.TheVariants.{Reserved as StatusReserved, Test, Operational, DontUse}
use Rattle.layouts.specs.declared.nma_header.ChainAndPubkeyStatus.{ChainAndPubkeyStatus}
use Rattle.layouts.specs.declared.nma_header.ChainAndPubkeyStatus.TheVariants.{Reserved, Nominal, EndOfChain, ChainRevoked}
use Rattle.layouts.specs.declared.nma_header.ChainAndPubkeyStatus.TheVariants.{NewPublicKey, PublicKeyRevoked, NewMerkleTree, AlertMessage}
use Rattle.layouts.specs.declared.dsm_header.DsmType.{DsmType}
use Rattle.layouts.specs.declared.dsm_header.DsmType.TheVariants.{Kroot, Pkr}
use Rattle.layouts.specs.declared.dsm_kroot.HashFunction.{HashFunction}
use Rattle.layouts.specs.declared.dsm_kroot.HashFunction.TheVariants.{Sha256, Sha3_256, Reserved as HashReserved}
use Rattle.layouts.specs.declared.dsm_kroot.MacFunction.{MacFunction}
use Rattle.layouts.specs.declared.dsm_kroot.MacFunction.TheVariants.{HmacSha256, CmacAes, Reserved as MacReserved}
use Rattle.layouts.specs.declared.dsm_kroot.EcdsaFunction.{EcdsaFunction}
use Rattle.layouts.specs.declared.dsm_kroot.EcdsaFunction.TheVariants.{P256Sha256, P521Sha512}
use Rattle.layouts.specs.declared.dsm_pkr.NewPublicKeyType.{NewPublicKeyType}
use Rattle.layouts.specs.declared.dsm_pkr.NewPublicKeyType.TheVariants.{EcdsaKey, OsnmaAlertMessage, Reserved as TypeReserved}
use Rattle.layouts.specs.declared.dsm_pkr.TreeNode.{TreeNode}
use Rattle.layouts.specs.declared.tag_info.Adkd.{Adkd}
use Rattle.layouts.specs.declared.tag_info.Adkd.TheVariants.{InavCed, InavTiming, SlowMac, Reserved as AdkdReserved}
use Rattle.layouts.specs.declared.tag_info.Prnd.{Prnd}
use Rattle.layouts.specs.declared.tag_info.Prnd.TheVariants.{GalileoSvid, GalileoConstellation, Reserved as PrndReserved}
use Rattle.layouts.specs.declared.maclt.AuthObject.TheVariants.{SelfAuth, CrossAuth}
use Rattle.layouts.specs.declared.maclt.AuthObject.{AuthObject}
use Rattle.layouts.specs.declared.maclt.MacLTSlot.{MacLTSlot}
use Rattle.layouts.specs.declared.maclt.MacLTSlot.TheVariants.{Fixed, Flex}
use Rattle.layouts.specs.declared.maclt.FlxIndices.{FlxIndices}
use Rattle.layouts.specs.declared.inav_page.PageKind.{PageKind}
use Rattle.layouts.specs.declared.inav_page.PageKind.TheVariants.{Counts, Skipped}
use Rattle.layouts.proofs.Back.{by_meaning, plain, checked, results, results_with_bytes, refusal_at, undo_refusal, one, by_count, beside}

-- a number of the paper, by its place in a list of the code's cases
abbrev named : {A : Type 0} → List A → A → Answer → A
named cases other (refused n) = other
named cases other nothing = other
named cases other (gives []) = other
named cases other (gives (v ∷ vs)) = get_or cases v other

pub numbers : (a : Answer) → Agree (λ (r : Result ℕ Refusal). meaning_number r ≡ a)
numbers = results (λ v. v ∷ []) (one (λ v. v) 0) (λ v. refl)

abbrev part_of : List ℕ → Part
part_of = by_count (λ f n. record { first = f; many = n }) (λ f. record { first = f; many = 0 }) (record { first = 0; many = 0 })

pub parts : (a : Answer) → Agree (λ (r : Result Part Refusal). meaning_part r ≡ a)
parts = results part_numbers part_of (λ p. refl)

pub dones : (a : Answer) → Agree (λ (r : Result ⊤ Refusal). meaning_done r ≡ a)
dones = results (λ _. []) (λ _. tt) (λ _. refl)

abbrev back_status : Answer → NmaStatus
back_status = named (StatusReserved ∷ Test ∷ Operational ∷ DontUse ∷ []) StatusReserved

undo_status : (r : NmaStatus) → back_status (meaning_status r) ≡ r
undo_status StatusReserved = refl
undo_status Test = refl
undo_status Operational = refl
undo_status DontUse = refl

abbrev back_chain_status : Answer → ChainAndPubkeyStatus
back_chain_status = named (Reserved ∷ Nominal ∷ EndOfChain ∷ ChainRevoked ∷ NewPublicKey ∷ PublicKeyRevoked ∷ NewMerkleTree ∷ AlertMessage ∷ []) Reserved

undo_chain_status : (r : ChainAndPubkeyStatus) → back_chain_status (meaning_chain_status r) ≡ r
undo_chain_status Reserved = refl
undo_chain_status Nominal = refl
undo_chain_status EndOfChain = refl
undo_chain_status ChainRevoked = refl
undo_chain_status NewPublicKey = refl
undo_chain_status PublicKeyRevoked = refl
undo_chain_status NewMerkleTree = refl
undo_chain_status AlertMessage = refl

abbrev back_type : Answer → DsmType
back_type = named (Kroot ∷ Pkr ∷ []) Kroot

undo_type : (r : DsmType) → back_type (meaning_type r) ≡ r
undo_type Kroot = refl
undo_type Pkr = refl

abbrev hash_in : List ℕ → HashFunction
hash_in = one (λ v. cond (eqb v 0) Sha256 Sha3_256) HashReserved

undo_hash : (f : HashFunction) → hash_in (hash_numbers f) ≡ f
undo_hash Sha256 = refl
undo_hash Sha3_256 = refl
undo_hash HashReserved = refl

abbrev mac_in : List ℕ → MacFunction
mac_in = one (λ v. cond (eqb v 0) HmacSha256 CmacAes) MacReserved

undo_mac : (f : MacFunction) → mac_in (mac_numbers f) ≡ f
undo_mac HmacSha256 = refl
undo_mac CmacAes = refl
undo_mac MacReserved = refl

abbrev ecdsa_in : List ℕ → EcdsaFunction
ecdsa_in = one (λ v. cond (eqb v 256) P256Sha256 P521Sha512) P521Sha512

undo_ecdsa : (f : EcdsaFunction) → ecdsa_in (ecdsa_numbers f) ≡ f
undo_ecdsa P256Sha256 = refl
undo_ecdsa P521Sha512 = refl

abbrev key_type_of : ℕ → NewPublicKeyType
key_type_of v = cond (eqb v 1) (EcdsaKey P256Sha256) (cond (eqb v 3) (EcdsaKey P521Sha512) OsnmaAlertMessage)

abbrev key_type_in : List ℕ → NewPublicKeyType
key_type_in = one key_type_of TypeReserved

undo_key_type : (t : NewPublicKeyType) → key_type_in (key_type_numbers t) ≡ t
undo_key_type (EcdsaKey P256Sha256) = refl
undo_key_type (EcdsaKey P521Sha512) = refl
undo_key_type OsnmaAlertMessage = refl
undo_key_type TypeReserved = refl

abbrev adkd_of : ℕ → Adkd
adkd_of v = cond (eqb v 0) InavCed (cond (eqb v 4) InavTiming SlowMac)

abbrev adkd_in : List ℕ → Adkd
adkd_in = one adkd_of AdkdReserved

undo_adkd : (a : Adkd) → adkd_in (adkd_numbers a) ≡ a
undo_adkd InavCed = refl
undo_adkd InavTiming = refl
undo_adkd SlowMac = refl
undo_adkd AdkdReserved = refl

abbrev prnd_in : List ℕ → Prnd
prnd_in = by_count (λ v w. GalileoSvid w) (λ v. GalileoConstellation) PrndReserved

undo_prnd : (p : Prnd) → prnd_in (prnd_numbers p) ≡ p
undo_prnd (GalileoSvid n) = refl
undo_prnd GalileoConstellation = refl
undo_prnd PrndReserved = refl

abbrev object_of : ℕ → AuthObject
object_of v = cond (eqb v 0) SelfAuth CrossAuth

abbrev slot_of : List ℕ → MacLTSlot
slot_of = by_count (λ a o. Fixed (adkd_of a) (object_of o)) (λ o. Fixed AdkdReserved (object_of o)) Flex

undo_slot : (s : MacLTSlot) → slot_of (slot_numbers s) ≡ s
undo_slot (Fixed InavCed SelfAuth) = refl
undo_slot (Fixed InavCed CrossAuth) = refl
undo_slot (Fixed InavTiming SelfAuth) = refl
undo_slot (Fixed InavTiming CrossAuth) = refl
undo_slot (Fixed SlowMac SelfAuth) = refl
undo_slot (Fixed SlowMac CrossAuth) = refl
undo_slot (Fixed AdkdReserved SelfAuth) = refl
undo_slot (Fixed AdkdReserved CrossAuth) = refl
undo_slot Flex = refl

abbrev back_page_kind : Answer → Result PageKind Refusal
back_page_kind (refused n) = Err (refusal_at n)
back_page_kind nothing = Ok Skipped
back_page_kind (gives l) = Ok Counts

undo_page_kind : (r : Result PageKind Refusal) → back_page_kind (meaning_page_kind r) ≡ r
undo_page_kind (Ok Counts) = refl
undo_page_kind (Ok Skipped) = refl
undo_page_kind (Err e) = ap Err (undo_refusal e)

abbrev node : List ℕ → List ℕ → TreeNode
node l b = record { part = part_of l; bytes = b }

abbrev indices : List ℕ → List ℕ → FlxIndices
indices l b = record { count = one (λ n. n) 0 l; indices = b }

-- every public function
pub agreed : Agreed
agreed =
    record {
      wide = λ x r s p q. p.0 ∙ sym q.0;
      refusal_number_lem = λ e. plain _;
      smaller = λ a b. plain _;
      svn_refuses = λ satellite. checked _;
      gst_refuses = λ satellite week time. checked _;
      page_kind = λ page. by_meaning meaning_page_kind back_page_kind undo_page_kind _;
      page_osnma = λ page. results_with_bytes 5 (λ _. []) (λ b. b) (λ l b. b) (λ b. refl) _;
      read_bits = λ m start width. numbers _;
      nma_status = λ header. by_meaning meaning_status back_status undo_status _;
      chain_id = λ header. plain _;
      chain_and_pubkey_status = λ header. by_meaning meaning_chain_status back_chain_status undo_chain_status _;
      dsm_id = λ header. plain _;
      dsm_block_id = λ header. plain _;
      dsm_type_lem = λ header. by_meaning meaning_type back_type undo_type _;
      kroot_number_of_blocks = λ m. numbers _;
      kroot_public_key_id = λ m. numbers _;
      kroot_chain_id = λ m. numbers _;
      kroot_hash_function_number = λ m. numbers _;
      kroot_hash_function = λ m. results hash_numbers hash_in undo_hash _;
      kroot_mac_function_number = λ m. numbers _;
      kroot_mac_function = λ m. results mac_numbers mac_in undo_mac _;
      kroot_key_size = λ m. numbers _;
      kroot_tag_size = λ m. numbers _;
      kroot_mac_lookup_table = λ m. numbers _;
      kroot_wn = λ m. numbers _;
      kroot_towh = λ m. numbers _;
      kroot_alpha = λ m. numbers _;
      kroot_ecdsa_function = λ m. results ecdsa_numbers ecdsa_in undo_ecdsa _;
      kroot_shown = λ m. parts _;
      kroot_bytes = λ m. plain _;
      kroot_digital_signature_shown = λ m. parts _;
      kroot_digital_signature = λ m. plain _;
      kroot_padding_shown = λ m. parts _;
      kroot_padding = λ m. plain _;
      pkr_number_of_blocks = λ m. numbers _;
      pkr_message_id = λ m. numbers _;
      pkr_new_public_key_type_number = λ m. numbers _;
      pkr_new_public_key_type = λ m. results key_type_numbers key_type_in undo_key_type _;
      pkr_new_public_key_id = λ m. numbers _;
      pkr_key_length = λ type blocks. plain _;
      pkr_key_size = λ m. numbers _;
      pkr_new_public_key_shown = λ m. parts _;
      pkr_new_public_key = λ m. plain _;
      pkr_merkle_tree_leaf_shown = λ m. parts _;
      pkr_merkle_tree_leaf = λ m. plain _;
      pkr_padding_shown = λ m. parts _;
      pkr_padding = λ m. plain _;
      pkr_intermediate_tree_node = λ m n. results_with_bytes 32 (λ (t : TreeNode). part_numbers t.part) (λ (t : TreeNode). t.bytes) node (λ t. refl) _;
      num_tags = λ K T. numbers _;
      tag0 = λ m K T. numbers _;
      macseq = λ m K T. numbers _;
      cop = λ m K T. numbers _;
      tag = λ m K T n. numbers _;
      tag_info = λ m K T n. numbers _;
      prnd_number = λ m K T n. numbers _;
      prnd = λ m K T n. results prnd_numbers prnd_in undo_prnd _;
      adkd_number = λ m K T n. numbers _;
      adkd = λ m K T n. results adkd_numbers adkd_in undo_adkd _;
      tag_cop = λ m K T n. numbers _;
      key = λ m K T out. beside meaning_done dones _;
      get_maclt_entry = λ i message tag. results slot_numbers slot_of undo_slot _;
      get_flx_indices = λ i message. results_with_bytes 4 (λ (f : FlxIndices). f.count ∷ []) (λ (f : FlxIndices). f.indices) indices (λ f. refl) _;
      nt = λ i. numbers _;
    }
