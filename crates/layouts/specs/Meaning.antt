-- The paper's number and values for each case of the code's enums. The definitions name the code's types only here and in the promises.
-- A Reserved hash or MAC function, or key type, stands for several numbers, so it has none of its own.
-- Assumes nothing.
use Rattle.std.specs.Prelude.{ℕ, List, [], ◌∷◌, ◌++◌, Result, Ok, Err, ⊤}
use Rattle.layouts.specs.Answer.{Answer, refused, nothing, gives}
use Rattle.layouts.specs.Refusals.{refusal_number, answer_of}
use Rattle.layouts.specs.declared.refusal.Refusal.{Refusal}
use Rattle.layouts.specs.declared.part.Part.{Part}
use Rattle.layouts.specs.declared.nma_header.NmaStatus.{NmaStatus}
use Rattle.layouts.specs.declared.nma_header.NmaStatus.TheVariants.{Reserved as StatusReserved, Test, Operational, DontUse}
use Rattle.layouts.specs.declared.nma_header.ChainAndPubkeyStatus.{ChainAndPubkeyStatus}
use Rattle.layouts.specs.declared.nma_header.ChainAndPubkeyStatus.TheVariants.{
  Reserved,
  Nominal,
  EndOfChain,
  ChainRevoked,
  NewPublicKey,
  PublicKeyRevoked,
  NewMerkleTree,
  AlertMessage,
}
use Rattle.layouts.specs.declared.dsm_header.DsmType.{DsmType}
use Rattle.layouts.specs.declared.dsm_header.DsmType.TheVariants.{Kroot, Pkr}
use Rattle.layouts.specs.declared.dsm_kroot.HashFunction.{HashFunction}
use Rattle.layouts.specs.declared.dsm_kroot.HashFunction.TheVariants.{Sha256, Sha3_256, Reserved as HashReserved}
use Rattle.layouts.specs.declared.dsm_kroot.MacFunction.{MacFunction}
use Rattle.layouts.specs.declared.dsm_kroot.MacFunction.TheVariants.{HmacSha256, CmacAes, Reserved as MacReserved}
use Rattle.layouts.specs.declared.dsm_kroot.EcdsaFunction.{EcdsaFunction}
use Rattle.layouts.specs.declared.dsm_kroot.EcdsaFunction.TheVariants.{P256Sha256, P521Sha512}
use Rattle.layouts.specs.declared.dsm_pkr.NewPublicKeyType.{NewPublicKeyType}
use Rattle.layouts.specs.declared.dsm_pkr.NewPublicKeyType.TheVariants.{EcdsaKey, OsnmaAlertMessage, Reserved as TypeReserved}
use Rattle.layouts.specs.declared.tag_info.Adkd.{Adkd}
use Rattle.layouts.specs.declared.tag_info.Adkd.TheVariants.{InavCed, InavTiming, SlowMac, Reserved as AdkdReserved}
use Rattle.layouts.specs.declared.tag_info.Prnd.{Prnd}
use Rattle.layouts.specs.declared.tag_info.Prnd.TheVariants.{GalileoSvid, GalileoConstellation, Reserved as PrndReserved}
use Rattle.layouts.specs.declared.inav_page.PageKind.{PageKind}
use Rattle.layouts.specs.declared.inav_page.PageKind.TheVariants.{Counts, Skipped}
use Rattle.layouts.specs.declared.maclt.AuthObject.{AuthObject}
use Rattle.layouts.specs.declared.maclt.AuthObject.TheVariants.{SelfAuth, CrossAuth}
use Rattle.layouts.specs.declared.maclt.MacLTSlot.{MacLTSlot}
use Rattle.layouts.specs.declared.maclt.MacLTSlot.TheVariants.{Fixed, Flex}

abbrev pub meaning_number : Result ℕ Refusal → Answer
meaning_number r = answer_of (λ v. v ∷ []) r

abbrev pub part_numbers : Part → List ℕ
part_numbers p = p.first ∷ p.many ∷ []

abbrev pub meaning_part : Result Part Refusal → Answer
meaning_part r = answer_of part_numbers r

-- an answer without a number
abbrev pub meaning_done : Result ⊤ Refusal → Answer
meaning_done r = answer_of (λ _. []) r

-- "status 2 (0 reserved, 1 test, 2 operational, 3 don't use)"
abbrev pub meaning_status : NmaStatus → Answer
meaning_status StatusReserved = gives (0 ∷ [])
meaning_status Test = gives (1 ∷ [])
meaning_status Operational = gives (2 ∷ [])
meaning_status DontUse = gives (3 ∷ [])

-- "0 to 7 in the order of `ChainAndPubkeyStatus`"
abbrev pub meaning_chain_status : ChainAndPubkeyStatus → Answer
meaning_chain_status Reserved = gives (0 ∷ [])
meaning_chain_status Nominal = gives (1 ∷ [])
meaning_chain_status EndOfChain = gives (2 ∷ [])
meaning_chain_status ChainRevoked = gives (3 ∷ [])
meaning_chain_status NewPublicKey = gives (4 ∷ [])
meaning_chain_status PublicKeyRevoked = gives (5 ∷ [])
meaning_chain_status NewMerkleTree = gives (6 ∷ [])
meaning_chain_status AlertMessage = gives (7 ∷ [])

-- the DSM's type, in the order of `DsmType`
abbrev pub meaning_type : DsmType → Answer
meaning_type Kroot = gives (0 ∷ [])
meaning_type Pkr = gives (1 ∷ [])

-- "0 SHA-256, 2 SHA3-256, else Reserved"
abbrev pub hash_numbers : HashFunction → List ℕ
hash_numbers Sha256 = 0 ∷ []
hash_numbers Sha3_256 = 2 ∷ []
hash_numbers HashReserved = []

abbrev pub meaning_hash : Result HashFunction Refusal → Answer
meaning_hash r = answer_of hash_numbers r

-- "0 HMAC-SHA-256, 1 CMAC-AES, else Reserved"
abbrev pub mac_numbers : MacFunction → List ℕ
mac_numbers HmacSha256 = 0 ∷ []
mac_numbers CmacAes = 1 ∷ []
mac_numbers MacReserved = []

abbrev pub meaning_mac : Result MacFunction Refusal → Answer
meaning_mac r = answer_of mac_numbers r

-- P-256 and P-521, by the number in the name
abbrev pub ecdsa_numbers : EcdsaFunction → List ℕ
ecdsa_numbers P256Sha256 = 256 ∷ []
ecdsa_numbers P521Sha512 = 521 ∷ []

abbrev pub meaning_ecdsa : Result EcdsaFunction Refusal → Answer
meaning_ecdsa r = answer_of ecdsa_numbers r

-- types 1, 3 and 4, "while the type itself reads as Reserved" for others
abbrev pub key_type_numbers : NewPublicKeyType → List ℕ
key_type_numbers (EcdsaKey P256Sha256) = 1 ∷ []
key_type_numbers (EcdsaKey P521Sha512) = 3 ∷ []
key_type_numbers OsnmaAlertMessage = 4 ∷ []
key_type_numbers TypeReserved = []

abbrev pub meaning_key_type : Result NewPublicKeyType Refusal → Answer
meaning_key_type r = answer_of key_type_numbers r

-- "ADKD 4 (0, 4, 12, else Reserved)"
abbrev pub adkd_numbers : Adkd → List ℕ
adkd_numbers InavCed = 0 ∷ []
adkd_numbers InavTiming = 4 ∷ []
adkd_numbers SlowMac = 12 ∷ []
adkd_numbers AdkdReserved = []

abbrev pub meaning_adkd : Result Adkd Refusal → Answer
meaning_adkd r = answer_of adkd_numbers r

-- "PRND 8 (1..36 satellite, 255 constellation, else Reserved)": 1 stands before a satellite's number, so that none can pass for the constellation
abbrev pub prnd_numbers : Prnd → List ℕ
prnd_numbers (GalileoSvid n) = 1 ∷ n ∷ []
prnd_numbers GalileoConstellation = 255 ∷ []
prnd_numbers PrndReserved = []

abbrev pub meaning_prnd : Result Prnd Refusal → Answer
meaning_prnd r = answer_of prnd_numbers r

-- whether a page counts; "Others are skipped"
abbrev pub meaning_page_kind : Result PageKind Refusal → Answer
meaning_page_kind (Ok Counts) = gives []
meaning_page_kind (Ok Skipped) = nothing
meaning_page_kind (Err e) = refused (refusal_number e)

-- "E = cross, S = self": 0 for S, 1 for E
abbrev pub object_number : AuthObject → ℕ
object_number SelfAuth = 0
object_number CrossAuth = 1

-- ADKD and object of a slot; none for FLX
abbrev pub slot_numbers : MacLTSlot → List ℕ
slot_numbers (Fixed a o) = adkd_numbers a ++ (object_number o ∷ [])
slot_numbers Flex = []

abbrev pub meaning_slot : Result MacLTSlot Refusal → Answer
meaning_slot r = answer_of slot_numbers r
