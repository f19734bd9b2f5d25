-- The listing of some arguments and inputs, computed: document 01, "Page replay", and document 02, [2].
-- Assumes nothing.
use Rattle.std.specs.Prelude.{ℕ, zero, suc, ◌+◌, ◌*◌, ◌/◌, ◌%◌, List, [], ◌∷◌, ◌++◌, ◌≡◌, replicate}
use Prim.Native.String.{String}
use Rattle.texts.specs.Lines.{bytes}
use Rattle.listing.specs.Listing.{listing}

-- texts, each followed by a newline
abbrev pub lines : List String → List ℕ
lines [] = []
lines (s ∷ ss) = bytes s ++ (10 ∷ lines ss)

abbrev pub texts : List String → List (List ℕ)
texts [] = []
texts (s ∷ ss) = bytes s ∷ texts ss

abbrev pub pieces : List (List ℕ) → List ℕ
pieces [] = []
pieces (p ∷ ps) = p ++ pieces ps

-- a page that counts, with these bytes at the start and at the end of its OSNMA field: "A page counts if bits 0, 1, 120, 121 are 0, 0, 1, 0; OSNMA is bits
-- 138..177." The first is its HKROOT byte, the other the last of its MACK bytes.
abbrev pub page_of : ℕ → ℕ → List ℕ
page_of b c = replicate 15 0 ++ (128 ∷ 0 ∷ b / 4 ∷ (b % 4) * 64 ∷ 0 ∷ 0 ∷ c / 4 ∷ (c % 4) * 64 ∷ replicate 7 0)

abbrev pub page : ℕ → List ℕ
page b = page_of b 0

abbrev pub pages : List ℕ → List ℕ
pages [] = []
pages (b ∷ bs) = page b ++ pages bs

-- "Fifteen good pages with a zero field, satellite 3, week 1200, time 60". Document 02, [2]: "document 01's listing becomes no S line and .."; and the same
-- pages where the last of the 75 bytes is 1.
pub record Fifteen : Type 0 where
  pub zeros :
      listing (texts ("3" ∷ "1200" ∷ "60" ∷ [])) (pages (replicate 15 0))
      ≡ lines ("pages 15 skipped 0 subframes 0 dsms 0 silent 1 tail 0" ∷ [])
  pub but_one :
      listing (texts ("3" ∷ "1200" ∷ "60" ∷ [])) (pages (replicate 14 0) ++ page_of 0 1)
      ≡ lines ("S 3 1200 60" ∷ "pages 15 skipped 0 subframes 1 dsms 0 silent 0 tail 0" ∷ [])

-- the HKROOT message of block k of a KROOT with ID 2: NMA header, DSM header, the block; block 0 begins with the count, 1, for 7 blocks
abbrev pub hkroot : ℕ → ℕ → List ℕ
hkroot k b = 82 ∷ (32 + k) ∷ b ∷ replicate 12 k

abbrev pub kroot : ℕ → ℕ → List ℕ
kroot zero k = []
kroot (suc n) k = pages (hkroot k 16) ++ kroot n (k + 1)

-- seven subframes, the seventh of which completes the DSM, over the end of a week; then a page that is skipped, and 4 bytes
abbrev pub kroot_arguments : List (List ℕ)
kroot_arguments = texts ("1" ∷ "4095" ∷ "604650" ∷ [])

abbrev pub kroot_input : List ℕ
kroot_input = kroot 7 0 ++ (replicate 30 255 ++ replicate 4 0)

abbrev pub kroot_lines : List String
kroot_lines =
    "S 1 4095 604650" ∷
    "S 1 4095 604680" ∷
    "S 1 4095 604710" ∷
    "S 1 4095 604740" ∷
    "S 1 4095 604770" ∷
    "S 1 0 0" ∷
    "S 1 0 30" ∷
    "D 2 91" ∷
    []

abbrev pub kroot_totals : String
kroot_totals = "pages 106 skipped 1 subframes 7 dsms 1 silent 0 tail 4"

abbrev pub Kroot : Type 0
Kroot = listing kroot_arguments kroot_input ≡ lines kroot_lines ++ lines (kroot_totals ∷ [])

-- "a missing, extra or non-decimal one .. is 7, tested before all else here; digits of any length that exceed a range are 2, 3 or 4": whatever the input
pub record Refused (input : List ℕ) : Type 0 where
  pub none : listing [] input ≡ lines ("refused 7" ∷ [])
  pub missing : listing (texts ("0" ∷ "4096" ∷ [])) input ≡ lines ("refused 7" ∷ [])
  pub extra : listing (texts ("3" ∷ "1200" ∷ "60" ∷ "60" ∷ [])) input ≡ lines ("refused 7" ∷ [])
  pub not_decimal : listing (texts ("0" ∷ "4096" ∷ "6o" ∷ [])) input ≡ lines ("refused 7" ∷ [])
  pub empty : listing (texts ("" ∷ "1200" ∷ "60" ∷ [])) input ≡ lines ("refused 7" ∷ [])
  pub satellite : listing (texts ("0" ∷ "4096" ∷ "604800" ∷ [])) input ≡ lines ("refused 2" ∷ [])
  pub satellite_high : listing (texts ("37" ∷ "4096" ∷ "604800" ∷ [])) input ≡ lines ("refused 2" ∷ [])
  pub week : listing (texts ("36" ∷ "4096" ∷ "604800" ∷ [])) input ≡ lines ("refused 3" ∷ [])
  pub time : listing (texts ("36" ∷ "4095" ∷ "604800" ∷ [])) input ≡ lines ("refused 4" ∷ [])
  pub long : listing (texts ("36" ∷ "4095" ∷ "18446744073709551676" ∷ [])) input ≡ lines ("refused 4" ∷ [])

-- no pages, and zeros before the digits; a tail alone
pub record Few : Type 0 where
  pub no_pages : listing (texts ("036" ∷ "04095" ∷ "0604799" ∷ [])) [] ≡ lines ("pages 0 skipped 0 subframes 0 dsms 0 silent 0 tail 0" ∷ [])
  pub tail_alone : listing (texts ("1" ∷ "0" ∷ "0" ∷ [])) (replicate 29 0) ≡ lines ("pages 0 skipped 0 subframes 0 dsms 0 silent 0 tail 29" ∷ [])

pub record Examples : Type 0 where
  pub fifteen : Fifteen
  pub kroot : Kroot
  pub refused : (input : List ℕ) → Refused input
  pub few : Few
