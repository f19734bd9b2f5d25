-- The lines of a page replay: document 01, "Page replay", and of the last line document 02, [2].
-- Assumes nothing.
use Rattle.std.specs.Prelude.{ℕ, ◌≡◌, List, [], ◌∷◌, ◌++◌, length, Result}
use Prim.Native.Char.{code}
use Prim.Native.String.{String}
use Prim.Native.String.{[] as end, ◌∷◌ as ◌then◌}
use Rattle.layouts.specs.Lists.{put}
use Rattle.layouts.specs.declared.gst.Stamp.{Stamp}
use Rattle.layouts.specs.declared.refusal.Refusal.{Refusal}
use Rattle.texts.specs.Decimal.{digits}
use Rattle.texts.specs.Puts.{PutText}
use Rattle.texts.specs.declared.lines.Counted.{Counted}

infix 70 ◌of◌
-- A part of a line: words, and the number behind them.
pub record Part : Type 0 where
  pub words : String
  pub number : ℕ

abbrev pub ◌of◌ : String → ℕ → Part
w of n = record { words = w; number = n }

-- the bytes of words
unfoldable pub bytes : String → List ℕ
bytes end = []
bytes (c then s) = code c ∷ bytes s

-- a line: words and decimal numbers in their order, and a newline
unfoldable pub line : List Part → List ℕ
line [] = 10 ∷ []
line (p ∷ ps) = bytes p.words ++ digits p.number ++ line ps

-- How many bytes a line has, and the buffer with it at its start; what stands behind it stays.
pub record Written : Type 0 where
  pub many : ℕ
  pub out : List ℕ

abbrev pub written : List Part → List ℕ → Written
written ps out = record { many = length (line ps); out = put out 0 (length (line ps)) (line ps) }

abbrev pub wrote : ℕ → List ℕ → Written
wrote n out = record { many = n; out = out }

abbrev pub Writes : List Part → List ℕ → ℕ → List ℕ → Type 0
Writes ps before r after = wrote r after ≡ written ps before

-- the parts of each line: "S 3 1200 60"
abbrev pub subframe_parts : ℕ → ℕ → ℕ → List Part
subframe_parts satellite week time = "S " of satellite ∷ " " of week ∷ " " of time ∷ []

abbrev pub stamp_parts : Stamp → List Part
stamp_parts s = subframe_parts s.satellite s.week s.time

-- "A DSM writes `D id n` after its S line, n its length in bytes."
abbrev pub dsm_parts : ℕ → ℕ → List Part
dsm_parts id many = "D " of id ∷ " " of many ∷ []

-- Document 02, [2]: "silent subframes get their own count, `silent N`, after `dsms`", as in "pages 15 skipped 0 subframes 0 dsms 0 silent 1 tail 0".
abbrev pub totals_parts : ℕ → ℕ → ℕ → ℕ → ℕ → ℕ → List Part
totals_parts pages skipped subframes dsms silent tail =
    "pages " of pages ∷ " skipped " of skipped ∷ " subframes " of subframes ∷ " dsms " of dsms ∷ " silent " of silent ∷ " tail " of tail ∷ []

abbrev pub counted_parts : Counted → List Part
counted_parts t = totals_parts t.pages t.skipped t.subframes t.dsms t.silent t.tail

-- "On a refusal only `refused N` is written."
abbrev pub refused_parts : ℕ → List Part
refused_parts n = "refused " of n ∷ []

abbrev pub SubframeLine : List ℕ → Stamp → ℕ → List ℕ → Type 0
SubframeLine before stamp r after = Writes (stamp_parts stamp) before r after

abbrev pub DsmLine : List ℕ → ℕ → ℕ → ℕ → List ℕ → Type 0
DsmLine before id many r after = Writes (dsm_parts id many) before r after

abbrev pub TotalsLine : List ℕ → Counted → ℕ → List ℕ → Type 0
TotalsLine before counts r after = Writes (counted_parts counts) before r after

abbrev pub RefusedLine : List ℕ → ℕ → ℕ → List ℕ → Type 0
RefusedLine before n r after = Writes (refused_parts n) before r after

-- the same lines at any place of a buffer
abbrev pub SubframeLineAt : List ℕ → ℕ → Stamp → Result ℕ Refusal → List ℕ → Type 0
SubframeLineAt before at stamp r after = PutText (line (stamp_parts stamp)) before at r after

abbrev pub DsmLineAt : List ℕ → ℕ → ℕ → ℕ → Result ℕ Refusal → List ℕ → Type 0
DsmLineAt before at id many r after = PutText (line (dsm_parts id many)) before at r after

abbrev pub TotalsLineAt : List ℕ → ℕ → Counted → Result ℕ Refusal → List ℕ → Type 0
TotalsLineAt before at counts r after = PutText (line (counted_parts counts)) before at r after

abbrev pub RefusedLineAt : List ℕ → ℕ → ℕ → Result ℕ Refusal → List ℕ → Type 0
RefusedLineAt before at n r after = PutText (line (refused_parts n)) before at r after
