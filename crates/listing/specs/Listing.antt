-- The listing: all that `./replay` writes to standard output, from its arguments and its input. Document 01, "Page replay"; document 02, [2].
-- Assumes nothing.
use Rattle.std.specs.Prelude.{ℕ, ◌%◌, List, [], ◌∷◌, ◌++◌, length, get_or, replicate}
use Rattle.layouts.specs.Answer.{Answer, refused, nothing, gives}
use Rattle.page_replay.specs.Replay.{Time, Dsm, Totals, State, new, Run, page_step, replayed, pages_of, whole_pages}
use Rattle.texts.specs.Arguments.{arguments_answer}
use Rattle.texts.specs.Lines.{line, subframe_parts, dsm_parts, totals_parts, refused_parts}

-- "Satellite, week and first time are program arguments": their three numbers, or a refusal number; of any number of arguments
abbrev pub asked : List (List ℕ) → Answer
asked arguments = arguments_answer (length arguments) (get_or arguments 0 []) (get_or arguments 1 []) (get_or arguments 2 [])

-- "On a refusal only `refused N` is written."
abbrev pub refused_line : ℕ → List ℕ
refused_line n = line (refused_parts n)

-- "S 3 1200 60"
abbrev pub subframe_lines : ℕ → List Time → List ℕ
subframe_lines satellite [] = []
subframe_lines satellite (t ∷ ts) = line (subframe_parts satellite t.week t.time) ++ subframe_lines satellite ts

-- "`D id n` .., n its length in bytes"
abbrev pub dsm_lines : List Dsm → List ℕ
dsm_lines [] = []
dsm_lines (d ∷ ds) = line (dsm_parts d.id d.bytes) ++ dsm_lines ds

-- "A DSM writes `D id n` after its S line"
abbrev pub completed : ℕ → Run → List ℕ
completed satellite r = subframe_lines satellite r.subframes ++ dsm_lines r.dsms

-- the lines of the pages, one page after the other
unfoldable pub page_lines : State → List (List ℕ) → List ℕ
page_lines s [] = []
page_lines s (page ∷ pages) = completed s.satellite (page_step s page) ++ page_lines (page_step s page).state pages

-- Document 02, [2]: "pages 15 skipped 0 subframes 0 dsms 0 silent 1 tail 0"; document 01: "Pages include skipped ones; tail is leftover bytes, 0..29."
abbrev pub totals_line : Totals → ℕ → List ℕ
totals_line t tail = line (totals_parts t.pages t.skipped t.subframes t.dsms t.silent tail)

-- the whole pages of the input
abbrev pub pages_in : List ℕ → List (List ℕ)
pages_in input = pages_of (whole_pages input) input

-- a new replay, lent memory of zeros
abbrev pub first : List ℕ → State
first l = new (get_or l 0 0) (get_or l 1 0) (get_or l 2 0) (replicate 540 0) (replicate 2160 0) (replicate 208 0)

-- what is written as the input comes, and what is written at its end
abbrev pub tells : Answer → List ℕ → List ℕ
tells (refused n) input = refused_line n
tells nothing input = []
tells (gives l) input = page_lines (first l) (pages_in input)

abbrev pub ends : Answer → List ℕ → List ℕ
ends (refused n) input = []
ends nothing input = []
ends (gives l) input = totals_line (replayed (first l) (pages_in input)).state.totals (length input % 30)

-- the whole standard output, from the arguments and the input
abbrev pub listing : List (List ℕ) → List ℕ → List ℕ
listing arguments input = tells (asked arguments) input ++ ends (asked arguments) input
