-- The listing of a recording with a DSM and a tail, computed block by block.
-- Assumes nothing.
use Prim.Native.Nat.{ℕ, zero, suc, ◌+◌, ◌-◌, ◌*◌, ◌/◌, ◌%◌, ◌^◌, ◌<◌, ◌≤◌}
use mathlib.Core.Path.{◌≡◌, refl, sym, ap, ◌∙◌}
use mathlib.Core.List.{List, [], ◌∷◌, ◌++◌}
use mathlib.Core.Bool.{Bool, true, false, cond}
use lib.ListN.{replicate}
use Rattle.layouts.specs.Answer.{Answer, gives, refusal, answered, copied}
use Rattle.layouts.specs.Bits.{bit, field, bytes_from}
use Rattle.layouts.specs.InavPage.{is_counted, osnma}
use Rattle.layouts.specs.Lists.{all}
use Rattle.layouts.specs.Sizes.{kroot_blocks}
use Rattle.subframes.specs.Subframe.{used_answer, is_used, small, changed, zeros, is_silent, answer_at, used, offered, feed as feed_page, view as view_page}
use Rattle.dsms.specs.Dsm.{begun, stored, counted as counted_blocks, finished, taken, feed as feed_block}
use Rattle.page_replay.specs.Replay.{Totals, State, Run, skipped, counted, fed, page_step, and_then, replayed, pages_of, fed_hkroot, later}
use Rattle.page_replay.proofs.PagePieces.{split_anywhere}
use Rattle.texts.specs.Decimal.{only, number_behind, spelt, digits}
use Rattle.texts.specs.Lines.{bytes, line, subframe_parts, dsm_parts}
use Rattle.texts.proofs.Decimals.{digits_one, digits_ten}
use native.Mathlib.Omega.{arith}
use native.Mathlib.Nat.{pow-suc}
use lib.Dec.{ltb}
use borrow.Author.Tests.{lt-ltb, le-ltb, ltb-true, ltb-false}
use Rattle.listing.specs.Listing.{asked, page_lines, pages_in, totals_line, first, tells, ends}
use Rattle.listing.specs.Examples.{lines, page, hkroot, kroot_arguments, kroot_input, kroot_lines, kroot_totals, Kroot}
use Rattle.listing.proofs.Pages.{lines_append}

-- the pages of block k
abbrev each_of : List ℕ → List (List ℕ)
each_of [] = []
each_of (b ∷ bs) = page b ∷ each_of bs

abbrev pages : ℕ → List (List ℕ)
pages k = each_of (hkroot k 16)

abbrev last : List (List ℕ)
last = replicate 30 255 ∷ []

numbers : List ℕ
numbers = 1 ∷ 4095 ∷ 604650 ∷ []

asked_is : asked kroot_arguments ≡ gives numbers
unfolding numbers bytes refusal answered only number_behind
asked_is = refl

-- what the first k blocks leave: the time of the next page, the subframe of the last, and what came of it
abbrev memory : ℕ → ℕ → List ℕ
memory k zero = []
memory k (suc n) = (16 ∷ replicate 12 k) ++ memory (k + 1) n

abbrev after : ℕ → ℕ → ℕ → ℕ → ℕ → Bool → State
after k week time of_week subframe done =
    record {
      satellite = 1;
      next = record { week = week; time = time };
      subframes =
          record {
            week = of_week;
            subframe = subframe;
            counts = 15 ∷ replicate 35 0;
            hkroot = hkroot (k - 1) 16 ++ replicate 525 0;
            mack = replicate 2160 0;
          };
      dsms =
          record {
            id = 2;
            came = true;
            held = replicate k true ++ replicate (16 - k) false;
            done = done;
            memory = memory 0 k ++ replicate (208 - 13 * k) 0;
          };
      totals = record { pages = 15 * k; skipped = 0; used = 15 * k; unused = 0; subframes = k; dsms = cond done 1 0; silent = 0 };
    }

abbrev after1 : State
after1 = after 1 4095 604680 4095 20155 false

abbrev after2 : State
after2 = after 2 4095 604710 4095 20156 false

abbrev after3 : State
after3 = after 3 4095 604740 4095 20157 false

abbrev after4 : State
after4 = after 4 4095 604770 4095 20158 false

abbrev after5 : State
after5 = after 5 0 0 4095 20159 false

abbrev after6 : State
after6 = after 6 0 30 0 0 false

abbrev after7 : State
after7 = after 7 0 60 0 1 true

abbrev total : Totals
total = record { pages = 106; skipped = 1; used = 105; unused = 0; subframes = 7; dsms = 1; silent = 0 }

abbrev ended : State
ended = record after7 { next = record { week = 0; time = 62 }; totals = total }

-- a way through pages: the lines that they tell, and the state that they leave
record Leg (s : State) (ps : List (List ℕ)) (l : List ℕ) (t : State) : Type 0 where
  told : page_lines s ps ≡ l
  left : (replayed s ps).state ≡ t

onward : {s t u : State} {ps qs : List (List ℕ)} {l m : List ℕ} → Leg s ps l t → Leg t qs m u → Leg s (ps ++ qs) (l ++ m) u
onward {s} {ps = ps} {qs = qs} {l = l} a b =
    record {
      told =
          lines_append ps qs s
          ∙ ap (λ (x : List ℕ). x ++ page_lines (replayed s ps).state qs) a.told
          ∙ ap (λ (x : State). l ++ page_lines x qs) a.left
          ∙ ap (λ (x : List ℕ). l ++ x) b.told;
      left =
          ap (λ (r : Run). r.state) (split_anywhere s ps qs)
          ∙ ap (λ (x : State). (replayed x qs).state) a.left
          ∙ b.left;
    }

-- what a block tells, before its numbers are spelt
abbrev told0 : List ℕ
told0 = ((line (subframe_parts 1 4095 604650) ++ []) ++ []) ++ []

abbrev told1 : List ℕ
told1 = ((line (subframe_parts 1 4095 604680) ++ []) ++ []) ++ []

abbrev told2 : List ℕ
told2 = ((line (subframe_parts 1 4095 604710) ++ []) ++ []) ++ []

abbrev told3 : List ℕ
told3 = ((line (subframe_parts 1 4095 604740) ++ []) ++ []) ++ []

abbrev told4 : List ℕ
told4 = ((line (subframe_parts 1 4095 604770) ++ []) ++ []) ++ []

abbrev told5 : List ℕ
told5 = ((line (subframe_parts 1 0 0) ++ []) ++ []) ++ []

abbrev told6 : List ℕ
told6 = ((line (subframe_parts 1 0 30) ++ []) ++ (line (dsm_parts 2 91) ++ [])) ++ []

leg0 : Leg (first numbers) (pages 0) told0 after1
unfolding
    numbers page_lines refusal pages_of replayed and_then page_step is_counted skipped fed counted used_answer is_used later osnma
    fed_hkroot bit field small changed zeros is_silent answer_at used offered
    feed_page view_page copied begun stored counted_blocks all finished taken feed_block kroot_blocks bytes_from
leg0 = record { told = refl; left = refl }

leg1 : Leg after1 (pages 1) told1 after2
unfolding
    numbers page_lines refusal pages_of replayed and_then page_step is_counted skipped fed counted used_answer is_used later osnma
    fed_hkroot bit field small changed zeros is_silent answer_at used offered
    feed_page view_page copied begun stored counted_blocks all finished taken feed_block kroot_blocks bytes_from
leg1 = record { told = refl; left = refl }

leg2 : Leg after2 (pages 2) told2 after3
unfolding
    numbers page_lines refusal pages_of replayed and_then page_step is_counted skipped fed counted used_answer is_used later osnma
    fed_hkroot bit field small changed zeros is_silent answer_at used offered
    feed_page view_page copied begun stored counted_blocks all finished taken feed_block kroot_blocks bytes_from
leg2 = record { told = refl; left = refl }

leg3 : Leg after3 (pages 3) told3 after4
unfolding
    numbers page_lines refusal pages_of replayed and_then page_step is_counted skipped fed counted used_answer is_used later osnma
    fed_hkroot bit field small changed zeros is_silent answer_at used offered
    feed_page view_page copied begun stored counted_blocks all finished taken feed_block kroot_blocks bytes_from
leg3 = record { told = refl; left = refl }

leg4 : Leg after4 (pages 4) told4 after5
unfolding
    numbers page_lines refusal pages_of replayed and_then page_step is_counted skipped fed counted used_answer is_used later osnma
    fed_hkroot bit field small changed zeros is_silent answer_at used offered
    feed_page view_page copied begun stored counted_blocks all finished taken feed_block kroot_blocks bytes_from
leg4 = record { told = refl; left = refl }

leg5 : Leg after5 (pages 5) told5 after6
unfolding
    numbers page_lines refusal pages_of replayed and_then page_step is_counted skipped fed counted used_answer is_used later osnma
    fed_hkroot bit field small changed zeros is_silent answer_at used offered
    feed_page view_page copied begun stored counted_blocks all finished taken feed_block kroot_blocks bytes_from
leg5 = record { told = refl; left = refl }

leg6 : Leg after6 (pages 6) told6 after7
unfolding
    numbers page_lines refusal pages_of replayed and_then page_step is_counted skipped fed counted used_answer is_used later osnma
    fed_hkroot bit field small changed zeros is_silent answer_at used offered
    feed_page view_page copied begun stored counted_blocks all finished taken feed_block kroot_blocks bytes_from
leg6 = record { told = refl; left = refl }

leg7 : Leg after7 last [] ended
unfolding
    numbers page_lines refusal pages_of replayed and_then page_step is_counted skipped fed counted used_answer is_used later osnma
    fed_hkroot bit field small changed zeros is_silent answer_at used offered
    feed_page view_page copied begun stored counted_blocks all finished taken feed_block kroot_blocks bytes_from
leg7 = record { told = refl; left = refl }

abbrev input_pages : List (List ℕ)
input_pages = pages 0 ++ (pages 1 ++ (pages 2 ++ (pages 3 ++ (pages 4 ++ (pages 5 ++ (pages 6 ++ last))))))

input_is : pages_in kroot_input ≡ input_pages
unfolding pages_of
input_is = refl

abbrev said : List ℕ
said = told0 ++ (told1 ++ (told2 ++ (told3 ++ (told4 ++ (told5 ++ (told6 ++ []))))))

way : Leg (first numbers) input_pages said ended
way = onward leg0 (onward leg1 (onward leg2 (onward leg3 (onward leg4 (onward leg5 (onward leg6 leg7))))))

-- a number of at most d + 1 digits needs no more of them
short_one : (d n : ℕ) → n < 10 → spelt (suc d) n ≡ (48 + n) ∷ []
unfolding spelt
short_one d n h = let e : n % 10 ≡ n = omega arith in rw (lt-ltb n 10 h, e)

short_ten : (d n : ℕ) → 10 ≤ n → spelt (suc d) n ≡ spelt d (n / 10) ++ ((48 + n % 10) ∷ [])
unfolding spelt
short_ten d n h = rw (le-ltb n 10 h)

short : (d n : ℕ) → n < 10 ^ suc d → digits n ≡ spelt (suc d) n
short zero n h = let l : n < 10 = rw pow-suc at h in digits_one n l ∙ sym (short_one zero n l)
short (suc d) n h = go (ltb n 10) refl (λ a. short d (n / 10) a)
  where
    go : (b : Bool) → ltb n 10 ≡ b → (n / 10 < 10 ^ suc d → digits (n / 10) ≡ spelt (suc d) (n / 10)) → digits n ≡ spelt (suc (suc d)) n
    go true e ih = let l = ltb-true n 10 e in digits_one n l ∙ sym (short_one (suc d) n l)
    go false e ih =
        let m = ltb-false n 10 e in
        let p : 10 ^ suc (suc d) ≡ 10 ^ suc d * 10 = pow-suc 10 (suc d) in
        digits_ten n m ∙ ap (λ (l : List ℕ). l ++ ((48 + n % 10) ∷ [])) (ih (omega arith)) ∙ sym (short_ten (suc d) n m)

joined : said ≡ lines kroot_lines
unfolding line bytes spelt
joined =
    rw (
      short 5 604650 (omega arith),
      short 5 604680 (omega arith),
      short 5 604710 (omega arith),
      short 5 604740 (omega arith),
      short 5 604770 (omega arith),
      short 3 4095 (omega arith),
      short 0 1 (omega arith),
      short 0 0 (omega arith),
      short 0 2 (omega arith),
      short 1 30 (omega arith),
      short 1 91 (omega arith),
    )

totals_said : totals_line total 4 ≡ lines (kroot_totals ∷ [])
unfolding bytes line digits spelt
totals_said = refl

all_lines : tells (gives numbers) kroot_input ≡ lines kroot_lines
all_lines = ap (page_lines (first numbers)) input_is ∙ way.told ∙ joined

all_totals : ends (gives numbers) kroot_input ≡ lines (kroot_totals ∷ [])
all_totals =
    ap (λ (ps : List (List ℕ)). totals_line (replayed (first numbers) ps).state.totals 4) input_is
    ∙ ap (λ (s : State). totals_line s.totals 4) way.left
    ∙ totals_said

pub kroot : Kroot
kroot =
    ap (λ (a : Answer). tells a kroot_input ++ ends a kroot_input) asked_is
    ∙ ap (λ (l : List ℕ). l ++ ends (gives numbers) kroot_input) all_lines ∙ ap (λ (l : List ℕ). lines kroot_lines ++ l) all_totals
