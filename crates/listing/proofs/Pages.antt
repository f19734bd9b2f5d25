-- Laws of pages: files that are put together, and their lines.
-- Assumes nothing.
use Prim.Native.Nat.{ℕ, ◌+◌, ◌*◌, ◌%◌, ◌≤◌}
use native.Mathlib.Nat.{add-zero}
use native.Mathlib.Omega.{arith}
use mathlib.Core.Path.{◌≡◌, refl, sym, ap, ◌∙◌}
use mathlib.Core.List.{List, [], ◌∷◌, ◌++◌, append-nil, append_assoc}
use mathlib.Core.Bool.{Bool, true, false, cond}
use lib.ListN.{length, take, drop, length-append, take-append-drop}
use lib.Seq.{length-take-le, drop-append-add}
use Rattle.layouts.specs.InavPage.{is_counted}
use Rattle.subframes.specs.Subframe.{State as Subframes, feed as feed_page}
use Rattle.dsms.specs.Dsm.{State as Dsms}
use Rattle.page_replay.specs.Replay.{Time, Dsm, State, Run, subframes_in, dsms_in, passed_on, skipped, counted, fed_page, fed, page_step, replayed}
use Rattle.page_replay.specs.Replay.{pages_of, whole_pages}
use Rattle.page_replay.specs.Pieces.{followed_by}
use Rattle.page_replay.proofs.PageFold.{at_most_one}
use Rattle.page_replay.proofs.PagePieces.{pages_join}
use Rattle.page_replay.proofs.PagesFed.{one_more, step_place}
use Rattle.listing.specs.Listing.{subframe_lines, dsm_lines, completed, page_lines, pages_in}

-- Bytes that are put together. What is left behind the whole pages:
abbrev pub tail_of : List ℕ → List ℕ
tail_of bytes = drop (30 * whole_pages bytes) bytes

abbrev front : List ℕ → List ℕ
front bytes = take (30 * whole_pages bytes) bytes

front_long : (bytes : List ℕ) → length (front bytes) ≡ 30 * whole_pages bytes
front_long bytes = length-take-le (30 * whole_pages bytes) bytes (omega arith)

pages_front : (bytes : List ℕ) → pages_of (whole_pages bytes) (front bytes) ≡ pages_in bytes
unfolding pages_of
pages_front bytes =
    let w : ℕ = whole_pages bytes in
    sym (append-nil (pages_of w (front bytes)))
    ∙ sym (pages_join w 0 (front bytes) (tail_of bytes) (front_long bytes))
    ∙ ap (pages_of (w + 0)) (take-append-drop (30 * w) bytes)
    ∙ ap (λ (k : ℕ). pages_of k bytes) (add-zero w)

-- whole pages at the start of some bytes
pub pages_taken : (k : ℕ) (bytes : List ℕ) → 30 * k ≤ length bytes → pages_of k bytes ≡ pages_in (take (30 * k) bytes)
unfolding pages_of
pages_taken k bytes h =
    let long : length (take (30 * k) bytes) ≡ 30 * k = length-take-le (30 * k) bytes h in
    let many : whole_pages (take (30 * k) bytes) ≡ k = omega arith in
    ap (λ (j : ℕ). pages_of j bytes) (sym (add-zero k))
    ∙ ap (pages_of (k + 0)) (sym (take-append-drop (30 * k) bytes))
    ∙ pages_join k 0 (take (30 * k) bytes) (drop (30 * k) bytes) long
    ∙ append-nil (pages_of k (take (30 * k) bytes))
    ∙ ap (λ (j : ℕ). pages_of j (take (30 * k) bytes)) (sym many)

module _ (a b : List ℕ) where
  whole_join : front a ++ (tail_of a ++ b) ≡ a ++ b
  whole_join = sym (append_assoc (front a) (tail_of a) b) ∙ ap (λ (l : List ℕ). l ++ b) (take-append-drop (30 * whole_pages a) a)

  many_join : length (a ++ b) ≡ 30 * whole_pages a + length (tail_of a ++ b)
  many_join = ap length (sym whole_join) ∙ length-append (front a) (tail_of a ++ b) ∙ ap (λ (k : ℕ). k + length (tail_of a ++ b)) (front_long a)

  pages_count : whole_pages (a ++ b) ≡ whole_pages a + whole_pages (tail_of a ++ b)
  pages_count = let m = many_join in omega arith

  pub tail_count : length (a ++ b) % 30 ≡ length (tail_of a ++ b) % 30
  tail_count = let m = many_join in omega arith

  pub pages_in_join : pages_in (a ++ b) ≡ pages_in a ++ pages_in (tail_of a ++ b)
  pages_in_join =
      let x : List ℕ = tail_of a ++ b in
      ap (λ (l : List ℕ). pages_of (whole_pages (a ++ b)) l) (sym whole_join)
      ∙ ap (λ (k : ℕ). pages_of k (front a ++ x)) pages_count
      ∙ pages_join (whole_pages a) (whole_pages x) (front a) x (front_long a)
      ∙ ap (λ (l : List (List ℕ)). l ++ pages_in x) (pages_front a)

  pub tail_join : tail_of (a ++ b) ≡ tail_of (tail_of a ++ b)
  tail_join =
      let x : List ℕ = tail_of a ++ b in
      let k : 30 * whole_pages (a ++ b) ≡ length (front a) + 30 * whole_pages x = omega (arith, pages_count, front_long a) in
      ap (λ (l : List ℕ). drop (30 * whole_pages (a ++ b)) l) (sym whole_join)
      ∙ ap (λ (j : ℕ). drop j (front a ++ x)) k ∙ drop-append-add (front a) x (30 * whole_pages x)

-- A DSM comes with a subframe: where none is complete none is passed on.
none_passed : (l : List Time) (s : Subframes) (n : ℕ) (d : Dsms) → l ≡ [] → dsms_in (passed_on l s n d).answer ≡ []
none_passed [] s n d h = refl
none_passed (t ∷ l) s n d h = let z : ◌≡◌ {A = ℕ} 0 1 = cc in absurd (omega arith)

-- what one page does not complete
abbrev Alone : Run → Type 0
Alone r = r.subframes ≡ [] → r.dsms ≡ []

step_alone : (s : State) (page : List ℕ) → Alone (page_step s page)
unfolding page_step fed counted skipped
step_alone s page = go (is_counted page)
  where
    go : (b : Bool) → Alone (cond b (fed s (fed_page s page)) (skipped s))
    go true h = none_passed (subframes_in (feed_page s.subframes (fed_page s page)).answer) _ _ _ h
    go false h = refl

-- One page, and the others.
nil_first : (a b : List Time) → a ++ b ≡ [] → (a ≡ []) × (b ≡ [])
nil_first [] b e = (refl, e)
nil_first (x ∷ a) b e = let z : ◌≡◌ {A = ℕ} 0 1 = cc in absurd (omega arith)

replayed_alone : (pages : List (List ℕ)) (s : State) → Alone (replayed s pages)
unfolding replayed
replayed_alone [] s h = refl
replayed_alone (page ∷ pages) s h =
    let f = one_more s page pages in
    let both = nil_first (page_step s page).subframes (replayed (page_step s page).state pages).subframes (sym (ap (λ (r : Run). r.subframes) f) ∙ h) in
    ap (λ (r : Run). r.dsms) f ∙ rw (step_alone s page both.0, replayed_alone pages (page_step s page).state both.1)

-- Where one subframe is completed at most, the S line and then the D line are all lines.
lines_join : (n : ℕ) (s t : List Time) (d e : List Dsm) → length (s ++ t) ≤ 1 → (s ≡ [] → d ≡ []) → (t ≡ [] → e ≡ [])
    → (subframe_lines n s ++ dsm_lines d) ++ (subframe_lines n t ++ dsm_lines e) ≡ subframe_lines n (s ++ t) ++ dsm_lines (d ++ e)
lines_join n [] t d e h p q = rw (p refl)
lines_join n (x ∷ []) [] d e h p q = rw (q refl, append-nil d, append-nil)
lines_join n (x ∷ []) (y ∷ t) d e h p q = absurd (omega arith)
lines_join n (x ∷ y ∷ s) t d e h p q = absurd (omega arith)

lines_once : (pages : List (List ℕ)) (s : State) → length (replayed s pages).subframes ≤ 1 → page_lines s pages ≡ completed s.satellite (replayed s pages)
unfolding page_lines replayed
lines_once [] s h = refl
lines_once (page ∷ pages) s h =
    let x : Run = page_step s page in
    let y : Run = replayed x.state pages in
    let f : replayed s (page ∷ pages) ≡ followed_by x y = one_more s page pages in
    let many : length (x.subframes ++ y.subframes) ≤ 1 = rw (ap (λ (r : Run). length r.subframes) f) at h in
    let few : length y.subframes ≤ 1 = omega (arith, length-append x.subframes y.subframes) in
    ap (λ (l : List ℕ). completed s.satellite x ++ l) (lines_once pages x.state few)
    ∙ ap (λ (n : ℕ). completed s.satellite x ++ completed n y) (step_place s page).0
    ∙ lines_join s.satellite x.subframes y.subframes x.dsms y.dsms many (step_alone s page) (replayed_alone pages x.state)
    ∙ ap (completed s.satellite) (sym f)

-- so it is with fifteen pages
pub lines_of : (s : State) (pages : List (List ℕ)) → length pages ≤ 15 → page_lines s pages ≡ completed s.satellite (replayed s pages)
lines_of s pages h = lines_once pages s (at_most_one s pages h).subframe_one

-- The lines of pages that are split anywhere.
pub lines_append : (ps qs : List (List ℕ)) (s : State) → page_lines s (ps ++ qs) ≡ page_lines s ps ++ page_lines (replayed s ps).state qs
unfolding page_lines replayed
lines_append [] qs s = refl
lines_append (p ∷ ps) qs s =
    let x : State = (page_step s p).state in
    let f : (replayed x ps).state ≡ (replayed s (p ∷ ps)).state = ap (λ (r : Run). r.state) (sym (one_more s p ps)) in
    ap (λ (l : List ℕ). completed s.satellite (page_step s p) ++ l) (lines_append ps qs x ∙ ap (λ (t : State). page_lines x ps ++ page_lines t qs) f)
    ∙ sym (append_assoc (completed s.satellite (page_step s p)) (page_lines x ps) (page_lines (replayed s (p ∷ ps)).state qs))
