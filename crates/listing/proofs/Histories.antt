-- Whatever history of calls: what the code wrote is the listing of what it took.
-- Assumes nothing.
use Prim.Native.Nat.{ℕ, zero, suc, ◌+◌, ◌-◌, ◌*◌, ◌/◌, ◌%◌, ◌≤◌, min}
use native.Mathlib.Omega.{arith}
use mathlib.Core.Path.{◌≡◌, refl, sym, ap, ◌∙◌, subst, subst⁻¹}
use mathlib.Core.List.{List, [], ◌∷◌, ◌++◌, append-nil, append_assoc}
use mathlib.Core.Bool.{Bool, true, false, cond}
use lib.ListN.{length, get_or, take, drop, replicate, length-append, length-take, length-drop, length-replicate, take-append-drop}
use lib.Seq.{length-take-le, take_at, drop-length}
use lib.Dec.{T, eqb, leb, ltb}
use borrow.Author.Tests.{eqb-true, eqb-false, leb-true}
use Rattle.layouts.specs.Answer.{Answer, refused, nothing, gives, ◌when◌, refusal}
use Rattle.layouts.specs.Refusals.{refusal_number}
use Rattle.layouts.specs.declared.refusal.Refusal.{Refusal}
use Rattle.layouts.proofs.Back.{refusal_at, undo_refusal, known, number_back}
use Rattle.layouts.specs.Gst.{svn_gst_checks}
use Rattle.layouts.specs.Lists.{put as put_at}
use Rattle.layouts.proofs.Answers.{answer_of}
use Rattle.page_replay.specs.Replay.{State, no_totals, Run, replayed, pages_of, whole_pages, most, are_few, replay_checks}
use Rattle.page_replay.proofs.PageSteps.{start_admitted}
use Rattle.page_replay.proofs.PageRefusals.{pages_many, all_few, legal, call_admitted}
use Rattle.page_replay.proofs.PagePieces.{split_anywhere, Good, good_first_page, good_onward}
use Rattle.subframes.proofs.SubframeSound.{sound_admitted}
use Rattle.texts.specs.Arguments.{arguments_answer}
use Rattle.texts.specs.Decimal.{number}
use Rattle.texts.proofs.Written.{put, length_put, taken as put_taken}
use Rattle.listing.specs.Listing.{asked, refused_line, completed, page_lines, pages_in, totals_line, first, tells, ends}
use Rattle.listing.specs.Pieces.{Running, Told, says, room_checks, record_checks, checks, begun as begun_of, begin, are_whole, takes, together, run, next}
use Rattle.listing.specs.Pieces.{fed as fed_of, feed, finish}
use Rattle.listing.specs.PiecePromises.{state, meaning_listing, outcome}
use Rattle.listing.specs.Histories.{taken, written, Misfit, History, begun, fed, misfit, SoFar, AtTheEnd, Onward, Taken, AnyInput, ListingIsTold}
use Rattle.listing.specs.declared.pieces.Listing.{Listing}
use Rattle.listing.proofs.Pages.{tail_of, tail_count, tail_join, pages_in_join, lines_of, lines_append}
use Rattle.listing.proofs.PieceSteps.{asked_legal, record_held, held_low, not_refused, not_told, feed_over, feed_done, finish_over, finish_done}
use Rattle.listing.proofs.PieceSteps.{begun_is}
use Rattle.listing.proofs.ListingUnique.{back_answer, back}

-- What is known of a listing that goes on, and of one that is over.
record Kept (l : List ℕ) (s : Running) (input : List ℕ) : Type 0 where
  goes : s.over ≡ false
  replay_is : s.replay ≡ (replayed (first l) (pages_in input)).state
  held_is : s.held ≡ length input % 30
  page_is : take s.held s.page ≡ tail_of input
  page_long : length s.page ≡ 30

abbrev is_legal : List ℕ → Type 0
is_legal l = refusal (svn_gst_checks (get_or l 0 0) (get_or l 1 0) (get_or l 2 0)) ≡ 0

data Reached (a : Answer) (s : Running) (input output : List ℕ) : Type 0 where
  runs : (l : List ℕ) → a ≡ gives l → is_legal l → Kept l s input → output ≡ page_lines (first l) (pages_in input) → Reached a s input output
  over :
      s.over ≡ true → are_few s.replay.totals ≡ true → ((i : List ℕ) → tells a i ≡ output) → ((i : List ℕ) → ends a i ≡ [])
      → Reached a s input output

-- A text at the start of the room is what is written.
said : (out text : List ℕ) → take (length text) (put out 0 text) ≡ text
said out text = put_taken out text refl refl

-- What was called, told by its outcome.
abbrev Goes : Answer → List ℕ → List ℕ → List ℕ → Told → Type 0
Goes a input output piece t = Reached a t.state (input ++ take (taken t.answer) piece) (output ++ take (written t.answer) t.out)

-- Bytes that make no whole page stay, and those of a page that is whole are gone.
tail_none : (x : List ℕ) → length x % 30 ≡ 0 → tail_of x ≡ []
tail_none x e = let k : 30 * whole_pages x ≡ length x = omega arith in rw k (drop-length x)

tail_all : (x page : List ℕ) → length x ≤ 30 → take (length x) page ≡ x → take (length x % 30) page ≡ tail_of x
tail_all x page h e = go (eqb (length x) 30) refl
  where
    go : (b : Bool) → eqb (length x) 30 ≡ b → take (length x % 30) page ≡ tail_of x
    go true f =
        let full : length x ≡ 30 = eqb-true (length x) 30 f in
        let z : length x % 30 ≡ 0 = omega arith in
        rw z (sym (tail_none x z))
    go false f =
        let ne : length x ≡ 30 → ⊥ = eqb-false (length x) 30 f in
        let z : length x % 30 ≡ length x = omega arith in
        let n : 30 * whole_pages x ≡ 0 = omega arith in
        rw (z, n) e

-- A call that is not refused, of a listing that goes on.
module _ (l : List ℕ) (s : Running) (input piece : List ℕ) (k : Kept l s input) where
  abbrev b : List ℕ
  b = take (takes s piece) piece

  few : s.held ≤ 29
  few = omega (arith, k.held_is)

  held_long : length (take s.held s.page) ≡ s.held
  held_long = length-take-le s.held s.page (omega (arith, few, k.page_long))

  -- how much is taken: whole pages, or what is left of one
  data Taking : Type 0 where
    by_pages : are_whole s piece ≡ true → s.held ≡ 0 → length b ≡ 30 * min 15 (length piece / 30) → 30 ≤ length piece → Taking
    by_page : are_whole s piece ≡ false → length b ≡ takes s piece → takes s piece ≡ min (30 - s.held) (length piece) → Taking

  taking : Taking
  taking = go (eqb s.held 0) (leb 30 (length piece)) refl refl
    where
      go : (x y : Bool) → eqb s.held 0 ≡ x → leb 30 (length piece) ≡ y → Taking
      go true true p q =
          let t : takes s piece ≡ 30 * min 15 (length piece / 30) = rw (p, q) in
          let n : 30 ≤ length piece = leb-true 30 (length piece) q in
          by_pages (rw (p, q)) (eqb-true s.held 0 p) (length-take-le (takes s piece) piece (omega arith) ∙ t) n
      go true false p q =
          let t : takes s piece ≡ min (30 - s.held) (length piece) = rw (p, q) in
          by_page (rw (p, q)) (length-take-le (takes s piece) piece (omega arith)) t
      go false y p q =
          let t : takes s piece ≡ min (30 - s.held) (length piece) = rw p in
          by_page (rw p) (length-take-le (takes s piece) piece (omega arith)) t

  together_is : together s piece ≡ tail_of input ++ b
  together_is = ap (λ (x : List ℕ). x ++ b) k.page_is

  together_long : length (together s piece) ≡ s.held + length b
  together_long = length-append (take s.held s.page) b ∙ ap (λ (n : ℕ). n + length b) held_long

  pages_few : length (pages_in (together s piece)) ≤ 15
  pages_few = rw (pages_many (whole_pages (together s piece)) (together s piece)) (go taking)
    where
      go : Taking → whole_pages (together s piece) ≤ 15
      go (by_pages w z n m) = omega (arith, together_long)
      go (by_page w n t) = omega (arith, together_long, few)

  filled : are_whole s piece ≡ false → length b ≡ takes s piece → (next s piece).page ≡ put s.page s.held b
  filled w n =
      ap (λ (x : Bool). cond x s.page (put_at s.page s.held (takes s piece) b)) w ∙ ap (λ (j : ℕ). put_at s.page s.held j b) (sym n)

  held_next : take (next s piece).held (next s piece).page ≡ tail_of (together s piece)
  held_next = go taking
    where
      go : Taking → take (next s piece).held (next s piece).page ≡ tail_of (together s piece)
      go (by_pages w z n m) =
          let none : length (together s piece) % 30 ≡ 0 = omega (arith, together_long) in
          rw none (sym (tail_none (together s piece) none))
      go (by_page w n t) =
          let page : (next s piece).page ≡ put s.page s.held b = filled w n in
          let front : take (length (together s piece)) (put s.page s.held b) ≡ together s piece =
          take_at (take s.held s.page ++ b) (drop (s.held + length b) s.page) (length (together s piece)) refl in
          ap (λ (x : List ℕ). take (next s piece).held x) page
          ∙ tail_all (together s piece) (put s.page s.held b) (omega (arith, together_long, few)) front

  page_next : length (next s piece).page ≡ 30
  page_next = go taking
    where
      go : Taking → length (next s piece).page ≡ 30
      go (by_pages w z n m) = rw w k.page_long
      go (by_page w n t) = ap length (filled w n) ∙ length_put s.page s.held b (omega (arith, few, k.page_long)) ∙ k.page_long

  kept_on : Kept l (next s piece) (input ++ b)
  kept_on =
      record {
        goes = refl;
        replay_is =
            ap (λ (x : List ℕ). (replayed s.replay (pages_in x)).state) together_is
            ∙ ap (λ (t : State). (replayed t (pages_in (tail_of input ++ b))).state) k.replay_is
            ∙ sym (ap (λ (r : Run). r.state) (split_anywhere (first l) (pages_in input) (pages_in (tail_of input ++ b))))
            ∙ ap (λ (ps : List (List ℕ)). (replayed (first l) ps).state) (sym (pages_in_join input b));
        held_is = ap (λ (x : List ℕ). length x % 30) together_is ∙ sym (tail_count input b);
        page_is = held_next ∙ ap tail_of together_is ∙ sym (tail_join input b);
        page_long = page_next;
      }

  lines_on : page_lines (first l) (pages_in (input ++ b)) ≡ page_lines (first l) (pages_in input) ++ completed s.replay.satellite (run s piece)
  lines_on =
      ap (page_lines (first l)) (pages_in_join input b)
      ∙ lines_append (pages_in input) (pages_in (tail_of input ++ b)) (first l)
      ∙ ap (λ (t : State). page_lines (first l) (pages_in input) ++ page_lines t (pages_in (tail_of input ++ b))) (sym k.replay_is)
      ∙ ap (λ (x : List ℕ). page_lines (first l) (pages_in input) ++ page_lines s.replay (pages_in x)) (sym together_is)
      ∙ ap (λ (x : List ℕ). page_lines (first l) (pages_in input) ++ x) (lines_of s.replay (pages_in (together s piece)) pages_few)

  fed_on :
      (a : Answer) (output out : List ℕ) → a ≡ gives l → is_legal l → output ≡ page_lines (first l) (pages_in input)
      → Goes a input output piece (fed_of s piece out)
  unfolding fed_of
  fed_on a output out e g h =
      runs l e g kept_on
      (ap (λ (x : List ℕ). output ++ x) (said out (completed s.replay.satellite (run s piece)))
      ∙ ap (λ (x : List ℕ). x ++ completed s.replay.satellite (run s piece)) h ∙ sym lines_on)

-- What a call does.
data Feeds (s : Running) (piece out : List ℕ) : Type 0 where
  refuses : (q : Refusal) → feed s piece out ≡ not_told s (refusal_number q) out → Feeds s piece out
  ended : s.over ≡ true → feed s piece out ≡ says s (length piece) [] out → Feeds s piece out
  does : s.over ≡ false → refusal (checks s out) ≡ 0 → feed s piece out ≡ fed_of s piece out → Feeds s piece out

-- its checks give no other numbers than those of refusals
checks_known : (s : Running) (out : List ℕ) → T (known (checks s out))
checks_known s out = go s.over
  where
    go : (b : Bool) → T (known (room_checks out ++ cond b [] (replay_checks s.replay 15 ++ (12 when ltb 29 s.held ∷ []))))
    go true = tt
    go false = tt

feeds : (s : Running) (piece out : List ℕ) → Feeds s piece out
unfolding feed
feeds s piece out = go (eqb (refusal (checks s out)) 0) s.over refl refl
  where
    go : (x y : Bool) → eqb (refusal (checks s out)) 0 ≡ x → s.over ≡ y → Feeds s piece out
    go false y e o =
        let f : feed s piece out ≡ not_told s (refusal (checks s out)) out = rw e in
        refuses (refusal_at (refusal (checks s out)))
        (f ∙ ap (λ (n : ℕ). not_told s n out) (sym (number_back (checks s out) (checks_known s out) (eqb-false _ 0 e))))
    go true true e o = ended o (rw (e, o))
    go true false e o = does o (eqb-true _ 0 e) (rw (e, o))

-- neither refused bytes nor lines
same_goes : (a : Answer) (s : Running) (input output : List ℕ) → Reached a s input output → Reached a s (input ++ []) (output ++ [])
same_goes a s input output r = rw (append-nil input, append-nil output) r

true_false : {b : Bool} → b ≡ true → b ≡ false → ⊥
true_false p q = let z : ◌≡◌ {A = ℕ} 0 1 = cc in omega arith

over_goes : (a : Answer) (s : Running) (input more output : List ℕ) → s.over ≡ true → Reached a s input output → Reached a s (input ++ more) (output ++ [])
over_goes a s input more output o (runs l e g k h) = absurd (true_false o k.goes)
over_goes a s input more output o (over p n t u) = over p n (λ i. t i ∙ sym (append-nil output)) u

feed_goes : (a : Answer) (s : Running) (input output piece out : List ℕ) → Reached a s input output → Goes a input output piece (feed s piece out)
feed_goes a s input output piece out r = go (feeds s piece out) r
  where
    go : Feeds s piece out → Reached a s input output → Goes a input output piece (feed s piece out)
    go (refuses q f) r = subst⁻¹ (Goes a input output piece) f (same_goes a s input output r)
    go (ended o f) r = subst⁻¹ (Goes a input output piece) f (over_goes a s input (take (length piece) piece) output o r)
    go (does o z f) (runs l e g k h) = subst⁻¹ (Goes a input output piece) f (fed_on l s input piece k a output out e g h)
    go (does o z f) (over p n t u) = absurd (true_false p o)

-- A call that is not refused has memory of the right lengths.
fits_not : (s : Running) (out : List ℕ) → s.over ≡ false → refusal (checks s out) ≡ 0
    → Misfit s.replay.subframes.hkroot s.replay.subframes.mack s.replay.dsms.memory → ⊥
fits_not s out g z w =
    let k = legal s.replay 15 refl (not_refused s out g z) in
    w (k.collector.h540, k.collector.m2160, k.d208)

-- Memory of other lengths: what is the listing's own stays.
abbrev lent : Running → List ℕ → List ℕ → List ℕ → Running
lent s h m d =
    record {
      replay =
          record {
            satellite = s.replay.satellite;
            next = s.replay.next;
            subframes =
                record {
                  week = s.replay.subframes.week;
                  subframe = s.replay.subframes.subframe;
                  counts = s.replay.subframes.counts;
                  hkroot = h;
                  mack = m;
                };
            dsms =
                record {
                  id = s.replay.dsms.id;
                  came = s.replay.dsms.came;
                  held = s.replay.dsms.held;
                  done = s.replay.dsms.done;
                  memory = d;
                };
            totals = s.replay.totals;
          };
      page = s.page;
      held = s.held;
      over = s.over;
    }

module _ (h m d : List ℕ → List ℕ → List ℕ → List ℕ) where
  abbrev own : Running → Running
  own s =
      lent s (h s.replay.subframes.hkroot s.replay.subframes.mack s.replay.dsms.memory)
      (m s.replay.subframes.hkroot s.replay.subframes.mack s.replay.dsms.memory)
      (d s.replay.subframes.hkroot s.replay.subframes.mack s.replay.dsms.memory)

  abbrev Stays : Answer → List ℕ → List ℕ → List ℕ → Told → Type 0
  Stays a input output piece t = Reached a (own t.state) (input ++ take (taken t.answer) piece) (output ++ take (written t.answer) t.out)

  misfit_goes :
      (a : Answer) (s : Running) (input output piece out : List ℕ)
      → Misfit s.replay.subframes.hkroot s.replay.subframes.mack s.replay.dsms.memory
      → Reached a (own s) input output → Stays a input output piece (feed s piece out)
  misfit_goes a s input output piece out w r = go (feeds s piece out)
    where
      go : Feeds s piece out → Stays a input output piece (feed s piece out)
      go (refuses q f) = subst⁻¹ (Stays a input output piece) f (same_goes a (own s) input output r)
      go (ended o f) = subst⁻¹ (Stays a input output piece) f (over_goes a (own s) input (take (length piece) piece) output o r)
      go (does o z f) = absurd (fits_not s out o z w)

-- The beginning.
none_yet : are_few no_totals ≡ true
unfolding are_few
none_yet = refl

abbrev zeros : Running → Running
zeros s = lent s (replicate 540 0) (replicate 2160 0) (replicate 208 0)

abbrev Begins : Answer → Told → Type 0
Begins a t = Reached a (zeros t.state) [] (take (written t.answer) t.out)

begin_goes : (many : ℕ) (x y z out : List ℕ) → 256 ≤ length out → Begins (arguments_answer many x y z) (begin many x y z out)
unfolding page_lines pages_of replayed
begin_goes many x y z out room = subst (Begins a) (begun_is many x y z out room) (go a refl)
  where
    a : Answer
    a = arguments_answer many x y z

    go : (b : Answer) → a ≡ b → Begins a (begun_of b out)
    go (refused n) e = over refl none_yet (λ i. ap (λ (c : Answer). tells c i) e ∙ sym (said out (refused_line n))) (λ i. ap (λ (c : Answer). ends c i) e)
    go nothing e = over refl none_yet (λ i. ap (λ (c : Answer). tells c i) e) (λ i. ap (λ (c : Answer). ends c i) e)
    go (gives l) e =
        let numbers : List ℕ = number x ∷ number y ∷ number z ∷ [] in
        let same : l ≡ numbers = answer_of _ _ (sym e) in
        runs l e (subst⁻¹ is_legal same (asked_legal many x y z (ap gives (sym same) ∙ sym e)))
        (record { goes = refl; replay_is = refl; held_is = refl; page_is = refl; page_long = refl }) refl

-- After every history.
reached : {arguments : List (List ℕ)} {l : Listing} {h m d input output : List ℕ} → History arguments l h m d input output
    → Reached (asked arguments) (state l h m d) input output
reached {arguments} (begun out r out' room e) =
    subst⁻¹ (Begins (asked arguments)) e (begin_goes (length arguments) (get_or arguments 0 []) (get_or arguments 1 []) (get_or arguments 2 []) out room)
reached {arguments} (fed {l = l} {h = h} {m = m} {d = d} {input = input} {output = output} k piece out r h' m' d' out' e) =
    subst⁻¹ (Goes (asked arguments) input output piece) e (feed_goes (asked arguments) (state l h m d) input output piece out (reached k))
reached {arguments} (misfit {l = l} {x = x} {y = y} {z = z} {input = input} {output = output} h m d k w piece out r x' y' z' out' e) =
    subst⁻¹ (Stays h m d (asked arguments) input output piece) e (misfit_goes h m d (asked arguments) (state l x y z) input output piece out w (reached k))

so_far_told : (a : Answer) (s : Running) (input output : List ℕ) → Reached a s input output → output ≡ tells a input
so_far_told a s input output (runs l e g k h) = h ∙ ap (λ (b : Answer). tells b input) (sym e)
so_far_told a s input output (over o n t u) = sym (t input)

so_far : SoFar
so_far arguments l h m d input output k = so_far_told (asked arguments) (state l h m d) input output (reached k)

-- No call that goes on is refused while the totals are few.
first_good : (l : List ℕ) → is_legal l → Good (first l) 0
first_good l e =
    good_first_page (get_or l 0 0) (get_or l 1 0) (get_or l 2 0) (replicate 540 0) (replicate 2160 0) (replicate 208 0) e
    (length-replicate {A = ℕ} 540 0) (length-replicate {A = ℕ} 2160 0) (length-replicate {A = ℕ} 208 0)

run_good : (l : List ℕ) → is_legal l → (pages : List (List ℕ)) → Good (replayed (first l) pages).state (0 + length pages)
unfolding replayed
run_good l e pages = good_onward pages (record { state = first l; subframes = []; dsms = [] }) 0 (first_good l e)

admits : (s : State) (n : ℕ) → Good s n → are_few s.totals ≡ true → 0 ≡ refusal (replay_checks s 15)
admits s n g e =
    let f = g.sound in
    call_admitted s 15 g.dsms.d208 (sound_admitted s.subframes g.collector) refl g.dsms.id_low (sym e)
    (start_admitted s.satellite s.next.week s.next.time f.some f.few f.in_weeks f.in_week) refl (omega arith)

kept_admits : (l : List ℕ) (s : Running) (input : List ℕ) → is_legal l → Kept l s input → are_few s.replay.totals ≡ true → 0 ≡ refusal (record_checks s)
kept_admits l s input e k f =
    let g : Good s.replay (0 + length (pages_in input)) = subst⁻¹ (λ (t : State). Good t (0 + length (pages_in input))) k.replay_is
    (run_good l e (pages_in input)) in
    record_held s k.goes (sym (admits s.replay (0 + length (pages_in input)) g f)) (held_low s (few l s input [] k))

-- The end.
abbrev Finishes : Answer → List ℕ → List ℕ → Told → Type 0
Finishes a input output t = output ++ take (written t.answer) t.out ≡ tells a input ++ ends a input

finish_goes : (a : Answer) (s : Running) (input output out : List ℕ) → Reached a s input output → are_few s.replay.totals ≡ true → 256 ≤ length out
    → Finishes a input output (finish s out)
finish_goes a s input output out (over o n t u) f room =
    subst (Finishes a input output) (finish_over s out room o)
    (ap (λ (x : List ℕ). x ++ []) (sym (t input)) ∙ ap (λ (x : List ℕ). tells a input ++ x) (sym (u input)))
finish_goes a s input output out (runs l e g k h) f room =
    let text : List ℕ = totals_line s.replay.totals s.held in
    let last : text ≡ ends (gives l) input =
    ap (λ (t : State). totals_line t.totals s.held) k.replay_is ∙ ap (totals_line (replayed (first l) (pages_in input)).state.totals) k.held_is in
    subst (Finishes a input output) (finish_done s out room k.goes (kept_admits l s input g k f))
    (ap (λ (x : List ℕ). output ++ x) (said out text)
    ∙ ap (λ (x : List ℕ). x ++ text) h
    ∙ ap (λ (x : List ℕ). page_lines (first l) (pages_in input) ++ x) last
    ∙ ap (λ (b : Answer). tells b input ++ ends b input) (sym e))

at_the_end : AtTheEnd
at_the_end arguments l h m d input output k f out r h' m' d' out' room e =
    subst⁻¹ (Finishes (asked arguments) input output) e (finish_goes (asked arguments) (state l h m d) input output out (reached k) f room)

-- A call goes on.
record Moves (piece : List ℕ) (t : Told) : Type 0 where
  many : ℕ
  wrote : ℕ
  answer : t.answer ≡ gives (many ∷ wrote ∷ [])
  some : 1 ≤ length piece → 1 ≤ many
  no_more : many ≤ length piece

fed_moves : (l : List ℕ) (s : Running) (input piece out : List ℕ) → Kept l s input → Moves piece (fed_of s piece out)
unfolding fed_of
fed_moves l s input piece out k =
    record { many = takes s piece; wrote = _; answer = refl; some = go_some (taking l s input piece k); no_more = go_few (taking l s input piece k) }
  where
    go_some : Taking l s input piece k → 1 ≤ length piece → 1 ≤ takes s piece
    go_some (by_pages w z n m) q = let t : takes s piece ≡ 30 * min 15 (length piece / 30) = rw w in omega arith
    go_some (by_page w n t) q = omega (arith, few l s input piece k)

    go_few : Taking l s input piece k → takes s piece ≤ length piece
    go_few (by_pages w z n m) = let t : takes s piece ≡ 30 * min 15 (length piece / 30) = rw w in omega arith
    go_few (by_page w n t) = omega arith

feed_moves : (a : Answer) (s : Running) (input output piece out : List ℕ) → Reached a s input output → are_few s.replay.totals ≡ true → 256 ≤ length out
    → Moves piece (feed s piece out)
feed_moves a s input output piece out (over o n t u) f room =
    subst (Moves piece) (feed_over s piece out room o) (record { many = length piece; wrote = 0; answer = refl; some = λ q. q; no_more = omega arith })
feed_moves a s input output piece out (runs l e g k h) f room =
    subst (Moves piece) (feed_done s piece out room k.goes (kept_admits l s input g k f)) (fed_moves l s input piece out k)

onward : Onward
onward arguments l h m d input output k f piece out r h' m' d' out' room e =
    let q : Moves piece (outcome r h' m' d' out') = subst⁻¹ (Moves piece) e
    (feed_moves (asked arguments) (state l h m d) input output piece out (reached k) f room) in
    record { many = q.many; wrote = q.wrote; answer = q.answer; some = q.some; few = q.no_more }

-- Every input has a history: what the definitions say is what some answer of the code means.
data Shaped : Answer → Type 0 where
  shaped_refused : (q : Refusal) → Shaped (refused (refusal_number q))
  shaped_told : {k n : ℕ} → Shaped (gives (k ∷ n ∷ []))

shaped_back : {a : Answer} → Shaped a → meaning_listing (back_answer a) ≡ a
shaped_back (shaped_refused q) = ap (λ (e : Refusal). refused (refusal_number e)) (undo_refusal q)
shaped_back shaped_told = refl

realized :
    (t : Told) → Shaped t.answer
    → outcome (back t) t.state.replay.subframes.hkroot t.state.replay.subframes.mack t.state.replay.dsms.memory t.out ≡ t
realized t h = ap (λ (a : Answer). told_with a) (shaped_back h)
  where
    told_with : Answer → Told
    told_with a = record { state = t.state; answer = a; out = t.out }

feed_shaped : (s : Running) (piece out : List ℕ) → Shaped (feed s piece out).answer
unfolding fed_of
feed_shaped s piece out = go (feeds s piece out)
  where
    go : Feeds s piece out → Shaped (feed s piece out).answer
    go (refuses q f) = subst⁻¹ (λ (t : Told). Shaped t.answer) f (shaped_refused q)
    go (ended o f) = subst⁻¹ (λ (t : Told). Shaped t.answer) f shaped_told
    go (does o z f) = subst⁻¹ (λ (t : Told). Shaped t.answer) f shaped_told

-- the totals of few pages are few
run_few : (l : List ℕ) → is_legal l → (input : List ℕ) → whole_pages input ≤ most → are_few (replayed (first l) (pages_in input)).state.totals ≡ true
run_few l e input h =
    let n = pages_many (whole_pages input) input in
    let f = (run_good l e (pages_in input)).sound in
    sym
    (all_few (replayed (first l) (pages_in input)).state.totals (omega (arith, f.pages_few)) (omega (arith, f.skipped_few)) (omega (arith, f.used_few))
    (omega (arith, f.unused_few)) (omega (arith, f.subframes_few)) (omega (arith, f.dsms_few)) (omega (arith, f.silent_few)))

reached_few : (a : Answer) (s : Running) (input output : List ℕ) → Reached a s input output → whole_pages input ≤ most → are_few s.replay.totals ≡ true
reached_few a s input output (runs l e g k h) w = ap (λ (t : State). are_few t.totals) k.replay_is ∙ run_few l g input w
reached_few a s input output (over o n t u) w = n

abbrev room : List ℕ
room = replicate 256 0

room_long : 256 ≤ length room
room_long = omega (arith, length-replicate {A = ℕ} 256 0)

begin_realized : (many : ℕ) (x y z out : List ℕ) → 256 ≤ length out
    → outcome (back (begin many x y z out)) [] [] [] (begin many x y z out).out ≡ begin many x y z out
begin_realized many x y z out h =
    subst (λ (t : Told). outcome (back t) [] [] [] t.out ≡ t) (begun_is many x y z out h) (go (arguments_answer many x y z))
  where
    go : (a : Answer) → outcome (back (begun_of a out)) [] [] [] (begun_of a out).out ≡ begun_of a out
    go (refused n) = refl
    go nothing = refl
    go (gives l) = refl

shrinks : (r m n : ℕ) → r ≤ suc n → (1 ≤ r → 1 ≤ m) → r - m ≤ n
shrinks zero m n h f = omega arith
shrinks (suc r) m n h f = let g = f (omega arith) in omega arith

-- from the beginning on, call by call
module _ (arguments : List (List ℕ)) where
  starts : Taken arguments []
  starts =
      let t : Told = begin (length arguments) (get_or arguments 0 []) (get_or arguments 1 []) (get_or arguments 2 []) room in
      let e = begin_realized (length arguments) (get_or arguments 0 []) (get_or arguments 1 []) (get_or arguments 2 []) room room_long in
      let k = begun room (back t) t.out room_long e in
      record {
        record_is = (back t).listing;
        hkroot = replicate 540 0;
        mack = replicate 2160 0;
        memory = replicate 208 0;
        output = take (written (meaning_listing (back t).answer)) t.out;
        history = k;
        few = reached_few (asked arguments) (state (back t).listing (replicate 540 0) (replicate 2160 0) (replicate 208 0)) [] _ (reached k) (omega arith);
      }

  walks : (n : ℕ) (input rest : List ℕ) → length rest ≤ n → whole_pages (input ++ rest) ≤ most → Taken arguments input → Taken arguments (input ++ rest)
  walks zero input [] h w k = subst⁻¹ (Taken arguments) (append-nil input) k
  walks zero input (c ∷ rest) h w k = absurd (omega arith)
  walks (suc n) input rest h w k =
      let s : Running = state k.record_is k.hkroot k.mack k.memory in
      let t : Told = feed s rest room in
      let e = realized t (feed_shaped s rest room) in
      let x : List ℕ = t.state.replay.subframes.hkroot in
      let y : List ℕ = t.state.replay.subframes.mack in
      let z : List ℕ = t.state.replay.dsms.memory in
      let q = fed k.history rest room (back t) x y z t.out e in
      let g = onward arguments k.record_is k.hkroot k.mack k.memory input k.output k.history k.few rest room (back t) x y z
      t.out room_long e in
      let m : ℕ = taken (meaning_listing (back t).answer) in
      let some : m ≡ g.many = ap taken g.answer in
      let least : 1 ≤ length rest → 1 ≤ m = λ u. omega (arith, g.some u) in
      let front = length-append input (take m rest) in
      let all = length-append input rest in
      let first_part : length (take m rest) ≤ length rest = rw length-take (omega arith) in
      let same : (input ++ take m rest) ++ drop m rest ≡ input ++ rest =
      append_assoc input (take m rest) (drop m rest) ∙ ap (λ (l : List ℕ). input ++ l) (take-append-drop m rest) in
      subst (Taken arguments) same
      (walks n (input ++ take m rest) (drop m rest) (rw length-drop (shrinks (length rest) m n h least)) (subst⁻¹ (λ (l : List ℕ). whole_pages l ≤ most) same w)
      (record {
        record_is = (back t).listing;
        hkroot = x;
        mack = y;
        memory = z;
        output = k.output ++ take (written (meaning_listing (back t).answer)) t.out;
        history = q;
        few = reached_few (asked arguments) (state (back t).listing x y z) (input ++ take m rest) _ (reached q) (omega arith);
      }))

any_input : AnyInput
any_input arguments input h = walks arguments (length input) [] input (omega arith) h (starts arguments)

pub listing_is_told : ListingIsTold
listing_is_told = record { so_far = so_far; at_the_end = at_the_end; onward = onward; any_input = any_input }
