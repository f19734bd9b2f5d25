-- Laws of the calls of the listing: what is refused, and what a call that is not does.
-- Assumes nothing.
use Prim.Native.Nat.{ℕ, ◌+◌, ◌*◌, ◌-◌, ◌/◌, ◌%◌, ◌≤◌, ◌<◌, min}
use native.Mathlib.Nat.{zero-add}
use native.Mathlib.Omega.{arith}
use mathlib.Core.Path.{◌≡◌, refl, sym, ap, ◌∙◌}
use mathlib.Core.List.{List, [], ◌∷◌, ◌++◌}
use mathlib.Core.Bool.{Bool, true, false, cond, ◌&&◌}
use lib.ListN.{length, take, drop, length-append, length-drop}
use lib.Seq.{length-take-le, take_at}
use lib.Dec.{ltb, leb, eqb}
use borrow.Author.Tests.{lt-ltb, le-ltb, ne_eqb, eqb-true, eqb-false}
use Rattle.layouts.specs.Answer.{Answer, refused, gives, ◌when◌, refusal}
use Rattle.layouts.specs.Gst.{svn_gst_checks}
use Rattle.layouts.specs.Lists.{put}
use Rattle.layouts.proofs.Answers.{stopped, went_on, converse, answer_of}
use Rattle.page_replay.specs.Replay.{State, pages_of, consumed, replayed, replay_checks, Outcome, replay, begun as replay_begun}
use Rattle.page_replay.specs.ReplayPromises.{meaning_replay, state as replay_state, outcome as replay_outcome}
use Rattle.std.specs.Prelude.{Result, Ok, Err}
use Rattle.std.specs.Result.{IsErr}
use Rattle.layouts.specs.Refusals.{refusal_number, refused_by}
use Rattle.layouts.specs.declared.gst.Stamp.{Stamp}
use Rattle.layouts.specs.declared.refusal.Refusal.{Refusal}
use Rattle.page_replay.specs.declared.replay.PageReplay.{PageReplay}
use Rattle.page_replay.specs.declared.replay.Replayed.{Replayed}
use Rattle.texts.specs.Arguments.{text_checks, arguments_answer, meaning_arguments}
use Rattle.texts.specs.Decimal.{number}
use Rattle.listing.specs.Listing.{refused_line, completed, totals_line, pages_in}
use Rattle.listing.specs.Pieces.{Running, Told, record_checks, checks, unless_refused, says, none, begun, begin, are_whole, takes, together, next, run}
use Rattle.listing.specs.Pieces.{fed, feed, finish}
use Rattle.listing.specs.inner.Puts.{Puts}
use Rattle.listing.specs.inner.Steps.{fresh, Kept, after, told_by, tells, Ready}
use Rattle.listing.specs.PiecePromises.{state}
use Rattle.listing.specs.declared.pieces.Listing.{Listing}
use Rattle.listing.proofs.Pages.{pages_taken}

abbrev kept : List ℕ → ℕ → ℕ → Kept
kept page held taken = record { page = page; held = held; taken = taken }

abbrev says_as : Running → ℕ → ℕ → List ℕ → Told
says_as x taken w out = record { state = x; answer = gives (taken ∷ w ∷ []); out = out }

both_true : (a b : Bool) → (a && b) ≡ true → (a ≡ true) × (b ≡ true)
both_true true true e = (refl, refl)
both_true true false e = let z : ◌≡◌ {A = ℕ} 0 1 = cc in absurd (omega arith)
both_true false b e = let z : ◌≡◌ {A = ℕ} 0 1 = cc in absurd (omega arith)

-- Numbers that the arguments give are legal.
pub asked_legal : (many : ℕ) (a b c : List ℕ) {s w t : ℕ} → gives (s ∷ w ∷ t ∷ []) ≡ arguments_answer many a b c → refusal (svn_gst_checks s w t) ≡ 0
unfolding refusal
asked_legal many a b c {s} {w} {t} e =
    let p = converse (text_checks many a b c ++ svn_gst_checks (number a) (number b) (number c)) _ tt e in
    let same : s ∷ w ∷ t ∷ [] ≡ number a ∷ number b ∷ number c ∷ [] = answer_of _ _ e in
    let x : s ≡ number a = cc in
    let y : w ≡ number b = cc in
    let z : t ≡ number c = cc in
    rw (x, y, z, p.1.1.1.1.0, p.1.1.1.1.1.0, p.1.1.1.1.1.1.0, p.1.1.1.1.1.1.1.0)

legal_fresh : (s w t : ℕ) → refusal (svn_gst_checks s w t) ≡ 0 → fresh s w t false ≡ none s w t false
unfolding replay_begun
legal_fresh s w t e = rw e

-- A call of the page replay does its pages, or refuses.
abbrev did : State → List (List ℕ) → Outcome
did s ps = record { state = (replayed s ps).state; answer = gives (length ps ∷ []); subframes = (replayed s ps).subframes; dsms = (replayed s ps).dsms }

abbrev did_not : State → ℕ → Outcome
did_not s n = record { state = s; answer = refused n; subframes = []; dsms = [] }

data Called (s : State) (bytes : List ℕ) (budget : ℕ) : Type 0 where
  goes : refusal (replay_checks s budget) ≡ 0 → replay s bytes budget ≡ did s (consumed bytes budget) → Called s bytes budget
  stops : (refusal (replay_checks s budget) ≡ 0 → ⊥) → replay s bytes budget ≡ did_not s (refusal (replay_checks s budget)) → Called s bytes budget

called : (s : State) (bytes : List ℕ) (budget : ℕ) → Called s bytes budget
unfolding replay
called s bytes budget = go (eqb (refusal (replay_checks s budget)) 0) refl
  where
    go : (b : Bool) → eqb (refusal (replay_checks s budget)) 0 ≡ b → Called s bytes budget
    go true e = goes (eqb-true _ 0 e) (rw e)
    go false e = stops (eqb-false _ 0 e) (rw e)

-- What is refused.
record_stops : (s : Running) {q : ℕ} → s.over ≡ false → q ≡ refusal (replay_checks s.replay 15) → (q ≡ 0 → ⊥) → q ≡ refusal (record_checks s)
record_stops s {q} g e ne = rw g (stopped (replay_checks s.replay 15) (12 when ltb 29 s.held ∷ []) e ne)

pub record_held :
    (s : Running) {q : ℕ} → s.over ≡ false → refusal (replay_checks s.replay 15) ≡ 0 → q ≡ refusal (12 when ltb 29 s.held ∷ [])
    → q ≡ refusal (record_checks s)
record_held s {q} g e h = rw g (went_on (replay_checks s.replay 15) (12 when ltb 29 s.held ∷ []) tt refl e h)

held_high : (s : Running) → 29 < s.held → 12 ≡ refusal (12 when ltb 29 s.held ∷ [])
unfolding refusal
held_high s h = rw (lt-ltb 29 s.held h)

pub held_low : (s : Running) → s.held ≤ 29 → 0 ≡ refusal (12 when ltb 29 s.held ∷ [])
unfolding refusal
held_low s h = rw (le-ltb 29 s.held h)

pub room_pass : (s : Running) (out : List ℕ) {q : ℕ} → 256 ≤ length out → q ≡ refusal (record_checks s) → q ≡ refusal (checks s out)
unfolding refusal
room_pass s out h e = rw (le-ltb (length out) 256 h) e

room_short : (s : Running) (out : List ℕ) → length out < 256 → 1 ≡ refusal (checks s out)
unfolding refusal
room_short s out h = rw (lt-ltb (length out) 256 h)

-- what is known of a call that is not refused
pub not_refused : (s : Running) (out : List ℕ) → s.over ≡ false → refusal (checks s out) ≡ 0 → refusal (replay_checks s.replay 15) ≡ 0
unfolding refusal
not_refused s out g e = go (ltb (length out) 256) e (called s.replay [] 15)
  where
    go : (b : Bool) → cond b 1 (refusal (record_checks s)) ≡ 0 → Called s.replay [] 15 → refusal (replay_checks s.replay 15) ≡ 0
    go true z k = absurd (omega arith)
    go false z (goes n f) = n
    go false z (stops n f) = absurd (n (record_stops s g refl n ∙ z))

-- A call that is refused.
abbrev pub not_told : Running → ℕ → List ℕ → Told
not_told s q out = record { state = s; answer = refused q; out = out }

refused_with :
    (s : Running) (out : List ℕ) (t : Told) {q : ℕ} → (q ≡ 0 → ⊥) → q ≡ refusal (checks s out)
    → not_told s q out ≡ unless_refused (refusal (checks s out)) s out t
refused_with s out t {q} ne e = let z : not_told s q out ≡ unless_refused q s out t = rw (ne_eqb q 0 ne) in z ∙ ap (λ (n : ℕ). unless_refused n s out t) e

told_by_lem : (s : Running) (out : List ℕ) (t : Told) → 0 ≡ refusal (checks s out) → t ≡ unless_refused (refusal (checks s out)) s out t
told_by_lem s out t e = ap (λ (n : ℕ). unless_refused n s out t) e

module _ (s : Running) (piece out : List ℕ) where
  pub feed_short : length out < 256 → not_told s 1 out ≡ feed s piece out
  unfolding feed
  feed_short h = refused_with s out _ (λ z. let z : ◌≡◌ {A = ℕ} 1 0 = z in absurd (omega arith)) (room_short s out h)

  pub feed_refused : {q : ℕ} → 256 ≤ length out → (q ≡ 0 → ⊥) → q ≡ refusal (record_checks s) → not_told s q out ≡ feed s piece out
  unfolding feed
  feed_refused r ne e = refused_with s out _ ne (room_pass s out r e)

  pub feed_over : 256 ≤ length out → s.over ≡ true → says s (length piece) [] out ≡ feed s piece out
  unfolding feed refusal
  feed_over r o = rw (le-ltb (length out) 256 r, o)

  pub feed_done : 256 ≤ length out → s.over ≡ false → 0 ≡ refusal (record_checks s) → fed s piece out ≡ feed s piece out
  unfolding feed
  feed_done r g e =
      let z : fed s piece out ≡ cond s.over (says s (length piece) [] out) (fed s piece out) = rw g in
      z ∙ told_by_lem s out (cond s.over (says s (length piece) [] out) (fed s piece out)) (room_pass s out r e)

-- A replay of no pages asks what is refused, and changes nothing.
module _ (s : Running) (page : List ℕ) (g : s.over ≡ false) {o : Outcome} (e : o ≡ replay s.replay page 0) where
  pub asked_same : o.state ≡ s.replay
  unfolding replayed pages_of
  asked_same = go (called s.replay page 0)
    where
      zero_pages : min 0 (length page / 30) ≡ 0
      zero_pages = omega arith

      go : Called s.replay page 0 → o.state ≡ s.replay
      go (goes z f) = ap (λ (x : Outcome). x.state) (e ∙ f) ∙ ap (λ (k : ℕ). (replayed s.replay (pages_of k page)).state) zero_pages
      go (stops z f) = ap (λ (x : Outcome). x.state) (e ∙ f)

  pub asked_refused : {n : ℕ} → o.answer ≡ refused n → (n ≡ refusal (record_checks s)) × (n ≡ 0 → ⊥)
  asked_refused {n} a = go (called s.replay page 0)
    where
      go : Called s.replay page 0 → (n ≡ refusal (record_checks s)) × (n ≡ 0 → ⊥)
      go (goes z f) = let b : refused n ≡ gives _ = sym a ∙ ap (λ (x : Outcome). x.answer) (e ∙ f) in let z : ◌≡◌ {A = ℕ} 0 1 = cc in absurd (omega arith)
      go (stops z f) =
          let b : refused n ≡ refused (refusal (replay_checks s.replay 15)) = sym a ∙ ap (λ (x : Outcome). x.answer) (e ∙ f) in
          let q : n ≡ refusal (replay_checks s.replay 15) = cc in
          (record_stops s g q (λ w. z (sym q ∙ w)), λ w. z (sym q ∙ w))

  pub asked_given : {l : List ℕ} → o.answer ≡ gives l → refusal (replay_checks s.replay 15) ≡ 0
  asked_given {l} a = go (called s.replay page 0)
    where
      go : Called s.replay page 0 → refusal (replay_checks s.replay 15) ≡ 0
      go (goes z f) = z
      go (stops z f) = let b : gives l ≡ refused _ = sym a ∙ ap (λ (x : Outcome). x.answer) (e ∙ f) in let z : ◌≡◌ {A = ℕ} 0 1 = cc in absurd (omega arith)

  pub asked_high : {l : List ℕ} → o.answer ≡ gives l → 29 < s.held → 12 ≡ refusal (record_checks s)
  asked_high a h = record_held s g (asked_given a) (held_high s h)

  pub asked_none : {l : List ℕ} → o.answer ≡ gives l → s.held ≤ 29 → 0 ≡ refusal (record_checks s)
  asked_none a h = record_held s g (asked_given a) (held_low s h)

-- What the page replay answers, told.
module _ (s : Running) (piece out bytes : List ℕ) (k : Kept) (r : Ready s out) {x : Running} {o : Outcome} {t : Told}
    (e : o ≡ replay s.replay bytes 15) where
  pub tells_feed :
      (o.state ≡ s.replay → x ≡ s) → x.replay.satellite ≡ s.replay.satellite
      → consumed bytes 15 ≡ pages_in (together s piece)
      → k ≡ record { page = (next s piece).page; held = (next s piece).held; taken = takes s piece }
      → t ≡ tells x k o out → t ≡ feed s piece out
  unfolding fed
  tells_feed same sat c kept h = h ∙ go (called s.replay bytes 15)
    where
      go : Called s.replay bytes 15 → tells x k o out ≡ feed s piece out
      go (goes z f) =
          let d : o ≡ did s.replay (pages_in (together s piece)) = e ∙ f ∙ ap (did s.replay) c in
          ap (λ (y : Outcome). tells x k y out) d
          ∙ ap (λ (j : Kept). after x j (did s.replay (pages_in (together s piece))) out) kept
          ∙ ap (λ (n : ℕ). says (next s piece) (takes s piece) (completed n (run s piece)) out) sat
          ∙ feed_done s piece out r.room r.goes (record_held s r.goes z (held_low s r.few))
      go (stops z f) =
          ap (λ (y : Outcome). tells x k y out) (e ∙ f)
          ∙ ap (λ (y : Running). not_told y (refusal (replay_checks s.replay 15)) out) (same (ap (λ (y : Outcome). y.state) (e ∙ f)))
          ∙ feed_refused s piece out r.room z (record_stops s r.goes refl z)

-- The end.
module _ (s : Running) (out : List ℕ) where
  pub finish_short : length out < 256 → not_told s 1 out ≡ finish s out
  unfolding finish
  finish_short h = refused_with s out _ (λ z. let z : ◌≡◌ {A = ℕ} 1 0 = z in absurd (omega arith)) (room_short s out h)

  pub finish_over : 256 ≤ length out → s.over ≡ true → says s 0 [] out ≡ finish s out
  unfolding finish refusal
  finish_over r o = rw (le-ltb (length out) 256 r, o)

  pub finish_refused : {q : ℕ} → 256 ≤ length out → (q ≡ 0 → ⊥) → q ≡ refusal (record_checks s) → not_told s q out ≡ finish s out
  unfolding finish
  finish_refused r ne e = refused_with s out _ ne (room_pass s out r e)

  pub finish_done : 256 ≤ length out → s.over ≡ false → 0 ≡ refusal (record_checks s) → says s 0 (totals_line s.replay.totals s.held) out ≡ finish s out
  unfolding finish
  finish_done r g e =
      let text : List ℕ = totals_line s.replay.totals s.held in
      let z : says s 0 text out ≡ says s 0 (cond s.over [] text) out = rw g in
      z ∙ told_by_lem s out (says s 0 (cond s.over [] text) out) (room_pass s out r e)

-- What is kept and taken, of whole pages.
module _ (s : Running) (piece : List ℕ) (w : are_whole s piece ≡ true) where
  no_byte : s.held ≡ 0
  no_byte = eqb-true s.held 0 (both_true (eqb s.held 0) (leb 30 (length piece)) w).0

  whole_takes : takes s piece ≡ 30 * min 15 (length piece / 30)
  whole_takes = rw w

  whole_together : together s piece ≡ take (30 * min 15 (length piece / 30)) piece
  whole_together =
      ap (λ (k : ℕ). take k s.page ++ take (takes s piece) piece) no_byte ∙ ap (λ (k : ℕ). take k piece) whole_takes

  pub pages_consumed : consumed piece 15 ≡ pages_in (together s piece)
  pages_consumed = pages_taken (min 15 (length piece / 30)) piece (omega arith) ∙ ap pages_in (sym whole_together)

  pub pages_kept : {t : ℕ} → t ≡ min 15 (length piece / 30)
      → ◌≡◌ {A = Kept} (record { page = s.page; held = 0; taken = 30 * t })
      (record { page = (next s piece).page; held = (next s piece).held; taken = takes s piece })
  pages_kept {t} e =
      let long : length (together s piece) ≡ 30 * min 15 (length piece / 30) =
      ap length whole_together ∙ length-take-le (30 * min 15 (length piece / 30)) piece (omega arith) in
      let none : 0 ≡ length (together s piece) % 30 = omega arith in
      let page : s.page ≡ (next s piece).page = rw w in
      let taken : 30 * t ≡ takes s piece = ap (λ (k : ℕ). 30 * k) e ∙ sym whole_takes in
      ap (λ (p : List ℕ). kept p 0 (30 * t)) page ∙ ap (λ (h : ℕ). kept (next s piece).page h (30 * t)) none
      ∙ ap (kept (next s piece).page (next s piece).held) taken

-- Of the page that is held.
module _ (s : Running) (piece : List ℕ) (w : are_whole s piece ≡ false) (few : s.held ≤ 29) (long : length s.page ≡ 30) {t : ℕ}
    (e : t ≡ min (30 - s.held) (length piece)) where
  page_takes : t ≡ takes s piece
  page_takes = e ∙ rw w

  part_long : length (take t piece) ≡ t
  part_long = length-take-le t piece (omega arith)

  page_together : take (s.held + t) (put s.page s.held t (take t piece)) ≡ together s piece
  page_together =
      let front : length (take s.held s.page) ≡ s.held = length-take-le s.held s.page (omega arith) in
      take_at (take s.held s.page ++ take t piece) (drop (s.held + t) s.page) (s.held + t)
      (length-append (take s.held s.page) (take t piece) ∙ rw (front, part_long))
      ∙ ap (λ (k : ℕ). take s.held s.page ++ take k piece) page_takes

  page_many : length (together s piece) ≡ s.held + t
  page_many =
      ap length (sym page_together)
      ∙ length-take-le (s.held + t) (put s.page s.held t (take t piece)) (rw page_whole (omega arith))
    where
      page_whole : length (put s.page s.held t (take t piece)) ≡ 30
      page_whole =
          length-append (take s.held s.page ++ take t piece) (drop (s.held + t) s.page)
          ∙ rw (length-append, length-take-le s.held s.page (omega arith), part_long, length-drop, long) (omega arith)

  pub page_consumed : {r : List ℕ} → r ≡ put s.page s.held t (take t piece) → consumed (take (s.held + t) r) 15 ≡ pages_in (together s piece)
  page_consumed f =
      let one : min 15 (length (together s piece) / 30) ≡ length (together s piece) / 30 = omega (arith, page_many) in
      ap (λ (x : List ℕ). consumed (take (s.held + t) x) 15) f ∙ ap (λ (x : List ℕ). consumed x 15) page_together
      ∙ ap (λ (k : ℕ). pages_of k (together s piece)) one

  pub page_kept : {r : List ℕ} → r ≡ put s.page s.held t (take t piece)
      → ◌≡◌ {A = Kept} (record { page = r; held = (s.held + t) % 30; taken = t })
      (record { page = (next s piece).page; held = (next s piece).held; taken = takes s piece })
  page_kept f =
      let page : put s.page s.held (takes s piece) (take (takes s piece) piece) ≡ (next s piece).page = rw w in
      let held : (s.held + t) % 30 ≡ length (together s piece) % 30 = ap (λ (k : ℕ). k % 30) (sym page_many) in
      ap (λ (p : List ℕ). kept p ((s.held + t) % 30) t) f ∙ ap (λ (h : ℕ). kept (put s.page s.held t (take t piece)) h t) held
      ∙ ap (λ (k : ℕ). kept (put s.page s.held k (take k piece)) (next s piece).held k) page_takes
      ∙ ap (λ (p : List ℕ). kept p (next s piece).held (takes s piece)) page

-- Texts that are told.
pub puts_says : (x : Running) (taken : ℕ) (text out : List ℕ) {after : List ℕ} {w : ℕ} → Puts text out 0 after w
    → ◌≡◌ {A = Told} (record { state = x; answer = gives (taken ∷ w ∷ []); out = after }) (says x taken text out)
puts_says x taken text out {after} {w} p =
    let many : w ≡ length text = p.ends ∙ zero-add (length text) in
    ap (λ (k : ℕ). says_as x taken k after) many ∙ ap (says_as x taken (length text)) p.bytes

module _ (l : Listing) (k : Kept) (done : Replayed) (out h m d : List ℕ) where
  pub tell_refused : {q : Refusal} → done.answer ≡ Err q → not_told (state l h m d) (refusal_number q) out ≡ tells (state l h m d) k (replay_outcome done h m d) out
  tell_refused e = ap (λ (a : Result ℕ Refusal). told_by (meaning_replay a) (state l h m d) out (after (state l h m d) k (replay_outcome done h m d) out)) (sym e)

  pub tell_done :
      {c : ℕ} → done.answer ≡ Ok c → {t : Told} → t ≡ after (state l h m d) k (replay_outcome done h m d) out
      → t ≡ tells (state l h m d) k (replay_outcome done h m d) out
  tell_done e f = f ∙ ap (λ (a : Result ℕ Refusal). told_by (meaning_replay a) (state l h m d) out (after (state l h m d) k (replay_outcome done h m d) out)) (sym e)

-- the lent memory as it was
pub same_memory : (l : Listing) (p q : PageReplay) (h m d x y z : List ℕ) → replay_state p x y z ≡ replay_state q h m d → state l x y z ≡ state l h m d
same_memory l p q h m d x y z e = ap (λ (s : State). state l s.subframes.hkroot s.subframes.mack s.dsms.memory) e

-- The beginning.
module _ (many : ℕ) (satellite week time out : List ℕ) where
  fresh_none : (o : Bool) → fresh 0 0 0 o ≡ none 0 0 0 o
  unfolding replay_begun refusal
  fresh_none o = refl

  pub begin_short : {x : Running} → x ≡ fresh 0 0 0 false → length out < 256 → not_told x 1 out ≡ begin many satellite week time out
  unfolding begin refusal
  begin_short {x} e h = ap (λ (y : Running). not_told y 1 out) (e ∙ fresh_none false) ∙ rw (lt-ltb (length out) 256 h)

  pub begun_is : 256 ≤ length out → begun (arguments_answer many satellite week time) out ≡ begin many satellite week time out
  unfolding begin refusal
  begun_is h = rw (le-ltb (length out) 256 h)

  pub begin_refused :
      {a : Result Stamp Refusal} {q : Refusal} {x : Running} {t : Told} → 256 ≤ length out → meaning_arguments a ≡ arguments_answer many satellite week time
      → a ≡ Err q
      → x ≡ fresh 0 0 0 true → t ≡ says x 0 (refused_line (refusal_number q)) out → t ≡ begin many satellite week time out
  begin_refused {q = q} h e f g k =
      k ∙ ap (λ (y : Running). says y 0 (refused_line (refusal_number q)) out) (g ∙ fresh_none true)
      ∙ ap (λ (b : Answer). begun b out) (ap meaning_arguments (sym f) ∙ e) ∙ begun_is h

  pub begin_given :
      {a : Result Stamp Refusal} (p : Stamp) {x : Running} → 256 ≤ length out → meaning_arguments a ≡ arguments_answer many satellite week time → a ≡ Ok p
      → x ≡ fresh p.satellite p.week p.time false → ◌≡◌ {A = Told} (record { state = x; answer = gives (0 ∷ 0 ∷ []); out = out }) (begin many satellite week time out)
  begin_given {a} p {x} h e f g =
      let s : ℕ = p.satellite in
      let w : ℕ = p.week in
      let t : ℕ = p.time in
      let given : gives (s ∷ w ∷ t ∷ []) ≡ arguments_answer many satellite week time = ap meaning_arguments (sym f) ∙ e in
      nothing_said x
      ∙ ap (λ (y : Running). says y 0 [] out) (g ∙ legal_fresh s w t (asked_legal many satellite week time given))
      ∙ ap (λ (b : Answer). begun b out) given ∙ begun_is h
    where
      nothing_said : (y : Running) → ◌≡◌ {A = Told} (record { state = y; answer = gives (0 ∷ 0 ∷ []); out = out }) (says y 0 [] out)
      nothing_said y = refl

-- What a replay of no pages answers, of the code.
module _ (l : Listing) (h m d page : List ℕ) (done : Replayed) {x y z : List ℕ} (g : l.over ≡ false)
    (e : replay_outcome done x y z ≡ replay (replay_state l.replay h m d) page 0) where
  still : (x ≡ h) × (y ≡ m) × (z ≡ d)
  still =
      let s = asked_same (state l h m d) page g e in
      (ap (λ (t : State). t.subframes.hkroot) s, ap (λ (t : State). t.subframes.mack) s, ap (λ (t : State). t.dsms.memory) s)

  pub refuses_first : (q : Refusal) → done.answer ≡ Err q → (refusal_number q ≡ refusal (record_checks (state l h m d))) × ((x ≡ h) × (y ≡ m) × (z ≡ d))
  refuses_first q a = ((asked_refused (state l h m d) page g e (ap meaning_replay a)).0, still)

  pub refuses_high : {n : ℕ} → done.answer ≡ Ok n → 29 < l.held → (12 ≡ refusal (record_checks (state l h m d))) × ((x ≡ h) × (y ≡ m) × (z ≡ d))
  refuses_high a k = (asked_high (state l h m d) page g e (ap meaning_replay a) k, still)

  pub refuses_none : {n : ℕ} → done.answer ≡ Ok n → l.held ≤ 29 → (0 ≡ refusal (record_checks (state l h m d))) × ((x ≡ h) × (y ≡ m) × (z ≡ d))
  refuses_none a k = (asked_none (state l h m d) page g e (ap meaning_replay a) k, still)

-- More held bytes than a page has are refused.
pub held_refused : (l : Listing) (h m d : List ℕ) → l.over ≡ false → 29 < l.held → refusal (record_checks (state l h m d)) ≡ 0 → ⊥
held_refused l h m d g k w = go (called l_replay [] 15)
  where
    l_replay : State
    l_replay = replay_state l.replay h m d

    go : Called l_replay [] 15 → ⊥
    go (goes n f) =
        let t : 12 ≡ refusal (record_checks (state l h m d)) = record_held (state l h m d) g n (held_high (state l h m d) k) in
        omega (arith, t, w)
    go (stops n f) = n (record_stops (state l h m d) g refl n ∙ w)

pub is_refused : {A : Type 0} (r : Result A Refusal) {q : ℕ} → refused_by r ≡ q → (q ≡ 0 → ⊥) → IsErr r
is_refused (Err e) f ne = refl
is_refused (Ok x) f ne = absurd (ne (sym f))

-- Refused with the memory as it was.
module _ (l : Listing) (h m d out : List ℕ) {q : ℕ} {x y z : List ℕ} (r : 256 ≤ length out) (e : q ≡ refusal (record_checks (state l h m d)))
    (f : (x ≡ h) × (y ≡ m) × (z ≡ d)) where
  as_it_was : state l x y z ≡ state l h m d
  as_it_was = ap (λ (t : List ℕ). state l t y z) f.0 ∙ ap (λ (t : List ℕ). state l h t z) f.1 ∙ ap (λ (t : List ℕ). state l h m t) f.2

  pub feed_high : (piece : List ℕ) → l.over ≡ false → 29 < l.held → not_told (state l x y z) q out ≡ feed (state l h m d) piece out
  feed_high piece g k = ap (λ (t : Running). not_told t q out) as_it_was ∙ feed_refused (state l h m d) piece out r (λ w. held_refused l h m d g k (sym e ∙ w)) e

  pub finish_stopped : (q ≡ 0 → ⊥) → not_told (state l x y z) q out ≡ finish (state l h m d) out
  finish_stopped ne = ap (λ (t : Running). not_told t q out) as_it_was ∙ finish_refused (state l h m d) out r ne e

  pub finish_told : q ≡ 0 → l.over ≡ false → {w : ℕ} {after : List ℕ} → Puts (totals_line (state l h m d).replay.totals l.held) out 0 after w
      → ◌≡◌ {A = Told} (record { state = state l x y z; answer = gives (0 ∷ w ∷ []); out = after }) (finish (state l h m d) out)
  finish_told n g p =
      puts_says (state l x y z) 0 (totals_line (state l h m d).replay.totals l.held) out p
      ∙ ap (λ (t : Running). says t 0 (totals_line (state l h m d).replay.totals l.held) out) as_it_was
      ∙ finish_done (state l h m d) out r g (sym n ∙ e)
