-- Document 02, [8], of the code: "two admitted pages of different satellites with the same week and subframe may be fed in either order: the record and all
-- lent bytes end the same, and each page gets the same answer". What holds of calls of the public functions, each of which did what it promises, from any
-- record and any lent bytes.
-- Assumes nothing.
use Rattle.std.specs.Prelude.{ℕ, ◌%◌, List, [], ◌∷◌, ◌++◌, true, ◌≡◌, length, Result, Ok, Option}
use Rattle.layouts.specs.Answer.{Answer, refused, nothing}
use Rattle.subframes.specs.Subframe.{Page, subframe_of}
use Rattle.subframes.specs.SubframePromises.{meaning_subframe, IsUsed}
use Rattle.subframes.specs.SubframeHistory.{Call, Look, Misfit, History}
use Rattle.subframes.specs.Trace.{entries}
use Rattle.subframes.specs.TraceWalk.{Walk}
use Rattle.subframes.specs.DoubledPages.{one_subframe, Copy}
use Rattle.subframes.specs.CardMerges.{answers_of, SameOrder, Recording, Merge}
use Rattle.subframes.specs.TimeMerges.{in_time, Received}
use Rattle.subframes.specs.declared.subframe.CollectSubframe.{CollectSubframe}
use Rattle.layouts.specs.declared.refusal.Refusal.{Refusal}
use Rattle.subframes.specs.declared.subframe.Pair.{Pair}

-- What a call that answered a told of the pages that it fed: the last of them got a, and those before it nothing. (`feed_all` ends with a page that brings
-- something.)
abbrev pub answered : List Page → Answer → List Answer
answered [] a = []
answered (p ∷ []) a = a ∷ []
answered (p ∷ q ∷ ps) a = nothing ∷ answered (q ∷ ps) a

-- Calls one after the other, from a record c and the memory then: the pages that were fed, the oldest first, what each was answered, and what the caller
-- holds after them.
pub data Calls (c : CollectSubframe) (hkroot mack : List ℕ) : List Page → List Answer → CollectSubframe → List ℕ → List ℕ → Type 0 where
  begins : Calls c hkroot mack [] [] c hkroot mack
  -- `feed` or `feed_all`, with the record and the memory as they are, refused or not
  called : {d d' : CollectSubframe} {x y x' y' : List ℕ} {ps qs : List Page} {l : List Answer} {a : Result (Option Pair) Refusal} → Calls c hkroot mack ps l d x y
      → Call d x y qs a d' x' y' → Calls c hkroot mack (ps ++ qs) (l ++ answered qs (meaning_subframe a)) d' x' y'
  -- one that was lent bytes of other lengths, wherever they lie, and one that only reads: as in `History`
  misfit : {d d' : CollectSubframe} {u v u' v' : List ℕ} {ps qs : List Page} {l : List Answer} {a : Result (Option Pair) Refusal} (x y : List ℕ → List ℕ → List ℕ)
      → Calls c hkroot mack ps l d (x u v) (y u v) → Misfit u v → Call d u v qs a d' u' v' → Calls c hkroot mack ps l d' (x u' v') (y u' v')
  looked : {d : CollectSubframe} {x y u v : List ℕ} {ps : List Page} {l : List Answer} → Calls c hkroot mack ps l d x y → Look d u v
      → Calls c hkroot mack ps l d x y

-- "the record and all lent bytes end the same"
pub record HoldSame (d e : CollectSubframe) (hkroot hkroot' mack mack' : List ℕ) : Type 0 where
  pub record_is : d ≡ e
  pub hkroot_is : hkroot ≡ hkroot'
  pub mack_is : mack ≡ mack'

-- Pages merged in two ways: a recording subframe by subframe, each satellite's own order kept, or two cards by week and time.
pub data TwoWays (ps qs : List Page) : Type 0 where
  by_subframe : Recording ps qs → TwoWays ps qs
  by_time : (sent : ℕ → ℕ → ℕ → List ℕ) (one two : List Page) → Received sent one → Received sent two → Merge one two ps → Merge one two qs
      → in_time ps ≡ true → in_time qs ≡ true → TwoWays ps qs

-- "and each page gets the same answer": l and k are what the pages of two merges were answered
abbrev pub AnsweredSame : List Page → List Answer → List Page → List Answer → Type 0
AnsweredSame ps l qs k = SameOrder ps qs × ((n : ℕ) → answers_of n ps l ≡ answers_of n qs k)

-- From any record and any lent bytes.
pub record CodeOrder : Type 0 where
  -- two pages in either order: a and a' is what p was answered, b and b' what q was
  pub either_order : {c d e : CollectSubframe} {hkroot mack x y x' y' : List ℕ} {a b a' b' : Answer} (p q : Page) → (p.satellite ≡ q.satellite → ⊥)
      → p.week ≡ q.week → subframe_of p.time ≡ subframe_of q.time → Calls c hkroot mack (p ∷ q ∷ []) (a ∷ b ∷ []) d x y
      → Calls c hkroot mack (q ∷ p ∷ []) (b' ∷ a' ∷ []) e x' y' → HoldSame d e x x' y y' × (a ≡ a') × (b ≡ b')
  -- a page that was not refused and of which `is_used` said that it would be used; others of the same run; then a copy of it, which was answered b
  pub doubled : {c d e : CollectSubframe} {hkroot mack x y x' y' : List ℕ} {between : List Page} {a b : Answer} {l : List Answer} (p q : Page)
      → length c.counts ≡ 36 → IsUsed c p.satellite p.week p.time (Ok true) → ((n : ℕ) → a ≡ refused n → ⊥)
      → Calls c hkroot mack (p ∷ between) (a ∷ l) d x y → one_subframe p.week (subframe_of p.time) between ≡ true → Copy p q
      → Calls d x y (q ∷ []) (b ∷ []) e x' y' → (b ≡ nothing) × HoldSame e d x' x y' y
  -- two merges, by calls of either function
  pub merges : {c d e : CollectSubframe} {hkroot mack x y x' y' : List ℕ} {ps qs : List Page} {l k : List Answer} → TwoWays ps qs
      → Calls c hkroot mack ps l d x y → Calls c hkroot mack qs k e x' y' → HoldSame d e x x' y y' × AnsweredSame ps l qs k
  -- and as two traces, each walked to its end by `feed_all`
  pub traces : {c d e : CollectSubframe} {hkroot mack x y x' y' : List ℕ} {ps : List Page} {l k : List Answer} (trace other : List ℕ)
      → length trace % 12 ≡ 0 → length other % 12 ≡ 0 → TwoWays (entries trace) (entries other) → History c hkroot mack ps
      → Walk trace c hkroot mack (length (entries trace)) l d x y → Walk other c hkroot mack (length (entries other)) k e x' y'
      → HoldSame d e x x' y y' × AnsweredSame (entries trace) l (entries other) k
  -- such calls go on with a history, so that what holds of a history holds after them; and of any pages there are such calls
  pub goes_on : {c d : CollectSubframe} {hkroot mack x y : List ℕ} {ps qs : List Page} {l : List Answer} → History c hkroot mack ps
      → Calls c hkroot mack qs l d x y → History d x y (ps ++ qs)
  pub any_calls : (c : CollectSubframe) (hkroot mack : List ℕ) (ps : List Page)
      → (l : List Answer) × (d : CollectSubframe) × (x : List ℕ) × (y : List ℕ) × Calls c hkroot mack ps l d x y
