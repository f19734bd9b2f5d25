-- Demand 3, for blocks: "A collector, new at the start, recovers. Let pages be lost, doubled, reordered or altered, the clock jump and calls be refused, with
-- record and memory changed by these calls only. .. In it all answers and completed messages are those a new collector gives. .. Likewise with blocks, whose
-- run is those not refused from the first, or from one whose DSM ID differs from the one before, up to the next such change: in it the DSM comes out exactly
-- when the blocks counted, legally, by its first copy of block 0 are first all held, each as first fed in that run."
-- Here of the definition `feed`; of the code in `DsmHistory.antt`.
-- Assumes nothing.
use Rattle.std.specs.Prelude.{ℕ, zero, suc, ◌*◌, List, [], ◌∷◌, ◌++◌, Bool, true, false, cond, not, ◌&&◌, ◌≡◌, length, take, eqb}
use Rattle.layouts.specs.Lists.{all}
use Rattle.layouts.specs.Answer.{Answer, refused, nothing, gives, shown}
use Rattle.layouts.specs.DsmHeader.{dsm_type_of}
use Rattle.runs.specs.Runs.{after_all, run_before, run_with, run_of}
use Rattle.dsms.specs.Dsm.{State, new, Fed, id_of, block_of, counted, feed, view}

-- A call: any header byte, and a block of any length. One is admitted where its block has 13 bytes; nothing else can be refused after `new`, with 208 lent
-- bytes.
pub record Call : Type 0 where
  pub header : ℕ
  pub block : List ℕ

abbrev pub id_in : Call → ℕ
id_in c = id_of c.header

abbrev pub block_in : Call → ℕ
block_in c = block_of c.header

abbrev pub is_admitted : Call → Bool
is_admitted c = eqb (length c.block) 13

abbrev pub fed_to : State → Call → Fed
fed_to s c = feed s c.header c.block

-- the state after calls, the oldest first
abbrev pub after : State → List Call → State
after s cs = after_all (λ (t : State) (c : Call). (fed_to t c).state) s cs

-- Runs are cut where the DSM ID differs from the one before. `before r c` is what c's run had before c, where r is the run so far.
abbrev pub same_id : Call → Call → Bool
same_id c d = eqb (id_in c) (id_in d)

abbrev pub before : List Call → Call → List Call
before r c = run_before is_admitted same_id r c

abbrev pub grown : List Call → Call → List Call
grown r c = run_with is_admitted same_id r c

-- the run at the end of the calls
abbrev pub run : List Call → List Call
run cs = run_of is_admitted same_id cs

-- Of a run: whether block n was fed, and its first copy.
unfoldable pub fed : ℕ → List Call → Bool
fed n [] = false
fed n (c ∷ cs) = cond (eqb (block_in c) n) true (fed n cs)

unfoldable pub first_copy : ℕ → List Call → List ℕ
first_copy n [] = []
first_copy n (c ∷ cs) = cond (eqb (block_in c) n) c.block (first_copy n cs)

-- the number of blocks that the first copy of block 0 counts, in a run of that ID; 0 where it is illegal, or was not fed
abbrev pub counts : ℕ → List Call → ℕ
counts id r = counted (dsm_type_of id) (first_copy 0 r)

-- all counted blocks were fed
abbrev pub all_fed : ℕ → List Call → Bool
all_fed n r = all (λ k. fed k r) n

abbrev pub is_whole : ℕ → List Call → Bool
is_whole id r = not (eqb (counts id r) 0) && all_fed (counts id r) r

-- the first copies of the blocks below n, one after the other
unfoldable pub first_copies : ℕ → List Call → List ℕ
first_copies zero r = []
first_copies (suc n) r = first_copies n r ++ first_copy n r

-- Of a run of that ID: the DSM, each block as first fed; what is answered to the call that made r of the run old; whether a view shows it, and its bytes.
abbrev pub dsm_of : ℕ → List Call → List ℕ
dsm_of id r = first_copies (counts id r) r

abbrev pub comes_out : ℕ → List Call → List Call → Answer
comes_out id old r = cond (is_whole id r && not (is_whole id old)) (gives (id ∷ dsm_type_of id ∷ 13 * counts id r ∷ [])) nothing

abbrev pub in_view : ℕ → List Call → Answer
in_view id r = cond (is_whole id r) (gives (0 ∷ 13 * counts id r ∷ [])) nothing

abbrev pub bytes_in_view : ℕ → List Call → List ℕ
bytes_in_view id r = cond (is_whole id r) (dsm_of id r) []

-- Two collectors did the same at a call: the answer, and the DSM shown.
pub record Alike (f g : Fed) : Type 0 where
  pub answer : f.answer ≡ g.answer
  pub view_is : view f.state ≡ view g.state
  pub bytes : shown f.state.memory (view f.state) ≡ shown g.state.memory (view g.state)

-- What holds of a call c that gave f, where the calls before it led to the state s and left the run r. Here f is what the definition gives (`fed_to s c`), in
-- `DsmHistory.antt` what the code gave.
pub record Recovers (s : State) (r : List Call) (c : Call) (f : Fed) : Type 0 where
  -- (a) in each run the answers and the completed DSMs are those of a new collector, with any memory, that is fed that run alone
  pub like_new : (other : List ℕ) → length other ≡ 208 → is_admitted c ≡ true → Alike f (fed_to (after (new other) (before r c)) c)
  -- (b) the DSM comes out exactly when all counted blocks of the run have been fed, and not all had been before
  pub exactly_when : is_admitted c ≡ true → f.answer ≡ comes_out (id_in c) (before r c) (grown r c)
  -- (c) each block as first fed in that run
  pub first_fed : is_admitted c ≡ true → is_whole (id_in c) (grown r c) ≡ true
      → take (13 * counts (id_in c) (grown r c)) f.state.memory ≡ dsm_of (id_in c) (grown r c)
  -- (d) at most once in a run: one that is whole stays whole, and nothing more comes out
  pub once : is_admitted c ≡ true → is_whole (id_in c) (before r c) ≡ true → (is_whole (id_in c) (grown r c) ≡ true) × (f.answer ≡ nothing)
  -- (e) from then until the ID changes the view shows it, and before it nothing
  pub viewed : is_admitted c ≡ true → view f.state ≡ in_view (id_in c) (grown r c)
  -- (f) a refused call changes nothing
  pub refused_call : is_admitted c ≡ false → f ≡ record { state = s; answer = refused 1 }

-- From a new record and any 208 bytes, after any calls. (Any other number of lent bytes is refused with 1 at every call: `DsmHistory.antt`.)
abbrev pub DsmRecovers : Type 0
DsmRecovers =
    (memory : List ℕ) → length memory ≡ 208 → (cs : List Call) (c : Call)
    → Recovers (after (new memory) cs) (run cs) c (fed_to (after (new memory) cs) c)

-- Between the calls, and also after refused ones: the record has the ID of the last run (that of its last call), and the view shows its DSM.
abbrev pub run_id : List Call → ℕ
run_id [] = 0
run_id (c ∷ []) = id_in c
run_id (c ∷ d ∷ ds) = run_id (d ∷ ds)

pub record Viewed (s : State) (r : List Call) : Type 0 where
  pub id_is : s.id ≡ run_id r
  pub view_is : view s ≡ in_view (run_id r) r
  pub bytes : shown s.memory (view s) ≡ bytes_in_view (run_id r) r

abbrev pub DsmShows : Type 0
DsmShows = (memory : List ℕ) → length memory ≡ 208 → (cs : List Call) → Viewed (after (new memory) cs) (run cs)
