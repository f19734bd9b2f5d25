-- What the functions of the listing promise, and the paper's numbers and values for each case of their answers.
-- Assumes nothing.
use Rattle.std.specs.Prelude.{ℕ, List, [], ◌∷◌, ◌≡◌, Result}
use Rattle.layouts.specs.Answer.{Answer}
use Rattle.layouts.specs.Refusals.{answer_of}
use Rattle.layouts.specs.declared.refusal.Refusal.{Refusal}
use Rattle.page_replay.specs.ReplayPromises.{state as replay_state}
use Rattle.listing.specs.Pieces.{Running, Told, begin, feed, finish}
use Rattle.listing.specs.declared.pieces.Listing.{Listing}
use Rattle.listing.specs.declared.pieces.Told.{Told as TookAndWrote}
use Rattle.listing.specs.declared.pieces.ListingStep.{ListingStep}

-- the record with the lent memory beside it
abbrev pub state : Listing → List ℕ → List ℕ → List ℕ → Running
state l hkroot mack memory = record { replay = replay_state l.replay hkroot mack memory; page = l.page; held = l.held; over = l.over }

abbrev pub meaning_listing : Result TookAndWrote Refusal → Answer
meaning_listing r = answer_of (λ (t : TookAndWrote). t.taken ∷ t.written ∷ []) r

-- the record and the answer handed back, with the lent bytes then
abbrev pub outcome : ListingStep → List ℕ → List ℕ → List ℕ → List ℕ → Told
outcome r hkroot mack memory out = record { state = state r.listing hkroot mack memory; answer = meaning_listing r.answer; out = out }

-- how many arguments there are, and the first three
abbrev pub BeginListing : ℕ → List ℕ → List ℕ → List ℕ → List ℕ → ListingStep → List ℕ → Type 0
BeginListing many satellite week time out r out-after = outcome r [] [] [] out-after ≡ begin many satellite week time out

abbrev pub FeedListing : Listing → List ℕ → List ℕ → List ℕ → List ℕ → List ℕ → ListingStep → List ℕ → List ℕ → List ℕ → List ℕ → Type 0
FeedListing l hkroot mack memory piece out r hkroot-after mack-after memory-after out-after =
    outcome r hkroot-after mack-after memory-after out-after ≡ feed (state l hkroot mack memory) piece out

abbrev pub FinishListing : Listing → List ℕ → List ℕ → List ℕ → List ℕ → ListingStep → List ℕ → List ℕ → List ℕ → List ℕ → Type 0
FinishListing l hkroot mack memory out r hkroot-after mack-after memory-after out-after =
    outcome r hkroot-after mack-after memory-after out-after ≡ finish (state l hkroot mack memory) out
