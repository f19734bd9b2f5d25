-- Document 01, "How far each promise reaches": "show that any two answers satisfying it agree". A line for each public function.
-- Assumes nothing.
use Rattle.std.specs.Prelude.{ℕ, List, ◌≡◌}
use Rattle.layouts.specs.Agree.{AgreeWith}
use Rattle.listing.specs.PiecePromises.{BeginListing, FeedListing, FinishListing}
use Rattle.listing.specs.declared.pieces.Listing.{Listing}
use Rattle.listing.specs.declared.pieces.ListingStep.{ListingStep}

-- an answer beside what the four lent slices hold at the end: all of it is the same
abbrev pub AgreeWithFour : (ListingStep → List ℕ → List ℕ → List ℕ → List ℕ → Type 0) → Type 0
AgreeWithFour Promise =
    (r s : ListingStep) (h m d o h' m' d' o' : List ℕ) → Promise r h m d o → Promise s h' m' d' o' → (r ≡ s) × (h ≡ h') × (m ≡ m') × (d ≡ d') × (o ≡ o')

pub record Agreed : Type 0 where
  pub begin : (many : ℕ) (satellite week time out : List ℕ) → AgreeWith (BeginListing many satellite week time out)
  pub feed : (l : Listing) (hkroot mack memory piece out : List ℕ) → AgreeWithFour (FeedListing l hkroot mack memory piece out)
  pub finish : (l : Listing) (hkroot mack memory out : List ℕ) → AgreeWithFour (FinishListing l hkroot mack memory out)
