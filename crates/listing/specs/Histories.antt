-- What the calls of the listing write, one after the other: of the code, whatever the pieces and whatever the room.
-- Assumes nothing.
use Rattle.std.specs.Prelude.{ℕ, ◌≤◌, List, [], ◌∷◌, ◌++◌, true, ◌≡◌, length, get_or, take, replicate}
use Rattle.layouts.specs.Answer.{Answer, refused, nothing, gives}
use Rattle.page_replay.specs.Replay.{whole_pages, most, are_few}
use Rattle.listing.specs.Listing.{asked, tells, listing}
use Rattle.listing.specs.PiecePromises.{state, meaning_listing, BeginListing, FeedListing, FinishListing}
use Rattle.listing.specs.declared.pieces.Listing.{Listing}
use Rattle.listing.specs.declared.pieces.ListingStep.{ListingStep}

-- how many bytes an answer says were taken, and written; none where the call was refused
abbrev pub taken : Answer → ℕ
taken (refused n) = 0
taken nothing = 0
taken (gives []) = 0
taken (gives (k ∷ l)) = k

abbrev pub written : Answer → ℕ
written (refused n) = 0
written nothing = 0
written (gives []) = 0
written (gives (k ∷ [])) = 0
written (gives (k ∷ n ∷ l)) = n

-- the bytes that a call took of its piece, and those that it wrote to its output
abbrev pub taken_of : ListingStep → List ℕ → List ℕ
taken_of r piece = take (taken (meaning_listing r.answer)) piece

abbrev pub written_of : ListingStep → List ℕ → List ℕ
written_of r out = take (written (meaning_listing r.answer)) out

-- memory of other lengths than 540, 2,160 and 208 bytes
abbrev pub Misfit : List ℕ → List ℕ → List ℕ → Type 0
Misfit h m d = (length h ≡ 540) × (length m ≡ 2160) × (length d ≡ 208) → ⊥

-- A history of calls, from `begin` with these arguments on: the record and the memory that the last of them handed back, all that was taken of the input, and
-- all that was written. Each call meets its promise, and is given the record and the memory that the one before handed back. Refused calls stand among them,
-- those that lend other memory too: there three functions say what the listing's own is, given the lent bytes.
pub data History (arguments : List (List ℕ)) : Listing → List ℕ → List ℕ → List ℕ → List ℕ → List ℕ → Type 0 where
  begun : (out : List ℕ) (r : ListingStep) (out' : List ℕ) → 256 ≤ length out
      → BeginListing (length arguments) (get_or arguments 0 []) (get_or arguments 1 []) (get_or arguments 2 []) out r out'
      → History arguments r.listing (replicate 540 0) (replicate 2160 0) (replicate 208 0) [] (written_of r out')
  fed : {l : Listing} {h m d input output : List ℕ} → History arguments l h m d input output
      → (piece out : List ℕ) (r : ListingStep) (h' m' d' out' : List ℕ) → FeedListing l h m d piece out r h' m' d' out'
      → History arguments r.listing h' m' d' (input ++ taken_of r piece) (output ++ written_of r out')
  misfit : {l : Listing} {x y z input output : List ℕ} (h m d : List ℕ → List ℕ → List ℕ → List ℕ)
      → History arguments l (h x y z) (m x y z) (d x y z) input output → Misfit x y z
      → (piece out : List ℕ) (r : ListingStep) (x' y' z' out' : List ℕ) → FeedListing l x y z piece out r x' y' z' out'
      → History arguments r.listing (h x' y' z') (m x' y' z') (d x' y' z') (input ++ taken_of r piece) (output ++ written_of r out')

-- Whatever the pieces and whatever the room, what was written is what the listing says of all that was taken, in order.
abbrev pub SoFar : Type 0
SoFar =
    (arguments : List (List ℕ)) (l : Listing) (h m d input output : List ℕ) → History arguments l h m d input output
    → output ≡ tells (asked arguments) input

-- "Totals handed in above 2^62 are 12": as long as no total passes that
abbrev pub Few : Listing → Type 0
Few l = are_few (state l [] [] []).replay.totals ≡ true

-- and with the last line it is the whole listing
abbrev pub AtTheEnd : Type 0
AtTheEnd =
    (arguments : List (List ℕ)) (l : Listing) (h m d input output : List ℕ) → History arguments l h m d input output → Few l
    → (out : List ℕ) (r : ListingStep) (h' m' d' out' : List ℕ) → 256 ≤ length out → FinishListing l h m d out r h' m' d' out'
    → output ++ written_of r out' ≡ listing arguments input

-- a call goes on: it is not refused, takes something of a piece that has something, and no more than there is
pub record GoesOn (r : ListingStep) (piece : List ℕ) : Type 0 where
  pub many : ℕ
  pub wrote : ℕ
  pub answer : meaning_listing r.answer ≡ gives (many ∷ wrote ∷ [])
  pub some : 1 ≤ length piece → 1 ≤ many
  pub few : many ≤ length piece

abbrev pub Onward : Type 0
Onward =
    (arguments : List (List ℕ)) (l : Listing) (h m d input output : List ℕ) → History arguments l h m d input output → Few l
    → (piece out : List ℕ) (r : ListingStep) (h' m' d' out' : List ℕ) → 256 ≤ length out → FeedListing l h m d piece out r h' m' d' out'
    → GoesOn r piece

-- No premise above is empty: whatever the arguments, every input has a history in which all of it was taken, with totals that are few.
pub record Taken (arguments : List (List ℕ)) (input : List ℕ) : Type 0 where
  pub record_is : Listing
  pub hkroot : List ℕ
  pub mack : List ℕ
  pub memory : List ℕ
  pub output : List ℕ
  pub history : History arguments record_is hkroot mack memory input output
  pub few : Few record_is

abbrev pub AnyInput : Type 0
AnyInput = (arguments : List (List ℕ)) (input : List ℕ) → whole_pages input ≤ most → Taken arguments input

pub record ListingIsTold : Type 0 where
  pub so_far : SoFar
  pub at_the_end : AtTheEnd
  pub onward : Onward
  pub any_input : AnyInput
