-- What is told of an answer, and that the caller of a teller may go by the answer's definition.
-- Assumes nothing.
use mathlib.Core.Path.{◌≡◌, refl, ap, ◌∙◌}
use mathlib.Core.Bool.{Bool, true, false, cond}
use mathlib.Core.List.{List, [], ◌∷◌}
use Prim.Native.Nat.{ℕ, ◌<◌}
use native.Mathlib.Omega.{arith}
use lib.Dec.{T, ltb, eqb}
use lib.ListN.{length}
use borrow.Author.Tests.{ltb-true, lt-ltb, le-ltb, eq-eqb, ne_eqb}
use Rattle.std.specs.Prelude.{Result, Ok, Err, IsErrAnd, IsOkAnd, ⊤}
use Rattle.std.specs.Result.{OkIff, MatchResult, result_unwrap_or}
use Rattle.layouts.specs.Answer.{Answer, gives, ◌when◌, Copied, copied, refusal, answered}
use Rattle.layouts.specs.Refusals.{refusal_number, refused_by}
use Rattle.layouts.specs.Meaning.{meaning_number, meaning_part, meaning_done}
use Rattle.layouts.specs.Mack.{Key}
use Rattle.layouts.specs.DsmPkr.{node_part, IntermediateTreeNode}
use Rattle.layouts.specs.Maclt.{Row, row, table, row_of, entry, flx_indices, nt_of}
use Rattle.layouts.specs.MacltPromises.{FlxIndicesRead}
use Rattle.layouts.specs.declared.refusal.Refusal.{Refusal}
use Rattle.layouts.specs.declared.refusal.Refusal.TheVariants.{Argument}
use Rattle.layouts.specs.declared.part.Part.{Part}
use Rattle.layouts.specs.declared.dsm_pkr.TreeNode.{TreeNode}
use Rattle.layouts.specs.declared.maclt.FlxIndices.{FlxIndices}
use Rattle.firmware.specs.Outcome.{One, one, Two, two, Slot, slot, Bytes, bytes, Counted, counted}
use Rattle.firmware.specs.Arguments.{of_header}
use Rattle.firmware.specs.Mack.{MackKey}
use Rattle.firmware.specs.Maclt.{GetFlxIndices}
use Rattle.firmware.specs.inner.Ids.{SameId}

-- the answer is what the reader's promise says
pub told_by_lem : (b : ℕ) {x a : Answer} {o : One} → x ≡ a → o ≡ one b x → o ≡ one b a
told_by_lem b e h = h ∙ ap (one b) e

pub placed_by : (a b : ℕ) {x y : Answer} {o : Two} → x ≡ y → o ≡ two a b x → o ≡ two a b y
placed_by a b e h = h ∙ ap (two a b) e

pub slotted_by : (a b c : ℕ) {x y : Answer} {o : Slot} → x ≡ y → o ≡ slot a b c x → o ≡ slot a b c y
slotted_by a b c e h = h ∙ ap (slot a b c) e

-- a header that is no byte, and one that is
pub header_byte : {E : Type 0} {Q : E → Refusal → Type 0} (h : ℕ) (r : Result ℕ E) (s : Result ℕ Refusal) → OkIff r (h < 256) h
    → MatchResult r (λ x. s ≡ Ok x) (λ e. IsErrAnd s (Q e)) → ((e : E) (d : Refusal) → Q e d → d ≡ Argument) → meaning_number s ≡ of_header h (h ∷ [])
unfolding answered refusal
header_byte h (Ok x) s o m q = rw (m, o.1, le-ltb 255 h (omega (arith, o.0)))
header_byte h (Err e) (Err d) o m q = rw (q e d m, lt-ltb 255 h (omega (arith, o)))
header_byte h (Err e) (Ok x) o m q = absurd m

gives_one : {x h : ℕ} → gives (x ∷ []) ≡ gives (h ∷ []) → x ≡ h
gives_one e = cc

told_at : {Q : ℕ → ℕ → Type 0} (b : Bool) (h v : ℕ) (r s : Result ℕ Refusal) → meaning_number r ≡ answered (refusal (7 when b ∷ [])) (gives (h ∷ []))
    → MatchResult r (λ x. IsOkAnd s (Q x)) (λ e. s ≡ Err e) → ((x w : ℕ) → x ≡ h → Q x w → w ≡ v)
    → meaning_number s ≡ answered (refusal (7 when b ∷ [])) (gives (v ∷ []))
unfolding answered refusal
told_at b h v (Ok x) (Err d) e m q = absurd m
told_at false h v (Ok x) (Ok w) e m q = ap (λ z. gives (z ∷ [])) (q x w (gives_one e) m)
told_at true h v (Ok x) (Ok w) e m q = absurd (cc e)
told_at true h v (Err d) s e m q = rw (m, e)
told_at false h v (Err d) s e m q = absurd (cc e)

pub header_told : {Q : ℕ → ℕ → Type 0} (h v : ℕ) (r s : Result ℕ Refusal) → meaning_number r ≡ of_header h (h ∷ [])
    → MatchResult r (λ x. IsOkAnd s (Q x)) (λ e. s ≡ Err e) → ((x w : ℕ) → x ≡ h → Q x w → w ≡ v) → meaning_number s ≡ of_header h (v ∷ [])
header_told h v r s e m q = told_at (ltb 255 h) h v r s e m q

-- the number of a name is the field's
pub same_number : {v w : ℕ} {a : Answer} → gives (v ∷ []) ≡ a → a ≡ gives (w ∷ []) → v ≡ w
same_number e f = let g : gives (_ ∷ []) ≡ gives (_ ∷ []) = e ∙ f in cc

-- bytes that were copied, or not
done_told : (r : Result ⊤ Refusal) {n : ℕ} {l : List ℕ} {c : Copied} → n ≡ refused_by r
    → ◌≡◌ {A = Copied} (record { answer = meaning_done r; bytes = l }) c
    → ◌≡◌ {A = Bytes} (record { refusal = n; bytes = l }) (bytes c)
unfolding bytes
done_told (Ok x) h e = rw h (ap bytes e)
done_told (Err d) h e = rw h (ap bytes e)

pub key_told : (m : List ℕ) (k t : ℕ) (out : List ℕ) {m' : List ℕ} {k' t' : ℕ} (r : Result ⊤ Refusal) {n : ℕ} {l : List ℕ}
    → (m' ≡ m) × (k' ≡ k) × (t' ≡ t) → Key m' k' t' out r l → n ≡ refused_by r → MackKey m k t out n l
key_told m k t out r s h e = done_told r e (rw (s.0, s.1, s.2) at h)

-- where a copied part lies
pub node_told : {Q : TreeNode → Part → Type 0} (m : List ℕ) (n : ℕ) (r : Result TreeNode Refusal) (s : Result Part Refusal) → IntermediateTreeNode m n r
    → MatchResult r (λ x. IsOkAnd s (Q x)) (λ e. s ≡ Err e) → ((x : TreeNode) (w : Part) → Q x w → w ≡ x.part) → meaning_part s ≡ node_part m n
unfolding copied
node_told m n (Ok x) (Ok w) h k q = rw (q x w k) (ap (λ (c : Copied). c.answer) h)
node_told m n (Ok x) (Err d) h k q = absurd k
node_told m n (Err d) s h k q = rw k (ap (λ (c : Copied). c.answer) h)

-- a count with its bytes
abbrev refused_1 : ℕ → List ℕ → Counted
refused_1 before held = record { refusal = 1; value = before; bytes = held }

pub length_told : (before : ℕ) (held : List ℕ) (c : Counted) → (length held ≡ 4 → ⊥)
    → refused_1 before held ≡ cond (eqb (length held) 4) c (refused_1 before held)
length_told before held c ne = rw (ne_eqb (length held) 4 ne)

-- the indices of an ID that the table takes for another
module _ (before : ℕ) (held : List ℕ) (m j : ℕ) {i : ℕ} {r : Result FlxIndices Refusal} (h : length held ≡ 4) (id : SameId i j) (e : FlxIndicesRead i m r) where
  pub flx_refused : {d : Refusal} {n : ℕ} → r ≡ Err d → n ≡ refusal_number d → GetFlxIndices j m before held n before held
  unfolding counted
  flx_refused g f = rw (eq-eqb (length held) 4 h, f) (rw g at (ap (counted before held) (e ∙ id.indices m)))

  pub flx_told : {t : FlxIndices} {v : ℕ} {l : List ℕ} → r ≡ Ok t → v ≡ t.count → l ≡ t.indices → GetFlxIndices j m before held 0 v l
  unfolding counted
  flx_told g f k = rw (eq-eqb (length held) 4 h, f, k) (rw g at (ap (counted before held) (e ∙ id.indices m)))

-- no ID of the table is wider than a byte
abbrev bytes_only : List Row → Bool
bytes_only [] = true
bytes_only (r ∷ rs) = cond (ltb r.id 256) (bytes_only rs) false

wide_row : (i : ℕ) (rs : List Row) → T (bytes_only rs) → 255 < i → row_of i rs ≡ row i 0 [] []
wide_row i [] t h = refl
wide_row i (r ∷ rs) t h = go (ltb r.id 256) refl (λ u. wide_row i rs u h) t
  where
    go : (b : Bool) → ltb r.id 256 ≡ b → (T (bytes_only rs) → row_of i rs ≡ row i 0 [] []) → T (cond b (bytes_only rs) false)
        → row_of i (r ∷ rs) ≡ row i 0 [] []
    go true e ih t = rw (ne_eqb i r.id (λ z. omega (arith, ltb-true r.id 256 e))) (ih t)
    go false e ih t = absurd t

wide_id : (i : ℕ) → 255 < i → SameId 0 i
unfolding table entry flx_indices nt_of
wide_id i h =
    let e : row_of i table ≡ row i 0 [] [] = wide_row i table tt h in
    record { entries = λ m t. rw e; indices = λ m. rw e; tags = rw e }

same_id : (i : ℕ) → SameId i i
same_id i = record { entries = λ m t. refl; indices = λ m. refl; tags = refl }

pub byte_id : {E : Type 0} (i : ℕ) (r : Result ℕ E) → OkIff r (i < 256) i → SameId (result_unwrap_or r 0) i
byte_id i (Ok x) o = rw o.1 (same_id i)
byte_id i (Err e) o = wide_id i (omega (arith, o))
