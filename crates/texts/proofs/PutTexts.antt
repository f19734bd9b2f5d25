-- Laws of texts put into a lent buffer.
-- Assumes nothing.
use mathlib.Core.Path.{◌≡◌, refl, sym, ap, ◌∙◌, subst}
use mathlib.Core.List.{List, [], ◌∷◌}
use mathlib.Core.Bool.{Bool, true, false, not}
use Prim.Native.Nat.{ℕ, ◌+◌, ◌*◌, ◌/◌, ◌≤◌, ◌<◌}
use native.Mathlib.Nat.{zero-add}
use lib.ListN.{length, take}
use Rattle.std.specs.Prelude.{Result, Ok, Err}
use Rattle.std.specs.Result.{IsErrAnd}
use Rattle.layouts.specs.Refusals.{refusal_number}
use Rattle.layouts.specs.declared.refusal.Refusal.{Refusal}
use Rattle.layouts.specs.declared.refusal.Refusal.TheVariants.{Argument}
use Rattle.layouts.proofs.Answers.{stop_n, pass_n, none_n, none_fails}
use Rattle.layouts.proofs.Refused.{number_some, carried, err_on, ok_on}
use borrow.Author.Tests.{lt-leb, le-leb, leb-true, not-false, ne_eqb}
use Rattle.layouts.specs.Answer.{gives, Check, ◌when◌, refusal}
use Rattle.texts.specs.Puts.{Puts, meaning_end, many_check, room_check, puts, outcome, text_put, PutText, bytes_put}
use Rattle.texts.specs.Lines.{Part, line, Written, wrote, written}
use Rattle.texts.specs.Hexadecimal.{is_hexadecimal, bytes_of, capitals}
use Rattle.texts.proofs.Hexadecimals.{bytes_long, capitals_long}
use Rattle.texts.proofs.Written.{put, taken}

-- room for so many bytes
module _ (long at many : ℕ) where
  pub room_off : long < at + many → 1 ≡ refusal (many_check long at many ∷ [])
  room_off h = stop_n 1 _ [] (ap not (lt-leb (at + many) long h))

  pub room_on : at + many ≤ long → 0 ≡ refusal (many_check long at many ∷ [])
  room_on h = pass_n 1 _ [] (ap not (le-leb (at + many) long h)) none_n

  pub fits : 0 ≡ refusal (many_check long at many ∷ []) → at + many ≤ long
  fits z = leb-true (at + many) long (not-false _ (none_fails (many_check long at many ∷ []) tt (sym z)).0)

pub hex_text : (text : List ℕ) {b : Bool} → b ≡ is_hexadecimal text → not b ≡ false → is_hexadecimal text ≡ true
hex_text text e t = sym e ∙ not-false _ t

-- what is answered, by the checks
module _ (checks : List Check) (s out : List ℕ) (at : ℕ) where
  puts_refused : (e : Refusal) → refusal_number e ≡ refusal checks → outcome (Err e) out ≡ puts checks s out at
  unfolding puts
  puts_refused e h = rw (← h, ne_eqb (refusal_number e) 0 (number_some e))

  puts_given : 0 ≡ refusal checks → {r : ℕ} {m : List ℕ} → r ≡ at + length s → m ≡ put out at s → outcome (Ok r) m ≡ puts checks s out at
  unfolding puts
  puts_given z h g = rw (← z, h, g)

-- a text for which there is no room, or there is
module _ (s out : List ℕ) (at : ℕ) where
  pub text_off : (r : Result ℕ Refusal) (e : Refusal) → IsErrAnd r (λ (f : Refusal). f ≡ e) → refusal_number e ≡ refusal (room_check s out at ∷ [])
      → outcome r out ≡ text_put s out at
  text_off r e i h = rw (carried r i) (puts_refused (room_check s out at ∷ []) s out at e h)

  pub text_on : 0 ≡ refusal (room_check s out at ∷ []) → {r : ℕ} {m : List ℕ} → r ≡ at + length s → m ≡ put out at s → outcome (Ok r) m ≡ text_put s out at
  text_on z h g = puts_given (room_check s out at ∷ []) s out at z h g

-- hexadecimal digits: the same, by the number of bytes
module _ (bytes out : List ℕ) (at : ℕ) where
  digits_room : {q : ℕ} → q ≡ refusal (many_check (length out) at (2 * length bytes) ∷ []) → q ≡ refusal (room_check (capitals bytes) out at ∷ [])
  digits_room h = rw (capitals_long bytes) h

  pub digits_off : (r : Result ℕ Refusal) (e : Refusal) → IsErrAnd r (λ (f : Refusal). f ≡ e)
      → refusal_number e ≡ refusal (many_check (length out) at (2 * length bytes) ∷ []) → outcome r out ≡ text_put (capitals bytes) out at
  digits_off r e i h = text_off (capitals bytes) out at r e i (digits_room h)

  pub digits_on : 0 ≡ refusal (many_check (length out) at (2 * length bytes) ∷ []) → {r : ℕ} {m : List ℕ} → r ≡ at + length (capitals bytes)
      → m ≡ put out at (capitals bytes) → outcome (Ok r) m ≡ text_put (capitals bytes) out at
  digits_on z h g = text_on (capitals bytes) out at (digits_room z) h g

-- reading them: room for the bytes, then what the text is
abbrev text_checks : List ℕ → List Check
text_checks text = 7 when not (is_hexadecimal text) ∷ []

module _ (text out : List ℕ) (at : ℕ) where
  bytes_room : {q : ℕ} → q ≡ refusal (many_check (length out) at (length text / 2) ∷ []) → q ≡ refusal (room_check (bytes_of text) out at ∷ [])
  bytes_room h = rw (bytes_long text) h

  pub read_behind : (r : Result ℕ Refusal) (e : Refusal) → IsErrAnd r (λ (f : Refusal). f ≡ e)
      → refusal_number e ≡ refusal (many_check (length out) at (length text / 2) ∷ []) → outcome r out ≡ bytes_put text out at
  read_behind r e i h =
      rw (carried r i)
      (puts_refused (room_check (bytes_of text) out at ∷ text_checks text) (bytes_of text) out at e
      (err_on (room_check (bytes_of text) out at ∷ []) (text_checks text) e (bytes_room h)))

  module _ (z : 0 ≡ refusal (many_check (length out) at (length text / 2) ∷ [])) {d : Bool} (f : d ≡ is_hexadecimal text) where
    passes : {q : ℕ} → q ≡ refusal (text_checks text) → q ≡ refusal (room_check (bytes_of text) out at ∷ text_checks text)
    passes h = ok_on (room_check (bytes_of text) out at ∷ []) (text_checks text) tt (bytes_room z) h

    pub read_off : not d ≡ true → outcome (Err Argument) out ≡ bytes_put text out at
    read_off k =
        puts_refused (room_check (bytes_of text) out at ∷ text_checks text) (bytes_of text) out at Argument
        (passes (stop_n 7 _ [] (ap not (sym f) ∙ k)))

    pub read_on : not d ≡ false → {r : ℕ} {m : List ℕ} → r ≡ at + length (bytes_of text) → m ≡ put out at (bytes_of text)
        → outcome (Ok r) m ≡ bytes_put text out at
    read_on k h g =
        puts_given (room_check (bytes_of text) out at ∷ text_checks text) (bytes_of text) out at (passes (pass_n 7 _ [] (ap not (sym f) ∙ k) none_n)) h g

-- a text that was made at the start of a buffer of its own; a line, likewise
module _ (m : List ℕ) where
  pub put_taken : (s before : List ℕ) (at : ℕ) (r : Result ℕ Refusal) {out after : List ℕ} {n : ℕ} → out ≡ put m 0 s → n ≡ 0 + length s
      → PutText (take n out) before at r after → PutText s before at r after
  put_taken s before at r {after = after} e h p =
      subst (λ (w : List ℕ). PutText w before at r after) (taken m s e (h ∙ zero-add (length s))) p

  pub line_taken : (ps : List Part) (before : List ℕ) (at : ℕ) (r : Result ℕ Refusal) {out after : List ℕ} {n : ℕ} → wrote n out ≡ written ps m
      → PutText (take n out) before at r after → PutText (line ps) before at r after
  line_taken ps before at r e p =
      let many = ap (λ (x : Written). x.many) e ∙ sym (zero-add (length (line ps))) in
      put_taken (line ps) before at r (ap (λ (x : Written). x.out) e) many p

-- what is known where there is room
pub put_fits : (s before : List ℕ) (at : ℕ) (r : Result ℕ Refusal) {after : List ℕ} → at + length s ≤ length before → PutText s before at r after
    → (meaning_end r ≡ gives ((at + length s) ∷ [])) × (after ≡ put before at s)
put_fits s before at r {after} h p =
    let q = p ∙ sym (text_on s before at (room_on (length before) at (length s) h) refl refl) in
    (ap (λ (x : Puts). x.answer) q, ap (λ (x : Puts). x.out) q)
