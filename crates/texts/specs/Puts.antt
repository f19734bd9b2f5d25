-- Texts put into a lent buffer, from a place `at` on.
-- Assumes nothing.
use Rattle.std.specs.Prelude.{ℕ, ◌+◌, ◌≡◌, List, [], ◌∷◌, cond, not, length, leb, eqb, Result, ⊤}
use Rattle.layouts.specs.Answer.{Answer, refused, gives, Check, ◌when◌, refusal}
use Rattle.layouts.specs.Lists.{put}
use Rattle.layouts.specs.Refusals.{refused_by, answer_of}
use Rattle.layouts.specs.declared.refusal.Refusal.{Refusal}
use Rattle.texts.specs.Decimal.{digits}
use Rattle.texts.specs.Hexadecimal.{capitals, is_hexadecimal, bytes_of}

-- what is answered, and the buffer then
pub record Puts : Type 0 where
  pub answer : Answer
  pub out : List ℕ

-- where the text ends
abbrev pub meaning_end : Result ℕ Refusal → Answer
meaning_end r = answer_of (λ n. n ∷ []) r

-- "a lent slice hasn't the stated length": there is no room for all of the text
abbrev pub many_check : ℕ → ℕ → ℕ → Check
many_check long at many = 1 when not (leb (at + many) long)

abbrev pub room_check : List ℕ → List ℕ → ℕ → Check
room_check s out at = many_check (length out) at (length s)

-- the code's answer to that alone
abbrev pub HasRoom : ℕ → ℕ → ℕ → Result ⊤ Refusal → Type 0
HasRoom long at many r = refused_by r ≡ refusal (many_check long at many ∷ [])

-- the text goes to `at`, and its end is answered, where the checks pass; what stands before and behind it stays
unfoldable pub puts : List Check → List ℕ → List ℕ → ℕ → Puts
puts checks s out at =
    cond (eqb (refusal checks) 0) (record { answer = gives ((at + length s) ∷ []); out = put out at (length s) s })
    (record { answer = refused (refusal checks); out = out })

abbrev pub outcome : Result ℕ Refusal → List ℕ → Puts
outcome r out = record { answer = meaning_end r; out = out }

-- any text: room for it is all that is asked
abbrev pub text_put : List ℕ → List ℕ → ℕ → Puts
text_put s out at = puts (room_check s out at ∷ []) s out at

abbrev pub PutText : List ℕ → List ℕ → ℕ → Result ℕ Refusal → List ℕ → Type 0
PutText s before at r after = outcome r after ≡ text_put s before at

abbrev pub PutWords : List ℕ → ℕ → List ℕ → Result ℕ Refusal → List ℕ → Type 0
PutWords before at words r after = PutText words before at r after

abbrev pub PutNumber : List ℕ → ℕ → ℕ → Result ℕ Refusal → List ℕ → Type 0
PutNumber before at n r after = PutText (digits n) before at r after

abbrev pub PutHexadecimal : List ℕ → ℕ → List ℕ → Result ℕ Refusal → List ℕ → Type 0
PutHexadecimal before at bytes r after = PutText (capitals bytes) before at r after

abbrev pub PutNewline : List ℕ → ℕ → Result ℕ Refusal → List ℕ → Type 0
PutNewline before at r after = PutText (10 ∷ []) before at r after

-- the bytes that a text spells: room for them, and then 7, "another argument outside its stated range", for a text that is not hexadecimal
abbrev pub bytes_put : List ℕ → List ℕ → ℕ → Puts
bytes_put text out at = puts (room_check (bytes_of text) out at ∷ 7 when not (is_hexadecimal text) ∷ []) (bytes_of text) out at

abbrev pub ReadHexadecimal : List ℕ → ℕ → List ℕ → Result ℕ Refusal → List ℕ → Type 0
ReadHexadecimal before at text r after = outcome r after ≡ bytes_put text before at
