-- Laws of texts that are put into the caller's room.
-- Assumes nothing.
use Prim.Native.Nat.{ℕ, ◌+◌, ◌≤◌}
use native.Mathlib.Nat.{add-zero}
use native.Mathlib.Omega.{arith}
use mathlib.Core.Path.{◌≡◌, sym, ap, ◌∙◌, subst}
use mathlib.Core.List.{List, [], ◌∷◌, ◌++◌, append-nil}
use lib.ListN.{length, take, drop, length-append, take-append-drop}
use Rattle.texts.specs.Decimal.{most}
use Rattle.texts.specs.Lines.{line, subframe_parts, dsm_parts, totals_parts, refused_parts}
use Rattle.texts.specs.Puts.{PutText}
use Rattle.std.specs.Prelude.{Result, Ok, Err, Option, Some, None}
use Rattle.std.specs.Result.{is_ok, IsOk}
use Rattle.layouts.specs.Answer.{refused, gives}
use Rattle.layouts.specs.Refusals.{refusal_number}
use Rattle.layouts.specs.declared.refusal.Refusal.{Refusal}
use Rattle.texts.proofs.PutTexts.{put_fits}
use Rattle.texts.proofs.Written.{put, put_put, subframe_few, dsm_few, totals_few, refused_few}
use Rattle.page_replay.specs.ReplayPromises.{meaning_subframes, meaning_dsms}
use Rattle.page_replay.specs.declared.replay.SubframeDone.{SubframeDone}
use Rattle.page_replay.specs.declared.replay.DsmDone.{DsmDone}
use Rattle.listing.specs.Listing.{subframe_lines, dsm_lines}
use Rattle.listing.specs.inner.Puts.{Puts}

-- a text that has room
text_ends : (s out : List ℕ) (at : ℕ) (e : Result ℕ Refusal) {after : List ℕ} → at + length s ≤ length out → PutText s out at e after → e ≡ Ok (at + length s)
text_ends s out at (Ok n) h p =
    let f : gives (n ∷ []) ≡ gives ((at + length s) ∷ []) = (put_fits s out at (Ok n) h p).0 in
    let same : n ≡ at + length s = cc in
    ap Ok same
text_ends s out at (Err q) h p =
    let f : refused (refusal_number q) ≡ gives ((at + length s) ∷ []) = (put_fits s out at (Err q) h p).0 in
    let z : ◌≡◌ {A = ℕ} 0 1 = cc in absurd (omega arith)

ends_at : {n k : ℕ} → ◌≡◌ {A = Result ℕ Refusal} (Ok n) (Ok k) → n ≡ k
ends_at e = cc

-- it is put, and ends there
pub record Fits (s out : List ℕ) (at : ℕ) (e : Result ℕ Refusal) (after : List ℕ) : Type 0 where
  pub is_there : IsOk e
  pub puts : (r : ℕ) → e ≡ Ok r → Puts s out at after r

puts_text : (s out : List ℕ) (at : ℕ) (e : Result ℕ Refusal) (after : List ℕ) → at + length s ≤ length out → PutText s out at e after → Fits s out at e after
puts_text s out at e after h p =
    let there = text_ends s out at e h p in
    record {
      is_there = ap is_ok there;
      puts = λ r q. record { bytes = (put_fits s out at e h p).1; ends = ends_at (sym q ∙ there) };
    }

puts_same : {s t out after : List ℕ} {at end : ℕ} → s ≡ t → Puts s out at after end → Puts t out at after end
puts_same {out = out} {after = after} {at = at} {end = end} e p = subst (λ (l : List ℕ). Puts l out at after end) e p

-- nothing
puts_none : (out : List ℕ) (at : ℕ) → Puts [] out at out at
puts_none out at =
    record {
      bytes =
          sym
          (ap (λ (l : List ℕ). l ++ drop (at + 0) out) (append-nil (take at out)) ∙ ap (λ (k : ℕ). take at out ++ drop k out) (add-zero at)
          ∙ take-append-drop at out);
      ends = sym (add-zero at);
    }

-- The S line, or none.
pub s_line : (satellite w t : ℕ) (out : List ℕ) (e : Result ℕ Refusal) (after : List ℕ) → satellite ≤ most → w ≤ most → t ≤ most → 256 ≤ length out
    → PutText (line (subframe_parts satellite w t)) out 0 e after → Fits (line (subframe_parts satellite w t)) out 0 e after
s_line satellite w t out e after hs hw ht room p =
    let few = subframe_few satellite w t hs hw ht in puts_text (line (subframe_parts satellite w t)) out 0 e after (omega arith) p

pub s_few : (satellite w t : ℕ) (out : List ℕ) {after : List ℕ} {r : ℕ} → satellite ≤ most → w ≤ most → t ≤ most
    → Puts (line (subframe_parts satellite w t)) out 0 after r → r ≤ 96
s_few satellite w t out hs hw ht p = let few = subframe_few satellite w t hs hw ht in omega (arith, p.ends)

pub no_subframe : (satellite : ℕ) (out : List ℕ) {d : Option SubframeDone} → d ≡ None → Puts (subframe_lines satellite (meaning_subframes d)) out 0 out 0
no_subframe satellite out {d} e = rw e (puts_none out 0)

pub a_subframe :
    (satellite : ℕ) {w t : ℕ} (out : List ℕ) {d : Option SubframeDone} {after : List ℕ} {r : ℕ} → d ≡ Some (record { week = w; time = t })
    → Puts (line (subframe_parts satellite w t)) out 0 after r
    → Puts (subframe_lines satellite (meaning_subframes d)) out 0 after r
a_subframe satellite {w} {t} out {d} e k = rw e (puts_same (sym (append-nil (line (subframe_parts satellite w t)))) k)

-- The D line, or none.
pub d_line : (i n at : ℕ) (out : List ℕ) (e : Result ℕ Refusal) (after : List ℕ) → i ≤ most → n ≤ most → at + 96 ≤ length out
    → PutText (line (dsm_parts i n)) out at e after → Fits (line (dsm_parts i n)) out at e after
d_line i n at out e after hi hn room p = let few = dsm_few i n hi hn in puts_text (line (dsm_parts i n)) out at e after (omega arith) p

pub no_dsm : (out : List ℕ) (at : ℕ) {d : Option DsmDone} → d ≡ None → Puts (dsm_lines (meaning_dsms d)) out at out at
no_dsm out at {d} e = rw e (puts_none out at)

pub a_dsm : {i n : ℕ} (at : ℕ) (out : List ℕ) {d : Option DsmDone} {after : List ℕ} {r : ℕ} → d ≡ Some (record { id = i; bytes = n }) → Puts (line (dsm_parts i n)) out at after r
    → Puts (dsm_lines (meaning_dsms d)) out at after r
a_dsm {i} {n} at out {d} e k = rw e (puts_same (sym (append-nil (line (dsm_parts i n)))) k)

-- The other lines.
pub a_refusal : (n : ℕ) (out : List ℕ) (e : Result ℕ Refusal) (after : List ℕ) → n ≤ most → 256 ≤ length out
    → PutText (line (refused_parts n)) out 0 e after → Fits (line (refused_parts n)) out 0 e after
a_refusal n out e after h room p = let few = refused_few n h in puts_text (line (refused_parts n)) out 0 e after (omega arith) p

pub all_totals : (a b c d s t : ℕ) (out : List ℕ) (e : Result ℕ Refusal) (after : List ℕ)
    → a ≤ most → b ≤ most → c ≤ most → d ≤ most → s ≤ most → t ≤ most → 256 ≤ length out
    → PutText (line (totals_parts a b c d s t)) out 0 e after → Fits (line (totals_parts a b c d s t)) out 0 e after
all_totals a b c d s t out e after ha hb hc hd hs ht room p =
    let few = totals_few a b c d s t ha hb hc hd hs ht in puts_text (line (totals_parts a b c d s t)) out 0 e after (omega arith) p

-- One after the other.
pub puts_both : {s t out mid after : List ℕ} {at end : ℕ} → Puts s out 0 mid at → Puts t mid at after end → Puts (s ++ t) out 0 after end
puts_both {s} {t} {out} {mid} {after} {at} p q =
    let a : at ≡ 0 + length s = p.ends in
    record {
      bytes = q.bytes ∙ ap (λ (l : List ℕ). put l at t) p.bytes ∙ ap (λ (k : ℕ). put (put out 0 s) k t) a ∙ put_put out 0 s t (omega arith);
      ends = q.ends ∙ omega (arith, a, length-append s t);
    }
