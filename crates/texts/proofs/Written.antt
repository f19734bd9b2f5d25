-- Laws of lines in a buffer.
-- Assumes nothing.
use mathlib.Core.Path.{◌≡◌, refl, sym, ap, ◌∙◌, subst}
use mathlib.Core.List.{List, [], ◌∷◌, ◌++◌, append_assoc}
use Prim.Native.Nat.{ℕ, ◌+◌, ◌/◌, ◌%◌, ◌≤◌, ◌<◌}
use native.Mathlib.Omega.{arith}
use native.Mathlib.Numerals.{add-one}
use lib.ListN.{length, get_or, take, drop, set, length-append, length-drop, length-set}
use lib.Seq.{paste, paste-suc, take-length, append_snoc, take_at, drop-append-add, drop-drop, set_split, length-take-le}
use Rattle.std.proofs.lemmas.List.{take-append-drop}
use Rattle.texts.specs.Decimal.{digits, most}
use Rattle.layouts.specs.Lists.{put as put_at}
use Rattle.texts.specs.Lines.{Part, bytes, line, wrote, written, subframe_parts, dsm_parts, totals_parts, refused_parts}
use Rattle.texts.specs.inner.Begun.{Begun}
use Rattle.texts.specs.inner.Counts.{Counts}
use Rattle.texts.proofs.Decimals.{digits_one, digits_ten, digits_few}

-- bytes in a buffer, from `at` on
abbrev pub put : List ℕ → ℕ → List ℕ → List ℕ
put out at s = put_at out at (length s) s

-- what stands before the end of what was put
before : (m : List ℕ) (at : ℕ) (s : List ℕ) → at ≤ length m → length (take at m ++ s) ≡ at + length s
before m at s h = length-append (take at m) s ∙ ap (λ (k : ℕ). k + length s) (length-take-le at m h)

-- one after the other
pub put_put : (m : List ℕ) (at : ℕ) (s t : List ℕ) → at ≤ length m → put (put m at s) (at + length s) t ≡ put m at (s ++ t)
put_put m at s t h =
    let l = length-append s t in
    let end : at + length s + length t ≡ at + length (s ++ t) = omega arith in
    let front : take (at + length s) (put m at s) ≡ take at m ++ s = take_at (take at m ++ s) (drop (at + length s) m) (at + length s) (before m at s h) in
    let back : drop (at + length s + length t) (put m at s) ≡ drop (at + length (s ++ t)) m =
    subst (λ (k : ℕ). drop (k + length t) (put m at s) ≡ drop (at + length (s ++ t)) m) (before m at s h)
    (drop-append-add (take at m ++ s) (drop (at + length s) m) (length t)
    ∙ drop-drop (length t) (at + length s) m
    ∙ ap (λ (k : ℕ). drop k m) end) in
    rw (front, back) (ap (λ (l : List ℕ). l ++ drop (at + length (s ++ t)) m) (append_assoc (take at m) s t))

pub length_put : (m : List ℕ) (at : ℕ) (s : List ℕ) → at + length s ≤ length m → length (put m at s) ≡ length m
length_put m at s h =
    length-append (take at m ++ s) (drop (at + length s) m)
    ∙ (let b = before m at s (omega arith) in let d = length-drop (at + length s) m in omega arith)

-- byte by byte
pub paste_none : (m : List ℕ) (at : ℕ) (s : List ℕ) → m ≡ paste m at s 0
paste_none m at [] = let z : at + 0 ≡ at = omega arith in rw z (sym (append_assoc (take at m) [] (drop at m) ∙ take-append-drop at m))
paste_none m at (c ∷ s) = let z : at + 0 ≡ at = omega arith in rw z (sym (append_assoc (take at m) [] (drop at m) ∙ take-append-drop at m))

module _ (m : List ℕ) (at : ℕ) (s : List ℕ) (k : ℕ) {out : List ℕ} (e : out ≡ paste m at s k) where
  pub paste_more : {x : ℕ} → x ≡ get_or s k 0 → k < length s → at + length s ≤ length m → set out (at + k) x ≡ paste m at s (k + 1)
  paste_more q h g = rw (e, q, add-one k) (paste-suc m at s k 0 (omega arith) (omega arith))

  pub paste_done : k ≡ length s → out ≡ put m at s
  paste_done q = rw q at e ∙ ap (λ (l : List ℕ). take at m ++ l ++ drop (at + length s) m) (take-length s)

-- a byte
pub set_put : (m : List ℕ) (at d : ℕ) → at + 1 ≤ length m → set m at d ≡ put m at (d ∷ [])
set_put m at d h =
    set_split m at d (omega arith)
    ∙ ap (λ (k : ℕ). take at m ++ d ∷ drop k m) (sym (add-one at))
    ∙ sym (append_snoc (take at m) d (drop (at + 1) m))

-- a byte more
pub put_byte : (m : List ℕ) (at : ℕ) (s : List ℕ) (d : ℕ) → at + length s < length m → set (put m at s) (at + length s) d ≡ put m at (s ++ (d ∷ []))
put_byte m at s d h =
    let room : at + length s + 1 ≤ length (put m at s) = rw (length_put m at s (omega arith)) (omega arith) in
    set_put (put m at s) (at + length s) d room ∙ put_put m at s (d ∷ []) (omega arith)

-- a number, digit by digit
pub one_digit :
    (m : List ℕ) (at n : ℕ) → n < 10 → at + length (digits n) ≤ length m
    → (set m at (48 + n) ≡ put m at (digits n)) × (at + 1 ≡ at + length (digits n))
one_digit m at n h r =
    let d = digits_one n h in
    let room : at + 1 ≤ length m = rw d at r in
    rw d (set_put m at (48 + n) room, refl)

pub digit_more :
    (m : List ℕ) (at n : ℕ) {l : List ℕ} {e : ℕ} → 10 ≤ n → at + length (digits n) ≤ length m → l ≡ put m at (digits (n / 10))
    → e ≡ at + length (digits (n / 10))
    → (set l e (48 + n % 10) ≡ put m at (digits n)) × (e + 1 ≡ at + length (digits n))
digit_more m at n {l} {e} h r p q =
    let d = digits_ten n h in
    let a = length-append (digits (n / 10)) ((48 + n % 10) ∷ []) in
    let s : length (digits n) ≡ length (digits (n / 10)) + 1 = ap length d ∙ a in
    (rw (p, q, d) (put_byte m at (digits (n / 10)) (48 + n % 10) (omega arith)), omega arith)

-- A line goes on.
pub begun_none : (m : List ℕ) → Begun m [] m 0
begun_none m = record { room = omega arith; end = refl; bytes = refl }

pub begun_more :
    (m s w : List ℕ) {out next : List ℕ} {at r : ℕ} → at + length w ≤ length out → next ≡ put out at w → r ≡ at + length w → Begun m s out at
    → Begun m (s ++ w) next r
begun_more m s w {out} {next} {at} {r} h n e b =
    let a = length-append s w in
    let z : 0 + length s ≡ length s = omega arith in
    let o : length out ≡ length m = ap length b.bytes ∙ length_put m 0 s (omega (arith, b.room)) in
    record {
      room = omega (arith, b.end);
      end = omega (arith, b.end);
      bytes = rw (n, b.bytes, b.end) (ap (λ (k : ℕ). put (put m 0 s) k w) (sym z) ∙ put_put m 0 s w (omega arith));
    }

-- Words, and the number behind them.
pub begun_part :
    (m s w : List ℕ) (n : ℕ) {out mid next : List ℕ} {at end r : ℕ} → at + length w + 20 ≤ length out → n ≤ most → mid ≡ put out at w
    → end ≡ at + length w → next ≡ put mid end (digits n)
    → r ≡ end + length (digits n) → Begun m s out at → Begun m (s ++ (w ++ digits n)) next r
begun_part m s w n {out} {mid} {next} {at} {end} {r} h f e p q t b =
    let few = digits_few n f in
    let l : length mid ≡ length out = ap length e ∙ length_put out at w (omega arith) in
    subst (λ (k : List ℕ). Begun m k next r) (append_assoc s w (digits n))
    (begun_more m (s ++ w) (digits n) (omega arith) q t (begun_more m s w (omega arith) e p b))

-- A line is done.
pub begun_end : (m s out : List ℕ) (at : ℕ) → at + 1 ≤ length out → Begun m s out at → Begun m (s ++ (10 ∷ [])) (set out at 10) (at + 1)
begun_end m s out at h b = begun_more m s (10 ∷ []) h (set_put out at 10 h) refl b

pub end_counts : (out : List ℕ) (at : ℕ) → at + 1 ≤ length out → Counts (at + 1) (set out at 10)
end_counts out at h =
    let l = length-set out at 10 in let k : at + 1 ≤ length (set out at 10) = omega arith in (k, sym (length-take-le (at + 1) (set out at 10) k))

-- a line, from the left: what is begun, and the parts that are to come
abbrev pub joined : List ℕ → List Part → List ℕ
joined s [] = s ++ (10 ∷ [])
joined s (p ∷ ps) = joined (s ++ (bytes p.words ++ digits p.number)) ps

joined_line : (s : List ℕ) (ps : List Part) → joined s ps ≡ s ++ line ps
unfolding line
joined_line s [] = refl
joined_line s (p ∷ ps) = joined_line (s ++ (bytes p.words ++ digits p.number)) ps ∙ append_assoc s (bytes p.words ++ digits p.number) (line ps)

pub line_done : (m : List ℕ) (ps : List Part) {out : List ℕ} {r : ℕ} → Begun m (joined [] ps) out r → wrote r out ≡ written ps m
line_done m ps {out} {r} b =
    let e : joined [] ps ≡ line ps = joined_line [] ps in
    rw (← e) (go b.end b.bytes)
  where
    go : r ≡ length (joined [] ps) → out ≡ put m 0 (joined [] ps) → wrote r out ≡ wrote (length (joined [] ps)) (put m 0 (joined [] ps))
    go p q = rw (p, q)

-- the part of a buffer that was put at its start
pub taken : (m s : List ℕ) {out : List ℕ} {n : ℕ} → out ≡ put m 0 s → n ≡ length s → take n out ≡ s
taken m s e h = rw (e, h) (take_at s (drop (0 + length s) m) (length s) refl)

-- How long a line can be: its words, and twenty digits for each number.
abbrev pub most_of : List Part → ℕ
most_of [] = 1
most_of (p ∷ ps) = length (bytes p.words) + 20 + most_of ps

abbrev pub AllFit : List Part → Type 0
AllFit [] = Unit {0}
AllFit (p ∷ ps) = (p.number ≤ most) × AllFit ps

pub line_few : (ps : List Part) → AllFit ps → length (line ps) ≤ most_of ps
unfolding line
line_few [] f = omega arith
line_few (p ∷ ps) f =
    let a = length-append (bytes p.words ++ digits p.number) (line ps) in
    let b = length-append (bytes p.words) (digits p.number) in
    omega (arith, a, b, digits_few p.number f.0, line_few ps f.1)

-- of each line, for numbers of 64 bits
pub subframe_few : (satellite week time : ℕ) → satellite ≤ most → week ≤ most → time ≤ most → length (line (subframe_parts satellite week time)) ≤ 65
unfolding bytes
subframe_few satellite week time a b c = line_few (subframe_parts satellite week time) (a, (b, (c, tt)))

pub dsm_few : (id many : ℕ) → id ≤ most → many ≤ most → length (line (dsm_parts id many)) ≤ 44
unfolding bytes
dsm_few id many a b = line_few (dsm_parts id many) (a, (b, tt))

pub totals_few :
    (pages skipped subframes dsms silent tail : ℕ) → pages ≤ most → skipped ≤ most → subframes ≤ most → dsms ≤ most → silent ≤ most → tail ≤ most
    → length (line (totals_parts pages skipped subframes dsms silent tail)) ≤ 167
unfolding bytes
totals_few pages skipped subframes dsms silent tail a b c d e f =
    line_few (totals_parts pages skipped subframes dsms silent tail) (a, (b, (c, (d, (e, (f, tt))))))

pub refused_few : (n : ℕ) → n ≤ most → length (line (refused_parts n)) ≤ 29
unfolding bytes
refused_few n a = line_few (refused_parts n) (a, tt)
