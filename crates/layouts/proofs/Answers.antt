-- Laws of checks and answers.
-- Assumes nothing.
use mathlib.Core.Path.{◌≡◌, refl, sym, ap, ◌∙◌, subst}
use mathlib.Core.List.{List, [], ◌∷◌, ◌++◌}
use mathlib.Core.Bool.{Bool, true, false, cond, not}
use Prim.Native.Nat.{ℕ, zero, suc, ◌+◌, ◌≤◌}
use native.Mathlib.Omega.{arith}
use lib.ListN.{take, drop, replicate}
use lib.Dec.{T, ltb, eqb, eqb-suc-zero}
use borrow.Author.Tests.{lt-ltb, le-ltb, lt-leb, le-leb, eq-eqb, ne_eqb}
use Rattle.layouts.specs.inner.Code.{Inside}
use Rattle.layouts.specs.Meaning.{meaning_part}
use Rattle.layouts.specs.declared.part.Part.{Part}
use Rattle.layouts.specs.declared.refusal.Refusal.{Refusal}
use Rattle.std.specs.Prelude.{Result, Ok, Err}
use Rattle.layouts.specs.Answer.{shown, Copied, copied, Answer, refused, gives, Check, ◌when◌, refusal, answered}

-- the tests of a definition, from the tests of the code
pub ruleset tests = (lt-ltb, le-ltb, lt-leb, le-leb, eq-eqb, ne_eqb)

-- a check that fails: its number
pub stop : (n : ℕ) (b : Bool) (cs : List Check) (a : Answer) → T (ltb 0 n) → b ≡ true → refused n ≡ answered (refusal (n when b ∷ cs)) a
unfolding refusal answered
stop zero b cs a t e = absurd t
stop (suc n) b cs a t e = rw (e, eqb-suc-zero)

-- a check that does not: what the others say
pub pass : (n : ℕ) (b : Bool) (cs : List Check) (a : Answer) {r : Answer} → b ≡ false → r ≡ answered (refusal cs) a → r ≡ answered (refusal (n when b ∷ cs)) a
unfolding refusal
pass n b cs a e h = rw e h

-- none is left: the answer
pub done : (a : Answer) {r : Answer} → r ≡ a → r ≡ answered (refusal []) a
unfolding refusal answered
done a e = e

pub ruleset checks = (stop, pass, done, tt, refl, tests)

-- Where the first checks were a callee's, what its answer tells of them.
number_of : (q : ℕ) (l : List ℕ) (n : ℕ) → refused n ≡ answered q (gives l) → q ≡ n
unfolding answered
number_of zero l n e = let z : ◌≡◌ {A = ℕ} zero n = cc in z
number_of (suc q) l n e = let f : refused n ≡ refused (suc q) = rw eqb-suc-zero at e in cc

none_of : (q : ℕ) (l k : List ℕ) → gives k ≡ answered q (gives l) → (q ≡ 0) × (k ≡ l)
unfolding answered
none_of zero l k e = (refl, cc)
none_of (suc q) l k e = let f : gives k ≡ refused (suc q) = rw eqb-suc-zero at e in (let z : suc q ≡ zero = cc in z, cc)

-- The checks of one list after those of another. No check has the number 0.
abbrev pub numbered : List Check → Bool
numbered [] = true
numbered (c ∷ cs) = cond (eqb c.number 0) false (numbered cs)

refusal_stop : (cs ds : List Check) (n : ℕ) → refusal cs ≡ suc n → refusal (cs ++ ds) ≡ suc n
unfolding refusal
refusal_stop [] ds n e = let z : ◌≡◌ {A = ℕ} zero (suc n) = e in absurd (omega arith)
refusal_stop (c ∷ cs) ds n e = go c.fails (refusal_stop cs ds n) e
  where
    go : (b : Bool) → (refusal cs ≡ suc n → refusal (cs ++ ds) ≡ suc n) → cond b c.number (refusal cs) ≡ suc n
        → cond b c.number (refusal (cs ++ ds)) ≡ suc n
    go true ih h = h
    go false ih h = ih h

refusal_pass : (cs ds : List Check) → T (numbered cs) → refusal cs ≡ 0 → refusal (cs ++ ds) ≡ refusal ds
unfolding refusal
refusal_pass [] ds t e = refl
refusal_pass (c ∷ cs) ds t e = go c.fails c.number (refusal_pass cs ds) t e
  where
    go : (b : Bool) (n : ℕ) → (T (numbered cs) → refusal cs ≡ 0 → refusal (cs ++ ds) ≡ refusal ds)
        → T (cond (eqb n 0) false (numbered cs)) → cond b n (refusal cs) ≡ 0 → cond b n (refusal (cs ++ ds)) ≡ refusal ds
    go true zero ih t h = absurd t
    go true (suc n) ih t h = absurd (omega arith)
    go false zero ih t h = absurd t
    go false (suc n) ih t h = ih (rw (eqb-suc-zero n) at t) h

-- the callee refused: so does the caller, with the same number
pub refused_too : (cs ds : List Check) (l : List ℕ) (a : Answer) {n : ℕ} → refused n ≡ answered (refusal cs) (gives l)
    → refused n ≡ answered (refusal (cs ++ ds)) a
unfolding answered
refused_too cs ds l a e = go (refusal cs) (refusal_stop cs ds) (number_of (refusal cs) l _ e) e
  where
    go : (q : ℕ) {n : ℕ} → ((k : ℕ) → q ≡ suc k → refusal (cs ++ ds) ≡ suc k) → q ≡ n → refused n ≡ answered q (gives l)
        → refused n ≡ answered (refusal (cs ++ ds)) a
    go zero f e h = let z : ◌≡◌ {A = ℕ} 0 1 = cc in absurd (omega arith)
    go (suc q) f e h = rw (f q refl, eqb-suc-zero) (cc)

-- the callee answered: its checks are passed, and the others are left
pub passed : (cs ds : List Check) (l : List ℕ) (a : Answer) {k : List ℕ} {r : Answer} → T (numbered cs) → gives k ≡ answered (refusal cs) (gives l)
    → r ≡ answered (refusal ds) a
    → r ≡ answered (refusal (cs ++ ds)) a
passed cs ds l a {k} t e h = rw (refusal_pass cs ds t (none_of (refusal cs) l k e).0) h

-- what is known where nothing is refused: each check passes
abbrev pub Passed : List Check → Type 0
Passed [] = Unit {0}
Passed (c ∷ cs) = (c.fails ≡ false) × Passed cs

pub none_fails : (cs : List Check) → T (numbered cs) → refusal cs ≡ 0 → Passed cs
unfolding refusal
none_fails [] t e = tt
none_fails (c ∷ cs) t e = go c.fails c.number (none_fails cs) t e
  where
    go : (b : Bool) (n : ℕ) → (T (numbered cs) → refusal cs ≡ 0 → Passed cs) → T (cond (eqb n 0) false (numbered cs)) → cond b n (refusal cs) ≡ 0
        → (b ≡ false) × Passed cs
    go true zero ih t h = absurd t
    go true (suc n) ih t h = absurd (omega arith)
    go false zero ih t h = absurd t
    go false (suc n) ih t h = (refl, ih (rw (eqb-suc-zero n) at t) h)

pub all_pass : (cs : List Check) → Passed cs → refusal cs ≡ 0
unfolding refusal
all_pass [] p = refl
all_pass (c ∷ cs) p = rw p.0 (all_pass cs p.1)

pub converse : (cs : List Check) (l : List ℕ) {k : List ℕ} → T (numbered cs) → gives k ≡ answered (refusal cs) (gives l) → Passed cs
converse cs l {k} t e = none_fails cs t (none_of (refusal cs) l k e).0

pub passed_last : (cs : List Check) (c : Check) → Passed (cs ++ (c ∷ [])) → c.fails ≡ false
passed_last [] c p = p.0
passed_last (d ∷ cs) c p = passed_last cs c p.1

-- a check that cannot fail after others
pub refusal_idle : (cs : List Check) (c : Check) → T (numbered cs) → (Passed cs → c.fails ≡ false) → refusal (cs ++ (c ∷ [])) ≡ refusal cs
unfolding refusal
refusal_idle cs c t f = go (refusal cs) (refusal_pass cs (c ∷ []) t) (refusal_stop cs (c ∷ [])) (none_fails cs t)
  where
    go : (q : ℕ) → (q ≡ 0 → refusal (cs ++ (c ∷ [])) ≡ refusal (c ∷ [])) → ((n : ℕ) → q ≡ suc n → refusal (cs ++ (c ∷ [])) ≡ suc n) → (q ≡ 0 → Passed cs)
        → refusal (cs ++ (c ∷ [])) ≡ q
    go zero p s n = p refl ∙ rw (f (n refl))
    go (suc q) p s n = s q refl

pub answer_of : (q : ℕ) (l : List ℕ) {k : List ℕ} → gives k ≡ answered q (gives l) → k ≡ l
answer_of q l {k} e = (none_of q l k e).1

-- the same checks, another answer
pub refused_same : (q : ℕ) (l : List ℕ) (a : Answer) {n : ℕ} → refused n ≡ answered q (gives l) → refused n ≡ answered q a
unfolding answered
refused_same zero l a e = let z : ◌≡◌ {A = ℕ} 0 1 = cc in absurd (omega arith)
refused_same (suc q) l a e = let f : refused _ ≡ refused (suc q) = rw eqb-suc-zero at e in rw eqb-suc-zero f

pub given_same : (q : ℕ) (l : List ℕ) (a : Answer) {k : List ℕ} {r : Answer} → gives k ≡ answered q (gives l) → r ≡ a → r ≡ answered q a
unfolding answered
given_same q l a {k} e h = rw (none_of q l k e).0 h

-- Where the code carries the number of the refusal itself.
pub refused_with : (q : ℕ) (a : Answer) → (q ≡ 0 → ⊥) → refused q ≡ answered q a
unfolding answered
refused_with zero a ne = absurd (ne refl)
refused_with (suc q) a ne = rw eqb-suc-zero

pub given_with : (q : ℕ) (a : Answer) {r : Answer} → q ≡ 0 → r ≡ a → r ≡ answered q a
unfolding answered
given_with q a e h = rw e h

pub by_value : {v w : ℕ} → v ≡ w → gives (v ∷ []) ≡ gives (w ∷ [])
by_value e = ap (λ (n : ℕ). gives (n ∷ [])) e

pub stopped : (cs ds : List Check) {q : ℕ} → q ≡ refusal cs → (q ≡ 0 → ⊥) → q ≡ refusal (cs ++ ds)
stopped cs ds {q = zero} e ne = absurd (ne refl)
stopped cs ds {q = suc q} e ne = sym (refusal_stop cs ds q (sym e))

pub went_on : (cs ds : List Check) {q r : ℕ} → T (numbered cs) → q ≡ refusal cs → q ≡ 0 → r ≡ refusal ds → r ≡ refusal (cs ++ ds)
went_on cs ds t e z h = h ∙ sym (refusal_pass cs ds t (sym e ∙ z))

-- A function that carries the number of the refusal on, check by check: one that fails, one that passes, none left; the tests of two numbers.
pub stop_n : (n : ℕ) (b : Bool) (cs : List Check) → b ≡ true → n ≡ refusal (n when b ∷ cs)
unfolding refusal
stop_n n b cs e = rw e

pub pass_n : (n : ℕ) (b : Bool) (cs : List Check) {r : ℕ} → b ≡ false → r ≡ refusal cs → r ≡ refusal (n when b ∷ cs)
unfolding refusal
pass_n n b cs e h = rw e h

pub none_n : 0 ≡ refusal []
unfolding refusal
none_n = refl

pub differs : (a b : ℕ) → (a ≡ b → ⊥) → not (eqb a b) ≡ true
differs a b ne = rw (ne_eqb a b ne)

pub equals : (a b : ℕ) → a ≡ b → not (eqb a b) ≡ false
equals a b e = rw (eq-eqb a b e)

-- a part that is shown, or not
pub inside : {r : Result Part Refusal} {p : Part} {len : ℕ} → r ≡ Ok p → Inside r len → p.first + p.many ≤ len
inside {len = len} e h = subst (λ (q : Result Part Refusal). Inside q len) e h

pub shown_bytes : (m : List ℕ) {r : Result Part Refusal} {p : Part} → r ≡ Ok p → take p.many (drop p.first m) ≡ shown m (meaning_part r)
unfolding shown
shown_bytes m e = rw e

pub not_shown : (m : List ℕ) {r : Result Part Refusal} {e : Refusal} → r ≡ Err e → [] ≡ shown m (meaning_part r)
unfolding shown
not_shown m e = rw e

-- the same for bytes by value
pub copied_refused : (many : ℕ) (m : List ℕ) {a : Answer} {n : ℕ} → refused n ≡ a
    → ◌≡◌ {A = Copied} (record { answer = refused n; bytes = replicate many 0 }) (copied many m a)
unfolding copied
copied_refused many m e = ap (copied many m) e

pub copied_bytes : (w : ℕ) (m : List ℕ) {a : Answer} {first many : ℕ} {l : List ℕ} → gives (first ∷ many ∷ []) ≡ a → l ≡ take many (drop first m)
    → ◌≡◌ {A = Copied} (record { answer = gives (first ∷ many ∷ []); bytes = l }) (copied w m a)
unfolding copied
copied_bytes w m {first = first} {many = many} e h = rw h (ap (copied w m) e)
