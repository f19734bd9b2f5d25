-- Laws of the look-up table: the code's numbers are computed from the paper's table, and a test of each row says that they are read back as they were written.
-- Assumes nothing.
use mathlib.Core.Path.{◌≡◌, refl, sym, ap, ◌∙◌}
use mathlib.Core.Bool.{Bool, true, false, cond}
use mathlib.Core.List.{List, [], ◌∷◌}
use Prim.Native.Nat.{ℕ, zero, suc, ◌+◌, ◌-◌, ◌*◌, ◌/◌, ◌%◌, ◌^◌, ◌≤◌, ◌<◌}
use native.Mathlib.Omega.{arith}
use lib.Dec.{T, ltb, leb, eqb, eqb-suc-zero, leb→le, eqb→eq}
use lib.ListN.{length, get_or, replicate, get_or-eq_default}
use borrow.Author.Tests.{eq-eqb, ne_eqb, lt-ltb, le-ltb, le-leb, lt-leb}
use Rattle.layouts.specs.Answer.{Answer, refused, gives, Copied, Check, ◌when◌, refusal, answered}
use Rattle.layouts.specs.Refusals.{refusal_number}
use Rattle.layouts.specs.declared.refusal.Refusal.{Refusal}
use Rattle.layouts.specs.Maclt.{flex, Row, row, table, row_of, slots, numbers, entry, flx_of, padded, flx_checks, flx_indices, nt_of}
use Rattle.layouts.specs.inner.Code.{coded_slots, row_number, flx_number, one_if_some, known_row}
use Rattle.layouts.proofs.Answers.{stop, pass, done, refused_too, answer_of, converse}
use Rattle.layouts.proofs.Readers.{first_of}
use Rattle.layouts.proofs.Tables.{below, holds_below, both_left, both_right, every}

-- The code's numbers, from its match.
pub row_hit : {k n x : ℕ} → k ≡ n → x ≡ row_number (row_of n table) → x ≡ row_number (row_of k table)
row_hit e h = rw e h

pub flx_hit : {k n x : ℕ} → k ≡ n → x ≡ flx_number (row_of n table) → x ≡ flx_number (row_of k table)
flx_hit e h = rw e h

-- none of the twelve IDs
module _
    {k : ℕ}
    (n27 : k ≡ 27 → ⊥) (n28 : k ≡ 28 → ⊥) (n31 : k ≡ 31 → ⊥) (n33 : k ≡ 33 → ⊥) (n34 : k ≡ 34 → ⊥) (n35 : k ≡ 35 → ⊥)
    (n36 : k ≡ 36 → ⊥) (n37 : k ≡ 37 → ⊥) (n38 : k ≡ 38 → ⊥) (n39 : k ≡ 39 → ⊥) (n40 : k ≡ 40 → ⊥) (n41 : k ≡ 41 → ⊥)
  where
    unknown : row_of k table ≡ row k 0 [] []
    unfolding table
    unknown =
        rw (
          ne_eqb k 27 n27,
          ne_eqb k 28 n28,
          ne_eqb k 31 n31,
          ne_eqb k 33 n33,
          ne_eqb k 34 n34,
          ne_eqb k 35 n35,
          ne_eqb k 36 n36,
          ne_eqb k 37 n37,
          ne_eqb k 38 n38,
          ne_eqb k 39 n39,
          ne_eqb k 40 n40,
          ne_eqb k 41 n41,
        )

    pub row_unknown : 0 ≡ row_number (row_of k table)
    unfolding row_number
    row_unknown = rw unknown

    pub flx_none : 0 ≡ flx_number (row_of k table)
    unfolding flx_number
    flx_none = rw unknown

-- a slot, by its code
pub code_hit : {k n : ℕ} {r : List ℕ} → k ≡ n → r ≡ numbers (get_or coded_slots n flex) → r ≡ numbers (get_or coded_slots k flex)
code_hit e h = rw e h

pub code_flex : (k : ℕ) → (k ≡ 1 → ⊥) → (k ≡ 2 → ⊥) → (k ≡ 3 → ⊥) → (k ≡ 4 → ⊥) → (k ≡ 5 → ⊥) → [] ≡ numbers (get_or coded_slots k flex)
code_flex zero n1 n2 n3 n4 n5 = refl
code_flex (suc k) n1 n2 n3 n4 n5 = ap numbers (sym (get_or-eq_default coded_slots flex {n = suc k} (omega arith)))

-- a byte that is a tag
pub one_none : {t : ℕ} → t ≡ 0 → (0 ≡ one_if_some t) × (0 ≤ 1)
one_none {t} e = (rw (eq-eqb t 0 e), omega arith)

pub one_some : {t : ℕ} → (t ≡ 0 → ⊥) → (1 ≡ one_if_some t) × (1 ≤ 1)
one_some {t} ne = (rw (ne_eqb t 0 ne), omega arith)

-- A test of every row, and of one with no tag, is a test of the row of any ID.
passes_on : (test : Row → Bool) (k : ℕ) (rs : List Row) → T (test (row k 0 [] [])) → T (every test rs) → T (test (row_of k rs))
passes_on test k [] e t = e
passes_on test k (r ∷ rs) e t = go (eqb k r.id) (passes_on test k rs e (both_right (test r) (every test rs) t))
  where
    go : (b : Bool) → T (test (row_of k rs)) → T (test (cond b r (row_of k rs)))
    go true h = both_left (test r) (every test rs) t
    go false h = h

abbrev same : List ℕ → List ℕ → Bool
same [] [] = true
same [] (y ∷ ys) = false
same (x ∷ xs) [] = false
same (x ∷ xs) (y ∷ ys) = cond (eqb x y) (same xs ys) false

same→eq : (l k : List ℕ) → T (same l k) → l ≡ k
same→eq [] [] t = refl
same→eq [] (y ∷ ys) t = absurd t
same→eq (x ∷ xs) [] t = absurd t
same→eq (x ∷ xs) (y ∷ ys) t = rw (eqb→eq x y (both_left (eqb x y) (same xs ys) t), same→eq xs ys (both_right (eqb x y) (same xs ys) t))

-- what the code takes out of its numbers: nt; the code of tag t in message m; the four bytes of message m, and how many are tags
abbrev pub nt_in : ℕ → ℕ
nt_in x = x / 2 ^ 60

abbrev pub code_in : ℕ → ℕ → ℕ → ℕ
code_in x m t = x / 2 ^ (3 * (10 * m + t)) % 8

abbrev pub half : ℕ → ℕ → ℕ
half y m = y / 2 ^ (32 * m)

abbrev pub four_in : ℕ → List ℕ
four_in y = y % 256 ∷ y / 2 ^ 8 % 256 ∷ y / 2 ^ 16 % 256 ∷ y / 2 ^ 24 % 256 ∷ []

abbrev count_in : ℕ → ℕ
count_in y = one_if_some (y % 256) + one_if_some (y / 2 ^ 8 % 256) + one_if_some (y / 2 ^ 16 % 256) + one_if_some (y / 2 ^ 24 % 256)

abbrev slot_right : Row → ℕ → ℕ → Bool
slot_right r m t = same (numbers (get_or coded_slots (code_in (row_number r) m t) flex)) (numbers (get_or (slots m r) (t - 1) flex))

abbrev tag_right : Row → ℕ → ℕ → Bool
tag_right r m t = cond (ltb 0 t) (cond (ltb t r.nt) (slot_right r m t) true) true

abbrev four_right : Row → ℕ → Bool
four_right r m = same (four_in (half (flx_number r) m)) (padded (flx_of m r))

abbrev count_right : Row → ℕ → Bool
count_right r m = eqb (count_in (half (flx_number r) m)) (length (flx_of m r))

abbrev flx_right : Row → ℕ → Bool
flx_right r m = cond (four_right r m) (count_right r m) false

module _ (k : ℕ) where
  pub nt_rule : nt_in (row_number (row_of k table)) ≡ (row_of k table).nt
  unfolding table row_number
  nt_rule = eqb→eq _ _ (passes_on (λ (r : Row). eqb (nt_in (row_number r)) r.nt) k table tt tt)

  pub nt_few : (row_of k table).nt ≤ 10
  unfolding table
  nt_few = leb→le _ _ (passes_on (λ (r : Row). leb r.nt 10) k table tt tt)

  all_right : T (below 20 (λ (n : ℕ). tag_right (row_of k table) (n / 10) (n % 10)))
  unfolding table row_number
  all_right = passes_on (λ (r : Row). below 20 (λ (n : ℕ). tag_right r (n / 10) (n % 10))) k table tt tt

  slot_rule : (m t : ℕ) → m ≤ 1 → (t ≡ 0 → ⊥) → t < (row_of k table).nt
      → numbers (get_or coded_slots (code_in (row_number (row_of k table)) m t) flex) ≡ numbers (get_or (slots m (row_of k table)) (t - 1) flex)
  slot_rule m t hm h0 ht =
      let few : (row_of k table).nt ≤ 10 = nt_few in
      let n : ℕ = m * 10 + t in
      let em : n / 10 ≡ m = omega arith in
      let et : n % 10 ≡ t = omega arith in
      let ok : T (tag_right (row_of k table) m t) =
      rw (em, et) at (holds_below 20 (λ (n : ℕ). tag_right (row_of k table) (n / 10) (n % 10)) all_right n (omega arith)) in
      same→eq _ _ (rw (lt-ltb 0 t (omega arith), lt-ltb t (row_of k table).nt ht) at ok)

  flx_all : T (below 2 (λ (m : ℕ). flx_right (row_of k table) m))
  unfolding table flx_number
  flx_all = passes_on (λ (r : Row). below 2 (λ (m : ℕ). flx_right r m)) k table tt tt

  module _ (m : ℕ) (hm : m ≤ 1) where
    ok : T (flx_right (row_of k table) m)
    ok = holds_below 2 (λ (m : ℕ). flx_right (row_of k table) m) flx_all m (omega arith)

    four_rule : four_in (half (flx_number (row_of k table)) m) ≡ padded (flx_of m (row_of k table))
    four_rule = same→eq _ _ (both_left (four_right (row_of k table) m) (count_right (row_of k table) m) ok)

    count_rule : count_in (half (flx_number (row_of k table)) m) ≡ length (flx_of m (row_of k table))
    count_rule = eqb→eq _ _ (both_right (four_right (row_of k table) m) (count_right (row_of k table) m) ok)

-- nt, from the code's number
module _ (k : ℕ) {x : ℕ} (e : x ≡ row_number (row_of k table)) where
  pub nt_is : nt_in x ≡ (row_of k table).nt
  nt_is = ap nt_in e ∙ nt_rule k

  pub nt_none : nt_in x ≡ 0 → (row_of k table).nt ≡ 0
  nt_none h = sym nt_is ∙ h

  pub nt_some : (nt_in x ≡ 0 → ⊥) → (row_of k table).nt ≡ 0 → ⊥
  nt_some ne h = ne (nt_is ∙ h)

-- the row of an ID, or 8
pub row_refused : (k : ℕ) {x : ℕ} → x ≡ row_number (row_of k table) → nt_in x ≡ 0 → refused 8 ≡ known_row k
row_refused k e h = stop 8 _ [] _ tt (eq-eqb (row_of k table).nt 0 (nt_none k e h))

pub row_given : (k : ℕ) {x : ℕ} → x ≡ row_number (row_of k table) → (nt_in x ≡ 0 → ⊥) → gives (x ∷ []) ≡ known_row k
row_given k e h = pass 8 _ [] _ (ne_eqb (row_of k table).nt 0 (nt_some k e h)) (done _ (ap (λ (n : ℕ). gives (n ∷ [])) e))

differ : true ≡ false → ⊥
differ e = let z : ◌≡◌ {A = ℕ} 1 0 = ap (λ b. cond b 1 0) e in absurd (omega arith)

abbrev unknown_check : ℕ → Check
unknown_check k = 8 when eqb (row_of k table).nt 0

-- what a row that was given tells
module _ (k : ℕ) {x : ℕ} (g : gives (x ∷ []) ≡ known_row k) where
  pub known_is : x ≡ row_number (row_of k table)
  known_is = first_of (answer_of (refusal (unknown_check k ∷ [])) (row_number (row_of k table) ∷ []) g)

  pub known_some : nt_in x ≡ 0 → ⊥
  known_some z = differ (sym (eq-eqb (row_of k table).nt 0 (nt_none k known_is z)) ∙ (converse (unknown_check k ∷ []) (row_number (row_of k table) ∷ []) tt g).0)

-- The answers, each from the tests that lead to it.
module _ (k m t : ℕ) where
  pub entry_message : 1 < m → refused 7 ≡ entry k m t
  unfolding entry
  entry_message h = stop 7 _ _ _ tt (lt-ltb 1 m h)

  module _ (hm : m ≤ 1) where
    pub entry_tag : t ≡ 0 → refused 7 ≡ entry k m t
    unfolding entry
    entry_tag e = pass 7 _ _ _ (le-ltb 1 m hm) (stop 7 _ _ _ tt (eq-eqb t 0 e))

    module _ (h0 : t ≡ 0 → ⊥) where
      -- what is asked is in range: what the other checks say
      then : {r : Answer}
          → r ≡ answered (refusal (8 when eqb (row_of k table).nt 0 ∷ 9 when leb (row_of k table).nt t ∷ []))
          (gives (numbers (get_or (slots m (row_of k table)) (t - 1) flex)))
          → r ≡ entry k m t
      unfolding entry
      then h = pass 7 _ _ _ (le-ltb 1 m hm) (pass 7 _ _ _ (ne_eqb t 0 h0) h)

      pub entry_unknown : (f : Refusal) → refused (refusal_number f) ≡ known_row k → refused (refusal_number f) ≡ entry k m t
      entry_unknown f h = then (refused_too (unknown_check k ∷ []) (9 when leb (row_of k table).nt t ∷ []) (row_number (row_of k table) ∷ []) _ h)

      module _ {x : ℕ} (row_known : gives (x ∷ []) ≡ known_row k) where
        e : x ≡ row_number (row_of k table)
        e = known_is k row_known

        h : nt_in x ≡ 0 → ⊥
        h = known_some k row_known

        known : eqb (row_of k table).nt 0 ≡ false
        known = ne_eqb (row_of k table).nt 0 (nt_some k e h)

        pub entry_no_tag : nt_in x ≤ t → refused 9 ≡ entry k m t
        entry_no_tag g =
            let over : (row_of k table).nt ≤ t = rw (nt_is k e) at g in
            then (pass 8 _ _ _ known (stop 9 _ _ _ tt (le-leb (row_of k table).nt t over)))

        pub entry_slot : {r : List ℕ} → t < nt_in x → r ≡ numbers (get_or coded_slots (code_in x m t) flex) → gives r ≡ entry k m t
        entry_slot g q =
            let under : t < (row_of k table).nt = rw (nt_is k e) at g in
            let slot : numbers (get_or coded_slots (code_in x m t) flex) ≡ numbers (get_or (slots m (row_of k table)) (t - 1) flex) =
            rw e (slot_rule k m t hm h0 under) in
            then (pass 8 _ _ _ known (pass 9 _ _ _ (lt-leb (row_of k table).nt t under) (done _ (ap gives (q ∙ slot)))))

-- the FLX tags, and nt
module _ (k m : ℕ) where
  refused_bytes : (n : ℕ) → refusal (flx_checks k m) ≡ suc n → ◌≡◌ {A = Copied} (record { answer = refused (suc n); bytes = replicate 4 0 }) (flx_indices k m)
  unfolding flx_indices answered
  refused_bytes n e = rw (e, eqb-suc-zero)

  pub flx_message : 1 < m → ◌≡◌ {A = Copied} (record { answer = refused 7; bytes = replicate 4 0 }) (flx_indices k m)
  unfolding refusal
  flx_message h = refused_bytes 6 (rw (lt-ltb 1 m h))

  module _ (hm : m ≤ 1) where
    pub flx_unknown : (f : Refusal) → refused (refusal_number f) ≡ known_row k
        → ◌≡◌ {A = Copied} (record { answer = refused (refusal_number f); bytes = replicate 4 0 }) (flx_indices k m)
    unfolding refusal answered
    flx_unknown f h = go (eqb (row_of k table).nt 0) refl h
      where
        go : (b : Bool) → eqb (row_of k table).nt 0 ≡ b → refused (refusal_number f) ≡ answered (cond b 8 0) (gives (row_number (row_of k table) ∷ []))
            → ◌≡◌ {A = Copied} (record { answer = refused (refusal_number f); bytes = replicate 4 0 }) (flx_indices k m)
        go true e h = rw h (refused_bytes 7 (rw (le-ltb 1 m hm, e)))
        go false e h = let z : ◌≡◌ {A = ℕ} 0 1 = cc in absurd (omega arith)

    pub flx_given : {n x y : ℕ} → gives (x ∷ []) ≡ known_row k → y ≡ flx_number (row_of k table) → n ≡ count_in (half y m)
        → ◌≡◌ {A = Copied} (record { answer = gives (n ∷ []); bytes = four_in (half y m) }) (flx_indices k m)
    unfolding flx_indices answered refusal
    flx_given g ey en =
        rw (le-ltb 1 m hm, ne_eqb (row_of k table).nt 0 (nt_some k (known_is k g) (known_some k g)), en, ey, four_rule k m hm, count_rule k m hm)

pub nt_unknown : (k : ℕ) (f : Refusal) → refused (refusal_number f) ≡ known_row k → refused (refusal_number f) ≡ nt_of k
unfolding nt_of
nt_unknown k f h = refused_too (unknown_check k ∷ []) [] (row_number (row_of k table) ∷ []) _ h

pub nt_given : (k : ℕ) {x : ℕ} → gives (x ∷ []) ≡ known_row k → gives (nt_in x ∷ []) ≡ nt_of k
unfolding nt_of
nt_given k {x} g =
    pass 8 _ _ _ (ne_eqb (row_of k table).nt 0 (nt_some k (known_is k g) (known_some k g)))
    (done _ (rw (nt_is k (known_is k g))))
