-- Laws of runs, for any collector.
-- Assumes nothing.
use mathlib.Core.Path.{◌≡◌, refl, sym, ap, ◌∙◌}
use mathlib.Core.List.{List, [], ◌∷◌, ◌++◌}
use mathlib.Core.Bool.{Bool, true, false, cond}
use Rattle.runs.specs.Runs.{after_all, goes_on, run_before, run_with, run_from, run_of}

module _ {A : Type 0} (admitted : A → Bool) (together : A → A → Bool) where
  abbrev before : List A → A → List A
  before r c = run_before admitted together r c

  abbrev grown : List A → A → List A
  grown r c = run_with admitted together r c

  -- which run the next call is in: that of the one before, where it belongs with that
  pub goes_on_lem : (r : List A) (c d : A) → goes_on admitted together (r ++ (c ∷ [])) d ≡ together c d
  goes_on_lem [] c d = refl
  goes_on_lem (x ∷ []) c d = refl
  goes_on_lem (x ∷ y ∷ r) c d = goes_on_lem (y ∷ r) c d

  -- the run of a run is that run
  pub before_twice : (r : List A) (c : A) → before (before r c) c ≡ before r c
  before_twice r c = go (goes_on admitted together r c) refl
    where
      go : (b : Bool) → goes_on admitted together r c ≡ b → before (cond b r []) c ≡ cond b r []
      go true e = rw e
      go false e = refl

  run_more : (r xs : List A) (c : A) → run_from admitted together r (xs ++ (c ∷ [])) ≡ grown (run_from admitted together r xs) c
  run_more r [] c = refl
  run_more r (x ∷ xs) c = run_more (grown r x) xs c

  pub run_before_lem : (r : List A) (c : A) → run_of admitted together r ≡ r → run_of admitted together (before r c) ≡ before r c
  run_before_lem r c e = go (goes_on admitted together r c)
    where
      go : (b : Bool) → run_of admitted together (cond b r []) ≡ cond b r []
      go true = e
      go false = refl

  run_grown : (r : List A) (c : A) → run_of admitted together r ≡ r → run_of admitted together (grown r c) ≡ grown r c
  run_grown r c e = go (admitted c) refl
    where
      go : (b : Bool) → admitted c ≡ b → run_of admitted together (cond b (before r c ++ (c ∷ [])) r) ≡ cond b (before r c ++ (c ∷ [])) r
      go false h = e
      go true h = run_more [] (before r c) c ∙ ap (λ (l : List A). grown l c) (run_before_lem r c e) ∙ rw (h, before_twice r c)

  pub run_from_lem : (r cs : List A) → run_of admitted together r ≡ r → run_of admitted together (run_from admitted together r cs) ≡ run_from admitted together r cs
  run_from_lem r [] e = e
  run_from_lem r (c ∷ cs) e = run_from_lem (grown r c) cs (run_grown r c e)

  -- what every call keeps, between a state and its run, holds after all calls
  pub kept_by_all : {S : Type 0} (step : S → A → S) (Holds : S → List A → Type 0) → ((s : S) (r : List A) → Holds s r → (c : A) → Holds (step s c) (grown r c))
      → (s : S) (r cs : List A) → Holds s r → Holds (after_all step s cs) (run_from admitted together r cs)
  kept_by_all step Holds call s r [] h = h
  kept_by_all step Holds call s r (c ∷ cs) h = kept_by_all step Holds call (step s c) (grown r c) cs (call s r h c)

-- A run cut by its first call instead of the one before: the same, where calls that belong together belong with the same calls.
module _ {A : Type 0} (admitted : A → Bool) (together : A → A → Bool) where
  abbrev pub goes_on_first : List A → A → Bool
  goes_on_first [] c = false
  goes_on_first (d ∷ ds) c = together d c

  abbrev pub first_from : List A → List A → List A
  first_from r [] = r
  first_from r (c ∷ cs) = first_from (cond (admitted c) (cond (goes_on_first r c) r [] ++ (c ∷ [])) r) cs

  module _ (same : (x c d : A) → together x c ≡ true → together x d ≡ together c d) where
    -- what the first and the last of a run say
    abbrev AsFirst : List A → Type 0
    AsFirst r = (d : A) → goes_on admitted together r d ≡ goes_on_first r d

    first_more : (r : List A) (c : A) → goes_on_first r c ≡ true → (d : A) → goes_on_first (r ++ (c ∷ [])) d ≡ together c d
    first_more [] c e d = refl
    first_more (x ∷ r) c e d = same x c d e

    first_grown : (r : List A) → AsFirst r → (c : A) → AsFirst (run_with admitted together r c)
    first_grown r h c d = go (admitted c) (goes_on admitted together r c) refl
      where
        go : (a b : Bool) → goes_on admitted together r c ≡ b
            → goes_on admitted together (cond a (cond b r [] ++ (c ∷ [])) r) d ≡ goes_on_first (cond a (cond b r [] ++ (c ∷ [])) r) d
        go false b e = h d
        go true false e = refl
        go true true e = goes_on_lem admitted together r c d ∙ sym (first_more r c (sym (h c) ∙ e) d)

    first_from_lem : (r cs : List A) → AsFirst r → run_from admitted together r cs ≡ first_from r cs
    first_from_lem r [] h = refl
    first_from_lem r (c ∷ cs) h =
        first_from_lem (run_with admitted together r c) cs (first_grown r h c)
        ∙ ap (λ (b : Bool). first_from (cond (admitted c) (cond b r [] ++ (c ∷ [])) r) cs) (h c)

    pub as_the_first : (cs : List A) → run_of admitted together cs ≡ first_from [] cs
    as_the_first cs = first_from_lem [] cs (λ d. refl)
