-- Runs: the admitted calls of a list, cut where one does not belong with the one before. Demand 3: "A run is the admitted pages from the first, or from one
-- whose week or subframe differs from the one before, up to the next such change."
-- What a call is, which are admitted and which belong together is each collector's own.
-- Assumes nothing.
use Rattle.std.specs.Prelude.{List, [], ◌∷◌, ◌++◌, Bool, false, cond}

-- the state after calls, the oldest first
module _ {S A : Type 0} (step : S → A → S) where
  abbrev pub after_all : S → List A → S
  after_all s [] = s
  after_all s (c ∷ cs) = after_all (step s c) cs

module _ {A : Type 0} (admitted : A → Bool) (together : A → A → Bool) where
  -- whether c goes on with the run so far: it belongs with the one before, the run's last (that its first says the same is `as_the_first` of proofs/Runs.antt)
  abbrev pub goes_on : List A → A → Bool
  goes_on [] c = false
  goes_on (d ∷ []) c = together d c
  goes_on (d ∷ e ∷ ds) c = goes_on (e ∷ ds) c

  -- what c's run had before c
  abbrev pub run_before : List A → A → List A
  run_before r c = cond (goes_on r c) r []

  -- the run after c: a call that is not admitted belongs to no run and cuts none
  abbrev pub run_with : List A → A → List A
  run_with r c = cond (admitted c) (run_before r c ++ (c ∷ [])) r

  abbrev pub run_from : List A → List A → List A
  run_from r [] = r
  run_from r (c ∷ cs) = run_from (run_with r c) cs

  -- the run at the end of the calls
  abbrev pub run_of : List A → List A
  run_of cs = run_from [] cs
