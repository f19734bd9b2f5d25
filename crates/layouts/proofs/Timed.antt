-- Laws of the checks of satellite, week and time.
-- Assumes nothing.
use Prim.Native.Nat.{ℕ, ◌≤◌, ◌<◌}
use mathlib.Core.Path.{◌≡◌}
use borrow.Author.Tests.{le-ltb, lt-ltb}
use Rattle.layouts.specs.Answer.{refusal}
use Rattle.layouts.specs.Gst.{svn_checks, gst_checks, svn_gst_checks}
use Rattle.layouts.proofs.Answers.{stopped, went_on}

module _ (satellite : ℕ) where
  pub satellite_zero : satellite < 1 → 2 ≡ refusal (svn_checks satellite)
  unfolding refusal
  satellite_zero h = rw (lt-ltb satellite 1 h)

  module _ (l : 1 ≤ satellite) where
    pub satellite_high : 36 < satellite → 2 ≡ refusal (svn_checks satellite)
    unfolding refusal
    satellite_high h = rw (le-ltb satellite 1 l, lt-ltb 36 satellite h)

    pub satellite_fits : satellite ≤ 36 → 0 ≡ refusal (svn_checks satellite)
    unfolding refusal
    satellite_fits u = rw (le-ltb satellite 1 l, le-ltb 36 satellite u)

module _ (week time : ℕ) where
  pub week_off : 4095 < week → 3 ≡ refusal (gst_checks week time)
  unfolding refusal
  week_off h = rw (lt-ltb 4095 week h)

  pub time_off : week ≤ 4095 → 604799 < time → 4 ≡ refusal (gst_checks week time)
  unfolding refusal
  time_off v h = rw (le-ltb 4095 week v, lt-ltb 604799 time h)

  pub time_on : week ≤ 4095 → time ≤ 604799 → 0 ≡ refusal (gst_checks week time)
  unfolding refusal
  time_on v h = rw (le-ltb 4095 week v, le-ltb 604799 time h)

-- after the satellite
module _ (satellite week time : ℕ) {q : ℕ} (e : q ≡ refusal (svn_checks satellite)) where
  pub satellite_stops : (q ≡ 0 → ⊥) → q ≡ refusal (svn_gst_checks satellite week time)
  satellite_stops ne = stopped (svn_checks satellite) (gst_checks week time) e ne

  module _ (z : q ≡ 0) where
    on : {r : ℕ} → r ≡ refusal (gst_checks week time) → r ≡ refusal (svn_gst_checks satellite week time)
    on h = went_on (svn_checks satellite) (gst_checks week time) tt e z h

    pub week_high : 4095 < week → 3 ≡ refusal (svn_gst_checks satellite week time)
    week_high h = on (week_off week time h)

    module _ (v : week ≤ 4095) where
      pub time_high : 604799 < time → 4 ≡ refusal (svn_gst_checks satellite week time)
      time_high h = on (time_off week time v h)

      pub fits_all : time ≤ 604799 → 0 ≡ refusal (svn_gst_checks satellite week time)
      fits_all h = on (time_on week time v h)
