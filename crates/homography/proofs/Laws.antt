-- What the definitions of the fit say, for those who use it. Assumes nothing.
use mathlib.Core.Path.{◌≡◌, refl, sym, ap, ◌∙◌}
use mathlib.Core.Bool.{Bool, true, false, cond, ◌&&◌, not, true≢false}
use mathlib.Core.List.{List}
use Prim.Native.Nat.{ℕ, ◌-◌, ◌<◌}
use borrow.Author.Tests.{not-true}
use lib.ListN.{length, get_or}
use Rattle.std.specs.Prelude.{Some, None}
use lib.Ieee.{Float, nan, eq}
use Rattle.binary32.specs.Ranges.{is_finite, all_finite}
use Rattle.elimination.specs.Rounded.{◌⊘◌, magnitude}
use Rattle.elimination.specs.Solve.{entry, largest, eliminated, pivot_of, no_zero_pivot, sound_of}
use Rattle.elimination.proofs.Tables.{length_table, both, every_at}
use Rattle.elimination.proofs.Finite.{at_finite}
use Rattle.elimination.proofs.Laws.{FirstLargest, sound_first}
use Rattle.sheet.specs.declared.Position.{Position}
use Rattle.binary32.specs.Numbers.{nought}
use Rattle.homography.specs.Normalize.{normal_steps}
use Rattle.homography.specs.Fit.{Answer, last_of, small, quotients, equations_of, unscaled, fit_steps, fits, homography_of}
use Rattle.homography.proofs.Fitting.{reached, passed, fits_down}

-- ---- a fit that is answered

-- what is picked under a test that passes, and under one that fails
picked : (t : Bool) (q h : List Float) → cond t (Some q) None ≡ Some h → (t ≡ true) × (h ≡ q)
picked true q h e = (refl, cc)
picked false q h e = let z : true ≡ false = cc in absurd (true≢false z)

module _ (cells corners : List Position) (h : List Float) (e : homography_of cells corners ≡ Some h) where
  it_fits : (fits cells corners ≡ true) × (h ≡ quotients (unscaled cells corners))
  unfolding homography_of
  it_fits = picked (fits cells corners) (quotients (unscaled cells corners)) h e

  -- the nine entries are those undone, divided by the last
  pub fit_entries : h ≡ quotients (unscaled cells corners)
  fit_entries = it_fits.1

  pub fit_nine : length h ≡ 9
  unfolding quotients
  fit_nine = ap length fit_entries ∙ length_table 9 (λ n. get_or (unscaled cells corners) n nan ⊘ last_of (unscaled cells corners))

  -- no pivot was zero, and the last entry was not small
  rest : (not (small (unscaled cells corners)) ≡ true) × (all_finite (fit_steps cells corners) ≡ true)
  rest = both (not (small (unscaled cells corners))) (all_finite (fit_steps cells corners)) (both (no_zero_pivot (equations_of cells corners)) (not (small (unscaled cells corners)) && all_finite (fit_steps cells corners)) it_fits.0).1

  pub fit_pivots : (k : ℕ) → k < 8 → eq (pivot_of (equations_of cells corners) k) nought ≡ false
  fit_pivots k l =
      not-true (eq (pivot_of (equations_of cells corners) k) nought)
      (every_at 8 (λ k. not (eq (pivot_of (equations_of cells corners) k) nought))
      (both (no_zero_pivot (equations_of cells corners)) (not (small (unscaled cells corners)) && all_finite (fit_steps cells corners)) it_fits.0).0 k l)

  pub fit_large : small (unscaled cells corners) ≡ false
  fit_large = not-true (small (unscaled cells corners)) rest.0

  -- every step was finite
  pub fit_steps_lem : all_finite (fit_steps cells corners) ≡ true
  fit_steps_lem = rest.1

  pub fit_step : (i : ℕ) → i < length (fit_steps cells corners) → is_finite (get_or (fit_steps cells corners) i nan) ≡ true
  fit_step i l = at_finite (fit_steps cells corners) fit_steps_lem i l

  -- what the parts have found
  parts : (reached cells corners ≡ true) × (passed cells corners ≡ true)
  parts = both (reached cells corners) (passed cells corners) (fits_down cells corners it_fits.0)

  -- every entry is finite
  pub fit_finite : all_finite h ≡ true
  fit_finite = ap all_finite fit_entries ∙ (both (not (small (unscaled cells corners))) (all_finite (quotients (unscaled cells corners))) parts.1).1

  sound : sound_of (equations_of cells corners) ≡ true
  sound = (both (all_finite (normal_steps corners)) (sound_of (equations_of cells corners)) (both (all_finite (normal_steps cells)) (all_finite (normal_steps corners) && sound_of (equations_of cells corners)) parts.0).1).1

  -- each column took the first of those of largest magnitude at or below the diagonal
  pub fit_largest : (k : ℕ) → k < 8 → FirstLargest (λ i. magnitude (entry (eliminated k (equations_of cells corners)) i k)) k (7 - k) (largest (eliminated k (equations_of cells corners)) k (7 - k))
  fit_largest = sound_first (equations_of cells corners) sound

-- ---- "a non-finite value at any step of the fit means no fit"

pub wild_step : (cells corners : List Position) (i : ℕ) → i < length (fit_steps cells corners) → is_finite (get_or (fit_steps cells corners) i nan) ≡ false → homography_of cells corners ≡ None
wild_step cells corners i l e = go (homography_of cells corners) refl
  where
    go : (a : Answer) → homography_of cells corners ≡ a → a ≡ None
    go None q = refl
    go (Some h) q = absurd (true≢false (sym (fit_step cells corners h q i l) ∙ e))
