-- The fit from its parts, as the code has it: the two normalisations, the solution, and the scaling. Assumes nothing.
use mathlib.Core.Path.{◌≡◌, refl, sym, ap, ◌∙◌}
use mathlib.Core.Bool.{Bool, true, false, cond, ◌&&◌, not, true≢false}
use mathlib.Core.List.{List, ◌++◌}
use Prim.Native.Nat.{ℕ}
use lib.ListN.{get_or}
use Rattle.std.specs.Prelude.{Option, Some, None, Result, Ok, Err}
use Rattle.std.specs.Bool.{then_some}
use Rattle.std.specs.Result.{result_ok}
use lib.Ieee.{Float, nan, binary32}
use Rattle.binary32.specs.Ranges.{is_finite, all_finite}
use Rattle.elimination.specs.Rounded.{◌⊘◌}
use Rattle.elimination.specs.Tables.{table}
use Rattle.elimination.specs.Solve.{Matrix, values, no_zero_pivot, solve_steps, answers_of, sound_of, solved}
use Rattle.elimination.proofs.Tables.{get_d_table, both, same, every_at, every_same}
use Rattle.elimination.proofs.Finite.{div_finite, joined, apart, table_finite}
use Rattle.sheet.specs.declared.Position.{Position}
use Rattle.homography.specs.declared.Normalized.{Normalized}
use Rattle.homography.specs.Normalize.{normalization_of, normalized, normal_steps, normalized_of}
use Rattle.homography.specs.Equations.{equations, equation_steps}
use Rattle.homography.specs.Undo.{undone, undo_steps}
use Rattle.homography.specs.Fit.{last_of, small, quotients, finite_entries, scaled_of, equations_of, unscaled, fit_steps, fits, homography_of}
use Rattle.homography.proofs.Normalizing.{normal_up}
use Rattle.homography.proofs.Equating.{products_finite, equations_finite}
use Rattle.homography.proofs.Undoing.{FiniteNine, undo_before}

-- ---- scaling

pub quotients_finite : (h : List Float) → finite_entries (quotients h) ≡ all_finite (quotients h)
unfolding quotients
quotients_finite h =
    every_same 9 (λ n. is_finite (get_or (table 9 q) n nan)) (λ n. is_finite (q n)) (λ n l. ap is_finite (get_d_table 9 q n nan l)) ∙ sym (table_finite 9 q)
  where
    q : ℕ → Float
    q n = get_or h n nan ⊘ last_of h

-- what was divided is finite where the quotients are: a number divided by an infinity is a zero, but an infinity by itself is none
divided_finite : (h : List Float) → all_finite (quotients h) ≡ true → FiniteNine h
unfolding quotients
divided_finite h e n l = div_finite binary32 (get_or h n nan) (last_of h) (every_at 9 (λ n. is_finite (get_or h n nan ⊘ last_of h)) (sym (table_finite 9 (λ n. get_or h n nan ⊘ last_of h)) ∙ e) n l)

pub scaled_small : (h : List Float) → small h ≡ true → None ≡ scaled_of h
unfolding scaled_of
scaled_small h s = rw s

module _ (h q : List Float) (t : Bool) (s : small h ≡ false) (eq : q ≡ quotients h) (et : t ≡ finite_entries q) where
  pub scaled_wild : t ≡ false → None ≡ scaled_of h
  unfolding scaled_of
  scaled_wild e = rw (s, ← quotients_finite h, ← eq, ← et, e)

  pub scaled_fit : t ≡ true → Some q ≡ scaled_of h
  unfolding scaled_of
  scaled_fit e = rw (s, ← quotients_finite h, ← eq, ← et, e)

pub scaled_is : (h q : List Float) (t : Bool) → small h ≡ false → q ≡ quotients h → t ≡ finite_entries q → then_some t q ≡ scaled_of h
scaled_is h q true s eq et = scaled_fit h q true s eq et refl
scaled_is h q false s eq et = scaled_wild h q false s eq et refl

-- ---- the whole

module _ (cells corners : List Position) where
  abbrev e : Matrix
  e = equations_of cells corners

  abbrev h : List Float
  h = unscaled cells corners

  -- what the code has found out by the time that it scales, and by its end
  abbrev pub reached : Bool
  reached = all_finite (normal_steps cells) && (all_finite (normal_steps corners) && sound_of e)

  abbrev pub passed : Bool
  passed = not (small h) && all_finite (quotients h)

  abbrev a1 : List Float
  a1 = normal_steps cells ++ normal_steps corners

  abbrev a2 : List Float
  a2 = a1 ++ equation_steps (normalized cells) (normalized corners)

  abbrev a3 : List Float
  a3 = a2 ++ solve_steps e

  abbrev a4 : List Float
  a4 = a3 ++ undo_steps (answers_of e) (normalization_of cells) (normalization_of corners)

  pub fits_down : fits cells corners ≡ true → (reached && passed) ≡ true
  unfolding fit_steps sound_of unscaled
  fits_down w =
      let p = both (no_zero_pivot e) (not (small h) && all_finite (fit_steps cells corners)) w in
      let q = both (not (small h)) (all_finite (fit_steps cells corners)) p.1 in
      let s5 = apart a4 (quotients h) q.1 in
      let s4 = apart a3 (undo_steps (answers_of e) (normalization_of cells) (normalization_of corners)) s5.0 in
      let s3 = apart a2 (solve_steps e) s4.0 in
      let s2 = apart a1 (equation_steps (normalized cells) (normalized corners)) s3.0 in
      let s1 = apart (normal_steps cells) (normal_steps corners) s2.0 in
      let v = equations_finite (normalized cells) (normalized corners) (normal_up cells s1.0).1 (normal_up corners s1.1).1 s2.1 in
      rw (s1.0, s1.1, p.0, v, s3.1, q.0, s5.1)

  fits_up : (reached && passed) ≡ true → fits cells corners ≡ true
  unfolding fit_steps sound_of unscaled
  fits_up w =
      let p = both reached passed w in
      let q = both (not (small h)) (all_finite (quotients h)) p.1 in
      let n = both (all_finite (normal_steps cells)) (all_finite (normal_steps corners) && sound_of e) p.0 in
      let m = both (all_finite (normal_steps corners)) (sound_of e) n.1 in
      let z = both (no_zero_pivot e) (all_finite (values e) && all_finite (solve_steps e)) m.1 in
      let v = both (all_finite (values e)) (all_finite (solve_steps e)) z.1 in
      let u = undo_before (answers_of e) (normalization_of cells) (normalization_of corners) (divided_finite h q.1) in
      let all =
      joined a4 (quotients h)
      (joined a3 (undo_steps (answers_of e) (normalization_of cells) (normalization_of corners))
      (joined a2 (solve_steps e)
      (joined a1 (equation_steps (normalized cells) (normalized corners)) (joined (normal_steps cells) (normal_steps corners) n.0 m.0) (products_finite (normalized cells) (normalized corners) v.0))
      v.1) u) q.1 in
      rw (z.0, q.0, all)

  -- the fit is that of the scaling, where both normalisations and the solution are sound
  pub homography_is : homography_of cells corners ≡ cond reached (scaled_of h) None
  unfolding homography_of scaled_of
  homography_is = rw (same (fits cells corners) (reached && passed) fits_down fits_up) (go reached)
    where
      go : (t : Bool) → cond (t && passed) (Some (quotients h)) None ≡ cond t (cond passed (Some (quotients h)) None) None
      go true = refl
      go false = refl

-- ---- as the code leaves it: s and t the normalisations, m the equations, x their answers, k the matrix undone, r the answer

-- what counts under a test, and what does not
module _ {A : Type 0} where
  there : (t : Bool) (x : A) {y : A} → result_ok (cond t (Ok x) (Err x)) ≡ Some y → (t ≡ true) × (x ≡ y)
  there true x e = (refl, cc)
  there false x e = absurd (let z : true ≡ false = cc in true≢false z)

  absent : (t : Bool) (x : A) → result_ok (cond t (Ok x) (Err x)) ≡ None → t ≡ false
  absent true x e = let z : true ≡ false = cc in z
  absent false x e = refl

  -- as a call's answer r has it
  pub answered_by : {r q : Result A A} {o : Option A} → r ≡ q → o ≡ result_ok r → result_ok q ≡ o
  answered_by e h = sym (h ∙ ap result_ok e)

module _ (cells corners : List Position) where
  pub fit_first : result_ok (normalized_of cells) ≡ None → None ≡ homography_of cells corners
  fit_first e = rw (homography_is cells corners, absent (all_finite (normal_steps cells)) _ e)

  module _ (s : Normalized) (es : result_ok (normalized_of cells) ≡ Some s) where
    told_s : (all_finite (normal_steps cells) ≡ true) × (record { points = normalized cells; by = normalization_of cells } ≡ s)
    told_s = there (all_finite (normal_steps cells)) _ es

    pub fit_second : result_ok (normalized_of corners) ≡ None → None ≡ homography_of cells corners
    fit_second e = rw (homography_is cells corners, told_s.0, absent (all_finite (normal_steps corners)) _ e)

    module _ (t : Normalized) (et : result_ok (normalized_of corners) ≡ Some t) (m : Matrix) (em : m ≡ equations s.points t.points) where
      told_t : (all_finite (normal_steps corners) ≡ true) × (record { points = normalized corners; by = normalization_of corners } ≡ t)
      told_t = there (all_finite (normal_steps corners)) _ et

      solution : result_ok (solved m) ≡ result_ok (solved (equations_of cells corners))
      solution = ap (λ (x : Matrix). result_ok (solved x)) (em ∙ rw (← told_s.1, ← told_t.1))

      pub fit_third : result_ok (solved m) ≡ None → None ≡ homography_of cells corners
      fit_third e = rw (homography_is cells corners, told_s.0, told_t.0, absent (sound_of (equations_of cells corners)) _ (sym solution ∙ e))

      pub fit_last : (x k : List Float) (r : Option (List Float)) → result_ok (solved m) ≡ Some x → k ≡ undone x s.by t.by → r ≡ scaled_of k → r ≡ homography_of cells corners
      fit_last x k r ex ek e = e ∙ rw (homography_is cells corners, told_s.0, told_t.0, answered.0) (ap scaled_of (ek ∙ whole))
        where
          answered : (sound_of (equations_of cells corners) ≡ true) × (answers_of (equations_of cells corners) ≡ x)
          answered = there (sound_of (equations_of cells corners)) _ (sym solution ∙ ex)

          whole : undone x s.by t.by ≡ unscaled cells corners
          whole = unfold unscaled in rw (← answered.1, ← told_s.1, ← told_t.1)
