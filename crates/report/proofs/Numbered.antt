-- The lines of a result by their numbers: which line a number has, and the text line by line. Assumes nothing.
use mathlib.Core.Path.{◌≡◌, refl, sym, ap, ◌∙◌}
use mathlib.Core.Bool.{Bool, true, false, cond}
use mathlib.Core.List.{List, [], ◌++◌}
use Prim.Native.Nat.{ℕ, suc, ◌+◌, ◌-◌, ◌≤◌, ◌<◌}
use native.Mathlib.Omega.{arith}
use borrow.Author.Tests.{lt-ltb, le-ltb, ltb-true, ltb-false}
use lib.Dec.{ltb}
use Rattle.std.specs.Prelude.{Option, None, Some, SomeIff}
use lib.ListN.{length, length-append}
use Rattle.roles.specs.Roles.{role_numbered}
use Rattle.role_counts.specs.RoleCounts.{RoledStats}
use Rattle.report_line.specs.Result.{pass_line, line_of_role, pass_line_at, after_passes, sheet_line, lines_from, result_line, line_count, result_from}
use Rattle.report_words.specs.Outcomes.{stats_at, outcomes_in}
use Rattle.report.specs.Asked.{line_at, text_from}
use Rattle.report.proofs.Joining.{no_lines, one_line_more}
use Rattle.report_words.proofs.Outcomes.{outcomes_length, pass_line_at_lem}

-- ---- lines by their numbers

module _ (outcomes : List RoledStats) (sheet : List ℕ) (m : ℕ) where
  pub among_roles : m < 3 → line_of_role outcomes (role_numbered m) ≡ after_passes outcomes sheet m
  unfolding after_passes
  among_roles l = rw (lt-ltb m 3 l)

  pub behind_roles : sheet_line sheet m ≡ after_passes outcomes sheet (3 + m)
  unfolding after_passes
  behind_roles = let e : 3 + m - 3 ≡ m = omega arith in rw (le-ltb (3 + m) 3 (omega arith), e)

module _ (passes : ℕ) (words sheet : List ℕ) where
  -- the line after line 0
  after : (k : ℕ) → line_at passes words sheet (suc k) ≡ cond (ltb k passes) (pass_line_at (outcomes_in passes words) k) (after_passes (outcomes_in passes words) sheet (k - passes))
  unfolding line_at result_line
  after k = rw (outcomes_length words 0 passes)

  pub pass_line_holds : (k j : ℕ) → k ≡ suc j → j < passes → pass_line (stats_at words j) ≡ line_at passes words sheet k
  pass_line_holds k j e l =
      sym (pass_line_at_lem words 0 passes j j l (omega arith))
      ∙ sym (ap (λ (t : Bool). cond t (pass_line_at (outcomes_in passes words) j) (after_passes (outcomes_in passes words) sheet (j - passes))) (lt-ltb j passes l))
      ∙ sym (after j)
      ∙ ap (line_at passes words sheet) (sym e)

  -- the lines behind those of the passes
  behind_passes : (k m : ℕ) → k ≡ suc (passes + m) → after_passes (outcomes_in passes words) sheet m ≡ line_at passes words sheet k
  behind_passes k m e =
      let d : m ≡ passes + m - passes = omega arith in
      ap (after_passes (outcomes_in passes words) sheet) d
      ∙ sym (ap (λ (t : Bool). cond t (pass_line_at (outcomes_in passes words) (passes + m)) (after_passes (outcomes_in passes words) sheet (passes + m - passes))) (le-ltb (passes + m) passes (omega arith)))
      ∙ sym (after (passes + m))
      ∙ ap (line_at passes words sheet) (sym e)

  pub role_line_holds : (k m : ℕ) → k ≡ suc (passes + m) → m < 3 → line_of_role (outcomes_in passes words) (role_numbered m) ≡ line_at passes words sheet k
  role_line_holds k m e l = among_roles (outcomes_in passes words) sheet m l ∙ behind_passes k m e

  pub sheet_line_lem : (k m : ℕ) → k ≡ suc (passes + (3 + m)) → sheet_line sheet m ≡ line_at passes words sheet k
  sheet_line_lem k m e = behind_roles (outcomes_in passes words) sheet m ∙ behind_passes k (3 + m) e

  -- ---- the text line by line

  as_lines : (k : ℕ) → text_from passes words sheet k ≡ lines_from (line_at passes words sheet) k (line_count passes - k)
  unfolding text_from result_from line_at
  as_lines k = ap (λ (n : ℕ). lines_from (result_line (outcomes_in passes words) sheet) k (line_count n - k)) (outcomes_length words 0 passes)

  pub text_more : (k : ℕ) → k < line_count passes → text_from passes words sheet k ≡ line_at passes words sheet k ++ text_from passes words sheet (suc k)
  text_more k h =
      let n = line_count passes - suc k in
      let e : line_count passes - k ≡ suc n = omega arith in
      as_lines k
      ∙ ap (lines_from (line_at passes words sheet) k) e
      ∙ one_line_more (line_at passes words sheet) k n
      ∙ ap (λ (l : List ℕ). line_at passes words sheet k ++ l) (sym (as_lines (suc k)))

  pub text_ends : (k : ℕ) → line_count passes ≤ k → text_from passes words sheet k ≡ []
  text_ends k h =
      let e : line_count passes - k ≡ 0 = omega arith in
      as_lines k ∙ ap (lines_from (line_at passes words sheet) k) e ∙ no_lines (line_at passes words sheet) k

-- ---- the length of the text against a room

-- so far: the room is short exactly if what is left of it is too short for the text from line k on
pub record Measuring (passes : ℕ) (words sheet : List ℕ) (room left k : ℕ) : Type 0 where
  pub upto : k ≤ line_count passes
  pub same : ltb left (length (text_from passes words sheet k)) ≡ ltb room (length (text_from passes words sheet 0))

pub measuring_start : (passes : ℕ) (words sheet : List ℕ) (room : ℕ) → Measuring passes words sheet room room 0
measuring_start passes words sheet room = record { upto = omega arith; same = refl }

module _ (passes : ℕ) (words sheet : List ℕ) (room left k : ℕ) (m : Measuring passes words sheet room left k) where
  module _ (n : ℕ) (h : k < line_count passes) (e : n ≡ length (line_at passes words sheet k)) where
    longer : length (text_from passes words sheet k) ≡ n + length (text_from passes words sheet (suc k))
    longer = ap length (text_more passes words sheet k h) ∙ length-append (line_at passes words sheet k) _ ∙ ap (λ (a : ℕ). a + length (text_from passes words sheet (suc k))) (sym e)

    measuring_more : n ≤ left → Measuring passes words sheet room (left - n) (k + 1)
    measuring_more l =
        let d : k + 1 ≡ suc k = omega arith in
        record { upto = omega arith; same = rw d (go (ltb left (n + length (text_from passes words sheet (suc k)))) refl ∙ ap (ltb left) (sym longer) ∙ m.same) }
      where
        go : (t : Bool) → ltb left (n + length (text_from passes words sheet (suc k))) ≡ t → ltb (left - n) (length (text_from passes words sheet (suc k))) ≡ ltb left (n + length (text_from passes words sheet (suc k)))
        go true q = let b = ltb-true left _ q in lt-ltb (left - n) (length (text_from passes words sheet (suc k))) (omega arith) ∙ sym q
        go false q = let b = ltb-false left _ q in le-ltb (left - n) (length (text_from passes words sheet (suc k))) (omega arith) ∙ sym q

    measuring_short : left < n → true ≡ ltb room (length (text_from passes words sheet 0))
    measuring_short l = let q = longer in sym (lt-ltb left (length (text_from passes words sheet k)) (omega arith)) ∙ m.same

    -- a line's length comes off what is left, or the room is too short
    pub measuring_on : (r : Option ℕ) (l : ℕ) → SomeIff r (n ≤ left) (left - n) → r ≡ Some l → Measuring passes words sheet room l (k + 1)
    measuring_on None l f q = absurd (let z : ◌≡◌ {A = ℕ} 0 1 = cc in omega arith)
    measuring_on (Some x) l f q = let same : ◌≡◌ {A = ℕ} x l = cc in rw (← same, f.1) (measuring_more f.0)

    pub measuring_off : (r : Option ℕ) → SomeIff r (n ≤ left) (left - n) → r ≡ None → true ≡ ltb room (length (text_from passes words sheet 0))
    measuring_off None f q = measuring_short (omega (arith, f))
    measuring_off (Some x) f q = absurd (let z : ◌≡◌ {A = ℕ} 0 1 = cc in omega arith)

  pub measuring_end : line_count passes ≤ k → false ≡ ltb room (length (text_from passes words sheet 0))
  measuring_end h = sym (le-ltb left (length (text_from passes words sheet k)) (rw (text_ends passes words sheet k h) (omega arith))) ∙ m.same
