-- Where no shade stands: every cell is tried as if there were no kinds, local passes over nothing, and a call does the same whatever bytes without a
-- shade it is lent. Assumes nothing.
use Rattle.std.specs.Prelude.{None, Ok, Err}
use mathlib.Core.Path.{◌≡◌, refl, sym, ap, ap₂, ◌∙◌, fun_ext}
use mathlib.Core.Bool.{Bool, true, false, cond}
use mathlib.Core.List.{List, []}
use Prim.Native.Nat.{ℕ, zero, suc, ◌+◌, ◌<◌}
use native.Mathlib.Omega.{arith}
use lib.Dec.{ltb}
use borrow.Author.Tests.{ltb-true}
use lib.ListN.{length, get_or}
use lib.Ieee.{binary32, of_bits, lt}
use Rattle.sheet.specs.Shades.{shade_of, bare}
use Rattle.sheet.specs.Corners.{Corners, CornerLists, corner_of, seen_of}
use Rattle.sheet.specs.declared.Cell.{Cell}
use Rattle.labels.specs.Labelled.{label_count}
use Rattle.labels.proofs.Below.{no_both, any_none}
use Rattle.candidates.specs.declared.Candidates.{Candidates}
use Rattle.arguments.specs.Shades.{stands, any_shade, shade_at, corners_of}
use Rattle.arguments.specs.declared.Pass.{Pass}
use Rattle.arguments.specs.declared.Settings.{Settings}
use Rattle.arguments.specs.declared.LocalExtensionParams.{LocalExtensionParams}
use Rattle.extension_common.specs.TryCell.{TryCellResult, choice_by, result_of, try_at}
use Rattle.extension_common.proofs.Laws.{gathered_bare, unmatched_bare}
use Rattle.passes.specs.Outcome.{After}
use Rattle.passes.specs.Counting.{no_counts}
use Rattle.passes.specs.Grow.{grow_after}
use Rattle.passes.specs.Fill.{fill_after}
use Rattle.passes.specs.Local.{supports_of, LocalFit, none, fitted, local_fit, LocalState, worst, with_residuals, gate_of, local_with, local_try, local_at, local_visit, local_pass, local_from, local_limit, local_run, unmatched_if, local_after}
use Rattle.passes.specs.Step.{unless}
use Rattle.passes.specs.declared.PassStats.{PassStats}
use Rattle.passes.proofs.Rounds.{rounds_keep}
use Rattle.invariants.specs.Calls.{answering, after_pass, lent_shades, ShadesInside}
use Rattle.invariants.specs.Unshaded.{try_any, AsBefore, unshaded, NoShade, CallsAsBefore}
use Rattle.invariants.proofs.Shading.{kinds_not_tested}
use Rattle.invariants.proofs.Run.{step_as_lem}
use Rattle.arguments.specs.Arguments.{Checked}

-- ---- one cell

-- what is found changes nothing of what was passed over
pub with_unmatched_lem : (c : Cell) (r : TryCellResult) (s : LocalState) → (local_with c r s).unmatched ≡ s.unmatched
unfolding local_with
with_unmatched_lem c (Err e) s = refl
with_unmatched_lem c (Ok k) s = refl

module _ (cs : Corners) (absent : cs.shades.any ≡ false) (set : Settings) (p : LocalExtensionParams) where
  at_unmatched : (c : Cell) (fit : LocalFit) (s : LocalState) → (local_at cs set p c fit s).unmatched ≡ s.unmatched
  unfolding local_at local_try
  at_unmatched c none s = refl
  at_unmatched c (fitted h rs) s =
      go (lt (gate_of set p) (worst (of_bits binary32 0) rs)) _
      (with_unmatched_lem c _ _ ∙ ap (λ (m : ℕ). s.unmatched + m) (unmatched_bare cs absent s.sheet _ c _) ∙ omega arith)
    where
      go : (t : Bool) (after : LocalState) → after.unmatched ≡ s.unmatched → (cond t (with_residuals rs s) after).unmatched ≡ s.unmatched
      go true after e = refl
      go false after e = e

  visit_unmatched : (c : Cell) (s : LocalState) → (local_visit cs set p c s).unmatched ≡ s.unmatched
  unfolding local_visit
  visit_unmatched c s = at_unmatched c (local_fit (seen_of cs.corner s.sheet) (supports_of c s.sheet)) s

  run_unmatched : (sheet : List ℕ) → (local_run cs set p sheet).state.unmatched ≡ 0
  unfolding local_run local_from
  run_unmatched sheet =
      rounds_keep (local_pass cs set p) (λ qs s. s.unmatched ≡ 0) (λ s e. e) (λ q qs s e. visit_unmatched _ s ∙ e)
      (local_limit (label_count sheet) p.max_iters)
      (record { state = record { sheet = sheet; made = []; counts = no_counts; largest = None; unmatched = 0 }; rounds = 0 }) refl

pub as_before : AsBefore
unfolding try_at try_any local_after unmatched_if
as_before cs absent =
    record {
      tried = λ sheet tol search c at.
          ap (λ (g : Candidates). result_of cs.corner sheet tol c (choice_by search.rule g search.ambiguity_factor))
          (gathered_bare cs absent sheet search.search_r c at);
      visited = visit_unmatched cs absent;
      run = run_unmatched cs absent;
      answered = λ set p sheet. ap (λ (b : Bool). unmatched_if b (local_run cs set p sheet).state.unmatched) absent;
    }

-- ---- the calls

-- a byte that is no shade
no_shade : (b : ℕ) → stands (shade_of b) ≡ false → b ≡ 0
unfolding stands shade_of
no_shade zero e = refl
no_shade (suc k) e = absurd (no_both true refl e)

pub byte_nought : (shades : List ℕ) (n : ℕ) → any_shade shades n ≡ false → (k : ℕ) → k < n → get_or shades k 0 ≡ 0
unfolding any_shade
byte_nought shades n e k h = no_shade _ (any_none _ n k e h)

module _ {l : CornerLists} {shades : List ℕ} (w : NoShade l shades) where
  all_bare : (k : ℕ) → shade_at shades (length l.xs) k ≡ bare
  unfolding shade_at shade_of
  all_bare k = go (ltb k (length l.xs)) refl
    where
      go : (t : Bool) → ltb k (length l.xs) ≡ t → cond t (shade_of (get_or shades k 0)) bare ≡ bare
      go true e = ap shade_of (byte_nought shades (length l.xs) w.none k (ltb-true k (length l.xs) e))
      go false e = refl

  pub corners_unshaded : corners_of l shades ≡ unshaded l
  corners_unshaded = λ t. record { count = length l.xs; corner = corner_of l; shades = record { any = w.none t; of = fun_ext all_bare t } }

  shades_inside : ShadesInside l shades
  shades_inside = record { long = w.long; inside = λ k h. omega (arith, byte_nought shades (length l.xs) w.none k h) }

pass_alike : (l : CornerLists) (shades shades' sheet : List ℕ) (set : Settings) → corners_of l shades' ≡ corners_of l shades → (p : Pass) → after_pass l shades' sheet set p ≡ after_pass l shades sheet set p
pass_alike l shades shades' sheet set e (Pass.Grow p) = ap (λ (cs : Corners). answering PassStats.Grow (grow_after cs set p sheet)) e
pass_alike l shades shades' sheet set e (Pass.Fill p) = ap (λ (cs : Corners). answering PassStats.Fill (fill_after cs set p sheet)) e
pass_alike l shades shades' sheet set e (Pass.Local p) = ap (λ (cs : Corners). answering PassStats.Local (local_after cs set p sheet)) e

pub calls_as_before : CallsAsBefore
calls_as_before l shades w =
    record {
      corners = corners_unshaded w;
      calls = λ sheet c v.
          step_as_lem l sheet (lent_shades shades c)
          ∙ ap₂ (λ (k : Checked) (a : After PassStats). unless k a) (kinds_not_tested l sheet c shades (shades_inside v) (shades_inside w))
          (pass_alike l c.shades shades sheet c.settings (corners_unshaded w ∙ sym (corners_unshaded v)) c.pass)
          ∙ sym (step_as_lem l sheet c);
    }
