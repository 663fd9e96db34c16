-- A list of calls on the sheet of some written places goes as its definition on these places says. Assumes nothing.
use mathlib.Core.Path.{◌≡◌, refl, ap, ◌∙◌, subst}
use mathlib.Core.List.{List, [], ◌∷◌}
use Prim.Native.Nat.{ℕ}
use Rattle.sheet.specs.Corners.{CornerLists}
use Rattle.arguments.specs.Shades.{corners_of}
use Rattle.arguments.specs.declared.Settings.{Settings}
use Rattle.arguments.specs.declared.Pass.{Pass}
use Rattle.passes.specs.Outcome.{done}
use Rattle.passes.specs.Run.{Call, step, sheet_after, run, sheet_of}
use Rattle.passes.specs.declared.PassStats.{PassStats}
use Rattle.invariants.specs.Calls.{Standing, CallInside, answering, after_pass}
use Rattle.invariants.proofs.Run.{standing_step, fit_accepts}
use Rattle.written_places.specs.Written.{Written, Rise, sheet_with}
use Rattle.written_places.specs.Passes.{after_of}
use Rattle.written_places.specs.Run.{after_pass_in, Asked, runs, refuses, calls_of, AsAsked, ends, one_runs, one_refused, run_in}
use Rattle.written_places.proofs.Passes.{grow_so, grow_rises, fill_so, fill_rises, local_so, local_rises}

module _ (l : CornerLists) (shades : List ℕ) (w : List Written) (h : Rise 0 w) (set : Settings) where
  after_so : (p : Pass) → after_pass l shades (sheet_with w) set p ≡ after_of (after_pass_in l shades w set p)
  unfolding after_pass_in
  after_so (Pass.Grow p) = ap (answering PassStats.Grow) (grow_so (corners_of l shades) set p w h)
  after_so (Pass.Fill p) = ap (answering PassStats.Fill) (fill_so (corners_of l shades) set p w h)
  after_so (Pass.Local p) = ap (answering PassStats.Local) (local_so (corners_of l shades) set p w h)

  after_rises : (p : Pass) → Rise 0 (after_pass_in l shades w set p).sheet
  unfolding after_pass_in
  after_rises (Pass.Grow p) = grow_rises (corners_of l shades) set p w h
  after_rises (Pass.Fill p) = fill_rises (corners_of l shades) set p w h
  after_rises (Pass.Local p) = local_rises (corners_of l shades) set p w h

-- one call that runs
step_so : (l : CornerLists) (w : List Written) → Rise 0 w → (c : Call) → Standing l (sheet_with w) → CallInside l c → step l (sheet_with w) c ≡ done (after_of (after_pass_in l c.shades w c.settings c.pass))
step_so l w h c s f = (fit_accepts l (sheet_with w) c s f).done_so ∙ ap done (after_so l c.shades w h c.settings c.pass)

-- what holds of a list of calls
pub record Went (l : CornerLists) (w : List Written) (qs : List Asked) : Type 0 where
  pub run_so : run l (sheet_with w) (calls_of qs) ≡ (run_in l w qs).outcomes
  pub left_so : sheet_of l (sheet_with w) (calls_of qs) ≡ sheet_with (run_in l w qs).left
  pub left_rises : Rise 0 (run_in l w qs).left

pub went : (l : CornerLists) (qs : List Asked) (w : List Written) → Rise 0 w → Standing l (sheet_with w) → AsAsked l qs → Went l w qs
unfolding run sheet_of calls_of run_in
went l [] w h s ends = record { run_so = refl; left_so = refl; left_rises = h }
went l (runs c ∷ qs) w h s (one_runs f g) =
    let a = after_pass_in l c.shades w c.settings c.pass in
    let e = step_so l w h c s f in
    let next : sheet_after (sheet_with w) (step l (sheet_with w) c) ≡ sheet_with a.sheet = ap (sheet_after (sheet_with w)) e in
    let rest = went l qs a.sheet (after_rises l c.shades w h c.settings c.pass) (subst (Standing l) next (standing_step l (sheet_with w) s c)) g in
    let all = ap (λ (sheet : List ℕ). run l sheet (calls_of qs)) next ∙ rest.run_so in
    record {
      run_so = λ t. e t ∷ all t;
      left_so = ap (λ (sheet : List ℕ). sheet_of l sheet (calls_of qs)) next ∙ rest.left_so;
      left_rises = rest.left_rises;
    }
went l (refuses c r ∷ qs) w h s (one_refused f g) =
    let e = f (sheet_with w) s in
    let next : sheet_after (sheet_with w) (step l (sheet_with w) c) ≡ sheet_with w = ap (sheet_after (sheet_with w)) e in
    let rest = went l qs w h s g in
    let all = ap (λ (sheet : List ℕ). run l sheet (calls_of qs)) next ∙ rest.run_so in
    record {
      run_so = λ t. e t ∷ all t;
      left_so = ap (λ (sheet : List ℕ). sheet_of l sheet (calls_of qs)) next ∙ rest.left_so;
      left_rises = rest.left_rises;
    }
