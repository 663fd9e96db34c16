-- The outcomes of an accepted frame are those of its passes, in order, each with its pass's role and with what its call said. Assumes nothing.
use mathlib.Core.Path.{◌≡◌, refl, sym, ap, ◌∙◌}
use mathlib.Core.List.{List, [], ◌∷◌, map}
use Prim.Native.Nat.{ℕ, suc}
use native.Mathlib.Omega.{arith}
use lib.ListN.{length, length-map}
use Rattle.roles.specs.declared.Role.{Role}
use Rattle.sheet.specs.Corners.{CornerLists}
use Rattle.passes.specs.Outcome.{Outcome, refused, done}
use Rattle.passes.specs.Run.{Call, step, sheet_after, run}
use Rattle.passes.specs.declared.PassStats.{PassStats}
use Rattle.frame.specs.Frame.{Frame, RoledPass, parts_of}
use Rattle.frame.specs.ReadFrame.{sheet_of}
use Rattle.frame_laws.specs.Calls.{frame_corners, call_of, calls_of, NoneRefused}
use Rattle.frame_laws.proofs.Runs.{accepted_runs}
use Rattle.frame_answer.specs.Answer.{outcomes_of, frame_outcomes}
use Rattle.role_laws.specs.Every.{said_by, EachRole}

-- a list of calls has as many outcomes
run_many : (l : CornerLists) (sheet : List ℕ) (cs : List Call) → length (run l sheet cs) ≡ length cs
unfolding run
run_many l sheet [] = refl
run_many l sheet (c ∷ cs) = ap suc (run_many l (sheet_after sheet (step l sheet c)) cs)

outcomes_roles : (ps : List RoledPass) (os : List (Outcome PassStats)) → length ps ≡ length os → NoneRefused os
    → map (λ o. o.role) (outcomes_of ps os) ≡ map (λ p. p.role) ps
unfolding outcomes_of
outcomes_roles [] os e n = refl
outcomes_roles (p ∷ ps) [] e n = absurd (omega (arith, e))
outcomes_roles (p ∷ ps) (refused r ∷ os) e n = absurd n
outcomes_roles (p ∷ ps) (done a ∷ os) e n = ap (λ (l : List Role). p.role ∷ l) (outcomes_roles ps os (omega (arith, e)) n)

outcomes_said : (ps : List RoledPass) (os : List (Outcome PassStats)) → length ps ≡ length os → NoneRefused os
    → map (λ o. o.stats) (outcomes_of ps os) ≡ said_by os
unfolding outcomes_of said_by
outcomes_said [] [] e n = refl
outcomes_said [] (o ∷ os) e n = absurd (omega (arith, e))
outcomes_said (p ∷ ps) [] e n = absurd (omega (arith, e))
outcomes_said (p ∷ ps) (refused r ∷ os) e n = absurd n
outcomes_said (p ∷ ps) (done a ∷ os) e n = ap (λ (l : List PassStats). a.answer ∷ l) (outcomes_said ps os (omega (arith, e)) n)

module _ (f : Frame) where
  pub as_many_calls : length (parts_of f).passes ≡ length (run (frame_corners f) (sheet_of f) (calls_of f))
  unfolding calls_of
  as_many_calls = sym (run_many (frame_corners f) (sheet_of f) (calls_of f) ∙ length-map (parts_of f).passes (λ q. call_of f q.pass))

pub each_role : EachRole
unfolding frame_outcomes
each_role text f e =
    let n = (accepted_runs text f e).runs in
    let os = run (frame_corners f) (sheet_of f) (calls_of f) in
    let roles = outcomes_roles (parts_of f).passes os (as_many_calls f) n in
    record {
      as_many =
          sym (length-map (frame_outcomes f) (λ o. o.role)) ∙ ap (λ (l : List Role). length l) roles ∙ length-map (parts_of f).passes (λ p. p.role);
      roles = roles;
      stats = outcomes_said (parts_of f).passes os (as_many_calls f) n;
    }
