-- A list of calls on a sheet of which only the written places are kept. `proofs/Run.antt` shows that the run is the same. Definitions only.
use Rattle.std.specs.Prelude.{◌≡◌, List, [], ◌∷◌, ℕ}
use Rattle.sheet.specs.Corners.{CornerLists}
use Rattle.refusal.specs.declared.Refusal.{Refusal}
use Rattle.arguments.specs.Shades.{corners_of}
use Rattle.arguments.specs.declared.Settings.{Settings}
use Rattle.arguments.specs.declared.Pass.{Pass}
use Rattle.passes.specs.Outcome.{Outcome, refused, done}
use Rattle.passes.specs.Run.{Call, step}
use Rattle.passes.specs.declared.PassStats.{PassStats}
use Rattle.invariants.specs.Calls.{Standing, CallInside}
use Rattle.written_places.specs.Written.{Written}
use Rattle.written_places.specs.Passes.{AfterIn, after_of, grow_after_in, fill_after_in, local_after_in}

abbrev pub answering_in : {A B : Type 0} → (A → B) → AfterIn A → AfterIn B
answering_in f a = record { answer = f a.answer; sheet = a.sheet; attached = a.attached; visited = a.visited }

-- what a call does that is not refused
unfoldable pub after_pass_in : CornerLists → List ℕ → List Written → Settings → Pass → AfterIn PassStats
after_pass_in l shades w set (Pass.Grow p) = answering_in PassStats.Grow (grow_after_in (corners_of l shades) set p w)
after_pass_in l shades w set (Pass.Fill p) = answering_in PassStats.Fill (fill_after_in (corners_of l shades) set p w)
after_pass_in l shades w set (Pass.Local p) = answering_in PassStats.Local (local_after_in (corners_of l shades) set p w)

-- a call that runs, and one that is refused
pub data Asked : Type 0 where
  runs : Call → Asked
  refuses : Call → Refusal → Asked

unfoldable pub calls_of : List Asked → List Call
calls_of [] = []
calls_of (runs c ∷ qs) = c ∷ calls_of qs
calls_of (refuses c r ∷ qs) = c ∷ calls_of qs

-- each is as it says, on every sheet that belongs to the corners
pub data AsAsked (l : CornerLists) : List Asked → Type 0 where
  ends : AsAsked l []
  one_runs : {c : Call} {qs : List Asked} → CallInside l c → AsAsked l qs → AsAsked l (runs c ∷ qs)
  one_refused : {c : Call} {r : Refusal} {qs : List Asked} → ((sheet : List ℕ) → Standing l sheet → step l sheet c ≡ refused r) → AsAsked l qs
      → AsAsked l (refuses c r ∷ qs)

-- the outcomes, and the sheet after all
pub record RunIn : Type 0 where
  pub outcomes : List (Outcome PassStats)
  pub left : List Written

abbrev pub before : Outcome PassStats → RunIn → RunIn
before o r = record { outcomes = o ∷ r.outcomes; left = r.left }

unfoldable pub run_in : CornerLists → List Written → List Asked → RunIn
run_in l w [] = record { outcomes = []; left = w }
run_in l w (runs c ∷ qs) = let a = after_pass_in l c.shades w c.settings c.pass in before (done (after_of a)) (run_in l a.sheet qs)
run_in l w (refuses c r ∷ qs) = before (refused r) (run_in l w qs)
