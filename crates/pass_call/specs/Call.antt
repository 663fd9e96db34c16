-- A call of any of the three passes: its answer, the label box beside it, and every lent buffer, by the step that it is (`passes` `Run.step`).
-- Definitions only.
use Rattle.std.specs.Prelude.{List, ℕ, Ok, Err}
use Rattle.arguments.specs.Front.{over}
use Rattle.arguments.specs.declared.Pass.{Pass}
use Rattle.arguments.specs.declared.Settings.{Settings}
use Rattle.passes.specs.Outcome.{Outcome, refused, done, Answer}
use Rattle.labels.specs.declared.kept.KeptBox.{KeptBox}
use Rattle.passes.specs.Step.{rooms, box_left}
use Rattle.passes.specs.Run.{Handed, Call}
use Rattle.passes.specs.declared.PassStats.{PassStats}
use Rattle.count_bounds.specs.Bounds.{Small}

-- ---- the call

-- a pass, cell size with axes and band, the shades, the label box, and the lengths of the lent queue and attached list
abbrev pub call_of : Settings → List ℕ → Handed → ℕ → ℕ → Pass → Call
call_of set shades around queue attached p = record { pass = p; settings = set; shades = shades; around = around; rooms = rooms queue attached }

-- ---- its answer

-- what one pass's call answers, as an answer of any of the three
abbrev pub answered : {A : Type 0} → (A → PassStats) → Answer (A × KeptBox) → Answer (PassStats × KeptBox)
answered f (Ok (s, around)) = Ok (f s, around)
answered f (Err r) = Err r

-- ---- the answer, and every lent buffer after the call

pub record PassOut : Type 0 where
  pub answer : Answer (PassStats × KeptBox)
  pub sheet : List ℕ
  pub queue : List ℕ
  pub attached : List ℕ

abbrev pub pass_out : Answer (PassStats × KeptBox) → List ℕ → List ℕ → List ℕ → PassOut
pass_out r s q a = record { answer = r; sheet = s; queue = q; attached = a }

-- "a refusal changes no buffer"; else the sheet, and at the front of the other two the visited and the new cells
abbrev pub pass_leaves : Outcome PassStats → List ℕ → List ℕ → List ℕ → PassOut
pass_leaves (refused r) sheet queue attached = pass_out (Err r) sheet queue attached
pass_leaves (done a) sheet queue attached = pass_out (Ok (a.answer, box_left a)) a.sheet (over a.visited queue) (over a.attached attached)

-- ---- how large what it says can get

abbrev pub SmallAnswer : Answer (PassStats × KeptBox) → Type 0
SmallAnswer (Ok (s, around)) = Small s
SmallAnswer (Err r) = Unit {0}
