-- The three passes for another language: numbers and lent buffers in; out come 0 or the refusal's number, in twelve lent words what the pass
-- says, and in five lent numbers the label box. Definitions only.
use Rattle.std.specs.Prelude.{◌≡◌, Bool, true, false, ◌||◌, List, ℕ, ℤ, ltb, length, Float}
use Rattle.sheet.specs.Corners.{CornerLists}
use Rattle.refusal.specs.Refusal.{number_of}
use Rattle.arguments.specs.declared.Pass.{Pass}
use Rattle.arguments.specs.declared.Settings.{Settings}
use Rattle.arguments.specs.declared.GrowParams.{GrowParams}
use Rattle.arguments.specs.declared.FillParams.{FillParams}
use Rattle.arguments.specs.declared.LocalExtensionParams.{LocalExtensionParams}
use Rattle.passes.specs.Outcome.{Outcome, refused, done}
use Rattle.passes.specs.Run.{other, step}
use Rattle.passes.specs.Step.{box_left}
use Rattle.passes.specs.declared.PassStats.{PassStats}
use Rattle.roles.specs.declared.Role.{Role}
use Rattle.pass_call.specs.Call.{call_of}
use Rattle.sizes.specs.Sizes.{outcome_size}
use Rattle.report_words.specs.Asked.{with_outcome}
use Rattle.labels.specs.Kept.{box_kept}
use Rattle.arguments.specs.Front.{over}
use Rattle.grid_words.specs.Around.{box_size, box_told, StrangeMark, box_entered}

-- ---- numbers as the calls have them

-- cell size, both axes and the band
abbrev pub settings_of : Float → Float → Float → Float → Float → Float → Settings
settings_of size ix iy jx jy band =
    record {
      grid = record { axis_i = record { x = ix; y = iy }; axis_j = record { x = jx; y = jy }; cell_size = size };
      edge_length_tol = band;
    }

abbrev pub grow_params : Float → Float → Float → GrowParams
grow_params search factor boundary = record { attach_search_rel = search; attach_ambiguity_factor = factor; boundary_search_factor = boundary }

abbrev pub fill_params : Float → Float → ℕ → FillParams
fill_params search factor rounds = record { attach_search_rel = search; attach_ambiguity_factor = factor; max_iters = rounds }

abbrev pub local_params : Float → Float → ℕ → Float → ℕ → LocalExtensionParams
local_params search factor rounds residual depth =
    record { search_rel = search; ambiguity_factor = factor; max_iters = rounds; max_residual_rel = residual; extend_depth = depth }

-- ---- the call

-- the answer, and every lent buffer after the call; fill and local are lent no queue, which is an empty one here
pub record PassLeft : Type 0 where
  pub answer : ℕ
  pub sheet : List ℕ
  pub around : List ℤ
  pub queue : List ℕ
  pub attached : List ℕ
  pub out : List ℕ

abbrev pub pass_left : ℕ → List ℕ → List ℤ → List ℕ → List ℕ → List ℕ → PassLeft
pass_left answer sheet around queue attached out =
    record { answer = answer; sheet = sheet; around = around; queue = queue; attached = attached; out = out }

-- a refusal's number, and all as it was; or 0, what the pass leaves, the box that it leaves at the front of its places, and its twelve words at the
-- front of the last buffer: a call knows no role, so that the last of them is the plant's
abbrev pub pass_told : Outcome PassStats → List ℕ → List ℤ → List ℕ → List ℕ → List ℕ → PassLeft
pass_told (refused r) sheet around queue attached out = pass_left (number_of r) sheet around queue attached out
pass_told (done a) sheet around queue attached out =
    pass_left 0 a.sheet (box_entered (box_left a) around) (over a.visited queue) (over a.attached attached) (with_outcome out 0 Role.Plant a.answer)

-- 7 where there are no five numbers or no room for twelve words, before anything is tried
unfoldable pub lent_short : List ℤ → List ℕ → Bool
lent_short around out = ltb (length around) box_size || ltb (length out) outcome_size

abbrev pub pass_unless : Bool → Outcome PassStats → List ℕ → List ℤ → List ℕ → List ℕ → List ℕ → PassLeft
pass_unless true o sheet around queue attached out = pass_left 7 sheet around queue attached out
pass_unless false o sheet around queue attached out = pass_told o sheet around queue attached out

-- the pass's step, handed the box that the five numbers say
abbrev pub step_exported : CornerLists → List ℕ → Settings → Pass → List ℕ → List ℤ → ℕ → ℕ → Outcome PassStats
step_exported l shades set p sheet around queue attached = step l sheet (call_of set shades (other (box_told around)) queue attached p)

unfoldable pub pass_exported : CornerLists → List ℕ → Settings → Pass → List ℕ → List ℤ → List ℕ → List ℕ → List ℕ → PassLeft
pass_exported l shades set p sheet around queue attached out =
    pass_unless (lent_short around out) (step_exported l shades set p sheet around (length queue) (length attached)) sheet around queue attached out

-- ---- the mark of a lent box; proved in proofs/Marks.antt

-- "a mark other than 0 or 1 is 3": a call with such a mark that gets neither 7 nor 2 gets 3, and changes nothing
abbrev pub StrangeMarkIs3 : Type 0
StrangeMarkIs3 =
    (l : CornerLists) (shades : List ℕ) (set : Settings) (p : Pass) (sheet : List ℕ) (around : List ℤ) (queue attached out : List ℕ)
    → StrangeMark around
    → ((pass_exported l shades set p sheet around queue attached out).answer ≡ 7 → ⊥)
    → ((pass_exported l shades set p sheet around queue attached out).answer ≡ 2 → ⊥)
    → pass_exported l shades set p sheet around queue attached out ≡ pass_left 3 sheet around queue attached out

-- what a call that is done leaves in the five places is the box of the sheet that it leaves, as the next call is told it
abbrev pub LeftAsHanded : Type 0
LeftAsHanded =
    (l : CornerLists) (shades : List ℕ) (set : Settings) (p : Pass) (sheet : List ℕ) (around : List ℤ) (queue attached out : List ℕ)
    → (pass_exported l shades set p sheet around queue attached out).answer ≡ 0
    → box_told (pass_exported l shades set p sheet around queue attached out).around ≡ box_kept (pass_exported l shades set p sheet around queue attached out).sheet
