-- Document 02, 1/14: "If any stands". Where no shade does, the passes do what document 01 says: every unlabelled corner within the radius is a candidate,
-- and nothing is passed over. `proofs/Unshaded.antt` proves `AsBefore` and `CallsAsBefore`. Definitions only.
use Rattle.std.specs.Prelude.{◌≡◌, false, List, ℕ, ◌≤◌, length, None}
use Rattle.sheet.specs.Shades.{bare}
use Rattle.sheet.specs.Corners.{Corners, CornerLists, corner_of}
use Rattle.sheet.specs.declared.Cell.{Cell}
use Rattle.sheet.specs.declared.Position.{Position}
use Rattle.candidates.specs.Candidates.{candidates_at, first_two}
use Rattle.positions_policy.specs.declared.Tolerances.{Tolerances}
use Rattle.arguments.specs.Shades.{any_shade, corners_of}
use Rattle.arguments.specs.declared.Settings.{Settings}
use Rattle.arguments.specs.declared.LocalExtensionParams.{LocalExtensionParams}
use Rattle.extension_common.specs.TryCell.{TryCellResult, unlabelled_on, choice_by, result_of, try_at}
use Rattle.extension_common.specs.declared.Search.{Search}
use Rattle.passes.specs.Local.{LocalState, local_visit, local_run, local_after}
use Rattle.passes.specs.Run.{Call, step}
use Rattle.invariants.specs.Calls.{lent_shades}

-- what trying a cell finds where every unlabelled corner within the radius is a candidate, of whatever kind (document 01, "Candidates and choice")
unfoldable pub try_any : Corners → List ℕ → Tolerances → Search → Cell → Position → TryCellResult
try_any cs sheet tol search c at =
    result_of cs.corner sheet tol c
    (choice_by search.rule (first_two (candidates_at (λ k. (cs.corner k).position) (unlabelled_on sheet) cs.count at search.search_r))
    search.ambiguity_factor)

-- corners among which no shade stands: a cell is tried so wherever it is tried, which all three passes do by `try_at`; and local passes over none, and
-- says that there is no shade
pub record Unshaded (cs : Corners) : Type 0 where
  pub tried : (sheet : List ℕ) (tol : Tolerances) (search : Search) (c : Cell) (at : Position)
      → try_at cs sheet tol search c at ≡ try_any cs sheet tol search c at
  pub visited : (set : Settings) (p : LocalExtensionParams) (c : Cell) (s : LocalState) → (local_visit cs set p c s).unmatched ≡ s.unmatched
  pub run : (set : Settings) (p : LocalExtensionParams) (sheet : List ℕ) → (local_run cs set p sheet).state.unmatched ≡ 0
  pub answered : (set : Settings) (p : LocalExtensionParams) (sheet : List ℕ) → (local_after cs set p sheet).answer.unmatched ≡ None

abbrev pub AsBefore : Type 0
AsBefore = (cs : Corners) → cs.shades.any ≡ false → Unshaded cs

-- ---- the calls

-- the corners with no shade at all
abbrev pub unshaded : CornerLists → Corners
unshaded l = record { count = length l.xs; corner = corner_of l; shades = record { any = false; of = λ k. bare } }

-- bytes for all corners, none of which is a shade
pub record NoShade (l : CornerLists) (shades : List ℕ) : Type 0 where
  pub long : length l.xs ≤ length shades
  pub none : any_shade shades (length l.xs) ≡ false

-- they are lent as no shades at all, so a call does the same with any other such bytes
pub record CallsUnshaded (l : CornerLists) (shades : List ℕ) : Type 0 where
  pub corners : corners_of l shades ≡ unshaded l
  pub calls : (sheet : List ℕ) (c : Call) → NoShade l c.shades → step l sheet (lent_shades shades c) ≡ step l sheet c

abbrev pub CallsAsBefore : Type 0
CallsAsBefore = (l : CornerLists) (shades : List ℕ) → NoShade l shades → CallsUnshaded l shades
