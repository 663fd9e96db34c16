-- The passes of a frame, run in order on one sheet (document 01, "Lists of passes, for demand 3": "a frame's passes are one such list"). Definitions only.
use Rattle.std.specs.Prelude.{cond, List, ℕ, zero, suc, ◌+◌, ◌*◌, ◌≤◌, eqb, length, get_or, Float}
use Rattle.sheet.specs.Corners.{CornerLists}
use Rattle.arguments.specs.declared.Pass.{Pass}
use Rattle.arguments.specs.declared.Settings.{Settings}
use Rattle.passes.specs.Outcome.{Outcome, refused, done}
use Rattle.passes.specs.Run.{as_left, Call, step, sheet_after}
use Rattle.passes.specs.declared.PassStats.{PassStats}
use Rattle.pass_call.specs.Call.{call_of}
use Rattle.frame.specs.ReadFrame.{grow_of, fill_of, local_of}
use Rattle.roles.specs.Roles.{role_numbered}
use Rattle.roles.specs.declared.Role.{Role}
use Rattle.sizes.specs.Sizes.{pass_limit, pass_size, all_pass_words}
use Rattle.report_words.specs.Asked.{with_outcome}

-- ---- a pass from its seven words: kind (0 grow, 1 fill, 2 local), search, factor, boundary or residual, rounds, depth; the last is its role, which
-- says nothing of what it does

abbrev pub pass_word : List ℕ → ℕ → ℕ → ℕ
pass_word words k m = get_or words (pass_size * k + m) 0

unfoldable pub pass_at : List ℕ → ℕ → Pass
pass_at words k =
    cond (eqb (pass_word words k 0) 0) (grow_of (pass_word words k 1) (pass_word words k 2) (pass_word words k 3))
    (cond (eqb (pass_word words k 0) 1) (fill_of (pass_word words k 1) (pass_word words k 2) (pass_word words k 4))
    (local_of (pass_word words k 1) (pass_word words k 2) (pass_word words k 4) (pass_word words k 3) (pass_word words k 5)))

abbrev pub role_at : List ℕ → ℕ → Role
role_at words k = role_numbered (pass_word words k 6)

-- call k of the passes that are given as words: it is handed the label box as the last one left it
abbrev pub call_at : Settings → List ℕ → ℕ → ℕ → List ℕ → ℕ → Call
call_at set shades queue attached passes k = call_of set shades as_left queue attached (pass_at passes k)

-- ---- what a call leaves: the sheet, and the words of the outcomes, twelve of each

-- the outcome of call k, and who ran it; a refused call has none
abbrev pub noted : List ℕ → ℕ → Role → Outcome PassStats → List ℕ
noted words k r (refused e) = words
noted words k r (done a) = with_outcome words k r a.answer

pub record Left : Type 0 where
  pub sheet : List ℕ
  pub words : List ℕ

abbrev pub left : List ℕ → List ℕ → Left
left sheet words = record { sheet = sheet; words = words }

unfoldable pub left_by : CornerLists → Call → ℕ → Role → Left → Left
left_by l c k r s = left (sheet_after s.sheet (step l s.sheet c)) (noted s.words k r (step l s.sheet c))

-- n passes from number k on
unfoldable pub left_by_all : CornerLists → (ℕ → Call) → (ℕ → Role) → ℕ → ℕ → Left → Left
left_by_all l call role zero k s = s
left_by_all l call role (suc n) k s = left_by_all l call role n (suc k) (left_by l (call k) k (role k) s)

-- ---- what is asked of the buffers

-- n passes of seven words each
pub record PassWords (n : ℕ) (passes : List ℕ) : Type 0 where
  pub few : n ≤ pass_limit
  pub long : all_pass_words ≤ length passes

-- n corners at the front of their buffers
pub record AtFront (n : ℕ) (xs ys pitches : List Float) (shades : List ℕ) : Type 0 where
  pub in_xs : n ≤ length xs
  pub in_ys : n ≤ length ys
  pub in_pitches : n ≤ length pitches
  pub in_shades : n ≤ length shades
