-- What the inner functions ask of what is lent, and the lines of a result by what is lent. Definitions only.
use Rattle.std.specs.Prelude.{◌≡◌, Bool, true, false, ◌||◌, cond, List, [], ℕ, suc, ◌+◌, ◌-◌, ◌*◌, ◌%◌, ◌≤◌, ◌<◌, length, get_or, eqb, leb, Ok}
use Rattle.arguments.specs.Arguments.{Checked, refused_if, unknown_corner, doubled_corner}
use Rattle.refusal.specs.declared.Refusal.{Refusal}
use Rattle.report_line.specs.Result.{pass_line, result_line, line_count, result_from, Piece, result_piece}
use Rattle.roles.specs.Roles.{role_numbered}
use Rattle.sizes.specs.Sizes.{place_count, corner_limit, pass_limit, outcome_size}
use Rattle.report_line.specs.Sizes.{role_line_count}
use Rattle.line_form.specs.Written.{Wrote}
use Rattle.report.specs.WriteResult.{TextLent, over_limit, wild}
use Rattle.report.specs.declared.lines.Line.{Line}
use Rattle.report.specs.declared.lines.PieceEnd.{PieceEnd}
use Rattle.report_words.specs.Outcomes.{stats_at, outcomes_in}
use Rattle.report_words.specs.Asked.{Tame, TameOutcome}

-- ---- what is lent

-- words and sheet are there
pub record AllLent (passes : ℕ) (words sheet : List ℕ) : Type 0 where
  pub words_long : outcome_size * passes ≤ length words
  pub sheet_long : place_count ≤ length sheet

-- and there are no more outcomes than a frame has passes, which are what they can be
pub record Sound (passes : ℕ) (words sheet : List ℕ) : Type 0 where
  pub all : AllLent passes words sheet
  pub few : passes ≤ pass_limit
  pub tame : (k : ℕ) → k < passes → Tame words k

-- ---- lines

-- line k
unfoldable pub line_at : ℕ → List ℕ → List ℕ → ℕ → List ℕ
line_at passes words sheet k = result_line (outcomes_in passes words) sheet k

-- which line has number k: the heading, that of pass m, that of the role of number m, or line m of the sheet
abbrev pub IsLine : ℕ → ℕ → Line → Type 0
IsLine passes k Line.Heading = k ≡ 0
IsLine passes k (Line.Pass m) = (k ≡ suc m) × (m < passes)
IsLine passes k (Line.OfRole r) = (m : ℕ) × (k ≡ suc (passes + m)) × (m < role_line_count) × (r ≡ role_numbered m)
IsLine passes k (Line.OfSheet m) = k ≡ suc (passes + (role_line_count + m))

-- the text from line k on
unfoldable pub text_from : ℕ → List ℕ → List ℕ → ℕ → List ℕ
text_from passes words sheet k = result_from (outcomes_in passes words) sheet k

-- there is a line k
pub record HasLine (passes : ℕ) (words sheet : List ℕ) (k : ℕ) : Type 0 where
  pub all : AllLent passes words sheet
  pub below : k < line_count passes

-- a line of the sheet whose place holds nothing: no corner and no mark
unfoldable pub blank_at : ℕ → List ℕ → ℕ → Bool
blank_at passes sheet k =
    cond (leb k (passes + role_line_count)) false (eqb (get_or sheet ((k - 1 - passes - role_line_count) % place_count) 0) 0)

-- the n lines from line k on are of places that hold nothing
pub record BlankLines (passes : ℕ) (sheet : List ℕ) (k n : ℕ) : Type 0 where
  pub blank : (a : ℕ) → k ≤ a → a < k + n → blank_at passes sheet a ≡ true

-- all lines from line k on and before line r are empty
pub record Skipped (passes : ℕ) (words sheet : List ℕ) (k r : ℕ) : Type 0 where
  pub from : k ≤ r
  pub below : r < line_count passes
  pub empty : (a : ℕ) → k ≤ a → a < r → line_at passes words sheet a ≡ []

-- a piece from line k on
unfoldable pub piece_from : ℕ → List ℕ → List ℕ → ℕ → ℕ → Piece
piece_from passes words sheet k room = result_piece (outcomes_in passes words) sheet k room

-- ---- what the writers ask

pub record PassAsked (words : List ℕ) (k : ℕ) (out : List ℕ) : Type 0 where
  pub outcome : TameOutcome words k
  pub room : length (pass_line (stats_at words k)) ≤ length out

pub record LineAsked (passes : ℕ) (words sheet : List ℕ) (k : ℕ) (out : List ℕ) : Type 0 where
  pub sound : Sound passes words sheet
  pub below : k < line_count passes
  pub room : length (line_at passes words sheet k) ≤ length out

pub record AllAsked (passes : ℕ) (words sheet out : List ℕ) : Type 0 where
  pub sound : Sound passes words sheet
  pub room : length (text_from passes words sheet 0) ≤ length out

pub record SomeAsked (passes : ℕ) (words sheet : List ℕ) (k : ℕ) : Type 0 where
  pub sound : Sound passes words sheet
  pub upto : k ≤ line_count passes

-- a piece that was written to the front of a buffer, the rest untouched
pub record WrotePiece (p : Piece) (old new : List ℕ) (r : PieceEnd) : Type 0 where
  pub wrote : Wrote p.text old new r.at
  pub next : r.next ≡ p.next

-- ---- 5 and 6

pub record CornersAsked (corners : ℕ) (sheet : List ℕ) : Type 0 where
  pub few : corners ≤ corner_limit
  pub long : place_count ≤ length sheet

abbrev pub corners_checked : ℕ → List ℕ → Checked
corners_checked corners sheet =
    refused_if (unknown_corner corners sheet) Refusal.UnknownCorner (refused_if (doubled_corner sheet) Refusal.Duplicate (Ok tt))

-- ---- 2, 3, 5 and 6; `outside`: the call asks for a line that there is not, which is 3 as well

abbrev pub rest_checked : TextLent → Bool → Checked
rest_checked l outside =
    refused_if (over_limit l) Refusal.OverLimit
    (refused_if (wild l || outside) Refusal.OutOfRange
    (corners_checked l.corners l.sheet))
