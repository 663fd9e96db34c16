-- The shades of a frame (document 02, 1/14): which refusals a shade line has, what its lines give each corner, and what they leave alone.
-- Definitions only.
use Rattle.std.specs.Prelude.{◌≡◌, Bool, true, false, not, ◌&&◌, ◌||◌, cond, ℕ, ◌+◌, ◌≤◌, eqb, ℤ, pos, nat_abs, length, get_or, Ok}
use mathlib.Core.List.{List, [], ◌∷◌, Memᴰ}
use Rattle.std.specs.Int.Signed.{le_z, lt_z}
use Rattle.refusal.specs.declared.Refusal.{Refusal}
use Rattle.sheet.specs.Cells.{eq_z}
use Rattle.arguments.specs.Arguments.{refused_if}
use Rattle.arguments.specs.Shades.{any_shade}
use Rattle.line_form.specs.Forms.{whole}
use Rattle.frame_line.specs.Lines.{Line, kind_of, ShadeLine}
use Rattle.frame_line.specs.declared.Kind.{Kind}
use Rattle.frame.specs.Frame.{Frame, Parts, part_of, parts_of, some_of, checked_line, read_frame, accepted}
use Rattle.join.specs.Rule.{All}
use Rattle.frame.specs.Text.{frame_text}
use Rattle.frame.specs.ReadFrame.{xs_of, ys_of, pitches_of, shades_of, sheet_of, settings_of}

-- ---- the checks of a shade line

-- the line `(shade n k)`
abbrev pub shade_line : ℤ → ℤ → Line
shade_line n k = record { row = 11; numbers = whole n ∷ whole k ∷ [] }

-- "Checks: a k other than 0 or 1 is number 1, .. an unknown corner 5, a second shade 6", in this order, and no other check
abbrev pub ShadeChecked : Type 0
ShadeChecked = (p : Parts) (n k : ℤ)
    → checked_line p (shade_line n k)
    ≡ refused_if (not (eq_z k (pos 0) || eq_z k (pos 1))) Refusal.Malformed
    (refused_if (not (le_z (pos 0) n && lt_z n (pos (length p.corners)))) Refusal.UnknownCorner
    (refused_if (some_of (λ s. eq_z s.corner n) p.shades) Refusal.Duplicate (Ok tt)))

-- ---- what the shade lines give

-- a shade line by which the corner n has the kind k
pub record ShadedBy (ss : List ShadeLine) (n k : ℕ) : Type 0 where
  pub shade : ShadeLine
  pub listed : Memᴰ shade ss
  pub corner : shade.corner ≡ pos n
  pub kind : shade.kind ≡ pos k

-- "corner n having kind k, 0 or 1", as the calls are lent it: a byte a corner, 1 more than the kind for the corner of each shade line, which no
-- other corner has; a corner without a shade line has 0. "If any stands": one stands among the bytes exactly if the frame has a shade line
pub record GivenShades (f : Frame) : Type 0 where
  pub long : length (shades_of f) ≡ length (parts_of f).corners
  pub inside : (n : ℕ) → get_or (shades_of f) n 0 ≤ 2
  pub each : All (λ s. get_or (shades_of f) (nat_abs s.corner) 0 ≡ nat_abs s.kind + 1) (parts_of f).shades
  pub only : (n k : ℕ) → get_or (shades_of f) n 0 ≡ k + 1 → ShadedBy (parts_of f).shades n k
  pub bare : (n : ℕ) → All (λ s. s.corner ≡ pos n → ⊥) (parts_of f).shades → get_or (shades_of f) n 0 ≡ 0
  pub some : ((parts_of f).shades ≡ [] → ⊥) → any_shade (shades_of f) (length (parts_of f).corners) ≡ true
  pub none : (parts_of f).shades ≡ [] → any_shade (shades_of f) (length (parts_of f).corners) ≡ false

-- ---- what they leave alone

abbrev pub is_shade : Kind → Bool
is_shade k = eqb (part_of k) 3

-- a frame without its shade lines
unfoldable pub without_shades : Frame → Frame
without_shades [] = []
without_shades (l ∷ ls) = cond (is_shade (kind_of l)) (without_shades ls) (l ∷ without_shades ls)

-- "given labels are not tested": the sheet of the given labels is that of the frame without its shade lines, and so is all that is not the shades
pub record ShadesApart (f : Frame) : Type 0 where
  pub sheet : sheet_of (without_shades f) ≡ sheet_of f
  pub xs : xs_of (without_shades f) ≡ xs_of f
  pub ys : ys_of (without_shades f) ≡ ys_of f
  pub pitches : pitches_of (without_shades f) ≡ pitches_of f
  pub settings : settings_of (without_shades f) ≡ settings_of f
  pub passes : (parts_of (without_shades f)).passes ≡ (parts_of f).passes

-- and that frame is itself accepted: no label, corner or pass needs a shade line
abbrev pub AcceptedWithout : Type 0
AcceptedWithout = (text : List ℕ) (f : Frame) → read_frame text ≡ accepted f → read_frame (frame_text (without_shades f)) ≡ accepted (without_shades f)
