-- Bare grow (document 02, 2/14): what the line `(grow)` means, and which full line means what it meant before. Definitions only.
use Rattle.std.specs.Prelude.{◌≡◌, List, ℕ, pos, Float}
use Rattle.std.specs.Float.{binary32}
use Rattle.std.specs.Float.Ieee.{of_int, div}
use Rattle.arguments.specs.declared.Pass.{Pass}
use Rattle.line_form.specs.Forms.{bytes}
use Rattle.frame_line.specs.Lines.{Line, PassLine, read_line, line}
use Rattle.frame.specs.Frame.{Parts, added, with_pass}
use Rattle.frame.specs.ReadFrame.{full_of, pass_of}

-- the binary32 nearest to a quotient of two whole numbers, which are small enough to be held exactly
abbrev pub quotient : ℕ → ℕ → Float
quotient a b = div binary32 (of_int binary32 (pos a)) (of_int binary32 (pos b))

-- a grow with these numbers
abbrev pub grow_by : Float → Float → Float → Pass
grow_by search factor boundary =
    Pass.Grow (record { attach_search_rel = search; attach_ambiguity_factor = factor; boundary_search_factor = boundary })

-- the text is that of a line which, whatever the lines before it say, adds one pass line and nothing else, and that line is called as this pass
pub record CalledAs (text : List ℕ) (pass : Pass) : Type 0 where
  pub said : Line
  pub pass_line_holds : PassLine
  pub read : read_line text ≡ line said
  pub adds : (p : Parts) → added p said ≡ with_pass pass_line_holds p
  pub means : pass_of (full_of pass_line_holds) ≡ pass

-- "Bare `(grow)` now means a boundary multiple of 1.25" (`bare`; its other numbers are 01's, 0.35 and 1.5). "Depots that relied on 2.0 write
-- `(grow 3eb33333 3fc00000 40000000)`" (`old`): the numbers that 01 gave bare grow, 0.35 1.5 2.0
pub record BareGrow : Type 0 where
  pub bare : CalledAs (bytes "(grow)\n") (grow_by (quotient 35 100) (quotient 3 2) (quotient 5 4))
  pub old : CalledAs (bytes "(grow 3eb33333 3fc00000 40000000)\n") (grow_by (quotient 35 100) (quotient 3 2) (quotient 2 1))
