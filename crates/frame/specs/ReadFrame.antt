-- What the library call that reads a frame leaves (document 01, "Frame and result"), and the corners, shades, sheet, settings and passes that a
-- frame gives. Definitions only.
use Rattle.std.specs.Prelude.{Bool, true, false, ◌||◌, List, [], ◌∷◌, ◌++◌, map, ℕ, ◌+◌, nat_abs, ltb, length, set, replicate, Float, Result, Ok, Err}
use Rattle.std.specs.Float.{binary32}
use Rattle.std.specs.Float.Ieee.{of_bits}
use Rattle.refusal.specs.declared.Refusal.{Refusal}
use Rattle.roles.specs.Roles.{role_number}
use Rattle.roles.specs.declared.Role.{Role}
use Rattle.sheet.specs.Words.{empty_sheet}
use Rattle.labels.specs.Kept.{box_kept}
use Rattle.join.specs.Sheets.{labelled}
use Rattle.arguments.specs.declared.Pass.{Pass}
use Rattle.arguments.specs.declared.Settings.{Settings}
use Rattle.frame_line.specs.Lines.{ShadeLine, PassLine, bare_grow_holds, grow, bare_fill, fill, local, bare_grow}
use Rattle.arguments.specs.Front.{over}
use Rattle.sizes.specs.Sizes.{corner_limit, place_count, all_pass_words}
use Rattle.frame.specs.Frame.{Frame, Opening, RoledPass, parts_of, given_of, FrameRead, refused_at, accepted, read_frame}
use Rattle.frame.specs.declared.FrameHead.{FrameHead}
use Rattle.frame.specs.declared.FrameRefusal.{FrameRefusal}

-- ---- what a frame gives

abbrev pub float_of : ℕ → Float
float_of b = of_bits binary32 b

unfoldable pub xs_of : Frame → List Float
xs_of f = map (λ c. float_of c.x) (parts_of f).corners

unfoldable pub ys_of : Frame → List Float
ys_of f = map (λ c. float_of c.y) (parts_of f).corners

unfoldable pub pitches_of : Frame → List Float
pitches_of f = map (λ c. float_of c.pitch) (parts_of f).corners

-- the shades as a call is lent them, one byte a corner: 0 where no shade stands, and 1 more than the kind where one does
unfoldable pub shaded : List ℕ → List ShadeLine → List ℕ
shaded shades [] = shades
shaded shades (s ∷ ss) = shaded (set shades (nat_abs s.corner) (nat_abs s.kind + 1)) ss

unfoldable pub shades_of : Frame → List ℕ
shades_of f = shaded (replicate (length (parts_of f).corners) 0) (parts_of f).shades

-- the sheet of the given labels: each label's corner at its cell, no marks
unfoldable pub sheet_of : Frame → List ℕ
sheet_of f = labelled empty_sheet (given_of (parts_of f))

abbrev pub settings_in : Opening → Settings
settings_in o =
    record {
      grid =
          record {
            axis_i = record { x = float_of o.axes.ix; y = float_of o.axes.iy };
            axis_j = record { x = float_of o.axes.jx; y = float_of o.axes.jy };
            cell_size = float_of o.cell;
          };
      edge_length_tol = float_of o.band;
    }

unfoldable pub settings_of : Frame → Settings
settings_of f = settings_in (parts_of f).opening

-- ---- the passes

abbrev pub grow_of : ℕ → ℕ → ℕ → Pass
grow_of search factor boundary =
    Pass.Grow (record { attach_search_rel = float_of search; attach_ambiguity_factor = float_of factor; boundary_search_factor = float_of boundary })

abbrev pub fill_of : ℕ → ℕ → ℕ → Pass
fill_of search factor rounds = Pass.Fill (record { attach_search_rel = float_of search; attach_ambiguity_factor = float_of factor; max_iters = rounds })

abbrev pub local_of : ℕ → ℕ → ℕ → ℕ → ℕ → Pass
local_of search factor rounds residual depth =
    Pass.Local
    (record {
      search_rel = float_of search;
      ambiguity_factor = float_of factor;
      max_iters = rounds;
      max_residual_rel = float_of residual;
      extend_depth = depth;
    })

-- a line with its numbers, those of a bare one included
pub data FullPass : Type 0 where
  full_grow : (search factor boundary : ℕ) → FullPass
  full_fill : (search factor rounds : ℕ) → FullPass
  full_local : (search factor rounds residual depth : ℕ) → FullPass

-- bare `(grow)` means the numbers of `bare_grow`; "bare `(fill)` means 0.35 1.5 1"
unfoldable pub full_of : PassLine → FullPass
full_of bare_grow_holds = full_grow bare_grow.search bare_grow.factor bare_grow.boundary
full_of (grow search factor boundary) = full_grow search factor boundary
full_of bare_fill = full_fill 0x3eb3_3333 0x3fc0_0000 1
full_of (fill search factor rounds) = full_fill search factor (nat_abs rounds)
full_of (local search factor rounds residual depth) = full_local search factor (nat_abs rounds) residual (nat_abs depth)

-- the pass as it is called
unfoldable pub pass_of : FullPass → Pass
pass_of (full_grow search factor boundary) = grow_of search factor boundary
pass_of (full_fill search factor rounds) = fill_of search factor rounds
pass_of (full_local search factor rounds residual depth) = local_of search factor rounds residual depth

-- the pass as seven words: kind (0 grow, 1 fill, 2 local), search, factor, boundary or residual, rounds, depth, and the role that runs it (0 plant,
-- 1 depot, 2 dealer); floats as their bits, and 0 for what the pass has not
unfoldable pub words_of : Role → FullPass → List ℕ
words_of r (full_grow search factor boundary) = 0 ∷ search ∷ factor ∷ boundary ∷ 0 ∷ 0 ∷ role_number r ∷ []
words_of r (full_fill search factor rounds) = 1 ∷ search ∷ factor ∷ 0 ∷ rounds ∷ 0 ∷ role_number r ∷ []
words_of r (full_local search factor rounds residual depth) = 2 ∷ search ∷ factor ∷ residual ∷ rounds ∷ depth ∷ role_number r ∷ []

unfoldable pub all_words : List RoledPass → List ℕ
all_words [] = []
all_words (q ∷ qs) = words_of q.role (full_of q.pass) ++ all_words qs

-- ---- the library call

-- the lent buffers
pub record Buffers : Type 0 where
  pub xs : List Float
  pub ys : List Float
  pub pitches : List Float
  pub shades : List ℕ
  pub sheet : List ℕ
  pub passes : List ℕ

-- the call's answer, and the buffers after it
pub record FrameOut : Type 0 where
  pub answer : Result FrameHead FrameRefusal
  pub buffers : Buffers

abbrev pub left : Result FrameHead FrameRefusal → Buffers → FrameOut
left r b = record { answer = r; buffers = b }

abbrev pub frame_out : Result FrameHead FrameRefusal → List Float → List Float → List Float → List ℕ → List ℕ → List ℕ → FrameOut
frame_out r xs ys pitches shades sheet passes =
    record { answer = r; buffers = record { xs = xs; ys = ys; pitches = pitches; shades = shades; sheet = sheet; passes = passes } }

-- 7: 1,024 places each for positions, pitches and shades, 16,384 sheet places, 16 passes of seven words
abbrev pub too_short : Buffers → Bool
too_short b =
    ltb (length b.xs) corner_limit
    || (ltb (length b.ys) corner_limit
    || (ltb (length b.pitches) corner_limit
    || (ltb (length b.shades) corner_limit
    || (ltb (length b.sheet) place_count
    || ltb (length b.passes) all_pass_words))))

-- only an accepted frame writes: the corners, their shades and the passes at the front of their buffers, and all 16,384 places of the sheet
abbrev pub leaves : FrameRead → Buffers → FrameOut
leaves (refused_at r n) b = record { answer = Err (record { refusal = r; line = n }); buffers = b }
leaves (accepted f) b =
    record {
      answer = Ok (record { settings = settings_of f; corners = length (parts_of f).corners; passes = length (parts_of f).passes; around = box_kept (sheet_of f) });
      buffers =
          record {
            xs = over (xs_of f) b.xs;
            ys = over (ys_of f) b.ys;
            pitches = over (pitches_of f) b.pitches;
            shades = over (shades_of f) b.shades;
            sheet = over (sheet_of f) b.sheet;
            passes = over (all_words (parts_of f).passes) b.passes;
          };
    }

-- "The library tries 7" first, before any byte is read
abbrev pub unless_short : Bool → List ℕ → Buffers → FrameOut
unless_short true text b = leaves (refused_at Refusal.BufferTooShort 0) b
unless_short false text b = leaves (read_frame text) b

unfoldable pub read_into : List ℕ → Buffers → FrameOut
read_into text b = unless_short (too_short b) text b
