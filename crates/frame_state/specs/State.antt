-- What a frame's lines have said so far as the code holds it, and one line added to it. Definitions only; crate frame shows that it is what
-- the definition of a frame says.
use Rattle.std.specs.Prelude.{◌≡◌, Bool, true, false, not, List, [], ◌∷◌, ◌++◌, take, drop, ℕ, ◌+◌, ◌*◌, ◌<◌, ◌≤◌, T, length, get_or, set, Float, Ok, None, Some, is_some, unwrap_or}
use Rattle.std.specs.Float.{binary32}
use Rattle.std.specs.Float.Ieee.{of_bits, nan_bits}
use Rattle.sizes.specs.Sizes.{place_count, corner_limit, pass_size}
use Rattle.sheet.specs.Cells.{place_of}
use Rattle.sheet.specs.Words.{attached}
use Rattle.roles.specs.Roles.{role_number}
use Rattle.roles.specs.declared.Role.{Role}
use Rattle.arguments.specs.declared.Settings.{Settings}
use Rattle.frame_line.specs.Table.{row_count, kind_at}
use Rattle.frame_line.specs.Lines.{bare_grow}
use Rattle.frame_line.specs.Held.{count_in, label_in, shade_in}
use Rattle.frame_line.specs.declared.Kind.{Kind}
use Rattle.frame_line.specs.declared.OpeningKind.{OpeningKind}
use Rattle.frame_line.specs.declared.PassKind.{PassKind}
use Rattle.frame_line.specs.declared.HeldLabel.{HeldLabel}
use Rattle.frame_line.specs.declared.HeldLine.{HeldLine}
use Rattle.frame_line.specs.declared.HeldShade.{HeldShade}
use Rattle.labels.specs.Box.{widened, box_of}
use Rattle.labels.specs.Count.{how_many}
use Rattle.join_sheet.specs.declared.SecondLabel.{SecondLabel}
use Rattle.frame_check.specs.Checks.{is_used, checked_held, LabelFits}
use Rattle.frame_check.specs.declared.Held.{Held}
use Rattle.frame_state.specs.declared.Progress.{Progress}
use Rattle.frame_state.specs.declared.Reading.{Reading}

abbrev float_of : ℕ → Float
float_of b = of_bits binary32 b

-- ---- numbers that a float holds

pub record Tame (b : ℕ) : Type 0 where
  pub no_nan : T (not (nan_bits binary32 b))

pub record TameAxes (v : List ℕ) : Type 0 where
  pub ix : Tame (get_or v 0 0)
  pub iy : Tame (get_or v 1 0)
  pub jx : Tame (get_or v 2 0)
  pub jy : Tame (get_or v 3 0)

-- ---- cell size, axes and band, the numbers of corners, labels and passes, whether the patch line stands, the stage, the role that holds,
-- and the label box

-- whether the patch line stands
abbrev pub patched_of : Progress → Bool
patched_of p = is_some p.second

-- how many labels the second set has, 0 where no patch line stands
abbrev pub second_of : Progress → ℕ
second_of p = unwrap_or p.second 0

-- before the first line; "without one it is plant"
abbrev pub nothing_said : Progress
nothing_said =
    record {
      settings =
          record {
            grid =
                record {
                  axis_i = record { x = float_of 0; y = float_of 0 };
                  axis_j = record { x = float_of 0; y = float_of 0 };
                  cell_size = float_of 0;
                };
            edge_length_tol = float_of 0;
          };
      corners = 0;
      labels = 0;
      second = None;
      passes = 0;
      stage = 0;
      role = Role.Plant;
      around = None;
    }

abbrev pub at_stage : Progress → ℕ → Progress
at_stage p stage =
    record {
      settings = p.settings;
      corners = p.corners;
      labels = p.labels;
      second = p.second;
      passes = p.passes;
      stage = stage;
      role = p.role;
      around = p.around;
    }

abbrev pub with_cell_size : Settings → ℕ → Settings
with_cell_size s b =
    record {
      grid = record { axis_i = s.grid.axis_i; axis_j = s.grid.axis_j; cell_size = float_of b };
      edge_length_tol = s.edge_length_tol;
    }

abbrev pub with_axes : Settings → List ℕ → Settings
with_axes s v =
    record {
      grid =
          record {
            axis_i = record { x = float_of (get_or v 0 0); y = float_of (get_or v 1 0) };
            axis_j = record { x = float_of (get_or v 2 0); y = float_of (get_or v 3 0) };
            cell_size = s.grid.cell_size;
          };
      edge_length_tol = s.edge_length_tol;
    }

abbrev pub with_band : Settings → ℕ → Settings
with_band s b = record { grid = s.grid; edge_length_tol = float_of b }

-- a line of the opening: its floats are no NaN; what it says
abbrev pub TameOpening : OpeningKind → List ℕ → Type 0
TameOpening OpeningKind.Frame v = Unit {0}
TameOpening OpeningKind.CellSize v = Tame (get_or v 0 0)
TameOpening OpeningKind.Axes v = TameAxes v
TameOpening OpeningKind.Band v = Tame (get_or v 0 0)

abbrev pub with_opening : OpeningKind → Settings → List ℕ → Settings
with_opening OpeningKind.Frame s v = s
with_opening OpeningKind.CellSize s v = with_cell_size s (get_or v 0 0)
with_opening OpeningKind.Axes s v = with_axes s v
with_opening OpeningKind.Band s v = with_band s (get_or v 0 0)

abbrev pub with_settings : Progress → Settings → Progress
with_settings p s =
    record {
      settings = s;
      corners = p.corners;
      labels = p.labels;
      second = p.second;
      passes = p.passes;
      stage = p.stage;
      role = p.role;
      around = p.around;
    }

abbrev pub with_corner : Progress → Progress
with_corner p =
    record {
      settings = p.settings;
      corners = p.corners + 1;
      labels = p.labels;
      second = p.second;
      passes = p.passes;
      stage = p.stage;
      role = p.role;
      around = p.around;
    }

-- a label of the first set, by whose cell the box is widened
abbrev pub with_label : HeldLabel → Progress → Progress
with_label l p =
    record {
      settings = p.settings;
      corners = p.corners;
      labels = p.labels + 1;
      second = p.second;
      passes = p.passes;
      stage = p.stage;
      role = p.role;
      around = widened p.around l.cell;
    }

abbrev pub with_patch : Progress → Progress
with_patch p =
    record {
      settings = p.settings;
      corners = p.corners;
      labels = p.labels;
      second = Some (second_of p);
      passes = p.passes;
      stage = p.stage;
      role = p.role;
      around = p.around;
    }

abbrev pub with_second : Progress → Progress
with_second p =
    record {
      settings = p.settings;
      corners = p.corners;
      labels = p.labels;
      second = Some (second_of p + 1);
      passes = p.passes;
      stage = p.stage;
      role = p.role;
      around = p.around;
    }

abbrev pub with_pass : Progress → Progress
with_pass p =
    record {
      settings = p.settings;
      corners = p.corners;
      labels = p.labels;
      second = p.second;
      passes = p.passes + 1;
      stage = p.stage;
      role = p.role;
      around = p.around;
    }

-- an as line: its role holds
abbrev pub with_role : Role → Progress → Progress
with_role r p =
    record {
      settings = p.settings;
      corners = p.corners;
      labels = p.labels;
      second = p.second;
      passes = p.passes;
      stage = p.stage;
      role = r;
      around = p.around;
    }

-- ---- a corner, the n-th

pub record CornerFits (n : ℕ) (v : List ℕ) : Type 0 where
  pub room : n < corner_limit
  pub x : Tame (get_or v 0 0)
  pub y : Tame (get_or v 1 0)
  pub pitch : Tame (get_or v 2 0)

-- ---- a label of the second set, the n-th

pub record SecondRoom (n : ℕ) (l : HeldLabel) : Type 0 where
  pub room : n < corner_limit
  pub fits : LabelFits l

-- ---- a label of the set that is open

-- there is room for it in the set that is open
pub record LabelsRoom (p : Progress) (l : HeldLabel) : Type 0 where
  pub first : patched_of p ≡ false → p.labels < corner_limit
  pub second : patched_of p ≡ true → second_of p < corner_limit
  pub label : LabelFits l

-- a label of the second set as it is held
abbrev pub second_label : HeldLabel → SecondLabel
second_label l = record { corner = l.corner; place = place_of l.cell }

-- ---- a shade

-- its corner has an entry, and its kind is 0 or 1
pub record ShadeFits (s : HeldShade) : Type 0 where
  pub entry : s.corner < corner_limit
  pub small : s.kind ≤ 1

-- the entry of its corner is 1 more than its kind, as shades are lent
abbrev pub shade_put : HeldShade → List ℕ → List ℕ
shade_put s shades = set shades s.corner (s.kind + 1)

-- ---- a pass

-- as seven words: kind (0 grow, 1 fill, 2 local), search, factor, boundary or residual, rounds, depth, role; 0 for what the pass has not
abbrev pub grow_words : Role → List ℕ → List ℕ
grow_words r v = 0 ∷ get_or v 0 0 ∷ get_or v 1 0 ∷ get_or v 2 0 ∷ 0 ∷ 0 ∷ role_number r ∷ []

abbrev pub fill_words : Role → List ℕ → List ℕ
fill_words r v = 1 ∷ get_or v 0 0 ∷ get_or v 1 0 ∷ 0 ∷ count_in (get_or v 2 0) ∷ 0 ∷ role_number r ∷ []

abbrev pub local_words : Role → List ℕ → List ℕ
local_words r v = 2 ∷ get_or v 0 0 ∷ get_or v 1 0 ∷ get_or v 3 0 ∷ count_in (get_or v 2 0) ∷ count_in (get_or v 4 0) ∷ role_number r ∷ []

-- bare `(grow)` means the numbers of `bare_grow`; "bare `(fill)` means 0.35 1.5 1", an integer 1,000,000 higher
abbrev pub words_in : Role → PassKind → List ℕ → List ℕ
words_in r PassKind.BareGrow v = grow_words r (bare_grow.search ∷ bare_grow.factor ∷ bare_grow.boundary ∷ 0 ∷ 0 ∷ [])
words_in r PassKind.Grow v = grow_words r v
words_in r PassKind.BareFill v = fill_words r (0x3eb3_3333 ∷ 0x3fc0_0000 ∷ 1000001 ∷ 0 ∷ 0 ∷ [])
words_in r PassKind.Fill v = fill_words r v
words_in r PassKind.Local v = local_words r v

-- the words of the m-th pass
abbrev pub words_put : ℕ → List ℕ → List ℕ → List ℕ
words_put m words l = take (pass_size * m) l ++ (words ++ drop (pass_size * m + pass_size) l)

-- ---- what is written for a line

abbrev pub arrays : List Float → List Float → List Float → List ℕ → List ℕ → List Bool → List Bool → List SecondLabel → List ℕ → Held
arrays xs ys pitches shades sheet used second_used second passes =
    record {
      xs = xs;
      ys = ys;
      pitches = pitches;
      shades = shades;
      sheet = sheet;
      used = used;
      second_used = second_used;
      second = second;
      passes = passes;
    }

-- the corner n
abbrev pub corner_put : ℕ → List ℕ → Held → Held
corner_put n v a =
    arrays (set a.xs n (float_of (get_or v 0 0))) (set a.ys n (float_of (get_or v 1 0))) (set a.pitches n (float_of (get_or v 2 0))) a.shades a.sheet a.used
    a.second_used a.second a.passes

-- a label of the first set
abbrev pub label_put : HeldLabel → Held → Held
label_put l a =
    arrays a.xs a.ys a.pitches a.shades (attached a.sheet l.cell l.corner) (set a.used l.corner true) a.second_used a.second a.passes

-- a label of the second set, the n-th
abbrev pub second_put : ℕ → HeldLabel → Held → Held
second_put n l a =
    arrays a.xs a.ys a.pitches a.shades a.sheet a.used (set a.second_used l.corner true) (set a.second n (second_label l)) a.passes

abbrev pub with_shades : Held → List ℕ → Held
with_shades a shades = arrays a.xs a.ys a.pitches shades a.sheet a.used a.second_used a.second a.passes

abbrev pub with_passes : Held → List ℕ → Held
with_passes a passes = arrays a.xs a.ys a.pitches a.shades a.sheet a.used a.second_used a.second passes

-- ---- all of it

abbrev pub State : Type 0
State = Reading

abbrev pub state : Progress → Held → State
state p a = record { progress = p; held = a }

-- the label box that is kept with the sheet is what a search of the sheet finds
abbrev pub BoxFound : State → Type 0
BoxFound s = s.progress.around ≡ box_of s.held.sheet

-- a label, to the second set once the patch line stands, else to the first
abbrev pub label_to : Bool → HeldLabel → State → State
label_to true l s = state (with_second s.progress) (second_put (second_of s.progress) l s.held)
label_to false l s = state (with_label l s.progress) (label_put l s.held)

-- the labels of each set are as many as the corners that it uses
pub record Counted (p : Progress) (used second_used : List Bool) : Type 0 where
  pub first : how_many (is_used used) corner_limit ≡ p.labels
  pub second : how_many (is_used second_used) corner_limit ≡ second_of p

-- a line can be added: it passed its checks, the corners before it are few enough, and the labels are counted
pub record Addable (p : Progress) (a : Held) (line : HeldLine) : Type 0 where
  pub fine : checked_held p.corners p.passes p.role (patched_of p) a (second_of p) line ≡ Ok tt
  pub few : p.corners ≤ corner_limit
  pub long : length a.sheet ≡ place_count
  pub counted : Counted p a.used a.second_used

-- a line of a kind added, with its words
unfoldable pub adds_as : Kind → List ℕ → State → State
adds_as (Kind.Opening o) v s = state (with_settings s.progress (with_opening o s.progress.settings v)) s.held
adds_as Kind.Corner v s = state (with_corner s.progress) (corner_put s.progress.corners v s.held)
adds_as Kind.Label v s = label_to (patched_of s.progress) (label_in v) s
adds_as Kind.Patch v s = state (with_patch s.progress) s.held
adds_as Kind.Shade v s = state s.progress (with_shades s.held (shade_put (shade_in v) s.held.shades))
adds_as (Kind.As r) v s = state (with_role r s.progress) s.held
adds_as (Kind.Pass p) v s =
    state (with_pass s.progress) (with_passes s.held (words_put s.progress.passes (words_in s.progress.role p v) s.held.passes))

abbrev pub adds : HeldLine → State → State
adds line s = adds_as (kind_at line.row) line.values s

-- ---- the box while lines are read: "Reading labels, joining and attaching must each keep them equal to what a search would find"

-- a line of the table that is added
abbrev pub ReadingKeepsBox : Type 0
ReadingKeepsBox = (line : HeldLine) (s : State) → line.row < row_count → Addable s.progress s.held line → BoxFound s → BoxFound (adds line s)
