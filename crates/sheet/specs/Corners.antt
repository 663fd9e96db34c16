-- Positions; the corners, as they are lent and as the passes hold them; and what is seen of them through the sheet at a cell. Definitions only.
use native.Mathlib.Omega.{arith}
use Rattle.std.specs.Prelude.{◌≡◌, Bool, ◌&&◌, cond, List, ℕ, ◌<◌, ◌≤◌, ltb, length, get_or, replicate, Float, Option, Some, None}
use Rattle.std.specs.Float.{nan, binary32}
use Rattle.std.specs.Float.Ieee.{add, sub, mul}
use Rattle.sizes.specs.Sizes.{place_count, corner_limit}
use Rattle.binary32.specs.Ranges.{is_finite}
use Rattle.sheet.specs.Words.{label_of, label_at}
use Rattle.sheet.specs.Shades.{Shades, shades_in}
use Rattle.sheet.specs.declared.Cell.{Cell}
use Rattle.sheet.specs.declared.Corner.{Corner}
use Rattle.sheet.specs.declared.held.CornerArrays.{CornerArrays}
use Rattle.sheet.specs.declared.Position.{Position}

-- the squared distance of two positions, each operation rounded: dx · dx + dy · dy
unfoldable pub squared_distance : Position → Position → Float
squared_distance to from =
    let dx = sub binary32 to.x from.x in
    let dy = sub binary32 to.y from.y in
    add binary32 (mul binary32 dx dx) (mul binary32 dy dy)

-- neither part is nan or infinite
abbrev pub finite_position : Position → Bool
finite_position p = is_finite p.x && is_finite p.y

-- ---- the corners

-- how many corners there are, each by its number with its position and pitch, and their shades
pub record Corners : Type 0 where
  pub count : ℕ
  pub corner : ℕ → Corner
  pub shades : Shades

-- what stands for a corner that there is not
abbrev pub no_corner : Corner
no_corner = record { position = record { x = nan; y = nan }; pitch = nan }

-- As they are lent: lists of x, y and pitch. There are as many corners as there are xs, and what the other lists hold past these is not looked at.
pub record CornerLists : Type 0 where
  pub xs : List Float
  pub ys : List Float
  pub pitches : List Float

abbrev pub corner_lists : List Float → List Float → List Float → CornerLists
corner_lists xs ys pitches = record { xs = xs; ys = ys; pitches = pitches }

-- the corner of a number; from the number of corners on there is none
unfoldable pub corner_of : CornerLists → ℕ → Corner
corner_of l k =
    cond (ltb k (length l.xs))
    (record { position = record { x = get_or l.xs k nan; y = get_or l.ys k nan }; pitch = get_or l.pitches k nan })
    no_corner

-- As the passes hold them: how many there are, and 1,024 xs, ys and pitches.
unfoldable pub corner_in : CornerArrays → ℕ → Corner
corner_in held k = record { position = record { x = get_or held.xs k nan; y = get_or held.ys k nan }; pitch = get_or held.pitches k nan }

-- no corner is held
abbrev pub no_corners : CornerArrays
no_corners =
    record {
      xs = replicate corner_limit nan;
      ys = replicate corner_limit nan;
      pitches = replicate corner_limit nan;
      shades = None;
      count = record { number = 0; few = omega arith };
    }

abbrev pub corners_in : CornerArrays → Corners
corners_in held = record { count = held.count.number; corner = corner_in held; shades = shades_in held }

-- ---- seen through the sheet

-- the corner that a label names
unfoldable pub seen_through : (ℕ → Corner) → Option ℕ → Option Corner
seen_through corner None = None
seen_through corner (Some k) = Some (corner k)

-- what is seen at a cell: the corner of its label, or nothing where it has none or is off the sheet
unfoldable pub seen_of : (ℕ → Corner) → List ℕ → Cell → Option Corner
seen_of corner sheet c = seen_through corner (label_at sheet c)

-- ---- what the functions ask

-- each corner's x, y and pitch is there
pub record AllListed (l : CornerLists) : Type 0 where
  pub ys_long : length l.xs ≤ length l.ys
  pub pitches_long : length l.xs ≤ length l.pitches

-- a sheet that is long enough and names no corner from n on
pub record Given (n : ℕ) (sheet : List ℕ) : Type 0 where
  pub long : place_count ≤ length sheet
  pub known : (p k : ℕ) → p < place_count → label_of (get_or sheet p 0) ≡ Some k → k < n
