-- What the inner functions ask of their arguments, and the array of the corners seen. Definitions only.
use Rattle.std.specs.Prelude.{◌≡◌, Bool, false, ◌||◌, List, ℕ, ◌<◌, ◌≤◌, length, get_or, Option, Some, None}
use Rattle.sizes.specs.Sizes.{place_count, corner_limit}
use Rattle.sheet.specs.Corners.{CornerLists, corner_lists, no_corners, AllListed}
use Rattle.sheet.specs.declared.held.CornerArrays.{CornerArrays}
use Rattle.sheet.specs.Words.{label_of}
use Rattle.sheet.specs.declared.Cell.{Cell}
use Rattle.labels.specs.Box.{widened, box_of}
use Rattle.labels.specs.Labelled.{labelled_cell}
use Rattle.labels.specs.Used.{noted}
use Rattle.labels.specs.declared.Bounds.{Bounds}
use Rattle.arguments.specs.Arguments.{unknown, unknown_corner, doubled_corner}
use Rattle.arguments.specs.declared.SheetFound.{SheetFound}
use Rattle.arguments.specs.Accepted.{Known}
use Rattle.arguments.specs.declared.LentCorners.{LentCorners}

-- the lists of the corners that are lent
abbrev pub lists_of : LentCorners → CornerLists
lists_of l = corner_lists l.xs.now l.ys.now l.pitches.now

-- corners that are all there, with a number of one
pub record HasCorner (l : CornerLists) (k : ℕ) : Type 0 where
  pub listed : AllListed l
  pub there : k < length l.xs

-- corners and shades that are all there
pub record AllShaded (l : CornerLists) (shades : List ℕ) : Type 0 where
  pub listed : AllListed l
  pub shades_long : length l.xs ≤ length shades

-- such corners, at most 1,024, and arrays that hold none, whatever their number says
pub record Holdable (l : CornerLists) (shades : List ℕ) (held : CornerArrays) : Type 0 where
  pub all : AllShaded l shades
  pub few : length l.xs ≤ corner_limit
  pub no_xs : held.xs ≡ no_corners.xs
  pub no_ys : held.ys ≡ no_corners.ys
  pub no_pitches : held.pitches ≡ no_corners.pitches
  pub no_shades : held.shades ≡ no_corners.shades

-- ---- the corners seen: 1,024 entries, each of which says whether its corner was seen

-- a label whose corner, if it names one, has an entry
pub record HasEntry (label : Option ℕ) : Type 0 where
  pub entry : (k : ℕ) → label ≡ Some k → k < corner_limit

-- the label's corner was seen before
unfoldable pub seen_before : List Bool → Option ℕ → Bool
seen_before seen None = false
seen_before seen (Some k) = get_or seen k false

-- a label noted: whether its corner was seen before, and its entry set
pub record Noted (seen : List Bool) (label : Option ℕ) (after : List Bool) (r : Bool) : Type 0 where
  pub said : r ≡ seen_before seen label
  pub written : after ≡ noted seen label

-- a sheet that is long enough and names corners that have an entry
pub record HasEntries (sheet : List ℕ) : Type 0 where
  pub long : place_count ≤ length sheet
  pub known : Known corner_limit sheet

-- such a sheet, and nothing seen
pub record Unseen (sheet : List ℕ) (seen : List Bool) : Type 0 where
  pub entries : HasEntries sheet
  pub size : length seen ≡ corner_limit
  pub none : (k : ℕ) → k < corner_limit → get_or seen k false ≡ false

-- ---- what one walk over a sheet finds

-- the box with the cell of a place more, if its word names a corner
abbrev pub widened_by : Option Bounds → Option Cell → Option Bounds
widened_by around None = around
widened_by around (Some c) = widened around c

-- a place with its word looked at: the box is widened by its cell if it is labelled; a corner from n on is unknown; one below n is doubled if it was
-- seen before, and seen from now on
pub record LookedAt (n : ℕ) (e : ℕ × ℕ) (before : SheetFound) (seen : List Bool) (after : SheetFound) (seen' : List Bool) : Type 0 where
  pub around_is : after.around ≡ widened_by before.around (labelled_cell e)
  pub unknown_is : after.unknown ≡ (before.unknown || unknown n (label_of e.1))
  pub doubled_is : unknown n (label_of e.1) ≡ false → after.doubled ≡ (before.doubled || seen_before seen (label_of e.1))
  pub seen_is : unknown n (label_of e.1) ≡ false → seen' ≡ noted seen (label_of e.1)

-- a sheet that is long enough, and at most 1,024 corners
pub record Searchable (n : ℕ) (sheet : List ℕ) : Type 0 where
  pub long : place_count ≤ length sheet
  pub few : n ≤ corner_limit

-- the label box, whether a corner from n on is named, and, where none is, whether a corner stands on two places
pub record FoundOn (n : ℕ) (sheet : List ℕ) (found : SheetFound) : Type 0 where
  pub around_is : found.around ≡ box_of sheet
  pub unknown_is : found.unknown ≡ unknown_corner n sheet
  pub doubled_is : unknown_corner n sheet ≡ false → found.doubled ≡ doubled_corner sheet
