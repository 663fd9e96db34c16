-- Black and white corners (document 02, 1/14) as they are lent to a call, a byte for each corner; and the corners with their shades. Definitions only.
use Rattle.std.specs.Prelude.{◌≡◌, Bool, true, false, cond, List, ℕ, ◌<◌, ◌≤◌, ltb, length, get_or}
use Rattle.sheet.specs.Shades.{Shade, bare, kind, Shades}
pub use Rattle.sheet.specs.Shades.{shade_of}
use Rattle.sheet.specs.Corners.{Corners, CornerLists, corner_of}
use Rattle.sheet.specs.Pairing.{Shuffle}
use Rattle.labels.specs.Labelled.{any_below}

-- a shade stands
unfoldable pub stands : Shade → Bool
stands bare = false
stands (kind k) = true

-- "If any stands": one of the first n bytes does
unfoldable pub any_shade : List ℕ → ℕ → Bool
any_shade shades n = any_below n (λ k. stands (shade_of (get_or shades k 0)))

-- the shade of corner k of n; later bytes are not looked at
unfoldable pub shade_at : List ℕ → ℕ → ℕ → Shade
shade_at shades n k = cond (ltb k n) (shade_of (get_or shades k 0)) bare

abbrev pub shades_of : List ℕ → ℕ → Shades
shades_of shades n = record { any = any_shade shades n; of = shade_at shades n }

-- the corners that are lent, with their shades
abbrev pub corners_of : CornerLists → List ℕ → Corners
corners_of l shades = record { count = length l.xs; corner = corner_of l; shades = shades_of shades (length l.xs) }

-- "both corners of a pair have the same kind or none": the shades of n corners in another order, in buffers of equal lengths. Of a buffer that is
-- shorter only the length is asked: its call is refused, 7, in both runs
pub record PairedShades {n : ℕ} (s : Shuffle n) (shades shades' : List ℕ) : Type 0 where
  pub same_length : length shades' ≡ length shades
  pub same_shade : n ≤ length shades → (i : ℕ) → i < n → get_or shades' (s.to i) 0 ≡ get_or shades i 0
