-- Black and white corners (document 02, 1/14): a corner's shade, the kind that a cell takes, and which corners it takes. Definitions only.
use Rattle.std.specs.Prelude.{Bool, false, not, ◌||◌, List, ℕ, zero, suc, ◌%◌, eqb, ◌+ℤ◌, nat_abs, get_or, Option, Some, None, is_some}
use Rattle.sheet.specs.declared.Cell.{Cell}
use Rattle.sheet.specs.declared.held.CornerArrays.{CornerArrays}

-- ---- the shades of corners

-- a corner's shade: none, or its kind
pub data Shade : Type 0 where
  bare : Shade
  kind : ℕ → Shade

-- "If any stands": whether one does, and the shade of each corner by its number
pub record Shades : Type 0 where
  pub any : Bool
  pub of : ℕ → Shade

-- a byte: 0 is no shade, and 1 + k the kind k
unfoldable pub shade_of : ℕ → Shade
shade_of zero = bare
shade_of (suc k) = kind k

-- ---- what a cell takes

-- "cell (i, j) takes only kind 0 where i+j is even and kind 1 where odd": -1 is odd
unfoldable pub kind_at : Cell → ℕ
kind_at c = nat_abs (c.i +ℤ c.j) % 2

-- "a corner without a shade is never a candidate": it has no kind
unfoldable pub is_kind : ℕ → Shade → Bool
is_kind w bare = false
is_kind w (kind k) = eqb w k

-- a cell of kind w takes the corner k: every one if no shade stands, else those of its kind
unfoldable pub takes_kind : Shades → ℕ → ℕ → Bool
takes_kind s w k = not s.any || is_kind w (s.of k)

abbrev pub takes : Shades → Cell → ℕ → Bool
takes s c k = takes_kind s (kind_at c) k

-- ---- as the passes hold them: a byte for each corner, or none if no shade stands

abbrev pub any_in : CornerArrays → Bool
any_in held = is_some held.shades

unfoldable pub shade_held : Option (List ℕ) → ℕ → Shade
shade_held None k = bare
shade_held (Some bytes) k = shade_of (get_or bytes k 0)

abbrev pub shades_in : CornerArrays → Shades
shades_in held = record { any = any_in held; of = shade_held held.shades }
