-- Laws of the shades: the parity of a signed sum, and what a cell takes. Assumes nothing.
use mathlib.Core.Path.{◌≡◌, refl}
use mathlib.Core.Bool.{Bool, true, false}
use Prim.Native.Nat.{ℕ, suc, ◌+◌, ◌%◌, ◌<◌, ◌≤◌}
use native.Mathlib.Omega.{arith}
use borrow.Author.Tests.{ltb-true, ltb-false}
use lib.Dec.{ltb}
use lib.IntN.{ℤ, pos, negsuc, ◌+ℤ◌, nat_abs, sub_ℕ}
use Rattle.sheet.specs.Cells.{line_of}
use Rattle.sheet.specs.Shades.{Shades, kind_at, is_kind, takes_kind}
use Rattle.sheet.specs.declared.Cell.{Cell}
use Rattle.sheet.proofs.Laws.{sub_lo, sub_hi}

-- ---- the kind of a cell

sub_parity : (a b : ℕ) → nat_abs (sub_ℕ a b) % 2 ≡ (a + b) % 2
sub_parity a b = go (ltb a b) refl
  where
    go : (t : Bool) → ltb a b ≡ t → nat_abs (sub_ℕ a b) % 2 ≡ (a + b) % 2
    go true e = let h : a < b = ltb-true a b e in rw (sub_lo a b h) (omega arith)
    go false e = let h : b ≤ a = ltb-false a b e in rw (sub_hi a b h) (omega arith)

-- a signed sum is odd exactly if the sum of the magnitudes is
sum_parity : (x y : ℤ) → nat_abs (x +ℤ y) % 2 ≡ (nat_abs x + nat_abs y) % 2
sum_parity (pos a) (pos b) = refl
sum_parity (pos a) (negsuc b) = sub_parity a (suc b)
sum_parity (negsuc a) (pos b) = omega (arith, sub_parity b (suc a))
sum_parity (negsuc a) (negsuc b) = omega arith

-- so the kind is the parity of (i + 64) + (j + 64), of which neither has a sign
pub kind_by_lines : (c : Cell) → (line_of c.i + line_of c.j) % 2 ≡ kind_at c
unfolding kind_at
kind_by_lines c = omega (arith, sum_parity c.i c.j, sum_parity c.i (pos 64), sum_parity c.j (pos 64))

-- ---- what a cell takes

-- every corner if no shade stands
pub takes_every : (s : Shades) (w k : ℕ) → s.any ≡ false → takes_kind s w k ≡ true
unfolding takes_kind
takes_every s w k e = rw e

pub takes_own : (s : Shades) (w k : ℕ) → s.any ≡ true → takes_kind s w k ≡ is_kind w (s.of k)
unfolding takes_kind
takes_own s w k e = rw e
