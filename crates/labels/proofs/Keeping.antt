-- Laws of the label box as it is kept: what is answered says what a search finds, and a kept box differs from the sheet exactly if it says another.
-- Assumes nothing.
use Rattle.std.specs.Prelude.{Option, Some, None}
use Rattle.std.specs.Ordering.{int_eq}
use Rattle.std.proofs.lemmas.Cmp.{int_eq_equiv}
use Rattle.std.proofs.lemmas.Bool.Decides.{Decides-int_eq}
use mathlib.Core.Path.{◌≡◌, refl, ap}
use mathlib.Core.Bool.{Bool, true, false, not, ◌&&◌}
use mathlib.Core.List.{List}
use Prim.Native.Nat.{ℕ}
use lib.IntN.{ℤ}
use borrow.Author.Tests.{not-false}
use Rattle.labels.proofs.Below.{no_both}
use Rattle.labels.specs.Box.{box_of}
use Rattle.labels.specs.Kept.{around_of, kept_of, box_kept, same_box, box_differs}
use Rattle.labels.specs.declared.Bounds.{Bounds}
use Rattle.labels.specs.declared.kept.KeptBox.{KeptBox}

-- what is kept of a box says that box
pub around_kept : (around : Option Bounds) → around_of (kept_of around) ≡ around
unfolding around_of kept_of
around_kept None = refl
around_kept (Some b) = refl

-- "with a mark for an empty one, whose numbers then count for nothing"
pub marked_empty : (k : KeptBox) → k.empty ≡ true → around_of k ≡ None
unfolding around_of
marked_empty k e = rw e

-- a test of two boxes passes exactly if they are one
both : (a b : Bool) → (a && b) ≡ true → (a ≡ true) × (b ≡ true)
both true b e = (refl, e)
both false b e = absurd (no_both false e refl)

z_same : (a b : ℤ) → int_eq a b ≡ true → a ≡ b
z_same a b e = (Decides-int_eq a b).0 e

pub box_same : (a b : Option Bounds) → same_box a b ≡ true → a ≡ b
unfolding same_box
box_same None None e = refl
box_same None (Some b) e = absurd (no_both false e refl)
box_same (Some a) None e = absurd (no_both false e refl)
box_same (Some a) (Some b) e =
    let low-i = both (int_eq a.low_i b.low_i) _ e in
    let high-i = both (int_eq a.high_i b.high_i) _ low-i.1 in
    let low-j = both (int_eq a.low_j b.low_j) _ high-i.1 in
    let p = z_same _ _ low-i.0 in
    let q = z_same _ _ high-i.0 in
    let r = z_same _ _ low-j.0 in
    let s = z_same _ _ low-j.1 in
    λ t. Some (record { low_i = p t; high_i = q t; low_j = r t; high_j = s t })

z_itself : (a : ℤ) → int_eq a a ≡ true
z_itself a = int_eq_equiv.refl a

pub box_itself : (a : Option Bounds) → same_box a a ≡ true
unfolding same_box
box_itself None = refl
box_itself (Some a) = rw (z_itself a.low_i, z_itself a.high_i, z_itself a.low_j, z_itself a.high_j) refl

-- a kept box that does not differ is what a search of the sheet finds, and only such a one
pub kept_right : (k : KeptBox) (sheet : List ℕ) → box_differs k sheet ≡ false → around_of k ≡ box_of sheet
unfolding box_differs
kept_right k sheet e = box_same _ _ (not-false _ e)

pub right_kept : (k : KeptBox) (sheet : List ℕ) → around_of k ≡ box_of sheet → box_differs k sheet ≡ false
unfolding box_differs
right_kept k sheet e = rw e (ap not (box_itself (box_of sheet)))

-- so the box that is kept is not refused
pub kept_fine : (sheet : List ℕ) → box_differs (box_kept sheet) sheet ≡ false
kept_fine sheet = right_kept (box_kept sheet) sheet (around_kept (box_of sheet))
