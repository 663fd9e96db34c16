-- The window of a round: that it has all places that a round walks, and that a walk may jump over all places that are not in it. Assumes nothing.
use Rattle.std.specs.Prelude.{Option, Some, None}
use mathlib.Core.Path.{◌≡◌, refl, ap₂, ◌∙◌, subst}
use mathlib.Core.Bool.{Bool, true, false, ◌&&◌}
use mathlib.Core.List.{List, [], ◌∷◌, Memᴰ}
use Prim.Native.Nat.{ℕ, ◌+◌, ◌-◌, ◌/◌, ◌%◌, min, ◌<◌, ◌≤◌}
use native.Mathlib.Omega.{arith}
use lib.Dec.{T}
use lib.IntN.{ℤ, pos, sub_ℕ, ◌+ℤ◌, ◌-ℤ◌, +ℤ_idr}
use lib.Signed.{le_z, ◌≤ℤ◌}
use Rattle.sheet.specs.Cells.{in_range, line_of, OnSheet, place_of, cell_of, eq_z}
use Rattle.sheet.specs.declared.Cell.{Cell}
use Rattle.sheet.proofs.Blank.{carried}
use Rattle.sheet.proofs.Laws.{on_i, on_j, on_both, line_i, line_j, eq_z_equal}
use Rattle.labels.specs.Labelled.{labelled_places}
use Rattle.labels.specs.Box.{Inside, IsBox, box_of}
use Rattle.labels.specs.declared.Bounds.{Bounds}
use Rattle.labels.proofs.Below.{no_both, both}
use Rattle.labels.proofs.Labelled.{listed_cell}
use Rattle.labels.proofs.Box.{box_is, box_of_framed}
use Rattle.passes.specs.Fill.{from_to, near_i, near_j}
use Rattle.passes.specs.Local.{row_among, column_among, past_i, past_j, local_region}
use Rattle.region.specs.Region.{RegionFound, region_at}
use Rattle.region.specs.declared.Region.{Region}
use Rattle.region.specs.Windowed.{BoundsOn, BoxOn, InWindow, Windowed, NextIn}
use Rattle.region.specs.declared.Window.{Window}
use Rattle.region.proofs.Lines.{line_from, line_to}
use Rattle.region.proofs.Told.{region_is}

-- ---- the label box is of cells of the sheet

pub box_on : (sheet : List ℕ) → BoxOn (box_of sheet)
box_on sheet =
    record {
      bounds_on = λ b e.
          let f = box_of_framed sheet b e in
          record {
            low_on = on_both (record { i = b.low_i; j = b.low_j }) f.low_i_in f.low_j_in;
            high_on = on_both (record { i = b.high_i; j = b.high_j }) f.high_i_in f.high_j_in;
          };
    }

-- ---- the window of a box

-- a line at most so many lines past two bounds
record Between (low high n q : ℕ) : Type 0 where
  from : low ≤ q + n
  to : q ≤ high + n

between : (a b : ℤ) (n q : ℕ) → T (in_range a) → T (in_range b) → from_to (a -ℤ pos n) (b +ℤ pos n) (sub_ℕ q 64) ≡ true → Between (line_of a) (line_of b) n q
between a b n q g h e = let t = both _ _ e in record { from = line_from a g n q t.0; to = line_to b h n q t.1 }

-- the window's start and end by a line
starts : (line past n q start : ℕ) → start ≡ line - past → n ≤ past → line ≤ q + n → start ≤ q
starts line past n q start e h k = omega arith

ends : (line past n q end : ℕ) → end ≡ min (line + past + 1) 128 → n ≤ past → q < 128 → q ≤ line + n → q < end
ends line past n q end e h l k = omega arith

-- the two lines of a place
record LinesOf (c : Cell) (p : ℕ) : Type 0 where
  by_i : p / 128 ≡ line_of c.i
  by_j : p % 128 ≡ line_of c.j

lines_of : (c : Cell) (p : ℕ) → OnSheet c → p ≡ place_of c → LinesOf c p
unfolding place_of
lines_of c p on e = let i = (line_i c on).below in let j = (line_j c on).below in record { by_i = omega arith; by_j = omega arith }

module _ (past : ℕ) (around : Option Bounds) (w : Window) where
  -- its lines, by the places of the box's low and high ends
  pub window_around : (b : Bounds) (low high : ℕ) → around ≡ Some b → BoundsOn b → low ≡ place_of (record { i = b.low_i; j = b.low_j }) → high ≡ place_of (record { i = b.high_i; j = b.high_j })
      → w.start_i ≡ low / 128 - past → w.end_i ≡ min (high / 128 + past + 1) 128 → w.start_j ≡ low % 128 - past → w.end_j ≡ min (high % 128 + past + 1) 128
      → Windowed past around w
  unfolding cell_of
  window_around b low high e on l h si ei sj ej =
      record {
        fits = record { start_i_in = small w.start_i (line_of b.low_i) si' (line_i lowest on.low_on).below; end_i_in = omega arith; start_j_in = small w.start_j (line_of b.low_j) sj' (line_j lowest on.low_on).below };
        covers = λ c g m n p y z k u v.
            let d : c ≡ b = cc in
            let s = between b.low_i b.high_i m (p / 128) (on_i _ on.low_on) (on_i _ on.high_on) (rw d at u) in
            let t = between b.low_j b.high_j n (p % 128) (on_j _ on.low_on) (on_j _ on.high_on) (rw d at v) in
            record {
              from_i = starts (line_of b.low_i) past m (p / 128) w.start_i si' y s.from;
              to_i = ends (line_of b.high_i) past m (p / 128) w.end_i ei' y (column p k) s.to;
              from_j = starts (line_of b.low_j) past n (p % 128) w.start_j sj' z t.from;
              to_j = ends (line_of b.high_j) past n (p % 128) w.end_j ej' z (row p) t.to;
            };
      }
    where
      lowest : Cell
      lowest = record { i = b.low_i; j = b.low_j }

      highest : Cell
      highest = record { i = b.high_i; j = b.high_j }

      small : (a line : ℕ) → a ≡ line - past → line < 128 → a < 128
      small a line f k = omega arith

      column : (p : ℕ) → p < 16384 → p / 128 < 128
      column p k = omega arith

      row : (p : ℕ) → p % 128 < 128
      row p = omega arith

      si' : w.start_i ≡ line_of b.low_i - past
      si' = rw (lines_of lowest low on.low_on l).by_i at si

      sj' : w.start_j ≡ line_of b.low_j - past
      sj' = rw (lines_of lowest low on.low_on l).by_j at sj

      ei' : w.end_i ≡ min (line_of b.high_i + past + 1) 128
      ei' = rw (lines_of highest high on.high_on h).by_i at ei

      ej' : w.end_j ≡ min (line_of b.high_j + past + 1) 128
      ej' = rw (lines_of highest high on.high_on h).by_j at ej

-- ---- a walk over the sheet

-- what a place outside of the window does not change is as it was at the next place inside
pub jumps : (w : Window) (P : ℕ → Type 0) → ((p : ℕ) → p < 16384 → (InWindow w p → ⊥) → P p → P (p + 1)) → {from r : ℕ} → NextIn w from r → P from → P r
jumps w P step t = carried P (λ p. InWindow w p → ⊥) step t.start t.upto t.out

-- ---- the region of a round of local

-- from one bound to the other, none past them
spans : (a b z : ℤ) → a ≤ℤ z → z ≤ℤ b → from_to (a -ℤ pos 0) (b +ℤ pos 0) z ≡ true
spans a b z g h = ap₂ (λ (x y : ℤ). from_to x y z) (+ℤ_idr a) (+ℤ_idr b) ∙ yes (le_z a z) (le_z z b) g.le h.le
  where
    yes : (t u : Bool) → T t → T u → (t && u) ≡ true
    yes true true k l = refl
    yes true false k l = absurd l
    yes false u k l = absurd k

-- a row or a column that has one of some cells inside the bounds
module _ (b : Bounds) (z : ℤ) where
  row_inside : (ps : List ℕ) → ((p : ℕ) → Memᴰ p ps → Inside b (cell_of p)) → row_among ps z ≡ true → from_to (b.low_j -ℤ pos 0) (b.high_j +ℤ pos 0) z ≡ true
  unfolding row_among
  row_inside [] h e = absurd (no_both false e refl)
  row_inside (p ∷ ps) h e = go (eq_z (cell_of p).j z) refl (row_inside ps (λ q m. h q (Memᴰ.tail m)))
    where
      go : (t : Bool) → eq_z (cell_of p).j z ≡ t → (row_among ps z ≡ true → from_to (b.low_j -ℤ pos 0) (b.high_j +ℤ pos 0) z ≡ true) → from_to (b.low_j -ℤ pos 0) (b.high_j +ℤ pos 0) z ≡ true
      go true f r = let i = h p (Memᴰ.head refl) in rw (eq_z_equal (cell_of p).j z f) at (spans _ _ _ i.from_low_j i.to_high_j)
      go false f r = r (rw f at e)

  column_inside : (ps : List ℕ) → ((p : ℕ) → Memᴰ p ps → Inside b (cell_of p)) → column_among ps z ≡ true → from_to (b.low_i -ℤ pos 0) (b.high_i +ℤ pos 0) z ≡ true
  unfolding column_among
  column_inside [] h e = absurd (no_both false e refl)
  column_inside (p ∷ ps) h e = go (eq_z (cell_of p).i z) refl (column_inside ps (λ q m. h q (Memᴰ.tail m)))
    where
      go : (t : Bool) → eq_z (cell_of p).i z ≡ t → (column_among ps z ≡ true → from_to (b.low_i -ℤ pos 0) (b.high_i +ℤ pos 0) z ≡ true) → from_to (b.low_i -ℤ pos 0) (b.high_i +ℤ pos 0) z ≡ true
      go true f r = let i = h p (Memᴰ.head refl) in rw (eq_z_equal (cell_of p).i z f) at (spans _ _ _ i.from_low_i i.to_high_i)
      go false f r = r (rw f at e)

-- two tests of which not both hold
not_both : (t u : Bool) → (t ≡ true → u ≡ true → ⊥) → (t && u) ≡ false
not_both true true h = absurd (h refl refl)
not_both true false h = refl
not_both false u h = refl

-- a place outside of the window is not in the region
pub told_far : (depth : ℕ) (sheet : List ℕ) (region : Region) (w : Window) (p : ℕ) → RegionFound sheet region → Windowed depth region.around w → p < 16384 → (InWindow w p → ⊥) → region_at depth region p ≡ false
unfolding local_region
told_far depth sheet region w p f c h out = region_is depth sheet region p h f ∙ go (box_of sheet) refl
  where
    go : (box : Option Bounds) → box_of sheet ≡ box → local_region depth (labelled_places sheet) box (cell_of p) ≡ false
    go None e = refl
    go (Some b) e =
        let inside : (q : ℕ) → Memᴰ q (labelled_places sheet) → Inside b (cell_of q) = λ q m. (subst (IsBox sheet) e (box_is sheet)).all_inside (cell_of q) (listed_cell sheet q m) in
        let at : (m n : ℕ) → m ≤ depth → n ≤ depth → near_i m b (cell_of p) ≡ true → near_j n b (cell_of p) ≡ true → ⊥ = λ m n k l s t. out (c.covers b (f.around_is ∙ e) m n p k l h s t) in
        rw (
          not_both (near_i 0 b (cell_of p)) (near_j 0 b (cell_of p)) (λ s t. at 0 0 (omega arith) (omega arith) s t),
          not_both (past_i depth b (cell_of p)) (row_among (labelled_places sheet) (cell_of p).j) (λ s t. at depth 0 (omega arith) (omega arith) (both _ _ s).0 (row_inside b (cell_of p).j _ inside t)),
          not_both (past_j depth b (cell_of p)) (column_among (labelled_places sheet) (cell_of p).i) (λ s t. at 0 depth (omega arith) (omega arith) (column_inside b (cell_of p).i _ inside t) (both _ _ s).0),
          not_both (past_i depth b (cell_of p)) (past_j depth b (cell_of p)) (λ s t. at depth depth (omega arith) (omega arith) (both _ _ s).0 (both _ _ t).0),
        )
