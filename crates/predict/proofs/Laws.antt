-- Laws of prediction: the square a cell at a time; a seen cell is on the sheet; all is settled by what is seen, so that it is
-- the same for paired frames; a cell with a labelled cell beside it has a prediction. Assumes nothing.
use mathlib.Core.Path.{◌≡◌, refl, sym, ap, ◌∙◌}
use mathlib.Core.Bool.{Bool, true, false, ◌&&◌, ◌||◌, true≢false}
use mathlib.Core.List.{List, [], ◌∷◌}
use Prim.Native.Nat.{ℕ, zero, suc, ◌<◌, ◌≤◌}
use native.Mathlib.Omega.{arith}
use lib.IntN.{ℤ, pos, negsuc, nat_abs}
use lib.Dec.{T, le→leb}
use lib.ListN.{length, get_or}
use lib.Ieee.{binary32, in_float}
use Rattle.sheet.specs.Cells.{OnSheet, moved, Within}
use Rattle.sheet.specs.Words.{label_at}
use Rattle.sheet.specs.Corners.{CornerLists, corner_of, seen_of, Given}
use Rattle.sheet.specs.Pairing.{PairedCorners, PairedSheets}
use Rattle.sheet.proofs.Words.{labelled_on_lem}
use Rattle.sheet.proofs.Corners.{seen_none, seen_some}
use Rattle.sheet.proofs.Pairing.{seen_paired}
use Rattle.sheet.specs.declared.Cell.{Cell}
use Rattle.sheet.specs.declared.Offset.{Offset}
use Rattle.sheet.specs.declared.Corner.{Corner}
use Rattle.predict.specs.Predict.{offset, neighbour_offsets, put_before, labelled_among, neighbours_of, forward_of, backward_of, step_at, sums_from, sums_of, mean_of, prediction_from, prediction_of, on_side, any_on, has_neighbour, extrapolating, is_seen, labelled_on, with_seen, with_cell}
use Rattle.predict.specs.declared.Neighbour.{Neighbour}
use Rattle.predict.specs.declared.Direction.{Direction}
use Rattle.predict.specs.declared.Grid.{Grid}
use Rattle.predict.specs.declared.Sums.{Sums}
use Rattle.predict.specs.declared.Side.{Side}
use Rattle.std.specs.Prelude.{Some, None, Option, is_some}
use Rattle.std.specs.List.{list_any, fold}

-- ---- small numbers

-- a number of magnitude at most 1,000 is a float
pub small_float : (z : ℤ) → nat_abs z ≤ 1000 → T (in_float binary32 z)
unfolding in_float
small_float (pos n) h = le→leb n 16777216 (omega arith)
small_float (negsuc n) h = le→leb (suc n) 16777216 (omega arith)

-- the offsets of the square and of both directions are at most 1 each way
near_one : (o : Offset) → nat_abs o.di ≤ 1 → nat_abs o.dj ≤ 1 → Within 128 o
near_one o h l = record { di_small = omega arith; dj_small = omega arith }

-- each offset of the square
pub square_within : (k : ℕ) (d : Offset) → k < 8 → Within 128 (get_or neighbour_offsets k d)
unfolding neighbour_offsets
square_within zero d h = near_one (offset (negsuc 0) (negsuc 0)) (omega arith) (omega arith)
square_within (suc zero) d h = near_one (offset (pos 0) (negsuc 0)) (omega arith) (omega arith)
square_within (suc (suc zero)) d h = near_one (offset (pos 1) (negsuc 0)) (omega arith) (omega arith)
square_within (suc (suc (suc zero))) d h = near_one (offset (negsuc 0) (pos 0)) (omega arith) (omega arith)
square_within (suc (suc (suc (suc zero)))) d h = near_one (offset (pos 1) (pos 0)) (omega arith) (omega arith)
square_within (suc (suc (suc (suc (suc zero))))) d h = near_one (offset (negsuc 0) (pos 1)) (omega arith) (omega arith)
square_within (suc (suc (suc (suc (suc (suc zero)))))) d h = near_one (offset (pos 0) (pos 1)) (omega arith) (omega arith)
square_within (suc (suc (suc (suc (suc (suc (suc zero))))))) d h = near_one (offset (pos 1) (pos 1)) (omega arith) (omega arith)
square_within (suc (suc (suc (suc (suc (suc (suc (suc k)))))))) d h = absurd (omega arith)

pub forward_within : (d : Direction) → Within 128 (forward_of d)
forward_within Direction.I = near_one (offset (pos 1) (pos 0)) (omega arith) (omega arith)
forward_within Direction.J = near_one (offset (pos 0) (pos 1)) (omega arith) (omega arith)

pub backward_within : (d : Direction) → Within 128 (backward_of d)
backward_within Direction.I = near_one (offset (negsuc 0) (pos 0)) (omega arith) (omega arith)
backward_within Direction.J = near_one (offset (pos 0) (negsuc 0)) (omega arith) (omega arith)

-- ---- what is seen, by the labels

module _ (corner : ℕ → Corner) (sheet : List ℕ) (c : Cell) where
  pub seen_if : (l : Option ℕ) → label_at sheet c ≡ l → is_some l ≡ is_seen (seen_of corner sheet c)
  unfolding is_seen
  seen_if None e = sym (ap is_seen (seen_none corner sheet c e))
  seen_if (Some k) e = sym (ap is_seen (seen_some corner sheet c k e))

  -- a cell at which a corner is seen is on the sheet
  pub seen_on : (k : Corner) → seen_of corner sheet c ≡ Some k → OnSheet c
  seen_on k e = go (label_at sheet c) refl
    where
      go : (l : Option ℕ) → label_at sheet c ≡ l → OnSheet c
      go None f = let z : ◌≡◌ {A = ℕ} 0 1 = cc (seen_none corner sheet c f) in absurd (omega arith)
      go (Some j) f = labelled_on_lem sheet c j f

-- ---- the square a cell at a time

module _ (seen : Cell → Option Corner) (c : Cell) where
  -- the sums
  module _ (grid : Grid) where
    sums_before : (s : Sums) (at : Cell) (v : Option Corner) (rest : List Neighbour) → sums_from seen grid c s (put_before at v rest) ≡ sums_from seen grid c (with_seen seen grid c s at v) rest
    unfolding sums_from put_before with_seen
    sums_before s at None rest = refl
    sums_before s at (Some corner) rest = refl

    sums_listed : (os : List Offset) (s : Sums) → fold (λ (s : Sums) (o : Offset). with_cell seen grid c s (moved c o)) s os ≡ sums_from seen grid c s (labelled_among seen c os)
    unfolding sums_from labelled_among
    sums_listed [] s = refl
    sums_listed (o ∷ os) s = sums_listed os (with_cell seen grid c s (moved c o)) ∙ sym (sums_before s (moved c o) (seen (moved c o)) (labelled_among seen c os))

    -- the sums over all eight cells
    pub sums_all : (s : Sums) → fold (λ (s : Sums) (o : Offset). with_cell seen grid c s (moved c o)) s neighbour_offsets ≡ sums_from seen grid c s (neighbours_of seen c)
    unfolding neighbours_of
    sums_all s = sums_listed neighbour_offsets s

  -- a neighbour on a side
  module _ (side : Side) where
    any_before : (at : Cell) (v : Option Corner) (rest : List Neighbour) → any_on side c (put_before at v rest) ≡ ((is_seen v && on_side side c at) || any_on side c rest)
    unfolding any_on put_before is_seen
    any_before at None rest = refl
    any_before at (Some corner) rest = refl

    any_listed : (os : List Offset) → list_any (λ o. labelled_on seen c side (moved c o)) os ≡ any_on side c (labelled_among seen c os)
    unfolding any_on labelled_among
    any_listed [] = refl
    any_listed (o ∷ os) = ap (λ (t : Bool). labelled_on seen c side (moved c o) || t) (any_listed os) ∙ sym (any_before (moved c o) (seen (moved c o)) (labelled_among seen c os))

    -- one of all eight cells
    pub any_all : list_any (λ o. labelled_on seen c side (moved c o)) neighbour_offsets ≡ has_neighbour seen c side
    unfolding neighbours_of has_neighbour
    any_all = any_listed neighbour_offsets

  -- ---- no neighbour, or a prediction

  from_none : (l : List Neighbour) (s : Sums) → any_on Side.Any c l ≡ false → prediction_from l s ≡ None
  unfolding any_on on_side prediction_from
  from_none [] s e = refl
  from_none (n ∷ ns) s e = absurd (true≢false e)

  from_some : (l : List Neighbour) (s : Sums) → any_on Side.Any c l ≡ true → prediction_from l s ≡ Some (mean_of s)
  unfolding any_on on_side prediction_from
  from_some [] s e = absurd (true≢false (sym e))
  from_some (n ∷ ns) s e = refl

  module _ (grid : Grid) where
    pub predicted_none : has_neighbour seen c Side.Any ≡ false → prediction_of seen grid c ≡ None
    unfolding has_neighbour prediction_of
    predicted_none e = from_none (neighbours_of seen c) (sums_of seen grid c) e

    pub predicted_some : has_neighbour seen c Side.Any ≡ true → prediction_of seen grid c ≡ Some (mean_of (sums_of seen grid c))
    unfolding has_neighbour prediction_of
    predicted_some e = from_some (neighbours_of seen c) (sums_of seen grid c) e

-- ---- what is seen settles all

module _ {seen seen' : Cell → Option Corner} (same : seen' ≡ seen) where
  pub step_same : (n : Neighbour) (d : Direction) → step_at seen' n d ≡ step_at seen n d
  step_same n d = ap (λ (s : Cell → Option Corner). step_at s n d) same

  pub prediction_same : (grid : Grid) (c : Cell) → prediction_of seen' grid c ≡ prediction_of seen grid c
  prediction_same grid c = ap (λ (s : Cell → Option Corner). prediction_of s grid c) same

  pub extrapolating_same : (c : Cell) → extrapolating seen' c ≡ extrapolating seen c
  extrapolating_same c = ap (λ (s : Cell → Option Corner). extrapolating s c) same

-- ---- two frames with paired corners and sheets

module _ {l l' : CornerLists} {sheet sheet' : List ℕ}
    (corners : PairedCorners l l') (paired : PairedSheets corners.pairs sheet sheet') (given : Given (length l.xs) sheet) where
  pub prediction_paired : (grid : Grid) (c : Cell) → prediction_of (seen_of (corner_of l') sheet') grid c ≡ prediction_of (seen_of (corner_of l) sheet) grid c
  prediction_paired = prediction_same (seen_paired corners paired given)

  pub extrapolating_paired : (c : Cell) → extrapolating (seen_of (corner_of l') sheet') c ≡ extrapolating (seen_of (corner_of l) sheet) c
  extrapolating_paired = extrapolating_same (seen_paired corners paired given)
