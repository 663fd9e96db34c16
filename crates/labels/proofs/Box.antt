-- Laws of the label box: the computed box meets the rule, and no other box does; one cell more widens it; the box after a
-- corner is attached; its bounds are on the sheet; the box, by a walk over the places that hold something. Assumes nothing.
use mathlib.Core.Path.{◌≡◌, refl, sym, ap, ◌∙◌, subst}
use mathlib.Core.Bool.{Bool, true, false, cond, not}
use mathlib.Core.List.Memᴰ
use mathlib.Core.List.{List, [], ◌∷◌, foldl, map, Memᴰ}
use mathlib.Core.Logic.{◌⊎◌, inl, inr}
use Prim.Native.Nat.{ℕ, ◌<◌, ◌≤◌}
use lib.Dec.{T}
use lib.ListN.{length}
use lib.IntN.{ℤ}
use Rattle.std.specs.Prelude.{Option, Some, None}
use lib.Signed.{le_z, lt_z, ◌≤ℤ◌, ≤ℤ_refl}
use Rattle.sheet.specs.Cells.{in_range, OnSheet, place_of, cell_of}
use Rattle.sheet.specs.Words.{attached, empty_sheet}
use Rattle.sheet.specs.Blank.{written_from}
use Rattle.std.specs.Int.{int_min, int_max}
use Rattle.std.specs.List.{filter, fold, filter_map, cons_option, reduce}
use Rattle.sheet.proofs.Laws.{flip, cell_place, on_i, on_j}
use Rattle.sheet.proofs.Words.{yes}
use Rattle.sheet.specs.declared.Cell.{Cell}
use Rattle.labels.proofs.Below.{no_both}
use Rattle.labels.specs.Labelled.{is_labelled, labelled_cell, LabelledCell, labelled_places, Attaching}
use Rattle.labels.specs.Box.{Inside, Taken, IsBoxOf, IsBox, lower_of, higher_of, bounds_of, bounds_joined, widened, box_around, box_of}
use Rattle.labels.proofs.Signed.{le_z_true, le_z_false, ≤ℤ-trans, ≤ℤ-antisym}
use Rattle.labels.proofs.Labelled.{SamePlaces, same_places, cell_listed, listed_cell, labelled_cell_on, put_new, put_still, put_cases, empty_unlabelled, labels_walked}
use Rattle.labels.specs.declared.Bounds.{Bounds}

-- ---- the lower and the higher of two numbers

-- at most, or at least, each of the two, and one of them
pub record Lower (a b z : ℤ) : Type 0 where
  pub below_first : z ≤ℤ a
  pub below_second : z ≤ℤ b
  pub lower_is : (z ≡ a) ⊎ (z ≡ b)

pub record Higher (a b z : ℤ) : Type 0 where
  pub above_first : a ≤ℤ z
  pub above_second : b ≤ℤ z
  pub higher_is : (z ≡ a) ⊎ (z ≡ b)

pub lower_law : (a b : ℤ) → Lower a b (lower_of a b)
unfolding lower_of
lower_law a b = go (le_z a b) refl
  where
    go : (t : Bool) → le_z a b ≡ t → Lower a b (cond t a b)
    go true e = record { below_first = ≤ℤ_refl a; below_second = le_z_true a b e; lower_is = inl refl }
    go false e = record { below_first = le_z_false a b e; below_second = ≤ℤ_refl b; lower_is = inr refl }

pub higher_law : (a b : ℤ) → Higher a b (higher_of a b)
unfolding higher_of
higher_law a b = go (le_z b a) refl
  where
    go : (t : Bool) → le_z b a ≡ t → Higher a b (cond t a b)
    go true e = record { above_first = ≤ℤ_refl a; above_second = le_z_true b a e; higher_is = inl refl }
    go false e = record { above_first = le_z_false b a e; above_second = ≤ℤ_refl b; higher_is = inr refl }

-- as the machine finds them
pub min_lower : (a b : ℤ) → int_min a b ≡ lower_of a b
unfolding lower_of
min_lower a b = rw (flip b a) (go (lt_z b a))
  where
    go : (t : Bool) → cond t b a ≡ cond (not t) a b
    go true = refl
    go false = refl

pub max_higher : (a b : ℤ) → int_max a b ≡ higher_of a b
unfolding higher_of
max_higher a b = go (lt_z b a) refl (le_z b a) refl
  where
    go : (t : Bool) → lt_z b a ≡ t → (u : Bool) → le_z b a ≡ u → cond t a b ≡ cond u a b
    go true e true f = refl
    go true e false f = absurd (no_both (le_z a b) (yes (le_z a b) (le_z_false b a f).le) (flip b a ∙ ap not e))
    go false e true f = ≤ℤ-antisym (le_z_true b a f) (le_z_true a b (flip b a ∙ ap not e))
    go false e false f = refl

-- ---- the rule

-- the rule looks only at which cells there are
pub box_respects : (cells others : Cell → Type 0) → ((c : Cell) → cells c → others c) → ((c : Cell) → others c → cells c) → (box : Option Bounds) → IsBoxOf cells box → IsBoxOf others box
box_respects cells others f g None h = λ c m. h c (g c m)
box_respects cells others f g (Some b) h =
    record {
      all_inside = λ c m. h.all_inside c (g c m);
      low_i_taken = moved h.low_i_taken;
      high_i_taken = moved h.high_i_taken;
      low_j_taken = moved h.low_j_taken;
      high_j_taken = moved h.high_j_taken;
    }
  where
    moved : {line : Cell → ℤ} {z : ℤ} → Taken cells line z → Taken others line z
    moved t = record { cell = t.cell; among = f t.cell t.among; there = t.there }

-- what is at most every cell's number is at most one that is taken; and at least
at_most : {cells : Cell → Type 0} {line : Cell → ℤ} {y z : ℤ} → Taken cells line z → ((c : Cell) → cells c → y ≤ℤ line c) → y ≤ℤ z
at_most {y = y} t h = subst (λ (x : ℤ). y ≤ℤ x) t.there (h t.cell t.among)

at_least : {cells : Cell → Type 0} {line : Cell → ℤ} {y z : ℤ} → Taken cells line z → ((c : Cell) → cells c → line c ≤ℤ y) → z ≤ℤ y
at_least {y = y} t h = subst (λ (x : ℤ). x ≤ℤ y) t.there (h t.cell t.among)

-- cells have one box
pub box_only : (cells : Cell → Type 0) (a b : Option Bounds) → IsBoxOf cells a → IsBoxOf cells b → a ≡ b
box_only cells None None h k = refl
box_only cells None (Some b) h k = absurd (h k.low_i_taken.cell k.low_i_taken.among)
box_only cells (Some a) None h k = absurd (k h.low_i_taken.cell h.low_i_taken.among)
box_only cells (Some a) (Some b) h k =
    let low-i = ≤ℤ-antisym (at_most k.low_i_taken (λ c m. (h.all_inside c m).from_low_i)) (at_most h.low_i_taken (λ c m. (k.all_inside c m).from_low_i)) in
    let high-i = ≤ℤ-antisym (at_least h.high_i_taken (λ c m. (k.all_inside c m).to_high_i)) (at_least k.high_i_taken (λ c m. (h.all_inside c m).to_high_i)) in
    let low-j = ≤ℤ-antisym (at_most k.low_j_taken (λ c m. (h.all_inside c m).from_low_j)) (at_most h.low_j_taken (λ c m. (k.all_inside c m).from_low_j)) in
    let high-j = ≤ℤ-antisym (at_least h.high_j_taken (λ c m. (k.all_inside c m).to_high_j)) (at_least k.high_j_taken (λ c m. (h.all_inside c m).to_high_j)) in
    λ t. Some (record { low_i = low-i t; high_i = high-i t; low_j = low-j t; high_j = high-j t })

-- one cell more widens the box
pub box_widens : (cells : Cell → Type 0) (box : Option Bounds) (d : Cell) → IsBoxOf cells box → IsBoxOf (λ c. (c ≡ d) ⊎ cells c) (widened box d)
unfolding widened
box_widens cells None d h =
    record {
      all_inside = inside;
      low_i_taken = record { cell = d; among = inl refl; there = refl };
      high_i_taken = record { cell = d; among = inl refl; there = refl };
      low_j_taken = record { cell = d; among = inl refl; there = refl };
      high_j_taken = record { cell = d; among = inl refl; there = refl };
    }
  where
    inside : (c : Cell) → (c ≡ d) ⊎ cells c → Inside (record { low_i = d.i; high_i = d.i; low_j = d.j; high_j = d.j }) c
    inside c (inl e) = rw e (record { from_low_i = ≤ℤ_refl d.i; to_high_i = ≤ℤ_refl d.i; from_low_j = ≤ℤ_refl d.j; to_high_j = ≤ℤ_refl d.j })
    inside c (inr m) = absurd (h c m)
box_widens cells (Some b) d h =
    record {
      all_inside = inside;
      low_i_taken = taken (λ c. c.i) h.low_i_taken (lower_law b.low_i d.i).lower_is;
      high_i_taken = taken (λ c. c.i) h.high_i_taken (higher_law b.high_i d.i).higher_is;
      low_j_taken = taken (λ c. c.j) h.low_j_taken (lower_law b.low_j d.j).lower_is;
      high_j_taken = taken (λ c. c.j) h.high_j_taken (higher_law b.high_j d.j).higher_is;
    }
  where
    taken : (line : Cell → ℤ) {y z : ℤ} → Taken cells line y → (z ≡ y) ⊎ (z ≡ line d) → Taken (λ c. (c ≡ d) ⊎ cells c) line z
    taken line t (inl e) = record { cell = t.cell; among = inr t.among; there = t.there ∙ sym e }
    taken line t (inr e) = record { cell = d; among = inl refl; there = sym e }

    inside : (c : Cell) → (c ≡ d) ⊎ cells c → Inside (record { low_i = lower_of b.low_i d.i; high_i = higher_of b.high_i d.i; low_j = lower_of b.low_j d.j; high_j = higher_of b.high_j d.j }) c
    inside c (inl e) =
        rw e
        (record {
          from_low_i = (lower_law b.low_i d.i).below_second;
          to_high_i = (higher_law b.high_i d.i).above_second;
          from_low_j = (lower_law b.low_j d.j).below_second;
          to_high_j = (higher_law b.high_j d.j).above_second;
        })
    inside c (inr m) =
        let w = h.all_inside c m in
        record {
          from_low_i = ≤ℤ-trans (lower_law b.low_i d.i).below_first w.from_low_i;
          to_high_i = ≤ℤ-trans w.to_high_i (higher_law b.high_i d.i).above_first;
          from_low_j = ≤ℤ-trans (lower_law b.low_j d.j).below_first w.from_low_j;
          to_high_j = ≤ℤ-trans w.to_high_j (higher_law b.high_j d.j).above_first;
        }

-- ---- the computed box

-- the cell of a listed place
record Among (l : List ℕ) (c : Cell) : Type 0 where
  place : ℕ
  listed : Memᴰ place l
  its_cell : c ≡ cell_of place

-- places taken in one by one
folded : (l : List ℕ) (cells : Cell → Type 0) (box : Option Bounds) → IsBoxOf cells box → IsBoxOf (λ c. cells c ⊎ Among l c) (foldl (λ b p. widened b (cell_of p)) box l)
folded [] cells box h = box_respects cells (λ c. cells c ⊎ Among [] c) (λ c m. inl m) back box h
  where
    back : (c : Cell) → cells c ⊎ Among [] c → cells c
    back c (inl m) = m
    back c (inr a) = absurd (Memᴰ.not-nil a.listed)
folded (p ∷ l) cells box h =
    box_respects (λ c. ((c ≡ cell_of p) ⊎ cells c) ⊎ Among l c) (λ c. cells c ⊎ Among (p ∷ l) c) forth back (foldl (λ b q. widened b (cell_of q)) (widened box (cell_of p)) l)
    (folded l (λ c. (c ≡ cell_of p) ⊎ cells c) (widened box (cell_of p)) (box_widens cells box (cell_of p) h))
  where
    forth : (c : Cell) → ((c ≡ cell_of p) ⊎ cells c) ⊎ Among l c → cells c ⊎ Among (p ∷ l) c
    forth c (inl (inl e)) = inr (record { place = p; listed = Memᴰ.head refl; its_cell = e })
    forth c (inl (inr m)) = inl m
    forth c (inr a) = inr (record { place = a.place; listed = Memᴰ.tail a.listed; its_cell = a.its_cell })

    split : (c : Cell) (q : ℕ) → c ≡ cell_of q → (q ≡ p) ⊎ Memᴰ q l → ((c ≡ cell_of p) ⊎ cells c) ⊎ Among l c
    split c q e (inl d) = inl (inl (e ∙ ap cell_of d))
    split c q e (inr m) = inr (record { place = q; listed = m; its_cell = e })

    back : (c : Cell) → cells c ⊎ Among (p ∷ l) c → ((c ≡ cell_of p) ⊎ cells c) ⊎ Among l c
    back c (inl m) = inl (inr m)
    back c (inr a) = split c a.place a.its_cell (Memᴰ.cases_cons a.listed)

-- the computed box is the label box
pub box_is : (sheet : List ℕ) → IsBox sheet (box_of sheet)
unfolding box_of
box_is sheet =
    box_respects (λ c. ⊥ ⊎ Among (labelled_places sheet) c) (LabelledCell sheet) forth back (box_around (labelled_places sheet))
    (folded (labelled_places sheet) (λ c. ⊥) None (λ c m. m))
  where
    forth : (c : Cell) → ⊥ ⊎ Among (labelled_places sheet) c → LabelledCell sheet c
    forth c (inl m) = absurd m
    forth c (inr a) = subst (LabelledCell sheet) (sym a.its_cell) (listed_cell sheet a.place a.listed)

    back : (c : Cell) → LabelledCell sheet c → ⊥ ⊎ Among (labelled_places sheet) c
    back c l = inr (record { place = place_of c; listed = cell_listed sheet c l; its_cell = sym (cell_place c (labelled_cell_on sheet c l)) })

-- and no other box is
pub box_found : (sheet : List ℕ) (box : Option Bounds) → IsBox sheet box → box_of sheet ≡ box
box_found sheet box h = box_only (LabelledCell sheet) (box_of sheet) box (box_is sheet) h

-- ---- the box of changed sheets

-- What attaching a corner does to the box, and what box a sheet starts with, are for the label box that is kept beside the sheet.

pub same_box : (sheet after : List ℕ) → SamePlaces sheet after → box_of after ≡ box_of sheet
unfolding box_of
same_box sheet after s = ap box_around (same_places sheet after s)

-- a corner attached at any cell of the sheet widens the box by that cell, whatever the cell held
pub box_put : (sheet : List ℕ) (c : Cell) (k : ℕ) → 16384 ≤ length sheet → OnSheet c → k < 16383 → box_of (attached sheet c k) ≡ widened (box_of sheet) c
box_put sheet c k long on fits =
    box_found (attached sheet c k) (widened (box_of sheet) c)
    (box_respects (λ d. (d ≡ c) ⊎ LabelledCell sheet d) (LabelledCell (attached sheet c k)) forth (put_cases sheet c k long on fits) (widened (box_of sheet) c)
    (box_widens (LabelledCell sheet) (box_of sheet) c (box_is sheet)))
  where
    forth : (d : Cell) → (d ≡ c) ⊎ LabelledCell sheet d → LabelledCell (attached sheet c k) d
    forth d (inl e) = subst (LabelledCell (attached sheet c k)) (sym e) (put_new sheet c k long on fits)
    forth d (inr l) = put_still sheet c k long on fits d l

pub box_attached : {sheet : List ℕ} {c : Cell} {k : ℕ} → Attaching sheet c k → box_of (attached sheet c k) ≡ widened (box_of sheet) c
box_attached {sheet} {c} {k} a = box_put sheet c k a.long a.on a.corner_fits

pub box_empty : box_of empty_sheet ≡ None
box_empty = box_found empty_sheet None empty_unlabelled

-- ---- the bounds of a label box are on the sheet, and each low one is at most the high one

pub record Framed (b : Bounds) : Type 0 where
  pub low_i_in : T (in_range b.low_i)
  pub high_i_in : T (in_range b.high_i)
  pub low_j_in : T (in_range b.low_j)
  pub high_j_in : T (in_range b.high_j)
  pub i_ordered : b.low_i ≤ℤ b.high_i
  pub j_ordered : b.low_j ≤ℤ b.high_j

pub box_framed : (sheet : List ℕ) (b : Bounds) → IsBox sheet (Some b) → Framed b
box_framed sheet b h =
    record {
      low_i_in = ranged (λ c. c.i) on_i h.low_i_taken;
      high_i_in = ranged (λ c. c.i) on_i h.high_i_taken;
      low_j_in = ranged (λ c. c.j) on_j h.low_j_taken;
      high_j_in = ranged (λ c. c.j) on_j h.high_j_taken;
      i_ordered = at_most h.high_i_taken (λ c m. (h.all_inside c m).from_low_i);
      j_ordered = at_most h.high_j_taken (λ c m. (h.all_inside c m).from_low_j);
    }
  where
    ranged : (line : Cell → ℤ) → ((c : Cell) → OnSheet c → T (in_range (line c))) → {z : ℤ} → Taken (LabelledCell sheet) line z → T (in_range z)
    ranged line f t = subst (λ (x : ℤ). T (in_range x)) t.there (f t.cell (labelled_cell_on sheet t.cell t.among))

pub box_of_framed : (sheet : List ℕ) (b : Bounds) → box_of sheet ≡ Some b → Framed b
box_of_framed sheet b e = box_framed sheet b (subst (IsBox sheet) e (box_is sheet))

-- ---- the box, by a walk over the places that hold something

-- the cells of the labelled places are those of the walk
cells_walked : (l : List (ℕ × ℕ)) (box : Option Bounds)
    → fold widened box (filter_map labelled_cell l) ≡ foldl (λ b p. widened b (cell_of p)) box (map (λ e. e.0) (filter (λ e. is_labelled e.1) l))
cells_walked [] box = refl
cells_walked (e ∷ l) box = go (is_labelled e.1) (cells_walked l)
  where
    go : (t : Bool)
        → ((b : Option Bounds) → fold widened b (filter_map labelled_cell l) ≡ foldl (λ b p. widened b (cell_of p)) b (map (λ e. e.0) (filter (λ e. is_labelled e.1) l)))
        → fold widened box (cons_option (cond t (Some (cell_of e.0)) None) (filter_map labelled_cell l))
        ≡ foldl (λ b p. widened b (cell_of p)) box (map (λ e. e.0) (cond t (e ∷ filter (λ e. is_labelled e.1) l) (filter (λ e. is_labelled e.1) l)))
    go true w = w (widened box (cell_of e.0))
    go false w = w box

-- the bounds of cells, joined
boxed_behind : (cells : List Cell) (b : Bounds) → fold widened (Some b) cells ≡ Some (fold bounds_joined b (map bounds_of cells))
unfolding widened
boxed_behind [] b = refl
boxed_behind (c ∷ cells) b = boxed_behind cells (bounds_joined b (bounds_of c))

abbrev pub boxed : Option Bounds → Option Bounds
boxed None = None
boxed (Some b) = Some b

boxed_all : (cells : List Cell) → boxed (reduce bounds_joined (map bounds_of cells)) ≡ fold widened None cells
unfolding widened
boxed_all [] = refl
boxed_all (c ∷ cells) = sym (boxed_behind cells (bounds_of c))

boxed_same : (r : Option Bounds) → boxed r ≡ r
boxed_same None = refl
boxed_same (Some b) = refl

-- each cell widens it
pub box_widened : (sheet : List ℕ) → fold widened None (filter_map labelled_cell (written_from sheet 0)) ≡ box_of sheet
unfolding box_of
box_widened sheet = cells_walked (written_from sheet 0) None ∙ ap box_around (labels_walked sheet)

pub box_walked : (sheet : List ℕ) (r : Option Bounds) → reduce bounds_joined (map bounds_of (filter_map labelled_cell (written_from sheet 0))) ≡ r → r ≡ box_of sheet
box_walked sheet r e = sym (boxed_same r) ∙ sym (ap boxed e) ∙ boxed_all (filter_map labelled_cell (written_from sheet 0)) ∙ box_widened sheet
