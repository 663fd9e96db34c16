-- The cells of a round: the arrays of labelled rows and columns, a place told by them, and that this is the definition's region. Assumes nothing.
use Rattle.labels.specs.declared.Bounds.{Bounds}
use Rattle.std.specs.Prelude.{Option, Some, None}
use mathlib.Core.Path.{◌≡◌, refl, sym, ap, ap₂, ◌∙◌}
use mathlib.Core.Bool.{Bool, true, false, ◌||◌}
use mathlib.Core.List.{List, [], ◌∷◌, ◌++◌}
use Prim.Native.Nat.{ℕ, suc, ◌+◌, ◌/◌, ◌%◌, ◌<◌}
use native.Mathlib.Decide.{ℕ_discrete}
use native.Mathlib.Numerals.{add-one}
use native.Mathlib.Omega.{arith}
use borrow.Author.Tests.{eq-eqb, ne_eqb}
use lib.Dec.{eqb}
use lib.ListN.{length, get_or, set, take, length-set}
use lib.Seq.{get_or-set_same, get_or-set_other, take-suc}
use Rattle.sheet.specs.Cells.{cell_of, eq_z}
use Rattle.sheet.proofs.Laws.{cell_on_lem, on_i, on_j, line_eq, unlined}
use Rattle.labels.specs.Labelled.{labelled_places}
use Rattle.labels.specs.Box.{box_of}
use Rattle.labels.proofs.Labelled.{places_in_lem}
use Rattle.passes.specs.Local.{row_among, column_among, local_region}
use Rattle.region.specs.Region.{on_line, Lines, RegionFound, marked, region_around, region_at}
use Rattle.region.specs.declared.Region.{Region}

-- ---- the lines of some places

on_line_last : (line : ℕ → ℕ) (r p : ℕ) (ps : List ℕ) → on_line line r (ps ++ (p ∷ [])) ≡ (on_line line r ps || eqb (line p) r)
unfolding on_line
on_line_last line r p [] = last (eqb (line p) r)
  where
    last : (t : Bool) → (t || false) ≡ t
    last true = refl
    last false = refl
on_line_last line r p (q ∷ qs) = ap (λ (t : Bool). eqb (line q) r || t) (on_line_last line r p qs) ∙ grouped (eqb (line q) r) (on_line line r qs) (eqb (line p) r)
  where
    grouped : (t u v : Bool) → (t || (u || v)) ≡ ((t || u) || v)
    grouped true u v = refl
    grouped false u v = refl

module _ (line : ℕ → ℕ) where
  pub lines_none : (marks : List Bool) → length marks ≡ 128 → ((r : ℕ) → r < 128 → get_or marks r false ≡ false) → Lines line [] marks
  unfolding on_line
  lines_none marks l h = record { size = l; at = h }

  lines_last : (ps : List ℕ) (marks : List Bool) (p : ℕ) → line p < 128 → Lines line ps marks → Lines line (ps ++ (p ∷ [])) (set marks (line p) true)
  lines_last ps marks p h l =
      record { size = length-set marks (line p) true ∙ l.size; at = λ r k. rw (on_line_last line r p ps) (go r k (ℕ_discrete (line p) r)) }
    where
      hit : (t : Bool) → true ≡ (t || true)
      hit true = refl
      hit false = refl

      miss : (t : Bool) → t ≡ (t || false)
      miss true = refl
      miss false = refl

      go : (r : ℕ) → r < 128 → Dec (line p ≡ r) → get_or (set marks (line p) true) r false ≡ (on_line line r ps || eqb (line p) r)
      go r k (yes e) = rw (eq-eqb (line p) r e, ← e) (get_or-set_same marks (line p) true false (omega (arith, l.size)) ∙ hit (on_line line (line p) ps))
      go r k (no e) = rw (ne_eqb (line p) r e) (get_or-set_other marks (line p) r true false (λ z. e (sym z)) ∙ l.at r k ∙ miss (on_line line r ps))

  -- one place more
  pub lines_more : (places : List ℕ) (marks : List Bool) (k p r : ℕ) → k < length places → p ≡ get_or places k 0 → r ≡ line p → r < 128 → Lines line (take k places) marks
      → Lines line (take (k + 1) places) (set marks r true)
  lines_more places marks k p r h e f l g =
      let one : take (k + 1) places ≡ take k places ++ (p ∷ []) = rw (add-one, e) (take-suc places k 0 h) in
      rw (one, f) (lines_last (take k places) marks p (rw f at l) g)

-- ---- the region

-- the lines of places are those of their cells
row_line : (p q : ℕ) → p < 16384 → q < 16384 → eq_z (cell_of p).j (cell_of q).j ≡ eqb (p % 128) (q % 128)
unfolding cell_of
row_line p q g h = sym (line_eq (cell_of p).j (cell_of q).j (on_j (cell_of p) (cell_on_lem p g)) (on_j (cell_of q) (cell_on_lem q h))) ∙ ap₂ eqb (unlined (p % 128) (omega arith)).line (unlined (q % 128) (omega arith)).line

column_line : (p q : ℕ) → p < 16384 → q < 16384 → eq_z (cell_of p).i (cell_of q).i ≡ eqb (p / 128) (q / 128)
unfolding cell_of
column_line p q g h = sym (line_eq (cell_of p).i (cell_of q).i (on_i (cell_of p) (cell_on_lem p g)) (on_i (cell_of q) (cell_on_lem q h))) ∙ ap₂ eqb (unlined (p / 128) (omega arith)).line (unlined (q / 128) (omega arith)).line

-- places of the sheet
record AllBelow (ps : List ℕ) : Type 0 where
  below : (a : ℕ) → a < length ps → get_or ps a 0 < 16384

module _ (q : ℕ) (h : q < 16384) where
  rows_among : (ps : List ℕ) → AllBelow ps → row_among ps (cell_of q).j ≡ on_line (λ p. p % 128) (q % 128) ps
  unfolding row_among on_line
  rows_among [] b = refl
  rows_among (p ∷ ps) b = ap₂ ◌||◌ (row_line p q (b.below 0 (omega arith)) h) (rows_among ps (record { below = λ a l. b.below (suc a) (omega arith) }))

  columns_among : (ps : List ℕ) → AllBelow ps → column_among ps (cell_of q).i ≡ on_line (λ p. p / 128) (q / 128) ps
  unfolding column_among on_line
  columns_among [] b = refl
  columns_among (p ∷ ps) b = ap₂ ◌||◌ (column_line p q (b.below 0 (omega arith)) h) (columns_among ps (record { below = λ a l. b.below (suc a) (omega arith) }))

-- the code's region is the definition's
pub region_is : (depth : ℕ) (sheet : List ℕ) (region : Region) (q : ℕ) → q < 16384 → RegionFound sheet region
    → region_at depth region q ≡ local_region depth (labelled_places sheet) (box_of sheet) (cell_of q)
unfolding region_around local_region
region_is depth sheet region q h f = rw f.around_is (go (box_of sheet))
  where
    below : AllBelow (labelled_places sheet)
    below = record { below = places_in_lem sheet }

    row : marked region.rows (q % 128) ≡ row_among (labelled_places sheet) (cell_of q).j
    row = f.rows_are.at (q % 128) (omega arith) ∙ sym (rows_among q h (labelled_places sheet) below)

    column : marked region.columns (q / 128) ≡ column_among (labelled_places sheet) (cell_of q).i
    column = f.columns_are.at (q / 128) (omega arith) ∙ sym (columns_among q h (labelled_places sheet) below)

    go : (around : Option Bounds) → region_around depth region.rows region.columns around q (cell_of q) ≡ local_region depth (labelled_places sheet) around (cell_of q)
    go None = refl
    go (Some b) = rw (row, column)
