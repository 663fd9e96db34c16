-- Laws of the rim: it is yes exactly if a labelled cell lies in the outermost rings; what marks keep and what attaching a
-- corner adds; the rim, by a walk over the places that hold something. Assumes nothing.
use mathlib.Core.Path.{◌≡◌, refl, sym, ap, ◌∙◌}
use mathlib.Core.Bool.{Bool, true, false, cond, ◌&&◌, ◌||◌}
use mathlib.Core.List.{List, [], ◌∷◌}
use mathlib.Core.Logic.{◌⊎◌, inl, inr}
use Prim.Native.Nat.{ℕ, ◌≤◌}
use native.Mathlib.Omega.{arith}
use lib.IntN.{pos}
use lib.ListN.{get_or}
use mir.Syntax.{w32}
use mir.Val.{to_z}
use mir.Facts.{to_z_pos}
use Rattle.sheet.specs.Cells.{place_of, cell_of}
use Rattle.sheet.specs.Words.{attached, empty_sheet}
use Rattle.sheet.specs.Blank.{written_from}
use Rattle.sheet.proofs.Laws.{place_in, cell_place}
use Rattle.sheet.specs.declared.Cell.{Cell}
use Rattle.labels.specs.Labelled.{is_labelled, labelled_cell, LabelledCell, Attaching}
use Rattle.labels.specs.Rim.{on_rim, RimReached, rim_at, rim}
use Rattle.labels.proofs.Below.{no_both, both, any_hit, any_yes, any_ext}
use Rattle.labels.proofs.Written.{written_any}
use Rattle.std.specs.List.{list_any, filter_map, cons_option}
use Rattle.std.specs.Prelude.{Some, None}
use Rattle.labels.proofs.Labelled.{SamePlaces, cell_labelled, labelled_cell_on, labelled_word, labelled_new, labelled_still, labelled_cases, empty_unlabelled, blank_unlabelled}

-- ---- the rule

-- yes exactly if a labelled cell lies in the outermost rings
pub rim_yes : (depth : ℕ) (sheet : List ℕ) → rim depth sheet ≡ true → RimReached depth sheet
unfolding rim rim_at
rim_yes depth sheet e =
    let p = any_yes (λ q. is_labelled (get_or sheet q 0) && on_rim depth (cell_of q)) 16384 e in
    let h = both (is_labelled (get_or sheet p.number 0)) (on_rim depth (cell_of p.number)) p.passes in
    record { cell = cell_of p.number; labelled = cell_labelled sheet p.number p.below h.0; in_rings = h.1 }

pub rim_there : (depth : ℕ) (sheet : List ℕ) → RimReached depth sheet → rim depth sheet ≡ true
unfolding rim rim_at
rim_there depth sheet r =
    let on = labelled_cell_on sheet r.cell r.labelled in
    any_hit (λ q. is_labelled (get_or sheet q 0) && on_rim depth (cell_of q)) 16384 (place_of r.cell) (place_in r.cell on)
    (rw (labelled_word sheet r.cell r.labelled, cell_place r.cell on) r.in_rings)

-- no exactly if none does
pub rim_no : (depth : ℕ) (sheet : List ℕ) → (RimReached depth sheet → ⊥) → rim depth sheet ≡ false
rim_no depth sheet h = go (rim depth sheet) refl
  where
    go : (t : Bool) → rim depth sheet ≡ t → t ≡ false
    go false e = refl
    go true e = absurd (h (rim_yes depth sheet e))

-- ---- changed sheets

pub same_rim : (depth : ℕ) (sheet after : List ℕ) → SamePlaces sheet after → rim depth after ≡ rim depth sheet
unfolding rim rim_at
same_rim depth sheet after s =
    any_ext (λ q. is_labelled (get_or after q 0) && on_rim depth (cell_of q)) (λ q. is_labelled (get_or sheet q 0) && on_rim depth (cell_of q)) 16384
    (λ p h. ap (λ (t : Bool). t && on_rim depth (cell_of p)) (s.same_place p h))

-- What attaching a corner does to the rim, and what rim a sheet starts with, are for a rim that is kept with the sheet beside the label box;
-- today each pass finds it at its end.
pub rim_attached : {sheet : List ℕ} {c : Cell} {k : ℕ} (depth : ℕ) → Attaching sheet c k → rim depth (attached sheet c k) ≡ (on_rim depth c || rim depth sheet)
rim_attached {sheet} {c} {k} depth a = go (on_rim depth c) refl (rim depth sheet) refl
  where
    one : (d : Cell) → on_rim depth d ≡ true → on_rim depth c ≡ false → rim depth sheet ≡ false → (d ≡ c) ⊎ LabelledCell sheet d → ⊥
    one d r e f (inl q) = no_both (on_rim depth c) (ap (on_rim depth) (sym q) ∙ r) e
    one d r e f (inr l) = no_both (rim depth sheet) (rim_there depth sheet (record { cell = d; labelled = l; in_rings = r })) f

    go : (t : Bool) → on_rim depth c ≡ t → (u : Bool) → rim depth sheet ≡ u → rim depth (attached sheet c k) ≡ (t || u)
    go true e u f = rim_there depth (attached sheet c k) (record { cell = c; labelled = labelled_new a; in_rings = e })
    go false e true f =
        let r = rim_yes depth sheet f in
        rim_there depth (attached sheet c k) (record { cell = r.cell; labelled = labelled_still a r.cell r.labelled; in_rings = r.in_rings })
    go false e false f = rim_no depth (attached sheet c k) (λ r. one r.cell r.in_rings e f (labelled_cases a r.cell r.labelled))

pub rim_empty : (depth : ℕ) → rim depth empty_sheet ≡ false
rim_empty depth = rim_no depth empty_sheet (λ r. empty_unlabelled r.cell r.labelled)

-- ---- a depth, as the machine has it

pub depth_read : (d : ℕ) → d ≤ 64 → to_z w32 d ≡ pos d
depth_read d h = to_z_pos w32 (omega arith)

-- ---- the rim, by a walk over the places that hold something

rimmed : (depth : ℕ) (l : List (ℕ × ℕ)) → list_any (on_rim depth) (filter_map labelled_cell l) ≡ list_any (λ e. rim_at depth e.1 e.0) l
unfolding rim_at
rimmed depth [] = refl
rimmed depth (e ∷ l) = go (is_labelled e.1) (rimmed depth l)
  where
    go : (t : Bool) → list_any (on_rim depth) (filter_map labelled_cell l) ≡ list_any (λ e. rim_at depth e.1 e.0) l
        → list_any (on_rim depth) (cons_option (cond t (Some (cell_of e.0)) None) (filter_map labelled_cell l))
        ≡ ((t && on_rim depth (cell_of e.0)) || list_any (λ e. rim_at depth e.1 e.0) l)
    go true w = ap (λ (u : Bool). on_rim depth (cell_of e.0) || u) w
    go false w = w

pub rim_walked : (depth : ℕ) (sheet : List ℕ) → list_any (on_rim depth) (filter_map labelled_cell (written_from sheet 0)) ≡ rim depth sheet
unfolding rim rim_at
rim_walked depth sheet =
    rimmed depth (written_from sheet 0) ∙ written_any sheet (λ e. rim_at depth e.1 e.0) (λ p. rw (blank_unlabelled {w = 0} refl))
