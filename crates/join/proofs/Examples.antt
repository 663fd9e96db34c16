-- Small joins computed, one theorem for the table: joined by a shift, by 0, 8, 9 by two shifts, 9 by a cell, 4, and 9 before 4. Assumes nothing.
use mathlib.Core.Path.{◌≡◌, refl}
use mathlib.Core.List.{List, [], ◌∷◌, map}
use Prim.Native.Nat.{ℕ}
use lib.IntN.{ℤ, pos, negsuc}
use Rattle.sheet.specs.Cells.{on_sheet}
use Rattle.join.specs.Rule.{Placed}
use Rattle.join.specs.Join.{every, kept, cell_in, asks, asked, agree, agrees_in, tested, told, verdict, is_found, new_by, union, Joined, apart, clash, off, union_of, joined_by, joined}

abbrev pub label : ℕ → ℤ → ℤ → Placed
label k i j = record { corner = k; cell = record { i = i; j = j } }

-- three corners of one row, the last at the sheet's edge
abbrev pub row : List Placed
row = label 0 (pos 0) (pos 0) ∷ label 1 (pos 1) (pos 0) ∷ label 2 (pos 63) (pos 0) ∷ []

-- two sets, and their join
pub record Case : Type 0 where
  pub first : List Placed
  pub second : List Placed
  pub joins : Joined

abbrev pub case : List Placed → List Placed → Joined → Case
case first second joins = record { first = first; second = second; joins = joins }

abbrev pub table : List Case
table =
    -- corner 1 is shared: the second set moves by (1, 0)
    case row (label 1 (pos 0) (pos 0) ∷ label 5 (pos 0) (pos 1) ∷ [])
    (union_of (label 0 (pos 0) (pos 0) ∷ label 1 (pos 1) (pos 0) ∷ label 2 (pos 63) (pos 0) ∷ label 5 (pos 1) (pos 1) ∷ []))
    -- to the sheet's other edges
    ∷ case (label 0 (negsuc 63) (negsuc 63) ∷ []) (label 5 (pos 63) (pos 0) ∷ label 0 (pos 0) (pos 0) ∷ [])
    (union_of (label 0 (negsuc 63) (negsuc 63) ∷ label 5 (negsuc 0) (negsuc 63) ∷ []))
    -- the set itself moves by 0 and adds nothing
    ∷ case row row (union_of row)
    -- no corner in both; an empty set
    ∷ case row (label 5 (pos 0) (pos 0) ∷ []) apart
    ∷ case row [] apart
    ∷ case [] row apart
    -- two shared corners ask for two shifts; a shared corner asks for one that takes another corner to a cell that is held
    ∷ case row (label 0 (pos 5) (pos 5) ∷ label 1 (pos 5) (pos 6) ∷ []) clash
    ∷ case row (label 0 (pos 5) (pos 5) ∷ label 7 (pos 6) (pos 5) ∷ []) clash
    -- the shift takes a label off the sheet; it does and does not fit
    ∷ case row (label 2 (pos 0) (pos 0) ∷ label 7 (pos 1) (pos 0) ∷ []) off
    ∷ case row (label 2 (pos 0) (pos 0) ∷ label 1 (pos 1) (pos 0) ∷ []) clash
    ∷ []

pub examples_joined : map (λ (c : Case). joined c.first c.second) table ≡ map (λ (c : Case). c.joins) table
unfolding joined joined_by verdict told asked asks cell_in tested every agrees_in agree on_sheet union new_by kept is_found
examples_joined = refl
