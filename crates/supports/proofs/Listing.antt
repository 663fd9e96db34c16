-- The labelled places listed, one after the other as the walk over the places that hold something gives them. Assumes nothing.
use mathlib.Core.Path.{◌≡◌, sym, ap, ◌∙◌}
use mathlib.Core.List.{List, [], ◌∷◌, ◌++◌, map}
use Prim.Native.Nat.{ℕ, ◌<◌}
use native.Mathlib.Omega.{arith}
use lib.ListN.{length, set}
use Rattle.std.specs.List.{filter}
use Rattle.std.proofs.lemmas.List.{length-map, map-append}
use Rattle.sheet.specs.Blank.{written_from}
use Rattle.labels.specs.Labelled.{is_labelled}
use Rattle.labels.proofs.Labelled.{labels_walked, count_walked}
use Rattle.passes.proofs.Over.{over_more}
use Rattle.arguments.specs.Front.{over}
use Rattle.supports.specs.Nearest.{Gathered}

-- the places of a walk
abbrev pub places_in : List (ℕ × ℕ) → List ℕ
places_in = map (λ e. e.0)

-- one more is listed
pub listed_more : (before places : List ℕ) (l : List (ℕ × ℕ)) (e : ℕ × ℕ) (count : ℕ) → count ≡ length l → places ≡ over (places_in l) before → count < length before
    → set places count e.0 ≡ over (places_in (l ++ (e ∷ []))) before
listed_more before places l e count n p h =
    let m : length (places_in l) ≡ count = length-map l (λ (x : ℕ × ℕ). x.0) ∙ sym n in
    ap (λ (b : List ℕ). set b count e.0) p
    ∙ ap (λ (k : ℕ). set (over (places_in l) before) k e.0) (sym m)
    ∙ over_more (places_in l) before e.0 (omega (arith, m))
    ∙ ap (λ (q : List ℕ). over q before) (sym (map-append (λ (x : ℕ × ℕ). x.0) l (e ∷ [])))

-- all are listed
pub listed_all : (sheet before places : List ℕ) (l : List (ℕ × ℕ)) (count : ℕ) → count ≡ length l → places ≡ over (places_in l) before
    → l ≡ filter (λ e. is_labelled e.1) (written_from sheet 0) → Gathered sheet before places count
listed_all sheet before places l count n p e =
    record {
      count_is = n ∙ ap length e ∙ count_walked sheet;
      places_are = p ∙ ap (λ (q : List (ℕ × ℕ)). over (places_in q) before) e ∙ ap (λ (q : List ℕ). over q before) (labels_walked sheet);
    }
