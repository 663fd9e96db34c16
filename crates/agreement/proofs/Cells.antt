-- Paired sheets have the same cells labelled, so a round lists the same cells on both. Assumes nothing.
use mathlib.Core.Path.{◌≡◌, ap₂, fun_ext}
use mathlib.Core.Bool.{Bool}
use mathlib.Core.List.{List}
use Prim.Native.Nat.{ℕ}
use Rattle.sheet.specs.Words.{label_at}
use Rattle.sheet.specs.Pairing.{Shuffle, PairedSheets}
use Rattle.sheet.specs.declared.Cell.{Cell}
use Rattle.labels.specs.Labelled.{names_corner, is_labelled}
use Rattle.labels.proofs.Pairing.{paired_labelled}
use Rattle.passes.specs.Fill.{cells_of}
use Rattle.invariants.proofs.Extended.{by_cell}

module _ {n : ℕ} {s : Shuffle n} {sheet sheet' : List ℕ} (paired : PairedSheets s sheet sheet') where
  -- a cell is labelled on both or on neither
  pub names_same : (c : Cell) → names_corner (label_at sheet' c) ≡ names_corner (label_at sheet c)
  unfolding is_labelled
  names_same c = by_cell names_corner sheet sheet' (paired_labelled paired).same_place c

  pub labelled_same : ◌≡◌ {A = Cell → Bool} (λ c. names_corner (label_at sheet' c)) (λ c. names_corner (label_at sheet c))
  labelled_same = fun_ext names_same

  -- the unlabelled cells of a region
  pub cells_same : (region region' : Cell → Bool) → region' ≡ region → cells_of region' (λ c. names_corner (label_at sheet' c)) ≡ cells_of region (λ c. names_corner (label_at sheet c))
  cells_same region region' e = ap₂ cells_of e labelled_same
