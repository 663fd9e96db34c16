-- Two frames with the same corners in another order: the pairing of the corners' numbers, and sheets that hold paired corners
-- and equal marks. Definitions only.
use Rattle.std.specs.Prelude.{◌≡◌, List, ℕ, ◌<◌, length, get_or, Option, Some, None}
use Rattle.sizes.specs.Sizes.{place_count}
use Rattle.sheet.specs.Words.{label_of, hole_of, ambiguous_of}
use Rattle.sheet.specs.Corners.{CornerLists, corner_of}

-- the numbers below n, paired one to one: `to` from the first frame to the second, `from` back
pub record Shuffle (n : ℕ) : Type 0 where
  pub to : ℕ → ℕ
  pub from : ℕ → ℕ
  pub to_in : (i : ℕ) → i < n → to i < n
  pub from_in : (j : ℕ) → j < n → from j < n
  pub from_to_holds : (i : ℕ) → i < n → from (to i) ≡ i
  pub to_from : (j : ℕ) → j < n → to (from j) ≡ j

-- the label that names the paired corner
unfoldable pub paired_label : {n : ℕ} → Shuffle n → Option ℕ → Option ℕ
paired_label s None = None
paired_label s (Some k) = Some (s.to k)

-- the corners of two frames: lists of equal lengths, and each corner of the first has an equal one, its pair, in the second
pub record PairedCorners (l l' : CornerLists) : Type 0 where
  pub same_xs : length l'.xs ≡ length l.xs
  pub same_ys : length l'.ys ≡ length l.ys
  pub same_pitches : length l'.pitches ≡ length l.pitches
  pub pairs : Shuffle (length l.xs)
  pub same_corner_holds : (i : ℕ) → i < length l.xs → corner_of l' (pairs.to i) ≡ corner_of l i

-- two sheets of equal length: each place of the second holds the pair of what the first holds, and equal marks
pub record PairedSheets {n : ℕ} (s : Shuffle n) (sheet sheet' : List ℕ) : Type 0 where
  pub same_length : length sheet' ≡ length sheet
  pub labels : (p : ℕ) → p < place_count → label_of (get_or sheet' p 0) ≡ paired_label s (label_of (get_or sheet p 0))
  pub holes : (p : ℕ) → p < place_count → hole_of (get_or sheet' p 0) ≡ hole_of (get_or sheet p 0)
  pub ambiguous : (p : ℕ) → p < place_count → ambiguous_of (get_or sheet' p 0) ≡ ambiguous_of (get_or sheet p 0)
