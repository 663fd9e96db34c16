-- Lines that are as long as others: with numbers that a line can hold, each of as many digits. Definitions only; `proofs/Like.antt` has the laws.
use Rattle.std.specs.Prelude.{◌≡◌, true, ℕ, ◌≤◌, length, Option, None, Some, Float}
use Rattle.binary32.specs.Ranges.{is_finite}
use Rattle.line_form.specs.Integers.{decimal}
use Rattle.passes.specs.declared.Counts.{Counts}
use Rattle.passes.specs.declared.GrowStats.{GrowStats}
use Rattle.passes.specs.declared.FillStats.{FillStats}
use Rattle.passes.specs.declared.LocalStats.{LocalStats}
use Rattle.passes.specs.declared.PassStats.{PassStats}
use Rattle.report_line.specs.Written.{largest_held}

-- a number that a line can hold, of as many digits as n
pub record Like (n r : ℕ) : Type 0 where
  pub held : r ≤ largest_held
  pub digits : length (decimal r) ≡ length (decimal n)

pub record CountsLike (c r : Counts) : Type 0 where
  pub attached : Like c.attached r.attached
  pub no_candidate : Like c.rejected_no_candidate r.rejected_no_candidate
  pub ambiguous : Like c.rejected_ambiguous r.rejected_ambiguous
  pub edge : Like c.rejected_edge r.rejected_edge

-- a finite residual for a residual, and none for none
abbrev pub ResidualLike : Option Float → Option Float → Type 0
ResidualLike None None = Unit {0}
ResidualLike None (Some y) = ⊥
ResidualLike (Some x) None = ⊥
ResidualLike (Some x) (Some y) = is_finite y ≡ true

-- a count for a count, and none for none
abbrev pub UnmatchedLike : Option ℕ → Option ℕ → Type 0
UnmatchedLike None None = Unit {0}
UnmatchedLike None (Some m) = ⊥
UnmatchedLike (Some n) None = ⊥
UnmatchedLike (Some n) (Some m) = Like n m

pub record GrowLike (s r : GrowStats) : Type 0 where
  pub counts : CountsLike s.counts r.counts
  pub rim : r.rim ≡ s.rim

pub record FillLike (s r : FillStats) : Type 0 where
  pub added : Like s.added r.added
  pub rounds : Like s.iterations r.iterations
  pub rim : r.rim ≡ s.rim

pub record LocalLike (s r : LocalStats) : Type 0 where
  pub counts : CountsLike s.counts r.counts
  pub rounds : Like s.iterations r.iterations
  pub residual : ResidualLike s.residual r.residual
  pub rim : r.rim ≡ s.rim
  pub unmatched : UnmatchedLike s.unmatched r.unmatched

-- what a pass answers, of the same pass
abbrev pub StatsLike : PassStats → PassStats → Type 0
StatsLike (PassStats.Grow s) (PassStats.Grow r) = GrowLike s r
StatsLike (PassStats.Grow s) (PassStats.Fill r) = ⊥
StatsLike (PassStats.Grow s) (PassStats.Local r) = ⊥
StatsLike (PassStats.Fill s) (PassStats.Grow r) = ⊥
StatsLike (PassStats.Fill s) (PassStats.Fill r) = FillLike s r
StatsLike (PassStats.Fill s) (PassStats.Local r) = ⊥
StatsLike (PassStats.Local s) (PassStats.Grow r) = ⊥
StatsLike (PassStats.Local s) (PassStats.Fill r) = ⊥
StatsLike (PassStats.Local s) (PassStats.Local r) = LocalLike s r
