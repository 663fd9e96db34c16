-- What the functions on an outcome's words ask, and outcomes put at their places. Definitions only.
use Rattle.std.specs.Prelude.{◌≡◌, true, List, ◌++◌, ℕ, ◌+◌, ◌*◌, ◌≤◌, ◌<◌, length, take, drop, T, Option, None, Some, Float, Ok, Err}
use Rattle.std.specs.Float.{binary32}
use Rattle.std.specs.Float.Ieee.{of_bits, to_bits, fits}
use Rattle.binary32.specs.Ranges.{is_finite}
use Rattle.passes.specs.declared.Counts.{Counts}
use Rattle.passes.specs.declared.GrowStats.{GrowStats}
use Rattle.passes.specs.declared.FillStats.{FillStats}
use Rattle.passes.specs.declared.LocalStats.{LocalStats}
use Rattle.passes.specs.declared.PassStats.{PassStats}
use Rattle.passes.specs.Outcome.{Answer}
use Rattle.roles.specs.declared.Role.{Role}
use Rattle.role_counts.specs.RoleCounts.{AtMost}
use Rattle.role_counts.specs.declared.RoleCounts.{RoleCounts}
use Rattle.sizes.specs.Sizes.{outcome_size}
use Rattle.report_words.specs.Outcomes.{outcome_words, word_at, counts_at, yes_at, residual_at, unmatched_at, largest_count, largest_unmatched}

-- ---- outcomes

-- what outcome k says as one of grow, of fill, of local
abbrev pub grow_at : List ℕ → ℕ → GrowStats
grow_at words k = record { counts = counts_at words k; rim = yes_at words k 8 }

abbrev pub fill_at : List ℕ → ℕ → FillStats
fill_at words k = record { added = word_at words k 1; iterations = word_at words k 5; rim = yes_at words k 8 }

abbrev pub local_at : List ℕ → ℕ → LocalStats
local_at words k =
    record { counts = counts_at words k; iterations = word_at words k 5; residual = residual_at words k; rim = yes_at words k 8; unmatched = unmatched_at words k }

-- the twelve words of outcome k are there
pub record HasOutcome (words : List ℕ) (k : ℕ) : Type 0 where
  pub there : outcome_size * k + outcome_size ≤ length words

-- and they are those that an outcome has
pub record Tame (words : List ℕ) (k : ℕ) : Type 0 where
  pub kind : word_at words k 0 ≤ 2
  pub attached : word_at words k 1 ≤ largest_count
  pub no_candidate : word_at words k 2 ≤ largest_count
  pub ambiguous : word_at words k 3 ≤ largest_count
  pub edge : word_at words k 4 ≤ largest_count
  pub rounds : word_at words k 5 ≤ 64
  pub flag : word_at words k 6 ≤ 1
  pub finite : word_at words k 6 ≡ 1 → is_finite (of_bits binary32 (word_at words k 7)) ≡ true
  pub rim : word_at words k 8 ≤ 1
  pub shades : word_at words k 9 ≤ 1
  pub unmatched : word_at words k 9 ≡ 1 → word_at words k 10 ≤ largest_unmatched
  pub unshaded : word_at words k 9 ≡ 0 → word_at words k 10 ≡ 0
  pub local_alone : word_at words k 9 ≡ 1 → word_at words k 0 ≡ 2
  pub role : word_at words k 11 ≤ 2

pub record TameOutcome (words : List ℕ) (k : ℕ) : Type 0 where
  pub has : HasOutcome words k
  pub tame : Tame words k

-- ---- an outcome put at its place

-- the words with twelve put at the place of outcome k, the others as they were; and with an outcome
abbrev pub put : List ℕ → ℕ → List ℕ → List ℕ
put words k twelve = take (outcome_size * k) words ++ (twelve ++ drop (outcome_size * k + outcome_size) words)

abbrev pub with_outcome : List ℕ → ℕ → Role → PassStats → List ℕ
with_outcome words k r s = put words k (outcome_words r s)

-- the two words of a residual
abbrev pub flag_of : Option Float → ℕ
flag_of None = 0
flag_of (Some x) = 1

abbrev pub bits_of : Option Float → ℕ
bits_of None = 0
bits_of (Some x) = to_bits binary32 x

-- the two words of unmatched
abbrev pub shade_flag : Option ℕ → ℕ
shade_flag None = 0
shade_flag (Some n) = 1

abbrev pub unmatched_word : Option ℕ → ℕ
unmatched_word None = 0
unmatched_word (Some n) = n

-- a count as a word
abbrev pub FitsWord : ℕ → Type 0
FitsWord n = n < 4294967296

pub record CountsFit (c : Counts) : Type 0 where
  pub attached : FitsWord c.attached
  pub no_candidate : FitsWord c.rejected_no_candidate
  pub ambiguous : FitsWord c.rejected_ambiguous
  pub edge : FitsWord c.rejected_edge

pub record FillFits (s : FillStats) : Type 0 where
  pub added : FitsWord s.added
  pub rounds : FitsWord s.iterations

-- counts that are words
abbrev pub SumsFit : RoleCounts → Type 0
SumsFit c = AtMost 4294967295 c

abbrev pub UnmatchedFits : Option ℕ → Type 0
UnmatchedFits None = Unit {0}
UnmatchedFits (Some n) = FitsWord n

pub record LocalFits (s : LocalStats) : Type 0 where
  pub counts : CountsFit s.counts
  pub rounds : FitsWord s.iterations
  pub unmatched : UnmatchedFits s.unmatched

-- what a pass answers has counts that are words
abbrev pub AnswerFits : Answer PassStats → Type 0
AnswerFits (Ok (PassStats.Grow s)) = CountsFit s.counts
AnswerFits (Ok (PassStats.Fill s)) = FillFits s
AnswerFits (Ok (PassStats.Local s)) = LocalFits s
AnswerFits (Err r) = Unit {0}

-- the words with the outcome of an answer to a role; a refused call has none
abbrev pub with_answer : List ℕ → ℕ → Role → Answer PassStats → List ℕ
with_answer words k r (Ok s) = with_outcome words k r s
with_answer words k r (Err e) = words

-- a residual, if there is one, is a value of binary32
abbrev pub FloatOrNone : Option Float → Type 0
FloatOrNone None = Unit {0}
FloatOrNone (Some x) = T (fits binary32 x)

abbrev pub IsFloat : PassStats → Type 0
IsFloat (PassStats.Grow s) = Unit {0}
IsFloat (PassStats.Fill s) = Unit {0}
IsFloat (PassStats.Local s) = FloatOrNone s.residual
