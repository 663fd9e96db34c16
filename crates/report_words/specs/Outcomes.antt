-- Outcomes of passes as words, as they are lent to the calls that write a result's text. Definitions only.
use Rattle.std.specs.Prelude.{Bool, not, ◌&&◌, ◌||◌, cond, List, [], ◌∷◌, ℕ, zero, suc, ◌+◌, ◌*◌, ltb, eqb, get_or, Option, None, Some, Float}
use Rattle.std.specs.Float.{binary32}
use Rattle.std.specs.Float.Ieee.{to_bits, of_bits}
use Rattle.binary32.specs.Ranges.{is_finite}
use Rattle.sheet.specs.Words.{bit_of}
use Rattle.passes.specs.declared.Counts.{Counts}
use Rattle.passes.specs.declared.PassStats.{PassStats}
use Rattle.roles.specs.Roles.{role_number, role_numbered}
use Rattle.roles.specs.declared.Role.{Role}
use Rattle.role_counts.specs.RoleCounts.{RoledStats}
use Rattle.sizes.specs.Sizes.{outcome_size}

-- ---- an outcome as twelve words: kind (0 grow, 1 fill, 2 local), attached or added, no candidate, ambiguous, edge, rounds, 1 if there is a residual
-- and else 0, its bits, 1 for rim yes and 0 for no, 1 if any shade stands and else 0, unmatched, the role that ran the pass (0 plant, 1 depot, 2
-- dealer); 0 for what the pass has not

abbrev pub residual_words : Option Float → List ℕ → List ℕ
residual_words None rest = 0 ∷ 0 ∷ rest
residual_words (Some x) rest = 1 ∷ to_bits binary32 x ∷ rest

abbrev pub unmatched_words : Option ℕ → List ℕ → List ℕ
unmatched_words None rest = 0 ∷ 0 ∷ rest
unmatched_words (Some n) rest = 1 ∷ n ∷ rest

unfoldable pub outcome_words : Role → PassStats → List ℕ
outcome_words r (PassStats.Grow s) =
    0 ∷ s.counts.attached ∷ s.counts.rejected_no_candidate ∷ s.counts.rejected_ambiguous ∷ s.counts.rejected_edge ∷ 0 ∷ 0 ∷ 0 ∷ bit_of s.rim
    ∷ 0 ∷ 0 ∷ role_number r ∷ []
outcome_words r (PassStats.Fill s) = 1 ∷ s.added ∷ 0 ∷ 0 ∷ 0 ∷ s.iterations ∷ 0 ∷ 0 ∷ bit_of s.rim ∷ 0 ∷ 0 ∷ role_number r ∷ []
outcome_words r (PassStats.Local s) =
    2 ∷ s.counts.attached ∷ s.counts.rejected_no_candidate ∷ s.counts.rejected_ambiguous ∷ s.counts.rejected_edge ∷ s.iterations
    ∷ residual_words s.residual (bit_of s.rim ∷ unmatched_words s.unmatched (role_number r ∷ []))

-- word m of outcome k
abbrev pub word_at : List ℕ → ℕ → ℕ → ℕ
word_at words k m = get_or words (outcome_size * k + m) 0

abbrev pub counts_at : List ℕ → ℕ → Counts
counts_at words k =
    record { attached = word_at words k 1; rejected_no_candidate = word_at words k 2; rejected_ambiguous = word_at words k 3; rejected_edge = word_at words k 4 }

abbrev pub yes_at : List ℕ → ℕ → ℕ → Bool
yes_at words k m = not (eqb (word_at words k m) 0)

abbrev pub residual_at : List ℕ → ℕ → Option Float
residual_at words k = cond (yes_at words k 6) (Some (of_bits binary32 (word_at words k 7))) None

abbrev pub unmatched_at : List ℕ → ℕ → Option ℕ
unmatched_at words k = cond (yes_at words k 9) (Some (word_at words k 10)) None

abbrev pub role_at : List ℕ → ℕ → Role
role_at words k = role_numbered (word_at words k 11)

-- what outcome k says of its pass
unfoldable pub stats_at : List ℕ → ℕ → PassStats
stats_at words k =
    cond (eqb (word_at words k 0) 0) (PassStats.Grow (record { counts = counts_at words k; rim = yes_at words k 8 }))
    (cond (eqb (word_at words k 0) 1) (PassStats.Fill (record { added = word_at words k 1; iterations = word_at words k 5; rim = yes_at words k 8 }))
    (PassStats.Local
    (record { counts = counts_at words k; iterations = word_at words k 5; residual = residual_at words k; rim = yes_at words k 8; unmatched = unmatched_at words k })))

-- and who ran it
abbrev pub outcome_at : List ℕ → ℕ → RoledStats
outcome_at words k = record { role = role_at words k; stats = stats_at words k }

-- the outcomes from number k on, n of them
unfoldable pub outcomes_from : List ℕ → ℕ → ℕ → List RoledStats
outcomes_from words k zero = []
outcomes_from words k (suc n) = outcome_at words k ∷ outcomes_from words (suc k) n

abbrev pub outcomes_in : ℕ → List ℕ → List RoledStats
outcomes_in passes words = outcomes_from words 0 passes

-- ---- an outcome that is none

-- no count is above 64 rounds of 16,384 cells, no number of rounds above 64, unmatched not above 64 rounds of 16,384 cells of 1,024 corners, and a
-- residual is finite; kind, residual flag, rim and role are those that an outcome has
abbrev pub largest_count : ℕ
largest_count = 1048576

abbrev pub largest_unmatched : ℕ
largest_unmatched = 1073741824

unfoldable pub wild_counts : List ℕ → ℕ → Bool
wild_counts words k =
    ltb largest_count (word_at words k 1) || (ltb largest_count (word_at words k 2) || (ltb largest_count (word_at words k 3) || ltb largest_count (word_at words k 4)))

unfoldable pub wild_residual : List ℕ → ℕ → Bool
wild_residual words k = ltb 1 (word_at words k 6) || (eqb (word_at words k 6) 1 && not (is_finite (of_bits binary32 (word_at words k 7))))

-- the word for shades is 0 or 1, and 0 where the pass is no local; where it is 0, so is unmatched
unfoldable pub wild_unmatched : List ℕ → ℕ → Bool
wild_unmatched words k =
    ltb 1 (word_at words k 9)
    || cond (eqb (word_at words k 9) 0) (not (eqb (word_at words k 10) 0)) (not (eqb (word_at words k 0) 2) || ltb largest_unmatched (word_at words k 10))

unfoldable pub wild_outcome : List ℕ → ℕ → Bool
wild_outcome words k =
    ltb 2 (word_at words k 0)
    || (wild_counts words k || (ltb 64 (word_at words k 5) || (wild_residual words k || (ltb 1 (word_at words k 8) || (wild_unmatched words k || ltb 2 (word_at words k 11))))))
