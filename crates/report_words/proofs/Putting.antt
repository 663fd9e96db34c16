-- Outcomes put at their places: what is read again, there and at the places before. Assumes nothing.
use mathlib.Core.Path.{◌≡◌, refl, ap, ap₂, ◌∙◌}
use mathlib.Core.List.{List, [], ◌∷◌, ◌++◌}
use Prim.Native.Nat.{ℕ, zero, suc, ◌+◌, ◌*◌, ◌≤◌, ◌<◌}
use native.Mathlib.Omega.{arith}
use lib.ListN.{take, drop, get_or-append}
use lib.Seq.{length-take-le, get_or-take}
use Rattle.passes.specs.declared.PassStats.{PassStats}
use Rattle.roles.specs.declared.Role.{Role}
use Rattle.role_counts.specs.RoleCounts.{RoledStats}
use Rattle.sizes.specs.Sizes.{outcome_size}
use Rattle.report_words.specs.Outcomes.{outcome_words, word_at, stats_at, outcome_at, outcomes_from, outcomes_in}
use Rattle.report_words.specs.Asked.{HasOutcome, with_outcome, IsFloat}
use Rattle.report_words.proofs.Outcomes.{decode_encode}

-- ---- what is read again

same_words : (a b : List ℕ) (k : ℕ) → ((m : ℕ) → m < outcome_size → word_at a k m ≡ word_at b k m) → outcome_at a k ≡ outcome_at b k
unfolding stats_at
same_words a b k h = rw (h 0 (omega arith), h 1 (omega arith), h 2 (omega arith), h 3 (omega arith), h 4 (omega arith), h 5 (omega arith), h 6 (omega arith), h 7 (omega arith), h 8 (omega arith), h 9 (omega arith), h 10 (omega arith), h 11 (omega arith))

same_outcomes : (a b : List ℕ) (k n : ℕ) → ((j : ℕ) → k ≤ j → j < k + n → outcome_at a j ≡ outcome_at b j) → outcomes_from a k n ≡ outcomes_from b k n
unfolding outcomes_from
same_outcomes a b k zero h = refl
same_outcomes a b k (suc n) h = ap₂ ◌∷◌ (h k (omega arith) (omega arith)) (same_outcomes a b (suc k) n (λ j l m. h j (omega arith) (omega arith)))

pub last_outcome : (words : List ℕ) (k n j : ℕ) → j ≡ k + n → outcomes_from words k (suc n) ≡ outcomes_from words k n ++ (outcome_at words j ∷ [])
unfolding outcomes_from
last_outcome words k zero j e = let d : k ≡ j = omega arith in ap (λ (i : ℕ). outcome_at words i ∷ []) d
last_outcome words k (suc n) j e = ap (λ (l : List RoledStats). outcome_at words k ∷ l) (last_outcome words (suc k) n j (omega arith))

module _ (words : List ℕ) (k : ℕ) (r : Role) (s : PassStats) (h : HasOutcome words k) where
  -- at its place the outcome is read again, if its residual is a value of binary32 or none
  pub put_read : IsFloat s → outcome_at (with_outcome words k r s) k ≡ record { role = r; stats = s }
  put_read f = let d = h.there in decode_encode (take (outcome_size * k) words) (drop (outcome_size * k + outcome_size) words) k r s (length-take-le (outcome_size * k) words (omega arith)) f

  -- and at the places before what was read there
  pub put_before_lem : (j : ℕ) → j < k → outcome_at (with_outcome words k r s) j ≡ outcome_at words j
  put_before_lem j l = same_words (with_outcome words k r s) words j (λ m b. word m b)
    where
      word : (m : ℕ) → m < outcome_size → word_at (with_outcome words k r s) j m ≡ word_at words j m
      word m b =
          let d = h.there in
          let e = length-take-le (outcome_size * k) words (omega arith) in
          get_or-append (take (outcome_size * k) words) (outcome_words r s ++ drop (outcome_size * k + outcome_size) words) 0 (outcome_size * j + m) (omega arith)
          ∙ get_or-take (outcome_size * k) words (outcome_size * j + m) 0 (omega arith)

  -- so an outcome put behind k others is the last of one more
  pub put_last : IsFloat s → outcomes_in (suc k) (with_outcome words k r s) ≡ outcomes_in k words ++ (record { role = r; stats = s } ∷ [])
  put_last f =
      last_outcome (with_outcome words k r s) 0 k k (omega arith)
      ∙ ap₂ (λ (l : List RoledStats) (t : RoledStats). l ++ (t ∷ [])) (same_outcomes (with_outcome words k r s) words 0 k (λ j l m. put_before_lem j (omega arith))) (put_read f)
