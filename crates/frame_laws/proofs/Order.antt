-- The order of lines, by tests of the table that antt computes over all stages and rows: the first four lines, and what comes no more after
-- them. Assumes nothing.
use mathlib.Core.Path.{◌≡◌, refl, sym, ap, ◌∙◌}
use mathlib.Core.Bool.{Bool, true, false, not, true≢false, cond}
use mathlib.Core.Logic.{⊎_elim}
use Prim.Native.Nat.{ℕ, suc, ◌<◌, ◌≤◌}
use native.Mathlib.Omega.{arith}
use borrow.Author.Tests.{eqb-true, lt-ltb, le-ltb, ltb-true, not-true}
use lib.Dec.{eqb, ltb}
use lib.ListN.{take, drop, length-take, get_or-eq_default}
use Rattle.labels.specs.Labelled.{any_below}
use Rattle.labels.proofs.Below.{any_hit}
use Rattle.line_form.proofs.Every.{first_true, second_true, every_below, every_at}
use Rattle.frame_line.specs.Table.{rows, row_count, stage_count, letters_from, row_at, kind_at, turn_at, may_end, sort_of, sort_at}
use Rattle.frame_line.specs.declared.Kind.{Kind}
use Rattle.frame_line.specs.declared.Sort.{Sort}
use Rattle.std.proofs.Common.{Option, None, Some}
use Rattle.frame_line.proofs.Checking.{no_stage}
use Rattle.frame.specs.Frame.{part_of}
use Rattle.frame.proofs.Adding.{below_or_not}

-- a line that changes the opening; one that adds a corner
abbrev pub opens : Kind → Bool
opens k = eqb (part_of k) 0

abbrev pub is_corner : Kind → Bool
is_corner k = eqb (part_of k) 1

-- a number that asks for a corner; a row with such a number
abbrev is_corner_sort : Option Sort → Bool
is_corner_sort None = false
is_corner_sort (Some (Sort.Float q)) = false
is_corner_sort (Some (Sort.Whole r low high)) = false
is_corner_sort (Some Sort.Corner) = true

pub no_sort : (k m : ℕ) → 5 ≤ m → sort_at k m ≡ None
unfolding sort_at sort_of
no_sort k m l = ap sort_of (get_or-eq_default (take 5 (drop letters_from (row_at k))) 46 {n = m} (simp length-take (omega arith)))

asks : ℕ → Bool
asks k = any_below 5 (λ m. is_corner_sort (sort_at k m))

-- a sort stands in one of five places
asks_one : (k m : ℕ) → sort_at k m ≡ Some Sort.Corner → asks k ≡ true
unfolding asks
asks_one k m e =
    ⊎_elim (λ h. any_hit (λ i. is_corner_sort (sort_at k i)) 5 m h (ap is_corner_sort e))
    (λ h. absurd (true≢false (sym (ap is_corner_sort e) ∙ ap is_corner_sort (no_sort k m h)))) (below_or_not m 5)

-- ---- rules of the table: what holds of every stage, row and next stage

abbrev by_turn : (ℕ → Bool) → Option ℕ → Bool
by_turn g None = true
by_turn g (Some t) = g t

abbrev pub rule : (ℕ → ℕ → ℕ → Bool) → Bool
rule f = every_below stage_count (λ s. every_below row_count (λ k. by_turn (f s k) (turn_at s k)))

pub ruled : (f : ℕ → ℕ → ℕ → Bool) → rule f ≡ true → (s k t : ℕ) → k < row_count → turn_at s k ≡ Some t → f s k t ≡ true
ruled f r s k t few e =
    ap (by_turn (f s k)) (sym e)
    ∙ every_at (λ j. by_turn (f s j) (turn_at s j)) row_count (every_at (λ i. every_below row_count (λ j. by_turn (f i j) (turn_at i j))) stage_count r s inside) k few
  where
    inside : s < stage_count
    inside = ⊎_elim (λ h. h) (λ h. let n = no_stage s k h in absurd (let z : ◌≡◌ {A = ℕ} 0 1 = cc in omega arith)) (below_or_not s stage_count)

-- up to stage 3 the line of that row must come, and from stage 4 on no line opens
opening_rule : ℕ → ℕ → ℕ → Bool
opening_rule s k t = cond (ltb s 4) (cond (eqb k s) (eqb t (suc s)) false) (cond (ltb 3 t) (not (opens (kind_at k))) false)

opening_rule_lem : rule opening_rule ≡ true
unfolding opening_rule kind_at turn_at row_at rows
opening_rule_lem = refl

-- once a corner was asked for, and from stage 5 on, no corner comes
corner_no_more : ℕ → ℕ → ℕ → Bool
corner_no_more s k t = cond (cond (ltb 4 s) true (asks k)) (cond (ltb 4 t) (not (is_corner (kind_at k))) false) true

corner_no_more_lem : rule corner_no_more ≡ true
unfolding corner_no_more asks any_below kind_at turn_at sort_at sort_of row_at rows
corner_no_more_lem = refl

module _ (s k t : ℕ) (few : k < row_count) (e : turn_at s k ≡ Some t) where
  pub comes : s < 4 → (k ≡ s) × (t ≡ suc s)
  unfolding opening_rule
  comes h =
      let a = rw (lt-ltb s 4 h) at (ruled opening_rule opening_rule_lem s k t few e) in
      (eqb-true k s (first_true (eqb k s) (eqb t (suc s)) a), eqb-true t (suc s) (second_true (eqb k s) (eqb t (suc s)) a))

  pub later_opens : 4 ≤ s → (4 ≤ t) × (opens (kind_at k) ≡ false)
  unfolding opening_rule
  later_opens h =
      let a = rw (le-ltb s 4 h) at (ruled opening_rule opening_rule_lem s k t few e) in
      (ltb-true 3 t (first_true (ltb 3 t) _ a), not-true (opens (kind_at k)) (second_true (ltb 3 t) (not (opens (kind_at k))) a))

  later_corner : cond (ltb 4 s) true (asks k) ≡ true → (4 < t) × (is_corner (kind_at k) ≡ false)
  unfolding corner_no_more
  later_corner h =
      let a = rw h at (ruled corner_no_more corner_no_more_lem s k t few e) in
      (ltb-true 4 t (first_true (ltb 4 t) _ a), not-true (is_corner (kind_at k)) (second_true (ltb 4 t) (not (is_corner (kind_at k))) a))

  pub past_corners : 4 < s → (4 < t) × (is_corner (kind_at k) ≡ false)
  past_corners h = later_corner (rw (lt-ltb 4 s h))

  pub asked_corner : (m : ℕ) → sort_at k m ≡ Some Sort.Corner → (4 < t) × (is_corner (kind_at k) ≡ false)
  asked_corner m c = later_corner (go (ltb 4 s))
    where
      go : (x : Bool) → cond x true (asks k) ≡ true
      go true = refl
      go false = asks_one k m c

-- ---- the first four lines

no_early : every_below 4 (λ s. not (may_end s)) ≡ true
unfolding may_end
no_early = refl

-- a frame ends after them
pub ends_late : (s : ℕ) → may_end s ≡ true → 4 ≤ s
ends_late s e = ⊎_elim (λ h. absurd (true≢false (sym e ∙ not-true (may_end s) (every_at (λ i. not (may_end i)) 4 no_early s h)))) (λ h. h) (below_or_not s 4)
