-- Trying a cell finds the same in both frames, through the pairing, where the factor is above 1; and as many corners are passed over. Assumes nothing.
use mathlib.Core.Path.{◌≡◌, refl, ap, ap₂, ◌∙◌}
use mathlib.Core.Bool.{Bool, true, false, not, ◌&&◌, cond}
use mathlib.Core.List.{List}
use Prim.Native.Nat.{ℕ, ◌<◌, ◌≤◌}
use lib.Dec.{T}
use lib.ListN.{length}
use lib.Ieee.{Float, lt}
use lib.Ieee.Scale.{finite}
use Rattle.std.specs.Prelude.{Ok, Err}
use Rattle.sheet.specs.Shades.{kind_at, takes}
use Rattle.sheet.specs.Corners.{CornerLists, corner_of, seen_of, Given}
use Rattle.sheet.specs.Pairing.{PairedCorners, PairedSheets}
use Rattle.sheet.specs.declared.Cell.{Cell}
use Rattle.sheet.specs.declared.Corner.{Corner}
use Rattle.sheet.specs.declared.Position.{Position}
use Rattle.labels.proofs.Pairing.{paired_used}
use Rattle.candidates.specs.Candidates.{squared_radius, eligible, candidates_at, first_two}
use Rattle.candidates.specs.Choice.{CandidateChoice, renumbered}
use Rattle.candidates.proofs.Pairing.{paired_unambiguous, paired_with_floor}
use Rattle.positions_policy.specs.Edge.{verdict_of, passes}
use Rattle.positions_policy.specs.declared.Tolerances.{Tolerances}
use Rattle.positions_policy.proofs.Laws.{verdict_paired}
use Rattle.arguments.specs.Shades.{shades_of, corners_of, PairedShades}
use Rattle.arguments.proofs.Pairing.{paired_takes}
use Rattle.passed_over.proofs.Laws.{paired_passed_over}
use Rattle.extension_common.specs.TryCell.{TryCellResult, unlabelled_on, gathered, unmatched, choice_by, edges_of, result_of, try_at}
use Rattle.extension_common.specs.declared.ChoiceRule.{ChoiceRule}
use Rattle.extension_common.specs.declared.Search.{Search}
use Rattle.extension_common.specs.declared.NotAttached.{NotAttached}
use Rattle.extension_common.proofs.Laws.{chosen}
use Rattle.binary32.specs.Numbers.{one}

-- what is found, with the paired corner
unfoldable pub paired_result : (ℕ → ℕ) → TryCellResult → TryCellResult
paired_result to (Err e) = Err e
paired_result to (Ok k) = Ok (to k)

module _ (l l' : CornerLists) (corners : PairedCorners l l') (shades shades' : List ℕ) (kinds : PairedShades corners.pairs shades shades')
    (long : length l.xs ≤ length shades) (sheet sheet' : List ℕ) (paired : PairedSheets corners.pairs sheet sheet') (given : Given (length l.xs) sheet) where
  abbrev position : ℕ → Position
  position k = (corner_of l k).position

  abbrev position' : ℕ → Position
  position' k = (corner_of l' k).position

  place : (i : ℕ) → i < length l.xs → position' (corners.pairs.to i) ≡ position i
  place i h = ap (λ (k : Corner). k.position) (corners.same_corner_holds i h)

  label : (i : ℕ) → i < length l.xs → unlabelled_on sheet' (corners.pairs.to i) ≡ unlabelled_on sheet i
  label i h = ap not (paired_used paired given.known i h)

  -- a cell takes both corners of a pair or neither
  abbrev taken : Cell → ℕ → Bool
  taken c = takes (shades_of shades (length l.xs)) c

  abbrev taken' : Cell → ℕ → Bool
  taken' c = takes (shades_of shades' (length l.xs)) c

  same_taken : (c : Cell) (i : ℕ) → i < length l.xs → taken' c (corners.pairs.to i) ≡ taken c i
  same_taken c i h = paired_takes corners.pairs kinds long (kind_at c) i h

  -- so both may be candidates or neither
  abbrev may : Cell → ℕ → Bool
  may c = eligible (unlabelled_on sheet) (taken c)

  abbrev may' : Cell → ℕ → Bool
  may' c = eligible (unlabelled_on sheet') (taken' c)

  same_may : (c : Cell) (i : ℕ) → i < length l.xs → may' c (corners.pairs.to i) ≡ may c i
  unfolding eligible
  same_may c i h = ap₂ (λ (a b : Bool). a && b) (label i h) (same_taken c i h)

  -- either rule chooses the paired corner
  choice_paired : (rule : ChoiceRule) (radius factor : Float) (c : Cell) (p : Position) → T (finite (squared_radius radius)) → lt one factor ≡ true
      → choice_by rule (gathered (corners_of l' shades') sheet' radius c p) factor ≡ renumbered corners.pairs.to (choice_by rule (gathered (corners_of l shades) sheet radius c p) factor)
  unfolding choice_by gathered
  choice_paired rule radius factor c p small above = rw corners.same_xs (go rule)
    where
      go : (r : ChoiceRule)
          → choice_by r (first_two (candidates_at position' (may' c) (length l.xs) p radius)) factor
          ≡ renumbered corners.pairs.to (choice_by r (first_two (candidates_at position (may c) (length l.xs) p radius)) factor)
      go ChoiceRule.Unambiguous = paired_unambiguous corners.pairs position position' (may c) (may' c) place (same_may c) p radius small factor above
      go ChoiceRule.WithFloor = paired_with_floor corners.pairs position position' (may c) (may' c) place (same_may c) p radius small factor above

  -- as many are passed over
  pub unmatched_paired : (radius : Float) (c : Cell) (p : Position) → unmatched (corners_of l' shades') sheet' radius c p ≡ unmatched (corners_of l shades) sheet radius c p
  unfolding unmatched
  unmatched_paired radius c p =
      rw corners.same_xs
      (paired_passed_over corners.pairs position position' (unlabelled_on sheet) (unlabelled_on sheet') (taken c) (taken' c) place label (same_taken c) p radius)

  -- the chosen corner's edges say the same
  edges_paired : (tol : Tolerances) (c : Cell) (k : ℕ) → k < length l.xs
      → edges_of (corner_of l') sheet' tol c (corners.pairs.to k) ≡ paired_result corners.pairs.to (edges_of (corner_of l) sheet tol c k)
  unfolding edges_of paired_result
  edges_paired tol c k h = rw (verdict_paired corners paired given tol c k h) (go (passes (verdict_of (seen_of (corner_of l) sheet) tol c (corner_of l k))))
    where
      go : (t : Bool) → cond t (Ok (corners.pairs.to k)) (Err NotAttached.EdgeRejected) ≡ paired_result corners.pairs.to (cond t (Ok k) (Err NotAttached.EdgeRejected))
      go true = refl
      go false = refl

  -- what trying a cell finds
  pub try_paired : (tol : Tolerances) (search : Search) (c : Cell) (p : Position) → T (finite (squared_radius search.search_r)) → lt one search.ambiguity_factor ≡ true
      → try_at (corners_of l' shades') sheet' tol search c p ≡ paired_result corners.pairs.to (try_at (corners_of l shades) sheet tol search c p)
  unfolding try_at result_of paired_result
  try_paired tol search c p small above =
      ap (result_of (corner_of l') sheet' tol c) (choice_paired search.rule search.search_r search.ambiguity_factor c p small above)
      ∙ go (choice_by search.rule (gathered (corners_of l shades) sheet search.search_r c p) search.ambiguity_factor) refl
    where
      go : (choice : CandidateChoice) → choice_by search.rule (gathered (corners_of l shades) sheet search.search_r c p) search.ambiguity_factor ≡ choice
          → result_of (corner_of l') sheet' tol c (renumbered corners.pairs.to choice) ≡ paired_result corners.pairs.to (result_of (corner_of l) sheet tol c choice)
      go (Err unchosen) e = refl
      go (Ok k) e =
          edges_paired tol c k (chosen search.rule (corners_of l shades) sheet search.search_r search.ambiguity_factor c p k e).there
