-- No candidate at a prediction: there is none later either, when more corners are labelled. An ambiguous choice: it stays so when a corner is labelled
-- that is farther than the last of the first two candidates. Assumes nothing.
use mathlib.Core.Path.{◌≡◌, refl, ap}
use mathlib.Core.Bool.{Bool, true, false, not, cond, ◌&&◌, and-eq-true_iff}
use mathlib.Core.List.{List, [], ◌∷◌}
use Prim.Native.Nat.{ℕ, zero, suc, ◌<◌}
use native.Mathlib.Omega.{arith}
use lib.Dec.{T, eqb}
use lib.Ieee.{Float, le, lt, div, binary32}
use lib.Ieee.Scale.{finite}
use Rattle.std.specs.Prelude.{Ok, Err}
use Rattle.binary32.specs.Sqrt.{sqrt_or_nan}
use Rattle.sheet.specs.declared.Cell.{Cell}
use Rattle.sheet.specs.declared.Corner.{Corner}
use Rattle.sheet.specs.declared.Position.{Position}
use Rattle.sheet.specs.Shades.{takes}
use Rattle.sheet.specs.Corners.{Corners, seen_of, squared_distance, finite_position}
use Rattle.labels.proofs.Below.{no_both}
use Rattle.candidates.specs.Candidates.{eligible, squared_radius, is_candidate, distance_of, before, insert, insert_if, ordered, candidates_at, first_two, last_distance}
use Rattle.candidates.specs.Choice.{CandidateChoice, epsilon, raised, by_quotient, choose_unambiguous, choose_with_floor}
use Rattle.candidates.specs.declared.Candidate.{Candidate}
use Rattle.candidates.specs.declared.Candidates.{Candidates}
use Rattle.candidates.specs.declared.Unchosen.{Unchosen}
use Rattle.candidates.proofs.Without.{first_two_stay}
use Rattle.positions_policy.specs.Edge.{verdict_of, passes}
use Rattle.positions_policy.specs.declared.Tolerances.{Tolerances}
use Rattle.extension_common.specs.TryCell.{TryCellResult, unlabelled_on, gathered, choice_by, edges_of, result_of, try_at}
use Rattle.extension_common.specs.declared.ChoiceRule.{ChoiceRule}
use Rattle.extension_common.specs.declared.Search.{Search}
use Rattle.extension_common.specs.declared.NotAttached.{NotAttached}

zero_one : ◌≡◌ {A = ℕ} 0 1 → ⊥
zero_one z = omega arith

-- ---- an empty list of candidates

insert_some : (c : Candidate) (l : List Candidate) → insert c l ≡ [] → ⊥
unfolding insert
insert_some c [] e = zero_one cc
insert_some c (b ∷ l) e = go (before c b) e
  where
    go : (t : Bool) → cond t (c ∷ b ∷ l) (b ∷ insert c l) ≡ [] → ⊥
    go true e = zero_one cc
    go false e = zero_one cc

-- fewer candidates of none are none
ordered_fewer : (distance : ℕ → Float) (candidate candidate' : ℕ → Bool) (n : ℕ) → ((k : ℕ) → k < n → candidate' k ≡ true → candidate k ≡ true) → ordered distance candidate n ≡ []
    → ordered distance candidate' n ≡ []
unfolding ordered
ordered_fewer distance candidate candidate' zero sub e = refl
ordered_fewer distance candidate candidate' (suc n) sub e =
    go (candidate n) refl (candidate' n) refl e (ordered_fewer distance candidate candidate' n (λ k h. sub k (omega arith)))
  where
    go : (t : Bool) → candidate n ≡ t → (u : Bool) → candidate' n ≡ u → insert_if t (record { number = n; distance = distance n }) (ordered distance candidate n) ≡ []
        → (ordered distance candidate n ≡ [] → ordered distance candidate' n ≡ [])
        → insert_if u (record { number = n; distance = distance n }) (ordered distance candidate' n) ≡ []
    go true f u g e w = absurd (insert_some _ _ e)
    go false f true g e w = absurd (no_both (candidate n) (sub n (omega arith) g) f)
    go false f false g e w = w e

module _ (position : ℕ → Position) (may may' : ℕ → Bool) (n : ℕ) (prediction : Position) (radius : Float) (sub : (k : ℕ) → k < n → may' k ≡ true → may k ≡ true) where
  candidates_fewer : candidates_at position may n prediction radius ≡ [] → candidates_at position may' n prediction radius ≡ []
  unfolding candidates_at
  candidates_fewer e = go (finite_position prediction) e
    where
      one : (k : ℕ) → k < n → (a b t : Bool) → may' k ≡ a → may k ≡ b → (a && t) ≡ true → (b && t) ≡ true
      one k h true true t f g m = m
      one k h true false t f g m = absurd (no_both (may k) (sub k h f) g)
      one k h false b t f g m = absurd (no_both false m refl)

      go : (t : Bool) → cond t (ordered (distance_of position prediction) (is_candidate position may prediction radius) n) [] ≡ []
          → cond t (ordered (distance_of position prediction) (is_candidate position may' prediction radius) n) [] ≡ []
      go true f =
          ordered_fewer (distance_of position prediction) (is_candidate position may prediction radius) (is_candidate position may' prediction radius) n
          (λ k h m. one k h (may' k) (may k) (le (squared_distance (position k) prediction) (squared_radius radius)) refl refl m) f
      go false f = refl

-- ---- no candidate and no choice

first_none : (l : List Candidate) → first_two l ≡ Candidates.Empty → l ≡ []
unfolding first_two
first_none [] e = refl
first_none (a ∷ []) e = absurd (zero_one cc)
first_none (a ∷ (b ∷ l)) e = absurd (zero_one cc)

module _ (t : Bool) (k : ℕ) where
  no_quotient : ◌≡◌ {A = CandidateChoice} (cond t (Err Unchosen.Ambiguous) (Ok k)) (Err Unchosen.Nothing) → ⊥
  no_quotient e = go t e
    where
      go : (t : Bool) → ◌≡◌ {A = CandidateChoice} (cond t (Err Unchosen.Ambiguous) (Ok k)) (Err Unchosen.Nothing) → ⊥
      go true e = zero_one cc
      go false e = zero_one cc

choice_none : (rule : ChoiceRule) (candidates : Candidates) (factor : Float) → choice_by rule candidates factor ≡ Err Unchosen.Nothing → candidates ≡ Candidates.Empty
unfolding choice_by choose_unambiguous choose_with_floor
choice_none ChoiceRule.Unambiguous Candidates.Empty factor e = refl
choice_none ChoiceRule.Unambiguous (Candidates.One a) factor e = absurd (zero_one cc)
choice_none ChoiceRule.Unambiguous (Candidates.Several a second) factor e = absurd (go (le a.distance epsilon) e)
  where
    go : (t : Bool) → cond t (Err Unchosen.Ambiguous) (by_quotient a.number a.distance second factor) ≡ Err Unchosen.Nothing → ⊥
    go true e = zero_one cc
    go false e = no_quotient (lt (div binary32 second a.distance) factor) a.number e
choice_none ChoiceRule.WithFloor Candidates.Empty factor e = refl
choice_none ChoiceRule.WithFloor (Candidates.One a) factor e = absurd (zero_one cc)
choice_none ChoiceRule.WithFloor (Candidates.Several a second) factor e = absurd (no_quotient (lt (div binary32 second (raised a.distance)) factor) a.number e)

none_choice : (rule : ChoiceRule) (factor : Float) → choice_by rule Candidates.Empty factor ≡ Err Unchosen.Nothing
unfolding choice_by choose_unambiguous choose_with_floor
none_choice ChoiceRule.Unambiguous factor = refl
none_choice ChoiceRule.WithFloor factor = refl

result_none : (corner : ℕ → Corner) (sheet : List ℕ) (tol : Tolerances) (c : Cell) (choice : CandidateChoice) → result_of corner sheet tol c choice ≡ Err NotAttached.NoCandidates
    → choice ≡ Err Unchosen.Nothing
unfolding result_of edges_of
result_none corner sheet tol c (Err Unchosen.Nothing) e = refl
result_none corner sheet tol c (Err Unchosen.Ambiguous) e = absurd (zero_one cc)
result_none corner sheet tol c (Ok k) e = absurd (go (passes (verdict_of (seen_of corner sheet) tol c (corner k))) e)
  where
    go : (t : Bool) → ◌≡◌ {A = TryCellResult} (cond t (Ok k) (Err NotAttached.EdgeRejected)) (Err NotAttached.NoCandidates) → ⊥
    go true e = zero_one cc
    go false e = zero_one cc

-- ---- trying the cell

-- a corner that is labelled is not eligible, whatever its kind
eligible_fewer : (unlabelled unlabelled' taken : ℕ → Bool) (k : ℕ) → (unlabelled' k ≡ true → unlabelled k ≡ true) → eligible unlabelled' taken k ≡ true → eligible unlabelled taken k ≡ true
unfolding eligible
eligible_fewer unlabelled unlabelled' taken k sub e = let b = (and-eq-true_iff (unlabelled' k) (taken k)).0 e in rw (sub b.0, b.1)

eligible_without : (unlabelled unlabelled' taken : ℕ → Bool) (k j : ℕ) → unlabelled' j ≡ (not (eqb k j) && unlabelled j)
    → eligible unlabelled' taken j ≡ (not (eqb k j) && eligible unlabelled taken j)
unfolding eligible
eligible_without unlabelled unlabelled' taken k j e = rw e (go (not (eqb k j)))
  where
    go : (t : Bool) → ((t && unlabelled j) && taken j) ≡ (t && (unlabelled j && taken j))
    go true = refl
    go false = refl

-- a sheet on which no corner is unlabelled that was not so before
module _ (cs : Corners) (sheet sheet' : List ℕ) (sub : (k : ℕ) → unlabelled_on sheet' k ≡ true → unlabelled_on sheet k ≡ true) where
  gathered_none : (radius : Float) (c : Cell) (prediction : Position) → gathered cs sheet radius c prediction ≡ Candidates.Empty → gathered cs sheet' radius c prediction ≡ Candidates.Empty
  unfolding gathered first_two
  gathered_none radius c prediction e =
      ap first_two
      (candidates_fewer (λ k. (cs.corner k).position) _ (eligible (unlabelled_on sheet') (takes cs.shades c)) cs.count prediction radius
      (λ k h. eligible_fewer (unlabelled_on sheet) (unlabelled_on sheet') (takes cs.shades c) k (sub k)) (first_none _ e))

  pub still_missed : (tol : Tolerances) (search : Search) (c : Cell) (at : Position) → try_at cs sheet tol search c at ≡ Err NotAttached.NoCandidates
      → try_at cs sheet' tol search c at ≡ Err NotAttached.NoCandidates
  unfolding try_at result_of
  still_missed tol search c at e =
      rw (
        gathered_none search.search_r c at (choice_none search.rule _ search.ambiguity_factor (result_none cs.corner sheet tol c _ e)),
        none_choice search.rule search.ambiguity_factor,
      )

-- ---- an ambiguous choice

result_ambiguous : (corner : ℕ → Corner) (sheet : List ℕ) (tol : Tolerances) (c : Cell) (choice : CandidateChoice) → result_of corner sheet tol c choice ≡ Err NotAttached.Ambiguous
    → choice ≡ Err Unchosen.Ambiguous
unfolding result_of edges_of
result_ambiguous corner sheet tol c (Err Unchosen.Nothing) e = absurd (zero_one cc)
result_ambiguous corner sheet tol c (Err Unchosen.Ambiguous) e = refl
result_ambiguous corner sheet tol c (Ok k) e = absurd (go (passes (verdict_of (seen_of corner sheet) tol c (corner k))) e)
  where
    go : (t : Bool) → ◌≡◌ {A = TryCellResult} (cond t (Ok k) (Err NotAttached.EdgeRejected)) (Err NotAttached.Ambiguous) → ⊥
    go true e = zero_one cc
    go false e = zero_one cc

-- a sheet on which one more corner is labelled
module _ (cs : Corners) (sheet sheet' : List ℕ) (k : ℕ) (same : (j : ℕ) → unlabelled_on sheet' j ≡ (not (eqb k j) && unlabelled_on sheet j)) where
  module _ (radius : Float) (small : T (finite (squared_radius radius))) (c : Cell) (at : Position) (far : lt (last_distance (gathered cs sheet radius c at)) (sqrt_or_nan (squared_distance (cs.corner k).position at)) ≡ true) where
    pub gathered_stays : gathered cs sheet' radius c at ≡ gathered cs sheet radius c at
    unfolding gathered
    gathered_stays =
        first_two_stay (λ j. (cs.corner j).position) (eligible (unlabelled_on sheet) (takes cs.shades c)) (eligible (unlabelled_on sheet') (takes cs.shades c)) cs.count at radius small k
        (λ j. eligible_without (unlabelled_on sheet) (unlabelled_on sheet') (takes cs.shades c) k j (same j)) far

  pub still_ambiguous : (tol : Tolerances) (search : Search) (c : Cell) (at : Position) → gathered cs sheet' search.search_r c at ≡ gathered cs sheet search.search_r c at
      → try_at cs sheet tol search c at ≡ Err NotAttached.Ambiguous → try_at cs sheet' tol search c at ≡ Err NotAttached.Ambiguous
  unfolding try_at result_of
  still_ambiguous tol search c at g e = rw (g, result_ambiguous cs.corner sheet tol c (choice_by search.rule (gathered cs sheet search.search_r c at) search.ambiguity_factor) e)
