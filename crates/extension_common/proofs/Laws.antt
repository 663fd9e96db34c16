-- What was gathered by an array of used corners is what the definition gathers by the sheet; what is chosen is a given corner that no
-- cell holds; and what trying a cell says of the corner to attach. Assumes nothing.
use mathlib.Core.Path.{◌≡◌, refl, sym, ap, ◌∙◌, subst}
use mathlib.Core.Bool.{Bool, true, false, not, ◌&&◌, cond, true≢false, and-eq-true_iff}
use mathlib.Core.List.{List}
use Prim.Native.Nat.{ℕ, ◌<◌, ◌≤◌}
use native.Mathlib.Nat.{lt_of_lt_of_le}
use native.Mathlib.Omega.{arith}
use lib.Ieee.{Float}
use Rattle.std.specs.Prelude.{Option, Some, None, Result, Ok, Err}
use Rattle.std.specs.Option.{ok_or}
use Rattle.sheet.specs.Shades.{kind_at, takes_kind, takes, shades_in}
use Rattle.sheet.proofs.Shades.{takes_every}
use Rattle.sheet.specs.Corners.{Corners, corners_in, seen_of}
use Rattle.sheet.specs.declared.Cell.{Cell}
use Rattle.sheet.specs.declared.held.CornerArrays.{CornerArrays}
use Rattle.sheet.specs.declared.Corner.{Corner}
use Rattle.sheet.specs.declared.Position.{Position}
use Rattle.labels.specs.Used.{used_on, Tied}
use Rattle.labels.proofs.Used.{tied_free}
use Rattle.candidates.specs.Candidates.{positions_in, unmarked, eligible, eligible_in, candidates_at, first_two}
use Rattle.candidates.specs.declared.Candidates.{Candidates}
use Rattle.candidates.specs.Choice.{CandidateChoice}
use Rattle.candidates.proofs.Collected.{candidates_agree}
use Rattle.candidates.proofs.Choice.{Chosen, chosen_unambiguous, chosen_with_floor}
use Rattle.passed_over.specs.PassedOver.{passed_over}
use Rattle.passed_over.proofs.Laws.{passed_over_agree, none_passed_over, passed_over_few}
use Rattle.positions_policy.specs.Edge.{verdict_of, passes}
use Rattle.positions_policy.specs.declared.EdgeVerdict.{EdgeVerdict}
use Rattle.positions_policy.specs.declared.Tolerances.{Tolerances}
use Rattle.extension_common.specs.TryCell.{TryCellResult, Choosable, unlabelled_on, gathered, unmatched, choice_by, edges_of, result_of, try_at, tried_from}
use Rattle.extension_common.specs.declared.ChoiceRule.{ChoiceRule}
use Rattle.extension_common.specs.declared.Search.{Search}
use Rattle.extension_common.specs.declared.NotAttached.{NotAttached}

module _ (held : CornerArrays) (sheet : List ℕ) (used : List Bool) (radius : Float) (c : Cell) (p : Position) (tied : Tied sheet used) where
  -- gathered by the array that is tied to the sheet, and passed over
  pub gathered_tied : {kind : ℕ} → kind ≡ kind_at c
      → first_two (candidates_at (positions_in held) (eligible_in held used kind) held.count.number p radius) ≡ gathered (corners_in held) sheet radius c p
  unfolding gathered eligible
  gathered_tied e =
      rw e
      (ap first_two
      (candidates_agree (positions_in held) (positions_in held) (λ k. unmarked used k && takes (shades_in held) c k) (λ k. unlabelled_on sheet k && takes (shades_in held) c k) held.count.number p radius
      (λ k h. refl)
      (λ k h. ap (λ (b : Bool). b && takes (shades_in held) c k) (tied_free tied k (lt_of_lt_of_le h held.count.few)))))

  pub unmatched_tied : {kind : ℕ} → kind ≡ kind_at c
      → passed_over (positions_in held) (unmarked used) (takes_kind (shades_in held) kind) held.count.number p radius ≡ unmatched (corners_in held) sheet radius c p
  unfolding unmatched
  unmatched_tied e =
      rw e
      (passed_over_agree (positions_in held) (positions_in held) (unmarked used) (unlabelled_on sheet) (takes (shades_in held) c) (takes (shades_in held) c) held.count.number p radius
      (λ k h. refl) (λ k h. tied_free tied k (lt_of_lt_of_le h held.count.few)) (λ k h. refl))

-- ---- without any shade all is as it was

eligible_taken : (unlabelled taken : ℕ → Bool) (k : ℕ) → taken k ≡ true → eligible unlabelled taken k ≡ unlabelled k
unfolding eligible
eligible_taken unlabelled taken k e = rw e (go (unlabelled k))
  where
    go : (b : Bool) → (b && true) ≡ b
    go true = refl
    go false = refl

module _ (cs : Corners) (none : cs.shades.any ≡ false) (sheet : List ℕ) (radius : Float) (c : Cell) (p : Position) where
  -- the candidates are the unlabelled corners within the radius
  pub gathered_bare : gathered cs sheet radius c p ≡ first_two (candidates_at (λ k. (cs.corner k).position) (unlabelled_on sheet) cs.count p radius)
  unfolding gathered
  gathered_bare =
      ap first_two
      (candidates_agree _ _ (eligible (unlabelled_on sheet) (takes cs.shades c)) (unlabelled_on sheet) cs.count p radius (λ k h. refl)
      (λ k h. eligible_taken (unlabelled_on sheet) (takes cs.shades c) k (takes_every cs.shades (kind_at c) k none)))

  -- and none is passed over
  pub unmatched_bare : unmatched cs sheet radius c p ≡ 0
  unfolding unmatched
  unmatched_bare = none_passed_over _ (unlabelled_on sheet) (takes cs.shades c) cs.count p radius (λ k h. takes_every cs.shades (kind_at c) k none)

-- at most as many as there are
pub unmatched_few : (cs : Corners) (sheet : List ℕ) (radius : Float) (c : Cell) (p : Position) → unmatched cs sheet radius c p ≤ cs.count
unfolding unmatched
unmatched_few cs sheet radius c p = passed_over_few _ (unlabelled_on sheet) (takes cs.shades c) cs.count p radius

-- a corner that either rule chooses is a candidate
pub chosen : (rule : ChoiceRule) (cs : Corners) (sheet : List ℕ) (radius factor : Float) (c : Cell) (p : Position) (k : ℕ)
    → choice_by rule (gathered cs sheet radius c p) factor ≡ Ok k
    → Chosen (λ k. (cs.corner k).position) (eligible (unlabelled_on sheet) (takes cs.shades c)) cs.count p radius k
unfolding choice_by gathered
chosen ChoiceRule.Unambiguous cs sheet radius factor c p k e =
    chosen_unambiguous (λ k. (cs.corner k).position) (eligible (unlabelled_on sheet) (takes cs.shades c)) cs.count p radius factor k e
chosen ChoiceRule.WithFloor cs sheet radius factor c p k e =
    chosen_with_floor (λ k. (cs.corner k).position) (eligible (unlabelled_on sheet) (takes cs.shades c)) cs.count p radius factor k e

-- what was gathered is a choice among the corners that are held
pub choosable : (cs : Corners) (sheet : List ℕ) (c : Cell) (search : Search) (p : Position) (candidates : Candidates) → cs.count ≤ 1024
    → candidates ≡ gathered cs sheet search.search_r c p → Choosable search candidates
choosable cs sheet c search p candidates few are =
    λ k e.
    let g = chosen search.rule cs sheet search.search_r search.ambiguity_factor c p k (subst (λ (g : Candidates). choice_by search.rule g search.ambiguity_factor ≡ Ok k) are e) in
    lt_of_lt_of_le g.there few

both_true : (unlabelled taken : ℕ → Bool) (k : ℕ) → eligible unlabelled taken k ≡ true → (unlabelled k ≡ true) × (taken k ≡ true)
unfolding eligible
both_true unlabelled taken k e = (and-eq-true_iff (unlabelled k) (taken k)).0 e

-- the edges, by whether the verdict on the chosen corner passes
module _ (corner : ℕ → Corner) (sheet : List ℕ) (tol : Tolerances) (c : Cell) (k : ℕ) {seen : Cell → Option Corner} {candidate : Corner} {v : EdgeVerdict} {b : Bool}
    (sees : seen ≡ seen_of corner sheet) (at : candidate ≡ corner k) (is : v ≡ verdict_of seen tol c candidate) (e : b ≡ passes v) where
  edges_are : edges_of corner sheet tol c k ≡ cond b (Ok k) (Err NotAttached.EdgeRejected)
  unfolding edges_of
  edges_are = rw (e, is, sees, at)

  pub edges_refuse : b ≡ false → Err NotAttached.EdgeRejected ≡ edges_of corner sheet tol c k
  edges_refuse f = sym (edges_are ∙ rw f)

  pub edges_pass : b ≡ true → Ok k ≡ edges_of corner sheet tol c k
  edges_pass f = sym (edges_are ∙ rw f)

-- what is found, by what was gathered
pub tried_with : (cs : Corners) (sheet : List ℕ) (tol : Tolerances) (search : Search) (c : Cell) (p : Position) {candidates : Candidates} {r : TryCellResult}
    → candidates ≡ gathered cs sheet search.search_r c p → r ≡ result_of cs.corner sheet tol c (choice_by search.rule candidates search.ambiguity_factor) → r ≡ try_at cs sheet tol search c p
unfolding try_at
tried_with cs sheet tol search c p e f = f ∙ ap (λ (g : Candidates). result_of cs.corner sheet tol c (choice_by search.rule g search.ambiguity_factor)) e

-- what is found, by the prediction that there is or is not
module _ (cs : Corners) (sheet : List ℕ) (tol : Tolerances) (search : Search) (c : Cell) where
  pub tried_without : (at : Option Position) (e : NotAttached) → ◌≡◌ {A = Result Position NotAttached} (Err e) (ok_or at NotAttached.NoCandidates)
      → ◌≡◌ {A = TryCellResult} (Err e) (tried_from cs sheet tol search c at)
  unfolding tried_from
  tried_without None e h = cc
  tried_without (Some q) e h = absurd (let z : ◌≡◌ {A = ℕ} 0 1 = cc in omega arith)

  pub tried_there : (at : Option Position) (q : Position) → ◌≡◌ {A = Result Position NotAttached} (Ok q) (ok_or at NotAttached.NoCandidates) → {r : TryCellResult}
      → r ≡ try_at cs sheet tol search c q → r ≡ tried_from cs sheet tol search c at
  unfolding tried_from
  tried_there None q h e = absurd (let z : ◌≡◌ {A = ℕ} 0 1 = cc in omega arith)
  tried_there (Some q') q h e = let p : q ≡ q' = cc in e ∙ ap (try_at cs sheet tol search c) p

-- ---- what is to be attached

-- the corner to attach: given, held by no cell, one that the cell takes, and passed by its edges
pub record Attachable (cs : Corners) (sheet : List ℕ) (tol : Tolerances) (c : Cell) (k : ℕ) : Type 0 where
  pub given : k < cs.count
  pub free : used_on sheet k ≡ false
  pub taken : takes cs.shades c k ≡ true
  pub edges : passes (verdict_of (seen_of cs.corner sheet) tol c (cs.corner k)) ≡ true

not_used : (b : Bool) → not b ≡ true → b ≡ false
not_used true h = absurd (true≢false (sym h))
not_used false h = refl

edges_passed : (corner : ℕ → Corner) (sheet : List ℕ) (tol : Tolerances) (c : Cell) (j k : ℕ) → edges_of corner sheet tol c j ≡ Ok k
    → (j ≡ k) × (passes (verdict_of (seen_of corner sheet) tol c (corner j)) ≡ true)
unfolding edges_of
edges_passed corner sheet tol c j k e = go (passes (verdict_of (seen_of corner sheet) tol c (corner j))) e
  where
    go : (b : Bool) → cond b (Ok j) (Err NotAttached.EdgeRejected) ≡ Ok k → (j ≡ k) × (b ≡ true)
    go true e = (cc, refl)
    go false e = let z : ◌≡◌ {A = ℕ} 0 1 = cc in absurd (no z)
      where
        no : ◌≡◌ {A = ℕ} 0 1 → ⊥
        no z = omega arith

result_attached : (corner : ℕ → Corner) (sheet : List ℕ) (tol : Tolerances) (c : Cell) (choice : CandidateChoice) (k : ℕ) → result_of corner sheet tol c choice ≡ Ok k
    → (choice ≡ Ok k) × (passes (verdict_of (seen_of corner sheet) tol c (corner k)) ≡ true)
unfolding result_of
result_attached corner sheet tol c (Err unchosen) k e = let z : ◌≡◌ {A = ℕ} 0 1 = cc in absurd (no z)
  where
    no : ◌≡◌ {A = ℕ} 0 1 → ⊥
    no z = omega arith
result_attached corner sheet tol c (Ok j) k e =
    let p = edges_passed corner sheet tol c j k e in
    (ap Ok p.0, subst (λ (i : ℕ). passes (verdict_of (seen_of corner sheet) tol c (corner i)) ≡ true) p.0 p.1)

pub attachable : (cs : Corners) (sheet : List ℕ) (tol : Tolerances) (search : Search) (c : Cell) (p : Position) (k : ℕ) → try_at cs sheet tol search c p ≡ Ok k → Attachable cs sheet tol c k
unfolding try_at
attachable cs sheet tol search c p k e =
    let r = result_attached cs.corner sheet tol c (choice_by search.rule (gathered cs sheet search.search_r c p) search.ambiguity_factor) k e in
    let g = chosen search.rule cs sheet search.search_r search.ambiguity_factor c p k r.0 in
    let b = both_true (unlabelled_on sheet) (takes cs.shades c) k g.free in
    record { given = g.there; free = not_used (used_on sheet k) b.0; taken = b.1; edges = r.1 }
