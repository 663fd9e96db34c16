-- What trying a cell at a prediction finds, for all three passes (document 01, "Candidates and choice" and "Edge"). Definitions only.
use Rattle.std.specs.Prelude.{◌≡◌, Bool, not, cond, List, ℕ, ◌<◌, Float, Option, Some, None, Result, Ok, Err}
use Rattle.sizes.specs.Sizes.{corner_limit}
use Rattle.sheet.specs.Shades.{takes}
use Rattle.sheet.specs.Corners.{Corners, seen_of}
use Rattle.sheet.specs.declared.Cell.{Cell}
use Rattle.sheet.specs.declared.Corner.{Corner}
use Rattle.sheet.specs.declared.Position.{Position}
use Rattle.labels.specs.Used.{used_on}
use Rattle.candidates.specs.Candidates.{eligible, candidates_at, first_two}
use Rattle.candidates.specs.Choice.{CandidateChoice, choose_unambiguous, choose_with_floor}
use Rattle.candidates.specs.declared.Candidates.{Candidates}
use Rattle.candidates.specs.declared.Unchosen.{Unchosen}
use Rattle.passed_over.specs.PassedOver.{passed_over}
use Rattle.positions_policy.specs.Edge.{verdict_of, passes}
use Rattle.positions_policy.specs.declared.Tolerances.{Tolerances}
use Rattle.extension_common.specs.declared.ChoiceRule.{ChoiceRule}
use Rattle.extension_common.specs.declared.Search.{Search}
use Rattle.extension_common.specs.declared.NotAttached.{NotAttached}

-- what trying a cell finds: the corner to attach, or why there is none
abbrev pub TryCellResult : Type 0
TryCellResult = Result ℕ NotAttached

-- a corner is unlabelled if no cell of the sheet holds it
abbrev pub unlabelled_on : List ℕ → ℕ → Bool
unlabelled_on sheet k = not (used_on sheet k)

-- all candidates of a cell at a prediction, those that the cell takes, in order of distance and then corner number: what the choice needs of them
unfoldable pub gathered : Corners → List ℕ → Float → Cell → Position → Candidates
gathered cs sheet radius c prediction =
    first_two (candidates_at (λ k. (cs.corner k).position) (eligible (unlabelled_on sheet) (takes cs.shades c)) cs.count prediction radius)

-- "each unlabelled corner within the radius so passed over, with no shade or the other kind" (document 02, 1/14): how many
unfoldable pub unmatched : Corners → List ℕ → Float → Cell → Position → ℕ
unmatched cs sheet radius c prediction =
    passed_over (λ k. (cs.corner k).position) (unlabelled_on sheet) (takes cs.shades c) cs.count prediction radius

-- grow's rule of choice, or fill's and local's
unfoldable pub choice_by : ChoiceRule → Candidates → Float → CandidateChoice
choice_by ChoiceRule.Unambiguous candidates factor = choose_unambiguous candidates factor
choice_by ChoiceRule.WithFloor candidates factor = choose_with_floor candidates factor

-- the edges of a chosen corner: they pass if one is accepted, or if no cardinal neighbour is labelled
unfoldable pub edges_of : (ℕ → Corner) → List ℕ → Tolerances → Cell → ℕ → TryCellResult
edges_of corner sheet tol c k =
    cond (passes (verdict_of (seen_of corner sheet) tol c (corner k))) (Ok k) (Err NotAttached.EdgeRejected)

-- why nothing is attached where no candidate is chosen
abbrev pub unattached : Unchosen → NotAttached
unattached Unchosen.Nothing = NotAttached.NoCandidates
unattached Unchosen.Ambiguous = NotAttached.Ambiguous

unfoldable pub result_of : (ℕ → Corner) → List ℕ → Tolerances → Cell → CandidateChoice → TryCellResult
result_of corner sheet tol c (Err unchosen) = Err (unattached unchosen)
result_of corner sheet tol c (Ok k) = edges_of corner sheet tol c k

-- what trying a cell finds: candidates, then choice, then edges
unfoldable pub try_at : Corners → List ℕ → Tolerances → Search → Cell → Position → TryCellResult
try_at cs sheet tol search c prediction =
    result_of cs.corner sheet tol c (choice_by search.rule (gathered cs sheet search.search_r c prediction) search.ambiguity_factor)

-- a cell with a prediction is tried there; one with none has no candidate
unfoldable pub tried_from : Corners → List ℕ → Tolerances → Search → Cell → Option Position → TryCellResult
tried_from cs sheet tol search c None = Err NotAttached.NoCandidates
tried_from cs sheet tol search c (Some at) = try_at cs sheet tol search c at

-- ---- what the functions ask

-- candidates of which none but a corner that is held can be chosen
abbrev pub Choosable : Search → Candidates → Type 0
Choosable search candidates = (k : ℕ) → choice_by search.rule candidates search.ambiguity_factor ≡ Ok k → k < corner_limit
