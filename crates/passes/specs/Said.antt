-- What the answers of the passes say, in document 01's numbers and values ("Frame and result": "Grow: attached, no candidate, ambiguous, edge, rim.
-- Fill: added, rounds, rim. Local: grow's four, rounds, largest residual or `none`, rim."; document 02, 1/14: unmatched; 5/14: the label box behind
-- them). Definitions only.
use Rattle.std.specs.Prelude.{List, [], ◌∷◌, ◌++◌, Option, None, Some, ℕ, Float, Ok, Err}
use Rattle.refusal.specs.Refusal.{number_of}
use Rattle.refusal.specs.Said.{Value, whole, float, yes_or_no, none, Said, number, values}
use Rattle.labels.specs.declared.kept.KeptBox.{KeptBox}
use Rattle.arguments.specs.Around.{box_values}
use Rattle.passes.specs.Outcome.{Outcome, refused, done, Answer}
use Rattle.passes.specs.Step.{box_left}
use Rattle.passes.specs.declared.Counts.{Counts}
use Rattle.passes.specs.declared.GrowStats.{GrowStats}
use Rattle.passes.specs.declared.FillStats.{FillStats}
use Rattle.passes.specs.declared.LocalStats.{LocalStats}

-- ---- the values of a pass that was run

-- "grow's four": attached, no candidate, ambiguous, edge; then what follows
abbrev pub grows_four : Counts → List Value → List Value
grows_four c rest =
    whole c.attached
    ∷ whole c.rejected_no_candidate
    ∷ whole c.rejected_ambiguous
    ∷ whole c.rejected_edge
    ∷ rest

-- attached, no candidate, ambiguous, edge, rim
unfoldable pub grow_values : GrowStats → List Value
grow_values s =
    grows_four s.counts
    (yes_or_no s.rim
    ∷ [])

-- added, rounds, rim
unfoldable pub fill_values : FillStats → List Value
fill_values s =
    whole s.added
    ∷ whole s.iterations
    ∷ yes_or_no s.rim
    ∷ []

-- "largest residual or `none`"
abbrev pub residual_value : Option Float → Value
residual_value None = none
residual_value (Some x) = float x

-- how many were passed over, or none where no shade stands
abbrev pub unmatched_value : Option ℕ → Value
unmatched_value None = none
unmatched_value (Some n) = whole n

-- grow's four, rounds, largest residual or `none`, rim; and unmatched
unfoldable pub local_values : LocalStats → List Value
local_values s =
    grows_four s.counts
    (whole s.iterations
    ∷ residual_value s.residual
    ∷ yes_or_no s.rim
    ∷ unmatched_value s.unmatched
    ∷ [])

-- ---- each answer by its cases

unfoldable pub grow_said : Answer (GrowStats × KeptBox) → Said
grow_said (Err r) = number (number_of r)
grow_said (Ok (s, around)) = values (grow_values s ++ box_values around)

unfoldable pub fill_said : Answer (FillStats × KeptBox) → Said
fill_said (Err r) = number (number_of r)
fill_said (Ok (s, around)) = values (fill_values s ++ box_values around)

unfoldable pub local_said : Answer (LocalStats × KeptBox) → Said
local_said (Err r) = number (number_of r)
local_said (Ok (s, around)) = values (local_values s ++ box_values around)

-- ---- what an answer is due to say: the number of the refusal that the definition of the call gives, or the values of the pass and of the box
-- that it leaves

unfoldable pub outcome_due : {A : Type 0} → (A → List Value) → Outcome A → Said
outcome_due values_of (refused r) = number (number_of r)
outcome_due values_of (done a) = values (values_of a.answer ++ box_values (box_left a))
