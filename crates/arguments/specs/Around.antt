-- What the label box that is kept beside a sheet says, as values (document 02, 5/14: "these four numbers .., with a mark for an empty
-- one"). Definitions only.
use Rattle.std.specs.Prelude.{List, [], ◌∷◌}
use Rattle.refusal.specs.Said.{Value, signed, yes_or_no}
use Rattle.labels.specs.declared.kept.KeptBox.{KeptBox}

-- the mark, low i, high i, low j, high j
abbrev pub box_values : KeptBox → List Value
box_values k =
    yes_or_no k.empty
    ∷ signed k.bounds.low_i
    ∷ signed k.bounds.high_i
    ∷ signed k.bounds.low_j
    ∷ signed k.bounds.high_j
    ∷ []
