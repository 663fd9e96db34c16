-- `arguments::check_arguments` meets its contract: each refusal by the tests that passed before it. Assumes nothing.
use mathlib.Core.Path.{◌≡◌, sym, ap, ◌∙◌}
use mathlib.Core.Bool.{Bool, true, false, not}
use borrow.Author.Tests.{lt-ltb, le-ltb}
use Rattle.sheet.specs.Corners.{corner_lists}
use Rattle.labels.specs.Kept.{box_differs}
use Rattle.arguments.specs.Arguments.{Lent, lent, corner_count, too_short, over_limit, some_corner_outside, settings_outside, pass_outside, out_of_range, unknown_corner}
use Rattle.arguments.specs.Accepted.{LongEnough}
use Rattle.arguments.proofs.Laws.{long_enough}
use Rattle.arguments.proofs.SheetSearch.{box_told}
use Rattle.arguments.proofs.Tests.{holds, fails, refused_7, refused_2, refused_3, refused_5, refused_6, refused_none}
use Rattle.arguments.proofs.check_arguments.Goals as goal
use Rattle.arguments.proofs.check_arguments.Goals.{Else-pass_outside, Else-settings_outside, Else-some_corner_outside, Else-too_short, Else-not-is, Else-found, Start, then-some_corner_outside-via-then-some_corner_outside, then-some_corner_outside-via-else-some_corner_outside+then-settings_outside, then-some_corner_outside-via-else-some_corner_outside+else-settings_outside+then-pass_outside, Else-corners-gt-CORNERS}

-- what is lent, and what each test that did not refuse says of it
abbrev at : Start → Lent
at c = let l = c.args.corners in lent l.xs.now l.ys.now l.pitches.now l.shades.now c.args.sheet.now c.args.around c.args.queue c.args.attached

passed_7 : (c : Else-too_short) → too_short (at (goal.at.Else-too_short c).Start) c.args.pass ≡ false
passed_7 c = sym (c.too_short.ensures _) ∙ c.if-too_short.false

passed_2 : (c : Else-corners-gt-CORNERS) → over_limit (at (goal.at.Else-corners-gt-CORNERS c).Start) ≡ false
unfolding over_limit
passed_2 c = le-ltb _ _ c.if-corners-gt-CORNERS.false

corners_passed : (c : Else-some_corner_outside) → let l = c.args.corners in
    some_corner_outside (corner_lists l.xs.now l.ys.now l.pitches.now) l.shades.now ≡ false
corners_passed c = sym c.some_corner_outside.ensures ∙ c.if-some_corner_outside.false

settings_passed : (c : Else-settings_outside) → settings_outside c.args.settings ≡ false
settings_passed c = sym c.settings_outside.ensures ∙ c.if-settings_outside.false

pass_passed : (c : Else-pass_outside) → pass_outside c.args.pass ≡ false
pass_passed c = sym c.pass_outside.ensures ∙ c.if-pass_outside.false

-- the last test of 3
tested : (c : Else-pass_outside) (t : Bool) → t ≡ box_differs c.args.around c.args.sheet.now
    → t ≡ out_of_range (at (goal.at.Else-pass_outside c).Start) c.args.settings c.args.pass
unfolding out_of_range
tested c t e =
    fails _ _ _ (corners_passed (goal.at.Else-pass_outside c).Else-some_corner_outside)
    (fails _ _ _ (settings_passed (goal.at.Else-pass_outside c).Else-settings_outside) (fails _ _ _ (pass_passed c) e))

passed_3 : (c : Else-not-is) → false ≡ out_of_range (at (goal.at.Else-not-is c).Start) c.args.settings c.args.pass
passed_3 c =
    tested (goal.at.Else-not-is c).Else-pass_outside false (sym (ap not c.if-not-is.false) ∙ box_told _ _ c.search_sheet-found.ensures c.is.ensures)

passed_5 : (c : Else-found) → unknown_corner (corner_count (at (goal.at.Else-found c).Start)) c.args.sheet.now ≡ false
passed_5 c = sym c.search_sheet-found.ensures.unknown_is ∙ c.if-found.false

long : (c : Else-too_short) → LongEnough (at (goal.at.Else-too_short c).Start) c.args.pass
long c = long_enough _ _ (passed_7 c)

pub returns-then-too_short : goal.returns-then-too_short
returns-then-too_short c = refused_7 _ _ _ (sym (c.too_short.ensures _) ∙ c.if-too_short.true)

pub returns-then-corners-gt-CORNERS : goal.returns-then-corners-gt-CORNERS
unfolding over_limit
returns-then-corners-gt-CORNERS c = refused_2 _ _ _ (passed_7 (goal.at.returns-then-corners-gt-CORNERS c).Else-too_short) (lt-ltb _ _ c.if-corners-gt-CORNERS.true)

pub some_corner_outside-requires : goal.some_corner_outside-requires
some_corner_outside-requires c =
    let w = long (goal.at.some_corner_outside-requires c).Else-too_short in
    record { listed = record { ys_long = w.ys_long; pitches_long = w.pitches_long }; shades_long = w.shades_long }

pub returns-then-some_corner_outside : goal.returns-then-some_corner_outside
unfolding out_of_range
returns-then-some_corner_outside c =
    refused_3 _ _ _ (passed_7 (goal.at.returns-then-some_corner_outside c).Else-too_short) (passed_2 (goal.at.returns-then-some_corner_outside c).Else-corners-gt-CORNERS)
    (elim c.then-some_corner_outside.branch [
      | then-some_corner_outside-via-then-some_corner_outside w ↦ holds _ _ (sym c.some_corner_outside.ensures ∙ w.if-some_corner_outside.true)
      | then-some_corner_outside-via-else-some_corner_outside+then-settings_outside w ↦
          fails _ _ _ (sym c.some_corner_outside.ensures ∙ w.if-some_corner_outside.false) (holds _ _ (sym w.settings_outside.ensures ∙ w.if-settings_outside.true))
      | then-some_corner_outside-via-else-some_corner_outside+else-settings_outside+then-pass_outside w ↦
          fails _ _ _ (sym c.some_corner_outside.ensures ∙ w.if-some_corner_outside.false)
          (fails _ _ _ (sym w.settings_outside.ensures ∙ w.if-settings_outside.false) (holds _ _ (sym w.pass_outside.ensures ∙ w.if-pass_outside.true)))
    ])

pub search_sheet-found-requires : goal.search_sheet-found-requires
search_sheet-found-requires c = record { long = (long (goal.at.search_sheet-found-requires c).Else-too_short).sheet_long; few = c.if-corners-gt-CORNERS.false }

pub returns-then-not-is : goal.returns-then-not-is
returns-then-not-is c =
    let p = goal.at.returns-then-not-is c in
    refused_3 _ _ _ (passed_7 p.Else-too_short) (passed_2 p.Else-corners-gt-CORNERS)
    (tested p.Else-pass_outside true (sym (ap not c.if-not-is.true) ∙ box_told _ _ c.search_sheet-found.ensures c.is.ensures))

pub returns-then-found : goal.returns-then-found
returns-then-found c =
    let p = goal.at.returns-then-found c in
    refused_5 _ _ _ (passed_7 p.Else-too_short) (passed_2 p.Else-corners-gt-CORNERS) (passed_3 p.Else-not-is)
    (sym c.search_sheet-found.ensures.unknown_is ∙ c.if-found.true)

pub returns-then-found-2 : goal.returns-then-found-2
returns-then-found-2 c =
    let p = goal.at.returns-then-found-2 c in
    let a5 = passed_5 p.Else-found in
    refused_6 _ _ _ (passed_7 p.Else-too_short) (passed_2 p.Else-corners-gt-CORNERS) (passed_3 p.Else-not-is) a5
    (sym (c.search_sheet-found.ensures.doubled_is a5) ∙ c.if-found-2.true)

pub returns : goal.returns
returns c =
    let p = goal.at.returns c in
    let a5 = passed_5 p.Else-found in
    refused_none _ _ _ (passed_7 p.Else-too_short) (passed_2 p.Else-corners-gt-CORNERS) (passed_3 p.Else-not-is) a5
    (sym (c.search_sheet-found.ensures.doubled_is a5) ∙ c.if-found-2.false)
