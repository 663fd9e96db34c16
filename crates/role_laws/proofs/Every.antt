-- The lines of the roles stand in every result, with no pass too, and their counts are small. Assumes nothing.
use Rattle.std.specs.Prelude.{Ok, Err}
use mathlib.Core.Path.{◌≡◌, refl, sym, ap, subst, ◌∙◌}
use mathlib.Core.List.{List, [], ◌∷◌, ◌++◌, map, append_assoc}
use Prim.Native.Nat.{ℕ, ◌+◌, ◌*◌}
use native.Mathlib.Omega.{arith}
use lib.ListN.{length}
use Rattle.roles.specs.declared.Role.{Role}
use Rattle.sheet.specs.Corners.{CornerLists}
use Rattle.arguments.specs.Arguments.{Checked}
use Rattle.passes.specs.Outcome.{Outcome}
use Rattle.passes.specs.Step.{unless}
use Rattle.passes.specs.Run.{Call, step, sheet_after, run, sheet_of as sheetAfterAll}
use Rattle.passes.specs.declared.Counts.{Counts}
use Rattle.passes.specs.declared.PassStats.{PassStats}
use Rattle.invariants.specs.Calls.{checked_call, after_call}
use Rattle.invariants.proofs.Run.{step_as_lem, call_accepted}
use Rattle.count_bounds.specs.Bounds.{FewCounts, Small, small_grow, small_fill, small_local}
use Rattle.count_bounds.proofs.Small.{small}
use Rattle.role_counts.specs.RoleCounts.{RoledStats, none_counted, four_of, counts_of, sum_for, AtMost}
use Rattle.role_counts.proofs.Sums.{none_few, fewer, plus_few, under_few}
use Rattle.join.specs.Rule.{All}
use Rattle.line_form.specs.Integers.{decimal_up_to, decimal, integer_text}
use Rattle.line_form.specs.Forms.{bytes, number_text, printed}
use Rattle.frame.specs.Frame.{Frame, RoledPass, parts_of}
use Rattle.frame.specs.ReadFrame.{sheet_of}
use Rattle.frame_laws.specs.Calls.{frame_corners, call_of, calls_of}
use Rattle.frame_laws.proofs.Back.{frame_prints_back}
use Rattle.report_line.specs.Result.{pass_lines, role_line, line_of_role, role_lines, heading, sheet_text, result_text}
use Rattle.frame_answer.specs.Answer.{outcomes_of, frame_outcomes, frame_sheet, answer_of, answer_text}
use Rattle.role_laws.specs.Every.{said_by, result_with, result_of, InEveryResult, all_zero, NoPassZeros, SumsBounded}
use Rattle.role_laws.proofs.Outcomes.{each_role}

-- ---- "In every result"

lines_apart : (os : List RoledStats) (sheet : List ℕ) → result_text os sheet ≡ result_of os sheet
unfolding result_text role_lines line_of_role
lines_apart os sheet =
    let plant = line_of_role os Role.Plant in
    let depot = line_of_role os Role.Depot in
    let dealer = line_of_role os Role.Dealer in
    ap (λ (l : List ℕ). heading ++ (pass_lines os ++ l))
    (append_assoc plant (depot ++ dealer) (sheet_text sheet) ∙ ap (λ (l : List ℕ). plant ++ l) (append_assoc depot dealer (sheet_text sheet)))

pub in_every_result : InEveryResult
unfolding answer_text answer_of
in_every_result =
    record {
      of_accepted = λ text f e. ap answer_of e ∙ lines_apart (frame_outcomes f) (frame_sheet f);
      of_refused = λ text r line e. ap answer_of e;
    }

-- ---- with no pass

zero_plant : role_line Role.Plant none_counted ≡ bytes "(role plant 0 0 0 0)\n"
unfolding role_line printed number_text integer_text decimal decimal_up_to
zero_plant = refl

zero_depot : role_line Role.Depot none_counted ≡ bytes "(role depot 0 0 0 0)\n"
unfolding role_line printed number_text integer_text decimal decimal_up_to
zero_depot = refl

zero_dealer : role_line Role.Dealer none_counted ≡ bytes "(role dealer 0 0 0 0)\n"
unfolding role_line printed number_text integer_text decimal decimal_up_to
zero_dealer = refl

no_pass_result : (sheet : List ℕ) → result_of [] sheet ≡ all_zero sheet
unfolding pass_lines sum_for line_of_role
no_pass_result sheet = λ t. result_with [] (zero_plant t) (zero_depot t) (zero_dealer t) (sheet_text sheet)

module _ (f : Frame) (none : (parts_of f).passes ≡ []) where
  no_outcomes : frame_outcomes f ≡ []
  unfolding frame_outcomes outcomes_of
  no_outcomes = ap (λ (ps : List RoledPass). outcomes_of ps (run (frame_corners f) (sheet_of f) (calls_of f))) none

  no_calls : calls_of f ≡ []
  unfolding calls_of
  no_calls = ap (map (λ q. call_of f q.pass)) none

  as_given : frame_sheet f ≡ sheet_of f
  unfolding frame_sheet sheetAfterAll
  as_given = ap (sheetAfterAll (frame_corners f) (sheet_of f)) no_calls

pub no_pass_zeros : NoPassZeros
no_pass_zeros text f e none =
    in_every_result.of_accepted text f e ∙ (λ t. result_of (no_outcomes f none t) (as_given f none t)) ∙ no_pass_result (sheet_of f)

-- ---- how large the sums are

-- what a call says is small
small_step : (l : CornerLists) (sheet : List ℕ) (c : Call) (os : List (Outcome PassStats)) → All Small (said_by os)
    → All Small (said_by (step l sheet c ∷ os))
unfolding said_by
small_step l sheet c os w =
    subst (λ (o : Outcome PassStats). All Small (said_by (o ∷ os))) (sym (step_as_lem l sheet c)) (go (checked_call l sheet c) refl)
  where
    go : (k : Checked) → checked_call l sheet c ≡ k → All Small (said_by (unless k (after_call l sheet c) ∷ os))
    go (Ok tt) e = (small l sheet c (call_accepted l sheet c e), w)
    go (Err r) e = w

small_run : (l : CornerLists) (sheet : List ℕ) (cs : List Call) → All Small (said_by (run l sheet cs))
unfolding run said_by
small_run l sheet [] = tt
small_run l sheet (c ∷ cs) =
    let after = sheet_after sheet (step l sheet c) in
    small_step l sheet c (run l after cs) (small_run l after cs)

small_four : (c : Counts) → FewCounts 1048576 c → AtMost 1048576 (four_of c)
small_four c w = record { attached = w.attached; no_candidate = w.no_candidate; ambiguous = w.ambiguous; edge = w.edge }

small_counts : (s : PassStats) → Small s → AtMost 1048576 (counts_of s)
unfolding counts_of
small_counts (PassStats.Grow s) (small_grow w) = small_four s.counts w
small_counts (PassStats.Fill s) (small_fill w r) = record { attached = w; no_candidate = omega arith; ambiguous = omega arith; edge = omega arith }
small_counts (PassStats.Local s) (small_local w r q u) = small_four s.counts w

-- so is each sum of what they say
few_for : (r : Role) (os : List RoledStats) → All Small (map (λ o. o.stats) os) → AtMost (1048576 * length os) (sum_for r os)
unfolding sum_for
few_for r [] w = none_few _
few_for r (o ∷ os) w =
    fewer (1048576 + 1048576 * length os) (1048576 * length (o ∷ os)) (omega arith) _
    (plus_few 1048576 (1048576 * length os) _ _ (under_few 1048576 r o (small_counts o.stats w.0)) (few_for r os w.1))

pub sums_bounded : SumsBounded
sums_bounded text f e r =
    let o = each_role text f e in
    let few = (frame_prints_back text f e).within.passes in
    fewer (1048576 * length (frame_outcomes f)) _ (omega (arith, o.as_many, few)) _
    (few_for r (frame_outcomes f) (subst (All Small) (sym o.stats) (small_run (frame_corners f) (sheet_of f) (calls_of f))))
