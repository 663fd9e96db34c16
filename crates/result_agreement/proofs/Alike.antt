-- Where the runs of two frames agree, their results differ only in the corner numbers of their cell lines. Assumes nothing.
use Rattle.std.specs.Prelude.{Option, Some, None}
use mathlib.Core.Path.{◌≡◌, refl, ap, ◌∙◌}
use mathlib.Core.List.{List, [], ◌∷◌, ◌++◌}
use Prim.Native.Nat.{ℕ, zero, suc, ◌+◌, ◌<◌}
use native.Mathlib.Omega.{arith}
use lib.ListN.{get_or}
use Rattle.sheet.specs.Corners.{CornerLists}
use Rattle.sheet.specs.Cells.{cell_of}
use Rattle.sheet.specs.Words.{label_of}
use Rattle.sheet.specs.Pairing.{Shuffle, paired_label, PairedSheets}
use Rattle.passes.specs.Outcome.{Outcome}
use Rattle.passes.specs.Run.{Call, step, sheet_after, run, sheet_of as sheetAfterAll}
use Rattle.passes.specs.declared.PassStats.{PassStats}
use Rattle.role_counts.specs.RoleCounts.{RoledStats}
use Rattle.agreement.specs.Agreement.{both_refused, both_done, Agree, agree_end, agree_call}
use Rattle.frame.specs.Frame.{Frame, RoledPass, parts_of, read_frame, accepted}
use Rattle.frame.specs.ReadFrame.{sheet_of}
use Rattle.frame_laws.specs.Calls.{frame_corners, calls_of}
use Rattle.frame_agreement.proofs.Reordering.{frames_run_alike}
use Rattle.report_line.specs.Result.{pass_lines, role_lines, label_line, cell_line, hole_line, ambiguous_line, lines_from, all_places, heading, sheet_text, result_text}
use Rattle.frame_answer.specs.Answer.{outcomes_of, frame_outcomes, frame_sheet, answer_of, answer_text}
use Rattle.result_agreement.specs.Alike.{numbered_anew, cell_line_anew, renumbered_text, KeptNumbers, numbers, FramesAnswerAlike}

-- ---- the runs

agree_outcomes : {n : ℕ} {s : Shuffle n} (ps : List RoledPass) {sheet sheet' : List ℕ} {os os' : List (Outcome PassStats)} → Agree s sheet sheet' os os'
    → outcomes_of ps os' ≡ outcomes_of ps os
unfolding outcomes_of
agree_outcomes [] a = refl
agree_outcomes (p ∷ ps) (agree_end b) = refl
agree_outcomes (p ∷ ps) (agree_call b (both_refused r) rest) = agree_outcomes ps rest
agree_outcomes (p ∷ ps) (agree_call b (both_done same) rest) = λ t. record { role = p.role; stats = same.answer t } ∷ agree_outcomes ps rest t

module _ {n : ℕ} (s : Shuffle n) (l l' : CornerLists) where
  agree_sheets : (calls calls' : List Call) (sheet sheet' : List ℕ) → Agree s sheet sheet' (run l sheet calls) (run l' sheet' calls')
      → PairedSheets s (sheetAfterAll l sheet calls) (sheetAfterAll l' sheet' calls')
  unfolding run sheetAfterAll
  agree_sheets [] [] sheet sheet' (agree_end p) = p
  agree_sheets (c ∷ cs) (c' ∷ cs') sheet sheet' (agree_call p o rest) =
      agree_sheets cs cs' (sheet_after sheet (step l sheet c)) (sheet_after sheet' (step l' sheet' c')) rest
  agree_sheets [] (c' ∷ cs') sheet sheet' x'' = elim x'' [ ]
  agree_sheets (c ∷ cs) [] sheet sheet' x3 = elim x3 [ ]

-- ---- labels

paired_anew : {n : ℕ} (s : Shuffle n) (to : ℕ → ℕ) → ((k : ℕ) → s.to k ≡ to k) → (l : Option ℕ) → paired_label s l ≡ numbered_anew to l
unfolding paired_label numbered_anew
paired_anew s to e None = refl
paired_anew s to e (Some k) = ap Some (e k)

kept : (l : Option ℕ) → numbered_anew (λ k. k) l ≡ l
unfolding numbered_anew
kept None = refl
kept (Some k) = refl

-- ---- lines

same_lines : (g g' : ℕ → List ℕ) (k n : ℕ) → ((p : ℕ) → p < k + n → g' p ≡ g p) → lines_from g' k n ≡ lines_from g k n
unfolding lines_from
same_lines g g' k zero e = refl
same_lines g g' k (suc n) e = λ t. e k (omega arith) t ++ same_lines g g' (suc k) n (λ p h. e p (omega arith)) t

same_places : (g g' : ℕ → List ℕ) → ((p : ℕ) → p < 16384 → g' p ≡ g p) → all_places g' ≡ all_places g
same_places g g' e = same_lines g g' 0 16384 e

cell_kept : (sheet : List ℕ) (p : ℕ) → cell_line_anew (λ k. k) sheet p ≡ cell_line sheet p
unfolding cell_line_anew cell_line
cell_kept sheet p = ap (label_line (cell_of p)) (kept (label_of (get_or sheet p 0)))

pub kept_numbers : KeptNumbers
unfolding renumbered_text result_text sheet_text
kept_numbers outcomes sheet =
    ap (λ (cells : List ℕ). heading ++ (pass_lines outcomes ++ (role_lines outcomes ++ (cells ++ (all_places (hole_line sheet) ++ all_places (ambiguous_line sheet))))))
    (same_places (cell_line sheet) (cell_line_anew (λ k. k) sheet) (λ p h. cell_kept sheet p))

-- ---- two sheets

module _ {n : ℕ} (s : Shuffle n) (to : ℕ → ℕ) (e : (k : ℕ) → s.to k ≡ to k) (sheet sheet' : List ℕ) (both : PairedSheets s sheet sheet') where
  labels_anew : (p : ℕ) → p < 16384 → label_of (get_or sheet' p 0) ≡ numbered_anew to (label_of (get_or sheet p 0))
  labels_anew p h = both.labels p h ∙ paired_anew s to e (label_of (get_or sheet p 0))

  cells_anew : (p : ℕ) → p < 16384 → cell_line sheet' p ≡ cell_line_anew to sheet p
  unfolding cell_line cell_line_anew
  cells_anew p h = ap (label_line (cell_of p)) (labels_anew p h)

  holes_same : (p : ℕ) → p < 16384 → hole_line sheet' p ≡ hole_line sheet p
  unfolding hole_line
  holes_same p h = rw (both.holes p h) refl

  ambiguous_same : (p : ℕ) → p < 16384 → ambiguous_line sheet' p ≡ ambiguous_line sheet p
  unfolding ambiguous_line
  ambiguous_same p h = rw (both.ambiguous p h) refl

  text_anew : (outcomes : List RoledStats) → result_text outcomes sheet' ≡ renumbered_text to outcomes sheet
  unfolding result_text sheet_text renumbered_text
  text_anew outcomes =
      let cells = same_places (cell_line_anew to sheet) (cell_line sheet') cells_anew in
      let holes = same_places (hole_line sheet) (hole_line sheet') holes_same in
      let unclear = same_places (ambiguous_line sheet) (ambiguous_line sheet') ambiguous_same in
      λ t. heading ++ (pass_lines outcomes ++ (role_lines outcomes ++ (cells t ++ (holes t ++ unclear t))))

-- ---- the claim

answer_of_lem : (text : List ℕ) (f : Frame) → read_frame text ≡ accepted f → answer_text text ≡ result_text (frame_outcomes f) (frame_sheet f)
unfolding answer_text answer_of
answer_of_lem text f e = ap answer_of e

pub frames_answer_alike : FramesAnswerAlike
unfolding frame_outcomes frame_sheet
frames_answer_alike text text' f f' e e' same above =
    let alike = frames_run_alike text text' f f' e e' same in
    let s = alike.reordered.corners.pairs in
    let agree = alike.own_list above in
    let outcomes : frame_outcomes f' ≡ frame_outcomes f =
    ap (λ (ps : List RoledPass). outcomes_of ps (run (frame_corners f') (sheet_of f') (calls_of f'))) same.passes ∙ agree_outcomes (parts_of f).passes agree in
    let both : PairedSheets s (frame_sheet f) (frame_sheet f') =
    agree_sheets s (frame_corners f) (frame_corners f') (calls_of f) (calls_of f') (sheet_of f) (sheet_of f') agree in
    let to = numbers same in
    let so = alike.paired_to in
    record {
      outcomes = outcomes;
      roles = ap role_lines outcomes;
      labels = labels_anew s to so (frame_sheet f) (frame_sheet f') both;
      holes = holes_same s to so (frame_sheet f) (frame_sheet f') both;
      ambiguous = ambiguous_same s to so (frame_sheet f) (frame_sheet f') both;
      first_answer = answer_of_lem text f e;
      second_answer =
          answer_of_lem text' f' e' ∙ ap (λ (ss : List RoledStats). result_text ss (frame_sheet f')) outcomes
          ∙ text_anew s to so (frame_sheet f) (frame_sheet f') both (frame_outcomes f);
    }
