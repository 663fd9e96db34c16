-- What the exported writers of a result leave, and that its length and the numbers of its lines are words. Assumes nothing.
use Rattle.std.specs.Prelude.{Result, Ok, Err}
use Rattle.refusal.specs.declared.Refusal.{Refusal}
use mathlib.Core.Path.{◌≡◌, refl, ap}
use mathlib.Core.Bool.{false, ◌||◌}
use mathlib.Core.List.{List}
use Prim.Native.Nat.{ℕ, zero, suc, ◌+◌, ◌-◌, ◌*◌, ◌<◌, ◌≤◌}
use native.Mathlib.Omega.{arith}
use borrow.Author.Tests.{ltb-false}
use lib.Dec.{ltb}
use lib.ListN.{length, length-append}
use Rattle.arguments.specs.Arguments.{Checked}
use Rattle.arguments.proofs.Chains.{or_false_both, not_refused}
use Rattle.role_counts.specs.RoleCounts.{RoledStats}
use Rattle.report_line.specs.Result.{lines_from, result_line, line_count, result_from}
use Rattle.report.specs.WriteResult.{TextLent, text_of, input_short, over_limit, wild, checked_rest, checked_text, TextOut, text_out, text_leaves, writes_text, piece_in, checked_piece, PieceOut, piece_out, piece_leaves, writes_piece}
use Rattle.report_words.specs.Outcomes.{outcomes_in}
use Rattle.report.specs.declared.lines.PieceEnd.{PieceEnd}
use Rattle.report.proofs.Joining.{no_lines, one_line_more}
use Rattle.report.proofs.Laws.{from_the_start, piece_joins, piece_stops, line_short}
use Rattle.report_words.proofs.Outcomes.{outcomes_length}
use Rattle.grid_words.specs.Frames.{Word}

-- ---- lengths

-- n lines of at most 127 bytes
lines_length : (line : ℕ → List ℕ) (k n : ℕ) → ((i : ℕ) → k ≤ i → i < k + n → length (line i) ≤ 127) → length (lines_from line k n) ≤ 127 * n
lines_length line k zero h = omega (arith, ap length (no_lines line k))
lines_length line k (suc n) h =
    let here = h k (omega arith) (omega arith) in
    let rest = lines_length line (suc k) n (λ i a b. h i (omega arith) (omega arith)) in
    omega (arith, ap length (one_line_more line k n), length-append (line k) (lines_from line (suc k) n), here, rest)

-- what nothing is refused of has few passes, and outcomes that can be printed
record Few (l : TextLent) : Type 0 where
  passes : l.passes ≤ 16
  tame : wild l ≡ false

few_passes : (l : TextLent) → over_limit l ≡ false → l.passes ≤ 16
unfolding over_limit
few_passes l e = ltb-false 16 l.passes (or_false_both (ltb 16 l.passes) _ e).0

module _ (l : TextLent) (few : Few l) where
  abbrev outcomes : List RoledStats
  outcomes = outcomes_in l.passes l.words

  from_length : (k : ℕ) → length (result_from outcomes l.sheet k) ≤ 127 * (line_count (length outcomes) - k)
  unfolding result_from
  from_length k =
      lines_length (result_line outcomes l.sheet) k (line_count (length outcomes) - k)
      (λ i a b. line_short l few.passes few.tame i (omega (arith, a, b, outcomes_length l.words 0 l.passes)))

  text_few : length (text_of l) < 4294967296
  text_few =
      omega (arith, ap length (from_the_start outcomes l.sheet), from_length 0, outcomes_length l.words 0 l.passes, few.passes)

  piece_few : (from room : ℕ) → from ≤ line_count l.passes → Word (length (piece_in l from room).text) × Word (piece_in l from room).next
  piece_few from room h =
      let p = piece_in l from room in
      let many = outcomes_length l.words 0 l.passes in
      let joins = ap length (piece_joins outcomes l.sheet from room p refl) in
      let stops = piece_stops outcomes l.sheet from room (omega (arith, h, many)) in (
        omega (arith, joins, length-append p.text (result_from outcomes l.sheet p.next), from_length from, many, few.passes),
        omega (arith, stops, many, few.passes),
      )

-- ---- the whole text

module _ (l : TextLent) (text : List ℕ) where
  text_cleared : checked_text l (length text) ≡ Ok tt → Few l
  unfolding checked_text checked_rest
  text_cleared e =
      let seven = not_refused (input_short l || ltb (length text) (length (text_of l))) _ _ e in
      let limits = not_refused (over_limit l) _ _ seven.1 in
      record { passes = few_passes l limits.0; tame = (not_refused (wild l) _ _ limits.1).0 }

  pub text_word : (text' : List ℕ) {n : ℕ} → text_out (Ok n) text' ≡ writes_text l text → Word n
  unfolding writes_text
  text_word text' {n} = go (checked_text l (length text)) refl
    where
      go : (k : Checked) → checked_text l (length text) ≡ k → text_out (Ok n) text' ≡ text_leaves k l text → Word n
      go (Ok tt) f w =
          let answers : ◌≡◌ {A = Result ℕ Refusal} (Ok n) (Ok (length (text_of l))) = ap (λ (o : TextOut). o.answer) w in
          let same : n ≡ length (text_of l) = cc in
          omega (arith, same, text_few l (text_cleared f))
      go (Err r) f w =
          let answers : ◌≡◌ {A = Result ℕ Refusal} (Ok n) (Err r) = ap (λ (o : TextOut). o.answer) w in
          absurd (cc)

-- ---- a piece

module _ (l : TextLent) (from : ℕ) (text : List ℕ) where
  piece_cleared : checked_piece l from (length text) ≡ Ok tt → Few l × (from ≤ line_count l.passes)
  unfolding checked_piece
  piece_cleared e =
      let seven = not_refused (input_short l || ltb (length text) 128) _ _ e in
      let limits = not_refused (over_limit l) _ _ seven.1 in
      let three = not_refused (wild l || ltb (line_count l.passes) from) _ _ limits.1 in
      let range = or_false_both (wild l) _ three.0 in
      (record { passes = few_passes l limits.0; tame = range.0 }, ltb-false (line_count l.passes) from range.1)

  pub piece_words : (text' : List ℕ) {end : PieceEnd} → piece_out (Ok end) text' ≡ writes_piece l from text → Word end.at × Word end.next
  unfolding writes_piece
  piece_words text' {end} = go (checked_piece l from (length text)) refl
    where
      go : (k : Checked) → checked_piece l from (length text) ≡ k → piece_out (Ok end) text' ≡ piece_leaves k (piece_in l from (length text)) text → Word end.at × Word end.next
      go (Ok tt) f w =
          let p = piece_in l from (length text) in
          let answers : ◌≡◌ {A = Result PieceEnd Refusal} (Ok end) (Ok (record { at = length p.text; next = p.next })) = ap (λ (o : PieceOut). o.answer) w in
          let same : end ≡ record { at = length p.text; next = p.next } = cc in
          let bytes : end.at ≡ length p.text = ap (λ (e : PieceEnd). e.at) same in
          let nexts : end.next ≡ p.next = ap (λ (e : PieceEnd). e.next) same in
          let clear = piece_cleared f in
          let few = piece_few l clear.0 from (length text) clear.1 in
          (omega (arith, bytes, few.0), omega (arith, nexts, few.1))
      go (Err r) f w =
          let answers : ◌≡◌ {A = Result PieceEnd Refusal} (Ok end) (Err r) = ap (λ (o : PieceOut). o.answer) w in
          absurd (cc)
