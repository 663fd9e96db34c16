-- Laws of a result's text: from line 0 on it is the whole text, its pieces join to it, and no line is longer than 127 bytes. Assumes nothing.
use mathlib.Core.Path.{◌≡◌, refl, sym, ap, ap₂, ◌∙◌}
use mathlib.Core.Bool.{Bool, false, cond}
use mathlib.Core.List.{List, [], ◌∷◌, ◌++◌, append-nil}
use Prim.Native.Nat.{ℕ, suc, ◌+◌, ◌-◌, ◌≤◌, ◌<◌}
use native.Mathlib.Omega.{arith}
use borrow.Author.Tests.{lt-ltb, le-ltb}
use lib.ListN.{length}
use Rattle.role_counts.specs.RoleCounts.{RoledStats}
use Rattle.roles.specs.Roles.{role_numbered}
use Rattle.roles.specs.declared.Role.{Role}
use Rattle.report_line.specs.Result.{pass_line, pass_lines, line_of_role, role_lines, cell_line, hole_line, ambiguous_line, lines_from, all_places, heading, sheet_text, result_text, pass_line_at, sheet_line, after_passes, after_heading, result_line, line_count, result_from, Piece, result_piece}
use Rattle.report.specs.WriteResult.{TextLent, wild}
use Rattle.report_words.specs.Outcomes.{outcomes_in}
use Rattle.report.proofs.Numbered.{behind_roles}
use Rattle.report.proofs.Short as short
use Rattle.report.proofs.Joining.{one_line_more, lines_split, lines_same, Cut, cut, moves, fits}

-- ---- from line 0 on it is the whole text

pass_lines_lem : (outcomes : List RoledStats) → lines_from (pass_line_at outcomes) 0 (length outcomes) ≡ pass_lines outcomes
unfolding pass_lines lines_from
pass_lines_lem [] = refl
pass_lines_lem (s ∷ ss) = ap (λ (l : List ℕ). pass_line s.stats ++ l) (lines_same (pass_line_at (s ∷ ss)) (pass_line_at ss) 1 0 (length ss) (λ a b l m e. let d : a ≡ suc b = omega arith in rw d) ∙ pass_lines_lem ss)

-- three walks over n places are one walk over three times as many lines
three_walks : (all f g h : ℕ → List ℕ) (n : ℕ) → ((i : ℕ) → i < n → all i ≡ f i) → ((i : ℕ) → n ≤ i → i < n + n → all i ≡ g (i - n))
    → ((i : ℕ) → n + n ≤ i → all i ≡ h (i - (n + n))) → lines_from all 0 (n + (n + n)) ≡ lines_from f 0 n ++ (lines_from g 0 n ++ lines_from h 0 n)
three_walks all f g h n p q r =
    let z : 0 + n ≡ n = omega arith in
    lines_split all 0 n (n + n)
    ∙ rw z (ap₂ ◌++◌ (lines_same all f 0 0 n (λ a b l m e. first a b (omega arith) (omega arith)))
    (lines_split all n n n ∙ ap₂ ◌++◌ (lines_same all g n 0 n (λ a b l m e. second a b (omega arith) (omega arith) (omega arith))) (lines_same all h (n + n) 0 n (λ a b l m e. third a b (omega arith) (omega arith)))))
  where
    first : (a b : ℕ) → a ≡ b → a < n → all a ≡ f b
    first a b e l = p a l ∙ ap f e

    second : (a b : ℕ) → a - n ≡ b → n ≤ a → a < n + n → all a ≡ g b
    second a b e l m = q a l m ∙ ap g e

    third : (a b : ℕ) → a - (n + n) ≡ b → n + n ≤ a → all a ≡ h b
    third a b e l = r a l ∙ ap h e

sheet_lines_lem : (sheet : List ℕ) → lines_from (sheet_line sheet) 0 49152 ≡ all_places (cell_line sheet) ++ (all_places (hole_line sheet) ++ all_places (ambiguous_line sheet))
unfolding sheet_line
sheet_lines_lem sheet =
    three_walks (sheet_line sheet) (cell_line sheet) (hole_line sheet) (ambiguous_line sheet) 16384
    (λ i l. rw (lt-ltb i 16384 l))
    (λ i l m. rw (le-ltb i 16384 l, lt-ltb i 32768 m))
    (λ i l. rw (le-ltb i 16384 (omega arith), le-ltb i 32768 l))

-- the lines behind the passes': three of the roles, in order, and the sheet's
module _ (outcomes : List RoledStats) (sheet : List ℕ) where
  role_part : lines_from (after_passes outcomes sheet) 0 3 ≡ role_lines outcomes
  unfolding lines_from role_lines after_passes role_numbered
  role_part = ap (λ (l : List ℕ). line_of_role outcomes Role.Plant ++ (line_of_role outcomes Role.Depot ++ l)) (append-nil (line_of_role outcomes Role.Dealer))

  behind_roles_lem : (n : ℕ) → lines_from (after_passes outcomes sheet) 3 n ≡ lines_from (sheet_line sheet) 0 n
  behind_roles_lem n =
      lines_same (after_passes outcomes sheet) (sheet_line sheet) 3 0 n
      (λ a b l m e. let d : a ≡ 3 + b = omega arith in ap (after_passes outcomes sheet) d ∙ sym (behind_roles outcomes sheet b))

  after_part : lines_from (after_passes outcomes sheet) 0 49155 ≡ role_lines outcomes ++ sheet_text sheet
  unfolding sheet_text
  after_part = lines_split (after_passes outcomes sheet) 0 3 49152 ∙ ap₂ ◌++◌ role_part (behind_roles_lem 49152 ∙ sheet_lines_lem sheet)

module _ (outcomes : List RoledStats) (sheet : List ℕ) where
  -- the lines after the heading
  behind : (n : ℕ) → lines_from (result_line outcomes sheet) 1 n ≡ lines_from (after_heading outcomes sheet) 0 n
  unfolding result_line
  behind n = lines_same (result_line outcomes sheet) (after_heading outcomes sheet) 1 0 n (λ a b l m e. let d : a ≡ suc b = omega arith in rw d)

  pass_part : lines_from (after_heading outcomes sheet) 0 (length outcomes) ≡ pass_lines outcomes
  pass_part = lines_same (after_heading outcomes sheet) (pass_line_at outcomes) 0 0 (length outcomes) (λ a b l m e. same a b (omega arith) (omega arith)) ∙ pass_lines_lem outcomes
    where
      same : (a b : ℕ) → a ≡ b → a < length outcomes → after_heading outcomes sheet a ≡ pass_line_at outcomes b
      same a b e l =
          ap (λ (t : Bool). cond t (pass_line_at outcomes a) (after_passes outcomes sheet (a - length outcomes))) (lt-ltb a (length outcomes) l)
          ∙ ap (pass_line_at outcomes) e

  rest_part : (n : ℕ) → lines_from (after_heading outcomes sheet) (length outcomes) n ≡ lines_from (after_passes outcomes sheet) 0 n
  rest_part n = lines_same (after_heading outcomes sheet) (after_passes outcomes sheet) (length outcomes) 0 n (λ a b l m e. same a b (omega arith) l)
    where
      same : (a b : ℕ) → a - length outcomes ≡ b → length outcomes ≤ a → after_heading outcomes sheet a ≡ after_passes outcomes sheet b
      same a b e l =
          ap (λ (t : Bool). cond t (pass_line_at outcomes a) (after_passes outcomes sheet (a - length outcomes))) (le-ltb a (length outcomes) l)
          ∙ ap (after_passes outcomes sheet) e

  pub from_the_start : result_from outcomes sheet 0 ≡ result_text outcomes sheet
  unfolding result_from result_text result_line
  from_the_start =
      ap (lines_from (result_line outcomes sheet) 0) whole
      ∙ one_line_more (result_line outcomes sheet) 0 (length outcomes + 49155)
      ∙ ap (λ (l : List ℕ). heading ++ l)
      (behind (length outcomes + 49155)
      ∙ lines_split (after_heading outcomes sheet) 0 (length outcomes) 49155
      ∙ ap₂ ◌++◌ pass_part (ap (λ (k : ℕ). lines_from (after_heading outcomes sheet) k 49155) none ∙ rest_part 49155 ∙ after_part outcomes sheet))
    where
      whole : line_count (length outcomes) - 0 ≡ line_count (length outcomes)
      whole = omega arith

      none : 0 + length outcomes ≡ length outcomes
      none = omega arith

  -- ---- a piece

  module _ (k room : ℕ) where
    left : (next : ℕ) → k ≤ next → k + (line_count (length outcomes) - k) - next ≡ line_count (length outcomes) - next
    left next h = omega arith

    of : Cut (result_line outcomes sheet) (line_count (length outcomes) - k) k (result_piece outcomes sheet k room)
    unfolding result_piece
    of = cut (result_line outcomes sheet) (line_count (length outcomes) - k) k room

    -- a piece and the text from its next line on are the text from its first line on
    pub piece_joins : (p : Piece) → p ≡ result_piece outcomes sheet k room → p.text ++ result_from outcomes sheet p.next ≡ result_from outcomes sheet k
    unfolding result_from
    piece_joins p e = rw (e, ← left (result_piece outcomes sheet k room).next of.from) of.joins

    -- it is some lines long, if there is room for any line, and goes no further than the last
    pub piece_moves : k < line_count (length outcomes) → 128 ≤ room → k < (result_piece outcomes sheet k room).next
    unfolding result_piece
    piece_moves h r = moves (result_line outcomes sheet) (line_count (length outcomes) - k) k room (omega arith) r

    pub piece_stops : k ≤ line_count (length outcomes) → (result_piece outcomes sheet k room).next ≤ line_count (length outcomes)
    piece_stops h = let high = of.upto in omega arith

    -- and no longer than the room, if no line is longer than 127 bytes
    pub piece_fits : ((i : ℕ) → i < line_count (length outcomes) → length (result_line outcomes sheet i) ≤ 127) → length (result_piece outcomes sheet k room).text ≤ room
    unfolding result_piece
    piece_fits short = fits (result_line outcomes sheet) (line_count (length outcomes) - k) k room (λ i a b. short i (omega arith))

-- ---- what is lent

module _ (l : TextLent) (few : l.passes ≤ 16) (tame : wild l ≡ false) where
  -- "No line is longer than 127 bytes"
  pub line_short : (k : ℕ) → k < line_count l.passes → length (result_line (outcomes_in l.passes l.words) l.sheet k) ≤ 127
  line_short k h = short.line_short l few tame k h
