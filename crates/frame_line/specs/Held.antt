-- A line as the code holds it: its row and a word for each number, an integer `offset` higher and cut to a size that a word has room for
-- (crate line_form, Held). Definitions only.
use Rattle.std.specs.Prelude.{Bool, false, ◌&&◌, ◌||◌, cond, List, [], ◌∷◌, ℕ, ◌+◌, ◌-◌, ◌*◌, min, ltb, eqb, pos, ◌-ℤ◌, get_or, Option, None, Some}
use Rattle.refusal.specs.declared.Refusal.{Refusal}
use Rattle.refusal.specs.Refusal.{number_of}
use Rattle.sheet.specs.declared.Cell.{Cell}
use Rattle.labels.specs.Labelled.{any_below}
use Rattle.line_form.specs.Integers.{offset}
use Rattle.line_form.specs.Held.{held_up_to}
use Rattle.frame_line.specs.Table.{sort_at}
use Rattle.frame_line.specs.Lines.{Line, LineRead, ill_formed, line}
use Rattle.frame_line.specs.Checks.{wild_bits, refusal_of}
use Rattle.frame_line.specs.declared.Sort.{Sort}
use Rattle.frame_line.specs.declared.HeldLine.{HeldLine}
use Rattle.frame_line.specs.declared.HeldLabel.{HeldLabel}
use Rattle.frame_line.specs.declared.HeldShade.{HeldShade}

abbrev pub held_line : Line → HeldLine
held_line l = record { row = l.row; values = held_up_to 5 l.numbers }

unfoldable pub held_read : LineRead → Option HeldLine
held_read ill_formed = None
held_read (line l) = Some (held_line l)

-- ---- what words say

-- the count that a word holds: itself from 0 to `offset`, and `offset` for any other
abbrev pub count_in : ℕ → ℕ
count_in w = cond (ltb w offset) offset (w - offset)

abbrev pub cell_in : ℕ → ℕ → Cell
cell_in i j = record { i = pos (min (2 * offset) i) -ℤ pos offset; j = pos (min (2 * offset) j) -ℤ pos offset }

abbrev pub label_in : List ℕ → HeldLabel
label_in v = record { corner = count_in (get_or v 0 0); cell = cell_in (get_or v 1 0) (get_or v 2 0) }

abbrev pub shade_in : List ℕ → HeldShade
shade_in v = record { corner = count_in (get_or v 0 0); kind = count_in (get_or v 1 0) }

-- ---- the checks of the words

abbrev pub beyond : ℕ → ℕ → ℕ → Bool
beyond low high w = ltb w low || ltb high w

abbrev pub wild_word : ℕ → Sort → ℕ → Bool
wild_word n (Sort.Float q) w = wild_bits q w
wild_word n (Sort.Whole refusal low high) w = beyond low high w
wild_word n Sort.Corner w = beyond offset (offset - 1 + n) w

unfoldable pub outside_word : ℕ → ℕ → Option Sort → ℕ → Bool
outside_word r n None w = false
outside_word r n (Some s) w = eqb r (refusal_of s) && wild_word n s w

abbrev pub outside_at : ℕ → ℕ → HeldLine → ℕ → Bool
outside_at r n l m = outside_word r n (sort_at l.row m) (get_or l.values m 0)

unfoldable pub outside_held : ℕ → ℕ → HeldLine → Bool
outside_held r n l = any_below 5 (outside_at r n l)

-- the refusal of each number, 0 where it has none
unfoldable pub refusal_in : ℕ → Option Sort → ℕ → ℕ
refusal_in n None w = 0
refusal_in n (Some s) w = cond (wild_word n s w) (refusal_of s) 0

-- the number of a refusal, 0 for none
abbrev pub number_or_0 : Option Refusal → ℕ
number_or_0 None = 0
number_or_0 (Some r) = number_of r

abbrev pub refusal_at : ℕ → HeldLine → ℕ → ℕ
refusal_at n l m = refusal_in n (sort_at l.row m) (get_or l.values m 0)

unfoldable pub refusals_in : ℕ → HeldLine → List ℕ
refusals_in n l = refusal_at n l 0 ∷ refusal_at n l 1 ∷ refusal_at n l 2 ∷ refusal_at n l 3 ∷ refusal_at n l 4 ∷ []

abbrev pub is_refusal : List ℕ → ℕ → ℕ → Bool
is_refusal found r m = eqb r (get_or found m 0)
