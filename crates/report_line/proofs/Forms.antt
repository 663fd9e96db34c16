-- The lines of a result from their forms and the words that hold their numbers. Assumes nothing.
use Rattle.std.specs.Prelude.{Option, None, Some}
use mathlib.Core.Path.{◌≡◌, refl, sym, ap, ◌∙◌}
use mathlib.Core.Bool.{Bool, true, false, not}
use mathlib.Core.List.{List, [], ◌∷◌}
use Prim.Native.Nat.{ℕ, suc, ◌+◌, ◌-◌, ◌≤◌, ◌<◌}
use native.Mathlib.Omega.{arith}
use borrow.Author.Tests.{lt-ltb, le-ltb}
use lib.IntN.{ℤ, pos, negsuc, nat_abs, ◌+ℤ◌}
use lib.Ieee.{Float, nan, inf, fin, binary32, to_bits, is_nan}
use lib.ListN.{length, get_or}
use lib.Dec.{T}
use mir.Syntax.{w32}
use mir.Val.{to_z, of_z}
use Rattle.binary32.specs.Ranges.{is_finite}
use Rattle.labels.proofs.Below.{no_both}
use Rattle.sheet.specs.Cells.{OnSheet, cell_of}
use Rattle.sheet.specs.Words.{label_of, hole_of, ambiguous_of}
use Rattle.sheet.proofs.Laws.{sub_hi, line_i, line_j, read_back, cell_on_lem}
use Rattle.line_form.specs.Forms.{bytes, Number, bits, whole, printed}
use Rattle.sheet.specs.declared.Cell.{Cell}
use Rattle.passes.specs.declared.Counts.{Counts}
use Rattle.passes.specs.declared.GrowStats.{GrowStats}
use Rattle.passes.specs.declared.FillStats.{FillStats}
use Rattle.passes.specs.declared.LocalStats.{LocalStats}
use Rattle.report_line.specs.Result.{count, grow_form, fill_form, local_form, bare_local_form, four_counts, grow_line, fill_line, local_line_with, local_line, unmatched_line, cell_numbers, label_line, cell_line, hole_line, ambiguous_line, sheet_line, heading}
use Rattle.report_line.specs.Written.{bare_local_text, full_local_text, BareAsked, FullAsked, LocalLineAsked, cell_text, CornerAsked, PlaceAsked, mark_line, TwoWholes, LineAsked}
use Rattle.report_line.proofs.Short.{corner_small}
use Rattle.line_form.specs.Written.{unheld_whole, unheld_number, unheld, form_text, Wrote}

-- ---- numbers as words hold them

pub held_count : (n : ℕ) → unheld_whole (1000000 + n) ≡ pos n
unfolding unheld_whole
held_count n = let e : 1000000 + n - 1000000 ≡ n = omega arith in rw (le-ltb (1000000 + n) 1000000 (omega arith), e)

abbrev pub raised : ℤ → ℕ
raised (pos n) = n + 1000000
raised (negsuc n) = 1000000 - suc n

pub raise : (z : ℤ) → nat_abs z ≤ 64 → z +ℤ pos 1000000 ≡ pos (raised z)
raise (pos n) h = refl
raise (negsuc n) h = sub_hi 1000000 (suc n) (omega arith)

pub raised_held : (z : ℤ) → nat_abs z ≤ 64 → unheld_whole (raised z) ≡ z
unfolding unheld_whole
raised_held (pos n) h = let e : n + 1000000 - 1000000 ≡ n = omega arith in rw (le-ltb (n + 1000000) 1000000 (omega arith), e)
raised_held (negsuc n) h = let e : 1000000 - (1000000 - suc n) ≡ suc n = omega arith in rw (lt-ltb (1000000 - suc n) 1000000 (omega arith), e)

pub raised_small : (z : ℤ) → nat_abs z ≤ 64 → raised z < 4294967296
raised_small (pos n) h = omega arith
raised_small (negsuc n) h = omega arith

-- ---- pass lines

-- the words of four counts
module _ (n : Counts) (a b c d : ℕ)
    (ea : unheld_whole a ≡ pos n.attached) (eb : unheld_whole b ≡ pos n.rejected_no_candidate)
    (ec : unheld_whole c ≡ pos n.rejected_ambiguous) (ed : unheld_whole d ≡ pos n.rejected_edge) where
  four : (rest more : List Number) → rest ≡ more → whole (unheld_whole a) ∷ whole (unheld_whole b) ∷ whole (unheld_whole c) ∷ whole (unheld_whole d) ∷ rest ≡ four_counts n more
  four rest more e = rw (ea, eb, ec, ed, e)

module _ (s : GrowStats) (a b c d : ℕ)
    (ea : unheld_whole a ≡ pos s.counts.attached) (eb : unheld_whole b ≡ pos s.counts.rejected_no_candidate)
    (ec : unheld_whole c ≡ pos s.counts.rejected_ambiguous) (ed : unheld_whole d ≡ pos s.counts.rejected_edge) where
  grow_rim : (t : Bool) → s.rim ≡ t → printed (grow_form t) (four_counts s.counts []) ≡ grow_line s
  unfolding grow_line
  grow_rim t e = ap (λ (r : Bool). printed (grow_form r) (four_counts s.counts [])) (sym e)

  pub grow_yes : s.rim ≡ true → form_text (bytes "(grow # # # # yes)\n") (a ∷ b ∷ c ∷ d ∷ []) ≡ grow_line s
  unfolding form_text unheld unheld_number
  grow_yes e = ap (printed (grow_form true)) (four s.counts a b c d ea eb ec ed [] [] refl) ∙ grow_rim true e

  pub grow_no : s.rim ≡ false → form_text (bytes "(grow # # # # no)\n") (a ∷ b ∷ c ∷ d ∷ []) ≡ grow_line s
  unfolding form_text unheld unheld_number
  grow_no e = ap (printed (grow_form false)) (four s.counts a b c d ea eb ec ed [] [] refl) ∙ grow_rim false e

module _ (s : FillStats) (a b : ℕ) (ea : unheld_whole a ≡ pos s.added) (eb : unheld_whole b ≡ pos s.iterations) where
  two : whole (unheld_whole a) ∷ whole (unheld_whole b) ∷ [] ≡ count s.added ∷ count s.iterations ∷ []
  two = rw (ea, eb)

  fill_rim : (t : Bool) → s.rim ≡ t → printed (fill_form t) (count s.added ∷ count s.iterations ∷ []) ≡ fill_line s
  unfolding fill_line
  fill_rim t e = ap (λ (r : Bool). printed (fill_form r) (count s.added ∷ count s.iterations ∷ [])) (sym e)

  pub fill_yes : s.rim ≡ true → form_text (bytes "(fill # # yes)\n") (a ∷ b ∷ []) ≡ fill_line s
  unfolding form_text unheld unheld_number
  fill_yes e = ap (printed (fill_form true)) two ∙ fill_rim true e

  pub fill_no : s.rim ≡ false → form_text (bytes "(fill # # no)\n") (a ∷ b ∷ []) ≡ fill_line s
  unfolding form_text unheld unheld_number
  fill_no e = ap (printed (fill_form false)) two ∙ fill_rim false e

module _ (s : LocalStats) (a b c d f : ℕ)
    (ea : unheld_whole a ≡ pos s.counts.attached) (eb : unheld_whole b ≡ pos s.counts.rejected_no_candidate)
    (ec : unheld_whole c ≡ pos s.counts.rejected_ambiguous) (ed : unheld_whole d ≡ pos s.counts.rejected_edge)
    (ef : unheld_whole f ≡ pos s.iterations) where
  five : (rest : List Number) → whole (unheld_whole a) ∷ whole (unheld_whole b) ∷ whole (unheld_whole c) ∷ whole (unheld_whole d) ∷ whole (unheld_whole f) ∷ rest ≡ four_counts s.counts (count s.iterations ∷ rest)
  five rest = four s.counts a b c d ea eb ec ed (whole (unheld_whole f) ∷ rest) (count s.iterations ∷ rest) (rw ef)

  bare_rim : (t : Bool) → s.rim ≡ t → printed (bare_local_form t) (four_counts s.counts (count s.iterations ∷ [])) ≡ bare_local_text s
  bare_rim t e = ap (λ (r : Bool). printed (bare_local_form r) (four_counts s.counts (count s.iterations ∷ []))) (sym e)

  pub bare_yes : s.rim ≡ true → form_text (bytes "(local # # # # # none yes)\n") (a ∷ b ∷ c ∷ d ∷ f ∷ []) ≡ bare_local_text s
  unfolding form_text unheld unheld_number
  bare_yes e = ap (printed (bare_local_form true)) (five []) ∙ bare_rim true e

  pub bare_no : s.rim ≡ false → form_text (bytes "(local # # # # # none no)\n") (a ∷ b ∷ c ∷ d ∷ f ∷ []) ≡ bare_local_text s
  unfolding form_text unheld unheld_number
  bare_no e = ap (printed (bare_local_form false)) (five []) ∙ bare_rim false e

  module _ (x : Float) where
    full_rim : (t : Bool) → s.rim ≡ t → printed (local_form t) (four_counts s.counts (count s.iterations ∷ bits (to_bits binary32 x) ∷ [])) ≡ full_local_text s x
    full_rim t e = ap (λ (r : Bool). printed (local_form r) (four_counts s.counts (count s.iterations ∷ bits (to_bits binary32 x) ∷ []))) (sym e)

    pub full_yes : s.rim ≡ true → form_text (bytes "(local # # # # # % yes)\n") (a ∷ b ∷ c ∷ d ∷ f ∷ to_bits binary32 x ∷ []) ≡ full_local_text s x
    unfolding form_text unheld unheld_number
    full_yes e = ap (printed (local_form true)) (five (bits (to_bits binary32 x) ∷ [])) ∙ full_rim true e

    pub full_no : s.rim ≡ false → form_text (bytes "(local # # # # # % no)\n") (a ∷ b ∷ c ∷ d ∷ f ∷ to_bits binary32 x ∷ []) ≡ full_local_text s x
    unfolding form_text unheld unheld_number
    full_no e = ap (printed (local_form false)) (five (bits (to_bits binary32 x) ∷ [])) ∙ full_rim false e

pub unmatched_form : (n a : ℕ) → unheld_whole a ≡ pos n → form_text (bytes "(unmatched #)\n") (a ∷ []) ≡ unmatched_line (Some n)
unfolding form_text unheld unheld_number unmatched_line
unmatched_form n a e = rw e refl

-- ---- the sheet's lines

module _ (c : Cell) (a b : ℕ) (ea : unheld_whole a ≡ c.i) (eb : unheld_whole b ≡ c.j) where
  cell_two : (rest more : List Number) → rest ≡ more → whole (unheld_whole a) ∷ whole (unheld_whole b) ∷ rest ≡ cell_numbers c more
  cell_two rest more e = rw (ea, eb, e)

  pub cell_form : (k d : ℕ) → unheld_whole d ≡ pos k → form_text (bytes "(cell (# #) #)\n") (a ∷ b ∷ d ∷ []) ≡ cell_text c k
  unfolding form_text unheld unheld_number
  cell_form k d ed = ap (printed (bytes "(cell (# #) #)\n")) (cell_two (whole (unheld_whole d) ∷ []) (count k ∷ []) (rw ed))

  -- a form that takes two integers
  pub mark_form : (form : List ℕ) → TwoWholes form → form_text form (a ∷ b ∷ []) ≡ printed form (cell_numbers c [])
  unfolding form_text
  mark_form form w = ap (printed form) (w.takes a b ∙ cell_two [] [] refl)

-- the two forms of marks
pub hole_form : TwoWholes (bytes "(hole (# #))\n")
unfolding unheld unheld_number
hole_form = record { takes = λ a b. refl }

pub ambiguous_form : TwoWholes (bytes "(ambiguous (# #))\n")
unfolding unheld unheld_number
ambiguous_form = record { takes = λ a b. refl }

pub heading_form : (words : List ℕ) → form_text (bytes "(result 1)\n") words ≡ heading
unfolding form_text unheld printed
heading_form words = refl

-- ---- a line of the sheet by its number

module _ (sheet : List ℕ) (k : ℕ) where
  pub among_cells : k < 16384 → cell_line sheet k ≡ sheet_line sheet k
  unfolding sheet_line
  among_cells h = rw (lt-ltb k 16384 h)

  pub among_holes : 16384 ≤ k → k < 32768 → hole_line sheet (k - 16384) ≡ sheet_line sheet k
  unfolding sheet_line
  among_holes h l = rw (le-ltb k 16384 h, lt-ltb k 32768 l)

  pub among_ambiguous : 32768 ≤ k → ambiguous_line sheet (k - 32768) ≡ sheet_line sheet k
  unfolding sheet_line
  among_ambiguous h = rw (le-ltb k 16384 (omega arith), le-ltb k 32768 h)

-- ---- what is asked and left, by another name of the line

pub same_room : (text line out : List ℕ) → text ≡ line → length line ≤ length out → length text ≤ length out
same_room text line out e h = rw e h

pub same_wrote : (text line old new : List ℕ) (n : ℕ) → text ≡ line → Wrote text old new n → Wrote line old new n
same_wrote text line old new n e w = rw (← e) w

pub nothing_written : (line out : List ℕ) → line ≡ [] → Wrote line out out 0
nothing_written line out e = rw e (record { count = refl; part = refl })

-- ---- numbers as they are passed on

pub no_nan : (x : Float) → is_finite x ≡ true → T (not (is_nan x))
unfolding is_finite is_nan
no_nan nan e = absurd (no_both true refl (sym e))
no_nan (inf s) e = tt
no_nan (fin s m e) h = tt

module _ (c : Cell) (on : OnSheet c) where
  -- i and j arrive as they are
  same_i : to_z w32 (of_z w32 c.i) ≡ c.i
  same_i = let l = (line_i c on).small in read_back c.i (omega arith)

  same_j : to_z w32 (of_z w32 c.j) ≡ c.j
  same_j = let l = (line_j c on).small in read_back c.j (omega arith)

  pub small_i : nat_abs (to_z w32 (of_z w32 c.i)) ≤ 64
  small_i = rw same_i (line_i c on).small

  pub small_j : nat_abs (to_z w32 (of_z w32 c.j)) ≤ 64
  small_j = rw same_j (line_j c on).small

  pub held_i : (r : ℕ) → unheld_whole r ≡ to_z w32 (of_z w32 c.i) → unheld_whole r ≡ c.i
  held_i r e = e ∙ same_i

  pub held_j : (r : ℕ) → unheld_whole r ≡ to_z w32 (of_z w32 c.j) → unheld_whole r ≡ c.j
  held_j r e = e ∙ same_j

-- ---- a local line by its residual

module _ (s : LocalStats) (out : List ℕ) where
  pub bare_line : s.residual ≡ None → bare_local_text s ≡ local_line s
  unfolding local_line
  bare_line e = ap (λ (x : Option Float). local_line_with x s) (sym e)

  pub bare_asked : LocalLineAsked s out → s.residual ≡ None → BareAsked s out
  bare_asked a e = record { few = a.few; rounds = a.rounds; room = same_room _ _ out (bare_line e) a.room }

  module _ (x : Float) where
    pub full_line : s.residual ≡ Some x → full_local_text s x ≡ local_line s
    unfolding local_line
    full_line e = ap (λ (y : Option Float). local_line_with y s) (sym e)

    pub full_asked : LocalLineAsked s out → s.residual ≡ Some x → FullAsked s x out
    full_asked a e = record { few = a.few; rounds = a.rounds; finite = a.finite x e; room = same_room _ _ out (full_line e) a.room }

-- ---- the line of a place, by what the place holds

-- the line of a mark that a place has
pub mark_is : (marked : Bool) (form : List ℕ) (place : ℕ) (c : Cell) → c ≡ cell_of place → marked ≡ true → printed form (cell_numbers c []) ≡ mark_line marked form place
mark_is marked form place c here e = rw (here, e) refl

pub hole_is : (sheet : List ℕ) (place : ℕ) {r : Bool} → r ≡ hole_of (get_or sheet place 0) → mark_line r (bytes "(hole (# #))\n") place ≡ hole_line sheet place
unfolding hole_line
hole_is sheet place e = rw e refl

pub ambiguous_is : (sheet : List ℕ) (place : ℕ) {r : Bool} → r ≡ ambiguous_of (get_or sheet place 0) → mark_line r (bytes "(ambiguous (# #))\n") place ≡ ambiguous_line sheet place
unfolding ambiguous_line
ambiguous_is sheet place e = rw e refl

pub cell_on : (place : ℕ) (c : Cell) → c ≡ cell_of place → place < 16384 → OnSheet c
cell_on place c here h = rw here (cell_on_lem place h)

module _ (sheet : List ℕ) (place : ℕ) where
  pub no_cell : label_of (get_or sheet place 0) ≡ None → cell_line sheet place ≡ []
  unfolding cell_line
  no_cell e = rw e

  module _ (c : Cell) (here : c ≡ cell_of place) where
    pub cell_is : (k : ℕ) → label_of (get_or sheet place 0) ≡ Some k → cell_text c k ≡ cell_line sheet place
    unfolding cell_line
    cell_is k e = ap (λ (d : Cell). label_line d (Some k)) here ∙ ap (label_line (cell_of place)) (sym e)

    module _ (out : List ℕ) where
      pub corner_asked : (k : ℕ) → label_of (get_or sheet place 0) ≡ Some k → PlaceAsked sheet place (cell_line sheet place) out → CornerAsked c k out
      corner_asked k e a =
          record { on = cell_on place c here a.on.below; small = corner_small (get_or sheet place 0) k e; room = same_room _ _ out (cell_is k e) a.room }

pub place_asked : (sheet : List ℕ) (k place : ℕ) (line text out : List ℕ) → place < 16384 → text ≡ line → LineAsked sheet k line out → PlaceAsked sheet place text out
place_asked sheet k place line text out h e a =
    record { on = record { there = a.on.there; below = h }; room = same_room text line out e a.room }
