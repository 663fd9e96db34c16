-- The lines of a result are short: none is longer than 127 bytes. Assumes nothing.
use Rattle.std.specs.Prelude.{Option, Some, None}
use mathlib.Core.Path.{◌≡◌, refl}
use mathlib.Core.Bool.{Bool, true, false, cond}
use mathlib.Core.List.{List, [], ◌∷◌}
use Prim.Native.Nat.{ℕ, zero, suc, ◌+◌, ◌-◌, ◌*◌, ◌%◌, ◌≤◌, ◌<◌}
use native.Mathlib.Omega.{arith}
use borrow.Author.Tests.{ltb-true}
use lib.Dec.{ltb}
use lib.ListN.{length, get_or, length-append}
use lib.Ieee.{Float, binary32, to_bits}
use Rattle.sheet.specs.Cells.{OnSheet, cell_of}
use Rattle.sheet.specs.Words.{label_of, label_of_number, hole_of, ambiguous_of}
use Rattle.sheet.specs.declared.Cell.{Cell}
use Rattle.sheet.proofs.Laws.{cell_on_lem, line_i, line_j}
use Rattle.line_form.specs.Forms.{bytes, Number, bits, printed}
use Rattle.line_form.specs.Lengths.{slots}
use Rattle.line_form.proofs.Laws.{printed_length}
use Rattle.passes.specs.declared.Counts.{Counts}
use Rattle.passes.specs.declared.GrowStats.{GrowStats}
use Rattle.passes.specs.declared.FillStats.{FillStats}
use Rattle.passes.specs.declared.LocalStats.{LocalStats}
use Rattle.report_line.specs.Written.{largest_held, Few}
use Rattle.report_line.proofs.Wide.{Wide, printed_wide, count_wide, bits_wide}
use Rattle.report_line.specs.Result.{count, grow_form, fill_form, local_form, bare_local_form, four_counts, grow_line, fill_line, local_line_with, local_line, unmatched_line, local_lines, cell_numbers, label_line, cell_line, hole_line, ambiguous_line, sheet_line}

-- ---- pass lines

four_wide : (c : Counts) (rest : List Number) → Few c → Wide rest → Wide (four_counts c rest)
four_wide c rest h w = (count_wide _ h.attached, (count_wide _ h.no_candidate, (count_wide _ h.ambiguous, (count_wide _ h.edge, w))))

pub grow_short : (s : GrowStats) → Few s.counts → length (grow_line s) ≤ 127
unfolding grow_line slots
grow_short s h = go s.rim
  where
    go : (t : Bool) → length (printed (grow_form t) (four_counts s.counts [])) ≤ 127
    go true = let l : _ ≤ 19 + 9 * 4 = printed_wide (grow_form true) (four_counts s.counts []) (four_wide s.counts [] h tt) in omega arith
    go false = let l : _ ≤ 18 + 9 * 4 = printed_wide (grow_form false) (four_counts s.counts []) (four_wide s.counts [] h tt) in omega arith

pub fill_short : (s : FillStats) → s.added ≤ largest_held → s.iterations ≤ largest_held → length (fill_line s) ≤ 127
unfolding fill_line slots
fill_short s h r = go s.rim
  where
    two : Wide (count s.added ∷ count s.iterations ∷ [])
    two = (count_wide _ h, (count_wide _ r, tt))

    go : (t : Bool) → length (printed (fill_form t) (count s.added ∷ count s.iterations ∷ [])) ≤ 127
    go true = let l : _ ≤ 15 + 9 * 2 = printed_wide (fill_form true) (count s.added ∷ count s.iterations ∷ []) two in omega arith
    go false = let l : _ ≤ 14 + 9 * 2 = printed_wide (fill_form false) (count s.added ∷ count s.iterations ∷ []) two in omega arith

local_line_short : (s : LocalStats) → Few s.counts → s.iterations ≤ largest_held → length (local_line s) ≤ 78
unfolding local_line slots
local_line_short s h r = go s.residual s.rim
  where
    bare : List Number
    bare = four_counts s.counts (count s.iterations ∷ [])

    full : Float → List Number
    full x = four_counts s.counts (count s.iterations ∷ bits (to_bits binary32 x) ∷ [])

    bare_wide : Wide bare
    bare_wide = four_wide s.counts (count s.iterations ∷ []) h (count_wide _ r, tt)

    full_wide : (x : Float) → Wide (full x)
    full_wide x = four_wide s.counts (count s.iterations ∷ bits (to_bits binary32 x) ∷ []) h (count_wide _ r, (bits_wide (to_bits binary32 x), tt))

    go : (x : Option Float) (t : Bool) → length (local_line_with x (record { counts = s.counts; iterations = s.iterations; residual = x; rim = t; unmatched = s.unmatched })) ≤ 78
    go None true = let l : _ ≤ 27 + 9 * 5 = printed_wide (bare_local_form true) bare bare_wide in omega arith
    go None false = let l : _ ≤ 26 + 9 * 5 = printed_wide (bare_local_form false) bare bare_wide in omega arith
    go (Some x) true = let l : _ ≤ 24 + 9 * 6 = printed_wide (local_form true) (full x) (full_wide x) in omega arith
    go (Some x) false = let l : _ ≤ 23 + 9 * 6 = printed_wide (local_form false) (full x) (full_wide x) in omega arith

unmatched_short : (u : Option ℕ) → ((n : ℕ) → u ≡ Some n → n ≤ largest_held) → length (unmatched_line u) ≤ 23
unfolding unmatched_line slots
unmatched_short None h = omega arith
unmatched_short (Some n) h = let l : _ ≤ 14 + 9 * 1 = printed_wide (bytes "(unmatched #)\n") (count n ∷ []) (count_wide n (h n refl), tt) in omega arith

-- the two together
pub local_short : (s : LocalStats) → Few s.counts → s.iterations ≤ largest_held → ((n : ℕ) → s.unmatched ≡ Some n → n ≤ largest_held)
    → length (local_lines s) ≤ 127
unfolding local_lines
local_short s h r u = omega (arith, length-append (local_line s) (unmatched_line s.unmatched), local_line_short s h r, unmatched_short s.unmatched u)

-- ---- the sheet's lines

-- a word names a corner below 16,384
pub corner_small : (w k : ℕ) → label_of w ≡ Some k → k < 16384
unfolding label_of label_of_number
corner_small w k e = go (w % 16384) (omega arith) e
  where
    go : (n : ℕ) → n < 16384 → label_of_number n ≡ Some k → k < 16384
    go zero l d = let z : ◌≡◌ {A = ℕ} 0 1 = cc in omega arith
    go (suc n) l d = let z : n ≡ k = cc in omega arith

module _ (c : Cell) (on : OnSheet c) where
  pub label_short : (l : Option ℕ) → ((k : ℕ) → l ≡ Some k → k < 16384) → length (label_line c l) ≤ 127
  unfolding slots
  label_short None h = omega arith
  label_short (Some k) h =
      let small = h k refl in
      let i = (line_i c on).small in
      let j = (line_j c on).small in
      let l : _ ≤ 15 + 7 * 3 = printed_length (bytes "(cell (# #) #)\n") (cell_numbers c (count k ∷ [])) (omega arith, (omega arith, (omega arith, tt))) in omega arith

  pub hole_short : (t : Bool) → length (cond t (printed (bytes "(hole (# #))\n") (cell_numbers c [])) []) ≤ 127
  unfolding slots
  hole_short true =
      let i = (line_i c on).small in
      let j = (line_j c on).small in
      let l : _ ≤ 13 + 7 * 2 = printed_length (bytes "(hole (# #))\n") (cell_numbers c []) (omega arith, (omega arith, tt)) in omega arith
  hole_short false = omega arith

  pub ambiguous_short : (t : Bool) → length (cond t (printed (bytes "(ambiguous (# #))\n") (cell_numbers c [])) []) ≤ 127
  unfolding slots
  ambiguous_short true =
      let i = (line_i c on).small in
      let j = (line_j c on).small in
      let l : _ ≤ 18 + 7 * 2 = printed_length (bytes "(ambiguous (# #))\n") (cell_numbers c []) (omega arith, (omega arith, tt)) in omega arith
  ambiguous_short false = omega arith

pub sheet_short : (sheet : List ℕ) (k : ℕ) → k < 49152 → length (sheet_line sheet k) ≤ 127
unfolding sheet_line cell_line hole_line ambiguous_line
sheet_short sheet k h = go (ltb k 16384) (ltb k 32768) refl refl
  where
    go : (a b : Bool) → ltb k 16384 ≡ a → ltb k 32768 ≡ b
        → length (cond a (cell_line sheet k) (cond b (hole_line sheet (k - 16384)) (ambiguous_line sheet (k - 32768)))) ≤ 127
    go true b p q = label_short (cell_of k) (cell_on_lem k (ltb-true k 16384 p)) (label_of (get_or sheet k 0)) (corner_small (get_or sheet k 0))
    go false true p q = let l = ltb-true k 32768 q in hole_short (cell_of (k - 16384)) (cell_on_lem (k - 16384) (omega arith)) (hole_of (get_or sheet (k - 16384) 0))
    go false false p q = ambiguous_short (cell_of (k - 32768)) (cell_on_lem (k - 32768) (omega arith)) (ambiguous_of (get_or sheet (k - 32768) 0))
