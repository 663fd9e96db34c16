-- The turns of the order of lines, patterns that are not finite, and the refusals of a line's numbers. Assumes nothing.
use mathlib.Core.Path.{◌≡◌, refl, sym, ap, ap₂, subst, ◌∙◌}
use mathlib.Core.Bool.{Bool, true, false, not, ◌&&◌, ◌||◌, true≢false, and-true, and-false, cond}
use mathlib.Core.List.{List, []}
use Prim.Native.Nat.{ℕ, ◌%◌, ◌<◌, ◌≤◌}
use native.Mathlib.Nat.{lt_of_not-le}
use native.Mathlib.Omega.{arith}
use borrow.Author.Tests.{ne_eqb}
use lib.Dec.{eqb}
use lib.ListN.{get_or, take, length-take, get_or-eq_default}
use lib.Ieee.{binary32, of_bits}
use Rattle.labels.specs.Labelled.{any_below}
use Rattle.arguments.specs.Arguments.{outside}
use Rattle.binary32.specs.Ranges.{in_range}
use Rattle.binary32.specs.declared.ranges.Quantity.{Quantity}
use Rattle.binary32.proofs.Finite.{infinite_bits, in_range_finite}
use Rattle.frame_line.specs.Table.{rows, row_count, stage_count, row_at, turn_by, turn_at, sort_at}
use Rattle.frame_line.specs.Checks.{wild_bits, refusal_of}
use Rattle.frame_line.specs.Held.{wild_word, outside_word, outside_at, outside_held, refusal_in, refusal_at, refusals_in, is_refusal}
use Rattle.frame_line.specs.declared.HeldLine.{HeldLine}
use Rattle.frame_line.specs.declared.Sort.{Sort}
use Rattle.std.proofs.Common.{Option, None, Some}
use Rattle.frame_line.proofs.Rows.{rows_long}

pub no_row : (stage k : ℕ) → row_count ≤ k → None ≡ turn_at stage k
unfolding turn_at row_at
no_row stage k h =
    ap (λ (r : List ℕ). turn_by (get_or (take stage_count r) stage 46)) (sym (get_or-eq_default rows [] {n = k} (subst (λ (n : ℕ). n ≤ k) (sym rows_long) h)))

pub no_stage : (stage k : ℕ) → stage_count ≤ stage → None ≡ turn_at stage k
unfolding turn_at
no_stage stage k h = ap turn_by (sym (get_or-eq_default (take stage_count (row_at k)) 46 {n = stage} (simp length-take (omega arith))))

-- what is not finite is in no range
pub wild_infinite : (q : Quantity) (b : ℕ) → 0x7f80_0000 ≤ b % 0x8000_0000 → wild_bits q b ≡ true
unfolding wild_bits outside
wild_infinite q b h = go (in_range q (of_bits binary32 b)) refl
  where
    go : (t : Bool) → in_range q (of_bits binary32 b) ≡ t → not t ≡ true
    go true e = absurd (true≢false (sym (in_range_finite q (of_bits binary32 b) e) ∙ infinite_bits b h))
    go false e = refl

-- so a pattern in a range is finite
pub tame_finite : (q : Quantity) (b : ℕ) → wild_bits q b ≡ false → b % 0x8000_0000 < 0x7f80_0000
tame_finite q b e = lt_of_not-le (λ h. true≢false (sym (wild_infinite q b h) ∙ e))

-- ---- the refusals of a line's numbers

refusal_is : (n : ℕ) (s : Option Sort) (w r : ℕ) → 0 < r → eqb r (refusal_in n s w) ≡ outside_word r n s w
unfolding refusal_in outside_word
refusal_is n None w r h = ne_eqb r 0 (λ e. omega arith)
refusal_is n (Some s) w r h = go (wild_word n s w)
  where
    go : (t : Bool) → eqb r (cond t (refusal_of s) 0) ≡ (eqb r (refusal_of s) && t)
    go true = sym (and-true (eqb r (refusal_of s)))
    go false = ne_eqb r 0 (λ e. omega arith) ∙ sym (and-false (eqb r (refusal_of s)))

-- a refusal is found exactly if a number has it
pub has_is : (n : ℕ) (l : HeldLine) {found : List ℕ} {r : ℕ} {b : Bool} → 0 < r → found ≡ refusals_in n l → b ≡ any_below 5 (is_refusal found r)
    → b ≡ outside_held r n l
unfolding refusals_in outside_held any_below
has_is n l {r = r} h e f =
    f ∙ ap (λ (x : List ℕ). any_below 5 (is_refusal x r)) e ∙ ap₂ ◌||◌ (one 4) (ap₂ ◌||◌ (one 3) (ap₂ ◌||◌ (one 2) (ap₂ ◌||◌ (one 1) (ap₂ ◌||◌ (one 0) refl))))
  where
    one : (m : ℕ) → eqb r (refusal_at n l m) ≡ outside_at r n l m
    one m = refusal_is n (sort_at l.row m) (get_or l.values m 0) r h
