-- A frame without shade lines is as before document 02; and a frame without its shade lines is itself accepted. Assumes nothing.
use mathlib.Core.Path.{◌≡◌, refl, sym, ap, ◌∙◌}
use mathlib.Core.Bool.{Bool, true, false, cond}
use mathlib.Core.Logic.{◌⊎◌, inl, inr}
use mathlib.Core.List.{List, [], ◌∷◌, ◌++◌}
use Prim.Native.Nat.{ℕ, ◌<◌, ◌≤◌}
use native.Mathlib.Omega.{arith}
use borrow.Author.Tests.{eqb-true}
use lib.Dec.{eqb}
use lib.ListN.{length, length-append}
use Rattle.line_form.proofs.Every.{first_true, second_true}
use Rattle.frame_line.specs.Table.{rows, row_count, row_at, kind_at, turn_at, may_end}
use Rattle.frame_line.specs.Lines.{Line, kind_of, line_text}
use Rattle.std.proofs.Common.{Option, None, Some}
use Rattle.invariants.specs.Unshaded.{NoShade}
use Rattle.invariants.proofs.Unshaded.{as_before, calls_as_before}
use Rattle.frame.specs.Frame.{Frame, no_parts, parts_of}
use Rattle.join.specs.Rule.{All}
use Rattle.frame.specs.Text.{frame_text, InOrder, ends, next, InRange, WithinLimits}
use Rattle.frame.specs.ReadFrame.{shades_of}
use Rattle.frame_laws.specs.Shades.{is_shade, without_shades, AcceptedWithout}
use Rattle.frame_laws.specs.Calls.{frame_corners, FrameAsBefore}
use Rattle.frame_laws.proofs.Order.{rule, ruled}
use Rattle.frame_laws.proofs.Back.{frame_reads_back, frame_prints_back}
use Rattle.frame_laws.proofs.Shades.{shades_long, no_lines_stand, unshaded, parts_unshaded}
use Rattle.frame_laws.proofs.Runs.{same_length}

-- ---- no shade lines

no_shade : (f : Frame) → (parts_of f).shades ≡ [] → NoShade (frame_corners f) (shades_of f)
no_shade f e = record { long = omega (arith, same_length f, shades_long f); none = rw (same_length f) (no_lines_stand f e) }

pub unshaded_frame : FrameAsBefore
unshaded_frame f e = let w = no_shade f e in record { lent = calls_as_before (frame_corners f) (shades_of f) w; passes = as_before _ w.none }

-- ---- the shade lines taken out: the order of the others

-- the turn is to the stage t
abbrev goes : ℕ → Option ℕ → Bool
goes t None = false
goes t (Some u) = eqb u t

goes_to : (t : ℕ) (turn : Option ℕ) → goes t turn ≡ true → turn ≡ Some t
goes_to t None e = cc
goes_to t (Some u) e = ap Some (eqb-true u t e)

-- a shade line comes at stage 4, 5, 6 or 7 and leads to 7; where another comes at 7, it leads from 4, from 5 and from 6 to the same stage
shade_rule : ℕ → ℕ → ℕ → Bool
shade_rule s k t =
    cond (is_shade (kind_at k))
    (cond (eqb t 7) (cond (eqb s 4) true (cond (eqb s 5) true (cond (eqb s 6) true (eqb s 7)))) false)
    (cond (eqb s 7) (cond (goes t (turn_at 4 k)) (cond (goes t (turn_at 5 k)) (goes t (turn_at 6 k)) false) false) true)

shade_rule_lem : rule shade_rule ≡ true
unfolding shade_rule kind_at turn_at row_at rows
shade_rule_lem = refl

-- a stage before the shades: corners, labels, labels of the second set
data Before (s' : ℕ) : Type 0 where
  at_corners : s' ≡ 4 → Before s'
  at_labels : s' ≡ 5 → Before s'
  at_second : s' ≡ 6 → Before s'

-- the stage without the shade lines, and with them: the same, or 7 for the latter while the former is still before the shades
abbrev Behind : ℕ → ℕ → Type 0
Behind s' s = (s' ≡ s) ⊎ ((s ≡ 7) × Before s')

module _ (s k t : ℕ) (few : k < row_count) (e : turn_at s k ≡ Some t) where
  by_rule : shade_rule s k t ≡ true
  by_rule = ruled shade_rule shade_rule_lem s k t few e

  -- a shade line left out
  left_out : (s' : ℕ) → is_shade (kind_at k) ≡ true → Behind s' s → Behind s' t
  unfolding shade_rule
  left_out s' shade b = go b (eqb s 4) refl (eqb s 5) refl (eqb s 6) refl (second_true (eqb t 7) _ here)
    where
      here : cond (eqb t 7) (cond (eqb s 4) true (cond (eqb s 5) true (cond (eqb s 6) true (eqb s 7)))) false ≡ true
      here = rw shade at by_rule

      seven : t ≡ 7
      seven = eqb-true t 7 (first_true (eqb t 7) _ here)

      go : Behind s' s → (x : Bool) → eqb s 4 ≡ x → (y : Bool) → eqb s 5 ≡ y → (z : Bool) → eqb s 6 ≡ z
          → cond x true (cond y true (cond z true (eqb s 7))) ≡ true → Behind s' t
      go (inr m) x p y q z r h = inr (seven, m.1)
      go (inl m) true p y q z r h = inr (seven, at_corners (m ∙ eqb-true s 4 p))
      go (inl m) false p true q z r h = inr (seven, at_labels (m ∙ eqb-true s 5 q))
      go (inl m) false p false q true r h = inr (seven, at_second (m ∙ eqb-true s 6 r))
      go (inl m) false p false q false r h = inl (m ∙ eqb-true s 7 h ∙ sym seven)

  -- another line kept
  kept_on : (s' : ℕ) → is_shade (kind_at k) ≡ false → Behind s' s → turn_at s' k ≡ Some t
  unfolding shade_rule
  kept_on s' other (inl m) = ap (λ (i : ℕ). turn_at i k) m ∙ e
  kept_on s' other (inr m) = go m.1
    where
      here : cond (goes t (turn_at 4 k)) (cond (goes t (turn_at 5 k)) (goes t (turn_at 6 k)) false) false ≡ true
      here = rw (other, m.0) at by_rule

      later : cond (goes t (turn_at 5 k)) (goes t (turn_at 6 k)) false ≡ true
      later = second_true (goes t (turn_at 4 k)) _ here

      from : (i : ℕ) → s' ≡ i → goes t (turn_at i k) ≡ true → turn_at s' k ≡ Some t
      from i q h = ap (λ (j : ℕ). turn_at j k) q ∙ goes_to t (turn_at i k) h

      go : Before s' → turn_at s' k ≡ Some t
      go (at_corners q) = from 4 q (first_true (goes t (turn_at 4 k)) _ here)
      go (at_labels q) = from 5 q (first_true (goes t (turn_at 5 k)) _ later)
      go (at_second q) = from 6 q (second_true (goes t (turn_at 5 k)) _ later)

may_end_lem : (s' s : ℕ) → Behind s' s → may_end s ≡ true → may_end s' ≡ true
unfolding may_end
may_end_lem s' s (inl m) e = ap may_end m ∙ e
may_end_lem s' s (inr m) e = go m.1
  where
    go : Before s' → may_end s' ≡ true
    go (at_corners q) = ap may_end q
    go (at_labels q) = ap may_end q
    go (at_second q) = ap may_end q

order_without : (n s' s : ℕ) (ls : List Line) → All (InRange n) ls → InOrder s ls → Behind s' s → InOrder s' (without_shades ls)
unfolding without_shades
order_without n s' s ls r (ends e) b = ends (may_end_lem s' s b e)
order_without n s' s ls r (next {to = to} {ls = rest} l e o) b =
    go (is_shade (kind_of l)) refl (λ (i : ℕ) (c : Behind i to). order_without n i to rest r.1 o c)
  where
    few : l.row < row_count
    few = r.0.proper.few

    go : (x : Bool) → is_shade (kind_of l) ≡ x → ((i : ℕ) → Behind i to → InOrder i (without_shades rest))
        → InOrder s' (cond x (without_shades rest) (l ∷ without_shades rest))
    go true p w = w s' (left_out s l.row to few e s' p b)
    go false p w = next l (kept_on s l.row to few e s' p b) (w to (inl refl))

-- ---- its bytes and its numbers

bytes_without : (ls : List Line) → length (frame_text (without_shades ls)) ≤ length (frame_text ls)
unfolding frame_text without_shades
bytes_without [] = omega arith
bytes_without (l ∷ ls) = go (is_shade (kind_of l)) (bytes_without ls)
  where
    go : (x : Bool) → length (frame_text (without_shades ls)) ≤ length (frame_text ls)
        → length (frame_text (cond x (without_shades ls) (l ∷ without_shades ls))) ≤ length (line_text l ++ frame_text ls)
    go true h = omega (arith, length-append (line_text l) (frame_text ls))
    go false h = omega (arith, length-append (line_text l) (frame_text ls), length-append (line_text l) (frame_text (without_shades ls)))

all_without : (P : Line → Type 0) (ls : List Line) → All P ls → All P (without_shades ls)
unfolding without_shades
all_without P [] p = tt
all_without P (l ∷ ls) p = go (is_shade (kind_of l)) (all_without P ls p.1)
  where
    go : (x : Bool) → All P (without_shades ls) → All P (cond x (without_shades ls) (l ∷ without_shades ls))
    go true q = q
    go false q = (p.0, q)

-- ---- the law

pub within_without : (f : Frame) → WithinLimits f → WithinLimits (without_shades f)
unfolding parts_of
within_without f w =
    let e : parts_of (without_shades f) ≡ unshaded (parts_of f) = parts_unshaded no_parts f in
    record {
      bytes = omega (arith, w.bytes, bytes_without f);
      order = order_without (length (parts_of f).corners) 0 0 f w.numbers w.order (inl refl);
      numbers = rw e (all_without (InRange (length (parts_of f).corners)) f w.numbers);
      corners = rw e w.corners;
      passes = rw e w.passes;
      once = rw e w.once;
      second_once = rw e w.second_once;
      shaded_once = rw e tt;
      permitted = rw e w.permitted;
      joins = rw e w.joins;
    }

pub accepted_without : AcceptedWithout
accepted_without text f e = frame_reads_back (without_shades f) (within_without f (frame_prints_back text f e).within)
