-- The sheet of a frame's given labels: each given label's cell holds its corner, no other cell holds one, and there are no marks. So it belongs
-- to the frame's corners, each corner at one cell. Assumes nothing.
use Rattle.std.specs.Prelude.{Some}
use mathlib.Core.Path.{◌≡◌, refl, sym, ap, subst, ◌∙◌}
use mathlib.Core.Bool.{Bool, true, false}
use mathlib.Core.List.Memᴰ
use mathlib.Core.List.{List, map, Memᴰ}
use Prim.Native.Nat.{ℕ, ◌<◌, ◌≤◌}
use native.Mathlib.Omega.{arith}
use lib.IntN.{nat_abs}
use lib.ListN.{length, get_or}
use Rattle.sheet.specs.Cells.{cell_of, place_of}
use Rattle.sheet.specs.Words.{empty_sheet, label_of}
use Rattle.sheet.proofs.Laws.{cell_on_lem, place_cell}
use Rattle.sheet.proofs.Words.{label_on}
use Rattle.labels.specs.Used.{OneCell}
use Rattle.join.specs.Rule.{Placed, shifted_by, All, Once, OneOf, of_first, of_second}
use Rattle.join.specs.Sheets.{labelled, Holdable, HoldsSet}
use Rattle.join.proofs.Union.{of_all}
use Rattle.join.proofs.Join.{by_shift, joined_union, joined_once, joined_holdable}
use Rattle.join.proofs.Sets.{set_long, set_no_hole, set_no_ambiguous, set_held, once_one}
use Rattle.frame_line.specs.Lines.{LabelLine}
use Rattle.sizes.specs.Sizes.{corner_limit, place_count}
use Rattle.frame.specs.Frame.{Frame, parts_of, placed, first_set, second_set, given_of}
use Rattle.frame.specs.ReadFrame.{sheet_of}
use Rattle.frame.specs.Text.{Sound, WithinLimits}
use Rattle.frame.proofs.Sets.{all_holdable, all_once}
use Rattle.frame_laws.specs.Calls.{GivenLabels}
use Rattle.frame_laws.proofs.Parts.{labels_sound}
use Rattle.frame_laws.proofs.Joining.{one_given, both_given}

-- labels of n corners, as the join has them
pub sound_known : (n : ℕ) (ls : List LabelLine) → All (Sound n) ls → (l : Placed) → Memᴰ l (map placed ls) → l.corner < n
sound_known n ls s l m =
    let o = Memᴰ.of_map placed ls m in
    let g = of_all (Sound n) ls s o.0 o.1 in
    omega (arith, ap (λ (x : Placed). x.corner) o.2, ap nat_abs g.is_corner_holds, g.given)

module _ (f : Frame) (w : WithinLimits f) where
  abbrev count : ℕ
  count = length (parts_of f).corners

  abbrev given : List Placed
  given = given_of (parts_of f)

  first_holdable : All Holdable (first_set (parts_of f))
  first_holdable = all_holdable count w.corners (parts_of f).labels (labels_sound f w).0

  second_holdable : All Holdable (second_set (parts_of f))
  second_holdable = all_holdable count w.corners (parts_of f).second (labels_sound f w).1

  first_once : Once (first_set (parts_of f))
  first_once = all_once count (parts_of f).labels (labels_sound f w).0 w.once

  second_once : Once (second_set (parts_of f))
  second_once = all_once count (parts_of f).second (labels_sound f w).1 w.second_once

  -- ---- the given labels, by whether the patch line stands

  record GivenFine : Type 0 where
    holdable : All Holdable given
    once : Once given
    known : (l : Placed) → Memᴰ l given → l.corner < count

  given_fine : GivenFine
  given_fine = go (parts_of f).patched refl
    where
      moved_known : (first second : List Placed) (d : _) → ((l : Placed) → Memᴰ l first → l.corner < count) → ((l : Placed) → Memᴰ l second → l.corner < count)
          → (l : Placed) → OneOf first second d l → l.corner < count
      moved_known first second d g h l (of_first m) = g l m
      moved_known first second d g h l (of_second b m e) = subst (λ (x : Placed). x.corner < count) (sym e) (h b m)

      go : (t : Bool) → (parts_of f).patched ≡ t → GivenFine
      go false e =
          record {
            holdable = subst (All Holdable) (sym (one_given f e)) first_holdable;
            once = subst Once (sym (one_given f e)) first_once;
            known = λ l m. sound_known count (parts_of f).labels (labels_sound f w).0 l (subst (Memᴰ l) (one_given f e) m);
          }
      go true e =
          let u = both_given f e (w.joins e) in
          let a = first_set (parts_of f) in
          let b = second_set (parts_of f) in
          record {
            holdable = joined_holdable a b given u first_holdable second_holdable;
            once = joined_once a b given u first_once second_once;
            known = λ l m.
                moved_known a b _ (sound_known count (parts_of f).labels (labels_sound f w).0) (sound_known count (parts_of f).second (labels_sound f w).1) l
                ((joined_union a b given u first_once second_once).no_other l m);
          }

  pub given_holdable : All Holdable given
  given_holdable = given_fine.holdable

  pub given_known : (l : Placed) → Memᴰ l given → l.corner < length (parts_of f).corners
  given_known = given_fine.known

  -- ---- their sheet

  held : HoldsSet given (sheet_of f)
  unfolding sheet_of
  held = set_held given given_fine.holdable given_fine.once

  pub given_labels : GivenLabels f
  unfolding sheet_of
  given_labels =
      record {
        each = held.each;
        only = held.only;
        no_hole = set_no_hole given given_fine.holdable;
        no_ambiguous = set_no_ambiguous given given_fine.holdable;
        one_set = one_given f;
        both_sets_holds = λ e.
            let u = both_given f e (w.joins e) in
            let a = first_set (parts_of f) in
            let b = second_set (parts_of f) in
            record {
              shared = (by_shift a b given u).shared;
              shift = (by_shift a b given u).shift;
              onto = (by_shift a b given u).onto;
              union = joined_union a b given u first_once second_once;
            };
      }

  pub sheet_long : place_count ≤ length (sheet_of f)
  unfolding sheet_of
  sheet_long = set_long given

  -- the label of a place
  named_at : (p k : ℕ) → p < place_count → label_of (get_or (sheet_of f) p 0) ≡ Some k → Memᴰ (record { corner = k; cell = cell_of p }) given
  named_at p k h e =
      held.only (cell_of p) k (label_on (sheet_of f) (cell_of p) (cell_on_lem p h) ∙ ap (λ (q : ℕ). label_of (get_or (sheet_of f) q 0)) (place_cell p h) ∙ e)

  pub corner_known : (p k : ℕ) → p < place_count → label_of (get_or (sheet_of f) p 0) ≡ Some k → k < length (parts_of f).corners
  corner_known p k h e = given_fine.known _ (named_at p k h e)

  pub one_cell : OneCell (sheet_of f)
  one_cell =
      record {
        one_place = λ p q k g h d e.
            let one = once_one given given_fine.once _ _ (named_at p k g d) (named_at q k h e) refl in
            sym (place_cell p g) ∙ ap (λ (l : Placed). place_of l.cell) one ∙ place_cell q h;
      }
