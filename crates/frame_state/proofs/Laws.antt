-- A line that can be added: what its checks say of it, kind by kind. Assumes nothing.
use mathlib.Core.Path.{◌≡◌, refl, sym, ap, ◌∙◌}
use mathlib.Core.Bool.{Bool, false, ◌||◌, or-true, or-false}
use Prim.Native.Nat.{ℕ, ◌<◌}
use native.Mathlib.Omega.{arith}
use borrow.Author.Tests.{leb-false, eq-eqb, ne_eqb}
use lib.Dec.{eqb}
use lib.ListN.{get_or, take}
use Rattle.sheet.specs.Cells.{place_of}
use Rattle.std.proofs.Common.{Some}
use Rattle.binary32.specs.declared.ranges.Quantity.{Quantity}
use Rattle.binary32.proofs.Answered.{pattern}
use Rattle.std.specs.List.{list_any}
use Rattle.labels.specs.Count.{how_many}
use Rattle.labels.proofs.Below.{passing_one_more}
use Rattle.labels.proofs.Count.{many_few}
use Rattle.arguments.proofs.Chains.{or_false_both}
use Rattle.frame_line.specs.Table.{rows, row_count, row_at, kind_at, sort_of, sort_at}
use Rattle.frame_line.specs.Held.{label_in, shade_in, outside_held}
use Rattle.frame_line.specs.declared.Kind.{Kind}
use Rattle.frame_line.specs.declared.OpeningKind.{OpeningKind}
use Rattle.frame_line.specs.declared.PassKind.{PassKind}
use Rattle.frame_line.specs.declared.Sort.{Sort}
use Rattle.frame_line.specs.declared.HeldLine.{HeldLine}
use Rattle.frame_line.proofs.Shapes.{row_of, row_of_lem}
use Rattle.frame_line.proofs.Checking.{tame_finite}
use Rattle.frame_line.proofs.Words.{word_tame, kind_known}
use Rattle.frame_check.specs.Checks.{is_set, is_used, has_place, over_limit, label_twice, twice_of, twice_as, twice_held, forbidden, checked_held, NumbersFine}
use Rattle.frame_check.specs.declared.Held.{Held}
use Rattle.frame_check.proofs.Laws.{AllFine, fine_all, label_fits, shade_fits}
use Rattle.sizes.specs.Sizes.{corner_limit, pass_limit}
use Rattle.frame_state.specs.State.{patched_of, second_of, Tame, TameOpening, CornerFits, LabelsRoom, ShadeFits, Addable}
use Rattle.frame_state.specs.declared.Progress.{Progress}

-- where a number below n does not pass, fewer than n do
pub many_room : (f : ℕ → Bool) (n k : ℕ) → k < n → f k ≡ false → how_many f n < n
many_room f n k h e =
    let g : ℕ → Bool = λ q. f q || eqb q k in
    omega (arith, many_few g n, passing_one_more f g n k h e (rw (eq-eqb k k refl) (or-true (f k))) (λ q l d. rw (ne_eqb q k d) (or-false (f q))))

module _ {p : Progress} {a : Held} {line : HeldLine} (listed : line.row < row_count) (f : Addable p a line) where
  fine :
      AllFine (λ r. outside_held r p.corners line) (over_limit p.corners p.passes (kind_at line.row))
      (twice_held (patched_of p) a (second_of p) line) (forbidden p.role (kind_at line.row))
  unfolding checked_held
  fine = fine_all (λ r. outside_held r p.corners line) _ _ _ f.fine

  -- a float of a line is no NaN
  tame_at : (kind : Kind) → kind_at line.row ≡ kind → (m : ℕ) (q : Quantity) → m < 5 → sort_at (row_of kind) m ≡ Some (Sort.Float q) → Tame (get_or line.values m 0)
  tame_at kind e m q h s =
      let is = ap (λ (k : ℕ). sort_at k m) (row_of_lem line.row kind listed e) ∙ s in
      let t = tame_finite q (get_or line.values m 0) (word_tame p.corners line fine.ranges m h q is) in
      record { no_nan = pattern (get_or line.values m 0) (omega arith) }

  pub opening_fits : (o : OpeningKind) → kind_at line.row ≡ Kind.Opening o → TameOpening o line.values
  unfolding sort_at sort_of row_at rows
  opening_fits OpeningKind.Frame e = tt
  opening_fits OpeningKind.CellSize e = tame_at (Kind.Opening OpeningKind.CellSize) e 0 Quantity.CellSize (omega arith) refl
  opening_fits OpeningKind.Axes e =
      let t = tame_at (Kind.Opening OpeningKind.Axes) e in
      record {
        ix = t 0 Quantity.AxisPart (omega arith) refl;
        iy = t 1 Quantity.AxisPart (omega arith) refl;
        jx = t 2 Quantity.AxisPart (omega arith) refl;
        jy = t 3 Quantity.AxisPart (omega arith) refl;
      }
  opening_fits OpeningKind.Band e = tame_at (Kind.Opening OpeningKind.Band) e 0 Quantity.Band (omega arith) refl

  pub corner_fits : kind_at line.row ≡ Kind.Corner → CornerFits p.corners line.values
  unfolding over_limit sort_at sort_of row_at rows
  corner_fits e =
      record {
        room = leb-false corner_limit p.corners (sym (ap (over_limit p.corners p.passes) e) ∙ fine.room);
        x = tame_at Kind.Corner e 0 Quantity.Position (omega arith) refl;
        y = tame_at Kind.Corner e 1 Quantity.Position (omega arith) refl;
        pitch = tame_at Kind.Corner e 2 Quantity.Pitch (omega arith) refl;
      }

  numbers_fine : NumbersFine p.corners line
  numbers_fine = record { on = fine.on; known = fine.known }

  -- a label that is not doubled finds room in its set, since each label of it uses another corner
  pub labels_room : kind_at line.row ≡ Kind.Label → LabelsRoom p (label_in line.values)
  unfolding twice_of
  labels_room e =
      let fits = label_fits p.corners line f.few listed numbers_fine e in
      let k = (label_in line.values).corner in
      let once : label_twice (patched_of p) a (second_of p) (label_in line.values) ≡ false = sym (ap (twice_as (patched_of p) a (second_of p) line) e) ∙ fine.once in
      record {
        first = λ q.
            let free = (or_false_both (is_set a.sheet (place_of (label_in line.values).cell)) (is_used a.used k) (rw q at once)).1 in
            omega (arith, f.counted.first, many_room (is_used a.used) corner_limit k fits.entry free);
        second = λ q.
            let free = (or_false_both (list_any (has_place (place_of (label_in line.values).cell)) (take (second_of p) a.second)) (is_used a.second_used k) (rw q at once)).1 in
            omega (arith, f.counted.second, many_room (is_used a.second_used) corner_limit k fits.entry free);
        label = fits;
      }

  pub shade_room : kind_at line.row ≡ Kind.Shade → ShadeFits (shade_in line.values)
  shade_room e =
      record {
        entry = shade_fits p.corners line f.few listed numbers_fine e;
        small = kind_known p.corners line (row_of_lem line.row Kind.Shade listed e) fine.first;
      }

  pub pass_fits : (k : PassKind) → kind_at line.row ≡ Kind.Pass k → p.passes < pass_limit
  unfolding over_limit
  pass_fits k e = leb-false pass_limit p.passes (sym (ap (over_limit p.corners p.passes) e) ∙ fine.room)
