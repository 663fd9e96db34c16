-- An accepted frame starts what demand 3 speaks of: its corners and the sheet of its given labels belong together, and each of its passes has
-- its numbers in range, so that none is refused, after whatever list of calls. Assumes nothing.
use mathlib.Core.Path.{◌≡◌, refl, sym, ap, subst}
use mathlib.Core.Bool.{true, false}
use mathlib.Core.Logic.{⊎_elim}
use mathlib.Core.List.{List, [], ◌∷◌, map}
use Prim.Native.Nat.{ℕ, zero, suc, ◌<◌, ◌≤◌}
use native.Mathlib.Nat.{not-suc-le-zero}
use native.Mathlib.Omega.{arith}
use borrow.Author.Tests.{not-false}
use lib.IntN.{ℤ, pos, nat_abs}
use lib.Ieee.{Float, nan, of_bits, of_int, le}
use lib.ListN.{length, get_or, length-map}
use Rattle.binary32.specs.Ranges.{ends_of, in_range}
use Rattle.binary32.specs.declared.ranges.Quantity.{Quantity}
use Rattle.sheet.specs.Corners.{CornerLists, corner_of}
use Rattle.sheet.proofs.Corners.{listed_corner}
use Rattle.arguments.specs.Arguments.{outside, queue_needed}
use Rattle.arguments.specs.declared.Pass.{Pass}
use Rattle.arguments.specs.Accepted.{CornerInside, SettingsInside, PassInside}
use Rattle.passes.specs.Outcome.{Outcome}
use Rattle.passes.specs.Run.{Call, step, sheet_after, run}
use Rattle.passes.specs.declared.PassStats.{PassStats}
use Rattle.invariants.specs.Calls.{Standing, CallInside}
use Rattle.invariants.proofs.Run.{standing_step, fit_accepts, never_refused, invariants}
use Rattle.frame_line.specs.Table.{kind_at, turn_at}
use Rattle.frame_line.specs.Lines.{Line, kind_of, PassLine, bare_grow_holds, grow, bare_fill, fill, local}
use Rattle.frame_line.specs.Checks.{wild_bits, wild_whole}
use Rattle.std.proofs.Common.{Some}
use Rattle.frame_line.proofs.Words.{counted}
use Rattle.frame_line.proofs.Said.{AxesTame, PassTame, cell_said, axes_said, band_said}
use Rattle.sizes.specs.Sizes.{corner_limit}
use Rattle.frame.specs.Frame.{Frame, RoledPass, Opening, Parts, opened, adding, added, parts_from, no_parts, parts_of}
use Rattle.join.specs.Rule.{All}
use Rattle.frame.specs.Text.{InOrder, ends, next, InRange, WithinLimits}
use Rattle.frame.specs.ReadFrame.{float_of, xs_of, ys_of, pitches_of, sheet_of, settings_of, full_of, pass_of}
use Rattle.frame.proofs.Adding.{below_or_not}
use Rattle.frame_laws.specs.Calls.{frame_corners, frame_rooms, call_of, calls_of, NoneRefused, Starts, AcceptedRuns}
use Rattle.frame_laws.proofs.Order.{comes, later_opens, ends_late}
use Rattle.frame_laws.proofs.Parts.{all_map, kept, parts_tame}
use Rattle.frame_laws.proofs.Back.{frame_prints_back}
use Rattle.frame_laws.proofs.Shades.{shades_long, shades_inside, given_shades}
use Rattle.frame_laws.proofs.Labels.{given_labels, sheet_long, corner_known, one_cell}

-- ---- numbers in range

inside : (q : Quantity) (b : ℕ) → wild_bits q b ≡ false → in_range q (float_of b) ≡ true
unfolding wild_bits outside
inside q b e = not-false (in_range q (float_of b)) e

small : (n : ℕ) (z : ℤ) → wild_whole (pos 0) (pos n) z ≡ false → nat_abs z ≤ n
small n z e = let c = counted n z e in subst (λ (k : ℕ). k ≤ n) (sym (ap nat_abs c.is)) c.small

-- ---- the corners

each_float : {A : Type 0} (q : Quantity) (f : A → Float) (l : List A) → All (λ a. in_range q (f a) ≡ true) l → (k : ℕ) → k < length l
    → in_range q (get_or (map f l) k nan) ≡ true
each_float q f [] p k h = absurd (not-suc-le-zero h)
each_float q f (a ∷ l) p zero h = p.0
each_float q f (a ∷ l) p (suc k) h = each_float q f l p.1 k (omega arith)

-- ---- cell size, axes and band

-- each is in range once the lines are past its stage
record OpeningTame (s : ℕ) (o : Opening) : Type 0 where
  cell : 1 < s → wild_bits Quantity.CellSize o.cell ≡ false
  axes : 2 < s → AxesTame o.axes
  band : 3 < s → wild_bits Quantity.Band o.band ≡ false

none_yet : (s : ℕ) (o : Opening) → s < 2 → OpeningTame s o
none_yet s o h = record { cell = λ k. absurd (omega arith); axes = λ k. absurd (omega arith); band = λ k. absurd (omega arith) }

module _ (n : ℕ) (l : Line) (r : InRange n l) (p : Parts) where
  -- the line of row s
  said_at : (s : ℕ) → s < 4 → l.row ≡ s → OpeningTame s p.opening → OpeningTame (suc s) (added p l).opening
  unfolding adding opened kind_at
  said_at zero h e t = none_yet 1 _ (omega arith)
  said_at (suc zero) h e t =
      rw e (record { cell = λ k. cell_said n l r.proper r.ranges (ap kind_at e); axes = λ k. absurd (omega arith); band = λ k. absurd (omega arith) })
  said_at (suc (suc zero)) h e t =
      rw e (record { cell = λ k. t.cell (omega arith); axes = λ k. axes_said n l r.proper r.ranges (ap kind_at e); band = λ k. absurd (omega arith) })
  said_at (suc (suc (suc zero))) h e t =
      rw e (record { cell = λ k. t.cell (omega arith); axes = λ k. t.axes (omega arith); band = λ k. band_said n l r.proper r.ranges (ap kind_at e) })
  said_at (suc (suc (suc (suc s)))) h e t = absurd (omega arith)

  said_on : (s to : ℕ) → turn_at s l.row ≡ Some to → OpeningTame s p.opening → OpeningTame to (added p l).opening
  said_on s to e t = ⊎_elim early late (below_or_not s 4)
    where
      early : s < 4 → OpeningTame to (added p l).opening
      early h = let c = comes s l.row to r.proper.few e h in rw c.1 (said_at s h c.0 t)

      late : 4 ≤ s → OpeningTame to (added p l).opening
      late h =
          let same = (kept (kind_of l) l.numbers p).0 (later_opens s l.row to r.proper.few e h).1 in
          rw same (record { cell = λ k. t.cell (omega arith); axes = λ k. t.axes (omega arith); band = λ k. t.band (omega arith) })

all_said : (n s : ℕ) (p : Parts) (ls : List Line) → All (InRange n) ls → InOrder s ls → OpeningTame s p.opening → OpeningTame 4 (parts_from p ls).opening
unfolding parts_from
all_said n s p ls r (ends e) t =
    let h = ends_late s e in record { cell = λ k. t.cell (omega arith); axes = λ k. t.axes (omega arith); band = λ k. t.band (omega arith) }
all_said n s p ls r (next {to = to} {ls = rest} l e o) t = all_said n to (added p l) rest r.1 o (said_on n l r.0 p s to e t)

pub same_length : (f : Frame) → length (xs_of f) ≡ length (parts_of f).corners
unfolding xs_of
same_length f = length-map (parts_of f).corners (λ c. float_of c.x)

module _ (f : Frame) (w : WithinLimits f) where
  corners_inside : (k : ℕ) → k < length (xs_of f) → CornerInside (corner_of (frame_corners f) k)
  unfolding xs_of ys_of pitches_of
  corners_inside k h =
      let l : k < length (parts_of f).corners = omega (arith, same_length f) in
      let cs = (parts_of f).corners in
      rw (listed_corner (frame_corners f) k h)
      (record {
        x = each_float Quantity.Position (λ c. float_of c.x) cs (all_map (λ c t. inside Quantity.Position c.x t.0) cs (parts_tame f w).corners) k l;
        y = each_float Quantity.Position (λ c. float_of c.y) cs (all_map (λ c t. inside Quantity.Position c.y t.1.0) cs (parts_tame f w).corners) k l;
        pitch =
            each_float Quantity.Pitch (λ c. float_of c.pitch) cs (all_map (λ c t. inside Quantity.Pitch c.pitch t.1.1) cs (parts_tame f w).corners) k
            l;
      })

  settings_inside : SettingsInside (settings_of f)
  unfolding settings_of parts_of
  settings_inside =
      let t = all_said (length (parts_of f).corners) 0 no_parts f w.numbers w.order (none_yet 0 _ (omega arith)) in
      let a = t.axes (omega arith) in
      record {
        cell_size = inside Quantity.CellSize _ (t.cell (omega arith));
        axis_i = record { x = inside Quantity.AxisPart _ a.0; y = inside Quantity.AxisPart _ a.1.0 };
        axis_j = record { x = inside Quantity.AxisPart _ a.1.1.0; y = inside Quantity.AxisPart _ a.1.1.1 };
        band = inside Quantity.Band _ (t.band (omega arith));
      }

  -- ---- the passes

  -- a pass as it is called
  called : (q : Pass) (n : ℕ) → n ≤ corner_limit → PassInside q
      → PassInside q × (queue_needed q n ≤ frame_rooms.queue)
  unfolding queue_needed
  called (Pass.Grow p) n h i = (i, omega arith)
  called (Pass.Fill p) n h i = (i, omega arith)
  called (Pass.Local p) n h i = (i, omega arith)

  pass_inside : (p : PassLine) → PassTame p → PassInside (pass_of (full_of p))
  unfolding full_of pass_of ends_of le of_bits of_int
  pass_inside bare_grow_holds t = record { search = refl; factor = refl; boundary = refl }
  pass_inside (grow s a b) t =
      record { search = inside Quantity.Multiple s t.0; factor = inside Quantity.Factor a t.1.0; boundary = inside Quantity.Multiple b t.1.1 }
  pass_inside bare_fill t = record { search = refl; factor = refl; rounds = omega arith }
  pass_inside (fill s a r) t = record { search = inside Quantity.Multiple s t.0; factor = inside Quantity.Factor a t.1.0; rounds = small 64 r t.1.1 }
  pass_inside (local s a r g d) t =
      record {
        search = inside Quantity.Multiple s t.0;
        factor = inside Quantity.Factor a t.1.0;
        rounds = small 64 r t.1.1.0;
        residual = inside Quantity.Multiple g t.1.1.1.0;
        depth = small 4 d t.1.1.1.1;
      }

  few : length (xs_of f) ≤ corner_limit
  few = omega (arith, same_length f, w.corners)

  pass_fit : (p : PassLine) → PassTame p → CallInside (frame_corners f) (call_of f p)
  pass_fit p t =
      let c = called (pass_of (full_of p)) (length (xs_of f)) few (pass_inside p t) in
      record {
        few = few;
        queue_long = c.1;
        attached_long = omega (arith, few);
        shades_long = omega (arith, same_length f, shades_long f);
        corners_inside = corners_inside;
        shades_inside = λ k h. shades_inside f w k;
        settings_inside = settings_inside;
        pass_inside = c.0;
        box_as_left = refl;
      }

  passes_fit : (ps : List RoledPass) → All (λ q. PassTame q.pass) ps → All (CallInside (frame_corners f)) (map (λ q. call_of f q.pass) ps)
  passes_fit [] t = tt
  passes_fit (p ∷ ps) t = (pass_fit p.pass t.0, passes_fit ps t.1)

  calls_fit : All (CallInside (frame_corners f)) (calls_of f)
  unfolding calls_of
  calls_fit = passes_fit (parts_of f).passes (parts_tame f w).passes

  -- ---- the corners and the given labels

  pub frame_standing : Standing (frame_corners f) (sheet_of f)
  unfolding xs_of ys_of pitches_of
  frame_standing =
      record {
        listed =
            record {
              ys_long = omega (arith, same_length f, length-map (parts_of f).corners (λ c. float_of c.y));
              pitches_long = omega (arith, same_length f, length-map (parts_of f).corners (λ c. float_of c.pitch));
            };
        given = record { long = sheet_long f w; known = λ p k h e. omega (arith, same_length f, corner_known f w p k h e) };
        one_cell = one_cell f w;
      }

-- ---- none is refused

none_refused : (l : CornerLists) (sheet : List ℕ) → Standing l sheet → (cs : List Call) → All (CallInside l) cs → NoneRefused (run l sheet cs)
unfolding run
none_refused l sheet s [] g = tt
none_refused l sheet s (c ∷ cs) g =
    let rest = none_refused l (sheet_after sheet (step l sheet c)) (standing_step l sheet s c) cs g.1 in
    subst (λ (o : Outcome PassStats). NoneRefused (o ∷ run l (sheet_after sheet (step l sheet c)) cs)) (sym (fit_accepts l sheet c s g.0).done_so) rest

-- ---- the law

pub limits_start : (f : Frame) → WithinLimits f → Starts f
limits_start f w =
    let s = frame_standing f w in
    record {
      given = given_labels f w;
      shades = given_shades f w;
      standing = s;
      invariant = invariants (frame_corners f) (sheet_of f) s;
      fit = calls_fit f w;
      accepts = λ cs. all_map (λ c g. never_refused (frame_corners f) (sheet_of f) s cs c g) (calls_of f) (calls_fit f w);
      runs = none_refused (frame_corners f) (sheet_of f) s (calls_of f) (calls_fit f w);
    }

pub accepted_runs : AcceptedRuns
accepted_runs text f e = limits_start f (frame_prints_back text f e).within
