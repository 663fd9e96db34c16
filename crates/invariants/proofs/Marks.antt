-- What each pass does to the marks, from what one visit does: grow only sets marks, fill changes none, local clears those of its new cells; and what
-- follows for a list of calls. Assumes nothing.
use Rattle.std.specs.Prelude.{None, Ok, Err}
use mathlib.Core.Path.{◌≡◌, refl, sym, ap, ◌∙◌}
use mathlib.Core.Bool.{Bool, true, false, cond, ◌||◌}
use mathlib.Core.List.Memᴰ
use mathlib.Core.List.{List, [], ◌∷◌, ◌++◌, Memᴰ}
use mathlib.Core.Logic.{⊎_elim}
use Prim.Native.Nat.{ℕ, ◌<◌, ◌≤◌}
use native.Mathlib.Omega.{arith}
use lib.IntN.{ℤ_discrete}
use lib.ListN.{length}
use lib.Ieee.{Float, binary32, of_bits, lt}
use Rattle.sheet.specs.Cells.{cell_of}
use Rattle.sheet.specs.Words.{hole_at, ambiguous_at}
use Rattle.sheet.specs.Corners.{Corners, seen_of}
use Rattle.sheet.specs.declared.Cell.{Cell}
use Rattle.sheet.specs.declared.Position.{Position}
use Rattle.sheet.proofs.Laws.{cell_on_lem, place_cell}
use Rattle.labels.specs.Labelled.{label_count}
use Rattle.labels.proofs.Below.{no_both}
use Rattle.predict.specs.Predict.{prediction_of}
use Rattle.std.specs.Prelude.{Option, Some, None}
use Rattle.positions_policy.specs.declared.Tolerances.{Tolerances}
use Rattle.arguments.specs.declared.Settings.{Settings}
use Rattle.arguments.specs.declared.FillParams.{FillParams}
use Rattle.arguments.specs.declared.LocalExtensionParams.{LocalExtensionParams}
use Rattle.extension_common.specs.TryCell.{TryCellResult, try_at}
use Rattle.extension_common.specs.declared.Search.{Search}
use Rattle.extension_common.proofs.Laws.{attachable}
use Rattle.passes.specs.Grow.{no_counts}
use Rattle.passes.specs.Rounds.{RoundPass, Rounds, rounds_from}
use Rattle.passes.specs.Fill.{FillState, fill_with, fill_at, fill_visit, fill_pass, fill_from, fill_limit, fill_run}
use Rattle.passes.specs.Local.{depth_of, supports_of, LocalFit, none, fitted, local_fit, LocalState, worst, with_residuals, with_unmatched, gate_of, local_with, local_try, local_at, local_visit, local_pass, local_from, local_limit, local_run}
use Rattle.passes.specs.Changes.{sets_hole, sets_ambiguous, SameMarks, NoMarks, MarksSet, FillVisit, LocalVisit}
use Rattle.passes.proofs.Changes.{same_marks, marks_then, visits}
use Rattle.passes.proofs.Rounds.{rounds_keep}
use Rattle.invariants.specs.Marks.{MarksStand, FillMarks, LocalMarks}
use Rattle.invariants.proofs.Fill.{cells_listed}
use Rattle.invariants.proofs.Local.{local_cells_listed}

-- ---- marks of a cell

pub stand_same : {first last : List ℕ} {c : Cell} → SameMarks first last c → MarksStand first last c
stand_same s = record { hole = λ e. s.hole ∙ e; ambiguous = λ e. s.ambiguous ∙ e }

pub stood_same : {first last : List ℕ} {c : Cell} → SameMarks first last c → MarksStand last first c
stood_same s = record { hole = λ e. sym s.hole ∙ e; ambiguous = λ e. sym s.ambiguous ∙ e }

pub stand_then : {first mid last : List ℕ} {c : Cell} → MarksStand first mid c → MarksStand mid last c → MarksStand first last c
stand_then a b = record { hole = λ e. b.hole (a.hole e); ambiguous = λ e. b.ambiguous (a.ambiguous e) }

pub none_same : {first last : List ℕ} {c : Cell} → SameMarks first last c → NoMarks first c → NoMarks last c
none_same s n = record { hole = s.hole ∙ n.hole; ambiguous = s.ambiguous ∙ n.ambiguous }

-- where no mark stands, any claim of a mark that stands holds
stand_none : {first last : List ℕ} {c : Cell} → NoMarks first c → MarksStand first last c
stand_none {first} {c = c} n =
    record { hole = λ e. absurd (no_both (hole_at first c) e n.hole); ambiguous = λ e. absurd (no_both (ambiguous_at first c) e n.ambiguous) }

-- where every mark would have stood and none did, there is none
pub stood_none : {first last : List ℕ} {c : Cell} → MarksStand last first c → NoMarks first c → NoMarks last c
stood_none {first} {last} {c} s n =
    record { hole = go (hole_at last c) (hole_at first c) s.hole n.hole; ambiguous = go (ambiguous_at last c) (ambiguous_at first c) s.ambiguous n.ambiguous }
  where
    go : (a b : Bool) → (a ≡ true → b ≡ true) → b ≡ false → a ≡ false
    go true b f e = absurd (no_both b (f refl) e)
    go false b f e = refl

or_yes : (a b : Bool) → b ≡ true → (a || b) ≡ true
or_yes true b e = refl
or_yes false b e = e

-- a mark set clears none
pub stand_set : {r : TryCellResult} {first last : List ℕ} {c : Cell} → MarksSet r first last c → MarksStand first last c
stand_set {r} {first} {c = c} m =
    record { hole = λ e. m.hole ∙ or_yes (sets_hole r) (hole_at first c) e; ambiguous = λ e. m.ambiguous ∙ or_yes (sets_ambiguous r) (ambiguous_at first c) e }

-- set after nothing changed, and nothing changed after it was set
pub set_after : {r : TryCellResult} {first mid last : List ℕ} {c : Cell} → SameMarks first mid c → MarksSet r mid last c → MarksSet r first last c
set_after {r} s m = record { hole = m.hole ∙ ap (λ (b : Bool). sets_hole r || b) s.hole; ambiguous = m.ambiguous ∙ ap (λ (b : Bool). sets_ambiguous r || b) s.ambiguous }

pub set_before : {r : TryCellResult} {first mid last : List ℕ} {c : Cell} → MarksSet r first mid c → SameMarks mid last c → MarksSet r first last c
set_before m s = record { hole = s.hole ∙ m.hole; ambiguous = s.ambiguous ∙ m.ambiguous }

-- two cells are equal or not
pub cell_dec : (c d : Cell) → Dec (c ≡ d)
cell_dec c d = go (ℤ_discrete c.i d.i) (ℤ_discrete c.j d.j)
  where
    go : Dec (c.i ≡ d.i) → Dec (c.j ≡ d.j) → Dec (c ≡ d)
    go (yes p) (yes q) = yes (λ t. record { i = p t; j = q t })
    go (yes p) (no q) = no (λ e. q (ap (λ (x : Cell). x.j) e))
    go (no p) q = no (λ e. p (ap (λ (x : Cell). x.i) e))

-- a corner that trying a cell found has a number that a word holds
pub found_fits : (cs : Corners) → cs.count ≤ 1024 → (sheet : List ℕ) (tol : Tolerances) (search : Search) (c : Cell) (at : Position) (k : ℕ)
    → try_at cs sheet tol search c at ≡ Ok k → k < 16383
found_fits cs few sheet tol search c at k e = omega (arith, (attachable cs sheet tol search c at k e).given)

-- ---- rounds

-- what each visit of a place of the sheet keeps, where the cells of a round are such places
rounds_on : {S : Type 0} (w : RoundPass S) (P : S → Type 0) → ((s : S) (q : ℕ) → Memᴰ q (w.cells s) → q < 16384)
    → ((q : ℕ) → q < 16384 → (s : S) → P s → P (w.visit (cell_of q) s))
    → (m : ℕ) (r : Rounds S) → P r.state → P (rounds_from w m r).state
rounds_on {S} w P on keeps m r h =
    (rounds_keep w Kept (λ s g. (on s, g.1)) (λ q qs s g. (λ p i. g.0 p (Memᴰ.tail i), keeps q (g.0 q (Memᴰ.head refl)) s g.1))
    m r (λ p i. absurd (Memᴰ.not-nil i), h)).1
  where
    Kept : List ℕ → S → Type 0
    Kept qs s = ((q : ℕ) → Memᴰ q qs → q < 16384) × P s

-- ---- fill

-- a sheet that is long enough, on which every mark is as it was first
record FillKeeps (first : List ℕ) (s : FillState) : Type 0 where
  long : 16384 ≤ length s.sheet
  same : FillMarks first s.sheet

module _ (cs : Corners) (few : cs.count ≤ 1024) (first : List ℕ) (set : Settings) (params : FillParams) where
  fill_with_lem : (q : ℕ) → q < 16384 → (r : TryCellResult) (s : FillState) → ((k : ℕ) → r ≡ Ok k → k < 16383) → FillKeeps first s → FillKeeps first (fill_with (cell_of q) r s)
  fill_with_lem q h r s fits w =
      let v = visits.fill (cell_of q) r s (record { cell = record { long = w.long; on = cell_on_lem q h }; corner_fits = fits }) in
      record { long = rw v.labels.same_length w.long; same = λ d. marks_then (w.same d) (go v d (cell_dec d (cell_of q))) }
    where
      go : FillVisit r (cell_of q) s (fill_with (cell_of q) r s) → (d : Cell) → Dec (d ≡ cell_of q) → SameMarks s.sheet (fill_with (cell_of q) r s).sheet d
      go v d (yes e) = rw e v.marks
      go v d (no ne) = (v.labels.others d ne).marks

  fill_visit_lem : (q : ℕ) → q < 16384 → (s : FillState) → FillKeeps first s → FillKeeps first (fill_visit cs set params (cell_of q) s)
  unfolding fill_visit fill_at
  fill_visit_lem q h s w = go (prediction_of (seen_of cs.corner s.sheet) set.grid (cell_of q))
    where
      go : (at : Option Position) → FillKeeps first (fill_at cs set params (cell_of q) at s)
      go None = w
      go (Some at) = fill_with_lem q h _ s (λ k e. found_fits cs few s.sheet _ _ (cell_of q) at k e) w

  pub fill_marks : 16384 ≤ length first → FillMarks first (fill_run cs set params first).state.sheet
  unfolding fill_run fill_from
  fill_marks long =
      (rounds_on (fill_pass cs set params) (FillKeeps first) (λ s. (cells_listed s.sheet).on) fill_visit_lem (fill_limit (label_count first) params.max_iters)
      (record { state = record { sheet = first; made = [] }; rounds = 0 }) (record { long = long; same = same_marks first })).same

-- ---- local

-- nothing was attached
local_kept : {first made before after : List ℕ} → ((d : Cell) → SameMarks before after d) → LocalMarks first made before → LocalMarks first made after
local_kept same w =
    record {
      cleared = λ p m. none_same (same (cell_of p)) (w.cleared p m);
      others = λ c n. marks_then (w.others c n) (same c);
      none_new = λ c. stand_then (stood_same (same c)) (w.none_new c);
    }

-- a corner was attached to a cell, whose marks are gone
local_attached : {first made before after : List ℕ} (q : ℕ) → q < 16384 → NoMarks after (cell_of q) → ((d : Cell) → (d ≡ cell_of q → ⊥) → SameMarks before after d) → LocalMarks first made before
    → LocalMarks first (made ++ (q ∷ [])) after
local_attached {first} {made} {before} {after} q h gone others w =
    record {
      cleared = λ p m. ⊎_elim (λ a. clear p a (cell_dec (cell_of p) (cell_of q))) (λ b. let e : p ≡ q = Memᴰ.eq_of_singleton b in rw e gone) (Memᴰ.append_cases made m);
      others = λ c n.
          marks_then (w.others c (λ p m e. n p (Memᴰ.append_left (q ∷ []) m) e))
          (others c (λ e. n q (Memᴰ.append_right made (Memᴰ.head refl)) (sym e)));
      none_new = λ c. new c (cell_dec c (cell_of q));
    }
  where
    clear : (p : ℕ) → Memᴰ p made → Dec (cell_of p ≡ cell_of q) → NoMarks after (cell_of p)
    clear p m (yes e) = rw e gone
    clear p m (no ne) = none_same (others (cell_of p) ne) (w.cleared p m)

    new : (c : Cell) → Dec (c ≡ cell_of q) → MarksStand after first c
    new c (yes e) = rw e (stand_none gone)
    new c (no ne) = stand_then (stood_same (others c ne)) (w.none_new c)

record LocalKeeps (first : List ℕ) (s : LocalState) : Type 0 where
  long : 16384 ≤ length s.sheet
  marks : LocalMarks first s.made s.sheet

module _ (cs : Corners) (few : cs.count ≤ 1024) (first : List ℕ) (set : Settings) (params : LocalExtensionParams) where
  local_with_lem : (q : ℕ) → q < 16384 → (r : TryCellResult) (s after : LocalState) → LocalVisit r (cell_of q) s after → LocalKeeps first s → LocalKeeps first after
  local_with_lem q h r s after v w = record { long = rw v.labels.same_length w.long; marks = go r v }
    where
      kept : (r : TryCellResult) → LocalVisit r (cell_of q) s after → SameMarks s.sheet after.sheet (cell_of q) → after.made ≡ s.made → LocalMarks first after.made after.sheet
      kept r v here e = rw e (local_kept (λ d. every d (cell_dec d (cell_of q))) w.marks)
        where
          every : (d : Cell) → Dec (d ≡ cell_of q) → SameMarks s.sheet after.sheet d
          every d (yes e) = rw e here
          every d (no ne) = (v.labels.others d ne).marks

      go : (r : TryCellResult) → LocalVisit r (cell_of q) s after → LocalMarks first after.made after.sheet
      go (Err e) v = kept _ v (record { hole = v.marks.hole; ambiguous = v.marks.ambiguous }) v.made
      go (Ok k) v =
          rw (v.made, place_cell q h)
          (local_attached q h (record { hole = v.marks.hole; ambiguous = v.marks.ambiguous }) (λ d ne. (v.labels.others d ne).marks) w.marks)

  local_visit_lem : (q : ℕ) → q < 16384 → (s : LocalState) → LocalKeeps first s → LocalKeeps first (local_visit cs set params (cell_of q) s)
  unfolding local_visit local_at local_try
  local_visit_lem q h s w = go (local_fit (seen_of cs.corner s.sheet) (supports_of (cell_of q) s.sheet))
    where
      gate : (t : Bool) (rs : List Float) (after : LocalState) → LocalKeeps first after → LocalKeeps first (cond t (with_residuals rs s) after)
      gate true rs after v = record { long = w.long; marks = w.marks }
      gate false rs after v = v

      tried : (rs : List Float) (m : ℕ) (r : TryCellResult) → ((k : ℕ) → r ≡ Ok k → k < 16383)
          → LocalKeeps first (local_with (cell_of q) r (with_unmatched m (with_residuals rs s)))
      tried rs m r fits =
          local_with_lem q h r (with_unmatched m (with_residuals rs s)) _
          (visits.local (cell_of q) r (with_unmatched m (with_residuals rs s)) (record { cell = record { long = w.long; on = cell_on_lem q h }; corner_fits = fits }))
          (record { long = w.long; marks = w.marks })

      go : (fit : LocalFit) → LocalKeeps first (local_at cs set params (cell_of q) fit s)
      go none = w
      go (fitted h rs) = gate (lt (gate_of set params) (worst (of_bits binary32 0) rs)) rs _ (tried rs _ _ (λ k e. found_fits cs few s.sheet _ _ (cell_of q) _ k e))

  pub local_marks : 16384 ≤ length first → LocalMarks first (local_run cs set params first).state.made (local_run cs set params first).state.sheet
  unfolding local_run local_from
  local_marks long =
      (rounds_on (local_pass cs set params) (LocalKeeps first) (λ s. (local_cells_listed (depth_of params) s.sheet).on) local_visit_lem
      (local_limit (label_count first) params.max_iters)
      (record { state = record { sheet = first; made = []; counts = no_counts; largest = None; unmatched = 0 }; rounds = 0 })
      (record {
        long = long;
        marks = record { cleared = λ p m. absurd (Memᴰ.not-nil m); others = λ c n. same_marks first c; none_new = λ c. stand_same (same_marks first c) };
      })
      ).marks
