-- Grow's run is the same on both frames, through the pairing, where its factor is above 1: paired sheets, and the same visited cells, new
-- cells and counts. Assumes nothing.
use mathlib.Core.Path.{◌≡◌, refl, sym, ap, ◌∙◌, subst}
use mathlib.Core.Bool.{Bool, true, false, not, ◌&&◌, cond}
use mathlib.Core.List.{List, [], ◌∷◌, ◌++◌}
use Prim.Native.Nat.{ℕ, zero, suc, ◌+◌, ◌*◌, ◌<◌, ◌≤◌}
use native.Mathlib.Omega.{arith}
use borrow.Author.Tests.{ltb-true}
use lib.Dec.{T, ltb}
use lib.ListN.{length, get_or}
use lib.Ieee.{lt}
use lib.Ieee.Scale.{finite}
use Rattle.sheet.specs.Cells.{on_sheet, OnSheet, place_of, cell_of, moved}
use Rattle.sheet.specs.Words.{attached}
use Rattle.sheet.specs.Corners.{CornerLists, corner_of, seen_of, Given}
use Rattle.sheet.specs.Pairing.{Shuffle, PairedCorners, PairedSheets}
use Rattle.sheet.specs.declared.Cell.{Cell}
use Rattle.sheet.specs.declared.Offset.{Offset}
use Rattle.sheet.proofs.Laws.{cell_on_lem}
use Rattle.sheet.proofs.Pairing.{paired_attached, paired_hole_marked, paired_ambiguous_marked}
use Rattle.labels.specs.Labelled.{labelled_places}
use Rattle.labels.proofs.Pairing.{paired_places}
use Rattle.candidates.specs.Candidates.{squared_radius}
use Rattle.candidates.proofs.Radius.{search_radius, boundary_radius}
use Rattle.predict.specs.Predict.{prediction_of, extrapolating}
use Rattle.std.specs.Prelude.{Option, Some, None, Ok, Err}
use Rattle.sheet.specs.declared.Position.{Position}
use Rattle.predict.proofs.Laws.{prediction_paired, extrapolating_paired}
use Rattle.positions_policy.specs.Edge.{cardinal_offsets}
use Rattle.arguments.specs.Shades.{corners_of, PairedShades}
use Rattle.arguments.specs.Accepted.{SettingsInside, GrowInside}
use Rattle.arguments.specs.declared.Settings.{Settings}
use Rattle.arguments.specs.declared.GrowParams.{GrowParams}
use Rattle.extension_common.specs.TryCell.{TryCellResult, try_at}
use Rattle.extension_common.specs.declared.NotAttached.{NotAttached}
use Rattle.extension_common.proofs.Laws.{attachable}
use Rattle.passes.specs.Counting.{one_more}
use Rattle.passes.specs.Grow.{tolerances_of, GrowState, member, wanted, enqueued, enqueued_at, spread, seeded_from, start_of, radius_of, search_of, missed, grow_with, grow_at, grow_visit, grow_from, grow_run}
use Rattle.invariants.specs.Kept.{Sound}
use Rattle.invariants.specs.Calls.{Standing}
use Rattle.invariants.proofs.Waiting.{first_on}
use Rattle.invariants.proofs.Grow.{Growing, growing_start, turn, sound_now, growing_visit}
use Rattle.invariants.proofs.Run.{standing_sound, sound_standing}
use Rattle.binary32.specs.Numbers.{one}
use Rattle.agreement.proofs.Try.{paired_result, try_paired}
use Rattle.agreement.proofs.Cells.{names_same}

-- ---- the queue

module _ {n : ℕ} {s : Shuffle n} {sheet sheet' : List ℕ} (paired : PairedSheets s sheet sheet') where
  wanted_same : (queued : List ℕ) (c : Cell) → wanted sheet' queued c ≡ wanted sheet queued c
  unfolding wanted
  wanted_same queued c = ap (λ (t : Bool). on_sheet c && (not t && not (member (place_of c) queued))) (names_same paired c)

  enqueued_same : (c : Cell) (queued : List ℕ) → enqueued sheet' c queued ≡ enqueued sheet c queued
  unfolding enqueued
  enqueued_same c queued = ap (λ (t : Bool). cond t (queued ++ (place_of c ∷ [])) queued) (wanted_same queued c)

  enqueued_at_same : (c : Cell) (os : List Offset) (queued : List ℕ) → enqueued_at sheet' c os queued ≡ enqueued_at sheet c os queued
  unfolding enqueued_at
  enqueued_at_same c [] queued = refl
  enqueued_at_same c (o ∷ os) queued = enqueued_at_same c os (enqueued sheet' (moved c o) queued) ∙ ap (enqueued_at sheet c os) (enqueued_same (moved c o) queued)

  spread_same : (c : Cell) (queued : List ℕ) → spread sheet' c queued ≡ spread sheet c queued
  unfolding spread
  spread_same c queued = enqueued_at_same c cardinal_offsets queued

  seeded_same : (ps queued : List ℕ) → seeded_from sheet' ps queued ≡ seeded_from sheet ps queued
  unfolding seeded_from
  seeded_same [] queued = refl
  seeded_same (p ∷ ps) queued = seeded_same ps (spread sheet' (cell_of p) queued) ∙ ap (seeded_from sheet ps) (spread_same (cell_of p) queued)

-- ---- where both runs stand

-- paired sheets, and the same queued cells, new cells and counts
pub record SameGrow {n : ℕ} (s : Shuffle n) (a a' : GrowState) : Type 0 where
  pub sheet : PairedSheets s a.sheet a'.sheet
  pub queued : a'.queued ≡ a.queued
  pub made : a'.made ≡ a.made
  pub counts : a'.counts ≡ a.counts

pub start_same : {n : ℕ} {s : Shuffle n} {sheet sheet' : List ℕ} → PairedSheets s sheet sheet' → SameGrow s (start_of sheet) (start_of sheet')
unfolding start_of
start_same {sheet} {sheet'} paired =
    record {
      sheet = paired;
      queued = seeded_same paired (labelled_places sheet') [] ∙ ap (λ (ps : List ℕ). seeded_from sheet ps []) (paired_places paired);
      made = refl;
      counts = refl;
    }

-- ---- one cell

module _ {n : ℕ} {s : Shuffle n} {a a' : GrowState} (same : SameGrow s a a') (long : 16384 ≤ length a.sheet) (c : Cell) (on : OnSheet c) where
  missed_same : SameGrow s (missed c a) (missed c a')
  missed_same =
      record {
        sheet = paired_hole_marked same.sheet c long on;
        queued = same.queued;
        made = same.made;
        counts = ap (one_more (Err NotAttached.NoCandidates)) same.counts;
      }

  with_same : n ≤ 1024 → (r : TryCellResult) → ((k : ℕ) → r ≡ Ok k → k < n) → SameGrow s (grow_with c r a) (grow_with c (paired_result s.to r) a')
  unfolding grow_with paired_result
  with_same few (Err NotAttached.NoCandidates) given = missed_same
  with_same few (Err NotAttached.Ambiguous) given =
      record {
        sheet = paired_ambiguous_marked same.sheet c long on;
        queued = same.queued;
        made = same.made;
        counts = ap (one_more (Err NotAttached.Ambiguous)) same.counts;
      }
  with_same few (Err NotAttached.EdgeRejected) given =
      record {
        sheet = paired_hole_marked same.sheet c long on;
        queued = same.queued;
        made = same.made;
        counts = ap (one_more (Err NotAttached.EdgeRejected)) same.counts;
      }
  with_same few (Ok k) given =
      let h = given k refl in
      let now = paired_attached same.sheet c long on k (omega arith) (omega (arith, s.to_in k h)) in
      record {
        sheet = now;
        queued = spread_same now c a'.queued ∙ ap (spread (attached a.sheet c k) c) same.queued;
        made = ap (λ (l : List ℕ). l ++ (place_of c ∷ [])) same.made;
        counts = ap (one_more (Ok k)) same.counts;
      }

-- ---- the run

module _ (l l' : CornerLists) (corners : PairedCorners l l') (shades shades' : List ℕ) (kinds : PairedShades corners.pairs shades shades')
    (long : length l.xs ≤ length shades) (few : length l.xs ≤ 1024) (set : Settings) (params : GrowParams) (inside : SettingsInside set) (numbers : GrowInside params) (above : lt one params.attach_ambiguity_factor ≡ true) where
  -- both radii have a finite square
  finite_radius : (e : Bool) → T (finite (squared_radius (search_of set params e).search_r))
  unfolding search_of radius_of
  finite_radius true = boundary_radius params.attach_search_rel set.grid.cell_size numbers.search inside.cell_size params.boundary_search_factor numbers.boundary
  finite_radius false = search_radius params.attach_search_rel set.grid.cell_size numbers.search inside.cell_size

  factor_above : (e : Bool) → lt one (search_of set params e).ambiguity_factor ≡ true
  unfolding search_of
  factor_above e = above

  module _ (a a' : GrowState) (same : SameGrow corners.pairs a a') (given : Given (length l.xs) a.sheet) (c : Cell) (on : OnSheet c) where
    at_same : (at : Option Position) → SameGrow corners.pairs (grow_at (corners_of l shades) set params c at a) (grow_at (corners_of l' shades') set params c at a')
    unfolding grow_at
    at_same None = missed_same same given.long c on
    at_same (Some at) =
        let e = extrapolating (seen_of (corner_of l) a.sheet) c in
        let search = search_of set params e in
        rw (extrapolating_paired corners same.sheet given c, try_paired l l' corners shades shades' kinds long a.sheet a'.sheet same.sheet given (tolerances_of set) search c at (finite_radius e) (factor_above e))
        (with_same same given.long c on few (try_at (corners_of l shades) a.sheet (tolerances_of set) search c at)
        (λ k h. (attachable (corners_of l shades) a.sheet (tolerances_of set) search c at k h).given))

    visit_same : SameGrow corners.pairs (grow_visit (corners_of l shades) set params c a) (grow_visit (corners_of l' shades') set params c a')
    unfolding grow_visit
    visit_same = rw (prediction_paired corners same.sheet given set.grid c) (at_same (prediction_of (seen_of (corner_of l) a.sheet) set.grid c))

  module _ (first : List ℕ) (begins : Standing l first) where
    -- at most m cells more: in the first run every visited cell lies on the sheet
    from_same : (m head : ℕ) (a a' : GrowState) → Growing (corners_of l shades) (tolerances_of set) first head a → SameGrow corners.pairs a a'
        → SameGrow corners.pairs (grow_from (corners_of l shades) set params m head a) (grow_from (corners_of l' shades') set params m head a')
    unfolding grow_from
    from_same zero head a a' g same = same
    from_same (suc m) head a a' g same =
        subst
        (λ (q : List ℕ).
        SameGrow corners.pairs (grow_from (corners_of l shades) set params (suc m) head a)
        (cond (ltb head (length q)) (grow_from (corners_of l' shades') set params m (head + 1) (grow_visit (corners_of l' shades') set params (cell_of (get_or q head 0)) a')) a'))
        (sym same.queued) (go (ltb head (length a.queued)) refl (λ h. from_same m (head + 1) _ _ (growing_visit set params few sound head a g h) (next h)))
      where
        cell : Cell
        cell = cell_of (get_or a.queued head 0)

        sound : Sound (length l.xs) first
        sound = standing_sound begins

        next : head < length a.queued → SameGrow corners.pairs (grow_visit (corners_of l shades) set params cell a) (grow_visit (corners_of l' shades') set params cell a')
        next h =
            visit_same a a' same (sound_standing begins (sound_now few sound head a g h)).given cell
            (cell_on_lem (get_or a.queued head 0) (first_on (turn few sound head a g h)))

        go : (t : Bool) → ltb head (length a.queued) ≡ t
            → (head < length a.queued
            → SameGrow corners.pairs (grow_from (corners_of l shades) set params m (head + 1) (grow_visit (corners_of l shades) set params cell a))
            (grow_from (corners_of l' shades') set params m (head + 1) (grow_visit (corners_of l' shades') set params cell a')))
            → SameGrow corners.pairs (cond t (grow_from (corners_of l shades) set params m (head + 1) (grow_visit (corners_of l shades) set params cell a)) a)
            (cond t (grow_from (corners_of l' shades') set params m (head + 1) (grow_visit (corners_of l' shades') set params cell a')) a')
        go true e w = w (ltb-true head (length a.queued) e)
        go false e w = same

    -- the whole run
    pub grow_same : (first' : List ℕ) → PairedSheets corners.pairs first first' → SameGrow corners.pairs (grow_run (corners_of l shades) set params first) (grow_run (corners_of l' shades') set params first')
    unfolding grow_run
    grow_same first' paired =
        subst (λ (k : ℕ). SameGrow corners.pairs (grow_run (corners_of l shades) set params first) (grow_from (corners_of l' shades') set params (4 * k) 0 (start_of first'))) (sym corners.same_xs)
        (from_same (4 * length l.xs) 0 (start_of first) (start_of first') (growing_start (corners_of l shades) (tolerances_of set) first) (start_same paired))
