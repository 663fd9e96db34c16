-- A visit and what is remembered of the cells after it: of a cell of which nothing is known, where the fit maps one to, and by what is known of
-- one. Assumes nothing.
use mathlib.Core.Path.{◌≡◌, refl, sym, ap, ap₂, ◌∙◌}
use mathlib.Core.Bool.{Bool, true, false}
use mathlib.Core.List.{List}
use Prim.Native.Nat.{ℕ, ◌+◌, ◌*◌, ◌<◌, ◌≤◌}
use native.Mathlib.Omega.{arith}
use Rattle.std.specs.Prelude.{Option, None, Some, Ok, Err}
use lib.ListN.{take}
use lib.Ieee.{Float, of_bits, binary32, lt}
use Rattle.sheet.specs.Cells.{OnSheet, place_of}
use Rattle.sheet.specs.Corners.{Corners, corners_in, seen_of}
use Rattle.sheet.specs.declared.Cell.{Cell}
use Rattle.sheet.specs.declared.Corner.{Corner}
use Rattle.sheet.specs.declared.Position.{Position}
use Rattle.labels.specs.Labelled.{label_count, Attaching}
use Rattle.labels.specs.declared.Bounds.{Bounds}
use Rattle.arguments.specs.declared.Settings.{Settings}
use Rattle.arguments.specs.declared.LocalExtensionParams.{LocalExtensionParams}
use Rattle.candidates.specs.Candidates.{last_distance}
use Rattle.candidates.specs.declared.Candidates.{Candidates}
use Rattle.extension_common.specs.TryCell.{TryCellResult, gathered, unmatched, try_at}
use Rattle.extension_common.proofs.Laws.{unmatched_few}
use Rattle.extension_common.specs.declared.NotAttached.{NotAttached}
use Rattle.homography.specs.Fit.{applied}
use Rattle.passes.specs.Grow.{tolerances_of}
use Rattle.passes.specs.Local.{supports_of, cell_point, fitted, local_fit, worst, with_unmatched, local_search, gate_of, local_with, local_try, local_visit}
use Rattle.passes.specs.Counting.{one_more, visits}
use Rattle.supports.specs.Nearest.{places_of, nearest_among}
use Rattle.supports.specs.Fitted.{support_fit_of}
use Rattle.supports.specs.declared.Labelled.{Labelled}
use Rattle.supports.specs.declared.Support.{Support}
use Rattle.supports.specs.declared.SupportFit.{SupportFit}
use Rattle.supports.proofs.Fitted.{fit_none, fit_some}
use Rattle.supports.proofs.Nearest.{nth, Reached, nearest_places, nearest_reached, nearest_small}
use Rattle.remembered.specs.Remembered.{fit_at, Found, KnownAt, Remembered, Notable, Noted, Forgotten, entry_of}
use Rattle.remembered.specs.declared.Finding.{Finding}
use Rattle.remembered.specs.declared.Known.{Known}
use Rattle.remembered.proofs.Notes.{recalled, noted}
use Rattle.remembered.proofs.Larger.{larger}
use Rattle.remembered.proofs.Visits.{visit_none, visit_gated, visit_fitted, visit_idle, visit_no_candidates, visit_ambiguous, visit_predicted}
use Rattle.remembered.proofs.Made.{made_none, made_above, made_within, made_no_candidates, made_ambiguous}
use Rattle.remembered.proofs.Attach.{attach_remembered}
use Rattle.local_cell.specs.Extending.{cell_counted, residuals_recorded, unmatched_counted, state_of, Extending, Holds, NotedIfBare}
use Rattle.local_cell.specs.Work.{Recalls, Foretold, Wrote}
use Rattle.local_cell.specs.declared.LocalProgress.{LocalProgress}
use Rattle.local_cell.specs.declared.LocalSetup.{LocalSetup}
use Rattle.local_cell.specs.declared.LocalWork.{LocalWork}
use Rattle.local_cell.proofs.Visit.{nearby, supports_are, untouched, extending_as, left_as, try_counts, counted_left, visits_more, with_counts, with_unmatched_lem}

-- ---- a cell of which nothing is known

-- how far a support is can be noted
pub reaches_small : {n : ℕ} {sheet list : List ℕ} {used : List Bool} {labelled : Labelled} {around : Option Bounds} {at : LocalProgress} (c : Cell) {near : List Support}
    → Extending n sheet list used labelled around at → OnSheet c
    → near ≡ nearest_among c (take labelled.count labelled.places) → (nth near 3).reach < 8192
reaches_small c f on e = nearest_small (nearby f c on) e

module _ (set : Settings) (p : LocalExtensionParams) {cs : Corners} {sheet list : List ℕ} {work : LocalWork} (c : Cell)
    (f : Extending cs.count sheet list work.used work.labelled.now work.around work.progress) (on : OnSheet c) (r : Recalls set p cs sheet work) (near : List Support)
    (nearest : near ≡ nearest_among c (take work.labelled.now.count work.labelled.now.places)) {found : Option SupportFit}
    (is : found ≡ support_fit_of (local_fit (seen_of cs.corner sheet) (places_of near))) where
  supports : places_of near ≡ supports_of c sheet
  supports = supports_are f c near (nearest_places (nearby f c on) nearest)

  far : Reached c near
  far = nearest_reached (nearby f c on) nearest

  of : local_fit (seen_of cs.corner sheet) (places_of near) ≡ fit_at cs sheet c
  of = ap (local_fit (seen_of cs.corner sheet)) supports

  -- there is no fit
  module _ (e : found ≡ None) where
    pub none_left : {at' : LocalProgress} → at' ≡ work.progress → Holds (local_visit cs set p c (state_of sheet list work.progress)) list sheet list at'
    none_left same =
        untouched (extending_as f refl refl refl (ap (λ (x : LocalProgress). x.counts.attached) same))
        (visit_none cs set p c (state_of sheet list work.progress) _ of (fit_none _ is e) ∙ ap (state_of sheet list) (sym same))

    pub none_recalls : {work' : LocalWork} → work'.progress ≡ work.progress → Noted work.memory.now c (Some (record { reach = (nth near 3).reach; finding = Finding.Idle })) work'.memory.now → Recalls set p cs sheet work'
    none_recalls same n =
        record {
          remembered = rw same (noted r.remembered c on (made_none cs set p work.progress.residual sheet c near supports far (sym of ∙ fit_none _ is e)) n);
          unmatched_few = rw same r.unmatched_few;
        }

  module _ {fit : SupportFit} (some : found ≡ Some fit) {gate most : Float} (gated : gate ≡ gate_of set p) (largest : most ≡ worst (of_bits binary32 0) fit.residuals) where
    has : local_fit (seen_of cs.corner sheet) (places_of near) ≡ fitted fit.h fit.residuals
    has = fit_some _ is some

    -- a residual is above the gate, or all are within
    above : lt gate most ≡ true → lt (gate_of set p) (worst (of_bits binary32 0) fit.residuals) ≡ true
    above e = sym (ap₂ lt gated largest) ∙ e

    module _ (e : lt gate most ≡ false) {point prediction : Position} (at_point : point ≡ cell_point c) (maps : prediction ≡ applied fit.h point) where
      within : lt (gate_of set p) (worst (of_bits binary32 0) fit.residuals) ≡ false
      within = sym (ap₂ lt gated largest) ∙ e

      mapped : prediction ≡ applied fit.h (cell_point c)
      mapped = maps ∙ ap (applied fit.h) at_point

      known : KnownAt cs set p (residuals_recorded work.progress fit.residuals).residual sheet c (Some (record { reach = (nth near 3).reach; finding = Finding.Predicted prediction }))
      known = rw mapped (made_within cs set p work.progress.residual sheet c near supports far fit.h fit.residuals (sym of ∙ has) within)

      pub within_visit : {at : LocalProgress} → at ≡ residuals_recorded work.progress fit.residuals → local_visit cs set p c (state_of sheet list work.progress) ≡ local_try cs set p c prediction (state_of sheet list at)
      within_visit f = rw (f, mapped) (visit_fitted cs set p c (state_of sheet list work.progress) _ of _ _ has within)

    module _ {at' : LocalProgress} (z : at' ≡ residuals_recorded work.progress fit.residuals) where
      recorded : Extending cs.count sheet list work.used work.labelled.now work.around at'
      recorded = extending_as f refl refl refl (ap (λ (x : LocalProgress). x.counts.attached) z)

      few : at'.unmatched ≤ 1024 * visits at'.counts
      few = rw z r.unmatched_few

      module _ (e : lt gate most ≡ true) where
        pub above_left : Holds (local_visit cs set p c (state_of sheet list work.progress)) list sheet list at'
        above_left = untouched recorded (visit_gated cs set p c (state_of sheet list work.progress) _ of _ _ has (above e) ∙ ap (state_of sheet list) (sym z))

    module _ {work' : LocalWork} (z : work'.progress ≡ residuals_recorded work.progress fit.residuals) where
      pub above_recalls : lt gate most ≡ true → Noted work.memory.now c (Some (record { reach = (nth near 3).reach; finding = Finding.Idle })) work'.memory.now → Recalls set p cs sheet work'
      above_recalls e n =
          record {
            remembered = rw z (noted (larger fit.residuals r.remembered) c on (made_above cs set p work.progress.residual sheet c near supports far fit.h fit.residuals (sym of ∙ has) (above e)) n);
            unmatched_few = few z;
          }

      module _ (e : lt gate most ≡ false) {point prediction : Position} (at_point : point ≡ cell_point c) (maps : prediction ≡ applied fit.h point) where
        pub within_recalls : Noted work.memory.now c (Some (record { reach = (nth near 3).reach; finding = Finding.Predicted prediction })) work'.memory.now → Recalls set p cs sheet work'
        within_recalls n = record { remembered = rw z (noted (larger fit.residuals r.remembered) c on (known e at_point maps) n); unmatched_few = few z }

        pub within_foretold : Foretold set p cs sheet work' c (nth near 3).reach prediction
        within_foretold = record { known = rw z (known e at_point maps); small = reaches_small c f on nearest }

-- ---- where the fit maps a cell to

-- what is remembered holds of a pass that is given the same
pub recalls_given : {g g' : LocalSetup} {sheet : List ℕ} {work : LocalWork} → g' ≡ g → Recalls g.settings g.params (corners_in g.corners.now) sheet work
    → Recalls g'.settings g'.params (corners_in g'.corners.now) sheet work
recalls_given e r = rw e r

module _ {set : Settings} {p : LocalExtensionParams} {cs : Corners} {sheet : List ℕ} {work : LocalWork} (r : Recalls set p cs sheet work) where
  more : (found : TryCellResult) → work.progress.unmatched ≤ 1024 * visits (one_more found work.progress.counts)
  more found = omega (arith, r.unmatched_few, visits_more found work.progress.counts)

  -- one cell more is counted
  pub recalls_counted : (found : TryCellResult) {work' : LocalWork} → work'.memory.now ≡ work.memory.now → work'.progress ≡ cell_counted work.progress found → Recalls set p cs sheet work'
  recalls_counted found m e = record { remembered = rw (m, e) r.remembered; unmatched_few = rw e (more found) }

  module _ {c : Cell} where
    -- a corner attached
    pub recalls_attached : {list : List ℕ} {k : ℕ} {taken : Corner} {sheet' list' : List ℕ} {work' : LocalWork} → Attaching sheet c k → 4 ≤ label_count sheet
        → taken ≡ cs.corner k → Wrote sheet list work c k sheet' list' work' → Forgotten work.memory.now c taken.position work'.memory.now → Recalls set p cs sheet' work'
    recalls_attached {k = k} a four e w f =
        record {
          remembered = rw (w.sheet_is, w.largest_is) (attach_remembered a four r.remembered (rw e at f));
          unmatched_few = rw (w.unmatched_is, w.counts_are) (more (Ok k));
        }

    -- noted where no shade stands
    noted_if : (found : TryCellResult) {known : Known} {work' : LocalWork} → OnSheet c
        → (cs.shades.any ≡ false → KnownAt cs set p work.progress.residual sheet c (Some known)) → work'.progress ≡ cell_counted work.progress found
        → NotedIfBare cs.shades.any work.memory.now c known work'.memory.now → Recalls set p cs sheet work'
    noted_if found {known} {work'} on k e n = record { remembered = rw e (go cs.shades.any refl); unmatched_few = rw e (more found) }
      where
        go : (b : Bool) → cs.shades.any ≡ b → Remembered cs set p work.progress.residual sheet work'.memory.now
        go true s = rw (n.kept s) r.remembered
        go false s = noted r.remembered c on (k s) (n.bare s)

    -- no candidate
    pub recalls_missed : {reach : ℕ} {prediction : Position} {work' : LocalWork} (found : TryCellResult) → OnSheet c → Foretold set p cs sheet work c reach prediction
        → found ≡ try_at cs sheet (tolerances_of set) (local_search set p) c prediction → found ≡ Err NotAttached.NoCandidates → work'.progress ≡ cell_counted work.progress found
        → NotedIfBare cs.shades.any work.memory.now c (record { reach = reach; finding = Finding.NoCandidates }) work'.memory.now → Recalls set p cs sheet work'
    recalls_missed found on k d g e n = noted_if found on (λ s. (k.known.0, made_no_candidates k.known.1 (sym d ∙ g) s)) e n

    -- an ambiguous choice
    pub recalls_ambiguous : {reach : ℕ} {prediction : Position} {candidates : Candidates} {limit : Float} {work' : LocalWork} (found : TryCellResult)
        → OnSheet c → Foretold set p cs sheet work c reach prediction
        → candidates ≡ gathered cs sheet (local_search set p).search_r c prediction → limit ≡ last_distance candidates
        → found ≡ try_at cs sheet (tolerances_of set) (local_search set p) c prediction → found ≡ Err NotAttached.Ambiguous → work'.progress ≡ cell_counted work.progress found
        → NotedIfBare cs.shades.any work.memory.now c (record { reach = reach; finding = Finding.Ambiguous prediction limit }) work'.memory.now → Recalls set p cs sheet work'
    recalls_ambiguous found on k i h d g e n = noted_if found on (λ s. (k.known.0, made_ambiguous k.known.1 (sym d ∙ g) (h ∙ ap last_distance i) s)) e n

-- ---- what is passed over there

module _ (set : Settings) (p : LocalExtensionParams) (cs : Corners) {sheet list : List ℕ} {work : LocalWork} (c : Cell) (prediction : Position)
    (countable : visits work.progress.counts < 4294967296) (few : cs.count ≤ 1024) (r : Recalls set p cs sheet work)
    {sheet' list' : List ℕ} (next : LocalWork)
    (l : Holds (local_with c (try_at cs sheet (tolerances_of set) (local_search set p) c prediction) (state_of sheet list work.progress)) list sheet' list' next.progress)
    {passed : ℕ} (is : passed ≡ unmatched cs sheet (local_search set p).search_r c prediction) where
  one_visit : visits next.progress.counts ≡ visits work.progress.counts + 1
  one_visit =
      ap visits (l.counts_are ∙ with_counts c (try_at cs sheet (tolerances_of set) (local_search set p) c prediction) (state_of sheet list work.progress))
      ∙ visits_more (try_at cs sheet (tolerances_of set) (local_search set p) c prediction) work.progress.counts

  same_unmatched : next.progress.unmatched ≡ work.progress.unmatched
  same_unmatched = l.unmatched_is ∙ with_unmatched_lem c (try_at cs sheet (tolerances_of set) (local_search set p) c prediction) (state_of sheet list work.progress)

  passed_few : passed ≤ 1024
  passed_few = omega (arith, is, unmatched_few cs sheet (local_search set p).search_r c prediction, few)

  all_few : next.progress.unmatched + passed ≤ 1024 * visits next.progress.counts
  all_few = omega (arith, one_visit, same_unmatched, passed_few, r.unmatched_few)

  -- it can be counted
  pub passed_fits : next.progress.unmatched + passed < 9007199254740992
  passed_fits = omega (arith, all_few, one_visit, countable)

  -- and with it the cell is visited
  pub passed_left : {at' : LocalProgress} → at' ≡ unmatched_counted next.progress passed → Holds (local_try cs set p c prediction (state_of sheet list work.progress)) list sheet' list' at'
  passed_left e =
      left_as (try_counts cs set p c prediction (state_of sheet list work.progress) ∙ ap (λ (n : ℕ). with_unmatched n (local_with c (try_at cs sheet (tolerances_of set) (local_search set p) c prediction) (state_of sheet list work.progress))) (sym is))
      (counted_left passed e l)

  pub passed_recalls : {work' : LocalWork} → work'.progress ≡ unmatched_counted next.progress passed → {set' : Settings} {p' : LocalExtensionParams} {cs' : Corners} → Recalls set' p' cs' sheet' next → work'.memory.now ≡ next.memory.now → Recalls set' p' cs' sheet' work'
  passed_recalls e m y = record { remembered = rw (y, e) m.remembered; unmatched_few = rw e all_few }

-- ---- by what is known of a cell

module _ {set : Settings} {p : LocalExtensionParams} {cs : Corners} {sheet : List ℕ} {work : LocalWork} (c : Cell)
    (on : OnSheet c) (r : Recalls set p cs sheet work) {known : Option Known} (is : known ≡ entry_of work.memory.now (place_of c)) {k : Known} (some : known ≡ Some k) where
  says : Found cs set p work.progress.residual sheet c k.finding
  says = (rw some at (recalled r.remembered c on is)).1

  pub known_idle : (list : List ℕ) → k.finding ≡ Finding.Idle → local_visit cs set p c (state_of sheet list work.progress) ≡ state_of sheet list work.progress
  known_idle list e = visit_idle cs set p c (state_of sheet list work.progress) (rw e at says)

  pub known_no_candidates : (list : List ℕ) → k.finding ≡ Finding.NoCandidates
      → local_visit cs set p c (state_of sheet list work.progress) ≡ local_with c (Err NotAttached.NoCandidates) (state_of sheet list work.progress)
  known_no_candidates list e = visit_no_candidates cs set p c (state_of sheet list work.progress) (rw e at says)

  pub known_ambiguous : (list : List ℕ) {prediction : Position} {limit : Float} → k.finding ≡ Finding.Ambiguous prediction limit
      → local_visit cs set p c (state_of sheet list work.progress) ≡ local_with c (Err NotAttached.Ambiguous) (state_of sheet list work.progress)
  known_ambiguous list e = visit_ambiguous cs set p c (state_of sheet list work.progress) (rw e at says)

  module _ {prediction : Position} (e : k.finding ≡ Finding.Predicted prediction) where
    pub known_predicted : (list : List ℕ) → local_visit cs set p c (state_of sheet list work.progress) ≡ local_try cs set p c prediction (state_of sheet list work.progress)
    known_predicted list = visit_predicted cs set p c (state_of sheet list work.progress) (rw e at says)

    pub known_foretold : Notable known → Foretold set p cs sheet work c k.reach prediction
    known_foretold h = record { known = ((rw some at (recalled r.remembered c on is)).0, rw e at says); small = rw some at h }
