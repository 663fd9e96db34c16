-- A corner attached at a cell: what is remembered of the cells that are not near it holds on the new sheet. Assumes nothing.
use mathlib.Core.Path.{◌≡◌, refl, sym, ap, ◌∙◌, subst}
use mathlib.Core.Bool.{Bool, true, false, not, cond, ◌||◌, ◌&&◌}
use mathlib.Core.List.{List}
use Prim.Native.Nat.{ℕ, zero, suc, ◌+◌, ◌*◌, ◌/◌, ◌%◌, ◌<◌, ◌≤◌}
use native.Mathlib.Decide.{ℕ_discrete}
use native.Mathlib.Omega.{arith}
use Rattle.std.specs.Prelude.{Option, None, Some}
use borrow.Author.Tests.{leb-true, leb-false, ne_eqb}
use lib.Dec.{T, leb, eqb}
use lib.ListN.{length, get_or}
use lib.Ieee.{Float, lt}
use lib.Ieee.Scale.{finite}
use Rattle.binary32.specs.Sqrt.{sqrt_or_nan}
use Rattle.sheet.specs.Cells.{place_of, cell_of}
use Rattle.sheet.specs.Words.{label_of, attached, marks_cleared}
use Rattle.sheet.specs.Corners.{Corners, seen_through, seen_of, squared_distance}
use Rattle.sheet.specs.declared.Cell.{Cell}
use Rattle.sheet.specs.declared.Corner.{Corner}
use Rattle.sheet.specs.declared.Position.{Position}
use Rattle.sheet.proofs.Laws.{place_in}
use Rattle.sheet.proofs.Words.{attached_changes, cleared_changes}
use Rattle.labels.specs.Labelled.{names_corner, is_labelled, labelled_places, label_count, Attaching, SameLabels}
use Rattle.labels.specs.Used.{used_on}
use Rattle.labels.proofs.Labelled.{none_unlabelled, corner_labelled, places_in_lem, label_of_place, cleared_keeps, label_before, label_after, word_else}
use Rattle.labels.proofs.Below.{no_both}
use Rattle.labels.proofs.Used.{same_used, used_attached}
use Rattle.arguments.specs.declared.Settings.{Settings}
use Rattle.arguments.specs.declared.LocalExtensionParams.{LocalExtensionParams}
use Rattle.candidates.specs.Candidates.{squared_radius, last_distance}
use Rattle.extension_common.specs.TryCell.{unlabelled_on, gathered}
use Rattle.passes.specs.Grow.{tolerances_of}
use Rattle.passes.specs.Local.{reach_of, by_reach, supports_of, pictured_as, pictured_at, LocalFit, local_fit, local_search}
use Rattle.supports.proofs.Nearest.{Under, none, one, under_take}
use Rattle.remembered.specs.Remembered.{fit_at, Near, near_none, near_more, SupportsWithin, IdleFit, Mapped, Undecided, Found, idle, no_candidates, predicted, ambiguous, KnownAt, finding_of, known_of, aim_of, aim_at, Remembered, forgotten_word, doubted_word, Forgotten}
use Rattle.remembered.specs.declared.Finding.{Finding}
use Rattle.remembered.specs.declared.Known.{Known}
use Rattle.remembered.specs.declared.Aim.{Aim}
use Rattle.remembered.specs.declared.Memory.{Memory}
use Rattle.remembered.proofs.Supported.{Inserted, passing_inserted, under_all, under_sorted, nearest_stay}
use Rattle.remembered.proofs.Missed.{still_missed, gathered_stays, still_ambiguous}
use Rattle.remembered.proofs.Alike.{Alike, alike_none, alike_more, fit_alike}

-- ---- the sheet after it

module _ {sheet : List ℕ} {c : Cell} {k : ℕ} (a : Attaching sheet c k) where
  pub clear_long : length (attached sheet c k) ≡ length sheet
  clear_long = (attached_changes sheet c a.long a.on k a.corner_fits).same_length

  long' : 16384 ≤ length (attached sheet c k)
  long' = rw clear_long a.long

  pub clear_same : length (marks_cleared (attached sheet c k) c) ≡ length sheet
  clear_same = (cleared_changes (attached sheet c k) c long' a.on).same_length ∙ clear_long

  -- clearing the marks changes no label
  pub clear_labels : SameLabels (attached sheet c k) (marks_cleared (attached sheet c k) c)
  clear_labels = cleared_keeps (attached sheet c k) c long' a.on

  -- the labels of all other places stay
  pub clear_else : (q : ℕ) → q < 16384 → (q ≡ place_of c → ⊥) → label_of (get_or (marks_cleared (attached sheet c k) c) q 0) ≡ label_of (get_or sheet q 0)
  clear_else q h d = clear_labels.same_label q h ∙ ap label_of (word_else a q d)

  -- no corner comes to be unlabelled
  pub clear_used : (j : ℕ) → unlabelled_on (marks_cleared (attached sheet c k) c) j ≡ true → unlabelled_on sheet j ≡ true
  clear_used j e = go (eqb k j) (used_on sheet j) (ap not (sym (same_used (attached sheet c k) (marks_cleared (attached sheet c k) c) clear_labels j ∙ used_attached a j)) ∙ e)
    where
      go : (s t : Bool) → not (s || t) ≡ true → not t ≡ true
      go true t e = absurd (no_both false e refl)
      go false t e = e

  -- one more corner is labelled
  pub clear_unlabelled : (j : ℕ) → unlabelled_on (marks_cleared (attached sheet c k) c) j ≡ (not (eqb k j) && unlabelled_on sheet j)
  clear_unlabelled j = ap not (same_used (attached sheet c k) (marks_cleared (attached sheet c k) c) clear_labels j ∙ used_attached a j) ∙ go (eqb k j) (used_on sheet j)
    where
      go : (s t : Bool) → not (s || t) ≡ (not s && not t)
      go true t = refl
      go false t = refl

  -- the labelled places are those before it and the new one
  pub clear_inserted : Inserted (place_of c) (labelled_places sheet) (labelled_places (marks_cleared (attached sheet c k) c))
  unfolding labelled_places is_labelled
  clear_inserted =
      passing_inserted (λ p. is_labelled (get_or sheet p 0)) (λ p. is_labelled (get_or (marks_cleared (attached sheet c k) c) p 0)) 16384 (place_of c) (place_in c a.on)
      (none_unlabelled _ (label_before a)) (corner_labelled _ k (clear_labels.same_label (place_of c) (place_in c a.on) ∙ label_after a))
      (λ p h d. ap names_corner (clear_else p h d))

  -- the pictured corners of all other places stay
  pub clear_pictured : (corner : ℕ → Corner) (q : ℕ) → q < 16384 → (q ≡ place_of c → ⊥)
      → pictured_at (seen_of corner (marks_cleared (attached sheet c k) c)) q ≡ pictured_at (seen_of corner sheet) q
  unfolding pictured_at seen_of
  clear_pictured corner q h d =
      ap (λ (l : Option ℕ). pictured_as (seen_through corner l))
      (label_of_place (marks_cleared (attached sheet c k) c) q h ∙ clear_else q h d ∙ sym (label_of_place sheet q h))

-- ---- the supports of a cell, and the fit on them

all_under : (sheet : List ℕ) → Under 16384 (labelled_places sheet)
all_under sheet = under_all 16384 (labelled_places sheet) (record { below = places_in_lem sheet })

supports_under : (d : Cell) (sheet : List ℕ) → Under 16384 (supports_of d sheet)
unfolding supports_of
supports_under d sheet = under_take 16384 4 (by_reach d (labelled_places sheet)) (under_sorted 16384 d (labelled_places sheet) (all_under sheet))

-- places that are nearer than another are other places
alike_far : {seen seen' : Cell → Option Corner} (d : Cell) (r q : ℕ) → r < reach_of d q → ((p : ℕ) → p < 16384 → (p ≡ q → ⊥) → pictured_at seen' p ≡ pictured_at seen p) → {l : List ℕ} → Near d r l → Under 16384 l
    → Alike seen seen' l
alike_far d r q far same near_none none = alike_none
alike_far d r q far same (near_more {p} h n) (one k u) =
    alike_more (same p k (λ e. let z = ap (λ (x : ℕ). reach_of d x) e in omega arith)) (alike_far d r q far same n u)

module _ {sheet : List ℕ} {c : Cell} {k : ℕ} (a : Attaching sheet c k) (four : 4 ≤ label_count sheet) (d : Cell) {r : ℕ} (near : SupportsWithin r sheet d) (far : r < reach_of d (place_of c)) where
  pub supports_stay : supports_of d (marks_cleared (attached sheet c k) c) ≡ supports_of d sheet
  unfolding supports_of label_count
  supports_stay = nearest_stay d (place_of c) r 4 (place_in c a.on) (clear_inserted a) (all_under sheet) four near far

  pub within_stays : SupportsWithin r (marks_cleared (attached sheet c k) c) d
  within_stays = rw supports_stay near

  pub fit_stays : (cs : Corners) → fit_at cs (marks_cleared (attached sheet c k) c) d ≡ fit_at cs sheet d
  fit_stays cs =
      ap (local_fit (seen_of cs.corner (marks_cleared (attached sheet c k) c))) supports_stay
      ∙ fit_alike (seen_of cs.corner sheet) (seen_of cs.corner (marks_cleared (attached sheet c k) c)) (supports_of d sheet)
      (alike_far d r (place_of c) far (clear_pictured a cs.corner) near (supports_under d sheet))

-- ---- what is known

-- the sheet after a corner was attached to a cell
abbrev after : List ℕ → Cell → ℕ → List ℕ
after sheet c k = marks_cleared (attached sheet c k) c

-- what is left of what was found once a corner is labelled: an ambiguous choice is doubted unless the corner is far
pub doubted : Bool → Finding → Finding
doubted far Finding.Idle = Finding.Idle
doubted far Finding.NoCandidates = Finding.NoCandidates
doubted far (Finding.Predicted at) = Finding.Predicted at
doubted far (Finding.Ambiguous at limit) = cond far (Finding.Ambiguous at limit) (Finding.Predicted at)

-- whether a corner is farther than a limit
abbrev is_far : Position → Aim → Bool
is_far corner aim = lt aim.limit (sqrt_or_nan (squared_distance corner aim.at))

module _ (cs : Corners) (set : Settings) (p : LocalExtensionParams) (l : Option Float) {sheet : List ℕ} {c : Cell} {k : ℕ} (a : Attaching sheet c k) (four : 4 ≤ label_count sheet)
    (small : T (finite (squared_radius (local_search set p).search_r))) (d : Cell) {r : ℕ} (far : r < reach_of d (place_of c)) (n : SupportsWithin r sheet d) where
  -- the fit of a cell that is not near maps it to where it did
  mapped_stays : {at : Position} → Mapped set p l d (fit_at cs sheet d) at → Mapped set p l d (fit_at cs (after sheet c k) d) at
  mapped_stays {at} m = subst (λ (f : LocalFit). Mapped set p l d f at) (sym (fit_stays a four d n far cs)) m

  ambiguous_stays : {at : Position} {limit : Float} → Undecided cs set p l sheet d at limit
      → (t : Bool) → lt limit (sqrt_or_nan (squared_distance (cs.corner k).position at)) ≡ t → Found cs set p l (after sheet c k) d (cond t (Finding.Ambiguous at limit) (Finding.Predicted at))
  ambiguous_stays u false e = predicted (mapped_stays u.mapped)
  ambiguous_stays {at} {limit} u true e =
      ambiguous
      (record {
        mapped = mapped_stays u.mapped;
        undecided = still_ambiguous cs sheet (after sheet c k) k (clear_unlabelled a) (tolerances_of set) (local_search set p) d at same u.undecided;
        last = u.last ∙ ap last_distance (sym same);
        no_shades = u.no_shades;
      })
    where
      same : gathered cs (after sheet c k) (local_search set p).search_r d at ≡ gathered cs sheet (local_search set p).search_r d at
      same = gathered_stays cs sheet (after sheet c k) k (clear_unlabelled a) (local_search set p).search_r small d at (sym (ap (λ (x : Float). lt x (sqrt_or_nan (squared_distance (cs.corner k).position at))) u.last) ∙ e)

  found_stays : (f : Finding) → Found cs set p l sheet d f → Found cs set p l (after sheet c k) d (doubted (is_far (cs.corner k).position (aim_of f)) f)
  unfolding doubted aim_of
  found_stays Finding.Idle (idle f) = idle (subst (IdleFit set p l) (sym (fit_stays a four d n far cs)) f)
  found_stays Finding.NoCandidates (no_candidates m) =
      no_candidates
      (record {
        at = m.at;
        mapped = mapped_stays m.mapped;
        missed = still_missed cs sheet (after sheet c k) (clear_used a) (tolerances_of set) (local_search set p) d m.at m.missed;
        none_over = m.none_over;
      })
  found_stays (Finding.Predicted at) (predicted m) = predicted (mapped_stays m)
  found_stays (Finding.Ambiguous at limit) (ambiguous u) = ambiguous_stays u (lt limit (sqrt_or_nan (squared_distance (cs.corner k).position at))) refl

  pub known_stays : (f : Finding) → Found cs set p l sheet d f
      → KnownAt cs set p l (after sheet c k) d (Some (record { reach = r; finding = doubted (is_far (cs.corner k).position (aim_of f)) f }))
  known_stays f h = (within_stays a four d n far, found_stays f h)

-- a code doubted says what it said, doubted
doubted_certain : (far : Aim → Bool) (k : ℕ) (aim : Aim) → k < 4 → 0 < k → finding_of k aim ≡ doubted (far (aim_of (finding_of k aim))) (finding_of k aim)
unfolding doubted finding_of
doubted_certain far zero aim h g = absurd (omega arith)
doubted_certain far (suc zero) aim h g = refl
doubted_certain far (suc (suc zero)) aim h g = refl
doubted_certain far (suc (suc (suc zero))) aim h g = refl
doubted_certain far (suc (suc (suc (suc k)))) aim h g = absurd (omega arith)

finding_ambiguous : (k : ℕ) (aim : Aim) → 4 ≤ k → finding_of k aim ≡ Finding.Ambiguous aim.at aim.limit
unfolding finding_of
finding_ambiguous k aim h = rw (ne_eqb k 1 (λ z. omega arith), ne_eqb k 2 (λ z. omega arith), ne_eqb k 3 (λ z. omega arith))

module _ (far : Aim → Bool) (w : ℕ) (aim : Aim) (some : w % 8 ≡ 0 → ⊥) where
  -- what a word says
  pub word_says : known_of w aim ≡ Some (record { reach = w / 8; finding = finding_of (w % 8) aim })
  unfolding known_of
  word_says = rw (ne_eqb (w % 8) 0 some)

  -- a word doubted says what it said, doubted
  pub doubted_says : known_of (doubted_word (far aim) w) aim ≡ Some (record { reach = w / 8; finding = doubted (far (aim_of (finding_of (w % 8) aim))) (finding_of (w % 8) aim) })
  unfolding doubted_word
  doubted_says = go (leb 4 (w % 8)) refl
    where
      Says : Finding → Option Known
      Says f = Some (record { reach = w / 8; finding = f })

      split : 4 ≤ w % 8 → (t : Bool) → far aim ≡ t → known_of (cond (true && not t) (w / 8 * 8 + 3) w) aim ≡ Says (cond t (Finding.Ambiguous aim.at aim.limit) (Finding.Predicted aim.at))
      split h true e = word_says ∙ ap Says (finding_ambiguous (w % 8) aim h)
      split h false e = unfold known_of finding_of in
          let kind : (w / 8 * 8 + 3) % 8 ≡ 3 = omega arith in
          let reach : (w / 8 * 8 + 3) / 8 ≡ w / 8 = omega arith in
          rw (kind, reach)

      torn : 4 ≤ w % 8 → doubted (far aim) (Finding.Ambiguous aim.at aim.limit) ≡ doubted (far (aim_of (finding_of (w % 8) aim))) (finding_of (w % 8) aim)
      torn h = unfold aim_of in rw (finding_ambiguous (w % 8) aim h)

      go : (t : Bool) → leb 4 (w % 8) ≡ t → known_of (cond (t && not (far aim)) (w / 8 * 8 + 3) w) aim ≡ Says (doubted (far (aim_of (finding_of (w % 8) aim))) (finding_of (w % 8) aim))
      go false e = word_says ∙ ap Says (doubted_certain far (w % 8) aim (leb-false 4 (w % 8) e) (omega arith))
      go true e = unfold doubted in split (leb-true 4 (w % 8) e) (far aim) refl ∙ ap Says (torn (leb-true 4 (w % 8) e))

-- a word of nothing
pub zero_says : (far : Bool) (w : ℕ) (aim : Aim) → w % 8 ≡ 0 → known_of (doubted_word far w) aim ≡ None
unfolding doubted_word known_of
zero_says far w aim e = rw (e, e)

-- what is left is remembered on the new sheet
pub attach_remembered : {cs : Corners} {set : Settings} {p : LocalExtensionParams} {l : Option Float} {sheet : List ℕ} {memory memory' : Memory} {c : Cell} {k : ℕ}
    → Attaching sheet c k → 4 ≤ label_count sheet → Remembered cs set p l sheet memory → Forgotten memory c (cs.corner k).position memory'
    → Remembered cs set p l (marks_cleared (attached sheet c k) c) memory'
unfolding forgotten_word
attach_remembered {cs} {set} {p} {l} {sheet} {memory} {memory'} {c} {k} a four m f =
    record { at = λ b h. rw (f.aims_are, f.at b h) (go b h (leb (reach_of (cell_of b) (place_of c)) (get_or memory.words b 0 / 8)) refl); bounded = m.bounded }
  where
    Holds : ℕ → Option Known → Type 0
    Holds b known = KnownAt cs set p l (marks_cleared (attached sheet c k) c) (cell_of b) known

    far : Aim → Bool
    far aim = is_far (cs.corner k).position aim

    none_holds : (b : ℕ) {known : Option Known} → known ≡ None → Holds b known
    none_holds b e = rw e tt

    go : (b : ℕ) → b < 16384 → (t : Bool) → leb (reach_of (cell_of b) (place_of c)) (get_or memory.words b 0 / 8) ≡ t
        → Holds b (known_of (doubted_word (far (aim_at memory b)) (cond t 0 (get_or memory.words b 0))) (aim_at memory b))
    go b h true e = none_holds b (zero_says (far (aim_at memory b)) 0 (aim_at memory b) (omega arith))
    go b h false e = by (ℕ_discrete (get_or memory.words b 0 % 8) 0)
      where
        w : ℕ
        w = get_or memory.words b 0

        by : Dec (w % 8 ≡ 0) → Holds b (known_of (doubted_word (far (aim_at memory b)) w) (aim_at memory b))
        by (yes z) = none_holds b (zero_says (far (aim_at memory b)) w (aim_at memory b) z)
        by (no z) =
            let was = rw (word_says far w (aim_at memory b) z) at (m.at b h) in
            rw (doubted_says far w (aim_at memory b) z)
            (known_stays cs set p l a four m.bounded (cell_of b) (leb-false (reach_of (cell_of b) (place_of c)) (w / 8) e) was.0 (finding_of (w % 8) (aim_at memory b)) was.1)
