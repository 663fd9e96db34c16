-- A round of local, a place at a time: a visit changes no label elsewhere and counts at most one cell, and what the code has written after each place.
-- Assumes nothing.
use Rattle.std.specs.Prelude.{None}
use mathlib.Core.Path.{◌≡◌, refl, sym, ap, ap₂, ◌∙◌}
use mathlib.Core.Bool.{Bool, true, false, not, ◌&&◌, true≢false}
use mathlib.Core.List.{List}
use Prim.Native.Nat.{ℕ, ◌+◌, ◌<◌, ◌≤◌}
use native.Mathlib.Omega.{arith}
use lib.ListN.{length, get_or, take}
use Rattle.std.specs.List.{All}
use Rattle.std.proofs.lemmas.List.Elements.{All-from_get_or}
use Rattle.sheet.specs.Corners.{Corners}
use Rattle.sheet.specs.Cells.{cell_of}
use Rattle.sheet.specs.Words.{label_at}
use Rattle.sheet.specs.declared.Cell.{Cell}
use Rattle.sheet.proofs.Laws.{cell_on_lem, place_cell}
use Rattle.labels.specs.Labelled.{is_labelled, labelled_places}
use Rattle.labels.specs.Box.{box_of}
use Rattle.labels.proofs.Labelled.{places_in_lem, label_of_place, unlabelled_none}
use Rattle.arguments.specs.declared.Settings.{Settings}
use Rattle.arguments.specs.declared.LocalExtensionParams.{LocalExtensionParams}
use Rattle.positions_policy.specs.declared.Tolerances.{Tolerances}
use Rattle.passes.specs.Counting.{visits}
use Rattle.passes.specs.Local.{depth_of, local_region, local_cells, LocalState, local_visit, local_round}
use Rattle.passes.proofs.Over.{over_read, over_over}
use Rattle.region.specs.Region.{RegionFound, region_at}
use Rattle.region.specs.declared.Region.{Region}
use Rattle.region.specs.Windowed.{InWindow, NextIn}
use Rattle.region.proofs.Told.{region_is}
use Rattle.region.proofs.Jumps.{jumps, told_far}
use Rattle.region.proofs.Places as places
use Rattle.region.proofs.Places.{Elsewhere, walked_all, walked_start, walked_most, looked, looked_out, looked_labelled, looked_bare, looked_grows, looked_most, walk_grows}
use Rattle.remembered.proofs.Attach.{clear_same, clear_else}
use Rattle.arguments.specs.Front.{over}
use Rattle.local_cell.specs.Extending.{state_of, Holds}
use Rattle.local_cell.specs.Work.{state_in, SamePass, Left, Trying}
use Rattle.local_cell.specs.declared.LocalProgress.{LocalProgress}
use Rattle.local_cell.specs.declared.LocalWork.{LocalWork}
use Rattle.local_cell.proofs.Visit.{Tried, passed, attaches, tried, tried_grows, tried_counted, attaching, untouched, left_as}
use Rattle.local.specs.Rounds.{RoundOf, tried_at, looked_at}
use Rattle.local.specs.declared.Round.{Round}

-- ---- a round

-- the region of a round that starts with a sheet
abbrev pub round_region : LocalExtensionParams → List ℕ → Cell → Bool
round_region p sheet = local_region (depth_of p) (labelled_places sheet) (box_of sheet)

-- the state after the places below n
abbrev pub walked_to : Corners → Settings → LocalExtensionParams → LocalState → ℕ → LocalState
walked_to cs set p s n = places.walked_to (local_visit cs set p) (λ t. t.sheet) (round_region p s.sheet) s n

pub walked_round : (cs : Corners) (set : Settings) (p : LocalExtensionParams) (s : LocalState) → walked_to cs set p s 16384 ≡ local_round cs set p s
unfolding local_round local_cells
walked_round cs set p s = walked_all (local_visit cs set p) (λ t. t.sheet) (round_region p s.sheet) s

-- a visit of a bare cell changes no label elsewhere
tried_else : {cs : Corners} {tol : Tolerances} {s : LocalState} (n : ℕ) {after : LocalState} → n < 16384 → cs.count ≤ 1024 → 16384 ≤ length s.sheet
    → label_at s.sheet (cell_of n) ≡ None
    → Tried cs tol (cell_of n) s after → Elsewhere s.sheet after.sheet n
tried_else n h few long e (passed m l u v) = record { same_length = refl; same_label = λ q k d. refl }
tried_else n h few long e (attaches m l u k v w) =
    let t = attaching few long (cell_on_lem n h) e w in
    record { same_length = clear_same t; same_label = λ q i d. clear_else t q i (λ z. d (z ∙ place_cell n h)) }

pub visit_else : (cs : Corners) → cs.count ≤ 1024 → (set : Settings) (p : LocalExtensionParams) (n : ℕ) → n < 16384 → (s : LocalState)
    → 16384 ≤ length s.sheet
    → label_at s.sheet (cell_of n) ≡ None → Elsewhere s.sheet (local_visit cs set p (cell_of n) s).sheet n
visit_else cs few set p n h s long e = tried_else n h few long e (tried cs set p (cell_of n) s)

module _ (cs : Corners) (set : Settings) (p : LocalExtensionParams) where
  -- new cells are only added
  pub visit_grows : (c : Cell) (s : LocalState) → length s.made ≤ length (local_visit cs set p c s).made
  visit_grows c s = tried_grows (tried cs set p c s)

  pub round_grows : (s : LocalState) → length s.made ≤ length (local_round cs set p s).made
  unfolding local_round
  round_grows s = walk_grows (local_visit cs set p) (λ t. length t.made) visit_grows (local_cells (depth_of p) s.sheet) s

  -- a visit counts at most one cell, and a round at most one for each place
  pub visit_counted : (c : Cell) (s : LocalState) → visits (local_visit cs set p c s).counts ≤ visits s.counts + 1
  visit_counted c s = tried_counted (tried cs set p c s)

  pub round_counted : (s : LocalState) → visits (local_round cs set p s).counts ≤ visits s.counts + 16384
  round_counted s = rw (← walked_round cs set p s)
      (walked_most (local_visit cs set p) (λ t. t.sheet) (λ t. visits t.counts) visit_counted (round_region p s.sheet) s 16384)

-- ---- the region of a round

-- the labelled places are of the sheet
pub listed : (sheet : List ℕ) {labelled : List ℕ} → labelled ≡ labelled_places sheet → All (λ (p : ℕ). p < 16384) labelled
listed sheet e = rw e (All-from_get_or (λ (p : ℕ). p < 16384) (labelled_places sheet) 0 (places_in_lem sheet))

-- a place outside of the window is not tried
out_not : {p : LocalExtensionParams} {sheet : List ℕ} {round : Round} → RoundOf sheet p round → (now : List ℕ) (q : ℕ) → q < 16384 → (InWindow round.window q → ⊥)
    → tried_at round.depth round.region now q ≡ false
out_not {p} {sheet} {round} r now q h out = rw (told_far round.depth sheet round.region round.window q r.found r.windowed h out)

pub tried_parts : (inside labelled : Bool) → (inside && not labelled) ≡ true → (inside ≡ true) × (labelled ≡ false)
tried_parts true true e = absurd (true≢false (sym e))
tried_parts true false e = (refl, refl)
tried_parts false labelled e = absurd (true≢false (sym e))

-- ---- what the code has written

-- the buffers give the state back
pub holds_state : {s : LocalState} {before sheet list : List ℕ} {at : LocalProgress} → Holds s before sheet list at → state_of sheet list at ≡ s
holds_state {s} {before} h =
    λ t.
    record {
      sheet = h.sheet_is t;
      made = (ap₂ (λ (n : ℕ) (l : List ℕ). take n l) h.made_is h.list_is ∙ over_read s.made before) t;
      counts = h.counts_are t;
      largest = h.largest_is t;
      unmatched = h.unmatched_is t;
    }

-- one function after another: it is the same pass
pub same_then : {a b c : LocalWork} → SamePass a b → SamePass b c → SamePass a c
same_then l m = record { same_setup = m.same_setup ∙ l.same_setup; same_sheet = m.same_sheet ∙ l.same_sheet; same_list = m.same_list ∙ l.same_list; same_labelled = m.same_labelled ∙ l.same_labelled; same_memory = m.same_memory ∙ l.same_memory }

-- the rest of the list is as it was before the first
pub left_then : {s after : LocalState} {before sheet list sheet' list' : List ℕ} {at at' : LocalProgress} → Holds s before sheet list at
    → length s.made ≤ length after.made → Holds after list sheet' list' at' → Holds after before sheet' list' at'
left_then {s} {after} {before = before} h g l =
    record {
      sheet_is = l.sheet_is;
      list_is = l.list_is ∙ ap (over after.made) h.list_is ∙ over_over s.made after.made before g;
      made_is = l.made_is;
      counts_are = l.counts_are;
      largest_is = l.largest_is;
      unmatched_is = l.unmatched_is;
    }

-- the loop over the places of a round: n of them have been looked at
pub record Walking (set : Settings) (p : LocalExtensionParams) (cs : Corners) (before work : LocalWork) (n : ℕ) : Type 0 where
  pub upto : n ≤ 16384
  pub long : 16384 ≤ length before.sheet.now
  pub few : cs.count ≤ 1024
  pub counted : visits work.progress.counts ≤ visits before.progress.counts + n
  pub left : Left before work (walked_to cs set p (state_in before) n)

module _ {set : Settings} {p : LocalExtensionParams} {cs : Corners} {before : LocalWork} where
  pub walking_start : cs.count ≤ 1024 → Walking set p cs before before 0
  walking_start few =
      record {
        upto = omega arith;
        long = before.extending.given.long;
        few = few;
        counted = omega arith;
        left =
            untouched before.extending (walked_start (local_visit cs set p) (λ t. t.sheet) (round_region p before.sheet.now) (state_in before));
      }

  module _ {work : LocalWork} {n : ℕ} (w : Walking set p cs before work n) where
    walking_more : {region : Region} {work' : LocalWork} → n < 16384 → RegionFound before.sheet.now region
        → Left work work' (looked_at cs set p region n (state_in work))
        → Walking set p cs before work' (n + 1)
    walking_more {region} {work'} h f l =
        record {
          upto = omega arith;
          long = w.long;
          few = w.few;
          counted =
              omega (
                arith,
                w.counted,
                ap visits l.counts_are,
                looked_most (local_visit cs set p) (λ t. t.sheet) (λ t. visits t.counts)
                    (visit_counted cs set p) (region_at (depth_of p) region n) n (state_in work),
              );
          left =
              rw next at
              (left_then w.left
              (rw (holds_state w.left)
              (looked_grows (local_visit cs set p) (λ t. length t.made) (visit_grows cs set p)
              (λ t. t.sheet) (region_at (depth_of p) region n) n (walked_to cs set p s n)))
              l);
        }
      where
        s : LocalState
        s = state_in before

        next : looked_at cs set p region n (state_in work) ≡ walked_to cs set p s (n + 1)
        next =
            ap (looked_at cs set p region n) (holds_state w.left)
            ∙ looked (local_visit cs set p) (λ t. t.sheet) (visit_else cs w.few set p) (round_region p before.sheet.now) s w.long n h
            (region_is (depth_of p) before.sheet.now region n h f)

    pub walking_end : 16384 ≤ n → Left before work (local_round cs set p (state_in before))
    walking_end h =
        let e : n ≡ 16384 = omega (arith, w.upto) in
        rw (← walked_round cs set p (state_in before), ← e) w.left

  module _ {round : Round} (o : RoundOf before.sheet.now p round) {work : LocalWork} where
    -- a place that is not tried changes nothing
    pub walking_missed : {n : ℕ} → Walking set p cs before work n → n < 16384 → tried_at round.depth round.region work.sheet.now n ≡ false
        → Walking set p cs before work (n + 1)
    walking_missed {n} w h e = walking_more w h o.found (untouched work.extending (same (rw o.deep at e)))
      where
        same : tried_at (depth_of p) round.region work.sheet.now n ≡ false → looked_at cs set p round.region n (state_in work) ≡ state_in work
        same f = go (region_at (depth_of p) round.region n) (is_labelled (get_or work.sheet.now n 0)) refl refl f
          where
            go : (inside labelled : Bool) → region_at (depth_of p) round.region n ≡ inside → is_labelled (get_or work.sheet.now n 0) ≡ labelled → (inside && not labelled) ≡ false
                → looked_at cs set p round.region n (state_in work) ≡ state_in work
            go true true i l z = looked_labelled (local_visit cs set p) (λ t. t.sheet) (region_at (depth_of p) round.region n) n (state_in work) h i l
            go true false i l z = absurd (true≢false z)
            go false labelled i l z = looked_out (local_visit cs set p) (λ t. t.sheet) (region_at (depth_of p) round.region n) n (state_in work) i

    -- to the next place of the window
    pub walking_jumps : {n r : ℕ} → Walking set p cs before work n → NextIn round.window n r → Walking set p cs before work r
    walking_jumps w t = jumps round.window (Walking set p cs before work) (λ q h out v. walking_missed v h (out_not o work.sheet.now q h out)) t w

    -- a place that is tried: its cell is bare, and its visit is what the round does there
    module _ {n : ℕ} (w : Walking set p cs before work n) (h : n < 16384) (t : tried_at round.depth round.region work.sheet.now n ≡ true) {c : Cell} (is : c ≡ cell_of n) where
      parts : (region_at round.depth round.region n ≡ true) × (is_labelled (get_or work.sheet.now n 0) ≡ false)
      parts = tried_parts (region_at round.depth round.region n) (is_labelled (get_or work.sheet.now n 0)) t

      pub tried_trying : visits before.progress.counts ≤ 4294950912 → Trying work c
      tried_trying m =
          rw is
          (record {
            on = cell_on_lem n h;
            bare = label_of_place work.sheet.now n h ∙ unlabelled_none (get_or work.sheet.now n 0) parts.1;
            countable = omega (arith, w.counted, m);
          })

      pub walking_tried : {work' : LocalWork}
          → Left work work' (local_visit cs set p c (state_in work)) → Walking set p cs before work' (n + 1)
      walking_tried l =
          walking_more w h o.found
          (left_as (looked_bare (local_visit cs set p) (λ t. t.sheet) (region_at (depth_of p) round.region n) n (state_in work) h (rw o.deep at parts).0 c is parts.1) l)
