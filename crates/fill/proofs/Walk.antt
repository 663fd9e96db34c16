-- A round of fill, a place at a time: a visit changes no label elsewhere, and what the code has written after each place. Assumes nothing.
use Rattle.labels.specs.declared.Bounds.{Bounds}
use Rattle.std.specs.Prelude.{None, Option}
use mathlib.Core.Path.{◌≡◌, refl, ap, subst, ◌∙◌}
use mathlib.Core.Bool.{Bool}
use mathlib.Core.List.{List}
use Prim.Native.Nat.{ℕ, ◌+◌, ◌<◌, ◌≤◌}
use native.Mathlib.Omega.{arith}
use lib.ListN.{length}
use Rattle.sheet.specs.Corners.{Corners}
use Rattle.sheet.specs.Cells.{cell_of}
use Rattle.sheet.specs.Words.{label_of, label_at}
use Rattle.sheet.specs.declared.Cell.{Cell}
use Rattle.sheet.proofs.Laws.{cell_on_lem, place_cell}
use Rattle.sheet.proofs.Words.{attached_changes}
use Rattle.labels.specs.Box.{box_of}
use Rattle.labels.proofs.Labelled.{word_else}
use Rattle.arguments.specs.declared.Settings.{Settings}
use Rattle.arguments.specs.declared.FillParams.{FillParams}
use Rattle.positions_policy.specs.declared.Tolerances.{Tolerances}
use Rattle.passes.specs.Fill.{FillState, box_and_strips, fill_cells, fill_visit, fill_round}
use Rattle.passes.proofs.Over.{over_read, over_over}
use Rattle.region.specs.Windowed.{Windowed, NextIn}
use Rattle.region.specs.declared.Window.{Window}
use Rattle.region.proofs.Jumps.{jumps}
use Rattle.region.proofs.Places as places
use Rattle.region.proofs.Places.{Elsewhere, walked_all, walked_start, looked, looked_out, looked_grows, walk_grows}
use Rattle.arguments.specs.Front.{over}
use Rattle.fill.specs.Filling.{held, state_of, Left, looked_at}
use Rattle.fill.specs.declared.FillSetup.{FillSetup}
use Rattle.fill.specs.declared.Filling.{Filling}
use Rattle.fill.proofs.Region.{in_window}
use Rattle.fill.proofs.Visit.{Tried, passed, attaches, tried, tried_grows, attaching, same_then, held_alike, untouched}

-- ---- a round

-- the region of a round that starts with a sheet
abbrev pub region_of : List ℕ → Cell → Bool
region_of sheet = box_and_strips (box_of sheet)

-- the state after the places below n
abbrev pub walked_to : Corners → Settings → FillParams → FillState → ℕ → FillState
walked_to cs set p s n = places.walked_to (fill_visit cs set p) (λ t. t.sheet) (region_of s.sheet) s n

pub walked_round : (cs : Corners) (set : Settings) (p : FillParams) (s : FillState) → walked_to cs set p s 16384 ≡ fill_round cs set p s
unfolding fill_round fill_cells
walked_round cs set p s = walked_all (fill_visit cs set p) (λ t. t.sheet) (region_of s.sheet) s

-- a visit of a bare cell changes no label elsewhere
tried_else : {cs : Corners} {tol : Tolerances} {s : FillState} (n : ℕ) {after : FillState} → n < 16384 → cs.count ≤ 1024 → 16384 ≤ length s.sheet
    → label_at s.sheet (cell_of n) ≡ None
    → Tried cs tol (cell_of n) s after → Elsewhere s.sheet after.sheet n
tried_else n h few long e passed = record { same_length = refl; same_label = λ q k d. refl }
tried_else {s = s} n h few long e (attaches k w) =
    let t = attaching few long (cell_on_lem n h) e w in
    record {
      same_length = (attached_changes s.sheet (cell_of n) long (cell_on_lem n h) k t.corner_fits).same_length;
      same_label = λ q m d. ap label_of (word_else t q (λ z. d (z ∙ place_cell n h)));
    }

pub visit_else : (cs : Corners) → cs.count ≤ 1024 → (set : Settings) (p : FillParams) (n : ℕ) → n < 16384 → (s : FillState) → 16384 ≤ length s.sheet
    → label_at s.sheet (cell_of n) ≡ None
    → Elsewhere s.sheet (fill_visit cs set p (cell_of n) s).sheet n
visit_else cs few set p n h s long e = tried_else n h few long e (tried cs set p (cell_of n) s)

-- new cells are only added
pub visit_grows : (cs : Corners) (set : Settings) (p : FillParams) (c : Cell) (s : FillState) → length s.made ≤ length (fill_visit cs set p c s).made
visit_grows cs set p c s = tried_grows (tried cs set p c s)

pub round_grows : (cs : Corners) (set : Settings) (p : FillParams) (s : FillState) → length s.made ≤ length (fill_round cs set p s).made
unfolding fill_round
round_grows cs set p s = walk_grows (fill_visit cs set p) (λ t. length t.made) (visit_grows cs set p) (fill_cells s.sheet) s

-- ---- what the code has written

-- the buffers give the state back
pub left_state : {before after : Filling} {s : FillState} → Left before after s → state_of after ≡ s
left_state {before} {s = s} l = rw (l.sheet_is, l.list_is, l.made_is) (ap (λ (m : List ℕ). record { sheet = s.sheet; made = m }) (over_read s.made before.attached.now))

-- one function after another: the rest of the list is as it was before the first
pub left_then : {first between last : Filling} {s after : FillState} → Left first between s → length s.made ≤ length after.made → Left between last after → Left first last after
left_then {first} {s = s} {after = after} a g b =
    record {
      same = same_then a.same b.same;
      sheet_is = b.sheet_is;
      list_is = b.list_is ∙ ap (over after.made) a.list_is ∙ over_over s.made after.made first.attached.now g;
      made_is = b.made_is;
    }

-- the same functions of two moments of a pass
looked_alike : {cs cs' : Corners} {set set' : Settings} {p p' : FillParams} {s s' : FillState} (a : Option Bounds) (n : ℕ) → cs ≡ cs' → set ≡ set' → p ≡ p' → s ≡ s' → looked_at cs set p a n s ≡ looked_at cs' set' p' a n s'
looked_alike a n q r t v = cc

-- the loop over the places of a round: n of them have been looked at
pub record Walking (before now : Filling) (n : ℕ) : Type 0 where
  pub upto : n ≤ 16384
  pub left : Left before now (walked_to (held before) before.setup.settings before.setup.params (state_of before) n)

module _ (f : Filling) where
  pub walking_start : Walking f f 0
  walking_start =
      record {
        upto = omega arith;
        left = untouched f (walked_start (fill_visit (held f) f.setup.settings f.setup.params) (λ t. t.sheet) (region_of f.sheet.now) (state_of f));
      }

  module _ {now : Filling} {n : ℕ} (w : Walking f now n) where
    pub walking_more : (around : Option Bounds) {next : Filling} → n < 16384 → around ≡ box_of f.sheet.now → Left now next (looked_at (held now) now.setup.settings now.setup.params around n (state_of now)) → Walking f next (n + 1)
    walking_more around {next} h b l =
        record {
          upto = omega arith;
          left = left_then w.left grows (subst (λ (s : FillState). Left now next s) (alike ∙ looks) l);
        }
      where
        cs : Corners
        cs = held f

        set : Settings
        set = f.setup.settings

        p : FillParams
        p = f.setup.params

        s : FillState
        s = walked_to cs set p (state_of f) n

        alike : looked_at (held now) now.setup.settings now.setup.params around n (state_of now) ≡ looked_at cs set p around n s
        alike = looked_alike around n (held_alike w.left.same) (ap (λ (x : FillSetup). x.settings) w.left.same.same_setup) (ap (λ (x : FillSetup). x.params) w.left.same.same_setup) (left_state w.left)

        looks : looked_at cs set p around n s ≡ walked_to cs set p (state_of f) (n + 1)
        looks =
            looked (fill_visit cs set p) (λ t. t.sheet) (visit_else cs f.corners.now.count.few set p)
            (region_of f.sheet.now) (state_of f) f.given.long n h (ap (λ (a : Option Bounds). box_and_strips a (cell_of n)) b)

        grows : length s.made ≤ length (walked_to cs set p (state_of f) (n + 1)).made
        grows = rw (← looks) (looked_grows (fill_visit cs set p) (λ t. length t.made) (visit_grows cs set p) (λ t. t.sheet) (box_and_strips around (cell_of n)) n s)

    pub walking_end : 16384 ≤ n → Left f now (fill_round (held f) f.setup.settings f.setup.params (state_of f))
    walking_end h =
        let e : n ≡ 16384 = omega (arith, w.upto) in
        rw (← walked_round (held f) f.setup.settings f.setup.params (state_of f), ← e) w.left

  -- to the next place of the window: no place before it is in the region
  pub walking_jumps : (now : Filling) (around : Option Bounds) (window : Window) → around ≡ box_of f.sheet.now → Windowed 1 around window → {n r : ℕ} → Walking f now n → NextIn window n r → Walking f now r
  walking_jumps now around window b c w t =
      jumps window (Walking f now)
      (λ q h out v. walking_more v around h b
      (untouched now
      (looked_out (fill_visit (held now) now.setup.settings now.setup.params) (λ t. t.sheet) (box_and_strips around (cell_of q)) q (state_of now)
      (in_window around window q c h out))))
      t w
