-- Laws of the one walk over a sheet that finds its label box and what 5 and 6 look for. Assumes nothing.
use Rattle.std.specs.Prelude.{Option, Some, None}
use mathlib.Core.Path.{◌≡◌, refl, sym, ap, ◌∙◌}
use mathlib.Core.Bool.{Bool, true, false, not, ◌||◌}
use mathlib.Core.List.{List, [], ◌∷◌}
use Prim.Native.Nat.{ℕ, ◌<◌, ◌≤◌}
use borrow.Author.Tests.{lt-leb, le-leb}
use lib.ListN.{length-replicate, get_or-replicate, replicate}
use Rattle.std.specs.List.{list_any, fold, filter_map, cons_option}
use Rattle.sheet.specs.Cells.{cell_of}
use Rattle.sheet.specs.Words.{label_of}
use Rattle.sheet.specs.Blank.{written_from}
use Rattle.sheet.specs.declared.Cell.{Cell}
use Rattle.labels.specs.Labelled.{names_corner, is_labelled, labelled_cell}
use Rattle.labels.specs.Box.{widened, box_of}
use Rattle.labels.specs.Kept.{around_of, same_box, box_differs}
use Rattle.labels.specs.Used.{noted}
use Rattle.labels.specs.declared.Bounds.{Bounds}
use Rattle.labels.specs.declared.kept.KeptBox.{KeptBox}
use Rattle.labels.proofs.Below.{no_both}
use Rattle.labels.proofs.Box.{box_widened}
use Rattle.arguments.specs.Arguments.{unknown, unknown_corner, doubled_corner}
use Rattle.arguments.specs.Asked.{seen_before, widened_by, Noted, LookedAt, Searchable, FoundOn}
use Rattle.arguments.specs.declared.SheetFound.{SheetFound}
use Rattle.arguments.proofs.Chains.{or_false_both}
use Rattle.arguments.proofs.Laws.{known, known_more}
use Rattle.arguments.proofs.Tests.{holds_unknown, unknown_walked, twice, twice_start}

or_nothing : (b : Bool) → (b || false) ≡ b
or_nothing true = refl
or_nothing false = refl

-- ---- one place

module _ (n : ℕ) (e : ℕ × ℕ) (found : SheetFound) (seen : List Bool) where
  -- its word names no corner
  pub looked_none : label_of e.1 ≡ None → LookedAt n e found seen found seen
  unfolding is_labelled names_corner unknown seen_before noted
  looked_none l =
      record {
        around_is = rw l refl;
        unknown_is = rw l (sym (or_nothing found.unknown));
        doubled_is = λ _. rw l (sym (or_nothing found.doubled));
        seen_is = λ _. rw l refl;
      }

  -- one of the n
  pub looked_given : (k : ℕ) → label_of e.1 ≡ Some k → k < n → {seen' : List Bool} {r : Bool} → Noted seen (Some k) seen' r
      → LookedAt n e found seen (record { around = widened found.around (cell_of e.0); unknown = found.unknown; doubled = found.doubled || r }) seen'
  unfolding is_labelled names_corner unknown seen_before
  looked_given k l h noted_k =
      record {
        around_is = rw l refl;
        unknown_is = rw (l, lt-leb n k h) (sym (or_nothing found.unknown));
        doubled_is = λ _. rw l (ap (λ (b : Bool). found.doubled || b) noted_k.said);
        seen_is = λ _. rw l noted_k.written;
      }

  -- or another
  pub looked_unknown : (k : ℕ) → label_of e.1 ≡ Some k → n ≤ k
      → LookedAt n e found seen (record { around = widened found.around (cell_of e.0); unknown = true; doubled = found.doubled }) seen
  unfolding is_labelled names_corner unknown
  looked_unknown k l h =
      record {
        around_is = rw l refl;
        unknown_is = rw (l, le-leb n k h) (sym (or_yes found.unknown));
        doubled_is = λ f. absurd (no_both (unknown n (label_of e.1)) (rw (l, le-leb n k h) refl) f);
        seen_is = λ f. absurd (no_both (unknown n (label_of e.1)) (rw (l, le-leb n k h) refl) f);
      }
    where
      or_yes : (b : Bool) → (b || true) ≡ true
      or_yes true = refl
      or_yes false = refl

-- ---- the walk

-- with these places left: what was found, and what they add, is what the sheet has
pub record Walk (n : ℕ) (sheet : List ℕ) (found : SheetFound) (seen : List Bool) (rest : List (ℕ × ℕ)) : Type 0 where
  pub around_is : fold widened found.around (filter_map labelled_cell rest) ≡ box_of sheet
  pub unknown_is : (found.unknown || list_any (holds_unknown n) rest) ≡ unknown_corner n sheet
  pub doubled_is : unknown_corner n sheet ≡ false → (found.doubled || twice seen rest) ≡ doubled_corner sheet

or_swap : (a b c : Bool) → ((a || b) || c) ≡ (a || (b || c))
or_swap true b c = refl
or_swap false b c = refl

widened_on : (around : Option Bounds) (o : Option Cell) (cells : List Cell) → fold widened (widened_by around o) cells ≡ fold widened around (cons_option o cells)
widened_on around None cells = refl
widened_on around (Some c) cells = refl

module _ {n : ℕ} {sheet : List ℕ} where
  pub walk_start : Searchable n sheet → (found : SheetFound) (seen : List Bool) → found ≡ record { around = None; unknown = false; doubled = false }
      → seen ≡ replicate 1024 false → (rest : List (ℕ × ℕ)) → rest ≡ written_from sheet 0 → Walk n sheet found seen rest
  walk_start s found seen f g rest e =
      rw (f, e)
      (record {
        around_is = box_widened sheet;
        unknown_is = unknown_walked n sheet;
        doubled_is =
            λ u.
            (twice_start sheet seen
            (record {
              entries = record { long = s.long; known = known_more n 1024 sheet s.few (known n sheet u) };
              size = rw g (length-replicate {A = Bool} 1024 false);
              none = λ k h. rw g (get_or-replicate {A = Bool} 1024 k false false h);
            })
            (written_from sheet 0) refl).said;
      })

  module _ {found after : SheetFound} {seen seen' : List Bool} {rest next : List (ℕ × ℕ)} {e : ℕ × ℕ} (w : Walk n sheet found seen rest) (is : rest ≡ e ∷ next)
      (l : LookedAt n e found seen after seen') where
    unknown_here : (found.unknown || (unknown n (label_of e.1) || list_any (holds_unknown n) next)) ≡ unknown_corner n sheet
    unknown_here = sym (ap (λ r. found.unknown || list_any (holds_unknown n) r) is) ∙ w.unknown_is

    given_here : unknown_corner n sheet ≡ false → unknown n (label_of e.1) ≡ false
    given_here f = (or_false_both (unknown n (label_of e.1)) _ (or_false_both found.unknown _ (unknown_here ∙ f)).1).0

    pub walk_more : Walk n sheet after seen' next
    unfolding twice
    walk_more =
        record {
          around_is =
              ap (λ a. fold widened a (filter_map labelled_cell next)) l.around_is
              ∙ widened_on found.around (labelled_cell e) (filter_map labelled_cell next)
              ∙ sym (ap (λ r. fold widened found.around (filter_map labelled_cell r)) is) ∙ w.around_is;
          unknown_is = ap (λ (b : Bool). b || list_any (holds_unknown n) next) l.unknown_is ∙ or_swap found.unknown _ _ ∙ unknown_here;
          doubled_is =
              λ f.
              let g = given_here f in
              ap (λ (b : Bool). b || twice seen' next) (l.doubled_is g)
              ∙ ap (λ (t : List Bool). (found.doubled || seen_before seen (label_of e.1)) || twice t next) (l.seen_is g)
              ∙ or_swap found.doubled _ _
              ∙ sym (ap (λ r. found.doubled || twice seen r) is)
              ∙ w.doubled_is f;
        }

  pub walk_end : {found : SheetFound} {seen : List Bool} {rest : List (ℕ × ℕ)} → Walk n sheet found seen rest → rest ≡ [] → FoundOn n sheet found
  unfolding twice
  walk_end {found} {seen} w is =
      record {
        around_is = sym (ap (λ r. fold widened found.around (filter_map labelled_cell r)) is) ∙ w.around_is;
        unknown_is = sym (or_nothing found.unknown) ∙ sym (ap (λ r. found.unknown || list_any (holds_unknown n) r) is) ∙ w.unknown_is;
        doubled_is = λ f. sym (or_nothing found.doubled) ∙ sym (ap (λ r. found.doubled || twice seen r) is) ∙ w.doubled_is f;
      }

-- ---- the box that is handed

-- whether it is the box that was found says whether it differs from the sheet
pub box_told : {n : ℕ} {sheet : List ℕ} {found : SheetFound} (k : KeptBox) (r : Bool) → FoundOn n sheet found → r ≡ same_box (around_of k) found.around
    → not r ≡ box_differs k sheet
unfolding box_differs
box_told k r f e = ap not (e ∙ ap (same_box (around_of k)) f.around_is)
