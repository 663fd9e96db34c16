-- Lines that are passed over: those of a place that holds nothing are empty, and a piece is the same without them. Assumes nothing.
use mathlib.Core.Path.{◌≡◌, refl, sym, ap, ◌∙◌}
use mathlib.Core.Bool.{Bool, true, false, cond}
use mathlib.Core.List.{List, []}
use Prim.Native.Nat.{ℕ, zero, suc, ◌+◌, ◌-◌, ◌%◌, ◌≤◌, ◌<◌}
use native.Mathlib.Decide.{dec_lt}
use native.Mathlib.Omega.{arith}
use borrow.Author.Tests.{ltb-true, ltb-false, leb-false, eqb-true, eq-eqb, lt-leb}
use lib.Dec.{ltb, leb, eqb}
use lib.ListN.{length, get_or}
use Rattle.sheet.specs.Words.{hole_of, ambiguous_of}
use Rattle.sheet.specs.Cells.{cell_of}
use Rattle.sheet.specs.Blank.{BlankPlaces}
use Rattle.sheet.proofs.Blank.{blank_label, blank_place}
use Rattle.report_line.specs.Result.{label_line, cell_line, hole_line, ambiguous_line, sheet_line, line_count, joined}
use Rattle.report.specs.Asked.{blank_at, BlankLines, SomeAsked, Skipped, line_at, piece_from}
use Rattle.report.proofs.Numbered.{sheet_line_lem}
use Rattle.report.proofs.Writing.{Cutting, cutting_length, piece_more}

-- ---- a place that holds nothing

module _ (sheet : List ℕ) (p : ℕ) (e : get_or sheet p 0 ≡ 0) where
  no_cell : cell_line sheet p ≡ []
  unfolding cell_line
  no_cell = ap (label_line (cell_of p)) (blank_label e)

  no_hole : hole_line sheet p ≡ []
  unfolding hole_line hole_of
  no_hole = rw e

  no_ambiguous : ambiguous_line sheet p ≡ []
  unfolding ambiguous_line ambiguous_of
  no_ambiguous = rw e

blank_sheet : (sheet : List ℕ) (n : ℕ) → n < 49152 → get_or sheet (n % 16384) 0 ≡ 0 → sheet_line sheet n ≡ []
unfolding sheet_line
blank_sheet sheet n h e = go (ltb n 16384) (ltb n 32768) refl refl
  where
    go : (a b : Bool) → ltb n 16384 ≡ a → ltb n 32768 ≡ b → cond a (cell_line sheet n) (cond b (hole_line sheet (n - 16384)) (ambiguous_line sheet (n - 32768))) ≡ []
    go true b p q = let l = ltb-true n 16384 p in let d : n % 16384 ≡ n = omega arith in no_cell sheet n (rw d at e)
    go false true p q =
        let l = ltb-false n 16384 p in
        let m = ltb-true n 32768 q in
        let d : n % 16384 ≡ n - 16384 = omega arith in no_hole sheet (n - 16384) (rw d at e)
    go false false p q =
        let l = ltb-false n 32768 q in
        let d : n % 16384 ≡ n - 32768 = omega arith in no_ambiguous sheet (n - 32768) (rw d at e)

pub blank_line : (passes : ℕ) (words sheet : List ℕ) (k : ℕ) → k < line_count passes → blank_at passes sheet k ≡ true → line_at passes words sheet k ≡ []
unfolding blank_at
blank_line passes words sheet k h e = go (leb k (passes + 3)) refl e
  where
    go : (t : Bool) → leb k (passes + 3) ≡ t → cond t false (eqb (get_or sheet ((k - 1 - passes - 3) % 16384) 0) 0) ≡ true → line_at passes words sheet k ≡ []
    go true a b = absurd (let z : ◌≡◌ {A = ℕ} 0 1 = cc in omega arith)
    go false a b =
        let l = leb-false k (passes + 3) a in
        sym (sheet_line_lem passes words sheet k (k - 1 - passes - 3) (omega arith))
        ∙ blank_sheet sheet (k - 1 - passes - 3) (omega arith) (eqb-true _ 0 b)

-- a line of a place, by what the place holds
blank_late : (passes : ℕ) (sheet : List ℕ) (k : ℕ) → passes + 3 < k → eqb (get_or sheet ((k - 1 - passes - 3) % 16384) 0) 0 ≡ blank_at passes sheet k
unfolding blank_at
blank_late passes sheet k h = rw (lt-leb k (passes + 3) h)

-- ---- the lines of a row

pub no_lines : (passes : ℕ) (sheet : List ℕ) (k : ℕ) → BlankLines passes sheet k 0
no_lines passes sheet k = record { blank = λ a p q. absurd (omega arith) }

-- the places from that of line k on, which is line m of the sheet, up to the end of its row
pub lines_of : (passes : ℕ) (sheet : List ℕ) (k m n : ℕ) → k ≡ suc (passes + (3 + m))
    → BlankPlaces sheet (m % 16384) n → BlankLines passes sheet k n
lines_of passes sheet k m n h s = record { blank = one }
  where
    one : (a : ℕ) → k ≤ a → a < k + n → blank_at passes sheet a ≡ true
    one a p q =
        let u = s.upto in
        let d : (a - 1 - passes - 3) % 16384 ≡ m % 16384 + (a - k) = omega arith in
        sym (blank_late passes sheet a (omega arith)) ∙ eq-eqb (get_or sheet ((a - 1 - passes - 3) % 16384) 0) 0 (rw d (blank_place sheet (m % 16384) n s.blank (a - k) (omega arith)))

-- ---- a piece without them

module _ (passes : ℕ) (words sheet : List ℕ) where
  one_skipped : (k room : ℕ) → k < line_count passes → 128 ≤ room → line_at passes words sheet k ≡ [] → piece_from passes words sheet k room ≡ piece_from passes words sheet (suc k) room
  one_skipped k room h r e = piece_more passes words sheet k room h r ∙ rw e (ap (piece_from passes words sheet (suc k)) (omega arith))

  all_skipped : (n k room : ℕ) → k + n < line_count passes → 128 ≤ room → ((a : ℕ) → k ≤ a → a < k + n → line_at passes words sheet a ≡ [])
      → piece_from passes words sheet k room ≡ piece_from passes words sheet (k + n) room
  all_skipped zero k room h r e = ap (λ (j : ℕ). piece_from passes words sheet j room) (omega arith)
  all_skipped (suc n) k room h r e =
      one_skipped k room (omega arith) r (e k (omega arith) (omega arith))
      ∙ all_skipped n (suc k) room (omega arith) r (λ a p q. e a (omega arith) (omega arith))
      ∙ ap (λ (j : ℕ). piece_from passes words sheet j room) (omega arith)

  skipped : (from : ℕ) (old new : List ℕ) (at k r : ℕ) → Cutting passes words sheet from old new at k → 128 ≤ length old - at → Skipped passes words sheet k r
      → Cutting passes words sheet from old new at r
  skipped from old new at k r f wide s =
      let l = s.from in
      let b = s.below in
      let e : k + (r - k) ≡ r = omega arith in
      record {
        upto = omega arith;
        done = f.done;
        size = f.size;
        fits = f.fits;
        is = f.is;
        rest = f.rest ∙ ap (joined f.done) (all_skipped (r - k) k (length old - at) (omega arith) wide (λ a p q. s.empty a p (omega arith)) ∙ rw e refl);
      }

  pub skipped_at : (from : ℕ) (old : List ℕ) → SomeAsked passes words sheet from → (new : List ℕ) (at k : ℕ) → Cutting passes words sheet from old new at k → 128 ≤ length new - at
      → {r : ℕ} → Skipped passes words sheet k r → Cutting passes words sheet from old new at r
  skipped_at from old a new at k f wide s = skipped from old new at k _ f (rw (← cutting_length passes words sheet from old a new at k f) wide) s

  -- ---- the walk over them

  pub skip_lines : (k r n m : ℕ) → Skipped passes words sheet k r → BlankLines passes sheet r n → r ≤ m → m ≤ r + n → m < line_count passes → Skipped passes words sheet k m
  skip_lines k r n m s b h u below =
      let l = s.from in
      record { from = omega arith; below = below; empty = λ a p q. go a p q (dec_lt a r) }
    where
      go : (a : ℕ) → k ≤ a → a < m → Dec (a < r) → line_at passes words sheet a ≡ []
      go a p q (yes y) = s.empty a p y
      go a p q (no x) = blank_line passes words sheet a (omega arith) (b.blank a (omega (arith, x)) (omega arith))
