-- Laws of a line by the table: a line that is printed is read back, and a line that was read is what would be printed of it. Proved once, over
-- the rules of the rows. Assumes nothing.
use mathlib.Core.Path.{◌≡◌, refl, sym, ap, ◌∙◌, subst}
use mathlib.Core.List.{List, []}
use Prim.Native.Nat.{ℕ, zero, suc, ◌+◌, ◌<◌, ◌≤◌}
use native.Mathlib.Numerals.{add-one}
use native.Mathlib.Omega.{arith}
use lib.ListN.{drop}
use lib.Seq.{drop-cons}
use Rattle.std.specs.Option.{option_map}
use Rattle.line_form.specs.Forms.{Number, Fitted, misfit, fitted, fit_of}
use Rattle.std.proofs.Common.{Option, None, Some}
use Rattle.line_form.proofs.Laws.{reads_back, prints_back}
use Rattle.line_form.proofs.Told.{told_misfits}
use Rattle.line_form.specs.Held.{held_up_to, held_fit}
use Rattle.frame_line.specs.Table.{rows, row_count, row_at, form_at}
use Rattle.frame_line.specs.Lines.{Line, line_text, ill_formed, line, or_else, read_row, first_fit, read_line, LineReadsBack, LinePrintsBack}
use Rattle.frame_line.specs.Held.{held_read}
use Rattle.frame_line.specs.declared.HeldLine.{HeldLine}
use Rattle.frame_line.specs.declared.ListedLine.{ListedLine}
use Rattle.frame_line.proofs.Rows.{rows_long, apart_at, told_at}

-- ---- the rows in order: those from the one reached on give what all rows give

pub record Looking (text : List ℕ) (k : ℕ) : Type 0 where
  pub upto : k ≤ row_count
  pub rest : first_fit k (drop k rows) text ≡ read_line text

pub looking_start : (text : List ℕ) → Looking text 0
unfolding read_line
looking_start text = record { upto = omega arith; rest = refl }

module _ {text : List ℕ} {k : ℕ} (g : Looking text k) where
  pub looking_end : row_count ≤ k → read_line text ≡ ill_formed
  unfolding rows first_fit
  looking_end h = sym g.rest ∙ ap (λ (n : ℕ). first_fit n (drop n rows) text) (let e : k ≡ row_count = omega arith in e)

  module _ (h : k < row_count) where
    -- the row reached, tried
    turn : read_line text ≡ or_else k (fit_of (form_at k) text) (first_fit (suc k) (drop (suc k) rows) text)
    unfolding first_fit form_at row_at
    turn = sym g.rest ∙ ap (λ (rs : List (List ℕ)). first_fit k rs text) (drop-cons rows k [] (subst (λ (n : ℕ). k < n) (sym rows_long) h))

    pub looking_hit : {ns : List Number} → fit_of (form_at k) text ≡ fitted ns → read_line text ≡ line (record { row = k; numbers = ns })
    looking_hit e = rw e at turn

    pub looking_more : fit_of (form_at k) text ≡ misfit → Looking text (k + 1)
    looking_more e = record { upto = omega arith; rest = rw add-one (sym (rw e at turn)) }

    held_hit : (l : HeldLine) → held_read (read_row k text) ≡ Some l → held_read (read_line text) ≡ Some l
    unfolding held_read
    held_hit l e = go (fit_of (form_at k) text) refl e
      where
        go : (it : Fitted) → fit_of (form_at k) text ≡ it → held_read (or_else k it ill_formed) ≡ Some l → held_read (read_line text) ≡ Some l
        go misfit p e = absurd (let z : ◌≡◌ {A = ℕ} 0 1 = cc in omega arith)
        go (fitted ns) p e = ap held_read (looking_hit p) ∙ e

    held_more : held_read (read_row k text) ≡ None → Looking text (k + 1)
    unfolding held_read
    held_more e = go (fit_of (form_at k) text) refl e
      where
        go : (it : Fitted) → fit_of (form_at k) text ≡ it → held_read (or_else k it ill_formed) ≡ None → Looking text (k + 1)
        go misfit p e = looking_more p
        go (fitted ns) p e = absurd (let z : ◌≡◌ {A = ℕ} 0 1 = cc in omega arith)

-- ---- one row alone

module _ (text : List ℕ) (k : ℕ) where
  pub not_read : fit_of (form_at k) text ≡ misfit → None ≡ held_read (read_row k text)
  unfolding held_read
  not_read e = rw e refl

  pub row_missed : None ≡ held_fit (fit_of (form_at k) text) → None ≡ held_read (read_row k text)
  unfolding held_fit held_read
  row_missed e = go (fit_of (form_at k) text) e
    where
      go : (it : Fitted) → None ≡ held_fit it → None ≡ held_read (or_else k it ill_formed)
      go misfit e = refl
      go (fitted ns) e = absurd (let z : ◌≡◌ {A = ℕ} 0 1 = cc in omega arith)

  pub row_held : (vs : List ℕ) → Some vs ≡ held_fit (fit_of (form_at k) text) → Some (record { row = k; values = vs }) ≡ held_read (read_row k text)
  unfolding held_fit held_read
  row_held vs e = go (fit_of (form_at k) text) e
    where
      go : (it : Fitted) → Some vs ≡ held_fit it → Some (record { row = k; values = vs }) ≡ held_read (or_else k it ill_formed)
      go misfit e = absurd (let z : ◌≡◌ {A = ℕ} 0 1 = cc in omega arith)
      go (fitted ns) e = let v : vs ≡ held_up_to 5 ns = cc in rw v refl

-- ---- the rows tried in order

module _ (text : List ℕ) where
  not_before : (n : ℕ) → n ≤ row_count → ((k : ℕ) → k < n → held_read (read_row k text) ≡ None) → Looking text n
  not_before zero h none = looking_start text
  not_before (suc n) h none = rw add-one at (held_more (not_before n (omega arith) (λ k l. none k (omega arith))) (omega arith) (none n (omega arith)))

  -- what the first row gives that gives a line, or none
  pub rows_tried : (r : Option ListedLine)
      → (r ≡ None → (k : ℕ) → k < row_count → held_read (read_row k text) ≡ None)
      → ((l : ListedLine) → r ≡ Some l → (k : ℕ) × (k < row_count) × (held_read (read_row k text) ≡ Some l.held) × ((j : ℕ) → j < k → held_read (read_row j text) ≡ None))
      → option_map (λ l. l.held) r ≡ held_read (read_line text)
  unfolding held_read
  rows_tried None none some = sym (ap held_read (looking_end (not_before row_count (omega arith) (none refl)) (omega arith)))
  rows_tried (Some l) none some =
      let h = some l refl in
      sym (held_hit (not_before h.0 (omega (arith, h.1)) h.3) h.1 l.held h.2)

-- ---- the laws

pub line_reads_back : LineReadsBack
unfolding line_text
line_reads_back l p = looking_hit (reached l.row (omega arith)) p.few (reads_back (form_at l.row) l.numbers (apart_at l.row p.few) p.suits)
  where
    reached : (i : ℕ) → i ≤ l.row → Looking (line_text l) i
    reached zero h = looking_start (line_text l)
    reached (suc i) h =
        rw add-one at
        (looking_more (reached i (omega arith)) (omega (arith, p.few)) (told_misfits (form_at i) (form_at l.row) _ (told_at l.row p.few i h)))

pub line_prints_back : (text : List ℕ) (l : Line) → read_line text ≡ line l → LinePrintsBack text l
unfolding line_text
line_prints_back text l e = from row_count 0 refl (looking_start text)
  where
    from : (n k : ℕ) → k + n ≡ row_count → Looking text k → LinePrintsBack text l
    from zero k s g = absurd (let i = looking_end g (omega arith) in cc)
    from (suc n) k s g = go (fit_of (form_at k) text) refl (λ t. from n (k + 1) (omega arith) t)
      where
        go : (f : Fitted) → fit_of (form_at k) text ≡ f → (Looking text (k + 1) → LinePrintsBack text l) → LinePrintsBack text l
        go misfit p later = later (looking_more g (omega arith) p)
        go (fitted ns) p later =
            let i = looking_hit g (omega arith) p in
            let same : record { row = k; numbers = ns } ≡ l = cc in
            let b = prints_back (form_at k) text ns p in
            subst (LinePrintsBack text) same (record { text_again = b.line_again; proper = record { few = omega arith; suits = b.suits } })
