-- Reading and printing. A text that is accepted is what is printed of the frame that was read, and that frame is within the limits. What is printed
-- of a frame within the limits is accepted and read back: the reader refuses nothing that 01 allows. Assumes nothing.
use Rattle.std.specs.Prelude.{Ok}
use mathlib.Core.Path.{◌≡◌, refl, sym, ap, ap₂, ◌∙◌, subst}
use mathlib.Core.Bool.{Bool, true}
use mathlib.Core.Logic.{⊎_elim}
use mathlib.Core.List.{List, [], ◌∷◌, ◌++◌, map, append-nil, append_assoc}
use Prim.Native.Nat.{ℕ, suc, ◌<◌, ◌≤◌}
use native.Mathlib.Omega.{arith}
use borrow.Author.Tests.{lt-ltb, le-ltb}
use lib.ListN.{length}
use Rattle.refusal.specs.declared.Refusal.{Refusal}
use Rattle.line_form.specs.Lines.{lines_of}
use Rattle.line_form.proofs.Every.{every_below, every_at}
use Rattle.line_form.proofs.Ends.{is_none, ends_once, printed_ends, first_line, joined, lines_joined}
use Rattle.frame_line.specs.Table.{rows, row_count, row_at, form_at, turn_at, may_end}
use Rattle.frame_line.specs.Lines.{Line, kind_of, Proper, line_text, LineRead}
use Rattle.frame_line.specs.Checks.{outside_line}
use Rattle.frame_line.specs.declared.Kind.{Kind}
use Rattle.std.proofs.Common.{Option, Some}
use Rattle.frame_line.proofs.Laws.{line_reads_back, line_prints_back}
use Rattle.frame_line.proofs.Words.{counts_alike}
use Rattle.frame_check.proofs.Laws.{all_fine}
use Rattle.sizes.specs.Sizes.{byte_limit}
use Rattle.frame.specs.Frame.{outside_in, Frame, Parts, added, parts_from, no_parts, parts_of, first_set, second_set, checked_line, Step, onward, step_by, step_with, step_line, FrameRead, refused_at, accepted, finish, at_end, going, read_lines, read_frame}
use Rattle.join.specs.Rule.{All}
use Rattle.frame.specs.Text.{frame_text, InOrder, ends, next, InRange, Joinable, FrameReadsBack, FramePrintsBack, Passed, none_yet, one_more}
use Rattle.frame.proofs.Adding.{below_or_not, line_fine}
use Rattle.frame.proofs.Turn.{parts_more}
use Rattle.frame_laws.proofs.Parts.{all_map, all_given, Limits, limits_after, limits_before, limits_first, no_limits, within_limits, frame_limits}
use Rattle.frame_laws.proofs.Joining.{joinable_whole}
use Rattle.frame_laws.proofs.Refusals.{Stepping, stops, goes, stepping, Ending, all_read, one_fails, one_missing, sets_apart, ending}
use Rattle.arguments.specs.Arguments.{Checked}

-- ---- the lines of what is printed

form_ends : ℕ → Bool
form_ends k = ends_once (form_at k)

all_end : every_below row_count form_ends ≡ true
unfolding form_ends ends_once is_none form_at row_at rows
all_end = refl

lines_printed : (n : ℕ) (ls : List Line) → All (InRange n) ls → lines_of (frame_text ls) ≡ map line_text ls
unfolding frame_text lines_of line_text form_ends
lines_printed n [] p = refl
lines_printed n (l ∷ ls) p =
    let end = printed_ends (form_at l.row) l.numbers (every_at form_ends row_count all_end l.row p.0.proper.few) in
    first_line (line_text l) (frame_text ls) end ∙ ap (λ (ts : List (List ℕ)). line_text l ∷ ts) (lines_printed n ls p.1)

lines_text : (ls : List Line) → joined (map line_text ls) ≡ frame_text ls
unfolding joined frame_text
lines_text [] = refl
lines_text (l ∷ ls) = ap (λ (t : List ℕ). line_text l ++ t) (lines_text ls)

-- ---- lines that pass, each in its turn

pub data Passing : ℕ → Parts → List Line → Type 0 where
  end_here : {stage : ℕ} {p : Parts} → may_end stage ≡ true → Passing stage p []
  pass_on : {stage to : ℕ} {p : Parts} {ls : List Line} (l : Line) → Proper l → turn_at stage l.row ≡ Some to → checked_line p l ≡ Ok tt
      → Passing to (added p l) ls
      → Passing stage p (l ∷ ls)

passing_read : (n : ℕ) {stage : ℕ} {p : Parts} (f : Frame) → p ≡ parts_of f → {ls : List Line} → Passing stage p ls
    → read_lines n stage f (map line_text ls) ≡ finish (f ++ ls)
unfolding read_lines at_end step_line
passing_read n f is (end_here e) = rw e (ap finish (sym (append-nil f)))
passing_read n {stage} f is (pass_on {to = to} {ls = ls} l p t c more) =
    let on : ℕ → Frame → FrameRead = λ stage' g. read_lines (suc n) stage' g (map line_text ls) in
    ap (λ (r : LineRead). going n (step_with stage f r) on) (line_reads_back l p)
    ∙ ap₂ (λ (u : Option ℕ) (w : Checked). going n (step_by u w (f ++ (l ∷ []))) on) t (ap (λ (q : Parts). checked_line q l) (sym is) ∙ c)
    ∙ passing_read (suc n) (f ++ (l ∷ [])) (ap (λ (q : Parts). added q l) is ∙ sym (parts_more f l)) more
    ∙ ap finish (append_assoc f (l ∷ []) ls)

-- what was read of these lines
pub record ReadBack (stage : ℕ) (f g : Frame) (texts : List (List ℕ)) : Type 0 where
  pub lines : List Line
  pub all_are : g ≡ f ++ lines
  pub texts_again : texts ≡ map line_text lines
  pub passing : Passing stage (parts_of f) lines

pub read_passing : {stage last : ℕ} {f g : Frame} {texts : List (List ℕ)} → Passed stage f texts last g → may_end last ≡ true → ReadBack stage f g texts
read_passing {f = f} none_yet h = record { lines = []; all_are = sym (append-nil f); texts_again = refl; passing = end_here h }
read_passing {stage} {last} {f} {g} (one_more {stage' = to} {f' = next-frame} {text = text} {texts = texts} e more) h =
    go (stepping stage f text) e (read_passing more h)
  where
    go : {s : Step} → Stepping stage f text s → s ≡ onward to next-frame → ReadBack to next-frame g texts → ReadBack stage f g (text ∷ texts)
    go (stops r w) d b = absurd (let z : ◌≡◌ {A = ℕ} 0 1 = cc in omega arith)
    go (goes l t r p q) d b =
        let there : t ≡ to = cc in
        let frame : f ++ (l ∷ []) ≡ next-frame = cc in
        let said = line_prints_back text l r in
        record {
          lines = l ∷ b.lines;
          all_are = b.all_are ∙ ap (λ (x : Frame). x ++ b.lines) (sym frame) ∙ append_assoc f (l ∷ []) b.lines;
          texts_again = ap₂ ◌∷◌ said.text_again b.texts_again;
          passing =
              pass_on l said.proper (p ∙ ap Some there) q
              (subst (λ (x : Parts). Passing to x b.lines) (ap parts_of (sym frame) ∙ parts_more f l) b.passing);
        }

-- ---- each line's numbers

pub passing_order : {stage : ℕ} {p : Parts} {ls : List Line} → Passing stage p ls → InOrder stage ls
passing_order (end_here e) = ends e
passing_order (pass_on l p t c more) = next l t (passing_order more)

pub rows_of : {stage : ℕ} {p : Parts} {ls : List Line} → Passing stage p ls → All (λ l. l.row < row_count) ls
rows_of (end_here e) = tt
rows_of (pass_on l p t c more) = (p.few, rows_of more)

-- the corners before a line that asks for one are all corners
counted_all : (s t : ℕ) (p : Parts) (l : Line) (ls : List Line) → turn_at s l.row ≡ Some t → All (λ m. m.row < row_count) (l ∷ ls) → InOrder t ls → (r : ℕ)
    → outside_line r (length p.corners) l ≡ outside_line r (length (parts_from p (l ∷ ls)).corners) l
unfolding outside_line
counted_all s t p l ls e rs o r =
    counts_alike r (length p.corners) (length (parts_from p (l ∷ ls)).corners) l.row (all_given s t p l ls e rs o) 0 l.numbers

pub numbers_of : {stage : ℕ} {p : Parts} {ls : List Line} → Passing stage p ls → All (InRange (length (parts_from p ls).corners)) ls
unfolding parts_from
numbers_of (end_here e) = tt
numbers_of {stage} {p} (pass_on {to = to} {ls = ls} l q t c more) =
    let f = line_fine p l c in
    let all = counted_all stage to p l ls t (q.few, rows_of more) (passing_order more) in (
      record { proper = q; first = sym (all 1) ∙ f.first; ranges = sym (all 3) ∙ f.ranges; on_sheet_holds = sym (all 4) ∙ f.on; known = sym (all 5) ∙ f.known },
      numbers_of more,
    )

-- ---- the limits

pub limits_of : {stage : ℕ} {p : Parts} {ls : List Line} → Passing stage p ls → Limits p → Limits (parts_from p ls)
unfolding parts_from
limits_of (end_here e) m = m
limits_of {stage} {p} (pass_on l proper t c more) m =
    let f = line_fine p l c in limits_of more (limits_after (kind_of l) l.numbers p (record { room = f.room; once = f.once; permitted = f.permitted }) m)

-- ---- the laws

prints_back : (text : List ℕ) (f : Frame) → length text ≤ byte_limit → ReadBack 0 [] f (lines_of text)
    → ((parts_of f).patched ≡ true → Joinable (first_set (parts_of f)) (second_set (parts_of f))) → FramePrintsBack text f
unfolding parts_of parts_from
prints_back text f h r j =
    let t : text ≡ frame_text f = sym (lines_joined text) ∙ ap joined r.texts_again ∙ lines_text r.lines ∙ ap frame_text (sym r.all_are) in
    let passing : Passing 0 no_parts f = subst (Passing 0 no_parts) (sym r.all_are) r.passing in
    record {
      text_again = t;
      within = within_limits (subst (λ (x : List ℕ). length x ≤ byte_limit) t h) (passing_order passing) (numbers_of passing) (limits_of passing no_limits) j;
    }

pub frame_prints_back : (text : List ℕ) (f : Frame) → read_frame text ≡ accepted f → FramePrintsBack text f
unfolding read_frame
frame_prints_back text f e =
    ⊎_elim (λ h. none (rw (lt-ltb byte_limit (length text) h) at e)) (λ h. back h (ending 1 0 [] (lines_of text)) (rw (le-ltb byte_limit (length text) h) at e))
    (below_or_not byte_limit (length text))
  where
    none : refused_at Refusal.OverLimit 0 ≡ accepted f → FramePrintsBack text f
    none d = absurd (let z : ◌≡◌ {A = ℕ} 0 1 = cc in omega arith)

    back : {o : FrameRead} → length text ≤ byte_limit → Ending 1 0 [] (lines_of text) o → o ≡ accepted f → FramePrintsBack text f
    back h (all_read last g p k j) d = let same : f ≡ g = cc in rw same (prints_back text g h (read_passing p k) j)
    back h (one_fails k m last g r l a p w) d = absurd (let z : ◌≡◌ {A = ℕ} 0 1 = cc in omega arith)
    back h (one_missing m last g a p k) d = absurd (let z : ◌≡◌ {A = ℕ} 0 1 = cc in omega arith)
    back h (sets_apart m last g r a p k t u) d = absurd (let z : ◌≡◌ {A = ℕ} 0 1 = cc in omega arith)

within_passes : (s : ℕ) (p : Parts) (ls : List Line) → InOrder s ls → All (InRange (length (parts_from p ls).corners)) ls → Limits (parts_from p ls)
    → Passing s p ls
unfolding parts_from checked_line
within_passes s p ls (ends e) r m = end_here e
within_passes s p ls (next {to = t} {ls = rest} l e o) r m =
    let all = counted_all s t p l rest e (all_map (λ k x. x.proper.few) (l ∷ rest) r) o in
    let fits = (limits_before (kind_of l) l.numbers p (limits_first (added p l) rest m)).1 in
    pass_on l r.0.proper e
    (all_fine (outside_in p l) _ _ _
    (record {
      first = all 1 ∙ r.0.first;
      room = fits.room;
      ranges = all 3 ∙ r.0.ranges;
      on = all 4 ∙ r.0.on_sheet_holds;
      known = all 5 ∙ r.0.known;
      once = fits.once;
      permitted = fits.permitted;
    })) (within_passes t (added p l) rest o r.1 m)

pub frame_reads_back : FrameReadsBack
unfolding read_frame parts_of parts_from
frame_reads_back f w =
    rw (le-ltb byte_limit (length (frame_text f)) w.bytes, lines_printed (length (parts_of f).corners) f w.numbers)
    (passing_read 1 [] refl (within_passes 0 no_parts f w.order w.numbers (frame_limits w)) ∙ joinable_whole f w.joins)
