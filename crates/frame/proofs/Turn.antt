-- A line as the code takes it leads where the definition says, and so do all lines, turn by turn. Assumes nothing.
use Rattle.std.specs.Prelude.{Ok, Err}
use mathlib.Core.Path.{◌≡◌, refl, sym, ap, ap₂, subst, ◌∙◌}
use mathlib.Core.Bool.{Bool, true, false, cond}
use mathlib.Core.List.{List, [], ◌∷◌, ◌++◌, map}
use Prim.Native.Nat.{ℕ, zero, suc, ◌+◌, ◌<◌, ◌≤◌}
use native.Mathlib.Omega.{arith}
use native.Mathlib.Numerals.{add-one}
use native.Mathlib.Nat.{sub-zero}
use lib.Dec.{eqb}
use lib.ListN.{length, take, drop, length-append}
use Rattle.refusal.specs.declared.Refusal.{Refusal}
use Rattle.sheet.specs.Words.{empty_sheet}
use Rattle.sheet.proofs.Words.{empty_length}
use Rattle.labels.specs.Box.{box_of}
use Rattle.labels.proofs.Count.{many_few}
use Rattle.join.specs.Rule.{Placed}
use Rattle.join.specs.Join.{Joined, apart, clash, off, union_of, joined}
use Rattle.join.specs.Sheets.{labelled, HoldsSet}
use Rattle.join.proofs.Sets.{labelled_length, set_held}
use Rattle.join_sheet.specs.Held.{held_labels, concluded}
use Rattle.join_sheet.proofs.Held.{joins_as}
use Rattle.line_form.specs.Lines.{lines_of, line_length}
use Rattle.line_form.proofs.Lines.{lines_from, no_lines}
use Rattle.frame_line.specs.Table.{turn_at, may_end}
use Rattle.frame_line.specs.Lines.{Line, LineRead, ill_formed, line, read_line}
use Rattle.frame_line.specs.Held.{held_line, held_read}
use Rattle.std.proofs.Common.{Option, None, Some}
use Rattle.frame_line.specs.declared.HeldLine.{HeldLine}
use Rattle.frame_line.proofs.Laws.{line_prints_back}
use Rattle.sizes.specs.Sizes.{corner_limit, place_count}
use Rattle.frame_check.specs.Checks.{is_used, nothing_held, checked_held}
use Rattle.frame_check.specs.declared.Held.{Held}
use Rattle.frame_state.specs.State.{patched_of, second_of, nothing_said, State, state, Addable, adds}
use Rattle.frame_state.specs.declared.Progress.{Progress}
use Rattle.frame.specs.Frame.{Frame, Parts, added, parts_from, no_parts, parts_of, checked_line, placed, first_set, second_set, join_if, join_of, labels_in, given_of, patch_line, FrameRead, refused_at, Step, stopped, onward, step_by, step_with, step_line, finish_by, finish, at_end, going, read_lines}
use Rattle.frame.specs.ReadFrame.{sheet_of}
use Rattle.frame.specs.Reading.{on_sheet_of, boxed, joined_to, FrameHeld, Room, Went, went, held_by, held_step, Finishable, Finished, finished, finished_by, finish_on, FrameDone, ReadAs, refused_as, held_as}
use Rattle.frame.specs.declared.FrameRefusal.{FrameRefusal}
use Rattle.std.proofs.Common.{Result, min}
use Rattle.std.specs.List.{IsFirstMatchOrLen}
use Rattle.std.proofs.lemmas.List.{take_at, drop_at}
use Rattle.frame.proofs.Sets.{all_holdable, all_once, taken_used}
use Rattle.frame.proofs.Adding.{checks_agree, line_held, restaged, nothing_read}
use Rattle.arguments.specs.Arguments.{Checked}

-- ---- the parts with one line more

from_more : (p : Parts) (f : Frame) (l : Line) → parts_from p (f ++ (l ∷ [])) ≡ added (parts_from p f) l
unfolding parts_from
from_more p [] l = refl
from_more p (m ∷ f) l = from_more (added p m) f l

pub parts_more : (f : Frame) (l : Line) → parts_of (f ++ (l ∷ [])) ≡ added (parts_of f) l
unfolding parts_of
parts_more f l = from_more no_parts f l

-- ---- one line

record WentOn (step : Step) (s : State) : Type 0 where
  frame : Frame
  step_is : step ≡ onward s.progress.stage frame
  holds : FrameHeld (parts_of frame) s

-- where a line leads, in the definition and in the code
abbrev SteppedAs : Step → Checked → State → Type 0
SteppedAs step (Err r) s = step ≡ stopped r
SteppedAs step (Ok u) s = WentOn step s

abbrev LedAs : Step → Went → Type 0
LedAs step w = SteppedAs step w.answer w.after

module _ (f : Frame) (s : State) (g : FrameHeld (parts_of f) s) (text : List ℕ) where
  abbrev Agreed : LineRead → Type 0
  Agreed r = LedAs (step_with s.progress.stage f r) (held_step (held_read r) s)

  line_agrees : (l : Line) → read_line text ≡ line l → Agreed (line l)
  unfolding held_step held_read
  line_agrees l e =
      subst
      (λ (c : Checked).
      LedAs (step_by (turn_at s.progress.stage l.row) (checked_line (parts_of f) l) (f ++ (l ∷ [])))
      (held_by (turn_at s.progress.stage l.row) c (adds (held_line l) s) s))
      (sym (checks_agree (parts_of f) s g l (line_prints_back text l e).proper))
      (go (turn_at s.progress.stage l.row) (checked_line (parts_of f) l) refl)
    where
      go : (u : Option ℕ) (c : Checked) → checked_line (parts_of f) l ≡ c → LedAs (step_by u c (f ++ (l ∷ []))) (held_by u c (adds (held_line l) s) s)
      go None c h = refl
      go (Some to) (Err r) h = refl
      go (Some to) (Ok tt) h =
          let held = line_held (parts_of f) s g l (line_prints_back text l e).proper h in
          record { frame = f ++ (l ∷ []); step_is = refl; holds = rw parts_more (restaged (added (parts_of f) l) (adds (held_line l) s) to held) }

  steps_agree : LedAs (step_line s.progress.stage f text) (held_step (held_read (read_line text)) s)
  unfolding step_line held_step held_read
  steps_agree = go (read_line text) refl
    where
      go : (r : LineRead) → read_line text ≡ r → Agreed r
      go ill_formed e = refl
      go (line l) e = line_agrees l e

-- ---- the code's step, from its parts

-- a line can be added where nothing is wrong with it
pub step_addable : (s : State) (found : HeldLine) (checked : Checked)
    → checked ≡ checked_held s.progress.corners s.progress.passes s.progress.role (patched_of s.progress) s.held (second_of s.progress) found → Room s → checked ≡ Ok tt
    → Addable s.progress s.held found
step_addable s found checked c g h =
    record { fine = sym c ∙ h; few = g.few; long = g.long; counted = g.counted }

-- ---- after the last line

module _ (f : Frame) (p : Progress) (a : Held) (g : FrameHeld (parts_of f) (state p a)) where
  -- the sheet of the first set
  first_held : HoldsSet (first_set (parts_of f)) a.sheet
  first_held =
      let c = g.labels.checked in
      let ls = (parts_of f).labels in
      subst (HoldsSet (first_set (parts_of f))) (sym g.labels.sheet_is)
      (set_held (map placed ls) (all_holdable corner_limit (omega arith) ls c.sound) (all_once corner_limit ls c.sound c.once))

  pub finishable : Finishable (state p a)
  finishable =
      record {
        sets =
            record {
              long = omega (arith, g.labels.sheet_long);
              unused =
                  record {
                    free = λ k h. g.labels.uses.corners k h ∙ sym (taken_used corner_limit (parts_of f).labels a.sheet g.labels.checked.sound first_held k);
                  };
              second = g.second.fits;
            };
        second_few = g.second.few;
        few = g.corners.xs_held.some;
        labels_few = omega (arith, g.labels.uses.many, many_few (is_used a.used) corner_limit);
        box = g.box;
      }

  -- the number of the patch line
  patch_is : 5 + p.corners + p.labels ≡ patch_line (parts_of f)
  patch_is = omega (arith, g.corners.count, g.labels.uses.count)

  done : (sheet : List ℕ) → sheet ≡ sheet_of f → length sheet ≡ place_count → FrameDone f (boxed p sheet) (on_sheet_of a sheet)
  done sheet e long =
      record {
        settings_are = g.settings_are;
        corners = g.corners;
        sheet_is = e;
        sheet_long = long;
        shades = g.shades;
        passes = g.passes;
        around_is = ap box_of e;
      }

  set_length : (u : List Placed) → length (labelled empty_sheet u) ≡ place_count
  set_length u = labelled_length u empty_sheet ∙ empty_length

  -- by what the join says
  by_join : (j : Joined) → join_of (parts_of f) ≡ j → (o : Finished) → o ≡ finished_by p (concluded a.sheet j)
      → ReadAs (finish_by j f) o.answer (joined_to (state p a) o.sheet)
  unfolding concluded sheet_of given_of
  by_join apart e o w = rw w (rw (← patch_is) (refused_as Refusal.NoSharedCorner _))
  by_join clash e o w = rw w (rw (← patch_is) (refused_as Refusal.PatchesClash _))
  by_join off e o w = rw w (rw (← patch_is) (refused_as Refusal.OffSheet _))
  by_join (union_of u) e o w = rw w (held_as f (done (labelled empty_sheet u) (ap (λ (j : Joined). labelled empty_sheet (labels_in j)) (sym e)) (set_length u)))

  -- by whether the patch line stands
  by_patch : (t : Bool) → (parts_of f).patched ≡ t → (o : Finished) → o ≡ finish_on t p a.sheet (second_set (parts_of f))
      → ReadAs (finish f) o.answer (joined_to (state p a) o.sheet)
  unfolding finish join_of sheet_of given_of
  by_patch false e o w =
      let is : join_of (parts_of f) ≡ union_of (first_set (parts_of f)) = ap (λ (t : Bool). join_if t (first_set (parts_of f)) (second_set (parts_of f))) e in
      subst (λ (j : Joined). ReadAs (finish_by j f) o.answer (joined_to (state p a) o.sheet)) (sym is)
      (rw w (held_as f (done a.sheet (g.labels.sheet_is ∙ ap (λ (j : Joined). labelled empty_sheet (labels_in j)) (sym is)) g.labels.sheet_long)))
  by_patch true e o w =
      let is : join_of (parts_of f) ≡ joined (first_set (parts_of f)) (second_set (parts_of f)) = ap (λ (t : Bool). join_if t (first_set (parts_of f)) (second_set (parts_of f))) e in
      subst (λ (j : Joined). ReadAs (finish_by j f) o.answer (joined_to (state p a) o.sheet)) (sym is)
      (by_join (joined (first_set (parts_of f)) (second_set (parts_of f))) is o (w ∙ ap (finished_by p) (joins_as first_held (second_set (parts_of f)))))

  finishes : (r : Result (Unit {0}) FrameRefusal) (sheet : List ℕ) → finished sheet r ≡ finish_on (patched_of p) p a.sheet (held_labels (take (second_of p) a.second))
      → ReadAs (finish f) r (joined_to (state p a) sheet)
  finishes r sheet w =
      by_patch (parts_of f).patched refl (finished sheet r)
      (w ∙ ap₂ (λ (t : Bool) (l : List Placed). finish_on t p a.sheet l) g.patched g.second.labels_are)

-- ---- the first line of a text

-- a text is its first line, which is not empty, and the lines behind it
pub record FirstLine (rest front after : List ℕ) : Type 0 where
  pub lines : lines_of rest ≡ front ∷ lines_of after
  pub shorter : length after < length rest

-- it ends behind the first line feed, or where the text ends
line_is : (rest : List ℕ) (i : ℕ) → IsFirstMatchOrLen (λ b. eqb b 10) rest i → line_length rest ≡ min (i + 1) (length rest)
unfolding line_length
line_is [] i h = omega arith
line_is (b ∷ rest) zero h = rw (h.1 (omega arith) 0) (omega arith)
line_is (b ∷ rest) (suc i) h =
    let more = line_is rest i (λ k d l m. h.0 (suc k) d (omega arith) (omega (arith, m)), λ l d. h.1 (omega (arith, l)) d) in
    rw (h.0 0 0 (omega arith) (omega arith)) (omega (arith, more))

pub first_line : (rest front after : List ℕ) (i : ℕ) → rest ≡ front ++ after → length front ≡ min (i + 1) (length rest)
    → IsFirstMatchOrLen (λ b. eqb b 10) rest i → 0 < length rest → FirstLine rest front after
first_line rest front after i e long h some =
    record {
      lines =
          lines_from rest 0 (length front) some (omega (arith, long, line_is rest i h))
          ∙ ap₂ (λ (x y : List ℕ). x ∷ lines_of y) (ap₂ take (sub-zero (length front)) e ∙ take_at front after (length front) refl)
          (ap (drop (length front)) e ∙ drop_at front after (length front) refl);
      shorter = omega (arith, long, some, ap length e, length-append front after);
    }

-- ---- all lines

-- before a line: so many are read, and what is left of the text leads where the whole text does
pub record Turning (text rest : List ℕ) (n : ℕ) (s : State) : Type 0 where
  pub lines : n + length rest ≤ length text + 1
  pub frame : Frame
  pub holds : FrameHeld (parts_of frame) s
  pub leads : read_lines n s.progress.stage frame (lines_of rest) ≡ read_lines 1 0 [] (lines_of text)

pub turning_start : (text rest : List ℕ) (s : State) → rest ≡ text → s ≡ state nothing_said nothing_held → Turning text rest 1 s
unfolding parts_of parts_from
turning_start text rest s t e =
    rw e
    (record {
      lines = omega (arith, ap length t);
      frame = [];
      holds = nothing_read;
      leads = ap (λ (x : List ℕ). read_lines 1 0 [] (lines_of x)) t;
    })

module _ {text rest : List ℕ} {n : ℕ} {s : State} (g : Turning text rest n s) where
  module _ {front after : List ℕ} (l : FirstLine rest front after) where
    -- the lines behind this one
    behind : Step → FrameRead
    behind x = going n x (λ stage f. read_lines (suc n) stage f (lines_of after))

    one_line : read_lines n s.progress.stage g.frame (lines_of rest) ≡ behind (step_line s.progress.stage g.frame front)
    unfolding read_lines behind
    one_line = ap (read_lines n s.progress.stage g.frame) l.lines

    module _ (r : Checked) (b : State) (w : went r b ≡ held_step (held_read (read_line front)) s) where
      stepped : SteppedAs (step_line s.progress.stage g.frame front) r b
      stepped = subst (LedAs (step_line s.progress.stage g.frame front)) (sym w) (steps_agree g.frame s g.holds front)

      led : (x : Checked) → r ≡ x → SteppedAs (step_line s.progress.stage g.frame front) x b
      led x d = subst (λ (y : Checked). SteppedAs (step_line s.progress.stage g.frame front) y b) d stepped

      pub turn_stopped : (q : Refusal) → r ≡ Err q → ReadAs (read_lines 1 0 [] (lines_of text)) (Err (record { refusal = q; line = n })) b
      unfolding behind
      turn_stopped q d =
          subst (λ (x : FrameRead). ReadAs x (Err (record { refusal = q; line = n })) b) (sym (one_line ∙ ap behind (led (Err q) d)) ∙ g.leads) (refused_as q n)

      pub turn_onward : r ≡ Ok tt → Turning text after (n + 1) b
      unfolding behind
      turn_onward d =
          let on = led (Ok tt) d in
          record {
            lines = omega (arith, g.lines, l.shorter);
            frame = on.frame;
            holds = on.holds;
            leads = rw add-one (sym (one_line ∙ ap behind on.step_is) ∙ g.leads);
          }

  -- behind the last line
  module _ (h : length rest ≡ 0) where
    at_the_end : (t : Bool) → may_end s.progress.stage ≡ t → read_lines 1 0 [] (lines_of text) ≡ cond t (finish g.frame) (refused_at Refusal.Malformed n)
    unfolding read_lines at_end
    at_the_end t e =
        sym g.leads ∙ ap (read_lines n s.progress.stage g.frame) (no_lines rest 0 (omega (arith, h)))
        ∙ ap (λ (x : Bool). cond x (finish g.frame) (refused_at Refusal.Malformed n)) e

    pub end_missing : may_end s.progress.stage ≡ false → ReadAs (read_lines 1 0 [] (lines_of text)) (Err (record { refusal = Refusal.Malformed; line = n })) s
    end_missing e = subst (λ (x : FrameRead). ReadAs x (Err (record { refusal = Refusal.Malformed; line = n })) s) (sym (at_the_end false e)) (refused_as Refusal.Malformed n)

    pub end_finished : may_end s.progress.stage ≡ true → (r : Result (Unit {0}) FrameRefusal) (sheet : List ℕ)
        → finished sheet r ≡ finish_on (patched_of s.progress) s.progress s.held.sheet (held_labels (take (second_of s.progress) s.held.second))
        → ReadAs (read_lines 1 0 [] (lines_of text)) r (joined_to s sheet)
    end_finished e r sheet w =
        subst (λ (x : FrameRead). ReadAs x r (joined_to s sheet)) (sym (at_the_end true e)) (finishes g.frame s.progress s.held g.holds r sheet w)
