-- The label box of an accepted frame is what a search of its sheet finds, and so of the union where two sets are joined. Assumes nothing.
use Rattle.std.specs.Prelude.{Ok}
use mathlib.Core.Path.{◌≡◌, refl, sym, ap, ◌∙◌, subst}
use mathlib.Core.Bool.{Bool, true, false, cond}
use mathlib.Core.List.{List, [], ◌∷◌}
use Prim.Native.Nat.{ℕ, suc}
use Rattle.refusal.specs.declared.Refusal.{Refusal}
use Rattle.sheet.specs.Words.{empty_sheet}
use Rattle.labels.specs.Box.{IsBox, box_of}
use Rattle.labels.specs.Kept.{around_of, box_kept}
use Rattle.labels.proofs.Box.{box_is}
use Rattle.labels.proofs.Keeping.{around_kept}
use Rattle.join.specs.Rule.{Placed}
use Rattle.join.specs.Join.{Joined, apart, clash, off, union_of}
use Rattle.join.specs.Sheets.{labelled}
use Rattle.line_form.specs.Lines.{lines_of}
use Rattle.frame_line.specs.Table.{may_end}
use Rattle.frame.specs.Frame.{Frame, parts_of, first_set, second_set, join_if, join_of, labels_in, given_of, FrameRead, refused_at, accepted, Step, stopped, onward, step_line, finish_by, finish, at_end, going, read_lines, read_frame}
use Rattle.frame.specs.ReadFrame.{Buffers, sheet_of, too_short, leaves, unless_short, read_into}
use Rattle.frame.specs.Around.{BoxOfSheet, AcceptedAs, ReadingKeepsBox, FirstSetKeepsBox, JoiningKeepsBox}
use Rattle.frame.specs.declared.FrameHead.{FrameHead}

-- ---- the head of an accepted frame

head_box : (short : Bool) (text : List ℕ) (b : Buffers) (f : Frame) (head : FrameHead) → read_frame text ≡ accepted f
    → (unless_short short text b).answer ≡ Ok head → head.around ≡ box_kept (sheet_of f)
head_box true text b f head e h = absurd (cc)
head_box false text b f head e h =
    let is : (leaves (accepted f) b).answer ≡ Ok head = ap (λ (r : FrameRead). (leaves r b).answer) (sym e) ∙ h in
    cc

module _ (text : List ℕ) (b : Buffers) (f : Frame) (head : FrameHead) (a : AcceptedAs text b f head) where
  kept_here : head.around ≡ box_kept (sheet_of f)
  unfolding read_into
  kept_here = head_box (too_short b) text b f head a.read a.answered

  found_here : around_of head.around ≡ box_of (sheet_of f)
  found_here = ap around_of kept_here ∙ around_kept (box_of (sheet_of f))

  box_here : BoxOfSheet (sheet_of f) head
  box_here = record { found = found_here; is_box = subst (IsBox (sheet_of f)) (sym found_here) (box_is (sheet_of f)) }

  -- by what the join says
  box_of_joined : (j : Joined) → join_of (parts_of f) ≡ j → BoxOfSheet (labelled empty_sheet (labels_in j)) head
  unfolding sheet_of given_of
  box_of_joined j e = subst (λ (j : Joined). BoxOfSheet (labelled empty_sheet (labels_in j)) head) e box_here

-- ---- the join of an accepted frame is a union

record JoinedAs (f : Frame) : Type 0 where
  union : List Placed
  is : join_of (parts_of f) ≡ union_of union

finish_joined : (j : Joined) (g f : Frame) → join_of (parts_of g) ≡ j → finish_by j g ≡ accepted f → JoinedAs f
finish_joined apart g f d e = absurd (cc)
finish_joined clash g f d e = absurd (cc)
finish_joined off g f d e = absurd (cc)
finish_joined (union_of u) g f d e =
    let same : g ≡ f = cc in
    subst JoinedAs same (record { union = u; is = d })

end_joined : (t : Bool) (n : ℕ) (g f : Frame) → cond t (finish g) (refused_at Refusal.Malformed n) ≡ accepted f → JoinedAs f
unfolding finish
end_joined true n g f e = finish_joined (join_of (parts_of g)) g f refl e
end_joined false n g f e = absurd (cc)

lines_joined : (texts : List (List ℕ)) (n stage : ℕ) (g f : Frame) → read_lines n stage g texts ≡ accepted f → JoinedAs f
unfolding read_lines at_end
lines_joined [] n stage g f e = end_joined (may_end stage) n g f e
lines_joined (text ∷ texts) n stage g f e = go (step_line stage g text) (λ stage' g'. lines_joined texts (suc n) stage' g' f) e
  where
    go : (x : Step) → ((stage' : ℕ) (g' : Frame) → read_lines (suc n) stage' g' texts ≡ accepted f → JoinedAs f)
        → going n x (λ stage' g'. read_lines (suc n) stage' g' texts) ≡ accepted f → JoinedAs f
    go (stopped r) w h = absurd (cc)
    go (onward stage' g') w h = w stage' g' h

text_joined : (t : Bool) (text : List ℕ) (f : Frame) → cond t (refused_at Refusal.OverLimit 0) (read_lines 1 0 [] (lines_of text)) ≡ accepted f → JoinedAs f
text_joined true text f e = absurd (cc)
text_joined false text f e = lines_joined (lines_of text) 1 0 [] f e

accepted_joined : (text : List ℕ) (f : Frame) → read_frame text ≡ accepted f → JoinedAs f
unfolding read_frame
accepted_joined text f e = text_joined _ text f e

-- ---- "Reading labels, joining and attaching must each keep them equal to what a search would find"

-- reading
pub reading_keeps_box : ReadingKeepsBox
reading_keeps_box = box_here

pub first_set_keeps_box : FirstSetKeepsBox
unfolding join_of
first_set_keeps_box text b f head a e =
    box_of_joined text b f head a (union_of (first_set (parts_of f))) (ap (λ (t : Bool). join_if t (first_set (parts_of f)) (second_set (parts_of f))) e)

-- joining
pub joining_keeps_box : JoiningKeepsBox
unfolding join_of
joining_keeps_box text b f head a e =
    let j = accepted_joined text f a.read in
    record {
      union = j.union;
      is_joined = sym (ap (λ (t : Bool). join_if t (first_set (parts_of f)) (second_set (parts_of f))) e) ∙ j.is;
      box = box_of_joined text b f head a (union_of j.union) j.is;
    }
