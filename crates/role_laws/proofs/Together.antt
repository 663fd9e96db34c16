-- What the roles attached together is what the passes added to the cells given. Assumes nothing.
use Rattle.std.specs.Prelude.{None}
use mathlib.Core.Path.{◌≡◌, refl, sym, ap, subst, ◌∙◌}
use mathlib.Core.Bool.{Bool, true, false, not, cond}
use mathlib.Core.List.{List, [], ◌∷◌, map, Memᴰ}
use Prim.Native.Nat.{ℕ, ◌+◌, ◌<◌, ◌≤◌}
use native.Mathlib.Omega.{arith}
use lib.ListN.{length, get_or, length-map, length-append}
use Rattle.sizes.specs.Sizes.{place_count}
use Rattle.sheet.specs.Corners.{CornerLists}
use Rattle.sheet.specs.Words.{label_at, empty_sheet, attached}
use Rattle.sheet.specs.declared.Offset.{Offset}
use Rattle.sheet.proofs.Words.{attached_changes, label_else, empty_word, empty_length, empty_label}
use Rattle.labels.specs.Labelled.{is_labelled, labelled_places, label_count, Attaching}
use Rattle.labels.proofs.Labelled.{blank_unlabelled, count_attached}
use Rattle.labels.proofs.Count.{many_none}
use Rattle.passes.specs.Outcome.{Outcome}
use Rattle.passes.specs.Run.{Call}
use Rattle.passes.specs.declared.PassStats.{PassStats}
use Rattle.invariants.specs.Calls.{attached_count, Goes, ended, refuses, runs, attached_in}
use Rattle.role_counts.specs.RoleCounts.{counts_of, together}
use Rattle.role_counts.specs.declared.RoleCounts.{RoleCounts}
use Rattle.role_counts.proofs.Together.{all_said, together_all}
use Rattle.join.specs.Rule.{Placed, shifted_by, All, Differ, Once}
use Rattle.join.specs.Join.{kept, cell_in, is_found, new_by, union}
use Rattle.join.specs.Sheets.{labelled, Holdable}
use Rattle.join.proofs.Union.{of_all}
use Rattle.join.proofs.Join.{by_shift}
use Rattle.frame.specs.Frame.{Frame, parts_of, placed, first_set, second_set, given_of}
use Rattle.frame.specs.ReadFrame.{sheet_of}
use Rattle.frame.specs.Text.{WithinLimits}
use Rattle.frame.proofs.Sets.{all_once}
use Rattle.frame_laws.specs.Calls.{frame_corners, calls_of, NoneRefused, Starts}
use Rattle.frame_laws.proofs.Parts.{labels_sound}
use Rattle.frame_laws.proofs.Joining.{one_given, both_given}
use Rattle.frame_laws.proofs.Labels.{given_holdable}
use Rattle.frame_laws.proofs.Back.{frame_prints_back}
use Rattle.frame_laws.proofs.Runs.{accepted_runs}
use Rattle.frame_answer.specs.Answer.{frame_outcomes, frame_sheet}
use Rattle.role_laws.specs.Every.{said_by}
use Rattle.role_laws.specs.Together.{AttachedTogether, shared_labels, EachGivenOnce}
use Rattle.role_laws.proofs.Outcomes.{each_role}

-- ---- what is attached

-- what is counted of a pass as attached are its new cells: fill's added ones too
counts_attached : (s : PassStats) → (counts_of s).attached ≡ attached_count s
unfolding counts_of
counts_attached (PassStats.Grow s) = refl
counts_attached (PassStats.Fill s) = refl
counts_attached (PassStats.Local s) = refl

-- over a list of calls
all_attached : (l : CornerLists) (given : List ℕ) {sheet : List ℕ} {cs : List Call} {os : List (Outcome PassStats)} → Goes l given sheet cs os
    → NoneRefused os → (all_said (said_by os)).attached ≡ length (attached_in os)
unfolding all_said said_by attached_in
all_attached l given ended n = refl
all_attached l given (refuses c r g) n = absurd n
all_attached l given (runs {os = os} c a r s k g) n =
    let rest = all_attached l given g n in
    omega (arith, counts_attached a.answer, r.counted, rest, length-append a.attached (attached_in os))

-- "The attached counts together equal the cells labelled at the end less those given."
pub attached_together : AttachedTogether
unfolding frame_sheet
attached_together text f e =
    let s = accepted_runs text f e in
    let i = s.invariant (calls_of f) in
    let all : together (frame_outcomes f) ≡ all_said (said_by _) = together_all (frame_outcomes f) ∙ ap all_said (each_role text f e).stats in
    let n = ap (λ (c : RoleCounts). c.attached) all in
    let m = all_attached (frame_corners f) (sheet_of f) i.each_call s.runs in
    omega (arith, n, m, i.whole.count)

-- ---- what is given

-- labels that are put on a sheet, no two at one cell, each at a cell that holds none
labelled_count : (ls : List Placed) (sheet : List ℕ) → place_count ≤ length sheet → All Holdable ls → Once ls
    → ((l : Placed) → Memᴰ l ls → label_at sheet l.cell ≡ None) → label_count (labelled sheet ls) ≡ label_count sheet + length ls
unfolding labelled
labelled_count [] sheet long s o bare = omega arith
labelled_count (l ∷ ls) sheet long s o bare =
    let fits : l.corner < 16383 = omega (arith, s.0.small) in
    let a : Attaching sheet l.cell l.corner = record { long = long; on = s.0.on; bare = bare l (Memᴰ.head refl); corner_fits = fits } in
    let put = attached_changes sheet l.cell long s.0.on l.corner fits in
    let rest =
    labelled_count ls (attached sheet l.cell l.corner) (omega (arith, long, put.same_length)) s.1 o.1
    (λ m n. label_else put s.0.on m.cell (λ q. (of_all (Differ l) ls o.0 m n).cells (sym q)) ∙ bare m (Memᴰ.tail n)) in
    omega (arith, rest, count_attached a)

empty_count : label_count empty_sheet ≡ 0
unfolding label_count labelled_places
empty_count = many_none (λ p. is_labelled (get_or empty_sheet p 0)) 16384 (λ k h. blank_unlabelled (empty_word k))

-- those that pass a test, and the others, each told by its image
kept_count : {A B : Type 0} (f : B → Bool) (g : A → B) (l : List A)
    → length (kept (λ b. not (f b)) (map g l)) + length (kept (λ a. f (g a)) l) ≡ length l
unfolding kept
kept_count f g [] = refl
kept_count {A} {B} f g (a ∷ l) = go (f (g a)) (kept (λ b. not (f b)) (map g l)) (kept (λ a. f (g a)) l) (kept_count f g l)
  where
    go : (t : Bool) (others : List B) (these : List A) → length others + length these ≡ length l
        → length (cond (not t) (g a ∷ others) others) + length (cond t (a ∷ these) these) ≡ length (a ∷ l)
    go true others these w = omega (arith, w)
    go false others these w = omega (arith, w)

-- a label of both sets is one of the union's
union_count : (first second : List Placed) (d : Offset)
    → length (union first second d) + length (shared_labels first second) ≡ length first + length second
unfolding union new_by
union_count first second d =
    omega (
      arith,
      length-append first (kept (λ l. not (is_found (cell_in first l.corner))) (map (shifted_by d) second)),
      kept_count (λ l. is_found (cell_in first l.corner)) (shifted_by d) second,
    )

module _ (f : Frame) (s : Starts f) (w : WithinLimits f) where
  given_once : Once (given_of (parts_of f))
  given_once = go (parts_of f).patched refl
    where
      go : (t : Bool) → (parts_of f).patched ≡ t → Once (given_of (parts_of f))
      go false e = subst Once (sym (one_given f e)) (all_once (length (parts_of f).corners) (parts_of f).labels (labels_sound f w).0 w.once)
      go true e = (s.given.both_sets_holds e).union.once

  given_count : label_count (sheet_of f) ≡ length (given_of (parts_of f))
  unfolding sheet_of
  given_count =
      let long : place_count ≤ length empty_sheet = omega (arith, empty_length) in
      let c = labelled_count (given_of (parts_of f)) empty_sheet long (given_holdable f w) given_once (λ l m. empty_label l.cell) in
      omega (arith, c, empty_count)

  by_both : (e : (parts_of f).patched ≡ true)
      → label_count (sheet_of f) + length (shared_labels (first_set (parts_of f)) (second_set (parts_of f)))
      ≡ length (parts_of f).labels + length (parts_of f).second
  by_both e =
      let b = by_shift (first_set (parts_of f)) (second_set (parts_of f)) (given_of (parts_of f)) (both_given f e (w.joins e)) in
      omega (
        arith,
        given_count,
        ap (λ (l : List Placed). length l) b.is_union,
        union_count (first_set (parts_of f)) (second_set (parts_of f)) b.shift,
        length-map (parts_of f).labels placed,
        length-map (parts_of f).second placed,
      )

pub each_given_once : EachGivenOnce
each_given_once text f e =
    let s = accepted_runs text f e in
    let w = (frame_prints_back text f e).within in
    record {
      given = given_count f s w;
      one_set = λ n. given_count f s w ∙ ap (λ (l : List Placed). length l) (one_given f n) ∙ length-map (parts_of f).labels placed;
      both_sets_holds = by_both f s w;
    }
