-- The patch line of a frame: it stands behind the first four lines, the corners and the labels of the first set, and nowhere else. A text whose lines
-- all pass is accepted or refused for its sets; and two sets with a corner in common are refused exactly if no shift onto the sheet joins them.
-- Assumes nothing.
use mathlib.Core.Path.{◌≡◌, refl, sym, ap, subst, ◌∙◌}
use mathlib.Core.Bool.{Bool, true, false, not, true≢false, cond}
use mathlib.Core.Logic.{⊎_elim, ◌↔◌}
use mathlib.Core.List.{List, [], ◌∷◌, ◌++◌, map, append-nil}
use Prim.Native.Nat.{ℕ, zero, suc, ◌+◌, ◌-◌, ◌<◌, ◌≤◌}
use native.Mathlib.Nat.{not-suc-le-zero}
use native.Mathlib.Omega.{arith}
use borrow.Author.Tests.{eqb-true, lt-ltb, le-ltb, ltb-true, not-true}
use lib.Dec.{eqb, ltb}
use lib.ListN.{length, get_or, length-append, length-map}
use Rattle.refusal.specs.declared.Refusal.{Refusal}
use Rattle.join.specs.Rule.{Shared, NoShift, All}
use Rattle.line_form.specs.Forms.{Number, bytes, printed, fit_of, piece_of}
use Rattle.line_form.specs.Integers.{digits_after, read_positive, read_integer}
use Rattle.line_form.specs.Lines.{lines_of}
use Rattle.line_form.proofs.Every.{first_true, second_true}
use Rattle.binary32.specs.Hex.{digit_value, read_digits}
use Rattle.frame_line.specs.Table.{rows, row_count, row_at, kind_at, form_at, turn_at, may_end}
use Rattle.frame_line.specs.Lines.{Line, kind_of, Proper, line_text, label_line_of, LineRead, line, first_fit, read_line}
use Rattle.frame_line.specs.declared.Kind.{Kind}
use Rattle.std.proofs.Common.{Some}
use Rattle.frame_line.proofs.Shapes.{row_of_lem}
use Rattle.frame_line.proofs.Laws.{line_reads_back}
use Rattle.sizes.specs.Sizes.{byte_limit}
use Rattle.frame.specs.Frame.{Frame, Parts, part_of, adding, added, parts_from, no_parts, parts_of, first_set, second_set, patch_line, Step, FrameRead, refused_at, accepted, finish, at_end, going, read_lines, read_frame}
use Rattle.frame.specs.Text.{InOrder, ends, next, Sound, Passed, none_yet, one_more, Joinable}
use Rattle.frame.proofs.Adding.{below_or_not}
use Rattle.frame_laws.specs.Patches.{AllPass, PatchOf, PatchStands, IsRefused, PatchesRefusedIf}
use Rattle.frame_laws.proofs.Order.{rule, ruled}
use Rattle.frame_laws.proofs.Parts.{get_d_map, corners_kept, no_limits, lines_tame}
use Rattle.frame_laws.proofs.Joining.{Finishing, is_whole, not_joined, finishing, joinable_whole}
use Rattle.frame_laws.proofs.Back.{Passing, end_here, pass_on, ReadBack, read_passing, passing_order, rows_of, numbers_of, limits_of}

-- ---- a text whose lines all pass

-- lines that pass are read on
pub passed_read : (n : ℕ) {stage : ℕ} {f : Frame} {texts : List (List ℕ)} {last : ℕ} {g : Frame} (rest : List (List ℕ)) → Passed stage f texts last g
    → read_lines n stage f (texts ++ rest) ≡ read_lines (n + length texts) last g rest
unfolding read_lines
passed_read n {stage} {f} rest none_yet = let e : n ≡ n + 0 = omega arith in ap (λ (m : ℕ). read_lines m stage f rest) e
passed_read n {last = last} {g = g} rest (one_more {texts = texts} e p) =
    let m : suc n + length texts ≡ n + suc (length texts) = omega arith in
    ap (λ (s : Step). going n s (λ stage' f'. read_lines (suc n) stage' f' (texts ++ rest))) e ∙ passed_read (suc n) rest p
    ∙ ap (λ (k : ℕ). read_lines k last g rest) m

pub short_enough : (text : List ℕ) → length text ≤ byte_limit → read_frame text ≡ read_lines 1 0 [] (lines_of text)
unfolding read_frame
short_enough text h = rw (le-ltb byte_limit (length text) h)

-- what is done at its end is what is done with it
pub whole_text : (text : List ℕ) {stage : ℕ} {f : Frame} → length text ≤ byte_limit → Passed 0 [] (lines_of text) stage f → may_end stage ≡ true
    → read_frame text ≡ finish f
unfolding read_lines at_end
whole_text text {stage} {f} h p e =
    let texts = lines_of text in
    short_enough text h ∙ ap (read_lines 1 0 []) (sym (append-nil texts)) ∙ passed_read 1 [] p
    ∙ ap (λ (x : Bool). cond x (finish f) (refused_at Refusal.Malformed (1 + length texts))) e

-- ---- where the patch line stands

abbrev is_patch : Kind → Bool
is_patch k = eqb (part_of k) 5

patch_kind : (k : Kind) → is_patch k ≡ true → k ≡ Kind.Patch
patch_kind (Kind.Opening o) e = absurd (true≢false (sym e))
patch_kind Kind.Corner e = absurd (true≢false (sym e))
patch_kind Kind.Label e = absurd (true≢false (sym e))
patch_kind Kind.Patch e = refl
patch_kind Kind.Shade e = absurd (true≢false (sym e))
patch_kind (Kind.As r) e = absurd (true≢false (sym e))
patch_kind (Kind.Pass q) e = absurd (true≢false (sym e))

-- what comes behind the labels of the first set
abbrev is_late : Kind → Bool
is_late k = ltb 2 (part_of k)

-- how many corners and labels of the first set a line is, before the patch line
abbrev counts : Kind → ℕ
counts (Kind.Opening o) = 0
counts Kind.Corner = 1
counts Kind.Label = 1
counts Kind.Patch = 0
counts Kind.Shade = 0
counts (Kind.As r) = 0
counts (Kind.Pass q) = 0

-- from stage 6 on no patch line comes; up to stage 5 a late line comes behind the opening and leads past it, and any other is one of the first four, or a
-- corner or a label
patch_rule : ℕ → ℕ → ℕ → Bool
patch_rule s k t =
    cond (ltb 5 s) (cond (ltb 5 t) (not (is_patch (kind_at k))) false)
    (cond (is_late (kind_at k)) (cond (ltb 3 s) (ltb 5 t) false) (cond (ltb t 6) (eqb (4 - s + counts (kind_at k)) (4 - t + 1)) false))

patch_rule_lem : rule patch_rule ≡ true
unfolding patch_rule kind_at turn_at row_at rows
patch_rule_lem = refl

module _ (s k t : ℕ) (few : k < row_count) (e : turn_at s k ≡ Some t) where
  by_rule : patch_rule s k t ≡ true
  by_rule = ruled patch_rule patch_rule_lem s k t few e

  past : 5 < s → (5 < t) × (is_patch (kind_at k) ≡ false)
  unfolding patch_rule
  past h =
      let a = rw (lt-ltb 5 s h) at by_rule in
      (ltb-true 5 t (first_true (ltb 5 t) _ a), not-true (is_patch (kind_at k)) (second_true (ltb 5 t) (not (is_patch (kind_at k))) a))

  leaves : s < 6 → is_late (kind_at k) ≡ true → (3 < s) × (5 < t)
  unfolding patch_rule
  leaves h l =
      let below : s ≤ 5 = omega arith in
      let a = rw (le-ltb 5 s below, l) at by_rule in
      (ltb-true 3 s (first_true (ltb 3 s) _ a), ltb-true 5 t (second_true (ltb 3 s) (ltb 5 t) a))

  stays : s < 6 → is_late (kind_at k) ≡ false → (t < 6) × (4 - s + counts (kind_at k) ≡ 4 - t + 1)
  unfolding patch_rule
  stays h l =
      let below : s ≤ 5 = omega arith in
      let a = rw (le-ltb 5 s below, l) at by_rule in
      (ltb-true t 6 (first_true (ltb t 6) _ a), eqb-true _ (4 - t + 1) (second_true (ltb t 6) _ a))

abbrev blank : Line
blank = record { row = 0; numbers = [] }

-- the line of an index is the patch line
abbrev PatchAt : List Line → ℕ → Type 0
PatchAt ls k = is_patch (kind_of (get_or ls k blank)) ≡ true

abbrev Rows : List Line → Type 0
Rows ls = All (λ l. l.row < row_count) ls

none_later : (s : ℕ) (ls : List Line) → 5 < s → Rows ls → InOrder s ls → (k : ℕ) → k < length ls → PatchAt ls k → ⊥
none_later s ls h r (ends e) k l p = not-suc-le-zero l
none_later s ls h r (next {to = t} {ls = rest} l e o) zero i p = true≢false (sym p ∙ (past s l.row t r.0 e h).1)
none_later s ls h r (next {to = t} {ls = rest} l e o) (suc k) i p = none_later t rest (past s l.row t r.0 e h).0 r.1 o k (omega arith) p

-- once the patch line stands, the first set stays
patched_stays : (k : Kind) (ns : List Number) (p : Parts) → p.patched ≡ true → ((adding k ns p).labels ≡ p.labels) × ((adding k ns p).patched ≡ true)
unfolding adding
patched_stays (Kind.Opening o) ns p e = (refl, e)
patched_stays Kind.Corner ns p e = (refl, e)
patched_stays Kind.Label ns p e = (ap (λ (t : Bool). cond t p.labels (p.labels ++ (label_line_of ns ∷ []))) e, e)
patched_stays Kind.Patch ns p e = (refl, refl)
patched_stays Kind.Shade ns p e = (refl, e)
patched_stays (Kind.As r) ns p e = (refl, e)
patched_stays (Kind.Pass q) ns p e = (refl, e)

first_stays : (p : Parts) (ls : List Line) → p.patched ≡ true → ((parts_from p ls).labels ≡ p.labels) × ((parts_from p ls).patched ≡ true)
unfolding parts_from
first_stays p [] e = (refl, e)
first_stays p (l ∷ ls) e =
    let one = patched_stays (kind_of l) l.numbers p e in let rest = first_stays (added p l) ls one.1 in (rest.0 ∙ one.0, rest.1)

-- before it, a corner or a label is one more, and only the patch line itself opens the second set
counted_on : (k : Kind) (ns : List Number) (p : Parts) → p.patched ≡ false
    → (length (adding k ns p).corners + length (adding k ns p).labels ≡ length p.corners + length p.labels + counts k)
    × (is_patch k ≡ false → (adding k ns p).patched ≡ false)
unfolding adding
counted_on (Kind.Opening o) ns p e = (omega arith, λ q. e)
counted_on Kind.Corner ns p e = (simp length-append (omega arith), λ q. e)
counted_on Kind.Label ns p e = (rw e (simp length-append (omega arith)), λ q. e)
counted_on Kind.Patch ns p e = (omega arith, λ q. absurd (true≢false q))
counted_on Kind.Shade ns p e = (omega arith, λ q. e)
counted_on (Kind.As r) ns p e = (omega arith, λ q. e)
counted_on (Kind.Pass q) ns p e = (omega arith, λ r. e)

patch_late : (k : Kind) → is_late k ≡ false → is_patch k ≡ false
patch_late (Kind.Opening o) e = refl
patch_late Kind.Corner e = refl
patch_late Kind.Label e = refl
patch_late Kind.Patch e = absurd (true≢false e)
patch_late Kind.Shade e = refl
patch_late (Kind.As r) e = refl
patch_late (Kind.Pass q) e = refl

late_patch : (k : Kind) → is_patch k ≡ true → is_late k ≡ true
late_patch k e = ap is_late (patch_kind k e)

position : (s : ℕ) (p : Parts) (ls : List Line) → s < 6 → p.patched ≡ false → Rows ls → InOrder s ls → (k : ℕ) → k < length ls → PatchAt ls k
    → length p.corners + length p.labels + k ≡ 4 - s + (length (parts_from p ls).corners + length (parts_from p ls).labels)
unfolding parts_from adding
position s p ls h n r (ends e) k i at = absurd (not-suc-le-zero i)
position s p ls h n r (next {to = t} {ls = rest} l e o) zero i at = go (patch_kind (kind_of l) at)
  where
    go : kind_of l ≡ Kind.Patch
        → length p.corners + length p.labels + 0 ≡ 4 - s + (length (parts_from (added p l) rest).corners + length (parts_from (added p l) rest).labels)
    go is =
        let there = leaves s l.row t r.0 e h (late_patch (kind_of l) at) in
        let same : added p l ≡ adding Kind.Patch l.numbers p = ap (λ (kind : Kind). adding kind l.numbers p) is in
        let stands : (added p l).patched ≡ true = ap (λ (x : Parts). x.patched) same in
        let corners = corners_kept t (added p l) rest (omega arith) r.1 o ∙ ap (λ (x : Parts). x.corners) same in
        let labels = (first_stays (added p l) rest stands).0 ∙ ap (λ (x : Parts). x.labels) same in
        rw (corners, labels) (omega arith)
position s p ls h n r (next {to = t} {ls = rest} l e o) (suc k) i at =
    go (is_late (kind_of l)) refl (λ b m. position t (added p l) rest b m r.1 o k (omega arith) at)
  where
    one : (length (added p l).corners + length (added p l).labels ≡ length p.corners + length p.labels + counts (kind_of l))
        × (is_patch (kind_of l) ≡ false → (added p l).patched ≡ false)
    one = counted_on (kind_of l) l.numbers p n

    go : (x : Bool) → is_late (kind_of l) ≡ x
        → (t < 6 → (added p l).patched ≡ false
        → length (added p l).corners + length (added p l).labels + k
        ≡ 4 - t + (length (parts_from (added p l) rest).corners + length (parts_from (added p l) rest).labels))
        → length p.corners + length p.labels + suc k
        ≡ 4 - s + (length (parts_from (added p l) rest).corners + length (parts_from (added p l) rest).labels)
    go true late w = absurd (none_later t rest (leaves s l.row t r.0 e h late).1 r.1 o k (omega arith) at)
    go false late w =
        let m = stays s l.row t r.0 e h late in
        omega (arith, m.1, one.0, w m.0 (one.1 (patch_late (kind_of l) late)))

-- the patch line stands exactly if some line is one
some_patch : (p : Parts) (ls : List Line) → p.patched ≡ false → (parts_from p ls).patched ≡ true → (k : ℕ) × (k < length ls) × PatchAt ls k
unfolding parts_from
some_patch p [] n e = absurd (true≢false (sym e ∙ n))
some_patch p (l ∷ ls) n e = go (is_patch (kind_of l)) refl (λ m. some_patch (added p l) ls m e)
  where
    go : (x : Bool) → is_patch (kind_of l) ≡ x → ((added p l).patched ≡ false → (k : ℕ) × (k < length ls) × PatchAt ls k)
        → (k : ℕ) × (k < suc (length ls)) × PatchAt (l ∷ ls) k
    go true is w = (0, omega arith, is)
    go false is w = let r = w ((counted_on (kind_of l) l.numbers p n).1 is) in (suc r.0, omega (arith, r.1), r.2)

patch_stands : (p : Parts) (ls : List Line) (k : ℕ) → k < length ls → PatchAt ls k → (parts_from p ls).patched ≡ true
unfolding parts_from adding
patch_stands p [] k i at = absurd (not-suc-le-zero i)
patch_stands p (l ∷ ls) zero i at =
    (first_stays (added p l) ls (ap (λ (kind : Kind). (adding kind l.numbers p).patched) (patch_kind (kind_of l) at))).1
patch_stands p (l ∷ ls) (suc k) i at = patch_stands (added p l) ls k (omega arith) at

-- ---- in the text

patch_text : (l : Line) → Proper l → is_patch (kind_of l) ≡ true → line_text l ≡ bytes "(patch)\n"
unfolding line_text form_at row_at rows printed
patch_text l p e = ap (λ (k : ℕ). printed (form_at k) l.numbers) (row_of_lem l.row Kind.Patch p.few (patch_kind (kind_of l) e))

patch_read : read_line (bytes "(patch)\n") ≡ line (record { row = 12; numbers = [] })
unfolding read_line first_fit fit_of piece_of digits_after read_positive read_integer digit_value read_digits rows
patch_read = refl

text_patch : (l : Line) → Proper l → line_text l ≡ bytes "(patch)\n" → is_patch (kind_of l) ≡ true
unfolding kind_at
text_patch l p e =
    let same : line l ≡ line (record { row = 12; numbers = [] }) = sym (line_reads_back l p) ∙ ap read_line e ∙ patch_read in
    let is : l ≡ record { row = 12; numbers = [] } = cc in
    ap (λ (m : Line). is_patch (kind_of m)) is

proper_of : {stage : ℕ} {p : Parts} {ls : List Line} → Passing stage p ls → All Proper ls
proper_of (end_here e) = tt
proper_of (pass_on l p t c more) = (p, proper_of more)

proper_at : (ls : List Line) → All Proper ls → (k : ℕ) → k < length ls → Proper (get_or ls k blank)
proper_at [] p k i = absurd (not-suc-le-zero i)
proper_at (l ∷ ls) p zero i = p.0
proper_at (l ∷ ls) p (suc k) i = proper_at ls p.1 k (omega arith)

module _ (text : List ℕ) {stage : ℕ} {f : Frame} (passed : Passed 0 [] (lines_of text) stage f) (e : may_end stage ≡ true) where
  back : ReadBack 0 [] f (lines_of text)
  back = read_passing passed e

  passing : Passing 0 no_parts f
  unfolding parts_of parts_from
  passing = subst (Passing 0 no_parts) (sym back.all_are) back.passing

  -- the labels of both sets are of given corners
  pub passed_sound : All (Sound (length (parts_of f).corners)) (parts_of f).labels × All (Sound (length (parts_of f).corners)) (parts_of f).second
  unfolding parts_of
  passed_sound =
      let t = lines_tame f (limits_of passing no_limits).corners (numbers_of passing) in (t.labels, t.second)

  texts : lines_of text ≡ map line_text f
  texts = back.texts_again ∙ ap (map line_text) (sym back.all_are)

  as_many : length (lines_of text) ≡ length f
  as_many = ap length texts ∙ length-map f line_text

  text_at : (k : ℕ) → k < length f → get_or (lines_of text) k [] ≡ line_text (get_or f k blank)
  text_at k h = ap (λ (ts : List (List ℕ)). get_or ts k []) texts ∙ get_d_map line_text f k blank [] h

  number_of : (k : ℕ) → k < length f → PatchAt f k → suc k ≡ patch_line (parts_of f)
  unfolding parts_of
  number_of k h at = omega (arith, position 0 no_parts f (omega arith) refl (rows_of passing) (passing_order passing) k h at)

  -- "reported at the patch line": it stands where the number says
  pub patch_of : (parts_of f).patched ≡ true → PatchOf text f
  unfolding parts_of
  patch_of t =
      let s = some_patch no_parts f refl t in
      record {
        index = s.0;
        inside = omega (arith, s.1, as_many);
        reads = text_at s.0 s.1 ∙ patch_text (get_or f s.0 blank) (proper_at f (proper_of passing) s.0 s.1) s.2;
        number = number_of s.0 s.1 s.2;
      }

  -- and nowhere else
  pub patch_at : {n : ℕ} → n < length (lines_of text) → get_or (lines_of text) n [] ≡ bytes "(patch)\n"
      → ((parts_of f).patched ≡ true) × (suc n ≡ patch_line (parts_of f))
  unfolding parts_of
  patch_at {n} i reads =
      let h : n < length f = omega (arith, as_many) in
      let at = text_patch (get_or f n blank) (proper_at f (proper_of passing) n h) (sym (text_at n h) ∙ reads) in
      (patch_stands no_parts f n h at, number_of n h at)

pub patch_stands_there : PatchStands
patch_stands_there text f a t = patch_of text a.passed a.ends t

-- ---- "refused exactly if no such shift onto the sheet exists"

pub patches_refused_if : PatchesRefusedIf
patches_refused_if text f a t shared = (refused_none, λ none. subst IsRefused (sym ends) (none_refused none (finishing f)))
  where
    ends : read_frame text ≡ finish f
    ends = whole_text text a.bytes a.passed a.ends

    refused_none : IsRefused (read_frame text) → NoShift (first_set (parts_of f)) (second_set (parts_of f))
    refused_none r d s = subst IsRefused (ends ∙ joinable_whole f (λ q. record { shared = shared; shift = d; onto = s })) r

    none_refused : NoShift (first_set (parts_of f)) (second_set (parts_of f)) → {o : FrameRead} → Finishing f o → IsRefused o
    none_refused none (is_whole j) = none (j t).shift (j t).onto
    none_refused none (not_joined r p u) = tt
