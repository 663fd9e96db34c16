-- A line as the code checks it and adds it is checked and held as the definition says, part by part; nothing is held before the first. Assumes
-- nothing.
use Rattle.std.specs.Prelude.{Ok}
use mathlib.Core.Path.{◌≡◌, refl, sym, ap, ap₂, ◌∙◌, subst}
use mathlib.Core.Bool.{Bool, true, false, ◌||◌, not, cond, or-true, or-false, or_assoc}
use mathlib.Core.Logic.{◌⊎◌, inl, inr}
use mathlib.Core.List.{List, [], ◌∷◌, ◌++◌, map, append_assoc, append-nil, map-append}
use Prim.Native.Nat.{ℕ, ◌≤◌, suc, ◌+◌, ◌*◌, ◌<◌}
use native.Mathlib.Omega.{arith}
use borrow.Author.Tests.{ne_eqb, eq-eqb, eqb-true, eqb-false, leb-false, ltb-true, ltb-false}
use lib.IntN.{nat_abs, ℤ, pos}
use lib.ListN.{length, get_or, set, take, drop, length-set, length-take, length-drop, length-append, replicate, length-replicate, get_or-replicate}
use lib.Dec.{eqb, ltb}
use lib.Seq.{get_or-set_same, get_or-set_other, take-suc-set, take_at}
use lib.Ieee.{Float}
use Rattle.roles.specs.declared.Role.{Role}
use Rattle.sheet.specs.Cells.{eq_z, OnSheet, place_of}
use Rattle.sheet.specs.declared.Cell.{Cell}
use Rattle.sheet.proofs.Laws.{place_in, cell_place, place_one}
use Rattle.sheet.specs.Words.{number_of_label, word_of, with_label as withLabelWord, word_at, attached, empty_sheet}
use Rattle.labels.proofs.Below.{passing_one_more}
use Rattle.labels.proofs.Count.{many_none}
use Rattle.arguments.proofs.Chains.{or_false_both}
use Rattle.join.specs.Rule.{Placed}
use Rattle.join.specs.Join.{same_cell}
use Rattle.join.specs.Sheets.{labelled}
use Rattle.join.proofs.Lists.{same_cell_lem, cell_same}
use Rattle.join.proofs.Sets.{labelled_append}
use Rattle.std.specs.List.{list_any}
use Rattle.std.proofs.lemmas.List.Elements.{All-nil}
use Rattle.std.proofs.lemmas.List.Folds.{list_any-append}
use Rattle.join_sheet.specs.Held.{LabelHeld}
use Rattle.join_sheet.specs.declared.SecondLabel.{SecondLabel}
use Rattle.join_sheet.proofs.OneMore.{labels_more, held_more, second_more}
use Rattle.line_form.specs.Held.{held_up_to}
use Rattle.frame_line.specs.Lines.{Line, kind_of, Proper, label_line_of, whole_at, CornerLine, corner_line_of, LabelLine, ShadeLine, shade_line_of, pass_line_of}
use Rattle.frame_line.specs.Checks.{outside_line}
use Rattle.frame_line.specs.Held.{count_in, held_line, label_in, shade_in, outside_held}
use Rattle.frame_line.specs.declared.Kind.{Kind}
use Rattle.frame_line.proofs.Numbers.{outside_held_lem, slots_of}
use Rattle.frame_line.proofs.Said.{label_exact, shade_corner, shade_kind, pass_said}
use Rattle.frame_line.specs.Table.{rows, row_at, form_at}
use Rattle.frame_line.specs.declared.OpeningKind.{OpeningKind}
use Rattle.frame_line.specs.declared.PassKind.{PassKind}
use Rattle.frame_line.specs.declared.HeldLabel.{HeldLabel}
use Rattle.frame_line.specs.declared.HeldShade.{HeldShade}
use Rattle.frame_line.proofs.Shapes.{bits_held, whole_held}
use Rattle.frame_line.proofs.Words.{tame_count}
use Rattle.frame_check.specs.Checks.{checks_in_order, over_limit, label_twice, shade_twice, twice_of, forbidden, has_place, checked_held, is_set, is_used, nothing_held}
use Rattle.frame_check.proofs.Laws.{checks_alike, AllFine, fine_all}
use Rattle.sizes.specs.Sizes.{corner_limit, pass_limit, place_count, all_pass_words}
use Rattle.frame_state.specs.State.{patched_of, second_of, with_opening, label_to, shade_put, words_in, words_put, State, adds_as, adds, at_stage, nothing_said, state}
use Rattle.frame_state.proofs.Laws.{many_room}
use Rattle.frame_state.proofs.Around.{label_found, nothing_found}
use Rattle.frame.specs.Frame.{RoledPass, outside_in, over_in, twice_in, forbidden_in, Parts, some_of, doubled, open_labels, placed, shaded_before, checked_line, opened, adding, added, no_parts}
use Rattle.frame.specs.Text.{Sound}
use Rattle.frame.specs.Reading.{cell_taken, corner_taken, corner_shaded, HoldsUsed, CheckedLabels, HoldsLabels, HoldsSecond, HoldsShades, Holds, HoldsCorners, HoldsPasses, FrameHeld}
use Rattle.frame.specs.ReadFrame.{float_of, settings_in, shaded, FullPass, full_grow, full_fill, full_local, full_of, words_of, all_words}
use Rattle.frame.proofs.Sets.{same_truth, all_then, apart_more}

pub below_or_not : (a b : ℕ) → (a < b) ⊎ (b ≤ a)
below_or_not a b = go (ltb a b) refl
  where
    go : (t : Bool) → ltb a b ≡ t → (a < b) ⊎ (b ≤ a)
    go true e = inl (ltb-true a b e)
    go false e = inr (ltb-false a b e)

or_swap : (a b c d : Bool) → ((a || b) || (c || d)) ≡ ((a || c) || (b || d))
or_swap true b c d = refl
or_swap false true true d = refl
or_swap false true false d = refl
or_swap false false c d = refl

-- one of two tests is passed by some element, or the other
some_either : {A : Type 0} (f g : A → Bool) (l : List A) → some_of (λ a. f a || g a) l ≡ (some_of f l || some_of g l)
unfolding some_of
some_either f g [] = refl
some_either f g (a ∷ l) = ap (λ (t : Bool). (f a || g a) || t) (some_either f g l) ∙ or_swap (f a) (g a) (some_of f l) (some_of g l)

-- what is found of a line that passes its checks
abbrev pub FineLine : Parts → Line → Type 0
FineLine p l = AllFine (outside_in p l) (over_in p (kind_of l)) (twice_in p (kind_of l) l.numbers) (forbidden_in p (kind_of l))

pub line_fine : (p : Parts) (l : Line) → checked_line p l ≡ Ok tt → FineLine p l
unfolding checked_line
line_fine p l c = fine_all (outside_in p l) _ _ _ c

-- doubled is asked of labels and of shades alone
pub twice_alike : (kind : Kind) {a b c d : Bool} → (kind ≡ Kind.Label → a ≡ b) → (kind ≡ Kind.Shade → c ≡ d) → twice_of kind a c ≡ twice_of kind b d
unfolding twice_of
twice_alike (Kind.Opening o) h i = refl
twice_alike Kind.Corner h i = refl
twice_alike Kind.Label h i = h refl
twice_alike Kind.Patch h i = refl
twice_alike Kind.Shade h i = i refl
twice_alike (Kind.As r) h i = refl
twice_alike (Kind.Pass p) h i = refl

module _ (f : Parts) (s : State) (g : FrameHeld f s) (l : Line) (p : Proper l) where
  -- whether a label is doubled in the set that is open, t being whether that is the second
  set_twice : (m : LabelLine) → OnSheet m.cell → m.corner ≡ pos (nat_abs m.corner) → nat_abs m.corner < corner_limit → (t : Bool)
      → label_twice t s.held (second_of s.progress) (record { corner = nat_abs m.corner; cell = m.cell })
      ≡ (cell_taken (cond t f.second f.labels) m.cell || corner_taken (cond t f.second f.labels) m.corner)
  set_twice m on is small true =
      ap₂ ◌||◌ (g.second.cells m.cell on) (g.second.uses.corners (nat_abs m.corner) small ∙ ap (corner_taken f.second) (sym is))
  set_twice m on is small false =
      ap₂ ◌||◌ (g.labels.cells m.cell on) (g.labels.uses.corners (nat_abs m.corner) small ∙ ap (corner_taken f.labels) (sym is))

  twice : outside_line 4 s.progress.corners l ≡ false → outside_line 5 s.progress.corners l ≡ false → kind_of l ≡ Kind.Label
      → label_twice (patched_of s.progress) s.held (second_of s.progress) (label_in (held_up_to 5 l.numbers)) ≡ doubled (open_labels f) (label_line_of l.numbers)
  twice off known k =
      let h = label_exact s.progress.corners l p k g.corners.xs_held.some off known in
      let m = label_line_of l.numbers in
      ap₂ (λ (t : Bool) (x : HeldLabel). label_twice t s.held (second_of s.progress) x) g.patched h.held_so
      ∙ set_twice m h.on_sheet_holds h.is_corner_holds (omega (arith, h.given, g.corners.xs_held.some)) f.patched
      ∙ sym (some_either (λ k. same_cell k.cell m.cell) (λ k. eq_z k.corner m.corner) (open_labels f))

  twice_shaded : outside_line 5 s.progress.corners l ≡ false → kind_of l ≡ Kind.Shade
      → shade_twice s.held.shades (shade_in (held_up_to 5 l.numbers)) ≡ shaded_before f.shades (shade_line_of l.numbers)
  twice_shaded known k =
      let h = shade_corner s.progress.corners l p k g.corners.xs_held.some known in
      let m = shade_line_of l.numbers in
      ap (is_set s.held.shades) h.held_so
      ∙ g.shades.corners (nat_abs m.corner) (omega (arith, h.given, g.corners.xs_held.some)) ∙ ap (corner_shaded f.shades) (sym h.is_corner_holds)

  -- all checks
  pub checks_agree :
      checked_held s.progress.corners s.progress.passes s.progress.role (patched_of s.progress) s.held (second_of s.progress) (held_line l)
      ≡ checked_line f l
  unfolding checked_held checked_line
  checks_agree =
      checks_alike (λ r. outside_held r s.progress.corners (held_line l)) (λ r. outside_line r s.progress.corners l)
      (over_limit s.progress.corners s.progress.passes (kind_of l)) _ _ (forbidden s.progress.role (kind_of l))
      (λ r. outside_held_lem r s.progress.corners l g.corners.xs_held.some p)
      (λ off known. twice_alike (kind_of l) (twice off known) (twice_shaded known))
      ∙ ap₂
      (λ (i j : ℕ).
      checks_in_order (λ r. outside_line r i l) (over_limit i j (kind_of l)) (twice_in f (kind_of l) l.numbers) (forbidden s.progress.role (kind_of l)))
      g.corners.count g.passes.count
      ∙ ap (λ (r : Role). checks_in_order (outside_in f l) (over_in f (kind_of l)) (twice_in f (kind_of l) l.numbers) (forbidden r (kind_of l))) g.role

-- ---- one more at the end

labelled_more : (sheet : List ℕ) (ls : List LabelLine) (l : LabelLine)
    → labelled sheet (map placed (ls ++ (l ∷ []))) ≡ attached (labelled sheet (map placed ls)) l.cell (nat_abs l.corner)
unfolding labelled
labelled_more sheet ls l = rw map-append (labelled_append (map placed ls) (placed l ∷ []) sheet)

shaded_more : (shades : List ℕ) (ss : List ShadeLine) (s : ShadeLine)
    → shaded shades (ss ++ (s ∷ [])) ≡ set (shaded shades ss) (nat_abs s.corner) (nat_abs s.kind + 1)
unfolding shaded
shaded_more shades [] s = refl
shaded_more shades (t ∷ ss) s = shaded_more (set shades (nat_abs t.corner) (nat_abs t.kind + 1)) ss s

words_more : (ps : List RoledPass) (p : RoledPass) → all_words (ps ++ (p ∷ [])) ≡ all_words ps ++ words_of p.role (full_of p.pass)
unfolding all_words
words_more [] p = simp append-nil
words_more (q ∷ ps) p =
    let w = words_of q.role (full_of q.pass) in
    ap (λ (l : List ℕ). w ++ l) (words_more ps p) ∙ sym (append_assoc w (all_words ps) (words_of p.role (full_of p.pass)))

some_more : {A : Type 0} (f : A → Bool) (rest : List A) (a : A) → some_of f (rest ++ (a ∷ [])) ≡ (some_of f rest || f a)
unfolding some_of
some_more f [] a = or-false (f a)
some_more f (b ∷ rest) a = ap (λ (t : Bool). f b || t) (some_more f rest a) ∙ sym (or_assoc (f b) (some_of f rest) (f a))

-- an array with one entry written behind those that it holds
holds_more : {A : Type 0} {size n : ℕ} {entries these : List A} → Holds size n entries these → n < size → (a : A) (m : ℕ) → m ≡ suc n
    → Holds size m (set entries n a) (these ++ (a ∷ []))
holds_more {n = n} {entries = l} g h a m e =
    record {
      long = length-set l n a ∙ g.long;
      some = omega arith;
      are = ap (λ (k : ℕ). take k (set l n a)) e ∙ take-suc-set l n a (omega (arith, g.long)) ∙ ap (λ (k : List _). k ++ (a ∷ [])) g.are;
    }

-- ---- corners

corner_held : {cs : List CornerLine} {n : ℕ} {xs ys pitches : List Float} → HoldsCorners cs n xs ys pitches → n < corner_limit → (c : CornerLine)
    → HoldsCorners (cs ++ (c ∷ [])) (n + 1) (set xs n (float_of c.x)) (set ys n (float_of c.y)) (set pitches n (float_of c.pitch))
corner_held {n = n} g h c =
    record {
      count = simp length-append (omega (arith, g.count));
      xs_held = rw map-append (holds_more g.xs_held h (float_of c.x) (n + 1) (omega arith));
      ys_held = rw map-append (holds_more g.ys_held h (float_of c.y) (n + 1) (omega arith));
      pitches_held = rw map-append (holds_more g.pitches_held h (float_of c.pitch) (n + 1) (omega arith));
    }

-- ---- labels

-- an entry written with what is not 0 is set, and the others are as they were
set_set : (entries : List ℕ) (p q w : ℕ) → p < length entries → (w ≡ 0 → ⊥) → is_set (set entries p w) q ≡ (is_set entries q || eqb p q)
set_set entries p q w h z = go (eqb p q) refl
  where
    go : (t : Bool) → eqb p q ≡ t → is_set (set entries p w) q ≡ (is_set entries q || t)
    go true e =
        ap not
        (ap (λ (k : ℕ). eqb (get_or (set entries p w) k 0) 0) (sym (eqb-true p q e)) ∙ ap (λ (v : ℕ). eqb v 0) (get_or-set_same entries p w 0 h) ∙ ne_eqb w 0 z)
        ∙ sym (or-true (is_set entries q))
    go false e = ap (λ (v : ℕ). not (eqb v 0)) (get_or-set_other entries p q w 0 (λ d. eqb-false p q e (sym d))) ∙ sym (or-false (is_set entries q))

-- cells of the sheet have one place exactly if they are one
place_same : (c d : Cell) → OnSheet c → OnSheet d → eqb (place_of c) (place_of d) ≡ same_cell c d
place_same c d g h =
    same_truth _ _ (λ e. cell_same c d (place_one c d g h (eqb-true (place_of c) (place_of d) e)))
    (λ e. ap (λ (k : Cell). eqb (place_of c) (place_of k)) (sym (same_cell_lem c d e)) ∙ eq-eqb (place_of c) (place_of c) refl)

word_some : (w k : ℕ) → withLabelWord w k ≡ 0 → ⊥
unfolding word_of number_of_label
word_some w k e = omega arith

-- a corner that is marked is used, and the others are as they were
use_set : (used : List Bool) (p q : ℕ) → p < length used → is_used (set used p true) q ≡ (is_used used q || eqb p q)
use_set used p q h = go (eqb p q) refl
  where
    go : (t : Bool) → eqb p q ≡ t → is_used (set used p true) q ≡ (is_used used q || t)
    go true e = ap (is_used (set used p true)) (sym (eqb-true p q e)) ∙ get_or-set_same used p true false h ∙ sym (or-true (is_used used q))
    go false e = get_or-set_other used p q true false (λ d. eqb-false p q e (sym d)) ∙ sym (or-false (is_used used q))

-- ---- the corners used

-- one label more uses one corner more
used_more : {ls : List LabelLine} {n : ℕ} {uses uses' : ℕ → Bool} → HoldsUsed ls n uses → (l : LabelLine) (k : ℕ) → l.corner ≡ pos k → k < corner_limit
    → corner_taken ls l.corner ≡ false → ((q : ℕ) → q < corner_limit → uses' q ≡ (uses q || eqb k q)) → HoldsUsed (ls ++ (l ∷ [])) (n + 1) uses'
used_more {ls} {n} {uses} {uses'} g l k is small free same =
    record {
      count = simp length-append (omega (arith, g.count));
      corners =
          λ q h.
          same q h ∙ ap₂ ◌||◌ (g.corners q h) (sym (ap (λ (z : ℤ). eq_z z (pos q)) is)) ∙ sym (some_more (λ m. eq_z m.corner (pos q)) ls l);
      many =
          passing_one_more uses uses' corner_limit k small (g.corners k small ∙ ap (corner_taken ls) (sym is) ∙ free)
          (same k small ∙ ap (λ (t : Bool). uses k || t) (eq-eqb k k refl) ∙ or-true (uses k))
          (λ q h d. same q h ∙ ap (λ (t : Bool). uses q || t) (ne_eqb k q (λ e. d (sym e))) ∙ or-false (uses q))
          ∙ ap (λ (m : ℕ). m + 1) g.many;
    }

-- ---- a label of either set

-- a label that is checked: its corner k is below 1,024, it is on the sheet, and the set has neither its cell nor its corner
record NewLabel (ls : List LabelLine) (l : LabelLine) (k : ℕ) : Type 0 where
  on : OnSheet l.cell
  is : l.corner ≡ pos k
  small : k < corner_limit
  once : doubled ls l ≡ false

module _ {ls : List LabelLine} {l : LabelLine} {k : ℕ} (w : NewLabel ls l k) where
  free : corner_taken ls l.corner ≡ false
  free =
      (or_false_both (cell_taken ls l.cell) (corner_taken ls l.corner)
      (sym (some_either (λ m. same_cell m.cell l.cell) (λ m. eq_z m.corner l.corner) ls) ∙ w.once)).1

  checked_more : CheckedLabels ls → CheckedLabels (ls ++ (l ∷ []))
  checked_more c =
      record {
        sound = all_then (Sound corner_limit) ls (l ∷ []) c.sound (record { on_sheet_holds = w.on; corner = k; is_corner_holds = w.is; given = w.small }, tt);
        once = apart_more ls l c.once w.once;
      }

-- so there is room for it
more_room : {ls : List LabelLine} {n : ℕ} {uses : ℕ → Bool} → HoldsUsed ls n uses → {l : LabelLine} {k : ℕ} → NewLabel ls l k → n < corner_limit
more_room {uses = uses} g {k = k} w =
    omega (arith, g.many, many_room uses corner_limit k w.small (g.corners k w.small ∙ ap (corner_taken _) (sym w.is) ∙ free w))

-- a label of the first set, and one of the second
module _ {ls : List LabelLine} {l : LabelLine} {k : ℕ} (w : NewLabel ls l k) (used : List Bool) (long : length used ≡ corner_limit) where
  label_held : {n : ℕ} {sheet : List ℕ} → HoldsLabels ls n sheet used → HoldsLabels (ls ++ (l ∷ [])) (n + 1) (attached sheet l.cell k) (set used k true)
  unfolding attached
  label_held {sheet = sheet} g =
      let v = withLabelWord (word_at sheet l.cell) k in
      record {
        sheet_is = rw (labelled_more empty_sheet ls l, w.is, ← g.sheet_is);
        sheet_long = length-set sheet (place_of l.cell) v ∙ g.sheet_long;
        cells =
            λ c h.
            set_set sheet (place_of l.cell) (place_of c) v (omega (arith, place_in l.cell w.on, g.sheet_long)) (word_some (word_at sheet l.cell) k)
            ∙ ap₂ ◌||◌ (g.cells c h) (place_same l.cell c w.on h)
            ∙ sym (some_more (λ m. same_cell m.cell c) ls l);
        uses = used_more g.uses l k w.is w.small (free w) (λ q h. use_set used k q (omega (arith, long, w.small)));
        checked = checked_more w g.checked;
      }

  abbrev last : SecondLabel
  last = record { corner = k; place = place_of l.cell }

  second_held : {m : ℕ} {second : List SecondLabel} → HoldsSecond ls m used second → m < corner_limit
      → HoldsSecond (ls ++ (l ∷ [])) (m + 1) (set used k true) (set second m last)
  second_held {m} {second} g room =
      let inside : m < length second = omega (arith, g.second_long) in
      record {
        labels_are =
            held_more second m last inside
            ∙ ap₂ (λ (a b : List Placed). a ++ b) g.labels_are
            (λ t. record { corner = (sym (ap nat_abs w.is)) t; cell = cell_place l.cell w.on t } ∷ [])
            ∙ sym (map-append placed ls (l ∷ []));
        fits = second_more second m last inside g.fits (record { corner_small = w.small; place_on = place_in l.cell w.on });
        few = omega arith;
        second_long = length-set second m last ∙ g.second_long;
        cells =
            λ c h.
            ap (list_any (has_place (place_of c))) (labels_more second m last inside)
            ∙ list_any-append (has_place (place_of c)) (take m second) (last ∷ [])
            ∙ ap₂ ◌||◌ (g.cells c h) (or-false (eqb (place_of l.cell) (place_of c)) ∙ place_same l.cell c w.on h)
            ∙ sym (some_more (λ n. same_cell n.cell c) ls l);
        uses = used_more g.uses l k w.is w.small (free w) (λ q h. use_set used k q (omega (arith, long, w.small)));
      }

-- ---- shades

shade_held_lem : {ss : List ShadeLine} {shades : List ℕ} → HoldsShades ss shades → (s : ShadeLine) → s.corner ≡ pos (nat_abs s.corner)
    → nat_abs s.corner < corner_limit
    → HoldsShades (ss ++ (s ∷ [])) (set shades (nat_abs s.corner) (nat_abs s.kind + 1))
shade_held_lem {ss} {shades} g s is small =
    let k = nat_abs s.corner in
    let v = nat_abs s.kind + 1 in
    record {
      shades_are = ap (λ (l : List ℕ). set l k v) g.shades_are ∙ sym (shaded_more _ ss s);
      shades_long = length-set shades k v ∙ g.shades_long;
      corners =
          λ q h.
          set_set shades k q v (omega (arith, g.shades_long)) (λ e. omega arith)
          ∙ ap₂ ◌||◌ (g.corners q h) (sym (ap (λ (z : ℤ). eq_z z (pos q)) is))
          ∙ sym (some_more (λ t. eq_z t.corner (pos q)) ss s);
    }

-- ---- passes

-- words put behind those that are held
put_held : {size n : ℕ} {entries these : List ℕ} → Holds size n entries these → (w : List ℕ) (k : ℕ) → n + length w ≡ k → k ≤ size
    → Holds size k (take n entries ++ (w ++ drop k entries)) (these ++ w)
put_held {n = n} {entries = entries} g w k e room =
    record {
      long = simp (length-append, length-take, length-drop) (omega (arith, g.long, g.some));
      some = room;
      are =
          ap (take k) (sym (append_assoc (take n entries) w (drop k entries)))
          ∙ take_at (take n entries ++ w) (drop k entries) k (simp (length-append, length-take) (omega (arith, g.long, g.some)))
          ∙ ap (λ (l : List ℕ). l ++ w) g.are;
    }

seven_words : (r : Role) (p : FullPass) → length (words_of r p) ≡ 7
unfolding words_of
seven_words r (full_grow search factor boundary) = refl
seven_words r (full_fill search factor rounds) = refl
seven_words r (full_local search factor rounds residual depth) = refl

pass_held : {ps : List RoledPass} {m : ℕ} {words : List ℕ} → HoldsPasses ps m words → m < pass_limit → (p : RoledPass) (w : List ℕ)
    → w ≡ words_of p.role (full_of p.pass)
    → HoldsPasses (ps ++ (p ∷ [])) (m + 1) (words_put m w words)
pass_held {ps} {m} {words} g h p w e =
    let seven : length w ≡ 7 = ap length e ∙ seven_words p.role (full_of p.pass) in
    let all = put_held g.words_held w (7 * m + 7) (omega (arith, seven)) (omega arith) in
    let next : 7 * m + 7 ≡ 7 * (m + 1) = omega arith in
    record {
      count = simp length-append (omega (arith, g.count));
      words_held = rw (words_more ps p, ← e) (subst (λ (k : ℕ). Holds 112 k (words_put m w words) (all_words ps ++ w)) next all);
    }

-- ---- any line

module _ (f : Parts) (s : State) (g : FrameHeld f s) (l : Line) (p : Proper l) (fine : checked_line f l ≡ Ok tt) where
  w : FineLine f l
  w = line_fine f l fine

  room : (kind : Kind) → kind_of l ≡ kind → over_in f kind ≡ false
  room kind e = sym (ap (over_in f) e) ∙ w.room

  settings_added : (k : OpeningKind) → kind_of l ≡ Kind.Opening k
      → with_opening k s.progress.settings (held_up_to 5 l.numbers) ≡ settings_in (opened k l.numbers f.opening)
  unfolding opened slots_of form_at row_at rows
  settings_added OpeningKind.Frame e = g.settings_are
  settings_added OpeningKind.CellSize e = rw (bits_held l p (Kind.Opening OpeningKind.CellSize) e 0 (omega arith) refl, g.settings_are)
  settings_added OpeningKind.Axes e =
      let b = bits_held l p (Kind.Opening OpeningKind.Axes) e in
      rw (b 0 (omega arith) refl, b 1 (omega arith) refl, b 2 (omega arith) refl, b 3 (omega arith) refl, g.settings_are)
  settings_added OpeningKind.Band e = rw (bits_held l p (Kind.Opening OpeningKind.Band) e 0 (omega arith) refl, g.settings_are)

  -- the words of a pass whose numbers are in range
  words_agree : (r : Role) (k : PassKind) → kind_of l ≡ Kind.Pass k
      → words_in r k (held_up_to 5 l.numbers) ≡ words_of r (full_of (pass_line_of k l.numbers))
  unfolding pass_line_of full_of words_of slots_of form_at row_at rows
  words_agree r PassKind.BareGrow e = refl
  words_agree r PassKind.Grow e =
      let b = bits_held l p (Kind.Pass PassKind.Grow) e in
      rw (b 0 (omega arith) refl, b 1 (omega arith) refl, b 2 (omega arith) refl)
  words_agree r PassKind.BareFill e = refl
  words_agree r PassKind.Fill e =
      let b = bits_held l p (Kind.Pass PassKind.Fill) e in
      let tame = pass_said (length f.corners) l p w.ranges PassKind.Fill e in
      let c = whole_held l p (Kind.Pass PassKind.Fill) e in
      let rounds = ap count_in (c 2 (omega arith) refl) ∙ tame_count 64 (whole_at 2 l.numbers) (omega arith) tame.1.1 in
      rw (b 0 (omega arith) refl, b 1 (omega arith) refl, rounds)
  words_agree r PassKind.Local e =
      let b = bits_held l p (Kind.Pass PassKind.Local) e in
      let c = whole_held l p (Kind.Pass PassKind.Local) e in
      let tame = pass_said (length f.corners) l p w.ranges PassKind.Local e in
      let rounds = ap count_in (c 2 (omega arith) refl) ∙ tame_count 64 (whole_at 2 l.numbers) (omega arith) tame.1.1.0 in
      let depth = ap count_in (c 4 (omega arith) refl) ∙ tame_count 4 (whole_at 4 l.numbers) (omega arith) tame.1.1.1.1 in
      rw (b 0 (omega arith) refl, b 1 (omega arith) refl, b 3 (omega arith) refl, rounds, depth)

  -- the room for a label of the second set: each label of it uses another corner
  second_room : {k : ℕ} → NewLabel f.second (label_line_of l.numbers) k → second_of s.progress < corner_limit
  second_room {k} n = more_room g.second.uses n

  -- a label is added to the set that is open, t being whether that is the second
  abbrev parts_with : Bool → Parts
  parts_with t =
      let m = label_line_of l.numbers in
      record {
        opening = f.opening;
        corners = f.corners;
        labels = cond t f.labels (f.labels ++ (m ∷ []));
        patched = f.patched;
        second = cond t (f.second ++ (m ∷ [])) f.second;
        shades = f.shades;
        role = f.role;
        passes = f.passes;
      }

  label_in_lem : (t : Bool) (k : ℕ) → f.patched ≡ t → NewLabel (cond t f.second f.labels) (label_line_of l.numbers) k
      → FrameHeld (parts_with t) (label_to t (record { corner = k; cell = (label_line_of l.numbers).cell }) s)
  label_in_lem true k stands n =
      record {
        settings_are = g.settings_are;
        corners = g.corners;
        used_long = g.used_long;
        second_used_long = length-set s.held.second_used k true ∙ g.second_used_long;
        labels = g.labels;
        patched = sym stands;
        second = second_held n s.held.second_used g.second_used_long g.second (second_room n);
        shades = g.shades;
        role = g.role;
        passes = g.passes;
        box = g.box;
      }
  label_in_lem false k stands n =
      record {
        settings_are = g.settings_are;
        corners = g.corners;
        used_long = length-set s.held.used k true ∙ g.used_long;
        second_used_long = g.second_used_long;
        labels = label_held n s.held.used g.used_long g.labels;
        patched = g.patched;
        second = g.second;
        shades = g.shades;
        role = g.role;
        passes = g.passes;
        box = label_found false (record { corner = k; cell = (label_line_of l.numbers).cell }) s (omega (arith, g.labels.sheet_long)) (record { on = n.on; entry = n.small }) g.box;
      }

  label_by : {x : HeldLabel} {k : ℕ} → x ≡ record { corner = k; cell = (label_line_of l.numbers).cell }
      → NewLabel (open_labels f) (label_line_of l.numbers) k → FrameHeld (parts_with f.patched) (label_to (patched_of s.progress) x s)
  label_by {x} {k} e n =
      subst (λ (t : Bool). FrameHeld (parts_with f.patched) (label_to t x s)) (sym g.patched)
      (subst (λ (y : HeldLabel). FrameHeld (parts_with f.patched) (label_to f.patched y s)) (sym e) (label_in_lem f.patched k refl n))

  -- a line of a kind changes its own part
  by_kind : (kind : Kind) → kind_of l ≡ kind → FrameHeld (adding kind l.numbers f) (adds_as kind (held_up_to 5 l.numbers) s)
  unfolding adding adds_as over_limit twice_of slots_of form_at row_at rows
  by_kind (Kind.Opening k) e =
      record {
        settings_are = settings_added k e;
        corners = g.corners;
        used_long = g.used_long;
        second_used_long = g.second_used_long;
        labels = g.labels;
        patched = g.patched;
        second = g.second;
        shades = g.shades;
        role = g.role;
        passes = g.passes;
        box = g.box;
      }
  by_kind Kind.Corner e =
      let b = bits_held l p Kind.Corner e in
      let n = leb-false corner_limit (length f.corners) (room Kind.Corner e) in
      record {
        settings_are = g.settings_are;
        corners =
            rw (b 0 (omega arith) refl, b 1 (omega arith) refl, b 2 (omega arith) refl)
            (corner_held g.corners (omega (arith, g.corners.count)) (corner_line_of l.numbers));
        used_long = g.used_long;
        second_used_long = g.second_used_long;
        labels = g.labels;
        patched = g.patched;
        second = g.second;
        shades = g.shades;
        role = g.role;
        passes = g.passes;
        box = g.box;
      }
  by_kind Kind.Label e =
      let few : length f.corners ≤ corner_limit = omega (arith, g.corners.count, g.corners.xs_held.some) in
      let h = label_exact (length f.corners) l p e few w.on w.known in
      let m = label_line_of l.numbers in
      label_by h.held_so
      (record {
        on = h.on_sheet_holds;
        is = h.is_corner_holds;
        small = omega (arith, h.given, few);
        once = sym (ap (λ (kind : Kind). twice_in f kind l.numbers) e) ∙ w.once;
      })
  by_kind Kind.Patch e =
      record {
        settings_are = g.settings_are;
        corners = g.corners;
        used_long = g.used_long;
        second_used_long = g.second_used_long;
        labels = g.labels;
        patched = refl;
        second = g.second;
        shades = g.shades;
        role = g.role;
        passes = g.passes;
        box = g.box;
      }
  by_kind Kind.Shade e =
      let few : length f.corners ≤ corner_limit = omega (arith, g.corners.count, g.corners.xs_held.some) in
      let h = shade_corner (length f.corners) l p e few w.known in
      let k = shade_kind (length f.corners) l p e w.first in
      let m = shade_line_of l.numbers in
      let so : record { corner = nat_abs m.corner; kind = nat_abs m.kind } ≡ shade_in (held_up_to 5 l.numbers) =
      λ t. record { corner = sym h.held_so t; kind = sym k.held_so t } in
      record {
        settings_are = g.settings_are;
        corners = g.corners;
        used_long = g.used_long;
        second_used_long = g.second_used_long;
        labels = g.labels;
        patched = g.patched;
        second = g.second;
        shades =
            subst (λ (x : HeldShade). HoldsShades (f.shades ++ (m ∷ [])) (shade_put x s.held.shades)) so
            (shade_held_lem g.shades m h.is_corner_holds (omega (arith, h.given, few)));
        role = g.role;
        passes = g.passes;
        box = g.box;
      }
  by_kind (Kind.As r) e =
      record {
        settings_are = g.settings_are;
        corners = g.corners;
        used_long = g.used_long;
        second_used_long = g.second_used_long;
        labels = g.labels;
        patched = g.patched;
        second = g.second;
        shades = g.shades;
        role = refl;
        passes = g.passes;
        box = g.box;
      }
  by_kind (Kind.Pass k) e =
      let n = leb-false pass_limit (length f.passes) (room (Kind.Pass k) e) in
      record {
        settings_are = g.settings_are;
        corners = g.corners;
        used_long = g.used_long;
        second_used_long = g.second_used_long;
        labels = g.labels;
        patched = g.patched;
        second = g.second;
        shades = g.shades;
        role = g.role;
        passes =
            pass_held g.passes (omega (arith, g.passes.count)) (record { role = f.role; pass = pass_line_of k l.numbers })
            (words_in s.progress.role k (held_up_to 5 l.numbers)) (ap (λ (r : Role). words_in r k (held_up_to 5 l.numbers)) g.role ∙ words_agree f.role k e);
        box = g.box;
      }

  pub line_held : FrameHeld (added f l) (adds (held_line l) s)
  line_held = by_kind (kind_of l) refl

-- the stage is not held
pub restaged : (f : Parts) (s : State) (stage : ℕ) → FrameHeld f s → FrameHeld f (state (at_stage s.progress stage) s.held)
restaged f s stage g =
    record {
      settings_are = g.settings_are;
      corners = g.corners;
      used_long = g.used_long;
      second_used_long = g.second_used_long;
      labels = g.labels;
      patched = g.patched;
      second = g.second;
      shades = g.shades;
      role = g.role;
      passes = g.passes;
      box = g.box;
    }

-- ---- before the first line

none_set : (n k : ℕ) → k < n → is_set (replicate n 0) k ≡ false
none_set n k h = ap (λ (v : ℕ). not (eqb v 0)) (get_or-replicate n k 0 0 h)

holds_none : {A : Type 0} (size : ℕ) (a : A) → Holds size 0 (replicate size a) []
holds_none size a = record { long = length-replicate size a; some = omega arith; are = refl }

none_used : (uses : ℕ → Bool) → ((k : ℕ) → k < corner_limit → uses k ≡ false) → HoldsUsed [] 0 uses
unfolding some_of
none_used uses h = record { count = refl; corners = h; many = many_none uses corner_limit h }

none_marked : (k : ℕ) → k < corner_limit → is_used (replicate corner_limit false) k ≡ false
none_marked k h = get_or-replicate corner_limit k false false h

no_labels : HoldsLabels [] 0 (replicate place_count 0) (replicate corner_limit false)
unfolding some_of labelled empty_sheet
no_labels =
    record {
      sheet_is = refl;
      sheet_long = length-replicate {A = ℕ} place_count 0;
      cells = λ c h. none_set place_count (place_of c) (place_in c h);
      uses = none_used (is_used (replicate corner_limit false)) none_marked;
      checked = record { sound = tt; once = tt };
    }

no_second : HoldsSecond [] 0 (replicate corner_limit false) (replicate corner_limit (record { corner = 0; place = 0 }))
unfolding some_of
no_second =
    record {
      labels_are = refl;
      fits = All-nil LabelHeld;
      few = omega arith;
      second_long = length-replicate {A = SecondLabel} corner_limit (record { corner = 0; place = 0 });
      cells = λ c h. refl;
      uses = none_used (is_used (replicate corner_limit false)) none_marked;
    }

no_shades : HoldsShades [] (replicate corner_limit 0)
unfolding some_of shaded
no_shades = record { shades_are = refl; shades_long = length-replicate {A = ℕ} corner_limit 0; corners = λ k h. none_set corner_limit k h }

pub nothing_read : FrameHeld no_parts (state nothing_said nothing_held)
unfolding all_words
nothing_read =
    let front = holds_none corner_limit (float_of 0) in
    record {
      settings_are = refl;
      corners = record { count = refl; xs_held = front; ys_held = front; pitches_held = front };
      used_long = length-replicate {A = Bool} corner_limit false;
      second_used_long = length-replicate {A = Bool} corner_limit false;
      labels = no_labels;
      patched = refl;
      second = no_second;
      shades = no_shades;
      role = refl;
      passes = record { count = refl; words_held = holds_none all_pass_words 0 };
      box = nothing_found;
    }
