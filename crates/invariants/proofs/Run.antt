-- Laws of every list of calls, refused ones among them, whatever their factors: after each call the corners and the sheet belong together and
-- no corner holds two cells, the given labels are kept, and each call that ran has its history; so each new corner had an accepted edge to a
-- labelled cardinal neighbour, or no such neighbour, when attached, and each that a call attached to which a shade is lent is of its cell's kind. Only
-- grow sets marks, and only local clears them. A call whose numbers and buffers are right, and which is handed the label box as the last call left
-- it, is not refused in mid-list. Assumes nothing.
use Rattle.std.specs.Prelude.{Ok, Err, None}
use mathlib.Core.Path.{◌≡◌, refl, sym, ap, ◌∙◌, subst}
use mathlib.Core.List.Memᴰ
use mathlib.Core.List.{List, [], ◌∷◌, Memᴰ}
use mathlib.Core.Logic.{inr, ⊎_elim}
use Prim.Native.Nat.{ℕ, ◌<◌, ◌≤◌}
use native.Mathlib.Nat.{not-suc-le-zero}
use lib.ListN.{length}
use Rattle.refusal.specs.declared.Refusal.{Refusal}
use Rattle.sheet.specs.Corners.{CornerLists}
use Rattle.sheet.specs.Cells.{cell_of}
use Rattle.sheet.specs.Words.{label_at}
use Rattle.sheet.specs.declared.Cell.{Cell}
use Rattle.sheet.proofs.Words.{no_corner_lem}
use Rattle.labels.specs.Labelled.{LabelledCell}
use Rattle.labels.specs.Box.{box_of}
use Rattle.labels.specs.Kept.{around_of}
use Rattle.labels.proofs.Keeping.{around_kept}
use Rattle.arguments.specs.Shades.{corners_of}
use Rattle.arguments.specs.Arguments.{Checked, checked}
use Rattle.arguments.specs.Accepted.{BoxRight, Accepted}
use Rattle.arguments.specs.declared.Settings.{Settings}
use Rattle.arguments.proofs.Laws.{accepted, accepted_fine}
use Rattle.arguments.specs.declared.Pass.{Pass}
use Rattle.passes.specs.Outcome.{After, Outcome, refused, done}
use Rattle.passes.specs.Grow.{tolerances_of, grow_after}
use Rattle.passes.specs.Fill.{fill_after}
use Rattle.passes.specs.Local.{local_after}
use Rattle.passes.specs.Step.{unless, grow_step, fill_step, local_step}
use Rattle.passes.specs.Run.{Handed, as_left, handed, Call, renamed, step_as, step, sheet_after, run, sheet_of}
use Rattle.passes.specs.declared.PassStats.{PassStats}
use Rattle.passes.specs.History.{History}
use Rattle.passes.specs.Changes.{NoMarks}
use Rattle.passes.proofs.Changes.{same_marks}
use Rattle.invariants.specs.Kept.{Sound, Kept, Extended, AttachedAt, Histories, before, pass, AttachedInTurn}
use Rattle.invariants.specs.Calls.{Standing, lent_call, checked_call, answering, after_pass, after_call, attached_count, OfItsKind, Ran, Goes, ended, refuses, runs, attached_in, Invariants, CallInside, Accepts, NeverRefused}
use Rattle.invariants.specs.Marks.{MarksStand, NotIn, PassMarks, cleared_by, cleared_in, visited_in, MarksOver}
use Rattle.invariants.proofs.Extended.{still_labelled, extended_marked, extended_then}
use Rattle.invariants.proofs.History.{history_extended, attached_at, histories_then, attached_in_turn}
use Rattle.invariants.proofs.Shading.{taken_kind}
use Rattle.invariants.proofs.Grow.{grow_history}
use Rattle.invariants.proofs.Fill.{fill_history}
use Rattle.invariants.proofs.Local.{local_history}
use Rattle.invariants.proofs.Marks.{stand_same, stood_same, stand_then, none_same, stood_none, fill_marks, local_marks}
use Rattle.invariants.proofs.GrowMarks.{grow_marks, grow_bare}

-- ---- one call

-- a call is refused, or does what its pass does
pub step_as_lem : (l : CornerLists) (sheet : List ℕ) (c : Call) → step l sheet c ≡ unless (checked_call l sheet c) (after_call l sheet c)
unfolding step grow_step fill_step local_step
step_as_lem l sheet c = go c.pass
  where
    under : {A : Type 0} (f : A → PassStats) (k : Checked) (a : After A) → renamed f (unless k a) ≡ unless k (answering f a)
    under f (Ok tt) a = refl
    under f (Err r) a = refl

    go : (p : Pass) → step_as l c.shades sheet (handed sheet c.around) c.settings c.rooms p ≡ unless (checked (lent_call l sheet c) c.settings p) (after_pass l c.shades sheet c.settings p)
    go (Pass.Grow p) = under PassStats.Grow (checked (lent_call l sheet c) c.settings (Pass.Grow p)) (grow_after (corners_of l c.shades) c.settings p sheet)
    go (Pass.Fill p) = under PassStats.Fill (checked (lent_call l sheet c) c.settings (Pass.Fill p)) (fill_after (corners_of l c.shades) c.settings p sheet)
    go (Pass.Local p) = under PassStats.Local (checked (lent_call l sheet c) c.settings (Pass.Local p)) (local_after (corners_of l c.shades) c.settings p sheet)

pub standing_sound : {l : CornerLists} {sheet : List ℕ} → Standing l sheet → Sound (length l.xs) sheet
standing_sound s = record { long = s.given.long; known = record { known = s.given.known }; one_cell = s.one_cell }

-- a sheet that still belongs to the corners
pub sound_standing : {l : CornerLists} {sheet after : List ℕ} → Standing l sheet → Sound (length l.xs) after → Standing l after
sound_standing s a =
    record { listed = s.listed; given = record { long = a.long; known = a.known.known }; one_cell = a.one_cell }

-- what each pass does to the labels, and that it counts its new cells
module _ (l : CornerLists) (shades sheet : List ℕ) (set : Settings) (few : length l.xs ≤ 1024) (s : Sound (length l.xs) sheet) where
  pass_history : (p : Pass) → History (corners_of l shades) (tolerances_of set) sheet (after_pass l shades sheet set p).attached (after_pass l shades sheet set p).sheet
  unfolding grow_after fill_after local_after
  pass_history (Pass.Grow p) = (grow_history set p few s).history
  pass_history (Pass.Fill p) = fill_history few s set p
  pass_history (Pass.Local p) = (local_history few s set p).history

  pass_counted : (p : Pass) → attached_count (after_pass l shades sheet set p).answer ≡ length (after_pass l shades sheet set p).attached
  unfolding grow_after fill_after local_after
  pass_counted (Pass.Grow p) = (grow_history set p few s).counted
  pass_counted (Pass.Fill p) = refl
  pass_counted (Pass.Local p) = (local_history few s set p).counted

  -- what each pass does to the marks
  pass_marks : (p : Pass) → PassMarks p sheet (after_pass l shades sheet set p)
  unfolding grow_after fill_after local_after
  pass_marks (Pass.Grow p) = grow_marks (corners_of l shades) set p sheet (record { long = s.long; few = few; known = s.known.known; one_cell = s.one_cell })
  pass_marks (Pass.Fill p) = fill_marks (corners_of l shades) few sheet set p s.long
  pass_marks (Pass.Local p) = local_marks (corners_of l shades) few sheet set p s.long

-- the box that is handed as the last call left it is what a search of the sheet finds
pub left_right : (l : CornerLists) (sheet : List ℕ) (c : Call) → c.around ≡ as_left → BoxRight (lent_call l sheet c)
left_right l sheet c e = ap (λ (h : Handed). around_of (handed sheet h)) e ∙ around_kept (box_of sheet)

-- a call that is not refused
pub call_accepted : (l : CornerLists) (sheet : List ℕ) (c : Call) → checked_call l sheet c ≡ Ok tt → Accepted (lent_call l sheet c) c.settings c.pass
call_accepted l sheet c e = accepted (lent_call l sheet c) c.settings c.pass e

-- each new corner is of its cell's kind, where a shade is lent
of_its_kind : (l : CornerLists) (c : Call) (sheet : List ℕ) (a : After PassStats) (n : ℕ)
    → AttachedAt (corners_of l c.shades) (tolerances_of c.settings) sheet a.attached a.sheet n → OfItsKind l c a n
of_its_kind l c sheet a n w =
    let t = w.attachment in
    record {
      corner = t.corner;
      given = t.attaches.given;
      holds = t.holds;
      of_kind = λ any. taken_kind c.shades (length l.xs) _ t.corner t.attaches.given any t.attaches.taken;
    }

pub call_ran : (l : CornerLists) (sheet : List ℕ) (c : Call) → Accepted (lent_call l sheet c) c.settings c.pass → Ran l c sheet (after_call l sheet c)
call_ran l sheet c w =
    let s = standing_sound {l = l} (record { listed = w.listed; given = w.given; one_cell = w.one_cell }) in
    let h = pass_history l c.shades sheet c.settings w.few s c.pass in
    record {
      history = h;
      extended = history_extended w.few s h;
      each = attached_at w.few s h;
      kinds = λ n below. of_its_kind l c sheet _ n (attached_at w.few s h n below);
      counted = pass_counted l c.shades sheet c.settings w.few s c.pass;
      marks = pass_marks l c.shades sheet c.settings w.few s c.pass;
    }

-- a call's outcome: refused, or it was accepted and ran
pub data Outcomes (l : CornerLists) (sheet : List ℕ) (c : Call) : Outcome PassStats → Type 0 where
  was_refused : (r : Refusal) → Outcomes l sheet c (refused r)
  ran : (a : After PassStats) → Accepted (lent_call l sheet c) c.settings c.pass → Ran l c sheet a → Outcomes l sheet c (done a)

pub outcomes : (l : CornerLists) (sheet : List ℕ) (c : Call) → Outcomes l sheet c (step l sheet c)
outcomes l sheet c = subst (Outcomes l sheet c) (sym (step_as_lem l sheet c)) (go (checked_call l sheet c) refl)
  where
    go : (k : Checked) → checked_call l sheet c ≡ k → Outcomes l sheet c (unless k (after_call l sheet c))
    go (Ok tt) e = let w = call_accepted l sheet c e in ran _ w (call_ran l sheet c w)
    go (Err r) e = was_refused r

-- ---- the marks over one call

module _ {l : CornerLists} {c : Call} {sheet : List ℕ} {a : After PassStats} (r : Ran l c sheet a) where
  -- marks that the call did not clear stand
  call_stand : (d : Cell) → NotIn (cleared_by c.pass a) d → MarksStand sheet a.sheet d
  call_stand d n = go c.pass r.marks n
    where
      go : (p : Pass) → PassMarks p sheet a → NotIn (cleared_by p a) d → MarksStand sheet a.sheet d
      go (Pass.Grow p) m n = m.stand d
      go (Pass.Fill p) m n = stand_same (m d)
      go (Pass.Local p) m n = stand_same (m.others d n)

  -- marks are new at visited cells only
  call_new : (d : Cell) → NotIn a.visited d → MarksStand a.sheet sheet d
  call_new d n = go c.pass r.marks
    where
      go : (p : Pass) → PassMarks p sheet a → MarksStand a.sheet sheet d
      go (Pass.Grow p) m = stood_same (m.others d n)
      go (Pass.Fill p) m = stood_same (m d)
      go (Pass.Local p) m = m.none_new d

  -- a cell whose marks were cleared has none, and is labelled
  call_cleared : (p : ℕ) → Memᴰ p (cleared_by c.pass a) → LabelledCell a.sheet (cell_of p) × NoMarks a.sheet (cell_of p)
  call_cleared p m = go c.pass r.marks m
    where
      go : (q : Pass) → PassMarks q sheet a → Memᴰ p (cleared_by q a) → LabelledCell a.sheet (cell_of p) × NoMarks a.sheet (cell_of p)
      go (Pass.Grow q) w m = absurd (Memᴰ.not-nil m)
      go (Pass.Fill q) w m = absurd (Memᴰ.not-nil m)
      go (Pass.Local q) w m = ((r.extended.labelled p (r.extended.on p m)).1 (inr m), w.cleared p m)

  -- a labelled cell without marks gets none
  call_unmarked : (d : Cell) → LabelledCell sheet d → NoMarks sheet d → NoMarks a.sheet d
  call_unmarked d b n = go c.pass r.marks
    where
      apart : (ps : List ℕ) → ((p : ℕ) → Memᴰ p ps → label_at sheet (cell_of p) ≡ None) → NotIn ps d
      apart ps bare p m e = no_corner_lem b.corner (sym (bare p m) ∙ ap (label_at sheet) e ∙ b.holds)

      go : (p : Pass) → PassMarks p sheet a → NoMarks a.sheet d
      go (Pass.Grow p) m = none_same (m.others d (apart a.visited (grow_bare m))) n
      go (Pass.Fill p) m = none_same (m d) n
      go (Pass.Local p) m = none_same (m.others d (apart a.attached r.extended.bare)) n

-- ---- a list of calls

-- after each call the sheet and the corners belong together, no corner holds two cells, the given labels are kept, and the call has its history
pub goes : (l : CornerLists) (given sheet : List ℕ) → Standing l sheet → Kept given sheet → (cs : List Call) → Goes l given sheet cs (run l sheet cs)
unfolding run
goes l given sheet s k [] = ended
goes l given sheet s k (c ∷ cs) = go (step l sheet c) (outcomes l sheet c) (λ after t m. goes l given after t m cs)
  where
    go : (o : Outcome PassStats) → Outcomes l sheet c o → ((after : List ℕ) → Standing l after → Kept given after → Goes l given after cs (run l after cs))
        → Goes l given sheet (c ∷ cs) (o ∷ run l (sheet_after sheet o) cs)
    go o (was_refused r) w = refuses c r (w sheet s k)
    go o (ran a b d) w =
        let t = sound_standing s d.extended.sound in
        let m : Kept given a.sheet = record { kept = λ x j e. d.extended.kept.kept x j (k.kept x j e) } in
        runs c a d t m (w a.sheet t m)

module _ (l : CornerLists) where
  -- the corners and the sheet belong together after a call, and after any list of calls
  pub standing_step : (sheet : List ℕ) → Standing l sheet → (c : Call) → Standing l (sheet_after sheet (step l sheet c))
  standing_step sheet s c = go (step l sheet c) (outcomes l sheet c)
    where
      go : (o : Outcome PassStats) → Outcomes l sheet c o → Standing l (sheet_after sheet o)
      go o (was_refused r) = s
      go o (ran a b d) = sound_standing s d.extended.sound

  pub standing_after_lem : (sheet : List ℕ) → Standing l sheet → (cs : List Call) → Standing l (sheet_of l sheet cs)
  unfolding sheet_of
  standing_after_lem sheet s [] = s
  standing_after_lem sheet s (c ∷ cs) = standing_after_lem (sheet_after sheet (step l sheet c)) (standing_step sheet s c) cs

  -- all that happened to the labels, from the given ones on
  pub run_histories : (sheet : List ℕ) (cs : List Call) → Histories l sheet (attached_in (run l sheet cs)) (sheet_of l sheet cs)
  unfolding run sheet_of attached_in
  run_histories sheet [] = before
  run_histories sheet (c ∷ cs) = go (step l sheet c) (outcomes l sheet c) (λ after. run_histories after cs)
    where
      go : (o : Outcome PassStats) → Outcomes l sheet c o → ((after : List ℕ) → Histories l after (attached_in (run l after cs)) (sheet_of l after cs))
          → Histories l sheet (attached_in (o ∷ run l (sheet_after sheet o) cs)) (sheet_of l (sheet_after sheet o) cs)
      go o (was_refused r) w = w sheet
      go o (ran a b d) w = histories_then (pass c.shades (tolerances_of c.settings) before d.history) (w a.sheet)

  -- the labelled cells after a list of calls are the given ones and all new ones
  pub run_extended : (sheet : List ℕ) → Standing l sheet → (cs : List Call) → Extended (length l.xs) sheet (attached_in (run l sheet cs)) (sheet_of l sheet cs)
  unfolding run sheet_of attached_in
  run_extended sheet s [] = extended_marked (standing_sound s) refl (record { same_label = λ p h. refl })
  run_extended sheet s (c ∷ cs) = go (step l sheet c) (outcomes l sheet c) (λ after t. run_extended after t cs)
    where
      go : (o : Outcome PassStats) → Outcomes l sheet c o
          → ((after : List ℕ) → Standing l after → Extended (length l.xs) after (attached_in (run l after cs)) (sheet_of l after cs))
          → Extended (length l.xs) sheet (attached_in (o ∷ run l (sheet_after sheet o) cs)) (sheet_of l (sheet_after sheet o) cs)
      go o (was_refused r) w = w sheet s
      go o (ran a b d) w = extended_then d.extended (w a.sheet (sound_standing s d.extended.sound))

  -- where there is a new cell, a call was accepted, so there are at most 1,024 corners
  few_corners : (sheet : List ℕ) (cs : List Call) (n : ℕ) → n < length (attached_in (run l sheet cs)) → length l.xs ≤ 1024
  unfolding run attached_in
  few_corners sheet [] n h = absurd (not-suc-le-zero h)
  few_corners sheet (c ∷ cs) n h = go (step l sheet c) (outcomes l sheet c) (λ after k. few_corners after cs n k) h
    where
      go : (o : Outcome PassStats) → Outcomes l sheet c o → ((after : List ℕ) → n < length (attached_in (run l after cs)) → length l.xs ≤ 1024)
          → n < length (attached_in (o ∷ run l (sheet_after sheet o) cs)) → length l.xs ≤ 1024
      go o (was_refused r) w k = w sheet k
      go o (ran a b d) w k = b.few

  -- each new corner had an accepted edge to a labelled cardinal neighbour, or no such neighbour, when it was attached
  pub run_attached : (sheet : List ℕ) → Standing l sheet → (cs : List Call) (n : ℕ) → n < length (attached_in (run l sheet cs))
      → AttachedInTurn l sheet (attached_in (run l sheet cs)) (sheet_of l sheet cs) n
  run_attached sheet s cs n h = attached_in_turn (few_corners sheet cs n h) (standing_sound s) (run_histories sheet cs) n h

  -- ---- marks

  -- over a list of calls a labelled cell without marks gets none
  run_unmarked : (sheet : List ℕ) (cs : List Call) (d : Cell) → LabelledCell sheet d → NoMarks sheet d → NoMarks (sheet_of l sheet cs) d
  unfolding sheet_of
  run_unmarked sheet [] d b n = n
  run_unmarked sheet (c ∷ cs) d b n = go (step l sheet c) (outcomes l sheet c) (λ after. run_unmarked after cs d)
    where
      go : (o : Outcome PassStats) → Outcomes l sheet c o → ((after : List ℕ) → LabelledCell after d → NoMarks after d → NoMarks (sheet_of l after cs) d)
          → NoMarks (sheet_of l (sheet_after sheet o) cs) d
      go o (was_refused r) w = w sheet b n
      go o (ran a x r) w = w a.sheet (still_labelled r.extended.kept d b) (call_unmarked r d b n)

  -- a mark that is new stands at a visited cell
  run_new : (sheet : List ℕ) (cs : List Call) (d : Cell) → NotIn (visited_in (run l sheet cs)) d → MarksStand (sheet_of l sheet cs) sheet d
  unfolding run sheet_of visited_in
  run_new sheet [] d n = stand_same (same_marks sheet d)
  run_new sheet (c ∷ cs) d n = go (step l sheet c) (outcomes l sheet c) (λ after. run_new after cs d) n
    where
      go : (o : Outcome PassStats) → Outcomes l sheet c o → ((after : List ℕ) → NotIn (visited_in (run l after cs)) d → MarksStand (sheet_of l after cs) after d)
          → NotIn (visited_in (o ∷ run l (sheet_after sheet o) cs)) d → MarksStand (sheet_of l (sheet_after sheet o) cs) sheet d
      go o (was_refused r) w n = w sheet n
      go o (ran a x r) w n = stand_then (w a.sheet (λ p m e. n p (Memᴰ.append_right a.visited m) e)) (call_new r d (λ p m e. n p (Memᴰ.append_left _ m) e))

  -- a mark that no call cleared stands
  run_stand : (sheet : List ℕ) (cs : List Call) (d : Cell) → NotIn (cleared_in cs (run l sheet cs)) d → MarksStand sheet (sheet_of l sheet cs) d
  unfolding run sheet_of cleared_in
  run_stand sheet [] d n = stand_same (same_marks sheet d)
  run_stand sheet (c ∷ cs) d n = go (step l sheet c) (outcomes l sheet c) (λ after. run_stand after cs d) n
    where
      go : (o : Outcome PassStats) → Outcomes l sheet c o → ((after : List ℕ) → NotIn (cleared_in cs (run l after cs)) d → MarksStand after (sheet_of l after cs) d)
          → NotIn (cleared_in (c ∷ cs) (o ∷ run l (sheet_after sheet o) cs)) d → MarksStand sheet (sheet_of l (sheet_after sheet o) cs) d
      go o (was_refused r) w n = w sheet n
      go o (ran a x r) w n =
          stand_then (call_stand r d (λ p m e. n p (Memᴰ.append_left _ m) e)) (w a.sheet (λ p m e. n p (Memᴰ.append_right (cleared_by c.pass a) m) e))

  -- marks that a call cleared are gone
  run_cleared : (sheet : List ℕ) (cs : List Call) (p : ℕ) → Memᴰ p (cleared_in cs (run l sheet cs)) → NoMarks (sheet_of l sheet cs) (cell_of p)
  unfolding run sheet_of cleared_in
  run_cleared sheet [] p m = absurd (Memᴰ.not-nil m)
  run_cleared sheet (c ∷ cs) p m = go (step l sheet c) (outcomes l sheet c) (λ after. run_cleared after cs p) m
    where
      go : (o : Outcome PassStats) → Outcomes l sheet c o → ((after : List ℕ) → Memᴰ p (cleared_in cs (run l after cs)) → NoMarks (sheet_of l after cs) (cell_of p))
          → Memᴰ p (cleared_in (c ∷ cs) (o ∷ run l (sheet_after sheet o) cs)) → NoMarks (sheet_of l (sheet_after sheet o) cs) (cell_of p)
      go o (was_refused r) w m = w sheet m
      go o (ran a x r) w m =
          ⊎_elim (λ b. let k = call_cleared r p b in run_unmarked a.sheet cs (cell_of p) k.0 k.1) (w a.sheet)
          (Memᴰ.append_cases (cleared_by c.pass a) m)

  pub run_marks : (sheet : List ℕ) (cs : List Call) → MarksOver sheet cs (run l sheet cs) (sheet_of l sheet cs)
  run_marks sheet cs =
      record {
        stand = run_stand sheet cs;
        new_visited = run_new sheet cs;
        from_none = λ none d n. stood_none (run_new sheet cs d n) (none d);
        cleared = run_cleared sheet cs;
      }

  -- ---- no refusal in mid-list

  pub fit_accepts : (sheet : List ℕ) (c : Call) → Standing l sheet → CallInside l c → Accepts l sheet c
  fit_accepts sheet c s f = record { done_so = step_as_lem l sheet c ∙ ap (λ (k : Checked). unless k (after_call l sheet c)) (accepted_fine (lent_call l sheet c) c.settings c.pass right) }
    where
      right : Accepted (lent_call l sheet c) c.settings c.pass
      right =
          record {
            queue_long = f.queue_long;
            attached_long = f.attached_long;
            shades_long = f.shades_long;
            few = f.few;
            corners_inside = f.corners_inside;
            shades_inside = f.shades_inside;
            settings_inside = f.settings_inside;
            pass_inside = f.pass_inside;
            box_right = left_right l sheet c f.box_as_left;
            listed = s.listed;
            given = s.given;
            one_cell = s.one_cell;
          }

-- ---- the claims

pub never_refused : NeverRefused
never_refused l sheet s cs c f = fit_accepts l (sheet_of l sheet cs) c (standing_after_lem l sheet s cs) f

pub invariants : Invariants
invariants l given s cs =
    record {
      each_call = goes l given given s (record { kept = λ c k e. e }) cs;
      whole = run_extended l given s cs;
      each_corner = run_attached l given s cs;
      marks = run_marks l given cs;
    }
