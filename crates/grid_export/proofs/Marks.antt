-- The mark of a lent label box: one other than 0 or 1 is 3 behind 7 and 2, and what a call that is done leaves is the right box for the next.
-- Assumes nothing.
use Rattle.std.specs.Prelude.{Bool, true, false, List, ℕ, ℤ, length, Err}
use Rattle.std.proofs.Math.Bool.{or-true}
use mathlib.Core.Path.{◌≡◌, refl, ap}
use native.Mathlib.Omega.{arith}
use Rattle.refusal.specs.declared.Refusal.{Refusal}
use Rattle.labels.specs.Kept.{box_differs, box_kept}
use Rattle.sheet.specs.Corners.{CornerLists}
use Rattle.arguments.specs.Arguments.{Checked, Lent, too_short, over_limit, some_corner_outside, settings_outside, pass_outside, out_of_range, refused_if, checked}
use Rattle.arguments.specs.declared.Pass.{Pass}
use Rattle.arguments.specs.declared.Settings.{Settings}
use Rattle.passes.specs.Outcome.{After, Outcome, refused, done}
use Rattle.passes.specs.Step.{rooms, lent_of, unless, grow_step, fill_step, local_step}
use Rattle.passes.specs.Run.{renamed, step}
use Rattle.passes.specs.declared.PassStats.{PassStats}
use Rattle.grid_words.specs.Around.{box_told}
use Rattle.grid_words.proofs.Told.{told_back, strange_differs}
use Rattle.grid_words.proofs.Frames.{not_0}
use Rattle.grid_export.specs.Passes.{PassLeft, pass_left, lent_short, pass_unless, step_exported, pass_exported, StrangeMarkIs3, LeftAsHanded}

-- ---- the third of three tests refuses, unless an earlier one does

third : (a b c : Bool) (r s t : Refusal) (rest : Checked) → c ≡ true
    → (refused_if a r (refused_if b s (refused_if c t rest)) ≡ Err r → ⊥)
    → (refused_if a r (refused_if b s (refused_if c t rest)) ≡ Err s → ⊥)
    → refused_if a r (refused_if b s (refused_if c t rest)) ≡ Err t
third true b c r s t rest e first second = absurd (first refl)
third false true c r s t rest e first second = absurd (second refl)
third false false c r s t rest e first second = rw e refl

-- so do the checks of a call whose box differs from the sheet
module _ (l : Lent) (set : Settings) (p : Pass) (differs : box_differs l.around l.sheet ≡ true) where
  outside : out_of_range l set p ≡ true
  unfolding out_of_range
  outside = rw (differs, or-true (pass_outside p), or-true (settings_outside set), or-true (some_corner_outside l.corners l.shades)) refl

  three : (checked l set p ≡ Err Refusal.BufferTooShort → ⊥) → (checked l set p ≡ Err Refusal.OverLimit → ⊥) → checked l set p ≡ Err Refusal.OutOfRange
  unfolding checked
  three = third (too_short l p) (over_limit l) (out_of_range l set p) _ _ _ _ outside

-- ---- what the call leaves

module _ (sheet : List ℕ) (around : List ℤ) (queue attached out : List ℕ) where
  abbrev left : Bool → Outcome PassStats → PassLeft
  left short o = pass_unless short o sheet around queue attached out

  -- 3, unless 7 or 2
  abbrev Is3 : PassLeft → Type 0
  Is3 w = (w.answer ≡ 7 → ⊥) → (w.answer ≡ 2 → ⊥) → w ≡ pass_left 3 sheet around queue attached out

  checked_3 : {A : Type 0} (f : A → PassStats) (a : After A) (k : Checked)
      → ((k ≡ Err Refusal.BufferTooShort → ⊥) → (k ≡ Err Refusal.OverLimit → ⊥) → k ≡ Err Refusal.OutOfRange) → Is3 (left false (renamed f (unless k a)))
  checked_3 f a k third seven two =
      ap (λ k. left false (renamed f (unless k a)))
      (third (λ e. seven (ap (λ k. (left false (renamed f (unless k a))).answer) e)) (λ e. two (ap (λ k. (left false (renamed f (unless k a))).answer) e)))

  short_3 : (short : Bool) (o : Outcome PassStats) → Is3 (left false o) → Is3 (left short o)
  short_3 true o h seven two = absurd (seven refl)
  short_3 false o h seven two = h seven two

  -- the places of a call that is done
  done_left : (short : Bool) (o : Outcome PassStats) → (left short o).answer ≡ 0 → box_told (left short o).around ≡ box_kept (left short o).sheet
  done_left true o e = absurd (omega arith)
  done_left false (refused r) e = absurd (not_0 r e)
  done_left false (done a) e = told_back (box_kept a.sheet) around

  module _ (l : CornerLists) (shades : List ℕ) (set : Settings) where
    abbrev asked : Lent
    asked = lent_of l shades sheet (box_told around) (rooms (length queue) (length attached))

    step_3 : (p : Pass) → box_differs (box_told around) sheet ≡ true → Is3 (left false (step_exported l shades set p sheet around (length queue) (length attached)))
    unfolding step grow_step fill_step local_step
    step_3 (Pass.Grow p) e = checked_3 PassStats.Grow _ _ (three asked set (Pass.Grow p) e)
    step_3 (Pass.Fill p) e = checked_3 PassStats.Fill _ _ (three asked set (Pass.Fill p) e)
    step_3 (Pass.Local p) e = checked_3 PassStats.Local _ _ (three asked set (Pass.Local p) e)

pub strange_mark : StrangeMarkIs3
unfolding pass_exported
strange_mark l shades set p sheet around queue attached out strange =
    short_3 sheet around queue attached out (lent_short around out) _ (step_3 sheet around queue attached out l shades set p (strange_differs around strange sheet))

pub left_as_handed : LeftAsHanded
unfolding pass_exported
left_as_handed l shades set p sheet around queue attached out = done_left sheet around queue attached out (lent_short around out) _
