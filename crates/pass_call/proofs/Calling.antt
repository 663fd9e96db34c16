-- What a call leaves, by the pass that it is of; and that what it says is small. Assumes nothing.
use Rattle.std.specs.Prelude.{Ok, Err}
use Rattle.std.specs.Result.{MatchResult, IsOkAnd}
use mathlib.Core.Path.{◌≡◌, refl, sym, ap, subst}
use mathlib.Core.List.{List, []}
use Prim.Native.Nat.{ℕ}
use native.Mathlib.Omega.{arith}
use borrow.Author.Tests.{le-ltb}
use lib.ListN.{length}
use Rattle.sheet.specs.Corners.{CornerLists}
use Rattle.labels.specs.declared.kept.KeptBox.{KeptBox}
use Rattle.arguments.specs.Shades.{corners_of}
use Rattle.arguments.specs.Arguments.{Checked, queue_needed, too_short, over_limit, out_of_range, checked}
use Rattle.arguments.specs.declared.Pass.{Pass}
use Rattle.arguments.specs.declared.Settings.{Settings}
use Rattle.arguments.specs.declared.GrowParams.{GrowParams}
use Rattle.arguments.specs.declared.FillParams.{FillParams}
use Rattle.arguments.specs.declared.LocalExtensionParams.{LocalExtensionParams}
use Rattle.passes.specs.Outcome.{Outcome, refused, done, Answer}
use Rattle.passes.specs.Fill.{fill_after}
use Rattle.passes.specs.Local.{local_after}
use Rattle.passes.specs.Step.{lent_of, rooms, unless, grow_step, GrowOut, grow_out, grow_leaves, fill_step, FillOut, fill_out, fill_leaves, local_step, LocalOut, local_out, local_leaves}
use Rattle.passes.specs.Run.{Call, other, renamed, step}
use Rattle.passes.specs.declared.PassStats.{PassStats}
use Rattle.passes.specs.declared.GrowStats.{GrowStats}
use Rattle.passes.specs.declared.LocalStats.{LocalStats}
use Rattle.passes.specs.declared.FillStats.{FillStats}
use Rattle.invariants.specs.Calls.{checked_call, after_call}
use Rattle.invariants.proofs.Run.{step_as_lem, call_accepted}
use Rattle.count_bounds.proofs.Small.{small}
use Rattle.pass_call.specs.Call.{call_of, answered, PassOut, pass_out, pass_leaves, SmallAnswer}

-- fill and local are lent no queue: how long one is changes nothing
no_queue : (l : CornerLists) (shades sheet : List ℕ) (around : KeptBox) (queue attached : ℕ) (set : Settings) (p : Pass) → ((n : ℕ) → queue_needed p n ≡ 0)
    → checked (lent_of l shades sheet around (rooms queue attached)) set p ≡ checked (lent_of l shades sheet around (rooms 0 attached)) set p
unfolding checked too_short over_limit out_of_range
no_queue l shades sheet around queue attached set p none = rw (none (length l.xs), le-ltb queue 0 (omega arith)) refl

-- an answer as an answer of any of the three
pub mapped : {A : Type 0} (f : A → PassStats) (a : Answer (A × KeptBox)) (r : Answer (PassStats × KeptBox)) (told : A × KeptBox → PassStats × KeptBox → Type 0)
    → ((x : A × KeptBox) (y : PassStats × KeptBox) → told x y → y ≡ (f x.0, x.1))
    → MatchResult a (λ x. IsOkAnd r (told x)) (λ e. r ≡ Err e) → r ≡ answered f a
mapped f (Ok s) (Ok y) told k h = ap Ok (k s y h)
mapped f (Ok s) (Err e) told k h = absurd h
mapped f (Err e) r told k h = h

-- ---- what it leaves

module _ (l : CornerLists) (set : Settings) (shades sheet : List ℕ) (around : KeptBox) (queue attached sheet' attached' : List ℕ) (pass : Pass) (r : Answer (PassStats × KeptBox)) where
  pub grow_left_lem : (p : GrowParams) → pass ≡ Pass.Grow p → (queue' : List ℕ) (answer : Answer (GrowStats × KeptBox)) → r ≡ answered PassStats.Grow answer
      → grow_out answer sheet' queue' attached' ≡ grow_leaves (grow_step l shades sheet around set p (rooms (length queue) (length attached))) sheet queue attached
      → pass_out r sheet' queue' attached' ≡ pass_leaves (step l sheet (call_of set shades (other around) (length queue) (length attached) pass)) sheet queue attached
  unfolding step
  grow_left_lem p t queue' answer q e = rw (t, q) (go (grow_step l shades sheet around set p (rooms (length queue) (length attached))) e)
    where
      told : GrowOut → PassOut
      told o = pass_out (answered PassStats.Grow o.answer) o.sheet o.queue o.attached

      go : (o : Outcome GrowStats) → grow_out answer sheet' queue' attached' ≡ grow_leaves o sheet queue attached
          → pass_out (answered PassStats.Grow answer) sheet' queue' attached' ≡ pass_leaves (renamed PassStats.Grow o) sheet queue attached
      go (refused s) w = ap told w
      go (done a) w = ap told w

-- and they visit no cells
fill_visits_none : (l : CornerLists) (set : Settings) (p : FillParams) (shades sheet : List ℕ) → (fill_after (corners_of l shades) set p sheet).visited ≡ []
unfolding fill_after
fill_visits_none l set p shades sheet = refl

local_visits_none : (l : CornerLists) (set : Settings) (p : LocalExtensionParams) (shades sheet : List ℕ) → (local_after (corners_of l shades) set p sheet).visited ≡ []
unfolding local_after
local_visits_none l set p shades sheet = refl

-- so how long a queue is changes nothing, and it stays as it was
module _ (l : CornerLists) (set : Settings) (shades sheet : List ℕ) (around : KeptBox) (queue attached sheet' attached' : List ℕ) (pass : Pass) (r : Answer (PassStats × KeptBox)) where
  pub fill_left_lem : (p : FillParams) → pass ≡ Pass.Fill p → (answer : Answer (FillStats × KeptBox)) → r ≡ answered PassStats.Fill answer
      → fill_out answer sheet' attached' ≡ fill_leaves (fill_step l shades sheet around set p (rooms 0 (length attached))) sheet attached
      → pass_out r sheet' queue attached' ≡ pass_leaves (step l sheet (call_of set shades (other around) (length queue) (length attached) pass)) sheet queue attached
  unfolding step fill_step queue_needed
  fill_left_lem p t answer q e =
      rw (t, q, no_queue l shades sheet around (length queue) (length attached) set (Pass.Fill p) (λ n. refl)) (go (checked (lent_of l shades sheet around (rooms 0 (length attached))) set (Pass.Fill p)) e)
    where
      told : FillOut → PassOut
      told o = pass_out (answered PassStats.Fill o.answer) o.sheet queue o.attached

      go : (k : Checked) → fill_out answer sheet' attached' ≡ fill_leaves (unless k (fill_after (corners_of l shades) set p sheet)) sheet attached
          → pass_out (answered PassStats.Fill answer) sheet' queue attached'
          ≡ pass_leaves (renamed PassStats.Fill (unless k (fill_after (corners_of l shades) set p sheet))) sheet queue attached
      go (Err s) w = ap told w
      go (Ok tt) w = rw (fill_visits_none l set p shades sheet) (ap told w)

  pub local_left_lem : (p : LocalExtensionParams) → pass ≡ Pass.Local p → (answer : Answer (LocalStats × KeptBox)) → r ≡ answered PassStats.Local answer
      → local_out answer sheet' attached' ≡ local_leaves (local_step l shades sheet around set p (rooms 0 (length attached))) sheet attached
      → pass_out r sheet' queue attached' ≡ pass_leaves (step l sheet (call_of set shades (other around) (length queue) (length attached) pass)) sheet queue attached
  unfolding step local_step queue_needed
  local_left_lem p t answer q e =
      rw (t, q, no_queue l shades sheet around (length queue) (length attached) set (Pass.Local p) (λ n. refl)) (go (checked (lent_of l shades sheet around (rooms 0 (length attached))) set (Pass.Local p)) e)
    where
      told : LocalOut → PassOut
      told o = pass_out (answered PassStats.Local o.answer) o.sheet queue o.attached

      go : (k : Checked) → local_out answer sheet' attached' ≡ local_leaves (unless k (local_after (corners_of l shades) set p sheet)) sheet attached
          → pass_out (answered PassStats.Local answer) sheet' queue attached'
          ≡ pass_leaves (renamed PassStats.Local (unless k (local_after (corners_of l shades) set p sheet))) sheet queue attached
      go (Err s) w = ap told w
      go (Ok tt) w = rw (local_visits_none l set p shades sheet) (ap told w)

-- ---- what it says is small

pub call_small : (l : CornerLists) (sheet : List ℕ) (c : Call) (queue attached : List ℕ) → SmallAnswer (pass_leaves (step l sheet c) sheet queue attached).answer
call_small l sheet c queue attached = rw (step_as_lem l sheet c) (go (checked_call l sheet c) refl)
  where
    go : (k : Checked) → checked_call l sheet c ≡ k → SmallAnswer (pass_leaves (unless k (after_call l sheet c)) sheet queue attached).answer
    go (Err r) e = tt
    go (Ok tt) e = small l sheet c (call_accepted l sheet c e)

pub answer_small : (l : CornerLists) (sheet : List ℕ) (c : Call) (queue attached sheet' queue' attached' : List ℕ) (r : Answer (PassStats × KeptBox))
    → pass_out r sheet' queue' attached' ≡ pass_leaves (step l sheet c) sheet queue attached → SmallAnswer r
answer_small l sheet c queue attached sheet' queue' attached' r e =
    subst SmallAnswer (sym (ap (λ (o : PassOut). o.answer) e)) (call_small l sheet c queue attached)

-- both promises of a call at once
pub both : (l : CornerLists) (sheet : List ℕ) (c : Call) (queue attached sheet' queue' attached' : List ℕ) (r : Answer (PassStats × KeptBox))
    → pass_out r sheet' queue' attached' ≡ pass_leaves (step l sheet c) sheet queue attached
    → (pass_out r sheet' queue' attached' ≡ pass_leaves (step l sheet c) sheet queue attached) × SmallAnswer r
both l sheet c queue attached sheet' queue' attached' r e = (e, answer_small l sheet c queue attached sheet' queue' attached' r e)
