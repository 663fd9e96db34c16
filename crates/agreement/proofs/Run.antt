-- The order of the corners decides nothing, over every list of calls: two runs on paired frames agree after every call, if each call that runs
-- has a factor above 1. Assumes nothing.
use Rattle.std.specs.Prelude.{Ok, Err}
use mathlib.Core.Path.{◌≡◌, refl, sym, ap, ap₂, ◌∙◌, subst, subst₂}
use mathlib.Core.Bool.{true, false}
use mathlib.Core.List.{List, [], ◌∷◌}
use Prim.Native.Nat.{ℕ, ◌≤◌}
use native.Mathlib.Omega.{arith}
use lib.ListN.{length}
use lib.Ieee.{lt}
use Rattle.refusal.specs.declared.Refusal.{Refusal}
use Rattle.sheet.specs.Corners.{CornerLists}
use Rattle.sheet.specs.Pairing.{Shuffle, PairedCorners, PairedSheets}
use Rattle.sheet.proofs.Pairing.{given_paired, listed_paired}
use Rattle.labels.specs.Kept.{kept_of}
use Rattle.labels.specs.declared.kept.KeptBox.{KeptBox}
use Rattle.labels.proofs.Pairing.{paired_box, paired_rim, paired_one}
use Rattle.arguments.specs.Shades.{any_shade, corners_of, PairedShades}
use Rattle.arguments.specs.Arguments.{Checked, checked}
use Rattle.arguments.specs.Accepted.{SettingsInside, GrowInside, FillInside, LocalInside, PassInside}
use Rattle.arguments.specs.declared.Settings.{Settings}
use Rattle.arguments.specs.declared.Pass.{Pass}
use Rattle.arguments.specs.declared.GrowParams.{GrowParams}
use Rattle.arguments.specs.declared.FillParams.{FillParams}
use Rattle.arguments.specs.declared.LocalExtensionParams.{LocalExtensionParams}
use Rattle.arguments.proofs.Laws.{accepted}
use Rattle.arguments.proofs.Pairing.{paired_any, checked_alike}
use Rattle.passes.specs.Outcome.{After, Outcome, refused, done}
use Rattle.passes.specs.Grow.{grow_after}
use Rattle.passes.specs.Fill.{fill_after}
use Rattle.passes.specs.Local.{depth_of, unmatched_if, local_after}
use Rattle.passes.specs.Step.{Rooms, lent_of, unless, grow_step, fill_step, local_step}
use Rattle.passes.specs.Run.{Handed, as_left, other, handed, Call, step, sheet_after, run}
use Rattle.passes.specs.declared.PassStats.{PassStats}
use Rattle.invariants.specs.Calls.{Standing, checked_call, answering, after_pass, after_call, lent_shades}
use Rattle.invariants.proofs.Run.{step_as_lem, call_accepted, standing_step, invariants}
use Rattle.invariants.proofs.Unshaded.{byte_nought}
use Rattle.binary32.specs.Numbers.{one}
use Rattle.agreement.specs.Agreement.{RelistedCall, Relisted, no_call, relisted, NoneShaded, SameAfter, SameOutcome, both_refused, both_done, Agree, agree_end, agree_call, factor_of, AboveOne, FactorsAbove, was_refused, ran, Agreement, AgreementUnshaded}
use Rattle.agreement.proofs.Grow.{grow_same}
use Rattle.agreement.proofs.Fill.{fill_same}
use Rattle.agreement.proofs.Local.{local_same}

-- ---- outcomes

answering_same : {n : ℕ} {s : Shuffle n} {A B : Type 0} (f : A → B) {a a' : After A} → SameAfter s a a' → SameAfter s (answering f a) (answering f a')
answering_same f same = record { answer = ap f same.answer; sheet = same.sheet; attached = same.attached; visited = same.visited; box = same.box }

-- a call that is checked alike and, if it runs, does the same
unless_same : {n : ℕ} {s : Shuffle n} {A : Type 0} (k k' : Checked) (a a' : After A) → k' ≡ k → (k ≡ Ok tt → SameAfter s a a') → SameOutcome s (unless k a) (unless k' a')
unless_same {s = s} k k' a a' e same = subst (λ (j : Checked). SameOutcome s (unless k a) (unless j a')) (sym e) (go k same)
  where
    go : (j : Checked) → (j ≡ Ok tt → SameAfter s a a') → SameOutcome s (unless j a) (unless j a')
    go (Ok tt) w = both_done (w refl)
    go (Err r) w = both_refused r

sheets_after : {n : ℕ} {s : Shuffle n} {sheet sheet' : List ℕ} {o o' : Outcome PassStats} → PairedSheets s sheet sheet' → SameOutcome s o o'
    → PairedSheets s (sheet_after sheet o) (sheet_after sheet' o')
sheets_after paired (both_refused r) = paired
sheets_after paired (both_done same) = same.sheet

-- ---- the condition, call by call

refused_done : (r : Refusal) (a : After PassStats) → ◌≡◌ {A = Outcome PassStats} (refused r) (done a) → ⊥
refused_done r a e = let z : ◌≡◌ {A = ℕ} 0 1 = cc in omega arith

above_split : {c : Call} {cs : List Call} {o : Outcome PassStats} {os : List (Outcome PassStats)} → FactorsAbove (c ∷ cs) (o ∷ os)
    → ((a : After PassStats) → o ≡ done a → AboveOne c) × FactorsAbove cs os
above_split (was_refused {r = r} f) = (λ a e. absurd (refused_done r a e), f)
above_split (ran h f) = (λ a e. h, f)

-- ---- one call

-- a relisted call is the call, lent the relisted shades
relisted_is : {n : ℕ} {s : Shuffle n} {c c' : Call} → RelistedCall s c c' → c' ≡ lent_shades c'.shades c
relisted_is {c' = c'} w = λ t. record { pass = w.same_pass t; settings = w.same_settings t; shades = c'.shades; around = w.same_box t; rooms = w.same_rooms t }

module _ (l l' : CornerLists) (corners : PairedCorners l l') (sheet sheet' : List ℕ)
    (paired : PairedSheets corners.pairs sheet sheet') (begins : Standing l sheet) where
  -- the box that is handed is the same: that which the last call left, since the sheets are paired, or any other
  handed_same : (h : Handed) → handed sheet' h ≡ handed sheet h
  handed_same as_left = ap kept_of (paired_box paired)
  handed_same (other k) = refl

  module _ (shades shades' : List ℕ) (kinds : PairedShades corners.pairs shades shades') where
    -- the same is said of what was passed over: one stands in both or in neither
    unmatched_same : length l.xs ≤ length shades → {m m' : ℕ} → m' ≡ m → unmatched_if (any_shade shades' (length l'.xs)) m' ≡ unmatched_if (any_shade shades (length l.xs)) m
    unmatched_same long e =
        ap₂ unmatched_if (ap (any_shade shades') corners.same_xs ∙ paired_any corners.pairs kinds long) e

    -- refused alike, with equal boxes
    pub checked_same : (around around' : KeptBox) → around' ≡ around → (set : Settings) (rooms : Rooms) (pass : Pass)
        → checked (lent_of l' shades' sheet' around' rooms) set pass ≡ checked (lent_of l shades sheet around rooms) set pass
    checked_same around around' box set rooms pass =
        checked_alike (lent_of l shades sheet around rooms) (lent_of l' shades' sheet' around' rooms) set pass corners kinds paired box refl refl (record { known = begins.given.known }) begins.one_cell

    -- what each pass does
    module _ (long : length l.xs ≤ length shades) (few : length l.xs ≤ 1024) (set : Settings) (inside : SettingsInside set) where
      grow_after_same : (p : GrowParams) → GrowInside p → lt one p.attach_ambiguity_factor ≡ true
          → SameAfter corners.pairs (grow_after (corners_of l shades) set p sheet) (grow_after (corners_of l' shades') set p sheet')
      unfolding grow_after
      grow_after_same p numbers above =
          let same = grow_same l l' corners shades shades' kinds long few set p inside numbers above sheet begins sheet' paired in
          record {
            answer = λ t. record { counts = same.counts t; rim = paired_rim same.sheet 1 t };
            sheet = same.sheet;
            attached = same.made;
            visited = same.queued;
            box = ap kept_of (paired_box same.sheet);
          }

      fill_after_same : (p : FillParams) → FillInside p → lt one p.attach_ambiguity_factor ≡ true
          → SameAfter corners.pairs (fill_after (corners_of l shades) set p sheet) (fill_after (corners_of l' shades') set p sheet')
      unfolding fill_after
      fill_after_same p numbers above =
          let same = fill_same l l' corners shades shades' kinds long few set p inside numbers above sheet begins sheet' paired in
          record {
            answer = λ t. record { added = length (same.state.made t); iterations = same.rounds t; rim = paired_rim same.state.sheet 1 t };
            sheet = same.state.sheet;
            attached = same.state.made;
            visited = refl;
            box = ap kept_of (paired_box same.state.sheet);
          }

      local_after_same : (p : LocalExtensionParams) → LocalInside p → lt one p.ambiguity_factor ≡ true
          → SameAfter corners.pairs (local_after (corners_of l shades) set p sheet) (local_after (corners_of l' shades') set p sheet')
      unfolding local_after
      local_after_same p numbers above =
          let same = local_same l l' corners shades shades' kinds long few set p inside numbers above sheet begins sheet' paired in
          record {
            answer = λ t. record {
              counts = same.state.counts t;
              iterations = same.rounds t;
              residual = same.state.largest t;
              rim = paired_rim same.state.sheet (depth_of p) t;
              unmatched = unmatched_same long same.state.unmatched t;
            };
            sheet = same.state.sheet;
            attached = same.state.made;
            visited = refl;
            box = ap kept_of (paired_box same.state.sheet);
          }

      pass_same : (p : Pass) → PassInside p → lt one (factor_of p) ≡ true → SameAfter corners.pairs (after_pass l shades sheet set p) (after_pass l' shades' sheet' set p)
      pass_same (Pass.Grow p) numbers above = answering_same PassStats.Grow (grow_after_same p numbers above)
      pass_same (Pass.Fill p) numbers above = answering_same PassStats.Fill (fill_after_same p numbers above)
      pass_same (Pass.Local p) numbers above = answering_same PassStats.Local (local_after_same p numbers above)

    -- the calls of grow, of fill and of local, as their contracts have them
    pub grow_step_same : (around around' : KeptBox) → around' ≡ around → (set : Settings) (p : GrowParams) (rooms : Rooms) → lt one p.attach_ambiguity_factor ≡ true
        → SameOutcome corners.pairs (grow_step l shades sheet around set p rooms) (grow_step l' shades' sheet' around' set p rooms)
    unfolding grow_step
    grow_step_same around around' box set p rooms above =
        unless_same _ _ _ _ (checked_same around around' box set rooms (Pass.Grow p))
        (λ e. let w = accepted (lent_of l shades sheet around rooms) set (Pass.Grow p) e in grow_after_same w.shades_long w.few set w.settings_inside p w.pass_inside above)

    pub fill_step_same : (around around' : KeptBox) → around' ≡ around → (set : Settings) (p : FillParams) (rooms : Rooms) → lt one p.attach_ambiguity_factor ≡ true
        → SameOutcome corners.pairs (fill_step l shades sheet around set p rooms) (fill_step l' shades' sheet' around' set p rooms)
    unfolding fill_step
    fill_step_same around around' box set p rooms above =
        unless_same _ _ _ _ (checked_same around around' box set rooms (Pass.Fill p))
        (λ e. let w = accepted (lent_of l shades sheet around rooms) set (Pass.Fill p) e in fill_after_same w.shades_long w.few set w.settings_inside p w.pass_inside above)

    pub local_step_same : (around around' : KeptBox) → around' ≡ around → (set : Settings) (p : LocalExtensionParams) (rooms : Rooms) → lt one p.ambiguity_factor ≡ true
        → SameOutcome corners.pairs (local_step l shades sheet around set p rooms) (local_step l' shades' sheet' around' set p rooms)
    unfolding local_step
    local_step_same around around' box set p rooms above =
        unless_same _ _ _ _ (checked_same around around' box set rooms (Pass.Local p))
        (λ e. let w = accepted (lent_of l shades sheet around rooms) set (Pass.Local p) e in local_after_same w.shades_long w.few set w.settings_inside p w.pass_inside above)

  -- any call and the relisted one, if it has a factor above 1 where it runs
  pub step_same : (c c' : Call) → RelistedCall corners.pairs c c' → ((a : After PassStats) → step l sheet c ≡ done a → AboveOne c)
      → SameOutcome corners.pairs (step l sheet c) (step l' sheet' c')
  step_same c c' w above =
      subst (λ (d : Call). SameOutcome corners.pairs (step l sheet c) (step l' sheet' d)) (sym (relisted_is w))
      (subst₂ (SameOutcome corners.pairs) (sym (step_as_lem l sheet c)) (sym (step_as_lem l' sheet' d'))
      (unless_same (checked_call l sheet c) (checked_call l' sheet' d') (after_call l sheet c) (after_call l' sheet' d')
      (checked_same c.shades c'.shades w.shades (handed sheet c.around) (handed sheet' c.around) (handed_same c.around) c.settings c.rooms c.pass)
      (λ e.
      let k = call_accepted l sheet c e in
      let runs : step l sheet c ≡ done (after_call l sheet c) = step_as_lem l sheet c ∙ ap (λ (k : Checked). unless k (after_call l sheet c)) e in
      pass_same c.shades c'.shades w.shades k.shades_long k.few c.settings k.settings_inside c.pass k.pass_inside (above (after_call l sheet c) runs))))
    where
      d' : Call
      d' = lent_shades c'.shades c

  -- the second frame's corners and sheet belong together too
  pub standing_paired : Standing l' sheet'
  standing_paired = record { listed = listed_paired corners begins.listed; given = given_paired corners paired begins.given; one_cell = paired_one paired begins.given.known begins.one_cell }

-- ---- a list of calls

pub run_same : (l l' : CornerLists) (corners : PairedCorners l l') (sheet sheet' : List ℕ)
    → PairedSheets corners.pairs sheet sheet' → Standing l sheet → (calls calls' : List Call) → Relisted corners.pairs calls calls' → FactorsAbove calls (run l sheet calls)
    → Agree corners.pairs sheet sheet' (run l sheet calls) (run l' sheet' calls')
unfolding run
run_same l l' corners sheet sheet' paired begins calls calls' no_call f = agree_end paired
run_same l l' corners sheet sheet' paired begins calls calls' (relisted {c} {c'} {cs} {cs'} w ws) f =
    let a = above_split f in
    let same = step_same l l' corners sheet sheet' paired begins c c' w a.0 in
    agree_call paired same
    (run_same l l' corners (sheet_after sheet (step l sheet c)) (sheet_after sheet' (step l' sheet' c')) (sheets_after paired same) (standing_step l sheet begins c) cs cs' ws a.1)

-- the claim, whole
pub agreement : Agreement
agreement l l' given given' frames calls calls' w =
    record {
      first_run = invariants l given frames.standing calls;
      second_run = invariants l' given' (standing_paired l l' frames.corners given given' frames.labels frames.standing) calls';
      agree = run_same l l' frames.corners given given' frames.labels frames.standing calls calls' w;
    }

-- ---- no shade lent

-- every byte is 0, so a list is its own relisting
pub paired_unshaded : {n : ℕ} (s : Shuffle n) (shades : List ℕ) → any_shade shades n ≡ false → PairedShades s shades shades
paired_unshaded {n} s shades e = record { same_length = refl; same_shade = λ long i h. byte_nought shades n e (s.to i) (s.to_in i h) ∙ sym (byte_nought shades n e i h) }

pub relisted_unshaded : {n : ℕ} (s : Shuffle n) (calls : List Call) → NoneShaded n calls → Relisted s calls calls
relisted_unshaded s [] w = no_call
relisted_unshaded s (c ∷ cs) w =
    relisted (record { same_pass = refl; same_settings = refl; same_rooms = refl; same_box = refl; shades = paired_unshaded s c.shades w.0 }) (relisted_unshaded s cs w.1)

pub agreement_unshaded : AgreementUnshaded
agreement_unshaded l l' given given' frames calls w = agreement l l' given given' frames calls calls (relisted_unshaded frames.corners.pairs calls w)
