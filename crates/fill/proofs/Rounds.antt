-- The rounds of fill, one after the other, and the whole call: refused, or all rounds done. Assumes nothing.
use Rattle.std.specs.Prelude.{Ok, Err}
use mathlib.Core.Path.{◌≡◌, refl, sym, ap, ◌∙◌, subst}
use mathlib.Core.List.{List}
use Prim.Native.Nat.{ℕ, ◌+◌, ◌<◌, ◌≤◌}
use native.Mathlib.Omega.{arith}
use lib.ListN.{length}
use Rattle.sheet.specs.Corners.{Corners, CornerLists}
use Rattle.refusal.specs.declared.Refusal.{Refusal}
use Rattle.labels.specs.Labelled.{label_count}
use Rattle.labels.specs.Kept.{kept_of}
use Rattle.labels.specs.declared.kept.KeptBox.{KeptBox}
use Rattle.arguments.specs.Shades.{corners_of}
use Rattle.arguments.specs.Arguments.{Checked, checked}
use Rattle.arguments.specs.Accepted.{Accepted}
use Rattle.arguments.specs.declared.Pass.{Pass}
use Rattle.arguments.specs.declared.Settings.{Settings}
use Rattle.arguments.specs.declared.FillParams.{FillParams}
use Rattle.arguments.proofs.Laws.{accepted}
use Rattle.passes.specs.Outcome.{done}
use Rattle.passes.specs.Fill.{FillState, FillRounds, fill_pass, fill_round, fill_from, fill_limit, fill_run, fill_after}
use Rattle.passes.specs.Step.{FillOut, fill_step, fill_out, fill_leaves, lent_of, rooms}
use Rattle.passes.specs.Said.{fill_values, fill_said, outcome_due}
use Rattle.passes.proofs.Rounds.{Remaining, remaining_all, remaining_none, remaining_last, remaining_more}
use Rattle.passes.proofs.Said.{fill_said_lem}
use Rattle.passes.specs.declared.FillStats.{FillStats}
use Rattle.fill.specs.Filling.{held, state_of, stats_of, Left, start_of, RoundsLeft}
use Rattle.fill.specs.declared.FillSetup.{FillSetup}
use Rattle.fill.specs.declared.Filling.{Filling}
use Rattle.fill.proofs.Visit.{held_alike, untouched}
use Rattle.fill.proofs.Walk.{left_state, left_then, round_grows}

-- ---- the loop over the rounds

round_alike : {cs cs' : Corners} {set set' : Settings} {p p' : FillParams} (s : FillState) → cs ≡ cs' → set ≡ set' → p ≡ p' → fill_round cs set p s ≡ fill_round cs' set' p' s
round_alike s a b d = cc

-- the same rounds by another expression
rounds_left_as : {before after : Filling} {rounds : ℕ} {r t : FillRounds} → t ≡ r → RoundsLeft before after rounds r → RoundsLeft before after rounds t
rounds_left_as e l = rw e l

pub record Rounding (limit : ℕ) (before now : Filling) (rounds : ℕ) : Type 0 where
  pub remaining : Remaining (fill_pass (held before) before.setup.settings before.setup.params) limit (state_of before) (state_of now) rounds
  pub left : Left before now (state_of now)

module _ (limit : ℕ) (f : Filling) where
  pub rounding_start : Rounding limit f f 0
  rounding_start = record { remaining = remaining_all (fill_pass (held f) f.setup.settings f.setup.params) limit (state_of f); left = untouched f refl }

  module _ {now : Filling} {rounds : ℕ} (g : Rounding limit f now rounds) where
    pub rounding_end : limit ≤ rounds → RoundsLeft f now limit (fill_from (held f) f.setup.settings f.setup.params limit (start_of f))
    unfolding fill_from
    rounding_end h =
        let e : limit ≡ rounds = omega (arith, g.remaining.upto) in
        rounds_left_as (remaining_none (fill_pass (held f) f.setup.settings f.setup.params) limit (state_of f) g.remaining h)
        (record { left = g.left; rounds_are = e })

    module _ {next : Filling} (h : rounds < limit) (l : Left now next (fill_round (held now) now.setup.settings now.setup.params (state_of now))) where
      -- the state after the round, with the list's rest as it was at the start
      whole : Left f next (fill_round (held f) f.setup.settings f.setup.params (state_of now))
      whole =
          let same = g.left.same in
          left_then g.left (round_grows (held f) f.setup.settings f.setup.params (state_of now))
          (subst (λ (s : FillState). Left now next s)
          (round_alike (state_of now) (held_alike same) (ap (λ (x : FillSetup). x.settings) same.same_setup) (ap (λ (x : FillSetup). x.params) same.same_setup)) l)

      pub rounding_last : next.made ≡ now.made → RoundsLeft f next (rounds + 1) (fill_from (held f) f.setup.settings f.setup.params limit (start_of f))
      unfolding fill_from
      rounding_last e =
          rounds_left_as
          (remaining_last (fill_pass (held f) f.setup.settings f.setup.params) limit (state_of f)
          g.remaining h (sym whole.made_is ∙ e ∙ g.left.made_is))
          (record { left = whole; rounds_are = refl })

      pub rounding_more : (next.made ≡ now.made → ⊥) → Rounding limit f next (rounds + 1)
      unfolding fill_round
      rounding_more e =
          record {
            remaining =
                subst (λ (s : FillState). Remaining (fill_pass (held f) f.setup.settings f.setup.params) limit (state_of f) s (rounds + 1))
                (sym (left_state whole))
                (remaining_more (fill_pass (held f) f.setup.settings f.setup.params) limit (state_of f)
                g.remaining h (λ d. e (whole.made_is ∙ d ∙ sym g.left.made_is)));
            left = subst (λ (s : FillState). Left f next s) (sym (left_state whole)) whole;
          }

-- ---- the pass

module _ (corners : CornerLists) (shades sheet : List ℕ) (around : KeptBox) (list : List ℕ) (set : Settings) (p : FillParams) where
  -- all rounds done
  pub pass_done : {before after : Filling} → held before ≡ corners_of corners shades → before.setup.settings ≡ set → before.setup.params ≡ p → before.sheet.now ≡ sheet → before.attached.now ≡ list → before.made ≡ 0
      → {limit rounds : ℕ} → limit ≡ fill_limit (label_count sheet) p.max_iters → RoundsLeft before after rounds (fill_from (held before) before.setup.settings before.setup.params limit (start_of before))
      → {stats : FillStats} → stats ≡ stats_of after rounds → {kept : KeptBox} → kept ≡ kept_of after.around → {s l : List ℕ} → s ≡ after.sheet.now → l ≡ after.attached.now
      → fill_out (Ok (stats, kept)) s l ≡ fill_leaves (done (fill_after (corners_of corners shades) set p sheet)) sheet list
  unfolding fill_after fill_run
  pass_done {before} {after} cs e m sh li z {limit} {rounds} lim l st k es el =
      let run : fill_from (held before) before.setup.settings before.setup.params limit (start_of before) ≡ fill_run (corners_of corners shades) set p sheet = rw (cs, e, m, sh, li, z, lim) in
      rw (st, k, after.around_is, es, el, l.rounds_are, l.left.made_is, l.left.sheet_is, l.left.list_is, run, li)

  -- ---- the call

  -- what it promises of its answer and its buffers, and of what the answer says
  abbrev pub Promised : FillOut → Type 0
  Promised out =
      let o = fill_step corners shades sheet around set p (rooms 0 (length list)) in
      (out ≡ fill_leaves o sheet list) × (fill_said out.answer ≡ outcome_due fill_values o)

  promised : {out : FillOut} → out ≡ fill_leaves (fill_step corners shades sheet around set p (rooms 0 (length list))) sheet list → Promised out
  promised e = (e, fill_said_lem _ sheet list _ e)

  -- its check refuses it, or lets it pass
  module _ (check : Checked) (is : check ≡ checked (lent_of corners shades sheet around (rooms 0 (length list))) set (Pass.Fill p)) where
    leaves_refused : (r : Refusal) → check ≡ Err r
        → fill_out (Err r) sheet list
        ≡ fill_leaves (fill_step corners shades sheet around set p (rooms 0 (length list))) sheet list
    unfolding fill_step
    leaves_refused r e = rw (← is, e)

    pub call_refused : (r : Refusal) → check ≡ Err r → Promised (fill_out (Err r) sheet list)
    call_refused r e = promised (leaves_refused r e)

    module _ (e : check ≡ Ok tt) where
      pub call_accepted : Accepted (lent_of corners shades sheet around (rooms 0 (length list))) set (Pass.Fill p)
      call_accepted = accepted (lent_of corners shades sheet around (rooms 0 (length list))) set (Pass.Fill p) (sym is ∙ e)

      leaves_done : (out : FillOut) → out ≡ fill_leaves (done (fill_after (corners_of corners shades) set p sheet)) sheet list → out ≡ fill_leaves (fill_step corners shades sheet around set p (rooms 0 (length list))) sheet list
      unfolding fill_step
      leaves_done out h = rw (← is, e) h

      pub call_done : (out : FillOut) → out ≡ fill_leaves (done (fill_after (corners_of corners shades) set p sheet)) sheet list → Promised out
      call_done out h = promised (leaves_done out h)
