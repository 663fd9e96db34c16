-- The rounds of local, one after the other, and the whole call: refused, under four labels, or all rounds done. Assumes nothing.
use Rattle.std.specs.Prelude.{Option, None, Ok, Err}
use mathlib.Core.Path.{◌≡◌, refl, sym, ap, ◌∙◌, subst}
use mathlib.Core.Bool.{Bool}
use mathlib.Core.List.{List}
use Prim.Native.Nat.{ℕ, ◌+◌, ◌*◌, ◌<◌, ◌≤◌}
use native.Mathlib.Omega.{arith}
use borrow.Author.Tests.{lt-ltb, le-ltb}
use lib.ListN.{length}
use lib.Dec.{T}
use lib.Ieee.Scale.{finite}
use Rattle.sheet.specs.Corners.{Corners, CornerLists}
use Rattle.arguments.specs.Shades.{any_shade, corners_of}
use Rattle.refusal.specs.declared.Refusal.{Refusal}
use Rattle.labels.specs.Labelled.{label_count}
use Rattle.labels.specs.Rim.{rim}
use Rattle.labels.specs.Kept.{around_of, kept_of, box_kept}
use Rattle.labels.specs.declared.Bounds.{Bounds}
use Rattle.labels.specs.declared.kept.KeptBox.{KeptBox}
use Rattle.labels.specs.Used.{Tied}
use Rattle.arguments.specs.Arguments.{Checked, checked}
use Rattle.arguments.specs.Accepted.{Accepted}
use Rattle.arguments.specs.declared.Pass.{Pass}
use Rattle.arguments.specs.declared.Settings.{Settings}
use Rattle.arguments.specs.declared.LocalExtensionParams.{LocalExtensionParams}
use Rattle.arguments.proofs.Laws.{accepted}
use Rattle.candidates.specs.Candidates.{squared_radius}
use Rattle.candidates.proofs.Radius.{search_radius}
use Rattle.passes.specs.Counting.{visits}
use Rattle.passes.specs.Outcome.{done}
use Rattle.passes.specs.Local.{depth_of, local_search, LocalState, LocalRounds, local_pass, local_round, local_from, local_limit, local_run, local_after}
use Rattle.passes.specs.Step.{LocalOut, local_step, local_out, local_leaves, lent_of, rooms}
use Rattle.passes.specs.Said.{local_values, local_said, outcome_due}
use Rattle.passes.specs.declared.LocalStats.{LocalStats}
use Rattle.passes.proofs.Free.{labels_few}
use Rattle.passes.proofs.Rounds.{Remaining, remaining_all, remaining_none, remaining_last, remaining_more}
use Rattle.passes.proofs.Said.{local_said_lem}
use Rattle.supports.specs.Nearest.{Gatherable, Gathered}
use Rattle.supports.specs.declared.Labelled.{Labelled}
use Rattle.local_cell.specs.Extending.{Extending}
use Rattle.local_cell.specs.Work.{state_in, Left}
use Rattle.local_cell.specs.declared.LocalProgress.{LocalProgress}
use Rattle.local_cell.specs.declared.LocalWork.{LocalWork}
use Rattle.local_cell.proofs.Visit.{gathered_front, stands, left_as}
use Rattle.local.specs.Rounds.{no_progress, start_of, start_in, RoundsAsked, RoundsLeft, stats_of}
use Rattle.local.proofs.Walk.{holds_state, left_then, round_grows, round_counted}

-- ---- the loop over the rounds

-- the same rounds by another expression
rounds_left_as : {r after : LocalRounds} {before work : LocalWork} {rounds : ℕ} → after ≡ r
    → RoundsLeft before work rounds r → RoundsLeft before work rounds after
rounds_left_as e l = rw e l

pub record Rounding (set : Settings) (p : LocalExtensionParams) (limit : ℕ) (cs : Corners) (before work : LocalWork) (rounds : ℕ) : Type 0 where
  pub remaining : Remaining (local_pass cs set p) limit (state_in before) (state_in work) rounds
  pub few : limit ≤ 64
  pub counted : visits work.progress.counts ≤ 16384 * rounds
  pub left : Left before work (state_in work)

module _ {set : Settings} {p : LocalExtensionParams} {limit : ℕ} {cs : Corners} {before : LocalWork} where
  pub rounding_start : p ≡ before.setup.params → limit ≡ p.max_iters → RoundsAsked before → Rounding set p limit cs before before 0
  rounding_start q e f =
      record {
        remaining = remaining_all (local_pass cs set p) limit (state_in before);
        few = omega (arith, e, ap (λ (x : LocalExtensionParams). x.max_iters) q, f.rounds_few);
        counted = omega (arith, ap (λ (at : LocalProgress). visits at.counts) f.unstarted);
        left = stands before.extending;
      }

  module _ {work : LocalWork} {rounds : ℕ} (g : Rounding set p limit cs before work rounds) where
    pub rounding_end : limit ≤ rounds → rounds ≤ limit → RoundsLeft before work limit (local_from cs set p limit (start_in before))
    unfolding local_from
    rounding_end h k =
        rounds_left_as (remaining_none (local_pass cs set p) limit (state_in before) g.remaining h)
        (record { left = g.left; rounds_are = omega arith })

    module _ (next : LocalWork) (h : rounds < limit)
        (l : Left work next (local_round cs set p (state_in work))) where
      -- the state after the round, with the list's rest as it was at the start
      whole : Left before next (local_round cs set p (state_in work))
      whole = left_then g.left (round_grows cs set p (state_in work)) l

      pub rounding_last : next.progress.counts.attached ≡ work.progress.counts.attached
          → RoundsLeft before next (rounds + 1) (local_from cs set p limit (start_in before))
      unfolding local_from
      rounding_last e =
          rounds_left_as (remaining_last (local_pass cs set p) limit (state_in before)
          g.remaining h (sym l.made_is ∙ e ∙ g.left.made_is))
          (record { left = whole; rounds_are = refl })

      pub rounding_more : (next.progress.counts.attached ≡ work.progress.counts.attached → ⊥)
          → Rounding set p limit cs before next (rounds + 1)
      unfolding local_round
      rounding_more e =
          record {
            remaining =
                subst (λ (s : LocalState). Remaining (local_pass cs set p) limit (state_in before)
                s (rounds + 1))
                (sym (holds_state l))
                (remaining_more (local_pass cs set p) limit (state_in before)
                g.remaining h (λ d. e (l.made_is ∙ d ∙ sym g.left.made_is)));
            few = g.few;
            counted = omega (arith, g.counted, ap visits l.counts_are, round_counted cs set p (state_in work));
            left = left_as (holds_state l) whole;
          }

-- ---- the pass

-- nothing done yet, a number at a time
pub at_start : {at : LocalProgress}
    → ((at.counts.attached ≡ 0) × ((at.counts.rejected_no_candidate ≡ 0) × ((at.counts.rejected_ambiguous ≡ 0) × (at.counts.rejected_edge ≡ 0))))
    × ((at.residual ≡ None) × (at.unmatched ≡ 0)) → at ≡ no_progress
at_start d = λ t. record {
  counts = record { attached = d.0.0 t; rejected_no_candidate = d.0.1.0 t; rejected_ambiguous = d.0.1.1.0 t; rejected_edge = d.0.1.1.1 t };
  residual = d.1.0 t;
  unmatched = d.1.1 t;
}

-- the same start
start_is : {sheet sheet' list list' : List ℕ} {at at' : LocalProgress} → sheet ≡ sheet' → list ≡ list' → at ≡ at' → start_of sheet list at ≡ start_of sheet' list' at'
start_is s l e = rw (s, l, e)

module _ (corners : CornerLists) (shades sheet : List ℕ) (around : KeptBox) (list : List ℕ) (set : Settings) (p : LocalExtensionParams) where
  -- arguments that are not refused
  module _ (a : Accepted (lent_of corners shades sheet around (rooms 0 (length list))) set (Pass.Local p)) where
    pub accepted_gatherable : Gatherable sheet
    accepted_gatherable = record { long = a.given.long; few = omega (arith, labels_few a.given a.one_cell, a.few) }

    -- the squared radius is finite
    pub accepted_radius : T (finite (squared_radius (local_search set p).search_r))
    unfolding local_search
    accepted_radius = search_radius p.search_rel set.grid.cell_size a.pass_inside.search a.settings_inside.cell_size

    -- the box that is handed, as it is answered
    pub accepted_kept : {found : Option Bounds} {kept : KeptBox} → found ≡ around_of around → kept ≡ kept_of found → kept ≡ box_kept sheet
    accepted_kept f k = k ∙ ap kept_of (f ∙ a.box_right)

    -- the pass may go on
    pub accepted_extending : {before : List ℕ} {used : List Bool} {labelled : Labelled} {box : Option Bounds} {at : LocalProgress} → Gathered sheet before labelled.places labelled.count → 4 ≤ labelled.count → Tied sheet used
        → box ≡ around_of around → at ≡ no_progress → Extending (length corners.xs) sheet list used labelled box at
    accepted_extending w h t b e =
        record {
          given = a.given;
          one_cell = a.one_cell;
          tied = t;
          list_long = a.attached_long;
          room = omega (arith, ap (λ (x : LocalProgress). x.counts.attached) e);
          four = omega (arith, w.count_is);
          labels_are = w.count_is;
          places_are = gathered_front w;
          around_is = b ∙ a.box_right;
        }

  -- what the answer says of the rim and of the rounds, and the box that is left
  module _ {labels depth : ℕ} {edge shaded : Bool} {stats : LocalStats} {kept : KeptBox} (counted : labels ≡ label_count sheet) (deep : depth ≡ depth_of p)
      (any : shaded ≡ any_shade shades (length corners.xs)) where
    -- under four labels
    pub pass_few : {at : LocalProgress} → labels < 4 → at ≡ no_progress → edge ≡ rim depth sheet → stats ≡ stats_of at 0 edge shaded → kept ≡ box_kept sheet
        → local_out (Ok (stats, kept)) sheet list ≡ local_leaves (done (local_after (corners_of corners shades) set p sheet)) sheet list
    unfolding local_after local_run local_limit local_from
    pass_few h g f e b = rw (← counted, lt-ltb labels 4 h, e, b, g, f, deep, any)

    -- all rounds done
    pub pass_done : (cs : Corners) → cs ≡ corners_of corners shades → {before work : LocalWork} {rounds : ℕ} → 4 ≤ labels → before.progress ≡ no_progress
        → before.sheet.now ≡ sheet → before.attached.now ≡ list → RoundsLeft before work rounds (local_from cs set p p.max_iters (start_in before)) → edge ≡ rim depth work.sheet.now
        → stats ≡ stats_of work.progress rounds edge shaded → kept ≡ box_kept work.sheet.now → {sheet' list' : List ℕ} → sheet' ≡ work.sheet.now → list' ≡ work.attached.now
        → local_out (Ok (stats, kept)) sheet' list' ≡ local_leaves (done (local_after (corners_of corners shades) set p sheet)) sheet list
    unfolding local_after local_run local_limit
    pass_done cs held h m sh li l' f e b es el =
        let l = l' in
        let run = ap (local_from cs set p p.max_iters) (start_is sh li m) in
        rw (
          es,
          el,
          ← held,
          ← counted,
          le-ltb labels 4 h,
          e,
          b,
          f,
          deep,
          any,
          l.rounds_are,
          l.left.counts_are,
          l.left.largest_is,
          l.left.unmatched_is,
          l.left.sheet_is,
          l.left.list_is,
          run,
          li,
        )

  -- ---- the call

  -- what it promises of its answer and its buffers, and of what the answer says
  abbrev pub Promised : LocalOut → Type 0
  Promised out =
      let o = local_step corners shades sheet around set p (rooms 0 (length list)) in
      (out ≡ local_leaves o sheet list) × (local_said out.answer ≡ outcome_due local_values o)

  promised : {out : LocalOut} → out ≡ local_leaves (local_step corners shades sheet around set p (rooms 0 (length list))) sheet list → Promised out
  promised e = (e, local_said_lem _ sheet list _ e)

  -- its check refuses it, or lets it pass
  module _ (check : Checked) (is : check ≡ checked (lent_of corners shades sheet around (rooms 0 (length list))) set (Pass.Local p)) where
    leaves_refused : (r : Refusal) → check ≡ Err r
        → local_out (Err r) sheet list
        ≡ local_leaves (local_step corners shades sheet around set p (rooms 0 (length list))) sheet list
    unfolding local_step
    leaves_refused r e = rw (← is, e)

    pub call_refused : (r : Refusal) → check ≡ Err r → Promised (local_out (Err r) sheet list)
    call_refused r e = promised (leaves_refused r e)

    module _ (e : check ≡ Ok tt) where
      pub call_accepted : Accepted (lent_of corners shades sheet around (rooms 0 (length list))) set (Pass.Local p)
      call_accepted = accepted (lent_of corners shades sheet around (rooms 0 (length list))) set (Pass.Local p) (sym is ∙ e)

      leaves_done : (out : LocalOut) → out ≡ local_leaves (done (local_after (corners_of corners shades) set p sheet)) sheet list → out ≡ local_leaves (local_step corners shades sheet around set p (rooms 0 (length list))) sheet list
      unfolding local_step
      leaves_done out h = rw (← is, e) h

      pub call_done : (out : LocalOut) → out ≡ local_leaves (done (local_after (corners_of corners shades) set p sheet)) sheet list → Promised out
      call_done out h = promised (leaves_done out h)
