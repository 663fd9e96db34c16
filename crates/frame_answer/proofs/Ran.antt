-- What is left when the passes of an accepted frame have run: the sheet and the outcomes of the definition, and nothing that the printer refuses.
-- Assumes nothing.
use Rattle.std.specs.Prelude.{Ok, Err, Option, None, Some, Float}
use mathlib.Core.Path.{◌≡◌, refl, sym, ap, ap₂, ◌∙◌, subst}
use mathlib.Core.Bool.{Bool, true, false, not, ◌&&◌, ◌||◌, cond}
use mathlib.Core.List.{List, [], ◌∷◌, ◌++◌, append_assoc, append-nil, map}
use Prim.Native.Nat.{ℕ, suc, ◌+◌, ◌*◌, ◌<◌, ◌≤◌}
use native.Mathlib.Nat.{not-suc-le-zero}
use native.Mathlib.Decide.{dec_lt}
use native.Mathlib.Omega.{arith}
use borrow.Author.Tests.{le-ltb, eqb-true, eqb-false, eq-eqb}
use lib.Dec.{eqb, ltb}
use lib.ListN.{length, get_or, take, drop, length-append, length-drop, get_or-append, length-map}
use lib.Seq.{get_or-append-add, get_or-take, length-take-le}
use lib.Ieee.{binary32, of_bits}
use lib.Ieee.Bits.{of_bits-to_bits}
use Rattle.refusal.specs.declared.Refusal.{Refusal}
use Rattle.roles.specs.Roles.{role_number, role_numbered}
use Rattle.roles.specs.declared.Role.{Role}
use Rattle.role_counts.specs.RoleCounts.{RoledStats}
use Rattle.binary32.specs.Ranges.{is_finite}
use Rattle.arguments.specs.Arguments.{Checked}
use Rattle.arguments.proofs.Laws.{not_unknown, not_doubled}
use Rattle.passes.specs.declared.Counts.{Counts}
use Rattle.passes.specs.declared.LocalStats.{LocalStats}
use Rattle.passes.specs.Outcome.{After, Outcome, refused, done}
use Rattle.passes.specs.Step.{unless}
use Rattle.passes.specs.Run.{as_left, Call, step, sheet_after, run, sheet_of as sheetAfterAll}
use Rattle.passes.specs.declared.PassStats.{PassStats}
use Rattle.invariants.specs.Calls.{Standing, checked_call, after_call}
use Rattle.invariants.proofs.Run.{step_as_lem, call_accepted, standing_after_lem}
use Rattle.frame.specs.Frame.{Frame, RoledPass, parts_of, read_frame, accepted}
use Rattle.frame.specs.Text.{WithinLimits}
use Rattle.frame.specs.ReadFrame.{float_of, xs_of, shades_of, sheet_of, settings_of, FullPass, full_grow, full_fill, full_local, full_of, pass_of, words_of, all_words}
use Rattle.pass_call.specs.Call.{call_of}
use Rattle.frame_laws.specs.Calls.{frame_corners, call_of as frameCall, calls_of, NoneRefused}
use Rattle.frame_laws.proofs.Back.{frame_prints_back}
use Rattle.frame_laws.proofs.Runs.{accepted_runs}
use Rattle.count_bounds.specs.Bounds.{FewCounts, FewUnmatched, FiniteResidual, Small, small_grow, small_fill, small_local}
use Rattle.count_bounds.proofs.Small.{small}
use Rattle.sheet.specs.Corners.{CornerLists}
use Rattle.sheet.specs.Words.{bit_of}
use Rattle.report_words.specs.Outcomes.{residual_words, unmatched_words, outcome_words, word_at, outcomes_from, outcomes_in, largest_count, largest_unmatched, wild_counts, wild_residual, wild_unmatched, wild_outcome}
use Rattle.report_words.specs.Asked.{Tame, with_outcome, shade_flag, unmatched_word, FloatOrNone, IsFloat}
use Rattle.report_words.proofs.Putting.{put_last}
use Rattle.arguments.specs.Front.{over}
use Rattle.frame_passes.specs.Running.{pass_at, role_at, call_at, Left, left, noted, left_by, left_by_all}
use Rattle.frame_answer.specs.Answer.{outcomes_of, frame_outcomes, frame_sheet, Recorded}
use Rattle.arguments.proofs.Chains.{or_false}
use Rattle.arguments.specs.Arguments.{Checked}

-- ---- a pass from its seven words

-- what stands behind n words
behind : (before after : List ℕ) (n m : ℕ) → length before ≡ n → get_or (before ++ after) (n + m) 0 ≡ get_or after m 0
behind before after n m e = rw (← e) (get_or-append-add before after m 0)

pass_read : (before after : List ℕ) (k : ℕ) (r : Role) (p : FullPass) → length before ≡ 7 * k → pass_at (before ++ (words_of r p ++ after)) k ≡ pass_of p
unfolding pass_at words_of pass_of
pass_read before after k r (full_grow s f b) e = rw (at 0, at 1, at 2, at 3) refl
  where
    at : (m : ℕ) → get_or (before ++ (words_of r (full_grow s f b) ++ after)) (7 * k + m) 0 ≡ get_or (words_of r (full_grow s f b) ++ after) m 0
    at m = behind before (words_of r (full_grow s f b) ++ after) (7 * k) m e
pass_read before after k r (full_fill s f n) e = rw (at 0, at 1, at 2, at 4) refl
  where
    at : (m : ℕ) → get_or (before ++ (words_of r (full_fill s f n) ++ after)) (7 * k + m) 0 ≡ get_or (words_of r (full_fill s f n) ++ after) m 0
    at m = behind before (words_of r (full_fill s f n) ++ after) (7 * k) m e
pass_read before after k r (full_local s f n g d) e = rw (at 0, at 1, at 2, at 3, at 4, at 5) refl
  where
    at : (m : ℕ) → get_or (before ++ (words_of r (full_local s f n g d) ++ after)) (7 * k + m) 0 ≡ get_or (words_of r (full_local s f n g d) ++ after) m 0
    at m = behind before (words_of r (full_local s f n g d) ++ after) (7 * k) m e

seven_words : (r : Role) (p : FullPass) → length (words_of r p) ≡ 7
unfolding words_of
seven_words r (full_grow s f b) = refl
seven_words r (full_fill s f n) = refl
seven_words r (full_local s f n g d) = refl

-- and its role
last_word : (r : Role) (p : FullPass) (after : List ℕ) → role_numbered (get_or (words_of r p ++ after) 6 0) ≡ r
unfolding words_of role_numbered
last_word Role.Plant (full_grow s f b) after = refl
last_word Role.Plant (full_fill s f n) after = refl
last_word Role.Plant (full_local s f n g d) after = refl
last_word Role.Depot (full_grow s f b) after = refl
last_word Role.Depot (full_fill s f n) after = refl
last_word Role.Depot (full_local s f n g d) after = refl
last_word Role.Dealer (full_grow s f b) after = refl
last_word Role.Dealer (full_fill s f n) after = refl
last_word Role.Dealer (full_local s f n g d) after = refl

role_read : (before after : List ℕ) (k : ℕ) (r : Role) (p : FullPass) → length before ≡ 7 * k → role_at (before ++ (words_of r p ++ after)) k ≡ r
role_read before after k r p e = ap role_numbered (behind before (words_of r p ++ after) (7 * k) 6 e) ∙ last_word r p after

-- ---- passes of a list, the first of them number k, each with its call

unfoldable left_by_list : CornerLists → (RoledPass → Call) → List RoledPass → ℕ → Left → Left
left_by_list l call [] k s = s
left_by_list l call (p ∷ ps) k s = left_by_list l call ps (suc k) (left_by l (call p) k p.role s)

module _ (f : Frame) (rest : List ℕ) where
  -- the words of a pass of the frame, and its call, which knows no role
  abbrev words_said : RoledPass → List ℕ
  words_said q = words_of q.role (full_of q.pass)

  abbrev called : RoledPass → Call
  called q = frameCall f q.pass

  call_read : (before after : List ℕ) (k : ℕ) (q : RoledPass) → length before ≡ 7 * k
      → call_at (settings_of f) (shades_of f) 4096 1024 (before ++ (words_said q ++ after)) k ≡ called q
  call_read before after k q e = ap (call_of (settings_of f) (shades_of f) as_left 4096 1024) (pass_read before after k q.role (full_of q.pass) e)

  -- the passes that are read from their words are those of the frame
  by_list : (before words : List ℕ) (ps : List RoledPass) (k : ℕ) (s : Left) → length before ≡ 7 * k → words ≡ before ++ (all_words ps ++ rest)
      → left_by_all (frame_corners f) (call_at (settings_of f) (shades_of f) 4096 1024 words) (role_at words) (length ps) k s ≡ left_by_list (frame_corners f) called ps k s
  unfolding left_by_all left_by_list all_words
  by_list before words [] k s e w = refl
  by_list before words (p ∷ ps) k s e w =
      by_list (before ++ words_said p) words ps (suc k) _ longer again
      ∙ ap₂ (λ (c : Call) (r : Role). left_by_list (frame_corners f) called ps (suc k) (left_by (frame_corners f) c k r s)) now who
    where
      split : (words_said p ++ all_words ps) ++ rest ≡ words_said p ++ (all_words ps ++ rest)
      split = append_assoc (words_said p) (all_words ps) rest

      so : words ≡ before ++ (words_said p ++ (all_words ps ++ rest))
      so = w ∙ ap (λ (r : List ℕ). before ++ r) split

      again : words ≡ (before ++ words_said p) ++ (all_words ps ++ rest)
      again = so ∙ sym (append_assoc before (words_said p) (all_words ps ++ rest))

      longer : length (before ++ words_said p) ≡ 7 * suc k
      longer = let seven = seven_words p.role (full_of p.pass) in rw length-append (omega (arith, e, seven))

      now : call_at (settings_of f) (shades_of f) 4096 1024 words k ≡ called p
      now = ap (λ (r : List ℕ). call_at (settings_of f) (shades_of f) 4096 1024 r k) so ∙ call_read before (all_words ps ++ rest) k p e

      who : role_at words k ≡ p.role
      who = ap (λ (r : List ℕ). role_at r k) so ∙ role_read before (all_words ps ++ rest) k p.role (full_of p.pass) e

-- ---- the words of an outcome

bit_few : (b : Bool) → bit_of b ≤ 1
unfolding bit_of
bit_few true = omega arith
bit_few false = omega arith

-- outcomes as they can be are let pass
not_wild : (words : List ℕ) (k : ℕ) → Tame words k → wild_outcome words k ≡ false
unfolding wild_outcome wild_counts wild_residual wild_unmatched
not_wild words k t =
    or_false _ _ (le-ltb 2 (word_at words k 0) t.kind)
    (or_false _ _ (or_false _ _ (le-ltb largest_count (word_at words k 1) t.attached) (or_false _ _ (le-ltb largest_count (word_at words k 2) t.no_candidate) (or_false _ _ (le-ltb largest_count (word_at words k 3) t.ambiguous) (le-ltb largest_count (word_at words k 4) t.edge))))
    (or_false _ _ (le-ltb 64 (word_at words k 5) t.rounds)
    (or_false _ _ (or_false _ _ (le-ltb 1 (word_at words k 6) t.flag) (go (eqb (word_at words k 6) 1) refl))
    (or_false _ _ (le-ltb 1 (word_at words k 8) t.rim)
    (or_false _ _ (or_false _ _ (le-ltb 1 (word_at words k 9) t.shades) (over (eqb (word_at words k 9) 0) refl)) (le-ltb 2 (word_at words k 11) t.role))))))
  where
    over : (b : Bool) → eqb (word_at words k 9) 0 ≡ b
        → cond b (not (eqb (word_at words k 10) 0)) (not (eqb (word_at words k 0) 2) || ltb largest_unmatched (word_at words k 10)) ≡ false
    over true e = ap not (eq-eqb _ 0 (t.unshaded (eqb-true (word_at words k 9) 0 e)))
    over false e =
        let one : word_at words k 9 ≡ 1 = omega (arith, t.shades, eqb-false (word_at words k 9) 0 e) in
        or_false _ _ (ap not (eq-eqb _ 2 (t.local_alone one))) (le-ltb largest_unmatched (word_at words k 10) (t.unmatched one))

    go : (b : Bool) → eqb (word_at words k 6) 1 ≡ b → (b && not (is_finite (of_bits binary32 (word_at words k 7)))) ≡ false
    go true e = ap not (t.finite (eqb-true (word_at words k 6) 1 e))
    go false e = refl

number_few : (r : Role) → role_number r ≤ 2
number_few Role.Plant = omega arith
number_few Role.Depot = omega arith
number_few Role.Dealer = omega arith

-- the two words of the corners passed over
few_shades : (u : Option ℕ) → FewUnmatched 1073741824 u → (shade_flag u ≤ 1) × ((unmatched_word u ≤ largest_unmatched) × (shade_flag u ≡ 0 → unmatched_word u ≡ 0))
few_shades None h = (omega arith, (omega arith, λ e. refl))
few_shades (Some n) h = (omega arith, (h, λ e. absurd (omega arith)))

module _ (words : List ℕ) (k : ℕ) where
  tame_counts : (c : Counts) (rounds : ℕ) (kind : ℕ) (b : Bool) → FewCounts 1048576 c → rounds ≤ 64 → kind ≤ 2
      → word_at words k 0 ≡ kind → word_at words k 1 ≡ c.attached → word_at words k 2 ≡ c.rejected_no_candidate
      → word_at words k 3 ≡ c.rejected_ambiguous → word_at words k 4 ≡ c.rejected_edge → word_at words k 5 ≡ rounds
      → word_at words k 6 ≤ 1 → (word_at words k 6 ≡ 1 → is_finite (of_bits binary32 (word_at words k 7)) ≡ true) → word_at words k 8 ≡ bit_of b
      → (u : Option ℕ) → FewUnmatched 1073741824 u → word_at words k 9 ≡ shade_flag u → word_at words k 10 ≡ unmatched_word u → (shade_flag u ≡ 1 → kind ≡ 2)
      → (who : Role) → word_at words k 11 ≡ role_number who → Tame words k
  tame_counts c rounds kind b w r q e0 e1 e2 e3 e4 e5 l6 f7 e8 u v e9 e10 local who e11 =
      record {
        kind = omega (arith, e0, q);
        attached = omega (arith, e1, w.attached);
        no_candidate = omega (arith, e2, w.no_candidate);
        ambiguous = omega (arith, e3, w.ambiguous);
        edge = omega (arith, e4, w.edge);
        rounds = omega (arith, e5, r);
        flag = l6;
        finite = f7;
        rim = omega (arith, e8, bit_few b);
        shades = omega (arith, e9, (few_shades u v).0);
        unmatched = λ h. omega (arith, e10, (few_shades u v).1.0);
        unshaded = λ h. e10 ∙ (few_shades u v).1.1 (sym e9 ∙ h);
        local_alone = λ h. e0 ∙ local (sym e9 ∙ h);
        role = omega (arith, e11, number_few who);
      }

abbrev local_words : Role → LocalStats → Option Float → Option ℕ → List ℕ
local_words who s x u =
    2 ∷ s.counts.attached ∷ s.counts.rejected_no_candidate ∷ s.counts.rejected_ambiguous ∷ s.counts.rejected_edge ∷ s.iterations
    ∷ residual_words x (bit_of s.rim ∷ unmatched_words u (role_number who ∷ []))

module _ (before after : List ℕ) (k : ℕ) (who : Role) (long : length before ≡ 12 * k) where
  local_tame : (s : LocalStats) (x : Option Float) (u : Option ℕ) → FewCounts 1048576 s.counts → s.iterations ≤ 64 → FiniteResidual x → FewUnmatched 1073741824 u
      → Tame (before ++ (local_words who s x u ++ after)) k
  local_tame s x u w r q v = by x u q v
    where
      at : (x : Option Float) (u : Option ℕ) (m : ℕ) → word_at (before ++ (local_words who s x u ++ after)) k m ≡ get_or (local_words who s x u ++ after) m 0
      at x u m = behind before (local_words who s x u ++ after) (12 * k) m long

      by : (x : Option Float) (u : Option ℕ) → FiniteResidual x → FewUnmatched 1073741824 u → Tame (before ++ (local_words who s x u ++ after)) k
      by None None q v =
          tame_counts _ k s.counts s.iterations 2 s.rim w r (omega arith) (at None None 0) (at None None 1) (at None None 2) (at None None 3) (at None None 4) (at None None 5)
          (omega (arith, at None None 6)) (λ h. absurd (omega (arith, h, at None None 6))) (at None None 8)
          None v (at None None 9) (at None None 10) (λ e. refl) who (at None None 11)
      by None (Some n) q v =
          tame_counts _ k s.counts s.iterations 2 s.rim w r (omega arith) (at None (Some n) 0) (at None (Some n) 1) (at None (Some n) 2) (at None (Some n) 3) (at None (Some n) 4) (at None (Some n) 5)
          (omega (arith, at None (Some n) 6)) (λ h. absurd (omega (arith, h, at None (Some n) 6))) (at None (Some n) 8)
          (Some n) v (at None (Some n) 9) (at None (Some n) 10) (λ e. refl) who (at None (Some n) 11)
      by (Some x) None q v =
          tame_counts _ k s.counts s.iterations 2 s.rim w r (omega arith) (at (Some x) None 0) (at (Some x) None 1) (at (Some x) None 2) (at (Some x) None 3) (at (Some x) None 4) (at (Some x) None 5)
          (omega (arith, at (Some x) None 6)) (λ h. rw (at (Some x) None 7, of_bits-to_bits binary32 x q.fit) q.finite) (at (Some x) None 8)
          None v (at (Some x) None 9) (at (Some x) None 10) (λ e. refl) who (at (Some x) None 11)
      by (Some x) (Some n) q v =
          tame_counts _ k s.counts s.iterations 2 s.rim w r (omega arith) (at (Some x) (Some n) 0) (at (Some x) (Some n) 1) (at (Some x) (Some n) 2) (at (Some x) (Some n) 3) (at (Some x) (Some n) 4) (at (Some x) (Some n) 5)
          (omega (arith, at (Some x) (Some n) 6)) (λ h. rw (at (Some x) (Some n) 7, of_bits-to_bits binary32 x q.fit) q.finite) (at (Some x) (Some n) 8)
          (Some n) v (at (Some x) (Some n) 9) (at (Some x) (Some n) 10) (λ e. refl) who (at (Some x) (Some n) 11)

  outcome_tame : (s : PassStats) → Small s → Tame (before ++ (outcome_words who s ++ after)) k
  unfolding outcome_words
  outcome_tame (PassStats.Grow s) (small_grow w) =
      tame_counts _ k s.counts 0 0 s.rim w (omega arith) (omega arith) (at 0) (at 1) (at 2) (at 3) (at 4) (at 5) (omega (arith, at 6)) (λ h. absurd (omega (arith, h, at 6))) (at 8)
      None tt (at 9) (at 10) (λ e. absurd (omega arith)) who (at 11)
    where
      at : (m : ℕ) → word_at (before ++ (outcome_words who (PassStats.Grow s) ++ after)) k m ≡ get_or (outcome_words who (PassStats.Grow s) ++ after) m 0
      at m = behind before (outcome_words who (PassStats.Grow s) ++ after) (12 * k) m long
  outcome_tame (PassStats.Fill s) (small_fill w r) =
      tame_counts _ k (record { attached = s.added; rejected_no_candidate = 0; rejected_ambiguous = 0; rejected_edge = 0 }) s.iterations 1 s.rim
      (record { attached = w; no_candidate = omega arith; ambiguous = omega arith; edge = omega arith }) r (omega arith) (at 0) (at 1) (at 2) (at 3) (at 4) (at 5) (omega (arith, at 6)) (λ h. absurd (omega (arith, h, at 6))) (at 8)
      None tt (at 9) (at 10) (λ e. absurd (omega arith)) who (at 11)
    where
      at : (m : ℕ) → word_at (before ++ (outcome_words who (PassStats.Fill s) ++ after)) k m ≡ get_or (outcome_words who (PassStats.Fill s) ++ after) m 0
      at m = behind before (outcome_words who (PassStats.Fill s) ++ after) (12 * k) m long
  outcome_tame (PassStats.Local s) (small_local w r q u) = local_tame s s.residual s.unmatched w r q u

twelve_words : (who : Role) (s : PassStats) → length (outcome_words who s) ≡ 12
unfolding outcome_words
twelve_words who (PassStats.Grow s) = refl
twelve_words who (PassStats.Fill s) = refl
twelve_words who (PassStats.Local s) = go s.residual s.unmatched
  where
    go : (x : Option Float) (u : Option ℕ) → length (local_words who s x u) ≡ 12
    go None None = refl
    go None (Some n) = refl
    go (Some x) None = refl
    go (Some x) (Some n) = refl

is_float : (s : PassStats) → Small s → IsFloat s
is_float (PassStats.Grow s) w = tt
is_float (PassStats.Fill s) w = tt
is_float (PassStats.Local s) (small_local w r q u) = go s.residual q
  where
    go : (x : Option Float) → FiniteResidual x → FloatOrNone x
    go None h = tt
    go (Some x) h = h.fit

-- ---- an outcome put at its place

same_wild : (a b : List ℕ) (k : ℕ) → ((m : ℕ) → m < 12 → word_at a k m ≡ word_at b k m) → wild_outcome a k ≡ wild_outcome b k
unfolding wild_outcome wild_counts wild_residual wild_unmatched
same_wild a b k h = rw (h 0 (omega arith), h 1 (omega arith), h 2 (omega arith), h 3 (omega arith), h 4 (omega arith), h 5 (omega arith), h 6 (omega arith), h 7 (omega arith), h 8 (omega arith), h 9 (omega arith), h 10 (omega arith), h 11 (omega arith))

module _ (words : List ℕ) (k : ℕ) (who : Role) (s : PassStats) (room : 12 * k + 12 ≤ length words) where
  front : length (take (12 * k) words) ≡ 12 * k
  front = length-take-le (12 * k) words (omega (arith, room))

  put_length : length (with_outcome words k who s) ≡ length words
  put_length = let twelve = twelve_words who s in rw (length-append, length-append, length-drop, front, twelve) (omega (arith, room))

  -- what is put is tame, and what stands before it is left
  put_tame : Small s → ((i : ℕ) → i < k → wild_outcome words i ≡ false) → (i : ℕ) → i < suc k → wild_outcome (with_outcome words k who s) i ≡ false
  put_tame w t i h = go (dec_lt i k)
    where
      word : (m : ℕ) → i < k → m < 12 → word_at (with_outcome words k who s) i m ≡ word_at words i m
      word m l b =
          get_or-append (take (12 * k) words) (outcome_words who s ++ drop (12 * k + 12) words) 0 (12 * i + m) (omega (arith, front, l, b))
          ∙ get_or-take (12 * k) words (12 * i + m) 0 (omega (arith, l, b))

      same : i < k → wild_outcome (with_outcome words k who s) i ≡ wild_outcome words i
      same l = same_wild (with_outcome words k who s) words i (λ m b. word m l b)

      go : Dec (i < k) → wild_outcome (with_outcome words k who s) i ≡ false
      go (yes l) = same l ∙ t i l
      go (no n) = let e : i ≡ k = omega (arith, h, n) in rw e (not_wild _ k (outcome_tame (take (12 * k) words) (drop (12 * k + 12) words) k who front s w))

-- ---- what a list of calls leaves

-- a call's outcome: refused, or what it says is small
data Answered : Outcome PassStats → Type 0 where
  answers_not : (r : Refusal) → Answered (refused r)
  answers : (a : After PassStats) → Small a.answer → Answered (done a)

answered : (l : CornerLists) (sheet : List ℕ) (c : Call) → Answered (step l sheet c)
answered l sheet c = subst Answered (sym (step_as_lem l sheet c)) (go (checked_call l sheet c) refl)
  where
    go : (k : Checked) → checked_call l sheet c ≡ k → Answered (unless k (after_call l sheet c))
    go (Ok tt) e = answers _ (small l sheet c (call_accepted l sheet c e))
    go (Err r) e = answers_not r

-- after n calls behind k others: the sheet, and the words of the outcomes, which say what the calls said
record Said (k n : ℕ) (words : List ℕ) (sheet : List ℕ) (outcomes : List RoledStats) (end : Left) : Type 0 where
  pub sheet_so : end.sheet ≡ sheet
  pub words_long : length end.words ≡ length words
  pub outcomes_so : outcomes_in (k + n) end.words ≡ outcomes_in k words ++ outcomes
  pub tame : (i : ℕ) → i < k + n → wild_outcome end.words i ≡ false

one_more : (k n : ℕ) (words sheet : List ℕ) (who : Role) (s : PassStats) (outcomes : List RoledStats) (end : Left) → 12 * k + 12 ≤ length words → Small s
    → Said (suc k) n (with_outcome words k who s) sheet outcomes end → Said k (suc n) words sheet (record { role = who; stats = s } ∷ outcomes) end
one_more k n words sheet who s outcomes end room w a =
    let e : k + suc n ≡ suc k + n = omega arith in
    record {
      sheet_so = a.sheet_so;
      words_long = a.words_long ∙ put_length words k who s room;
      outcomes_so =
          ap (λ (m : ℕ). outcomes_in m end.words) e ∙ a.outcomes_so
          ∙ ap (λ (l : List RoledStats). l ++ outcomes) (put_last words k who s (record { there = room }) (is_float s w))
          ∙ append_assoc (outcomes_in k words) (record { role = who; stats = s } ∷ []) outcomes;
      tame = λ i h. a.tame i (omega (arith, h));
    }

-- passes, each with its call
module _ (l : CornerLists) (call : RoledPass → Call) where
  said : (ps : List RoledPass) (k : ℕ) (sheet words : List ℕ) → NoneRefused (run l sheet (map call ps)) → 12 * (k + length ps) ≤ length words
      → ((i : ℕ) → i < k → wild_outcome words i ≡ false)
      → Said k (length ps) words (sheetAfterAll l sheet (map call ps)) (outcomes_of ps (run l sheet (map call ps))) (left_by_list l call ps k (left sheet words))
  unfolding run sheetAfterAll outcomes_of left_by_list left_by
  said [] k sheet words none room t =
      let e : k + 0 ≡ k = omega arith in
      record {
        sheet_so = refl;
        words_long = refl;
        outcomes_so = ap (λ (m : ℕ). outcomes_in m words) e ∙ sym (append-nil (outcomes_in k words));
        tame = λ i h. t i (omega (arith, h));
      }
  said (p ∷ ps) k sheet words none room t = go (step l sheet (call p)) (answered l sheet (call p)) none (λ after words' none' room' t'. said ps (suc k) after words' none' room' t')
    where
      here : 12 * k + 12 ≤ length words
      here = omega (arith, room)

      go : (o : Outcome PassStats) → Answered o → NoneRefused (o ∷ run l (sheet_after sheet o) (map call ps))
          → ((after words' : List ℕ) → NoneRefused (run l after (map call ps)) → 12 * (suc k + length ps) ≤ length words' → ((i : ℕ) → i < suc k → wild_outcome words' i ≡ false)
          → Said (suc k) (length ps) words' (sheetAfterAll l after (map call ps)) (outcomes_of ps (run l after (map call ps))) (left_by_list l call ps (suc k) (left after words')))
          → Said k (suc (length ps)) words (sheetAfterAll l (sheet_after sheet o) (map call ps)) (outcomes_of (p ∷ ps) (o ∷ run l (sheet_after sheet o) (map call ps)))
          (left_by_list l call ps (suc k) (left (sheet_after sheet o) (noted words k p.role o)))
      go o (answers_not r) q w = absurd q
      go o (answers a m) q w =
          one_more k (length ps) words (sheetAfterAll l a.sheet (map call ps)) p.role a.answer (outcomes_of ps (run l a.sheet (map call ps))) _ here m
          (w a.sheet (with_outcome words k p.role a.answer) q (omega (arith, room, put_length words k p.role a.answer here)) (put_tame words k p.role a.answer here m t))

-- ---- the law

-- what the passes of an accepted frame leave
abbrev pub ran_of : Frame → List ℕ → List ℕ → Left
ran_of f passes₀ words₀ = left_by_all (frame_corners f) (call_at (settings_of f) (shades_of f) 4096 1024 (over (all_words (parts_of f).passes) passes₀)) (role_at (over (all_words (parts_of f).passes) passes₀)) (length (parts_of f).passes) 0 (left (sheet_of f) words₀)

module _ (f : Frame) (w : WithinLimits f) (stands : Standing (frame_corners f) (sheet_of f)) (runs : NoneRefused (run (frame_corners f) (sheet_of f) (calls_of f))) where
  as_many : length (xs_of f) ≡ length (parts_of f).corners
  unfolding xs_of
  as_many = length-map (parts_of f).corners (λ c. float_of c.x)

  as_list : (passes₀ words₀ : List ℕ) → ran_of f passes₀ words₀ ≡ left_by_list (frame_corners f) (λ q. frameCall f q.pass) (parts_of f).passes 0 (left (sheet_of f) words₀)
  as_list passes₀ words₀ = by_list f (drop (length (all_words (parts_of f).passes)) passes₀) [] _ (parts_of f).passes 0 (left (sheet_of f) words₀) refl refl

  last_stands : Standing (frame_corners f) (frame_sheet f)
  unfolding frame_sheet
  last_stands = standing_after_lem (frame_corners f) (sheet_of f) stands (calls_of f)

  record_so : (words₀ : List ℕ) → 192 ≤ length words₀ → (end : Left) → Said 0 (length (parts_of f).passes) words₀ (frame_sheet f) (frame_outcomes f) end
      → Recorded f (length (parts_of f).corners) (length (parts_of f).passes) end.sheet end.words
  unfolding outcomes_from
  record_so words₀ long end a =
      let so : end.sheet ≡ frame_sheet f = a.sheet_so in
      let count : 0 + length (parts_of f).passes ≡ length (parts_of f).passes = omega arith in
      record {
        corner_count_holds = refl;
        pass_count = refl;
        few_corners = w.corners;
        few_passes = w.passes;
        words_long = omega (arith, w.passes, long, a.words_long);
        sheet_long = rw so last_stands.given.long;
        sheet_so = so;
        outcomes_so = ap (λ (m : ℕ). outcomes_in m end.words) (sym count) ∙ a.outcomes_so;
        tame = λ k h. a.tame k (omega (arith, h));
        known = rw so (not_unknown _ _ (record { known = λ p k h e. let b = last_stands.given.known p k h e in omega (arith, b, as_many) }));
        once = rw so (not_doubled _ last_stands.one_cell);
      }

  ran_so : (passes₀ words₀ : List ℕ) → 192 ≤ length words₀ → Recorded f (length (parts_of f).corners) (length (parts_of f).passes) (ran_of f passes₀ words₀).sheet (ran_of f passes₀ words₀).words
  unfolding frame_sheet frame_outcomes calls_of
  ran_so passes₀ words₀ long =
      subst (λ (e : Left). Recorded f (length (parts_of f).corners) (length (parts_of f).passes) e.sheet e.words) (sym (as_list passes₀ words₀))
      (record_so words₀ long _ (said (frame_corners f) (λ q. frameCall f q.pass) (parts_of f).passes 0 (sheet_of f) words₀ runs (omega (arith, w.passes, long)) (λ i h. absurd (not-suc-le-zero h))))

pub recorded : (text : List ℕ) (f : Frame) → read_frame text ≡ accepted f → (passes₀ words₀ : List ℕ) → 112 ≤ length passes₀ → 192 ≤ length words₀
    → Recorded f (length (parts_of f).corners) (length (parts_of f).passes) (ran_of f passes₀ words₀).sheet (ran_of f passes₀ words₀).words
recorded text f e passes₀ words₀ six nine =
    let s = accepted_runs text f e in
    ran_so f (frame_prints_back text f e).within s.standing s.runs passes₀ words₀ nine
