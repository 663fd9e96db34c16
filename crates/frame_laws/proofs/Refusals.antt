-- The first check that a line fails, and how the reading of a frame ends. Assumes nothing.
use Rattle.std.specs.Prelude.{Ok, Err}
use mathlib.Core.Path.{◌≡◌, refl, subst}
use mathlib.Core.Bool.{Bool, true, false, cond}
use mathlib.Core.List.{List, [], ◌∷◌, ◌++◌}
use Prim.Native.Nat.{ℕ, suc, ◌+◌, ◌<◌}
use native.Mathlib.Omega.{arith}
use lib.ListN.{length, get_or, take}
use Rattle.refusal.specs.declared.Refusal.{Refusal}
use Rattle.arguments.specs.Arguments.{Checked, refused_if}
use Rattle.frame_line.specs.Table.{turn_at, may_end}
use Rattle.frame_line.specs.Lines.{Line, kind_of, LineRead, ill_formed, line, read_line}
use Rattle.std.proofs.Common.{Option, None, Some}
use Rattle.frame_check.specs.Checks.{checks_in_order}
use Rattle.frame.specs.Frame.{outside_in, over_in, twice_in, forbidden_in, Frame, parts_of, first_set, second_set, patch_line, checked_line, Step, stopped, onward, step_by, step_with, step_line, FrameRead, refused_at, accepted, finish, at_end, going, read_lines}
use Rattle.frame.specs.Text.{FirstCheck, is_first, too_many, is_wild, is_off_sheet, is_unknown, is_doubled, is_not_permitted, FirstFault, has_no_form, not_its_turn, fails, Joinable, Unjoined, Passed, none_yet, one_more}
use Rattle.frame_laws.proofs.Joining.{Finishing, is_whole, not_joined, finishing}

-- ---- a line that fails

first_check : (f : ℕ → Bool) (over twice forbidden : Bool) (s : Refusal) → checks_in_order f over twice forbidden ≡ Err s → FirstCheck f over twice forbidden s
unfolding checks_in_order
first_check f over twice forbidden s = go (f 1) over (f 3) (f 4) (f 5) twice forbidden refl refl refl refl refl refl refl
  where
    same : (r : Refusal) → FirstCheck f over twice forbidden r → ◌≡◌ {A = Checked} (Err r) (Err s) → FirstCheck f over twice forbidden s
    same r w e = let d : r ≡ s = cc in subst (FirstCheck f over twice forbidden) d w

    go : (t2 t3 t4 t5 t6 t7 t8 : Bool) → f 1 ≡ t2 → over ≡ t3 → f 3 ≡ t4 → f 4 ≡ t5 → f 5 ≡ t6 → twice ≡ t7 → forbidden ≡ t8
        → refused_if t2 Refusal.Malformed
        (refused_if t3 Refusal.OverLimit
        (refused_if t4 Refusal.OutOfRange
        (refused_if t5 Refusal.OffSheet
        (refused_if t6 Refusal.UnknownCorner (refused_if t7 Refusal.Duplicate (refused_if t8 Refusal.NotPermitted (Ok tt)))))))
        ≡ Err s → FirstCheck f over twice forbidden s
    go true t3 t4 t5 t6 t7 t8 a b c d g h i e = same _ (is_first a) e
    go false true t4 t5 t6 t7 t8 a b c d g h i e = same _ (too_many a b) e
    go false false true t5 t6 t7 t8 a b c d g h i e = same _ (is_wild a b c) e
    go false false false true t6 t7 t8 a b c d g h i e = same _ (is_off_sheet a b c d) e
    go false false false false true t7 t8 a b c d g h i e = same _ (is_unknown a b c d g) e
    go false false false false false true t8 a b c d g h i e = same _ (is_doubled a b c d g h) e
    go false false false false false false true a b c d g h i e = same _ (is_not_permitted a b c d g h i) e
    go false false false false false false false a b c d g h i e = absurd (let z : ◌≡◌ {A = ℕ} 0 1 = cc in omega arith)

check_first : (f : ℕ → Bool) (over twice forbidden : Bool) (s : Refusal) → FirstCheck f over twice forbidden s → checks_in_order f over twice forbidden ≡ Err s
unfolding checks_in_order
check_first f over twice forbidden s (is_first a) = rw a
check_first f over twice forbidden s (too_many a b) = rw (a, b)
check_first f over twice forbidden s (is_wild a b c) = rw (a, b, c)
check_first f over twice forbidden s (is_off_sheet a b c d) = rw (a, b, c, d)
check_first f over twice forbidden s (is_unknown a b c d g) = rw (a, b, c, d, g)
check_first f over twice forbidden s (is_doubled a b c d g h) = rw (a, b, c, d, g, h)
check_first f over twice forbidden s (is_not_permitted a b c d g h i) = rw (a, b, c, d, g, h, i)

module _ (stage : ℕ) (f : Frame) where
  -- where a line leads, and why
  pub data Stepping (text : List ℕ) : Step → Type 0 where
    stops : (r : Refusal) → FirstFault stage f (read_line text) r → Stepping text (stopped r)
    goes : (l : Line) (to : ℕ) → read_line text ≡ line l → turn_at stage l.row ≡ Some to → checked_line (parts_of f) l ≡ Ok tt
        → Stepping text (onward to (f ++ (l ∷ [])))

  pub stepping : (text : List ℕ) → Stepping text (step_line stage f text)
  unfolding step_line checked_line
  stepping text = go (read_line text) refl
    where
      by : (l : Line) (u : Option ℕ) (c : Checked) → read_line text ≡ line l → turn_at stage l.row ≡ u → checked_line (parts_of f) l ≡ c
          → Stepping text (step_by u c (f ++ (l ∷ [])))
      by l None c r p q = stops Refusal.Malformed (rw r (not_its_turn p))
      by l (Some to) (Ok tt) r p q = goes l to r p q
      by l (Some to) (Err s) r p q = stops s (rw r (fails p (first_check _ _ _ _ s q)))

      go : (r : LineRead) → read_line text ≡ r → Stepping text (step_with stage f r)
      go ill_formed r = stops Refusal.Malformed (rw r has_no_form)
      go (line l) r = by l (turn_at stage l.row) (checked_line (parts_of f) l) r refl refl

  pub fault_stops : (l : LineRead) (r : Refusal) → FirstFault stage f l r → step_with stage f l ≡ stopped r
  unfolding checked_line
  fault_stops l r has_no_form = refl
  fault_stops l r (not_its_turn a) = rw a
  fault_stops l r (fails {l = m} a b) =
      rw (
        a,
        check_first (outside_in (parts_of f) m) (over_in (parts_of f) (kind_of m)) (twice_in (parts_of f) (kind_of m) m.numbers)
            (forbidden_in (parts_of f) (kind_of m)) r b,
      )

-- ---- all lines

-- what comes of the lines from number n on: all pass and the frame is whole; or a line fails, the k-th of them; or all pass, and one of the
-- first four is missing, or the pass behind an as line; or all pass and may end there, and the two sets are not joined
pub data Ending (n stage : ℕ) (f : Frame) (texts : List (List ℕ)) : FrameRead → Type 0 where
  all_read : (last : ℕ) (g : Frame) → Passed stage f texts last g → may_end last ≡ true
      → ((parts_of g).patched ≡ true → Joinable (first_set (parts_of g)) (second_set (parts_of g))) → Ending n stage f texts (accepted g)
  one_fails : (k m last : ℕ) (g : Frame) (r : Refusal) → k < length texts → m ≡ n + k → Passed stage f (take k texts) last g
      → FirstFault last g (read_line (get_or texts k [])) r
      → Ending n stage f texts (refused_at r m)
  one_missing : (m last : ℕ) (g : Frame) → m ≡ n + length texts → Passed stage f texts last g → may_end last ≡ false
      → Ending n stage f texts (refused_at Refusal.Malformed m)
  sets_apart : (m last : ℕ) (g : Frame) (r : Refusal) → m ≡ patch_line (parts_of g) → Passed stage f texts last g → may_end last ≡ true
      → (parts_of g).patched ≡ true → Unjoined (first_set (parts_of g)) (second_set (parts_of g)) r → Ending n stage f texts (refused_at r m)

-- one line more in front
ending_more : (n stage : ℕ) (f : Frame) (text : List ℕ) (texts : List (List ℕ)) (stage' : ℕ) (f' : Frame) → step_line stage f text ≡ onward stage' f'
    → (o : FrameRead)
    → Ending (suc n) stage' f' texts o → Ending n stage f (text ∷ texts) o
ending_more n stage f text texts stage' f' e o (all_read last g p h j) = all_read last g (one_more e p) h j
ending_more n stage f text texts stage' f' e o (one_fails k m last g r h q p w) = one_fails (suc k) m last g r (omega arith) (omega arith) (one_more e p) w
ending_more n stage f text texts stage' f' e o (one_missing m last g q p h) = one_missing m last g (omega arith) (one_more e p) h
ending_more n stage f text texts stage' f' e o (sets_apart m last g r q p h t u) = sets_apart m last g r q (one_more e p) h t u

pub ending : (n stage : ℕ) (f : Frame) (texts : List (List ℕ)) → Ending n stage f texts (read_lines n stage f texts)
unfolding read_lines at_end
ending n stage f [] = go (may_end stage) refl
  where
    end : may_end stage ≡ true → {o : FrameRead} → Finishing f o → Ending n stage f [] o
    end e (is_whole j) = all_read stage f none_yet e j
    end e (not_joined r t u) = sets_apart _ stage f r refl none_yet e t u

    go : (x : Bool) → may_end stage ≡ x → Ending n stage f [] (cond x (finish f) (refused_at Refusal.Malformed n))
    go true e = end e (finishing f)
    go false e = one_missing n stage f (omega arith) none_yet e
ending n stage f (text ∷ texts) = go (stepping stage f text) refl (λ stage' f'. ending (suc n) stage' f' texts)
  where
    go : {s : Step} → Stepping stage f text s → step_line stage f text ≡ s
        → ((stage' : ℕ) (f' : Frame) → Ending (suc n) stage' f' texts (read_lines (suc n) stage' f' texts))
        → Ending n stage f (text ∷ texts) (going n s (λ stage' f'. read_lines (suc n) stage' f' texts))
    go (stops r w) e rest = one_fails 0 n stage f r (omega arith) (omega arith) none_yet w
    go (goes l to r p q) e rest = ending_more n stage f text texts to (f ++ (l ∷ [])) e (read_lines (suc n) to (f ++ (l ∷ [])) texts) (rest to (f ++ (l ∷ [])))
