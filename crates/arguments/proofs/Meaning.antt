-- A call is refused with a number exactly if that number's meaning holds and none of those tried before it, and is let pass exactly if it is
-- accepted. Assumes nothing.
use Rattle.std.specs.Prelude.{Ok, Err, Option, Some, None}
use mathlib.Core.Path.{◌≡◌, refl, sym, subst}
use mathlib.Core.Bool.{Bool, true, false}
use mathlib.Core.List.{List}
use Prim.Native.Nat.{ℕ, ◌<◌, ◌≤◌}
use borrow.Author.Tests.{lt-ltb, le-ltb, ltb-true, ltb-false, leb-true, le-leb}
use lib.ListN.{get_or}
use Rattle.refusal.specs.declared.Refusal.{Refusal}
use Rattle.sheet.specs.Words.{label_of}
use Rattle.labels.specs.Kept.{box_differs}
use Rattle.labels.proofs.Below.{no_both, any_hit, any_yes}
use Rattle.labels.proofs.Keeping.{kept_right, right_kept, marked_empty}
use Rattle.arguments.specs.Arguments.{Checked, Lent, corner_count, too_short, over_limit, some_corner_outside, settings_outside, pass_outside, out_of_range, unknown, unknown_at, unknown_corner, doubled_corner, refused_if, checked}
use Rattle.arguments.specs.Accepted.{LongEnough}
use Rattle.arguments.specs.Meaning.{NoThree, NamesUnknown, RefusedFor, Meaning, RefusedExactlyIf, RefusedForItsBox, MarkAlone}
use Rattle.arguments.specs.declared.Pass.{Pass}
use Rattle.arguments.specs.declared.Settings.{Settings}
use Rattle.arguments.proofs.Chains.{or_false, or_false_both}
use Rattle.arguments.proofs.Laws.{long_enough, not_short, corners_inside, corners_not_outside, settings_inside, settings_not_outside, pass_inside, pass_not_outside, known, not_unknown, on_two_places, doubled, accepted, accepted_fine}
use Rattle.arguments.proofs.Tests.{refused_7, refused_2, refused_3, refused_5, refused_6, refused_none}

-- a test that cannot say no says yes
yes_else : (b : Bool) → (b ≡ false → ⊥) → b ≡ true
yes_else true f = refl
yes_else false f = absurd (f refl)

-- ---- each test by its meaning

module _ (l : Lent) (settings : Settings) (pass : Pass) where
  is_short : (LongEnough l pass → ⊥) → too_short l pass ≡ true
  is_short f = yes_else (too_short l pass) (λ e. f (long_enough l pass e))

  is_over : 1024 < corner_count l → over_limit l ≡ true
  unfolding over_limit
  is_over h = lt-ltb 1024 (corner_count l) h

  not_over : corner_count l ≤ 1024 → over_limit l ≡ false
  unfolding over_limit
  not_over h = le-ltb 1024 (corner_count l) h

  over : over_limit l ≡ true → 1024 < corner_count l
  unfolding over_limit
  over e = ltb-true 1024 (corner_count l) e

  few : over_limit l ≡ false → corner_count l ≤ 1024
  unfolding over_limit
  few e = ltb-false 1024 (corner_count l) e

  no_three : out_of_range l settings pass ≡ false → NoThree l settings pass
  unfolding out_of_range
  no_three e =
      let a = or_false_both (some_corner_outside l.corners l.shades) _ e in
      let b = or_false_both (settings_outside settings) _ a.1 in
      let d = or_false_both (pass_outside pass) _ b.1 in
      record {
        numbers =
            record {
              corners_inside = λ k h. (corners_inside l.corners l.shades a.0 k h).0;
              shades_inside = λ k h. (corners_inside l.corners l.shades a.0 k h).1;
              settings_inside = settings_inside settings b.0;
              pass_inside = pass_inside pass d.0;
            };
        box_right = kept_right _ _ d.1;
      }

  not_three : NoThree l settings pass → out_of_range l settings pass ≡ false
  unfolding out_of_range
  not_three w =
      or_false _ _ (corners_not_outside l.corners l.shades w.numbers.corners_inside w.numbers.shades_inside)
      (or_false _ _ (settings_not_outside _ w.numbers.settings_inside)
      (or_false _ _ (pass_not_outside _ w.numbers.pass_inside) (right_kept _ _ w.box_right)))

  is_outside : (NoThree l settings pass → ⊥) → out_of_range l settings pass ≡ true
  is_outside f = yes_else (out_of_range l settings pass) (λ e. f (no_three e))

-- some place names a corner from n on
unknown_corner_lem : (n : ℕ) (label : Option ℕ) (P : Type 0) → unknown n label ≡ true → ((k : ℕ) → label ≡ Some k → n ≤ k → P) → P
unfolding unknown
unknown_corner_lem n None P e f = absurd (no_both false e refl)
unknown_corner_lem n (Some k) P e f = f k refl (leb-true n k e)

names_unknown : (n : ℕ) (sheet : List ℕ) → unknown_corner n sheet ≡ true → NamesUnknown n sheet
unfolding unknown_corner unknown_at
names_unknown n sheet e =
    let a = any_yes (unknown_at n sheet) 16384 e in
    unknown_corner_lem n (label_of (get_or sheet a.number 0)) (NamesUnknown n sheet) a.passes
    (λ k h g. record { place = a.number; corner = k; below = a.below; holds = h; unknown = g })

is_unknown : (n : ℕ) (sheet : List ℕ) → NamesUnknown n sheet → unknown_corner n sheet ≡ true
unfolding unknown_corner unknown_at unknown
is_unknown n sheet w = any_hit (unknown_at n sheet) 16384 w.place w.below (rw w.holds (le-leb n w.corner w.unknown))

-- ---- all tests in 01's order

module _ (l : Lent) (settings : Settings) (pass : Pass) where
  -- one test of the chain: its number's meaning where it refuses, and else the meaning of what the rest says
  tried : (b : Bool) (r : Refusal) (rest : Checked) → (b ≡ true → RefusedFor l settings pass r) → (b ≡ false → Meaning l settings pass rest) → Meaning l settings pass (refused_if b r rest)
  tried true r rest f g = f refl
  tried false r rest f g = g refl

  -- the answer means what holds
  means : Meaning l settings pass (checked l settings pass)
  unfolding checked
  means =
      tried (too_short l pass) _ _ (λ e w. no_both (too_short l pass) e (not_short l pass w))
      (λ a7. tried (over_limit l) _ _ (λ e. (long_enough l pass a7, over l settings pass e))
      (λ a2. tried (out_of_range l settings pass) _ _ (λ e. (long_enough l pass a7, few l settings pass a2, λ w. no_both (out_of_range l settings pass) e (not_three l settings pass w)))
      (λ a3. tried (unknown_corner (corner_count l) l.sheet) _ _ (λ e. (long_enough l pass a7, few l settings pass a2, no_three l settings pass a3, names_unknown _ _ e))
      (λ a5. tried (doubled_corner l.sheet) _ _ (λ e. (long_enough l pass a7, few l settings pass a2, no_three l settings pass a3, known _ _ a5, on_two_places _ e))
      (λ a6. accepted l settings pass (sym (refused_none l settings pass a7 a2 (sym a3) a5 a6)))))))

  -- what holds is answered
  meant : (answer : Checked) → Meaning l settings pass answer → checked l settings pass ≡ answer
  meant (Ok tt) w = accepted_fine l settings pass w
  meant (Err Refusal.BufferTooShort) w = sym (refused_7 l settings pass (is_short l settings pass w))
  meant (Err Refusal.OverLimit) w = sym (refused_2 l settings pass (not_short l pass w.0) (is_over l settings pass w.1))
  meant (Err Refusal.OutOfRange) w =
      sym (refused_3 l settings pass (not_short l pass w.0) (not_over l settings pass w.1) (sym (is_outside l settings pass w.2)))
  meant (Err Refusal.UnknownCorner) w =
      sym
      (refused_5 l settings pass (not_short l pass w.0) (not_over l settings pass w.1) (sym (not_three l settings pass w.2))
      (is_unknown _ _ w.3))
  meant (Err Refusal.Duplicate) w =
      sym
      (refused_6 l settings pass (not_short l pass w.0) (not_over l settings pass w.1) (sym (not_three l settings pass w.2))
      (not_unknown _ _ w.3) (doubled _ w.4))
  meant (Err Refusal.Malformed) w = absurd w
  meant (Err Refusal.OffSheet) w = absurd w
  meant (Err Refusal.NoSharedCorner) w = absurd w
  meant (Err Refusal.PatchesClash) w = absurd w
  meant (Err Refusal.NotPermitted) w = absurd w

pub refused_exactly_if : RefusedExactlyIf
refused_exactly_if l settings pass answer = (λ e. subst (Meaning l settings pass) e (means l settings pass), meant l settings pass answer)

-- ---- the label box

pub refused_for_its_box : RefusedForItsBox
refused_for_its_box l settings pass long few numbers = (
  λ e right. (subst (Meaning l settings pass) e (means l settings pass)).2 (record { numbers = numbers; box_right = right }),
  λ differs. meant l settings pass (Err Refusal.OutOfRange) (long, few, λ w. differs w.box_right),
)

pub mark_alone : MarkAlone
unfolding checked too_short over_limit out_of_range box_differs
mark_alone l settings pass a b e f = rw (marked_empty a e, marked_empty b f) refl
