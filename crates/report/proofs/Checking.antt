-- What the tests of a call say, one after the other. Assumes nothing.
use Rattle.std.specs.Prelude.{Err}
use mathlib.Core.Path.{◌≡◌, refl, sym, ap, ◌∙◌}
use mathlib.Core.Bool.{true, false}
use Rattle.std.proofs.Math.Bool.{or_comm}
use mathlib.Core.List.{List}
use Prim.Native.Nat.{ℕ, ◌+◌, ◌*◌, ◌≤◌, ◌<◌}
use native.Mathlib.Omega.{arith}
use borrow.Author.Tests.{lt-ltb, le-ltb, ltb-false}
use lib.Dec.{ltb}
use lib.ListN.{length}
use Rattle.refusal.specs.declared.Refusal.{Refusal}
use Rattle.arguments.proofs.Tests.{holds, fails}
use Rattle.arguments.proofs.Chains.{or_false, or_false_both, refused, passed}
use Rattle.report_line.specs.Result.{line_count}
use Rattle.report.specs.WriteResult.{TextLent, text_of, input_short, over_limit, wild, checked_rest, checked_text, checked_piece}
use Rattle.report_words.specs.Outcomes.{outcomes_in}
use Rattle.sizes.specs.Sizes.{outcome_size}
use Rattle.report.specs.Asked.{AllLent, text_from, CornersAsked, rest_checked}
use Rattle.report.proofs.Laws.{from_the_start}

-- ---- one refusal after the other

module _ (l : TextLent) where
  pub all_lent : input_short l ≡ false → AllLent l.passes l.words l.sheet
  unfolding input_short
  all_lent e =
      let r = or_false_both (ltb (length l.words) (outcome_size * l.passes)) _ e in
      record { words_long = ltb-false _ _ r.0; sheet_long = ltb-false _ _ r.1 }

  pub corners_asked : AllLent l.passes l.words l.sheet → over_limit l ≡ false → CornersAsked l.corners l.sheet
  unfolding over_limit
  corners_asked a f = record { few = ltb-false _ _ (or_false_both (ltb 16 l.passes) _ f).1; long = a.sheet_long }

  -- the whole text
  module _ (room : ℕ) where
    same_text : ltb room (length (text_from l.passes l.words l.sheet 0)) ≡ ltb room (length (text_of l))
    unfolding text_from
    same_text = ap (λ (t : List ℕ). ltb room (length t)) (from_the_start (outcomes_in l.passes l.words) l.sheet)

    pub text_7 : input_short l ≡ true → Err Refusal.BufferTooShort ≡ checked_text l room
    unfolding checked_text
    text_7 e = refused _ _ _ (sym (holds _ _ e))

    module _ (a : input_short l ≡ false) where
      pub text_7_too : ltb room (length (text_from l.passes l.words l.sheet 0)) ≡ true → Err Refusal.BufferTooShort ≡ checked_text l room
      unfolding checked_text
      text_7_too e = refused _ _ _ (sym (fails _ _ _ a (sym (sym same_text ∙ e))))

      pub text_rest : ltb room (length (text_from l.passes l.words l.sheet 0)) ≡ false → rest_checked l false ≡ checked_text l room
      unfolding checked_text checked_rest
      text_rest b = passed _ _ _ _ (or_false _ _ a (sym same_text ∙ b)) (rw (or_comm (wild l) false) refl)

  -- a piece
  module _ (from room : ℕ) where
    pub piece_7 : input_short l ≡ true → Err Refusal.BufferTooShort ≡ checked_piece l from room
    unfolding checked_piece
    piece_7 e = refused _ _ _ (sym (holds _ _ e))

    module _ (a : input_short l ≡ false) where
      pub piece_7_too : room < 128 → Err Refusal.BufferTooShort ≡ checked_piece l from room
      unfolding checked_piece
      piece_7_too h = refused _ _ _ (sym (fails _ _ _ a (sym (lt-ltb _ _ h))))

      pub piece_rest : 128 ≤ room → rest_checked l (ltb (l.passes + 49156) from) ≡ checked_piece l from room
      unfolding checked_piece
      piece_rest b = passed _ _ _ _ (or_false _ _ a (le-ltb _ _ b)) (ap (λ (n : ℕ). rest_checked l (ltb n from)) lines)
        where
          lines : l.passes + 49156 ≡ line_count l.passes
          lines = omega arith
