-- The line of a refusal from its form and the words that hold its numbers, and its length. Assumes nothing.
use mathlib.Core.Path.{◌≡◌, refl, ap, subst}
use mathlib.Core.List.{List, [], ◌∷◌}
use Prim.Native.Nat.{ℕ, ◌≤◌}
use native.Mathlib.Omega.{arith}
use lib.IntN.{pos}
use lib.ListN.{length}
use Rattle.refusal.specs.declared.Refusal.{Refusal}
use Rattle.refusal.specs.Refusal.{number_of}
use Rattle.line_form.specs.Forms.{bytes}
use Rattle.line_form.specs.Lengths.{slots}
use Rattle.line_form.specs.Written.{unheld_whole, unheld_number, unheld, form_text, Wrote}
use Rattle.report_line.specs.Result.{count}
use Rattle.report_line.specs.Refused.{refused_text}
use Rattle.report_line.proofs.Wide.{printed_wide, count_wide}

pub number_small : (r : Refusal) → number_of r ≤ 10
number_small Refusal.Malformed = omega arith
number_small Refusal.OverLimit = omega arith
number_small Refusal.OutOfRange = omega arith
number_small Refusal.OffSheet = omega arith
number_small Refusal.UnknownCorner = omega arith
number_small Refusal.Duplicate = omega arith
number_small Refusal.BufferTooShort = omega arith
number_small Refusal.NoSharedCorner = omega arith
number_small Refusal.PatchesClash = omega arith
number_small Refusal.NotPermitted = omega arith

refused_form : (r : Refusal) (line a b : ℕ) → unheld_whole a ≡ pos (number_of r) → unheld_whole b ≡ pos line
    → form_text (bytes "(refused # #)\n") (a ∷ b ∷ []) ≡ refused_text r line
unfolding form_text unheld unheld_number refused_text
refused_form r line a b e f = rw (e, f) refl

refused_short : (r : Refusal) (line : ℕ) → line ≤ 10000000 → length (refused_text r line) ≤ 127
unfolding refused_text slots
refused_short r line h =
    let n = number_small r in
    omega (arith, printed_wide (bytes "(refused # #)\n") (count (number_of r) ∷ count line ∷ []) (count_wide (number_of r) (omega arith), (count_wide line (omega arith), tt)))

-- ---- what its writer asks and leaves

module _ (r : Refusal) (line a b : ℕ) (e : unheld_whole a ≡ pos (number_of r)) (f : unheld_whole b ≡ pos line) where
  pub refused_room : (out : List ℕ) → line ≤ 10000000 → 128 ≤ length out → length (form_text (bytes "(refused # #)\n") (a ∷ b ∷ [])) ≤ length out
  refused_room out h k = omega (arith, ap length (refused_form r line a b e f), refused_short r line h, k)

  pub refused_wrote : (old new : List ℕ) (n : ℕ) → Wrote (form_text (bytes "(refused # #)\n") (a ∷ b ∷ [])) old new n → Wrote (refused_text r line) old new n
  refused_wrote old new n w = subst (λ (t : List ℕ). Wrote t old new n) (refused_form r line a b e f) w
