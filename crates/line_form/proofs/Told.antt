-- Forms that are told apart by their first bytes: what is printed from one has not the other, and a line whose second byte is another one has
-- not the form. Assumes nothing.
use mathlib.Core.Path.{◌≡◌, refl, sym, ap, ◌∙◌}
use mathlib.Core.Bool.{Bool, true, false, ◌||◌, true≢false, cond}
use mathlib.Core.List.{List, [], ◌∷◌}
use Prim.Native.Nat.{ℕ, suc}
use native.Mathlib.Omega.{arith}
use borrow.Author.Tests.{eqb-true, le-leb}
use lib.Dec.{eqb}
use lib.ListN.{length}
use Rattle.line_form.specs.Forms.{Number, is_slot, printed, no_piece, byte_piece, misfit, fit_of, second_is}
use Rattle.line_form.proofs.Laws.{piece_byte, byte_fits, byte_printed}

-- the first bytes of two forms, which are no slots, tell them apart
unfoldable pub told : List ℕ → List ℕ → Bool
told [] form = false
told (c ∷ other) [] = false
told (c ∷ other) (d ∷ form) = cond (is_slot c || is_slot d) false (cond (eqb d c) (told other form) true)

first_misfits : (c : ℕ) (form text : List ℕ) → is_slot c ≡ false → byte_piece c text ≡ no_piece → fit_of (c ∷ form) text ≡ misfit
unfolding fit_of
first_misfits c form text e h = rw (piece_byte c text e, h)

pub told_misfits : (other form : List ℕ) (ns : List Number) → told other form ≡ true → fit_of other (printed form ns) ≡ misfit
unfolding told
told_misfits [] form ns e = absurd (true≢false (sym e))
told_misfits (c ∷ other) [] ns e = absurd (true≢false (sym e))
told_misfits (c ∷ other) (d ∷ form) ns e = go (is_slot c) (is_slot d) (eqb d c) refl refl refl (λ h. told_misfits other form ns h) e
  where
    go : (x y z : Bool) → is_slot c ≡ x → is_slot d ≡ y → eqb d c ≡ z → (told other form ≡ true → fit_of other (printed form ns) ≡ misfit)
        → cond (x || y) false (cond z (told other form) true) ≡ true → fit_of (c ∷ other) (printed (d ∷ form) ns) ≡ misfit
    go true y z p q r ih h = absurd (true≢false (sym h))
    go false true z p q r ih h = absurd (true≢false (sym h))
    go false false true p q r ih h =
        ap (fit_of (c ∷ other)) (byte_printed d form ns q ∙ ap (λ (b : ℕ). b ∷ printed form ns) (eqb-true d c r)) ∙ byte_fits other c (printed form ns) p ∙ ih h
    go false false false p q r ih h = ap (fit_of (c ∷ other)) (byte_printed d form ns q) ∙ first_misfits c other (d ∷ printed form ns) p (rw r)

-- a line whose second byte is another one than the form's
pub second_misfits : (a b : ℕ) (form line : List ℕ) → is_slot a ≡ false → is_slot b ≡ false → second_is b line ≡ false → fit_of (a ∷ b ∷ form) line ≡ misfit
second_misfits a b form [] p q h = first_misfits a (b ∷ form) [] p refl
second_misfits a b form (d ∷ line) p q h = first (eqb d a) refl
  where
    after : (line : List ℕ) → second_is b (a ∷ line) ≡ false → fit_of (b ∷ form) line ≡ misfit
    after [] f = first_misfits b form [] q refl
    after (y ∷ line) f = first_misfits b form (y ∷ line) q (rw (rw (le-leb 2 (suc (suc (length line))) (omega arith)) at f))

    first : (t : Bool) → eqb d a ≡ t → fit_of (a ∷ b ∷ form) (d ∷ line) ≡ misfit
    first true f = ap (λ (x : ℕ). fit_of (a ∷ b ∷ form) (x ∷ line)) (eqb-true d a f) ∙ byte_fits (b ∷ form) a line p ∙ after line h
    first false f = first_misfits a (b ∷ form) (d ∷ line) p (rw f)
