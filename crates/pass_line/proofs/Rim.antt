-- A line by whether the rim was reached, and four words one by one. Assumes nothing.
use mathlib.Core.Path.{◌≡◌, refl}
use mathlib.Core.Bool.{Bool, true, false, cond}
use mathlib.Core.List.{List, [], ◌∷◌}
use Prim.Native.Nat.{ℕ}
use native.Mathlib.Omega.{arith}
use lib.ListN.{length, get_or}
use Rattle.line_form.specs.Written.{form_text}

pub by_rim : {text : List ℕ} (on off words : List ℕ) (t : Bool) → (t ≡ true → form_text on words ≡ text) → (t ≡ false → form_text off words ≡ text)
    → form_text (cond t on off) words ≡ text
by_rim on off words true y n = y refl
by_rim on off words false y n = n refl

pub four_of : (l : List ℕ) → 4 ≡ length l → l ≡ get_or l 0 0 ∷ get_or l 1 0 ∷ get_or l 2 0 ∷ get_or l 3 0 ∷ []
four_of [] e = absurd (omega arith)
four_of (a ∷ []) e = absurd (omega arith)
four_of (a ∷ b ∷ []) e = absurd (omega arith)
four_of (a ∷ b ∷ c ∷ []) e = absurd (omega arith)
four_of (a ∷ b ∷ c ∷ d ∷ []) e = refl
four_of (a ∷ b ∷ c ∷ d ∷ f ∷ l) e = absurd (omega arith)
