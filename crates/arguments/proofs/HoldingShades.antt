-- The shades that are lent, put into the arrays in which the passes hold the corners. Assumes nothing.
use Rattle.std.specs.Prelude.{Some, None}
use mathlib.Core.Path.{◌≡◌, refl, sym, ap, ◌∙◌}
use mathlib.Core.Bool.{Bool, true, false, not, cond}
use mathlib.Core.List.{List}
use Prim.Native.Nat.{ℕ, zero, suc, ◌≤◌}
use native.Mathlib.Omega.{arith}
use borrow.Author.Tests.{ltb-true, ltb-false}
use borrow.Rule.Slice.PartMut.{put_mid}
use lib.Dec.{eqb, ltb}
use lib.ListN.{length, get_or, take, replicate}
use lib.Seq.{take-length}
use Rattle.std.specs.List.{list_any}
use Rattle.std.proofs.lemmas.Bool.{ne_eqb}
use Rattle.sheet.specs.Shades.{bare, shade_of, shade_held}
use Rattle.labels.proofs.Below.{any_none}
use Rattle.arguments.specs.Shades.{stands, any_shade, shade_at}
use Rattle.arguments.proofs.Chains.{any_listed}
use Rattle.arguments.proofs.Holding.{front_there, front_beyond}

-- a byte stands for a shade if it is not 0
pub stands_if : (b : ℕ) → not (eqb b 0) ≡ stands (shade_of b)
unfolding stands shade_of
stands_if zero = refl
stands_if (suc k) = ap not (ne_eqb (suc k) 0 (λ e. omega arith))

nought_bare : shade_of 0 ≡ bare
unfolding shade_of
nought_bare = refl

not_standing : (b : ℕ) → stands (shade_of b) ≡ false → shade_of b ≡ bare
unfolding stands shade_of
not_standing zero e = refl
not_standing (suc k) e = absurd (no e)
  where
    no : true ≡ false → ⊥
    no q = let z : ◌≡◌ {A = ℕ} 0 1 = ap (λ (b : Bool). cond b 0 1) q in omega arith

-- ---- whether any of a list stands, and of its first n

any_of_first : (shades : List ℕ) (n : ℕ) → n ≤ length shades → list_any (λ b. stands (shade_of b)) (take n shades) ≡ any_shade shades n
unfolding any_shade
any_of_first shades n h = any_listed (λ b. stands (shade_of b)) shades n h

pub any_of_all : (shades : List ℕ) → list_any (λ b. stands (shade_of b)) shades ≡ any_shade shades (length shades)
any_of_all shades = ap (list_any (λ b. stands (shade_of b))) (sym (take-length shades)) ∙ any_of_first shades (length shades) (omega arith)

pub any_of_front : (shades : List ℕ) (n : ℕ) → n ≤ length shades → any_shade (take n shades) (length (take n shades)) ≡ any_shade shades n
any_of_front shades n h = sym (any_of_all (take n shades)) ∙ any_of_first shades n h

-- ---- the shades of n corners at the front of an array of zeros

pub shades_some : (shades : List ℕ) (n : ℕ) → n ≤ length shades → {bytes : List ℕ} → bytes ≡ take n shades
    → (m : ℕ) → shade_held (Some (put_mid 0 n (replicate 1024 0) bytes)) m ≡ shade_at shades n m
unfolding shade_held shade_at
shades_some shades n long {bytes} are m = go (ltb m n) refl
  where
    go : (t : Bool) → ltb m n ≡ t → shade_of (get_or (put_mid 0 n (replicate 1024 0) bytes) m 0) ≡ cond t (shade_of (get_or shades m 0)) bare
    go true e = ap shade_of (front_there 0 shades n long {before = replicate 1024 0} refl are _ m (ltb-true m n e))
    go false e = ap shade_of (front_beyond 0 shades n long {before = replicate 1024 0} refl are m (ltb-false m n e)) ∙ nought_bare

-- where none stands, none is held
pub shades_none : (shades : List ℕ) (n : ℕ) → any_shade shades n ≡ false → (m : ℕ) → shade_held None m ≡ shade_at shades n m
unfolding any_shade shade_held shade_at
shades_none shades n none m = go (ltb m n) refl
  where
    go : (t : Bool) → ltb m n ≡ t → bare ≡ cond t (shade_of (get_or shades m 0)) bare
    go true e = sym (not_standing _ (any_none (λ j. stands (shade_of (get_or shades j 0))) n m none (ltb-true m n e)))
    go false e = refl
