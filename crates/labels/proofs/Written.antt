-- A walk over the places that hold something sees each place that passes a test that no empty place passes: the list of those that pass, and
-- whether one passes. Assumes nothing.
use mathlib.Core.Path.{◌≡◌, refl, sym, ap, ◌∙◌}
use mathlib.Core.Bool.{Bool, true, false, cond, ◌||◌}
use mathlib.Core.List.{List, [], ◌∷◌, ◌++◌, map, append-nil, append_assoc}
use Prim.Native.Nat.{ℕ, zero, suc, ◌+◌}
use native.Mathlib.Omega.{arith}
use borrow.Author.Tests.{eqb-true}
use lib.Dec.{eqb}
use lib.ListN.{get_or}
use Rattle.std.specs.List.{filter, list_any}
use Rattle.sheet.specs.Blank.{written_in, written_from}
use Rattle.labels.specs.Labelled.{passing, any_below}

-- one test more, in front and behind
pub behind : (t u v : Bool) → (t || (u || v)) ≡ ((u || t) || v)
behind true true v = refl
behind true false v = refl
behind false true v = refl
behind false false v = refl

module _ (sheet : List ℕ) (f : ℕ × ℕ → Bool) (none : (p : ℕ) → f (p, 0) ≡ false) where
  abbrev at : ℕ → Bool
  at p = f (p, get_or sheet p 0)

  found : ℕ → ℕ → List ℕ
  found from n = map (λ e. e.0) (filter f (written_in sheet from n))

  found_more : (p n : ℕ) → cond (at p) (p ∷ []) [] ++ found (suc p) n ≡ found p (suc n)
  unfolding found written_in
  found_more p n = go (eqb (get_or sheet p 0) 0) refl
    where
      empty : get_or sheet p 0 ≡ 0 → f (p, get_or sheet p 0) ≡ false
      empty e = ap (λ (w : ℕ). f (p, w)) e ∙ none p

      rest : List (ℕ × ℕ)
      rest = written_in sheet (suc p) n

      go : (t : Bool) → eqb (get_or sheet p 0) 0 ≡ t
          → cond (f (p, get_or sheet p 0)) (p ∷ []) [] ++ map (λ e. e.0) (filter f rest) ≡ map (λ e. e.0) (filter f (cond t rest ((p, get_or sheet p 0) ∷ rest)))
      go true e = rw (empty (eqb-true (get_or sheet p 0) 0 e))
      go false e = taken (f (p, get_or sheet p 0))
        where
          taken : (u : Bool) → cond u (p ∷ []) [] ++ map (λ e. e.0) (filter f rest) ≡ map (λ e. e.0) (cond u ((p, get_or sheet p 0) ∷ filter f rest) (filter f rest))
          taken true = refl
          taken false = refl

  passing_from : (from n : ℕ) → passing at (from + n) ≡ passing at from ++ found from n
  unfolding passing found written_in
  passing_from from zero = let z : from + 0 ≡ from = omega arith in ap (passing at) z ∙ sym (append-nil (passing at from))
  passing_from from (suc n) =
      let z : from + suc n ≡ suc from + n = omega arith in
      ap (passing at) z ∙ passing_from (suc from) n ∙ append_assoc (passing at from) (cond (at from) (from ∷ []) []) (found (suc from) n)
      ∙ ap (λ (l : List ℕ). passing at from ++ l) (found_more from n)

  -- the list of those that pass
  pub written_passing : map (λ e. e.0) (filter f (written_from sheet 0)) ≡ passing at 16384
  unfolding passing found
  written_passing = sym (passing_from 0 16384)

  any_from : (from n : ℕ) → any_below (from + n) at ≡ (list_any f (written_in sheet from n) || any_below from at)
  unfolding any_below written_in
  any_from from zero = let z : from + 0 ≡ from = omega arith in ap (λ (m : ℕ). any_below m at) z
  any_from from (suc n) =
      let z : from + suc n ≡ suc from + n = omega arith in
      ap (λ (m : ℕ). any_below m at) z ∙ any_from (suc from) n ∙ go (eqb (get_or sheet from 0) 0) refl
    where
      rest : List (ℕ × ℕ)
      rest = written_in sheet (suc from) n

      go : (t : Bool) → eqb (get_or sheet from 0) 0 ≡ t
          → (list_any f rest || (at from || any_below from at)) ≡ (list_any f (cond t rest ((from, get_or sheet from 0) ∷ rest)) || any_below from at)
      go true e = rw (ap (λ (w : ℕ). f (from, w)) (eqb-true (get_or sheet from 0) 0 e) ∙ none from)
      go false e = behind (list_any f rest) (at from) (any_below from at)

  -- whether one passes
  pub written_any : list_any f (written_from sheet 0) ≡ any_below 16384 at
  unfolding any_below
  written_any = sym (any_from 0 16384 ∙ end (list_any f (written_from sheet 0)))
    where
      end : (t : Bool) → (t || false) ≡ t
      end true = refl
      end false = refl
