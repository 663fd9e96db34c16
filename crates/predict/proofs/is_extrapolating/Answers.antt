-- `predict::is_extrapolating` meets its contract: the four sides, one after the other. Assumes nothing.
use mathlib.Core.Path.{◌≡◌, refl, sym, ap, ◌∙◌}
use mathlib.Core.Bool.{Bool, true, false, not, ◌&&◌}
use Prim.Native.Nat.{ℕ}
use Rattle.sheet.specs.declared.Corner.{Corner}
use Rattle.sheet.specs.Corners.{seen_of}
use Rattle.predict.specs.Predict.{has_neighbour, extrapolating}
use Rattle.predict.specs.declared.Side.{Side}
use Rattle.predict.proofs.is_extrapolating.Goals as goal
use Rattle.predict.proofs.is_extrapolating.Goals.{Start, Joined-has_neighbour-3, then-has_neighbour, else-has_neighbour, then-has_neighbour-2, else-has_neighbour-2, then-has_neighbour-3, else-has_neighbour-3}

-- a test more after one that passed, and after one that did not
more : {r s x a b : Bool} → s ≡ a → s ≡ true → r ≡ x → x ≡ b → r ≡ (a && b)
more p q e f = e ∙ f ∙ rw (sym p ∙ q)

less : {r s a : Bool} (b : Bool) → s ≡ a → s ≡ false → r ≡ s → r ≡ (a && b)
less b p q e = e ∙ q ∙ rw (sym p ∙ q)

regroup : (a b c d : Bool) → (((a && b) && c) && d) ≡ (a && b && c && d)
regroup true b c d = and_then b
  where
    and_then : (b : Bool) → ((b && c) && d) ≡ (b && c && d)
    and_then true = refl
    and_then false = refl
regroup false b c d = refl

module _ (c : Joined-has_neighbour-3) (corner : ℕ → Corner) where
  abbrev on : Side → Bool
  on side = has_neighbour (seen_of corner c.args.sheet.now) c.args.c side

  two : c.if-has_neighbour.value ≡ (on Side.MinusI && on Side.PlusI)
  two = elim c.if-has_neighbour.branch [
    | then-has_neighbour w ↦ more (c.has_neighbour.ensures corner) w.if-has_neighbour.true w.value-is (w.has_neighbour-then-has_neighbour.ensures corner)
    | else-has_neighbour w ↦ less _ (c.has_neighbour.ensures corner) w.if-has_neighbour.false w.value-is
  ]

  three : c.if-has_neighbour-2.value ≡ ((on Side.MinusI && on Side.PlusI) && on Side.MinusJ)
  three = elim c.if-has_neighbour-2.branch [
    | then-has_neighbour-2 w ↦ more two w.if-has_neighbour-2.true w.value-is (w.has_neighbour-then-has_neighbour-2.ensures corner)
    | else-has_neighbour-2 w ↦ less _ two w.if-has_neighbour-2.false w.value-is
  ]

  four : c.if-has_neighbour-3.result ≡ (((on Side.MinusI && on Side.PlusI) && on Side.MinusJ) && on Side.PlusJ)
  four = elim c.if-has_neighbour-3.branch [
    | then-has_neighbour-3 w ↦ more three w.if-has_neighbour-3.true w.result-is (w.has_neighbour-then-has_neighbour-3.ensures corner)
    | else-has_neighbour-3 w ↦ less _ three w.if-has_neighbour-3.false w.result-is
  ]

  all : c.if-has_neighbour-3.result ≡ (on Side.MinusI && on Side.PlusI && on Side.MinusJ && on Side.PlusJ)
  all = four ∙ regroup (on Side.MinusI) (on Side.PlusI) (on Side.MinusJ) (on Side.PlusJ)

pub returns : goal.returns
unfolding extrapolating
returns c = λ corner. ap not (all c corner)
