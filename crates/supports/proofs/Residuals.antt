-- Residuals, one after the other: the largest of them, all of them recorded, and whether all are finite. Assumes nothing.
use Rattle.std.specs.Prelude.{Option}
use mathlib.Core.Path.{◌≡◌, refl, ap}
use mathlib.Core.Bool.{cond, ◌&&◌}
use mathlib.Core.List.{List, [], ◌∷◌}
use lib.Ieee.{Float, lt}
use Rattle.std.specs.List.{fold, list_all}
use Rattle.binary32.specs.Ranges.{is_finite, all_finite}
use Rattle.passes.specs.Local.{worst, recorded, recorded_all}

pub worst_is : (m : Float) (rs : List Float) → worst m rs ≡ fold (λ (m r : Float). cond (lt m r) r m) m rs
unfolding worst
worst_is m [] = refl
worst_is m (r ∷ rs) = worst_is (cond (lt m r) r m) rs

pub recorded_is : (l : Option Float) (rs : List Float) → recorded_all l rs ≡ fold recorded l rs
unfolding recorded_all
recorded_is l [] = refl
recorded_is l (r ∷ rs) = recorded_is (recorded l r) rs

pub all_finite_is : (rs : List Float) → all_finite rs ≡ list_all is_finite rs
unfolding all_finite
all_finite_is [] = refl
all_finite_is (r ∷ rs) = ap (λ t. is_finite r && t) (all_finite_is rs)
