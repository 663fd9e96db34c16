-- A float within a range by std's `contains`, which asks `partial_cmp`, as `between` has it, which asks `le`. Assumes nothing.
use mathlib.Core.Path.{◌≡◌, refl, ap, ◌∙◌}
use mathlib.Core.Bool.{Bool, true, false, ◌&&◌, ◌||◌, cond}
use lib.Ieee.{Float, lt, le, eq}
use Rattle.std.specs.Prelude.{Some, None}
use Rattle.std.proofs.Common.{Less, Equal, Greater}
use Rattle.std.specs.Ordering.{float_partial_cmp, partial_le, partial_lt, is_some_and, is_le}
use Rattle.std.specs.declared.ops.RangeInclusive.{RangeInclusive}
use Rattle.std.specs.Range.{range_inclusive_start, range_inclusive_end, range_inclusive_exhausted, range_inclusive_contains}

-- what `partial_le` says of the three answers
said : (l e g : Bool) → is_some_and is_le (cond l (Some Less) (cond e (Some Equal) (cond g (Some Greater) None))) ≡ (l || e)
said true e g = refl
said false true g = refl
said false false true = refl
said false false false = refl

-- at most by `partial_cmp`, and by value
pub at_most : (x y : Float) → partial_le float_partial_cmp x y ≡ le x y
unfolding le
at_most x y = said (lt x y) (eq x y) (lt y x)

-- what `contains` answers at a range that still has its end
pub contained : (s : RangeInclusive Float) (a b x : Float) → range_inclusive_start s ≡ a → range_inclusive_end s ≡ b → range_inclusive_exhausted s ≡ false
    → range_inclusive_contains float_partial_cmp s x ≡ (le a x && le x b)
contained s a b x starts ends whole =
    ap (λ q. partial_le float_partial_cmp s.start x && cond q (partial_lt float_partial_cmp x s.end) (partial_le float_partial_cmp x s.end)) whole
    ∙ ap (λ l. l && partial_le float_partial_cmp x s.end) (at_most s.start x)
    ∙ ap (λ r. le s.start x && r) (at_most x s.end)
    ∙ ap (λ u. le u x && le x s.end) starts
    ∙ ap (λ u. le a x && le x u) ends
