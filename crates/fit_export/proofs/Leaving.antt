-- The exported fit as the code leaves it: too short, no fit, a fit. Assumes nothing.
use mathlib.Core.Path.{◌≡◌, refl, sym, ap, ◌∙◌}
use mathlib.Core.Bool.{Bool, true, false, ◌||◌, true≢false}
use mathlib.Core.List.{List}
use Prim.Native.Nat.{ℕ, ◌≤◌}
use borrow.Author.Tests.{ltb-false}
use lib.ListN.{length}
use lib.Ieee.{Float}
use Rattle.std.specs.Prelude.{Some, None}
use Rattle.homography.specs.Fit.{Answer, homography_of}
use Rattle.sheet.specs.declared.Position.{Position}
use Rattle.fit_export.specs.FitCall.{left, points_of, too_short, entered, fit_leaves, exported}

-- ---- lengths

-- none of two tests holds
neither : (a b : Bool) → (a || b) ≡ false → (a ≡ false) × (b ≡ false)
neither true b e = absurd (true≢false e)
neither false b e = (refl, e)

-- what the lengths have where they are not too short
pub record Long (a b c d places : ℕ) : Type 0 where
  pub first : 4 ≤ a
  pub second : 4 ≤ b
  pub third : 4 ≤ c
  pub fourth : 4 ≤ d
  pub room : 9 ≤ places

pub long_enough : {t : Bool} (a b c d places : ℕ) → t ≡ too_short a b c d places → t ≡ false → Long a b c d places
unfolding too_short
long_enough a b c d places e f =
    let p1 = neither _ _ (sym e ∙ f) in
    let p2 = neither _ _ p1.1 in
    let p3 = neither _ _ p2.1 in
    let p4 = neither _ _ p3.1 in
    record {
      first = ltb-false a 4 p1.0;
      second = ltb-false b 4 p2.0;
      third = ltb-false c 4 p3.0;
      fourth = ltb-false d 4 p4.0;
      room = ltb-false places 9 p4.1;
    }

-- ---- the answer, t being whether the lengths are too short

module _ (cx cy px py out : List Float) {t : Bool} (et : t ≡ too_short (length cx) (length cy) (length px) (length py) (length out)) where
  pub leaves_short : t ≡ true → left 0 out ≡ exported cx cy px py out
  unfolding exported
  leaves_short e = rw (← et, e)

  module _ (e : t ≡ false) {cells corners : List Position} {fit : Answer} (ec : cells ≡ points_of cx cy) (ep : corners ≡ points_of px py) (ef : fit ≡ homography_of cells corners) where
    answer : fit ≡ homography_of (points_of cx cy) (points_of px py)
    answer = ef ∙ rw (ec, ep)

    pub leaves_none : fit ≡ None → left 0 out ≡ exported cx cy px py out
    unfolding exported fit_leaves
    leaves_none n = rw (← et, e, ← answer, n)

    pub leaves_fit : {h now : List Float} → fit ≡ Some h → now ≡ entered h out → left 1 now ≡ exported cx cy px py out
    unfolding exported fit_leaves
    leaves_fit {h} {now} n w = rw (← et, e, ← answer, n) (ap (left 1) w)
