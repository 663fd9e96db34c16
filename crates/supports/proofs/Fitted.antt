-- The fit on the supports from its parts, as the code has it. Assumes nothing.
use mathlib.Core.Path.{◌≡◌, refl, sym, ap, subst, ◌∙◌}
use mathlib.Core.Bool.{Bool, true, false}
use mathlib.Core.List.{List, [], ◌∷◌, map}
use Prim.Native.Nat.{ℕ, ◌≤◌}
use native.Mathlib.Omega.{arith}
use lib.Dec.{T, le→leb, lt→ltb}
use lib.IntN.{ℤ, pos, negsuc, nat_abs}
use Rattle.std.specs.Prelude.{Option, None, Some, length}
use Rattle.std.specs.Bool.{then_some}
use Rattle.std.specs.List.{All}
use Rattle.std.specs.Array.{list_steps}
use Rattle.std.specs.Iterator.{AlwaysYields, CallableAtEachTurn}
use Rattle.std.proofs.lemmas.Iterator.Adapters.{serves_from_places}
use Rattle.std.proofs.lemmas.List.Elements.{All-get_or}
use Rattle.elimination.specs.Tables.{table}
use lib.Ieee.{Float, nan, binary32, in_float, of_int}
use mir.Syntax.{w32}
use mir.Val.{to_z, of_z}
use Rattle.binary32.specs.Ranges.{all_finite}
use Rattle.sheet.specs.Cells.{OnSheet, cell_of}
use Rattle.sheet.specs.declared.Cell.{Cell}
use Rattle.sheet.specs.declared.Corner.{Corner}
use Rattle.sheet.specs.declared.Position.{Position}
use Rattle.sheet.proofs.Laws.{read_back, line_i, line_j}
use Rattle.homography.specs.Fit.{Answer, homography_of}
use Rattle.passes.specs.Local.{cell_point, pictured_at, residuals_of, LocalFit, none, fitted, trusted, local_fit}
use Rattle.supports.specs.Nearest.{places_of}
use Rattle.supports.specs.Fitted.{support_fit_of, four_residuals, trusted_points, points_fit}
use Rattle.supports.specs.declared.Support.{Support}
use Rattle.supports.proofs.Nearest.{nth}
use Rattle.supports.specs.declared.SupportFit.{SupportFit}

-- ---- a cell as a point

-- a small number is a float
small_float : (z : ℤ) → nat_abs z ≤ 64 → T (in_float binary32 z)
unfolding in_float
small_float (pos n) h = le→leb n 16777216 (omega arith)
small_float (negsuc n) h = lt→ltb n 16777216 (omega arith)

-- as the machine has it
pub float_fits : (z : ℤ) → nat_abs z ≤ 64 → T (in_float binary32 (to_z w32 (of_z w32 z)))
float_fits z h = rw (read_back z (omega arith)) (small_float z h)

pub point_is : (c : Cell) → OnSheet c → (record { x = of_int binary32 (to_z w32 (of_z w32 c.i)); y = of_int binary32 (to_z w32 (of_z w32 c.j)) }) ≡ cell_point c
unfolding cell_point
point_is c on = rw (read_back c.i (omega (arith, (line_i c on).small)), read_back c.j (omega (arith, (line_j c on).small)))

-- ---- the pictured corner

module _ (seen : Cell → Option Corner) (p : ℕ) {c : Cell} {r : Option Corner} (at : c ≡ cell_of p) (is : r ≡ seen c) where
  pub pictured_none : r ≡ None → (record { x = nan; y = nan }) ≡ pictured_at seen p
  unfolding pictured_at
  pictured_none e = rw (← at, ← is, e)

  pub pictured_corner : {corner : Corner} → r ≡ Some corner → corner.position ≡ pictured_at seen p
  unfolding pictured_at
  pictured_corner e = rw (← at, ← is, e)

-- ---- the fit

module _ (cells corners : List Position) {fit : Answer} (e : fit ≡ homography_of cells corners) where
  pub points_none : fit ≡ None → None ≡ support_fit_of (points_fit cells corners)
  unfolding points_fit trusted_points support_fit_of
  points_none g = rw (← e, g)

  -- the four residuals, and whether all are finite
  module _ {h : List Float} (found : fit ≡ Some h) {rs : List Float} (are : rs ≡ four_residuals h cells corners) {t : Bool} (said : t ≡ all_finite rs) where
    answer : homography_of cells corners ≡ Some h
    answer = sym e ∙ found

    pub points_wild : t ≡ false → None ≡ support_fit_of (points_fit cells corners)
    unfolding points_fit trusted_points support_fit_of
    points_wild f = rw (answer, ← are, ← said, f)

    pub points_fitted : t ≡ true → Some (record { h = h; residuals = rs }) ≡ support_fit_of (points_fit cells corners)
    unfolding points_fit trusted_points support_fit_of
    points_fitted f = rw (answer, ← are, ← said, f)

    pub points_told : then_some t (record { h = h; residuals = rs }) ≡ support_fit_of (points_fit cells corners)
    points_told = go t refl
      where
        go : (u : Bool) → t ≡ u → then_some u (record { h = h; residuals = rs }) ≡ support_fit_of (points_fit cells corners)
        go true f = points_fitted f
        go false f = points_wild f

-- on the places of the supports
module _ (seen : Cell → Option Corner) where
  cell_points : List ℕ → List Position
  cell_points = map (λ (p : ℕ). cell_point (cell_of p))

  pictures : List ℕ → List Position
  pictures = map (pictured_at seen)

  same_fit : (a b c d : ℕ) → points_fit (cell_points (a ∷ b ∷ c ∷ d ∷ [])) (pictures (a ∷ b ∷ c ∷ d ∷ [])) ≡ local_fit seen (a ∷ b ∷ c ∷ d ∷ [])
  unfolding points_fit local_fit residuals_of trusted_points trusted cell_points pictures
  same_fit a b c d = go (homography_of (cell_points (a ∷ b ∷ c ∷ d ∷ [])) (pictures (a ∷ b ∷ c ∷ d ∷ [])))
    where
      go : (r : Answer) → trusted_points (cell_points (a ∷ b ∷ c ∷ d ∷ [])) (pictures (a ∷ b ∷ c ∷ d ∷ [])) r ≡ trusted seen (a ∷ b ∷ c ∷ d ∷ []) r
      go None = refl
      go (Some h) = refl

  pub fit_is : (s : List Support) {r : Option SupportFit} {cells corners : List Position} → length s ≡ 4
      → cells ≡ table 4 (λ i. cell_point (cell_of (nth s i).place)) → corners ≡ table 4 (λ i. pictured_at seen (nth s i).place)
      → r ≡ support_fit_of (points_fit cells corners) → r ≡ support_fit_of (local_fit seen (places_of s))
  unfolding cell_points pictures table
  fit_is [] z e f g = absurd (omega arith)
  fit_is (x ∷ []) z e f g = absurd (omega arith)
  fit_is (x ∷ y ∷ []) z e f g = absurd (omega arith)
  fit_is (x ∷ y ∷ v ∷ []) z e f g = absurd (omega arith)
  fit_is (x ∷ y ∷ v ∷ w ∷ []) z e f g = g ∙ rw (e, f) (ap support_fit_of (same_fit x.place y.place v.place w.place))
  fit_is (x ∷ y ∷ v ∷ w ∷ u ∷ us) z e f g = absurd (omega arith)

-- ---- an array of which each element is what a closure asks, that each call leaves as it is

list_gives : {A : Type 0} (xs s : List A) → s ≡ xs → AlwaysYields list_steps (λ x. x) s xs
list_gives [] s e = λ x j p. let z : x ∷ j ≡ [] = sym p ∙ e in absurd cc
list_gives (y ∷ ys) s e = (
  λ j p. let z : y ∷ ys ≡ [] = sym e ∙ p in absurd cc,
  λ x j p. let z : x ∷ j ≡ y ∷ ys = sym p ∙ e in (cc, list_gives ys j cc),
)

pub served : {A P : Type 0} {R : P → A → P → Type 0} {Q : P → A → Type 0} {p : P} (H : A → Type 0) (s : List A) → All H s
    → ((x : A) (q : P) → R p x q → q ≡ p) → ((x : A) → H x → Q p x) → CallableAtEachTurn list_steps R Q s p
served H s all stays asks =
    serves_from_places (record { runs = list_gives s s refl }) stays (λ x k h e. asks x (subst H (sym e) (All-get_or H s k x h all)))

-- ---- what the code says of the fit

pub fit_none : (l : LocalFit) {r : Option SupportFit} → r ≡ support_fit_of l → r ≡ None → l ≡ none
unfolding support_fit_of
fit_none none e f = refl
fit_none (fitted h rs) e f = let z : ◌≡◌ {A = Option SupportFit} (Some (record { h = h; residuals = rs })) None = sym e ∙ f in cc

pub fit_some : (l : LocalFit) {r : Option SupportFit} {fit : SupportFit} → r ≡ support_fit_of l → r ≡ Some fit → l ≡ fitted fit.h fit.residuals
unfolding support_fit_of
fit_some none {fit = fit} e f = let z : ◌≡◌ {A = Option SupportFit} None (Some fit) = sym e ∙ f in cc
fit_some (fitted h rs) {fit = fit} e f = let z : ◌≡◌ {A = Option SupportFit} (Some (record { h = h; residuals = rs })) (Some fit) = sym e ∙ f in cc
