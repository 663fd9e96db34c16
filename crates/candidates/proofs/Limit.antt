-- Tests before roots: a corner whose squared distance is above that of the second candidate found comes after both, so it changes nothing.
-- A squared distance may be infinite where the squared radius is. Its root is refused, and the distance is nan; but nothing is above it. Assumes nothing.
use mathlib.Core.Path.{◌≡◌, refl, sym, ap, subst, ◌∙◌}
use mathlib.Core.Bool.{Bool, true, false, cond, true≢false}
use Prim.Native.Nat.{ℕ}
use lib.Dec.{T}
use lib.Ieee.{Float, nan, inf, fin, binary32, sub, mul, lt, le, is_nan, fits}
use lib.Ieee.Fits.{add-fits}
use Rattle.float_order.specs.Unsigned.{plain}
use Rattle.float_order.proofs.Order.{le_no_nan, lt_asym, le_trans, not_lt_trans, not_le→lt}
use Rattle.float_order.proofs.Unsigned.{plain_no_nan, squares_plain}
use Rattle.binary32.specs.Sqrt.{sqrt_or_nan}
use Rattle.binary32.proofs.Exists.{sqrt_unsigned}
use Rattle.binary32.proofs.Monotone.{sqrt_mono}
use Rattle.sheet.specs.declared.Position.{Position}
use Rattle.sheet.specs.Corners.{squared_distance}
use Rattle.candidates.specs.declared.Candidates.TheVariants.{Several}
use Rattle.candidates.specs.declared.Found.{Found}
use Rattle.candidates.specs.declared.Measured.{Measured}
use Rattle.candidates.specs.Steps.{kept, measured, is_nearer, narrowed, limit_of, candidates_in}

-- a candidate, for a squared radius, with its squared distance and its distance
pub record Square (radius : Float) (c : Measured) : Type 0 where
  pub held : T (fits binary32 c.square)
  pub unsigned : T (plain c.square)
  pub within : le c.square radius ≡ true
  pub rooted : c.candidate.distance ≡ sqrt_or_nan c.square

pub squared : (position : ℕ → Position) (p : Position) (radius : Float) (k : ℕ) → le (squared_distance (position k) p) radius ≡ true → Square radius (measured position p k)
unfolding squared_distance
squared position p radius k h =
    let dx = sub binary32 (position k).x p.x in
    let dy = sub binary32 (position k).y p.y in
    record {
      held = add-fits binary32 (mul binary32 dx dx) (mul binary32 dy dy);
      unsigned = squares_plain binary32 dx dy (le_no_nan _ _ h).0;
      within = h;
      rooted = refl;
    }

-- each that was found is a candidate, and the second is no nearer than the first
abbrev pub Limited : Float → Found → Type 0
Limited radius Found.Empty = Unit {0}
Limited radius (Found.One a) = Square radius a
Limited radius (Found.Several a b) = Square radius a × Square radius b × (is_nearer b a ≡ false)

-- what is within the limit is within the radius
pub limited_within : (radius : Float) (found : Found) (d : Float) → Limited radius found → le d (limit_of radius found) ≡ true → le d radius ≡ true
limited_within radius Found.Empty d l h = h
limited_within radius (Found.One a) d l h = h
limited_within radius (Found.Several a b) d l h = le_trans d b.square radius h l.1.within

-- ---- beyond the limit

-- what has something above it, and no sign, has a root
root_under : (x y : Float) → T (fits binary32 x) → T (plain x) → lt x y ≡ true → is_nan (sqrt_or_nan x) ≡ false
unfolding lt is_nan
root_under nan y f p h = absurd p
root_under (inf true) y f p h = absurd p
root_under (inf false) nan f p h = absurd (true≢false (sym h))
root_under (inf false) (inf t) f p h = absurd (true≢false (sym h))
root_under (inf false) (fin t n d) f p h = absurd (true≢false (sym h))
root_under (fin true m e) y f p h = absurd p
root_under (fin false m e) y f p h = subst (λ (v : Float). is_nan v ≡ false) (sym (sqrt_unsigned m e f).2) refl

-- so a candidate that is not within it comes after both that are found
pub passed_over : (radius : Float) (found : Found) (c : Measured) → Limited radius found → Square radius c → le c.square (limit_of radius found) ≡ false
    → kept (candidates_in found) c.candidate ≡ candidates_in found
passed_over radius Found.Empty c l s h = absurd (true≢false (sym s.within ∙ h))
passed_over radius (Found.One a) c l s h = absurd (true≢false (sym s.within ∙ h))
passed_over radius (Found.Several a b) c l s h = rw (after_first, after_second)
  where
    above : lt b.square c.square ≡ true
    above = not_le→lt c.square b.square (le_no_nan c.square radius s.within).0 (plain_no_nan b.square l.1.unsigned) h

    after_second : is_nearer c b ≡ false
    after_second = rw (s.rooted, l.1.rooted) (sqrt_mono b.square c.square l.1.held s.held (lt_asym b.square c.square above))

    after_first : is_nearer c a ≡ false
    after_first =
        not_lt_trans c.candidate.distance b.candidate.distance a.candidate.distance
        (ap is_nan l.1.rooted ∙ root_under b.square c.square l.1.held l.1.unsigned above) after_second l.2

-- ---- within the limit

-- the candidates that `narrowed` has are those of `kept`
pub narrowed_found : (found : Found) (c : Measured) → candidates_in (narrowed found c) ≡ kept (candidates_in found) c.candidate
narrowed_found Found.Empty c = refl
narrowed_found (Found.One a) c = go (is_nearer c a)
  where
    go : (t : Bool) → candidates_in (cond t (Found.Several c a) (Found.Several a c)) ≡ cond t (Several c.candidate a.candidate.distance) (Several a.candidate c.candidate.distance)
    go true = refl
    go false = refl
narrowed_found (Found.Several a b) c = go (is_nearer c a) (is_nearer c b)
  where
    go : (t u : Bool) → candidates_in (cond t (Found.Several c a) (cond u (Found.Several a c) (Found.Several a b)))
        ≡ cond t (Several c.candidate a.candidate.distance) (cond u (Several a.candidate c.candidate.distance) (Several a.candidate b.candidate.distance))
    go true u = refl
    go false true = refl
    go false false = refl

-- and they are right again
pub narrowed_limited : (radius : Float) (found : Found) (c : Measured) → Limited radius found → Square radius c → Limited radius (narrowed found c)
narrowed_limited radius Found.Empty c l s = s
narrowed_limited radius (Found.One a) c l s = go (is_nearer c a) refl
  where
    go : (t : Bool) → is_nearer c a ≡ t → Limited radius (cond t (Found.Several c a) (Found.Several a c))
    go true e = (s, l, lt_asym c.candidate.distance a.candidate.distance e)
    go false e = (l, s, e)
narrowed_limited radius (Found.Several a b) c l s = go (is_nearer c a) refl (is_nearer c b)
  where
    go : (t : Bool) → is_nearer c a ≡ t → (u : Bool) → Limited radius (cond t (Found.Several c a) (cond u (Found.Several a c) (Found.Several a b)))
    go true e u = (s, l.0, lt_asym c.candidate.distance a.candidate.distance e)
    go false e true = (l.0, s, e)
    go false e false = l
