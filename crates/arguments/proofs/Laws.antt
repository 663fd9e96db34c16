-- What the checks say: a call is accepted exactly if its buffers are long enough, its corners at most 1,024, its numbers in
-- their ranges, and its sheet names given corners only, each at one place. Assumes nothing.
use Rattle.std.specs.Prelude.{Ok, Option, Some, None}
use mathlib.Core.Path.{◌≡◌, refl, sym, ap, ◌∙◌}
use mathlib.Core.Bool.{Bool, true, false, not}
use mathlib.Core.List.{List}
use Prim.Native.Nat.{ℕ, ◌<◌, ◌≤◌}
use native.Mathlib.Decide.{ℕ_discrete, dec_lt}
use native.Mathlib.Omega.{arith}
use borrow.Author.Tests.{le-ltb, ltb-false, lt-leb, leb-false, not-false}
use lib.Dec.{ltb}
use lib.ListN.{length, get_or}
use lib.Ieee.{Float}
use Rattle.refusal.specs.declared.Refusal.{Refusal}
use Rattle.binary32.specs.Ranges.{in_range}
use Rattle.binary32.specs.declared.ranges.Quantity.{Quantity}
use Rattle.sheet.specs.Words.{label_of}
use Rattle.sheet.specs.Corners.{CornerLists, corner_of}
use Rattle.sheet.specs.declared.Corner.{Corner}
use Rattle.labels.specs.Used.{names, OneCell}
use Rattle.labels.proofs.Below.{no_both, any_hit, any_yes, any_none, any_no}
use Rattle.labels.proofs.Keeping.{kept_right, right_kept}
use Rattle.labels.proofs.Used.{names_it, it_names}
use Rattle.predict.specs.declared.Vector.{Vector}
use Rattle.arguments.specs.Arguments.{Checked, Lent, corner_count, queue_needed, too_short, over_limit, outside, corner_outside, shade_outside, outside_at, some_corner_outside, axis_outside, settings_outside, grow_outside, fill_outside, local_outside, pass_outside, out_of_range, unknown, unknown_at, unknown_corner, same_corner, doubled_at, doubled_corner, refused_if, checked}
use Rattle.arguments.specs.Accepted.{CornerInside, AxisInside, SettingsInside, GrowInside, FillInside, LocalInside, PassInside, Accepted, LongEnough, Known, OnTwoPlaces}
use Rattle.arguments.specs.declared.GrowParams.{GrowParams}
use Rattle.arguments.specs.declared.FillParams.{FillParams}
use Rattle.arguments.specs.declared.LocalExtensionParams.{LocalExtensionParams}
use Rattle.arguments.specs.declared.Pass.{Pass}
use Rattle.arguments.specs.declared.Settings.{Settings}
use Rattle.arguments.proofs.Chains.{or_false, or_false_both, not_refused}

-- ---- 7: the buffers are long enough

pub long_enough : (l : Lent) (pass : Pass) → too_short l pass ≡ false → LongEnough l pass
unfolding too_short
long_enough l pass e =
    let ys = or_false_both (ltb (length l.corners.ys) (corner_count l)) _ e in
    let pitches = or_false_both (ltb (length l.corners.pitches) (corner_count l)) _ ys.1 in
    let shades = or_false_both (ltb (length l.shades) (corner_count l)) _ pitches.1 in
    let sheet = or_false_both (ltb (length l.sheet) 16384) _ shades.1 in
    let queue = or_false_both (ltb l.queue (queue_needed pass (corner_count l))) _ sheet.1 in
    record {
      ys_long = ltb-false _ _ ys.0;
      pitches_long = ltb-false _ _ pitches.0;
      shades_long = ltb-false _ _ shades.0;
      sheet_long = ltb-false _ _ sheet.0;
      queue_long = ltb-false _ _ queue.0;
      attached_long = ltb-false _ _ queue.1;
    }

pub not_short : (l : Lent) (pass : Pass) → LongEnough l pass → too_short l pass ≡ false
unfolding too_short
not_short l pass w =
    or_false _ _ (le-ltb _ _ w.ys_long)
    (or_false _ _ (le-ltb _ _ w.pitches_long)
    (or_false _ _ (le-ltb _ _ w.shades_long)
    (or_false _ _ (le-ltb _ _ w.sheet_long) (or_false _ _ (le-ltb _ _ w.queue_long) (le-ltb _ _ w.attached_long)))))

-- ---- 3: numbers in their ranges

module _ (q : Quantity) (x : Float) where
  inside : outside q x ≡ false → in_range q x ≡ true
  unfolding outside
  inside e = not-false (in_range q x) e

  not_outside : in_range q x ≡ true → outside q x ≡ false
  unfolding outside
  not_outside e = ap not e

pub corner_inside : (c : Corner) → corner_outside c ≡ false → CornerInside c
unfolding corner_outside
corner_inside c e =
    let a = or_false_both (outside Quantity.Position c.position.x) _ e in
    let b = or_false_both (outside Quantity.Position c.position.y) _ a.1 in
    record { x = inside _ _ a.0; y = inside _ _ b.0; pitch = inside _ _ b.1 }

pub corner_not_outside : (c : Corner) → CornerInside c → corner_outside c ≡ false
unfolding corner_outside
corner_not_outside c i = or_false _ _ (not_outside _ _ i.x) (or_false _ _ (not_outside _ _ i.y) (not_outside _ _ i.pitch))

-- of each corner that is lent, and of its shade
module _ (l : CornerLists) (shades : List ℕ) where
  pub corners_inside : some_corner_outside l shades ≡ false → (k : ℕ) → k < length l.xs → CornerInside (corner_of l k) × (get_or shades k 0 ≤ 2)
  unfolding some_corner_outside outside_at shade_outside
  corners_inside e k h =
      let b = or_false_both (corner_outside (corner_of l k)) _ (any_none (outside_at l shades) (length l.xs) k e h) in
      (corner_inside _ b.0, ltb-false 2 (get_or shades k 0) b.1)

  pub corners_not_outside : ((k : ℕ) → k < length l.xs → CornerInside (corner_of l k)) → ((k : ℕ) → k < length l.xs → get_or shades k 0 ≤ 2)
      → some_corner_outside l shades ≡ false
  unfolding some_corner_outside outside_at shade_outside
  corners_not_outside c s = any_no (outside_at l shades) _ (λ k h. or_false _ _ (corner_not_outside _ (c k h)) (le-ltb 2 (get_or shades k 0) (s k h)))

pub axis_inside : (v : Vector) → axis_outside v ≡ false → AxisInside v
unfolding axis_outside
axis_inside v e = let a = or_false_both (outside Quantity.AxisPart v.x) _ e in record { x = inside _ _ a.0; y = inside _ _ a.1 }

pub axis_not_outside : (v : Vector) → AxisInside v → axis_outside v ≡ false
unfolding axis_outside
axis_not_outside v i = or_false _ _ (not_outside _ _ i.x) (not_outside _ _ i.y)

pub settings_inside : (s : Settings) → settings_outside s ≡ false → SettingsInside s
unfolding settings_outside
settings_inside s e =
    let a = or_false_both (outside Quantity.CellSize s.grid.cell_size) _ e in
    let b = or_false_both (axis_outside s.grid.axis_i) _ a.1 in
    let d = or_false_both (axis_outside s.grid.axis_j) _ b.1 in
    record { cell_size = inside _ _ a.0; axis_i = axis_inside _ b.0; axis_j = axis_inside _ d.0; band = inside _ _ d.1 }

pub settings_not_outside : (s : Settings) → SettingsInside s → settings_outside s ≡ false
unfolding settings_outside
settings_not_outside s i =
    or_false _ _ (not_outside _ _ i.cell_size)
    (or_false _ _ (axis_not_outside _ i.axis_i) (or_false _ _ (axis_not_outside _ i.axis_j) (not_outside _ _ i.band)))

pub grow_inside : (p : GrowParams) → grow_outside p ≡ false → GrowInside p
unfolding grow_outside
grow_inside p e =
    let a = or_false_both (outside Quantity.Multiple p.attach_search_rel) _ e in
    let b = or_false_both (outside Quantity.Factor p.attach_ambiguity_factor) _ a.1 in
    record { search = inside _ _ a.0; factor = inside _ _ b.0; boundary = inside _ _ b.1 }

pub grow_not_outside : (p : GrowParams) → GrowInside p → grow_outside p ≡ false
unfolding grow_outside
grow_not_outside p i = or_false _ _ (not_outside _ _ i.search) (or_false _ _ (not_outside _ _ i.factor) (not_outside _ _ i.boundary))

pub fill_inside : (p : FillParams) → fill_outside p ≡ false → FillInside p
unfolding fill_outside
fill_inside p e =
    let a = or_false_both (outside Quantity.Multiple p.attach_search_rel) _ e in
    let b = or_false_both (outside Quantity.Factor p.attach_ambiguity_factor) _ a.1 in
    record { search = inside _ _ a.0; factor = inside _ _ b.0; rounds = ltb-false 64 p.max_iters b.1 }

pub fill_not_outside : (p : FillParams) → FillInside p → fill_outside p ≡ false
unfolding fill_outside
fill_not_outside p i = or_false _ _ (not_outside _ _ i.search) (or_false _ _ (not_outside _ _ i.factor) (le-ltb 64 p.max_iters i.rounds))

pub local_inside : (p : LocalExtensionParams) → local_outside p ≡ false → LocalInside p
unfolding local_outside
local_inside p e =
    let a = or_false_both (outside Quantity.Multiple p.search_rel) _ e in
    let b = or_false_both (outside Quantity.Factor p.ambiguity_factor) _ a.1 in
    let d = or_false_both (ltb 64 p.max_iters) _ b.1 in
    let f = or_false_both (outside Quantity.Multiple p.max_residual_rel) _ d.1 in
    record {
      search = inside _ _ a.0;
      factor = inside _ _ b.0;
      rounds = ltb-false 64 p.max_iters d.0;
      residual = inside _ _ f.0;
      depth = ltb-false 4 p.extend_depth f.1;
    }

pub local_not_outside : (p : LocalExtensionParams) → LocalInside p → local_outside p ≡ false
unfolding local_outside
local_not_outside p i =
    or_false _ _ (not_outside _ _ i.search)
    (or_false _ _ (not_outside _ _ i.factor)
    (or_false _ _ (le-ltb 64 p.max_iters i.rounds)
    (or_false _ _ (not_outside _ _ i.residual) (le-ltb 4 p.extend_depth i.depth))))

pub pass_inside : (pass : Pass) → pass_outside pass ≡ false → PassInside pass
unfolding pass_outside
pass_inside (Pass.Grow p) e = grow_inside p e
pass_inside (Pass.Fill p) e = fill_inside p e
pass_inside (Pass.Local p) e = local_inside p e

pub pass_not_outside : (pass : Pass) → PassInside pass → pass_outside pass ≡ false
unfolding pass_outside
pass_not_outside (Pass.Grow p) i = grow_not_outside p i
pass_not_outside (Pass.Fill p) i = fill_not_outside p i
pass_not_outside (Pass.Local p) i = local_not_outside p i

-- ---- 5: every corner on the sheet is given

unknown_yes : (n : ℕ) (label : Option ℕ) (k : ℕ) → label ≡ Some k → unknown n label ≡ false → k < n
unfolding unknown
unknown_yes n label k e f = leb-false n k (sym (ap (unknown n) e) ∙ f)

pub known : (n : ℕ) (sheet : List ℕ) → unknown_corner n sheet ≡ false → Known n sheet
unfolding unknown_corner unknown_at
known n sheet e = record { known = λ p k h l. unknown_yes n (label_of (get_or sheet p 0)) k l (any_none (unknown_at n sheet) 16384 p e h) }

pub not_unknown : (n : ℕ) (sheet : List ℕ) → Known n sheet → unknown_corner n sheet ≡ false
unfolding unknown_corner unknown_at unknown
not_unknown n sheet w = any_no (unknown_at n sheet) 16384 (λ p h. go (label_of (get_or sheet p 0)) (λ k. w.known p k h))
  where
    go : (l : Option ℕ) → ((k : ℕ) → l ≡ Some k → k < n) → unknown n l ≡ false
    go None m = refl
    go (Some k) m = lt-leb n k (m k refl)

-- and below any number that is no less
pub known_more : (n m : ℕ) (sheet : List ℕ) → n ≤ m → Known n sheet → Known m sheet
known_more n m sheet h w = record { known = λ p k l e. let g = w.known p k l e in omega arith }

-- ---- 6: the test says yes exactly if a corner stands on two places

same_corner_holds : (l m : Option ℕ) (P : Type 0) → same_corner l m ≡ true → ((k : ℕ) → l ≡ Some k → m ≡ Some k → P) → P
unfolding same_corner
same_corner_holds None m P e f = absurd (no_both false e refl)
same_corner_holds (Some k) m P e f = f k refl (it_names k m e)

pub on_two_places : (sheet : List ℕ) → doubled_corner sheet ≡ true → OnTwoPlaces sheet
unfolding doubled_corner doubled_at
on_two_places sheet e =
    let a = any_yes (doubled_at sheet) 16384 e in
    let b = any_yes (λ p. same_corner (label_of (get_or sheet a.number 0)) (label_of (get_or sheet p 0))) a.number a.passes in
    same_corner_holds _ _ (OnTwoPlaces sheet) b.passes
    (λ k l m. record { first = b.number; second = a.number; corner = k; earlier = b.below; below = a.below; first_holds = m; second_holds = l })

pub doubled : (sheet : List ℕ) → OnTwoPlaces sheet → doubled_corner sheet ≡ true
unfolding doubled_corner doubled_at same_corner
doubled sheet w =
    any_hit (doubled_at sheet) 16384 w.second w.below
    (rw w.second_holds (any_hit (λ p. names w.corner (label_of (get_or sheet p 0))) w.second w.first w.earlier (names_it _ _ w.first_holds)))

pub one_cell : (sheet : List ℕ) → doubled_corner sheet ≡ false → OneCell sheet
one_cell sheet e = record { one_place = λ p q k g h l m. go p q k g h l m (ℕ_discrete p q) (dec_lt p q) }
  where
    not_two : OnTwoPlaces sheet → ⊥
    not_two w = no_both (doubled_corner sheet) (doubled sheet w) e

    go : (p q k : ℕ) → p < 16384 → q < 16384 → label_of (get_or sheet p 0) ≡ Some k → label_of (get_or sheet q 0) ≡ Some k → Dec (p ≡ q) → Dec (p < q) → p ≡ q
    go p q k g h l m (yes d) f = d
    go p q k g h l m (no d) (yes f) = absurd (not_two (record { first = p; second = q; corner = k; earlier = f; below = h; first_holds = l; second_holds = m }))
    go p q k g h l m (no d) (no f) = absurd (not_two (record { first = q; second = p; corner = k; earlier = omega arith; below = g; first_holds = m; second_holds = l }))

pub not_doubled : (sheet : List ℕ) → OneCell sheet → doubled_corner sheet ≡ false
not_doubled sheet o = go (doubled_corner sheet) refl
  where
    go : (t : Bool) → doubled_corner sheet ≡ t → t ≡ false
    go false e = refl
    go true e =
        let w = on_two_places sheet e in
        let d = o.one_place w.first w.second w.corner (omega (arith, w.earlier, w.below)) w.below w.first_holds w.second_holds in
        absurd (omega (arith, d, w.earlier))

-- ---- a call that is not refused

still_fine : (b : Bool) (r : Refusal) (rest : Checked) → b ≡ false → rest ≡ Ok tt → refused_if b r rest ≡ Ok tt
still_fine b r rest e f = rw e f

module _ (l : Lent) (settings : Settings) (pass : Pass) where
  pub accepted : checked l settings pass ≡ Ok tt → Accepted l settings pass
  unfolding checked over_limit out_of_range
  accepted e =
      let a7 = not_refused (too_short l pass) Refusal.BufferTooShort _ e in
      let a2 = not_refused (over_limit l) Refusal.OverLimit _ a7.1 in
      let a3 = not_refused (out_of_range l settings pass) Refusal.OutOfRange _ a2.1 in
      let a5 = not_refused (unknown_corner (corner_count l) l.sheet) Refusal.UnknownCorner _ a3.1 in
      let a6 = not_refused (doubled_corner l.sheet) Refusal.Duplicate (Ok tt) a5.1 in
      let long = long_enough l pass a7.0 in
      let numbers = or_false_both (some_corner_outside l.corners l.shades) _ a3.0 in
      let others = or_false_both (settings_outside settings) _ numbers.1 in
      let last = or_false_both (pass_outside pass) _ others.1 in
      record {
        queue_long = long.queue_long;
        attached_long = long.attached_long;
        shades_long = long.shades_long;
        few = ltb-false _ _ a2.0;
        corners_inside = λ k h. (corners_inside l.corners l.shades numbers.0 k h).0;
        shades_inside = λ k h. (corners_inside l.corners l.shades numbers.0 k h).1;
        settings_inside = settings_inside settings others.0;
        pass_inside = pass_inside pass last.0;
        box_right = kept_right _ _ last.1;
        listed = record { ys_long = long.ys_long; pitches_long = long.pitches_long };
        given = record { long = long.sheet_long; known = (known _ _ a5.0).known };
        one_cell = one_cell _ a6.0;
      }

  pub accepted_fine : Accepted l settings pass → checked l settings pass ≡ Ok tt
  unfolding checked over_limit out_of_range
  accepted_fine w =
      still_fine _ _ _
      (not_short l pass
      (record {
        ys_long = w.listed.ys_long;
        pitches_long = w.listed.pitches_long;
        shades_long = w.shades_long;
        sheet_long = w.given.long;
        queue_long = w.queue_long;
        attached_long = w.attached_long;
      }))
      (still_fine _ _ _ (le-ltb _ _ w.few)
      (still_fine _ _ _
      (or_false _ _ (corners_not_outside l.corners l.shades w.corners_inside w.shades_inside)
      (or_false _ _ (settings_not_outside _ w.settings_inside)
      (or_false _ _ (pass_not_outside _ w.pass_inside) (right_kept _ _ w.box_right))))
      (still_fine _ _ _ (not_unknown _ _ (record { known = w.given.known })) (still_fine _ _ _ (not_doubled _ w.one_cell) refl))))
