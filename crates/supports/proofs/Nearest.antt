-- The four nearest places: kept one at a time in rising order, they are the first four by reach, then i, then j. Assumes nothing.
use mathlib.Core.Path.{◌≡◌, refl, sym, ap, ◌∙◌}
use mathlib.Core.Bool.{Bool, true, false, not, cond, ◌&&◌, ◌||◌}
use mathlib.Core.List.Memᴰ
use mathlib.Core.List.{List, [], ◌∷◌, ◌++◌, map}
use Prim.Native.Nat.{ℕ, zero, suc, ◌<◌, ◌≤◌}
use native.Mathlib.Omega.{arith}
use borrow.Author.Tests.{lt-ltb, le-ltb, ltb-true, ltb-false, leb-true, leb-false, eqb-true, eqb-false}
use lib.Dec.{ltb, leb, eqb}
use lib.ListN.{length, get_or, take}
use lib.Seq.{take-take, length-take-le}
use Rattle.std.specs.List.{All, AllByRecursion as ByRecursion}
use Rattle.std.proofs.lemmas.List.{length-map}
use Rattle.std.proofs.lemmas.List.Elements.{All-from_recursion, All-get_or}
use Rattle.sheet.specs.Cells.{OnSheet, cell_of, earlier}
use Rattle.sheet.specs.declared.Cell.{Cell}
use Rattle.sheet.proofs.Laws.{cell_on_lem, line_i, line_j, abs_sub}
use Rattle.labels.proofs.Below.{no_both}
use Rattle.passes.specs.Local.{reach_of, nearer, placed, by_reach}
use Rattle.passes.specs.Nearest.{NearestFirst, by_reach_holds}
use Rattle.passes.proofs.Nearest.{nearer_so, so_nearer, nearer_reach, earlier_places, by_reach_length, by_reach_first, take_first, rising_apart}
use Rattle.supports.specs.Nearest.{support_at, nothing_kept, places_of, nearest_among, before_those, ahead, SplitsAt, InOrder, four, Kept, MoreKept, Nearby, filled_up, Keeping}
use Rattle.supports.specs.Fitted.{Pictured}
use Rattle.supports.specs.declared.Support.{Support}

-- ---- one more place, after all others

-- before those that are farther
unfoldable pub last : Cell → ℕ → List ℕ → List ℕ
last c p [] = p ∷ []
last c p (q ∷ qs) = cond (ltb (reach_of c p) (reach_of c q)) (p ∷ q ∷ qs) (q ∷ last c p qs)

module _ (c : Cell) (q p : ℕ) (before : earlier (cell_of q) (cell_of p) ≡ true) where
  -- an earlier place is nearer if the later one is not strictly nearer
  pub nearer_earlier : nearer c q p ≡ not (ltb (reach_of c p) (reach_of c q))
  unfolding nearer
  nearer_earlier = rw before (go (ltb (reach_of c q) (reach_of c p)) refl (eqb (reach_of c q) (reach_of c p)) refl)
    where
      go : (t : Bool) → ltb (reach_of c q) (reach_of c p) ≡ t → (u : Bool) → eqb (reach_of c q) (reach_of c p) ≡ u → (t || (u && true)) ≡ not (ltb (reach_of c p) (reach_of c q))
      go true e u f = let h = ltb-true (reach_of c q) (reach_of c p) e in rw (le-ltb (reach_of c p) (reach_of c q) (omega arith))
      go false e true f = let h = eqb-true (reach_of c q) (reach_of c p) f in rw (le-ltb (reach_of c p) (reach_of c q) (omega arith))
      go false e false f =
          let h = ltb-false (reach_of c q) (reach_of c p) e in
          rw (lt-ltb (reach_of c p) (reach_of c q) (omega (arith, eqb-false (reach_of c q) (reach_of c p) f)))

  -- it is the same which of the two is put in first
  pub last_after : (l : List ℕ) → placed c q (last c p l) ≡ last c p (placed c q l)
  unfolding placed last
  last_after [] = rw nearer_earlier (go (ltb (reach_of c p) (reach_of c q)))
    where
      go : (t : Bool) → cond (not t) (q ∷ p ∷ []) (p ∷ q ∷ []) ≡ cond t (p ∷ q ∷ []) (q ∷ p ∷ [])
      go true = refl
      go false = refl
  last_after (r ∷ rs) = go (ltb (reach_of c p) (reach_of c r)) refl (nearer c q r) refl (ltb (reach_of c p) (reach_of c q)) refl (last_after rs)
    where
      go : (t : Bool) → ltb (reach_of c p) (reach_of c r) ≡ t → (u : Bool) → nearer c q r ≡ u → (v : Bool) → ltb (reach_of c p) (reach_of c q) ≡ v
          → placed c q (last c p rs) ≡ last c p (placed c q rs) → placed c q (last c p (r ∷ rs)) ≡ last c p (placed c q (r ∷ rs))
      go true e true f true g w = simp (e, f, nearer_earlier, g)
      go true e true f false g w = simp (e, f, nearer_earlier, g)
      go true e false f true g w = simp (e, f, nearer_earlier, g)
      go true e false f false g w =
          let h = ltb-true (reach_of c p) (reach_of c r) e in
          let k = ltb-false (reach_of c p) (reach_of c q) g in
          absurd (no_both (nearer c q r) (so_nearer c q r (by_reach_holds (omega arith))) f)
      go false e true f true g w =
          let h = ltb-false (reach_of c p) (reach_of c r) e in
          let k = ltb-true (reach_of c p) (reach_of c q) g in
          absurd (omega (arith, nearer_reach (nearer_so c q r f)))
      go false e true f false g w = simp (e, f, g)
      go false e false f v g w = simp (e, f) (ap (λ (l : List ℕ). r ∷ l) w)

-- the places of a list are all before p
pub record AllBelow (p : ℕ) (ps : List ℕ) : Type 0 where
  pub below : (a : ℕ) → a < length ps → get_or ps a 0 < p

-- places rise by i, then j
pub earlier_cells : (q p : ℕ) → q < p → p < 16384 → earlier (cell_of q) (cell_of p) ≡ true
earlier_cells q p l h = earlier_places q p (omega arith) h ∙ lt-ltb q p l

pub by_reach_last : (c : Cell) (p : ℕ) → p < 16384 → (ps : List ℕ) → AllBelow p ps → by_reach c (ps ++ (p ∷ [])) ≡ last c p (by_reach c ps)
unfolding by_reach placed last
by_reach_last c p h [] b = refl
by_reach_last c p h (q ∷ qs) b =
    ap (placed c q) (by_reach_last c p h qs (record { below = λ a l. b.below (suc a) (omega arith) }))
    ∙ last_after c q p (earlier_cells q p (b.below 0 (omega arith)) h) (by_reach c qs)

-- ---- the first four of five

-- the first n of a list with one more in it are found from its first n
pub before_take : (behind : ℕ → Bool) (n : ℕ) (new : Support) (l : List Support) → take n (before_those behind new (take n l)) ≡ take n (before_those behind new l)
unfolding before_those
before_take behind zero new l = refl
before_take behind (suc n) new [] = refl
before_take behind (suc n) new (s ∷ ss) = go (behind s.reach) (before_take behind n new ss)
  where
    shorter : (m : ℕ) → take m (s ∷ take m ss) ≡ take m (s ∷ ss)
    shorter zero = refl
    shorter (suc m) = ap (λ (l : List Support). s ∷ l) (take-take m (suc m) ss (omega arith))

    go : (t : Bool) → take n (before_those behind new (take n ss)) ≡ take n (before_those behind new ss) → take (suc n) (cond t (new ∷ s ∷ take n ss) (s ∷ before_those behind new (take n ss))) ≡ take (suc n) (cond t (new ∷ s ∷ ss) (s ∷ before_those behind new ss))
    go true w = ap (λ (l : List Support). new ∷ l) (shorter n)
    go false w = ap (λ (l : List Support). s ∷ l) w

-- the two tests split
pub farther_splits : (n : ℕ) → SplitsAt n (ltb n)
farther_splits n = record { far = λ r e. let h = ltb-true n r e in omega arith; near = λ r e. ltb-false n r e }

pub as_far_splits : (n : ℕ) → SplitsAt n (leb n)
as_far_splits n = record { far = λ r e. leb-true n r e; near = λ r e. let h = leb-false n r e in omega arith }

-- a support of a list, as the code reads it
abbrev pub nth : List Support → ℕ → Support
nth s n = get_or s n (record { place = 0; reach = 0 })

-- one more support, by where it goes
module _ {behind : ℕ → Bool} (new : Support) (splits : SplitsAt new.reach behind) where
  -- what is nearer than one that fails the test fails it
  nearer_fails : (q r : ℕ) → q ≤ r → behind r ≡ false → behind q ≡ false
  nearer_fails q r h e = go (behind q) refl
    where
      go : (t : Bool) → behind q ≡ t → t ≡ false
      go false f = refl
      go true f =
          let k : q ≡ r = omega (arith, splits.far q f, splits.near r e) in
          sym f ∙ ap behind k ∙ e

  pub kept_none : {s : List Support} → InOrder s → behind (nth s 3).reach ≡ false → Kept behind s new s
  unfolding before_those
  kept_none (four {a} {b} {c} {d} h k l) e =
      record {
        kept_are =
            rw (
              nearer_fails a.reach d.reach (omega arith) e,
              nearer_fails b.reach d.reach (omega arith) e,
              nearer_fails c.reach d.reach l e,
              e,
            );
        in_order = four h k l;
      }

  pub kept_first : {s : List Support} → InOrder s → behind (nth s 0).reach ≡ true → Kept behind s new (new ∷ nth s 0 ∷ nth s 1 ∷ nth s 2 ∷ [])
  unfolding before_those
  kept_first (four {a} h k l) e = record { kept_are = rw e; in_order = four (splits.far a.reach e) h k }

  pub kept_second : {s : List Support} → InOrder s → behind (nth s 0).reach ≡ false → behind (nth s 1).reach ≡ true → Kept behind s new (nth s 0 ∷ new ∷ nth s 1 ∷ nth s 2 ∷ [])
  unfolding before_those
  kept_second (four {a} {b} h k l) e f = record { kept_are = rw (e, f); in_order = four (splits.near a.reach e) (splits.far b.reach f) k }

  pub kept_third : {s : List Support} → InOrder s → behind (nth s 0).reach ≡ false → behind (nth s 1).reach ≡ false → behind (nth s 2).reach ≡ true
      → Kept behind s new (nth s 0 ∷ nth s 1 ∷ new ∷ nth s 2 ∷ [])
  unfolding before_those
  kept_third (four {b = b} {c} h k l) e f g = record { kept_are = rw (e, f, g); in_order = four h (splits.near b.reach f) (splits.far c.reach g) }

  pub kept_fourth : {s : List Support} → InOrder s → behind (nth s 0).reach ≡ false → behind (nth s 1).reach ≡ false → behind (nth s 2).reach ≡ false → behind (nth s 3).reach ≡ true
      → Kept behind s new (nth s 0 ∷ nth s 1 ∷ nth s 2 ∷ new ∷ [])
  unfolding before_those
  kept_fourth (four {c = c} h k l) e f g i = record { kept_are = rw (e, f, g, i); in_order = four h k (splits.near c.reach g) }

ahead_filled : (c : Cell) (p : ℕ) → reach_of c p < 1000 → (l : List ℕ) → ahead (support_at c p) (filled_up c l) ≡ filled_up c (last c p l)
unfolding before_those last
ahead_filled c p h [] = rw (lt-ltb (reach_of c p) 1000 h)
ahead_filled c p h (q ∷ qs) = go (ltb (reach_of c p) (reach_of c q)) (ahead_filled c p h qs)
  where
    go : (t : Bool) → ahead (support_at c p) (filled_up c qs) ≡ filled_up c (last c p qs) → cond t (support_at c p ∷ support_at c q ∷ filled_up c qs) (support_at c q ∷ ahead (support_at c p) (filled_up c qs)) ≡ filled_up c (cond t (p ∷ q ∷ qs) (q ∷ last c p qs))
    go true w = refl
    go false w = ap (λ (l : List Support). support_at c q ∷ l) w

-- ---- the walk

-- no two cells of the sheet are farther apart than that
pub reach_small : (c : Cell) (p : ℕ) → OnSheet c → p < 16384 → reach_of c p < 1000
reach_small c p on h =
    let a = line_i c on in
    let b = line_j c on in
    let d = line_i (cell_of p) (cell_on_lem p h) in
    let e = line_j (cell_of p) (cell_on_lem p h) in
    omega (arith, abs_sub (cell_of p).i c.i, abs_sub (cell_of p).j c.j)

-- none looked at yet
pub keeping_none : (c : Cell) → Keeping c nothing_kept []
unfolding by_reach
keeping_none c = record { kept_are = refl; in_order = four (omega arith) (omega arith) (omega arith) }

-- one more place, behind all others
pub keeping_last : {c : Cell} {kept next : List Support} {ps : List ℕ} (p : ℕ) → OnSheet c → p < 16384 → AllBelow p ps → Keeping c kept ps → MoreKept kept (support_at c p) next → Keeping c next (ps ++ (p ∷ []))
keeping_last {c} {kept} {next} {ps} p on h b g w =
    record {
      kept_are =
          w.kept_are ∙ ap (λ (l : List Support). take 4 (ahead (support_at c p) l)) g.kept_are
          ∙ before_take (ltb (reach_of c p)) 4 (support_at c p) (filled_up c (by_reach c ps))
          ∙ ap (take 4) (ahead_filled c p (reach_small c p on h) (by_reach c ps))
          ∙ ap (λ (l : List ℕ). take 4 (filled_up c l)) (sym (by_reach_last c p h ps b));
      in_order = w.in_order;
    }

-- all places looked at
pub keeping_all : {c : Cell} {kept : List Support} (places : List ℕ) → 4 ≤ length places → Keeping c kept places → kept ≡ nearest_among c places
keeping_all {c} places h g = g.kept_are ∙ front 4 (by_reach c places) (omega (arith, by_reach_length c places, h))
  where
    front : (n : ℕ) (l : List ℕ) → n ≤ length l → take n (filled_up c l) ≡ map (support_at c) (take n l)
    front zero l m = refl
    front (suc n) [] m = absurd (omega arith)
    front (suc n) (p ∷ ps) m = ap (λ (q : List Support). support_at c p ∷ q) (front n ps (omega arith))

-- ---- what the four are

-- all places of a list are below n
pub data Under (n : ℕ) : List ℕ → Type 0 where
  none : Under n []
  one : {p : ℕ} {ps : List ℕ} → p < n → Under n ps → Under n (p ∷ ps)

pub under_placed : (n : ℕ) (c : Cell) (p : ℕ) (l : List ℕ) → p < n → Under n l → Under n (placed c p l)
unfolding placed
under_placed n c p [] h none = one h none
under_placed n c p (q ∷ qs) h (one k u) = go (nearer c p q) (under_placed n c p qs h u)
  where
    go : (t : Bool) → Under n (placed c p qs) → Under n (cond t (p ∷ q ∷ qs) (q ∷ placed c p qs))
    go true w = one h (one k u)
    go false w = one k w

under_by_reach : (n : ℕ) (c : Cell) (l : List ℕ) → AllBelow n l → Under n (by_reach c l)
unfolding by_reach
under_by_reach n c [] b = none
under_by_reach n c (p ∷ ps) b = under_placed n c p (by_reach c ps) (b.below 0 (omega arith)) (under_by_reach n c ps (record { below = λ a l. b.below (suc a) (omega arith) }))

pub under_take : (n m : ℕ) (l : List ℕ) → Under n l → Under n (take m l)
under_take n zero l u = none
under_take n (suc m) [] u = none
under_take n (suc m) (p ∷ ps) (one h u) = one h (under_take n m ps u)

-- supports at places of the sheet
under_all : (c : Cell) (l : List ℕ) → Under 16384 l → All (λ (x : Support). x.place < 16384) (map (support_at c) l)
under_all c l u = All-from_recursion (λ (x : Support). x.place < 16384) (map (support_at c) l) (go l u)
  where
    go : (l : List ℕ) → Under 16384 l → ByRecursion (λ (x : Support). x.place < 16384) (map (support_at c) l)
    go [] none = tt
    go (p ∷ ps) (one h u) = (h, go ps u)

-- none of some supports is farther than the fourth
abbrev pub Reached : Cell → List Support → Type 0
Reached c s = All (λ (p : ℕ). reach_of c p ≤ (nth s 3).reach) (places_of s)

reached : (c : Cell) (l : List ℕ) → length l ≡ 4 → NearestFirst c l → OnSheet c → Under 16384 l → Reached c (map (support_at c) l) × ((nth (map (support_at c) l) 3).reach < 8192)
reached c [] e o on u = absurd (omega arith)
reached c (p ∷ []) e o on u = absurd (omega arith)
reached c (p ∷ q ∷ []) e o on u = absurd (omega arith)
reached c (p ∷ q ∷ r ∷ []) e o on u = absurd (omega arith)
reached c (p ∷ q ∷ r ∷ t ∷ []) e o on (one i (one j (one k (one h none)))) = (
  All-from_recursion (λ (m : ℕ). reach_of c m ≤ reach_of c t) (p ∷ q ∷ r ∷ t ∷ []) (
    nearer_reach (o.0 t (Memᴰ.tail (Memᴰ.tail (Memᴰ.head refl)))),
    (nearer_reach (o.1.0 t (Memᴰ.tail (Memᴰ.head refl))), (nearer_reach (o.1.1.0 t (Memᴰ.head refl)), (omega arith, tt))),
  ),
  omega (arith, reach_small c t on h),
)
reached c (p ∷ q ∷ r ∷ t ∷ v ∷ vs) e o on u = absurd (omega arith)

-- by the equation that promises the nearest four: their places, that these are of the sheet, and how far they are
module _ {places : List ℕ} {c : Cell} {s : List Support} (asked : Nearby places c) (e : s ≡ nearest_among c places) where
  on_sheet_holds : AllBelow 16384 places
  on_sheet_holds = record { below = λ a l. All-get_or (λ (p : ℕ). p < 16384) places a 0 l asked.along.below }

  under : Under 16384 (take 4 (by_reach c places))
  under = under_take 16384 4 (by_reach c places) (under_by_reach 16384 c places on_sheet_holds)

  four_long : length (take 4 (by_reach c places)) ≡ 4
  four_long = length-take-le 4 (by_reach c places) (omega (arith, by_reach_length c places, asked.four))

  pub nearest_places : places_of s ≡ take 4 (by_reach c places)
  nearest_places = ap places_of e ∙ back (take 4 (by_reach c places))
    where
      back : (l : List ℕ) → places_of (map (support_at c) l) ≡ l
      back [] = refl
      back (p ∷ ps) = ap (λ (m : List ℕ). p ∷ m) (back ps)

  pub nearest_pictured : Pictured s
  nearest_pictured = rw e (record { size = length-map (take 4 (by_reach c places)) (support_at c) ∙ four_long; below = under_all c (take 4 (by_reach c places)) under })

  both : Reached c s × ((nth s 3).reach < 8192)
  both =
      rw e
      (reached c (take 4 (by_reach c places)) four_long
      (take_first c 4 (by_reach c places) (by_reach_first c places (rising_apart places asked.along.rising on_sheet_holds.below))) asked.along.on under)

  pub nearest_reached : Reached c s
  nearest_reached = both.0

  pub nearest_small : (nth s 3).reach < 8192
  nearest_small = both.1
