-- Laws of what gathering passes over: one corner more or not, none where all are taken, and two frames with paired corners. Assumes nothing.
use mathlib.Core.Path.{◌≡◌, refl, sym, ap, ◌∙◌}
use mathlib.Core.Bool.{Bool, true, false, ◌&&◌, cond}
use Prim.Native.Nat.{ℕ, zero, suc, ◌<◌, ◌≤◌}
use native.Mathlib.Omega.{arith}
use lib.Ieee.{Float}
use Rattle.sheet.specs.Corners.{finite_position}
use Rattle.sheet.specs.Pairing.{Shuffle}
use Rattle.sheet.specs.declared.Position.{Position}
use Rattle.labels.specs.Count.{how_many}
use Rattle.labels.proofs.Count.{many_ext, many_none, many_few, many_paired}
use Rattle.candidates.specs.Candidates.{squared_radius}
use Rattle.std.specs.List.{filter, range_with_len}
use Rattle.std.proofs.lemmas.List.{map-id}
use Rattle.std.proofs.lemmas.List.FromFn.{filter_of_map_range_with_len_more}
use Rattle.labels.specs.Labelled.{passing}
use mathlib.Core.List.{List, [], ◌∷◌, ◌++◌, map}
use lib.ListN.{length}
use native.Mathlib.Numerals.{add-one}
use Rattle.passed_over.specs.PassedOver.{is_passed_over, passed_over}

-- ---- nothing but the corners below n counts

pub passed_over_agree : (position position' : ℕ → Position) (unlabelled unlabelled' taken taken' : ℕ → Bool) (n : ℕ) (p : Position) (r : Float)
    → ((k : ℕ) → k < n → position k ≡ position' k) → ((k : ℕ) → k < n → unlabelled k ≡ unlabelled' k) → ((k : ℕ) → k < n → taken k ≡ taken' k)
    → passed_over position unlabelled taken n p r ≡ passed_over position' unlabelled' taken' n p r
unfolding passed_over is_passed_over
passed_over_agree position position' unlabelled unlabelled' taken taken' n p r same free kinds =
    ap (λ (m : ℕ). cond (finite_position p) m 0) (many_ext _ _ n (λ k h. rw (same k h, free k h, kinds k h)))

pub none_passed_over : (position : ℕ → Position) (unlabelled taken : ℕ → Bool) (n : ℕ) (p : Position) (r : Float) → ((k : ℕ) → k < n → taken k ≡ true) → passed_over position unlabelled taken n p r ≡ 0
unfolding passed_over is_passed_over
none_passed_over position unlabelled taken n p r h = ap (λ (m : ℕ). cond (finite_position p) m 0) (many_none _ n (λ k l. rw (h k l) (go (unlabelled k)))) ∙ same (finite_position p)
  where
    go : (b : Bool) → (b && false) ≡ false
    go true = refl
    go false = refl

    same : (b : Bool) → ◌≡◌ {A = ℕ} (cond b 0 0) 0
    same true = refl
    same false = refl

-- ---- as the code counts them

-- the numbers below n that pass a test
filtered : (f : ℕ → Bool) (n : ℕ) → filter f (range_with_len 0 n) ≡ passing f n
unfolding passing
filtered f zero = refl
filtered f (suc n) =
    ap (filter f) (sym (map-id (range_with_len 0 (suc n))) ∙ ap (λ (k : ℕ). map (λ (x : ℕ). x) (range_with_len 0 k)) (sym (add-one n))) ∙ filter_of_map_range_with_len_more f (λ x. x) 0 n n (omega arith)
    ∙ ap (λ (l : List ℕ). l ++ cond (f n) (n ∷ []) []) (ap (filter f) (map-id (range_with_len 0 n)) ∙ filtered f n)

module _ (position : ℕ → Position) (unlabelled taken : ℕ → Bool) (p : Position) (n : ℕ) (r : Float) where
  pub over_nowhere : finite_position p ≡ false → 0 ≡ passed_over position unlabelled taken n p r
  unfolding passed_over
  over_nowhere e = rw e

  pub over_somewhere : finite_position p ≡ true → length (filter (is_passed_over position unlabelled taken p (squared_radius r)) (range_with_len 0 n)) ≡ passed_over position unlabelled taken n p r
  unfolding passed_over
  over_somewhere e = ap length (filtered (is_passed_over position unlabelled taken p (squared_radius r)) n) ∙ rw e

-- ---- two frames with the same corners in another order, of which both or neither are taken

module _ {n : ℕ} (s : Shuffle n) (position position' : ℕ → Position) (unlabelled unlabelled' taken taken' : ℕ → Bool)
    (same_place : (i : ℕ) → i < n → position' (s.to i) ≡ position i) (same_label : (i : ℕ) → i < n → unlabelled' (s.to i) ≡ unlabelled i)
    (same_kind : (i : ℕ) → i < n → taken' (s.to i) ≡ taken i) where
  -- as many are passed over
  pub paired_passed_over : (p : Position) (r : Float) → passed_over position' unlabelled' taken' n p r ≡ passed_over position unlabelled taken n p r
  unfolding passed_over is_passed_over
  paired_passed_over p r =
      ap (λ (m : ℕ). cond (finite_position p) m 0) (many_paired s _ _ (λ i h. rw (same_label i h, same_kind i h, same_place i h)))

-- ---- at most all

pub passed_over_few : (position : ℕ → Position) (unlabelled taken : ℕ → Bool) (n : ℕ) (p : Position) (r : Float) → passed_over position unlabelled taken n p r ≤ n
unfolding passed_over
passed_over_few position unlabelled taken n p r = go (finite_position p)
  where
    go : (t : Bool) → cond t (how_many (is_passed_over position unlabelled taken p (squared_radius r)) n) 0 ≤ n
    go true = many_few _ n
    go false = omega arith
