-- Outcomes as words: what the check of them says, the outcomes from a number on, and that reading what was put gives the outcome back. Assumes nothing.
use Rattle.std.specs.Prelude.{Option, None, Some, is_some, IfSome}
use Rattle.std.specs.Bool.{then_some}
use mathlib.Core.Path.{◌≡◌, refl, sym, ap, ap₂, ◌∙◌}
use mathlib.Core.Bool.{Bool, true, false, not, ◌&&◌, ◌||◌, cond}
use mathlib.Core.List.{List, [], ◌∷◌, ◌++◌}
use Prim.Native.Nat.{ℕ, zero, suc, ◌+◌, ◌*◌, ◌%◌, ◌≤◌, ◌<◌}
use native.Mathlib.Nat.{not-suc-le-zero}
use native.Mathlib.Decide.{ℕ_discrete, dec_le}
use native.Mathlib.Omega.{arith}
use borrow.Author.Tests.{ltb-false, eq-eqb, ne_eqb, eqb-true, eqb-false, not-false}
use lib.Dec.{T, ltb, eqb}
use lib.ListN.{length, get_or}
use lib.Seq.{get_or-append-add}
use lib.Ieee.{Float, binary32, of_bits, nan_bits}
use lib.Ieee.Bits.{of_bits-to_bits}
use Rattle.binary32.specs.Ranges.{is_finite}
use Rattle.binary32.proofs.Answered.{pattern}
use Rattle.binary32.proofs.Finite.{infinite_bits}
use Rattle.labels.proofs.Below.{no_both}
use Rattle.passes.specs.declared.GrowStats.{GrowStats}
use Rattle.passes.specs.declared.FillStats.{FillStats}
use Rattle.passes.specs.declared.LocalStats.{LocalStats}
use Rattle.passes.specs.declared.PassStats.{PassStats}
use Rattle.roles.specs.Roles.{role_number, role_numbered}
use Rattle.roles.specs.declared.Role.{Role}
use Rattle.role_counts.specs.RoleCounts.{four_of, attached_alone, counts_of}
use Rattle.arguments.proofs.Chains.{or_false_both}
use Rattle.report_line.specs.Result.{pass_line, pass_line_at}
use Rattle.report_line.specs.Like.{ResidualLike}
use Rattle.sheet.specs.Words.{bit_of}
use Rattle.sizes.specs.Sizes.{outcome_size}
use Rattle.report_words.specs.Outcomes.{residual_words, unmatched_words, outcome_words, word_at, counts_at, yes_at, residual_at, unmatched_at, largest_count, largest_unmatched, stats_at, outcome_at, outcomes_from, wild_counts, wild_residual, wild_unmatched, wild_outcome}
use Rattle.report_words.specs.Asked.{grow_at, local_at, Tame, FitsWord, UnmatchedFits, flag_of, bits_of, shade_flag, unmatched_word, FloatOrNone, IsFloat}

at_most : (a b : ℕ) → ltb a b ≡ false → b ≤ a
at_most a b e = ltb-false a b e

finite_if : (a b : Bool) → (a && not b) ≡ false → a ≡ true → b ≡ true
finite_if true b e h = not-false b e
finite_if false b e h = absurd (no_both false h refl)

-- what the test of unmatched says of it, of the word for shades and of the kind
module _ (shades unmatched kind : ℕ)
    (e : cond (eqb shades 0) (not (eqb unmatched 0)) (not (eqb kind 2) || ltb largest_unmatched unmatched) ≡ false) where
  none_passed : shades ≡ 0 → unmatched ≡ 0
  none_passed h = eqb-true unmatched 0 (not-false (eqb unmatched 0) (rw (eq-eqb shades 0 h) at e))

  some_passed : shades ≡ 1 → (not (eqb kind 2) ≡ false) × (ltb largest_unmatched unmatched ≡ false)
  some_passed h = or_false_both (not (eqb kind 2)) (ltb largest_unmatched unmatched) (rw (ne_eqb shades 0 (λ z. omega arith)) at e)

  few_passed : shades ≡ 1 → unmatched ≤ largest_unmatched
  few_passed h = at_most _ _ (some_passed h).1

  by_local : shades ≡ 1 → kind ≡ 2
  by_local h = eqb-true kind 2 (not-false (eqb kind 2) (some_passed h).0)

pub tame : (words : List ℕ) (k : ℕ) → wild_outcome words k ≡ false → Tame words k
unfolding wild_outcome wild_counts wild_residual wild_unmatched
tame words k e =
    let kind = or_false_both (ltb 2 (word_at words k 0)) _ e in
    let counts = or_false_both (wild_counts words k) _ kind.1 in
    let one = or_false_both (ltb largest_count (word_at words k 1)) _ counts.0 in
    let two = or_false_both (ltb largest_count (word_at words k 2)) _ one.1 in
    let three = or_false_both (ltb largest_count (word_at words k 3)) _ two.1 in
    let rounds = or_false_both (ltb 64 (word_at words k 5)) _ counts.1 in
    let residual = or_false_both (wild_residual words k) _ rounds.1 in
    let flag = or_false_both (ltb 1 (word_at words k 6)) _ residual.0 in
    let rim = or_false_both (ltb 1 (word_at words k 8)) _ residual.1 in
    let last = or_false_both (wild_unmatched words k) _ rim.1 in
    let shades = or_false_both (ltb 1 (word_at words k 9)) _ last.0 in
    record {
      kind = at_most _ _ kind.0;
      attached = at_most _ _ one.0;
      no_candidate = at_most _ _ two.0;
      ambiguous = at_most _ _ three.0;
      edge = at_most _ _ three.1;
      rounds = at_most _ _ rounds.0;
      flag = at_most _ _ flag.0;
      finite = λ h. finite_if (eqb (word_at words k 6) 1) (is_finite (of_bits binary32 (word_at words k 7))) flag.1 (eq-eqb _ _ h);
      rim = at_most _ _ rim.0;
      shades = at_most _ _ shades.0;
      unmatched = few_passed (word_at words k 9) (word_at words k 10) (word_at words k 0) shades.1;
      unshaded = none_passed (word_at words k 9) (word_at words k 10) (word_at words k 0) shades.1;
      local_alone = by_local (word_at words k 9) (word_at words k 10) (word_at words k 0) shades.1;
      role = at_most _ _ last.1;
    }

-- ---- the outcomes from a number on

pub outcomes_length : (words : List ℕ) (k n : ℕ) → length (outcomes_from words k n) ≡ n
unfolding outcomes_from
outcomes_length words k zero = refl
outcomes_length words k (suc n) = ap suc (outcomes_length words (suc k) n)

pub pass_line_at_lem : (words : List ℕ) (k n i j : ℕ) → i < n → j ≡ k + i → pass_line_at (outcomes_from words k n) i ≡ pass_line (stats_at words j)
unfolding outcomes_from
pass_line_at_lem words k zero i j h e = absurd (not-suc-le-zero h)
pass_line_at_lem words k (suc n) zero j h e = let d : k ≡ j = omega arith in ap (λ (m : ℕ). pass_line (stats_at words m)) d
pass_line_at_lem words k (suc n) (suc i) j h e = pass_line_at_lem words (suc k) n i j (omega arith) (omega arith)

-- ---- an outcome put at its place is read there again

bit_read : (b : Bool) → not (eqb (bit_of b) 0) ≡ b
unfolding bit_of
bit_read true = refl
bit_read false = refl

module _ (words : List ℕ) (k : ℕ) where
  grow_said_lem : (s : GrowStats) → word_at words k 0 ≡ 0 → word_at words k 1 ≡ s.counts.attached → word_at words k 2 ≡ s.counts.rejected_no_candidate
      → word_at words k 3 ≡ s.counts.rejected_ambiguous → word_at words k 4 ≡ s.counts.rejected_edge → word_at words k 8 ≡ bit_of s.rim
      → stats_at words k ≡ PassStats.Grow s
  unfolding stats_at
  grow_said_lem s e0 e1 e2 e3 e4 e8 = rw (e0, e1, e2, e3, e4, e8, bit_read s.rim)

  fill_said_lem : (s : FillStats) → word_at words k 0 ≡ 1 → word_at words k 1 ≡ s.added → word_at words k 5 ≡ s.iterations → word_at words k 8 ≡ bit_of s.rim
      → stats_at words k ≡ PassStats.Fill s
  unfolding stats_at
  fill_said_lem s e0 e1 e5 e8 = rw (e0, e1, e5, e8, bit_read s.rim)

  local_said_lem : (s : LocalStats) → word_at words k 0 ≡ 2 → word_at words k 1 ≡ s.counts.attached → word_at words k 2 ≡ s.counts.rejected_no_candidate
      → word_at words k 3 ≡ s.counts.rejected_ambiguous → word_at words k 4 ≡ s.counts.rejected_edge → word_at words k 5 ≡ s.iterations
      → residual_at words k ≡ s.residual → word_at words k 8 ≡ bit_of s.rim → unmatched_at words k ≡ s.unmatched → stats_at words k ≡ PassStats.Local s
  unfolding stats_at
  local_said_lem s e0 e1 e2 e3 e4 e5 er e8 eu = rw (e0, er, eu, e1, e2, e3, e4, e5, e8, bit_read s.rim)

  residual_said : (x : Option Float) → FloatOrNone x → word_at words k 6 ≡ flag_of x → word_at words k 7 ≡ bits_of x → residual_at words k ≡ x
  residual_said None f e6 e7 = rw e6
  residual_said (Some x) f e6 e7 = rw (e6, e7, of_bits-to_bits binary32 x f)

  unmatched_said : (u : Option ℕ) → word_at words k 9 ≡ shade_flag u → word_at words k 10 ≡ unmatched_word u → unmatched_at words k ≡ u
  unmatched_said None e9 e10 = rw e9
  unmatched_said (Some n) e9 e10 = rw (e9, e10)

-- what stands at an outcome's place
there : (before after : List ℕ) (k m : ℕ) → length before ≡ outcome_size * k → word_at (before ++ after) k m ≡ get_or after m 0
there before after k m e = rw (← e) (get_or-append-add before after m 0)

-- local's words one by one
pub local_listed : (r : Role) (s : LocalStats)
    → outcome_words r (PassStats.Local s)
    ≡ 2 ∷ s.counts.attached ∷ s.counts.rejected_no_candidate ∷ s.counts.rejected_ambiguous ∷ s.counts.rejected_edge ∷ s.iterations
    ∷ flag_of s.residual ∷ bits_of s.residual ∷ bit_of s.rim ∷ shade_flag s.unmatched ∷ unmatched_word s.unmatched ∷ role_number r ∷ []
unfolding outcome_words
local_listed r s =
    ap (λ (l : List ℕ). 2 ∷ s.counts.attached ∷ s.counts.rejected_no_candidate ∷ s.counts.rejected_ambiguous ∷ s.counts.rejected_edge ∷ s.iterations ∷ l)
    (go s.residual s.unmatched)
  where
    go : (x : Option Float) (u : Option ℕ) → residual_words x (bit_of s.rim ∷ unmatched_words u (role_number r ∷ [])) ≡ flag_of x ∷ bits_of x ∷ bit_of s.rim ∷ shade_flag u ∷ unmatched_word u ∷ role_number r ∷ []
    go None None = refl
    go None (Some n) = refl
    go (Some x) None = refl
    go (Some x) (Some n) = refl

-- the role of a role's number
number_read : (r : Role) → role_numbered (role_number r) ≡ r
unfolding role_numbered
number_read Role.Plant = refl
number_read Role.Depot = refl
number_read Role.Dealer = refl

role_said : (words : List ℕ) (k : ℕ) (r : Role) (s : PassStats) → word_at words k 11 ≡ role_number r → stats_at words k ≡ s
    → outcome_at words k ≡ record { role = r; stats = s }
role_said words k r s e11 e = ap₂ (λ (q : Role) (t : PassStats). record { role = q; stats = t }) (ap role_numbered e11 ∙ number_read r) e

-- reading what was put gives the outcome back; a residual is to be a value of binary32
pub decode_encode : (before after : List ℕ) (k : ℕ) (r : Role) (s : PassStats) → length before ≡ outcome_size * k → IsFloat s
    → outcome_at (before ++ (outcome_words r s ++ after)) k ≡ record { role = r; stats = s }
unfolding outcome_words
decode_encode before after k r (PassStats.Grow s) e f = role_said _ k r (PassStats.Grow s) (at 11) (grow_said_lem _ k s (at 0) (at 1) (at 2) (at 3) (at 4) (at 8))
  where
    at : (m : ℕ) → word_at (before ++ (outcome_words r (PassStats.Grow s) ++ after)) k m ≡ get_or (outcome_words r (PassStats.Grow s) ++ after) m 0
    at m = there before (outcome_words r (PassStats.Grow s) ++ after) k m e
decode_encode before after k r (PassStats.Fill s) e f = role_said _ k r (PassStats.Fill s) (at 11) (fill_said_lem _ k s (at 0) (at 1) (at 5) (at 8))
  where
    at : (m : ℕ) → word_at (before ++ (outcome_words r (PassStats.Fill s) ++ after)) k m ≡ get_or (outcome_words r (PassStats.Fill s) ++ after) m 0
    at m = there before (outcome_words r (PassStats.Fill s) ++ after) k m e
decode_encode before after k r (PassStats.Local s) e f =
    role_said words k r (PassStats.Local s) (at 11)
    (local_said_lem _ k s (at 0) (at 1) (at 2) (at 3) (at 4) (at 5) (residual_said words k s.residual f (at 6) (at 7)) (at 8) (unmatched_said words k s.unmatched (at 9) (at 10)))
  where
    words : List ℕ
    words = before ++ (outcome_words r (PassStats.Local s) ++ after)

    listed : List ℕ
    listed =
        2 ∷ s.counts.attached ∷ s.counts.rejected_no_candidate ∷ s.counts.rejected_ambiguous ∷ s.counts.rejected_edge ∷ s.iterations
        ∷ flag_of s.residual ∷ bits_of s.residual ∷ bit_of s.rim ∷ shade_flag s.unmatched ∷ unmatched_word s.unmatched ∷ role_number r ∷ []

    at : (m : ℕ) → word_at words k m ≡ get_or (listed ++ after) m 0
    at m = there before (outcome_words r (PassStats.Local s) ++ after) k m e ∙ ap (λ (l : List ℕ). get_or (l ++ after) m 0) (local_listed r s)

-- ---- a residual by its pattern

-- the pattern of a finite value
pub finite_pattern : (b : ℕ) → is_finite (of_bits binary32 b) ≡ true → b % 0x8000_0000 < 0x7f80_0000
finite_pattern b h = go (dec_le 0x7f80_0000 (b % 0x8000_0000))
  where
    go : Dec (0x7f80_0000 ≤ b % 0x8000_0000) → b % 0x8000_0000 < 0x7f80_0000
    go (yes l) = absurd (no_both (is_finite (of_bits binary32 b)) h (infinite_bits b l))
    go (no f) = omega arith

module _ (words : List ℕ) (k : ℕ) where
  -- a residual that passes the check is no NaN
  pub residual_plain : Tame words k → yes_at words k 6 ≡ true → T (not (nan_bits binary32 (word_at words k 7)))
  residual_plain w e =
      let one : word_at words k 6 ≡ 1 = flagged (word_at words k 6) w.flag e in
      let low = finite_pattern (word_at words k 7) (w.finite one) in
      pattern (word_at words k 7) (omega arith)
    where
      flagged : (n : ℕ) → n ≤ 1 → not (eqb n 0) ≡ true → n ≡ 1
      flagged n l h = go (ℕ_discrete n 0)
        where
          go : Dec (n ≡ 0) → n ≡ 1
          go (yes d) = absurd (no_both true refl (sym h ∙ ap not (eq-eqb n 0 d)))
          go (no d) = omega arith

-- and it is finite
pub residual_finite : (words : List ℕ) (k : ℕ) → Tame words k → (x : Float) → residual_at words k ≡ Some x → is_finite x ≡ true
residual_finite words k w x e = go (eqb (word_at words k 6) 0) refl e
  where
    go : (t : Bool) → eqb (word_at words k 6) 0 ≡ t → cond (not t) (Some (of_bits binary32 (word_at words k 7))) None ≡ Some x
        → is_finite x ≡ true
    go true p q = absurd (let z : ◌≡◌ {A = ℕ} 0 1 = cc in omega arith)
    go false p q =
        let low = w.flag in
        let some = eqb-false (word_at words k 6) 0 p in
        let same : of_bits binary32 (word_at words k 7) ≡ x = cc in
        rw (← same) (w.finite (omega arith))

-- ---- a finite residual for a residual, and none for none

pub like_cond : (b : Bool) (x y : Float) → is_finite y ≡ true → ResidualLike (cond b (Some x) None) (then_some b y)
like_cond true x y f = f
like_cond false x y f = tt

-- ---- what `then` and `then_some` give by a flag

module _ {A : Type 0} (P : A → Type 0) where
  pub then_is : (b t : Bool) (v : A) (r : Option A) → is_some r ≡ b → b ≡ t → IfSome r P → ((x : A) → P x → x ≡ v) → r ≡ cond t (Some v) None
  then_is b true v None s e i h = absurd (no_both true refl (sym (s ∙ e)))
  then_is b true v (Some x) s e i h = ap (λ (y : A). Some y) (h x i)
  then_is b false v None s e i h = refl
  then_is b false v (Some x) s e i h = absurd (no_both true refl (s ∙ e))

pub some_is : {A : Type 0} (b : Bool) (v : A) → then_some b v ≡ cond b (Some v) None
some_is true v = refl
some_is false v = refl

pub some_fits : (b : Bool) (n : ℕ) → FitsWord n → UnmatchedFits (then_some b n)
some_fits true n h = h
some_fits false n h = tt

-- ---- unmatched

-- unmatched of an outcome that passes the check
pub unmatched_few : (words : List ℕ) (k : ℕ) → Tame words k → (n : ℕ) → unmatched_at words k ≡ Some n → n ≤ largest_unmatched
unmatched_few words k w n e = go (eqb (word_at words k 9) 0) refl e
  where
    go : (t : Bool) → eqb (word_at words k 9) 0 ≡ t → cond (not t) (Some (word_at words k 10)) None ≡ Some n → n ≤ largest_unmatched
    go true p q = absurd (let z : ◌≡◌ {A = ℕ} 0 1 = cc in omega arith)
    go false p q =
        let low = w.shades in
        let some = eqb-false (word_at words k 9) 0 p in
        let same : word_at words k 10 ≡ n = cc in
        rw (← same) (w.unmatched (omega arith))

-- ---- what a pass adds to the counts of a role, by its kind

module _ (words : List ℕ) (k : ℕ) where
  pub added_alone : word_at words k 0 ≡ 1 → attached_alone (word_at words k 1) ≡ counts_of (stats_at words k)
  unfolding stats_at counts_of
  added_alone e = rw e refl

  pub all_four : (word_at words k 0 ≡ 1 → ⊥) → four_of (counts_at words k) ≡ counts_of (stats_at words k)
  unfolding stats_at counts_of
  all_four f = rw (ne_eqb (word_at words k 0) 1 f) (go (eqb (word_at words k 0) 0))
    where
      go : (t : Bool) → four_of (counts_at words k) ≡ counts_of (cond t (PassStats.Grow (grow_at words k)) (PassStats.Local (local_at words k)))
      go true = refl
      go false = refl
