-- Lines with numbers of as many digits are as long, and their writers take them. Assumes nothing.
use Rattle.std.specs.Prelude.{Option, None, Some}
use mathlib.Core.Path.{◌≡◌, refl, sym, ap, ◌∙◌}
use mathlib.Core.Bool.{Bool, true, false, cond}
use mathlib.Core.List.{List, [], ◌∷◌, ◌++◌}
use Prim.Native.Nat.{ℕ, suc, ◌*◌, ◌/◌, ◌≤◌, ◌<◌}
use native.Mathlib.Omega.{arith}
use lib.Ieee.{Float, binary32, to_bits}
use lib.ListN.{length, drop, length-append}
use Rattle.binary32.specs.Ranges.{is_finite}
use Rattle.binary32.proofs.Digits.{digits_length}
use Rattle.line_form.specs.Integers.{decimal, integer_text}
use Rattle.line_form.specs.Forms.{bytes, Number, bits, number_text, is_slot, first_text, printed}
use Rattle.line_form.proofs.Decimal.{one_digit, more_digits}
use Rattle.passes.specs.declared.Counts.{Counts}
use Rattle.passes.specs.declared.GrowStats.{GrowStats}
use Rattle.passes.specs.declared.FillStats.{FillStats}
use Rattle.passes.specs.declared.LocalStats.{LocalStats}
use Rattle.passes.specs.declared.PassStats.{PassStats}
use Rattle.report_line.specs.Result.{count, grow_form, fill_form, local_form, bare_local_form, four_counts, grow_line, fill_line, local_line_with, local_line, unmatched_line, local_lines, pass_line}
use Rattle.report_line.specs.Written.{largest_held, Few, GrowAsked, FillAsked, LocalAsked, StatsAsked}
use Rattle.report_line.specs.Like.{Like, CountsLike, ResidualLike, UnmatchedLike, GrowLike, FillLike, LocalLike, StatsLike}
use Rattle.report_line.proofs.Short.{grow_short, fill_short, local_short}

-- ---- a number of 32 bits

-- one digit more for ten times as much
more : (k low : ℕ) → 1 ≤ low → ((m : ℕ) → low ≤ m → m < low * 10 → length (decimal m) ≡ k) → (n : ℕ) → low * 10 ≤ n → n < low * 100 → length (decimal n) ≡ suc k
more k low p f n h l = let r = f (n / 10) (omega arith) (omega arith) in rw (more_digits n (omega arith)) (simp length-append (omega arith))

one : (m : ℕ) → 1 ≤ m → m < 1 * 10 → length (decimal m) ≡ 1
one m h l = rw (one_digit m (omega arith))

ten_digits : (n : ℕ) → 1000000000 ≤ n → n < 10000000000 → length (decimal n) ≡ 10
ten_digits =
    more 9 100000000 (omega arith) (more 8 10000000 (omega arith) (more 7 1000000 (omega arith) (more 6 100000 (omega arith)
    (more 5 10000 (omega arith) (more 4 1000 (omega arith) (more 3 100 (omega arith) (more 2 10 (omega arith) (more 1 1 (omega arith) one))))))))

pub like_itself : (n : ℕ) → n ≤ largest_held → Like n n
like_itself n h = record { held = h; digits = refl }

-- what 32 bits hold above the largest number has ten digits too
pub like_largest : (n : ℕ) → largest_held < n → n < 4294967296 → Like n largest_held
like_largest n h l = record { held = omega arith; digits = ten_digits largest_held (omega arith) (omega arith) ∙ sym (ten_digits n (omega arith) (omega arith)) }

-- ---- a printed line: it is as long with numbers as long

abbrev SameLengths : List Number → List Number → Type 0
SameLengths [] [] = Unit {0}
SameLengths [] (m ∷ ms) = ⊥
SameLengths (n ∷ ns) [] = ⊥
SameLengths (n ∷ ns) (m ∷ ms) = (length (number_text n) ≡ length (number_text m)) × SameLengths ns ms

same_printed : (form : List ℕ) (ns ms : List Number) → SameLengths ns ms → length (printed form ns) ≡ length (printed form ms)
unfolding printed
same_printed [] ns ms h = refl
same_printed (c ∷ form) ns ms h = go (is_slot c) ns ms h (λ a b k. same_printed form a b k)
  where
    go : (t : Bool) (ns ms : List Number) → SameLengths ns ms → ((a b : List Number) → SameLengths a b → length (printed form a) ≡ length (printed form b))
        → length (cond t (first_text ns) (c ∷ []) ++ printed form (cond t (drop 1 ns) ns)) ≡ length (cond t (first_text ms) (c ∷ []) ++ printed form (cond t (drop 1 ms) ms))
    go false ns ms h ih = ap suc (ih ns ms h)
    go true [] [] h ih = refl
    go true [] (m ∷ ms) h ih = absurd h
    go true (n ∷ ns) [] h ih = absurd h
    go true (n ∷ ns) (m ∷ ms) h ih =
        let r = ih ns ms h.1 in
        let d = h.0 in
        length-append (number_text n) (printed form ns) ∙ omega (arith, length-append (number_text m) (printed form ms))

-- ---- the lines

like_count : {n r : ℕ} → Like n r → length (number_text (count r)) ≡ length (number_text (count n))
unfolding number_text integer_text
like_count l = l.digits

like_four : (c r : Counts) (ns ms : List Number) → CountsLike c r → SameLengths ms ns → SameLengths (four_counts r ms) (four_counts c ns)
like_four c r ns ms l s = (like_count l.attached, (like_count l.no_candidate, (like_count l.ambiguous, (like_count l.edge, s))))

like_bits : (a b : ℕ) → length (number_text (bits a)) ≡ length (number_text (bits b))
unfolding number_text
like_bits a b = digits_length 8 a ∙ sym (digits_length 8 b)

few : {c r : Counts} → CountsLike c r → Few r
few l = record { attached = l.attached.held; no_candidate = l.no_candidate.held; ambiguous = l.ambiguous.held; edge = l.edge.held }

module _ (s r : GrowStats) (l : GrowLike s r) where
  pub grow_like : length (grow_line r) ≡ length (grow_line s)
  unfolding grow_line
  grow_like = rw l.rim (same_printed (grow_form s.rim) (four_counts r.counts []) (four_counts s.counts []) (like_four s.counts r.counts [] [] l.counts tt))

  pub grow_like_asked : (out : List ℕ) → 128 ≤ length out → GrowAsked r out
  grow_like_asked out h = record { few = few l.counts; room = omega (arith, grow_short r (few l.counts), h) }

module _ (s r : FillStats) (l : FillLike s r) where
  pub fill_like : length (fill_line r) ≡ length (fill_line s)
  unfolding fill_line
  fill_like =
      rw l.rim (same_printed (fill_form s.rim) (count r.added ∷ count r.iterations ∷ []) (count s.added ∷ count s.iterations ∷ []) (like_count l.added, (like_count l.rounds, tt)))

  pub fill_like_asked : (out : List ℕ) → 128 ≤ length out → FillAsked r out
  fill_like_asked out h =
      record { few = l.added.held; rounds = l.rounds.held; room = omega (arith, fill_short r l.added.held l.rounds.held, h) }

module _ (s r : LocalStats) (l : LocalLike s r) where
  line_like : length (local_line r) ≡ length (local_line s)
  unfolding local_line
  line_like = go s.residual r.residual l.residual
    where
      five : (ns ms : List Number) → SameLengths ms ns → SameLengths (four_counts r.counts (count r.iterations ∷ ms)) (four_counts s.counts (count s.iterations ∷ ns))
      five ns ms h = like_four s.counts r.counts (count s.iterations ∷ ns) (count r.iterations ∷ ms) l.counts (like_count l.rounds, h)

      go : (x y : Option Float) → ResidualLike x y → length (local_line_with y r) ≡ length (local_line_with x s)
      go None None h = rw l.rim (same_printed (bare_local_form s.rim) _ _ (five [] [] tt))
      go None (Some y) h = absurd h
      go (Some x) None h = absurd h
      go (Some x) (Some y) h =
          rw l.rim (same_printed (local_form s.rim) _ _ (five (bits (to_bits binary32 x) ∷ []) (bits (to_bits binary32 y) ∷ []) (like_bits (to_bits binary32 y) (to_bits binary32 x), tt)))

  unmatched_like : (a b : Option ℕ) → UnmatchedLike a b → length (unmatched_line b) ≡ length (unmatched_line a)
  unfolding unmatched_line
  unmatched_like None None h = refl
  unmatched_like None (Some m) h = absurd h
  unmatched_like (Some n) None h = absurd h
  unmatched_like (Some n) (Some m) h = same_printed (bytes "(unmatched #)\n") (count m ∷ []) (count n ∷ []) (like_count h, tt)

  pub local_like : length (local_lines r) ≡ length (local_lines s)
  unfolding local_lines
  local_like =
      length-append (local_line r) (unmatched_line r.unmatched)
      ∙ omega (arith, length-append (local_line s) (unmatched_line s.unmatched), line_like, unmatched_like s.unmatched r.unmatched l.unmatched)

  unmatched_held : (a b : Option ℕ) → UnmatchedLike a b → (n : ℕ) → b ≡ Some n → n ≤ largest_held
  unmatched_held None None h n e = let z : ◌≡◌ {A = ℕ} 0 1 = cc in absurd (omega arith)
  unmatched_held None (Some m) h n e = absurd h
  unmatched_held (Some a) None h n e = absurd h
  unmatched_held (Some a) (Some m) h n e = let same : m ≡ n = cc in rw (← same) h.held

  pub local_like_asked : (out : List ℕ) → 128 ≤ length out → LocalAsked r out
  local_like_asked out h =
      record {
        few = few l.counts;
        rounds = l.rounds.held;
        finite = λ x e. go s.residual r.residual l.residual x e;
        unmatched = unmatched_held s.unmatched r.unmatched l.unmatched;
        room = omega (arith, local_short r (few l.counts) l.rounds.held (unmatched_held s.unmatched r.unmatched l.unmatched), h);
      }
    where
      go : (a b : Option Float) → ResidualLike a b → (x : Float) → b ≡ Some x → is_finite x ≡ true
      go None None h x e = let z : ◌≡◌ {A = ℕ} 0 1 = cc in absurd (omega arith)
      go None (Some y) h x e = absurd h
      go (Some a) None h x e = absurd h
      go (Some a) (Some y) h x e = let same : y ≡ x = cc in rw (← same) h

-- ---- the lines of what passes answer

pub stats_like : (s r : PassStats) → StatsLike s r → length (pass_line r) ≡ length (pass_line s)
unfolding pass_line
stats_like (PassStats.Grow s) (PassStats.Grow r) l = grow_like s r l
stats_like (PassStats.Grow s) (PassStats.Fill r) l = absurd l
stats_like (PassStats.Grow s) (PassStats.Local r) l = absurd l
stats_like (PassStats.Fill s) (PassStats.Grow r) l = absurd l
stats_like (PassStats.Fill s) (PassStats.Fill r) l = fill_like s r l
stats_like (PassStats.Fill s) (PassStats.Local r) l = absurd l
stats_like (PassStats.Local s) (PassStats.Grow r) l = absurd l
stats_like (PassStats.Local s) (PassStats.Fill r) l = absurd l
stats_like (PassStats.Local s) (PassStats.Local r) l = local_like s r l

pub stats_like_asked : (s r : PassStats) → StatsLike s r → (out : List ℕ) → 128 ≤ length out → StatsAsked r out
stats_like_asked (PassStats.Grow s) (PassStats.Grow r) l out h = grow_like_asked s r l out h
stats_like_asked (PassStats.Grow s) (PassStats.Fill r) l out h = absurd l
stats_like_asked (PassStats.Grow s) (PassStats.Local r) l out h = absurd l
stats_like_asked (PassStats.Fill s) (PassStats.Grow r) l out h = absurd l
stats_like_asked (PassStats.Fill s) (PassStats.Fill r) l out h = fill_like_asked s r l out h
stats_like_asked (PassStats.Fill s) (PassStats.Local r) l out h = absurd l
stats_like_asked (PassStats.Local s) (PassStats.Grow r) l out h = absurd l
stats_like_asked (PassStats.Local s) (PassStats.Fill r) l out h = absurd l
stats_like_asked (PassStats.Local s) (PassStats.Local r) l out h = local_like_asked s r l out h
