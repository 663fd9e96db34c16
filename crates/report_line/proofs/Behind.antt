-- A text written behind another, into the unfilled rest of a buffer. Assumes nothing.
use Rattle.std.specs.Prelude.{Option, None, Some}
use mathlib.Core.Path.{◌≡◌, sym, ap, ap₂, ◌∙◌}
use mathlib.Core.List.{List, [], ◌++◌, append_assoc}
use Prim.Native.Nat.{ℕ, ◌+◌, ◌-◌, ◌≤◌}
use native.Mathlib.Omega.{arith}
use borrow.Rule.Slice.PartMut.{put_mid}
use lib.ListN.{length, take, drop, length-append, length-drop}
use lib.Seq.{take_at, drop_at, drop-drop}
use Rattle.line_form.specs.Written.{Wrote}
use Rattle.line_form.proofs.Reading.{part}
use Rattle.line_form.proofs.Writing.{put_back}
use Rattle.passes.specs.declared.LocalStats.{LocalStats}
use Rattle.report_line.specs.Result.{local_line, unmatched_line, local_lines}
use Rattle.report_line.specs.Written.{LocalLineAsked, UnmatchedAsked, LocalAsked}

module _ (done old new : List ℕ) (at : ℕ) (size : length done ≡ at) (fits : at ≤ length old) (is : new ≡ done ++ drop (length done) old) where
  pub front_length : length new ≡ length old
  front_length = ap length is ∙ length-append done (drop (length done) old) ∙ rest
    where
      rest : length done + length (drop (length done) old) ≡ length old
      rest = let d = length-drop (length done) old in omega arith

  front : take at new ≡ done
  front = ap (take at) is ∙ take_at done (drop (length done) old) at size

  back : drop at new ≡ drop (length done) old
  back = ap (drop at) is ∙ drop_at done (drop (length done) old) at size

  pub one_more : (line rest : List ℕ) (n : ℕ) → Wrote line (take (length new - at) (drop at new)) rest n
      → put_mid at (length new - at) new rest ≡ (done ++ line) ++ drop (length (done ++ line)) old
  one_more line rest n w =
      put_back new rest at
      ∙ ap₂ ◌++◌ front (w.part ∙ ap (λ (l : List ℕ). line ++ drop (length line) l) (part new at ∙ back) ∙ ap (λ (l : List ℕ). line ++ l) (drop-drop (length line) (length done) old))
      ∙ sym (append_assoc done line (drop (length done + length line) old))
      ∙ ap (λ (m : ℕ). (done ++ line) ++ drop m old) (sym (length-append done line))

-- two texts with room for both
module _ (first second old mid : List ℕ) (a : ℕ) (room : length (first ++ second) ≤ length old) (w : Wrote first old mid a) where
  pub first_room : length first ≤ length old
  first_room = omega (arith, room, length-append first second)

  at_most : a ≤ length old
  at_most = omega (arith, w.count, first_room)

  pub mid_length : length mid ≡ length old
  mid_length = front_length first old mid a (sym w.count) at_most w.part

  pub second_room : length second ≤ length (take (length mid - a) (drop a mid))
  second_room = rw (part mid a) (omega (arith, room, length-append first second, w.count, mid_length, length-drop a mid))

  pub wrote_behind : (rest : List ℕ) (n : ℕ) → Wrote second (take (length mid - a) (drop a mid)) rest n
      → Wrote (first ++ second) old (put_mid a (length mid - a) mid rest) (a + n)
  wrote_behind rest n v =
      record {
        count = omega (arith, w.count, v.count, length-append first second);
        part = one_more first old mid a (sym w.count) at_most w.part second rest n v;
      }

-- ---- what stands behind local's line

module _ (u : Option ℕ) where
  pub no_line : u ≡ None → unmatched_line u ≡ []
  unfolding unmatched_line
  no_line e = ap unmatched_line e

  module _ (n : ℕ) (e : u ≡ Some n) where
    pub count_line : unmatched_line (Some n) ≡ unmatched_line u
    count_line = ap unmatched_line (sym e)

module _ (s : LocalStats) (out : List ℕ) (a : LocalAsked s out) where
  both : length (local_line s ++ unmatched_line s.unmatched) ≤ length out
  unfolding local_lines
  both = a.room

  pub line_asked : LocalLineAsked s out
  line_asked =
      record { few = a.few; rounds = a.rounds; finite = a.finite; room = omega (arith, both, length-append (local_line s) (unmatched_line s.unmatched)) }

  module _ (mid : List ℕ) (n : ℕ) (w : Wrote (local_line s) out mid n) where
    pub line_within : n ≤ length mid
    line_within =
        omega (arith, w.count, line_asked.room, mid_length (local_line s) (unmatched_line s.unmatched) out mid n both w)

    pub unmatched_asked : UnmatchedAsked s.unmatched (take (length mid - n) (drop n mid))
    unmatched_asked = record { held = a.unmatched; room = second_room (local_line s) (unmatched_line s.unmatched) out mid n both w }

    pub local_wrote : (rest : List ℕ) (m : ℕ) → Wrote (unmatched_line s.unmatched) (take (length mid - n) (drop n mid)) rest m
        → Wrote (local_lines s) out (put_mid n (length mid - n) mid rest) (n + m)
    unfolding local_lines
    local_wrote rest m v = wrote_behind (local_line s) (unmatched_line s.unmatched) out mid n both w rest m v
