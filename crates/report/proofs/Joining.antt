-- Lines one after the other: those from a number on, split and compared, and a piece of them. Assumes nothing.
use mathlib.Core.Path.{◌≡◌, refl, sym, ap, ap₂, ◌∙◌}
use mathlib.Core.Bool.{Bool, true, false}
use mathlib.Core.List.{List, [], ◌++◌, append_assoc}
use Prim.Native.Nat.{ℕ, zero, suc, ◌+◌, ◌-◌, ◌≤◌, ◌<◌}
use native.Mathlib.Nat.{not-suc-le-zero}
use native.Mathlib.Omega.{arith}
use borrow.Author.Tests.{ltb-false, le-ltb}
use lib.Dec.{ltb}
use lib.ListN.{length, length-append}
use Rattle.report_line.specs.Result.{lines_from, Piece, ending, piece_with, piece_of}

-- ---- lines

pub no_lines : (line : ℕ → List ℕ) (k : ℕ) → lines_from line k 0 ≡ []
unfolding lines_from
no_lines line k = refl

pub one_line_more : (line : ℕ → List ℕ) (k n : ℕ) → lines_from line k (suc n) ≡ line k ++ lines_from line (suc k) n
unfolding lines_from
one_line_more line k n = refl

-- the first n, and those after them
pub lines_split : (line : ℕ → List ℕ) (k n m : ℕ) → lines_from line k (n + m) ≡ lines_from line k n ++ lines_from line (k + n) m
unfolding lines_from
lines_split line k zero m = let e : k + 0 ≡ k = omega arith in let d : 0 + m ≡ m = omega arith in rw (d, e)
lines_split line k (suc n) m =
    let e : suc k + n ≡ k + suc n = omega arith in
    let d : suc n + m ≡ suc (n + m) = omega arith in
    rw d (ap (λ (l : List ℕ). line k ++ l) (lines_split line (suc k) n m ∙ rw e refl) ∙ sym (append_assoc (line k) (lines_from line (suc k) n) (lines_from line (k + suc n) m)))

-- lines that are the same, those of the one from k on and those of the other from j on
pub lines_same : (f g : ℕ → List ℕ) (k j n : ℕ) → ((a b : ℕ) → k ≤ a → a < k + n → a + j ≡ b + k → f a ≡ g b) → lines_from f k n ≡ lines_from g j n
unfolding lines_from
lines_same f g k j zero h = refl
lines_same f g k j (suc n) h =
    ap₂ ◌++◌ (h k j (omega arith) (omega arith) (omega arith)) (lines_same f g (suc k) (suc j) n (λ a b l m e. h a b (omega arith) (omega arith) (omega arith)))

-- ---- a piece

-- from line k on, n lines being there: it goes no further than they do, and what comes after it completes them
pub record Cut (line : ℕ → List ℕ) (n k : ℕ) (p : Piece) : Type 0 where
  pub from : k ≤ p.next
  pub upto : p.next ≤ k + n
  pub joins : p.text ++ lines_from line p.next (k + n - p.next) ≡ lines_from line k n

nothing_cut : (line : ℕ → List ℕ) (n k : ℕ) → Cut line n k (ending k)
nothing_cut line n k = let e : k + n - k ≡ n = omega arith in record { from = omega arith; upto = omega arith; joins = rw e }

pub cut : (line : ℕ → List ℕ) (n k room : ℕ) → Cut line n k (piece_of line n k room)
unfolding piece_of
cut line zero k room = nothing_cut line zero k
cut line (suc n) k room = go (ltb room 128) (cut line n (suc k) (room - length (line k)))
  where
    go : (t : Bool) → Cut line n (suc k) (piece_of line n (suc k) (room - length (line k)))
        → Cut line (suc n) k (piece_with t k room (line k) (λ left. piece_of line n (suc k) left))
    go true r = nothing_cut line (suc n) k
    go false r =
        let p = piece_of line n (suc k) (room - length (line k)) in
        let low = r.from in
        let high = r.upto in
        let e : k + suc n ≡ suc k + n = omega arith in
        record {
          from = omega arith;
          upto = omega arith;
          joins = rw e (append_assoc (line k) p.text _ ∙ ap (λ (l : List ℕ). line k ++ l) r.joins ∙ sym (one_line_more line k n));
        }

-- with room for any line it goes on
pub moves : (line : ℕ → List ℕ) (n k room : ℕ) → 0 < n → 128 ≤ room → k < (piece_of line n k room).next
unfolding piece_of
moves line zero k room h r = absurd (not-suc-le-zero h)
moves line (suc n) k room h r = go (ltb room 128) (le-ltb room 128 r) (cut line n (suc k) (room - length (line k)))
  where
    go : (t : Bool) → t ≡ false → Cut line n (suc k) (piece_of line n (suc k) (room - length (line k)))
        → k < (piece_with t k room (line k) (λ left. piece_of line n (suc k) left)).next
    go true e c = let z : true ≡ false = e in absurd (no_true z)
      where
        no_true : true ≡ false → ⊥
        no_true q = let w : ◌≡◌ {A = ℕ} 0 1 = cc in omega arith
    go false e c = let low = c.from in omega arith

-- no line of it longer than 127 bytes, it is no longer than the room
pub fits : (line : ℕ → List ℕ) (n k room : ℕ) → ((i : ℕ) → k ≤ i → i < k + n → length (line i) ≤ 127) → length (piece_of line n k room).text ≤ room
unfolding piece_of
fits line zero k room h = omega arith
fits line (suc n) k room h = go (ltb room 128) refl (fits line n (suc k) (room - length (line k)) (λ i a b. h i (omega arith) (omega arith)))
  where
    go : (t : Bool) → ltb room 128 ≡ t → length (piece_of line n (suc k) (room - length (line k))).text ≤ room - length (line k)
        → length (piece_with t k room (line k) (λ left. piece_of line n (suc k) left)).text ≤ room
    go true e r = omega arith
    go false e r =
        let big = ltb-false room 128 e in
        let short = h k (omega arith) (omega arith) in
        rw length-append (omega arith)
