-- Laws of a lent buffer that holds a list at its front, the rest untouched: its length, what it holds, one more written, written over
-- twice, and the list read back. Assumes nothing.
use mathlib.Core.Path.{◌≡◌, sym, ap, ◌∙◌}
use mathlib.Core.List.{List, [], ◌∷◌, ◌++◌}
use Prim.Native.Nat.{ℕ, ◌+◌, ◌-◌, ◌<◌, ◌≤◌}
use native.Mathlib.Numerals.{add-one}
use native.Mathlib.Omega.{arith}
use lib.ListN.{length, get_or, take, drop, set, length-append, length-drop, take-append-drop, get_or-append}
use lib.Seq.{take-append_seam, drop-append-add, drop-drop, drop-cons, set-append_seam, append_snoc, length-take-le}
use Rattle.arguments.specs.Front.{over}

-- a list that the buffer has room for leaves the buffer's length
pub over_length : (written buffer : List ℕ) → length written ≤ length buffer → length (over written buffer) ≡ length buffer
over_length written buffer h = rw (length-append, length-drop) (omega arith)

-- what is written is read
pub over_at : (written buffer : List ℕ) (i : ℕ) → i < length written → get_or (over written buffer) i 0 ≡ get_or written i 0
over_at written buffer i h = get_or-append written (drop (length written) buffer) 0 i h

pub over_read : (written buffer : List ℕ) → take (length written) (over written buffer) ≡ written
over_read written buffer = take-append_seam written (drop (length written) buffer)

-- a buffer holds its own first places
pub over_own : (buffer : List ℕ) (n : ℕ) → n ≤ length buffer → over (take n buffer) buffer ≡ buffer
over_own buffer n h = rw (length-take-le n buffer h) (take-append-drop n buffer)

-- a value written at the position after the list extends the list
pub over_more : (written buffer : List ℕ) (v : ℕ) → length written < length buffer → set (over written buffer) (length written) v ≡ over (written ++ (v ∷ [])) buffer
over_more written buffer v h =
    rw (drop-cons buffer (length written) 0, set-append_seam, length-append, add-one, append_snoc)

-- and the same of a buffer's own first places
pub over_put : (buffer : List ℕ) (n v : ℕ) → n < length buffer → set buffer n v ≡ over (take n buffer ++ (v ∷ [])) buffer
over_put buffer n v h =
    let l : length (take n buffer) ≡ n = length-take-le n buffer (omega arith) in
    ap (λ (b : List ℕ). set b n v) (sym (over_own buffer n (omega arith)))
    ∙ ap (λ (m : ℕ). set (over (take n buffer) buffer) m v) (sym l)
    ∙ over_more (take n buffer) buffer v (omega arith)

-- a longer list over a shorter one leaves nothing of the shorter one
pub over_over : (first second buffer : List ℕ) → length first ≤ length second → over second (over first buffer) ≡ over second buffer
over_over first second buffer h = ap (λ (l : List ℕ). second ++ l) (longer (length second) h)
  where
    longer : (n : ℕ) → length first ≤ n → drop n (over first buffer) ≡ drop n buffer
    longer n k =
        let e : n ≡ length first + (n - length first) = omega arith in
        rw (e, drop-append-add, drop-drop)
