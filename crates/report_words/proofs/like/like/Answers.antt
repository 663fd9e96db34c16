-- `like::like` meets its contract: above the largest number that a line can hold there are as many digits. Assumes nothing.
use Prim.Native.Nat.{ℕ, ◌<◌, ◌≤◌, min}
use native.Mathlib.Decide.{dec_le}
use native.Mathlib.Omega.{arith}
use mathlib.Core.Path.{◌≡◌}
use Rattle.report_line.specs.Like.{Like}
use Rattle.report_line.proofs.Like.{like_itself, like_largest}
use Rattle.report_words.proofs.like.like.Goals as goal

like_least : (n r : ℕ) → n < 4294967296 → r ≡ min n 4293967295 → Like n r
like_least n r h e = go (dec_le n 4293967295)
  where
    go : Dec (n ≤ 4293967295) → Like n r
    go (yes l) = let same : r ≡ n = omega arith in rw same (like_itself n l)
    go (no f) = let same : r ≡ 4293967295 = omega arith in rw same (like_largest n (omega arith) h)

pub returns : goal.returns
returns c = like_least _ _ c.requires c.min.ensures
