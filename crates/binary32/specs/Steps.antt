-- What the steps of `sqrt` hand on, for their own contracts. Definitions only.
use Rattle.std.specs.Prelude.{ℕ, ◌+◌, ◌-◌, ◌*◌, ◌/◌, ◌^◌, ◌≤◌, ◌<◌, min, ◌≡◌}
use Rattle.root_table.specs.Roots.{entry}
use Rattle.binary32.specs.Sqrt.{square, units_of}

-- the root of n is asked: its whole part has 24 digits
pub record Asked (n : ℕ) : Type 0 where
  pub least : 2 ^ 46 ≤ n
  pub most : n < 2 ^ 48

-- low and high enclose the root of n, and have 24 digits
pub record Enclosed (n low high : ℕ) : Type 0 where
  pub from : square low ≤ n
  pub to : n < square high
  pub least : 2 ^ 23 ≤ low
  pub most : high ≤ 2 ^ 24

-- the guess that the table gives, t being its entry n / 2 ^ 38 (document 02, 4/14): from t 2 ^ 14 up and below (t + 2) 2 ^ 14, and not past 2 ^ 24
pub record FromTable (n low high : ℕ) : Type 0 where
  pub lower : low ≡ entry (n / 2 ^ 38) * 2 ^ 14
  pub upper : high ≡ min ((entry (n / 2 ^ 38) + 2) * 2 ^ 14) (2 ^ 24)

-- s is the whole part of the root of n, and has 24 digits
pub record WholeRoot (n s : ℕ) : Type 0 where
  pub from : square s ≤ n
  pub to : n < square (s + 1)
  pub low : 2 ^ 23 ≤ s
  pub high : s < 2 ^ 24

-- q is the whole number nearest to the root of n, and has 24 digits
pub record Near (n q : ℕ) : Type 0 where
  pub low : 2 ^ 23 ≤ q
  pub high : q < 2 ^ 24
  pub above : square (q - 1 + q) < 4 * n
  pub under : 4 * n < square (q + (q + 1))

-- m * 2 ^ e is b's number in units of 2 ^ -298, and m has 24 digits
pub record Normalized (b m e : ℕ) : Type 0 where
  pub low : 2 ^ 23 ≤ m
  pub high : m < 2 ^ 24
  pub least : 126 ≤ e
  pub most : e ≤ 402
  pub value : m * 2 ^ e ≡ units_of b * 2 ^ 149
