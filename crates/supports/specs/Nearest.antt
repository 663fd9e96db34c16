-- The labelled places as an array holds them, and the four kept supports: "Supports are the 4 nearest by |di|+|dj|, then i, then j" (document 01,
-- "Sheet"; what it says of them is `supports_of` of crate passes, Local). Definitions only.
use Rattle.std.specs.Prelude.{◌≡◌, Bool, true, false, cond, List, [], ◌∷◌, ◌++◌, map, ℕ, ◌<◌, ◌≤◌, ltb, leb, length, take, replicate, All}
use Rattle.sizes.specs.Sizes.{place_count, corner_limit}
use Rattle.sheet.specs.Cells.{OnSheet}
use Rattle.sheet.specs.declared.Cell.{Cell}
use Rattle.labels.specs.Labelled.{Rising, labelled_places, label_count}
use Rattle.passes.specs.Local.{reach_of, by_reach}
use Rattle.arguments.specs.Front.{over}
use Rattle.supports.specs.declared.Support.{Support}

-- ---- the labelled places

-- a sheet that is long enough and has at most 1,024 labels
pub record Gatherable (sheet : List ℕ) : Type 0 where
  pub long : place_count ≤ length sheet
  pub few : label_count sheet ≤ corner_limit

-- the labelled places stand at the front of the array, whose rest is as before
pub record Gathered (sheet places places' : List ℕ) (count : ℕ) : Type 0 where
  pub count_is : count ≡ label_count sheet
  pub places_are : places' ≡ over (labelled_places sheet) places

-- ---- the kept supports

-- a place with its reach from a cell
abbrev pub support_at : Cell → ℕ → Support
support_at c p = record { place = p; reach = reach_of c p }

-- what stands for a support that is not found yet: farther than any cell of the sheet from any other
abbrev pub not_found : Support
not_found = record { place = 0; reach = 1000 }

abbrev pub nothing_kept : List Support
nothing_kept = replicate 4 not_found

-- the places of some supports
abbrev pub places_of : List Support → List ℕ
places_of = map (λ s. s.place)

-- "the 4 nearest" of some places, each with its reach
abbrev pub nearest_among : Cell → List ℕ → List Support
nearest_among c places = map (support_at c) (take 4 (by_reach c places))

-- a support before the first whose reach passes a test
unfoldable pub before_those : (ℕ → Bool) → Support → List Support → List Support
before_those behind new [] = new ∷ []
before_those behind new (s ∷ ss) = cond (behind s.reach) (new ∷ s ∷ ss) (s ∷ before_those behind new ss)

-- a support before those that are farther
abbrev pub ahead : Support → List Support → List Support
ahead new = before_those (ltb new.reach) new

-- a support before those that are as far or farther
abbrev pub ahead_of_ties : Support → List Support → List Support
ahead_of_ties new = before_those (leb new.reach) new

-- what passes the test is as far as n or farther, and what fails it as near or nearer
pub record SplitsAt (n : ℕ) (behind : ℕ → Bool) : Type 0 where
  pub far : (r : ℕ) → behind r ≡ true → n ≤ r
  pub near : (r : ℕ) → behind r ≡ false → r ≤ n

-- four supports, of which none is farther than the next
pub data InOrder : List Support → Type 0 where
  four : {a b c d : Support} → a.reach ≤ b.reach → b.reach ≤ c.reach → c.reach ≤ d.reach → InOrder (a ∷ b ∷ c ∷ d ∷ [])

-- one more support: the first four of the five
pub record Kept (behind : ℕ → Bool) (s : List Support) (new : Support) (r : List Support) : Type 0 where
  pub kept_are : r ≡ take 4 (before_those behind new s)
  pub in_order : InOrder r

-- one whose place is after the others'
abbrev pub MoreKept : List Support → Support → List Support → Type 0
MoreKept s new = Kept (ltb new.reach) s new

-- one whose place is before the others'
abbrev pub EarlierKept : List Support → Support → List Support → Type 0
EarlierKept s new = Kept (leb new.reach) s new

-- places of the sheet in rising order, and a cell of the sheet
pub record Along (places : List ℕ) (c : Cell) : Type 0 where
  pub rising : Rising places
  pub below : All (λ p. p < place_count) places
  pub on : OnSheet c

-- at least four of them
pub record Nearby (places : List ℕ) (c : Cell) : Type 0 where
  pub four : 4 ≤ length places
  pub along : Along places c

-- some places with their reaches, and behind them what stands for those not found
abbrev pub filled_up : Cell → List ℕ → List Support
filled_up c l = map (support_at c) l ++ nothing_kept

-- the nearest four of some places are kept
pub record Keeping (c : Cell) (kept : List Support) (places : List ℕ) : Type 0 where
  pub kept_are : kept ≡ take 4 (filled_up c (by_reach c places))
  pub in_order : InOrder kept
