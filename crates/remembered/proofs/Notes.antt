-- What is remembered from the start, what is recalled of it, and what is noted. Assumes nothing.
use mathlib.Core.Path.{◌≡◌}
use mathlib.Core.List.{List}
use Prim.Native.Nat.{ℕ, ◌<◌}
use native.Mathlib.Decide.{ℕ_discrete}
use lib.ListN.{get_or-replicate}
use lib.Dec.{T}
use lib.Ieee.Scale.{finite}
use Rattle.std.specs.Prelude.{Option, Float}
use Rattle.sheet.specs.Corners.{Corners}
use Rattle.sheet.specs.Cells.{OnSheet, place_of, cell_of}
use Rattle.sheet.specs.declared.Cell.{Cell}
use Rattle.sheet.proofs.Laws.{place_in, cell_place}
use Rattle.arguments.specs.declared.Settings.{Settings}
use Rattle.arguments.specs.declared.LocalExtensionParams.{LocalExtensionParams}
use Rattle.candidates.specs.Candidates.{squared_radius}
use Rattle.passes.specs.Local.{local_search}
use Rattle.remembered.specs.Remembered.{KnownAt, known_of, entry_of, nothing_noted, Remembered, Noted}
use Rattle.remembered.specs.declared.Known.{Known}
use Rattle.remembered.specs.declared.Memory.{Memory}

-- nothing is known yet
pub started : (cs : Corners) (set : Settings) (p : LocalExtensionParams) (l : Option Float) (sheet : List ℕ)
    → T (finite (squared_radius (local_search set p).search_r)) → Remembered cs set p l sheet nothing_noted
unfolding known_of
started cs set p l sheet small = record { at = λ a h. rw (get_or-replicate {A = ℕ} 16384 a 0 0 h) tt; bounded = small }

module _ {cs : Corners} {set : Settings} {p : LocalExtensionParams} {l : Option Float} {sheet : List ℕ} {memory : Memory} {known : Option Known}
    (m : Remembered cs set p l sheet memory) (c : Cell) (on : OnSheet c) where
  -- what is recalled holds
  pub recalled : known ≡ entry_of memory (place_of c) → KnownAt cs set p l sheet c known
  recalled e = rw e (rw (cell_place c on) at (m.at (place_of c) (place_in c on)))

  -- what holds can be noted
  pub noted : {memory' : Memory} → KnownAt cs set p l sheet c known → Noted memory c known memory' → Remembered cs set p l sheet memory'
  noted {memory'} k w = record { at = λ a h. go a h (ℕ_discrete a (place_of c)); bounded = m.bounded }
    where
      go : (a : ℕ) → a < 16384 → Dec (a ≡ place_of c) → KnownAt cs set p l sheet (cell_of a) (entry_of memory' a)
      go a h (yes d) = rw (d, w.here, cell_place c on) k
      go a h (no d) = rw (w.else a d) (m.at a h)
