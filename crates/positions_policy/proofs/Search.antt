-- Laws of the search over the four cardinal neighbours, for the proof of the loop: the offsets, one edge, and how a turn, a stop
-- and the end of the search agree with the definition. Assumes nothing.
use Rattle.std.specs.Prelude.{Option, Some, None}
use mathlib.Core.Path.{◌≡◌, refl, sym, ◌∙◌}
use mathlib.Core.Bool.{Bool, true, false}
use Prim.Native.Nat.{ℕ, zero, suc, ◌+◌, ◌<◌, ◌≤◌}
use native.Mathlib.Numerals.{add-one}
use native.Mathlib.Omega.{arith}
use lib.Dec.{lit≤}
use lib.IntN.{pos}
use lib.ListN.{length, drop}
use lib.Seq.{drop-cons}
use Rattle.sheet.specs.Cells.{moved, Within}
use Rattle.sheet.specs.declared.Cell.{Cell}
use Rattle.sheet.specs.declared.Offset.{Offset}
use Rattle.sheet.specs.declared.Corner.{Corner}
use Rattle.positions_policy.specs.Edge.{cardinal_offsets, cardinal_at, edge_ok, edge_to, followed_by, tried}
use Rattle.positions_policy.specs.declared.Tolerances.{Tolerances}
use Rattle.positions_policy.specs.declared.EdgeVerdict.{EdgeVerdict}
use Rattle.positions_policy.specs.declared.EdgeVerdict.TheVariants.{Accepted, Refused, NonePresent}

-- ---- the four offsets

-- each of the four is at most one step each way
pub cardinal_within : (k : ℕ) → k < 4 → Within 128 (cardinal_at k)
unfolding cardinal_offsets
cardinal_within zero h = record { di_small = lit≤ tt; dj_small = lit≤ tt }
cardinal_within (suc zero) h = record { di_small = lit≤ tt; dj_small = lit≤ tt }
cardinal_within (suc (suc zero)) h = record { di_small = lit≤ tt; dj_small = lit≤ tt }
cardinal_within (suc (suc (suc zero))) h = record { di_small = lit≤ tt; dj_small = lit≤ tt }
cardinal_within (suc (suc (suc (suc k)))) h = absurd (omega arith)

-- what is seen at the cell that was found for an offset
pub seen_beside : (seen : Cell → Option Corner) (c : Cell) {s : Option Corner} {d : Cell} {o p : Offset} → s ≡ seen d → d ≡ moved c o → o ≡ p → s ≡ seen (moved c p)
seen_beside seen c e f g = rw (e, f, g)

-- ---- one edge

-- the edge to s, which was found as r
module _ (tol : Tolerances) (candidate : Corner) {r s : Option Corner} (is : r ≡ s) where
  pub edge_none : r ≡ None → NonePresent ≡ edge_to tol candidate s
  unfolding edge_to
  edge_none e = rw (sym is, e)

  module _ {neighbour : Corner} {ok : Bool} (at : r ≡ Some neighbour) (tested : ok ≡ edge_ok candidate neighbour tol.cell_size tol.edge_length_tol) where
    pub edge_accepted : ok ≡ true → Accepted ≡ edge_to tol candidate s
    unfolding edge_to
    edge_accepted e = rw (sym is, at, sym tested, e)

    pub edge_refused : ok ≡ false → Refused ≡ edge_to tol candidate s
    unfolding edge_to
    edge_refused e = rw (sym is, at, sym tested, e)

-- ---- the search

followed_end : (v : EdgeVerdict) → followed_by v NonePresent ≡ v
unfolding followed_by
followed_end Accepted = refl
followed_end Refused = refl
followed_end NonePresent = refl

-- a refused edge after what was found, none of it accepted
followed_refused : (v later : EdgeVerdict) → (v ≡ Accepted → ⊥) → followed_by v (followed_by Refused later) ≡ followed_by Refused later
unfolding followed_by
followed_refused Accepted later h = absurd (h refl)
followed_refused Refused Accepted h = refl
followed_refused Refused Refused h = refl
followed_refused Refused NonePresent h = refl
followed_refused NonePresent later h = refl

-- an accepted edge after what was found
followed_accepted : (v : EdgeVerdict) → followed_by v Accepted ≡ Accepted
unfolding followed_by
followed_accepted Accepted = refl
followed_accepted Refused = refl
followed_accepted NonePresent = refl

-- The search before the k-th neighbour: no edge is accepted so far, and what was found, followed by the edges that are left, is
-- the verdict of all.
pub record Open (edge : Offset → EdgeVerdict) (found : EdgeVerdict) (k : ℕ) : Type 0 where
  pub range : k ≤ 4
  pub unaccepted : found ≡ Accepted → ⊥
  pub rest : followed_by found (tried edge (drop k cardinal_offsets)) ≡ tried edge cardinal_offsets

module _ (edge : Offset → EdgeVerdict) where
  -- before the first
  pub opened : Open edge NonePresent 0
  unfolding followed_by
  opened = record { range = lit≤ tt; unaccepted = λ e. let z : ◌≡◌ {A = ℕ} 0 1 = cc in omega arith; rest = refl }

  module _ {found : EdgeVerdict} {k : ℕ} (o : Open edge found k) where
    -- after the last
    pub ended : 4 ≤ k → found ≡ tried edge cardinal_offsets
    unfolding cardinal_offsets tried
    ended h = let e : k ≡ 4 = omega arith in sym (followed_end found) ∙ rw e at o.rest

    -- the k-th edge, as v
    module _ (h : k < 4) {v : EdgeVerdict} (is : v ≡ edge (cardinal_at k)) where
      four : k < length cardinal_offsets
      unfolding cardinal_offsets
      four = h

      -- the edges that are left are the k-th and those after it
      next : tried edge (drop k cardinal_offsets) ≡ followed_by v (tried edge (drop (k + 1) cardinal_offsets))
      unfolding tried
      next = rw (add-one k, drop-cons cardinal_offsets k (record { di = pos 0; dj = pos 0 }) four, is)

      -- no neighbour there: the search goes on
      pub passed : v ≡ NonePresent → Open edge found (k + 1)
      unfolding followed_by
      passed e = record { range = omega arith; unaccepted = o.unaccepted; rest = rw (next, e) at o.rest }

      -- a refused edge: the search goes on
      pub refused : v ≡ Refused → Open edge Refused (k + 1)
      refused e =
          record {
            range = omega arith;
            unaccepted = λ f. let z : ◌≡◌ {A = ℕ} 0 1 = cc in omega arith;
            rest = sym (followed_refused found _ o.unaccepted) ∙ rw (next, e) at o.rest;
          }

      -- an accepted edge: the search stops
      pub stopped : v ≡ Accepted → Accepted ≡ tried edge cardinal_offsets
      unfolding followed_by
      stopped e = sym (followed_accepted found) ∙ rw (next, e) at o.rest
