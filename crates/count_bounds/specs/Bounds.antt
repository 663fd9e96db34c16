-- How large the numbers of a pass line can get (document 01, "Frame and result": rounds 0 to 64; the sheet has 16,384 cells; at most 1,024 corners), and
-- of local's line of unmatched corners (document 02, 1/14). Definitions only.
use Rattle.std.specs.Prelude.{◌≡◌, true, List, ℕ, ◌≤◌, T, Float, Option, None, Some}
use Rattle.std.specs.Float.{binary32}
use Rattle.std.specs.Float.Ieee.{fits}
use Rattle.sheet.specs.Corners.{CornerLists}
use Rattle.binary32.specs.Ranges.{is_finite}
use Rattle.arguments.specs.Accepted.{Accepted}
use Rattle.passes.specs.declared.Counts.{Counts}
use Rattle.passes.specs.declared.GrowStats.{GrowStats}
use Rattle.passes.specs.declared.FillStats.{FillStats}
use Rattle.passes.specs.declared.LocalStats.{LocalStats}
use Rattle.passes.specs.Run.{Call}
use Rattle.passes.specs.declared.PassStats.{PassStats}
use Rattle.invariants.specs.Calls.{lent_call, after_call}

-- no count is above m
pub record FewCounts (m : ℕ) (c : Counts) : Type 0 where
  pub attached : c.attached ≤ m
  pub no_candidate : c.rejected_no_candidate ≤ m
  pub ambiguous : c.rejected_ambiguous ≤ m
  pub edge : c.rejected_edge ≤ m

-- a finite binary32 number
pub record FiniteFloat (x : Float) : Type 0 where
  pub finite : is_finite x ≡ true
  pub fit : T (fits binary32 x)

-- a largest residual is finite, if there is one
abbrev pub FiniteResidual : Option Float → Type 0
FiniteResidual None = Unit {0}
FiniteResidual (Some x) = FiniteFloat x

-- at most m corners were passed over, if any shade stands
abbrev pub FewUnmatched : ℕ → Option ℕ → Type 0
FewUnmatched m None = Unit {0}
FewUnmatched m (Some n) = n ≤ m

-- what a pass says: at most 64 rounds of 16,384 cells, a finite residual, and at most 1,024 corners passed over at each of these cells
pub data Small : PassStats → Type 0 where
  small_grow : {s : GrowStats} → FewCounts 1048576 s.counts → Small (PassStats.Grow s)
  small_fill : {s : FillStats} → s.added ≤ 1048576 → s.iterations ≤ 64 → Small (PassStats.Fill s)
  small_local : {s : LocalStats} → FewCounts 1048576 s.counts → s.iterations ≤ 64 → FiniteResidual s.residual → FewUnmatched 1073741824 s.unmatched
      → Small (PassStats.Local s)

-- so it is for every call that is not refused
abbrev pub SmallAnswers : Type 0
SmallAnswers =
    (l : CornerLists) (sheet : List ℕ) (c : Call) → Accepted (lent_call l sheet c) c.settings c.pass
    → Small (after_call l sheet c).answer
