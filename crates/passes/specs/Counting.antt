-- The counts of grow, and of local, which has the same four (document 01, "Frame and result": "Grow: attached, no candidate, ambiguous, edge, rim.",
-- "Local: grow's four"). Definitions only.
use Rattle.std.specs.Prelude.{ℕ, ◌+◌, Ok, Err}
use Rattle.extension_common.specs.declared.NotAttached.{NotAttached}
use Rattle.extension_common.specs.TryCell.{TryCellResult}
use Rattle.passes.specs.declared.Counts.{Counts}

-- nothing counted yet
abbrev pub no_counts : Counts
no_counts = record { attached = 0; rejected_no_candidate = 0; rejected_ambiguous = 0; rejected_edge = 0 }

-- the counts with one cell more, by what was found there
abbrev pub one_more : TryCellResult → Counts → Counts
one_more (Err NotAttached.NoCandidates) n = record {
  attached = n.attached;
  rejected_no_candidate = n.rejected_no_candidate + 1;
  rejected_ambiguous = n.rejected_ambiguous;
  rejected_edge = n.rejected_edge;
}
one_more (Err NotAttached.Ambiguous) n = record {
  attached = n.attached;
  rejected_no_candidate = n.rejected_no_candidate;
  rejected_ambiguous = n.rejected_ambiguous + 1;
  rejected_edge = n.rejected_edge;
}
one_more (Err NotAttached.EdgeRejected) n = record {
  attached = n.attached;
  rejected_no_candidate = n.rejected_no_candidate;
  rejected_ambiguous = n.rejected_ambiguous;
  rejected_edge = n.rejected_edge + 1;
}
one_more (Ok k) n = record {
  attached = n.attached + 1;
  rejected_no_candidate = n.rejected_no_candidate;
  rejected_ambiguous = n.rejected_ambiguous;
  rejected_edge = n.rejected_edge;
}

-- how many visits were counted
abbrev pub visits : Counts → ℕ
visits n = n.attached + n.rejected_no_candidate + n.rejected_ambiguous + n.rejected_edge
