-- `lines::pass_length` meets its contract: the line written is as long. Assumes nothing.
use mathlib.Core.Path.{◌∙◌}
use native.Mathlib.Omega.{arith}
use Rattle.report_line.proofs.Like.{stats_like, stats_like_asked}
use Rattle.report.proofs.lines.pass_length.Goals as goal

pub write_stats-requires : goal.write_stats-requires
write_stats-requires c = stats_like_asked _ _ c.stats_like.ensures _ (omega arith)

pub returns : goal.returns
returns c = c.write_stats.ensures.count ∙ stats_like _ _ c.stats_like.ensures
