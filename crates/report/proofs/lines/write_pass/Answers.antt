-- `lines::write_pass` meets its contract, by what the outcome says. Assumes nothing.
use Rattle.report.proofs.Writing.{stats_asked}
use Rattle.report.proofs.lines.write_pass.Goals as goal

pub write_stats-requires : goal.write_stats-requires
write_stats-requires c = rw c.stats_at.ensures (stats_asked c.args.outcome.now.words.now c.args.outcome.now.k c.args.out.now c.requires)
