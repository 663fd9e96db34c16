-- `sheet::walk::Written::new` meets its contract: what comes is what is left. Assumes nothing.
use Rattle.sheet.proofs.Blank.{written_runs}
use Rattle.sheet.proofs.walk.Written.new.Goals as goal

pub returns-clause-runs : goal.returns-clause-runs
returns-clause-runs c = written_runs
