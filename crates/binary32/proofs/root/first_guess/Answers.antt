-- `root::first_guess` meets its contract: `proofs/Squares.antt` has both inequalities, from the rule of the table. Assumes nothing.
use Rattle.binary32.proofs.Squares.{lesser_encloses}
use Rattle.binary32.proofs.root.first_guess.Goals as goal

pub invariant_of-result : goal.invariant_of-result
invariant_of-result c = record { enclosed = rw c.min.ensures (rw c.from-t.ensures (lesser_encloses c.args.n _ c.requires c.whole_root.ensures.ruled)) }
