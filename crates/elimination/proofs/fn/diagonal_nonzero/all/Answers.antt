-- The test of an entry on the diagonal meets its contract: `!=` is `==`, negated. Assumes nothing.
use mathlib.Core.Path.{refl}
use lib.Ieee.{eq, ne}
use Rattle.elimination.proofs.fn.diagonal_nonzero.all.Goals as goal

pub returns : goal.returns
unfolding eq ne
returns c = refl
