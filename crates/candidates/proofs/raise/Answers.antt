-- `raise` meets its contract: of two equal numbers either is the same. Assumes nothing.
use mathlib.Core.Path.{sym, subst}
use lib.Dec.{T}
use Rattle.candidates.proofs.Choice.{raised_is}
use Rattle.candidates.proofs.raise.Goals as goal

pub returns : goal.returns
returns c = raised_is _ _ (subst T (sym c.well_formed.0.1) tt) c.max.ensures.value c.max.ensures.unequal
