-- `root::sqrt` meets its contract: `proofs/Answered.antt` has each answer. Assumes nothing.
use mathlib.Core.Path.{sym, subst}
use native.Mathlib.Omega.{arith}
use lib.Dec.{T}
use lib.Ieee.{binary32, fits}
use lib.Ieee.Bits.{to_bits-lt}
use Rattle.binary32.proofs.Answered.{at_zero, at_minus_zero, at_others, pattern, at_positive}
use Rattle.binary32.proofs.Rooting.{promised}
use Rattle.binary32.proofs.root.sqrt.Goals as goal
use Rattle.binary32.proofs.root.sqrt.Goals.{Start}

-- what owning an `f32` tells: the format holds it
held : (c : Start) → T (fits binary32 c.args.x)
held c = subst T (sym c.well_formed.0.1) tt

pub returns-in-0 : goal.returns-in-0
returns-in-0 c =
    let p = promised _ _ (at_zero c.args.x (held (goal.at.returns-in-0 c).Start) c.in-0.is) in record { rounded = p.0; computed = p.1.0; said = p.1.1 }

pub returns-in-0-2 : goal.returns-in-0-2
returns-in-0-2 c =
    let p = promised _ _ (at_minus_zero c.args.x (held (goal.at.returns-in-0-2 c).Start) c.in-0.is) in record { rounded = p.0; computed = p.1.0; said = p.1.1 }

pub returns-in-2139095040-to-4294967295 : goal.returns-in-2139095040-to-4294967295
returns-in-2139095040-to-4294967295 c =
    let f = held (goal.at.returns-in-2139095040-to-4294967295 c).Start in
    let p = promised _ _ (at_others c.args.x f (omega arith) (omega arith)) in record { rounded = p.0; computed = p.1.0; said = p.1.1 }

pub float_from_bits-result : goal.float_from_bits-result
float_from_bits-result c = pattern c.root_bits.result (omega (arith, c.root_bits.ensures.finite))

pub returns-in_default : goal.returns-in_default
returns-in_default c =
    let f = held (goal.at.returns-in_default c).Start in
    let p = promised _ _ (at_positive c.args.x c.root_bits.result f (omega arith) (omega (arith, to_bits-lt binary32 c.args.x f)) c.root_bits.ensures) in
    record { rounded = p.0; computed = p.1.0; said = p.1.1 }
