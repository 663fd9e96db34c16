-- `root::split` meets its contract: `proofs/Normalize.antt` has each case. Assumes nothing.
use Prim.Native.Nat.{◌%◌}
use native.Mathlib.Omega.{arith}
use lib.Count.{count_leading_zeros}
use Rattle.binary32.proofs.Normalize.{Lifted, lifted, subnormal, normal}
use Rattle.binary32.proofs.root.split.Goals as goal
use Rattle.binary32.proofs.root.split.Goals.{Then-field-eq0}

-- what the count of leading zeros comes to where the field is 0
count : (c : Then-field-eq0) → Lifted (c.args.b % 0x80_0000) (count_leading_zeros 32 (c.args.b % 0x80_0000))
count c = lifted (c.args.b % 0x80_0000) (omega arith) (omega arith)

pub overflow_sub-k : goal.overflow_sub-k
overflow_sub-k c = (count c).eight

pub returns-then-field-eq0 : goal.returns-then-field-eq0
returns-then-field-eq0 c = subnormal c.args.b _ (omega arith) (count c)

pub returns-else-field-eq0 : goal.returns-else-field-eq0
returns-else-field-eq0 c = normal c.args.b (omega arith) c.requires.1
