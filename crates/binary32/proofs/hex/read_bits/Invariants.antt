-- `hex::read_bits` meets its contract. The invariant: what is left to read, after the digits that made `bits`, gives the answer. Assumes nothing.
use Rattle.binary32.proofs.Digits.{Reading}
use Rattle.binary32.proofs.hex.read_bits.Given as goal

abbrev pub invariant-loop-b : goal.invariant-loop-b
invariant-loop-b l = Reading l.b-items l.bits l.b-index
