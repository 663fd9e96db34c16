-- `hex::write_bits` meets its contract. The invariant: the first i of the eight bytes are the first i digits. Assumes nothing.
use Rattle.binary32.proofs.Digits.{Writing}
use Rattle.binary32.proofs.hex.write_bits.Given as goal

abbrev pub invariant-loop-i : goal.invariant-loop-i
invariant-loop-i l = Writing l.bits l.initial.digit-items l.digit-items l.i
