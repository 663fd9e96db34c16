-- `hex::write_bits` meets its contract. The invariant: the first i of the eight bytes are the first i digits. Assumes nothing.
use Rattle.std.proofs.Common.{◌++◌, ap, drop, List, ℕ, arith}
use Rattle.binary32.proofs.Digits.{eight_of, begun, one_more_written, wrote_all}
use Rattle.binary32.proofs.hex.write_bits.Goals as goal

pub loop-i-init : goal.loop-i-init
loop-i-init c = begun _ _ (let e = eight_of _ c.requires in omega arith)

pub loop-i-preserved : goal.loop-i-preserved
loop-i-preserved c = one_more_written _ _ _ _ c.loop-i.invariant (let e = eight_of _ c.requires in omega (arith, c.loop-i-test.true)) _ c.digit_of.ensures

pub returns : goal.returns
returns c = ap (λ (s : List ℕ). s ++ drop 8 c.args.out.now) (let e = eight_of _ c.requires in wrote_all _ _ _ _ e c.loop-i.invariant (omega (arith, c.loop-i-test.false)))
