-- `hex::read_bits` meets its contract. The invariant: what is left to read, after the digits that made `bits`, gives the answer. Assumes nothing.
use Rattle.std.proofs.Common.{arith, ◌∙◌, ap}
use Rattle.binary32.specs.Hex.{read_bits}
use Rattle.binary32.proofs.Digits.{digit_small, no_digit, one_more, in_word, ended, first_eight, too_few}
use Rattle.binary32.proofs.hex.read_bits.Goals as goal

pub returns-in_err-b-items : goal.returns-in_err-b-items
returns-in_err-b-items c = c.from_residual.ensures ∙ too_few c.args.text.now (omega (arith, c.in_err-b-items.ensures.lookup))

pub overflow_mul-bits : goal.overflow_mul-bits
overflow_mul-bits c = omega (arith, in_word c.loop-b.invariant c.loop-b-test.true)

pub returns-in_err-bits : goal.returns-in_err-bits
returns-in_err-bits c =
    c.from_residual-in_err-bits.ensures ∙ no_digit c.loop-b.invariant c.loop-b-test.true c.in_err-bits.ensures
    ∙ ap read_bits c.in_ok-b-items.ensures.lookup.0.2 ∙ first_eight c.args.text.now

pub overflow_add-bits : goal.overflow_add-bits
overflow_add-bits c = omega (arith, in_word c.loop-b.invariant c.loop-b-test.true, digit_small _ _ c.in_ok-bits.ensures)

pub loop-b-preserved : goal.loop-b-preserved
loop-b-preserved c = one_more c.loop-b.invariant c.loop-b-test.true _ c.in_ok-bits.ensures

pub returns : goal.returns
returns c = ended c.loop-b.invariant c.loop-b-test.false ∙ ap read_bits c.in_ok-b-items.ensures.lookup.0.2 ∙ first_eight c.args.text.now
