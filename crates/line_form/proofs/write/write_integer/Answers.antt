-- `write::write_integer` meets its contract: a minus and the digits, or the digits. Assumes nothing.
use native.Mathlib.Omega.{arith}
use lib.ListN.{length-set}
use Rattle.line_form.proofs.Writing.{minus_room, minus_part, minus_written, plus_room, plus_written}
use Rattle.line_form.proofs.write.write_integer.Goals as goal

pub bounds-out-0 : goal.bounds-out-0
bounds-out-0 c = omega (arith, minus_room c.args.w c.args.out.now c.requires c.if-w-lt-OFFSET.true)

pub slice_bounds-write_decimal-count : goal.slice_bounds-write_decimal-count
slice_bounds-write_decimal-count c = simp length-set (omega (arith, minus_room c.args.w c.args.out.now c.requires c.if-w-lt-OFFSET.true))

pub slice_bounds-write_decimal-start : goal.slice_bounds-write_decimal-start
slice_bounds-write_decimal-start c = simp length-set (omega (arith, minus_room c.args.w c.args.out.now c.requires c.if-w-lt-OFFSET.true))

pub write_decimal-n-requires : goal.write_decimal-n-requires
write_decimal-n-requires c = minus_part c.args.w c.args.out.now c.requires c.if-w-lt-OFFSET.true

pub returns-then-w-lt-OFFSET : goal.returns-then-w-lt-OFFSET
returns-then-w-lt-OFFSET c = minus_written c.args.w c.args.out.now c.requires c.if-w-lt-OFFSET.true _ _ c.write_decimal-n.ensures

pub write_decimal-requires : goal.write_decimal-requires
write_decimal-requires c = plus_room c.args.w c.args.out.now c.requires c.if-w-lt-OFFSET.false

pub returns : goal.returns
returns c = plus_written c.args.w c.args.out.now c.requires c.if-w-lt-OFFSET.false _ _ c.write_decimal.ensures
