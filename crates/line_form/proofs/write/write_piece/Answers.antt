-- `write::write_piece` meets its contract: by the byte of the form. Assumes nothing.
use native.Mathlib.Omega.{arith}
use Rattle.line_form.proofs.Writing.{float_fits, float_written, whole_fits, whole_written, byte_fits, byte_written}
use Rattle.line_form.proofs.write.write_piece.Goals as goal

pub write_bits-requires : goal.write_bits-requires
write_bits-requires c = float_fits c.args.c c.args.w c.args.out.now c.requires c.in-37.is

pub returns-in-37 : goal.returns-in-37
returns-in-37 c = float_written c.args.c c.args.w c.args.out.now c.requires c.in-37.is _ c.write_bits.ensures

pub write_integer-requires : goal.write_integer-requires
write_integer-requires c = whole_fits c.args.c c.args.w c.args.out.now c.requires (λ e. omega arith) c.in-35.is

pub returns-in-35 : goal.returns-in-35
returns-in-35 c = whole_written c.args.c c.args.w c.args.out.now c.requires (λ e. omega arith) c.in-35.is _ _ c.write_integer.ensures

pub bounds-out-0 : goal.bounds-out-0
bounds-out-0 c = byte_fits c.args.c c.args.w c.args.out.now c.requires (λ e. omega arith) (λ e. omega arith)

pub returns-in_default : goal.returns-in_default
returns-in_default c = byte_written c.args.c c.args.w c.args.out.now c.requires (λ e. omega arith) (λ e. omega arith)
