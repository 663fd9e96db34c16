-- `sheet::neighbour` meets its contract: both sums are read back as they are. Assumes nothing.
use native.Mathlib.Omega.{arith}
use Rattle.sheet.proofs.Laws.{line_i, line_j, sum_read}
use Rattle.sheet.proofs.neighbour.Goals as goal

pub returns : goal.returns
returns c =
    let a = c.args in
    λ t.
    record {
      i = sum_read a.c.i a.o.di (omega (arith, line_i a.c c.requires.0)) t;
      j = sum_read a.c.j a.o.dj (omega (arith, line_j a.c c.requires.0)) t;
    }
