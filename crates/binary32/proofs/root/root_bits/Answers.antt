-- `root::root_bits` meets its contract: `proofs/Assemble.antt` has the root from its parts. Assumes nothing.
use borrow.Author.Rules.{rules}
use Prim.Native.Nat.{◌-◌, ◌/◌}
use lib.Dec.{lit≤}
use Rattle.binary32.proofs.Assemble.{root, even, odd}
use Rattle.binary32.proofs.root.root_bits.Goals as goal

pub returns-then-e-eq0 : goal.returns-then-e-eq0
returns-then-e-eq0 c =
    let s = c.split-p in
    root c.args.b s.result.m s.result.e 24 ((s.result.e - 23) / 2) c.nearest_root.result s.ensures
    (even s.result.e s.ensures.least c.if-e-eq0.true) (lit≤ tt) (lit≤ tt) (search rules) (rw c.from-m.ensures at c.nearest_root.ensures)

pub returns-else-e-eq0 : goal.returns-else-e-eq0
returns-else-e-eq0 c =
    let s = c.split-p in
    root c.args.b s.result.m s.result.e 23 ((s.result.e - 23) / 2) c.nearest_root-else-e-eq0.result s.ensures
    (odd s.result.e s.ensures.least c.if-e-eq0.false) (lit≤ tt) (lit≤ tt) (search rules) (rw c.from-m.ensures at c.nearest_root-else-e-eq0.ensures)
