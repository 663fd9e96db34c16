-- `fill::Filling::try_fill_cell` meets its contract, by what is found. Assumes nothing.
use Rattle.fill.proofs.Visit.{tried_none, tried_taking, tried_corner}
use Rattle.fill.proofs.Filling.try_fill_cell.Goals as goal

pub attach_corner-requires : goal.attach_corner-requires
attach_corner-requires c = tried_taking c.args.self.now c.args.c c.try_cell.ensures c.requires c.in-Ok.is

pub returns-in-Ok : goal.returns-in-Ok
returns-in-Ok c = tried_corner c.args.self.now c.args.c c.try_cell.ensures c.requires c.in-Ok.is c.attach_corner.ensures

pub returns-in_default : goal.returns-in_default
returns-in_default c = tried_none c.args.self.now c.args.c c.try_cell.ensures c.in_default.not-Ok
