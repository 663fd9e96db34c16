-- `grow_extend::Growing::run` meets its contract. Assumes nothing.
use mathlib.Core.Path.{refl}
use Rattle.grow_extend.proofs.Laws.{start_unqueued, running_start, running_visitable, running_more, running_end, running_falls}
use Rattle.grow_extend.proofs.Growing.run.Goals as goal

pub seed-requires : goal.seed-requires
seed-requires c = start_unqueued c.requires

pub loop-c-init : goal.loop-c-init
loop-c-init c = running_start c.requires (record { same_corners = refl; same_setup = refl; same_sheet = refl; same_list = refl }) refl refl refl c.seed.ensures

pub visit-requires : goal.visit-requires
visit-requires c = running_visitable c.requires c.loop-c.invariant c.pop.ensures c.in-Some.is

pub loop-c-smaller : goal.loop-c-smaller
loop-c-smaller c = running_falls c.requires c.loop-c.invariant c.pop.ensures c.in-Some.is c.visit.ensures

pub loop-c-preserved : goal.loop-c-preserved
loop-c-preserved c = running_more c.requires c.loop-c.invariant c.pop.ensures c.in-Some.is c.visit.ensures

pub returns : goal.returns
returns c = running_end c.requires c.loop-c.invariant c.pop.ensures c.in_default.is
