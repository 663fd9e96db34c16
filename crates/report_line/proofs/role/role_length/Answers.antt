-- `role::role_length` meets its contract, by the role. Assumes nothing.
use Rattle.report_line.proofs.RoleLine.{plant_length, depot_length, dealer_length}
use Rattle.report_line.proofs.role.role_length.Goals as goal

pub returns-in-Plant : goal.returns-in-Plant
returns-in-Plant c =
    rw (c.sum_digits-attached.ensures.digits, c.sum_digits-no_candidate.ensures.digits, c.sum_digits-ambiguous.ensures.digits, c.sum_digits-edge.ensures.digits, c.in-Plant.is)
    (plant_length c.args.sum)

pub returns-in-Depot : goal.returns-in-Depot
returns-in-Depot c =
    rw (c.sum_digits-attached.ensures.digits, c.sum_digits-no_candidate.ensures.digits, c.sum_digits-ambiguous.ensures.digits, c.sum_digits-edge.ensures.digits, c.in-Depot.is)
    (depot_length c.args.sum)

pub returns-in-Dealer : goal.returns-in-Dealer
returns-in-Dealer c =
    rw (c.sum_digits-attached.ensures.digits, c.sum_digits-no_candidate.ensures.digits, c.sum_digits-ambiguous.ensures.digits, c.sum_digits-edge.ensures.digits, c.in-Dealer.is)
    (dealer_length c.args.sum)
