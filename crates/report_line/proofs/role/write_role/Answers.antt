-- `role::write_role` meets its contract, by the role. Assumes nothing.
use mathlib.Core.Path.{sym, ap, ◌∙◌}
use Rattle.roles.specs.declared.Role.{Role}
use Rattle.report_line.specs.Result.{role_line}
use Rattle.report_line.proofs.Forms.{same_room, same_wrote}
use Rattle.report_line.proofs.RoleLine.{plant_form, depot_form, dealer_form}
use Rattle.report_line.proofs.role.write_role.Goals as goal

pub write_form-requires : goal.write_form-requires
write_form-requires c = same_room _ _ c.args.out.now (plant_form c.args.sum _ _ _ _ c.held.ensures c.held-2.ensures c.held-3.ensures c.held-4.ensures ∙ ap (λ (r : Role). role_line r c.args.sum) (sym c.in-Plant.is)) c.requires.room

pub write_form-requires-in-Depot : goal.write_form-requires-in-Depot
write_form-requires-in-Depot c = same_room _ _ c.args.out.now (depot_form c.args.sum _ _ _ _ c.held.ensures c.held-2.ensures c.held-3.ensures c.held-4.ensures ∙ ap (λ (r : Role). role_line r c.args.sum) (sym c.in-Depot.is)) c.requires.room

pub write_form-requires-in-Dealer : goal.write_form-requires-in-Dealer
write_form-requires-in-Dealer c = same_room _ _ c.args.out.now (dealer_form c.args.sum _ _ _ _ c.held.ensures c.held-2.ensures c.held-3.ensures c.held-4.ensures ∙ ap (λ (r : Role). role_line r c.args.sum) (sym c.in-Dealer.is)) c.requires.room

pub returns-in-Plant : goal.returns-in-Plant
returns-in-Plant c = same_wrote _ _ _ _ _ (plant_form c.args.sum _ _ _ _ c.held.ensures c.held-2.ensures c.held-3.ensures c.held-4.ensures ∙ ap (λ (r : Role). role_line r c.args.sum) (sym c.in-Plant.is)) c.write_form.ensures

pub returns-in-Depot : goal.returns-in-Depot
returns-in-Depot c = same_wrote _ _ _ _ _ (depot_form c.args.sum _ _ _ _ c.held.ensures c.held-2.ensures c.held-3.ensures c.held-4.ensures ∙ ap (λ (r : Role). role_line r c.args.sum) (sym c.in-Depot.is)) c.write_form-in-Depot.ensures

pub returns-in-Dealer : goal.returns-in-Dealer
returns-in-Dealer c = same_wrote _ _ _ _ _ (dealer_form c.args.sum _ _ _ _ c.held.ensures c.held-2.ensures c.held-3.ensures c.held-4.ensures ∙ ap (λ (r : Role). role_line r c.args.sum) (sym c.in-Dealer.is)) c.write_form-in-Dealer.ensures
