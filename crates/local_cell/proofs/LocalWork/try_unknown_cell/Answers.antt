-- `local_cell::LocalWork::try_unknown_cell` meets its contract: by the fit and by the gate. Assumes nothing.
use mathlib.Core.Path.{refl}
use Rattle.supports.proofs.Nearest.{nearest_pictured}
use Rattle.local_cell.proofs.Visit.{nearby, left_as}
use Rattle.local_cell.proofs.Memory.{reaches_small, none_left, none_recalls, above_left, above_recalls, within_recalls, within_foretold, within_visit}
use Rattle.local_cell.proofs.LocalWork.try_unknown_cell.Goals as goal

pub nearest_labelled_by_grid-nearest-requires : goal.nearest_labelled_by_grid-nearest-requires
nearest_labelled_by_grid-nearest-requires c = rw c.as_slice.ensures (nearby c.args.self.now.extending _ c.requires.trying.on)

pub fit_on-requires : goal.fit_on-requires
fit_on-requires c = nearest_pictured (nearby c.args.self.now.extending _ c.requires.trying.on) (rw c.as_slice.ensures at c.nearest_labelled_by_grid-nearest.ensures)

pub note-requires-clause-notable : goal.note-requires-clause-notable
note-requires-clause-notable c = reaches_small _ c.args.self.now.extending c.requires.trying.on (rw c.as_slice.ensures at c.nearest_labelled_by_grid-nearest.ensures)

pub returns-in_default-clause-left : goal.returns-in_default-clause-left
returns-in_default-clause-left c = none_left _ _ _ c.args.self.now.extending c.requires.trying.on c.requires.recalls _ (rw c.as_slice.ensures at c.nearest_labelled_by_grid-nearest.ensures) c.fit_on.ensures c.in_default.is refl

pub returns-in_default-clause-recalls : goal.returns-in_default-clause-recalls
returns-in_default-clause-recalls c = none_recalls _ _ _ c.args.self.now.extending c.requires.trying.on c.requires.recalls _ (rw c.as_slice.ensures at c.nearest_labelled_by_grid-nearest.ensures) c.fit_on.ensures c.in_default.is refl c.note.ensures

pub note-requires-then-gate-worst_of-clause-notable : goal.note-requires-then-gate-worst_of-clause-notable
note-requires-then-gate-worst_of-clause-notable c = reaches_small _ c.args.self.now.extending c.requires.trying.on (rw c.as_slice.ensures at c.nearest_labelled_by_grid-nearest.ensures)

pub returns-then-gate-worst_of-clause-left : goal.returns-then-gate-worst_of-clause-left
returns-then-gate-worst_of-clause-left c = above_left _ _ _ c.args.self.now.extending c.requires.trying.on c.requires.recalls _ (rw c.as_slice.ensures at c.nearest_labelled_by_grid-nearest.ensures) c.fit_on.ensures c.in-Some.is c.gate.ensures c.worst_of.ensures c.record_residuals.ensures c.if-gate-worst_of.true

pub returns-then-gate-worst_of-clause-recalls : goal.returns-then-gate-worst_of-clause-recalls
returns-then-gate-worst_of-clause-recalls c = above_recalls _ _ _ c.args.self.now.extending c.requires.trying.on c.requires.recalls _ (rw c.as_slice.ensures at c.nearest_labelled_by_grid-nearest.ensures) c.fit_on.ensures c.in-Some.is c.gate.ensures c.worst_of.ensures c.record_residuals.ensures c.if-gate-worst_of.true c.note-then-gate-worst_of.ensures

pub note-requires-2-clause-notable : goal.note-requires-2-clause-notable
note-requires-2-clause-notable c = rw c.known-known.ensures (reaches_small _ c.args.self.now.extending c.requires.trying.on (rw c.as_slice.ensures at c.nearest_labelled_by_grid-nearest.ensures))

pub try_predicted_cell-requires-clause-recalls : goal.try_predicted_cell-requires-clause-recalls
try_predicted_cell-requires-clause-recalls c = within_recalls _ _ _ c.args.self.now.extending c.requires.trying.on c.requires.recalls _ (rw c.as_slice.ensures at c.nearest_labelled_by_grid-nearest.ensures) c.fit_on.ensures c.in-Some.is c.gate.ensures c.worst_of.ensures c.record_residuals.ensures c.if-gate-worst_of.false c.cell_point.ensures c.apply.ensures (rw c.known-known.ensures at c.note-2.ensures)

pub try_predicted_cell-requires-clause-foretold : goal.try_predicted_cell-requires-clause-foretold
try_predicted_cell-requires-clause-foretold c = within_foretold _ _ _ c.args.self.now.extending c.requires.trying.on c.requires.recalls _ (rw c.as_slice.ensures at c.nearest_labelled_by_grid-nearest.ensures) c.fit_on.ensures c.in-Some.is c.gate.ensures c.worst_of.ensures c.record_residuals.ensures c.if-gate-worst_of.false c.cell_point.ensures c.apply.ensures

pub returns-clause-left : goal.returns-clause-left
returns-clause-left c = left_as (within_visit _ _ _ c.args.self.now.extending c.requires.trying.on c.requires.recalls _ (rw c.as_slice.ensures at c.nearest_labelled_by_grid-nearest.ensures) c.fit_on.ensures c.in-Some.is c.gate.ensures c.worst_of.ensures c.if-gate-worst_of.false c.cell_point.ensures c.apply.ensures c.record_residuals.ensures) c.try_predicted_cell.ensures.left
