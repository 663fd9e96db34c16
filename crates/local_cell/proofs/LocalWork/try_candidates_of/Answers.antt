-- `local_cell::LocalWork::try_candidates_of` meets its contract: by what trying the cell with its candidates finds. Assumes nothing.
use Rattle.local_cell.specs.Work.{Taking}
use Rattle.local_cell.proofs.Visit.{taking, taking_attaching, taking_fits, found_none, found_ambiguous, found_refused, found_corner}
use Rattle.local_cell.proofs.Memory.{recalls_given, recalls_attached, recalls_missed, recalls_ambiguous}
use Rattle.local_cell.proofs.LocalWork.try_candidates_of.Goals as goal
use Rattle.local_cell.proofs.LocalWork.try_candidates_of.Goals.{In-Ok}

-- the corner to attach
attach_this : (c : In-Ok) → let a = c.args in Taking a.self.now a.target.cell c.in-Ok.k
attach_this c = taking _ _ _ c.requires.trying c.find-candidates.ensures.found c.in-Ok.is

pub corner_at-taken-requires : goal.corner_at-taken-requires
corner_at-taken-requires c = taking_fits (attach_this (goal.at.corner_at-taken-requires c).In-Ok)

pub attach_corner-requires : goal.attach_corner-requires
attach_corner-requires c = attach_this (goal.at.attach_corner-requires c).In-Ok

pub returns-in-Err-NoCandidates-clause-left : goal.returns-in-Err-NoCandidates-clause-left
returns-in-Err-NoCandidates-clause-left c = found_none c.args.self.now.extending _ c.find-candidates.ensures.found c.count_cell.ensures (rw (rw c.in-Err-NoCandidates.is at c.in-Err-NoCandidates.field-0-is) at c.in-Err-NoCandidates.is)

pub returns-in-Err-NoCandidates-clause-recalls : goal.returns-in-Err-NoCandidates-clause-recalls
returns-in-Err-NoCandidates-clause-recalls c = recalls_missed c.requires.recalls _ c.requires.trying.on c.requires.foretold c.find-candidates.ensures.found (rw (rw c.in-Err-NoCandidates.is at c.in-Err-NoCandidates.field-0-is) at c.in-Err-NoCandidates.is) c.count_cell.ensures (rw c.known-known.ensures at c.note_if_bare.ensures)

pub returns-in-Err-Ambiguous-clause-left : goal.returns-in-Err-Ambiguous-clause-left
returns-in-Err-Ambiguous-clause-left c = found_ambiguous c.args.self.now.extending _ c.find-candidates.ensures.found c.count_cell-in-Err-Ambiguous.ensures (rw (rw c.in-Err-Ambiguous.is at c.in-Err-Ambiguous.field-0-is) at c.in-Err-Ambiguous.is)

pub returns-in-Err-Ambiguous-clause-recalls : goal.returns-in-Err-Ambiguous-clause-recalls
returns-in-Err-Ambiguous-clause-recalls c = recalls_ambiguous c.requires.recalls _ c.requires.trying.on c.requires.foretold c.find-candidates.ensures.candidates c.last_distance-limit.ensures c.find-candidates.ensures.found (rw (rw c.in-Err-Ambiguous.is at c.in-Err-Ambiguous.field-0-is) at c.in-Err-Ambiguous.is) c.count_cell-in-Err-Ambiguous.ensures (rw c.known-known-in-Err-Ambiguous.ensures at c.note_if_bare-in-Err-Ambiguous.ensures)

pub returns-in-Err-EdgeRejected-clause-left : goal.returns-in-Err-EdgeRejected-clause-left
returns-in-Err-EdgeRejected-clause-left c = found_refused c.args.self.now.extending _ c.find-candidates.ensures.found c.count_cell-in-Err-EdgeRejected.ensures (rw (rw c.in-Err-EdgeRejected.is at c.in-Err-EdgeRejected.field-0-is) at c.in-Err-EdgeRejected.is)

pub returns-in-Ok-clause-left : goal.returns-in-Ok-clause-left
returns-in-Ok-clause-left c = found_corner _ c.find-candidates.ensures.found (attach_this (goal.at.returns-in-Ok-clause-left c).In-Ok) c.in-Ok.is c.attach_corner.ensures.wrote

pub returns-in-Ok-clause-recalls : goal.returns-in-Ok-clause-recalls
returns-in-Ok-clause-recalls c = recalls_given c.attach_corner.ensures.same.same_setup (recalls_attached c.requires.recalls (taking_attaching (attach_this (goal.at.returns-in-Ok-clause-recalls c).In-Ok)) c.args.self.now.extending.four c.corner_at-taken.ensures c.attach_corner.ensures.wrote c.attach_corner.ensures.forgotten)
