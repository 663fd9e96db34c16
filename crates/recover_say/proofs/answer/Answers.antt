-- `recover_say::answer` meets its contract: what the run holds says the answer to the text. Assumes nothing.
use Rattle.frame_answer.proofs.Saying.{can_say}
use Rattle.recover_say.proofs.Telling.{told_as, said_so}
use Rattle.recover_say.proofs.Writing.{wrote}
use Rattle.recover_say.proofs.answer.Goals as goal

pub invariant_of-found : goal.invariant_of-found
invariant_of-found g c = record { can_say = (can_say _ _ _ _ c.recover_frame-recovered.ensures).0 }

pub returns : goal.returns
returns g c =
    let t = told_as _ _ _ _ _ c.recover_frame-recovered.ensures c.say.ensures.told in
    record { told = t; wrote = wrote _ _ _ _ _ _ _ c.recover_frame-recovered.ensures (said_so _ _ t) c.say.ensures.wrote }
