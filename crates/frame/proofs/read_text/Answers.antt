-- `frame::read_text` meets its contract: a refusal writes nothing, and an accepted frame is copied. Assumes nothing.
use Rattle.frame.proofs.Leaving.{whole_read, text_accepted}
use Rattle.frame.proofs.read_text.Goals as goal

pub returns-clause-after : goal.returns-clause-after
returns-clause-after c = text_accepted (whole_read c.in_ok-read_lines.ensures) _ _ c.take.ensures.copied _ c.of.ensures
