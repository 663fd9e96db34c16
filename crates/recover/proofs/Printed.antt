-- What a run has written is the front of the answer to what it read, and all of it where nothing went wrong. Assumes nothing.
use Rattle.std.proofs.Common.{refl, List, ℕ, Result, Ok, Err}
use Rattle.recover_read.specs.Reading.{bytes_of}
use Rattle.recover_read.specs.declared.ReadFailed.{ReadFailed}
use Rattle.frame_answer.specs.Answer.{answer_text}
use Rattle.recover_say.proofs.Printing.{told_prints}
use Rattle.recover.specs.Program.{Outcome, Replied, Printed, RanPrints}
use Rattle.recover.specs.declared.Fault.{Fault}

printed : (bytes : List ℕ) (input : Result ℕ ReadFailed) (outcome : Outcome) → Replied bytes input outcome → Printed bytes outcome
printed bytes (Ok n) (Ok said) t = let p = told_prints bytes said t.0 in record { whole = λ e. p.whole t.1; rest = p.rest; front = p.front }
printed bytes (Ok n) (Err (Fault.Output cut)) t = let p = told_prints bytes cut.said t.0 in record { whole = λ e. absurd (cc); rest = p.rest; front = p.front }
printed bytes (Ok n) (Err Fault.Input) t = absurd t
printed bytes (Err e) (Ok said) t = absurd t
printed bytes (Err e) (Err (Fault.Output cut)) t = absurd t
printed bytes (Err e) (Err Fault.Input) t = record { whole = λ e. absurd (cc); rest = answer_text bytes; front = refl }

pub ran_prints : RanPrints
ran_prints outcome r = printed (bytes_of r.reads) r.input outcome r.replied
