-- That an answer can be said is a fact: it has one value at most. Assumes nothing.
use Rattle.std.specs.Prelude.{List, ℕ, Result, Ok, Err}
use Rattle.std.proofs.Props.{props}
use Rattle.frame.specs.declared.FrameRefusal.{FrameRefusal}
use Rattle.frame_answer.specs.declared.Recovered.{Recovered}
use Rattle.frame_answer.specs.Answer.{CanSay}

pub can_say_prop : (answer : Result Recovered FrameRefusal) (words sheet : List ℕ) → IsProp (CanSay answer words sheet)
unfolding CanSay
can_say_prop (Err e) words sheet = Prim.hlevel props
can_say_prop (Ok r) words sheet = Prim.hlevel props
