-- `recover_say::write_text` meets its contract: what is written is the front of the text. Assumes nothing.
use Rattle.std.proofs.Common.{[], ◌++◌, take, refl}
use Rattle.std.proofs.KnownBytes.{Appends-nil, Appends-trans}
use Rattle.recover_say.proofs.Writing.{one_part}
use Rattle.recover_say.proofs.write_text.Goals as goal

pub loop-rest-preserved : goal.loop-rest-preserved
loop-rest-preserved g c =
    let l = c.loop-rest in
    let n = c.in_ok-n.n in
    let front = l.invariant.0 in
    (front ++ take n l.rest.now, one_part _ front l.rest.now n l.invariant.1 c.in_ok-n.ensures.bound, Appends-trans _ _ _ _ _ l.invariant.2 c.in_ok-n.ensures.bytes)
