-- `supports::keep` meets its contract: by where the new one goes. Assumes nothing.
use Rattle.std.proofs.Common.{sym}
use Rattle.supports.proofs.Nearest.{kept_none, kept_first, kept_second, kept_third, kept_fourth}
use Rattle.supports.proofs.keep.Goals as goal

pub returns-then-not-is_behind : goal.returns-then-not-is_behind
returns-then-not-is_behind g c = λ behind h splits. kept_none _ splits c.requires.in_order (sym (h _ _ c.if-not-is_behind.ensures))

pub returns-then-is_behind : goal.returns-then-is_behind
returns-then-is_behind g c = λ behind h splits. kept_first _ splits c.requires.in_order (sym (h _ _ c.if-is_behind.ensures))

pub returns-then-is_behind-2 : goal.returns-then-is_behind-2
returns-then-is_behind-2 g c = λ behind h splits. kept_second _ splits c.requires.in_order (sym (h _ _ c.if-is_behind.ensures)) (sym (h _ _ c.if-is_behind-2.ensures))

pub returns-then-is_behind-3 : goal.returns-then-is_behind-3
returns-then-is_behind-3 g c = λ behind h splits. kept_third _ splits c.requires.in_order (sym (h _ _ c.if-is_behind.ensures)) (sym (h _ _ c.if-is_behind-2.ensures)) (sym (h _ _ c.if-is_behind-3.ensures))

pub returns : goal.returns
returns g c = λ behind h splits. kept_fourth _ splits c.requires.in_order (sym (h _ _ c.if-is_behind.ensures)) (sym (h _ _ c.if-is_behind-2.ensures)) (sym (h _ _ c.if-is_behind-3.ensures)) (sym (h _ _ c.if-not-is_behind.ensures))
