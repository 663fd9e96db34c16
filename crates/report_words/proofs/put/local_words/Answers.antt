-- `put::local_words` meets its contract, word by word. Assumes nothing.
use mathlib.Core.Path.{◌≡◌, refl, sym, ap, ◌∙◌}
use Prim.Native.Nat.{ℕ}
use lib.Ieee.{Float}
use Rattle.std.specs.Prelude.{Option, None, Some, is_some}
use Rattle.sheet.specs.Words.{bit_of}
use Rattle.report_words.specs.Asked.{flag_of, shade_flag}
use Rattle.report_words.proofs.Outcomes.{local_listed}
use Rattle.report_words.proofs.put.local_words.Goals as goal

flagged : (x : Option Float) → bit_of (is_some x) ≡ flag_of x
unfolding bit_of
flagged None = refl
flagged (Some x) = refl

shaded : (u : Option ℕ) → bit_of (is_some u) ≡ shade_flag u
unfolding bit_of
shaded None = refl
shaded (Some n) = refl

pub returns : goal.returns
returns c =
    let residual : c.bit.result ≡ flag_of c.args.s.residual = c.bit.ensures ∙ ap bit_of c.is_some.ensures ∙ flagged c.args.s.residual in
    let shade : c.bit-3.result ≡ shade_flag c.args.s.unmatched = c.bit-3.ensures ∙ ap bit_of c.is_some-2.ensures ∙ shaded c.args.s.unmatched in
    rw (residual, c.residual_bits.ensures, c.bit-2.ensures, shade, c.unmatched_word.ensures, c.number.ensures) (sym (local_listed c.args.role c.args.s))
