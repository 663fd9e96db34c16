-- Each pass line prints the values that the answer of its pass says. Assumes nothing.
use Rattle.std.specs.Prelude.{Option, None, Some, Float}
use mathlib.Core.Path.{◌≡◌, refl, sym, ap, ◌∙◌}
use mathlib.Core.Bool.{Bool, true, false}
use mathlib.Core.List.{List, [], ◌∷◌, ◌++◌, append-nil}
use Prim.Native.Nat.{ℕ}
use lib.ListN.{drop}
use Rattle.refusal.specs.Said.{whole, yes_or_no}
use Rattle.line_form.specs.Forms.{bytes, number_text, printed}
use Rattle.passes.specs.declared.Counts.{Counts}
use Rattle.passes.specs.declared.LocalStats.{LocalStats}
use Rattle.passes.specs.Said.{grows_four, grow_values, fill_values, residual_value, unmatched_value, local_values}
use Rattle.report_line.specs.Result.{count, grow_form, fill_form, four_counts, grow_line, fill_line, local_line_with, local_line, unmatched_line, local_lines}
use Rattle.report_line.specs.Said.{value_text, values_text, LinesSay}

grow_says : (c : Counts) (rim : Bool) → printed (grow_form rim) (four_counts c []) ≡ bytes "(grow" ++ values_text (grows_four c (yes_or_no rim ∷ []))
unfolding printed number_text value_text values_text
grow_says c true = refl
grow_says c false = refl

fill_says : (added rounds : ℕ) (rim : Bool)
    → printed (fill_form rim) (count added ∷ count rounds ∷ []) ≡ bytes "(fill" ++ values_text (whole added ∷ whole rounds ∷ yes_or_no rim ∷ [])
unfolding printed number_text value_text values_text
fill_says added rounds true = refl
fill_says added rounds false = refl

local_says : (c : Counts) (rounds : ℕ) (r : Option Float) (rim : Bool) (u : Option ℕ)
    → local_line_with r (record { counts = c; iterations = rounds; residual = r; rim = rim; unmatched = u })
    ≡ bytes "(local" ++ values_text (grows_four c (whole rounds ∷ residual_value r ∷ yes_or_no rim ∷ []))
unfolding printed number_text value_text values_text
local_says c rounds None true u = refl
local_says c rounds None false u = refl
local_says c rounds (Some x) true u = refl
local_says c rounds (Some x) false u = refl

-- what stands behind local's line
count_says : (n : ℕ) → unmatched_line (Some n) ≡ bytes "(unmatched" ++ values_text (whole n ∷ [])
unfolding unmatched_line printed number_text value_text values_text
count_says n = refl

unmatched_says : (s : LocalStats) (n : ℕ) → s.unmatched ≡ Some n → local_lines s ≡ local_line s ++ (bytes "(unmatched" ++ values_text (drop 7 (local_values s)))
unfolding local_lines local_values
unmatched_says s n e =
    ap (λ (u : Option ℕ). local_line s ++ unmatched_line u) e
    ∙ ap (λ (t : List ℕ). local_line s ++ t) (count_says n ∙ ap (λ (u : Option ℕ). bytes "(unmatched" ++ values_text (unmatched_value u ∷ [])) (sym e))

none_says : (s : LocalStats) → s.unmatched ≡ None → local_lines s ≡ local_line s
unfolding local_lines unmatched_line
none_says s e = ap (λ (u : Option ℕ). local_line s ++ unmatched_line u) e ∙ append-nil (local_line s)

pub lines_say : LinesSay
unfolding grow_line fill_line local_line grow_values fill_values local_values
lines_say =
    record {
      grow = λ s. grow_says s.counts s.rim;
      fill = λ s. fill_says s.added s.iterations s.rim;
      local = λ s. local_says s.counts s.iterations s.residual s.rim s.unmatched;
      unmatched = unmatched_says;
      no_shades = none_says;
    }
