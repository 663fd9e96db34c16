-- The line of a role: from its form and the words that hold its sums, how short it is, and how long it is by the digits of its sums. Assumes nothing.
use mathlib.Core.Path.{◌≡◌, ap}
use mathlib.Core.List.{List, [], ◌∷◌}
use Prim.Native.Nat.{ℕ, suc, ◌+◌, ◌*◌, ◌/◌, ◌≤◌}
use native.Mathlib.Omega.{arith}
use lib.IntN.{pos}
use lib.ListN.{length, length-append}
use Rattle.roles.specs.declared.Role.{Role}
use Rattle.role_counts.specs.RoleCounts.{AtMost}
use Rattle.role_counts.specs.declared.RoleCounts.{RoleCounts}
use Rattle.line_form.specs.Integers.{decimal, integer_text}
use Rattle.line_form.specs.Forms.{bytes, Number, whole, number_text, printed}
use Rattle.line_form.specs.Lengths.{slots}
use Rattle.line_form.specs.Written.{unheld_whole, unheld_number, unheld, form_text}
use Rattle.line_form.proofs.Decimal.{more_digits}
use Rattle.report_line.specs.Result.{count, role_form, role_line}
use Rattle.report_line.specs.Written.{largest_held}
use Rattle.report_line.proofs.Wide.{Wide, printed_wide, count_wide}

abbrev numbers : RoleCounts → List Number
numbers s = count s.attached ∷ count s.no_candidate ∷ count s.ambiguous ∷ count s.edge ∷ []

-- ---- from its form

module _ (s : RoleCounts) (a b c d : ℕ)
    (ea : unheld_whole a ≡ pos s.attached) (eb : unheld_whole b ≡ pos s.no_candidate)
    (ec : unheld_whole c ≡ pos s.ambiguous) (ed : unheld_whole d ≡ pos s.edge) where
  four : whole (unheld_whole a) ∷ whole (unheld_whole b) ∷ whole (unheld_whole c) ∷ whole (unheld_whole d) ∷ [] ≡ numbers s
  four = rw (ea, eb, ec, ed)

  pub plant_form : form_text (bytes "(role plant # # # #)\n") (a ∷ b ∷ c ∷ d ∷ []) ≡ role_line Role.Plant s
  unfolding form_text unheld unheld_number role_line
  plant_form = ap (printed (role_form Role.Plant)) four

  pub depot_form : form_text (bytes "(role depot # # # #)\n") (a ∷ b ∷ c ∷ d ∷ []) ≡ role_line Role.Depot s
  unfolding form_text unheld unheld_number role_line
  depot_form = ap (printed (role_form Role.Depot)) four

  pub dealer_form : form_text (bytes "(role dealer # # # #)\n") (a ∷ b ∷ c ∷ d ∷ []) ≡ role_line Role.Dealer s
  unfolding form_text unheld unheld_number role_line
  dealer_form = ap (printed (role_form Role.Dealer)) four

-- ---- how short it is

pub role_short : (r : Role) (s : RoleCounts) → AtMost largest_held s → length (role_line r s) ≤ 127
unfolding role_line slots
role_short r s h = go r
  where
    wide : Wide (numbers s)
    wide = (count_wide _ h.attached, (count_wide _ h.no_candidate, (count_wide _ h.ambiguous, (count_wide _ h.edge, tt))))

    go : (r : Role) → length (printed (role_form r) (numbers s)) ≤ 127
    go Role.Plant = let l : _ ≤ 21 + 9 * 4 = printed_wide (role_form Role.Plant) (numbers s) wide in omega arith
    go Role.Depot = let l : _ ≤ 21 + 9 * 4 = printed_wide (role_form Role.Depot) (numbers s) wide in omega arith
    go Role.Dealer = let l : _ ≤ 22 + 9 * 4 = printed_wide (role_form Role.Dealer) (numbers s) wide in omega arith

-- ---- how long it is

-- one digit fewer without the last
one_fewer : (n : ℕ) → 10 ≤ n → length (decimal n) ≡ suc (length (decimal (n / 10)))
one_fewer n h = rw (more_digits n h) (simp length-append (omega arith))

five_fewer : (n : ℕ) → 100000 ≤ n → length (decimal n) ≡ 5 + length (decimal (n / 100000))
five_fewer n h =
    let e : n / 10 / 10 / 10 / 10 / 10 ≡ n / 100000 = omega arith in
    omega (
      arith,
      one_fewer n (omega arith),
      one_fewer (n / 10) (omega arith),
      one_fewer (n / 10 / 10) (omega arith),
      one_fewer (n / 10 / 10 / 10) (omega arith),
      one_fewer (n / 10 / 10 / 10 / 10) (omega arith),
      ap (λ (m : ℕ). length (decimal m)) e,
    )

pub ten_fewer : (n : ℕ) → 10000000000 ≤ n → length (decimal n) ≡ 10 + length (decimal (n / 10000000000))
ten_fewer n h =
    let e : n / 100000 / 100000 ≡ n / 10000000000 = omega arith in
    omega (arith, five_fewer n (omega arith), five_fewer (n / 100000) (omega arith), ap (λ (m : ℕ). length (decimal m)) e)

module _ (s : RoleCounts) where
  abbrev pub digits : ℕ
  digits = length (decimal s.attached) + length (decimal s.no_candidate) + length (decimal s.ambiguous) + length (decimal s.edge)

  pub plant_length : 17 + digits ≡ length (role_line Role.Plant s)
  unfolding role_line printed number_text integer_text
  plant_length = simp length-append (omega arith)

  pub depot_length : 17 + digits ≡ length (role_line Role.Depot s)
  unfolding role_line printed number_text integer_text
  depot_length = simp length-append (omega arith)

  pub dealer_length : 18 + digits ≡ length (role_line Role.Dealer s)
  unfolding role_line printed number_text integer_text
  dealer_length = simp length-append (omega arith)
