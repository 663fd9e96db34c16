-- Six passes of the three roles, and the lines that they come to, added by hand: each count of each role is another number, fill's rounds and local's
-- rounds and unmatched corners are in none, and a role that comes again goes on with its sums. Definitions only.
use Rattle.std.specs.Prelude.{◌≡◌, true, false, List, [], ◌∷◌, ℕ, None, Some}
use Rattle.line_form.specs.Forms.{bytes}
use Rattle.passes.specs.declared.Counts.{Counts}
use Rattle.passes.specs.declared.PassStats.{PassStats}
use Rattle.roles.specs.declared.Role.{Role}
use Rattle.role_counts.specs.RoleCounts.{RoledStats}
use Rattle.report_line.specs.Result.{role_lines}

abbrev pub counts : ℕ → ℕ → ℕ → ℕ → Counts
counts attached none ambiguous edge = record { attached = attached; rejected_no_candidate = none; rejected_ambiguous = ambiguous; rejected_edge = edge }

abbrev pub six_passes : List RoledStats
six_passes =
    record { role = Role.Dealer; stats = PassStats.Grow (record { counts = counts 1 2 3 4; rim = false }) }
    ∷ record { role = Role.Plant; stats = PassStats.Fill (record { added = 5; iterations = 7; rim = true }) }
    ∷ record { role = Role.Depot; stats = PassStats.Grow (record { counts = counts 6 0 8 9; rim = false }) }
    ∷ record {
      role = Role.Plant;
      stats = PassStats.Local (record { counts = counts 10 20 30 40; iterations = 3; residual = None; rim = false; unmatched = Some 50 });
    }
    ∷ record { role = Role.Dealer; stats = PassStats.Fill (record { added = 60; iterations = 1; rim = false }) }
    ∷ record { role = Role.Dealer; stats = PassStats.Grow (record { counts = counts 100 200 300 400; rim = false }) }
    ∷ []

-- the plant: 5 + 10 attached, and local's others; the depot: one grow; the dealer: 1 + 60 + 100 attached, 2 + 200, 3 + 300 and 4 + 400
abbrev pub SixSummed : Type 0
SixSummed = role_lines six_passes ≡ bytes "(role plant 15 20 30 40)\n(role depot 6 0 8 9)\n(role dealer 161 202 303 404)\n"
