-- The number of each role, as the words of a pass and of its outcome have it: 0 plant, 1 depot, 2 dealer. Definitions only.
use Rattle.std.specs.Prelude.{cond, ℕ, eqb}
use Rattle.roles.specs.declared.Role.{Role}
use Rattle.roles.specs.declared.Role.TheVariants.{Plant, Depot, Dealer}

abbrev pub role_number : Role → ℕ
role_number Plant = 0
role_number Depot = 1
role_number Dealer = 2

-- the role of a number; above 2 no role has it, and whoever reads one of others refuses it
unfoldable pub role_numbered : ℕ → Role
role_numbered n = cond (eqb n 0) Plant (cond (eqb n 1) Depot Dealer)
