-- The refusal of two sets that are not joined (change request 3/14). Definitions only.
use Rattle.refusal.specs.declared.Refusal.{Refusal}
use Rattle.join.specs.declared.Unjoinable.{Unjoinable}

abbrev pub refusal_of : Unjoinable → Refusal
refusal_of Unjoinable.Apart = Refusal.NoSharedCorner
refusal_of Unjoinable.Clash = Refusal.PatchesClash
refusal_of Unjoinable.Off = Refusal.OffSheet
