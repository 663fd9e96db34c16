-- What is seen at a cell, as the code asks it. Definitions only.
use Rattle.std.specs.Prelude.{Option}
use Rattle.sheet.specs.Corners.{corner_in, seen_of}
use Rattle.sheet.specs.declared.Cell.{Cell}
use Rattle.sheet.specs.declared.Corner.{Corner}
use Rattle.sheet.specs.declared.Seeing.{Seeing}

-- what is seen of the corners through the sheet
abbrev pub seen_in : Seeing → Cell → Option Corner
seen_in s = seen_of (corner_in s.corners.now) s.sheet.now
