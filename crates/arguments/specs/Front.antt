-- What a call leaves of a lent buffer: "the rest untouched" (document 01, "Frame and result"). Definitions only.
use Rattle.std.specs.Prelude.{List, ◌++◌, length, drop}

-- a lent buffer that now holds a list at its front, the rest untouched
abbrev pub over : {A : Type 0} → List A → List A → List A
over written buffer = written ++ drop (length written) buffer
