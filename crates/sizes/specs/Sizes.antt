-- Sizes of what is lent and of what 01 allows ("Sheet", "Frame and result"); src/lib.rt has the same for the code. Definitions only.
use Rattle.std.specs.Prelude.{ℕ, ◌*◌}

-- "i and j from -64 to 63": the places of a sheet
abbrev pub place_count : ℕ
place_count = 16384

-- "At most 65,536 bytes, 1,024 corners, 16 passes"
abbrev pub byte_limit : ℕ
byte_limit = 65536

abbrev pub corner_limit : ℕ
corner_limit = 1024

abbrev pub pass_limit : ℕ
pass_limit = 16

-- words of a pass as the reader writes it, and of an outcome
abbrev pub pass_size : ℕ
pass_size = 7

abbrev pub outcome_size : ℕ
outcome_size = 12

-- and of as many passes and outcomes as a frame can have
abbrev pub all_pass_words : ℕ
all_pass_words = pass_limit * pass_size

abbrev pub all_outcome_words : ℕ
all_outcome_words = pass_limit * outcome_size
