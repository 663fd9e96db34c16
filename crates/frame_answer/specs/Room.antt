-- What is lent for a frame and its passes. Definitions only.
use Rattle.std.specs.Prelude.{◌≡◌, List, ℕ, ◌*◌, ◌≤◌, length, Float}
use Rattle.sizes.specs.Sizes.{place_count, corner_limit, all_pass_words, all_outcome_words}

-- what a frame is read into
pub record FrameRoom (xs ys pitches : List Float) (shades sheet passes : List ℕ) : Type 0 where
  pub xs_long : corner_limit ≤ length xs
  pub ys_long : corner_limit ≤ length ys
  pub pitches_long : corner_limit ≤ length pitches
  pub shades_long : corner_limit ≤ length shades
  pub sheet_whole : length sheet ≡ place_count
  pub passes_long : all_pass_words ≤ length passes

-- what its passes are lent beside that
pub record PassRoom (queue attached words : List ℕ) : Type 0 where
  pub queue_whole : length queue ≡ 4 * corner_limit
  pub attached_whole : length attached ≡ corner_limit
  pub words_long : all_outcome_words ≤ length words
