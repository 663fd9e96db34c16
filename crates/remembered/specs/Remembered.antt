-- What local remembers of a cell, and when it holds (crate passes, Local, has what a visit is). Definitions only.
use Rattle.std.specs.Prelude.{◌≡◌, Bool, true, false, not, ◌&&◌, cond, List, [], ◌∷◌, ℕ, ◌+◌, ◌*◌, ◌/◌, ◌%◌, ◌<◌, ◌≤◌, T, eqb, leb, get_or, replicate, Option, None, Some, Float, Err}
use Rattle.std.specs.Float.{nan, binary32}
use Rattle.std.specs.Float.Ieee.{of_bits, lt}
use Rattle.std.specs.Float.Ieee.Scale.{finite}
use Rattle.sizes.specs.Sizes.{place_count}
use Rattle.binary32.specs.Sqrt.{sqrt_or_nan}
use Rattle.sheet.specs.Cells.{place_of, cell_of}
use Rattle.sheet.specs.Corners.{Corners, seen_of, squared_distance}
use Rattle.sheet.specs.declared.Cell.{Cell}
use Rattle.sheet.specs.declared.Position.{Position}
use Rattle.homography.specs.Fit.{applied}
use Rattle.arguments.specs.declared.Settings.{Settings}
use Rattle.arguments.specs.declared.LocalExtensionParams.{LocalExtensionParams}
use Rattle.candidates.specs.Candidates.{squared_radius, last_distance}
use Rattle.extension_common.specs.TryCell.{gathered, try_at}
use Rattle.extension_common.specs.declared.NotAttached.{NotAttached}
use Rattle.passes.specs.Grow.{tolerances_of}
use Rattle.passes.specs.Local.{reach_of, supports_of, cell_point, LocalFit, none, fitted, local_fit, worst, gate_of, local_search}
use Rattle.remembered.specs.declared.Finding.{Finding}
use Rattle.remembered.specs.declared.Known.{Known}
use Rattle.remembered.specs.declared.Aim.{Aim}
use Rattle.remembered.specs.declared.Memory.{Memory}

-- ---- what a cell is remembered by

-- the fit on the supports of a cell
abbrev pub fit_at : Corners → List ℕ → Cell → LocalFit
fit_at cs sheet c = local_fit (seen_of cs.corner sheet) (supports_of c sheet)

-- none of some places is farther from a cell than a reach
pub data Near (c : Cell) (r : ℕ) : List ℕ → Type 0 where
  near_none : Near c r []
  near_more : {p : ℕ} {ps : List ℕ} → reach_of c p ≤ r → Near c r ps → Near c r (p ∷ ps)

-- none of the supports of a cell is farther than a reach
abbrev pub SupportsWithin : ℕ → List ℕ → Cell → Type 0
SupportsWithin r sheet c = Near c r (supports_of c sheet)

-- none of some residuals is above the largest that was recorded
pub data Covered (m : Float) : List Float → Type 0 where
  covered_none : Covered m []
  covered_more : {r : Float} {rs : List Float} → lt m r ≡ false → Covered m rs → Covered m (r ∷ rs)

pub data CoveredBy : Option Float → List Float → Type 0 where
  nothing_yet : CoveredBy None []
  by : {m : Float} {rs : List Float} → Covered m rs → CoveredBy (Some m) rs

-- a visit by this fit changes nothing: there is none, or its residuals are above the gate and were recorded
pub data IdleFit (set : Settings) (p : LocalExtensionParams) (l : Option Float) : LocalFit → Type 0 where
  no_fit : IdleFit set p l none
  above : {h rs : List Float} → lt (gate_of set p) (worst (of_bits binary32 0) rs) ≡ true → CoveredBy l rs → IdleFit set p l (fitted h rs)

-- a visit by this fit tries the cell at a prediction: its residuals are within the gate and were recorded
pub data Mapped (set : Settings) (p : LocalExtensionParams) (l : Option Float) (c : Cell) : LocalFit → Position → Type 0 where
  within : {h rs : List Float} {at : Position} → lt (gate_of set p) (worst (of_bits binary32 0) rs) ≡ false → CoveredBy l rs → at ≡ applied h (cell_point c)
      → Mapped set p l c (fitted h rs) at

-- Such a visit finds no candidate, and passes over none, since no shade stands: where one does, what is passed over changes with every corner that is
-- labelled, so a cell is gathered anew at each visit.
pub record Missed (cs : Corners) (set : Settings) (p : LocalExtensionParams) (l : Option Float) (sheet : List ℕ) (c : Cell) : Type 0 where
  pub at : Position
  pub mapped : Mapped set p l c (fit_at cs sheet c) at
  pub missed : try_at cs sheet (tolerances_of set) (local_search set p) c at ≡ Err NotAttached.NoCandidates
  pub none_over : cs.shades.any ≡ false

-- such a visit finds the choice ambiguous, and so far lies the last of the first two candidates; no shade stands
pub record Undecided (cs : Corners) (set : Settings) (p : LocalExtensionParams) (l : Option Float) (sheet : List ℕ) (c : Cell) (at : Position) (limit : Float) : Type 0 where
  pub mapped : Mapped set p l c (fit_at cs sheet c) at
  pub undecided : try_at cs sheet (tolerances_of set) (local_search set p) c at ≡ Err NotAttached.Ambiguous
  pub last : limit ≡ last_distance (gathered cs sheet (local_search set p).search_r c at)
  pub no_shades : cs.shades.any ≡ false

-- what was found at a cell holds
pub data Found (cs : Corners) (set : Settings) (p : LocalExtensionParams) (l : Option Float) (sheet : List ℕ) (c : Cell) : Finding → Type 0 where
  idle : IdleFit set p l (fit_at cs sheet c) → Found cs set p l sheet c Finding.Idle
  no_candidates : Missed cs set p l sheet c → Found cs set p l sheet c Finding.NoCandidates
  predicted : {at : Position} → Mapped set p l c (fit_at cs sheet c) at → Found cs set p l sheet c (Finding.Predicted at)
  ambiguous : {at : Position} {limit : Float} → Undecided cs set p l sheet c at limit → Found cs set p l sheet c (Finding.Ambiguous at limit)

-- what is known of a cell holds, if anything is
abbrev pub KnownAt : Corners → Settings → LocalExtensionParams → Option Float → List ℕ → Cell → Option Known → Type 0
KnownAt cs set p l sheet c None = Unit {0}
KnownAt cs set p l sheet c (Some k) = SupportsWithin k.reach sheet c × Found cs set p l sheet c k.finding

-- ---- the words

-- what a code says, with what is noted beside it
unfoldable pub finding_of : ℕ → Aim → Finding
finding_of k aim = cond (eqb k 1) Finding.Idle (cond (eqb k 2) Finding.NoCandidates (cond (eqb k 3) (Finding.Predicted aim.at) (Finding.Ambiguous aim.at aim.limit)))

-- what a word says, by its last three bits: the rest of it is the reach
unfoldable pub known_of : ℕ → Aim → Option Known
known_of w aim = cond (eqb (w % 8) 0) None (Some (record { reach = w / 8; finding = finding_of (w % 8) aim }))

unfoldable pub code_of : Finding → ℕ
code_of Finding.Idle = 1
code_of Finding.NoCandidates = 2
code_of (Finding.Predicted at) = 3
code_of (Finding.Ambiguous at limit) = 4

unfoldable pub known_word : Option Known → ℕ
known_word None = 0
known_word (Some k) = k.reach * 8 + code_of k.finding

-- the prediction and the limit to be noted with it: any where there is none
abbrev pub no_aim : Aim
no_aim = record { at = record { x = of_bits binary32 0; y = of_bits binary32 0 }; limit = of_bits binary32 0 }

unfoldable pub aim_of : Finding → Aim
aim_of Finding.Idle = no_aim
aim_of Finding.NoCandidates = no_aim
aim_of (Finding.Predicted at) = record { at = at; limit = of_bits binary32 0 }
aim_of (Finding.Ambiguous at limit) = record { at = at; limit = limit }

unfoldable pub aim_in : Option Known → Aim
aim_in None = no_aim
aim_in (Some k) = aim_of k.finding

-- a reach that a word holds
abbrev pub Notable : Option Known → Type 0
Notable None = Unit {0}
Notable (Some k) = k.reach < 8192

-- what is noted beside the word of a place, and what is known of the place's cell
abbrev pub aim_at : Memory → ℕ → Aim
aim_at memory a = get_or memory.aims a (record { at = record { x = nan; y = nan }; limit = nan })

abbrev pub entry_of : Memory → ℕ → Option Known
entry_of memory a = known_of (get_or memory.words a 0) (aim_at memory a)

-- nothing is known of any cell
abbrev pub nothing_noted : Memory
nothing_noted = record { words = replicate place_count 0; aims = replicate place_count no_aim }

-- a word and what is noted with it for each place of the sheet, and what they say holds; and the squared radius is finite
pub record Remembered (cs : Corners) (set : Settings) (p : LocalExtensionParams) (l : Option Float) (sheet : List ℕ) (memory : Memory) : Type 0 where
  pub at : (a : ℕ) → a < place_count → KnownAt cs set p l sheet (cell_of a) (entry_of memory a)
  pub bounded : T (finite (squared_radius (local_search set p).search_r))

-- what is known of one cell noted: the others' entries stay
pub record Noted (memory : Memory) (c : Cell) (known : Option Known) (memory' : Memory) : Type 0 where
  pub here : entry_of memory' (place_of c) ≡ known
  pub else : (a : ℕ) → (a ≡ place_of c → ⊥) → entry_of memory' a ≡ entry_of memory a

-- ---- what is forgotten

-- what is left of a word of a cell once a place is labelled: nothing if the fourth support of the cell is as far as that place, or farther
unfoldable pub forgotten_word : Cell → ℕ → ℕ → ℕ
forgotten_word c q w = cond (leb (reach_of c q) (w / 8)) 0 w

-- what is left of it once a corner is labelled: an ambiguous choice is doubted, so that only the prediction stays, unless the corner is farther than the
-- limit
unfoldable pub doubted_word : Bool → ℕ → ℕ
doubted_word far w = cond (leb 4 (w % 8) && not far) (w / 8 * 8 + 3) w

-- both, for a corner that was attached to a place
abbrev pub left_word : Cell → ℕ → Position → Aim → ℕ → ℕ
left_word c q corner aim w = doubted_word (lt aim.limit (sqrt_or_nan (squared_distance corner aim.at))) (forgotten_word c q w)

-- all words after a corner was attached to a cell, and what is noted with them stays
pub record Forgotten (memory : Memory) (c : Cell) (corner : Position) (memory' : Memory) : Type 0 where
  pub aims_are : memory'.aims ≡ memory.aims
  pub at : (a : ℕ) → a < place_count → get_or memory'.words a 0 ≡ left_word (cell_of a) (place_of c) corner (aim_at memory a) (get_or memory.words a 0)
