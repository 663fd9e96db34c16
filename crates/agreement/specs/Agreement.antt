-- Two runs of one list of calls on two frames that hold the same corners in another order (document 01, "Lists of passes, for demand 3"; document 02,
-- 1/14: their shades with them; 5/14: the label box): what is compared after each call, and the claim that the runs agree. Definitions only.
use Rattle.std.specs.Prelude.{◌≡◌, true, false, List, [], ◌∷◌, ℕ, length, Float}
use Rattle.std.specs.Float.Ieee.{lt}
use Rattle.refusal.specs.declared.Refusal.{Refusal}
use Rattle.sheet.specs.Corners.{CornerLists}
use Rattle.sheet.specs.Pairing.{Shuffle, PairedCorners, PairedSheets}
use Rattle.arguments.specs.Shades.{any_shade, PairedShades}
use Rattle.arguments.specs.declared.Pass.{Pass}
use Rattle.passes.specs.Outcome.{After, Outcome, refused, done}
use Rattle.passes.specs.Step.{box_left}
use Rattle.passes.specs.Run.{Call, sheet_after, run}
use Rattle.passes.specs.declared.PassStats.{PassStats}
use Rattle.invariants.specs.Calls.{Standing, Invariant}
use Rattle.binary32.specs.Numbers.{one}

-- ---- the two frames

-- "The reordering pairs the corner lines of both frames one to one, each with an equal line; a pair is one physical corner. The labels name
-- paired corners": the corners, and the sheets of the given labels, which belong to them, each corner at one cell
pub record Reordered (l l' : CornerLists) (given given' : List ℕ) : Type 0 where
  pub corners : PairedCorners l l'
  pub labels : PairedSheets corners.pairs given given'
  pub standing : Standing l given

-- ---- the two lists of calls

-- "Relisting corners relists their shades, those of a frame's lines and those lent to a call alike: both corners of a pair have the same kind or none"
-- (document 02, 1/14): the same call, lent the relisted shades. Both are handed the label box as the last call of their run left it, or the same
-- other one (5/14).
pub record RelistedCall {n : ℕ} (s : Shuffle n) (c c' : Call) : Type 0 where
  pub same_pass : c'.pass ≡ c.pass
  pub same_settings : c'.settings ≡ c.settings
  pub same_rooms : c'.rooms ≡ c.rooms
  pub same_box : c'.around ≡ c.around
  pub shades : PairedShades s c.shades c'.shades

-- so call by call
pub data Relisted {n : ℕ} (s : Shuffle n) : List Call → List Call → Type 0 where
  no_call : Relisted s [] []
  relisted : {c c' : Call} {cs cs' : List Call} → RelistedCall s c c' → Relisted s cs cs' → Relisted s (c ∷ cs) (c' ∷ cs')

-- a list of calls to which no shade is lent is its own
abbrev pub NoneShaded : ℕ → List Call → Type 0
NoneShaded n [] = Unit {0}
NoneShaded n (c ∷ cs) = (any_shade c.shades n ≡ false) × NoneShaded n cs

-- ---- what is compared after each call

-- Of a call that ran: every count answered, that of unmatched corners among them, and all else that the pass line says; "a cell holds a corner in one
-- run exactly when it holds the paired one in the other", and equal marks cell by cell; attached lists and grow's visited cells, in order; and the
-- label box that is answered (document 02, 5/14).
pub record SameAfter {n : ℕ} (s : Shuffle n) {A : Type 0} (a a' : After A) : Type 0 where
  pub answer : a'.answer ≡ a.answer
  pub sheet : PairedSheets s a.sheet a'.sheet
  pub attached : a'.attached ≡ a.attached
  pub visited : a'.visited ≡ a.visited
  pub box : box_left a' ≡ box_left a

-- "refused or not, and the number"
pub data SameOutcome {n : ℕ} (s : Shuffle n) {A : Type 0} : Outcome A → Outcome A → Type 0 where
  both_refused : (r : Refusal) → SameOutcome s (refused r) (refused r)
  both_done : {a a' : After A} → SameAfter s a a' → SameOutcome s (done a) (done a')

-- The outcomes of both runs, from two sheets on: the sheets are paired before each call and after the last, and each call has the same
-- outcome in both. A refused call leaves both sheets as they were.
pub data Agree {n : ℕ} (s : Shuffle n) : List ℕ → List ℕ → List (Outcome PassStats) → List (Outcome PassStats) → Type 0 where
  agree_end : {sheet sheet' : List ℕ} → PairedSheets s sheet sheet' → Agree s sheet sheet' [] []
  agree_call : {sheet sheet' : List ℕ} {o o' : Outcome PassStats} {os os' : List (Outcome PassStats)} → PairedSheets s sheet sheet' → SameOutcome s o o'
      → Agree s (sheet_after sheet o) (sheet_after sheet' o') os os' → Agree s sheet sheet' (o ∷ os) (o' ∷ os')

-- ---- the condition

-- the ambiguity factor of a pass
abbrev pub factor_of : Pass → Float
factor_of (Pass.Grow p) = p.attach_ambiguity_factor
factor_of (Pass.Fill p) = p.attach_ambiguity_factor
factor_of (Pass.Local p) = p.ambiguity_factor

-- above 1
abbrev pub AboveOne : Call → Type 0
AboveOne c = lt one (factor_of c.pass) ≡ true

-- each call of a list that runs has a factor above 1; nothing is asked of a refused one
pub data FactorsAbove : List Call → List (Outcome PassStats) → Type 0 where
  no_more : FactorsAbove [] []
  was_refused : {c : Call} {cs : List Call} {r : Refusal} {os : List (Outcome PassStats)} → FactorsAbove cs os → FactorsAbove (c ∷ cs) (refused r ∷ os)
  ran : {c : Call} {cs : List Call} {a : After PassStats} {os : List (Outcome PassStats)} → AboveOne c → FactorsAbove cs os → FactorsAbove (c ∷ cs) (done a ∷ os)

-- ---- the claim

-- For two frames and a list of calls, relisted for the second: in both runs, whatever the factors, given labels are kept, no corner holds two cells, and
-- each new corner had an accepted edge to a labelled cardinal neighbour, or no such neighbour, when attached. If each call that runs has an ambiguity
-- factor above 1, the two runs agree after every call.
pub record BothRuns (l l' : CornerLists) (given given' : List ℕ) (frames : Reordered l l' given given') (calls calls' : List Call) : Type 0 where
  pub first_run : Invariant l given calls
  pub second_run : Invariant l' given' calls'
  pub agree : FactorsAbove calls (run l given calls) → Agree frames.corners.pairs given given' (run l given calls) (run l' given' calls')

-- Any list of calls, refused ones among them, each on the sheet that the last one left, from the given labels of two accepted frames that
-- differ only in the order of their corner lines, labels renumbered and shades relisted to match.
abbrev pub Agreement : Type 0
Agreement =
    (l l' : CornerLists) (given given' : List ℕ) (frames : Reordered l l' given given') (calls calls' : List Call)
    → Relisted frames.corners.pairs calls calls' → BothRuns l l' given given' frames calls calls'

-- where no shade is lent, the same list of calls
abbrev pub AgreementUnshaded : Type 0
AgreementUnshaded =
    (l l' : CornerLists) (given given' : List ℕ) (frames : Reordered l l' given given') (calls : List Call)
    → NoneShaded (length l.xs) calls → BothRuns l l' given given' frames calls calls
