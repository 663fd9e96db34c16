-- Who runs a frame's passes (document 02, 6/14): the as lines, the role that holds, what 10 means, and a frame with other roles in place of the
-- dealer's. Definitions only.
use Rattle.std.specs.Prelude.{◌≡◌, true, false, not, List, [], ◌∷◌, ◌++◌, ◌↔◌, ◌⊎◌, ℕ, suc, ◌+◌, ◌<◌, ◌≤◌, leb, length, get_or, take, Some, Ok}
use Rattle.refusal.specs.declared.Refusal.{Refusal}
use Rattle.roles.specs.Roles.{role_number}
use Rattle.roles.specs.declared.Role.{Role}
use Rattle.arguments.specs.Arguments.{refused_if}
use Rattle.line_form.specs.Forms.{bytes}
use Rattle.line_form.specs.Lines.{lines_of}
use Rattle.frame_line.specs.Table.{turn_at}
use Rattle.frame_line.specs.Lines.{Line, kind_of, Proper, line_text, pass_line_of, LineRead, ill_formed, line, read_line}
use Rattle.frame_line.specs.Checks.{outside_line}
use Rattle.frame_line.specs.declared.Kind.{Kind}
use Rattle.frame_line.specs.declared.PassKind.{PassKind}
use Rattle.frame_check.specs.Checks.{may_run}
use Rattle.join.specs.Rule.{All}
use Rattle.sizes.specs.Sizes.{byte_limit, pass_limit}
use Rattle.frame.specs.Frame.{Frame, RoledPass, Parts, parts_of, added, checked_line, onward, step_line, refused_at, accepted, read_frame}
use Rattle.frame.specs.ReadFrame.{shades_of, sheet_of, settings_of}
use Rattle.frame.specs.Text.{frame_text, Permitted, Passed}
use Rattle.frame_laws.specs.Calls.{frame_corners, calls_of}

-- ---- "One line `(as dealer)`, `(as depot)` or `(as plant)`"

abbrev pub as_text : Role → List ℕ
as_text Role.Plant = bytes "(as plant)\n"
as_text Role.Depot = bytes "(as depot)\n"
as_text Role.Dealer = bytes "(as dealer)\n"

abbrev pub as_line : Role → Line
as_line r = record { row = 13 + role_number r; numbers = [] }

-- the text is the line, and no other text says this role; the line says that role, and adds no pass
pub record AsLine (r : Role) : Type 0 where
  pub read : read_line (as_text r) ≡ line (as_line r)
  pub says : kind_of (as_line r) ≡ Kind.As r
  pub written : line_text (as_line r) ≡ as_text r
  pub only : (text : List ℕ) (l : Line) → read_line text ≡ line l → kind_of l ≡ Kind.As r → text ≡ as_text r
  pub role : (p : Parts) → (added p (as_line r)).role ≡ r
  pub passes : (p : Parts) → (added p (as_line r)).passes ≡ p.passes

abbrev pub AsLines : Type 0
AsLines = (r : Role) → AsLine r

-- ---- "may stand right before any pass"

-- wherever a pass may come, an as line stands right before already (stage 9), or one may come first, whatever lines stood before: no check of it
-- fails, and the pass may come behind it, as it might have come without
pub record StandsBefore (stage to : ℕ) (l : Line) (r : Role) : Type 0 where
  pub behind : ℕ
  pub fine : (f : Frame) → step_line stage f (as_text r) ≡ onward behind (f ++ (as_line r ∷ []))
  pub pass : turn_at behind l.row ≡ Some to

abbrev pub MayStand : Type 0
MayStand =
    (stage to : ℕ) (l : Line) (k : PassKind) (r : Role) → Proper l → kind_of l ≡ Kind.Pass k → turn_at stage l.row ≡ Some to → (stage ≡ 9 → ⊥)
    → StandsBefore stage to l r

-- and nowhere else: where an as line passes, each pass might have come in its place, and may come behind it as it might have come without
pub record MightCome (stage behind : ℕ) (l : Line) : Type 0 where
  pub to : ℕ
  pub without : turn_at stage l.row ≡ Some to
  pub pass : turn_at behind l.row ≡ Some to

abbrev pub OnlyBefore : Type 0
OnlyBefore =
    (stage behind : ℕ) (f g : Frame) (r : Role) → step_line stage f (as_text r) ≡ onward behind g → (l : Line) (k : PassKind) → Proper l
    → kind_of l ≡ Kind.Pass k → MightCome stage behind l

-- ---- "After it anything but a pass is number 1, as is the end."

-- no pass line is read
abbrev pub NoPass : LineRead → Type 0
NoPass ill_formed = Unit {0}
NoPass (line l) = (k : PassKind) → kind_of l ≡ Kind.Pass k → ⊥

-- the lines of a text up to number n all pass their checks, and the last of them is an as line
pub record AsAt (text : List ℕ) (n : ℕ) : Type 0 where
  pub bytes : length text ≤ byte_limit
  pub index : ℕ
  pub number : n ≡ suc index
  pub inside : index < length (lines_of text)
  pub role : Role
  pub reads : get_or (lines_of text) index [] ≡ as_text role
  pub stage : ℕ
  pub frame : Frame
  pub passed : Passed 0 [] (take n (lines_of text)) stage frame

-- so the text is refused with 1 at the line behind it, if that is no pass, or if there is none
pub record OnlyAPass (text : List ℕ) (n : ℕ) : Type 0 where
  pub other : n < length (lines_of text) → NoPass (read_line (get_or (lines_of text) n [])) → read_frame text ≡ refused_at Refusal.Malformed (suc n)
  pub end : n ≡ length (lines_of text) → read_frame text ≡ refused_at Refusal.Malformed (suc n)

abbrev pub AfterAs : Type 0
AfterAs = (text : List ℕ) (n : ℕ) → AsAt text n → OnlyAPass text n

-- ---- "holds until the next such line; without one it is plant"

-- none of these is an as line
abbrev pub NoAs : List Line → Type 0
NoAs ls = All (λ l. (r : Role) → kind_of l ≡ Kind.As r → ⊥) ls

-- the passes of a list, and then others
pub record Begins (ps qs : List RoledPass) : Type 0 where
  pub others : List RoledPass
  pub are : qs ≡ ps ++ others

-- the role of an as line holds behind it, over any lines but another; before the first it is plant; a pass is run by the role that holds at its
-- line, and no line behind it changes that
pub record RoleHolds : Type 0 where
  pub until_next : (before between : Frame) (r : Role) → NoAs between → (parts_of (before ++ (as_line r ∷ between))).role ≡ r
  pub without : (before : Frame) → NoAs before → (parts_of before).role ≡ Role.Plant
  pub runs : (before : Frame) (l : Line) (k : PassKind) → kind_of l ≡ Kind.Pass k
      → (parts_of (before ++ (l ∷ []))).passes ≡ (parts_of before).passes ++ (record { role = (parts_of before).role; pass = pass_line_of k l.numbers } ∷ [])
  pub stays : (before after : Frame) → Begins (parts_of before).passes (parts_of (before ++ after)).passes

-- ---- "Checks: 10, not yours, at the pass line, after number 3."

-- a pass line in its turn is refused with 2, 3 or 10, in this order, and with no other number
abbrev pub PassChecked : Type 0
PassChecked = (p : Parts) (l : Line) (k : PassKind) → Proper l → kind_of l ≡ Kind.Pass k
    → checked_line p l
    ≡ refused_if (leb pass_limit (length p.passes)) Refusal.OverLimit
    (refused_if (outside_line 3 (length p.corners) l) Refusal.OutOfRange (refused_if (not (may_run p.role k)) Refusal.NotPermitted (Ok tt)))

-- line m of a text, behind lines that pass, is a pass in its turn that is no 17th, has its numbers in range, and is not for the role that holds
pub record NotYours (text : List ℕ) (m : ℕ) : Type 0 where
  pub bytes : length text ≤ byte_limit
  pub index : ℕ
  pub number : m ≡ suc index
  pub inside : index < length (lines_of text)
  pub stage : ℕ
  pub frame : Frame
  pub passed : Passed 0 [] (take index (lines_of text)) stage frame
  pub pass : Line
  pub kind : PassKind
  pub read : read_line (get_or (lines_of text) index []) ≡ line pass
  pub is_pass : kind_of pass ≡ Kind.Pass kind
  pub to : ℕ
  pub turn : turn_at stage pass.row ≡ Some to
  pub room : length (parts_of frame).passes < pass_limit
  pub ranges : outside_line 3 (length (parts_of frame).corners) pass ≡ false
  pub not_permitted : may_run (parts_of frame).role kind ≡ false

-- a text is refused with 10 exactly if it is so, at that line
abbrev pub TenMeans : Type 0
TenMeans = (text : List ℕ) (m : ℕ) → read_frame text ≡ refused_at Refusal.NotPermitted m ↔ NotYours text m

-- ---- "A dealer may run bare grow and bare fill; a depot any grow and fill; the plant all."

-- "bare grow and bare fill" are the texts `(grow)` and `(fill)`: of all pass lines that are read a dealer may run these and no other, whatever numbers
-- it has
abbrev pub DealersTexts : Type 0
DealersTexts =
    (text : List ℕ) (l : Line) (k : PassKind) → read_line text ≡ line l → kind_of l ≡ Kind.Pass k
    → may_run Role.Dealer k ≡ true ↔ (text ≡ bytes "(grow)\n") ⊎ (text ≡ bytes "(fill)\n")

-- of an accepted frame each pass is one that its role may run
abbrev pub EachPermitted : Type 0
EachPermitted = (text : List ℕ) (f : Frame) → read_frame text ≡ accepted f → All Permitted (parts_of f).passes

-- ---- "A frame accepted with a dealer's line is accepted with a depot's or the plant's in its place"

-- the lines of a frame, with a depot's or the plant's line in place of any number of the dealer's
pub data Raised : Frame → Frame → Type 0 where
  none_left : Raised [] []
  same : {f g : Frame} (l : Line) → Raised f g → Raised (l ∷ f) (l ∷ g)
  as_depot : {f g : Frame} → Raised f g → Raised (as_line Role.Dealer ∷ f) (as_line Role.Depot ∷ g)
  as_plant : {f g : Frame} → Raised f g → Raised (as_line Role.Dealer ∷ f) (as_line Role.Plant ∷ g)

-- its text is accepted, and it starts the same calls, with the same corners, on the same sheet of given labels; what it answers is then the same, see
-- crate frame_answer
pub record RaisedStarts (f g : Frame) : Type 0 where
  pub is_accepted : read_frame (frame_text g) ≡ accepted g
  pub corners : frame_corners g ≡ frame_corners f
  pub shades : shades_of g ≡ shades_of f
  pub settings : settings_of g ≡ settings_of f
  pub sheet : sheet_of g ≡ sheet_of f
  pub calls : calls_of g ≡ calls_of f

abbrev pub RaisedAccepted : Type 0
RaisedAccepted = (text : List ℕ) (f g : Frame) → read_frame text ≡ accepted f → Raised f g → RaisedStarts f g
