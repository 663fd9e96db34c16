-- What a pass leaves of the sheet, of its label box and of the outcomes' words. Assumes nothing.
use Rattle.std.specs.Prelude.{Option, None, Some, Ok, Err}
use Rattle.std.specs.Result.{MatchResult, IsOkAnd}
use mathlib.Core.Path.{◌≡◌, refl, sym, ap, ◌∙◌}
use mathlib.Core.List.{List}
use Prim.Native.Nat.{ℕ, suc, ◌-◌, ◌<◌, ◌≤◌}
use native.Mathlib.Omega.{arith}
use native.Mathlib.Nat.{sub-zero}
use Rattle.sheet.specs.Corners.{CornerLists}
use Rattle.labels.specs.Kept.{box_kept}
use Rattle.labels.specs.declared.kept.KeptBox.{KeptBox}
use Rattle.arguments.specs.declared.Pass.{Pass}
use Rattle.arguments.specs.declared.Settings.{Settings}
use Rattle.passes.specs.Outcome.{Outcome, refused, done, Answer}
use Rattle.passes.specs.Run.{as_left, other, Call, step, sheet_after}
use Rattle.passes.specs.declared.PassStats.{PassStats}
use Rattle.passes.specs.declared.Counts.{Counts}
use Rattle.count_bounds.specs.Bounds.{FewCounts, FewUnmatched, small_grow, small_fill, small_local}
use Rattle.pass_call.specs.Call.{call_of, PassOut, pass_out, pass_leaves, SmallAnswer}
use Rattle.report_words.specs.Asked.{CountsFit, UnmatchedFits, AnswerFits, with_answer}
use Rattle.frame_passes.specs.Running.{noted, Left, left, left_by, left_by_all}
use Rattle.roles.specs.declared.Role.{Role}

-- ---- one pass

few : {c : Counts} → FewCounts 1048576 c → CountsFit c
few f = record { attached = omega (arith, f.attached); no_candidate = omega (arith, f.no_candidate); ambiguous = omega (arith, f.ambiguous); edge = omega (arith, f.edge) }

few_passed : (u : Option ℕ) → FewUnmatched 1073741824 u → UnmatchedFits u
few_passed None h = tt
few_passed (Some n) h = omega arith

-- what a call says, and the box that is kept after it: a refused one leaves it as it was
abbrev pub said_of : Answer (PassStats × KeptBox) → Answer PassStats
said_of (Ok (s, around)) = Ok s
said_of (Err r) = Err r

abbrev pub box_after : KeptBox → Answer (PassStats × KeptBox) → KeptBox
box_after before (Ok (s, around)) = around
box_after before (Err r) = before

pub small_fits : (r : Answer (PassStats × KeptBox)) → SmallAnswer r → AnswerFits (said_of r)
small_fits (Ok (PassStats.Grow s, around)) (small_grow f) = few f
small_fits (Ok (PassStats.Fill s, around)) (small_fill a b) = record { added = omega arith; rounds = omega arith }
small_fits (Ok (PassStats.Local s, around)) (small_local f i r u) = record { counts = few f; rounds = omega arith; unmatched = few_passed s.unmatched u }
small_fits (Err r) h = tt

-- as they are read from an answer
pub said_is : (r : Answer (PassStats × KeptBox)) (s : Answer PassStats) (told : PassStats × KeptBox → PassStats → Type 0)
    → ((x : PassStats × KeptBox) (y : PassStats) → told x y → y ≡ x.0)
    → MatchResult r (λ x. IsOkAnd s (told x)) (λ e. s ≡ Err e) → s ≡ said_of r
said_is (Ok x) (Ok y) told k h = ap Ok (k x y h)
said_is (Ok x) (Err e) told k h = absurd h
said_is (Err e) s told k h = h

pub after_is : (before : KeptBox) (r : Answer (PassStats × KeptBox)) (around : KeptBox) (told : PassStats × KeptBox → Type 0)
    → ((x : PassStats × KeptBox) → told x → around ≡ x.1)
    → MatchResult r told (λ e. around ≡ before) → around ≡ box_after before r
after_is before (Ok x) around told k h = k x h
after_is before (Err e) around told k h = h

-- a pass that was called with the box that is kept
module _ (l : CornerLists) (set : Settings) (shades sheet queue attached sheet' queue' attached' : List ℕ) (around : KeptBox) (n m : ℕ) (pass : Pass) (r : Answer (PassStats × KeptBox)) where
  -- the box of the sheet is the one that the last call left
  as_handed : around ≡ box_kept sheet → step l sheet (call_of set shades (other around) n m pass) ≡ step l sheet (call_of set shades as_left n m pass)
  unfolding step
  as_handed b = rw b refl

  module _ (b : around ≡ box_kept sheet) (e : pass_out r sheet' queue' attached' ≡ pass_leaves (step l sheet (call_of set shades (other around) n m pass)) sheet queue attached) where
    pub pass_left_lem : (k : ℕ) (role : Role) (words words' : List ℕ) → words' ≡ with_answer words k role (said_of r)
        → left sheet' words' ≡ left_by l (call_of set shades as_left n m pass) k role (left sheet words)
    unfolding left_by
    pass_left_lem k role words words' f = rw (← as_handed b) (go (step l sheet (call_of set shades (other around) n m pass)) e)
      where
        go : (o : Outcome PassStats) → pass_out r sheet' queue' attached' ≡ pass_leaves o sheet queue attached → left sheet' words' ≡ left (sheet_after sheet o) (noted words k role o)
        go (refused s) w = let sheets : sheet' ≡ sheet = ap (λ (o : PassOut). o.sheet) w in rw (sheets, f, ap (λ (o : PassOut). o.answer) w) refl
        go (done a) w = let sheets : sheet' ≡ a.sheet = ap (λ (o : PassOut). o.sheet) w in rw (sheets, f, ap (λ (o : PassOut). o.answer) w) refl

    -- the box that is kept then is that of the sheet
    pub box_left_lem : (next : KeptBox) → next ≡ box_after around r → next ≡ box_kept sheet'
    box_left_lem next f = f ∙ go (step l sheet (call_of set shades (other around) n m pass)) e
      where
        go : (o : Outcome PassStats) → pass_out r sheet' queue' attached' ≡ pass_leaves o sheet queue attached → box_after around r ≡ box_kept sheet'
        go (refused s) w = let sheets : sheet' ≡ sheet = ap (λ (o : PassOut). o.sheet) w in rw (sheets, ap (λ (o : PassOut). o.answer) w) b
        go (done a) w = let sheets : sheet' ≡ a.sheet = ap (λ (o : PassOut). o.sheet) w in rw (sheets, ap (λ (o : PassOut). o.answer) w) refl

-- ---- one pass after the other

-- after k of n passes: what is left to do leads to the same end, and the buffers are as long as they were
pub record Going (l : CornerLists) (call : ℕ → Call) (role : ℕ → Role) (n k : ℕ) (first now : Left) : Type 0 where
  pub upto : k ≤ n
  pub rest : left_by_all l call role (n - k) k now ≡ left_by_all l call role n 0 first

pub none_run : (l : CornerLists) (call : ℕ → Call) (role : ℕ → Role) (n : ℕ) (first : Left) → Going l call role n 0 first first
none_run l call role n first = record { upto = omega arith; rest = rw (sub-zero n) refl }

pub one_run : (l : CornerLists) (call : ℕ → Call) (role : ℕ → Role) (n k : ℕ) (first now : Left) → k < n → Going l call role n k first now → Going l call role n (suc k) first (left_by l (call k) k (role k) now)
unfolding left_by_all
one_run l call role n k first now h g = record { upto = h; rest = (let e : n - k ≡ suc (n - suc k) = omega arith in ap (λ (m : ℕ). left_by_all l call role m k now) (sym e)) ∙ g.rest }

pub all_run : (l : CornerLists) (call : ℕ → Call) (role : ℕ → Role) (n k : ℕ) (first now : Left) → n ≤ k → Going l call role n k first now → now ≡ left_by_all l call role n 0 first
unfolding left_by_all
all_run l call role n k first now h g = (let e : n - k ≡ 0 = omega arith in ap (λ (m : ℕ). left_by_all l call role m k now) (sym e)) ∙ g.rest
