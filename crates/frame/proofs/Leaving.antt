-- What the call leaves: arrays copied to the front of buffers, nothing held before the first line, the frame held at the end, the buffers, and
-- what the answer says. Assumes nothing.
use mathlib.Core.Path.{◌≡◌, refl, sym, ap, ◌∙◌}
use mathlib.Core.List.{List, [], ◌∷◌}
use mathlib.Core.Bool.{true, false, Bool, cond}
use Prim.Native.Nat.{ℕ, zero, suc, ◌+◌, ◌≤◌}
use native.Mathlib.Omega.{arith}
use borrow.Author.Tests.{ltb-false}
use lib.ListN.{length, set, take, replicate}
use lib.Dec.{ltb}
use lib.IntN.{nat_abs}
use Rattle.refusal.specs.Said.{number_and_line}
use Rattle.labels.specs.Kept.{kept_of}
use Rattle.labels.specs.declared.kept.KeptBox.{KeptBox}
use Rattle.arguments.specs.Front.{over}
use Rattle.arguments.proofs.Chains.{or_false_both}
use Rattle.frame_line.specs.Lines.{ShadeLine}
use Rattle.sizes.specs.Sizes.{corner_limit, place_count, all_pass_words}
use Rattle.frame_check.specs.declared.Held.{Held}
use Rattle.frame_state.specs.State.{State}
use Rattle.frame_state.specs.declared.Progress.{Progress}
use Rattle.frame.specs.Reading.{Holds, FrameDone, ReadAs, held_as, LongEnough, taken}
use Rattle.frame.specs.Frame.{Frame, parts_of, FrameRead, refused_at, accepted, read_frame}
use Rattle.frame.specs.ReadFrame.{xs_of, ys_of, pitches_of, shaded, shades_of, sheet_of, settings_of, Buffers, left, too_short, leaves, read_into, unless_short}
use Rattle.std.proofs.Common.{Ok}
use Rattle.frame.specs.Said.{head_values, frame_said, line_values, read_due, frame_due}

-- ---- at the end

-- a frame that is accepted, and held
pub record Accepting (f : FrameRead) (p : Progress) (a : Held) : Type 0 where
  pub frame : Frame
  pub is : f ≡ accepted frame
  pub holds : FrameDone frame p a

pub whole_read : {f : FrameRead} {s : State} {u : Unit {0}} → ReadAs f (Ok u) s → Accepting f s.progress s.held
whole_read (held_as f g) = record { frame = f; is = refl; holds = g }

-- what a buffer has after the front of an array is copied to it
front : {A : Type 0} {size n : ℕ} {entries these : List A} → Holds size n entries these → (to : List A) → over (take n entries) to ≡ over these to
front g to = ap (λ (l : List _). over l to) g.are

-- the front of an array that is written, and of one that is all alike
take_set : {A : Type 0} (n : ℕ) (l : List A) (i : ℕ) (a : A) → take n (set l i a) ≡ set (take n l) i a
take_set zero l i a = refl
take_set (suc n) [] i a = refl
take_set (suc n) (x ∷ l) zero a = refl
take_set (suc n) (x ∷ l) (suc i) a = ap (λ (r : List _). x ∷ r) (take_set n l i a)

take_alike : {A : Type 0} (n m : ℕ) (a : A) → n ≤ m → take n (replicate m a) ≡ replicate n a
take_alike zero m a h = refl
take_alike (suc n) zero a h = absurd (omega arith)
take_alike (suc n) (suc m) a h = ap (λ (r : List _). a ∷ r) (take_alike n m a (omega arith))

-- the shades of the first n corners
take_shaded : (n : ℕ) (shades : List ℕ) (ss : List ShadeLine) → take n (shaded shades ss) ≡ shaded (take n shades) ss
unfolding shaded
take_shaded n shades [] = refl
take_shaded n shades (s ∷ ss) =
    take_shaded n (set shades (nat_abs s.corner) (nat_abs s.kind + 1)) ss
    ∙ ap (λ (l : List ℕ). shaded l ss) (take_set n shades (nat_abs s.corner) (nat_abs s.kind + 1))

module _ {f : FrameRead} {p : Progress} {a : Held} (w : Accepting f p a) where
  shades_held : Holds corner_limit p.corners a.shades (shades_of w.frame)
  unfolding shades_of
  shades_held =
      let g = w.holds.shades in
      let n = w.holds.corners in
      let ss = (parts_of w.frame).shades in
      record {
        long = g.shades_long;
        some = n.xs_held.some;
        are =
            ap (take p.corners) g.shades_are ∙ take_shaded p.corners (replicate corner_limit 0) ss
            ∙ ap (λ (l : List ℕ). shaded l ss) (take_alike p.corners corner_limit 0 n.xs_held.some)
            ∙ ap (λ (k : ℕ). shaded (replicate k 0) ss) n.count;
      }

  -- an accepted frame is written
  pub text_accepted : (b after : Buffers) → after ≡ taken p a b → (k : KeptBox) → k ≡ kept_of p.around
      → left (Ok (record { settings = p.settings; corners = p.corners; passes = p.passes; around = k })) after ≡ leaves f b
  unfolding settings_of xs_of ys_of pitches_of
  text_accepted b after e k d =
      let h = w.holds in
      let c = h.corners in
      rw (
        w.is,
        e,
        h.settings_are,
        front c.xs_held b.xs,
        front c.ys_held b.ys,
        front c.pitches_held b.pitches,
        front shades_held b.shades,
        front h.passes.words_held b.passes,
        h.sheet_is,
        c.count,
        h.passes.count,
        d,
        h.around_is,
      )
      refl

-- ---- the call

pub long_enough : (b : Buffers) → too_short b ≡ false → LongEnough b
long_enough b e =
    let i = or_false_both (ltb (length b.xs) corner_limit) _ e in
    let j = or_false_both (ltb (length b.ys) corner_limit) _ i.1 in
    let k = or_false_both (ltb (length b.pitches) corner_limit) _ j.1 in
    let m = or_false_both (ltb (length b.shades) corner_limit) _ k.1 in
    let l = or_false_both (ltb (length b.sheet) place_count) _ m.1 in
    record {
      xs_long = ltb-false (length b.xs) corner_limit i.0;
      ys_long = ltb-false (length b.ys) corner_limit j.0;
      pitches_long = ltb-false (length b.pitches) corner_limit k.0;
      shades_long = ltb-false (length b.shades) corner_limit m.0;
      sheet_long = ltb-false (length b.sheet) place_count l.0;
      passes_long = ltb-false (length b.passes) all_pass_words l.1;
    }

read_said : (r : FrameRead) (b : Buffers) → frame_said (leaves r b).answer ≡ read_due r
unfolding settings_of sheet_of head_values frame_said line_values read_due
read_said (refused_at r line) b = refl
read_said (accepted f) b = refl

unless_said : (short : Bool) (text : List ℕ) (b : Buffers)
    → frame_said (unless_short short text b).answer ≡ cond short (number_and_line 7 0) (read_due (read_frame text))
unfolding frame_said
unless_said true text b = refl
unless_said false text b = read_said (read_frame text) b

-- what the answer is due to say is what it says
pub due_said : (text : List ℕ) (b : Buffers) → frame_due text b ≡ frame_said (read_into text b).answer
unfolding read_into frame_due
due_said text b = sym (unless_said (too_short b) text b)
