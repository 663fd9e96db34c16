-- What the exported reader leaves, by what the reader answers, and that the box which it leaves is that of the sheet. Assumes nothing.
use mathlib.Core.Path.{◌≡◌, refl, sym, ap, ◌∙◌, subst}
use mathlib.Core.Bool.{Bool, true, false}
use mathlib.Core.List.{List, ◌++◌}
use Prim.Native.Nat.{ℕ, ◌≤◌}
use native.Mathlib.Omega.{arith}
use lib.Ieee.{Float}
use lib.IntN.{ℤ}
use lib.ListN.{length, get_or-append}
use Rattle.refusal.specs.Refusal.{number_of}
use Rattle.refusal.specs.declared.Refusal.{Refusal}
use Rattle.labels.specs.Kept.{kept_of, box_kept}
use Rattle.labels.specs.Labelled.{is_labelled}
use Rattle.labels.proofs.Box.{same_box}
use Rattle.join.proofs.Sets.{set_long}
use Rattle.frame.specs.Frame.{Frame, parts_of, given_of, FrameRead, refused_at, accepted, read_frame}
use Rattle.frame.specs.ReadFrame.{sheet_of, Buffers, FrameOut, frame_out, too_short, leaves, unless_short, read_into}
use Rattle.frame.specs.declared.FrameHead.{FrameHead}
use Rattle.frame.specs.declared.FrameRefusal.{FrameRefusal}
use Rattle.std.proofs.Common.{Result}
use Rattle.frame_laws.proofs.Back.{frame_prints_back}
use Rattle.frame_laws.proofs.Refusing.{refused_line_lem}
use Rattle.grid_words.specs.Around.{box_told}
use Rattle.grid_words.specs.Frames.{FrameLeft, frame_read, head_short, frame_unless, frame_exported, ReadAsHanded, Sayable}
use Rattle.grid_words.proofs.Told.{told_back}

-- ---- the reader

module _ (text : List ℕ) (b : Buffers) where
  read_sayable : Sayable (read_into text b).answer
  unfolding read_into
  read_sayable = go (too_short b)
    where
      by_read : (a : FrameRead) → read_frame text ≡ a → Sayable (leaves a b).answer
      by_read (refused_at r n) q = omega (arith, refused_line_lem text r n q)
      by_read (accepted f) q =
          let within = (frame_prints_back text f q).within in
          (omega (arith, within.corners), omega (arith, within.passes))

      go : (t : Bool) → Sayable (unless_short t text b).answer
      go true = omega arith
      go false = by_read (read_frame text) refl

  pub sayable : {answer : Result FrameHead FrameRefusal} {xs ys pitches : List Float} {shades sheet passes : List ℕ}
      → frame_out answer xs ys pitches shades sheet passes ≡ read_into text b → Sayable answer
  sayable e = subst (λ (a : Result FrameHead FrameRefusal). Sayable a) (sym (ap (λ (o : FrameOut). o.answer) e)) read_sayable

-- ---- the box that is left

-- no refusal has the number 0
pub not_0 : (r : Refusal) → number_of r ≡ 0 → ⊥
not_0 Refusal.Malformed e = omega arith
not_0 Refusal.OverLimit e = omega arith
not_0 Refusal.OutOfRange e = omega arith
not_0 Refusal.OffSheet e = omega arith
not_0 Refusal.UnknownCorner e = omega arith
not_0 Refusal.Duplicate e = omega arith
not_0 Refusal.BufferTooShort e = omega arith
not_0 Refusal.NoSharedCorner e = omega arith
not_0 Refusal.PatchesClash e = omega arith
not_0 Refusal.NotPermitted e = omega arith

-- the box of a sheet at the front of a buffer is that of the buffer
front_box : (sheet rest : List ℕ) → 16384 ≤ length sheet → box_kept sheet ≡ box_kept (sheet ++ rest)
front_box sheet rest long =
    ap kept_of (sym (same_box sheet (sheet ++ rest) (record { same_place = λ p h. ap is_labelled (get_or-append sheet rest 0 p (omega arith)) })))

given_long : (f : Frame) → 16384 ≤ length (sheet_of f)
unfolding sheet_of
given_long f = set_long (given_of (parts_of f))

module _ (b : Buffers) (around : List ℤ) (settings : List Float) (out : List ℕ) where
  abbrev AsHanded : FrameLeft → Type 0
  AsHanded left = left.said.answer ≡ 0 → box_told left.said.around ≡ box_kept left.buffers.sheet

  read_handed : (a : FrameRead) → AsHanded (frame_read (leaves a b) around settings out)
  read_handed (refused_at r n) e = absurd (not_0 r (omega arith))
  read_handed (accepted f) e = told_back (box_kept (sheet_of f)) around ∙ front_box (sheet_of f) _ (given_long f)

  unless_handed : (text : List ℕ) (short : Bool) → AsHanded (frame_read (unless_short short text b) around settings out)
  unless_handed text true = read_handed (refused_at Refusal.BufferTooShort 0)
  unless_handed text false = read_handed (read_frame text)

  left_handed : (text : List ℕ) (short : Bool) → AsHanded (frame_unless short text b around settings out)
  unfolding read_into
  left_handed text true e = absurd (omega arith)
  left_handed text false e = unless_handed text (too_short b) e

pub read_as_handed : ReadAsHanded
unfolding frame_exported
read_as_handed text b around settings out = left_handed b around settings out text (head_short around settings out)
