-- The shades of two accepted frames are relisted exactly if their shade lines are. Assumes nothing.
use mathlib.Core.Path.{◌≡◌, refl, sym, ap, ◌∙◌}
use Prim.Native.Nat.{ℕ, zero, suc, ◌+◌}
use native.Mathlib.Omega.{arith}
use lib.IntN.{nat_abs}
use lib.ListN.{get_or}
use Rattle.sheet.specs.Shades.{shade_of, Shade, bare, kind}
use Rattle.sheet.specs.Pairing.{Shuffle}
use Rattle.frame.specs.Frame.{Frame, parts_of}
use Rattle.frame.specs.ReadFrame.{shades_of}
use Rattle.frame_laws.specs.Shades.{ShadedBy, GivenShades}
use Rattle.join.proofs.Union.{of_all}
use Rattle.frame_laws.proofs.Runs.{accepted_runs}
use Rattle.frame_agreement.specs.Reordering.{SameShades, RelistedLines, ShadesByLines}

-- a byte by its shade
byte_of : Shade → ℕ
byte_of bare = 0
byte_of (kind k) = suc k

byte_back : (b : ℕ) → byte_of (shade_of b) ≡ b
unfolding byte_of shade_of
byte_back zero = refl
byte_back (suc k) = refl

pub same_byte : (b c : ℕ) → shade_of b ≡ shade_of c → b ≡ c
same_byte b c e = sym (byte_back b) ∙ ap byte_of e ∙ byte_back c

-- the byte of a corner that a line gives a kind
line_byte : (f : Frame) → GivenShades f → (n k : ℕ) → ShadedBy (parts_of f).shades n k → get_or (shades_of f) n 0 ≡ k + 1
line_byte f g n k by =
    ap (λ (m : ℕ). get_or (shades_of f) m 0) (sym (ap nat_abs by.corner)) ∙ of_all _ _ g.each _ by.listed
    ∙ ap (λ (m : ℕ). m + 1) (ap nat_abs by.kind)

module _ {n : ℕ} (s : Shuffle n) (f f' : Frame) (g : GivenShades f) (g' : GivenShades f') where
  lines_give : RelistedLines s (parts_of f).shades (parts_of f').shades → SameShades s f f'
  lines_give w i h = ap shade_of (go (get_or (shades_of f) i 0) (get_or (shades_of f') (s.to i) 0) refl refl)
    where
      go : (b b' : ℕ) → get_or (shades_of f) i 0 ≡ b → get_or (shades_of f') (s.to i) 0 ≡ b' → b' ≡ b
      go (suc k) b' e e' = sym e' ∙ line_byte f' g' (s.to i) k (w.each i k h (g.only i k (e ∙ omega arith))) ∙ omega arith
      go zero (suc k) e e' = absurd (omega (arith, line_byte f g i k (w.only i k h (g'.only (s.to i) k (e' ∙ omega arith)))))
      go zero zero e e' = refl

  lines_have : SameShades s f f' → RelistedLines s (parts_of f).shades (parts_of f').shades
  lines_have w =
      record {
        each = λ i k h by. g'.only (s.to i) k (same_byte _ _ (w i h) ∙ line_byte f g i k by);
        only = λ i k h by. g.only i k (sym (same_byte _ _ (w i h)) ∙ line_byte f' g' (s.to i) k by);
      }

pub shades_by_lines : ShadesByLines
shades_by_lines text text' f f' e e' n s =
    let g = (accepted_runs text f e).shades in
    let g' = (accepted_runs text' f' e').shades in
    record { lines_give = lines_give s f f' g g'; lines_have = lines_have s f f' g g' }
