-- Laws of the order of signed numbers: a failed test turned round, transitive, antisymmetric. Assumes nothing.
use mathlib.Core.Path.{◌≡◌, sym, ap, subst}
use mathlib.Core.Bool.{true, false, true≢false}
use native.Mathlib.Omega.{arith}
use borrow.Author.Tests.{leb-false}
use lib.Dec.{T, leb→le, le→leb}
use lib.IntN.{ℤ, pos, negsuc}
use lib.Signed.{le_z, ◌≤ℤ◌, le_z_yes}

-- a test that passed, and one that failed
pub le_z_true : (a b : ℤ) → le_z a b ≡ true → a ≤ℤ b
le_z_true a b e = le_z_yes (subst T (sym e) tt)

pub le_z_false : (a b : ℤ) → le_z a b ≡ false → b ≤ℤ a
le_z_false (pos a) (pos b) e = le_z_yes (le→leb b a (omega (arith, leb-false a b e)))
le_z_false (pos a) (negsuc b) e = le_z_yes tt
le_z_false (negsuc a) (pos b) e = absurd (true≢false e)
le_z_false (negsuc a) (negsuc b) e = le_z_yes (le→leb a b (omega (arith, leb-false b a e)))

pub le_z_trans : (a b c : ℤ) → T (le_z a b) → T (le_z b c) → T (le_z a c)
le_z_trans (pos a) (pos b) (pos c) h k = le→leb a c (omega (arith, leb→le a b h, leb→le b c k))
le_z_trans (pos a) (pos b) (negsuc c) h k = k
le_z_trans (pos a) (negsuc b) c h k = absurd h
le_z_trans (negsuc a) (pos b) (pos c) h k = tt
le_z_trans (negsuc a) (pos b) (negsuc c) h k = absurd k
le_z_trans (negsuc a) (negsuc b) (pos c) h k = tt
le_z_trans (negsuc a) (negsuc b) (negsuc c) h k = le→leb c a (omega (arith, leb→le b a h, leb→le c b k))

pub ≤ℤ-trans : {a b c : ℤ} → a ≤ℤ b → b ≤ℤ c → a ≤ℤ c
≤ℤ-trans {a} {b} {c} h k = le_z_yes (le_z_trans a b c h.le k.le)

antisym : (a b : ℤ) → T (le_z a b) → T (le_z b a) → a ≡ b
antisym (pos a) (pos b) h k = ap pos (omega (arith, leb→le a b h, leb→le b a k))
antisym (pos a) (negsuc b) h k = absurd h
antisym (negsuc a) (pos b) h k = absurd k
antisym (negsuc a) (negsuc b) h k = ap negsuc (omega (arith, leb→le b a h, leb→le a b k))

pub ≤ℤ-antisym : {a b : ℤ} → a ≤ℤ b → b ≤ℤ a → a ≡ b
≤ℤ-antisym {a} {b} h k = antisym a b h.le k.le
