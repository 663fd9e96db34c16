-- The corners that are lent, put into the arrays in which the passes hold them. Assumes nothing.
use Rattle.std.specs.Prelude.{Option, is_some}
use mathlib.Core.Path.{◌≡◌, refl, sym, ap, ◌∙◌}
use mathlib.Core.Bool.{Bool, true, false}
use mathlib.Core.List.{List, ◌++◌}
use Prim.Native.Nat.{ℕ, ◌+◌, ◌-◌, ◌<◌, ◌≤◌}
use native.Mathlib.Omega.{arith}
use borrow.Author.Tests.{le-ltb, ltb-true, ltb-false}
use lib.Dec.{ltb}
use lib.Ieee.{Float, nan}
use lib.ListN.{length, get_or, take, replicate, length-replicate, get_or-append, get_or-eq_default}
use lib.Seq.{get_or-take, get_or-append_right, take-length, length-take-le}
use borrow.Rule.Slice.PartMut.{put_mid}
use Rattle.std.proofs.lemmas.List.{get_or-drop, get_or-replicate}
use Rattle.sheet.specs.Shades.{shade_held}
use Rattle.sheet.specs.Corners.{no_corner, no_corners, CornerLists, corner_of, corner_in, corners_in}
use Rattle.sheet.specs.declared.held.CornerArrays.{CornerArrays}
use Rattle.sheet.proofs.Corners.{listed_corner}
use Rattle.arguments.specs.Arguments.{Lent}
use Rattle.arguments.specs.Shades.{any_shade, shade_at, corners_of}
use Rattle.arguments.specs.Accepted.{Accepted}
use Rattle.arguments.specs.Asked.{Holdable}
use Rattle.arguments.specs.declared.Pass.{Pass}
use Rattle.arguments.specs.declared.Settings.{Settings}

-- ---- the first n of a list at the front of an array of 1,024 that held one value

module _ {A : Type 0} (blank : A) (list : List A) (n : ℕ) (long : n ≤ length list) {before front : List A} (held : before ≡ replicate 1024 blank) (are : front ≡ take n list) where
  size : length front ≡ n
  size = ap length are ∙ length-take-le n list long

  pub front_there : (rest : List A) (m : ℕ) → m < n → get_or (front ++ rest) m blank ≡ get_or list m blank
  front_there rest m h = get_or-append front rest blank m (omega (arith, size)) ∙ ap (λ (t : List A). get_or t m blank) are ∙ get_or-take n list m blank h

  all_blank : (k : ℕ) → get_or (replicate 1024 blank) k blank ≡ blank
  all_blank k = go (ltb k 1024) refl
    where
      go : (t : Bool) → ltb k 1024 ≡ t → get_or (replicate 1024 blank) k blank ≡ blank
      go true e = get_or-replicate 1024 k blank blank (ltb-true k 1024 e)
      go false e = let l : length (replicate 1024 blank) ≤ k = omega (arith, length-replicate 1024 blank, ltb-false k 1024 e) in get_or-eq_default (replicate 1024 blank) blank l

  pub front_beyond : (m : ℕ) → n ≤ m → get_or (put_mid 0 n before front) m blank ≡ blank
  front_beyond m h = get_or-append_right front _ m blank (omega (arith, size)) ∙ get_or-drop n before (m - length front) blank ∙ rw held (all_blank (n + (m - length front)))

unlisted : (l : CornerLists) (k : ℕ) → length l.xs ≤ k → corner_of l k ≡ no_corner
unfolding corner_of
unlisted l k h = rw (le-ltb k (length l.xs) h) refl

-- ---- the corners

module _ {l : CornerLists} {shades : List ℕ} {held : CornerArrays} {xs ys pitches : List Float} (w : Holdable l shades held) (xs_are : xs ≡ l.xs)
    (ys_are : ys ≡ take (length l.xs) l.ys) (pitches_are : pitches ≡ take (length l.xs) l.pitches) where
  abbrev holding : length l.xs ≤ 1024 → Option (List ℕ) → CornerArrays
  holding few bytes =
      record {
        xs = put_mid 0 (length l.xs) held.xs xs;
        ys = put_mid 0 (length l.xs) held.ys ys;
        pitches = put_mid 0 (length l.xs) held.pitches pitches;
        shades = bytes;
        count = record { number = length l.xs; few = few };
      }

  xs_taken : xs ≡ take (length l.xs) l.xs
  xs_taken = xs_are ∙ sym (take-length l.xs)

  at : (few : length l.xs ≤ 1024) (bytes : Option (List ℕ)) (m : ℕ) (t : Bool) → ltb m (length l.xs) ≡ t → corner_in (holding few bytes) m ≡ corner_of l m
  unfolding corner_in
  at few bytes m true e =
      let h = ltb-true m (length l.xs) e in
      rw (
        front_there nan l.xs _ (omega arith) w.no_xs xs_taken _ m h,
        front_there nan l.ys _ w.all.listed.ys_long w.no_ys ys_are _ m h,
        front_there nan l.pitches _ w.all.listed.pitches_long w.no_pitches pitches_are _ m h,
      ) (sym (listed_corner l m h))
  at few bytes m false e =
      let h = ltb-false m (length l.xs) e in
      rw (
        front_beyond nan l.xs _ (omega arith) w.no_xs xs_taken m h,
        front_beyond nan l.ys _ w.all.listed.ys_long w.no_ys ys_are m h,
        front_beyond nan l.pitches _ w.all.listed.pitches_long w.no_pitches pitches_are m h,
      ) (sym (unlisted l m h))

  -- with the bytes of their shades
  pub corners_held : (few : length l.xs ≤ 1024) (bytes : Option (List ℕ)) → is_some bytes ≡ any_shade shades (length l.xs) → ((m : ℕ) → shade_held bytes m ≡ shade_at shades (length l.xs) m)
      → corners_in (holding few bytes) ≡ corners_of l shades
  corners_held few bytes some each =
      λ t.
      record {
        count = length l.xs;
        corner = λ m. at few bytes m (ltb m (length l.xs)) refl t;
        shades = record { any = some t; of = λ m. each m t };
      }

-- a call that is not refused
pub holdable : (l : Lent) (settings : Settings) (pass : Pass) → Accepted l settings pass → {held : CornerArrays} → held.xs ≡ no_corners.xs → held.ys ≡ no_corners.ys
    → held.pitches ≡ no_corners.pitches → held.shades ≡ no_corners.shades → Holdable l.corners l.shades held
holdable l settings pass w xs ys pitches shades =
    record { all = record { listed = w.listed; shades_long = w.shades_long }; few = w.few; no_xs = xs; no_ys = ys; no_pitches = pitches; no_shades = shades }
