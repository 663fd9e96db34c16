-- The parts of a frame, kind by kind: what holds of all of a part, what comes no more, the limits before a line and after it, and what the lines
-- say. Assumes nothing.
use mathlib.Core.Path.{◌≡◌, refl, sym, ap, ◌∙◌}
use mathlib.Core.Bool.{false, true≢false, Bool, true, not, cond}
use mathlib.Core.List.{List, [], ◌∷◌, ◌++◌, map}
use Prim.Native.Nat.{ℕ, zero, suc, ◌<◌, ◌≤◌}
use native.Mathlib.Nat.{not-suc-le-zero}
use native.Mathlib.Omega.{arith}
use borrow.Author.Tests.{leb-false, lt-leb, not-false}
use lib.ListN.{length, get_or, length-append}
use lib.Dec.{leb}
use lib.IntN.{nat_abs}
use Rattle.sheet.specs.Cells.{eq_z}
use Rattle.sheet.proofs.Laws.{eq_z_equal, equal_eq_z}
use Rattle.labels.proofs.Below.{no_both}
use Rattle.line_form.specs.Forms.{Number}
use Rattle.frame_line.specs.Table.{row_count, turn_at, sort_at}
use Rattle.frame_line.specs.Lines.{Line, kind_of, CornerLine, corner_line_of, LabelLine, label_line_of, ShadeLine, shade_line_of, PassLine, pass_kind, pass_line_of}
use Rattle.frame_line.specs.declared.Kind.{Kind}
use Rattle.frame_line.specs.declared.PassKind.{PassKind}
use Rattle.frame_line.specs.declared.Sort.{Sort}
use Rattle.std.proofs.Common.{Some}
use Rattle.frame_line.proofs.Said.{CornerTame, PassTame, corner_said, label_exact, shade_corner, shade_kind, pass_said}
use Rattle.frame_check.specs.Checks.{over_limit, twice_of, may_run, forbidden}
use Rattle.sizes.specs.Sizes.{corner_limit, pass_limit, byte_limit}
use Rattle.frame.specs.Frame.{RoledPass, Parts, adding, added, parts_from, over_in, twice_in, forbidden_in, Frame, no_parts, parts_of, collide, some_of, first_set, second_set}
use Rattle.join.specs.Rule.{All}
use Rattle.frame.specs.Text.{InOrder, ends, next, frame_text, InRange, Sound, SoundShade, Apart, ApartShades, Permitted, Joinable, WithinLimits, LabelsSound, ShadesSound}
use Rattle.frame.proofs.Sets.{not_so, all_then, all_before, differ_more, differ_before, apart_more, apart_before}
use Rattle.frame_laws.proofs.Order.{opens, is_corner, past_corners, asked_corner}

-- ---- what holds of all elements of a list

pub all_map : {A : Type 0} {P Q : A → Type 0} → ((a : A) → P a → Q a) → (l : List A) → All P l → All Q l
all_map h [] p = tt
all_map h (a ∷ l) p = (h a p.0, all_map h l p.1)

-- an element of a map
pub get_d_map : {A B : Type 0} (g : A → B) (l : List A) (k : ℕ) (a : A) (b : B) → k < length l → get_or (map g l) k b ≡ g (get_or l k a)
get_d_map g [] k a b h = absurd (not-suc-le-zero h)
get_d_map g (c ∷ l) zero a b h = refl
get_d_map g (c ∷ l) (suc k) a b h = get_d_map g l k a b (omega arith)

-- ---- what holds of all of each part

module _ (P : CornerLine → Type 0) (Q : LabelLine → Type 0) (S : ShadeLine → Type 0) (R : PassLine → Type 0) where
  pub record AllParts (p : Parts) : Type 0 where
    pub corners : All P p.corners
    pub labels : All Q p.labels
    pub second : All Q p.second
    pub shades : All S p.shades
    pub passes : All (λ q. R q.pass) p.passes

  -- it holds of what a line of this kind says
  pub record Says (k : Kind) (ns : List Number) : Type 0 where
    pub corner : k ≡ Kind.Corner → P (corner_line_of ns)
    pub label : k ≡ Kind.Label → Q (label_line_of ns)
    pub shade : k ≡ Kind.Shade → S (shade_line_of ns)
    pub pass : (q : PassKind) → k ≡ Kind.Pass q → R (pass_line_of q ns)

  said : (k : Kind) (ns : List Number) (p : Parts) → Says k ns → AllParts p → AllParts (adding k ns p)
  unfolding adding
  said (Kind.Opening o) ns p s a = record { corners = a.corners; labels = a.labels; second = a.second; shades = a.shades; passes = a.passes }
  said Kind.Corner ns p s a =
      record {
        corners = all_then P p.corners (corner_line_of ns ∷ []) a.corners (s.corner refl, tt);
        labels = a.labels;
        second = a.second;
        shades = a.shades;
        passes = a.passes;
      }
  said Kind.Label ns p s a =
      let m = label_line_of ns in
      record {
        corners = a.corners;
        labels = in_set p.patched p.labels (p.labels ++ (m ∷ [])) a.labels (all_then Q p.labels (m ∷ []) a.labels (s.label refl, tt));
        second = in_set p.patched (p.second ++ (m ∷ [])) p.second (all_then Q p.second (m ∷ []) a.second (s.label refl, tt)) a.second;
        shades = a.shades;
        passes = a.passes;
      }
    where
      in_set : (t : Bool) (ls ms : List LabelLine) → All Q ls → All Q ms → All Q (cond t ls ms)
      in_set true ls ms x y = x
      in_set false ls ms x y = y
  said Kind.Patch ns p s a = record { corners = a.corners; labels = a.labels; second = a.second; shades = a.shades; passes = a.passes }
  said Kind.Shade ns p s a =
      record {
        corners = a.corners;
        labels = a.labels;
        second = a.second;
        shades = all_then S p.shades (shade_line_of ns ∷ []) a.shades (s.shade refl, tt);
        passes = a.passes;
      }
  said (Kind.As r) ns p s a = record { corners = a.corners; labels = a.labels; second = a.second; shades = a.shades; passes = a.passes }
  said (Kind.Pass q) ns p s a =
      record {
        corners = a.corners;
        labels = a.labels;
        second = a.second;
        shades = a.shades;
        passes = all_then (λ r. R r.pass) p.passes (record { role = p.role; pass = pass_line_of q ns } ∷ []) a.passes (s.pass q refl, tt);
      }

  pub parts_all : (p : Parts) (ls : List Line) → All (λ l. Says (kind_of l) l.numbers) ls → AllParts p → AllParts (parts_from p ls)
  unfolding parts_from
  parts_all p [] s a = a
  parts_all p (l ∷ ls) s a = parts_all (added p l) ls s.1 (said (kind_of l) l.numbers p s.0 a)

-- ---- what comes no more

-- a line that is not of the opening keeps it, and one that is no corner the corners
pub kept : (k : Kind) (ns : List Number) (p : Parts)
    → (opens k ≡ false → (adding k ns p).opening ≡ p.opening) × (is_corner k ≡ false → (adding k ns p).corners ≡ p.corners)
unfolding adding
kept (Kind.Opening o) ns p = (λ e. absurd (true≢false e), λ e. refl)
kept Kind.Corner ns p = (λ e. refl, λ e. absurd (true≢false e))
kept Kind.Label ns p = (λ e. refl, λ e. refl)
kept Kind.Patch ns p = (λ e. refl, λ e. refl)
kept Kind.Shade ns p = (λ e. refl, λ e. refl)
kept (Kind.As r) ns p = (λ e. refl, λ e. refl)
kept (Kind.Pass q) ns p = (λ e. refl, λ e. refl)

pub corners_kept : (s : ℕ) (p : Parts) (ls : List Line) → 4 < s → All (λ l. l.row < row_count) ls → InOrder s ls → (parts_from p ls).corners ≡ p.corners
unfolding parts_from
corners_kept s p ls h r (ends e) = refl
corners_kept s p ls h r (next {to = t} {ls = rest} l e o) =
    let n = past_corners s l.row t r.0 e h in
    corners_kept t (added p l) rest n.0 r.1 o ∙ (kept (kind_of l) l.numbers p).1 n.1

-- a line that asks for a corner comes after all corners
pub all_given : (s t : ℕ) (p : Parts) (l : Line) (ls : List Line) → turn_at s l.row ≡ Some t → All (λ m. m.row < row_count) (l ∷ ls) → InOrder t ls
    → (m : ℕ) → sort_at l.row m ≡ Some Sort.Corner → length p.corners ≡ length (parts_from p (l ∷ ls)).corners
unfolding parts_from
all_given s t p l ls e r o m c =
    let n = asked_corner s l.row t r.0 e m c in
    ap length (sym (corners_kept t (added p l) ls n.0 r.1 o ∙ (kept (kind_of l) l.numbers p).1 n.1))

-- ---- what is not doubled

abbrev DifferShade : ShadeLine → ShadeLine → Type 0
DifferShade t s = t.corner ≡ s.corner → ⊥

abbrev same_corner : ShadeLine → ShadeLine → Bool
same_corner t s = eq_z t.corner s.corner

differ_shade : (t s : ShadeLine) → same_corner t s ≡ false → DifferShade t s
differ_shade t s e q = no_both _ (equal_eq_z t.corner s.corner q) e

other_corner : (t s : ShadeLine) → DifferShade t s → same_corner t s ≡ false
other_corner t s d = not_so (same_corner t s) (λ e. d (eq_z_equal t.corner s.corner e))

-- ---- the limits, before a line and after it

one_longer : {A : Type 0} (n : ℕ) (l : List A) (a : A) → leb n (length l) ≡ false → length (l ++ (a ∷ [])) ≤ n
one_longer n l a e = let h = leb-false n (length l) e in omega (arith, length-append l (a ∷ []))

shorter : {A : Type 0} (n : ℕ) (l : List A) (a : A) → length (l ++ (a ∷ [])) ≤ n → length l < n
shorter n l a h = omega (arith, length-append l (a ∷ []))

pub record Limits (p : Parts) : Type 0 where
  pub corners : length p.corners ≤ corner_limit
  pub passes : length p.passes ≤ pass_limit
  pub once : Apart p.labels
  pub second_once : Apart p.second
  pub shaded_once : ApartShades p.shades
  pub permitted : All Permitted p.passes

-- a line of this kind passes no limit, is not doubled, and is one that the role which holds may run
pub record Fits (k : Kind) (ns : List Number) (p : Parts) : Type 0 where
  pub room : over_in p k ≡ false
  pub once : twice_in p k ns ≡ false
  pub permitted : forbidden_in p k ≡ false

-- a label in the set that is open, t being whether that is the second
abbrev label_in : Bool → LabelLine → Parts → Parts
label_in t l p =
    record {
      opening = p.opening;
      corners = p.corners;
      labels = cond t p.labels (p.labels ++ (l ∷ []));
      patched = p.patched;
      second = cond t (p.second ++ (l ∷ [])) p.second;
      shades = p.shades;
      role = p.role;
      passes = p.passes;
    }

-- the kind of a pass line is that of its line
pub kind_said : (q : PassKind) (ns : List Number) → pass_kind (pass_line_of q ns) ≡ q
unfolding pass_line_of pass_kind
kind_said PassKind.BareGrow ns = refl
kind_said PassKind.Grow ns = refl
kind_said PassKind.BareFill ns = refl
kind_said PassKind.Fill ns = refl
kind_said PassKind.Local ns = refl

pub limits_after : (k : Kind) (ns : List Number) (p : Parts) → Fits k ns p → Limits p → Limits (adding k ns p)
unfolding adding over_limit twice_of forbidden
limits_after (Kind.Opening o) ns p f m = record { corners = m.corners; passes = m.passes; once = m.once; second_once = m.second_once; shaded_once = m.shaded_once; permitted = m.permitted }
limits_after Kind.Corner ns p f m =
    record { corners = one_longer corner_limit p.corners _ f.room; passes = m.passes; once = m.once; second_once = m.second_once; shaded_once = m.shaded_once; permitted = m.permitted }
limits_after Kind.Label ns p f m = go p.patched f.once
  where
    go : (t : Bool) → some_of (λ l. collide l (label_line_of ns)) (cond t p.second p.labels) ≡ false → Limits (label_in t (label_line_of ns) p)
    go true e =
        record {
          corners = m.corners;
          passes = m.passes;
          once = m.once;
          second_once = apart_more p.second (label_line_of ns) m.second_once e;
          shaded_once = m.shaded_once;
          permitted = m.permitted;
        }
    go false e =
        record {
          corners = m.corners;
          passes = m.passes;
          once = apart_more p.labels (label_line_of ns) m.once e;
          second_once = m.second_once;
          shaded_once = m.shaded_once;
          permitted = m.permitted;
        }
limits_after Kind.Patch ns p f m =
    record { corners = m.corners; passes = m.passes; once = m.once; second_once = m.second_once; shaded_once = m.shaded_once; permitted = m.permitted }
limits_after Kind.Shade ns p f m =
    record {
      corners = m.corners;
      passes = m.passes;
      once = m.once;
      second_once = m.second_once;
      shaded_once = differ_more DifferShade same_corner differ_shade other_corner p.shades (shade_line_of ns) m.shaded_once f.once;
      permitted = m.permitted;
    }
limits_after (Kind.As r) ns p f m =
    record { corners = m.corners; passes = m.passes; once = m.once; second_once = m.second_once; shaded_once = m.shaded_once; permitted = m.permitted }
limits_after (Kind.Pass q) ns p f m =
    let new : RoledPass = record { role = p.role; pass = pass_line_of q ns } in
    let may : Permitted new = ap (may_run p.role) (kind_said q ns) ∙ not-false (may_run p.role q) f.permitted in
    record {
      corners = m.corners;
      passes = one_longer pass_limit p.passes _ f.room;
      once = m.once;
      second_once = m.second_once;
      shaded_once = m.shaded_once;
      permitted = all_then Permitted p.passes (new ∷ []) m.permitted (may, tt);
    }

pub limits_before : (k : Kind) (ns : List Number) (p : Parts) → Limits (adding k ns p) → Limits p × Fits k ns p
unfolding adding over_limit twice_of forbidden
limits_before (Kind.Opening o) ns p m =
    (record { corners = m.corners; passes = m.passes; once = m.once; second_once = m.second_once; shaded_once = m.shaded_once; permitted = m.permitted }, record { room = refl; once = refl; permitted = refl })
limits_before Kind.Corner ns p m =
    let h = shorter corner_limit p.corners _ m.corners in (
      record { corners = omega arith; passes = m.passes; once = m.once; second_once = m.second_once; shaded_once = m.shaded_once; permitted = m.permitted },
      record { room = lt-leb corner_limit (length p.corners) h; once = refl; permitted = refl },
    )
limits_before Kind.Label ns p m =
    let r = go p.patched m in (r.0, record { room = refl; once = r.1; permitted = refl })
  where
    go : (t : Bool) → Limits (label_in t (label_line_of ns) p)
        → Limits p × (some_of (λ l. collide l (label_line_of ns)) (cond t p.second p.labels) ≡ false)
    go true n =
        let a = apart_before p.second (label_line_of ns) n.second_once in
        (record { corners = n.corners; passes = n.passes; once = n.once; second_once = a.0; shaded_once = n.shaded_once; permitted = n.permitted }, a.1)
    go false n =
        let a = apart_before p.labels (label_line_of ns) n.once in
        (record { corners = n.corners; passes = n.passes; once = a.0; second_once = n.second_once; shaded_once = n.shaded_once; permitted = n.permitted }, a.1)
limits_before Kind.Patch ns p m = (
  record { corners = m.corners; passes = m.passes; once = m.once; second_once = m.second_once; shaded_once = m.shaded_once; permitted = m.permitted },
  record { room = refl; once = refl; permitted = refl },
)
limits_before Kind.Shade ns p m =
    let a = differ_before DifferShade same_corner differ_shade other_corner p.shades (shade_line_of ns) m.shaded_once in
    (record { corners = m.corners; passes = m.passes; once = m.once; second_once = m.second_once; shaded_once = a.0; permitted = m.permitted }, record { room = refl; once = a.1; permitted = refl })
limits_before (Kind.As r) ns p m = (
  record { corners = m.corners; passes = m.passes; once = m.once; second_once = m.second_once; shaded_once = m.shaded_once; permitted = m.permitted },
  record { room = refl; once = refl; permitted = refl },
)
limits_before (Kind.Pass q) ns p m =
    let h = shorter pass_limit p.passes _ m.passes in
    let new : RoledPass = record { role = p.role; pass = pass_line_of q ns } in
    let a = all_before Permitted p.passes new m.permitted in
    let may : may_run p.role q ≡ true = sym (ap (may_run p.role) (kind_said q ns)) ∙ a.1 in (
      record { corners = m.corners; passes = omega arith; once = m.once; second_once = m.second_once; shaded_once = m.shaded_once; permitted = a.0 },
      record { room = lt-leb pass_limit (length p.passes) h; once = refl; permitted = ap not may },
    )

pub limits_first : (p : Parts) (ls : List Line) → Limits (parts_from p ls) → Limits p
unfolding parts_from
limits_first p [] m = m
limits_first p (l ∷ ls) m = (limits_before (kind_of l) l.numbers p (limits_first (added p l) ls m)).0

pub no_limits : Limits no_parts
no_limits = record { corners = omega arith; passes = omega arith; once = tt; second_once = tt; shaded_once = tt; permitted = tt }

-- of a frame
pub within_limits : {f : Frame} → length (frame_text f) ≤ byte_limit → InOrder 0 f → All (InRange (length (parts_of f).corners)) f → Limits (parts_of f)
    → ((parts_of f).patched ≡ true → Joinable (first_set (parts_of f)) (second_set (parts_of f))) → WithinLimits f
within_limits b o n m j =
    record {
      bytes = b;
      order = o;
      numbers = n;
      corners = m.corners;
      passes = m.passes;
      once = m.once;
      second_once = m.second_once;
      shaded_once = m.shaded_once;
      permitted = m.permitted;
      joins = j;
    }

pub frame_limits : {f : Frame} → WithinLimits f → Limits (parts_of f)
frame_limits w =
    record { corners = w.corners; passes = w.passes; once = w.once; second_once = w.second_once; shaded_once = w.shaded_once; permitted = w.permitted }

-- ---- what the lines say

-- what lines say whose numbers are in range
pub lines_tame : (f : Frame) → length (parts_of f).corners ≤ corner_limit → All (InRange (length (parts_of f).corners)) f
    → AllParts CornerTame (Sound (length (parts_of f).corners)) (SoundShade (length (parts_of f).corners)) PassTame (parts_of f)
unfolding parts_of
lines_tame f few numbers =
    let n = length (parts_of f).corners in
    parts_all CornerTame (Sound n) (SoundShade n) PassTame no_parts f
    (all_map
    (λ l r. record {
      corner = λ e. corner_said n l r.proper r.ranges e;
      label = λ e.
          let h = label_exact n l r.proper e few r.on_sheet_holds r.known in
          record { on_sheet_holds = h.on_sheet_holds; corner = nat_abs (label_line_of l.numbers).corner; is_corner_holds = h.is_corner_holds; given = h.given };
      shade = λ e.
          let h = shade_corner n l r.proper e few r.known in
          let k = shade_kind n l r.proper e r.first in
          let m = shade_line_of l.numbers in
          record {
            corner = nat_abs m.corner;
            is_corner_holds = h.is_corner_holds;
            given = h.given;
            kind = nat_abs m.kind;
            is_kind_holds = k.is_kind_holds;
            small = k.small;
          };
      pass = λ q e. pass_said n l r.proper r.ranges q e;
    }) f numbers)
    (record { corners = tt; labels = tt; second = tt; shades = tt; passes = tt })

-- and so the lines of a frame within the limits
pub parts_tame : (f : Frame) → WithinLimits f
    → AllParts CornerTame (Sound (length (parts_of f).corners)) (SoundShade (length (parts_of f).corners)) PassTame (parts_of f)
parts_tame f w = lines_tame f w.corners w.numbers

pub labels_sound : LabelsSound
labels_sound f w = ((parts_tame f w).labels, (parts_tame f w).second)

pub shades_sound : ShadesSound
shades_sound f w = (parts_tame f w).shades
