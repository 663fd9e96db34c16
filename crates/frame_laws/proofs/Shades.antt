-- The shades of a frame: the checks of a shade line, what its lines give each corner, and that they leave all else alone. Assumes nothing.
use Rattle.std.specs.Prelude.{Ok}
use mathlib.Core.Path.{◌≡◌, refl, sym, ap, ap₂, ◌∙◌}
use mathlib.Core.Bool.{Bool, true, false, not, ◌&&◌, ◌||◌, or-false, cond}
use mathlib.Core.Logic.{◌⊎◌, inl, inr, ⊎_elim}
use mathlib.Core.List.Memᴰ
use mathlib.Core.List.{List, [], ◌∷◌}
use Prim.Native.Nat.{ℕ, zero, suc, ◌+◌, ◌<◌, ◌≤◌}
use native.Mathlib.Omega.{arith}
use borrow.Author.Tests.{ne_eqb, eqb-true, eqb-false, le-leb, lt-leb}
use lib.Dec.{eqb}
use lib.IntN.{ℤ, pos, negsuc, nat_abs}
use lib.Signed.{le_z, lt_z}
use lib.ListN.{length, get_or, set, replicate, length-set, length-replicate, get_or-replicate, get_or-eq_default}
use lib.Seq.{get_or-set_same, get_or-set_other}
use Rattle.refusal.specs.declared.Refusal.{Refusal}
use Rattle.sheet.specs.Cells.{eq_z}
use Rattle.labels.proofs.Below.{any_hit, any_no}
use Rattle.arguments.specs.Arguments.{refused_if}
use Rattle.sheet.specs.Shades.{shade_of}
use Rattle.arguments.specs.Shades.{stands, any_shade}
use Rattle.line_form.specs.Forms.{Number}
use Rattle.line_form.specs.Written.{unheld_whole}
use Rattle.frame_line.specs.Table.{rows, row_at, kind_at, sort_of, sort_at}
use Rattle.frame_line.specs.Lines.{kind_of, ShadeLine, whole_at}
use Rattle.frame_line.specs.Checks.{wild_whole, number_outside, some_outside, outside_line}
use Rattle.frame_line.specs.declared.Kind.{Kind}
use Rattle.frame_check.specs.Checks.{checks_in_order, over_limit, twice_of, forbidden}
use Rattle.frame.specs.Frame.{Frame, Parts, adding, added, parts_from, no_parts, parts_of, some_of, join_of, given_of, checked_line}
use Rattle.join.specs.Rule.{All}
use Rattle.frame.specs.Text.{SoundShade, ApartShades, WithinLimits}
use Rattle.frame.specs.ReadFrame.{xs_of, ys_of, pitches_of, shaded, shades_of, sheet_of, settings_of}
use Rattle.frame.proofs.Adding.{below_or_not}
use Rattle.frame_laws.specs.Shades.{ShadeChecked, ShadedBy, GivenShades, is_shade, without_shades, ShadesApart}
use Rattle.frame_laws.proofs.Parts.{all_map, shades_sound}
use Rattle.join.proofs.Union.{of_all}

-- ---- the checks of a shade line

-- not from 0 to 1 is other than 0 or 1
other_kind : (k : ℤ) → wild_whole (pos 0) (pos 1) k ≡ not (eq_z k (pos 0) || eq_z k (pos 1))
other_kind (pos zero) = refl
other_kind (pos (suc zero)) = refl
other_kind (pos (suc (suc n))) =
    let m = suc (suc n) in
    rw (le-leb 0 m (omega arith), lt-leb m 1 (omega arith), ne_eqb m 0 (λ e. omega arith), ne_eqb m 1 (λ e. omega arith))
other_kind (negsuc n) = refl

pub shade_checked : ShadeChecked
unfolding checked_line checks_in_order outside_line some_outside number_outside over_limit twice_of forbidden sort_at sort_of kind_at row_at rows unheld_whole whole_at
shade_checked p n k =
    ap₂
    (λ (a b : Bool). refused_if a Refusal.Malformed
    (refused_if b Refusal.UnknownCorner (refused_if (some_of (λ s. eq_z s.corner n) p.shades) Refusal.Duplicate (Ok tt))))
    (or-false _ ∙ other_kind k) (or-false (not (le_z (pos 0) n && lt_z n (pos (length p.corners)))))

-- ---- the bytes

all_long : (ss : List ShadeLine) (shades : List ℕ) → length (shaded shades ss) ≡ length shades
unfolding shaded
all_long [] shades = refl
all_long (s ∷ ss) shades = all_long ss _ ∙ length-set shades (nat_abs s.corner) (nat_abs s.kind + 1)

others_keep : (ss : List ShadeLine) (shades : List ℕ) (n : ℕ) → All (λ s. n ≡ nat_abs s.corner → ⊥) ss → get_or (shaded shades ss) n 0 ≡ get_or shades n 0
unfolding shaded
others_keep [] shades n d = refl
others_keep (s ∷ ss) shades n d = others_keep ss _ n d.1 ∙ get_or-set_other shades (nat_abs s.corner) n (nat_abs s.kind + 1) 0 d.0

module _ (c : ℕ) where
  -- shades of other corners
  other_corner : (s : ShadeLine) → SoundShade c s → (z : ℤ) (n : ℕ) → z ≡ pos n → (z ≡ s.corner → ⊥) → n ≡ nat_abs s.corner → ⊥
  other_corner s g z n is d e = d (is ∙ ap pos (e ∙ ap nat_abs g.is_corner_holds) ∙ sym g.is_corner_holds)

  apart_from : (ss : List ShadeLine) → All (SoundShade c) ss → (z : ℤ) (n : ℕ) → z ≡ pos n → All (λ s. z ≡ s.corner → ⊥) ss
      → All (λ s. n ≡ nat_abs s.corner → ⊥) ss
  apart_from [] g z n is d = tt
  apart_from (s ∷ ss) g z n is d = (other_corner s g.0 z n is d.0, apart_from ss g.1 z n is d.1)

  each_given : (ss : List ShadeLine) (shades : List ℕ) → length shades ≡ c → All (SoundShade c) ss → ApartShades ss
      → All (λ s. get_or (shaded shades ss) (nat_abs s.corner) 0 ≡ nat_abs s.kind + 1) ss
  unfolding shaded
  each_given [] shades long g a = tt
  each_given (s ∷ ss) shades long g a =
      let n = nat_abs s.corner in
      let v = nat_abs s.kind + 1 in
      let is : s.corner ≡ pos n = g.0.is_corner_holds ∙ ap pos (sym (ap nat_abs g.0.is_corner_holds)) in
      let here : n < length shades = omega (arith, long, ap nat_abs g.0.is_corner_holds, g.0.given) in (
        others_keep ss (set shades n v) n (apart_from ss g.1 s.corner n is a.0) ∙ get_or-set_same shades n v 0 here,
        each_given ss (set shades n v) (length-set shades n v ∙ long) g.1 a.1,
      )

  only_given : (ss : List ShadeLine) (shades : List ℕ) → length shades ≡ c → All (SoundShade c) ss → (n k : ℕ) → get_or (shaded shades ss) n 0 ≡ k + 1
      → ShadedBy ss n k ⊎ (get_or shades n 0 ≡ k + 1)
  unfolding shaded
  only_given [] shades long g n k e = inr e
  only_given (s ∷ ss) shades long g n k e =
      let m = nat_abs s.corner in
      let v = nat_abs s.kind + 1 in
      ⊎_elim (λ h. inl (later h)) (go m v refl refl (eqb m n) refl) (only_given ss (set shades m v) (length-set shades m v ∙ long) g.1 n k e)
    where
      later : ShadedBy ss n k → ShadedBy (s ∷ ss) n k
      later h = record { shade = h.shade; listed = Memᴰ.tail h.listed; corner = h.corner; kind = h.kind }

      go : (m v : ℕ) → nat_abs s.corner ≡ m → nat_abs s.kind + 1 ≡ v → (t : Bool) → eqb m n ≡ t → get_or (set shades m v) n 0 ≡ k + 1
          → ShadedBy (s ∷ ss) n k ⊎ (get_or shades n 0 ≡ k + 1)
      go m v a b true d h =
          let same : m ≡ n = eqb-true m n d in
          let here : m < length shades = omega (arith, long, a, ap nat_abs g.0.is_corner_holds, g.0.given) in
          let v_is : v ≡ k + 1 = sym (get_or-set_same shades m v 0 here) ∙ ap (λ (i : ℕ). get_or (set shades m v) i 0) same ∙ h in
          let kind_is : nat_abs s.kind ≡ k = omega (arith, b, v_is) in
          inl
          (record {
            shade = s;
            listed = Memᴰ.head refl;
            corner = g.0.is_corner_holds ∙ ap pos (sym (ap nat_abs g.0.is_corner_holds) ∙ a ∙ same);
            kind = g.0.is_kind_holds ∙ ap pos (sym (ap nat_abs g.0.is_kind_holds) ∙ kind_is);
          })
      go m v a b false d h = inr (sym (get_or-set_other shades m n v 0 (λ q. eqb-false m n d (sym q))) ∙ h)

none_given : (c n : ℕ) → get_or {A = ℕ} (replicate c 0) n 0 ≡ 0
none_given c n =
    ⊎_elim (λ h. get_or-replicate {A = ℕ} c n 0 0 h)
    (λ h. get_or-eq_default {A = ℕ} (replicate c 0) 0 {n = n} (omega (arith, length-replicate {A = ℕ} c 0))) (below_or_not n c)

-- ---- "If any stands"

byte_stands : (b k : ℕ) → b ≡ k + 1 → stands (shade_of b) ≡ true
unfolding stands shade_of
byte_stands zero k e = absurd (omega arith)
byte_stands (suc b) k e = refl

-- the first shade line's does
some_stands : (c : ℕ) (shades : List ℕ) (ss : List ShadeLine) → All (SoundShade c) ss
    → All (λ s. get_or shades (nat_abs s.corner) 0 ≡ nat_abs s.kind + 1) ss → (ss ≡ [] → ⊥) → any_shade shades c ≡ true
unfolding any_shade
some_stands c shades [] g e d = absurd (d refl)
some_stands c shades (s ∷ ss) g e d =
    any_hit (λ k. stands (shade_of (get_or shades k 0))) c (nat_abs s.corner) (omega (arith, ap nat_abs g.0.is_corner_holds, g.0.given))
    (byte_stands (get_or shades (nat_abs s.corner) 0) (nat_abs s.kind) e.0)

none_stand : (c : ℕ) → any_shade (replicate c 0) c ≡ false
unfolding any_shade stands shade_of
none_stand c = any_no (λ k. stands (shade_of (get_or (replicate c 0) k 0))) c (λ k h. ap (λ (b : ℕ). stands (shade_of b)) (none_given c k))

-- ---- a frame's shades

pub shades_long : (f : Frame) → length (shades_of f) ≡ length (parts_of f).corners
unfolding shades_of
shades_long f = all_long (parts_of f).shades _ ∙ length-replicate {A = ℕ} (length (parts_of f).corners) 0

pub no_lines_stand : (f : Frame) → (parts_of f).shades ≡ [] → any_shade (shades_of f) (length (parts_of f).corners) ≡ false
unfolding shades_of shaded
no_lines_stand f e =
    let c = length (parts_of f).corners in
    ap (λ (ss : List ShadeLine). any_shade (shaded (replicate c 0) ss) c) e ∙ none_stand c

module _ (f : Frame) (w : WithinLimits f) where
  abbrev count : ℕ
  count = length (parts_of f).corners

  only_shaded : (n k : ℕ) → get_or (shades_of f) n 0 ≡ k + 1 → ShadedBy (parts_of f).shades n k
  unfolding shades_of
  only_shaded n k e =
      ⊎_elim (λ h. h) (λ h. absurd (omega (arith, none_given count n)))
      (only_given count (parts_of f).shades (replicate count 0) (length-replicate {A = ℕ} count 0) (shades_sound f w) n k e)

  -- no byte is above 2
  pub shades_inside : (n : ℕ) → get_or (shades_of f) n 0 ≤ 2
  shades_inside n = go (get_or (shades_of f) n 0) refl
    where
      go : (b : ℕ) → get_or (shades_of f) n 0 ≡ b → b ≤ 2
      go zero e = omega arith
      go (suc k) e =
          let by = only_shaded n k (omega arith) in
          let s = of_all (SoundShade count) (parts_of f).shades (shades_sound f w) by.shade by.listed in
          let same : s.kind ≡ k = ap nat_abs (sym s.is_kind_holds ∙ by.kind) in
          omega (arith, s.small)

  pub given_shades : GivenShades f
  unfolding shades_of
  given_shades =
      let ss = (parts_of f).shades in
      let lines = each_given count ss (replicate count 0) (length-replicate {A = ℕ} count 0) (shades_sound f w) w.shaded_once in
      record {
        long = shades_long f;
        inside = shades_inside;
        each = lines;
        only = only_shaded;
        bare = λ n d.
            others_keep ss (replicate count 0) n (apart_from count ss (shades_sound f w) (pos n) n refl (all_map (λ s h e. h (sym e)) ss d))
            ∙ none_given count n;
        some = some_stands count (shades_of f) ss (shades_sound f w) lines;
        none = no_lines_stand f;
      }

-- ---- what the shade lines leave alone

abbrev pub unshaded : Parts → Parts
unshaded p =
    record {
      opening = p.opening;
      corners = p.corners;
      labels = p.labels;
      patched = p.patched;
      second = p.second;
      shades = [];
      role = p.role;
      passes = p.passes;
    }

unshaded_line : (k : Kind) (ns : List Number) (p : Parts) → cond (is_shade k) (unshaded p) (adding k ns (unshaded p)) ≡ unshaded (adding k ns p)
unfolding adding
unshaded_line (Kind.Opening o) ns p = refl
unshaded_line Kind.Corner ns p = refl
unshaded_line Kind.Label ns p = refl
unshaded_line Kind.Patch ns p = refl
unshaded_line Kind.Shade ns p = refl
unshaded_line (Kind.As r) ns p = refl
unshaded_line (Kind.Pass q) ns p = refl

pub parts_unshaded : (p : Parts) (f : Frame) → parts_from (unshaded p) (without_shades f) ≡ unshaded (parts_from p f)
unfolding parts_from without_shades
parts_unshaded p [] = refl
parts_unshaded p (l ∷ ls) = go (is_shade (kind_of l)) (unshaded_line (kind_of l) l.numbers p) ∙ parts_unshaded (added p l) ls
  where
    go : (t : Bool) → cond t (unshaded p) (added (unshaded p) l) ≡ unshaded (added p l)
        → parts_from (unshaded p) (cond t (without_shades ls) (l ∷ without_shades ls)) ≡ parts_from (unshaded (added p l)) (without_shades ls)
    go true e = ap (λ (q : Parts). parts_from q (without_shades ls)) e
    go false e = ap (λ (q : Parts). parts_from q (without_shades ls)) e

pub shades_apart : (f : Frame) → ShadesApart f
unfolding parts_of sheet_of given_of join_of xs_of ys_of pitches_of settings_of
shades_apart f =
    let e = parts_unshaded no_parts f in
    record { sheet = rw e; xs = rw e; ys = rw e; pitches = rw e; settings = rw e; passes = rw e }
