-- What lines of each kind say: the numbers that no check refuses are in their ranges, and a label and a shade are held as they are. Assumes
-- nothing.
use mathlib.Core.Path.{◌≡◌, refl, sym, ap, ap₂, subst, ◌∙◌}
use mathlib.Core.Bool.{Bool, true, false, ◌&&◌, ◌||◌, true≢false}
use mathlib.Core.List.{List, [], ◌∷◌}
use Prim.Native.Nat.{ℕ, suc, ◌+◌, ◌-◌, ◌<◌, ◌≤◌, min}
use native.Mathlib.Omega.{arith}
use borrow.Author.Tests.{eq-eqb, le-ltb, le-leb, ltb-true, ltb-false, leb-true, not-false}
use lib.Dec.{T, eqb, ltb, leb}
use lib.IntN.{ℤ, pos, negsuc, nat_abs, ◌-ℤ◌}
use lib.ListN.{get_or}
use Rattle.std.proofs.Common.{Option, None, Some}
use Rattle.binary32.specs.declared.ranges.Quantity.{Quantity}
use Rattle.refusal.specs.Refusal.{number_of}
use Rattle.refusal.specs.declared.Refusal.{Refusal}
use Rattle.sheet.specs.Cells.{in_range, on_sheet, OnSheet}
use Rattle.sheet.proofs.Laws.{sub_lo, sub_hi}
use Rattle.labels.proofs.Below.{both, any_none}
use Rattle.arguments.proofs.Chains.{or_false_both}
use Rattle.line_form.specs.Forms.{Number, bits, whole}
use Rattle.line_form.specs.Held.{held_whole, held_up_to}
use Rattle.line_form.specs.Written.{unheld_whole}
use Rattle.frame_line.specs.Table.{rows, row_at, form_at, sort_of, sort_at}
use Rattle.frame_line.specs.Lines.{Line, kind_of, Proper, bits_at, whole_at, Axes, axes_line_of, CornerLine, corner_line_of, LabelLine, label_line_of, shade_line_of}
use Rattle.frame_line.specs.Lines.{PassLine, bare_grow_holds, grow, bare_fill, fill, local, pass_line_of}
use Rattle.frame_line.specs.Checks.{wild_bits, wild_whole, number_outside, some_outside, outside_line}
use Rattle.frame_line.specs.Held.{held_line, count_in, label_in, shade_in, beyond, outside_word, outside_at, outside_held}
use Rattle.frame_line.specs.declared.Kind.{Kind}
use Rattle.frame_line.specs.declared.OpeningKind.{OpeningKind}
use Rattle.frame_line.specs.declared.PassKind.{PassKind}
use Rattle.frame_line.specs.declared.Sort.{Sort}
use Rattle.frame_line.specs.declared.HeldLine.{HeldLine}
use Rattle.frame_line.specs.declared.HeldLabel.{HeldLabel}
use Rattle.frame_line.proofs.Numbers.{slots_of, ranged, beyond_is, outside_is, outside_held_lem}
use Rattle.frame_line.proofs.Numbers.{row_of, row_of_lem, bits_held, whole_held}

-- ---- integers that are held as they are

-- an integer from 0 to n
pub record Count (n : ℕ) (z : ℤ) : Type 0 where
  pub value : ℕ
  pub is : z ≡ pos value
  pub small : value ≤ n

pub counted : (n : ℕ) (z : ℤ) → wild_whole (pos 0) (pos n) z ≡ false → Count n z
counted n (pos k) e = record { value = k; is = refl; small = leb-true k n (both (leb 0 k) (leb k n) (not-false _ e)).1 }
counted n (negsuc k) e = absurd (true≢false e)

pub tame_count : (n : ℕ) (z : ℤ) → n ≤ 1000000 → wild_whole (pos 0) (pos n) z ≡ false → count_in (held_whole z) ≡ nat_abs z
unfolding held_whole
tame_count n (pos k) h e =
    let small = leb-true k n (both (leb 0 k) (leb k n) (not-false _ e)).1 in
    rw (le-ltb (1000000 + min 1000000 k) 1000000 (omega arith)) (omega arith)
tame_count n (negsuc k) h e = absurd (true≢false e)

pub count_exact : (z : ℤ) → 1000000 ≤ held_whole z → held_whole z < 2000000 → z ≡ pos (count_in (held_whole z))
unfolding held_whole
count_exact (pos n) h l = rw (le-ltb (1000000 + min 1000000 n) 1000000 h) (ap pos (omega arith))
count_exact (negsuc n) h l = absurd (omega arith)

pub side : (z : ℤ) → 0 < held_whole z → held_whole z < 2000000 → pos (min 2000000 (held_whole z)) -ℤ pos 1000000 ≡ z
unfolding held_whole
side (pos n) h l = sub_hi (min 2000000 (1000000 + min 1000000 n)) 1000000 (omega arith) ∙ ap pos (omega arith)
side (negsuc n) h l = sub_lo (min 2000000 (1000000 - suc n)) 1000000 (omega arith) ∙ ap negsuc (omega arith)

side_on : (w : ℕ) → (999936 ≤ w) × (w ≤ 1000063) → in_range (pos (min 2000000 w) -ℤ pos 1000000) ≡ true
side_on w b = go (ltb w 1000000) refl
  where
    go : (t : Bool) → ltb w 1000000 ≡ t → in_range (pos (min 2000000 w) -ℤ pos 1000000) ≡ true
    go true e =
        let h = ltb-true w 1000000 e in
        ap in_range (sub_lo (min 2000000 w) 1000000 (omega arith)) ∙ ap (λ (t : Bool). t && true) (le-leb (1000000 - suc (min 2000000 w)) 63 (omega arith))
    go false e =
        let h = ltb-false w 1000000 e in
        ap in_range (sub_hi (min 2000000 w) 1000000 (omega arith)) ∙ le-leb (min 2000000 w - 1000000) 63 (omega arith)

-- ---- the words of a line

abbrev word_of : HeldLine → ℕ → ℕ
word_of line m = get_or line.values m 0

abbrev Between : ℕ → ℕ → ℕ → Type 0
Between low high w = (low ≤ w) × (w ≤ high)

module _ (n : ℕ) (line : HeldLine) where
  -- a word whose refusal is not said
  pub fine_word : (r m : ℕ) (s : Option Sort) → outside_held r n line ≡ false → m < 5 → sort_at line.row m ≡ s → outside_word r n s (word_of line m) ≡ false
  unfolding outside_held
  fine_word r m s e h is = sym (ap (λ (x : Option Sort). outside_word r n x (word_of line m)) is) ∙ any_none (outside_at r n line) 5 m e h

  pub word_tame : outside_held 3 n line ≡ false → (m : ℕ) → m < 5 → (q : Quantity) → sort_at line.row m ≡ Some (Sort.Float q) → wild_bits q (word_of line m) ≡ false
  unfolding outside_word
  word_tame e m h q s = fine_word 3 m (Some (Sort.Float q)) e h s

  between : (r m low high : ℕ) (s : Option Sort) → m < 5 → sort_at line.row m ≡ s → outside_held r n line ≡ false
      → (outside_word r n s (word_of line m) ≡ false → beyond low high (word_of line m) ≡ false) → Between low high (word_of line m)
  between r m low high s h is e so =
      let w = word_of line m in
      let t = or_false_both (ltb w low) (ltb high w) (so (fine_word r m s e h is)) in
      (ltb-false w low t.0, ltb-false high w t.1)

  -- a line of a kind whose first number is a corner's
  module _ (kind : Kind) (row_is : line.row ≡ row_of kind) (first : sort_at (row_of kind) 0 ≡ Some Sort.Corner) where
    corner_word : outside_held 5 n line ≡ false → Between 1000000 (999999 + n) (word_of line 0)
    unfolding outside_word
    corner_word e = between 5 0 1000000 (999999 + n) (Some Sort.Corner) (omega arith) (ap (λ (k : ℕ). sort_at k 0) row_is ∙ first) e (λ f. f)

    pub corner_known : outside_held 5 n line ≡ false → count_in (word_of line 0) < n
    corner_known e = let b = corner_word e in rw (le-ltb (word_of line 0) 1000000 b.0) (omega arith)

  module _ (row_is : line.row ≡ row_of Kind.Label) where
    side_word : (m : ℕ) → m < 5 → sort_at 5 m ≡ Some (Sort.Whole Refusal.OffSheet 999936 1000063) → outside_held 4 n line ≡ false → Between 999936 1000063 (word_of line m)
    unfolding outside_word
    side_word m h is e = between 4 m 999936 1000063 _ h (ap (λ (k : ℕ). sort_at k m) row_is ∙ is) e (λ f. f)

    pub label_on : outside_held 4 n line ≡ false → OnSheet (label_in line.values).cell
    unfolding on_sheet sort_at sort_of row_at rows
    label_on e = subst T (sym (ap₂ ◌&&◌ (side_on _ (side_word 1 (omega arith) refl e)) (side_on _ (side_word 2 (omega arith) refl e)))) tt

  pub kind_known : line.row ≡ row_of Kind.Shade → outside_held 1 n line ≡ false → (shade_in line.values).kind ≤ 1
  unfolding outside_word sort_at sort_of row_at rows
  kind_known row_is e =
      let b = between 1 1 1000000 1000001 (Some (Sort.Whole Refusal.Malformed 1000000 1000001)) (omega arith) (ap (λ (k : ℕ). sort_at k 1) row_is) e (λ f. f) in
      rw (le-ltb (word_of line 1) 1000000 b.0) (omega arith)

-- ---- how many corners are given is asked only of a corner's number

number_alike : (r n n' : ℕ) (s : Option Sort) → (s ≡ Some Sort.Corner → n ≡ n') → (x : Number) → number_outside r n s x ≡ number_outside r n' s x
unfolding number_outside
number_alike r n n' None h x = refl
number_alike r n n' (Some (Sort.Float q)) h (bits b) = refl
number_alike r n n' (Some (Sort.Float q)) h (whole z) = refl
number_alike r n n' (Some (Sort.Whole refusal low high)) h (bits b) = refl
number_alike r n n' (Some (Sort.Whole refusal low high)) h (whole z) = refl
number_alike r n n' (Some Sort.Corner) h x = ap (λ (c : ℕ). number_outside r c (Some Sort.Corner) x) (h refl)

pub counts_alike : (r n n' k : ℕ) → ((m : ℕ) → sort_at k m ≡ Some Sort.Corner → n ≡ n') → (m : ℕ) (xs : List Number) → some_outside r n k m xs ≡ some_outside r n' k m xs
unfolding some_outside
counts_alike r n n' k h m [] = refl
counts_alike r n n' k h m (x ∷ xs) = ap₂ ◌||◌ (number_alike r n n' (sort_at k m) (h m) x) (counts_alike r n n' k h (suc m) xs)

-- ---- what a line says that is in range

abbrev Tame : Quantity → ℕ → Type 0
Tame q b = wild_bits q b ≡ false

-- an integer from 0 to n
abbrev UpTo : ℕ → ℤ → Type 0
UpTo n z = wild_whole (pos 0) (pos n) z ≡ false

abbrev pub AxesTame : Axes → Type 0
AxesTame a = Tame Quantity.AxisPart a.ix × (Tame Quantity.AxisPart a.iy × (Tame Quantity.AxisPart a.jx × Tame Quantity.AxisPart a.jy))

abbrev pub CornerTame : CornerLine → Type 0
CornerTame c = Tame Quantity.Position c.x × (Tame Quantity.Position c.y × Tame Quantity.Pitch c.pitch)

abbrev pub PassTame : PassLine → Type 0
PassTame bare_grow_holds = Unit {0}
PassTame (grow s f b) = Tame Quantity.Multiple s × (Tame Quantity.Factor f × Tame Quantity.Multiple b)
PassTame bare_fill = Unit {0}
PassTame (fill s f r) = Tame Quantity.Multiple s × (Tame Quantity.Factor f × UpTo 64 r)
PassTame (local s f r g d) = Tame Quantity.Multiple s × (Tame Quantity.Factor f × (UpTo 64 r × (Tame Quantity.Multiple g × UpTo 4 d)))

-- the refusals of ranges are not asked of a corner's number
module _
    (n : ℕ) (l : Line) (p : Proper l) (r : ℕ) (not-5 : eqb r 5 ≡ false) (fine : outside_line r n l ≡ false) (kind : Kind) (e : kind_of l ≡ kind) (m : ℕ)
    (h : m < 5) where
  held_fine : outside_held r n (held_line l) ≡ false
  held_fine = outside_is r n l (λ f. absurd (true≢false (sym f ∙ not-5))) p ∙ fine

  sort_is : {s : Option Sort} → sort_at (row_of kind) m ≡ s → sort_at l.row m ≡ s
  sort_is is = ap (λ (k : ℕ). sort_at k m) (row_of_lem l.row kind p.few e) ∙ is

  count_at : (q : Refusal) → r ≡ number_of q → (high : ℕ) → ranged 1000000 high ≡ true → sort_at (row_of kind) m ≡ Some (Sort.Whole q 1000000 high)
      → get_or (slots_of (form_at (row_of kind))) m true ≡ false → wild_whole (pos 0) (unheld_whole high) (whole_at m l.numbers) ≡ false
  unfolding outside_word unheld_whole
  count_at q same high g s slot =
      sym (beyond_is 1000000 high (whole_at m l.numbers) g) ∙ sym (ap (beyond 1000000 high) (whole_held l p kind e m h slot))
      ∙ (rw (eq-eqb r (number_of q) same) at (fine_word n (held_line l) r m (Some (Sort.Whole q 1000000 high)) held_fine h (sort_is s)))

module _ (n : ℕ) (l : Line) (p : Proper l) (fine : outside_line 3 n l ≡ false) where
  module _ (kind : Kind) (e : kind_of l ≡ kind) (m : ℕ) (h : m < 5) where
    tame : (q : Quantity) → sort_at (row_of kind) m ≡ Some (Sort.Float q) → get_or (slots_of (form_at (row_of kind))) m true ≡ true → Tame q (bits_at m l.numbers)
    tame q s slot =
        sym (ap (wild_bits q) (bits_held l p kind e m h slot))
        ∙ word_tame n (held_line l) (held_fine n l p 3 refl fine kind e m h) m h q (sort_is n l p 3 refl fine kind e m h s)

    count : (high : ℕ) → ranged 1000000 high ≡ true → sort_at (row_of kind) m ≡ Some (Sort.Whole Refusal.OutOfRange 1000000 high) → get_or (slots_of (form_at (row_of kind))) m true ≡ false
        → wild_whole (pos 0) (unheld_whole high) (whole_at m l.numbers) ≡ false
    count = count_at n l p 3 refl fine kind e m h Refusal.OutOfRange refl

  pub cell_said : kind_of l ≡ Kind.Opening OpeningKind.CellSize → Tame Quantity.CellSize (bits_at 0 l.numbers)
  unfolding sort_at sort_of slots_of form_at row_at rows
  cell_said e = tame (Kind.Opening OpeningKind.CellSize) e 0 (omega arith) Quantity.CellSize refl refl

  pub axes_said : kind_of l ≡ Kind.Opening OpeningKind.Axes → AxesTame (axes_line_of l.numbers)
  unfolding sort_at sort_of slots_of form_at row_at rows
  axes_said e =
      let t = tame (Kind.Opening OpeningKind.Axes) e in
      let q = Quantity.AxisPart in
      (t 0 (omega arith) q refl refl, (t 1 (omega arith) q refl refl, (t 2 (omega arith) q refl refl, t 3 (omega arith) q refl refl)))

  pub band_said : kind_of l ≡ Kind.Opening OpeningKind.Band → Tame Quantity.Band (bits_at 0 l.numbers)
  unfolding sort_at sort_of slots_of form_at row_at rows
  band_said e = tame (Kind.Opening OpeningKind.Band) e 0 (omega arith) Quantity.Band refl refl

  pub corner_said : kind_of l ≡ Kind.Corner → CornerTame (corner_line_of l.numbers)
  unfolding sort_at sort_of slots_of form_at row_at rows
  corner_said e =
      let t = tame Kind.Corner e in
      (t 0 (omega arith) Quantity.Position refl refl, (t 1 (omega arith) Quantity.Position refl refl, t 2 (omega arith) Quantity.Pitch refl refl))

  pub pass_said : (k : PassKind) → kind_of l ≡ Kind.Pass k → PassTame (pass_line_of k l.numbers)
  unfolding sort_at sort_of slots_of form_at row_at rows pass_line_of unheld_whole
  pass_said PassKind.BareGrow e = tt
  pass_said PassKind.Grow e =
      let t = tame (Kind.Pass PassKind.Grow) e in
      (t 0 (omega arith) Quantity.Multiple refl refl, (t 1 (omega arith) Quantity.Factor refl refl, t 2 (omega arith) Quantity.Multiple refl refl))
  pass_said PassKind.BareFill e = tt
  pass_said PassKind.Fill e =
      let t = tame (Kind.Pass PassKind.Fill) e in
      let c = count (Kind.Pass PassKind.Fill) e in
      (t 0 (omega arith) Quantity.Multiple refl refl, (t 1 (omega arith) Quantity.Factor refl refl, c 2 (omega arith) 1000064 refl refl refl))
  pass_said PassKind.Local e =
      let t = tame (Kind.Pass PassKind.Local) e in
      let c = count (Kind.Pass PassKind.Local) e in (
        t 0 (omega arith) Quantity.Multiple refl refl,
        (
          t 1 (omega arith) Quantity.Factor refl refl,
          (
            c 2 (omega arith) 1000064 refl refl refl,
            (t 3 (omega arith) Quantity.Multiple refl refl, c 4 (omega arith) 1000004 refl refl refl),
          ),
        ),
      )

-- ---- the corner of a label or a shade

-- one of n corners, held as it is
pub record CornerHeld (n : ℕ) (z : ℤ) (k : ℕ) : Type 0 where
  pub is_corner_holds : z ≡ pos (nat_abs z)
  pub given : nat_abs z < n
  pub held_so : k ≡ nat_abs z

pub corner_exact : (n : ℕ) (l : Line) → Proper l → (kind : Kind) → kind_of l ≡ kind → sort_at (row_of kind) 0 ≡ Some Sort.Corner
    → get_or (slots_of (form_at (row_of kind))) 0 true ≡ false → n ≤ 1024 → outside_line 5 n l ≡ false
    → CornerHeld n (whole_at 0 l.numbers) (count_in (get_or (held_up_to 5 l.numbers) 0 0))
corner_exact n l p kind e first slot few known =
    let z = whole_at 0 l.numbers in
    let row_is = row_of_lem l.row kind p.few e in
    let fine = outside_held_lem 5 n l few p ∙ known in
    let held = whole_held l p kind e 0 (omega arith) slot in
    let b = corner_word n (held_line l) kind row_is first fine in
    let is = count_exact z (omega (arith, held, b.0)) (omega (arith, held, b.1)) in
    let so : count_in (get_or (held_up_to 5 l.numbers) 0 0) ≡ nat_abs z = ap count_in held ∙ sym (ap nat_abs is) in
    record {
      is_corner_holds = is ∙ ap pos (sym (ap nat_abs is));
      given = subst (λ (k : ℕ). k < n) so (corner_known n (held_line l) kind row_is first fine);
      held_so = so;
    }

-- ---- a label

-- a label on the sheet and of one of n corners, held as it is
pub record LabelHeld (n : ℕ) (l : LabelLine) (h : HeldLabel) : Type 0 where
  pub on_sheet_holds : OnSheet l.cell
  pub is_corner_holds : l.corner ≡ pos (nat_abs l.corner)
  pub given : nat_abs l.corner < n
  pub held_so : h ≡ record { corner = nat_abs l.corner; cell = l.cell }

pub label_exact : (n : ℕ) (l : Line) → Proper l → kind_of l ≡ Kind.Label → n ≤ 1024 → outside_line 4 n l ≡ false → outside_line 5 n l ≡ false
    → LabelHeld n (label_line_of l.numbers) (label_in (held_up_to 5 l.numbers))
unfolding slots_of form_at sort_at sort_of row_at rows
label_exact n l p e few off known =
    let row_is = row_of_lem l.row Kind.Label p.few e in
    let fine = outside_held_lem 4 n l few p ∙ off in
    let c = corner_exact n l p Kind.Label e refl refl few known in
    let held = whole_held l p Kind.Label e in
    let b = side_word n (held_line l) row_is in
    let i = b 1 (omega arith) refl fine in
    let j = b 2 (omega arith) refl fine in
    let signed : ℕ → ℤ = λ w. pos (min 2000000 w) -ℤ pos 1000000 in
    let i-held = held 1 (omega arith) refl in
    let j-held = held 2 (omega arith) refl in
    let i-is = ap signed i-held ∙ side (whole_at 1 l.numbers) (omega (arith, i-held, i.0)) (omega (arith, i-held, i.1)) in
    let j-is = ap signed j-held ∙ side (whole_at 2 l.numbers) (omega (arith, j-held, j.0)) (omega (arith, j-held, j.1)) in
    let so : label_in (held_up_to 5 l.numbers) ≡ record { corner = nat_abs (whole_at 0 l.numbers); cell = (label_line_of l.numbers).cell } =
    λ t. record { corner = c.held_so t; cell = record { i = i-is t; j = j-is t } } in
    record {
      on_sheet_holds = subst OnSheet (ap (λ (x : HeldLabel). x.cell) so) (label_on n (held_line l) row_is fine);
      is_corner_holds = c.is_corner_holds;
      given = c.given;
      held_so = so;
    }

-- ---- a shade

-- the kind of a shade, 0 or 1, held as it is
pub record KindHeld (z : ℤ) (k : ℕ) : Type 0 where
  pub is_kind_holds : z ≡ pos (nat_abs z)
  pub small : nat_abs z ≤ 1
  pub held_so : k ≡ nat_abs z

pub shade_corner : (n : ℕ) (l : Line) → Proper l → kind_of l ≡ Kind.Shade → n ≤ 1024 → outside_line 5 n l ≡ false
    → CornerHeld n (shade_line_of l.numbers).corner (shade_in (held_up_to 5 l.numbers)).corner
unfolding slots_of form_at sort_at sort_of row_at rows
shade_corner n l p e few known = corner_exact n l p Kind.Shade e refl refl few known

pub shade_kind : (n : ℕ) (l : Line) → Proper l → kind_of l ≡ Kind.Shade → outside_line 1 n l ≡ false
    → KindHeld (shade_line_of l.numbers).kind (shade_in (held_up_to 5 l.numbers)).kind
unfolding slots_of form_at sort_at sort_of row_at rows unheld_whole
shade_kind n l p e first =
    let z = whole_at 1 l.numbers in
    let tame = count_at n l p 1 refl first Kind.Shade e 1 (omega arith) Refusal.Malformed refl 1000001 refl refl refl in
    let c = counted 1 z tame in
    record {
      is_kind_holds = c.is ∙ ap pos (sym (ap nat_abs c.is));
      small = subst (λ (k : ℕ). k ≤ 1) (sym (ap nat_abs c.is)) c.small;
      held_so = ap count_in (whole_held l p Kind.Shade e 1 (omega arith) refl) ∙ tame_count 1 z (omega arith) tame;
    }
