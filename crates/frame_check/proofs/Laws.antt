-- Laws of the checks in order: what is fine, checks that say the same, a label that can be written, and a shade's corner. Assumes nothing.
use Rattle.std.specs.Prelude.{Ok, Err, Some}
use mathlib.Core.Path.{◌≡◌, refl, sym, ap, ◌∙◌}
use mathlib.Core.Bool.{Bool, true, false, ◌||◌, or-false, or_assoc}
use mathlib.Core.List.{List, [], ◌∷◌}
use Prim.Native.Nat.{ℕ, ◌<◌, ◌≤◌}
use native.Mathlib.Omega.{arith}
use lib.ListN.{get_or}
use Rattle.std.specs.List.{fold, list_any}
use Rattle.join_sheet.specs.declared.SecondLabel.{SecondLabel}
use Rattle.refusal.specs.declared.Refusal.{Refusal}
use Rattle.arguments.specs.Arguments.{Checked, refused_if}
use Rattle.arguments.proofs.Chains.{not_refused}
use Rattle.frame_line.specs.Table.{rows, row_count, row_at, kind_at, sort_of, sort_at}
use Rattle.frame_line.specs.Held.{count_in, label_in, shade_in}
use Rattle.frame_line.specs.declared.Kind.{Kind}
use Rattle.frame_line.specs.declared.HeldLine.{HeldLine}
use Rattle.frame_line.specs.declared.Sort.{Sort}
use Rattle.frame_line.proofs.Shapes.{row_of, row_of_lem}
use Rattle.frame_line.proofs.Words.{label_on, corner_known}
use Rattle.sizes.specs.Sizes.{corner_limit}
use Rattle.frame_check.specs.Checks.{checks_in_order, has_place, LabelFits, NumbersFine}

-- a check that holds refuses, whatever comes behind it, and one that does not is passed
pub refused_here : (b : Bool) (r : Refusal) (rest : Checked) {x y : Refusal} → x ≡ y → Err y ≡ refused_if b r (Ok tt) → Err x ≡ refused_if b r rest
refused_here true r rest d e = ap Err d ∙ e
refused_here false r rest d e = absurd (let z : ◌≡◌ {A = ℕ} 0 1 = cc in omega arith)

pub passed : (b : Bool) (r : Refusal) (rest : Checked) → Ok tt ≡ refused_if b r (Ok tt) → rest ≡ refused_if b r rest
passed true r rest e = absurd (let z : ◌≡◌ {A = ℕ} 0 1 = cc in omega arith)
passed false r rest e = refl

-- what all checks found of a line that is fine
pub record AllFine (outside : ℕ → Bool) (over twice forbidden : Bool) : Type 0 where
  pub first : outside 1 ≡ false
  pub room : over ≡ false
  pub ranges : outside 3 ≡ false
  pub on : outside 4 ≡ false
  pub known : outside 5 ≡ false
  pub once : twice ≡ false
  pub permitted : forbidden ≡ false

pub fine_all : (outside : ℕ → Bool) (over twice forbidden : Bool) → checks_in_order outside over twice forbidden ≡ Ok tt
    → AllFine outside over twice forbidden
unfolding checks_in_order
fine_all outside over twice forbidden e =
    let a = not_refused (outside 1) Refusal.Malformed _ e in
    let b = not_refused over Refusal.OverLimit _ a.1 in
    let c = not_refused (outside 3) Refusal.OutOfRange _ b.1 in
    let d = not_refused (outside 4) Refusal.OffSheet _ c.1 in
    let g = not_refused (outside 5) Refusal.UnknownCorner _ d.1 in
    let h = not_refused twice Refusal.Duplicate _ g.1 in
    let i = not_refused forbidden Refusal.NotPermitted _ h.1 in
    record { first = a.0; room = b.0; ranges = c.0; on = d.0; known = g.0; once = h.0; permitted = i.0 }

pub all_fine : (outside : ℕ → Bool) (over twice forbidden : Bool) → AllFine outside over twice forbidden
    → checks_in_order outside over twice forbidden ≡ Ok tt
unfolding checks_in_order
all_fine outside over twice forbidden f = rw (f.first, f.room, f.ranges, f.on, f.known, f.once, f.permitted)

refused_alike : (b b' : Bool) (r : Refusal) (x y : Checked) → b ≡ b' → (b' ≡ false → x ≡ y) → refused_if b r x ≡ refused_if b' r y
refused_alike b true r x y e f = rw e
refused_alike b false r x y e f = rw e (f refl)

-- doubled is asked only of a label on the sheet, and of a corner that is given
pub checks_alike : (f g : ℕ → Bool) (over twice twice' forbidden : Bool) → ((r : ℕ) → f r ≡ g r) → (g 4 ≡ false → g 5 ≡ false → twice ≡ twice')
    → checks_in_order f over twice forbidden ≡ checks_in_order g over twice' forbidden
unfolding checks_in_order
checks_alike f g over twice twice' forbidden e t =
    refused_alike (f 1) (g 1) Refusal.Malformed _ _ (e 1)
    (λ a.
    refused_alike over over Refusal.OverLimit _ _ refl
    (λ b.
    refused_alike (f 3) (g 3) Refusal.OutOfRange _ _ (e 3)
    (λ c.
    refused_alike (f 4) (g 4) Refusal.OffSheet _ _ (e 4)
    (λ on.
    refused_alike (f 5) (g 5) Refusal.UnknownCorner _ _ (e 5)
    (λ known. ap (λ (x : Bool). refused_if x Refusal.Duplicate (refused_if forbidden Refusal.NotPermitted (Ok tt))) (t on known))))))

-- ---- a place among those of the second set

pub taken_any : (place : ℕ) (t : Bool) (labels : List SecondLabel)
    → fold (λ (u : Bool) (l : SecondLabel). u || has_place place l) t labels ≡ (t || list_any (has_place place) labels)
taken_any place t [] = sym (or-false t)
taken_any place t (l ∷ labels) = taken_any place (t || has_place place l) labels ∙ or_assoc t (has_place place l) (list_any (has_place place) labels)

-- ---- a label and a shade

-- the corner of either has an entry
module _ (n : ℕ) (line : HeldLine) (few : n ≤ corner_limit) (listed : line.row < row_count) (f : NumbersFine n line) (kind : Kind) (e : kind_at line.row ≡ kind) where
  corner_fits : sort_at (row_of kind) 0 ≡ Some Sort.Corner → count_in (get_or line.values 0 0) < corner_limit
  corner_fits first = omega (arith, corner_known n line kind (row_of_lem line.row kind listed e) first f.known, few)

pub label_fits : (n : ℕ) (line : HeldLine) → n ≤ corner_limit → line.row < row_count → NumbersFine n line → kind_at line.row ≡ Kind.Label → LabelFits (label_in line.values)
unfolding sort_at sort_of row_at rows
label_fits n line few listed f e =
    record { on = label_on n line (row_of_lem line.row Kind.Label listed e) f.on; entry = corner_fits n line few listed f Kind.Label e refl }

pub shade_fits : (n : ℕ) (line : HeldLine) → n ≤ corner_limit → line.row < row_count → NumbersFine n line → kind_at line.row ≡ Kind.Shade → (shade_in line.values).corner < corner_limit
unfolding sort_at sort_of row_at rows
shade_fits n line few listed f e = corner_fits n line few listed f Kind.Shade e refl
