-- Two calls on frames that hold the same corners in another order, with the same settings, pass and buffer lengths, are
-- refused alike. Assumes nothing.
use Rattle.std.specs.Prelude.{Option, Some, None}
use mathlib.Core.Path.{◌≡◌, refl, sym, ap, ap₂, ◌∙◌}
use mathlib.Core.Bool.{Bool, true, false, not, ◌||◌}
use mathlib.Core.List.{List}
use Prim.Native.Nat.{ℕ, ◌<◌, ◌≤◌}
use lib.ListN.{length, get_or}
use borrow.Author.Tests.{lt-ltb}
use Rattle.sheet.specs.Words.{label_of}
use Rattle.sheet.specs.Shades.{Shade, is_kind, takes_kind}
use Rattle.sheet.specs.declared.Corner.{Corner}
use Rattle.sheet.specs.Pairing.{Shuffle, paired_label, PairedCorners, PairedSheets}
use Rattle.sheet.proofs.Words.{no_corner_lem}
use Rattle.sheet.proofs.Pairing.{to_one}
use Rattle.labels.specs.Used.{OneCell}
use Rattle.labels.specs.Kept.{box_differs}
use Rattle.labels.proofs.Count.{any_paired}
use Rattle.labels.proofs.Pairing.{paired_box}
use Rattle.arguments.specs.Arguments.{Lent, corner_count, too_short, over_limit, corner_outside, shade_outside, outside_at, some_corner_outside, out_of_range, checked}
use Rattle.arguments.specs.Shades.{shade_of, stands, any_shade, shade_at, shades_of, PairedShades}
use Rattle.arguments.specs.Accepted.{Known}
use Rattle.arguments.proofs.Laws.{long_enough, not_unknown, not_doubled}
use Rattle.arguments.proofs.Tests.{refused_7}
use Rattle.arguments.specs.declared.Pass.{Pass}
use Rattle.arguments.specs.declared.Settings.{Settings}

-- ---- the shades

module _ {n : ℕ} (s : Shuffle n) {shades shades' : List ℕ} (paired : PairedShades s shades shades') (long : n ≤ length shades) where
  -- one stands in both or in neither
  pub paired_any : any_shade shades' n ≡ any_shade shades n
  unfolding any_shade
  paired_any = any_paired s _ _ (λ i h. ap (λ (b : ℕ). stands (shade_of b)) (paired.same_shade long i h))

  shade_here : (shades : List ℕ) (k : ℕ) → k < n → shade_at shades n k ≡ shade_of (get_or shades k 0)
  unfolding shade_at
  shade_here shades k h = rw (lt-ltb k n h)

  -- and a cell takes both corners of a pair or neither
  pub paired_takes : (w i : ℕ) → i < n → takes_kind (shades_of shades' n) w (s.to i) ≡ takes_kind (shades_of shades n) w i
  unfolding takes_kind
  paired_takes w i h =
      ap₂ (λ (any : Bool) (x : Shade). not any || is_kind w x) paired_any
      (shade_here shades' (s.to i) (s.to_in i h) ∙ ap shade_of (paired.same_shade long i h) ∙ sym (shade_here shades i h))

-- ---- the sheets

module _ {n : ℕ} (s : Shuffle n) {sheet sheet' : List ℕ} (paired : PairedSheets s sheet sheet') (w : Known n sheet) where
  -- what the second sheet names is the pair of what the first names
  named : (p k : ℕ) (P : Type 0) → p < 16384 → label_of (get_or sheet' p 0) ≡ Some k → ((j : ℕ) → j < n → label_of (get_or sheet p 0) ≡ Some j → s.to j ≡ k → P) → P
  unfolding paired_label
  named p k P h e f = go (label_of (get_or sheet p 0)) refl (sym (paired.labels p h) ∙ e)
    where
      go : (l : Option ℕ) → label_of (get_or sheet p 0) ≡ l → paired_label s l ≡ Some k → P
      go None d g = absurd (no_corner_lem k g)
      go (Some j) d g = f j (w.known p j h d) d (let q : s.to j ≡ k = cc in q)

  pub known_paired : Known n sheet'
  known_paired = record { known = λ p k h e. named p k (k < n) h e (λ j i d q. rw (← q) (s.to_in j i)) }

  pub one_cell_paired : OneCell sheet → OneCell sheet'
  one_cell_paired o =
      record {
        one_place =
            λ p q k g h a b.
            named p k (p ≡ q) g a
            (λ i m d x. named q k (p ≡ q) h b (λ j r f y. o.one_place p q i g h d (f ∙ ap Some (to_one s j i r m (y ∙ sym x)))));
      }

-- ---- the calls

module _ (l l' : Lent) (settings : Settings) (pass : Pass) (paired : PairedCorners l.corners l'.corners)
    (kinds : PairedShades paired.pairs l.shades l'.shades) where
  outside_paired : corner_count l ≤ length l.shades → some_corner_outside l'.corners l'.shades ≡ some_corner_outside l.corners l.shades
  unfolding some_corner_outside outside_at
  outside_paired long =
      rw paired.same_xs
      (any_paired paired.pairs (outside_at l.corners l.shades) (outside_at l'.corners l'.shades)
      (λ i h. ap₂ (λ (c : Corner) (b : ℕ). corner_outside c || shade_outside b) (paired.same_corner_holds i h) (kinds.same_shade long i h)))

  -- equal lengths: too short in both calls or in neither
  short_paired : length l'.sheet ≡ length l.sheet → l'.queue ≡ l.queue → l'.attached ≡ l.attached → too_short l' pass ≡ too_short l pass
  unfolding too_short
  short_paired s q a = rw (paired.same_xs, paired.same_ys, paired.same_pitches, kinds.same_length, s, q, a) refl

  -- and no sheet names a corner that is not given, or one at two places
  pub checked_paired : length l'.sheet ≡ length l.sheet → l'.queue ≡ l.queue → l'.attached ≡ l.attached
      → box_differs l'.around l'.sheet ≡ box_differs l.around l.sheet
      → Known (corner_count l) l.sheet → OneCell l.sheet → Known (corner_count l') l'.sheet → OneCell l'.sheet
      → checked l' settings pass ≡ checked l settings pass
  unfolding checked over_limit out_of_range
  checked_paired s q a box k o k' o' = go (too_short l pass) refl
    where
      short : too_short l' pass ≡ too_short l pass
      short = short_paired s q a

      go : (t : Bool) → too_short l pass ≡ t → checked l' settings pass ≡ checked l settings pass
      go true e = sym (refused_7 l' settings pass (short ∙ e)) ∙ refused_7 l settings pass e
      go false e =
          rw (short, box, not_unknown _ _ k, not_doubled _ o, not_unknown _ _ k', not_doubled _ o', outside_paired (long_enough l pass e).shades_long, paired.same_xs) refl

  -- the box differs in both calls or in neither
  differs_paired : PairedSheets paired.pairs l.sheet l'.sheet → l'.around ≡ l.around → box_differs l'.around l'.sheet ≡ box_differs l.around l.sheet
  unfolding box_differs
  differs_paired sheets around = rw (around, paired_box sheets) refl

  -- the same where the sheets are paired, the boxes equal, and the first sheet names given corners only, each at one place
  pub checked_alike : PairedSheets paired.pairs l.sheet l'.sheet → l'.around ≡ l.around → l'.queue ≡ l.queue → l'.attached ≡ l.attached
      → Known (corner_count l) l.sheet → OneCell l.sheet → checked l' settings pass ≡ checked l settings pass
  checked_alike sheets around q a k o =
      checked_paired sheets.same_length q a (differs_paired sheets around) k o (rw paired.same_xs (known_paired paired.pairs sheets k))
      (one_cell_paired paired.pairs sheets k o)
