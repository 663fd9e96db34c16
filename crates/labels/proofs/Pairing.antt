-- Laws of two sheets that hold paired corners: the same places are labelled, so places, count, box and rim are equal; a
-- corner is used on the first exactly if its pair is on the second; each corner is at one cell on both. Assumes nothing.
use Rattle.std.specs.Prelude.{Option, Some, None}
use mathlib.Core.Path.{◌≡◌, refl, sym, ap, ◌∙◌}
use mathlib.Core.Bool.{Bool, true, false}
use mathlib.Core.List.{List}
use Prim.Native.Nat.{ℕ, ◌<◌}
use borrow.Author.Tests.{eq-eqb, ne_eqb, eqb-true, eqb-false}
use lib.Dec.{eqb}
use lib.ListN.{get_or}
use Rattle.sheet.specs.Words.{label_of}
use Rattle.sheet.specs.Pairing.{Shuffle, paired_label, PairedSheets}
use Rattle.sheet.proofs.Words.{no_corner_lem}
use Rattle.sheet.proofs.Pairing.{to_one}
use Rattle.labels.specs.Labelled.{names_corner, is_labelled, labelled_places, label_count}
use Rattle.labels.specs.Box.{box_of}
use Rattle.labels.specs.Rim.{rim}
use Rattle.labels.specs.Used.{names, used_on, OneCell}
use Rattle.labels.proofs.Below.{any_ext}
use Rattle.labels.proofs.Labelled.{SamePlaces, same_places, same_count}
use Rattle.labels.proofs.Box.{same_box}
use Rattle.labels.proofs.Rim.{same_rim}

-- ---- labels

module _ {n : ℕ} (s : Shuffle n) where
  names_paired : (l : Option ℕ) → names_corner (paired_label s l) ≡ names_corner l
  unfolding names_corner paired_label
  names_paired None = refl
  names_paired (Some k) = refl

  same_test : (j k : ℕ) → j < n → k < n → eqb (s.to j) (s.to k) ≡ eqb j k
  same_test j k g h = go (eqb j k) refl
    where
      go : (t : Bool) → eqb j k ≡ t → eqb (s.to j) (s.to k) ≡ t
      go true e = eq-eqb (s.to j) (s.to k) (ap s.to (eqb-true j k e))
      go false e = ne_eqb (s.to j) (s.to k) (λ f. eqb-false j k e (to_one s j k g h f))

  -- a label names a corner exactly if its pair names the paired one
  names_pair : (l : Option ℕ) (k : ℕ) → ((j : ℕ) → l ≡ Some j → j < n) → k < n → names (s.to k) (paired_label s l) ≡ names k l
  unfolding names paired_label
  names_pair None k known h = refl
  names_pair (Some j) k known h = same_test j k (known j refl) h

  -- the corner whose pair a label names
  record Unpaired (l : Option ℕ) (k : ℕ) : Type 0 where
    corner : ℕ
    named : l ≡ Some corner
    its_pair : s.to corner ≡ k

  unpaired : (l : Option ℕ) (k : ℕ) → paired_label s l ≡ Some k → Unpaired l k
  unfolding paired_label
  unpaired None k e = absurd (no_corner_lem k e)
  unpaired (Some j) k e = record { corner = j; named = refl; its_pair = cc }

-- ---- sheets

module _ {n : ℕ} {s : Shuffle n} {sheet sheet' : List ℕ} (paired : PairedSheets s sheet sheet') where
  pub paired_labelled : SamePlaces sheet sheet'
  unfolding is_labelled
  paired_labelled = record { same_place = λ p h. ap names_corner (paired.labels p h) ∙ names_paired s (label_of (get_or sheet p 0)) }

  pub paired_places : labelled_places sheet' ≡ labelled_places sheet
  paired_places = same_places sheet sheet' paired_labelled

  pub paired_count : label_count sheet' ≡ label_count sheet
  paired_count = same_count sheet sheet' paired_labelled

  pub paired_box : box_of sheet' ≡ box_of sheet
  paired_box = same_box sheet sheet' paired_labelled

  pub paired_rim : (depth : ℕ) → rim depth sheet' ≡ rim depth sheet
  paired_rim depth = same_rim depth sheet sheet' paired_labelled

  -- where the first sheet names no corner from n on
  module _ (known : (p k : ℕ) → p < 16384 → label_of (get_or sheet p 0) ≡ Some k → k < n) where
    pub paired_used : (k : ℕ) → k < n → used_on sheet' (s.to k) ≡ used_on sheet k
    unfolding used_on
    paired_used k h =
        any_ext (λ p. names (s.to k) (label_of (get_or sheet' p 0))) (λ p. names k (label_of (get_or sheet p 0))) 16384
        (λ p l. ap (names (s.to k)) (paired.labels p l) ∙ names_pair s (label_of (get_or sheet p 0)) k (λ j. known p j l) h)

    pub paired_one : OneCell sheet → OneCell sheet'
    paired_one o =
        record {
          one_place = λ p q k g h a b.
              let x = unpaired s (label_of (get_or sheet p 0)) k (sym (paired.labels p g) ∙ a) in
              let y = unpaired s (label_of (get_or sheet q 0)) k (sym (paired.labels q h) ∙ b) in
              let e = to_one s x.corner y.corner (known p x.corner g x.named) (known q y.corner h y.named) (x.its_pair ∙ sym y.its_pair) in
              o.one_place p q x.corner g h x.named (y.named ∙ ap Some (sym e));
        }
