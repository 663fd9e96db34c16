-- "Corner order still decides nothing": the given labels of two frames that differ only in the order of their corner lines are the same but for the
-- numbers of the corners, whether one set was given or two; and two such frames are refused alike. Assumes nothing.
use mathlib.Core.Path.{◌≡◌, refl, sym, ap, ap₂, subst, ◌∙◌}
use mathlib.Core.Bool.{Bool, true, false}
use mathlib.Core.Logic.{◌↔◌}
use mathlib.Core.List.{List, [], ◌∷◌, map}
use Prim.Native.Nat.{ℕ}
use native.Mathlib.Omega.{arith}
use lib.ListN.{length, length-map}
use Rattle.refusal.specs.declared.Refusal.{Refusal}
use Rattle.sheet.specs.Pairing.{Shuffle}
use Rattle.sheet.proofs.Pairing.{to_one}
use Rattle.join.specs.Rule.{Placed, All, renamed}
use Rattle.join.specs.Join.{Joined, apart, clash, off, union_of, joined, join_renamed}
use Rattle.join.proofs.Renumbering.{joined_renamed}
use Rattle.frame_line.specs.Lines.{LabelLine}
use Rattle.frame.specs.Frame.{Frame, parts_of, placed, first_set, second_set, join_if, join_of, labels_in, given_of, patch_line, FrameRead, refused_at, accepted, finish_by, finish, read_frame}
use Rattle.frame.specs.Text.{Sound}
use Rattle.frame_laws.specs.Patches.{AllPass}
use Rattle.frame_laws.proofs.Patches.{whole_text, passed_sound}
use Rattle.frame_laws.proofs.Labels.{sound_known}
use Rattle.frame_agreement.specs.Reordering.{renumbered, SameLabels, EndAlike, TextsEndAlike}

-- ---- the sets

-- labels with other numbers, as the join has them
set_renamed : {n : ℕ} (s : Shuffle n) (ls : List LabelLine) → map placed (map (renumbered s) ls) ≡ map (renamed s.to) (map placed ls)
set_renamed s [] = refl
set_renamed s (l ∷ ls) = ap (λ (r : List Placed). renamed s.to (placed l) ∷ r) (set_renamed s ls)

module _ (f f' : Frame) (same : SameLabels f f') where
  abbrev count : ℕ
  count = length (parts_of f).corners

  abbrev to : ℕ → ℕ
  to = same.pairs.to

  first_renamed : first_set (parts_of f') ≡ map (renamed to) (first_set (parts_of f))
  first_renamed = ap (map placed) same.first_set_holds ∙ set_renamed same.pairs (parts_of f).labels

  second_renamed : second_set (parts_of f') ≡ map (renamed to) (second_set (parts_of f))
  second_renamed = ap (map placed) same.second_set_holds ∙ set_renamed same.pairs (parts_of f).second

  module _ (first-sound : All (Sound count) (parts_of f).labels) (second-sound : All (Sound count) (parts_of f).second) where
    join_if_renamed : (t : Bool)
        → join_if t (map (renamed to) (first_set (parts_of f))) (map (renamed to) (second_set (parts_of f))) ≡ join_renamed to (join_if t (first_set (parts_of f)) (second_set (parts_of f)))
    unfolding join_renamed
    join_if_renamed false = refl
    join_if_renamed true =
        joined_renamed to (first_set (parts_of f)) (second_set (parts_of f))
        (λ a b m n e. to_one same.pairs a.corner b.corner (sound_known count (parts_of f).labels first-sound a m)
        (sound_known count (parts_of f).second second-sound b n) e)

    pub join_renamed_lem : join_of (parts_of f') ≡ join_renamed to (join_of (parts_of f))
    unfolding join_of
    join_renamed_lem =
        (λ t. join_if (same.patched t) (first_renamed t) (second_renamed t)) ∙ join_if_renamed (parts_of f).patched

    labels_renamed : (j : Joined) → labels_in (join_renamed to j) ≡ map (renamed to) (labels_in j)
    unfolding join_renamed
    labels_renamed apart = refl
    labels_renamed clash = refl
    labels_renamed off = refl
    labels_renamed (union_of u) = refl

    pub given_renamed : given_of (parts_of f') ≡ map (renamed to) (given_of (parts_of f))
    unfolding given_of
    given_renamed = ap labels_in join_renamed_lem ∙ labels_renamed (join_of (parts_of f))

    -- ---- refused alike

    patch_alike : patch_line (parts_of f') ≡ patch_line (parts_of f)
    patch_alike = omega (arith, same.count, ap length same.first_set_holds, length-map (parts_of f).labels (renumbered same.pairs))

    -- two ends: the same refusal, or both accepted
    record EndsAs (a b : FrameRead) : Type 0 where
      refused : (r : Refusal) (n : ℕ) → a ≡ refused_at r n ↔ b ≡ refused_at r n
      whole : a ≡ accepted f ↔ b ≡ accepted f'

    both_refused : (r : Refusal) → EndsAs (refused_at r (patch_line (parts_of f))) (refused_at r (patch_line (parts_of f')))
    both_refused r =
        let e : refused_at r (patch_line (parts_of f')) ≡ refused_at r (patch_line (parts_of f)) = ap (refused_at r) patch_alike in
        record {
          refused = λ q n. (λ h. e ∙ h, λ h. sym e ∙ h);
          whole = (λ h. absurd (let z : ◌≡◌ {A = ℕ} 0 1 = cc in omega arith), λ h. absurd (let z : ◌≡◌ {A = ℕ} 0 1 = cc in omega arith));
        }

    ends_as : (j : Joined) → EndsAs (finish_by j f) (finish_by (join_renamed to j) f')
    unfolding join_renamed
    ends_as apart = both_refused Refusal.NoSharedCorner
    ends_as clash = both_refused Refusal.PatchesClash
    ends_as off = both_refused Refusal.OffSheet
    ends_as (union_of u) =
        record {
          refused = λ q n. (λ h. absurd (let z : ◌≡◌ {A = ℕ} 0 1 = cc in omega arith), λ h. absurd (let z : ◌≡◌ {A = ℕ} 0 1 = cc in omega arith));
          whole = (λ h. refl, λ h. refl);
        }

    finish_alike : EndsAs (finish f) (finish f')
    unfolding finish
    finish_alike = subst (λ (j : Joined). EndsAs (finish_by (join_of (parts_of f)) f) (finish_by j f')) (sym join_renamed_lem) (ends_as (join_of (parts_of f)))

pub texts_end_alike : TextsEndAlike
texts_end_alike text text' f f' a a' same =
    let s = passed_sound text a.passed a.ends in
    let w = finish_alike f f' same s.0 s.1 in
    let e = whole_text text a.bytes a.passed a.ends in
    let e' = whole_text text' a'.bytes a'.passed a'.ends in
    record {
      refused_alike = λ r n. (λ h. e' ∙ (w.refused r n).0 (sym e ∙ h), λ h. e ∙ (w.refused r n).1 (sym e' ∙ h));
      accepted_alike = (λ h. e' ∙ w.whole.0 (sym e ∙ h), λ h. e ∙ w.whole.1 (sym e' ∙ h));
    }
