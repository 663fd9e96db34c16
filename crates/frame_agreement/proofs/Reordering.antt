-- Two accepted frames that differ only in the order of their corner lines are a reordering, so every list of calls from them, relisted for the second,
-- the frames' own passes among them, runs alike. Assumes nothing.
use mathlib.Core.Path.{◌≡◌, refl, sym, ap, ◌∙◌, subst}
use mathlib.Core.List.{List, [], ◌∷◌, map, Memᴰ}
use Prim.Native.Nat.{ℕ, ◌<◌, ◌≤◌}
use native.Mathlib.Omega.{arith}
use lib.Ieee.{Float, nan}
use lib.ListN.{length, get_or, length-set, length-map}
use Rattle.sheet.specs.Words.{empty_sheet, attached}
use Rattle.sheet.proofs.Corners.{listed_corner}
use Rattle.sheet.specs.Pairing.{Shuffle, PairedCorners, PairedSheets}
use Rattle.sheet.proofs.Words.{empty_length}
use Rattle.sheet.proofs.Pairing.{paired_attached, paired_empty}
use Rattle.arguments.specs.Shades.{PairedShades}
use Rattle.agreement.specs.Agreement.{Reordered, RelistedCall, Relisted, no_call, relisted}
use Rattle.agreement.proofs.Run.{agreement}
use Rattle.join.specs.Rule.{Placed, All, renamed}
use Rattle.join.specs.Sheets.{labelled, Holdable}
use Rattle.frame_line.specs.Lines.{CornerLine, PassLine}
use Rattle.frame.specs.Frame.{Frame, RoledPass, parts_of, given_of}
use Rattle.frame.specs.Text.{WithinLimits}
use Rattle.frame.specs.ReadFrame.{float_of, xs_of, ys_of, pitches_of, shades_of, sheet_of, settings_in, settings_of}
use Rattle.frame_laws.specs.Calls.{frame_corners, call_of, calls_of}
use Rattle.frame_laws.proofs.Parts.{get_d_map, labels_sound}
use Rattle.frame_laws.proofs.Labels.{given_holdable, given_known}
use Rattle.frame_laws.proofs.Back.{frame_prints_back}
use Rattle.frame_laws.proofs.Shades.{shades_long}
use Rattle.frame_laws.proofs.Runs.{frame_standing}
use Rattle.frame_agreement.specs.Reordering.{SameButOrder, same_labels, RunAlike, FramesRunAlike}
use Rattle.frame_agreement.proofs.Shades.{same_byte}
use Rattle.frame_agreement.proofs.Patches.{given_renamed}

-- ---- the sheets of the given labels

attached_length : (sheet : List ℕ) (l : Placed) → length (attached sheet l.cell l.corner) ≡ length sheet
unfolding attached
attached_length sheet l = length-set sheet _ _

module _ {n : ℕ} (s : Shuffle n) (few : n ≤ 1024) where
  labelled_paired : (ls : List Placed) (sheet sheet' : List ℕ) → 16384 ≤ length sheet → All Holdable ls → ((l : Placed) → Memᴰ l ls → l.corner < n)
      → PairedSheets s sheet sheet' → PairedSheets s (labelled sheet ls) (labelled sheet' (map (renamed s.to) ls))
  unfolding labelled
  labelled_paired [] sheet sheet' long on known p = p
  labelled_paired (l ∷ ls) sheet sheet' long on known p =
      let k = l.corner in
      let below : k < n = known l (Memᴰ.head refl) in
      let there = s.to_in k below in
      labelled_paired ls (attached sheet l.cell k) (attached sheet' l.cell (s.to k)) (omega (arith, attached_length sheet l)) on.1
      (λ m i. known m (Memᴰ.tail i))
      (paired_attached p l.cell long on.0.on k (omega arith) (omega arith))

-- ---- the frames

module _ (f f' : Frame) (w : WithinLimits f) (same : SameButOrder f f') where
  same_length : length (xs_of f) ≡ length (parts_of f).corners
  unfolding xs_of
  same_length = length-map (parts_of f).corners (λ c. float_of c.x)

  -- the pairing, of as many numbers as there are xs
  pairs : Shuffle (length (xs_of f))
  pairs =
      let s = same.pairs in
      let in_xs : (k : ℕ) → k < length (parts_of f).corners → k < length (xs_of f) = λ k h. omega (arith, same_length) in
      let in_lines : (k : ℕ) → k < length (xs_of f) → k < length (parts_of f).corners = λ k h. omega (arith, same_length) in
      record {
        to = s.to;
        from = s.from;
        to_in = λ i h. in_xs (s.to i) (s.to_in i (in_lines i h));
        from_in = λ j h. in_xs (s.from j) (s.from_in j (in_lines j h));
        from_to_holds = λ i h. s.from_to_holds i (in_lines i h);
        to_from = λ j h. s.to_from j (in_lines j h);
      }

  -- the same part of paired lines
  part : (g : CornerLine → Float) (i : ℕ) → i < length (parts_of f).corners → get_or (map g (parts_of f').corners) (same.pairs.to i) nan ≡ get_or (map g (parts_of f).corners) i nan
  part g i h =
      get_d_map g (parts_of f').corners (same.pairs.to i) _ nan (subst (λ (n : ℕ). same.pairs.to i < n) (sym same.count) (same.pairs.to_in i h))
      ∙ ap g (same.same_line i h) ∙ sym (get_d_map g (parts_of f).corners i _ nan h)

  as_long : (g : CornerLine → Float) → length (map g (parts_of f').corners) ≡ length (map g (parts_of f).corners)
  as_long g = length-map (parts_of f').corners g ∙ same.count ∙ sym (length-map (parts_of f).corners g)

  corners_paired : PairedCorners (frame_corners f) (frame_corners f')
  unfolding xs_of ys_of pitches_of pairs
  corners_paired =
      record {
        same_xs = as_long (λ c. float_of c.x);
        same_ys = as_long (λ c. float_of c.y);
        same_pitches = as_long (λ c. float_of c.pitch);
        pairs = pairs;
        same_corner_holds =
            λ i h.
            let k : i < length (parts_of f).corners = omega (arith, same_length) in
            listed_corner (frame_corners f') (pairs.to i) (subst (λ (n : ℕ). pairs.to i < n) (sym (as_long (λ c. float_of c.x))) (pairs.to_in i h))
            ∙ (λ t. record { position = record { x = part (λ c. float_of c.x) i k t; y = part (λ c. float_of c.y) i k t }; pitch = part (λ c. float_of c.pitch) i k t })
            ∙ sym (listed_corner (frame_corners f) i h);
      }

  sheets_paired : PairedSheets pairs (sheet_of f) (sheet_of f')
  unfolding sheet_of pairs
  sheets_paired =
      let sound = labels_sound f w in
      subst (λ (ls : List Placed). PairedSheets pairs (labelled empty_sheet (given_of (parts_of f))) (labelled empty_sheet ls))
      (sym (given_renamed f f' (same_labels same) sound.0 sound.1))
      (labelled_paired pairs (omega (arith, same_length, w.corners)) (given_of (parts_of f)) empty_sheet empty_sheet (omega (arith, empty_length)) (given_holdable f w)
      (λ l m. omega (arith, same_length, given_known f w l m)) (paired_empty pairs))

  pub frames_reordered : Reordered (frame_corners f) (frame_corners f') (sheet_of f) (sheet_of f')
  unfolding corners_paired
  frames_reordered = record { corners = corners_paired; labels = sheets_paired; standing = frame_standing f w }

  -- ---- the frames' own passes

  settings_same : settings_of f' ≡ settings_of f
  unfolding settings_of
  settings_same = ap settings_in same.opening

  shades_paired : PairedShades pairs (shades_of f) (shades_of f')
  unfolding pairs
  shades_paired =
      record {
        same_length = shades_long f' ∙ same.count ∙ sym (shades_long f);
        same_shade = λ long i h. same_byte _ _ (same.shades i (omega (arith, same_length)));
      }

  call_relisted : (p : PassLine) → RelistedCall pairs (call_of f p) (call_of f' p)
  call_relisted p = record { same_pass = refl; same_settings = settings_same; same_rooms = refl; same_box = refl; shades = shades_paired }

  calls_relisted : Relisted pairs (calls_of f) (calls_of f')
  unfolding calls_of
  calls_relisted =
      subst (λ (qs : List RoledPass). Relisted pairs (map (λ q. call_of f q.pass) (parts_of f).passes) (map (λ q. call_of f' q.pass) qs)) (sym same.passes)
      (each (parts_of f).passes)
    where
      each : (qs : List RoledPass) → Relisted pairs (map (λ q. call_of f q.pass) qs) (map (λ q. call_of f' q.pass) qs)
      each [] = no_call
      each (q ∷ qs) = relisted (call_relisted q.pass) (each qs)

  -- ---- the claim

  pub limits_alike : RunAlike f f' same
  unfolding frames_reordered corners_paired pairs
  limits_alike =
      let holds = agreement (frame_corners f) (frame_corners f') (sheet_of f) (sheet_of f') frames_reordered in
      record {
        reordered = frames_reordered;
        paired_to = λ k. refl;
        paired_from = λ k. refl;
        any_list = holds;
        relisted_call = call_relisted;
        relisted_calls = calls_relisted;
        own_list = (holds (calls_of f) (calls_of f') calls_relisted).agree;
      }

pub frames_run_alike : FramesRunAlike
frames_run_alike text text' f f' e e' same = limits_alike f f' (frame_prints_back text f e).within same
