-- Laws of a pass's history, and of several passes one after the other: labels that stood are kept, the sheet still belongs to the corners, the
-- labelled cells are those before and the new ones, and each new corner had, when it was attached, an accepted edge to a labelled cardinal
-- neighbour, or no such neighbour; histories join. Assumes nothing.
use mathlib.Core.Path.{◌≡◌, refl, sym, subst}
use mathlib.Core.List.{List, [], ◌∷◌, ◌++◌, append-nil, append_assoc}
use Prim.Native.Nat.{ℕ, ◌+◌, ◌-◌, ◌<◌, ◌≤◌}
use native.Mathlib.Nat.{not-suc-le-zero}
use native.Mathlib.Decide.{dec_lt}
use native.Mathlib.Omega.{arith}
use lib.ListN.{length, length-append, get_or-append}
use lib.Seq.{take-append-le, take-append_seam, take-append-add, get_or-append_seam, get_or-append-add}
use Rattle.sheet.specs.Corners.{Corners, CornerLists}
use Rattle.sheet.specs.Cells.{cell_of}
use Rattle.sheet.specs.Words.{attached}
use Rattle.positions_policy.specs.declared.Tolerances.{Tolerances}
use Rattle.arguments.specs.Shades.{corners_of}
use Rattle.passes.specs.History.{History, begun, marked, attaches}
use Rattle.invariants.specs.Kept.{Sound, Kept, Extended, Attachment, AttachedAt, Histories, before, pass, AttachedInTurn}
use Rattle.invariants.proofs.Extended.{extended_marked, extended_attached, extended_then, attached_label}

-- ---- a corner attached

-- the cell holds it still when more follows
still_holds : {cs : Corners} {tol : Tolerances} {first earlier sheet last after : List ℕ} {p : ℕ} → Kept last after → Attachment cs tol first earlier sheet last p
    → Attachment cs tol first earlier sheet after p
still_holds {p = p} k w = record { corner = w.corner; labels = w.labels; attaches = w.attaches; holds = k.kept (cell_of p) w.corner w.holds }

-- the labels at that time, counted from an earlier sheet on
from_earlier : {cs : Corners} {tol : Tolerances} {first prior mid earlier sheet last : List ℕ} {p : ℕ} → Extended cs.count first prior mid → Attachment cs tol mid earlier sheet last p
    → Attachment cs tol first (prior ++ earlier) sheet last p
from_earlier x w = record { corner = w.corner; labels = extended_then x w.labels; attaches = w.attaches; holds = w.holds }

-- ---- a history

module _ {cs : Corners} {tol : Tolerances} {first : List ℕ} (few : cs.count ≤ 1024) (s : Sound cs.count first) where
  pub history_extended : {made last : List ℕ} → History cs tol first made last → Extended cs.count first made last
  history_extended begun = extended_marked s refl (record { same_label = λ p h. refl })
  history_extended (marked {made} {last} {last'} h e same) =
      let x = history_extended h in
      subst (λ (l : List ℕ). Extended cs.count first l last') (append-nil made) (extended_then x (extended_marked x.sound e same))
  history_extended (attaches p k h a) = let x = history_extended h in extended_then x (extended_attached x.sound few a)

  -- the n-th new cell stays as it was when more follows
  later : {made last : List ℕ} (more : List ℕ) {after : List ℕ} (n : ℕ) → n < length made → Kept last after → AttachedAt cs tol first made last n → AttachedAt cs tol first (made ++ more) after n
  later {made} more n h k w =
      record {
        sheet = w.sheet;
        reached = rw (take-append-le n made more (omega arith)) w.reached;
        attachment = rw (take-append-le n made more (omega arith), get_or-append made more 0 n h) (still_holds k w.attachment);
      }

  -- each new corner had an accepted edge to a labelled cardinal neighbour, or no such neighbour, when it was attached
  pub attached_at : {made last : List ℕ} → History cs tol first made last → (n : ℕ) → n < length made → AttachedAt cs tol first made last n
  attached_at begun n h = absurd (not-suc-le-zero h)
  attached_at (marked {made} {last} {last'} h e same) n l =
      let x = history_extended h in
      subst (λ (m : List ℕ). AttachedAt cs tol first m last' n) (append-nil made) (later [] n l (extended_marked x.sound e same).kept (attached_at h n l))
  attached_at (attaches {made} {last} p k h a) n l = go (λ m. attached_at h n m) (dec_lt n (length made))
    where
      x : Extended cs.count first made last
      x = history_extended h

      go : (n < length made → AttachedAt cs tol first made last n) → Dec (n < length made) → AttachedAt cs tol first (made ++ (p ∷ [])) (attached last (cell_of p) k) n
      go w (yes d) = later (p ∷ []) n d (extended_attached x.sound few a).kept (w d)
      go w (no d) =
          let e : n ≡ length made = omega (arith, length-append made (p ∷ [])) in
          record {
            sheet = last;
            reached = rw (e, take-append_seam made (p ∷ [])) h;
            attachment =
                rw (e, take-append_seam made (p ∷ []), get_or-append_seam made p [] 0)
                (record { corner = k; labels = x; attaches = a; holds = attached_label x.sound few a });
          }

-- two histories with the same tolerances join
pub history_then : {cs : Corners} {tol : Tolerances} {first made mid more last : List ℕ} → History cs tol first made mid → History cs tol mid more last → History cs tol first (made ++ more) last
history_then {made} h begun = rw (append-nil made) h
history_then h (marked g e same) = marked (history_then h g) e same
history_then {made} h (attaches {made = more} p k g a) = rw (sym (append_assoc made more (p ∷ []))) (attaches p k (history_then h g) a)

-- ---- several passes

module _ {l : CornerLists} {first : List ℕ} (few : length l.xs ≤ 1024) (s : Sound (length l.xs) first) where
  pub histories_extended : {made last : List ℕ} → Histories l first made last → Extended (length l.xs) first made last
  histories_extended before = extended_marked s refl (record { same_label = λ p h. refl })
  histories_extended (pass shades tol hs h) = let x = histories_extended hs in extended_then x (history_extended few x.sound h)

  -- each of all new corners had an accepted edge to a labelled cardinal neighbour, or no such neighbour, when it was attached
  pub attached_in_turn : {made last : List ℕ} → Histories l first made last → (n : ℕ) → n < length made → AttachedInTurn l first made last n
  attached_in_turn before n below = absurd (not-suc-le-zero below)
  attached_in_turn (pass {made} {last} {more} {after} shades tol hs h) n below = go (λ m. attached_in_turn hs n m) (dec_lt n (length made))
    where
      x : Extended (length l.xs) first made last
      x = histories_extended hs

      -- one of an earlier pass, or the m-th of this one
      earlier : n < length made → AttachedInTurn l first made last n → AttachedInTurn l first (made ++ more) after n
      earlier d w =
          record {
            shades = w.shades;
            tol = w.tol;
            sheet = w.sheet;
            reached = rw (take-append-le n made more (omega arith)) w.reached;
            attachment = rw (take-append-le n made more (omega arith), get_or-append made more 0 n d) (still_holds (history_extended few x.sound h).kept w.attachment);
          }

      here : (m : ℕ) → n ≡ length made + m → AttachedAt (corners_of l shades) tol last more after m → AttachedInTurn l first (made ++ more) after n
      here m e w =
          record {
            shades = shades;
            tol = tol;
            sheet = w.sheet;
            reached = rw (e, take-append-add made more m) (pass shades tol hs w.reached);
            attachment = rw (e, take-append-add made more m, get_or-append-add made more m 0) (from_earlier x w.attachment);
          }

      go : (n < length made → AttachedInTurn l first made last n) → Dec (n < length made) → AttachedInTurn l first (made ++ more) after n
      go w (yes d) = earlier d (w d)
      go w (no d) =
          here (n - length made) (omega arith) (attached_at few x.sound h (n - length made) (omega (arith, length-append made more)))

-- passes after passes
pub histories_then : {l : CornerLists} {first made mid more last : List ℕ} → Histories l first made mid → Histories l mid more last → Histories l first (made ++ more) last
histories_then {made} hs before = rw (append-nil made) hs
histories_then {made} hs (pass {made = more} {more = rest} shades tol gs h) = rw (sym (append_assoc made more rest)) (pass shades tol (histories_then hs gs) h)
