-- Cells that wait to be tried, for all passes: they stay unlabelled until their own turn; and a corner that trying such a cell finds may be
-- attached there. Assumes nothing.
use Rattle.std.specs.Prelude.{Option, Some, None, Ok}
use mathlib.Core.Path.{◌≡◌, refl, sym, ap, ◌∙◌}
use mathlib.Core.Bool.{Bool, true, false, not, ◌&&◌, cond}
use mathlib.Core.List.Memᴰ
use mathlib.Core.List.{List, [], ◌∷◌, ◌++◌, append-nil, Memᴰ}
use mathlib.Core.Logic.{⊎_elim}
use Prim.Native.Nat.{ℕ, zero, suc, ◌<◌, ◌≤◌}
use native.Mathlib.Omega.{arith}
use Rattle.sheet.specs.Cells.{place_of, cell_of}
use Rattle.sheet.specs.Words.{label_at, attached}
use Rattle.sheet.specs.Corners.{Corners, seen_of}
use Rattle.sheet.specs.declared.Cell.{Cell}
use Rattle.sheet.specs.declared.Position.{Position}
use Rattle.sheet.proofs.Laws.{cell_on_lem, place_cell}
use Rattle.sheet.proofs.Words.{attached_changes, label_else}
use Rattle.labels.specs.Labelled.{passing, names_corner, SameLabels}
use Rattle.labels.proofs.Below.{no_both, both, passing_in}
use Rattle.positions_policy.specs.declared.Tolerances.{Tolerances}
use Rattle.positions_policy.proofs.Laws.{passes_exactly}
use Rattle.extension_common.specs.TryCell.{try_at}
use Rattle.extension_common.specs.declared.Search.{Search}
use Rattle.extension_common.proofs.Laws.{attachable}
use Rattle.passes.specs.Fill.{cells_of}
use Rattle.passes.specs.History.{Attaches}
use Rattle.invariants.specs.Kept.{Sound, Once}
use Rattle.invariants.proofs.Extended.{once_append, same_label_at, attaching}

-- places on the sheet whose cells are unlabelled, each listed once
pub record Waiting (sheet ps : List ℕ) : Type 0 where
  pub on : (p : ℕ) → Memᴰ p ps → p < 16384
  pub bare : (p : ℕ) → Memᴰ p ps → label_at sheet (cell_of p) ≡ None
  pub once : Once ps

pub waiting_none : (sheet : List ℕ) → Waiting sheet []
waiting_none sheet = record { on = λ p m. absurd (Memᴰ.not-nil m); bare = λ p m. absurd (Memᴰ.not-nil m); once = tt }

-- a label that names no corner
pub unnamed : (l : Option ℕ) → not (names_corner l) ≡ true → l ≡ None
unfolding names_corner
unnamed None h = refl
unnamed (Some k) h = absurd (no_both false h refl)

-- the cells of a round, listed at its start
once_passing : (f : ℕ → Bool) (n : ℕ) → Once (passing f n)
unfolding passing
once_passing f zero = tt
once_passing f (suc n) = go (f n) (once_passing f n)
  where
    go : (t : Bool) → Once (passing f n) → Once (passing f n ++ cond t (n ∷ []) [])
    go true w =
        once_append (passing f n) (n ∷ []) w (Memᴰ.not-nil, tt)
        (λ p a b. let h = (passing_in f n p a).0 in let e : p ≡ n = Memᴰ.eq_of_singleton b in omega arith)
    go false w = rw append-nil w

pub cells_wait : (region : Cell → Bool) (sheet : List ℕ) → Waiting sheet (cells_of region (λ c. names_corner (label_at sheet c)))
unfolding cells_of
cells_wait region sheet =
    record {
      on = λ p m. (passing_in chosen 16384 p m).0;
      bare = λ p m. unnamed (label_at sheet (cell_of p)) (both (region (cell_of p)) _ (passing_in chosen 16384 p m).1).1;
      once = once_passing chosen 16384;
    }
  where
    chosen : ℕ → Bool
    chosen p = region (cell_of p) && not (names_corner (label_at sheet (cell_of p)))

-- one more at the end
pub waiting_more : {sheet ps : List ℕ} {p : ℕ} → Waiting sheet ps → p < 16384 → label_at sheet (cell_of p) ≡ None → (Memᴰ p ps → ⊥) → Waiting sheet (ps ++ (p ∷ []))
waiting_more {sheet} {ps} {p} w h b fresh =
    record {
      on = λ q m. ⊎_elim (w.on q) (λ n. let e : q ≡ p = Memᴰ.eq_of_singleton n in rw e h) (Memᴰ.append_cases ps m);
      bare = λ q m. ⊎_elim (w.bare q) (λ n. let e : q ≡ p = Memᴰ.eq_of_singleton n in rw e b) (Memᴰ.append_cases ps m);
      once = once_append ps (p ∷ []) w.once (Memᴰ.not-nil, tt) (λ q m n. fresh (let e : q ≡ p = Memᴰ.eq_of_singleton n in rw e at m));
    }

-- they wait still where no label was changed
pub waiting_same : {sheet after ps : List ℕ} → Waiting sheet ps → SameLabels sheet after → Waiting after ps
waiting_same w same = record { on = w.on; bare = λ q m. same_label_at same (cell_of q) ∙ w.bare q m; once = w.once }

module _ {sheet ps : List ℕ} {p : ℕ} (w : Waiting sheet (p ∷ ps)) where
  -- the first of them
  pub first_on : p < 16384
  first_on = w.on p (Memᴰ.head refl)

  pub first_bare : label_at sheet (cell_of p) ≡ None
  first_bare = w.bare p (Memᴰ.head refl)

  -- the others, without it
  pub others_wait : Waiting sheet ps
  others_wait = record { on = λ q m. w.on q (Memᴰ.tail m); bare = λ q m. w.bare q (Memᴰ.tail m); once = w.once.1 }

  -- they wait still where no label was changed
  pub waiting_marked : {after : List ℕ} → SameLabels sheet after → Waiting after ps
  waiting_marked same = waiting_same others_wait same

  -- and where a corner was attached to the first
  pub waiting_attached : {cs : Corners} {tol : Tolerances} {k : ℕ} → Sound cs.count sheet → cs.count ≤ 1024 → Attaches cs tol sheet p k → Waiting (attached sheet (cell_of p) k) ps
  waiting_attached {k = k} s few a =
      record {
        on = λ q m. w.on q (Memᴰ.tail m);
        bare = λ q m.
            label_else (attached_changes sheet (cell_of p) s.long (cell_on_lem p first_on) k (attaching s few a).corner_fits) (cell_on_lem p first_on) (cell_of q) (apart q m)
            ∙ w.bare q (Memᴰ.tail m);
        once = w.once.1;
      }
    where
      apart : (q : ℕ) → Memᴰ q ps → cell_of q ≡ cell_of p → ⊥
      apart q m e =
          let d : q ≡ p = sym (place_cell q (w.on q (Memᴰ.tail m))) ∙ ap place_of e ∙ place_cell p first_on in
          w.once.0 (rw d at m)

  -- a corner that trying the first finds may be attached there
  pub found_attaches : (cs : Corners) (tol : Tolerances) (search : Search) (at : Position) (k : ℕ) → try_at cs sheet tol search (cell_of p) at ≡ Ok k → Attaches cs tol sheet p k
  found_attaches cs tol search at k e =
      let a = attachable cs sheet tol search (cell_of p) at k e in
      record {
        on = first_on;
        bare = first_bare;
        given = a.given;
        free = a.free;
        taken = a.taken;
        edge = (passes_exactly (seen_of cs.corner sheet) tol (cell_of p) (cs.corner k)).0 a.edges;
      }
