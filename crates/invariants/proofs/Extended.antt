-- What marks and attached corners make of a sheet, one after the other. Assumes nothing.
use Rattle.std.specs.Prelude.{Option, Some, None}
use mathlib.Core.Path.{◌≡◌, refl, sym, ap, ◌∙◌, subst}
use mathlib.Core.Bool.{Bool, true, false, cond}
use mathlib.Core.List.Memᴰ
use mathlib.Core.List.{List, [], ◌∷◌, ◌++◌, Memᴰ}
use mathlib.Core.Logic.{inl, inr, ⊎_elim}
use Prim.Native.Nat.{ℕ, ◌<◌, ◌≤◌}
use native.Mathlib.Decide.{ℕ_discrete}
use native.Mathlib.Omega.{arith}
use lib.Dec.{T}
use lib.ListN.{length, get_or, length-append}
use Rattle.sheet.specs.Corners.{Corners}
use Rattle.sheet.specs.Cells.{on_sheet, place_of, cell_of}
use Rattle.sheet.specs.Words.{label_of, word_at, label_at, hole_at, ambiguous_at, attached}
use Rattle.sheet.specs.declared.Cell.{Cell}
use Rattle.sheet.proofs.Laws.{place_in, cell_on_lem, place_cell}
use Rattle.sheet.proofs.Words.{no_corner_lem, Changed, attached_changes, label_here, label_else}
use Rattle.labels.specs.Labelled.{LabelledCell, Attaching, SameLabels}
use Rattle.labels.proofs.Labelled.{labels_places, same_count, label_after, word_else, labelled_new, labelled_still, labelled_cases, count_attached}
use Rattle.labels.proofs.Used.{one_same, one_attached}
use Rattle.positions_policy.specs.declared.Tolerances.{Tolerances}
use Rattle.arguments.specs.Accepted.{Known}
use Rattle.passes.specs.History.{Attaches}
use Rattle.invariants.specs.Kept.{Sound, Kept, Once, Extended}

-- ---- lists without repeats

pub once_append : (s t : List ℕ) → Once s → Once t → ((p : ℕ) → Memᴰ p s → Memᴰ p t → ⊥) → Once (s ++ t)
once_append [] t a b apart = b
once_append (p ∷ s) t a b apart = (
  λ m. ⊎_elim a.0 (apart p (Memᴰ.head refl)) (Memᴰ.append_cases s m),
  once_append s t a.1 b (λ q m. apart q (Memᴰ.tail m)),
)

-- ---- sheets with the same labels

-- what is equal of the labels place by place is equal cell by cell
pub by_cell : {A : Type 0} (f : Option ℕ → A) (sheet after : List ℕ) → ((p : ℕ) → p < 16384 → f (label_of (get_or after p 0)) ≡ f (label_of (get_or sheet p 0)))
    → (c : Cell) → f (label_at after c) ≡ f (label_at sheet c)
unfolding label_at
by_cell f sheet after same c = go (on_sheet c) refl
  where
    go : (t : Bool) → on_sheet c ≡ t → f (cond t (label_of (word_at after c)) None) ≡ f (cond t (label_of (word_at sheet c)) None)
    go true e = same (place_of c) (place_in c (subst T (sym e) tt))
    go false e = refl

pub same_label_at : {sheet after : List ℕ} → SameLabels sheet after → (c : Cell) → label_at after c ≡ label_at sheet c
same_label_at {sheet} {after} s c = by_cell (λ l. l) sheet after s.same_label c

pub known_same : {n : ℕ} {sheet after : List ℕ} → SameLabels sheet after → Known n sheet → Known n after
known_same s w = record { known = λ p k h e. w.known p k h (sym (s.same_label p h) ∙ e) }

-- a labelled cell is labelled still
pub still_labelled : {first last : List ℕ} → Kept first last → (c : Cell) → LabelledCell first c → LabelledCell last c
still_labelled k c l = record { corner = l.corner; holds = k.kept c l.corner l.holds }

not_bare : {sheet : List ℕ} {c : Cell} → LabelledCell sheet c → label_at sheet c ≡ None → ⊥
not_bare l e = no_corner_lem l.corner (sym e ∙ l.holds)

-- ---- one step

module _ {n : ℕ} {first : List ℕ} (s : Sound n first) where
  -- marks change no label
  pub extended_marked : {last : List ℕ} → length last ≡ length first → SameLabels first last → Extended n first [] last
  extended_marked {last} e same =
      record {
        same_length = e;
        sound = record { long = rw e s.long; known = known_same same s.known; one_cell = one_same same s.one_cell };
        kept = record { kept = λ c k l. same_label_at same c ∙ l };
        labelled =
            λ p h. (
              λ l. inl (record { corner = l.corner; holds = sym (same_label_at same (cell_of p)) ∙ l.holds }),
              λ d. ⊎_elim (λ l. record { corner = l.corner; holds = same_label_at same (cell_of p) ∙ l.holds }) (λ m. absurd (Memᴰ.not-nil m)) d,
            );
        on = λ p m. absurd (Memᴰ.not-nil m);
        bare = λ p m. absurd (Memᴰ.not-nil m);
        once = tt;
        count = same_count first last (labels_places same) ∙ omega arith;
      }

module _ {cs : Corners} {first : List ℕ} (s : Sound cs.count first) where
  module _ {tol : Tolerances} (few : cs.count ≤ 1024) {p k : ℕ} (a : Attaches cs tol first p k) where
    pub attaching : Attaching first (cell_of p) k
    attaching = record { long = s.long; on = cell_on_lem p a.on; bare = a.bare; corner_fits = omega (arith, a.given) }

    changed : Changed first (attached first (cell_of p) k) (cell_of p) (record { label = Some k; hole = hole_at first (cell_of p); ambiguous = ambiguous_at first (cell_of p) })
    changed = attached_changes first (cell_of p) s.long (cell_on_lem p a.on) k attaching.corner_fits

    pub attached_label : label_at (attached first (cell_of p) k) (cell_of p) ≡ Some k
    attached_label = label_here changed (cell_on_lem p a.on)

    new_label : label_of (get_or (attached first (cell_of p) k) p 0) ≡ Some k
    new_label = ap (λ (q : ℕ). label_of (get_or (attached first (cell_of p) k) q 0)) (sym (place_cell p a.on)) ∙ label_after attaching

    other_word : (q : ℕ) → (q ≡ p → ⊥) → get_or (attached first (cell_of p) k) q 0 ≡ get_or first q 0
    other_word q d = word_else attaching q (λ e. d (e ∙ place_cell p a.on))

    known_attached : Known cs.count (attached first (cell_of p) k)
    known_attached = record { known = λ q j h e. go q j h e (ℕ_discrete q p) }
      where
        go : (q j : ℕ) → q < 16384 → label_of (get_or (attached first (cell_of p) k) q 0) ≡ Some j → Dec (q ≡ p) → j < cs.count
        go q j h e (yes d) =
            let f : Some k ≡ Some j = sym new_label ∙ ap (λ (r : ℕ). label_of (get_or (attached first (cell_of p) k) r 0)) (sym d) ∙ e in
            let g : k ≡ j = cc in
            omega (arith, a.given)
        go q j h e (no d) = s.known.known q j h (ap label_of (sym (other_word q d)) ∙ e)

    kept_attached : Kept first (attached first (cell_of p) k)
    kept_attached = record { kept = λ c j e. label_else changed (cell_on_lem p a.on) c (ne c j e) ∙ e }
      where
        ne : (c : Cell) (j : ℕ) → label_at first c ≡ Some j → c ≡ cell_of p → ⊥
        ne c j e d = no_corner_lem j (sym a.bare ∙ ap (label_at first) (sym d) ∙ e)

    -- one more label
    pub extended_attached : Extended cs.count first (p ∷ []) (attached first (cell_of p) k)
    extended_attached =
        record {
          same_length = changed.same_length;
          sound = record { long = rw changed.same_length s.long; known = known_attached; one_cell = one_attached attaching a.free s.one_cell };
          kept = kept_attached;
          labelled = λ q h. (
            λ l. ⊎_elim (λ e. inr (Memᴰ.head (sym (place_cell q h) ∙ ap place_of e ∙ place_cell p a.on))) inl (labelled_cases attaching (cell_of q) l),
            λ d. ⊎_elim (labelled_still attaching (cell_of q)) (λ m. let e : q ≡ p = Memᴰ.eq_of_singleton m in rw e (labelled_new attaching)) d,
          );
          on = λ q m. let e : q ≡ p = Memᴰ.eq_of_singleton m in rw e a.on;
          bare = λ q m. let e : q ≡ p = Memᴰ.eq_of_singleton m in rw e a.bare;
          once = (Memᴰ.not-nil, tt);
          count = count_attached attaching;
        }

-- ---- one after the other

pub extended_then : {n : ℕ} {first made mid more last : List ℕ} → Extended n first made mid → Extended n mid more last → Extended n first (made ++ more) last
extended_then {n} {first} {made} {mid} {more} {last} e f =
    record {
      same_length = f.same_length ∙ e.same_length;
      sound = f.sound;
      kept = record { kept = λ c k l. f.kept.kept c k (e.kept.kept c k l) };
      labelled = λ p h. (
        λ l. ⊎_elim (λ m. ⊎_elim inl (λ a. inr (Memᴰ.append_left more a)) ((e.labelled p h).0 m)) (λ b. inr (Memᴰ.append_right made b)) ((f.labelled p h).0 l),
        λ d.
            ⊎_elim (λ l. still_labelled f.kept (cell_of p) (still_labelled e.kept (cell_of p) l))
            (λ m. ⊎_elim (λ a. (f.labelled p h).1 (inl ((e.labelled p h).1 (inr a)))) (λ b. (f.labelled p h).1 (inr b)) (Memᴰ.append_cases made m)) d,
      );
      on = λ p m. ⊎_elim (e.on p) (f.on p) (Memᴰ.append_cases made m);
      bare = λ p m. ⊎_elim (e.bare p) (λ b. bare_before p (f.on p b) (f.bare p b) (label_at first (cell_of p)) refl) (Memᴰ.append_cases made m);
      once = once_append made more e.once f.once (λ p a b. not_bare ((e.labelled p (e.on p a)).1 (inr a)) (f.bare p b));
      count = f.count ∙ omega (arith, e.count, length-append made more);
    }
  where
    -- a cell that is unlabelled later was so before
    bare_before : (p : ℕ) → p < 16384 → label_at mid (cell_of p) ≡ None → (l : Option ℕ) → label_at first (cell_of p) ≡ l → l ≡ None
    bare_before p h b None q = refl
    bare_before p h b (Some k) q = absurd (no_corner_lem k (sym b ∙ e.kept.kept (cell_of p) k q))
