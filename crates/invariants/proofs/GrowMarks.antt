-- Grow and the marks, cell by cell: what it found at each visited cell set that cell's mark and is counted, its new cells are those at which it found
-- a corner, and no other mark changes. Assumes nothing.
use mathlib.Core.Path.{◌≡◌, refl, sym, ap, ◌∙◌}
use mathlib.Core.Bool.{Bool, true, false, cond}
use mathlib.Core.List.Memᴰ
use mathlib.Core.List.{List, [], ◌∷◌, ◌++◌, append-nil, append_assoc, Memᴰ}
use mathlib.Core.Logic.{⊎_elim}
use Prim.Native.Nat.{ℕ, zero, suc, ◌+◌, ◌*◌, ◌<◌, ◌≤◌}
use native.Mathlib.Nat.{not-suc-le-zero}
use native.Mathlib.Decide.{ℕ_discrete, dec_lt}
use native.Mathlib.Numerals.{add-one}
use native.Mathlib.Omega.{arith}
use lib.ListN.{length, get_or, take, length-append, get_or-append}
use lib.Seq.{take-suc, take-append-le, take-length, get_or-append_seam, length-take-le}
use Rattle.sheet.specs.Cells.{place_of, cell_of, moved}
use Rattle.sheet.specs.Words.{bit_of, label_at}
use Rattle.sheet.specs.Corners.{Corners, seen_of}
use Rattle.sheet.specs.declared.Cell.{Cell}
use Rattle.sheet.specs.declared.Offset.{Offset}
use Rattle.sheet.proofs.Laws.{place_cell}
use Rattle.sheet.proofs.Words.{no_corner_lem}
use Rattle.predict.specs.Predict.{prediction_of, extrapolating}
use Rattle.std.specs.Prelude.{Option, Some, None, Ok, Err}
use Rattle.sheet.specs.declared.Position.{Position}
use Rattle.positions_policy.specs.Edge.{cardinal_offsets}
use Rattle.arguments.specs.declared.Settings.{Settings}
use Rattle.arguments.specs.declared.GrowParams.{GrowParams}
use Rattle.extension_common.specs.TryCell.{TryCellResult, try_at}
use Rattle.extension_common.specs.declared.NotAttached.{NotAttached}
use Rattle.passes.specs.Grow.{tolerances_of, GrowState, wanted, enqueued, enqueued_at, spread, start_of, search_of, grow_with, grow_at, grow_visit, grow_from, grow_run}
use Rattle.passes.specs.Changes.{is_attached, is_no_candidate, is_ambiguous, is_edge_refusal, SameMarks, MarksSet, GrowVisit}
use Rattle.passes.specs.declared.Counts.{Counts}
use Rattle.passes.proofs.Changes.{same_marks, marks_then, visits}
use Rattle.passes.proofs.Enough.{Belongs, Going, next_of, next_on, queue_few, start_going, visit_going, from_ended, from_next}
use Rattle.invariants.specs.Marks.{MarksStand, how_many, attached_among, CountsOf, GrowMarks}
use Rattle.invariants.proofs.Marks.{stand_same, stand_then, stand_set, set_after, set_before, cell_dec, found_fits}

-- ---- lists

-- a list that begins as another
record Begins (l m : List ℕ) : Type 0 where
  more : List ℕ
  is : m ≡ l ++ more

begins_same : (l : List ℕ) → Begins l l
begins_same l = record { more = []; is = sym (append-nil l) }

begins_then : {l m n : List ℕ} → Begins l m → Begins m n → Begins l n
begins_then {l} a b = record { more = a.more ++ b.more; is = b.is ∙ ap (λ (x : List ℕ). x ++ b.more) a.is ∙ append_assoc l a.more b.more }

module _ {l m : List ℕ} (b : Begins l m) where
  begins_long : length l ≤ length m
  begins_long = rw (b.is, length-append) (omega arith)

  begins_at : (n : ℕ) → n < length l → get_or m n 0 ≡ get_or l n 0
  begins_at n h = rw b.is (get_or-append l b.more 0 n h)

  begins_take : (n : ℕ) → n ≤ length l → take n m ≡ take n l
  begins_take n h = rw b.is (take-append-le n l b.more h)

-- one finding more
many_more : (f : TryCellResult → Bool) (rs : List TryCellResult) (r : TryCellResult) → how_many f (rs ++ (r ∷ [])) ≡ how_many f rs + bit_of (f r)
unfolding how_many
many_more f [] r = omega arith
many_more f (x ∷ rs) r = omega (arith, many_more f rs r)

among_more : (ps : List ℕ) (rs : List TryCellResult) (p : ℕ) (r : TryCellResult) → length rs ≡ length ps
    → attached_among (ps ++ (p ∷ [])) (rs ++ (r ∷ [])) ≡ cond (is_attached r) (attached_among ps rs ++ (p ∷ [])) (attached_among ps rs)
unfolding attached_among
among_more [] [] p r e = refl
among_more [] (x ∷ rs) p r e = absurd (omega arith)
among_more (q ∷ ps) [] p r e = absurd (omega arith)
among_more (q ∷ ps) (x ∷ rs) p r e = rw (among_more ps rs p r (omega arith)) (go (is_attached x) (is_attached r))
  where
    go : (s t : Bool)
        → cond s (q ∷ cond t (attached_among ps rs ++ (p ∷ [])) (attached_among ps rs)) (cond t (attached_among ps rs ++ (p ∷ [])) (attached_among ps rs))
        ≡ cond t (cond s (q ∷ attached_among ps rs) (attached_among ps rs) ++ (p ∷ [])) (cond s (q ∷ attached_among ps rs) (attached_among ps rs))
    go true true = refl
    go true false = refl
    go false true = refl
    go false false = refl

-- what stands at an index is listed
listed_at : (l : List ℕ) (n : ℕ) → n < length l → Memᴰ (get_or l n 0) l
listed_at [] n h = absurd (not-suc-le-zero h)
listed_at (x ∷ l) zero h = Memᴰ.head refl
listed_at (x ∷ l) (suc n) h = Memᴰ.tail (listed_at l n (omega arith))

-- ---- the queue only grows at its end

enqueued_begins : (sheet : List ℕ) (c : Cell) (queued : List ℕ) → Begins queued (enqueued sheet c queued)
unfolding enqueued
enqueued_begins sheet c queued = go (wanted sheet queued c)
  where
    go : (t : Bool) → Begins queued (cond t (queued ++ (place_of c ∷ [])) queued)
    go true = record { more = place_of c ∷ []; is = refl }
    go false = begins_same queued

at_begins : (sheet : List ℕ) (c : Cell) (os : List Offset) (queued : List ℕ) → Begins queued (enqueued_at sheet c os queued)
unfolding enqueued_at
at_begins sheet c [] queued = begins_same queued
at_begins sheet c (o ∷ os) queued = begins_then (enqueued_begins sheet (moved c o) queued) (at_begins sheet c os (enqueued sheet (moved c o) queued))

with_begins : (c : Cell) (r : TryCellResult) (s : GrowState) → Begins s.queued (grow_with c r s).queued
unfolding grow_with spread
with_begins c (Err NotAttached.NoCandidates) s = begins_same s.queued
with_begins c (Err NotAttached.Ambiguous) s = begins_same s.queued
with_begins c (Err NotAttached.EdgeRejected) s = begins_same s.queued
with_begins c (Ok k) s = at_begins _ c cardinal_offsets s.queued

-- ---- a run under way

-- a run that has visited `head` cells, with what it found at each
record Finding (first : List ℕ) (head : ℕ) (s : GrowState) : Type 0 where
  found : List TryCellResult
  each : length found ≡ head
  kept : (c : Cell) (k : ℕ) → label_at first c ≡ Some k → label_at s.sheet c ≡ Some k
  bare : (n : ℕ) → n < head → label_at first (cell_of (get_or s.queued n 0)) ≡ None
  marked : (n : ℕ) → n < head → MarksSet (get_or found n (Err NotAttached.NoCandidates)) first s.sheet (cell_of (get_or s.queued n 0))
  others : (c : Cell) → ((n : ℕ) → n < head → cell_of (get_or s.queued n 0) ≡ c → ⊥) → SameMarks first s.sheet c
  stand : (c : Cell) → MarksStand first s.sheet c
  attached : attached_among (take head s.queued) found ≡ s.made
  counted : CountsOf found s.counts

finding_start : (first : List ℕ) → Finding first 0 (start_of first)
unfolding start_of attached_among how_many
finding_start first =
    record {
      found = [];
      each = refl;
      kept = λ c k e. e;
      bare = λ n h. absurd (not-suc-le-zero h);
      marked = λ n h. absurd (not-suc-le-zero h);
      others = λ c n. same_marks first c;
      stand = λ c. stand_same (same_marks first c);
      attached = refl;
      counted = record { attached = refl; no_candidate = refl; ambiguous = refl; edge = refl };
    }

module _ {cs : Corners} {first : List ℕ} {head : ℕ} {s : GrowState} (g : Going cs head s) (w : Finding first head s) (left : head < length s.queued) where
  -- its place
  place : ℕ
  place = get_or s.queued head 0

  -- no cell visited before is this one
  apart : (n : ℕ) → n < head → cell_of (get_or s.queued n 0) ≡ next_of s head → ⊥
  apart n h e =
      g.lined.distinct n head h left
      (sym (place_cell _ (g.lined.places n (omega arith))) ∙ ap place_of e ∙ place_cell _ (g.lined.places head left))

  -- it was unlabelled from the first
  next_bare : label_at first (next_of s head) ≡ None
  next_bare = go (label_at first (next_of s head)) refl
    where
      go : (l : Option ℕ) → label_at first (next_of s head) ≡ l → l ≡ None
      go None e = refl
      go (Some k) e = absurd (no_corner_lem k (sym (g.lined.waiting head (omega arith) left) ∙ w.kept (next_of s head) k e))

  -- what is found there, and the state after the visit
  module _ (r : TryCellResult) (after : GrowState) (visit : GrowVisit r (next_of s head) s after) (begins : Begins s.queued after.queued) where
    older : (n : ℕ) → n < length s.queued → cell_of (get_or after.queued n 0) ≡ cell_of (get_or s.queued n 0)
    older n h = ap cell_of (begins_at begins n h)

    -- every other cell is as it was
    other : (c : Cell) → (c ≡ next_of s head → ⊥) → SameMarks s.sheet after.sheet c
    other c ne = (visit.labels.others c ne).marks

    earlier_found : (n : ℕ) → n < head → get_or (w.found ++ (r ∷ [])) n (Err NotAttached.NoCandidates) ≡ get_or w.found n (Err NotAttached.NoCandidates)
    earlier_found n h = get_or-append w.found (r ∷ []) (Err NotAttached.NoCandidates) n (omega (arith, w.each))

    this_found : get_or (w.found ++ (r ∷ [])) head (Err NotAttached.NoCandidates) ≡ r
    this_found = rw (← w.each) (get_or-append_seam w.found r [] (Err NotAttached.NoCandidates))

    kept_with : (c : Cell) (k : ℕ) → label_at first c ≡ Some k → Dec (c ≡ next_of s head) → label_at after.sheet c ≡ Some k
    kept_with c k e (yes d) = absurd (no_corner_lem k (sym next_bare ∙ ap (label_at first) (sym d) ∙ e))
    kept_with c k e (no ne) = (visit.labels.others c ne).label ∙ w.kept c k e

    bare_with : (n : ℕ) → n < head + 1 → Dec (n ≡ head) → label_at first (cell_of (get_or after.queued n 0)) ≡ None
    bare_with n h (yes d) = ap (label_at first) (older n (omega arith) ∙ ap (λ (i : ℕ). cell_of (get_or s.queued i 0)) d) ∙ next_bare
    bare_with n h (no d) = ap (label_at first) (older n (omega arith)) ∙ w.bare n (omega arith)

    marked_with : (n : ℕ) → n < head + 1 → Dec (n ≡ head) → MarksSet (get_or (w.found ++ (r ∷ [])) n (Err NotAttached.NoCandidates)) first after.sheet (cell_of (get_or after.queued n 0))
    marked_with n h (yes d) = rw (older n (omega arith), d, this_found) (set_after (w.others (next_of s head) apart) visit.marks)
    marked_with n h (no d) = rw (older n (omega arith), earlier_found n (omega arith)) (set_before (w.marked n (omega arith)) (other _ (apart n (omega arith))))

    others_with : (c : Cell) → ((n : ℕ) → n < head + 1 → cell_of (get_or after.queued n 0) ≡ c → ⊥) → SameMarks first after.sheet c
    others_with c ne =
        marks_then (w.others c (λ n h e. ne n (omega arith) (older n (omega arith) ∙ e)))
        (other c (λ e. ne head (omega arith) (older head left ∙ sym e)))

    stand_with : (c : Cell) → Dec (c ≡ next_of s head) → MarksStand first after.sheet c
    stand_with c (yes d) = rw d (stand_then (w.stand (next_of s head)) (stand_set visit.marks))
    stand_with c (no ne) = stand_then (w.stand c) (stand_same (other c ne))

    finding_more : Finding first (head + 1) after
    finding_more =
        record {
          found = w.found ++ (r ∷ []);
          each = omega (arith, w.each, length-append w.found (r ∷ []));
          kept = λ c k e. kept_with c k e (cell_dec c (next_of s head));
          bare = λ n h. bare_with n h (ℕ_discrete n head);
          marked = λ n h. marked_with n h (ℕ_discrete n head);
          others = others_with;
          stand = λ c. stand_with c (cell_dec c (next_of s head));
          attached = attached_with;
          counted = record {
            attached = visit.counted.attached ∙ omega (arith, w.counted.attached, many_more is_attached w.found r);
            no_candidate = visit.counted.no_candidate ∙ omega (arith, w.counted.no_candidate, many_more is_no_candidate w.found r);
            ambiguous = visit.counted.ambiguous ∙ omega (arith, w.counted.ambiguous, many_more is_ambiguous w.found r);
            edge = visit.counted.edge ∙ omega (arith, w.counted.edge, many_more is_edge_refusal w.found r);
          };
        }
      where
        attached_with : attached_among (take (head + 1) after.queued) (w.found ++ (r ∷ [])) ≡ after.made
        attached_with =
            let taken : take (head + 1) after.queued ≡ take head s.queued ++ (get_or s.queued head 0 ∷ []) =
            begins_take begins (head + 1) (omega arith) ∙ ap (λ (n : ℕ). take n s.queued) (add-one head) ∙ take-suc s.queued head 0 left in
            let long : length w.found ≡ length (take head s.queued) = w.each ∙ sym (length-take-le head s.queued (omega arith)) in
            ap (λ (l : List ℕ). attached_among l (w.found ++ (r ∷ []))) taken
            ∙ among_more (take head s.queued) w.found (get_or s.queued head 0) r long
            ∙ ap (λ (l : List ℕ). cond (is_attached r) (l ++ (get_or s.queued head 0 ∷ [])) l) w.attached
            ∙ ap (λ (p : ℕ). cond (is_attached r) (s.made ++ (p ∷ [])) s.made) (sym (place_cell _ (g.lined.places head left)))
            ∙ sym visit.made

-- ---- the whole run

module _ (cs : Corners) (set : Settings) (params : GrowParams) {first : List ℕ} where
  finding_with : {head : ℕ} {s : GrowState} → Going cs head s → Finding first head s → head < length s.queued → (r : TryCellResult)
      → ((k : ℕ) → r ≡ Ok k → k < 16383) → Finding first (head + 1) (grow_with (next_of s head) r s)
  finding_with {head} {s} g w left r fits =
      finding_more g w left r (grow_with (next_of s head) r s)
      (visits.grow (next_of s head) r s (record { cell = record { long = g.fit.long; on = next_on g left }; corner_fits = fits }))
      (with_begins (next_of s head) r s)

  finding_visit : {head : ℕ} {s : GrowState} → Going cs head s → Finding first head s → head < length s.queued → Finding first (head + 1) (grow_visit cs set params (next_of s head) s)
  unfolding grow_visit grow_at grow_with
  finding_visit {head} {s} g w left = go (prediction_of (seen_of cs.corner s.sheet) set.grid (next_of s head))
    where
      go : (at : Option Position) → Finding first (head + 1) (grow_at cs set params (next_of s head) at s)
      go None = finding_with g w left (Err NotAttached.NoCandidates) (λ k e. absurd (let z : ◌≡◌ {A = ℕ} 0 1 = cc in omega arith))
      go (Some at) =
          let search = search_of set params (extrapolating (seen_of cs.corner s.sheet) (next_of s head)) in
          finding_with g w left (try_at cs s.sheet (tolerances_of set) search (next_of s head) at) (found_fits cs g.fit.few s.sheet (tolerances_of set) search (next_of s head) at)

  -- all queued cells were visited
  finding_ended : {head : ℕ} {s : GrowState} → Going cs head s → Finding first head s → length s.queued ≤ head → Finding first (length s.queued) s
  finding_ended {head} {s} g w h = let e : head ≡ length s.queued = omega (arith, g.lined.upto) in rw (← e) w

  finding_from : (m head : ℕ) (s : GrowState) → Going cs head s → Finding first head s → 4 * cs.count ≤ head + m
      → Finding first (length (grow_from cs set params m head s).queued) (grow_from cs set params m head s)
  finding_from zero head s g w h = rw (from_ended cs set params zero head s (omega (arith, queue_few g))) (finding_ended g w (omega (arith, queue_few g)))
  finding_from (suc m) head s g w h =
      go (λ left. finding_from m (head + 1) (grow_visit cs set params (next_of s head) s) (visit_going cs set params head s g left) (finding_visit g w left) (omega arith))
      (dec_lt head (length s.queued))
    where
      go : (head < length s.queued → Finding first (length (grow_from cs set params m (head + 1) (grow_visit cs set params (next_of s head) s)).queued) (grow_from cs set params m (head + 1) (grow_visit cs set params (next_of s head) s)))
          → Dec (head < length s.queued) → Finding first (length (grow_from cs set params (suc m) head s).queued) (grow_from cs set params (suc m) head s)
      go f (yes left) = rw (from_next cs set params m head s left) (f left)
      go f (no d) = rw (from_ended cs set params (suc m) head s (omega arith)) (finding_ended g w (omega arith))

-- grow and the marks, for a sheet that belongs to the corners
pub grow_marks : (cs : Corners) (set : Settings) (params : GrowParams) (first : List ℕ) → Belongs cs first
    → GrowMarks first (grow_run cs set params first).queued (grow_run cs set params first).made (grow_run cs set params first).counts (grow_run cs set params first).sheet
unfolding grow_run
grow_marks cs set params first f = ended _ (finding_from cs set params (4 * cs.count) 0 (start_of first) (start_going cs first f) (finding_start first) (omega arith))
  where
    ended : (s : GrowState) → Finding first (length s.queued) s → GrowMarks first s.queued s.made s.counts s.sheet
    ended s w =
        record {
          found = w.found;
          each = w.each;
          bare = w.bare;
          marked = w.marked;
          others = λ c n. w.others c (λ i h e. n (get_or s.queued i 0) (listed_at s.queued i h) e);
          stand = w.stand;
          attached = rw (take-length s.queued) at w.attached;
          counted = w.counted;
        }

-- a listed place stands at an index
at_listed : (P : ℕ → Type 0) (l : List ℕ) → ((n : ℕ) → n < length l → P (get_or l n 0)) → (p : ℕ) → Memᴰ p l → P p
at_listed P [] f p m = absurd (Memᴰ.not-nil m)
at_listed P (x ∷ l) f p m = ⊎_elim (λ e. rw e (f zero (omega arith))) (at_listed P l (λ n h. f (suc n) (omega arith)) p) (Memᴰ.cases_cons m)

-- every visited cell was unlabelled
pub grow_bare : {first visited made : List ℕ} {counts : Counts} {last : List ℕ} → GrowMarks first visited made counts last
    → (p : ℕ) → Memᴰ p visited → label_at first (cell_of p) ≡ None
grow_bare {first} {visited} w = at_listed (λ p. label_at first (cell_of p) ≡ None) visited w.bare
