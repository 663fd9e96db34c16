-- Laws of the queue as the code holds it: a place queued, a cell taken; the four neighbours, one after the other; the seeds, a place at a
-- time. Assumes nothing.
use mathlib.Core.Path.{◌≡◌, refl, sym, ap, ◌∙◌, subst}
use mathlib.Core.Bool.{Bool, true, false, cond, not, ◌&&◌, ◌||◌}
use mathlib.Core.List.{List, [], ◌∷◌, ◌++◌, map}
use Rattle.std.specs.List.{filter}
use Rattle.std.proofs.lemmas.List.{length-map, map-append}
use Rattle.sheet.specs.Blank.{written_from}
use Prim.Native.Nat.{ℕ, ◌+◌, ◌*◌, ◌<◌, ◌≤◌}
use native.Mathlib.Decide.{ℕ_discrete}
use native.Mathlib.Numerals.{add-one}
use native.Mathlib.Omega.{arith}
use borrow.Author.Tests.{eq-eqb, ne_eqb, not-true}
use lib.Dec.{T, eqb}
use lib.IntN.{pos}
use lib.ListN.{length, get_or, drop, set, length-set, length-append}
use lib.Seq.{get_or-set_same, get_or-set_other, take-suc-set, drop-cons, length-take-le}
use Rattle.sheet.specs.Cells.{on_sheet, OnSheet, place_of, cell_of, moved}
use Rattle.sheet.specs.Words.{label_at}
use Rattle.sheet.specs.declared.Cell.{Cell}
use Rattle.sheet.specs.declared.Offset.{Offset}
use Rattle.sheet.proofs.Laws.{place_in}
use Rattle.sheet.proofs.Words.{label_on}
use Rattle.labels.specs.Labelled.{names_corner, is_labelled, label_count}
use Rattle.labels.proofs.Below.{both}
use Rattle.labels.proofs.Labelled.{labels_walked}
use Rattle.positions_policy.specs.Edge.{cardinal_offsets, cardinal_at}
use Rattle.passes.specs.Grow.{member, wanted, enqueued, enqueued_at, spread, seeded_from}
use Rattle.passes.proofs.Over.{over_length, over_read, over_own, over_put, over_over}
use Rattle.passes.proofs.Queue.{member_more, last_at, older_at, enqueued_longer, seeded_longer, spread_longer}
use Rattle.arguments.specs.Front.{over}
use Rattle.grow_queue.specs.Places.{so_far, Flagged, OnPlaces, PlacesRoom, PlacesHeld}
use Rattle.grow_queue.specs.Queue.{queued, Room, QueueHeld, seeded, Unqueued}
use Rattle.grow_queue.specs.declared.Queue.{Queue}

-- ---- a place more

pub flagged_more : {cells : List ℕ} {seen : List Bool} → Flagged cells seen → (p : ℕ) → p < 16384 → Flagged (cells ++ (p ∷ [])) (set seen p true)
flagged_more {cells} {seen} f p h = record { size = length-set seen p true ∙ f.size; at = λ q l. rw (member_more q p cells) (go q l (ℕ_discrete q p)) }
  where
    go : (q : ℕ) → q < 16384 → Dec (q ≡ p) → get_or (set seen p true) q false ≡ (eqb q p || member q cells)
    go q l (yes d) = rw (eq-eqb q p d, d) (get_or-set_same seen p true false (omega (arith, f.size)))
    go q l (no d) = rw (ne_eqb q p d) (get_or-set_other seen p q true false d ∙ f.at q l)

pub on_places_more : {cells : List ℕ} → OnPlaces cells → (p : ℕ) → p < 16384 → OnPlaces (cells ++ (p ∷ []))
on_places_more {cells} o p h = record { below = λ i l. go i l (ℕ_discrete i (length cells)) }
  where
    go : (i : ℕ) → i < length (cells ++ (p ∷ [])) → Dec (i ≡ length cells) → get_or (cells ++ (p ∷ [])) i 0 < 16384
    go i l (yes d) = rw (d, last_at cells p) h
    go i l (no d) = let k : i < length cells = omega (arith, length-append cells (p ∷ [])) in rw (older_at cells p i k) (o.below i k)

pub so_far_more : (queue : List ℕ) (n p : ℕ) → n < length queue → so_far (set queue n p) (n + 1) ≡ so_far queue n ++ (p ∷ [])
so_far_more queue n p h = rw add-one (take-suc-set queue n p h)

pub queued_length : (q : Queue) → length (queued q) ≡ q.tail
queued_length q = length-take-le q.tail q.places.now q.within

pub more_count : (q : Queue) (p : ℕ) → q.tail + 1 ≡ length (queued q ++ (p ∷ []))
more_count q p = omega (arith, length-append (queued q) (p ∷ []), queued_length q)

-- ---- what a lent buffer holds, one step after the other

-- it is read back
pub places_read : {queue after : List ℕ} {seen : List Bool} {r : ℕ} {cells : List ℕ} → PlacesHeld queue after seen r cells → so_far after r ≡ cells
places_read {queue} {cells = cells} h = rw (h.written, h.count) (over_read cells queue)

pub places_then : {q0 q1 : List ℕ} {s1 : List Bool} {t1 : ℕ} {l1 q2 : List ℕ} {s2 : List Bool} {t2 : ℕ} {l2 : List ℕ} → PlacesHeld q0 q1 s1 t1 l1 → PlacesHeld q1 q2 s2 t2 l2 → length l1 ≤ length l2 → PlacesHeld q0 q2 s2 t2 l2
places_then {q0} {l1 = l1} {l2 = l2} a b h =
    record { written = b.written ∙ ap (over l2) a.written ∙ over_over l1 l2 q0 h; count = b.count; flagged = b.flagged }

pub places_length : {queue after : List ℕ} {seen : List Bool} {r : ℕ} {cells : List ℕ} → PlacesHeld queue after seen r cells → length cells ≤ length queue → length after ≡ length queue
places_length {queue} {cells = cells} h l = rw h.written (over_length cells queue l)

-- nothing done
pub places_own : (queue : List ℕ) (seen : List Bool) (tail : ℕ) → tail ≤ length queue → Flagged (so_far queue tail) seen → PlacesHeld queue queue seen tail (so_far queue tail)
places_own queue seen tail h f = record { written = sym (over_own queue tail h); count = sym (length-take-le tail queue h); flagged = f }

-- ---- what a queue holds, one step after the other

-- it is read back
pub holds_read : {before after : Queue} {cells : List ℕ} → QueueHeld before after cells → queued after ≡ cells
holds_read {before} {after} {cells} h = rw (h.written, h.count) (over_read cells before.places.now)

pub holds_then : {before between after : Queue} {first second : List ℕ} → QueueHeld before between first → QueueHeld between after second → length first ≤ length second → QueueHeld before after second
holds_then {before} {first = first} {second = second} a b h =
    record { same_buffer = b.same_buffer ∙ a.same_buffer; written = b.written ∙ ap (over second) a.written ∙ over_over first second before.places.now h; count = b.count; head_same = b.head_same ∙ a.head_same }

pub holds_length : {before after : Queue} {cells : List ℕ} → QueueHeld before after cells → length cells ≤ length before.places.now → length after.places.now ≡ length before.places.now
holds_length {before} {cells = cells} h l = rw h.written (over_length cells before.places.now l)

-- nothing done
pub holds_own : (q : Queue) → QueueHeld q q (queued q)
holds_own q = record { same_buffer = refl; written = sym (over_own q.places.now q.tail q.within); count = sym (length-take-le q.tail q.places.now q.within); head_same = refl }

-- ---- a cell queued

module _ (sheet cells : List ℕ) (c : Cell) (w : wanted sheet cells c ≡ true) where
  facts : (on_sheet c ≡ true) × ((not (names_corner (label_at sheet c)) && not (member (place_of c) cells)) ≡ true)
  unfolding wanted
  facts = both _ _ w

  pub wanted_on : OnSheet c
  wanted_on = subst T (sym facts.0) tt

  pub wanted_new : member (place_of c) cells ≡ false
  wanted_new = not-true _ (both _ _ facts.1).1

  pub wanted_below : {p : ℕ} → p ≡ place_of c → p < 16384
  wanted_below is = rw is (place_in c wanted_on)

module _ {sheet queue : List ℕ} {seen : List Bool} {tail : ℕ} (c : Cell) (w : PlacesRoom 1 sheet queue seen tail) where
  upto : tail ≤ length queue
  upto = omega (arith, w.room)

  pub places_unwanted : wanted sheet (so_far queue tail) c ≡ false → PlacesHeld queue queue seen tail (enqueued sheet c (so_far queue tail))
  unfolding enqueued
  places_unwanted e = rw e (places_own queue seen tail upto w.flagged)

  pub places_wanted : wanted sheet (so_far queue tail) c ≡ true → {p : ℕ} → p ≡ place_of c → PlacesHeld queue (set queue tail p) (set seen p true) (tail + 1) (enqueued sheet c (so_far queue tail))
  unfolding enqueued
  places_wanted e {p} is =
      let l : length (so_far queue tail) ≡ tail = length-take-le tail queue upto in
      let below : p < 16384 = wanted_below sheet (so_far queue tail) c e is in
      rw (e, ← is)
      (record {
        written = over_put queue tail p (omega (arith, w.room));
        count = omega (arith, length-append (so_far queue tail) (p ∷ []));
        flagged = flagged_more w.flagged p below;
      })

-- the same of a queue
module _ (sheet : List ℕ) (q : Queue) (c : Cell) where
  pub enqueued_not : wanted sheet (queued q) c ≡ false → QueueHeld q q (enqueued sheet c (queued q))
  unfolding enqueued
  enqueued_not e = rw e (holds_own q)

  module _ (w : wanted sheet (queued q) c ≡ true) where
    pub enqueued_yes : {after : Queue} {p : ℕ} → p ≡ place_of c → QueueHeld q after (queued q ++ (p ∷ [])) → QueueHeld q after (enqueued sheet c (queued q))
    unfolding enqueued
    enqueued_yes e h = rw w (rw e at h)

-- whether a cell on the sheet is wanted, by its place
pub place_below : (c : Cell) → on_sheet c ≡ true → {p : ℕ} → p ≡ place_of c → p < 16384
place_below c on is = rw is (place_in c (subst T (sym on) tt))

pub off_unwanted : (sheet : List ℕ) (c : Cell) (cells : List ℕ) → on_sheet c ≡ false → wanted sheet cells c ≡ false
unfolding wanted
off_unwanted sheet c cells e = rw e

pub on_wanted : (sheet : List ℕ) (c : Cell) {cells : List ℕ} {seen : List Bool} → Flagged cells seen → on_sheet c ≡ true → {p : ℕ} → p ≡ place_of c → {t : Bool} → is_labelled (get_or sheet p 0) ≡ t
    → (not t && not (get_or seen p false)) ≡ wanted sheet cells c
unfolding wanted is_labelled
on_wanted sheet c f on {p} is {t} e =
    let here : OnSheet c = subst T (sym on) tt in
    let label : names_corner (label_at sheet c) ≡ t = ap names_corner (label_on sheet c here) ∙ rw is at e in
    rw (on, is, f.at (place_of c) (place_in c here), label)

-- ---- the four neighbours

four : (k : ℕ) → k < 4 → k < length cardinal_offsets
unfolding cardinal_offsets
four k h = h

-- before the k-th: what is queued so far, and that with the neighbours that are left it is what it shall be
pub record Spreading (sheet : List ℕ) (c : Cell) (queue : List ℕ) (tail : ℕ) (after : List ℕ) (seen : List Bool) (end k : ℕ) : Type 0 where
  pub upto : k ≤ 4
  pub cells : List ℕ
  pub holds : PlacesHeld queue after seen end cells
  pub more : tail ≤ end
  pub few : end ≤ tail + k
  pub rest : enqueued_at sheet c (drop k cardinal_offsets) cells ≡ spread sheet c (so_far queue tail)

module _ {sheet : List ℕ} (c : Cell) {queue : List ℕ} {seen : List Bool} {tail : ℕ} (w : PlacesRoom 4 sheet queue seen tail) where
  pub spreading_start : Spreading sheet c queue tail queue seen tail 0
  unfolding spread
  spreading_start =
      record { upto = omega arith; cells = so_far queue tail; holds = places_own queue seen tail (omega (arith, w.room)) w.flagged; more = omega arith; few = omega arith; rest = refl }

  module _ {after : List ℕ} {flags : List Bool} {end k : ℕ} (s : Spreading sheet c queue tail after flags end k) where
    pub spreading_length : length after ≡ length queue
    spreading_length = places_length s.holds (omega (arith, s.holds.count, s.few, s.upto, w.room))

    pub spreading_room : k < 4 → PlacesRoom 1 sheet after flags end
    spreading_room h = record { long = w.long; room = omega (arith, spreading_length, s.few, w.room); flagged = rw (places_read s.holds) s.holds.flagged }

    pub spreading_more : k < 4 → {d : Cell} {after' : List ℕ} {flags' : List Bool} {end' : ℕ} → d ≡ moved c (cardinal_at k) → PlacesHeld after after' flags' end' (enqueued sheet d (so_far after end))
        → Spreading sheet c queue tail after' flags' end' (k + 1)
    unfolding enqueued_at
    spreading_more h {after' = after'} {flags' = flags'} {end' = end'} e m =
        let cells = enqueued sheet (moved c (cardinal_at k)) s.cells in
        let a : PlacesHeld after after' flags' end' cells = rw (e, places_read s.holds) at m in
        let l = enqueued_longer sheet (moved c (cardinal_at k)) s.cells in
        record {
          upto = omega arith;
          cells = cells;
          holds = places_then s.holds a l.more;
          more = omega (arith, s.more, s.holds.count, a.count, l.more);
          few = omega (arith, s.few, s.holds.count, a.count, l.few);
          rest = sym (ap (λ (os : List Offset). enqueued_at sheet c os s.cells) (next_offsets h)) ∙ s.rest;
        }
      where
        next_offsets : k < 4 → drop k cardinal_offsets ≡ cardinal_at k ∷ drop (k + 1) cardinal_offsets
        next_offsets h = drop-cons cardinal_offsets k (record { di = pos 0; dj = pos 0 }) (four k h) ∙ ap (λ (n : ℕ). cardinal_at k ∷ drop n cardinal_offsets) (sym (add-one k))

    pub spreading_end : 4 ≤ k → PlacesHeld queue after flags end (spread sheet c (so_far queue tail))
    unfolding cardinal_offsets enqueued_at
    spreading_end h =
        let e : k ≡ 4 = omega (arith, s.upto) in
        let r : s.cells ≡ spread sheet c (so_far queue tail) = rw e at s.rest in
        subst (λ (l : List ℕ). PlacesHeld queue after flags end l) r s.holds

-- they are places of the sheet, where those before them are
enqueued_on : (sheet : List ℕ) (c : Cell) (cells : List ℕ) → OnPlaces cells → OnPlaces (enqueued sheet c cells)
unfolding enqueued
enqueued_on sheet c cells o = go (wanted sheet cells c) (λ e. wanted_below sheet cells c e refl)
  where
    go : (t : Bool) → (t ≡ true → place_of c < 16384) → OnPlaces (cond t (cells ++ (place_of c ∷ [])) cells)
    go true h = on_places_more o (place_of c) (h refl)
    go false h = o

at_on : (sheet : List ℕ) (c : Cell) (os : List Offset) (cells : List ℕ) → OnPlaces cells → OnPlaces (enqueued_at sheet c os cells)
unfolding enqueued_at
at_on sheet c [] cells o = o
at_on sheet c (d ∷ os) cells o = at_on sheet c os (enqueued sheet (moved c d) cells) (enqueued_on sheet (moved c d) cells o)

-- ---- the four neighbours in a queue's own buffer

module _ {sheet : List ℕ} (q : Queue) (w : Room 4 sheet q) where
  pub spread_room : PlacesRoom 4 sheet q.places.now q.seen q.tail
  spread_room = record { long = w.long; room = w.room; flagged = q.flagged }

  module _ (c : Cell) {after : List ℕ} {seen : List Bool} {tail : ℕ} (h : PlacesHeld q.places.now after seen tail (spread sheet c (so_far q.places.now q.tail))) where
    pub spread_within : tail ≤ length after
    spread_within =
        let l = spread_longer sheet c (queued q) in
        let e : length after ≡ length q.places.now = places_length h (omega (arith, l.few, queued_length q, w.room)) in
        omega (arith, e, h.count, l.few, queued_length q, w.room)

    pub spread_upto : q.head ≤ tail
    spread_upto = omega (arith, q.upto, h.count, queued_length q, (spread_longer sheet c (queued q)).more)

    pub spread_flagged : Flagged (so_far after tail) seen
    spread_flagged = rw (places_read h) h.flagged

    pub spread_on : OnPlaces (so_far after tail)
    unfolding spread
    spread_on = rw (places_read h) (at_on sheet c cardinal_offsets (queued q) q.on_places)

-- ---- the seeds

pub seeded_more : (sheet ps : List ℕ) (p : ℕ) (queued : List ℕ) → seeded_from sheet (ps ++ (p ∷ [])) queued ≡ spread sheet (cell_of p) (seeded_from sheet ps queued)
unfolding seeded_from
seeded_more sheet [] p queued = refl
seeded_more sheet (q ∷ ps) p queued = seeded_more sheet ps p (spread sheet (cell_of q) queued)

-- the cells queued for some places with their words
abbrev pub seeds : List ℕ → List (ℕ × ℕ) → List ℕ
seeds sheet es = seeded_from sheet (map (λ e. e.0) es) []

module _ {sheet : List ℕ} {q : Queue} (w : Unqueued sheet q) where
  pub seeding_start : QueueHeld q q (seeds sheet [])
  unfolding seeded_from
  seeding_start = record { same_buffer = refl; written = refl; count = w.none; head_same = refl }

  module _ {after : Queue} (es : List (ℕ × ℕ)) (s : QueueHeld q after (seeds sheet es)) (some : length es < label_count sheet) where
    few : length (seeds sheet es) ≤ 4 * length es
    few = omega (arith, (seeded_longer sheet (map (λ e. e.0) es) []).few, length-map es (λ e. e.0))

    pub seeding_room : Room 4 sheet after
    seeding_room = record { long = w.long; room = omega (arith, holds_length s (omega (arith, few, w.room)), s.count, few, w.room) }

    pub seeding_more : (e : ℕ × ℕ) {c : Cell} {next : Queue} → c ≡ cell_of e.0 → QueueHeld after next (spread sheet c (queued after)) → QueueHeld q next (seeds sheet (es ++ (e ∷ [])))
    seeding_more e {c} {next} is m =
        let a : QueueHeld after next (spread sheet (cell_of e.0) (seeds sheet es)) = rw (is, holds_read s) at m in
        let l = spread_longer sheet (cell_of e.0) (seeds sheet es) in
        let t : seeds sheet (es ++ (e ∷ [])) ≡ spread sheet (cell_of e.0) (seeds sheet es) =
        ap (λ ps. seeded_from sheet ps []) (map-append (λ d. d.0) es (e ∷ [])) ∙ seeded_more sheet (map (λ d. d.0) es) e.0 [] in
        rw t (holds_then s a l.more)

  pub seeding_end : {after : Queue} (es : List (ℕ × ℕ)) → QueueHeld q after (seeds sheet es) → es ≡ filter (λ e. is_labelled e.1) (written_from sheet 0) → QueueHeld q after (seeded sheet)
  seeding_end {after} es s is = subst (λ ps. QueueHeld q after (seeded_from sheet ps [])) (ap (map (λ e. e.0)) is ∙ labels_walked sheet) s
