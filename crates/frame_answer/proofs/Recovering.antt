-- What reading a frame and running its passes comes to. Assumes nothing.
use mathlib.Core.Path.{◌≡◌, refl, sym, ap, ◌∙◌, subst}
use mathlib.Core.Bool.{Bool, false}
use mathlib.Core.List.{List, [], ◌∷◌, append-nil, map}
use Prim.Native.Nat.{ℕ, ◌*◌, ◌≤◌}
use native.Mathlib.Omega.{arith}
use borrow.Author.Tests.{le-ltb}
use lib.ListN.{length, take, set, length-append, length-drop, length-map, drop_of_length-le}
use lib.Ieee.{Float}
use Rattle.arguments.specs.declared.Settings.{Settings}
use Rattle.roles.specs.declared.Role.{Role}
use Rattle.frame.specs.Frame.{Frame, RoledPass, parts_of, given_of, FrameRead, refused_at, accepted, read_frame}
use Rattle.frame.specs.Text.{WithinLimits}
use Rattle.frame.specs.ReadFrame.{float_of, xs_of, ys_of, pitches_of, shades_of, sheet_of, settings_of, FullPass, full_grow, full_fill, full_local, full_of, words_of, all_words, Buffers, FrameOut, frame_out, too_short, leaves, unless_short, read_into}
use Rattle.frame_line.specs.Lines.{CornerLine}
use Rattle.labels.specs.Kept.{box_kept}
use Rattle.sheet.specs.Corners.{CornerLists, corner_lists}
use Rattle.sheet.specs.Words.{empty_sheet}
use Rattle.sheet.proofs.Words.{empty_length}
use Rattle.frame.specs.declared.FrameHead.{FrameHead}
use Rattle.frame.specs.declared.FrameRefusal.{FrameRefusal}
use Rattle.std.proofs.Common.{Result, Ok, Err}
use Rattle.std.proofs.lemmas.List.{take_at}
use Rattle.frame_laws.specs.Calls.{frame_corners}
use Rattle.join.proofs.Sets.{labelled_length}
use Rattle.frame_laws.proofs.Shades.{shades_long}
use Rattle.frame_laws.proofs.Back.{frame_prints_back}
use Rattle.arguments.specs.Front.{over}
use Rattle.frame_passes.specs.Running.{role_at, call_at, Left, left, left_by_all, PassWords, AtFront}
use Rattle.frame_answer.specs.Room.{FrameRoom, PassRoom}
use Rattle.frame_answer.specs.Answer.{Recorded, Lent, lent_as, Recovers, recovers_not, recovers}
use Rattle.frame_answer.proofs.Ran.{recorded}

-- a list read again from the front of a buffer
take_over : {A : Type 0} (written buffer : List A) → take (length written) (over written buffer) ≡ written
take_over written buffer = take_at written _ (length written) refl

over_long : {A : Type 0} (written buffer : List A) → length written ≤ length buffer → length (over written buffer) ≡ length buffer
over_long written buffer h = simp (length-append, length-drop) (omega (arith, h))

-- the front of a buffer that a list was put into
front : {A B : Type 0} (f : A → B) (l : List A) (buffer : List B) → take (length l) (over (map f l) buffer) ≡ map f l
front f l buffer = rw (sym (length-map l f)) (take_over (map f l) buffer)

-- a buffer as long as what is put into it
over_whole : (written buffer : List ℕ) → length written ≡ length buffer → over written buffer ≡ written
over_whole written buffer e = let h : length buffer ≤ length written = omega arith in rw (drop_of_length-le buffer h) (append-nil written)

-- each pass has seven words
words_length : (ps : List RoledPass) → length (all_words ps) ≡ 7 * length ps
unfolding all_words words_of
words_length [] = refl
words_length (p ∷ ps) =
    length-append (words_of p.role (full_of p.pass)) (all_words ps) ∙ omega (arith, seven p.role (full_of p.pass), words_length ps)
  where
    seven : (r : Role) (q : FullPass) → length (words_of r q) ≡ 7
    seven r (full_grow s f b) = refl
    seven r (full_fill s f n) = refl
    seven r (full_local s f n g d) = refl

-- the sheet of the given labels has 16,384 places
sheet_length : (f : Frame) → length (sheet_of f) ≡ 16384
unfolding sheet_of
sheet_length f = labelled_length (given_of (parts_of f)) empty_sheet ∙ empty_length

module _ (text : List ℕ) (xs ys pitches : List Float) (shades sheet passes : List ℕ) (room : FrameRoom xs ys pitches shades sheet passes) where
  abbrev lent : Buffers
  lent = record { xs = xs; ys = ys; pitches = pitches; shades = shades; sheet = sheet; passes = passes }

  long_enough : too_short lent ≡ false
  long_enough =
      rw (
        le-ltb (length xs) 1024 room.xs_long,
        le-ltb (length ys) 1024 room.ys_long,
        le-ltb (length pitches) 1024 room.pitches_long,
        le-ltb (length shades) 1024 room.shades_long,
        le-ltb (length sheet) 16384 (omega (arith, room.sheet_whole)),
        le-ltb (length passes) 112 room.passes_long,
      ) refl

  into : read_into text lent ≡ leaves (read_frame text) lent
  unfolding read_into
  into = ap (λ (b : Bool). unless_short b text lent) long_enough

  module _ (xs' ys' pitches' : List Float) (shades' sheet' passes' : List ℕ) where
    -- a refused frame leaves all as it was
    pub recovered_not : (q : FrameRefusal) → frame_out (Err q) xs' ys' pitches' shades' sheet' passes' ≡ read_into text lent → (queue places words : List ℕ)
        → Recovers text (lent_as xs ys pitches shades sheet passes queue places words) (lent_as xs' ys' pitches' shades' sheet' passes' queue places words) (Err q)
    recovered_not q e queue places words = go (read_frame text) refl (e ∙ into)
      where
        after : Buffers → Lent
        after b = record { frame = b; queue = queue; attached = places; words = words }

        go : (a : FrameRead) → read_frame text ≡ a → frame_out (Err q) xs' ys' pitches' shades' sheet' passes' ≡ leaves a lent
            → Recovers text (after lent) (lent_as xs' ys' pitches' shades' sheet' passes' queue places words) (Err q)
        go (refused_at r n) f w =
            let s : ◌≡◌ {A = Result FrameHead FrameRefusal} (Err q) (Err (record { refusal = r; line = n })) = ap (λ (o : FrameOut). o.answer) w in
            let d : q ≡ record { refusal = r; line = n } = cc in
            rw d (recovers_not r n f (ap (λ (o : FrameOut). after o.buffers) w))
        go (accepted f) h w =
            let s : ◌≡◌ {A = Result FrameHead FrameRefusal} (Err q) (Ok (record { settings = settings_of f; corners = length (parts_of f).corners; passes = length (parts_of f).passes; around = box_kept (sheet_of f) })) = ap (λ (o : FrameOut). o.answer) w in
            absurd (cc)

    -- what an accepted frame leaves
    pub record Read (head : FrameHead) : Type 0 where
      pub frame : Frame
      pub is_accepted : read_frame text ≡ accepted frame
      pub within : WithinLimits frame
      pub head_so : head ≡ record { settings = settings_of frame; corners = length (parts_of frame).corners; passes = length (parts_of frame).passes; around = box_kept (sheet_of frame) }
      pub xs_so : xs' ≡ over (xs_of frame) xs
      pub ys_so : ys' ≡ over (ys_of frame) ys
      pub pitches_so : pitches' ≡ over (pitches_of frame) pitches
      pub shades_so : shades' ≡ over (shades_of frame) shades
      pub sheet_so : sheet' ≡ over (sheet_of frame) sheet
      pub passes_so : passes' ≡ over (all_words (parts_of frame).passes) passes

    pub read_accepted : (head : FrameHead) → frame_out (Ok head) xs' ys' pitches' shades' sheet' passes' ≡ read_into text lent → Read head
    read_accepted head e = go (read_frame text) refl (e ∙ into)
      where
        go : (a : FrameRead) → read_frame text ≡ a → frame_out (Ok head) xs' ys' pitches' shades' sheet' passes' ≡ leaves a lent → Read head
        go (refused_at r n) q w =
            let s : ◌≡◌ {A = Result FrameHead FrameRefusal} (Ok head) (Err (record { refusal = r; line = n })) = ap (λ (o : FrameOut). o.answer) w in absurd (cc)
        go (accepted f) q w =
            let s : ◌≡◌ {A = Result FrameHead FrameRefusal} (Ok head) (Ok (record { settings = settings_of f; corners = length (parts_of f).corners; passes = length (parts_of f).passes; around = box_kept (sheet_of f) })) = ap (λ (o : FrameOut). o.answer) w in
            record {
              frame = f;
              is_accepted = q;
              within = (frame_prints_back text f q).within;
              head_so = cc;
              xs_so = ap (λ (o : FrameOut). o.buffers.xs) w;
              ys_so = ap (λ (o : FrameOut). o.buffers.ys) w;
              pitches_so = ap (λ (o : FrameOut). o.buffers.pitches) w;
              shades_so = ap (λ (o : FrameOut). o.buffers.shades) w;
              sheet_so = ap (λ (o : FrameOut). o.buffers.sheet) w;
              passes_so = ap (λ (o : FrameOut). o.buffers.passes) w;
            }

    -- what running the passes of the accepted frame asks
    pub passes_ready : (head : FrameHead) → Read head → PassWords head.passes passes'
    passes_ready head w =
        let lengths : length passes' ≡ length passes = ap length w.passes_so ∙ over_long (all_words (parts_of w.frame).passes) passes (omega (arith, words_length (parts_of w.frame).passes, w.within.passes, room.passes_long)) in
        let count : head.passes ≡ length (parts_of w.frame).passes = ap (λ (h : FrameHead). h.passes) w.head_so in
        record { few = omega (arith, count, w.within.passes); long = omega (arith, lengths, room.passes_long) }

    pub corners_ready : (head : FrameHead) → Read head → AtFront head.corners xs' ys' pitches' shades'
    unfolding xs_of ys_of pitches_of
    corners_ready head w =
        let f = w.frame in
        let few = w.within.corners in
        let count : head.corners ≡ length (parts_of f).corners = ap (λ (h : FrameHead). h.corners) w.head_so in
        let a : length xs' ≡ length xs = ap length w.xs_so ∙ over_long (xs_of f) xs (omega (arith, length-map (parts_of f).corners (λ (c : CornerLine). float_of c.x), few, room.xs_long)) in
        let b : length ys' ≡ length ys = ap length w.ys_so ∙ over_long (ys_of f) ys (omega (arith, length-map (parts_of f).corners (λ (c : CornerLine). float_of c.y), few, room.ys_long)) in
        let d : length pitches' ≡ length pitches = ap length w.pitches_so ∙ over_long (pitches_of f) pitches (omega (arith, length-map (parts_of f).corners (λ (c : CornerLine). float_of c.pitch), few, room.pitches_long)) in
        let e : length shades' ≡ length shades = ap length w.shades_so ∙ over_long (shades_of f) shades (omega (arith, shades_long f, few, room.shades_long)) in
        record {
          in_xs = omega (arith, count, a, few, room.xs_long);
          in_ys = omega (arith, count, b, few, room.ys_long);
          in_pitches = omega (arith, count, d, few, room.pitches_long);
          in_shades = omega (arith, count, e, few, room.shades_long);
        }

    corners_read : (head : FrameHead) (w : Read head) → corner_lists (take head.corners xs') (take head.corners ys') (take head.corners pitches') ≡ frame_corners w.frame
    unfolding xs_of ys_of pitches_of
    corners_read head w =
        let f = w.frame in
        let count : head.corners ≡ length (parts_of f).corners = ap (λ (h : FrameHead). h.corners) w.head_so in
        rw (w.xs_so, w.ys_so, w.pitches_so, count)
        (λ t.
        corner_lists (front (λ (c : CornerLine). float_of c.x) (parts_of f).corners xs t) (front (λ (c : CornerLine). float_of c.y) (parts_of f).corners ys t)
        (front (λ (c : CornerLine). float_of c.pitch) (parts_of f).corners pitches t))

    shades_read : (head : FrameHead) (w : Read head) → take head.corners shades' ≡ shades_of w.frame
    shades_read head w =
        let count : head.corners ≡ length (parts_of w.frame).corners = ap (λ (h : FrameHead). h.corners) w.head_so in
        rw (w.shades_so, count, sym (shades_long w.frame)) (take_over (shades_of w.frame) shades)

    sheet_read : (head : FrameHead) (w : Read head) → sheet' ≡ sheet_of w.frame
    sheet_read head w = w.sheet_so ∙ over_whole (sheet_of w.frame) sheet (sheet_length w.frame ∙ sym room.sheet_whole)

    -- the box that is read is that of the sheet that is read
    pub box_read : (head : FrameHead) (w : Read head) → head.around ≡ box_kept sheet'
    box_read head w = ap (λ (h : FrameHead). h.around) w.head_so ∙ ap box_kept (sym (sheet_read head w))

    -- equal arguments lead to equal ends
    same : (words : List ℕ) {l l' : CornerLists} {set set' : Settings} {k k' : List ℕ} {q q' a a' : ℕ} {ps ps' : List ℕ} {m m' : ℕ} {s s' : List ℕ}
        → l ≡ l' → set ≡ set' → k ≡ k' → q ≡ q' → a ≡ a' → ps ≡ ps' → m ≡ m' → s ≡ s'
        → left_by_all l (call_at set k q a ps) (role_at ps) m 0 (left s words) ≡ left_by_all l' (call_at set' k' q' a' ps') (role_at ps') m' 0 (left s' words)
    same words l set k q a ps m s = λ t. left_by_all (l t) (call_at (set t) (k t) (q t) (a t) (ps t)) (role_at (ps t)) (m t) 0 (left (s t) words)

    -- what it leads to
    pub recovered : (head : FrameHead) → Read head → (queue places words : List ℕ) → PassRoom queue places words → (before after : Lent)
        → left after.frame.sheet after.words ≡ left_by_all (corner_lists (take head.corners xs') (take head.corners ys') (take head.corners pitches')) (call_at head.settings (take head.corners shades') (length queue) (length places) passes') (role_at passes') head.passes 0 (left sheet' words)
        → Recovers text before after (Ok (record { corners = head.corners; passes = head.passes }))
    recovered head w queue places words r before after g =
        recovers f head.corners head.passes w.is_accepted
        (subst (λ (n : ℕ). Recorded f n head.passes after.frame.sheet after.words) (sym corners_so)
        (subst (λ (m : ℕ). Recorded f (length (parts_of f).corners) m after.frame.sheet after.words) (sym passes_count)
        (subst (λ (s : Left). Recorded f (length (parts_of f).corners) (length (parts_of f).passes) s.sheet s.words) (sym so)
        (recorded text f w.is_accepted passes words room.passes_long r.words_long))))
      where
        f : Frame
        f = w.frame

        corners_so : head.corners ≡ length (parts_of f).corners
        corners_so = ap (λ (h : FrameHead). h.corners) w.head_so

        passes_count : head.passes ≡ length (parts_of f).passes
        passes_count = ap (λ (h : FrameHead). h.passes) w.head_so

        settings_so : head.settings ≡ settings_of f
        settings_so = ap (λ (h : FrameHead). h.settings) w.head_so

        so : left after.frame.sheet after.words ≡ left_by_all (frame_corners f) (call_at (settings_of f) (shades_of f) 4096 1024 (over (all_words (parts_of f).passes) passes)) (role_at (over (all_words (parts_of f).passes) passes)) (length (parts_of f).passes) 0 (left (sheet_of f) words)
        so =
            g
            ∙ same words (corners_read head w) settings_so (shades_read head w) r.queue_whole r.attached_whole w.passes_so passes_count (sheet_read head w)
