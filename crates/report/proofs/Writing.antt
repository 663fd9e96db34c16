-- Lines written one after the other, each into the unfilled rest of a buffer. Assumes nothing.
use mathlib.Core.Path.{◌≡◌, refl, sym, ap, ◌∙◌}
use mathlib.Core.Bool.{Bool, true, false, cond}
use mathlib.Core.List.{List, [], ◌++◌, append_assoc, append-nil}
use Prim.Native.Nat.{ℕ, zero, suc, ◌+◌, ◌-◌, ◌≤◌, ◌<◌}
use native.Mathlib.Omega.{arith}
use borrow.Rule.Slice.PartMut.{put_mid}
use borrow.Author.Tests.{lt-ltb, le-ltb}
use lib.Dec.{eqb}
use lib.ListN.{length, take, drop, length-append, length-drop}
use Rattle.passes.specs.declared.PassStats.{PassStats}
use Rattle.line_form.specs.Written.{Wrote}
use Rattle.line_form.proofs.Reading.{part}
use Rattle.roles.specs.Roles.{role_numbered}
use Rattle.roles.specs.declared.Role.{Role}
use Rattle.role_counts.specs.RoleCounts.{sum_for}
use Rattle.role_counts.specs.declared.RoleCounts.{RoleCounts}
use Rattle.report_line.specs.Result.{heading, pass_line, role_line, line_of_role, sheet_line, line_count, result_line, Piece, ending, joined, piece_of, result_piece}
use Rattle.report_line.specs.Written.{Few, StatsAsked, RoleAsked, LineAsked as SheetAsked}
use Rattle.report_line.proofs.Forms.{same_room}
use Rattle.report_line.proofs.Behind.{front_length, one_more}
use Rattle.arguments.specs.Front.{over}
use Rattle.report_words.specs.Outcomes.{word_at, counts_at, stats_at, outcomes_in}
use Rattle.report_words.specs.Asked.{grow_at, fill_at, local_at, Tame}
use Rattle.report.specs.Asked.{PassAsked, LineAsked, AllAsked, SomeAsked, WrotePiece, line_at, text_from, piece_from}
use Rattle.report.specs.declared.lines.PieceEnd.{PieceEnd}
use Rattle.report.proofs.Numbered.{pass_line_holds, role_line_holds, sheet_line_lem, text_more, text_ends}
use Rattle.report.proofs.Sums.{sums_held}
use Rattle.report_words.proofs.Outcomes.{outcomes_length, residual_finite, unmatched_few}

-- ---- pass lines, by the outcome's kind

few : (words : List ℕ) (k : ℕ) → Tame words k → Few (counts_at words k)
few words k t =
    record { attached = omega (arith, t.attached); no_candidate = omega (arith, t.no_candidate); ambiguous = omega (arith, t.ambiguous); edge = omega (arith, t.edge) }

pub stats_asked : (words : List ℕ) (k : ℕ) (out : List ℕ) → PassAsked words k out → StatsAsked (stats_at words k) out
unfolding stats_at pass_line
stats_asked words k out a = go (eqb (word_at words k 0) 0) (eqb (word_at words k 0) 1) a.room
  where
    t : Tame words k
    t = a.outcome.tame

    says : Bool → Bool → PassStats
    says b c = cond b (PassStats.Grow (grow_at words k)) (cond c (PassStats.Fill (fill_at words k)) (PassStats.Local (local_at words k)))

    go : (b c : Bool) → length (pass_line (says b c)) ≤ length out → StatsAsked (says b c) out
    go true c r = record { few = few words k t; room = r }
    go false true r = record { few = omega (arith, t.attached); rounds = omega (arith, t.rounds); room = r }
    go false false r =
        record {
          few = few words k t;
          rounds = omega (arith, t.rounds);
          finite = λ x d. residual_finite words k t x d;
          unmatched = λ n d. omega (arith, unmatched_few words k t n d);
          room = r;
        }

-- ---- the whole text

-- so far: the lines before line k, in order, and after them what was there
pub record Filling (passes : ℕ) (words sheet old new : List ℕ) (at k : ℕ) : Type 0 where
  pub upto : k ≤ line_count passes
  pub done : List ℕ
  pub size : length done ≡ at
  pub is : new ≡ over done old
  pub whole : done ++ text_from passes words sheet k ≡ text_from passes words sheet 0

pub filling_start : (passes : ℕ) (words sheet old : List ℕ) → Filling passes words sheet old old 0 0
filling_start passes words sheet old = record { upto = omega arith; done = []; size = refl; is = refl; whole = refl }

module _ (passes : ℕ) (words sheet old new : List ℕ) (at k : ℕ) (a : AllAsked passes words sheet old) (f : Filling passes words sheet old new at k) where
  whole_length : at + length (text_from passes words sheet k) ≡ length (text_from passes words sheet 0)
  whole_length = let s = f.size in let l = ap length f.whole in let m = length-append f.done (text_from passes words sheet k) in omega arith

  pub filling_fits : at ≤ length old
  filling_fits = let r = a.room in let w = whole_length in omega arith

  pub filling_length : length new ≡ length old
  filling_length = front_length f.done old new at f.size filling_fits f.is

  module _ (h : k < line_count passes) where
    pub line_fits : at + length (line_at passes words sheet k) ≤ length old
    line_fits =
        let r = a.room in
        let w = whole_length in
        let l = ap length (text_more passes words sheet k h) in
        let m = length-append (line_at passes words sheet k) (text_from passes words sheet (suc k)) in
        omega arith

    pub filling_asked : LineAsked passes words sheet k (take (length new - at) (drop at new))
    filling_asked =
        let l = line_fits in
        let n = filling_length in
        let d = length-drop at new in
        rw (part new at) (record { sound = a.sound; below = h; room = omega arith })

    pub filling_more : (rest : List ℕ) (n : ℕ) → Wrote (line_at passes words sheet k) (take (length new - at) (drop at new)) rest n
        → Filling passes words sheet old (put_mid at (length new - at) new rest) (at + n) (k + 1)
    filling_more rest n w =
        let d : k + 1 ≡ suc k = omega arith in
        let s = f.size in
        let c = w.count in
        record {
          upto = omega arith;
          done = f.done ++ line_at passes words sheet k;
          size = length-append f.done (line_at passes words sheet k) ∙ omega arith;
          is = one_more f.done old new at f.size filling_fits f.is (line_at passes words sheet k) rest n w;
          whole =
              rw d (append_assoc f.done (line_at passes words sheet k) (text_from passes words sheet (suc k))
              ∙ ap (λ (l : List ℕ). f.done ++ l) (sym (text_more passes words sheet k h))
              ∙ f.whole);
        }

  pub filling_end : line_count passes ≤ k → Wrote (text_from passes words sheet 0) old new at
  filling_end h =
      let e : f.done ≡ text_from passes words sheet 0 = sym (append-nil f.done) ∙ ap (λ (l : List ℕ). f.done ++ l) (sym (text_ends passes words sheet k h)) ∙ f.whole in
      rw (← e) (record { count = sym f.size; part = f.is })

-- ---- a piece

module _ (passes : ℕ) (words sheet : List ℕ) where
  as_pieces : (k room : ℕ) → piece_from passes words sheet k room ≡ piece_of (line_at passes words sheet) (line_count passes - k) k room
  unfolding piece_from result_piece line_at
  as_pieces k room = ap (λ (n : ℕ). piece_of (result_line (outcomes_in passes words) sheet) (line_count n - k) k room) (outcomes_length words 0 passes)

  step : (line : ℕ → List ℕ) (n m k room : ℕ) → m ≡ suc n → 128 ≤ room → piece_of line m k room ≡ joined (line k) (piece_of line n (suc k) (room - length (line k)))
  unfolding piece_of
  step line n m k room e h = rw (e, le-ltb room 128 h)

  full : (line : ℕ → List ℕ) (n k room : ℕ) → room < 128 → piece_of line n k room ≡ ending k
  unfolding piece_of
  full line zero k room h = refl
  full line (suc n) k room h = rw (lt-ltb room 128 h)

  none : (line : ℕ → List ℕ) (n k room : ℕ) → n ≡ 0 → piece_of line n k room ≡ ending k
  unfolding piece_of
  none line n k room e = rw e

  pub piece_more : (k room : ℕ) → k < line_count passes → 128 ≤ room
      → piece_from passes words sheet k room ≡ joined (line_at passes words sheet k) (piece_from passes words sheet (suc k) (room - length (line_at passes words sheet k)))
  piece_more k room h r =
      as_pieces k room
      ∙ step (line_at passes words sheet) (line_count passes - suc k) (line_count passes - k) k room (omega arith) r
      ∙ ap (joined (line_at passes words sheet k)) (sym (as_pieces (suc k) (room - length (line_at passes words sheet k))))

  pub piece_full : (k room : ℕ) → room < 128 → piece_from passes words sheet k room ≡ ending k
  piece_full k room h = as_pieces k room ∙ full (line_at passes words sheet) (line_count passes - k) k room h

  pub piece_ends : (k room : ℕ) → line_count passes ≤ k → piece_from passes words sheet k room ≡ ending k
  piece_ends k room h = as_pieces k room ∙ none (line_at passes words sheet) (line_count passes - k) k room (omega arith)

-- so far: the lines from the first of the piece up to line k, in order, and after them what was there; the rest of the piece starts at line k
pub record Cutting (passes : ℕ) (words sheet : List ℕ) (from : ℕ) (old new : List ℕ) (at k : ℕ) : Type 0 where
  pub upto : k ≤ line_count passes
  pub done : List ℕ
  pub size : length done ≡ at
  pub fits : at ≤ length old
  pub is : new ≡ over done old
  pub rest : piece_from passes words sheet from (length old) ≡ joined done (piece_from passes words sheet k (length old - at))

module _ (passes : ℕ) (words sheet : List ℕ) (from : ℕ) (old : List ℕ) (a : SomeAsked passes words sheet from) where
  module _ (new : List ℕ) (at k : ℕ) (f : Cutting passes words sheet from old new at k) where
    pub cutting_length : length new ≡ length old
    cutting_length = front_length f.done old new at f.size f.fits f.is

    -- it ends here
    cutting_end : piece_from passes words sheet k (length old - at) ≡ ending k → (r : PieceEnd) → r.at ≡ at → r.next ≡ k
        → WrotePiece (piece_from passes words sheet from (length old)) old new r
    cutting_end e r p q =
        rw (f.rest ∙ ap (joined f.done) e)
        (record { wrote = rw (append-nil f.done) (record { count = p ∙ sym f.size; part = f.is }); next = q })

    pub cutting_full : length new - at < 128 → (r : PieceEnd) → r.at ≡ at → r.next ≡ k → WrotePiece (piece_from passes words sheet from (length old)) old new r
    cutting_full h r p q = let n = cutting_length in cutting_end (piece_full passes words sheet k (length old - at) (omega arith)) r p q

    pub cutting_last : line_count passes ≤ k → (r : PieceEnd) → r.at ≡ at → r.next ≡ k → WrotePiece (piece_from passes words sheet from (length old)) old new r
    cutting_last h r p q = cutting_end (piece_ends passes words sheet k (length old - at) h) r p q

    module _ (h : k < line_count passes) (wide : 128 ≤ length new - at) (short : length (line_at passes words sheet k) ≤ 127) where
      pub cutting_asked : LineAsked passes words sheet k (take (length new - at) (drop at new))
      cutting_asked = let d = length-drop at new in rw (part new at) (record { sound = a.sound; below = h; room = omega arith })

      pub cutting_more : (rest : List ℕ) (n : ℕ) → Wrote (line_at passes words sheet k) (take (length new - at) (drop at new)) rest n
          → Cutting passes words sheet from old (put_mid at (length new - at) new rest) (at + n) (k + 1)
      cutting_more rest n w =
          let d : k + 1 ≡ suc k = omega arith in
          let s = f.size in
          let c = w.count in
          let g = cutting_length in
          let m : length old - (at + n) ≡ length old - at - length (line_at passes words sheet k) = omega arith in
          record {
            upto = omega arith;
            done = f.done ++ line_at passes words sheet k;
            size = length-append f.done (line_at passes words sheet k) ∙ omega arith;
            fits = omega arith;
            is = one_more f.done old new at f.size f.fits f.is (line_at passes words sheet k) rest n w;
            rest =
                rw (d, m) (f.rest
                ∙ ap (joined f.done) (piece_more passes words sheet k (length old - at) h (omega arith))
                ∙ again f.done (line_at passes words sheet k) (piece_from passes words sheet (suc k) (length old - at - length (line_at passes words sheet k))));
          }
        where
          again : (x y : List ℕ) (p : Piece) → joined x (joined y p) ≡ joined (x ++ y) p
          again x y p = ap (λ (t : List ℕ). record { text = t; next = p.next }) (sym (append_assoc x y p.text))

-- ---- a line by its number

module _ (passes : ℕ) (words sheet : List ℕ) (k : ℕ) where
  pub heading_is : k ≡ 0 → heading ≡ line_at passes words sheet k
  unfolding line_at result_line
  heading_is e = rw e

  pub role_is : (m : ℕ) (r : Role) → k ≡ suc (passes + m) → m < 3 → r ≡ role_numbered m → (sum : RoleCounts) → sum ≡ sum_for r (outcomes_in passes words)
      → role_line r sum ≡ line_at passes words sheet k
  unfolding line_of_role
  role_is m r e l q sum is =
      ap (role_line r) is
      ∙ ap (λ (o : Role). role_line o (sum_for o (outcomes_in passes words))) q
      ∙ role_line_holds passes words sheet k m e l

  module _ (out : List ℕ) (a : LineAsked passes words sheet k out) where
    pub pass_asked : (j : ℕ) → k ≡ suc j → j < passes → PassAsked words j out
    pass_asked j e l =
        let w = a.sound.all.words_long in
        record {
          outcome = record { has = record { there = omega arith }; tame = a.sound.tame j l };
          room = same_room _ _ out (pass_line_holds passes words sheet k j e l) a.room;
        }

    pub role_asked : (m : ℕ) (r : Role) → k ≡ suc (passes + m) → m < 3 → r ≡ role_numbered m → (sum : RoleCounts) → sum ≡ sum_for r (outcomes_in passes words)
        → RoleAsked r sum out
    role_asked m r e l q sum is =
        record {
          few = rw is (sums_held r passes words a.sound.few a.sound.tame);
          room = same_room _ _ out (role_is m r e l q sum is) a.room;
        }

    pub sheet_asked : (m : ℕ) → k ≡ suc (passes + (3 + m)) → SheetAsked sheet m (sheet_line sheet m) out
    sheet_asked m e =
        let b = a.below in
        record {
          on = record { there = a.sound.all.sheet_long; below = omega arith };
          room = same_room _ _ out (sheet_line_lem passes words sheet k m e) a.room;
        }
