-- Laws of the tests, for the functions that make them: a chain of tests of which one is enough, a chain of refusals, a
-- label's corner, and the corners seen place by place. Assumes nothing.
use Rattle.std.specs.Prelude.{Ok, Err, Option, Some, None}
use mathlib.Core.Path.{◌≡◌, refl, sym, ap, subst, ◌∙◌}
use mathlib.Core.Bool.{Bool, true, false, cond, ◌||◌}
use mathlib.Core.List.{List, [], ◌∷◌}
use Prim.Native.Nat.{ℕ, zero, suc, ◌+◌, ◌<◌, ◌≤◌}
use native.Mathlib.Numerals.{add-one}
use native.Mathlib.Omega.{arith}
use borrow.Author.Tests.{eqb-true}
use lib.Dec.{eqb}
use lib.ListN.{get_or, set}
use Rattle.std.specs.List.{All, list_any}
use Rattle.std.proofs.lemmas.List.Elements.{All-cons}
use Rattle.refusal.specs.declared.Refusal.{Refusal}
use Rattle.sheet.specs.Words.{label_of}
use Rattle.sheet.specs.Blank.{written_in, written_from}
use Rattle.sheet.proofs.Blank.{blank_label}
use Rattle.labels.specs.Labelled.{any_below}
use Rattle.labels.specs.Used.{noted}
use Rattle.labels.proofs.Below.{any_no, Searching, searching_start, searching_more, searching_hit, searching_end}
use Rattle.labels.proofs.Written.{written_any}
use Rattle.labels.proofs.Used.{Marking, marking_start, marking_more, noted_none, noted_entry}
use Rattle.arguments.specs.Arguments.{Lent, corner_count, too_short, over_limit, out_of_range, unknown, unknown_at, unknown_corner, same_corner, doubled_at, doubled_corner, checked}
use Rattle.arguments.specs.Asked.{HasEntry, HasEntries, seen_before, Noted, Unseen}
use Rattle.arguments.specs.declared.Pass.{Pass}
use Rattle.arguments.specs.declared.Settings.{Settings}
use Rattle.arguments.proofs.Chains.{refused, passed}

-- ---- chains

-- a chain of tests of which one is enough: this one holds; this one fails, and the rest says t
pub holds : (a b : Bool) → a ≡ true → true ≡ (a || b)
holds a b e = rw e

pub fails : (a b t : Bool) → a ≡ false → t ≡ b → t ≡ (a || b)
fails a b t e f = rw e f

-- ---- the refusals, tried in 01's order

module _ (l : Lent) (settings : Settings) (pass : Pass) where
  pub refused_7 : too_short l pass ≡ true → Err Refusal.BufferTooShort ≡ checked l settings pass
  unfolding checked
  refused_7 e = refused _ _ _ e

  module _ (a7 : too_short l pass ≡ false) where
    pub refused_2 : over_limit l ≡ true → Err Refusal.OverLimit ≡ checked l settings pass
    unfolding checked
    refused_2 e = passed _ _ _ _ a7 (refused _ _ _ e)

    module _ (a2 : over_limit l ≡ false) where
      pub refused_3 : true ≡ out_of_range l settings pass → Err Refusal.OutOfRange ≡ checked l settings pass
      unfolding checked
      refused_3 e = passed _ _ _ _ a7 (passed _ _ _ _ a2 (refused _ _ _ (sym e)))

      module _ (a3 : false ≡ out_of_range l settings pass) where
        pub refused_5 : unknown_corner (corner_count l) l.sheet ≡ true → Err Refusal.UnknownCorner ≡ checked l settings pass
        unfolding checked
        refused_5 e = passed _ _ _ _ a7 (passed _ _ _ _ a2 (passed _ _ _ _ (sym a3) (refused _ _ _ e)))

        module _ (a5 : unknown_corner (corner_count l) l.sheet ≡ false) where
          pub refused_6 : doubled_corner l.sheet ≡ true → Err Refusal.Duplicate ≡ checked l settings pass
          unfolding checked
          refused_6 e = passed _ _ _ _ a7 (passed _ _ _ _ a2 (passed _ _ _ _ (sym a3) (passed _ _ _ _ a5 (refused _ _ _ e))))

          pub refused_none : doubled_corner l.sheet ≡ false → Ok tt ≡ checked l settings pass
          unfolding checked
          refused_none e = passed _ _ _ _ a7 (passed _ _ _ _ a2 (passed _ _ _ _ (sym a3) (passed _ _ _ _ a5 (passed _ _ _ _ e refl))))

-- ---- the corners seen

-- the walk at a place: the entries say which corners the places before it hold, and none of those is doubled
pub record Seeing (sheet : List ℕ) (seen : List Bool) (p : ℕ) : Type 0 where
  pub entries : HasEntries sheet
  pub marking : Marking sheet seen p
  pub searching : Searching (doubled_at sheet) 16384 p

pub seeing_start : (sheet : List ℕ) (seen : List Bool) → Unseen sheet seen → Seeing sheet seen 0
seeing_start sheet seen u =
    record { entries = u.entries; marking = marking_start sheet seen u.size u.none; searching = searching_start (doubled_at sheet) 16384 }

module _ (sheet : List ℕ) (seen : List Bool) (p : ℕ) (s : Seeing sheet seen p) (h : p < 16384) where
  pub has_entry : HasEntry (label_of (get_or sheet p 0))
  has_entry = record { entry = λ k e. s.entries.known.known p k h e }

  -- a corner was seen before exactly if a place before this one holds it
  seen_doubled : seen_before seen (label_of (get_or sheet p 0)) ≡ doubled_at sheet p
  unfolding doubled_at seen_before same_corner
  seen_doubled = go (label_of (get_or sheet p 0)) has_entry.entry
    where
      go : (l : Option ℕ) → ((k : ℕ) → l ≡ Some k → k < 1024) → seen_before seen l ≡ any_below p (λ q. same_corner l (label_of (get_or sheet q 0)))
      go None m = sym (any_no (λ q. false) p (λ q l. refl))
      go (Some k) m = s.marking.so_far k (m k refl)

  module _ (after : List Bool) (r : Bool) (w : Noted seen (label_of (get_or sheet p 0)) after r) where
    pub seeing_more : r ≡ false → Seeing sheet after (p + 1)
    seeing_more e =
        record {
          entries = s.entries;
          marking = marking_more sheet seen p s.marking after h w.written;
          searching = searching_more (doubled_at sheet) 16384 p s.searching h (sym seen_doubled ∙ sym w.said ∙ e);
        }

    pub seeing_hit : r ≡ true → true ≡ doubled_corner sheet
    unfolding doubled_corner
    seeing_hit e = searching_hit (doubled_at sheet) 16384 p s.searching h (sym seen_doubled ∙ sym w.said ∙ e)

pub seeing_end : (sheet : List ℕ) (seen : List Bool) (p : ℕ) → Seeing sheet seen p → 16384 ≤ p → false ≡ doubled_corner sheet
unfolding doubled_corner
seeing_end sheet seen p s h = searching_end (doubled_at sheet) 16384 p s.searching h

-- a label noted, by its two ways
module _ (seen : List Bool) (label : Option ℕ) where
  pub note_none : label ≡ None → Noted seen label seen false
  unfolding seen_before
  note_none e = record { said = rw e; written = noted_none seen label e }

  pub note_corner : (k : ℕ) → label ≡ Some k → k < 1024 → Noted seen label (set seen k true) (get_or seen k false)
  unfolding seen_before
  note_corner k e h = record { said = rw e; written = noted_entry seen label k e h }

-- ---- a walk over the places that hold something

-- a word that names a corner from n on; the walk over the sheet finds one exactly if there is one
abbrev pub holds_unknown : ℕ → ℕ × ℕ → Bool
holds_unknown n e = unknown n (label_of e.1)

pub unknown_walked : (n : ℕ) (sheet : List ℕ) → list_any (holds_unknown n) (written_from sheet 0) ≡ unknown_corner n sheet
unfolding unknown_corner unknown_at unknown
unknown_walked n sheet = written_any sheet (holds_unknown n) (λ p. ap (unknown n) (blank_label refl))

-- whether one of these words names a corner that was seen, or that one before it names
unfoldable pub twice : List Bool → List (ℕ × ℕ) → Bool
twice seen [] = false
twice seen (e ∷ es) = seen_before seen (label_of e.1) || twice (noted seen (label_of e.1)) es

-- the walk with these words left: each that names a corner names one that has an entry, and what is said of them is said of the sheet
pub record Left (sheet : List ℕ) (seen : List Bool) (rest : List (ℕ × ℕ)) : Type 0 where
  pub entries : All (λ e. HasEntry (label_of e.1)) rest
  pub said : twice seen rest ≡ doubled_corner sheet

module _ (sheet : List ℕ) where
  all_entries : HasEntries sheet → (from n : ℕ) → from + n ≡ 16384 → All (λ e. HasEntry (label_of e.1)) (written_in sheet from n)
  unfolding written_in
  all_entries h from zero e = λ k d l. absurd (omega arith)
  all_entries h from (suc n) e = go (eqb (get_or sheet from 0) 0) (all_entries h (suc from) n (omega arith))
    where
      go : (t : Bool) → All (λ e. HasEntry (label_of e.1)) (written_in sheet (suc from) n)
          → All (λ e. HasEntry (label_of e.1)) (cond t (written_in sheet (suc from) n) ((from, get_or sheet from 0) ∷ written_in sheet (suc from) n))
      go true rest = rest
      go false rest = All-cons (λ (e : ℕ × ℕ). HasEntry (label_of e.1)) (from, get_or sheet from 0) (written_in sheet (suc from) n) (record { entry = λ k l. h.known.known from k (omega arith) l }) rest

  twice_said : (seen : List Bool) (from n : ℕ) → Seeing sheet seen from → from + n ≡ 16384 → twice seen (written_in sheet from n) ≡ doubled_corner sheet
  unfolding twice written_in
  twice_said seen from zero s e = seeing_end sheet seen from s (omega arith)
  twice_said seen from (suc n) s e =
      go (eqb (get_or sheet from 0) 0) refl
      (λ after t. twice_said after (suc from) n (subst (Seeing sheet after) (add-one from) t) (omega arith))
    where
      here : from < 16384
      here = omega arith

      after : List Bool
      after = noted seen (label_of (get_or sheet from 0))

      by : (u : Bool) → seen_before seen (label_of (get_or sheet from 0)) ≡ u
          → ((next : List Bool) → Seeing sheet next (from + 1) → twice next (written_in sheet (suc from) n) ≡ doubled_corner sheet)
          → (u || twice after (written_in sheet (suc from) n)) ≡ doubled_corner sheet
      by true d on = seeing_hit sheet seen from s here after true (record { said = sym d; written = refl }) refl
      by false d on = on after (seeing_more sheet seen from s here after false (record { said = sym d; written = refl }) refl)

      go : (t : Bool) → eqb (get_or sheet from 0) 0 ≡ t
          → ((next : List Bool) → Seeing sheet next (from + 1) → twice next (written_in sheet (suc from) n) ≡ doubled_corner sheet)
          → twice seen (cond t (written_in sheet (suc from) n) ((from, get_or sheet from 0) ∷ written_in sheet (suc from) n)) ≡ doubled_corner sheet
      go true b on = on seen (seeing_more sheet seen from s here seen false (note_none seen _ (blank_label (eqb-true _ 0 b))) refl)
      go false b on = by (seen_before seen (label_of (get_or sheet from 0))) refl on

  pub twice_start : (seen : List Bool) → Unseen sheet seen → (rest : List (ℕ × ℕ)) → rest ≡ written_from sheet 0 → Left sheet seen rest
  twice_start seen u rest e =
      rw e (record { entries = all_entries u.entries 0 16384 refl; said = twice_said seen 0 16384 (seeing_start sheet seen u) refl })

  module _ {seen : List Bool} {rest next : List (ℕ × ℕ)} {e : ℕ × ℕ} (l : Left sheet seen rest) (is : rest ≡ e ∷ next) where
    module _ {after : List Bool} {r : Bool} (w : Noted seen (label_of e.1) after r) where
      pub twice_hit : r ≡ true → true ≡ doubled_corner sheet
      unfolding twice
      twice_hit h =
          let same : seen_before seen (label_of e.1) ≡ true = sym w.said ∙ h in
          sym (ap (λ (b : Bool). b || twice (noted seen (label_of e.1)) next) same) ∙ sym (ap (twice seen) is) ∙ l.said

      pub twice_more : r ≡ false → Left sheet after next
      unfolding twice
      twice_more h =
          let same : seen_before seen (label_of e.1) ≡ false = sym w.said ∙ h in
          record {
            entries = λ k d g. (rw is at l.entries) (suc k) d (omega arith);
            said =
                ap (λ (a : List Bool). twice a next) w.written
                ∙ sym (ap (λ (b : Bool). b || twice (noted seen (label_of e.1)) next) same) ∙ sym (ap (twice seen) is) ∙ l.said;
          }

  pub twice_end : {seen : List Bool} {rest : List (ℕ × ℕ)} → Left sheet seen rest → rest ≡ [] → false ≡ doubled_corner sheet
  unfolding twice
  twice_end {seen} l is = sym (ap (twice seen) is) ∙ l.said
