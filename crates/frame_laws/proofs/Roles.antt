-- Who runs a frame's passes: the as lines, where they stand and what may follow them, the role that holds, the checks of a pass line, and what 10
-- means. Assumes nothing.
use Rattle.std.specs.Prelude.{Ok}
use mathlib.Core.Path.{◌≡◌, refl, sym, ap, subst, ◌∙◌}
use mathlib.Core.Bool.{Bool, true, false, not, true≢false, cond}
use mathlib.Core.Logic.{◌⊎◌, inl, inr, ⊎_elim}
use mathlib.Core.List.{List, [], ◌∷◌, ◌++◌, append-nil, append_assoc}
use Prim.Native.Nat.{ℕ, suc, ◌+◌, ◌<◌}
use native.Mathlib.Omega.{arith}
use borrow.Author.Tests.{eqb-true, leb-false, lt-leb, not-true, ne_eqb}
use lib.Dec.{eqb, leb}
use lib.ListN.{length, get_or, take}
use lib.Seq.{take-suc, take_all}
use Rattle.refusal.specs.declared.Refusal.{Refusal}
use Rattle.roles.specs.Roles.{role_number}
use Rattle.roles.specs.declared.Role.{Role}
use Rattle.arguments.specs.Arguments.{Checked}
use Rattle.binary32.specs.Hex.{digit_value, read_digits}
use Rattle.line_form.specs.Forms.{bytes, Number, printed, fit_of, piece_of}
use Rattle.line_form.specs.Integers.{digits_after, read_positive, read_integer}
use Rattle.line_form.specs.Lines.{lines_of}
use Rattle.line_form.proofs.Every.{first_true, second_true, every_below, every_at}
use Rattle.frame_line.specs.Table.{rows, row_count, row_at, kind_at, form_at, turn_at, may_end, sort_of, sort_at}
use Rattle.frame_line.specs.Lines.{Line, kind_of, Proper, line_text, pass_line_of, LineRead, ill_formed, line, first_fit, read_line}
use Rattle.frame_line.specs.Checks.{refusal_of, number_outside, some_outside, outside_line}
use Rattle.frame_line.specs.declared.Kind.{Kind}
use Rattle.frame_line.specs.declared.PassKind.{PassKind}
use Rattle.frame_line.specs.declared.Sort.{Sort}
use Rattle.std.proofs.Common.{Option, None, Some}
use Rattle.frame_line.proofs.Shapes.{row_of, row_of_lem}
use Rattle.frame_line.proofs.Laws.{line_prints_back}
use Rattle.frame_check.specs.Checks.{checks_in_order, over_limit, twice_of, forbidden, may_run}
use Rattle.sizes.specs.Sizes.{pass_limit}
use Rattle.frame.specs.Frame.{Frame, Parts, RoledPass, part_of, adding, added, parts_from, no_parts, parts_of, checked_line, onward, step_by, step_with, step_line, over_in, twice_in, outside_in, forbidden_in}
use Rattle.join.specs.Rule.{Placed}
use Rattle.frame.specs.Text.{FirstCheck, is_first, too_many, is_wild, is_off_sheet, is_unknown, is_doubled, is_not_permitted, FirstFault, has_no_form, not_its_turn, fails, Passed, none_yet, one_more, Refused, too_long, at_line, missing, unjoined, Unjoined, are_apart, do_clash, goes_off}
use Rattle.frame.proofs.Adding.{below_or_not}
use Rattle.frame.proofs.Turn.{parts_more}
use Rattle.frame_laws.specs.Roles.{as_text, as_line, AsLines, MayStand, MightCome, OnlyBefore, NoPass, AsAt, OnlyAPass, AfterAs, NoAs, Begins, RoleHolds, PassChecked, NotYours, TenMeans, EachPermitted, DealersTexts}
use Rattle.frame_laws.proofs.Order.{rule, ruled, no_sort}
use Rattle.frame_laws.proofs.Back.{frame_prints_back}
use Rattle.frame_laws.proofs.Refusing.{refusals_mean, refused_so}

-- ---- "One line `(as dealer)`, `(as depot)` or `(as plant)`"

pub as_read : (r : Role) → read_line (as_text r) ≡ line (as_line r)
unfolding read_line first_fit fit_of piece_of digits_after read_positive read_integer digit_value read_digits rows
as_read Role.Plant = refl
as_read Role.Depot = refl
as_read Role.Dealer = refl

pub as_says : (r : Role) → kind_of (as_line r) ≡ Kind.As r
unfolding kind_at
as_says Role.Plant = refl
as_says Role.Depot = refl
as_says Role.Dealer = refl

-- whatever its numbers, since its form has room for none
as_printed : (r : Role) (numbers : List Number) → printed (form_at (13 + role_number r)) numbers ≡ as_text r
unfolding printed form_at row_at rows
as_printed Role.Plant numbers = refl
as_printed Role.Depot numbers = refl
as_printed Role.Dealer numbers = refl

pub as_proper : (r : Role) → Proper (as_line r)
as_proper r = (line_prints_back (as_text r) (as_line r) (as_read r)).proper

pub as_again : (r : Role) → line_text (as_line r) ≡ as_text r
unfolding line_text
as_again r = as_printed r []

-- the three texts are the three lines, and no other text says a role
pub as_lines : AsLines
unfolding line_text adding
as_lines r =
    record {
      read = as_read r;
      says = as_says r;
      written = as_again r;
      only = λ text l e k.
          let b = line_prints_back text l e in
          b.text_again ∙ ap (λ (n : ℕ). printed (form_at n) l.numbers) (row_of_lem l.row (Kind.As r) b.proper.few k) ∙ as_printed r l.numbers;
      role = λ p. ap (λ (k : Kind). (adding k [] p).role) (as_says r);
      passes = λ p. ap (λ (k : Kind). (adding k [] p).passes) (as_says r);
    }

-- no check of it fails
as_fine : (p : Parts) (r : Role) → checked_line p (as_line r) ≡ Ok tt
unfolding checked_line checks_in_order outside_line some_outside over_limit twice_of forbidden kind_at
as_fine p Role.Plant = refl
as_fine p Role.Depot = refl
as_fine p Role.Dealer = refl

-- ---- "may stand right before any pass"

abbrev is_pass : Kind → Bool
is_pass k = eqb (part_of k) 4

is_pass_lem : (kind : Kind) (k : PassKind) → kind ≡ Kind.Pass k → is_pass kind ≡ true
is_pass_lem kind k e = ap is_pass e

-- a turn leads to this stage
abbrev leads : ℕ → Option ℕ → Bool
leads to None = false
leads to (Some t) = eqb t to

leads_there : (to : ℕ) (o : Option ℕ) → leads to o ≡ true → o ≡ Some to
leads_there to None e = absurd (true≢false (sym e))
leads_there to (Some t) e = ap Some (eqb-true t to e)

-- a pass leads to stage 8, from stage 9 too, and from each other stage where it may come an as line leads to stage 9
before_rule : ℕ → ℕ → ℕ → Bool
before_rule s k t =
    cond (is_pass (kind_at k))
    (cond (eqb t 8)
    (cond (leads 8 (turn_at 9 k))
    (cond (eqb s 9) true (cond (leads 9 (turn_at s 13)) (cond (leads 9 (turn_at s 14)) (leads 9 (turn_at s 15)) false) false)) false) false) true

before_rule_lem : rule before_rule ≡ true
unfolding before_rule kind_at turn_at row_at rows
before_rule_lem = refl

module _ (stage to : ℕ) (l : Line) (few : l.row < row_count) (pass : is_pass (kind_of l) ≡ true) (turn : turn_at stage l.row ≡ Some to) where
  -- the rest of the rule
  abbrev as_too : Bool
  as_too = cond (leads 9 (turn_at stage 13)) (cond (leads 9 (turn_at stage 14)) (leads 9 (turn_at stage 15)) false) false

  abbrev pass_too : Bool
  pass_too = cond (leads 8 (turn_at 9 l.row)) (cond (eqb stage 9) true as_too) false

  by_rule : cond (eqb to 8) pass_too false ≡ true
  unfolding before_rule
  by_rule = rw pass at (ruled before_rule before_rule_lem stage l.row to few turn)

  behind_as : turn_at 9 l.row ≡ Some to
  behind_as =
      leads_there 8 (turn_at 9 l.row) (first_true (leads 8 (turn_at 9 l.row)) _ (second_true (eqb to 8) pass_too by_rule))
      ∙ ap Some (sym (eqb-true to 8 (first_true (eqb to 8) pass_too by_rule)))

  as_turns : (stage ≡ 9 → ⊥) → (r : Role) → turn_at stage (13 + role_number r) ≡ Some 9
  as_turns other r = go r
    where
      all : as_too ≡ true
      all = rw (ne_eqb stage 9 other) at (second_true (leads 8 (turn_at 9 l.row)) _ (second_true (eqb to 8) pass_too by_rule))

      two : cond (leads 9 (turn_at stage 14)) (leads 9 (turn_at stage 15)) false ≡ true
      two = second_true (leads 9 (turn_at stage 13)) _ all

      go : (r : Role) → turn_at stage (13 + role_number r) ≡ Some 9
      go Role.Plant = leads_there 9 (turn_at stage 13) (first_true (leads 9 (turn_at stage 13)) _ all)
      go Role.Depot = leads_there 9 (turn_at stage 14) (first_true (leads 9 (turn_at stage 14)) _ two)
      go Role.Dealer = leads_there 9 (turn_at stage 15) (second_true (leads 9 (turn_at stage 14)) _ two)

-- where the line leads
as_step : (stage : ℕ) (f : Frame) (r : Role)
    → step_line stage f (as_text r) ≡ step_by (turn_at stage (13 + role_number r)) (Ok tt) (f ++ (as_line r ∷ []))
unfolding step_line
as_step stage f r =
    ap (step_with stage f) (as_read r)
    ∙ ap (λ (c : Checked). step_by (turn_at stage (13 + role_number r)) c (f ++ (as_line r ∷ []))) (as_fine (parts_of f) r)

-- "may stand right before any pass"
pub may_stand : MayStand
may_stand stage to l k r proper is turn other =
    let pass = is_pass_lem (kind_of l) k is in
    let turns = as_turns stage to l proper.few pass turn other r in
    record {
      behind = 9;
      fine = λ f. as_step stage f r ∙ ap (λ (u : Option ℕ). step_by u (Ok tt) (f ++ (as_line r ∷ []))) turns;
      pass = behind_as stage to l proper.few pass turn;
    }

-- from wherever it may come an as line leads to stage 9, and there each pass leads to stage 8, from stage 9 too
passes_lead : ℕ → ℕ → Bool
passes_lead s k = cond (is_pass (kind_at k)) (cond (leads 8 (turn_at s k)) (leads 8 (turn_at 9 k)) false) true

nine_rule : ℕ → ℕ → ℕ → Bool
nine_rule s k t = cond (eqb (part_of (kind_at k)) 6) (cond (eqb t 9) (every_below row_count (passes_lead s)) false) true

nine_rule_lem : rule nine_rule ≡ true
unfolding nine_rule passes_lead kind_at turn_at row_at rows
nine_rule_lem = refl

module _ (stage to : ℕ) (r : Role) (turn : turn_at stage (13 + role_number r) ≡ Some to) where
  as_ruled : cond (eqb to 9) (every_below row_count (passes_lead stage)) false ≡ true
  unfolding nine_rule
  as_ruled = rw (ap part_of (as_says r)) at (ruled nine_rule nine_rule_lem stage (13 + role_number r) to (as_proper r).few turn)

  to_nine : to ≡ 9
  to_nine = eqb-true to 9 (first_true (eqb to 9) _ as_ruled)

  might_come : (l : Line) (k : PassKind) → l.row < row_count → kind_of l ≡ Kind.Pass k → MightCome stage 9 l
  unfolding passes_lead
  might_come l k few is =
      let both = rw (is_pass_lem (kind_of l) k is) at (every_at (passes_lead stage) row_count (second_true (eqb to 9) _ as_ruled) l.row few) in
      record {
        to = 8;
        without = leads_there 8 (turn_at stage l.row) (first_true (leads 8 (turn_at stage l.row)) _ both);
        pass = leads_there 8 (turn_at 9 l.row) (second_true (leads 8 (turn_at stage l.row)) _ both);
      }

-- an as line that passes has its turn
record AsPassed (stage last : ℕ) (r : Role) : Type 0 where
  turn : turn_at stage (13 + role_number r) ≡ Some last
  nine : last ≡ 9

as_passed : (stage last : ℕ) (f g : Frame) (r : Role) → step_line stage f (as_text r) ≡ onward last g → AsPassed stage last r
as_passed stage last f g r e = go (turn_at stage (13 + role_number r)) refl (sym (as_step stage f r) ∙ e)
  where
    go : (u : Option ℕ) → turn_at stage (13 + role_number r) ≡ u → step_by u (Ok tt) (f ++ (as_line r ∷ [])) ≡ onward last g → AsPassed stage last r
    go None t d = absurd (let z : ◌≡◌ {A = ℕ} 0 1 = cc in omega arith)
    go (Some to) t d = let reached : to ≡ last = cc in record { turn = t ∙ ap Some reached; nine = sym reached ∙ to_nine stage to r t }

-- so nothing but a pass that might have come without may come behind it
pub only_before : OnlyBefore
only_before stage behind f g r e l k proper is =
    let a = as_passed stage behind f g r e in
    subst (λ (s : ℕ). MightCome stage s l) (sym a.nine) (might_come stage behind r a.turn l k proper.few is)

-- ---- "holds until the next such line; without one it is plant"

role_kept : (k : Kind) (ns : List Number) (p : Parts) → ((r : Role) → k ≡ Kind.As r → ⊥) → (adding k ns p).role ≡ p.role
unfolding adding
role_kept (Kind.Opening o) ns p n = refl
role_kept Kind.Corner ns p n = refl
role_kept Kind.Label ns p n = refl
role_kept Kind.Patch ns p n = refl
role_kept Kind.Shade ns p n = refl
role_kept (Kind.As r) ns p n = absurd (n r refl)
role_kept (Kind.Pass q) ns p n = refl

roles_kept : (p : Parts) (ls : List Line) → NoAs ls → (parts_from p ls).role ≡ p.role
unfolding parts_from
roles_kept p [] n = refl
roles_kept p (l ∷ ls) n = roles_kept (added p l) ls n.1 ∙ role_kept (kind_of l) l.numbers p n.0

from_both : (p : Parts) (f g : Frame) → parts_from p (f ++ g) ≡ parts_from (parts_from p f) g
unfolding parts_from
from_both p [] g = refl
from_both p (l ∷ f) g = from_both (added p l) f g

as_adds : (p : Parts) (r : Role) → (added p (as_line r)).role ≡ r
unfolding adding
as_adds p r = ap (λ (k : Kind). (adding k [] p).role) (as_says r)

-- a line adds one pass at the end, or none
one_begins : (k : Kind) (ns : List Number) (p : Parts) → Begins p.passes (adding k ns p).passes
unfolding adding
one_begins (Kind.Opening o) ns p = record { others = []; are = sym (append-nil p.passes) }
one_begins Kind.Corner ns p = record { others = []; are = sym (append-nil p.passes) }
one_begins Kind.Label ns p = record { others = []; are = sym (append-nil p.passes) }
one_begins Kind.Patch ns p = record { others = []; are = sym (append-nil p.passes) }
one_begins Kind.Shade ns p = record { others = []; are = sym (append-nil p.passes) }
one_begins (Kind.As r) ns p = record { others = []; are = sym (append-nil p.passes) }
one_begins (Kind.Pass q) ns p = record { others = record { role = p.role; pass = pass_line_of q ns } ∷ []; are = refl }

all_begin : (p : Parts) (ls : List Line) → Begins p.passes (parts_from p ls).passes
unfolding parts_from
all_begin p [] = record { others = []; are = sym (append-nil p.passes) }
all_begin p (l ∷ ls) =
    let one = one_begins (kind_of l) l.numbers p in
    let rest = all_begin (added p l) ls in
    record {
      others = one.others ++ rest.others;
      are = rest.are ∙ ap (λ (qs : List RoledPass). qs ++ rest.others) one.are ∙ append_assoc p.passes one.others rest.others;
    }

-- "holds until the next such line; without one it is plant"
pub role_holds : RoleHolds
unfolding parts_of parts_from adding
role_holds =
    record {
      until_next =
          λ before between r n.
          ap (λ (p : Parts). p.role) (from_both no_parts before (as_line r ∷ between)) ∙ roles_kept (added (parts_of before) (as_line r)) between n
          ∙ as_adds (parts_of before) r;
      without = λ before n. roles_kept no_parts before n;
      runs =
          λ before l k is.
          ap (λ (p : Parts). p.passes) (parts_more before l) ∙ ap (λ (kind : Kind). (adding kind l.numbers (parts_of before)).passes) is;
      stays =
          λ before after.
          subst (Begins (parts_of before).passes) (sym (ap (λ (p : Parts). p.passes) (from_both no_parts before after)))
          (all_begin (parts_of before) after);
    }

-- ---- "Checks: 10, not yours, at the pass line, after number 3."

-- a number whose refusal, if it has one, is 3
abbrev is_ranged : Option Sort → Bool
is_ranged None = true
is_ranged (Some s) = eqb (refusal_of s) 3

all_ranged : ℕ → Bool
all_ranged k = cond (is_pass (kind_at k)) (every_below 5 (λ m. is_ranged (sort_at k m))) true

passes_ranged : every_below row_count all_ranged ≡ true
unfolding all_ranged kind_at sort_at sort_of row_at rows
passes_ranged = refl

module _ (n k : ℕ) (few : k < row_count) (pass : is_pass (kind_at k) ≡ true) where
  ranged_at : (m : ℕ) → is_ranged (sort_at k m) ≡ true
  unfolding all_ranged
  ranged_at m =
      let all : every_below 5 (λ i. is_ranged (sort_at k i)) ≡ true = rw pass at (every_at all_ranged row_count passes_ranged k few) in
      ⊎_elim (λ h. every_at (λ i. is_ranged (sort_at k i)) 5 all m h) (λ h. ap is_ranged (no_sort k m h)) (below_or_not m 5)

  number_passes : (r : ℕ) → eqb r 3 ≡ false → (s : Option Sort) → is_ranged s ≡ true → (x : Number) → number_outside r n s x ≡ false
  unfolding number_outside
  number_passes r other None e x = refl
  number_passes r other (Some s) e x = rw (eqb-true (refusal_of s) 3 e, other)

  -- so no other check of its numbers fails
  numbers_pass : (r : ℕ) → eqb r 3 ≡ false → (m : ℕ) (ns : List Number) → some_outside r n k m ns ≡ false
  unfolding some_outside
  numbers_pass r other m [] = refl
  numbers_pass r other m (x ∷ ns) = rw (number_passes r other (sort_at k m) (ranged_at m) x) (numbers_pass r other (suc m) ns)

-- what a pass line is asked
record PassAsked (p : Parts) (l : Line) (k : PassKind) : Type 0 where
  first : outside_in p l 1 ≡ false
  on : outside_in p l 4 ≡ false
  known : outside_in p l 5 ≡ false
  room : over_in p (kind_of l) ≡ leb pass_limit (length p.passes)
  once : twice_in p (kind_of l) l.numbers ≡ false
  permitted : forbidden_in p (kind_of l) ≡ not (may_run p.role k)

other_checks : (p : Parts) (l : Line) (k : PassKind) → Proper l → kind_of l ≡ Kind.Pass k → (r : ℕ) → eqb r 3 ≡ false → outside_in p l r ≡ false
unfolding outside_line
other_checks p l k proper is r d = numbers_pass (length p.corners) l.row proper.few (is_pass_lem (kind_of l) k is) r d 0 l.numbers

pass_asked : (p : Parts) (l : Line) (k : PassKind) → Proper l → kind_of l ≡ Kind.Pass k → PassAsked p l k
unfolding over_limit twice_of forbidden
pass_asked p l k proper is =
    record {
      first = other_checks p l k proper is 1 refl;
      on = other_checks p l k proper is 4 refl;
      known = other_checks p l k proper is 5 refl;
      room = ap (over_in p) is;
      once = ap (λ (kind : Kind). twice_in p kind l.numbers) is;
      permitted = ap (forbidden_in p) is;
    }

-- 2, 3 and 10, in this order
pub pass_checked : PassChecked
unfolding checked_line checks_in_order
pass_checked p l k proper is =
    let a = pass_asked p l k proper is in
    rw (a.first, a.room, a.on, a.known, a.once, a.permitted)

-- ---- "After it anything but a pass is number 1, as is the end."

-- the last of some lines that pass
last_step : {stage last : ℕ} {f g : Frame} (texts : List (List ℕ)) (r : Role) → Passed stage f (texts ++ (as_text r ∷ [])) last g → last ≡ 9
last_step {stage} {last} {f} {g} [] r (one_more e none_yet) = (as_passed stage last f g r e).nine
last_step (t ∷ texts) r (one_more e p) = last_step texts r p

-- from stage 9 a pass alone has a turn
abbrev is_nowhere : Option ℕ → Bool
is_nowhere None = true
is_nowhere (Some t) = false

nowhere_none : (o : Option ℕ) → is_nowhere o ≡ true → o ≡ None
nowhere_none None e = refl
nowhere_none (Some t) e = absurd (true≢false (sym e))

only_passes : ℕ → Bool
only_passes k = cond (is_pass (kind_at k)) true (is_nowhere (turn_at 9 k))

only_passes_lem : every_below row_count only_passes ≡ true
unfolding only_passes kind_at turn_at row_at rows
only_passes_lem = refl

not_pass : (kind : Kind) → ((k : PassKind) → kind ≡ Kind.Pass k → ⊥) → is_pass kind ≡ false
not_pass (Kind.Opening o) n = refl
not_pass Kind.Corner n = refl
not_pass Kind.Label n = refl
not_pass Kind.Patch n = refl
not_pass Kind.Shade n = refl
not_pass (Kind.As r) n = refl
not_pass (Kind.Pass q) n = absurd (n q refl)

no_turn : (k : ℕ) → k < row_count → is_pass (kind_at k) ≡ false → turn_at 9 k ≡ None
unfolding only_passes
no_turn k few n = nowhere_none (turn_at 9 k) (rw n at (every_at only_passes row_count only_passes_lem k few))

-- behind an as line what is no pass fails the first check
fault_behind : (f : Frame) (text : List ℕ) → NoPass (read_line text) → FirstFault 9 f (read_line text) Refusal.Malformed
fault_behind f text n = go (read_line text) refl n
  where
    go : (l : LineRead) → read_line text ≡ l → NoPass l → FirstFault 9 f l Refusal.Malformed
    go ill_formed e none = has_no_form
    go (line l) e none = not_its_turn (no_turn l.row (line_prints_back text l e).proper.few (not_pass (kind_of l) none))

nine_no_end : may_end 9 ≡ false
unfolding may_end
nine_no_end = refl

module _ (text : List ℕ) (n : ℕ) (a : AsAt text n) where
  abbrev texts : List (List ℕ)
  texts = lines_of text

  upto : take n texts ≡ take a.index texts ++ (as_text a.role ∷ [])
  upto =
      ap (λ (k : ℕ). take k texts) a.number ∙ take-suc texts a.index [] a.inside
      ∙ ap (λ (t : List ℕ). take a.index texts ++ (t ∷ [])) a.reads

  at_nine : a.stage ≡ 9
  at_nine = last_step (take a.index texts) a.role (subst (λ (ts : List (List ℕ)). Passed 0 [] ts a.stage a.frame) upto a.passed)

  passed_nine : Passed 0 [] (take n texts) 9 a.frame
  passed_nine = subst (λ (stage : ℕ). Passed 0 [] (take n texts) stage a.frame) at_nine a.passed

  only_a_pass : OnlyAPass text n
  only_a_pass =
      record {
        other = λ inside none.
            refused_so text Refusal.Malformed (suc n)
            (at_line n 9 a.frame Refusal.Malformed a.bytes inside passed_nine (fault_behind a.frame (get_or texts n []) none));
        end = λ last.
            let all : take n texts ≡ texts = take_all n texts (omega (arith, last)) in
            refused_so text Refusal.Malformed (suc n)
            (subst (λ (k : ℕ). Refused text Refusal.Malformed (suc k)) (sym last)
            (missing 9 a.frame a.bytes (subst (λ (ts : List (List ℕ)). Passed 0 [] ts 9 a.frame) all passed_nine) nine_no_end));
      }

-- "After it anything but a pass is number 1, as is the end."
pub after_as : AfterAs
after_as text n a = only_a_pass text n a

-- ---- what 10 means

-- a pass alone is asked who runs it
record AsksPass (role : Role) (kind : Kind) : Type 0 where
  pass : PassKind
  is : kind ≡ Kind.Pass pass
  not_permitted : may_run role pass ≡ false

asks_pass : (role : Role) (kind : Kind) → forbidden role kind ≡ true → AsksPass role kind
unfolding forbidden
asks_pass role (Kind.Opening o) e = absurd (true≢false (sym e))
asks_pass role Kind.Corner e = absurd (true≢false (sym e))
asks_pass role Kind.Label e = absurd (true≢false (sym e))
asks_pass role Kind.Patch e = absurd (true≢false (sym e))
asks_pass role Kind.Shade e = absurd (true≢false (sym e))
asks_pass role (Kind.As s) e = absurd (true≢false (sym e))
asks_pass role (Kind.Pass k) e = record { pass = k; is = refl; not_permitted = not-true (may_run role k) e }

-- where that is the first check that fails
record TenFirst (outside : ℕ → Bool) (over twice forbids : Bool) : Type 0 where
  room : over ≡ false
  ranges : outside 3 ≡ false
  asked : forbids ≡ true

ten_first : {outside : ℕ → Bool} {over twice forbids : Bool} {r : Refusal} → FirstCheck outside over twice forbids r → r ≡ Refusal.NotPermitted
    → TenFirst outside over twice forbids
ten_first (is_first a) d = absurd (let z : ◌≡◌ {A = ℕ} 0 1 = cc in omega arith)
ten_first (too_many a b) d = absurd (let z : ◌≡◌ {A = ℕ} 0 1 = cc in omega arith)
ten_first (is_wild a b c) d = absurd (let z : ◌≡◌ {A = ℕ} 0 1 = cc in omega arith)
ten_first (is_off_sheet a b c e) d = absurd (let z : ◌≡◌ {A = ℕ} 0 1 = cc in omega arith)
ten_first (is_unknown a b c e g) d = absurd (let z : ◌≡◌ {A = ℕ} 0 1 = cc in omega arith)
ten_first (is_doubled a b c e g h) d = absurd (let z : ◌≡◌ {A = ℕ} 0 1 = cc in omega arith)
ten_first (is_not_permitted a b c e g h i) d = record { room = b; ranges = c; asked = i }

record TenFault (stage : ℕ) (f : Frame) (text : List ℕ) : Type 0 where
  pass : Line
  read : read_line text ≡ line pass
  to : ℕ
  turn : turn_at stage pass.row ≡ Some to
  first : TenFirst (outside_in (parts_of f) pass) (over_in (parts_of f) (kind_of pass)) (twice_in (parts_of f) (kind_of pass) pass.numbers)
      (forbidden_in (parts_of f) (kind_of pass))

ten_fault : (stage : ℕ) (f : Frame) (text : List ℕ) {l : LineRead} {r : Refusal} → read_line text ≡ l → FirstFault stage f l r
    → r ≡ Refusal.NotPermitted → TenFault stage f text
ten_fault stage f text e has_no_form d = absurd (let z : ◌≡◌ {A = ℕ} 0 1 = cc in omega arith)
ten_fault stage f text e (not_its_turn t) d = absurd (let z : ◌≡◌ {A = ℕ} 0 1 = cc in omega arith)
ten_fault stage f text e (fails {l = m} {to = to} t c) d = record { pass = m; read = e; to = to; turn = t; first = ten_first c d }

-- two sets that are not joined have other numbers
never_ten : {first second : List Placed} {r : Refusal} → Unjoined first second r → r ≡ Refusal.NotPermitted → ⊥
never_ten (are_apart m) d = absurd (let z : ◌≡◌ {A = ℕ} 0 1 = cc in omega arith)
never_ten (do_clash m) d = absurd (let z : ◌≡◌ {A = ℕ} 0 1 = cc in omega arith)
never_ten (goes_off m) d = absurd (let z : ◌≡◌ {A = ℕ} 0 1 = cc in omega arith)

ten_so : (text : List ℕ) (m : ℕ) → NotYours text m → Refused text Refusal.NotPermitted m
ten_so text m y =
    let proper = (line_prints_back (get_or (lines_of text) y.index []) y.pass y.read).proper in
    let a = pass_asked (parts_of y.frame) y.pass y.kind proper y.is_pass in
    let room = a.room ∙ lt-leb pass_limit (length (parts_of y.frame).passes) y.room in
    let first = is_not_permitted a.first room y.ranges a.on a.known a.once (a.permitted ∙ ap not y.not_permitted) in
    subst (Refused text Refusal.NotPermitted) (sym y.number)
    (at_line y.index y.stage y.frame Refusal.NotPermitted y.bytes y.inside y.passed
    (subst (λ (l : LineRead). FirstFault y.stage y.frame l Refusal.NotPermitted) (sym y.read) (fails y.turn first)))

so_ten : (text : List ℕ) {r : Refusal} {m : ℕ} → Refused text r m → r ≡ Refusal.NotPermitted → NotYours text m
so_ten text (too_long h) d = absurd (let z : ◌≡◌ {A = ℕ} 0 1 = cc in omega arith)
so_ten text (at_line n stage f r h inside p w) d =
    let t = ten_fault stage f (get_or (lines_of text) n []) refl w d in
    let proper = (line_prints_back (get_or (lines_of text) n []) t.pass t.read).proper in
    let k = asks_pass (parts_of f).role (kind_of t.pass) t.first.asked in
    let a = pass_asked (parts_of f) t.pass k.pass proper k.is in
    record {
      bytes = h;
      index = n;
      number = refl;
      inside = inside;
      stage = stage;
      frame = f;
      passed = p;
      pass = t.pass;
      kind = k.pass;
      read = t.read;
      is_pass = k.is;
      to = t.to;
      turn = t.turn;
      room = leb-false pass_limit (length (parts_of f).passes) (sym a.room ∙ t.first.room);
      ranges = t.first.ranges;
      not_permitted = k.not_permitted;
    }
so_ten text (missing stage f h p k) d = absurd (let z : ◌≡◌ {A = ℕ} 0 1 = cc in omega arith)
so_ten text (unjoined n stage f r h p k inside reads u) d = absurd (never_ten u d)

-- "10, not yours, at the pass line, after number 3": so, and only so
pub ten_means : TenMeans
ten_means text m = (
  λ e. so_ten text (refusals_mean text Refusal.NotPermitted m e) refl,
  λ y. refused_so text Refusal.NotPermitted m (ten_so text m y),
)

-- ---- "A dealer may run bare grow and bare fill; a depot any grow and fill; the plant all."

-- the bare lines
module _ (text : List ℕ) (l : Line) (e : read_line text ≡ line l) where
  -- the text of a line of a kind, by its row
  of_kind : (kind : Kind) → kind_of l ≡ kind → text ≡ printed (form_at (row_of kind)) l.numbers
  unfolding line_text
  of_kind kind k =
      let b = line_prints_back text l e in
      b.text_again ∙ ap (λ (n : ℕ). printed (form_at n) l.numbers) (row_of_lem l.row kind b.proper.few k)

  -- a dealer's pass is one of the two texts
  dealers : (k : PassKind) → kind_of l ≡ Kind.Pass k → may_run Role.Dealer k ≡ true → (text ≡ bytes "(grow)\n") ⊎ (text ≡ bytes "(fill)\n")
  unfolding may_run printed form_at row_at rows
  dealers PassKind.BareGrow k m = inl (of_kind (Kind.Pass PassKind.BareGrow) k)
  dealers PassKind.Grow k m = absurd (true≢false (sym m))
  dealers PassKind.BareFill k m = inr (of_kind (Kind.Pass PassKind.BareFill) k)
  dealers PassKind.Fill k m = absurd (true≢false (sym m))
  dealers PassKind.Local k m = absurd (true≢false (sym m))

  -- and a line that is read from one of the two is a dealer's
  same_kind : (row : ℕ) (kind k : PassKind) → read_line text ≡ line (record { row = row; numbers = [] }) → kind_at row ≡ Kind.Pass kind
      → kind_of l ≡ Kind.Pass k → may_run Role.Dealer kind ≡ true → may_run Role.Dealer k ≡ true
  same_kind row kind k r w q m =
      let is : record { row = row; numbers = [] } ≡ l = cc in
      let one : ◌≡◌ {A = Kind} (Kind.Pass kind) (Kind.Pass k) = sym w ∙ ap kind_of is ∙ q in
      let same : kind ≡ k = cc in
      sym (ap (may_run Role.Dealer) same) ∙ m

-- ---- so a dealer may run the texts `(grow)` and `(fill)`, and no other
grow_read : read_line (bytes "(grow)\n") ≡ line (record { row = 6; numbers = [] })
unfolding read_line first_fit fit_of piece_of digits_after read_positive read_integer digit_value read_digits rows
grow_read = refl

fill_read : read_line (bytes "(fill)\n") ≡ line (record { row = 8; numbers = [] })
unfolding read_line first_fit fit_of piece_of digits_after read_positive read_integer digit_value read_digits rows
fill_read = refl

pub dealers_texts : DealersTexts
unfolding kind_at may_run
dealers_texts text l k e q = (
  dealers text l e k q,
  λ t. ⊎_elim
      (λ g. same_kind text l e 6 PassKind.BareGrow k (ap read_line g ∙ grow_read) refl q refl)
      (λ f. same_kind text l e 8 PassKind.BareFill k (ap read_line f ∙ fill_read) refl q refl) t,
)

-- so each pass of an accepted frame is one that its role may run
pub each_permitted : EachPermitted
each_permitted text f e = (frame_prints_back text f e).within.permitted
