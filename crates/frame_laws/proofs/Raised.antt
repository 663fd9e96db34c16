-- A frame with a depot's or the plant's line in place of any number of a dealer's: it is accepted too, and starts the same calls on the same sheet.
-- Assumes nothing.
use mathlib.Core.Path.{◌≡◌, refl, ap, ap₂, ◌∙◌}
use mathlib.Core.Bool.{Bool, true, cond}
use mathlib.Core.List.{List, [], ◌∷◌, ◌++◌, map}
use Prim.Native.Nat.{ℕ, suc, ◌+◌, ◌≤◌}
use native.Mathlib.Omega.{arith}
use lib.ListN.{length, length-append}
use Rattle.roles.specs.Roles.{role_number}
use Rattle.roles.specs.declared.Role.{Role}
use Rattle.join.specs.Rule.{All}
use Rattle.line_form.specs.Forms.{Number}
use Rattle.frame_line.specs.Table.{rows, row_at, turn_at}
use Rattle.frame_line.specs.Lines.{Line, kind_of, line_text, corner_line_of, label_line_of, LabelLine, shade_line_of, pass_line_of, pass_kind}
use Rattle.frame_line.specs.Checks.{some_outside, outside_line}
use Rattle.frame_line.specs.declared.Kind.{Kind}
use Rattle.frame_line.specs.declared.PassKind.{PassKind}
use Rattle.frame_check.specs.Checks.{may_run}
use Rattle.frame.specs.Frame.{Frame, Parts, RoledPass, opened, adding, added, parts_from, no_parts, parts_of, join_of, given_of}
use Rattle.frame.specs.ReadFrame.{xs_of, ys_of, pitches_of, shades_of, sheet_of, settings_of}
use Rattle.frame.specs.Text.{frame_text, InOrder, ends, next, InRange, Permitted, WithinLimits}
use Rattle.frame_laws.specs.Calls.{call_of, calls_of}
use Rattle.frame_laws.specs.Roles.{as_text, as_line, Raised, none_left, same, as_depot, as_plant, RaisedStarts, RaisedAccepted}
use Rattle.frame_laws.proofs.Roles.{as_says, as_proper, as_again}
use Rattle.frame_laws.proofs.Back.{frame_prints_back, frame_reads_back}

-- ---- the lines

-- the rows of the as lines have the same turns
dealer_turns : (stage : ℕ) (r : Role) → turn_at stage (13 + role_number r) ≡ turn_at stage 15
unfolding turn_at row_at rows
dealer_turns stage Role.Plant = refl
dealer_turns stage Role.Depot = refl
dealer_turns stage Role.Dealer = refl

raised_order : {stage : ℕ} {f g : Frame} → Raised f g → InOrder stage f → InOrder stage g
raised_order none_left (ends e) = ends e
raised_order (same l r) (next m t o) = next m t (raised_order r o)
raised_order {stage} (as_depot r) (next m t o) = next (as_line Role.Depot) (dealer_turns stage Role.Depot ∙ t) (raised_order r o)
raised_order {stage} (as_plant r) (next m t o) = next (as_line Role.Plant) (dealer_turns stage Role.Plant ∙ t) (raised_order r o)

-- an as line has no numbers
as_in_range : (n : ℕ) (r : Role) → InRange n (as_line r)
unfolding outside_line some_outside
as_in_range n r = record { proper = as_proper r; first = refl; ranges = refl; on_sheet_holds = refl; known = refl }

raised_range : (n : ℕ) {f g : Frame} → Raised f g → All (InRange n) f → All (InRange n) g
raised_range n none_left a = a
raised_range n (same l r) a = (a.0, raised_range n r a.1)
raised_range n (as_depot r) a = (as_in_range n Role.Depot, raised_range n r a.1)
raised_range n (as_plant r) a = (as_in_range n Role.Plant, raised_range n r a.1)

-- a dealer's line is the longest
as_short : (r : Role) → length (line_text (as_line r)) ≤ length (line_text (as_line Role.Dealer))
as_short r = rw (as_again r, as_again Role.Dealer) (go r)
  where
    go : (r : Role) → length (as_text r) ≤ 12
    go Role.Plant = omega arith
    go Role.Depot = omega arith
    go Role.Dealer = omega arith

one_short : (l m : Line) (f g : Frame) → length (line_text m) ≤ length (line_text l) → length (frame_text g) ≤ length (frame_text f)
    → length (frame_text (m ∷ g)) ≤ length (frame_text (l ∷ f))
unfolding frame_text
one_short l m f g h i = omega (arith, h, i, length-append (line_text l) (frame_text f), length-append (line_text m) (frame_text g))

raised_short : {f g : Frame} → Raised f g → length (frame_text g) ≤ length (frame_text f)
raised_short none_left = omega arith
raised_short (same {f} {g} l r) = one_short l l f g (omega arith) (raised_short r)
raised_short (as_depot {f} {g} r) = one_short (as_line Role.Dealer) (as_line Role.Depot) f g (as_short Role.Depot) (raised_short r)
raised_short (as_plant {f} {g} r) = one_short (as_line Role.Dealer) (as_line Role.Plant) f g (as_short Role.Plant) (raised_short r)

-- ---- the parts

-- what the first role may run, the second may
abbrev MayMore : Role → Role → Type 0
MayMore r s = (k : PassKind) → may_run r k ≡ true → may_run s k ≡ true

depot_more : MayMore Role.Dealer Role.Depot
unfolding may_run
depot_more PassKind.BareGrow e = refl
depot_more PassKind.Grow e = refl
depot_more PassKind.BareFill e = refl
depot_more PassKind.Fill e = refl
depot_more PassKind.Local e = e

plant_more : MayMore Role.Dealer Role.Plant
unfolding may_run
plant_more k e = refl

-- the same pass lines, run by roles that may run as much
abbrev SamePasses : List RoledPass → List RoledPass → Type 0
SamePasses [] [] = Unit {0}
SamePasses [] (r ∷ rs) = ⊥
SamePasses (q ∷ qs) [] = ⊥
SamePasses (q ∷ qs) (r ∷ rs) = (r.pass ≡ q.pass) × MayMore q.role r.role × SamePasses qs rs

passes_more : (qs rs : List RoledPass) (q r : RoledPass) → SamePasses qs rs → r.pass ≡ q.pass → MayMore q.role r.role
    → SamePasses (qs ++ (q ∷ [])) (rs ++ (r ∷ []))
passes_more [] [] q r s e m = (e, m, tt)
passes_more [] (b ∷ rs) q r s e m = absurd s
passes_more (a ∷ qs) [] q r s e m = absurd s
passes_more (a ∷ qs) (b ∷ rs) q r s e m = (s.0, s.1, passes_more qs rs q r s.2 e m)

passes_many : (qs rs : List RoledPass) → SamePasses qs rs → length rs ≡ length qs
passes_many [] [] s = refl
passes_many [] (b ∷ rs) s = absurd s
passes_many (a ∷ qs) [] s = absurd s
passes_many (a ∷ qs) (b ∷ rs) s = ap suc (passes_many qs rs s.2)

passes_permitted : (qs rs : List RoledPass) → SamePasses qs rs → All Permitted qs → All Permitted rs
passes_permitted [] [] s a = tt
passes_permitted [] (b ∷ rs) s a = absurd s
passes_permitted (q ∷ qs) [] s a = absurd s
passes_permitted (q ∷ qs) (r ∷ rs) s a = (s.1 (pass_kind r.pass) (rw s.0 a.0), passes_permitted qs rs s.2 a.1)

record SameButRoles (p q : Parts) : Type 0 where
  opening : q.opening ≡ p.opening
  corners : q.corners ≡ p.corners
  labels : q.labels ≡ p.labels
  patched : q.patched ≡ p.patched
  second : q.second ≡ p.second
  shades : q.shades ≡ p.shades
  role : MayMore p.role q.role
  passes : SamePasses p.passes q.passes

same_line : (k : Kind) (ns : List Number) (p q : Parts) → SameButRoles p q → SameButRoles (adding k ns p) (adding k ns q)
unfolding adding
same_line (Kind.Opening o) ns p q s =
    record {
      opening = ap (opened o ns) s.opening;
      corners = s.corners;
      labels = s.labels;
      patched = s.patched;
      second = s.second;
      shades = s.shades;
      role = s.role;
      passes = s.passes;
    }
same_line Kind.Corner ns p q s =
    record {
      opening = s.opening;
      corners = ap (λ (l : List _). l ++ (corner_line_of ns ∷ [])) s.corners;
      labels = s.labels;
      patched = s.patched;
      second = s.second;
      shades = s.shades;
      role = s.role;
      passes = s.passes;
    }
same_line Kind.Label ns p q s =
    let l = label_line_of ns in
    record {
      opening = s.opening;
      corners = s.corners;
      labels = ap₂ (λ (t : Bool) (x : List LabelLine). cond t x (x ++ (l ∷ []))) s.patched s.labels;
      patched = s.patched;
      second = ap₂ (λ (t : Bool) (x : List LabelLine). cond t (x ++ (l ∷ [])) x) s.patched s.second;
      shades = s.shades;
      role = s.role;
      passes = s.passes;
    }
same_line Kind.Patch ns p q s =
    record {
      opening = s.opening;
      corners = s.corners;
      labels = s.labels;
      patched = refl;
      second = s.second;
      shades = s.shades;
      role = s.role;
      passes = s.passes;
    }
same_line Kind.Shade ns p q s =
    record {
      opening = s.opening;
      corners = s.corners;
      labels = s.labels;
      patched = s.patched;
      second = s.second;
      shades = ap (λ (l : List _). l ++ (shade_line_of ns ∷ [])) s.shades;
      role = s.role;
      passes = s.passes;
    }
same_line (Kind.As r) ns p q s =
    record {
      opening = s.opening;
      corners = s.corners;
      labels = s.labels;
      patched = s.patched;
      second = s.second;
      shades = s.shades;
      role = λ k e. e;
      passes = s.passes;
    }
same_line (Kind.Pass k) ns p q s =
    record {
      opening = s.opening;
      corners = s.corners;
      labels = s.labels;
      patched = s.patched;
      second = s.second;
      shades = s.shades;
      role = s.role;
      passes =
          let l = pass_line_of k ns in
          passes_more p.passes q.passes (record { role = p.role; pass = l }) (record { role = q.role; pass = l }) s.passes refl s.role;
    }

-- a line of a role that may run as much
as_more : (r t : Role) → MayMore r t → (p q : Parts) → SameButRoles p q → SameButRoles (added p (as_line r)) (added q (as_line t))
unfolding adding
as_more r t m p q s =
    rw (as_says r, as_says t)
    (record {
      opening = s.opening;
      corners = s.corners;
      labels = s.labels;
      patched = s.patched;
      second = s.second;
      shades = s.shades;
      role = m;
      passes = s.passes;
    })

raised_parts : {f g : Frame} → Raised f g → (p q : Parts) → SameButRoles p q → SameButRoles (parts_from p f) (parts_from q g)
unfolding parts_from
raised_parts none_left p q s = s
raised_parts (same l r) p q s = raised_parts r (added p l) (added q l) (same_line (kind_of l) l.numbers p q s)
raised_parts (as_depot r) p q s =
    raised_parts r (added p (as_line Role.Dealer)) (added q (as_line Role.Depot)) (as_more Role.Dealer Role.Depot depot_more p q s)
raised_parts (as_plant r) p q s =
    raised_parts r (added p (as_line Role.Dealer)) (added q (as_line Role.Plant)) (as_more Role.Dealer Role.Plant plant_more p q s)

same_start : SameButRoles no_parts no_parts
same_start =
    record {
      opening = refl;
      corners = refl;
      labels = refl;
      patched = refl;
      second = refl;
      shades = refl;
      role = λ k e. e;
      passes = tt;
    }

module _ (f g : Frame) (r : Raised f g) where
  alike : SameButRoles (parts_of f) (parts_of g)
  unfolding parts_of
  alike = raised_parts r no_parts no_parts same_start

  raised_within : WithinLimits f → WithinLimits g
  raised_within w =
      record {
        bytes = omega (arith, w.bytes, raised_short r);
        order = raised_order r w.order;
        numbers = rw alike.corners (raised_range (length (parts_of f).corners) r w.numbers);
        corners = rw alike.corners w.corners;
        passes = omega (arith, w.passes, passes_many (parts_of f).passes (parts_of g).passes alike.passes);
        once = rw alike.labels w.once;
        second_once = rw alike.second w.second_once;
        shaded_once = rw alike.shades w.shaded_once;
        permitted = passes_permitted (parts_of f).passes (parts_of g).passes alike.passes w.permitted;
        joins = rw (alike.patched, alike.labels, alike.second) w.joins;
      }

  raised_shades : shades_of g ≡ shades_of f
  unfolding shades_of
  raised_shades = rw (alike.corners, alike.shades)

  raised_settings : settings_of g ≡ settings_of f
  unfolding settings_of
  raised_settings = rw alike.opening

  same_calls : (qs rs : List RoledPass) → SamePasses qs rs → map (λ q. call_of g q.pass) rs ≡ map (λ q. call_of f q.pass) qs
  same_calls [] [] s = refl
  same_calls [] (b ∷ rs) s = absurd s
  same_calls (a ∷ qs) [] s = absurd s
  same_calls (a ∷ qs) (b ∷ rs) s = ap₂ ◌∷◌ (rw (raised_settings, raised_shades, s.0)) (same_calls qs rs s.2)

  pub raised_starts : WithinLimits f → RaisedStarts f g
  unfolding xs_of ys_of pitches_of sheet_of given_of join_of calls_of
  raised_starts w =
      record {
        is_accepted = frame_reads_back g (raised_within w);
        corners = rw alike.corners;
        shades = raised_shades;
        settings = raised_settings;
        sheet = rw (alike.patched, alike.labels, alike.second);
        calls = same_calls (parts_of f).passes (parts_of g).passes alike.passes;
      }

-- "A frame accepted with a dealer's line is accepted with a depot's or the plant's in its place"
pub raised_accepted : RaisedAccepted
raised_accepted text f g e r = raised_starts f g r (frame_prints_back text f e).within
