-- Laws of the verdict: it is accepted exactly if some labelled cardinal neighbour has an accepted edge, none present exactly if no
-- cardinal neighbour is labelled, and refused exactly in the other case; a candidate passes exactly in the first two; where the
-- same is seen, as through the sheets of two frames with paired corners, the verdict is the same. Assumes nothing.
use Rattle.std.specs.Prelude.{Option, Some, None}
use mathlib.Core.Path.{◌≡◌, refl, sym, ap, ap₂, ◌∙◌}
use mathlib.Core.Bool.{Bool, true, false, true≢false}
use mathlib.Core.List.Memᴰ
use mathlib.Core.List.{List, [], ◌∷◌, Memᴰ}
use mathlib.Core.Logic.{◌↔◌, ◌⊎◌, inl, inr, ⊎_elim}
use Prim.Native.Nat.{ℕ, ◌<◌}
use native.Mathlib.Omega.{arith}
use lib.ListN.{length}
use Rattle.sheet.specs.Cells.{moved}
use Rattle.sheet.specs.Corners.{CornerLists, corner_of, seen_of, Given}
use Rattle.sheet.specs.Pairing.{PairedCorners, PairedSheets}
use Rattle.sheet.proofs.Pairing.{seen_paired}
use Rattle.sheet.specs.declared.Cell.{Cell}
use Rattle.sheet.specs.declared.Offset.{Offset}
use Rattle.sheet.specs.declared.Corner.{Corner}
use Rattle.positions_policy.specs.Edge.{cardinal_offsets, edge_ok, edge_to, edge_at, followed_by, tried, verdict_of, passes, AcceptedEdge, NoNeighbour}
use Rattle.positions_policy.proofs.Search.{edge_none, edge_accepted}
use Rattle.positions_policy.specs.declared.Tolerances.{Tolerances}
use Rattle.positions_policy.specs.declared.EdgeVerdict.{EdgeVerdict}
use Rattle.positions_policy.specs.declared.EdgeVerdict.TheVariants.{Accepted, Refused, NonePresent}

-- two different verdicts are not equal
refused_accepted : Refused ≡ Accepted → ⊥
refused_accepted e = let z : ◌≡◌ {A = ℕ} 0 1 = cc in omega arith

none_accepted : NonePresent ≡ Accepted → ⊥
none_accepted e = let z : ◌≡◌ {A = ℕ} 0 1 = cc in omega arith

accepted_none : Accepted ≡ NonePresent → ⊥
accepted_none e = let z : ◌≡◌ {A = ℕ} 0 1 = cc in omega arith

refused_none : Refused ≡ NonePresent → ⊥
refused_none e = let z : ◌≡◌ {A = ℕ} 0 1 = cc in omega arith

-- ---- an edge followed by others

accepted_one : (v later : EdgeVerdict) → followed_by v later ≡ Accepted → (v ≡ Accepted) ⊎ (later ≡ Accepted)
unfolding followed_by
accepted_one Accepted later e = inl refl
accepted_one Refused Accepted e = inr refl
accepted_one Refused Refused e = absurd (refused_accepted e)
accepted_one Refused NonePresent e = absurd (refused_accepted e)
accepted_one NonePresent later e = inr e

one_accepted : (v later : EdgeVerdict) → (v ≡ Accepted) ⊎ (later ≡ Accepted) → followed_by v later ≡ Accepted
unfolding followed_by
one_accepted Accepted later s = refl
one_accepted Refused Accepted s = refl
one_accepted Refused Refused s = ⊎_elim (λ e. e) (λ e. e) s
one_accepted Refused NonePresent s = ⊎_elim (λ e. e) (λ e. absurd (none_accepted e)) s
one_accepted NonePresent later s = ⊎_elim (λ e. absurd (none_accepted e)) (λ e. e) s

none_both : (v later : EdgeVerdict) → followed_by v later ≡ NonePresent → (v ≡ NonePresent) × (later ≡ NonePresent)
unfolding followed_by
none_both Accepted later e = absurd (accepted_none e)
none_both Refused Accepted e = absurd (accepted_none e)
none_both Refused Refused e = absurd (refused_none e)
none_both Refused NonePresent e = absurd (refused_none e)
none_both NonePresent later e = (refl, e)

both_none : (v later : EdgeVerdict) → v ≡ NonePresent → later ≡ NonePresent → followed_by v later ≡ NonePresent
unfolding followed_by
both_none v later e f = rw (e, f)

-- ---- the edges at some offsets

-- one of the edges is accepted
record SomeEdge (edge : Offset → EdgeVerdict) (os : List Offset) : Type 0 where
  offset : Offset
  there : Memᴰ offset os
  accepted : edge offset ≡ Accepted

module _ (edge : Offset → EdgeVerdict) where
  tried_some : (os : List Offset) → tried edge os ≡ Accepted → SomeEdge edge os
  unfolding tried
  tried_some [] e = absurd (none_accepted e)
  tried_some (o ∷ os) e =
      ⊎_elim
      (λ f. record { offset = o; there = Memᴰ.head refl; accepted = f })
      (λ f. let s = tried_some os f in record { offset = s.offset; there = Memᴰ.tail s.there; accepted = s.accepted })
      (accepted_one (edge o) (tried edge os) e)

  some_tried : (os : List Offset) (o : Offset) → Memᴰ o os → edge o ≡ Accepted → tried edge os ≡ Accepted
  unfolding tried
  some_tried [] o m e = absurd (Memᴰ.not-nil m)
  some_tried (p ∷ os) o m e =
      one_accepted (edge p) (tried edge os)
      (⊎_elim (λ f. inl (ap edge (sym f) ∙ e)) (λ n. inr (some_tried os o n e)) (Memᴰ.cases_cons m))

  tried_none : (os : List Offset) → tried edge os ≡ NonePresent → (o : Offset) → Memᴰ o os → edge o ≡ NonePresent
  unfolding tried
  tried_none [] e o m = absurd (Memᴰ.not-nil m)
  tried_none (p ∷ os) e o m =
      let both = none_both (edge p) (tried edge os) e in
      ⊎_elim (λ f. ap edge f ∙ both.0) (λ n. tried_none os both.1 o n) (Memᴰ.cases_cons m)

  none_tried : (os : List Offset) → ((o : Offset) → Memᴰ o os → edge o ≡ NonePresent) → tried edge os ≡ NonePresent
  unfolding tried
  none_tried [] h = refl
  none_tried (o ∷ os) h =
      both_none (edge o) (tried edge os) (h o (Memᴰ.head refl)) (none_tried os (λ p m. h p (Memᴰ.tail m)))

-- ---- the verdict

module _ (tol : Tolerances) (candidate : Corner) where
  -- an accepted edge has a neighbour
  record Beside (s : Option Corner) : Type 0 where
    neighbour : Corner
    labelled : s ≡ Some neighbour
    accepted : edge_ok candidate neighbour tol.cell_size tol.edge_length_tol ≡ true

  accepted_beside : (s : Option Corner) → edge_to tol candidate s ≡ Accepted → Beside s
  unfolding edge_to
  accepted_beside None e = absurd (none_accepted e)
  accepted_beside (Some neighbour) e = go (edge_ok candidate neighbour tol.cell_size tol.edge_length_tol) refl
    where
      go : (b : Bool) → edge_ok candidate neighbour tol.cell_size tol.edge_length_tol ≡ b → Beside (Some neighbour)
      go true f = record { neighbour = neighbour; labelled = refl; accepted = f }
      go false f = absurd (refused_accepted (rw f at e))

  none_beside : (s : Option Corner) → edge_to tol candidate s ≡ NonePresent → s ≡ None
  unfolding edge_to
  none_beside None e = refl
  none_beside (Some neighbour) e = go (edge_ok candidate neighbour tol.cell_size tol.edge_length_tol) refl
    where
      go : (b : Bool) → edge_ok candidate neighbour tol.cell_size tol.edge_length_tol ≡ b → Some neighbour ≡ None
      go true f = absurd (accepted_none (rw f at e))
      go false f = absurd (refused_none (rw f at e))

module _ (seen : Cell → Option Corner) (tol : Tolerances) (c : Cell) (candidate : Corner) where
  -- accepted exactly if some labelled cardinal neighbour has an accepted edge
  pub accepted_exactly : verdict_of seen tol c candidate ≡ Accepted ↔ AcceptedEdge seen tol c candidate
  unfolding verdict_of
  accepted_exactly = (
    λ e.
        let s = tried_some (edge_at seen tol c candidate) cardinal_offsets e in
        let b = accepted_beside tol candidate (seen (moved c s.offset)) s.accepted in
        record { offset = s.offset; cardinal = s.there; neighbour = b.neighbour; labelled = b.labelled; accepted = b.accepted },
    λ a.
        some_tried (edge_at seen tol c candidate) cardinal_offsets a.offset a.cardinal
        (sym (edge_accepted tol candidate refl a.labelled refl a.accepted)),
  )

  -- none present exactly if no cardinal neighbour is labelled
  pub none_exactly : verdict_of seen tol c candidate ≡ NonePresent ↔ NoNeighbour seen c
  unfolding verdict_of
  none_exactly = (
    λ e o m. none_beside tol candidate (seen (moved c o)) (tried_none (edge_at seen tol c candidate) cardinal_offsets e o m),
    λ h. none_tried (edge_at seen tol c candidate) cardinal_offsets (λ o m. sym (edge_none tol candidate refl (h o m))),
  )

  -- refused exactly if neither: some cardinal neighbour is labelled, and none has an accepted edge
  pub refused_exactly : verdict_of seen tol c candidate ≡ Refused ↔ ((AcceptedEdge seen tol c candidate → ⊥) × (NoNeighbour seen c → ⊥))
  refused_exactly = (
    λ e. (λ a. refused_accepted (sym e ∙ accepted_exactly.1 a), λ h. refused_none (sym e ∙ none_exactly.1 h)),
    λ n. left (verdict_of seen tol c candidate) refl n,
  )
    where
      left : (v : EdgeVerdict) → verdict_of seen tol c candidate ≡ v → (AcceptedEdge seen tol c candidate → ⊥) × (NoNeighbour seen c → ⊥) → v ≡ Refused
      left Accepted f n = absurd (n.0 (accepted_exactly.0 f))
      left Refused f n = refl
      left NonePresent f n = absurd (n.1 (none_exactly.0 f))

  -- a candidate passes exactly if it has an accepted edge, or no cardinal neighbour is labelled
  pub passes_exactly : passes (verdict_of seen tol c candidate) ≡ true ↔ (AcceptedEdge seen tol c candidate ⊎ NoNeighbour seen c)
  unfolding passes
  passes_exactly = (
    λ e. into (verdict_of seen tol c candidate) refl e,
    λ s. ⊎_elim (λ a. ap passes (accepted_exactly.1 a)) (λ h. ap passes (none_exactly.1 h)) s,
  )
    where
      into : (v : EdgeVerdict) → verdict_of seen tol c candidate ≡ v → passes v ≡ true → AcceptedEdge seen tol c candidate ⊎ NoNeighbour seen c
      into Accepted f e = inl (accepted_exactly.0 f)
      into Refused f e = absurd (true≢false (sym e))
      into NonePresent f e = inr (none_exactly.0 f)

-- ---- the same seen

pub verdict_same : {seen seen' : Cell → Option Corner} {candidate candidate' : Corner} (tol : Tolerances) (c : Cell) → seen' ≡ seen → candidate' ≡ candidate
    → verdict_of seen' tol c candidate' ≡ verdict_of seen tol c candidate
verdict_same tol c e f = ap₂ (λ (s : Cell → Option Corner) (k : Corner). verdict_of s tol c k) e f

-- two frames with paired corners and sheets: the pair of a corner gets that corner's verdict
pub verdict_paired : {l l' : CornerLists} {sheet sheet' : List ℕ} (corners : PairedCorners l l')
    → PairedSheets corners.pairs sheet sheet' → Given (length l.xs) sheet → (tol : Tolerances) (c : Cell) (k : ℕ) → k < length l.xs
    → verdict_of (seen_of (corner_of l') sheet') tol c (corner_of l' (corners.pairs.to k))
    ≡ verdict_of (seen_of (corner_of l) sheet) tol c (corner_of l k)
verdict_paired corners paired given tol c k h = verdict_same tol c (seen_paired corners paired given) (corners.same_corner_holds k h)
