-- The join by the rule: refused with 8, 9 or 4, or the union by the shift onto the sheet, each exactly when said. Users of `joined` need nothing of
-- how it is found. Assumes nothing.
use Rattle.std.specs.Prelude.{Ok, Err}
use mathlib.Core.Path.{◌≡◌, refl, sym, ap, ◌∙◌, subst}
use mathlib.Core.List.{List}
use Rattle.join.specs.declared.Unjoinable.{Unjoinable}
use Rattle.join.specs.Rule.{Verdict, Placed, NoShift, Meaning, All, Once, UnionBy}
use Rattle.join.specs.Join.{verdict, union, Joined, apart, clash, off, union_of, joined_by, joined, ByShift, JoinMeaning, JoinExactlyIf, Refused, RefusedExactlyIf}
use Rattle.join.specs.Sheets.{Holdable}
use Rattle.join.proofs.Meaning.{verdict_means, exactly}
use Rattle.join.proofs.Union.{union_is, union_holdable}

module _ (first second : List Placed) where
  -- ---- each answer exactly when said

  -- what the join says holds
  pub joined_so : JoinMeaning first second (joined first second)
  unfolding joined joined_by
  joined_so = go (verdict first second) (verdict_means first second)
    where
      go : (v : Verdict) → Meaning first second v → JoinMeaning first second (joined_by first second v)
      go (Err Unjoinable.Apart) m = m
      go (Err Unjoinable.Clash) m = m
      go (Err Unjoinable.Off) m = m
      go (Ok d) m = record { shared = m.0; shift = d; onto = m.1; is_union = refl }

  -- what holds the join says
  pub so_joined : (j : Joined) → JoinMeaning first second j → joined first second ≡ j
  unfolding joined joined_by
  so_joined apart m = ap (joined_by first second) (exactly first second (Err Unjoinable.Apart) m)
  so_joined clash m = ap (joined_by first second) (exactly first second (Err Unjoinable.Clash) m)
  so_joined off m = ap (joined_by first second) (exactly first second (Err Unjoinable.Off) m)
  so_joined (union_of u) m =
      ap (joined_by first second) (exactly first second (Ok m.shift) (m.shared, m.onto)) ∙ ap union_of (sym m.is_union)

  pub means : (j : Joined) → joined first second ≡ j → JoinMeaning first second j
  means j e = subst (JoinMeaning first second) e joined_so

  -- ---- the union

  module _ (u : List Placed) (e : joined first second ≡ union_of u) where
    pub by_shift : ByShift first second u
    by_shift = means (union_of u) e

    pub joined_union : Once first → Once second → UnionBy first second by_shift.shift u
    joined_union s t =
        subst (UnionBy first second by_shift.shift) (sym by_shift.is_union) (union_is first second by_shift.shift by_shift.onto.fits s t)

    pub joined_once : Once first → Once second → Once u
    joined_once s t = (joined_union s t).once

    pub joined_holdable : All Holdable first → All Holdable second → All Holdable u
    joined_holdable s t =
        subst (All Holdable) (sym by_shift.is_union) (union_holdable first second by_shift.shift by_shift.onto.fits by_shift.onto.onto s t)

pub join_exactly_if : JoinExactlyIf
join_exactly_if first second j = (means first second j, so_joined first second j)

-- "Two sets with a corner in common are refused exactly if no such shift onto the sheet exists."
pub refused_exactly_if : RefusedExactlyIf
refused_exactly_if first second s = (refused_none, λ none. go none (joined first second) (joined_so first second))
  where
    refused_none : Refused (joined first second) → NoShift first second
    refused_none r d h =
        subst Refused (so_joined first second (union_of (union first second d)) (record { shared = s; shift = d; onto = h; is_union = refl })) r

    go : NoShift first second → (j : Joined) → JoinMeaning first second j → Refused j
    go none apart m = tt
    go none clash m = tt
    go none off m = tt
    go none (union_of u) m = none m.shift m.onto
