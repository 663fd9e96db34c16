-- How a frame all of whose lines are read ends: it is accepted if its sets can be joined, else refused at the patch line with 8, 9 or 4, each for
-- its reason. Assumes nothing.
use mathlib.Core.Path.{◌≡◌, refl, sym, ap, subst, ◌∙◌}
use mathlib.Core.Bool.{Bool, true, false, true≢false}
use mathlib.Core.List.{List}
use Prim.Native.Nat.{ℕ}
use native.Mathlib.Omega.{arith}
use Rattle.refusal.specs.declared.Refusal.{Refusal}
use Rattle.join.specs.Rule.{Placed}
use Rattle.join.specs.Join.{Joined, apart, clash, off, union_of, union, joined, JoinMeaning}
use Rattle.join.proofs.Join.{joined_so, so_joined}
use Rattle.frame.specs.Frame.{Frame, parts_of, first_set, second_set, join_if, join_of, labels_in, given_of, patch_line, FrameRead, refused_at, accepted, finish_by, finish}
use Rattle.frame.specs.Text.{Joinable, Unjoined, are_apart, do_clash, goes_off}

module _ (f : Frame) where
  abbrev first : List Placed
  first = first_set (parts_of f)

  abbrev second : List Placed
  second = second_set (parts_of f)

  -- ---- what the join is, by whether the patch line stands

  one_set : (parts_of f).patched ≡ false → join_of (parts_of f) ≡ union_of first
  unfolding join_of
  one_set e = ap (λ (t : Bool). join_if t first second) e

  both_sets_holds : (parts_of f).patched ≡ true → join_of (parts_of f) ≡ joined first second
  unfolding join_of
  both_sets_holds e = ap (λ (t : Bool). join_if t first second) e

  pub one_given : (parts_of f).patched ≡ false → given_of (parts_of f) ≡ first
  unfolding given_of
  one_given e = ap labels_in (one_set e)

  -- two sets that can be joined are: by their shift
  pub joins : (parts_of f).patched ≡ true → (j : Joinable first second) → join_of (parts_of f) ≡ union_of (union first second j.shift)
  joins e j =
      both_sets_holds e
      ∙ so_joined first second (union_of (union first second j.shift)) (record { shared = j.shared; shift = j.shift; onto = j.onto; is_union = refl })

  -- the given labels of an accepted frame with a patch line are the union
  pub both_given : (e : (parts_of f).patched ≡ true) → Joinable first second → joined first second ≡ union_of (given_of (parts_of f))
  unfolding given_of
  both_given e j = sym (both_sets_holds e) ∙ joins e j ∙ sym (ap (λ (x : Joined). union_of (labels_in x)) (joins e j))

  -- ---- how the reading ends

  pub data Finishing : FrameRead → Type 0 where
    is_whole : ((parts_of f).patched ≡ true → Joinable first second) → Finishing (accepted f)
    not_joined : (r : Refusal) → (parts_of f).patched ≡ true → Unjoined first second r → Finishing (refused_at r (patch_line (parts_of f)))

  by_meaning : (parts_of f).patched ≡ true → (j : Joined) → JoinMeaning first second j → Finishing (finish_by j f)
  by_meaning e apart m = not_joined Refusal.NoSharedCorner e (are_apart m)
  by_meaning e clash m = not_joined Refusal.PatchesClash e (do_clash m)
  by_meaning e off m = not_joined Refusal.OffSheet e (goes_off m)
  by_meaning e (union_of u) m = is_whole (λ q. record { shared = m.shared; shift = m.shift; onto = m.onto })

  pub finishing : Finishing (finish f)
  unfolding finish
  finishing = go (parts_of f).patched refl
    where
      go : (t : Bool) → (parts_of f).patched ≡ t → Finishing (finish_by (join_of (parts_of f)) f)
      go true e = subst (λ (j : Joined). Finishing (finish_by j f)) (sym (both_sets_holds e)) (by_meaning e (joined first second) (joined_so first second))
      go false e =
          subst (λ (j : Joined). Finishing (finish_by j f)) (sym (one_set e)) (is_whole (λ q. absurd (true≢false (sym q ∙ e))))

  -- ---- and conversely

  pub joinable_whole : ((parts_of f).patched ≡ true → Joinable first second) → finish f ≡ accepted f
  unfolding finish
  joinable_whole h = go (parts_of f).patched refl
    where
      go : (t : Bool) → (parts_of f).patched ≡ t → finish_by (join_of (parts_of f)) f ≡ accepted f
      go true e = ap (λ (j : Joined). finish_by j f) (joins e (h e))
      go false e = ap (λ (j : Joined). finish_by j f) (one_set e)

  pub unjoined_refused : (parts_of f).patched ≡ true → (r : Refusal) → Unjoined first second r → finish f ≡ refused_at r (patch_line (parts_of f))
  unfolding finish
  unjoined_refused e r (are_apart m) = ap (λ (j : Joined). finish_by j f) (both_sets_holds e ∙ so_joined first second apart m)
  unjoined_refused e r (do_clash m) = ap (λ (j : Joined). finish_by j f) (both_sets_holds e ∙ so_joined first second clash m)
  unjoined_refused e r (goes_off m) = ap (λ (j : Joined). finish_by j f) (both_sets_holds e ∙ so_joined first second off m)
