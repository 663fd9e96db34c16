-- The length of the text against a room, line by line as `try_fold` goes. Assumes nothing.
use mathlib.Core.Path.{◌≡◌, refl, ap, subst, ◌∙◌}
use mathlib.Core.List.{List, [], ◌∷◌}
use Prim.Native.Nat.{ℕ, ◌+◌, ◌-◌, ◌≤◌, ◌<◌}
use native.Mathlib.Omega.{arith}
use lib.Dec.{ltb}
use lib.ListN.{length}
use denote.Param.Members.{Mut}
use Rattle.std.specs.Prelude.{Option, None, Some, SomeIff, MatchOption, is_none}
use Rattle.std.specs.declared.ops.Range.{Range}
use Rattle.std.specs.Fn.{Called}
use Rattle.std.specs.Iterator.{Yields, YieldsThen}
use Rattle.std.specs.List.{FoldsTo}
use Rattle.report_line.specs.Result.{line_count}
use Rattle.report.specs.Asked.{line_at, text_from}
use Rattle.report.proofs.Numbered.{Measuring, measuring_start, measuring_on, measuring_off, measuring_end}

-- a step of a range
abbrev Step : Range ℕ → Option ℕ → Range ℕ → Type 0
Step s r t = (t.end ≡ s.end) × MatchOption r ((s.end - s.start ≡ 0) × (t.start ≡ s.start)) (λ x. (0 < s.end - s.start) × (x ≡ s.start) × (t.start ≡ s.start + 1))

module _ {F : Type 0} (g : Mut F (ℕ × (ℕ × Unit {0})) (Option ℕ)) (f : F) (passes : ℕ) (words sheet : List ℕ) (room : ℕ)
    (told : (left k : ℕ) (v : Option ℕ) (h : F) → k < line_count passes → Called g f (left, (k, tt)) v h
    → (h ≡ f) × SomeIff v (length (line_at passes words sheet k) ≤ left) (left - length (line_at passes words sheet k))) where
  -- a line that the room is enough for
  abbrev Goes : F × ℕ → ℕ → F × ℕ → Type 0
  Goes p x q = (v : Option ℕ) × Called g p.0 (p.1, (x, tt)) v q.0 × (v ≡ Some q.1)

  walked : (xs : List ℕ) (s t : Range ℕ) (a b : ℕ) (p q : F) → p ≡ f → s.end ≡ line_count passes → Measuring passes words sheet room a s.start
      → Yields Step s xs t → FoldsTo {P = F × ℕ} Goes (p, a) xs (q, b) → (q ≡ f) × (t.end ≡ line_count passes) × Measuring passes words sheet room b t.start
  walked [] s t a b p q e n m y c =
      subst (λ (v : F × ℕ). (v.0 ≡ f) × (t.end ≡ line_count passes) × Measuring passes words sheet room v.1 t.start) c
      (subst (λ (z : Range ℕ). (p ≡ f) × (z.end ≡ line_count passes) × Measuring passes words sheet room a z.start) y (e, n, m))
  walked (x ∷ xs) s t a b p q e n m y c =
      let lt : s.start < line_count passes = omega (arith, n, y.1.1.0) in
      let called : Called g f (a, (s.start, tt)) c.1.0 c.0.0 = subst (λ (z : ℕ). Called g f (a, (z, tt)) c.1.0 c.0.0) y.1.1.1 (subst (λ (h : F). Called g h (a, (x, tt)) c.1.0 c.0.0) e c.1.1) in
      let k = told a s.start c.1.0 c.0.0 lt called in
      let on = measuring_on passes words sheet room a s.start m _ lt refl c.1.0 c.0.1 k.1 c.1.2 in
      walked xs y.0 t c.0.1 b c.0.0 q k.0 (y.1.0 ∙ n) (rw y.1.1.2 on) y.2 c.2

  pub tried : {E : Type 0} (s u : Range ℕ) (r : Option ℕ) → s.start ≡ 0 → s.end ≡ line_count passes
      → (xs : List ℕ) × (o : Option ℕ) × (j : F) × (a : ℕ) × YieldsThen Step s xs o u × FoldsTo {P = F × ℕ} Goes (f, room) xs (j, a)
      × MatchOption o (r ≡ Some a) (λ x. (v : Option ℕ) × (h : F) × (e : E) × Called g j (a, (x, tt)) v h × (v ≡ None) × (r ≡ None))
      → is_none r ≡ ltb room (length (text_from passes words sheet 0))
  tried {E} s u r b n d = ends d.1 d.4.2 d.6
    where
      w : (d.2 ≡ f) × (d.4.0.end ≡ line_count passes) × Measuring passes words sheet room d.3 d.4.0.start
      w = walked d.0 s d.4.0 room d.3 f d.2 refl n (rw b (measuring_start passes words sheet room)) d.4.1 d.5

      ends : (o : Option ℕ) → Step d.4.0 o u
          → MatchOption o (r ≡ Some d.3) (λ x. (v : Option ℕ) × (h : F) × (e : E) × Called g d.2 (d.3, (x, tt)) v h × (v ≡ None) × (r ≡ None))
          → is_none r ≡ ltb room (length (text_from passes words sheet 0))
      ends None y m = ap is_none m ∙ measuring_end passes words sheet room d.3 d.4.0.start w.2 (omega (arith, w.1, y.1.0))
      ends (Some x) y m =
          let lt : d.4.0.start < line_count passes = omega (arith, w.1, y.1.0) in
          let called : Called g f (d.3, (d.4.0.start, tt)) m.0 m.1 = subst (λ (z : ℕ). Called g f (d.3, (z, tt)) m.0 m.1) y.1.1 (subst (λ (h : F). Called g h (d.3, (x, tt)) m.0 m.1) w.0 m.3) in
          let k = told d.3 d.4.0.start m.0 m.1 lt called in
          ap is_none m.5 ∙ measuring_off passes words sheet room d.3 d.4.0.start w.2 _ lt refl m.0 k.1 m.4
