-- Laws of walks and rounds, for every pass that walks in rounds: what each visit keeps holds after all rounds, two passes that go alike end alike, and
-- how a loop over the rounds goes on. Assumes nothing.
use mathlib.Core.Path.{◌≡◌, refl, sym, ap, ap₂, ◌∙◌, subst}
use mathlib.Core.Bool.{Bool, true, false, cond}
use mathlib.Core.List.{List, [], ◌∷◌, ◌++◌}
use Prim.Native.Nat.{ℕ, zero, suc, ◌+◌, ◌-◌, ◌<◌, ◌≤◌}
use native.Mathlib.Omega.{arith}
use borrow.Author.Tests.{eq-eqb, ne_eqb}
use lib.Dec.{eqb}
use lib.ListN.{length}
use Rattle.sheet.specs.Cells.{cell_of}
use Rattle.sheet.specs.declared.Cell.{Cell}
use Rattle.passes.specs.Rounds.{RoundPass, walk, one_round, Rounds, next_round, rounds_from}

-- ---- a walk

module _ {S : Type 0} (visit : Cell → S → S) where
  pub walk_none : (s : S) → walk visit [] s ≡ s
  unfolding walk
  walk_none s = refl

  -- the last one comes last
  pub walk_more : (qs : List ℕ) (q : ℕ) (s : S) → walk visit (qs ++ (q ∷ [])) s ≡ visit (cell_of q) (walk visit qs s)
  unfolding walk
  walk_more [] q s = refl
  walk_more (r ∷ qs) q s = walk_more qs q (visit (cell_of r) s)

  -- what each visit keeps, of the cells that are still to come and of where the pass stands
  pub walk_keeps : (P : List ℕ → S → Type 0) → ((q : ℕ) (qs : List ℕ) (s : S) → P (q ∷ qs) s → P qs (visit (cell_of q) s))
      → (qs : List ℕ) (s : S) → P qs s → P [] (walk visit qs s)
  unfolding walk
  walk_keeps P keeps [] s h = h
  walk_keeps P keeps (q ∷ qs) s h = walk_keeps P keeps qs (visit (cell_of q) s) (keeps q qs s h)

-- ---- rounds

module _ {S : Type 0} (w : RoundPass S) where
  -- what each round keeps
  pub each_keeps : (P : S → Type 0) → ((s : S) → P s → P (one_round w s)) → (m : ℕ) (r : Rounds S) → P r.state → P (rounds_from w m r).state
  unfolding rounds_from
  each_keeps P keeps zero r h = h
  each_keeps P keeps (suc m) r h =
      go (eqb (length (w.made (one_round w r.state))) (length (w.made r.state))) (each_keeps P keeps m (next_round w r) (keeps r.state h))
    where
      go : (t : Bool) → P (rounds_from w m (next_round w r)).state → P (cond t (next_round w r) (rounds_from w m (next_round w r))).state
      go true g = keeps r.state h
      go false g = g

  -- what holds as a round begins, its cells listed, and is kept by each visit
  pub round_keeps : (P : List ℕ → S → Type 0) → ((q : ℕ) (qs : List ℕ) (s : S) → P (q ∷ qs) s → P qs (w.visit (cell_of q) s))
      → (s : S) → P (w.cells s) s → P [] (one_round w s)
  unfolding one_round
  round_keeps P keeps s h = walk_keeps w.visit P keeps (w.cells s) s h

  -- what holds between two rounds
  pub rounds_keep : (P : List ℕ → S → Type 0) → ((s : S) → P [] s → P (w.cells s) s)
      → ((q : ℕ) (qs : List ℕ) (s : S) → P (q ∷ qs) s → P qs (w.visit (cell_of q) s))
      → (m : ℕ) (r : Rounds S) → P [] r.state → P [] (rounds_from w m r).state
  rounds_keep P begins keeps m r h = each_keeps (P []) (λ s g. round_keeps P keeps s (begins s g)) m r h

-- ---- two passes that go alike

-- what holds of both, with the same cells still to come: they list the same cells, it is kept by each visit, and both have as many new cells
pub record Alike {S S' : Type 0} (w : RoundPass S) (w' : RoundPass S') (P : List ℕ → S → S' → Type 0) : Type 0 where
  pub cells : (s : S) (s' : S') → P [] s s' → w'.cells s' ≡ w.cells s
  pub begins : (s : S) (s' : S') → P [] s s' → P (w.cells s) s s'
  pub keeps : (q : ℕ) (qs : List ℕ) (s : S) (s' : S') → P (q ∷ qs) s s' → P qs (w.visit (cell_of q) s) (w'.visit (cell_of q) s')
  pub made : (s : S) (s' : S') → P [] s s' → length (w'.made s') ≡ length (w.made s)

-- where both stand after as many rounds
pub record SameRounds {S S' : Type 0} (R : S → S' → Type 0) (r : Rounds S) (r' : Rounds S') : Type 0 where
  pub state : R r.state r'.state
  pub rounds : r'.rounds ≡ r.rounds

module _ {S S' : Type 0} {w : RoundPass S} {w' : RoundPass S'} (P : List ℕ → S → S' → Type 0) (a : Alike w w' P) where
  walk_same : (qs : List ℕ) (s : S) (s' : S') → P qs s s' → P [] (walk w.visit qs s) (walk w'.visit qs s')
  unfolding walk
  walk_same [] s s' h = h
  walk_same (q ∷ qs) s s' h = walk_same qs (w.visit (cell_of q) s) (w'.visit (cell_of q) s') (a.keeps q qs s s' h)

  round_same : (s : S) (s' : S') → P [] s s' → P [] (one_round w s) (one_round w' s')
  unfolding one_round
  round_same s s' h =
      subst (λ (qs : List ℕ). P [] (one_round w s) (walk w'.visit qs s')) (sym (a.cells s s' h)) (walk_same (w.cells s) s s' (a.begins s s' h))

  pub rounds_same : (m : ℕ) (r : Rounds S) (r' : Rounds S') → SameRounds (P []) r r' → SameRounds (P []) (rounds_from w m r) (rounds_from w' m r')
  unfolding rounds_from
  rounds_same zero r r' h = h
  rounds_same (suc m) r r' h =
      subst (λ (t : Bool). SameRounds (P []) (rounds_from w (suc m) r) (cond t (next_round w' r') (rounds_from w' m (next_round w' r'))))
      (sym (ap₂ (λ (x y : ℕ). eqb x y) (a.made _ _ after.state) (a.made _ _ h.state)))
      (go (eqb (length (w.made (one_round w r.state))) (length (w.made r.state))) (rounds_same m (next_round w r) (next_round w' r') after))
    where
      after : SameRounds (P []) (next_round w r) (next_round w' r')
      after = record { state = round_same r.state r'.state h.state; rounds = ap (λ (n : ℕ). n + 1) h.rounds }

      go : (t : Bool) → SameRounds (P []) (rounds_from w m (next_round w r)) (rounds_from w' m (next_round w' r'))
          → SameRounds (P []) (cond t (next_round w r) (rounds_from w m (next_round w r))) (cond t (next_round w' r') (rounds_from w' m (next_round w' r')))
      go true g = after
      go false g = g

-- ---- a loop over the rounds

-- so many rounds are done, and those that are left end as all from the start
pub record Remaining {S : Type 0} (w : RoundPass S) (limit : ℕ) (first s : S) (rounds : ℕ) : Type 0 where
  pub upto : rounds ≤ limit
  pub rest : rounds_from w (limit - rounds) (record { state = s; rounds = rounds }) ≡ rounds_from w limit (record { state = first; rounds = 0 })

module _ {S : Type 0} (w : RoundPass S) (limit : ℕ) (first : S) where
  -- all rounds from the start
  abbrev pub all_rounds : Rounds S
  all_rounds = rounds_from w limit (record { state = first; rounds = 0 })

  pub remaining_all : Remaining w limit first first 0
  remaining_all = record { upto = omega arith; rest = ap (λ (m : ℕ). rounds_from w m (record { state = first; rounds = 0 })) (whole limit) }
    where
      whole : (m : ℕ) → m - 0 ≡ m
      whole m = omega arith

  module _ {s : S} {rounds : ℕ} (g : Remaining w limit first s rounds) where
    pub remaining_none : limit ≤ rounds → all_rounds ≡ record { state = s; rounds = rounds }
    unfolding rounds_from
    remaining_none h =
        let e : limit - rounds ≡ 0 = omega arith in
        sym g.rest ∙ ap (λ (m : ℕ). rounds_from w m (record { state = s; rounds = rounds })) e

    module _ (h : rounds < limit) where
      -- one round more, and those behind it
      turn : rounds_from w (suc (limit - (rounds + 1))) (record { state = s; rounds = rounds }) ≡ all_rounds
      turn =
          let e : suc (limit - (rounds + 1)) ≡ limit - rounds = omega arith in
          ap (λ (m : ℕ). rounds_from w m (record { state = s; rounds = rounds })) e ∙ g.rest

      -- a round attaching nothing is the last
      pub remaining_last : length (w.made (one_round w s)) ≡ length (w.made s) → all_rounds ≡ record { state = one_round w s; rounds = rounds + 1 }
      unfolding rounds_from
      remaining_last e = sym turn ∙ rw (eq-eqb _ _ e)

      pub remaining_more : (length (w.made (one_round w s)) ≡ length (w.made s) → ⊥) → Remaining w limit first (one_round w s) (rounds + 1)
      unfolding rounds_from
      remaining_more e = record { upto = omega arith; rest = sym (rw (ne_eqb _ _ e)) ∙ turn }
