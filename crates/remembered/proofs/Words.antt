-- The words that say what is known of a cell: read, written and forgotten. Assumes nothing.
use mathlib.Core.Path.{◌≡◌, refl, sym, ◌∙◌}
use mathlib.Core.Bool.{Bool, true, false, cond}
use Prim.Native.Nat.{ℕ, ◌+◌, ◌*◌, ◌/◌, ◌%◌, ◌<◌, ◌≤◌}
use native.Mathlib.Decide.{ℕ_discrete}
use native.Mathlib.Omega.{arith}
use borrow.Author.Tests.{ne_eqb}
use lib.ListN.{length, get_or, set}
use lib.Seq.{get_or-set_same, get_or-set_other}
use lib.Dec.{leb}
use Rattle.std.specs.Prelude.{Option, None, Some}
use Rattle.sheet.specs.Cells.{OnSheet, place_of, cell_of}
use Rattle.sheet.specs.declared.Cell.{Cell}
use Rattle.sheet.specs.declared.Position.{Position}
use Rattle.sheet.specs.Blank.{NextWritten}
use Rattle.sheet.proofs.Laws.{place_in}
use Rattle.sheet.proofs.Blank.{skips}
use Rattle.passes.specs.Local.{reach_of}
use Rattle.remembered.specs.Remembered.{finding_of, known_of, code_of, known_word, aim_of, aim_in, aim_at, Noted, forgotten_word, doubted_word, left_word, Forgotten}
use Rattle.remembered.specs.declared.Finding.{Finding}
use Rattle.remembered.specs.declared.Known.{Known}
use Rattle.remembered.specs.declared.Aim.{Aim}
use Rattle.remembered.specs.declared.Memory.{Memory}

-- ---- what was written is read

record CodeIn (n : ℕ) : Type 0 where
  some : 0 < n
  three_bits : n < 8

code_in : (f : Finding) → CodeIn (code_of f)
unfolding code_of
code_in Finding.Idle = record { some = omega arith; three_bits = omega arith }
code_in Finding.NoCandidates = record { some = omega arith; three_bits = omega arith }
code_in (Finding.Predicted at) = record { some = omega arith; three_bits = omega arith }
code_in (Finding.Ambiguous at limit) = record { some = omega arith; three_bits = omega arith }

finding_back : (f : Finding) → finding_of (code_of f) (aim_of f) ≡ f
unfolding finding_of code_of aim_of
finding_back Finding.Idle = refl
finding_back Finding.NoCandidates = refl
finding_back (Finding.Predicted at) = refl
finding_back (Finding.Ambiguous at limit) = refl

pub word_back : (known : Option Known) → known_of (known_word known) (aim_in known) ≡ known
unfolding known_of known_word aim_in
word_back None = refl
word_back (Some k) =
    let n = code_in k.finding in
    let kind : (k.reach * 8 + code_of k.finding) % 8 ≡ code_of k.finding = omega arith in
    let far : (k.reach * 8 + code_of k.finding) / 8 ≡ k.reach = omega arith in
    rw (kind, far, ne_eqb (code_of k.finding) 0 (λ z. omega arith), finding_back k.finding)

-- a word and what is noted with it put in their places
pub put : {memory memory' : Memory} {c : Cell} {known : Option Known} {word place : ℕ} {aim : Aim} → OnSheet c → length memory.words ≡ 16384 → length memory.aims ≡ 16384 → place ≡ place_of c
    → word ≡ known_word known → aim ≡ aim_in known → memory'.words ≡ set memory.words place word → memory'.aims ≡ set memory.aims place aim → Noted memory c known memory'
put {memory} {memory'} {c} {known} {word} {place} {aim} on m n e f g h i =
    let in_sheet : place_of c < 16384 = place_in c on in
    record {
      here = rw (h, i, e, f, g, get_or-set_same memory.words (place_of c) (known_word known) 0 (omega (arith, m)), get_or-set_same memory.aims (place_of c) (aim_in known) _ (omega (arith, n))) (word_back known);
      else = λ a d. rw (h, i, e, get_or-set_other memory.words (place_of c) a word 0 d, get_or-set_other memory.aims (place_of c) a aim _ d) refl;
    }

-- ---- words forgotten

-- where nothing is known, nothing is left
nothing_left : (far : Bool) (c : Cell) (q : ℕ) {w : ℕ} → w ≡ 0 → 0 ≡ doubted_word far (forgotten_word c q w)
unfolding forgotten_word doubted_word
nothing_left far c q e = rw e (go (leb (reach_of c q) 0))
  where
    go : (t : Bool) → 0 ≡ doubted_word far (cond t 0 0)
    go true = refl
    go false = refl

-- the words of the places before p are done, the others are as they were
pub record Forgetting (before : Memory) (c : Cell) (corner : Position) (memory : Memory) (p : ℕ) : Type 0 where
  pub upto : p ≤ 16384
  pub aims_are : memory.aims ≡ before.aims
  pub done : (a : ℕ) → a < p → get_or memory.words a 0 ≡ left_word (cell_of a) (place_of c) corner (aim_at before a) (get_or before.words a 0)
  pub rest : (a : ℕ) → p ≤ a → get_or memory.words a 0 ≡ get_or before.words a 0

module _ {before : Memory} {c : Cell} {corner : Position} {memory : Memory} {p : ℕ} (g : Forgetting before c corner memory p) where
  pub forgetting_more : {word : ℕ} {memory' : Memory} → length memory.words ≡ 16384 → p < 16384 → word ≡ left_word (cell_of p) (place_of c) corner (aim_at memory p) (get_or memory.words p 0)
      → memory'.words ≡ set memory.words p word → memory'.aims ≡ memory.aims → Forgetting before c corner memory' (p + 1)
  forgetting_more {word} {memory'} n h k m i =
      record {
        upto = omega arith;
        aims_are = i ∙ g.aims_are;
        done = λ a l. rw m (go a l (ℕ_discrete a p));
        rest = λ a l. rw m (get_or-set_other memory.words p a word 0 (λ z. omega arith) ∙ g.rest a (omega arith));
      }
    where
      go : (a : ℕ) → a < p + 1 → Dec (a ≡ p) → get_or (set memory.words p word) a 0 ≡ left_word (cell_of a) (place_of c) corner (aim_at before a) (get_or before.words a 0)
      go a l (yes d) = rw d (get_or-set_same memory.words p word 0 (omega (arith, n)) ∙ k ∙ rw (g.aims_are, g.rest p (omega arith)))
      go a l (no d) = get_or-set_other memory.words p a word 0 d ∙ g.done a (omega arith)

  -- of this place nothing is known
  forgetting_none : p < 16384 → get_or memory.words p 0 ≡ 0 → Forgetting before c corner memory (p + 1)
  forgetting_none h e = record { upto = omega arith; aims_are = g.aims_are; done = λ a l. go a l (ℕ_discrete a p); rest = λ a l. g.rest a (omega arith) }
    where
      go : (a : ℕ) → a < p + 1 → Dec (a ≡ p) → get_or memory.words a 0 ≡ left_word (cell_of a) (place_of c) corner (aim_at before a) (get_or before.words a 0)
      go a l (yes d) = rw d (e ∙ nothing_left _ (cell_of p) (place_of c) (sym (g.rest p (omega arith)) ∙ e))
      go a l (no d) = g.done a (omega arith)

  pub forgetting_end : 16384 ≤ p → Forgotten before c corner memory
  forgetting_end h = record { aims_are = g.aims_are; at = λ a l. g.done a (omega arith) }

pub forgetting_skips : {before : Memory} {c : Cell} {corner : Position} {memory : Memory} {p r : ℕ} → Forgetting before c corner memory p → NextWritten memory.words p r → Forgetting before c corner memory r
forgetting_skips {before} {c} {corner} {memory} g w = skips memory.words (Forgetting before c corner memory) (λ q h e s. forgetting_none s h e) w g
