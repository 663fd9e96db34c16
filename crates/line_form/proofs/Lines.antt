-- The lines of a text: the first one, and the end of the line that starts at a position. Assumes nothing.
use mathlib.Core.Path.{◌≡◌, refl, sym, ap, ◌∙◌}
use mathlib.Core.Bool.{Bool, true, false, cond}
use mathlib.Core.List.{List, [], ◌∷◌}
use Prim.Native.Nat.{ℕ, suc, ◌+◌, ◌-◌, ◌<◌, ◌≤◌}
use native.Mathlib.Omega.{arith}
use lib.Dec.{eqb}
use lib.ListN.{length, take, drop, length-drop, drop_of_length-le}
use lib.Seq.{drop-drop}
use Rattle.std.proofs.Common.{Option, None, Some}
use Rattle.std.specs.Option.{MatchOption}
use Rattle.std.specs.List.{position_from, position}
use Rattle.std.proofs.lemmas.Iterator.Adapters.{position_from-zero}
use Rattle.line_form.proofs.Reading.{part}
use Rattle.line_form.specs.Lines.{longer, lines_of, line_length}

-- ---- the first line

-- it is no longer than the text, and not empty where the text is not
line_within : (text : List ℕ) → (line_length text ≤ length text) × (0 < length text → 0 < line_length text)
unfolding line_length
line_within [] = (omega arith, λ h. h)
line_within (b ∷ text) = go (eqb b 10) (line_within text).0
  where
    go : (t : Bool) → line_length text ≤ length text
        → (cond t 1 (suc (line_length text)) ≤ suc (length text)) × (0 < suc (length text) → 0 < cond t 1 (suc (line_length text)))
    go true h = (omega arith, λ l. omega arith)
    go false h = (omega arith, λ l. omega arith)

-- a text is its first line, and the lines behind it
lines_split : (text : List ℕ) → 0 < length text → lines_of text ≡ take (line_length text) text ∷ lines_of (drop (line_length text) text)
unfolding lines_of line_length
lines_split [] h = absurd (omega arith)
lines_split (b ∷ text) h = go (eqb b 10) text (lines_split text)
  where
    go : (t : Bool) (text : List ℕ) → (0 < length text → lines_of text ≡ take (line_length text) text ∷ lines_of (drop (line_length text) text))
        → cond t ((b ∷ []) ∷ lines_of text) (longer b (lines_of text))
        ≡ take (cond t 1 (suc (line_length text))) (b ∷ text) ∷ lines_of (drop (cond t 1 (suc (line_length text))) (b ∷ text))
    go true text ih = refl
    go false [] ih = refl
    go false (c ∷ text) ih = ap (longer b) (ih (omega arith))

-- ---- the line that starts at a position

module _ (text : List ℕ) (at end : ℕ) (h : at < length text) (e : end ≡ at + line_length (drop at text)) where
  some : 0 < length (drop at text)
  some = simp length-drop (omega arith)

  pub end_after : at < end
  end_after = omega (arith, (line_within (drop at text)).1 some)

  pub end_inside : end ≤ length text
  end_inside = omega (arith, (line_within (drop at text)).0, length-drop at text)

  pub lines_from : lines_of (drop at text) ≡ take (end - at) (drop at text) ∷ lines_of (drop end text)
  lines_from =
      let n : end - at ≡ line_length (drop at text) = omega arith in
      lines_split (drop at text) some
      ∙ ap (λ (rest : List ℕ). take (line_length (drop at text)) (drop at text) ∷ lines_of rest) (drop-drop (line_length (drop at text)) at text ∙ ap (λ (k : ℕ). drop k text) (sym e))
      ∙ ap (λ (k : ℕ). take k (drop at text) ∷ lines_of (drop end text)) (sym n)

-- behind the last line
pub no_lines : (text : List ℕ) (at : ℕ) → length text ≤ at → lines_of (drop at text) ≡ []
unfolding lines_of
no_lines text at h = ap lines_of (drop_of_length-le text h)

-- ---- the search for a line's end: behind its LF, or behind the text

seek : (n : ℕ) (text : List ℕ) → MatchOption (position_from (λ b. eqb b 10) n text) (length text ≡ line_length text) (λ i. i + 1 ≡ n + line_length text)
unfolding line_length
seek n [] = refl
seek n (b ∷ text) = go (eqb b 10) (position_from (λ b. eqb b 10) (n + 1) text) (seek (n + 1) text)
  where
    go : (t : Bool) (r : Option ℕ) → MatchOption r (length text ≡ line_length text) (λ i. i + 1 ≡ n + 1 + line_length text)
        → MatchOption (cond t (Some n) r) (suc (length text) ≡ cond t 1 (suc (line_length text))) (λ i. i + 1 ≡ n + cond t 1 (suc (line_length text)))
    go true r h = refl
    go false None h = ap suc h
    go false (Some i) h = omega arith

sought : (text : List ℕ) (r : Option ℕ) → r ≡ position (λ b. eqb b 10) text → MatchOption r (length text ≡ line_length text) (λ i. i + 1 ≡ 0 + line_length text)
sought text r e = rw (e, position_from-zero) (seek 0 text)

module _ (text : List ℕ) (at : ℕ) where
  pub line_found : (i : ℕ) → Some i ≡ position (λ b. eqb b 10) (take (length text - at) (drop at text)) → at + i + 1 ≡ at + line_length (drop at text)
  line_found i e = let h = sought (drop at text) (Some i) (rw part at e) in omega (arith, h)

  pub line_last : at ≤ length text → None ≡ position (λ b. eqb b 10) (take (length text - at) (drop at text)) → length text ≡ at + line_length (drop at text)
  line_last l e = let h = sought (drop at text) None (rw part at e) in omega (arith, h, length-drop at text)
