-- Each refusal means what the table says, what the table says is refused so, and which lines of a text can be refused. Assumes nothing.
use mathlib.Core.Path.{◌≡◌, refl, sym, ap, ◌∙◌, subst}
use mathlib.Core.Bool.{Bool, true, false, cond}
use mathlib.Core.Logic.{⊎_elim}
use mathlib.Core.List.{List, [], ◌∷◌, ◌++◌, append-nil}
use Prim.Native.Nat.{ℕ, zero, suc, ◌+◌, ◌≤◌, ◌<◌}
use native.Mathlib.Omega.{arith}
use borrow.Author.Tests.{lt-ltb, le-ltb}
use lib.Dec.{eqb}
use lib.ListN.{length, get_or, take, drop}
use lib.Seq.{length-take-le, split_at}
use Rattle.refusal.specs.declared.Refusal.{Refusal}
use Rattle.line_form.specs.Lines.{longer, onto, lines_of}
use Rattle.frame_line.specs.Lines.{read_line}
use Rattle.sizes.specs.Sizes.{byte_limit}
use Rattle.frame.specs.Frame.{Step, step_line, FrameRead, refused_at, accepted, finish, at_end, going, read_lines, read_frame}
use Rattle.frame.specs.Text.{Refused, too_long, at_line, missing, unjoined, RefusalsMean}
use Rattle.frame.proofs.Adding.{below_or_not}
use Rattle.frame_laws.proofs.Joining.{unjoined_refused}
use Rattle.frame_laws.proofs.Refusals.{fault_stops, Ending, all_read, one_fails, one_missing, sets_apart, ending}
use Rattle.frame_laws.proofs.Patches.{passed_read, short_enough, whole_text, patch_of, patch_at}

-- ---- the law

pub refusals_mean : RefusalsMean
unfolding read_frame
refusals_mean text r n e =
    ⊎_elim (λ h. bytes h (rw (lt-ltb byte_limit (length text) h) at e)) (λ h. why h (ending 1 0 [] (lines_of text)) (rw (le-ltb byte_limit (length text) h) at e))
    (below_or_not byte_limit (length text))
  where
    bytes : byte_limit < length text → refused_at Refusal.OverLimit 0 ≡ refused_at r n → Refused text r n
    bytes h q = let same : r ≡ Refusal.OverLimit = cc in let number : n ≡ 0 = cc in rw (same, number) (too_long h)

    why : length text ≤ byte_limit → {o : FrameRead} → Ending 1 0 [] (lines_of text) o → o ≡ refused_at r n → Refused text r n
    why h (all_read last g p k j) q = absurd (let z : ◌≡◌ {A = ℕ} 0 1 = cc in omega arith)
    why h (one_fails k m last g s l a p w) q =
        let same : r ≡ s = cc in
        let number : m ≡ n = cc in
        let here : n ≡ suc k = omega arith in
        rw (same, here) (at_line k last g s h l p w)
    why h (one_missing m last g a p k) q =
        let same : r ≡ Refusal.Malformed = cc in
        let number : m ≡ n = cc in
        let here : n ≡ suc (length (lines_of text)) = omega arith in
        rw (same, here) (missing last g h p k)
    why h (sets_apart m last g s a p k t u) q =
        let same : r ≡ s = cc in
        let number : m ≡ n = cc in
        let w = patch_of text p k t in
        let here : n ≡ suc w.index = omega (arith, w.number) in
        rw (same, here) (unjoined w.index last g s h p k w.inside w.reads u)

-- ---- and what the table says is refused so

-- so a text is refused with one number at one line, for the one reason that the table gives
pub refused_so : (text : List ℕ) (r : Refusal) (n : ℕ) → Refused text r n → read_frame text ≡ refused_at r n
unfolding read_frame read_lines at_end step_line
refused_so text r n (too_long h) = rw (lt-ltb byte_limit (length text) h)
refused_so text r n (at_line k stage f s h l p w) =
    let texts = lines_of text in
    let number : 1 + length (take k texts) ≡ suc k = omega (arith, length-take-le k texts (omega arith)) in
    short_enough text h ∙ ap (read_lines 1 0 []) (split_at texts k [] l) ∙ passed_read 1 (get_or texts k [] ∷ drop (suc k) texts) p
    ∙ ap (λ (x : Step). going (1 + length (take k texts)) x (λ to g. read_lines (suc (1 + length (take k texts))) to g (drop (suc k) texts)))
    (fault_stops stage f (read_line (get_or texts k [])) s w)
    ∙ ap (refused_at s) number
refused_so text r n (missing stage f h p l) =
    let texts = lines_of text in
    let number : 1 + length texts ≡ suc (length texts) = omega arith in
    short_enough text h ∙ ap (read_lines 1 0 []) (sym (append-nil texts)) ∙ passed_read 1 [] p
    ∙ ap (λ (x : Bool). cond x (finish f) (refused_at Refusal.Malformed (1 + length texts))) l ∙ ap (refused_at Refusal.Malformed) number
refused_so text r n (unjoined k stage f s h p l i reads u) =
    let texts = lines_of text in
    let w = patch_at text p l i reads in
    whole_text text h p l ∙ unjoined_refused f w.0 s u ∙ ap (refused_at s) (sym w.1)

-- ---- which lines can be refused

lines_few : (text : List ℕ) → length (lines_of text) ≤ length text
unfolding lines_of
lines_few [] = omega arith
lines_few (b ∷ text) = go (eqb b 10) (lines_of text) (lines_few text)
  where
    go : (t : Bool) (ls : List (List ℕ)) → length ls ≤ length text → length (cond t ((b ∷ []) ∷ ls) (longer b ls)) ≤ suc (length text)
    go true ls h = omega arith
    go false [] h = omega arith
    go false (l ∷ ls) h = omega arith

pub refused_line_lem : (text : List ℕ) (r : Refusal) (n : ℕ) → read_frame text ≡ refused_at r n → n ≤ 65537
refused_line_lem text r n e = go (refusals_mean text r n e)
  where
    go : {r : Refusal} {n : ℕ} → Refused text r n → n ≤ 65537
    go (too_long h) = omega arith
    go (at_line n stage f r l h p q) = omega (arith, l, h, lines_few text)
    go (missing stage f l p h) = omega (arith, l, lines_few text)
    go (unjoined n stage f r l p h i e u) = omega (arith, l, i, lines_few text)
