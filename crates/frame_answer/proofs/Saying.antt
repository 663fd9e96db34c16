-- What is held after a run says the answer. Assumes nothing.
use mathlib.Core.Path.{refl, sym, ap, ◌∙◌}
use mathlib.Core.List.{List}
use Prim.Native.Nat.{ℕ}
use native.Mathlib.Omega.{arith}
use lib.ListN.{length}
use Rattle.role_counts.specs.RoleCounts.{RoledStats}
use Rattle.report_line.specs.Result.{line_count}
use Rattle.report_words.proofs.Outcomes.{outcomes_length}
use Rattle.frame_answer.specs.Answer.{Lent, Recovers, recovers_not, recovers, answer_lines, answer_piece, held_lines, held_piece, CanSay, FewPasses, Says}
use Rattle.frame.specs.declared.FrameRefusal.{FrameRefusal}
use Rattle.frame_answer.specs.declared.Recovered.{Recovered}
use Rattle.std.proofs.Common.{Result}
use Rattle.frame_laws.proofs.Refusing.{refused_line_lem}

pub says : (text : List ℕ) (before after : Lent) (r : Result Recovered FrameRefusal) → Recovers text before after r → Says text after.frame.sheet after.words r
unfolding CanSay held_lines held_piece answer_lines answer_piece
says text before after _ (recovers_not r line e kept) =
    record {
      can_say = omega (arith, refused_line_lem text r line e);
      lines_so = rw e refl;
      piece_so = λ k room. rw e refl;
    }
says text before after _ (recovers f corners passes e w) =
    record {
      can_say = record { few_corners = w.few_corners; few_passes = w.few_passes; words_long = w.words_long; sheet_long = w.sheet_long; tame = w.tame; known = w.known; once = w.once };
      lines_so = rw e (ap line_count (sym (outcomes_length after.words 0 passes) ∙ ap (λ (s : List RoledStats). length s) w.outcomes_so));
      piece_so = λ k room. rw (e, w.outcomes_so, w.sheet_so) refl;
    }

-- so it can be said
pub can_say : (text : List ℕ) (before after : Lent) (r : Result Recovered FrameRefusal) → Recovers text before after r → CanSay r after.words after.frame.sheet × FewPasses r
can_say text before after r w = ((says text before after r w).can_say, few w)
  where
    few : {r : Result Recovered FrameRefusal} → Recovers text before after r → FewPasses r
    few (recovers_not r line e kept) = tt
    few (recovers f corners passes e w) = w.few_passes
