-- What comes of one read more. Assumes nothing.
use Rattle.std.proofs.Common.{◌≡◌, refl, sym, ap, ◌∙◌, subst, List, [], ◌∷◌, ◌++◌, append-nil, ℕ, zero, suc, ◌+◌, ◌-◌, ◌<◌, ◌≤◌, arith, length, take, drop, length-take, length-take-le, length-drop, Result, Ok, Err, Option}
use borrow.Rule.Slice.PartMut.{put_mid, same_len_mid}
use Rattle.std.proofs.lemmas.List.{take-append-le}
use Rattle.std.proofs.lemmas.Slice.{take-put_mid_below}
use Rattle.std.proofs.Math.Seq.{take-append-add}
use Rattle.std.specs.Io.KnownBytes.{Consumes, Keeps}
use Rattle.std.proofs.KnownBytes.{Consumes-trans, Consumes-kept}
use Rattle.recover_read.specs.Reading.{FitsIn, Took, read_on, Read, some, ended, interrupted, failed, got_by, standing_after, bytes_in, bytes_of, over, full, ReadInto, TookAll, SoFar}
use Rattle.std.specs.declared.ops.ControlFlow.{ControlFlow}
use Rattle.std.specs.declared.ops.ControlFlow.TheVariants.{Break, Continue}
use Rattle.recover_read.specs.declared.NoAnswer.{NoAnswer}
use Rattle.recover_read.specs.declared.ReadFailed.{ReadFailed}

pub begun : (buffer : List ℕ) → SoFar buffer 0 1000
unfolding standing_after bytes_of
begun buffer = record { reads = []; in_room = omega arith; stands = refl; front = refl }

-- the read that gave this, with the bytes that it left
abbrev read_of : List ℕ → Result ℕ NoAnswer → Read
read_of rest (Ok zero) = ended
read_of rest (Ok (suc k)) = some (take (suc k) rest)
read_of rest (Err NoAnswer.Interrupted) = interrupted
read_of rest (Err NoAnswer.Failed) = failed

gave : (rest : List ℕ) (got : Result ℕ NoAnswer) → FitsIn 0 (length rest) got → got_by (read_of rest got) ≡ got
gave rest (Ok zero) f = refl
gave rest (Ok (suc k)) f = ap (λ (n : ℕ). Ok n) (length-take-le (suc k) rest (omega (arith, f)))
gave rest (Err NoAnswer.Interrupted) f = refl
gave rest (Err NoAnswer.Failed) f = refl

-- a buffer after its part from `at` on was lent
abbrev back : List ℕ → ℕ → List ℕ → List ℕ
back old at rest = put_mid at (length old - at) old rest

-- the part is the whole rest
abbrev pub IsRest : List ℕ → ℕ → List ℕ → Type 0
IsRest old at rest = length rest ≡ length (take (length old - at) (drop at old))

-- what is known after one read more: the reading goes on, with less left to do, or it is answered
abbrev pub Next : List ℕ → ℕ → ControlFlow (Result ℕ ReadFailed) (ℕ × ℕ) → Type 0
Next buffer most (Continue so) = SoFar buffer so.0 so.1 × ((length buffer - so.0) + so.1 < most)
Next buffer most (Break answer) = ReadInto buffer answer

module _ (old rest : List ℕ) (at : ℕ) (h : at < length old) (same : IsRest old at rest) where
  sized : length rest ≡ length old - at
  sized = same ∙ simp (length-take, length-drop) (omega arith)

  pub same_size : length (back old at rest) ≡ length old
  same_size = same_len_mid at (length old - at) old rest same

  front : take at (back old at rest) ≡ take at old
  front = take-put_mid_below at (length old - at) old rest at (omega arith) (omega arith)

  -- the front with what was read behind it
  longer : (n : ℕ) → n ≤ length rest → take (at + n) (back old at rest) ≡ take at old ++ take n rest
  longer n l =
      ap (λ (k : ℕ). take (k + n) (back old at rest)) (sym (length-take-le at old (omega arith)))
      ∙ take-append-add (take at old) (rest ++ drop (length old - at) (drop at old)) n
      ∙ ap (λ (s : List ℕ). take at old ++ s) (take-append-le n rest (drop (length old - at) (drop at old)) l)

  module _ {tries : ℕ} (s : SoFar old at tries) where
    stands_after : (got : Result ℕ NoAnswer) → FitsIn 0 (length rest) got → standing_after (read_of rest got ∷ s.reads) ≡ read_on at tries got
    unfolding standing_after
    stands_after got f = rw (s.stands, gave rest got f) refl

    front_after : (got : Result ℕ NoAnswer) → bytes_of (read_of rest got ∷ s.reads) ≡ take at old ++ bytes_in (read_of rest got)
    unfolding bytes_of
    front_after got = ap (λ (b : List ℕ). b ++ bytes_in (read_of rest got)) (sym s.front)

    none_after : (got : Result ℕ NoAnswer) → bytes_in (read_of rest got) ≡ [] → take at (back old at rest) ≡ bytes_of (read_of rest got ∷ s.reads)
    none_after got e = front ∙ sym (front_after got ∙ ap (λ (b : List ℕ). take at old ++ b) e ∙ append-nil (take at old))

  next : (tries : ℕ) (got : Result ℕ NoAnswer) → SoFar old at tries → FitsIn 0 (length rest) got → Next (back old at rest) ((length old - at) + tries) (read_on at tries got)
  unfolding read_on
  next tries (Ok zero) s f =
      record {
        reads = ended ∷ s.reads;
        answers = rw (stands_after s (Ok 0) f) (over _);
        front = (omega (arith, same_size), none_after s (Ok 0) refl);
      }
  next tries (Ok (suc k)) s f = (
    record {
      reads = some (take (suc k) rest) ∷ s.reads;
      in_room = omega (arith, sized, same_size, f);
      stands = stands_after s (Ok (suc k)) f;
      front = longer (suc k) (omega (arith, f)) ∙ sym (front_after s (Ok (suc k)));
    },
    omega (arith, same_size, sized, f),
  )
  next zero (Err NoAnswer.Interrupted) s f = record { reads = interrupted ∷ s.reads; answers = rw (stands_after s (Err NoAnswer.Interrupted) f) (over _); front = tt }
  next (suc tries) (Err NoAnswer.Interrupted) s f = (
    record {
      reads = interrupted ∷ s.reads;
      in_room = omega (arith, same_size);
      stands = stands_after s (Err NoAnswer.Interrupted) f;
      front = none_after s (Err NoAnswer.Interrupted) refl;
    },
    omega (arith, same_size),
  )
  next tries (Err NoAnswer.Failed) s f = record { reads = failed ∷ s.reads; answers = rw (stands_after s (Err NoAnswer.Failed) f) (over _); front = tt }

  -- the same of what a call said
  pub next_of : (tries : ℕ) (got : Result ℕ NoAnswer) (r s : ControlFlow (Result ℕ ReadFailed) (ℕ × ℕ)) → SoFar old at tries → FitsIn 0 (length rest) got
      → r ≡ read_on at tries got → r ≡ s → Next (back old at rest) ((length old - at) + tries) s
  next_of tries got r s so f e g = subst (Next (back old at rest) ((length old - at) + tries)) (sym e ∙ g) (next tries got so f)

pub filled : {buffer : List ℕ} {at tries : ℕ} → SoFar buffer at tries → length buffer ≤ at → ReadInto buffer (Ok at)
filled {buffer} {at} {tries} s h =
    let e : at ≡ length buffer = omega (arith, s.in_room, h) in
    record { reads = s.reads; answers = rw (s.stands, e) (full tries); front = (s.in_room, s.front) }

-- ---- the bytes, where they are known

-- what was taken after one read more
abbrev pub NextTook : Option (List ℕ) → Option (List ℕ) → List ℕ → ControlFlow (Result ℕ ReadFailed) (ℕ × ℕ) → Type 0
NextTook first after buffer (Continue so) = Consumes first after (take so.0 buffer)
NextTook first after buffer (Break answer) = TookAll first after buffer answer

module _ (old rest : List ℕ) (at : ℕ) (h : at < length old) (same : IsRest old at rest) (first before after : Option (List ℕ)) (so : Consumes first before (take at old)) where
  none_took : Keeps before after → Consumes first after (take at (back old at rest))
  none_took t = rw (front old rest at h same) (Consumes-kept first before after _ so t)

  next_took : (tries : ℕ) (got : Result ℕ NoAnswer) → FitsIn 0 (length rest) got → Took before after rest got → NextTook first after (back old at rest) (read_on at tries got)
  unfolding read_on
  next_took tries (Ok zero) f t = (none_took t.0, λ l. t.1)
  next_took tries (Ok (suc k)) f t = rw (longer old rest at h same (suc k) (omega (arith, f))) (Consumes-trans first before after _ _ so t)
  next_took zero (Err NoAnswer.Interrupted) f t = tt
  next_took (suc tries) (Err NoAnswer.Interrupted) f t = none_took t
  next_took tries (Err NoAnswer.Failed) f t = tt

  -- the same of what a call said
  pub next_took_of : (tries : ℕ) (got : Result ℕ NoAnswer) (r s : ControlFlow (Result ℕ ReadFailed) (ℕ × ℕ)) → FitsIn 0 (length rest) got → Took before after rest got
      → r ≡ read_on at tries got → r ≡ s → NextTook first after (back old at rest) s
  next_took_of tries got r s f t e g = subst (NextTook first after (back old at rest)) (sym e ∙ g) (next_took tries got f t)

pub filled_took : (buffer : List ℕ) (at : ℕ) (first after : Option (List ℕ)) → Consumes first after (take at buffer) → length buffer ≤ at → TookAll first after buffer (Ok at)
filled_took buffer at first after t h = (t, λ l. absurd (omega (arith, l, h)))
