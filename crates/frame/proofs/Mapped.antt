-- What `map_err` left of a result: an error that was mapped, and a value that was not. Assumes nothing.
use Rattle.std.proofs.Common.{◌≡◌, refl, sym, Result, Ok, Err, MatchResult}
use Rattle.std.specs.Result.{IsErrAnd}

module _ {T E D : Type 0} where
  pub mapped_err : (r : Result T E) (m : Result T D) (P : E → D → Type 0) → MatchResult r (λ x. m ≡ Ok x) (λ e. IsErrAnd m (P e)) → (d : D) → m ≡ Err d
      → (e : E) × (r ≡ Err e) × P e d
  mapped_err (Ok x) m P h d w = absurd (cc)
  mapped_err (Err e) (Ok x) P h d w = absurd h
  mapped_err (Err e) (Err d') P h d w = let same : d' ≡ d = cc in (e, refl, rw (sym same) h)

  pub mapped_ok : (r : Result T E) (m : Result T D) (P : E → D → Type 0) → MatchResult r (λ x. m ≡ Ok x) (λ e. IsErrAnd m (P e)) → (x : T) → m ≡ Ok x → r ≡ Ok x
  mapped_ok (Ok y) m P h x w = cc
  mapped_ok (Err e) (Ok y) P h x w = absurd h
  mapped_ok (Err e) (Err d) P h x w = cc
