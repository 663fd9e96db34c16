-- Lists given by what stands at each place, and tests of every place. Definitions only.
use Rattle.std.specs.Prelude.{Bool, true, ◌&&◌, List, [], ◌∷◌, ◌++◌, ℕ, zero, suc}

-- n entries: f 0, f 1, ..
unfoldable pub table {ℓ} : {A : Type ℓ} → ℕ → (ℕ → A) → List A
table zero f = []
table (suc n) f = f zero ∷ table n (λ k. f (suc k))

-- n lists, one after the other: f 0, f 1, ..
unfoldable pub concatenated {ℓ} : {A : Type ℓ} → ℕ → (ℕ → List A) → List A
concatenated zero f = []
concatenated (suc n) f = concatenated n f ++ f n

-- whether each number below n passes
unfoldable pub every : ℕ → (ℕ → Bool) → Bool
every zero p = true
every (suc n) p = every n p && p n
