-- A buffer after text was written into it, and how long a text is.
use Rattle.std.specs.Prelude.{ℕ, zero, suc, ◌≤◌, ◌≡◌, List, [], ◌∷◌, length}

-- the buffer with these bytes from `at` on, as far as it goes
unfoldable pub laid : List ℕ → ℕ → List ℕ → List ℕ
laid [] at bytes = []
laid (b ∷ out) (suc at) bytes = b ∷ laid out at bytes
laid (b ∷ out) zero [] = b ∷ out
laid (b ∷ out) zero (x ∷ xs) = x ∷ laid out zero xs

-- r is the length of a number's text, which has no more than 20 digits
pub record Counted (text : List ℕ) (r : ℕ) : Type 0 where
  pub right : r ≡ length text
  pub few : r ≤ 20
