-- A table of refusals in order, and the verdict that it gives.
use Rattle.std.specs.Prelude.{ℕ, suc, Bool, cond, ◌&&◌, List, [], ◌∷◌, ltb, eqb}
use Rattle.machine.specs.Sets.{first_below}

-- A line of the refusal table: its number, how many places it looks at (0, 1 and on), and whether a place is at fault.
pub record Line : Type 0 where
  pub number : ℕ
  pub places : ℕ
  pub fault : ℕ → Bool

abbrev pub line : ℕ → ℕ → (ℕ → Bool) → Line
line k n f = record { number = k; places = n; fault = f }

-- a line whose place is not named, so 0
abbrev pub placeless : ℕ → Bool → Line
placeless k b = line k 1 (λ p. b)

-- a line that looks at the place p alone
abbrev pub line_at : ℕ → ℕ → Bool → Line
line_at k p b = line k (suc p) (λ q. eqb q p && b)

pub data Verdict : Type 0 where
  taken : Verdict
  refused : ℕ → ℕ → Verdict

-- The first line that has a fault gives its number and its first place at fault.
unfoldable pub judge : List Line → Verdict
judge [] = taken
judge (l ∷ ls) =
    let p = first_below l.places l.fault in
    let later : Verdict = judge ls in
    cond (ltb p l.places) (refused l.number p) later
