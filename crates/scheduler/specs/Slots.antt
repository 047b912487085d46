-- How a state lies in a work slot, and what slots hold.
use Rattle.std.specs.Prelude.{ℕ, ◌+◌, ◌-◌, ◌*◌, ◌^◌, ◌/◌, ◌%◌, ◌≤◌, ◌<◌, ◌≡◌, Bool, not, List, ◌⊎◌, length, get_or, T, leb, Option, Some, None}
use Rattle.meaning.specs.Steps.{State}

-- A slot in use, by its bits: 0 to 39 the operations done, 40 to 43 the values, 44 to 49 the cycle, which a later request
-- brings and which is 0 today, 50 to 55 the number, and bit 56, which is 1. A slot that is not in use is 0.

-- where the values, the number and the mark stand
abbrev pub values_bit : ℕ
values_bit = 40

abbrev pub number_bit : ℕ
number_bit = 50

abbrev pub mark_bit : ℕ
mark_bit = 56

-- the key of a state: all that stands below the number
unfoldable pub key_of : State → ℕ
key_of s = s.done + s.values * 2 ^ values_bit

-- the slot of a state with its number
unfoldable pub slot_of : State → ℕ → ℕ
slot_of s number = key_of s + number * 2 ^ number_bit + 2 ^ mark_bit

-- the slot has the mark
unfoldable pub in_use : ℕ → Bool
in_use slot = leb (2 ^ mark_bit) slot

-- the state that a slot holds; the cycle's bits, which are 0, are read with the values
unfoldable pub state_in : ℕ → State
state_in slot = record { done = slot % 2 ^ values_bit; values = slot / 2 ^ values_bit % 2 ^ (number_bit - values_bit) }

-- the number that a slot holds
unfoldable pub number_in : ℕ → ℕ
number_in slot = slot / 2 ^ number_bit % 2 ^ (mark_bit - number_bit)

-- the slots hold the state s with a number
pub record Holds (slots : List ℕ) (s : State) (number : ℕ) : Type 0 where
  pub place : ℕ
  pub within : place < length slots
  pub used : T (in_use (get_or slots place 0))
  pub state : state_in (get_or slots place 0) ≡ s
  pub numbered : number_in (get_or slots place 0) ≡ number

-- The slots are in order with `used` of them in use: these are the first, no two of them hold the same state.
pub record InOrder (slots : List ℕ) (used : ℕ) : Type 0 where
  pub within : used ≤ length slots
  pub front : (i : ℕ) → i < used → T (in_use (get_or slots i 0))
  pub rest : (i : ℕ) → used ≤ i → T (not (in_use (get_or slots i 0)))
  pub once : (i j : ℕ) → i < used → j < used → state_in (get_or slots i 0) ≡ state_in (get_or slots j 0) → i ≡ j

-- what a look-up for the state s finds
abbrev pub Finds : List ℕ → State → Option ℕ → Type 0
Finds slots s (Some number) = Holds slots s number
Finds slots s None = (number : ℕ) → Holds slots s number → ⊥

-- what is read in one slot for the state s: the number, if the slot holds that state
abbrev pub Reads : ℕ → State → Option ℕ → Type 0
Reads slot s (Some number) = (state_in slot ≡ s) × (number_in slot ≡ number)
Reads slot s None = state_in slot ≡ s → ⊥

-- the slots `after` hold what the slots `before` held, and the state s with a number, and no more
pub record Added (before after : List ℕ) (s : State) (number : ℕ) : Type 0 where
  pub same_length : length after ≡ length before
  pub new : Holds after s number
  pub kept : (r : State) (n : ℕ) → Holds before r n → Holds after r n
  pub only : (r : State) (n : ℕ) → Holds after r n → Holds before r n ⊎ ((r ≡ s) × (n ≡ number))

-- what storing a state with its number gives: all slots were in use, or it is added
abbrev pub StoredAs : List ℕ → List ℕ → ℕ → State → ℕ → Option ℕ → Type 0
StoredAs before after used s number None = used ≡ length before
StoredAs before after used s number (Some n) = Added before after s number × (n ≡ number)
