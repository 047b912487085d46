-- What planning the rows asks and gives.
use Rattle.std.specs.Prelude.{ℕ, suc, ◌+◌, ◌*◌, ◌^◌, ◌≤◌, ◌<◌, ◌≡◌, cond, not, ◌&&◌, List, [], ◌∷◌, length, get_or, T, eqb}
use Rattle.machine.specs.Sets.{list_below}
use Rattle.machine.specs.Machine.{remaining, best, run}
use Rattle.machine.specs.Tables.{Row, schedule_rows}
use Rattle.machine.proofs.Search.{missing}
use Rattle.meaning.specs.Graph.{Graph, control_count}
use Rattle.meaning.specs.Steps.{State, machine_of, complete, legal}
use Rattle.meaning.specs.TableFile.{most_rows, row_start, row_files}
use Rattle.parts.specs.declared.State.{State as Fields}
use Rattle.parts.specs.Fields.{state_of}
use Rattle.scheduler.specs.declared.table.Rows.{Rows}
use Rattle.scheduler.specs.Search.{Held, Store}
use Rattle.scheduler.specs.Writing.{written}

-- what choosing a step asks: a held state that is unfinished and has a remaining number
pub record Choosing (g : Graph) (slots : List ℕ) (s : State) : Type 0 where
  pub store : Store g slots
  pub held : Held slots s
  pub unfinished : T (not (complete g s))
  pub numbered : remaining (machine_of g) s ≤ (machine_of g).horizon

-- what attaining asks: a step that may be chosen, and a bound that is a number
pub record Attaining (g : Graph) (slots : List ℕ) (s : State) (step bound : ℕ) : Type 0 where
  pub choosing : Choosing g slots s
  pub lawful : T (legal g s step)
  pub numbered : bound < missing

-- what planning asks: the start is held, and so every reachable state, and has a remaining number
pub record Planning (g : Graph) (slots : List ℕ) : Type 0 where
  pub store : Store g slots
  pub start : Held slots (machine_of g).start
  pub numbered : remaining (machine_of g) (machine_of g).start ≤ (machine_of g).horizon

-- the state that the schedule meets after t cycles on the word w
unfoldable pub met : Graph → ℕ → ℕ → State
met g t w = run (machine_of g) (λ u r. best (machine_of g) r) t w

-- the state of word w, where the states of all words lie side by side
abbrev pub state_at : List Fields → ℕ → State
state_at states w = state_of (get_or states w (record { done = 0; values = 0 }))

-- the states of the words from `from` up to `to` are those after t cycles
pub record Meets (g : Graph) (t from to : ℕ) (states : List Fields) : Type 0 where
  pub size : length states ≡ 16
  pub at : (w : ℕ) → from ≤ w → w < to → state_at states w ≡ met g t w

-- the row of word w in the cycle after t cycles, if its state is unfinished and it is the word of the values there
unfoldable pub row_of : (g : Graph) → ℕ → ℕ → List (Row (machine_of g))
row_of g t w =
    cond (eqb (met g t w).values w && not (complete g (met g t w)))
    (record { cycle = suc t; state = met g t w; step = best (machine_of g) (met g t w) } ∷ []) []

-- the rows of that cycle
unfoldable pub cycle_rows : (g : Graph) → ℕ → List (Row (machine_of g))
cycle_rows g t = list_below (2 ^ control_count g) (row_of g t)

-- the rows l laid behind others: counted, and written behind those where the buffer has room for all
pub record Laid (g : Graph) (before after : List ℕ) (rows more : ℕ) (l : List (Row (machine_of g))) : Type 0 where
  pub count : more ≡ rows + length l
  pub same_length : length after ≡ length before
  pub table : row_start g.edition (suc (rows + length l)) ≤ length before → after ≡ written before (row_start g.edition (suc rows)) (row_files g l)

-- the same, of rows in a buffer that stays the one that was lent
pub record Lays (g : Graph) (before after : Rows) (l : List (Row (machine_of g))) : Type 0 where
  pub lent : after.table.ghost_name ≡ before.table.ghost_name
  pub edition : after.edition ≡ before.edition
  pub laid : Laid g before.table.now after.table.now before.count after.count l

-- what going one cycle on asks: the states of all words after the cycles past, and few enough rows so far
pub record CycleAsks (g : Graph) (slots : List ℕ) (past : ℕ) (states : List Fields) (rows : Rows) : Type 0 where
  pub planning : Planning g slots
  pub meets : Meets g past 0 (2 ^ control_count g) states
  pub edition : rows.edition ≡ g.edition
  pub few : rows.count ≤ 16 * past
  pub early : 16 * suc past ≤ most_rows g.edition

-- and what it gives
pub record CycleGives (g : Graph) (past : ℕ) (states : List Fields) (before after : Rows) : Type 0 where
  pub lays : Lays g before after (cycle_rows g past)
  pub meets : Meets g (suc past) 0 (2 ^ control_count g) states

-- what planning all cycles asks
pub record PlanAsks (g : Graph) (slots : List ℕ) (cycles : ℕ) : Type 0 where
  pub planning : Planning g slots
  pub number : cycles ≡ remaining (machine_of g) (machine_of g).start

-- and what it gives
abbrev pub PlanGives : Graph → List ℕ → List ℕ → ℕ → Type 0
PlanGives g before after rows = Laid g before after 0 rows (schedule_rows (machine_of g))
