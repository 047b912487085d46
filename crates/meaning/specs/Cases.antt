-- Document 01's cases P1 to P11, what the program prints, what the writer writes, what is certain of a graph, and empty steps: what
-- is given, and what has to come out.
use Rattle.std.specs.Prelude.{ℕ, suc, Bool, true, false, ◌||◌, List, [], ◌∷◌, ◌++◌, replicate, take}
use Prim.Native.String.{String}
use Rattle.machine.specs.Sets.{all_below}
use Rattle.machine.specs.Refusals.{taken, refused}
use Rattle.machine.specs.Machine.{run}
use Rattle.machine.specs.Tables.{prescribed}
use Rattle.meaning.specs.Graph.{Graph, graph_of, content}
use Rattle.meaning.specs.Steps.{machine_of}
use Rattle.meaning.specs.TableFile.{table_in}
use Rattle.meaning.specs.Answers.{Answer, scheduler, table_after, checker}
use Rattle.meaning.specs.Certain.{no_follow_arc, no_limit_zero, certain, certain_cycles, idling_of}
use Rattle.meaning.specs.Writer.{Writing}

-- the scheduler on a graph with so many slots, its answer and the table; or the checker on a graph and a table
pub data Case : Type 0 where
  schedules : List ℕ → ℕ → Answer → List ℕ → Case
  checks : List ℕ → List ℕ → Answer → Case

-- the answer, and the first bytes of the table buffer
pub record Outcome : Type 0 where
  pub answer : Answer
  pub table : List ℕ

-- the slots lent hold ones and the table buffer 40 sevens
unfoldable pub computed : Case → Outcome
computed (schedules file slots expected table) =
    record {
      answer = scheduler file (replicate slots 1) (replicate 40 7);
      table = table_after file (replicate slots 1) (replicate 40 7);
    }
computed (checks file table expected) = record { answer = checker file table; table = [] }

-- a buffer of 40 sevens after a table was written to it
unfoldable pub padded : List ℕ → List ℕ
padded table = take 40 (table ++ replicate 40 7)

unfoldable pub expected : Case → Outcome
expected (schedules file slots answer table) = record { answer = answer; table = padded table }
expected (checks file table answer) = record { answer = answer; table = [] }

abbrev refusal : ℕ → ℕ → Answer
refusal k p = record { verdict = refused k p; cycles = 0; rows = 0; states = 0 }

abbrev success : ℕ → ℕ → ℕ → Answer
success cycles rows states = record { verdict = taken; cycles = cycles; rows = rows; states = states }

-- case A with the limit of class 1 given
abbrev graph_a : ℕ → List ℕ
graph_a limit =
    0x48 ∷ 0x53 ∷ 0x01 ∷ 0x03 ∷ 0x02 ∷ 0x01 ∷ 0x00 ∷ 0x00 ∷ 0x10 ∷ 0x00 ∷ 0x12 ∷ 0x00 ∷ 0x1B ∷ 0x00 ∷ 0x1C ∷ 0x00
    ∷ 0x01 ∷ limit ∷ 0x00 ∷ 0x00 ∷ 0x00 ∷ 0x01 ∷ 0x01 ∷ 0x00 ∷ 0x01 ∷ 0x00 ∷ 0x01 ∷ 0x00 ∷ []

-- no operations, classes, controls, arcs
abbrev graph_empty : List ℕ
graph_empty = 0x48 ∷ 0x53 ∷ 1 ∷ 0 ∷ 0 ∷ 0 ∷ 0 ∷ 0 ∷ 16 ∷ 0 ∷ 16 ∷ 0 ∷ 16 ∷ 0 ∷ 16 ∷ 0 ∷ []

-- follow arcs 0 to 1 and 0 to 2, one class, limit 1
abbrev graph_follow : List ℕ
graph_follow =
    0x48 ∷ 0x53 ∷ 1 ∷ 3 ∷ 1 ∷ 0 ∷ 2 ∷ 0 ∷ 16 ∷ 0 ∷ 17 ∷ 0 ∷ 26 ∷ 0 ∷ 26 ∷ 0
    ∷ 1 ∷ 0 ∷ 0 ∷ 0 ∷ 0 ∷ 0 ∷ 0 ∷ 0 ∷ 0 ∷ 0
    ∷ 0 ∷ 1 ∷ 1 ∷ 0 ∷ 0 ∷ 0 ∷ 2 ∷ 1 ∷ 0 ∷ 0 ∷ []

abbrev header : ℕ → ℕ → List ℕ
header cycles rows = 0x48 ∷ 0x54 ∷ 1 ∷ cycles ∷ rows ∷ 0 ∷ 8 ∷ 0 ∷ []

abbrev row : ℕ → ℕ → ℕ → ℕ → List ℕ
row cycle values done step = cycle ∷ values ∷ done ∷ 0 ∷ 0 ∷ step ∷ 0 ∷ 0 ∷ []

abbrev table_a : List ℕ
table_a = header 2 3 ++ row 1 0 0 1 ++ row 2 0 1 4 ++ row 2 1 1 2

abbrev pub cases : List Case
cases =
    schedules (graph_a 1) 12 (success 2 3 12) table_a
    ∷ schedules (graph_a 1) 11 (refusal 12 0) []
    ∷ schedules (graph_a 2) 12 (success 1 1 12) (header 1 1 ++ row 1 0 0 7)
    ∷ schedules graph_empty 1 (success 0 0 1) (header 0 0)
    ∷ schedules graph_empty 0 (refusal 12 0) []
    ∷ schedules graph_follow 2 (refusal 13 0) []
    ∷ schedules graph_follow 1 (refusal 12 0) []
    ∷ checks (graph_a 1) (header 2 2 ++ row 1 0 0 3 ++ row 2 0 3 4) (success 2 2 0)
    ∷ checks (graph_a 1) (header 2 2 ++ row 1 0 0 1 ++ row 2 0 1 4) (refusal 19 1)
    ∷ checks (graph_a 1) (header 3 3 ++ row 1 0 0 1 ++ row 2 0 1 4 ++ row 2 1 1 2) (refusal 20 0)
    ∷ checks (graph_a 1) (header 2 3 ++ row 1 0 0 6 ++ row 2 0 1 4 ++ row 2 1 1 2) (refusal 18 1)
    ∷ checks (graph_a 1) (header 2 3 ++ row 1 0 0 1 ++ row 2 1 1 2 ++ row 2 0 1 4) (refusal 16 3)
    ∷ checks (graph_a 1) (header 2 3 ++ row 1 0 0 1 ++ row 2 0 1 4 ++ row 2 1 3 2) (refusal 17 3)
    ∷ []

-- what the program prints for case A, for P4's graph, and for P5's
pub record Print : Type 0 where
  pub file : List ℕ
  pub text : String

unfoldable pub prints : List Print
prints =
    record { file = graph_a 1; text = "cycles 2 rows 3 states 12\n1 0 0 1\n2 0 1 4\n2 1 1 2\n" }
    ∷ record { file = graph_empty; text = "cycles 0 rows 0 states 1\n" }
    ∷ record { file = graph_follow; text = "refused 13 0\n" }
    ∷ []

-- the writer on a graph's content and an output of so many sevens: its answer, and the output afterwards
pub record Write : Type 0 where
  pub graph : Graph
  pub room : ℕ
  pub answer : Writing
  pub output : List ℕ

abbrev writes : Graph → ℕ → ℕ → List ℕ → Write
writes g room length output =
    record { graph = g; room = room; answer = record { verdict = taken; length = length }; output = output }

abbrev refuses : Graph → ℕ → ℕ → ℕ → Write
refuses g room k p =
    record { graph = g; room = room; answer = record { verdict = refused k p; length = 0 }; output = replicate room 7 }

-- case A as lists: its operations and controls given
abbrev lists_a : List ℕ → List ℕ → Graph
lists_a operations controls = graph_of 1 (1 ∷ 1 ∷ []) operations controls []

abbrev operations_a : List ℕ
operations_a = 0 ∷ 0 ∷ 0 ∷ 1 ∷ 1 ∷ 0 ∷ 1 ∷ 0 ∷ 1 ∷ []

unfoldable pub writings : List Write
writings =
    writes (lists_a operations_a (0 ∷ [])) 30 28 (graph_a 1 ++ replicate 2 7)
    ∷ writes (lists_a operations_a (0 ∷ [])) 28 28 (graph_a 1)
    ∷ refuses (lists_a operations_a (0 ∷ [])) 27 14 0
    ∷ writes (graph_of 1 [] [] [] []) 16 16 graph_empty
    ∷ refuses (graph_of 2 [] (replicate 75 0) [] []) 0 2 0
    ∷ refuses (graph_of 1 [] (replicate 76 0) [] []) 0 3 0
    ∷ refuses (graph_of 1 [] (replicate 74 0) [] []) 0 5 0
    ∷ refuses (graph_of 1 [] (replicate 72 0) [] []) 0 6 0
    ∷ refuses (lists_a operations_a (1 ∷ [])) 0 9 1
    ∷ []

-- Request 02: the two conditions for a certain schedule, whether it is certain, the cycles that are then, and what the scheduler
-- answers with 12 slots.
pub record Certainty : Type 0 where
  pub no_follow : Bool
  pub no_zero : Bool
  pub is_certain : Bool
  pub cycles : ℕ
  pub answer : Answer

unfoldable pub certainty : List ℕ → Certainty
certainty file =
    record {
      no_follow = no_follow_arc (content file);
      no_zero = no_limit_zero (content file);
      is_certain = certain (content file);
      cycles = certain_cycles (content file);
      answer = scheduler file (replicate 12 1) (replicate 40 7);
    }

-- two operations of one class, limit 1, arc 0 to 1
abbrev graph_chain : List ℕ
graph_chain =
    0x48 ∷ 0x53 ∷ 1 ∷ 2 ∷ 1 ∷ 0 ∷ 1 ∷ 0 ∷ 16 ∷ 0 ∷ 17 ∷ 0 ∷ 23 ∷ 0 ∷ 23 ∷ 0
    ∷ 1 ∷ 0 ∷ 0 ∷ 0 ∷ 0 ∷ 0 ∷ 0
    ∷ 0 ∷ 1 ∷ 0 ∷ 0 ∷ 0 ∷ []

-- The chain takes all cycles that are certain. With follow arcs alone, or a limit of 0 alone, there may be no schedule.
unfoldable pub certainties : List (List ℕ × Certainty)
certainties =
    (graph_chain, record { no_follow = true; no_zero = true; is_certain = true; cycles = 2; answer = success 2 2 3 })
    ∷ (graph_follow, record { no_follow = false; no_zero = true; is_certain = false; cycles = 3; answer = refusal 13 0 })
    ∷ (graph_a 0, record { no_follow = true; no_zero = false; is_certain = false; cycles = 3; answer = refusal 13 0 })
    ∷ []

-- whether the empty step is permitted, once empty steps are, in a state with these operations done and no control true
pub record EmptyStep : Type 0 where
  pub file : List ℕ
  pub done : ℕ
  pub permitted : Bool

unfoldable pub empty_steps : List EmptyStep
empty_steps =
    record { file = graph_a 1; done = 0; permitted = true }
    ∷ record { file = graph_follow; done = 0; permitted = true }
    ∷ record { file = graph_follow; done = 1; permitted = false }
    ∷ record { file = graph_follow; done = 3; permitted = false }
    ∷ record { file = graph_follow; done = 7; permitted = true }
    ∷ []

-- case A's table behind an empty step in cycle 1
abbrev table_waits : List ℕ
table_waits = header 3 4 ++ row 1 0 0 0 ++ row 2 0 0 1 ++ row 3 0 1 4 ++ row 3 1 1 2

-- whether its runs, with empty steps permitted, are all complete after so many cycles, and whether their next steps are permitted
pub record Waiting : Type 0 where
  pub complete : Bool
  pub permitted : Bool

unfoldable pub waiting : ℕ → Waiting
waiting t =
    let g = content (graph_a 1) in
    let M = idling_of g in
    let steps = prescribed (machine_of g) (table_in g table_waits) in
    record {
      complete = all_below M.words (λ w. M.complete (run M steps t w));
      permitted = all_below M.words (λ w. let s = run M steps t w in M.complete s || M.legal s (steps (suc t) s));
    }

unfoldable pub waitings : List (ℕ × Waiting)
waitings =
    (0, record { complete = false; permitted = true })
    ∷ (1, record { complete = false; permitted = true })
    ∷ (2, record { complete = false; permitted = true })
    ∷ (3, record { complete = true; permitted = true })
    ∷ []
