-- Rows of a table file as the code reads them, and refusals 17 to 19 piece by piece.
use Rattle.std.specs.Prelude.{ℕ, suc, ◌≡◌, Bool, cond, not, ◌&&◌, ◌||◌, List, [], ◌∷◌, eqb}
use Rattle.machine.specs.Sets.{any_below}
use Rattle.machine.specs.Refusals.{Line, line, line_at}
use Rattle.machine.specs.Tables.{Row, has_row, follows, continues}
use Rattle.meaning.specs.Graph.{Graph}
use Rattle.meaning.specs.Steps.{State, machine_of, complete, legal, after, same}
use Rattle.meaning.specs.TableFile.{rows_of, table_in}
use Rattle.parts.specs.declared.Row.{Row as Fields}
use Rattle.parts.specs.Fields.{row_of}

-- the fields hold row p of a graph's table
abbrev pub Holds : Graph → List ℕ → ℕ → Fields → Type 0
Holds g table p r = row_of g r ≡ (table_in g table).row p

-- row q, one cycle earlier, leads on some word to the state of row p
unfoldable pub came_from : (g : Graph) → List ℕ → ℕ → Row (machine_of g) → Bool
came_from g table i p =
    let q = (table_in g table).row i in
    eqb (suc q.cycle) p.cycle
    && any_below (machine_of g).words (λ w. same (after g q.state q.step w) p.state)

-- the state s is complete or has a row at cycle t
unfoldable pub covered : Graph → List ℕ → ℕ → State → Bool
covered g table t s = complete g s || has_row (machine_of g) (table_in g table) t s

-- Refusals 17 and 18 of row i + 1, and refusal 19.
module _ (g : Graph) (table : List ℕ) where
  -- row i + 1 is complete, or it does not follow
  unfoldable pub unfounded : ℕ → Bool
  unfounded i =
      complete g ((table_in g table).row (suc i)).state || not (follows (machine_of g) (table_in g table) (suc i))

  unfoldable pub row_lines : ℕ → List Line
  row_lines i =
      let p = (table_in g table).row (suc i) in
      line_at 17 (suc i) (unfounded i) ∷ line_at 18 (suc i) (not (legal g p.state p.step)) ∷ []

  unfoldable pub gap_line : Line
  gap_line =
      line 19 (suc (rows_of table)) (λ p.
      not (cond (eqb p 0) (covered g table 1 (machine_of g).start) (continues (machine_of g) (table_in g table) p)))
