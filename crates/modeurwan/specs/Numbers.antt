-- Answers as the plain numbers that cross to C: a verdict is its number and place, and success is 0.
use Rattle.std.specs.Prelude.{ℕ, ◌≡◌, List}
use Rattle.machine.specs.Refusals.{Verdict, taken, refused}
use Rattle.meaning.specs.Graph.{Graph}
use Rattle.meaning.specs.Answers.{Answer, Reading, Part, scheduler, slots_after, table_after}
use Rattle.meaning.specs.Writer.{Writing, writer, output_after}
use Rattle.modeurwan.specs.declared.ModeurwanAnswer.{ModeurwanAnswer}
use Rattle.modeurwan.specs.declared.ModeurwanPart.{ModeurwanPart}
use Rattle.modeurwan.specs.declared.ModeurwanReading.{ModeurwanReading}
use Rattle.modeurwan.specs.declared.ModeurwanWriting.{ModeurwanWriting}

unfoldable pub number_of : Verdict → ℕ
number_of taken = 0
number_of (refused k p) = k

unfoldable pub place_of : Verdict → ℕ
place_of taken = 0
place_of (refused k p) = p

unfoldable pub reading_numbers : Reading → ModeurwanReading
reading_numbers r =
    record {
      number = number_of r.verdict;
      place = place_of r.verdict;
      operations = r.operations;
      classes = r.classes;
      controls = r.controls;
      arcs = r.arcs;
    }

unfoldable pub answer_numbers : Answer → ModeurwanAnswer
answer_numbers a =
    record {
      number = number_of a.verdict;
      place = place_of a.verdict;
      cycles = a.cycles;
      rows = a.rows;
      states = a.states;
    }

-- what scheduling gives: the answer's numbers, and both buffers afterwards
pub record Schedules (file slots table : List ℕ) (r : ModeurwanAnswer) (slots_last table_last : List ℕ) : Type 0 where
  pub answers : r ≡ answer_numbers (scheduler file slots table)
  pub clears : slots_last ≡ slots_after file slots table
  pub writes : table_last ≡ table_after file slots table

unfoldable pub part_numbers : Part → ModeurwanPart
part_numbers p = record { start = p.start; end = p.end }

unfoldable pub writing_numbers : Writing → ModeurwanWriting
writing_numbers w = record { number = number_of w.verdict; place = place_of w.verdict; length = w.length }

-- what writing gives: the answer's numbers, and the output afterwards
pub record Writes (g : Graph) (output : List ℕ) (r : ModeurwanWriting) (output_last : List ℕ) : Type 0 where
  pub answers : r ≡ writing_numbers (writer g output)
  pub writes : output_last ≡ output_after g output
