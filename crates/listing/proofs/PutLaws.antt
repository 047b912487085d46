-- Text behind text in a buffer, and a listing by its parts. Assumes nothing.
use Prim.Native.Nat.{ℕ, ◌+◌, ◌^◌, ◌≤◌, ◌<◌}
use native.Mathlib.Omega.{arith}
use mathlib.Core.Path.{◌≡◌, sym, ◌∙◌, ap, ap₂, subst}
use mathlib.Core.Bool.{Bool, cond}
use mathlib.Core.List.{List, ◌++◌, append-nil}
use lib.ListN.{length, drop, length-append}
use borrow.Author.Tests.{le-leb, lt-leb}
use Rattle.machine.specs.Refusals.{taken, refused}
use Rattle.meaning.specs.Graph.{Graph}
use Rattle.meaning.specs.Answers.{is_taken}
use Rattle.meaning.specs.Listing.{decimal, first_line, row_lines, listing}
use Rattle.scheduler.specs.declared.Scheduled.{Scheduled}
use Rattle.std.specs.Prelude.{Result, Ok, Err}
use Rattle.text.specs.Writing.{laid}
use Rattle.text.proofs.WriteLaws.{laid_then, laid_whole}
use Rattle.listing.specs.Listed.{answer_of, Listed, Put, Adds}
use Rattle.listing.specs.declared.Page.{Page}

-- one text behind another
pub put_then : {most more : ℕ} {before : List ℕ} {at : ℕ} {a middle : List ℕ} {end : ℕ} {b after : List ℕ} {r : ℕ}
    → Put most before at a middle end → Put more middle end b after r → Put (most + more) before at (a ++ b) after r
put_then {before = before} {at = at} {a = a} {b = b} p q =
    record {
      writes =
          q.writes ∙ ap₂ (λ (l : List ℕ) (k : ℕ). laid l k b) p.writes p.ends ∙ laid_then before at a b;
      ends = omega (arith, p.ends, q.ends, length-append a b);
      near = omega (arith, p.near, q.near);
    }

pub adds_then : {most more : ℕ} {before : Page} {a : List ℕ} {middle : Page} {b : List ℕ} {after : Page}
    → Adds most before a middle → Adds more middle b after → Adds (most + more) before (a ++ b) after
adds_then p q = record { same = q.same ∙ p.same; put = put_then p.put q.put }

-- a number that was converted
pub converted : (text : List ℕ) {most : ℕ} {before after : Page} {m n : ℕ} → m ≡ n → Adds most before (text ++ decimal m) after
    → Adds most before (text ++ decimal n) after
converted text {most = most} {before = before} {after = after} e p =
    subst (λ (k : ℕ). Adds most before (text ++ decimal k) after) e p

-- a text, and room for more than there is need for
pub adds_few : {most more : ℕ} {before : Page} {text : List ℕ} {after : Page} → most ≤ more → Adds most before text after → Adds more before text after
adds_few h p =
    record {
      same = p.same;
      put = record { writes = p.put.writes; ends = p.put.ends; near = omega (arith, p.put.near, h) };
    }

-- the listing of a refusal is its first line
pub refusal-put : {most : ℕ} {before after : Page} (g : Graph) (table : List ℕ) (a : Result Scheduled (ℕ × ℕ)) (number place : ℕ)
    → a ≡ Err (number, place) → most ≤ 2 ^ 31 → Adds most before (first_line (refused number place) 0 0 0) after
    → Adds (2 ^ 31) before (listing g (answer_of a) table) after
unfolding listing answer_of is_taken
refusal-put g table a number place e few p =
    let text = append-nil (first_line (refused number place) 0 0 0) in rw (e, text) (adds_few few p)

-- that of a success is its first line and the lines of the rows
pub success-put : {most more : ℕ} {before middle after : Page} (g : Graph) (table : List ℕ) (a : Result Scheduled (ℕ × ℕ))
    (schedule : Scheduled) → a ≡ Ok schedule → most + more ≤ 2 ^ 31
    → Adds most before (first_line taken schedule.cycles schedule.rows schedule.states) middle
    → Adds more middle (row_lines g table) after → Adds (2 ^ 31) before (listing g (answer_of a) table) after
unfolding listing answer_of is_taken
success-put g table a schedule e few p q = rw e (adds_few few (adds_then p q))

-- a buffer with room for the text holds it, and one without is as it was
pub listed-room : {most : ℕ} {text before after : List ℕ} {r q : ℕ} → r ≡ length text → r ≤ length before → Put most before 0 text after q
    → Listed text before after r
listed-room {text = text} {before = before} {after = after} e h p =
    let room : length text ≤ length before = omega arith in
    record {
      counts = e;
      writes =
          p.writes ∙ laid_whole before text room
          ∙ ap (λ (b : Bool). cond b (text ++ drop (length text) before) before) (sym (le-leb (length text) (length before) room));
    }

pub listed_short : {text before : List ℕ} {r : ℕ} → r ≡ length text → length before < r → Listed text before before r
listed_short {text = text} {before = before} e h =
    record {
      counts = e;
      writes =
          ap (λ (b : Bool). cond b (text ++ drop (length text) before) before) (sym (lt-leb (length text) (length before) (omega arith)));
    }
