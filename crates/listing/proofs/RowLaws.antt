-- The lines of rows, one after the other. Assumes nothing.
use Prim.Native.Nat.{ℕ, suc, ◌+◌, ◌*◌}
use native.Mathlib.Numerals.{add-one}
use native.Mathlib.Omega.{arith}
use mathlib.Core.Path.{◌≡◌, refl, sym, ◌∙◌, ap, subst}
use mathlib.Core.List.{List, ◌++◌}
use Rattle.machine.specs.Sets.{list_below}
use Rattle.machine.specs.Tables.{Row}
use Rattle.meaning.specs.Graph.{Graph}
use Rattle.meaning.specs.Steps.{machine_of}
use Rattle.meaning.specs.TableFile.{table_in}
use Rattle.meaning.specs.Listing.{row_line}
use Rattle.parts.specs.declared.Row.{Row as Fields}
use Rattle.parts.specs.Fields.{IsRow, row_of}
use Rattle.parts.proofs.PartLaws.{row_is}
use Rattle.text.proofs.WriteLaws.{laid_none}
use Rattle.listing.specs.Listed.{Adds}
use Rattle.listing.specs.declared.Page.{Page}
use Rattle.listing.proofs.PutLaws.{adds_then, adds_few}

-- the lines of the first n rows
abbrev pub lines_below : Graph → List ℕ → ℕ → List ℕ
lines_below g table n = list_below n (λ i. row_line g ((table_in g table).row (suc i)))

module _ (g : Graph) (table : List ℕ) where
  pub none_put : (page : Page) → Adds (113 * 0) page (lines_below g table 0) page
  unfolding list_below
  none_put page =
      record {
        same = refl;
        put = record { writes = sym (laid_none page.out.now page.end); ends = omega arith; near = omega arith };
      }

  -- one row more
  pub more_put : {before middle after : Page} (n : ℕ) (r : Fields) → Adds (113 * n) before (lines_below g table n) middle
      → IsRow g table (suc n) r → Adds 113 middle (row_line g (row_of g r)) after
      → Adds (113 * (n + 1)) before (lines_below g table (n + 1)) after
  more_put {before = before} {after = after} n r p is q =
      subst (λ (text : List ℕ). Adds (113 * (n + 1)) before text after) text-is (adds_few (omega arith) (adds_then p q))
    where
      text-is : lines_below g table n ++ row_line g (row_of g r) ≡ lines_below g table (n + 1)
      text-is =
          ap (λ (row : Row (machine_of g)). lines_below g table n ++ row_line g row) (row_is g table (suc n) r is)
          ∙ unfold list_below in ap (lines_below g table) (sym (add-one n))
