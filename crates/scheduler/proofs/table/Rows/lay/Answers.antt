-- `scheduler::table::Rows::lay` meets its contract. Assumes nothing.
use Prim.Native.Nat.{ℕ, suc, ◌+◌, ◌≤◌}
use native.Mathlib.Nat.{not-le_of_lt}
use mathlib.Core.Path.{◌≡◌, refl, sym, ◌∙◌, ap, subst}
use lib.ListN.{length}
use Rattle.meaning.specs.TableFile.{row_start, row_file}
use Rattle.parts.specs.Fields.{row_of}
use Rattle.scheduler.specs.Writing.{written}
use Rattle.scheduler.proofs.RowLaws.{laid-one}
use Rattle.scheduler.proofs.table.Rows.lay.Goals as goal
use Rattle.scheduler.proofs.table.Rows.lay.Goals.{then-row_start-self, else-row_start-self}

pub returns : goal.returns
returns c g e =
    let a = c.args.self.now in
    let row = row_of g c.args.row in
    let end : row_start g.edition (suc (a.count + 1)) ≡ c.row_start.result =
    ap (λ (k : ℕ). row_start k (suc (a.count + 1))) e ∙ sym c.row_start.ensures.right in
    elim c.if-row_start-self.branch [
      | then-row_start-self w ↦
          rw w.self-is
          (record {
            lent = refl;
            edition = refl;
            laid = laid-one g a.table.now w.put_row.new.table a.count row w.put_row.auto.table
                (λ h. w.put_row.ensures g e ∙ ap (λ (k : ℕ). written a.table.now (row_start k (suc a.count)) (row_file g row)) (sym e));
          })
      | else-row_start-self w ↦
          rw w.self-is
          (record {
            lent = refl;
            edition = refl;
            laid = laid-one g a.table.now a.table.now a.count row refl
                (λ h. absurd (not-le_of_lt w.if-row_start-self.false (subst (λ (k : ℕ). k ≤ length a.table.now) end h)));
          })
    ]
