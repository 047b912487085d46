-- `listing::Page::put_text` meets its contract. Assumes nothing.
use native.Mathlib.Omega.{arith}
use mathlib.Core.Path.{sym}
use Rattle.meaning.specs.Graph.{content}
use Rattle.listing.proofs.PutLaws.{refusal-put, success-put}
use Rattle.listing.proofs.Page.put_text.Goals as goal

pub returns-in-Ok : goal.returns-in-Ok
returns-in-Ok c =
    let a = c.args in
    success-put (content a.graph.now) a.table.now a.answer _ c.in-Ok.is (omega arith) c.put_counts.ensures
    (c.put_rows.ensures (content a.graph.now) (sym c.edition.ensures.right))

pub returns-in-Err : goal.returns-in-Err
returns-in-Err c =
    let a = c.args in
    refusal-put (content a.graph.now) a.table.now a.answer _ _ c.in-Err.is (omega arith) c.put_refusal.ensures
