-- `list::list` meets its contract. Assumes nothing.
use Rattle.std.proofs.Common.{ℕ, ◌≡◌, ◌∙◌, ap₂, arith, length, List, rules, subst, sym}
use Rattle.std.proofs.lemmas.List.{length-take-le}
use Rattle.meaning.specs.Graph.{content}
use Rattle.meaning.specs.TableFile.{most_rows, row_start, row_bytes, mask_bytes}
use Rattle.meaning.specs.Listing.{listing}
use Rattle.meaning.proofs.Listing.{listing-printed, printed_short}
use Rattle.listing.specs.Listed.{Listed}
use Rattle.list.proofs.Handed.{handed}
use Rattle.list.proofs.list.Goals as goal

pub returns-clause-listed : goal.returns-clause-listed
unfolding row_start row_bytes mask_bytes most_rows
returns-clause-listed c =
    let values = handed (λ f p h. search rules) c.schedule-scheduled.result c.map_err-answer.result c.map_err-answer.ensures.cases in
    let same = ap₂ (listing (content c.args.graph.now)) (values ∙ c.schedule-scheduled.ensures.answers) c.schedule-scheduled.ensures.writes
    ∙ listing-printed c.args.graph.now c.args.slots.now c.args.table.now c.told-slots c.told-table in
    subst (λ (t : List ℕ). Listed t c.args.text.now c.put_listing.new.out c.put_listing.result) same c.put_listing.ensures

-- the text has room in the buffer
pub returns-clause-prefix_len : goal.returns-clause-prefix_len
unfolding row_start row_bytes mask_bytes most_rows
returns-clause-prefix_len c =
    let listed = returns-clause-listed c in
    let whole : length c.put_listing.new.out ≡ 32768 = c.put_listing.auto.out ∙ c.told-text in
    omega (
      arith,
      listed.counts,
      whole,
      printed_short c.args.graph.now c.args.slots.now c.args.table.now c.told-slots c.told-table,
    )

pub returns-clause-prefix : goal.returns-clause-prefix
returns-clause-prefix c =
    sym (length-take-le c.put_listing.result c.put_listing.new.out (returns-clause-prefix_len c))
