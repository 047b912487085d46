-- `parts::cut` meets its contract. Assumes nothing.
use borrow.Author.Rules.{rules}
use Rattle.parts.proofs.PartLaws.{part_within}
use Rattle.parts.proofs.cut.Goals as goal

pub returns : goal.returns
returns c =
    record {
      holds = part_within c.args.from c.args.to c.min-start.result c.min-end.result
          c.args.file.now c.requires c.min-start.ensures c.min-end.ensures;
      block = search rules;
      place = search rules;
    }
