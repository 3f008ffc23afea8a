-- `after` meets its contract. Assumes nothing.
use Rattle.compile.proofs.Reading.{after_either}
use Rattle.compile.proofs.write.Writing.after.Goals as goal

pub returns : goal.returns
returns c =
    rw c.unwrap_or.ensures (after_either c.args.self.now.numbered c.requires.2 c.rest-rest.ensures c.level-level.ensures.0
    c.find.result c.find.ensures)
