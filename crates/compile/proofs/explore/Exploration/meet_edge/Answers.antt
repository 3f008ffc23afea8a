-- `meet_edge` meets its contract. Assumes nothing.
use Rattle.compile.proofs.Leading.{stands, level_low, seen_rest, met-edge}
use Rattle.compile.proofs.explore.Exploration.meet_edge.Goals as goal

pub add-requires : goal.add-requires
add-requires c =
    let x = stands c.args.self.now.source.now.ready c.args.self.now.places.fit c.requires.0 in
    let r = c.rest_place-rest.ensures in (
      c.args.self.now.source.now.ready.small _ _ _ c.requires.2,
      r.place.below,
      level_low x c.level-level.ensures.0,
      seen_rest x _ _ r c.requires.1,
    )

pub returns-clause-grown : goal.returns-clause-grown
returns-clause-grown c =
    let x = stands c.args.self.now.source.now.ready c.args.self.now.places.fit c.requires.0 in
    rw (met-edge x _ c.rest_place-rest.ensures c.requires.1 c.level-level.ensures.0 c.requires.2) c.add.ensures
