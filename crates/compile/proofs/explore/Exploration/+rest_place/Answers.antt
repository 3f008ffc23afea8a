-- Nothing follows, or the rest of the place below and then what it leads to. Assumes nothing.
use Rattle.compile.proofs.Leading.{stands, rest_none, rest_some}
use Rattle.compile.proofs.explore.Exploration.+rest_place.Goals as goal

pub returns-in_default : goal.returns-in_default
returns-in_default t c =
    rest_none (stands c.args.self.now.source.now.ready c.args.self.now.places.fit c.requires.0) _ c.in_default.ensures c.requires.1

pub returns : goal.returns
returns t c =
    rest_some (stands c.args.self.now.source.now.ready c.args.self.now.places.fit c.requires.0) _ c.in-Some.ensures
    c.level-level.ensures.0 c.rest_place-rest.ensures c.settle.ensures
