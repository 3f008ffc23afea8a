-- `rest_place` meets its contract, by the places below from which the event leads on: each is lower. Assumes nothing.
use Rattle.compile.proofs.explore.Exploration.+rest_place.Given as goal

abbrev pub decreases-rest_place : goal.decreases-rest_place
decreases-rest_place l = l.p
