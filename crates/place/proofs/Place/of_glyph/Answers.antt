-- `place::Place::of_glyph` meets its contract.
use Rattle.place.proofs.Places.{places}
use Rattle.place.proofs.Place.of_glyph.Goals as goal

pub returns-then-width-eq0 : goal.returns-then-width-eq0
returns-then-width-eq0 c = search places

pub returns-then-start-width : goal.returns-then-start-width
returns-then-start-width c = search places

pub returns-then-start-edge : goal.returns-then-start-edge
returns-then-start-edge c = search places

pub returns : goal.returns
returns c = search places
