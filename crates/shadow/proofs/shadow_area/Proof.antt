-- `shadow::shadow_area` meets its contract.
use mir.Facts.{to_z-of_z}
use borrow.Author.Rules.{rules}
use Rattle.shadow.proofs.shadow_area.Statement.{statement}
use Rattle.shadow.proofs.shadow_area.Tie as tie

offset-requires : tie.Need-offset-requires
offset-requires c κs = search rules

area-requires : tie.Need-area-requires
area-requires c κs = search rules

intersection-requires : tie.Need-intersection-requires
intersection-requires c κs = search rules

returns : tie.Need-returns
returns c =
    let start = c.before.before.before in
    rw (c.intersection.ensures, c.before.area.ensures, c.before.before.offset.ensures)
    (simp (to_z-of_z start.ranges.x, to_z-of_z start.ranges.y))

pub shadow_area_spec : {M : Type 1} → statement M
shadow_area_spec = tie.close (tie.spec offset-requires area-requires intersection-requires returns)
