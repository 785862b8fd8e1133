-- Not in the papers: checksums of areas and of the space that blocks take.
use Rattle.std.specs.Prelude.{ℕ}
use Rattle.layout.specs.declared.Rect.{Rect}
use Rattle.block.specs.declared.Space.{Space}
use Rattle.test_sums.specs.SumsExtra.{with_number}

-- the checksum of an area's four numbers
unfoldable pub area_sum : Rect → ℕ
area_sum area =
    let x = with_number 0 area.x in
    let y = with_number x area.y in
    let width = with_number y area.width in
    with_number width area.height

-- a checksum extended by the space that a block takes on two sides
unfoldable pub with_space : ℕ → Space → ℕ
with_space sum space = with_number (with_number sum space.before) space.after
