-- Document 01, 'Why a call is refused': the style numbers of a block and its titles, "glyphs' included", which cause 6 checks.
use Rattle.std.specs.Prelude.{ℕ, List, ◌++◌}
use Rattle.refuse.specs.Causes.{glyph_styles}
use Rattle.block.specs.declared.Block.{Block}
use Rattle.block.specs.Causes.{block_styles}

unfoldable pub frame_styles : Block → List ℕ → List ℕ
frame_styles b titles = block_styles b ++ glyph_styles titles
