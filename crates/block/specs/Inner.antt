-- Document 01, 'Inner area and frame (block.rs, padding.rs)': the inner area, and the space that a frame takes.
use Rattle.std.specs.Prelude.{ℕ, ◌+◌, ◌-◌, min, Bool, true, false, cond, ◌||◌, List}
use Rattle.num.specs.Held.{held}
use Rattle.text.specs.declared.TitlePosition.{TitlePosition}
use Rattle.text.specs.declared.TitlePosition.TheVariants.{Top, Bottom}
use Rattle.text.specs.Record.{position_of}
use Rattle.text.specs.Alignment.{resolved_position}
use Rattle.text.specs.Line.{TextLine, lines_from}
use Rattle.layout.specs.declared.Rect.{Rect}
use Rattle.layout.specs.Rect.{right_of, bottom_of}
use Rattle.text.specs.Lists.{some}
use Rattle.block.specs.declared.Block.{Block}
use Rattle.block.specs.declared.Space.{Space}

-- whether two positions are the same
abbrev pub same_position : TitlePosition → TitlePosition → Bool
same_position Top Top = true
same_position Top Bottom = false
same_position Bottom Top = false
same_position Bottom Bottom = true

-- whether the title with this head is at the position, its given one or the block's
abbrev pub title_is_at : Block → TitlePosition → ℕ → Bool
title_is_at b position head = same_position (resolved_position (position_of head) b.titles_position) position

-- whether a block has a title at the position
unfoldable pub has_title_at : Block → List ℕ → TitlePosition → Bool
has_title_at b titles position = some (λ (title : TextLine). title_is_at b position title.head) (lines_from 0 titles)

-- whether each side has a border or title: "a top border or top title", "bottom border or title"
abbrev pub at_left : Block → Bool
at_left b = b.borders.left

abbrev pub at_top : Block → List ℕ → Bool
at_top b titles = b.borders.top || has_title_at b titles Top

abbrev pub at_right : Block → Bool
at_right b = b.borders.right

abbrev pub at_bottom : Block → List ℕ → Bool
at_bottom b titles = b.borders.bottom || has_title_at b titles Bottom

-- "a left border moves x by 1, not past right"; "a top border or top title does so for y"
abbrev pub moved_in : Bool → ℕ → ℕ → ℕ
moved_in present place end = cond present (min (held (place + 1)) end) place

-- cells taken: 1 if a border or title is present, else 0
abbrev pub taken : Bool → ℕ
taken present = cond present 1 0

-- "then x, y gain the left and top padding and the sizes lose both sums"
unfoldable pub inner_of : Block → List ℕ → Rect → Rect
inner_of b titles area =
    record {
      x = held (moved_in (at_left b) area.x (right_of area) + b.padding.left);
      y = held (moved_in (at_top b titles) area.y (bottom_of area) + b.padding.top);
      width = area.width - taken (at_left b) - taken (at_right b) - held (b.padding.left + b.padding.right);
      height = area.height - taken (at_top b titles) - taken (at_bottom b titles) - held (b.padding.top + b.padding.bottom);
    }

-- `horizontal_space` and `vertical_space`: at each end the padding, plus 1 if a border or title is present
abbrev pub space_of : Bool → Bool → ℕ → ℕ → Space
space_of before after paddingBefore paddingAfter =
    record { before = held (paddingBefore + taken before); after = held (paddingAfter + taken after) }

unfoldable pub horizontal_space : Block → Space
horizontal_space b = space_of (at_left b) (at_right b) b.padding.left b.padding.right

unfoldable pub vertical_space : Block → List ℕ → Space
vertical_space b titles = space_of (at_top b titles) (at_bottom b titles) b.padding.top b.padding.bottom
