-- Not in the papers: settings as flat structs of numbers, for callers without enums, and the case that each number names.
use Rattle.std.specs.Prelude.{ℕ, Bool, cond, not, ◌&&◌, ◌||◌, List, [], ◌∷◌, eqb, leb, ℤ}
use Rattle.text.specs.declared.Alignment.{Alignment}
use Rattle.text.specs.declared.Alignment.TheVariants.{Left, Center, Right}
use Rattle.text.specs.declared.AmbiguousWidth.{AmbiguousWidth}
use Rattle.text.specs.declared.AmbiguousWidth.TheVariants.{Narrow, Wide}
use Rattle.text.specs.declared.TitlePosition.{TitlePosition}
use Rattle.text.specs.declared.TitlePosition.TheVariants.{Top, Bottom}
use Rattle.layout.specs.declared.Rect.{Rect}
use Rattle.text.specs.Lists.{some}
use Rattle.block.specs.declared.Block.{Block}
use Rattle.block.specs.declared.Effect.TheVariants.{Overlay, Symbol}
use Rattle.block.specs.declared.Shadow.{Shadow}
use Rattle.block.specs.declared.Shadow.TheVariants.{Absent, Present}
use Rattle.line_composer.specs.declared.Wrap.{Wrap}
use Rattle.line_composer.specs.declared.Wrap.TheVariants.{On, Off}
use Rattle.render_text.specs.declared.TextSettings.{TextSettings}
use Rattle.paragraph.specs.declared.Notice.{Notice}
use Rattle.flat.specs.declared.FlatArea.{FlatArea}
use Rattle.flat.specs.declared.FlatBlock.{FlatBlock}
use Rattle.flat.specs.declared.FlatText.{FlatText}

-- some number isn't below the count of cases
abbrev pub unnamed : ℕ → List ℕ → Bool
unnamed cases numbers = some (leb cases) numbers

-- 0 no, 1 yes
abbrev pub flag_named : ℕ → Bool
flag_named n = eqb n 1

-- 0 left, 1 centre, 2 right
abbrev pub alignment_named : ℕ → Alignment
alignment_named n = cond (eqb n 0) Left (cond (eqb n 1) Center Right)

-- 1 narrow, 2 wide: the cells that an ambiguous glyph is read as (document 02, C-11)
abbrev pub ambiguous_known : ℕ → Bool
ambiguous_known n = not (eqb n 0) && leb n 2

abbrev pub ambiguous_named : ℕ → AmbiguousWidth
ambiguous_named n = cond (eqb n 1) Narrow Wide

-- the settings of a tally and of a list call: trim is 0 or 1, alignment 0 to 2
abbrev pub tally_known : ℕ → ℕ → Bool
tally_known ambiguous trim = ambiguous_known ambiguous && leb trim 1

abbrev pub list_known : ℕ → ℕ → ℕ → Bool
list_known ambiguous alignment trim = tally_known ambiguous trim && leb alignment 2

-- 0 top, 1 bottom
abbrev pub position_named : ℕ → TitlePosition
position_named n = cond (eqb n 0) Top Bottom

-- 0 none, 1 overlay, 2 symbol
unfoldable pub shadow_named : ℕ → ℕ → ℕ → ℤ → ℤ → Shadow
shadow_named kind symbol style x y = cond (eqb kind 0) Absent (Present (cond (eqb kind 1) Overlay (Symbol symbol)) style x y)

-- 0 unwrapped, 1 wrapped, 2 wrapped and trimmed
unfoldable pub wrap_named : FlatText → Wrap
wrap_named t = cond (eqb t.wrap 0) (Off t.column) (On (eqb t.wrap 2))

abbrev pub area_from : FlatArea → Rect
area_from a = record { x = a.x; y = a.y; width = a.width; height = a.height }

-- every number of a block's settings names a case
unfoldable pub block_known : FlatBlock → Bool
block_known b =
    not
    (unnamed 2 (b.border_top ∷ b.border_right ∷ b.border_bottom ∷ b.border_left ∷ b.titles_position ∷ [])
    || unnamed 3 (b.titles_alignment ∷ b.shadow ∷ []))

-- the block that the settings name
unfoldable pub block_from : FlatBlock → Block
block_from b =
    record {
      borders =
          record {
            top = flag_named b.border_top;
            right = flag_named b.border_right;
            bottom = flag_named b.border_bottom;
            left = flag_named b.border_left;
          };
      border_set =
          record {
            top_left = b.top_left;
            top_right = b.top_right;
            bottom_left = b.bottom_left;
            bottom_right = b.bottom_right;
            vertical_left = b.vertical_left;
            vertical_right = b.vertical_right;
            horizontal_top = b.horizontal_top;
            horizontal_bottom = b.horizontal_bottom;
          };
      border_style = b.border_style;
      style = b.style;
      padding =
          record {
            left = b.padding_left;
            right = b.padding_right;
            top = b.padding_top;
            bottom = b.padding_bottom;
          };
      titles_style = b.titles_style;
      titles_alignment = alignment_named b.titles_alignment;
      titles_position = position_named b.titles_position;
      shadow = shadow_named b.shadow b.shadow_symbol b.shadow_style b.shadow_x b.shadow_y;
    }

-- every number of a text's settings names a case
unfoldable pub text_known : FlatText → Bool
text_known t = not (unnamed 3 (t.alignment ∷ t.wrap ∷ [])) && ambiguous_known t.ambiguous

-- the settings that a text's settings name
unfoldable pub settings_from : FlatText → TextSettings
settings_from t =
    record {
      style = t.style;
      text_style = t.text_style;
      alignment = alignment_named t.alignment;
      wrap = wrap_named t;
      scroll = t.scroll;
      ambiguous = ambiguous_named t.ambiguous;
    }

-- the notice that the settings of block and text name
unfoldable pub notice_from : FlatBlock → FlatText → Notice
notice_from b t =
    record {
      block = block_from b;
      style = t.style;
      text_style = t.text_style;
      alignment = alignment_named t.alignment;
      wrap = wrap_named t;
      scroll = t.scroll;
      ambiguous = ambiguous_named t.ambiguous;
    }
