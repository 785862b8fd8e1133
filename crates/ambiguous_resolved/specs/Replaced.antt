-- Document 02, C-11: "The crate is given each code 7 as the 1 or 2 read for it."
use Rattle.std.specs.Prelude.{ℕ, Bool, cond, not, ◌&&◌, List, map, eqb}
use Rattle.text.specs.declared.AmbiguousWidth.{AmbiguousWidth}
use Rattle.text.specs.Record.{is_head, symbol_of, width_code_of, ambiguous_cells, whitespace_of, style_of, glyph_record}
use Rattle.render_text.specs.declared.TextSettings.{TextSettings}
use Rattle.paragraph.specs.declared.Notice.{Notice}

-- whether a record is a glyph of width code 7
abbrev pub is_ambiguous : ℕ → Bool
is_ambiguous r = not (is_head r) && eqb (width_code_of r) 7

-- a record with its code 7 replaced by the 1 or 2 read for it
unfoldable pub code_replaced : AmbiguousWidth → ℕ → ℕ
code_replaced ambiguous r = cond (is_ambiguous r) (glyph_record (symbol_of r) (ambiguous_cells ambiguous) (whitespace_of r) (style_of r)) r

-- a text, or titles, with each code 7 replaced
abbrev pub replaced : AmbiguousWidth → List ℕ → List ℕ
replaced ambiguous records = map (code_replaced ambiguous) records

-- a notice with another reading
abbrev pub read_as : AmbiguousWidth → Notice → Notice
read_as ambiguous n =
    record {
      block = n.block;
      style = n.style;
      text_style = n.text_style;
      alignment = n.alignment;
      wrap = n.wrap;
      scroll = n.scroll;
      ambiguous = ambiguous;
    }

-- the settings of a text with another reading
abbrev pub settings_read_as : AmbiguousWidth → TextSettings → TextSettings
settings_read_as ambiguous s =
    record {
      style = s.style;
      text_style = s.text_style;
      alignment = s.alignment;
      wrap = s.wrap;
      scroll = s.scroll;
      ambiguous = ambiguous;
    }
