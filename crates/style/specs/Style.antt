-- Document 01, 'Packed fields': the fields of a style, most significant bit first.
use Rattle.std.specs.Prelude.{ℕ, ◌+◌, ◌*◌, ◌/◌, ◌%◌, ◌^◌, Bool, cond, eqb}

-- "Style, 64 bits: foreground given 1 | foreground 8 | background given 1 | background 8 | add 9 | remove 9 | 28 zeros."
pub record Style : Type 0 where
  pub foreground_given : Bool
  pub foreground : ℕ
  pub background_given : Bool
  pub background : ℕ
  pub add : ℕ
  pub remove : ℕ
  pub zeros : ℕ

abbrev pub style_from : ℕ → Style
style_from word =
    record {
      foreground_given = eqb (word / 2 ^ 63 % 2) 1;
      foreground = word / 2 ^ 55 % 2 ^ 8;
      background_given = eqb (word / 2 ^ 54 % 2) 1;
      background = word / 2 ^ 46 % 2 ^ 8;
      add = word / 2 ^ 37 % 2 ^ 9;
      remove = word / 2 ^ 28 % 2 ^ 9;
      zeros = word % 2 ^ 28;
    }

abbrev pub style_packed : Style → ℕ
style_packed s =
    cond s.foreground_given 1 0 * 2 ^ 63
    + s.foreground * 2 ^ 55
    + cond s.background_given 1 0 * 2 ^ 54
    + s.background * 2 ^ 46
    + s.add * 2 ^ 37
    + s.remove * 2 ^ 28
    + s.zeros
