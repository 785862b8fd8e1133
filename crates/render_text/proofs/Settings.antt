-- The options of `render_lines`: one law for each arm of `text_options`.
use Prim.Native.Nat.{ℕ}
use mathlib.Core.Path.{◌≡◌}
use mathlib.Core.Bool.{Bool, false}
use Rattle.wrapping.specs.Rule.{rule_of}
use Rattle.line_composer.specs.declared.Method.TheVariants.{WordWrap, Truncate}
use Rattle.line_composer.specs.declared.Wrap.TheVariants.{Off, On}
use Rattle.render_text.specs.declared.TextSettings.{TextSettings}
use Rattle.render_text.specs.SettingsExtra.{text_options_of}

module _ (n : TextSettings) (width : ℕ) where
  pub wrapped : (trim : Bool) → n.wrap ≡ On trim
      → record { rule = rule_of n.ambiguous width trim; method = WordWrap; default_alignment = n.alignment; style = n.text_style; scroll = n.scroll } ≡ text_options_of n width
  unfolding text_options_of
  wrapped trim e = rw e

  pub unwrapped : (column : ℕ) → n.wrap ≡ Off column
      → record { rule = rule_of n.ambiguous width false; method = Truncate column; default_alignment = n.alignment; style = n.text_style; scroll = n.scroll } ≡ text_options_of n width
  unfolding text_options_of
  unwrapped column e = rw e

pub ruleset settings = (wrapped, unwrapped)
