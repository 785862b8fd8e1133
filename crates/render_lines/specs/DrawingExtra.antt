-- Not in the papers: preconditions and intermediate results of the functions; `Rows` has the rules.
use Rattle.std.specs.Prelude.{ℕ, ◌≡◌, List, drop}
use Rattle.text.specs.declared.Alignment.{Alignment}
use Rattle.text.specs.Line.{Opens, FewRecords}
use Rattle.wrapping.specs.declared.Rule.{Rule}
use Rattle.line_composer.specs.declared.Method.{Method}
use Rattle.line_composer.specs.declared.LineComposer.{LineComposer}
use Rattle.line_composer.specs.Lines.{Line, lines}
use Rattle.line_composer.specs.ComposingExtra.{remaining_lines, Ready}
use Rattle.render_lines.specs.declared.TextOptions.{TextOptions}

-- precondition of composing: the text is empty or opens with a head, and isn't too long
pub record Composable (text : List ℕ) : Type 0 where
  pub opens : Opens text
  pub few : FewRecords text

-- a composer positioned before line n of a text
pub record ComposerAt (u : Rule) (method : Method) (default : Alignment) (text : List ℕ) (n : ℕ) (c : LineComposer) : Type 0 where
  pub ready : Ready u text c
  pub lines_left : remaining_lines u default text c ≡ drop n (lines u method default text)

-- the composed lines of a text under the options
abbrev pub lines_for : TextOptions → List ℕ → List Line
lines_for options text = lines options.rule options.method options.default_alignment text
