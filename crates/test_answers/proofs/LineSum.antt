-- The checksum of a composed line, computed field by field.
use Prim.Native.Nat.{ℕ}
use mathlib.Core.Path.{◌≡◌}
use Rattle.text.specs.Alignment.{alignment_number}
use Rattle.line_composer.specs.declared.WrappedLine.{WrappedLine}
use Rattle.test_sums.specs.SumsExtra.{with_number}
use Rattle.test_answers.specs.TextsExtra.{with_line}

-- extending by the four fields in turn extends by the line
pub fields_give_line-sum : (line : WrappedLine) (sum first end width alignment all : ℕ)
    → first ≡ with_number sum line.first → end ≡ with_number first line.end → width ≡ with_number end line.width
    → alignment ≡ alignment_number line.alignment → all ≡ with_number width alignment → all ≡ with_line sum line
unfolding with_line
fields_give_line-sum line sum first end width alignment all f e w a s = rw (s, w, e, f, a)
