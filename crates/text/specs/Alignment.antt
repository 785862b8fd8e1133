-- Document 01, 'Packed fields': the alignment and position of a head.
use Rattle.std.specs.Prelude.{ℕ, ◌<◌, ◌≡◌, cond, eqb, Result, MatchResult}
use Rattle.text.specs.declared.Alignment.{Alignment}
use Rattle.text.specs.declared.Alignment.TheVariants.{Left, Center, Right}
use Rattle.text.specs.declared.Unnamed.{Unnamed}
use Rattle.text.specs.declared.TitlePosition.{TitlePosition}
use Rattle.text.specs.declared.TitlePosition.TheVariants.{Top, Bottom}

-- alignment: 0 left, 1 centre, 2 right
abbrev pub alignment_number : Alignment → ℕ
alignment_number Left = 0
alignment_number Center = 1
alignment_number Right = 2

-- a number gives the alignment that has it, or none, above 2
abbrev pub AlignmentOf : ℕ → Result Alignment Unnamed → Type 0
AlignmentOf number r = MatchResult r (λ a. alignment_number a ≡ number) (λ e. 2 < number)

-- 3 gives the default. "Alignment 3 in a title means none given": titles are chosen with the block's alignment as the default,
-- and drawn with left as the default.
abbrev pub resolved : ℕ → Alignment → Alignment
resolved alignment default =
    cond (eqb alignment 0) Left (cond (eqb alignment 1) Center (cond (eqb alignment 2) Right default))

-- position in a title: 0 top, 1 bottom
abbrev pub position_number : TitlePosition → ℕ
position_number Top = 0
position_number Bottom = 1

-- a number gives the position that has it, or none, above 1
abbrev pub PositionOf : ℕ → Result TitlePosition Unnamed → Type 0
PositionOf number r = MatchResult r (λ p. position_number p ≡ number) (λ e. 1 < number)

-- 2 gives the block's default; 3 is refused (cause 5)
abbrev pub resolved_position : ℕ → TitlePosition → TitlePosition
resolved_position position default = cond (eqb position 0) Top (cond (eqb position 1) Bottom default)
