-- Wrapped or truncated: from the start of a text line the lines are those of the rules, each equals the glyphs of its run, and
-- renumbering the glyphs renumbers the lines.
use Prim.Native.Nat.{ℕ}
use mathlib.Core.Path.{◌≡◌, refl}
use mathlib.Core.Bool.{Bool, true, false, cond, not}
use mathlib.Core.List.{List, [], ◌∷◌, map}
use lib.Dec.{eqb}
use Rattle.text.specs.declared.Alignment.{Alignment}
use Rattle.text.specs.Line.{Glyph, numbered}
use Rattle.wrapping.specs.declared.Rule.{Rule}
use Rattle.word_wrapper.specs.declared.WordWrapper.{WordWrapper}
use Rattle.wrapping.specs.RunsExtra.{run_of}
use Rattle.word_wrapper.specs.StepsExtra.{new_wrapper, close_run}
use Rattle.word_wrapper.proofs.Simulation.{ReadAll}
use Rattle.word_wrapper.proofs.WholeLine.{start-sound, start-runs, wrap-read}
use Rattle.word_wrapper.proofs.Pulling.{sound_closed, closed_runs}
use Rattle.wrapping.proofs.Renumbering.{renumber, lines_renumbered}
use Rattle.line_truncator.specs.Truncation.{offset_of, shown_from, truncate}
use Rattle.line_truncator.proofs.Truncated.{truncated_read, truncated_renumbered}
use Rattle.line_composer.specs.declared.Method.{Method}
use Rattle.line_composer.specs.declared.Method.TheVariants.{WordWrap, Truncate}
use Rattle.line_composer.specs.Lines.{lines_of}
use Rattle.line_composer.specs.ComposersExtra.{line_runs, MethodInvariant}

pub starts-sound : (u : Rule) (method : Method) (records : List ℕ) → MethodInvariant u method records (new_wrapper u)
starts-sound u WordWrap records = start-sound u records
starts-sound u (Truncate column) records = tt

module _ (u : Rule) (alignment : Alignment) where
  pub starts-runs : (method : Method) (records : List ℕ) →
      line_runs u method alignment records (new_wrapper u) ≡ map run_of (lines_of u method alignment (numbered u.ambiguous 0 records))
  unfolding line_runs lines_of truncate
  starts-runs WordWrap records = start-runs u records
  starts-runs (Truncate column) records = go (eqb u.limit 0) (shown_from u (offset_of column alignment) 0 (numbered u.ambiguous 0 records))
    where
      go : (b : Bool) (gs : List Glyph) → cond (not b) (run_of gs ∷ []) [] ≡ map run_of (cond b [] (gs ∷ []))
      go true gs = refl
      go false gs = refl

  pub lines-read : (method : Method) (records : List ℕ) → ReadAll u records (lines_of u method alignment (numbered u.ambiguous 0 records))
  unfolding lines_of
  lines-read WordWrap records = wrap-read u records
  lines-read (Truncate column) records = truncated_read u column alignment records

  pub lines_of_renumbered : (method : Method) (k : ℕ) (gs : List Glyph) →
      lines_of u method alignment (map (renumber k) gs) ≡ map (map (renumber k)) (lines_of u method alignment gs)
  unfolding lines_of
  lines_of_renumbered WordWrap k gs = lines_renumbered u k gs
  lines_of_renumbered (Truncate column) k gs = truncated_renumbered u column alignment k gs

-- a closed wrapper has no line
module _ (u : Rule) (records : List ℕ) (w : WordWrapper) where
  pub closed_none : (method : Method) (alignment : Alignment) → line_runs u method alignment records (close_run w) ≡ []
  unfolding line_runs close_run
  closed_none WordWrap alignment = closed_runs u records w
  closed_none (Truncate column) alignment = refl

  pub closed_sound : (method : Method) → MethodInvariant u method records w → MethodInvariant u method records (close_run w)
  closed_sound WordWrap h = sound_closed u records w h
  closed_sound (Truncate column) h = tt
