-- Theorem `counts`: a tally misses no glyph. At a limit above 0 the counts of glyphs placed, clipped, zero-width, over-wide and
-- dropped add up to the number of glyphs, the records that aren't heads.
-- Theorem `all_whitespace`: every dropped glyph is whitespace.
-- Theorem `tally_counts`: both, for every accepted tally call with a limit above 0.
-- Theorem `default-alignment_irrelevant`: no count depends on the notice's default alignment.
use Prim.Native.Nat.{ℕ, ◌+◌, ◌<◌}
use mathlib.Core.Path.{◌≡◌, refl, sym, ap, ◌∙◌}
use mathlib.Core.List.{List, [], ◌∷◌, map}
use native.Mathlib.Omega.{arith}
use borrow.Author.Tests.{ne_eqb}
use lib.ListN.{length, length-map}
use Rattle.std.specs.Prelude.{Ok}
use Rattle.text.specs.declared.Alignment.{Alignment}
use Rattle.text.specs.declared.Alignment.TheVariants.{Left}
use Rattle.text.specs.Line.{Glyph, lines_from, glyphs_from, Opens}
use Rattle.text.proofs.LineGlyphs.{all_glyphs}
use Rattle.text.proofs.TextLines.{opens-none}
use Rattle.refuse.specs.declared.Refusal.TheVariants.{TextHeads}
use Rattle.refuse.specs.Causes.{most_accepted, text_causes, line_causes}
use Rattle.refuse.proofs.Calls.{no_cause}
use Rattle.refuse.proofs.Accepted.{text-opens}
use Rattle.wrapping.specs.declared.Rule.{Rule}
use Rattle.wrapping.specs.Wrapping.{over_wides}
use Rattle.nothing_lost.specs.Glyphs.{solids}
use Rattle.line_composer.specs.declared.Method.TheVariants.{WordWrap}
use Rattle.line_composer.specs.Lines.{Line, aligned, lines, skipped, dropped}
use Rattle.line_composer.specs.Places.{starts}
use Rattle.tally_lines.specs.TallyingExtra.{line_counts}
use Rattle.tally_lines.proofs.Ways.{all_counted}
use Rattle.tally_lines.proofs.Emitted.{lists, lines-wrapped, emitted-length}
use Rattle.tally.specs.Tally.{composed, tally_of}
use Rattle.tally.specs.Call.{Call, rule_in, causes_of, verdict_of, counts_of}
use Rattle.tally.proofs.Accounted.{skipped-length, all-accounted, all-blank}

-- a text that opens with a head has no glyph outside its lines, so its over-wide glyphs are those of its lines
pub skipped-glyphs : (u : Rule) (text : List ℕ) → Opens text → length (over_wides u (glyphs_from u.ambiguous 0 text)) ≡ length (skipped u text)
unfolding skipped
skipped-glyphs u text o = rw (all_glyphs u.ambiguous 0 text (opens-none text o)) at (skipped-length u (lines_from 0 text))

pub counts : (u : Rule) (text : List ℕ) → Opens text → 0 < u.limit →
    let c = tally_of u text in
    c.placed + c.clipped + c.zero_width + c.over_wide + c.dropped ≡ length (glyphs_from u.ambiguous 0 text)
unfolding tally_of skipped dropped
counts u text o h =
    rw (ne_eqb u.limit 0 (λ (e : u.limit ≡ 0). omega arith))
    (omega (
      arith,
      all_counted u.limit (starts (composed u text)),
      emitted-length u Left text,
      rw (all_glyphs u.ambiguous 0 text (opens-none text o)) at (all-accounted u (lines_from 0 text) h),
    ))

pub all_whitespace : (u : Rule) (text : List ℕ) → solids (dropped u text) ≡ []
unfolding dropped
all_whitespace u text = all-blank u (lines_from 0 text)

-- an accepted text opens with a head
opened : (call : Call) → verdict_of call ≡ Ok tt → Opens call.text
unfolding verdict_of causes_of line_causes text_causes
opened call a = text-opens call.text (no_cause (causes_of most_accepted call) TextHeads a)

pub tally_counts : (call : Call) → verdict_of call ≡ Ok tt → 0 < call.limit →
    let c = counts_of call in
    (c.placed + c.clipped + c.zero_width + c.over_wide + c.dropped ≡ length (glyphs_from call.ambiguous 0 call.text))
    × (solids (dropped (rule_in call) call.text) ≡ [])
unfolding counts_of
tally_counts call a h = (rw a (counts (rule_in call) call.text (opened call a) h), all_whitespace (rule_in call) call.text)

-- counts of lines depend on their glyphs only, not on their alignment
left-starts : (ls : List Line) → starts (map (aligned Left) (lists ls)) ≡ starts ls
left-starts [] = refl
left-starts (line ∷ rest) = rw (left-starts rest)

left-counts : (limit : ℕ) (ls : List Line) → line_counts limit (map (aligned Left) (lists ls)) ≡ line_counts limit ls
unfolding line_counts
left-counts limit ls = rw (left-starts ls, length-map, length-map)

pub default-alignment_irrelevant : (u : Rule) (text : List ℕ) (default other : Alignment) → line_counts u.limit (lines u WordWrap default text) ≡ line_counts u.limit (lines u WordWrap other text)
default-alignment_irrelevant u text default other =
    sym (left-counts u.limit (lines u WordWrap default text))
    ∙ ap (λ (gs : List (List Glyph)). line_counts u.limit (map (aligned Left) gs)) (lines-wrapped u default text ∙ sym (lines-wrapped u other text))
    ∙ left-counts u.limit (lines u WordWrap other text)
