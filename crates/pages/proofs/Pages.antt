-- Demand 3. Theorem `pages`: the symbols read over all the pages of a wrapped notice of one-cell glyphs. Theorem `page-counts`:
-- the counts of the pages' answers, for glyphs of any width. Theorem `demand_three`: both, and the tally of every accepted text.
use mathlib.Core.Path.{◌≡◌, refl, sym, ap, ◌∙◌}
use mathlib.Core.List.{map, map-map}
use Rattle.text.specs.Line.{Glyph, glyphs_from}
use Rattle.wrapping.specs.Rule.{rule_of}
use Rattle.nothing_lost.specs.Glyphs.{solids}
use Rattle.tally.proofs.EveryGlyph.{tally_counts}
use Rattle.draw_notice.specs.Call.{Call}
use Rattle.draw_notice.proofs.Answers.{text-sound}
use Rattle.draw_notice.proofs.Pair.{accepted-whole}
use Rattle.pages.specs.Pages.{inner_area, composed_lines, scroll_of, Placement, placements}
use Rattle.pages.specs.Reading.{Seen, seen, OneCell, WrappedNotice, Reached, NothingLost, SameCounts, DemandThree}
use Rattle.pages.proofs.Fit.{Fit}
use Rattle.pages.proofs.Screen.{accepted-at, inner-some}
use Rattle.pages.proofs.Read.{pages-read}
use Rattle.pages.proofs.Blank.{blank_elsewhere}
use Rattle.pages.proofs.Reached.{wrapped-lines, reached_16, text_accepted}
use Rattle.pages.proofs.Text.{fit_text, placed-glyphs}
use Rattle.pages.proofs.Counts.{same_counts}

-- every page's scroll row fits in 16 bits and its calls are accepted
pages-reached : (i : Call) → WrappedNotice i → Reached i
pages-reached i w page there = (reached_16 i w page there, accepted-at i w (scroll_of i page))

pub pages : (i : Call) → WrappedNotice i → OneCell (glyphs_from i.notice.ambiguous 0 i.text) → NothingLost i
unfolding placements
pages i w cells =
    let inner = inner_area i in
    let default = i.notice.alignment in
    let rule = rule_of i.notice.ambiguous inner.width w.trim in
    let opens = (text-sound i (accepted-whole i w.accepted)).opens in
    let fit : Fit inner.width (composed_lines i) = rw (wrapped-lines i w) (fit_text rule default i.text (inner-some i w).0 opens cells) in
    let places = pages-read i w fit in
    let glyphs : map (λ (p : Placement). p.glyph) (placements i) ≡ solids (glyphs_from i.notice.ambiguous 0 i.text) = rw (wrapped-lines i w) (placed-glyphs inner rule default i.text refl (inner-some i w).0 opens cells) in
    record {
      reached = pages-reached i w;
      symbols =
          ap (map (λ (s : Seen). s.symbol)) places
          ∙ map-map (λ (s : Seen). s.symbol) seen (placements i)
          ∙ sym (map-map (λ (g : Glyph). g.symbol) (λ (q : Placement). q.glyph) (placements i))
          ∙ ap (map (λ (g : Glyph). g.symbol)) glyphs;
      places = places;
      glyphs = glyphs;
      blank_elsewhere = blank_elsewhere i places;
    }

pub page-counts : (i : Call) (w : WrappedNotice i) → SameCounts i w.trim
page-counts i w = same_counts i w (accepted-at i w) (pages-reached i w) (text_accepted i w)

pub demand_three : DemandThree
demand_three =
    record {
      nothing_lost = pages;
      all_counted = λ call a h. let both = tally_counts call a h in record { all_glyphs = both.0; all_whitespace = both.1 };
      same_counts = page-counts;
    }
