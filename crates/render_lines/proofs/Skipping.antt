-- The loop of `skip_lines`: lines pulled one by one from a composer.
use Prim.Native.Nat.{ℕ, ◌+◌, ◌-◌, ◌<◌, ◌≤◌}
use mathlib.Core.Path.{◌≡◌, refl, sym, ap, ◌∙◌}
use mathlib.Core.List.{List, [], ◌∷◌}
use native.Mathlib.Omega.{arith}
use lib.ListN.{drop}
use lib.Seq.{drop-drop, drop-nil}
use Rattle.text.specs.declared.Alignment.{Alignment}
use Rattle.wrapping.specs.declared.Rule.{Rule}
use Rattle.line_composer.specs.declared.Method.{Method}
use Rattle.line_composer.specs.declared.WrappedLine.{WrappedLine}
use Rattle.line_composer.specs.declared.LineComposer.{LineComposer}
use Rattle.std.specs.Prelude.{Option, Some, None}
use Rattle.line_composer.specs.Lines.{Line, line_at}
use Rattle.line_composer.specs.ComposingExtra.{remaining_lines, Ready, Started, PulledLine}
use Rattle.line_composer.proofs.Pulled.{pulled-left, pulled-ready, none_left, ended-left, ended-ready}
use Rattle.render_lines.specs.DrawingExtra.{ComposerAt}

-- after a line is pulled, the rest starts one line later
pub drop_more : (n : ℕ) (all rest : List Line) (line : Line) → line ∷ rest ≡ drop n all → rest ≡ drop (n + 1) all
drop_more n all rest line e = ap (drop 1) e ∙ drop-drop 1 n all

-- if no line remains from n on, none remains from a later index
pub drop_past : (n m : ℕ) (all : List Line) → n ≤ m → [] ≡ drop n all → [] ≡ drop m all
drop_past n m all h e =
    let z : n + (m - n) ≡ m = omega arith in
    sym (drop-nil (m - n)) ∙ ap (drop (m - n)) e ∙ drop-drop (m - n) n all ∙ ap (λ (k : ℕ). drop k all) z

-- Invariant of `skip_lines`: i lines, at most n, were pulled from the composer `first`, and `c` has the rest.
pub record Skipping (u : Rule) (default : Alignment) (text : List ℕ) (n : ℕ) (first : LineComposer) (c : LineComposer) (i : ℕ) : Type 0 where
  pub reached : i ≤ n
  pub ready : Ready u text c
  pub lines_left : remaining_lines u default text c ≡ drop i (remaining_lines u default text first)

pub skipping_starts : (u : Rule) (method : Method) (default : Alignment) (text : List ℕ) (n : ℕ) (c : LineComposer) → Started u method text c → Skipping u default text n c c 0
skipping_starts u method default text n c s = record { reached = omega arith; ready = s.ready; lines_left = refl }

module _ (u : Rule) (default : Alignment) (text : List ℕ) (n : ℕ) (first c : LineComposer) (i : ℕ) (s : Skipping u default text n first c i) where
  pub skipping_goes : (o : Option WrappedLine) (line : WrappedLine) (d : LineComposer) → i < n → PulledLine u default text c o d → o ≡ Some line → Skipping u default text n first d (i + 1)
  skipping_goes o line d h p e =
      record {
        reached = omega arith;
        ready = pulled-ready u default text c o d p line e;
        lines_left = drop_more i _ _ (line_at u text line) (sym (pulled-left u default text c o d p line e) ∙ s.lines_left);
      }

  pub skipping_short : (method : Method) (o : Option WrappedLine) (d : LineComposer) → Started u method text first → PulledLine u default text c o d → o ≡ None → ComposerAt u method default text n d
  skipping_short method o d t p e =
      let z : remaining_lines u default text c ≡ [] = none_left u default text c o d p e in
      record {
        ready = ended-ready u default text c o d p e;
        lines_left = ended-left u default text c o d p e ∙ drop_past i n _ s.reached (sym z ∙ s.lines_left) ∙ ap (drop n) (t.lines_left default);
      }

  pub skipping_done : (method : Method) → Started u method text first → n ≤ i → ComposerAt u method default text n c
  skipping_done method t h =
      let e : i ≡ n = omega (arith, s.reached) in
      record { ready = s.ready; lines_left = s.lines_left ∙ ap (λ (k : ℕ). drop k (remaining_lines u default text first)) e ∙ ap (drop n) (t.lines_left default) }

pub ruleset skipping = (skipping_starts, skipping_goes, skipping_short, skipping_done)
