-- Theorem `read_back`: every composed line of a text is read back from its fields. "Its glyphs are those from first to end that
-- are no wider than the limit."
use Prim.Native.Nat.{ℕ, suc, ◌+◌, ◌-◌}
use mathlib.Core.Path.{◌≡◌, refl, sym, ap, ◌∙◌}
use mathlib.Core.Bool.{Bool, true, false, cond}
use mathlib.Core.List.{List, [], ◌∷◌, ◌++◌, map, append_assoc}
use native.Mathlib.Omega.{arith}
use lib.ListN.{length, take, drop, length-append}
use lib.Seq.{drop_at}
use Rattle.text.specs.declared.Alignment.{Alignment}
use Rattle.text.specs.Record.{is_head, alignment_of}
use Rattle.text.specs.Alignment.{resolved}
use Rattle.text.specs.Line.{Glyph, numbered, until_head, lines_from}
use Rattle.text.proofs.TextLines.{until_take}
use Rattle.wrapping.specs.declared.Rule.{Rule}
use Rattle.wrapping.specs.RunsExtra.{run_of}
use Rattle.word_wrapper.proofs.Simulation.{ReadAll}
use Rattle.wrapping.proofs.Renumbering.{renumber}
use Rattle.line_composer.specs.declared.Method.{Method}
use Rattle.line_composer.specs.Lines.{Line, aligned, lines_of, line_lines, all_lines, lines, wrapped_line_of, line_at}
use Rattle.line_composer.proofs.Methods.{lines-read}
use Rattle.line_composer.proofs.RunLines.{converted_glyphs, converted_fields}
use Rattle.line_composer.proofs.Opening.{numbered-lines}

-- each line is the one read from its first to its end
abbrev pub ReadBack : Rule → List ℕ → List Line → Type 0
ReadBack u text [] = Unit {0}
ReadBack u text (line ∷ rest) = (line_at u text (wrapped_line_of line) ≡ line) × ReadBack u text rest

both : (u : Rule) (text : List ℕ) (a b : List Line) → ReadBack u text a → ReadBack u text b → ReadBack u text (a ++ b)
both u text [] b p q = q
both u text (line ∷ a) b p q = (p.0, both u text a b p.1 q)

module _ (u : Rule) (text : List ℕ) (from to : ℕ) (a : Alignment) where
  abbrev records : List ℕ
  records = take (to - from) (drop from text)

  part_back : (ls : List (List Glyph)) → ReadAll u records ls → ReadBack u text (map (aligned a) (map (map (renumber from)) ls))
  part_back [] r = tt
  part_back (l ∷ ls) r = (
    ap (line_at u text) (sym (converted_fields u text from to a (run_of l) r.0.spans l refl))
        ∙ converted_glyphs u text from to a (run_of l) r.0.spans ∙ ap (λ (gs : List Glyph). aligned a (map (renumber from) gs)) r.0.glyphs,
    part_back ls r.1,
  )

  lines_back : (method : Method) → ReadBack u text (map (aligned a) (lines_of u method a (numbered u.ambiguous from records)))
  lines_back method = rw (numbered-lines u text from to a method) at (part_back (lines_of u method a (numbered u.ambiguous 0 records)) (lines-read u a method records))

module _ (u : Rule) (method : Method) (default : Alignment) (text : List ℕ) where
  -- the text line of the head r, after the records `before`
  line_back : (before : List ℕ) (r : ℕ) (rs : List ℕ) → text ≡ before ++ r ∷ rs
      → ReadBack u text (line_lines u method default (record { head = r; first = suc (length before); records = until_head rs }))
  unfolding line_lines
  line_back before r rs e =
      let from : ℕ = suc (length before) in
      let d : drop from text ≡ rs =
      ap (drop from) (e ∙ sym (append_assoc before (r ∷ []) rs)) ∙ drop_at (before ++ (r ∷ [])) rs from (length-append before (r ∷ []) ∙ omega arith) in
      let n : from + length (until_head rs) - from ≡ length (until_head rs) = omega arith in
      let k : take (from + length (until_head rs) - from) (drop from text) ≡ until_head rs = rw (n, d) (until_take rs) in
      rw k at (lines_back u text from (from + length (until_head rs)) (resolved (alignment_of r) default) method)

  from_back : (before rs : List ℕ) → text ≡ before ++ rs → ReadBack u text (all_lines u method default (lines_from (length before) rs))
  from_back before [] e = tt
  from_back before (r ∷ rs) e =
      let s : text ≡ (before ++ (r ∷ [])) ++ rs = e ∙ sym (append_assoc before (r ∷ []) rs) in
      let n : length (before ++ (r ∷ [])) ≡ suc (length before) = length-append before (r ∷ []) ∙ omega arith in
      go (is_head r) (rw n at (from_back (before ++ (r ∷ [])) rs s))
    where
      go : (b : Bool) → ReadBack u text (all_lines u method default (lines_from (suc (length before)) rs))
          → ReadBack u text
          (all_lines u method default
          (cond b
          (record { head = r; first = suc (length before); records = until_head rs } ∷ lines_from (suc (length before)) rs)
          (lines_from (suc (length before)) rs)))
      go true later = both u text (line_lines u method default (record { head = r; first = suc (length before); records = until_head rs })) _ (line_back before r rs e) later
      go false later = later

  pub read_back : ReadBack u text (lines u method default text)
  unfolding lines
  read_back = from_back [] text refl
