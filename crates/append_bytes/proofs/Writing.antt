-- Bytes written into a part of a buffer, and in several steps.
use Prim.Native.Nat.{ℕ, ◌+◌, ◌-◌, ◌≤◌}
use mathlib.Core.Path.{◌≡◌, sym, ap, ◌∙◌}
use mathlib.Core.List.{List, ◌++◌, append_assoc}
use native.Mathlib.Omega.{arith}
use lib.ListN.{length, take, drop, length-append, length-drop}
use lib.Seq.{drop-drop, length-take-le, take-append_seam, drop-append_seam}
use Rattle.append_bytes.specs.WrittenExtra.{Written}

pub written_part :
    (old new bytes : List ℕ) (at to : ℕ) → at + length bytes ≤ length old → to ≡ at + length bytes
    → new ≡ take at old ++ (bytes ++ drop (to - at) (drop at old)) → Written old at new to bytes
written_part old new bytes at to h e p =
    let before = take at old ++ bytes in
    let after = drop (to - at) (drop at old) in
    let ends : to ≡ length before = omega (arith, e, length-take-le at old (omega arith), length-append (take at old) bytes) in
    let split : new ≡ before ++ after = p ∙ sym (append_assoc (take at old) bytes after) in
    let place : at + (to - at) ≡ to = omega arith in
    let past : after ≡ drop to old = drop-drop (to - at) at old ∙ ap (λ (n : ℕ). drop n old) place in
    record {
      moved = e;
      kept = ap length split ∙ omega (arith, length-append before after, ends, ap length past, length-drop to old);
      same = ap (λ (n : ℕ). take n new) ends ∙ ap (take (length before)) split ∙ take-append_seam before after;
      rest = ap (λ (n : ℕ). drop n new) ends ∙ ap (drop (length before)) split ∙ drop-append_seam before after ∙ past;
    }

module _ (old : List ℕ) where
  pub written_then :
      (at : ℕ) (middle new : List ℕ) (next to : ℕ) (first second : List ℕ) →
      Written old at middle next first → Written middle next new to second → Written old at new to (first ++ second)
  written_then at middle new next to first second a b =
      let later : (n : ℕ) → drop (next + n) middle ≡ drop (next + n) old = λ n. sym (drop-drop n next middle) ∙ ap (drop n) a.rest ∙ drop-drop n next old in
      record {
        moved = omega (arith, a.moved, b.moved, length-append first second);
        kept = b.kept ∙ a.kept;
        same = b.same ∙ (rw a.same (append_assoc (take at old) first second));
        rest = b.rest ∙ (rw b.moved (later (length second)));
      }

  -- loop invariant: of the bytes `whole`, all but `left` are written at the start
  pub record Writing (new : List ℕ) (next : ℕ) (left whole : List ℕ) : Type 0 where
    pub done : List ℕ
    pub written : Written old 0 new next done
    pub joined : done ++ left ≡ whole

  module _ (new : List ℕ) (next : ℕ) (left whole : List ℕ) (w : Writing new next left whole) where
    pub writing_goes :
        (newer : List ℕ) (to : ℕ) (bytes rest : List ℕ) → Written new next newer to bytes → left ≡ bytes ++ rest → Writing newer to rest whole
    writing_goes newer to bytes rest b e =
        record {
          done = w.done ++ bytes;
          written = written_then 0 new newer next to w.done bytes w.written b;
          joined = append_assoc w.done bytes rest ∙ ap (λ (l : List ℕ). w.done ++ l) (sym e) ∙ w.joined;
        }
