-- Unpacking an entry gives the fields of its composed line and its mark; with mark 0 it is document 01's entry.
use Prim.Native.Nat.{ℕ, ◌+◌, ◌*◌, ◌/◌, ◌%◌, ◌^◌, ◌<◌}
use mathlib.Core.Path.{◌≡◌, refl}
use mathlib.Core.Bool.{Bool}
use native.Mathlib.Omega.{arith}
use Rattle.text.specs.Alignment.{alignment_number}
use Rattle.text.proofs.Bools.{bit_small}
use Rattle.text.proofs.Resolving.{alignment-small}
use Rattle.line_composer.specs.declared.WrappedLine.{WrappedLine}
use Rattle.entry.specs.Entry.{entry_packed, mark_number, entry_marked, entry_first, entry_end, entry_width, entry_alignment, entry_mark, unmarked}

-- fields within their bits are unpacked unchanged; for the mark the fields above it need no bound
module _ (first end width alignment mark : ℕ) (m : mark < 2) where
  abbrev entry : ℕ
  entry = first * 2 ^ 49 + end * 2 ^ 34 + width * 2 ^ 18 + alignment * 2 ^ 16 + mark * 2 ^ 15

  mark_back : entry / 2 ^ 15 % 2 ≡ mark
  mark_back = let q : entry / 2 ^ 15 ≡ 2 * (first * 2 ^ 33 + end * 2 ^ 18 + width * 2 ^ 2 + alignment) + mark = omega arith in omega arith

  module _ (e : end < 2 ^ 15) (w : width < 2 ^ 16) (a : alignment < 4) where
    first_back : entry / 2 ^ 49 ≡ first
    first_back = omega arith

    end_back : entry / 2 ^ 34 % 2 ^ 15 ≡ end
    end_back = let q : entry / 2 ^ 34 ≡ first * 2 ^ 15 + end = omega arith in omega arith

    width_back : entry / 2 ^ 18 % 2 ^ 16 ≡ width
    width_back = let q : entry / 2 ^ 18 ≡ first * 2 ^ 31 + end * 2 ^ 16 + width = omega arith in omega arith

    alignment_back : entry / 2 ^ 16 % 2 ^ 2 ≡ alignment
    alignment_back = let q : entry / 2 ^ 16 ≡ first * 2 ^ 33 + end * 2 ^ 18 + width * 2 ^ 2 + alignment = omega arith in omega arith

-- the fields of an entry are those of its line; the list call packs no line with larger fields
pub entry_fields : (c : WrappedLine) (mark : Bool) → c.end < 2 ^ 15 → c.width < 2 ^ 16 →
    let packed = entry_marked c mark in
    (entry_first packed ≡ c.first) × (entry_end packed ≡ c.end) × (entry_width packed ≡ c.width) × (entry_alignment packed ≡ alignment_number c.alignment)
unfolding entry_packed entry_marked
entry_fields c mark e w =
    let n : ℕ = alignment_number c.alignment in
    let a : n < 4 = omega (arith, alignment-small n c.alignment refl) in
    let k : ℕ = mark_number mark in
    let m : k < 2 = bit_small mark in
    (first_back c.first c.end c.width n k m e w a, end_back c.first c.end c.width n k m e w a, width_back c.first c.end c.width n k m e w a, alignment_back c.first c.end c.width n k m e w a)

pub entry-mark : (c : WrappedLine) (mark : Bool) → entry_mark (entry_marked c mark) ≡ mark_number mark
unfolding entry_packed entry_marked
entry-mark c mark = mark_back c.first c.end c.width (alignment_number c.alignment) (mark_number mark) (bit_small mark)

-- the mark aside, an entry is that of document 01
pub entry-unmarked : (c : WrappedLine) (mark : Bool) → unmarked (entry_marked c mark) ≡ entry_packed c
unfolding entry_marked
entry-unmarked c mark = rw (entry-mark c mark) (omega arith)
