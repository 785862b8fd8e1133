-- For each ceiling, the largest value that is accepted and the smallest that is refused.
use Prim.Native.Nat.{ℕ}
use mathlib.Core.Path.{◌≡◌, refl}
use mathlib.Core.Bool.{true, false}
use mathlib.Core.List.{List}
use lib.Dec.{ltb}
use lib.ListN.{length}
use Rattle.text.specs.Line.{TextLine, lines_from}
use Rattle.text.specs.Lists.{some}
use Rattle.refuse.specs.Causes.{most_accepted, screen_wrong, zeros_set, styles_wrong, text_too_long, too_many_glyphs, titles_wrong, too_large, limit_wrong}

screen_largest : screen_wrong most_accepted 512 256 131072 ≡ false
unfolding screen_wrong
screen_largest = refl

columns-over : screen_wrong most_accepted 513 1 513 ≡ true
unfolding screen_wrong
columns-over = refl

rows-over : screen_wrong most_accepted 1 257 257 ≡ true
unfolding screen_wrong
rows-over = refl

styles-most : (styles : List ℕ) → length styles ≡ 64 → styles_wrong most_accepted styles ≡ some zeros_set styles
unfolding styles_wrong
styles-most styles e = rw e

styles-over : (styles : List ℕ) → length styles ≡ 65 → styles_wrong most_accepted styles ≡ true
unfolding styles_wrong
styles-over styles e = rw e

-- "16,384 records pass, 16,385 give 3"
records-most : (text : List ℕ) → length text ≡ 16384 → text_too_long most_accepted text ≡ false
records-most text e = rw e

records-over : (text : List ℕ) → length text ≡ 16385 → text_too_long most_accepted text ≡ true
records-over text e = rw e

titles-most : ltb most_accepted.titles 16 ≡ false
titles-most = refl

titles-over : (records : List ℕ) → length (lines_from 0 records) ≡ 17 → titles_wrong most_accepted records ≡ true
unfolding titles_wrong
titles-over records e = rw e

title-most : (title : TextLine) → length title.records ≡ 256 → too_many_glyphs most_accepted title ≡ false
title-most title e = rw e

title-over : (title : TextLine) → length title.records ≡ 257 → too_many_glyphs most_accepted title ≡ true
title-over title e = rw e

symbol-most : too_large 2097151 ≡ false
symbol-most = refl

symbol-over : too_large 2097152 ≡ true
symbol-over = refl

-- "limit 4,096 passes, 4,097 gives 8"
limit-most : limit_wrong most_accepted 4096 ≡ false
limit-most = refl

limit-over : limit_wrong most_accepted 4097 ≡ true
limit-over = refl
