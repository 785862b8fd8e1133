-- Not in the papers: the pages that `preview` shows.
use Rattle.std.specs.Prelude.{ℕ, ◌+◌, ◌-◌, ◌/◌, max, Option, None, Some, Bool, true, false, cond, eqb, leb}

-- count of pages for the lines from `first` on, at least 1, so that a frame without lines is shown
unfoldable pub pages_from : ℕ → ℕ → ℕ → ℕ
pages_from lines first height = cond (eqb height 0) 1 (max 1 ((lines - first + (height - 1)) / height))

-- whether a page is to be shown: all are, or only the one asked for
abbrev pub is_asked : Option ℕ → ℕ → Bool
is_asked None page = true
is_asked (Some number) page = eqb number page

-- whether the page asked for is past the last of `pages`
abbrev pub is_past : Option ℕ → ℕ → Bool
is_past None pages = false
is_past (Some number) pages = leb pages number
