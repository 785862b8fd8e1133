-- `count_pages::pages` meets its contract.
use Rattle.draw_notice.proofs.Answers.{few_columns, few_rows, composable}
use Rattle.count_pages.proofs.Answers.{pages-none, inner_sizes, few-lines, lines_fit, pages-counted}
use mathlib.Core.Path.{sym, ◌∙◌}
use native.Mathlib.Omega.{arith}
use borrow.Author.Rules.{rules}
use Rattle.count_pages.proofs.pages.Goals as goal

pub screen_size-screen-requires : goal.screen_size-screen-requires
screen_size-screen-requires c = let checked = c.draw_notice_verdict.ensures in
    (few_columns _ _ checked (search rules), few_rows _ _ checked (search rules))

pub returns-then-is_empty : goal.returns-then-is_empty
returns-then-is_empty c = let checked = c.draw_notice_verdict.ensures in
    let area = rw c.screen_size-screen.ensures at c.inner_area-inner.ensures in
    pages-none _ _ checked (search rules) _ area (sym c.is_empty.ensures ∙ c.if-is_empty.true)

pub count_at-lines-requires : goal.count_at-lines-requires
count_at-lines-requires c = let checked = c.draw_notice_verdict.ensures in
    let text = composable _ _ checked (search rules) in
    let area = rw c.screen_size-screen.ensures at c.inner_area-inner.ensures in
    let some = sym c.is_empty.ensures ∙ c.if-is_empty.false in
    let sizes = inner_sizes _ _ checked (search rules) _ area some in
    (text.few, text.opens, omega (arith, sizes))

pub overflow_cast-lines : goal.overflow_cast-lines
overflow_cast-lines c = let checked = c.draw_notice_verdict.ensures in
    let area = rw c.screen_size-screen.ensures at c.inner_area-inner.ensures in
    let some = sym c.is_empty.ensures ∙ c.if-is_empty.false in
    lines_fit _ _ checked (search rules) _ area some _ c.count_at-lines.ensures

pub page_count-requires : goal.page_count-requires
page_count-requires c = let checked = c.draw_notice_verdict.ensures in
    let area = rw c.screen_size-screen.ensures at c.inner_area-inner.ensures in
    let some = sym c.is_empty.ensures ∙ c.if-is_empty.false in
    let few = few-lines _ _ checked (search rules) _ area some _ c.count_at-lines.ensures in
    let sizes = inner_sizes _ _ checked (search rules) _ area some in
    (omega (arith, few), omega (arith, sizes))

pub returns : goal.returns
returns c = let checked = c.draw_notice_verdict.ensures in
    let area = rw c.screen_size-screen.ensures at c.inner_area-inner.ensures in
    let some = sym c.is_empty.ensures ∙ c.if-is_empty.false in
    pages-counted _ _ checked (search rules) _ area some _ c.count_at-lines.ensures _ c.page_count.ensures
