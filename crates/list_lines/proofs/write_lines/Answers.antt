-- `list_lines::write_lines` meets its contract.
use Rattle.std.proofs.Common.{rules, tests}
use Rattle.list_lines.proofs.Writing.{writing_starts, fields_fit, writing_ends, writing_on, next-writing, same-twice}
use Rattle.list_lines.proofs.write_lines.Goals as goal
use Rattle.list_lines.proofs.write_lines.Goals.{then-is_none, else-is_none}

pub loop-item-init : goal.loop-item-init
loop-item-init c = writing_starts _ _ _ c.new-composer.ensures _ c.next-next.ensures c.requires.text_len_bound.0 c.requires.text_len_bound.2 c.requires.text_in_bounds

pub pack-requires : goal.pack-requires
pack-requires c = fields_fit _ _ _ _ _ (next-writing _ _ _ _ _ _ c.loop-item.invariant c.in-Some.is)

pub loop-item-preserved : goal.loop-item-preserved
loop-item-preserved c =
    let line = next-writing _ _ _ _ _ _ c.loop-item.invariant c.in-Some.is in
    elim c.if-is_none.branch [
      | then-is_none w ↦ writing_ends _ _ _ _ _ line _ _ _ _ c.pack.ensures _ c.next-next-in-loop-item.ensures c.is_none.ensures w.if-is_none.true (search (rules, tests))
      | else-is_none w ↦ writing_on _ _ _ _ _ line _ _ _ _ c.pack.ensures _ c.next-next-in-loop-item.ensures c.is_none.ensures w.if-is_none.false (search (rules, tests, same-twice))
    ]
