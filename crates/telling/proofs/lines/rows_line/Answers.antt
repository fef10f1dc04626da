use Rattle.std.proofs.Common.{string_bytes, ap, ◌∙◌, rules}
use Rattle.telling.specs.Replies.{range_of}
use Rattle.telling.proofs.Rows.{all_told, one_more, stopped}
use Rattle.telling.proofs.lines.rows_line.Goals as goal

pub returns-in_default : goal.returns-in_default
returns-in_default c = stopped c.args.rows.now c.loop-row.row-index (string_bytes c.loop-row.line) c.loop-row.invariant c.row-item.result c.loop-row-test.true (c.range_of.ensures ∙ ap range_of c.row-item.is) c.in_default.is

pub loop-row-preserved : goal.loop-row-preserved
loop-row-preserved c =
    one_more c.args.rows.now c.loop-row.row-index (string_bytes c.loop-row.line) c.loop-row.invariant c.row-item.result c.loop-row-test.true (c.range_of.ensures ∙ ap range_of c.row-item.is) c.in-Some.range c.in-Some.is (search rules)

pub returns : goal.returns
returns c = all_told c.args.rows.now c.loop-row.row-index (string_bytes c.loop-row.line) c.loop-row.invariant c.loop-row-test.false
