use Rattle.std.proofs.Common.{sym, ◌∙◌}
use Rattle.string_lib.proofs.CopyLemmas.{copies_empty}
use Rattle.string_lib.proofs.copies.repeated.Goals as goal

pub returns-then-is_empty-2 : goal.returns-then-is_empty-2
returns-then-is_empty-2 c =
    c.in_ok-made.ensures.items ∙ copies_empty c.args.text.now c.args.count c.args.separator.now (sym c.is_empty.ensures ∙ c.if-is_empty.true) (sym c.is_empty-then-is_empty.ensures ∙ c.if-is_empty-2.true)
