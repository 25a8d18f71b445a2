use Rattle.std.proofs.Common.{◌∙◌}
use Rattle.lua_lexer.proofs.Strings.{plain_text}
use Rattle.lua_lexer.proofs.text.string_at.Goals as goal

pub returns : goal.returns
returns c =
    plain_text c.args.at.now c.args.quote c.args.bytes.now c.in_ok-shared.field-0 c.split_plain.result.1.now c.in-Some.behind.now c.in-Some.first
    c.requires.quote (c.in_ok-shared.ensures.name ∙ c.split_plain.ensures.run) c.split_plain.ensures.rest c.in-Some.ensures c.if-first-quote.true
