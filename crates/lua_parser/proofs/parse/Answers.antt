use Rattle.std.proofs.Common.{sym, ◌∙◌, ap, drop}
use Rattle.lua_grammar.specs.Input.{bad, deep, attribute}
use Rattle.lua_grammar.specs.Statements.{script}
use Rattle.lua_parser.proofs.Answered.{refused_stands, is_fault, answers_fault, finds_none, only_fault, is_tree, only_tree}
use Rattle.lua_parser.proofs.parse.Goals as goal

pub first-requires : goal.first-requires
first-requires c =
    let h = rw c.in-Err-Bad.field-0-is at c.in-Err-Bad.ensures in
    refused_stands c.args.tokens c.requires bad c.script.new.tokens (ap (script 60) (sym c.new-left.ensures) ∙ h)

pub first-requires-in-Err-Deep : goal.first-requires-in-Err-Deep
first-requires-in-Err-Deep c =
    let h = rw c.in-Err-Deep.field-0-is at c.in-Err-Deep.ensures in
    refused_stands c.args.tokens c.requires deep c.script.new.tokens (ap (script 60) (sym c.new-left.ensures) ∙ h)

pub first-requires-in-Err-Attribute : goal.first-requires-in-Err-Attribute
first-requires-in-Err-Attribute c =
    let h = rw c.in-Err-Attribute.field-0-is at c.in-Err-Attribute.ensures in
    refused_stands c.args.tokens c.requires attribute c.script.new.tokens (ap (script 60) (sym c.new-left.ensures) ∙ h)

pub returns-in-Ok-clause-answers : goal.returns-in-Ok-clause-answers
returns-in-Ok-clause-answers c = is_tree c.args.tokens c.in-Ok.found c.script.new.tokens (ap (script 60) (sym c.new-left.ensures) ∙ c.in-Ok.ensures)

pub returns-in-Ok-clause-only : goal.returns-in-Ok-clause-only
returns-in-Ok-clause-only c = only_tree c.args.tokens c.in-Ok.found c.script.new.tokens (ap (script 60) (sym c.new-left.ensures) ∙ c.in-Ok.ensures)

pub returns-in-Err-Bad-clause-answers : goal.returns-in-Err-Bad-clause-answers
returns-in-Err-Bad-clause-answers c =
    let h = rw c.in-Err-Bad.field-0-is at c.in-Err-Bad.ensures in
    answers_fault c.args.tokens c.requires bad c.script.new.tokens (ap (script 60) (sym c.new-left.ensures) ∙ h)
    c.first.result.now (drop 1 c.script.new.tokens) c.first.ensures c.fault_at.result c.fault_at.ensures

pub returns-in-Err-Bad-clause-only : goal.returns-in-Err-Bad-clause-only
returns-in-Err-Bad-clause-only c =
    let h = rw c.in-Err-Bad.field-0-is at c.in-Err-Bad.ensures in
    only_fault c.args.tokens c.requires bad c.script.new.tokens (ap (script 60) (sym c.new-left.ensures) ∙ h) c.fault_at.result

pub returns-in-Err-Deep-clause-answers : goal.returns-in-Err-Deep-clause-answers
returns-in-Err-Deep-clause-answers c =
    let h = rw c.in-Err-Deep.field-0-is at c.in-Err-Deep.ensures in
    is_fault c.args.tokens c.requires deep c.script.new.tokens (ap (script 60) (sym c.new-left.ensures) ∙ h)
    c.first-in-Err-Deep.result.now (drop 1 c.script.new.tokens) c.first-in-Err-Deep.ensures

pub returns-in-Err-Deep-clause-only : goal.returns-in-Err-Deep-clause-only
returns-in-Err-Deep-clause-only c =
    let h = rw c.in-Err-Deep.field-0-is at c.in-Err-Deep.ensures in
    finds_none c.args.tokens c.requires deep c.script.new.tokens (ap (script 60) (sym c.new-left.ensures) ∙ h)

pub returns-clause-answers : goal.returns-clause-answers
returns-clause-answers c =
    let h = rw c.in-Err-Attribute.field-0-is at c.in-Err-Attribute.ensures in
    is_fault c.args.tokens c.requires attribute c.script.new.tokens (ap (script 60) (sym c.new-left.ensures) ∙ h)
    c.first-in-Err-Attribute.result.now (drop 1 c.script.new.tokens) c.first-in-Err-Attribute.ensures

pub returns-clause-only : goal.returns-clause-only
returns-clause-only c =
    let h = rw c.in-Err-Attribute.field-0-is at c.in-Err-Attribute.ensures in
    finds_none c.args.tokens c.requires attribute c.script.new.tokens (ap (script 60) (sym c.new-left.ensures) ∙ h)
