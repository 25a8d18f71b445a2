use Rattle.std.proofs.Common.{sym, ◌∙◌, rules}
use Rattle.std.proofs.lemmas.Int.{to_z-of_z}
use Rattle.std.specs.Prelude.{FitsSigned}
use mir.Syntax.{w64}
use Rattle.lua_builtins.proofs.WalkTurns.{item_none, item_there}
use Rattle.lua_builtins.proofs.walks.give_item.Goals as goal

pub returns-then-is_nil : goal.returns-then-is_nil
returns-then-is_nil g c = λ p l s.
    let m = c.args.m.now in
    let n = sym c.is_nil.ensures ∙ c.if-is_nil.true in
    rw (item_none p l s c.args.place m.value n) c.give_one.ensures

pub returns : goal.returns
returns g c = λ p l s.
    let m = c.args.m.now in
    let n = sym c.is_nil.ensures ∙ c.if-is_nil.false in
    let fits : FitsSigned w64 c.args.place = search rules in
    let given = rw (to_z-of_z w64 c.args.place fits) at c.give_two.ensures in
    rw (item_there p l s c.args.place m.value n) given
