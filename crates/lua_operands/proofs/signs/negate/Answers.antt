use Rattle.std.proofs.Common.{ap, sym, ◌∙◌, not}
use Rattle.object_store.specs.Value.{value_of_bool}
use Rattle.lua_operands.proofs.Comparisons.{truthy_is}
use Rattle.lua_operands.proofs.signs.negate.Goals as goal

pub returns : goal.returns
returns g c =
    let e = c.from_bool-m.ensures ∙ ap (λ b. value_of_bool (not b)) (c.is_truthy-truth.ensures ∙ truthy_is c.args.m.now.value) in
    ap (λ v. record c.args.m.now { value = v }) e
