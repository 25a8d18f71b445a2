use Rattle.lua_machine.proofs.Windows.{opened}
use Rattle.lua_meaning.specs.Names.{filled}
use Rattle.std.proofs.Common.{◌∙◌, ap, length, take, drop, ◌≡◌, ◌+◌, ◌++◌, vec_len, rules}
use Rattle.lua_machine.specs.Piled.{with_values}
use Rattle.lua_machine.proofs.stack.Stack.open.Goals as goal

pub returns-clause-ok : goal.returns-clause-ok
returns-clause-ok c =
    let s = c.args.self.now in
    let at = c.args.at in
    let o = opened at c.args.params c.args.slots s.values c.requires.within c.requires.fewer in
    let last : c.in-Some.last ≡ at + c.args.slots = search rules in
    let kept : c.truncate.new.self.items ≡ take (at + c.args.params) s.values = c.truncate.ensures.items ∙ ap (λ x. take (at + c.args.params) x.values) c.self.view_is in
    let n : vec_len c.truncate.new.self ≡ length (take (at + c.args.params) s.values) = (let n1 : vec_len c.truncate.new.self ≡ length c.truncate.new.self.items = search rules in n1 ∙ ap length kept) in
    let cells = ap (λ x. x.cells) c.self.view_is in
    let sized = rw (kept, last, n) at c.in_ok-resize.ensures.items in
    let values = sized ∙ o in
    rw (values, cells)
