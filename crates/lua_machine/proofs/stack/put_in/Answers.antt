use Rattle.std.proofs.Common.{◌≡◌, ◌+◌, ◌-◌, ◌++◌, ◌∷◌, [], ◌∙◌, ap, length, take, drop, replicate, append_assoc, vec_len, rules}
use Rattle.lua_machine.proofs.Windows.{cell_put}
use Rattle.lua_machine.proofs.stack.put_in.Goals as goal

pub returns : goal.returns
returns c =
    let s = c.args.cells.now.items in
    let base = c.args.base in
    let i = c.args.i in
    let cell = c.args.cell in
    let place : c.in-Some.place ≡ base + i = search rules in
    let kept = rw place at c.truncate.ensures.items in
    let n : vec_len c.truncate.new.self ≡ length c.truncate.new.self.items = search rules in
    let sized = rw (n, kept, place) at c.in_ok-resize.ensures.items in
    let pushed = c.in_ok-push.ensures.items in
    let o = cell_put base i cell s c.requires in
    pushed ∙ ap (λ l. l ++ cell ∷ []) (sized ∙ o) ∙ append_assoc (take base s) (take i (drop base s) ++ replicate (i - length (drop base s)) cell) (cell ∷ [])
