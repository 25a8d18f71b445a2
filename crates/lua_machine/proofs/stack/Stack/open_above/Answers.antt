use Rattle.std.proofs.Common.{ap, ◌∙◌, arith, ◌≡◌, length, rules, min, ◌-◌, ◌+◌, drop}
use Rattle.lua_machine.proofs.Windows.{dots_from, opened_above}
use Rattle.lua_machine.specs.Piled.{with_values}
use Rattle.lua_machine.proofs.stack.Stack.open_above.Goals as goal

pub returns-clause-ok : goal.returns-clause-ok
returns-clause-ok c =
    let s = c.args.self.now in
    let at = c.args.at in
    let b : c.len-base.result ≡ length s.values = search rules in
    let m : c.min.result ≡ min c.args.params (length s.values - at) = c.min.ensures ∙ ap (λ n. min c.args.params (n - at)) b in
    let again = rw (c.in_ok-again.ensures.ok) at c.in_ok-open.ensures.ok in
    let last = rw b at again in
    last ∙ ap (with_values s) (opened_above at c.args.params c.args.slots (at + c.min.result) s.values c.requires.within (ap (λ n. at + n) m))

pub returns-clause-dots : goal.returns-clause-dots
returns-clause-dots c =
    let s = c.args.self.now in
    let at = c.args.at in
    let b : c.len-base.result ≡ length s.values = search rules in
    let m : c.min.result ≡ min c.args.params (length s.values - at) = c.min.ensures ∙ ap (λ n. min c.args.params (n - at)) b in
    (omega (arith, m), ap (λ n. drop (at + n) s.values) m ∙ dots_from at c.args.params s.values c.requires.within)
