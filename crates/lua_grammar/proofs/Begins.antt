-- The first token of what is written doesn't depend on what follows.
use Rattle.std.proofs.Common.{◌≡◌, refl, List}
use Rattle.lua_tokens.specs.declared.token.Token.{Token}
use Rattle.lua_grammar.specs.Written.{Exp, atom, function, variable, group, field, item, call, method, table, unary, binary, Stat, skip, assign, run, leave, jump, label, nest, loop, repeat, branch, count, each, define, define_local, declare}
use Rattle.lua_grammar.specs.Spelling.{spell, spell_stat, first}

pub exp_first : (e : Exp) (k j : List Token) → first (spell e k) ≡ first (spell e j)
exp_first (atom a p) k j = refl
exp_first (function p b) k j = refl
exp_first (variable n p) k j = refl
exp_first (group p e q) k j = refl
exp_first (field e p n q) k j = exp_first e _ _
exp_first (item e p x q) k j = exp_first e _ _
exp_first (call e a) k j = exp_first e _ _
exp_first (method e p n q a) k j = exp_first e _ _
exp_first (table p fs q) k j = refl
exp_first (unary op p e) k j = refl
exp_first (binary op p x y) k j = exp_first x _ _

pub stat_first : (x : Stat) (k j : List Token) → first (spell_stat x k) ≡ first (spell_stat x j)
stat_first (skip p) k j = refl
stat_first (assign t ts p e es) k j = exp_first t _ _
stat_first (run e) k j = exp_first e _ _
stat_first (leave p) k j = refl
stat_first (jump p n q) k j = refl
stat_first (label p n q r) k j = refl
stat_first (nest p ss q) k j = refl
stat_first (loop p e q ss r) k j = refl
stat_first (repeat p ss q e) k j = refl
stat_first (branch p e q ss arms) k j = refl
stat_first (count p n q r from x to by y ss z) k j = refl
stat_first (each p n q ns r e es x ss y) k j = refl
stat_first (define p e c b) k j = refl
stat_first (define_local p q n r b) k j = refl
stat_first (declare p n q a ds vs) k j = refl
