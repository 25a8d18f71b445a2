use Rattle.std.proofs.Common.{◌∙◌, refl, ap, subst, map}
use Rattle.lua_scope.specs.Build.{Makes, with_labels}
use Rattle.lua_scope.specs.Labels.{outline_of}
use Rattle.lua_scope.proofs.BuildLemmas.{block_built}
use Rattle.lua_scope.proofs.lower.+lower.Goals as goal

pub block-returns : goal.block-returns
block-returns t c =
    subst (λ z. Makes z c.stats.result c.stats.new.builder)
    (block_built c.args.found.now c.args.b c.args.is_repeat c.args.b.stats c.args.builder.now c.open.new.self refl
    (c.in_ok-open.ensures ∙ ap (λ l. with_labels c.args.is_repeat (map outline_of l) c.args.builder.now) c.as_slice.ensures))
    c.stats.ensures
