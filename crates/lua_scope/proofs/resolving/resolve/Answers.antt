use Rattle.std.proofs.Common.{◌∙◌, ap}
use Rattle.lua_scope.specs.Resolved.{program_of}
use Rattle.lua_scope.proofs.resolving.resolve.Goals as goal

pub returns-clause-stands : goal.returns-clause-stands
returns-clause-stands c = λ spelled. (
  spelled,
  c.in_ok-found.ensures.fault,
  c.in_ok-program.ensures ∙ ap (λ f. program_of f c.args.name c.args.tree) c.in_ok-found.ensures.bindings,
)
