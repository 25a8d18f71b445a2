-- What a loop has built so far, before what is still to be built.
use Rattle.std.specs.Prelude.{List, ◌++◌}
use Rattle.lua_scope.specs.declared.build.Builder.{Builder}

-- these, and then what is built
abbrev pub with_front : {X : Type 0} → List X → List X × Builder → List X × Builder
with_front xs p = (xs ++ p.0, p.1)
