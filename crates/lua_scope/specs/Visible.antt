-- The locals that are visible at a place, the one that was declared first at the head.
use Rattle.std.specs.Prelude.{ℕ, suc, List, [], ◌∷◌, Option, Some, None, if◌then◌else◌}
use Rattle.std.specs.Str.{bytes_eq}
use Rattle.lua_scope.specs.declared.scopes.Local.{Local}

-- the first of two that is there
abbrev pub or_else : Option ℕ → Option ℕ → Option ℕ
or_else None y = y
or_else (Some n) y = Some n

-- the place of the last local of a name, the place of the first being this
abbrev pub last_named_from : ℕ → List ℕ → List Local → Option ℕ
last_named_from at name [] = None
last_named_from at name (l ∷ ls) =
    or_else (last_named_from (suc at) name ls) (if bytes_eq l.name name then Some at else None)

-- the place of the last local of a name
abbrev pub last_named : List ℕ → List Local → Option ℕ
last_named name ls = last_named_from 0 name ls
