-- What a single item of a pattern matches (Lua manual, section 6.4.1).
use Rattle.std.specs.Prelude.{ℕ, suc, Bool, true, not, nat_eq, nat_le, ◌&&◌, List, [], ◌∷◌, if◌then◌else◌}
use Rattle.std.specs.List.{list_any}
use Rattle.lua_pattern.specs.declared.single.Part.{Part}
use Rattle.lua_pattern.specs.declared.single.Part.TheVariants.{Byte, Range, In, NotIn}
use Rattle.lua_pattern.specs.declared.single.Single.{Single}
use Rattle.lua_pattern.specs.declared.single.Single.TheVariants.{Any, Of, Set, NotSet}
use Rattle.lua_pattern.specs.Classes.{in_class}

abbrev pub has : Part → ℕ → Bool
has (Byte own) b = nat_eq own b
has (Range first last) b = nat_le first b && nat_le b last
has (In class) b = in_class class b
has (NotIn class) b = not (in_class class b)

abbrev pub any_has : List Part → ℕ → Bool
any_has parts b = list_any (λ part. has part b) parts

-- the test that every byte passes
abbrev pub any : ℕ → Bool
any b = true

-- whether the single item matches the byte
abbrev pub admits : Single → ℕ → Bool
admits Any b = any b
admits (Of part) b = has part b
admits (Set parts) b = any_has parts b
admits (NotSet parts) b = not (any_has parts b)

-- how many bytes at the front pass the test, one after the other
abbrev pub run_length : (ℕ → Bool) → List ℕ → ℕ
run_length test [] = 0
run_length test (b ∷ bs) = if test b then suc (run_length test bs) else 0
