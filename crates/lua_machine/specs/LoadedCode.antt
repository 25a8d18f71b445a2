-- A loaded program as data.
use Rattle.std.specs.Prelude.{List, refl}
use Rattle.std.specs.Coded.{Coded, code_by, coded×, coded_list}
use Rattle.lua_program.specs.declared.program.Program.{Program}
use Rattle.lua_program.specs.contracts.program.Program as program
use Rattle.object_store.specs.declared.value.Value.{Value}
use Rattle.object_store.specs.contracts.value.Value as value
use Rattle.lua_meaning.specs.Level.{Loaded}

-- it is stored as the pair of its fields
abbrev pub loaded_code : Coded Loaded
loaded_code =
    code_by (Program × List Value) (coded× program.the_row.coded (coded_list value.the_row.coded))
    (λ l. (l.program, l.keys)) (λ p. record { program = p.0; keys = p.1 }) (λ _. refl)
