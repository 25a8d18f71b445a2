-- When two values are one, and which value counts as none (Lua 5.4 manual, sections 2.1 and 3.4.4,
-- for raw equality).
use Rattle.std.specs.Prelude.{Bool, true, false}
use Rattle.object_store.specs.declared.value.Value.{Value}
use Rattle.object_store.specs.declared.value.Value.TheVariants as value
use Rattle.object_store.specs.declared.value.Tables.{Tables}
use Rattle.lanes_arena.specs.declared.id.Id.{Id}
use Rattle.object_store.specs.contracts.value.ValuePartialEq.TheImpl.{eq-value}

-- the derived `==`: whether kind and content are the same
abbrev pub value_eq : Value → Value → Bool
value_eq = eq-value.it

abbrev pub is_nil : Value → Bool
is_nil value.Nil = true
is_nil _ = false

-- what counts as true in a condition: all but nil and false (section 3.3.4)
abbrev pub is_truthy : Value → Bool
is_truthy value.Nil = false
is_truthy value.False = false
is_truthy _ = true

-- the boolean
abbrev pub value_of_bool : Bool → Value
value_of_bool true = value.True
value_of_bool false = value.False

-- the id of a table
abbrev pub TableId : Type 0
TableId = Id Tables
