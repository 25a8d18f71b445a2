-- How the asks answer: as the face says, or with want of memory.
use Rattle.std.specs.Prelude.{◌≡◌, ◌⊎◌, List, Result, Ok, Err}
use Rattle.object_store.specs.declared.value.Value.{Value}
use Rattle.object_store.specs.declared.fault.LuaFault.TheVariants as lua
use Rattle.linda_core.specs.declared.call.LindaOp.{LindaOp}
use Rattle.linda_core.specs.declared.call.LindaOp.TheVariants as op
use Rattle.lua_ops.specs.Metamethods.{Texts}
use Rattle.lanes_lib.specs.declared.ask.AskFault.{AskFault}
use Rattle.lanes_lib.specs.declared.ask.AskFault.TheVariants as fault
use Rattle.lanes_lib.specs.Face.{then_ask, first_key, some_items, some_keys}

-- the answer is what the face says, or want of memory
abbrev pub Says : {A : Type 0} → Result A AskFault → Result A AskFault → Type 0
Says said answer = (answer ≡ said) ⊎ (answer ≡ Err (fault.Lua lua.Memory))

-- an answer with its value in another form
abbrev pub map_ok : {A B : Type 0} → (A → B) → Result A AskFault → Result B AskFault
map_ok form (Ok a) = Ok (form a)
map_ok form (Err f) = Err f

-- the operation of a `send`, from what follows its timeout
abbrev pub send_op : Texts → List Value → Result LindaOp AskFault
send_op texts args =
    then_ask (first_key texts args) (λ k.
    then_ask (some_items texts k.1) (λ is. Ok (op.Send k.0 is)))

-- the operation of a `receive`, from what follows its timeout
abbrev pub receive_op : Texts → List Value → Result LindaOp AskFault
receive_op texts args = then_ask (some_keys texts args) (λ ks. Ok (op.Receive ks))
