-- The Lanes face, as far as it is built: the ask of each call, and what its answer gives.
use Rattle.std.specs.Prelude.{ℕ, zero, suc, ◌-◌, pos, negsuc, List, [], ◌∷◌, Option, Some, None, Result, Ok, Err, Bool, true, false, if◌then◌else◌, ◌||◌, codes, slice_get, drop}
use Rattle.std.specs.Option.{unwrap_or}
use Rattle.std.specs.Str.{bytes_eq}
use Rattle.object_store.specs.declared.value.Value.{Value}
use Rattle.object_store.specs.declared.value.Value.TheVariants as V
use Rattle.object_store.specs.declared.fault.LuaFault.{LuaFault}
use Rattle.object_store.specs.declared.fault.LuaFault.TheVariants as lua
use Rattle.object_store.specs.Value.{value_of_bool}
use Rattle.object_store.specs.FaultText.{fault_text}
use Rattle.parcel.specs.declared.leaf.Leaf.{Leaf}
use Rattle.parcel.specs.declared.leaf.Leaf.TheVariants as leaf
use Rattle.parcel.specs.Roots.{only_root}
use Rattle.linda_core.specs.declared.item.Item.{Item}
use Rattle.linda_core.specs.Items.{leaf_item}
use Rattle.linda_core.specs.declared.key.Key.{Key}
use Rattle.linda_core.specs.declared.key.Key.TheVariants as key
use Rattle.linda_core.specs.declared.call.LindaOp.{LindaOp}
use Rattle.linda_core.specs.declared.call.LindaOp.TheVariants as op
use Rattle.linda_core.specs.declared.call.LindaReply.{LindaReply}
use Rattle.linda_core.specs.declared.call.LindaReply.TheVariants as reply
use Rattle.lua_ops.specs.Metamethods.{Texts, text_at}
use Rattle.lanes_lib.specs.declared.ask.Ask.{Ask}
use Rattle.lanes_lib.specs.declared.ask.Ask.TheVariants as ask
use Rattle.lanes_lib.specs.declared.ask.Answer.{Answer}
use Rattle.lanes_lib.specs.declared.ask.Answer.TheVariants as answer
use Rattle.lanes_lib.specs.declared.ask.AskFault.{AskFault}
use Rattle.lanes_lib.specs.declared.ask.AskFault.TheVariants as fault
use Rattle.lanes_lib.specs.declared.ask.LanesFn.{LanesFn}
use Rattle.lanes_lib.specs.declared.ask.LanesFn.TheVariants as fn

abbrev pub ask_fault_text : AskFault → List ℕ
ask_fault_text (fault.Lua f) = fault_text f
ask_fault_text fault.TooManyLindas = codes "too many lindas"
ask_fault_text fault.NotBuilt = codes "not built yet"

-- ---- fields of handles

abbrev pub field_named : List ℕ → Value
field_named name =
    if bytes_eq name (codes "send") then V.Lib (record { number = 53 })
    else (if bytes_eq name (codes "receive") then V.Lib (record { number = 54 }) else V.Nil)

abbrev pub linda_field : Texts → Value → Value
linda_field texts (V.Str id) = field_named (text_at texts id.number)
linda_field texts key = V.Nil

-- the field of a linda or a lane; any other key gives nil
abbrev pub member : Texts → Value → Value → Value
member texts (V.Linda n) key = linda_field texts key
member texts object key = V.Nil

-- ---- reading the arguments

abbrev pub then_ask : {A B : Type 0} → Result A AskFault → (A → Result B AskFault) →
    Result B AskFault
then_ask (Ok a) go = go a
then_ask (Err f) go = Err f

-- the handle is the first argument
abbrev pub handle : List ℕ → Option Value → Result ℕ AskFault
handle name (Some (V.Linda n)) = Ok n
handle name v = Err (fault.Lua (lua.BadArgument 1 name))

-- Whether a timeout stands first, and what follows it. An integer is one, and nil means none; a
-- negative one is refused.
abbrev pub timed : List Value → Result (Bool × List Value) AskFault
timed (V.Int (pos n) ∷ args) = Ok (true, args)
timed (V.Int (negsuc n) ∷ args) = Err (fault.Lua lua.BadCount)
timed (V.Nil ∷ args) = Ok (true, args)
timed args = Ok (false, args)

abbrev pub key_of : Texts → Value → Result Key AskFault
key_of texts (V.Int n) = Ok (key.Int n)
key_of texts (V.Str id) = Ok (key.Text (text_at texts id.number))
key_of texts V.False = Ok (key.Bool false)
key_of texts V.True = Ok (key.Bool true)
key_of texts v = Err (fault.Lua lua.BadKey)

abbrev pub keys_of : Texts → List Value → Result (List Key) AskFault
keys_of texts [] = Ok []
keys_of texts (v ∷ vs) =
    then_ask (key_of texts v) (λ k. then_ask (keys_of texts vs) (λ ks. Ok (k ∷ ks)))

abbrev pub some_keys : Texts → List Value → Result (List Key) AskFault
some_keys texts [] = Err (fault.Lua lua.BadKey)
some_keys texts (v ∷ vs) = keys_of texts (v ∷ vs)

abbrev pub first_key : Texts → List Value → Result (Key × List Value) AskFault
first_key texts [] = Err (fault.Lua lua.BadKey)
first_key texts (v ∷ vs) = then_ask (key_of texts v) (λ k. Ok (k, vs))

abbrev pub item_of : Texts → Value → Result Item AskFault
item_of texts (V.Int n) = Ok (leaf_item (leaf.Int n))
item_of texts (V.Str id) = Ok (leaf_item (leaf.Text (text_at texts id.number)))
item_of texts v = Err fault.NotBuilt

abbrev pub items_of : Texts → List Value → Result (List Item) AskFault
items_of texts [] = Ok []
items_of texts (v ∷ vs) =
    then_ask (item_of texts v) (λ i. then_ask (items_of texts vs) (λ is. Ok (i ∷ is)))

abbrev pub some_items : Texts → List Value → Result (List Item) AskFault
some_items texts [] = Err (fault.Lua lua.NoData)
some_items texts (v ∷ vs) = items_of texts (v ∷ vs)

abbrev pub unless_timed : Bool → Ask → Result Ask AskFault
unless_timed true a = Err fault.NotBuilt
unless_timed false a = Ok a

abbrev pub linda_ask : ℕ → LindaOp → Ask
linda_ask n o = ask.Linda (record { linda = n; op = o }) None

-- ---- the ask of each function

abbrev pub send_ask : Texts → List Value → Result Ask AskFault
send_ask texts args =
    then_ask (handle (codes "send") (slice_get args 0)) (λ n.
    then_ask (timed (drop 1 args)) (λ t.
    then_ask (first_key texts t.1) (λ k.
    then_ask (some_items texts k.1) (λ is. unless_timed t.0 (linda_ask n (op.Send k.0 is))))))

abbrev pub receive_ask : Texts → List Value → Result Ask AskFault
receive_ask texts args =
    then_ask (handle (codes "receive") (slice_get args 0)) (λ n.
    then_ask (timed (drop 1 args)) (λ t.
    then_ask (some_keys texts t.1) (λ ks. unless_timed t.0 (linda_ask n (op.Receive ks)))))

abbrev pub ask_of : Texts → LanesFn → List Value → Result Ask AskFault
ask_of texts fn.Linda args = Ok ask.NewLinda
ask_of texts fn.Send args = send_ask texts args
ask_of texts fn.Receive args = receive_ask texts args

-- ---- what an answer gives

-- a value, or a text that is interned then
pub data Piece : Type 0 where
  Plain : Value → Piece
  Text : List ℕ → Piece

-- what becomes of the call: it has values, or its lane raises a fault, or ends
pub data Taken : Type 0 where
  Gives : List Piece → Taken
  Raises : AskFault → Taken
  WriteEnds : Taken
  MemoryEnds : Taken
  -- no answer to this ask
  Wrong : Taken

abbrev pub key_piece : Key → Piece
key_piece (key.Int n) = Plain (V.Int n)
key_piece (key.Text t) = Text t
key_piece (key.Bool b) = Plain (value_of_bool b)

-- no other value is sent yet
abbrev pub root_piece : Option Leaf → Piece
root_piece (Some (leaf.Int n)) = Plain (V.Int n)
root_piece (Some (leaf.Text t)) = Text t
root_piece root = Plain V.Nil

abbrev pub item_piece : Item → Piece
item_piece item = root_piece (only_root item)

abbrev pub item_pieces : List Item → List Piece
item_pieces [] = []
item_pieces (i ∷ is) = item_piece i ∷ item_pieces is

abbrev pub taken_reply : LindaReply → Taken
taken_reply reply.Sent = Gives (Plain V.True ∷ [])
taken_reply (reply.Got k is) = Gives (key_piece k ∷ item_pieces is)
taken_reply r = Wrong

abbrev pub taken_linda : Answer → Taken
taken_linda (answer.Reply r) = taken_reply r
taken_linda answer.NotBuilt = Raises fault.NotBuilt
taken_linda answer.Memory = MemoryEnds
taken_linda a = Wrong

abbrev pub taken_new : Answer → Taken
taken_new (answer.Linda n) = Gives (Plain (V.Linda n) ∷ [])
taken_new answer.TooManyLindas = Raises fault.TooManyLindas
taken_new answer.Memory = MemoryEnds
taken_new a = Wrong

abbrev pub taken_print : Answer → Taken
taken_print answer.Printed = Gives []
taken_print answer.WriteFault = WriteEnds
taken_print answer.Memory = MemoryEnds
taken_print a = Wrong

abbrev pub taken : Ask → Answer → Taken
taken (ask.Print text) a = taken_print a
taken ask.NewLinda a = taken_new a
taken (ask.Linda call seconds) a = taken_linda a
