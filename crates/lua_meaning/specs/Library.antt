-- Library functions (Lua 5.4 manual, section 6): those that call nothing back by their answer,
-- those that call functions, raise errors or ask the host by what they do.
use Rattle.std.specs.Prelude.{ℕ, zero, suc, ◌+◌, length, drop, List, [], ◌∷◌, ◌++◌, Result, Ok, Err, Option, Some, None, Bool, true, false, if◌then◌else◌, nat_eq, nat_lt, ℤ, pos, ◌+ℤ◌, slice_get, codes}
use Rattle.std.specs.Str.{bytes_eq}
use Rattle.int_ops.specs.Wrapping.{wrapped}
use Rattle.object_store.specs.declared.event.Event.TheVariants as event
use Rattle.object_store.specs.declared.kind.Kind.TheVariants as kind
use Rattle.object_store.specs.declared.value.Value.{Value}
use Rattle.object_store.specs.declared.value.Value.TheVariants as V
use Rattle.object_store.specs.declared.fault.LuaFault.{LuaFault}
use Rattle.object_store.specs.declared.fault.LuaFault.TheVariants as lua
use Rattle.object_store.specs.Value.{TableId, is_nil}
use Rattle.object_store.specs.Heap.{Heap}
use Rattle.lanes_arena.specs.Names.{named, number_of}
use Rattle.lua_ops.specs.Metamethods.{handler, operand, piece, text_at}
use Rattle.base_lib.specs.declared.functions.BaseFn.TheVariants as base
use Rattle.base_lib.specs.Base.{Plain, Values, Text, Changed, base_step, any, argument, integer, text, bad, with_pair, then_on}
use Rattle.base_lib.specs.Shown.{shown}
use Rattle.lanes_lib.specs.declared.ask.Ask.{Ask}
use Rattle.lanes_lib.specs.declared.ask.Ask.TheVariants as ask
use Rattle.lanes_lib.specs.declared.ask.AskFault.{AskFault}
use Rattle.lanes_lib.specs.declared.ask.AskFault.TheVariants as refused
use Rattle.lanes_lib.specs.declared.ask.LanesFn.{LanesFn}
use Rattle.lanes_lib.specs.declared.ask.LanesFn.TheVariants as lanes
use Rattle.lanes_lib.specs.Face as Face
use Rattle.lanes_lib.specs.Face.{Piece, Taken, Gives, Raises, WriteEnds, MemoryEnds, Wrong, taken, ask_of, ask_fault_text}
use Rattle.lua_meaning.specs.declared.fault.Fault.{Fault}
use Rattle.lua_meaning.specs.declared.fault.Fault.TheVariants as F
use Rattle.lua_meaning.specs.declared.fault.Site.{Site}
use Rattle.lua_meaning.specs.declared.library.Builtin.{Builtin}
use Rattle.lua_meaning.specs.declared.library.Builtin.TheVariants as builtin
use Rattle.lua_meaning.specs.declared.library.Library.{Library}
use Rattle.lua_meaning.specs.declared.library.Library.TheVariants as library
use Rattle.lua_meaning.specs.Run.{Run, Asks, Store, World, Next, and_then, written, with_heap, interned}
use Rattle.lua_meaning.specs.Level.{Loaded, Level}
use Rattle.lua_meaning.specs.Names.{is_true, first, filled, has_numbers}
use Rattle.lua_meaning.specs.Faults.{fault_at, raise_at}
use Rattle.lua_meaning.specs.Operate.{index}
use Rattle.lua_meaning.specs.Expressions.{limited}

-- ---- the library functions by number

-- base, then math
abbrev pub base_functions : List Library
base_functions =
    library.Builtin builtin.Assert ∷ library.Builtin builtin.Error ∷ library.Plain base.GetMetatable
    ∷
    library.Plain base.Ipairs ∷ library.Builtin builtin.IpairsStep ∷ library.Plain base.Next ∷
    library.Builtin builtin.Pairs ∷ library.Builtin builtin.Pcall ∷ library.Builtin builtin.Print ∷
    library.Plain base.RawEqual ∷ library.Plain base.RawGet ∷ library.Plain base.RawLen ∷
    library.Plain base.RawSet ∷ library.Builtin builtin.Require ∷ library.Plain base.Select ∷
    library.Plain base.SetMetatable ∷ library.Plain base.ToNumber ∷ library.Builtin builtin.ToString
    ∷
    library.Plain base.Type ∷ library.Builtin builtin.Xpcall ∷
    library.Plain base.Abs ∷ library.Plain base.Floor ∷ library.Plain base.Max ∷ library.Plain
    base.Min ∷
    library.Plain base.ToInteger ∷ library.Plain base.MathType ∷ library.Plain base.Ult ∷ []

-- of the Lanes face `linda`, `send` and `receive`
abbrev pub lanes_function : ℕ → Option Library
lanes_function n =
    if nat_eq n 49 then Some (library.Lanes lanes.Linda)
    else (if nat_eq n 53 then Some (library.Lanes lanes.Send)
    else (if nat_eq n 54 then Some (library.Lanes lanes.Receive) else None))

abbrev pub function_of : ℕ → Option Library
function_of n = if nat_lt n 27 then slice_get base_functions n else lanes_function n

-- A library function stands at `site`. Its faults have the position of its call expression. What it
-- calls is called by no call expression.
module _ (p : Loaded) (l : Level) (site : Site) where
  abbrev pub inner : Site
  inner = record { line = 0; outer = site.line }

  abbrev pub fault : {A : Type 0} → LuaFault → World → Next A → Run
  fault f w k = fault_at p site.line f w k

  -- what was read of the arguments, or the fault of a bad one
  abbrev pub reading : {A B : Type 0} → Result A LuaFault → World → Next B → (A → Run) → Run
  reading (Ok a) w k go = go a
  reading (Err f) w k go = fault f w k

  abbrev pub results : List Value → World → Next (List Value) → Run
  results vs w k = limited p site.line vs w k

  -- ---- functions that call nothing back

  abbrev pub plain : Result Plain LuaFault → World → Next (List Value) → Run
  plain (Ok (Values vs)) w k = k (Ok vs) w
  plain (Ok (Text t)) w k = interned t w (and_then k (λ v w. k (Ok (v ∷ [])) w))
  plain (Ok (Changed heap vs)) w k = written (with_heap w.store heap) vs w k
  plain (Err f) w k = fault f w k

  -- ---- errors (section 2.3)

  abbrev pub raised : {A : Type 0} → Value → World → Next A → Run
  raised v w k = k (Err (F.Raised v)) w

  -- without a position
  abbrev pub failed : Value → World → Next (List Value) → Run
  failed V.Nil w k = raise_at p 0 (codes "assertion failed!") w k
  failed m w k = raised m w k

  abbrev pub assert : List Value → World → Next (List Value) → Run
  assert args w k =
      reading (any (codes "assert") 1 args) w k (λ v.
      if is_true v then k (Ok args) w else failed (argument 2 args) w k)

  -- the line that an error of this level gets: 1 is the call of `error`, 2 that of the function
  -- that called it
  abbrev pub line_of : ℤ → ℕ
  line_of (pos (suc zero)) = site.line
  line_of (pos (suc (suc zero))) = site.outer
  line_of level = 0

  -- a string gets a position where there is one
  abbrev pub positioned : ℕ → Value → World → Next (List Value) → Run
  positioned (suc n) (V.Str id) w k = raise_at p (suc n) (text_at w.store.texts id.number) w k
  positioned line v w k = raised v w k

  abbrev pub level_of : World → List Value → Result ℤ LuaFault
  level_of w args =
      if is_nil (argument 2 args) then Ok (pos 1) else integer w.store.texts (codes "error") 2 args

  abbrev pub error : List Value → World → Next (List Value) → Run
  error args w k =
      reading (any (codes "error") 1 args) w k (λ v.
      reading (level_of w args) w k (λ level. positioned (line_of level) v w k))

  -- an error that was raised becomes a value; cancellation, a spent budget and want of memory are
  -- no errors
  abbrev pub caught : (Value → World → Run) → Next (List Value) → Next (List Value)
  caught handle k (Ok vs) w = results (V.True ∷ vs) w k
  caught handle k (Err (F.Raised v)) w = handle v w
  caught handle k (Err F.Spent) w = k (Err F.Spent) w
  caught handle k (Err F.Cancelled) w = k (Err F.Cancelled) w
  caught handle k (Err F.WriteFault) w = k (Err F.WriteFault) w
  caught handle k (Err F.Broken) w = k (Err F.Broken) w
  caught handle k (Err F.Memory) w = k (Err F.Memory) w

  abbrev pub pcall : List Value → World → Next (List Value) → Run
  pcall args w k =
      reading (any (codes "pcall") 1 args) w k (λ g.
      l.call g (drop 1 args) inner w (caught (λ v w. k (Ok (V.False ∷ v ∷ [])) w) k))

  -- the first value of the handler, or the error of the handler itself
  abbrev pub handled_by : Next (List Value) → Next (List Value)
  handled_by k (Ok vs) w = k (Ok (V.False ∷ first vs ∷ [])) w
  handled_by k (Err (F.Raised v)) w = k (Ok (V.False ∷ v ∷ [])) w
  handled_by k (Err F.Spent) w = k (Err F.Spent) w
  handled_by k (Err F.Cancelled) w = k (Err F.Cancelled) w
  handled_by k (Err F.WriteFault) w = k (Err F.WriteFault) w
  handled_by k (Err F.Broken) w = k (Err F.Broken) w
  handled_by k (Err F.Memory) w = k (Err F.Memory) w

  abbrev pub xpcall : List Value → World → Next (List Value) → Run
  xpcall args w k =
      reading (any (codes "xpcall") 1 args) w k (λ g.
      reading (any (codes "xpcall") 2 args) w k (λ h.
      l.call g (drop 2 args) inner w (caught (λ v w. l.call h (v ∷ []) inner w (handled_by k)) k)))

  -- ---- texts of values

  abbrev pub text_of : Value → World → Next (List ℕ) → Run
  text_of (V.Str id) w k = k (Ok (text_at w.store.texts id.number)) w
  text_of v w k = fault lua.BadToString w k

  -- by the handler `__tostring`, which must give a string
  abbrev pub to_text_by : Value → Value → World → Next (List ℕ) → Run
  to_text_by h v w k =
      if is_nil h then k (Ok (shown w.store.texts v)) w
      else l.call h (v ∷ []) inner w (and_then k (λ vs w. text_of (first vs) w k))

  abbrev pub to_text : Value → World → Next (List ℕ) → Run
  to_text v w k = to_text_by (handler w.store.heap event.ToString v) v w k

  abbrev pub to_string : List Value → World → Next (List Value) → Run
  to_string args w k =
      reading (any (codes "tostring") 1 args) w k (λ v.
      to_text v w (and_then k (λ t w. interned t w (and_then k (λ v w. k (Ok (v ∷ [])) w)))))

  -- ---- asks

  abbrev pub place_piece : Piece → World → Next Value → Run
  place_piece (Face.Plain v) w k = k (Ok v) w
  place_piece (Face.Text t) w k = interned t w k

  abbrev pub placed : List Value → List Piece → World → Next (List Value) → Run
  placed vs [] w k = k (Ok vs) w
  placed vs (x ∷ xs) w k = place_piece x w (and_then k (λ v w. placed (vs ++ v ∷ []) xs w k))

  abbrev pub refuse : AskFault → World → Next (List Value) → Run
  refuse (refused.Lua f) w k = fault f w k
  refuse f w k = raise_at p site.line (ask_fault_text f) w k

  abbrev pub took : Taken → World → Next (List Value) → Run
  took (Gives xs) w k = placed [] xs w k
  took (Raises f) w k = refuse f w k
  took WriteEnds w k = k (Err F.WriteFault) w
  took MemoryEnds w k = k (Err F.Memory) w
  took Wrong w k = k (Err F.Broken) w

  abbrev pub asked : Ask → World → Next (List Value) → Run
  asked a w k = Asks a (λ answer. took (taken a answer) w k)

  abbrev pub asking : Result Ask AskFault → World → Next (List Value) → Run
  asking (Ok a) w k = asked a w k
  asking (Err f) w k = refuse f w k

  -- ---- print: one line, the texts with tabs between them

  abbrev pub print_rest : List ℕ → List Value → World → Next (List Value) → Run
  print_rest line [] w k = asked (ask.Print (line ++ codes "\n")) w k
  print_rest line (v ∷ vs) w k =
      to_text v w (and_then k (λ t w. print_rest (line ++ codes "\t" ++ t) vs w k))

  abbrev pub print : List Value → World → Next (List Value) → Run
  print [] w k = asked (ask.Print (codes "\n")) w k
  print (v ∷ vs) w k = to_text v w (and_then k (λ t w. print_rest t vs w k))

  -- ---- walks over tables (section 6.1)

  abbrev pub item_values : ℤ → Value → List Value
  item_values i v = if is_nil v then V.Nil ∷ [] else V.Int i ∷ v ∷ []

  abbrev pub ipairs_step : List Value → World → Next (List Value) → Run
  ipairs_step args w k =
      reading (any (codes "ipairs_step") 1 args) w k (λ t.
      reading (integer w.store.texts (codes "ipairs_step") 2 args) w k (λ n.
      let i = wrapped (n +ℤ pos 1) in
      index p l site.line inner t (V.Int i) w (and_then k (λ v w. k (Ok (item_values i v)) w))))

  abbrev pub pairs_of : Value → World → Next (List Value) → Run
  pairs_of (V.Table id) w k = k (Ok (V.Lib (record { number = 5 }) ∷ V.Table id ∷ V.Nil ∷ [])) w
  pairs_of v w k = fault (lua.BadArgument 1 (codes "pairs")) w k

  abbrev pub pairs_by : Value → Value → World → Next (List Value) → Run
  pairs_by h v w k =
      if is_nil h then pairs_of v w k
      else l.call h (v ∷ []) inner w (and_then k (λ vs w. k (Ok (filled 3 vs)) w))

  abbrev pub pairs : List Value → World → Next (List Value) → Run
  pairs args w k =
      reading (any (codes "pairs") 1 args) w k (λ v. pairs_by (handler w.store.heap event.Pairs v) v
      w k)

  -- ---- the lanes table, which is made at its first `require`

  abbrev pub lanes_contents : List (List ℕ) → List (Value × Value)
  lanes_contents texts = (
    V.Str (record { number = number_of texts (codes "linda") }),
    V.Lib (record {
      number =
          49;
    }),
  ) ∷ []

  abbrev pub lanes_heap : Heap → List (List ℕ) → TableId → Heap
  lanes_heap heap texts id = record heap {
    tables = heap.tables ++ (record { pairs = lanes_contents texts; meta = None }) ∷ [];
    lanes_table = Some id;
  }

  abbrev pub lanes_made : TableId → World → Next (List Value) → Run
  lanes_made id w k =
      written (record {
        heap = lanes_heap w.store.heap w.store.texts id;
        texts = named w.store.texts (codes "linda");
      }) (V.Table id ∷ []) w k

  abbrev pub lanes_table : Option TableId → World → Next (List Value) → Run
  lanes_table (Some id) w k = k (Ok (V.Table id ∷ [])) w
  lanes_table None w k =
      if has_numbers w.store.heap 1 0 0 then
      lanes_made (record { number = length w.store.heap.tables; kind = record {} }) w k
      else fault lua.Full w k

  abbrev pub require : List Value → World → Next (List Value) → Run
  require args w k =
      reading (text w.store.texts (codes "require") 1 args) w k (λ name.
      if bytes_eq name (codes "lanes") then lanes_table w.store.heap.lanes_table w k
      else fault lua.NoModule w k)

  -- ---- all of them

  abbrev pub builtin_call : Builtin → List Value → World → Next (List Value) → Run
  builtin_call builtin.Assert args w k = assert args w k
  builtin_call builtin.Error args w k = error args w k
  builtin_call builtin.IpairsStep args w k = ipairs_step args w k
  builtin_call builtin.Pairs args w k = pairs args w k
  builtin_call builtin.Pcall args w k = pcall args w k
  builtin_call builtin.Print args w k = print args w k
  builtin_call builtin.Require args w k = require args w k
  builtin_call builtin.ToString args w k = to_string args w k
  builtin_call builtin.Xpcall args w k = xpcall args w k

  abbrev pub library_call : Option Library → List Value → World → Next (List Value) → Run
  library_call None args w k = fault (lua.NotCallable kind.Function) w k
  library_call (Some (library.Plain f)) args w k = plain (base_step w.store.texts w.store.heap f
      args) w k
  library_call (Some (library.Builtin b)) args w k = builtin_call b args w k
  library_call (Some (library.Lanes f)) args w k = asking (ask_of w.store.texts f args) w k
