-- How slots, captured locals, captures and the numbers of bodies and texts follow from what the
-- names of a tree refer to.
use Rattle.std.specs.Prelude.{◌≡◌, ℕ, suc, ◌+◌, ◌-◌, Bool, false, List, [], ◌∷◌, ◌++◌, length, take, drop, map, slice_get, slice_set, max, ◌==◌, nat_lt, if◌then◌else◌, Option, Some, None, Result, Ok, Err}
use Rattle.std.specs.declared.alloc.AllocError.{AllocError}
use Rattle.lanes_arena.specs.Names.{named, number_of}
use Rattle.lua_scope.specs.declared.binding.Bindings.{Bindings}
use Rattle.lua_scope.specs.declared.build.Builder.{Builder}
use Rattle.lua_scope.specs.declared.build.FunctionFrame.{FunctionFrame}
use Rattle.lua_scope.specs.declared.build.BlockFrame.{BlockFrame}
use Rattle.lua_scope.specs.declared.labels.Target.{Target}
use Rattle.lua_scope.specs.Labels as labels
use Rattle.lua_program.specs.declared.stat.Jump.{Jump}
use Rattle.lua_tokens.specs.declared.place.Place.{Place}
use Rattle.lua_program.specs.declared.program.Proto.{Proto}
use Rattle.lua_program.specs.declared.expr.PlacedText.{PlacedText}
use Rattle.lua_program.specs.declared.expr.Ref.{Ref}
use Rattle.lua_program.specs.declared.expr.Ref.TheVariants as r
use Rattle.lua_program.specs.declared.program.UpFrom.{UpFrom}
use Rattle.lua_program.specs.declared.program.UpFrom.TheVariants.{ParentCell, ParentUp}

-- what is made of a part, and what is built then
abbrev pub Make : Type 0 → Type 0
Make X = Builder → X × Builder

-- What a function that builds a part ensures, unless memory runs out.
abbrev pub Makes : {X : Type 0} → X × Builder → Result X AllocError → Builder → Type 0
Makes outcome (Ok x) new = outcome ≡ (x, new)
Makes outcome (Err e) new = Unit {0}

-- ---- what is known of the names

abbrev pub or_false : Option Bool → Bool
or_false None = false
or_false (Some b) = b

abbrev pub is_captured : Bindings → ℕ → Bool
is_captured found number = or_false (slice_get found.captured number)

abbrev pub or_empty : Option (List ℕ) → List ℕ
or_empty None = []
or_empty (Some ns) = ns

-- of the body of this number
abbrev pub captures_of : Bindings → ℕ → List ℕ
captures_of found body = or_empty (slice_get found.bodies body)

-- the place of a number in a list, or the length of the list
abbrev pub place_in : ℕ → List ℕ → ℕ
place_in at [] = 0
place_in at (n ∷ ns) = if n == at then 0 else suc (place_in at ns)

abbrev pub capture_place : Bindings → ℕ → ℕ → ℕ
capture_place found body at = place_in at (captures_of found body)

-- ---- references

abbrev pub own : Bindings → ℕ → ℕ → Ref
own found number slot = if is_captured found number then r.CellSlot slot else r.Slot slot

abbrev pub own_if : Bindings → Option ℕ → ℕ → Ref
own_if found None slot = r.Slot 0
own_if found (Some number) slot = own found number slot

-- the visible local at a place: an own one by its place among those of its function
abbrev pub local : Bindings → ℕ → Builder → Ref
local found at b =
    if nat_lt at b.frame.start then r.Up (capture_place found b.frame.body at)
    else own_if found (slice_get b.locals at) (at - b.frame.start)

abbrev pub text : List ℕ → Make ℕ
text t b = (number_of b.texts t, record b { texts = named b.texts t })

abbrev pub placed : List ℕ → Make PlacedText
placed t b =
    (record { bytes = t; place = number_of b.texts t }, record b { texts = named b.texts t })

abbrev pub referred : Bindings → List ℕ → Option ℕ → Make Ref
referred found n (Some at) b = (local found at b, b)
referred found n None b = (r.Global (placed n b).0, (placed n b).1)

-- where the name of a number was looked up
abbrev pub looked_up : Option (Option ℕ) → Option ℕ
looked_up None = None
looked_up (Some at) = at

-- the next name of the text
abbrev pub name : Bindings → List ℕ → Make Ref
name found n b =
    referred found n (looked_up (slice_get found.names b.next)) (record b { next = b.next + 1 })

abbrev pub up_from : Bindings → FunctionFrame → ℕ → UpFrom
up_from found frame at =
    if nat_lt at frame.start
    then ParentUp (capture_place found frame.body at)
    else ParentCell (at - frame.start)

abbrev pub ups : Bindings → FunctionFrame → List ℕ → List UpFrom
ups found frame captures = map (up_from found frame) captures

abbrev pub ups_of : Bindings → FunctionFrame → ℕ → List UpFrom
ups_of found frame body = ups found frame (captures_of found body)

-- ---- declarations

abbrev pub slot_of_next : Builder → ℕ
slot_of_next b = length b.locals - b.frame.start

abbrev pub declare : Bindings → Make Ref
declare found b = (
  own found b.declared (slot_of_next b),
  record b {
    locals = b.locals ++ b.declared ∷ [];
    declared = b.declared + 1;
    frame = record b.frame { slots = max b.frame.slots (slot_of_next b + 1) };
  },
)

-- ---- blocks and bodies

abbrev pub opened : Builder → BlockFrame
opened b = record { locals = length b.locals; blocks = length b.blocks; function = b.frame }

abbrev pub ended : BlockFrame → Builder → Builder
ended o b = record b { locals = take o.locals b.locals; blocks = take o.blocks b.blocks }

-- the statements of a block begin, with its labels
abbrev pub with_labels : Bool → List labels.Outline → Builder → Builder
with_labels is_repeat os b =
    record b { blocks = labels.opened (length b.locals) is_repeat os b.blocks }

-- the target of a goto
abbrev pub target : List ℕ → Builder → Option Target
target n b = labels.target_of n (length b.locals) (drop b.frame.blocks b.blocks)

abbrev pub jump : List ℕ → Place → Option Target → Jump
jump n p None = record { name = n; place = p; leaves = 0; statement = 0 }
jump n p (Some t) = record { name = n; place = p; leaves = t.leaves; statement = t.statement }

-- what stands in the place of a body that isn't finished
abbrev pub blank : Proto
blank = record { params = 0; cells = []; vararg = false; slots = 0; ups = []; body = []; line = 0 }

abbrev pub entered : Make BlockFrame
entered b = (
  opened b,
  record b {
    protos = b.protos ++ blank ∷ [];
    frame = record {
      body = length b.protos;
      start = length b.locals;
      blocks = length b.blocks;
      slots = 0;
    };
  },
)

abbrev pub exited : BlockFrame → Proto → Make ℕ
exited o p b = (
  b.frame.body,
  record b {
    protos = slice_set b.protos b.frame.body p;
    locals = take o.locals b.locals;
    blocks = take o.blocks b.blocks;
    frame = o.function;
  },
)

-- nothing is built yet
abbrev pub start : Builder
start = record {
  locals = [];
  next = 0;
  declared = 0;
  blocks = [];
  frame = record { body = 0; start = 0; blocks = 0; slots = 0 };
  protos = [];
  texts = [];
}
