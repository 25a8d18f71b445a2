-- Locals, cells and upvalues (Lua 5.4 manual, section 3.5). A local that no inner function names
-- lies in a slot. A captured one has a cell, which it shares with the functions that capture it.
use Rattle.std.specs.Prelude.{ℕ, ◌+◌, ◌-◌, ◌^◌, ◌&&◌, length, List, [], ◌∷◌, ◌++◌, Result, Ok, Err, Option, Some, None, Bool, true, false, if◌then◌else◌, nat_lt, nat_le, slice_get, slice_set, take, drop, replicate, is_some}
use Rattle.lua_program.specs.declared.expr.Ref.{Ref}
use Rattle.lua_program.specs.declared.expr.Ref.TheVariants as R
use Rattle.lua_program.specs.declared.program.UpFrom.{UpFrom}
use Rattle.lua_program.specs.declared.program.UpFrom.TheVariants.{ParentCell, ParentUp}
use Rattle.object_store.specs.declared.value.Value.{Value}
use Rattle.object_store.specs.declared.value.Value.TheVariants as V
use Rattle.object_store.specs.declared.state.Function.{Function}
use Rattle.object_store.specs.declared.state.Cell.{Cell}
use Rattle.object_store.specs.Heap.{Heap}
use Rattle.lua_meaning.specs.declared.fault.Fault.{Fault}
use Rattle.lua_meaning.specs.declared.fault.Fault.TheVariants as F
use Rattle.lua_meaning.specs.Run.{Store, with_heap, Wrote, Run, World, Next, written, and_then}
use Rattle.lua_meaning.specs.Level.{Frame, Locals, CellId, cell_id, or_broken}

-- ---- values

abbrev pub is_true : Value → Bool
is_true V.Nil = false
is_true V.False = false
is_true v = true

abbrev pub first : List Value → Value
first [] = V.Nil
first (v ∷ vs) = v

-- the first n of a list, with nil where it has fewer (section 3.3.3)
abbrev pub filled : ℕ → List Value → List Value
filled n vs = take n vs ++ replicate (n - length vs) V.Nil

-- ---- slots

abbrev pub put_slot : ℕ → Value → Locals → Result Locals Fault
put_slot i v locals =
    if nat_lt i (length locals.slots) then Ok (record locals { slots = slice_set locals.slots i v })
    else Err F.Broken

-- the cell of the slot; the cells of the slots from there on belong to locals that are gone
abbrev pub put_cell : ℕ → CellId → Locals → Locals
put_cell i c locals =
    record locals { cells = take i locals.cells ++ replicate (i - length locals.cells) c ++ c ∷ [] }

-- ---- cells

abbrev pub content_of : Option Cell → Result Value Fault
content_of None = Err F.Broken
content_of (Some cell) = Ok cell.content

abbrev pub read_cell : Heap → Option CellId → Result Value Fault
read_cell heap None = Err F.Broken
read_cell heap (Some c) = content_of (slice_get heap.cells c.number)

abbrev pub cells_of : Option Function → List CellId
cells_of None = []
cells_of (Some function) = function.cells

-- the cell of the j-th upvalue of the frame's function
abbrev pub up_cell : Heap → Frame → ℕ → Option CellId
up_cell heap f j = slice_get (cells_of (slice_get heap.functions f.me)) j

abbrev pub local_cell : Frame → ℕ → Option CellId
local_cell f i = slice_get f.locals.cells i

-- the value of a local or an upvalue
abbrev pub local_value : Heap → Frame → Ref → Result Value Fault
local_value heap f (R.Slot i) = or_broken (slice_get f.locals.slots i)
local_value heap f (R.CellSlot i) = read_cell heap (local_cell f i)
local_value heap f (R.Up j) = read_cell heap (up_cell heap f j)
local_value heap f (R.Global t) = Err F.Broken

-- the content of a cell is changed
abbrev pub set_content : Heap → ℕ → Value → Heap
set_content heap n v = record heap { cells = slice_set heap.cells n (record { content = v }) }

abbrev pub set_cell : Option CellId → Value → World → Next (Unit {0}) → Run
set_cell None v w k = k (Err F.Broken) w
set_cell (Some c) v w k =
    if nat_lt c.number (length w.store.heap.cells) then
    written (with_heap w.store (set_content w.store.heap c.number v)) tt w k
    else k (Err F.Broken) w

-- how many objects of each kind there may be
abbrev pub object_limit : ℕ
object_limit = 2 ^ 32 - 1

-- whether so many more tables, functions and cells may be made
abbrev pub has_numbers : Heap → ℕ → ℕ → ℕ → Bool
has_numbers heap tables functions cells =
    nat_le (length heap.tables + tables) object_limit
    && nat_le (length heap.functions + functions) object_limit
    && nat_le (length heap.cells + cells) object_limit

abbrev pub with_cell : Heap → Value → Heap
with_cell heap v = record heap { cells = heap.cells ++ (record { content = v }) ∷ [] }

-- A new cell, or this where there may be no more of them.
abbrev pub enclosed : (World → Next CellId → Run) → Value → World → Next CellId → Run
enclosed full v w k =
    if has_numbers w.store.heap 0 0 1 then
    written (with_heap w.store (with_cell w.store.heap v)) (cell_id (length w.store.heap.cells)) w
    k
    else full w k

-- ---- the cells of a new function (section 3.5), those of its captures in order

abbrev pub captured : Heap → Frame → UpFrom → Option CellId
captured heap f (ParentCell i) = local_cell f i
captured heap f (ParentUp j) = up_cell heap f j

abbrev pub both : Option CellId → Option (List CellId) → Option (List CellId)
both (Some c) (Some cs) = Some (c ∷ cs)
both c cs = None

abbrev pub captures : Heap → Frame → List UpFrom → Option (List CellId)
captures heap f [] = Some []
captures heap f (u ∷ us) = both (captured heap f u) (captures heap f us)
