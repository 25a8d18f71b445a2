-- What a run does: it writes to its memory, asks its host, and ends. A part of a run is given what
-- follows it.
use Rattle.std.specs.Prelude.{ℕ, List, Result, Ok, Err, Option, Some, None}
use Rattle.lanes_arena.specs.Names.{named, number_of}
use Rattle.object_store.specs.declared.value.Value.{Value}
use Rattle.object_store.specs.declared.value.Value.TheVariants as V
use Rattle.object_store.specs.Heap.{Heap}
use Rattle.lanes_lib.specs.declared.ask.Ask.{Ask}
use Rattle.lanes_lib.specs.declared.ask.Answer.{Answer}
use Rattle.lua_meaning.specs.declared.fault.Fault.{Fault}
use Rattle.lua_meaning.specs.declared.fault.Fault.TheVariants as F

-- the memory of a lane: its objects, and its texts by number
pub record Store : Type 0 where
  pub heap : Heap
  pub texts : List (List ℕ)

-- what a run changes: its memory, and how many steps are left
pub record World : Type 0 where
  pub store : Store
  pub left : ℕ

-- a run ends, or it asks its host and goes on with the answer, or it has written to its memory and
-- goes on
pub data Run : Type 0 where
  Ended : Result (List Value) Fault → World → Run
  Asks : Ask → (Answer → Run) → Run
  Wrote : Store → Run → Run

-- what is done with the outcome of a part
abbrev pub Next : Type 0 → Type 0
Next A = Result A Fault → World → Run

-- goes on with a value, and passes a fault on
abbrev pub and_then : {A B : Type 0} → Next B → (A → World → Run) → Next A
and_then k go (Ok a) w = go a w
and_then k go (Err f) w = k (Err f) w

-- ---- memory

-- the memory is this from here on, and the part has this value
abbrev pub written : {A : Type 0} → Store → A → World → Next A → Run
written s a w k = Wrote s (k (Ok a) (record w { store = s }))

abbrev pub with_heap : Store → Heap → Store
with_heap s heap = record s { heap = heap }

-- the string of these bytes, each text having one number (Lua 5.4 manual, section 2.1)
abbrev pub interned : List ℕ → World → Next Value → Run
interned text w k =
    written (record (w.store) { texts = named w.store.texts text }) (V.Str (record {
      number =
          number_of w.store.texts text;
    })) w k

-- ---- where a host leads a run

-- for want of memory a run may end anywhere
abbrev pub unless_memory : Fault → Run → Option Run
unless_memory (F.Raised v) r = Some r
unless_memory F.Spent r = Some r
unless_memory F.Cancelled r = Some r
unless_memory F.WriteFault r = Some r
unless_memory F.Broken r = Some r
unless_memory F.Memory r = None

-- where a part leads: to what follows it
abbrev pub reaches : {A : Type 0} → Result A Fault → Next A → World → Option Run
reaches (Ok a) k w = Some (k (Ok a) w)
reaches (Err f) k w = unless_memory f (k (Err f) w)

-- a host and the memory of the run
abbrev pub Point : Type 0 → Type 0
Point H = H × Store

-- The answers of a host lead a run from one point to another, or for want of memory to some point.
pub data Leads {H : Type 0} (asked : H → Ask → Answer → H → Type 0) : Point H → Run → Point H →
    Option Run → Type 0 where
  here : {h : Point H} {r : Run} → Leads asked h r h (Some r)
  lost : {h : Point H} {r : Run} → Leads asked h r h None
  more : {h h1 : H} {s : Store} {h2 : Point H} {ask : Ask} {answer : Answer} {go : Answer →
      Run} {r : Option Run} →
      asked h ask answer h1 → Leads asked (h1, s) (go answer) h2 r → Leads asked (h, s)
      (Asks ask go) h2 r
  wrote : {h : H} {s s1 : Store} {h2 : Point H} {next : Run} {r : Option Run} →
      Leads asked (h, s1) next h2 r → Leads asked (h, s) (Wrote s1 next) h2 r

-- A part was evaluated as its meaning says: whatever follows it, the host led the run to there.
abbrev pub Follows : {H A : Type 0} → (H → Ask → Answer → H → Type 0) →
    Point H → (Next A → Run) → Point H → Result A Fault → World → Type 0
Follows {A} asked h meaning h1 outcome w = (k : Next A) → Leads asked h (meaning k) h1 (reaches
    outcome k w)
