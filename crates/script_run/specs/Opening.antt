-- The memory in which a script begins.
use Rattle.std.specs.Prelude.{◌≡◌, ◌+◌, ◌++◌, ◌∷◌, [], ℕ, length}
use Rattle.lanes_arena.specs.declared.code.Code.TheVariants as code
use Rattle.object_store.specs.declared.state.Function.{Function}
use Rattle.object_store.specs.Heap.{Heap, Shown, opening_heap}
use Rattle.object_store.specs.Event.{event_names}
use Rattle.base_lib.specs.declared.open.TheConstants.{BASE, MATH}
use Rattle.base_lib.specs.Open.{opened_libs}
use Rattle.lua_meaning.specs.Run.{Store}

-- the function of a script's main body
abbrev pub main_function : Function
main_function = record { code = code.Script 0; cells = [] }

abbrev pub with_function : Heap → Function → Heap
with_function heap f = record heap { functions = heap.functions ++ f ∷ [] }

-- base and then math are opened
unfoldable pub with_libraries : Shown → Shown
with_libraries s = opened_libs (BASE + MATH) s

-- A new state in which base and math were opened, and then the function of the main body was
-- made, which has this number.
pub record IsOpening (store : Store) (main : ℕ) : Type 0 where
  pub new : Shown
  pub heap : new.heap ≡ opening_heap 0
  pub texts : new.texts ≡ event_names
  pub number : main ≡ length (with_libraries new).heap.functions
  pub opened : store ≡ record {
    heap = with_function (with_libraries new).heap main_function;
    texts = (with_libraries new).texts;
  }
