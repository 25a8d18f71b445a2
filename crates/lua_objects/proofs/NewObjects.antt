-- New functions and tables, where there may be one more or not.
use Rattle.std.proofs.Common.{◌≡◌, ℕ, List, Option, Some, None, true, false, length, refl, ap}
use Rattle.object_store.specs.declared.value.Value.{Value}
use Rattle.object_store.specs.declared.value.Value.TheVariants as V
use Rattle.object_store.specs.declared.value.Functions.{Functions}
use Rattle.object_store.specs.declared.fault.LuaFault.TheVariants as lua
use Rattle.object_store.specs.Value.{TableId}
use Rattle.lanes_arena.specs.declared.id.Id.{Id}
use Rattle.lua_meaning.specs.Run.{World, Next, and_then, written, with_heap}
use Rattle.lua_meaning.specs.Level.{Loaded, Level, Frame, CellId, or_broken}
use Rattle.lua_meaning.specs.Names.{has_numbers}
use Rattle.lua_meaning.specs.Faults.{fault_at}
use Rattle.lua_meaning.specs.Expressions.{new_function, with_function, new_table, with_table}

pub func_is : (c : Id Functions) (n : ℕ) → c.number ≡ n → c ≡ record { number = n; kind = record {} }
func_is c n e = ap (λ x. record { number = x; kind = record {} }) e

pub table_is : (c : TableId) (n : ℕ) → c.number ≡ n → c ≡ record { number = n; kind = record {} }
table_is c n e = ap (λ x. record { number = x; kind = record {} }) e

module _ (p : Loaded) (l : Level) (f : Frame) (line : ℕ) (w : World) where
  pub function_goes : (n : ℕ) (cells : List CellId) (k : Next Value) → has_numbers w.store.heap 0 1 0 ≡ true →
      new_function p l f line n (Some cells) w k ≡ written (with_heap w.store (with_function p l f line w.store.heap n cells)) (V.Func (record { number = length w.store.heap.functions; kind = record {} })) w k
  function_goes n cells k e = rw e refl

  pub function_full : (n : ℕ) (cells : List CellId) (k : Next Value) → has_numbers w.store.heap 0 1 0 ≡ false → new_function p l f line n (Some cells) w k ≡ fault_at p line lua.Full w k
  function_full n cells k e = rw e refl

  pub table_goes : (k : Next TableId) → has_numbers w.store.heap 1 0 0 ≡ true →
      new_table p l f line w k ≡ written (with_heap w.store (with_table p l f line w.store.heap)) (record { number = length w.store.heap.tables; kind = record {} }) w k
  table_goes k e = rw e refl

  pub table_full : (k : Next TableId) → has_numbers w.store.heap 1 0 0 ≡ false → new_table p l f line w k ≡ fault_at p line lua.Full w k
  table_full k e = rw e refl

  -- a missing capture is a fault before there is a function
  pub function_after : (n : ℕ) (cells : Option (List CellId)) (k : Next Value) →
      new_function p l f line n cells w k ≡ and_then k (λ cells w. new_function p l f line n (Some cells) w k) (or_broken cells) w
  function_after n None k = refl
  function_after n (Some cells) k = refl
