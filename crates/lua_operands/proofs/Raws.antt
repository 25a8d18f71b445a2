-- Keys that a table has, and tables without a metatable.
use Rattle.std.proofs.Common.{◌≡◌, ℕ, zero, suc, Bool, true, false, true≢false, is_none, if◌then◌else◌, Option, Some, None, Ok, slice_get, refl, ap, sym, ◌∙◌}
use Rattle.object_store.specs.declared.value.Value.{Value}
use Rattle.object_store.specs.declared.value.Value.TheVariants as V
use Rattle.object_store.specs.declared.event.Event.TheVariants as event
use Rattle.object_store.specs.Value.{TableId, is_nil}
use Rattle.object_store.specs.Heap.{Heap}
use Rattle.lua_ops.specs.declared.step.Step.TheVariants as step
use Rattle.lua_ops.specs.declared.step.Target.TheVariants as target
use Rattle.lua_ops.specs.Setting.{is_plain}
use Rattle.lua_ops.specs.Metamethods.{index_step, set_target, chain, chain_limit, end_or, Ends, set_by, set_link, by_handler, handler_in, raw_get, index_by, index_link, meta_in}

-- a value that a table has is what an index gives
pub raw_indexed : (heap : Heap) (id : TableId) (key : Value) → is_nil (raw_get heap id.number key) ≡ false → index_step heap (V.Table id) key ≡ Ok (step.Raw (raw_get heap id.number key))
unfolding index_step chain_limit
raw_indexed heap id key live =
    ap (λ b. end_or (if b then index_by heap key (V.Table id) (Ok (step.Raw V.Nil)) else Ends (Ok (step.Raw (raw_get heap id.number key)))) (chain (index_link heap key) 99)) live

-- a key that has a live value is set in its table
pub live_target : (heap : Heap) (id : TableId) (key : Value) → is_nil (raw_get heap id.number key) ≡ false → set_target heap (V.Table id) key ≡ Ok (target.Table id)
unfolding set_target chain_limit
live_target heap id key live =
    ap (λ b. end_or (if b then set_by heap (V.Table id) (Ok (target.Table id)) else Ends (Ok (target.Table id))) (chain (set_link heap key) 99)) live

-- and so is any key of a table without a metatable
pub plain_target : (heap : Heap) (id : TableId) (key : Value) → is_plain heap id.number ≡ true → set_target heap (V.Table id) key ≡ Ok (target.Table id)
unfolding set_target chain_limit
plain_target heap id key h = by (is_nil (raw_get heap id.number key)) (meta_in (slice_get heap.tables id.number)) h
  where
    by : (b : Bool) (m : Option TableId) → is_none m ≡ true → end_or (if b then by_handler (Ok (target.Table id)) (target.Handler (handler_in heap event.NewIndex m) (V.Table id)) (handler_in heap event.NewIndex m) else Ends (Ok (target.Table id))) (chain (set_link heap key) 99) ≡ Ok (target.Table id)
    by true None e = refl
    by false None e = refl
    by b (Some x) e = absurd (true≢false (sym e))
