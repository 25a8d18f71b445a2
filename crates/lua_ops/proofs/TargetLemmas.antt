-- A chain of `set_target` is never refused for want of memory.
use Rattle.std.proofs.Common.{◌≢◌, ℕ, zero, suc, Bool, true, false, if◌then◌else◌, Result, Ok, Err}
use Rattle.object_store.specs.declared.value.Value.{Value}
use Rattle.object_store.specs.declared.value.Value.TheVariants as V
use Rattle.object_store.specs.declared.fault.LuaFault.{LuaFault}
use Rattle.object_store.specs.declared.fault.LuaFault.TheVariants as lua
use Rattle.object_store.specs.Value.{is_nil}
use Rattle.object_store.specs.Heap.{Heap}
use Rattle.lua_ops.specs.declared.step.Target.TheVariants as target
use Rattle.lua_ops.specs.Metamethods.{Link, Ends, Goes, end_or, chain, chain_limit, by_handler, is_function, raw_get, set_by, set_link, set_target, not_indexable}

abbrev IsSpared : {A : Type 0} → Link A → Type 0
IsSpared (Ends answer) = answer ≢ Err lua.Memory
IsSpared (Goes next) = Unit {0}

if_spared : {A : Type 0} (b : Bool) (x y : Link A) → IsSpared x → IsSpared y → IsSpared (if b then x else y)
if_spared true x y p q = p
if_spared false x y p q = q

handler_spared : {A : Type 0} (absent : Result A LuaFault) (call : A) (h : Value) → absent ≢ Err lua.Memory → IsSpared (by_handler absent call h)
handler_spared absent call h spared =
    if_spared (is_nil h) (Ends absent) (if is_function h then Ends (Ok call) else Goes h) spared
    (if_spared (is_function h) (Ends (Ok call)) (Goes h) (λ e. cc) tt)

set_spared : (heap : Heap) (key v : Value) → IsSpared (set_link heap key v)
set_spared heap key V.Nil = λ e. cc
set_spared heap key V.False = λ e. cc
set_spared heap key V.True = λ e. cc
set_spared heap key (V.Int n) = λ e. cc
set_spared heap key (V.Str id) = handler_spared (not_indexable (V.Str id)) _ _ (λ e. cc)
set_spared heap key (V.Table id) =
    if_spared (is_nil (raw_get heap id.number key)) (set_by heap (V.Table id) (Ok (target.Table id))) (Ends (Ok (target.Table id)))
    (handler_spared (Ok (target.Table id)) _ _ (λ e. cc)) (λ e. cc)
set_spared heap key (V.Func id) = λ e. cc
set_spared heap key (V.Lib id) = λ e. cc
set_spared heap key (V.Linda n) = λ e. cc
set_spared heap key (V.Lane n) = λ e. cc
set_spared heap key (V.Light id) = λ e. cc

end_spared : {A : Type 0} (l : Link A) (go : Value → Result A LuaFault) → IsSpared l → ((v : Value) → go v ≢ Err lua.Memory) → end_or l go ≢ Err lua.Memory
end_spared (Ends answer) go p q = p
end_spared (Goes next) go p q = q next

chain_spared : {A : Type 0} (link : Value → Link A) → ((v : Value) → IsSpared (link v)) → (n : ℕ) (object : Value) → chain link n object ≢ Err lua.Memory
chain_spared link each zero object = λ e. cc
chain_spared link each (suc n) object = end_spared (link object) (chain link n) (each object) (chain_spared link each n)

pub target_spared : (heap : Heap) (object key : Value) → set_target heap object key ≢ Err lua.Memory
unfolding set_target
target_spared heap object key = chain_spared (set_link heap key) (set_spared heap key) chain_limit object

pub ruleset target_rules = (target_spared)
