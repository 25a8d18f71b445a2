-- The handlers of a value that is called, one after another.
use Rattle.std.proofs.Common.{◌≡◌, ℕ, zero, suc, ◌+◌, ◌-◌, ◌<◌, ◌≤◌, Result, Ok, Err, Option, Some, None, List, [], ◌∷◌, ◌++◌, length, take, drop, sym, ap, ◌∙◌, arith, append_assoc, length-drop}
use Rattle.std.specs.Prelude.{slice_range}
use Rattle.std.proofs.Math.Seq.{drop-append_seam, take-append_seam}
use Rattle.std.proofs.lemmas.List.{take-append-le, drop-append-le}
use Rattle.object_store.specs.Heap.{Heap}
use Rattle.object_store.specs.declared.value.Value.{Value}
use Rattle.object_store.specs.declared.fault.LuaFault.{LuaFault}
use Rattle.object_store.specs.declared.fault.LuaFault.TheVariants as lua
use Rattle.lua_ops.specs.Metamethods.{callee_step}
use Rattle.lua_meaning.specs.Calls.{callee_of, callee_then}

-- ---- a value before the arguments

module _ (s : List Value) (v : Value) (at : ℕ) (h : at ≤ length s) where
  args_again : slice_range (s ++ v ∷ []) at (length s) ≡ drop at s
  args_again =
      let n : length s - at ≡ length (drop at s) = omega (arith, length-drop at s) in
      ap (take (length s - at)) (drop-append-le at s (v ∷ []) h) ∙ ap (λ k. take k (drop at s ++ v ∷ [])) n ∙ take-append_seam (drop at s) (v ∷ [])

  pub inserted : take at ((s ++ v ∷ []) ++ slice_range (s ++ v ∷ []) at (length s)) ++ drop (length s) ((s ++ v ∷ []) ++ slice_range (s ++ v ∷ []) at (length s)) ≡ take at s ++ v ∷ drop at s
  inserted =
      let all : (s ++ v ∷ []) ++ slice_range (s ++ v ∷ []) at (length s) ≡ s ++ v ∷ drop at s = ap (λ l. (s ++ v ∷ []) ++ l) args_again ∙ append_assoc s (v ∷ []) (drop at s) in
      ap (λ l. take at l ++ drop (length s) l) all ∙ ap (λ l. l ++ drop (length s) (s ++ v ∷ drop at s)) (take-append-le at s (v ∷ drop at s) h) ∙ ap (λ l. take at s ++ l) (drop-append_seam s (v ∷ drop at s))

-- ---- one handler after another

module _ (heap : Heap) (n i : ℕ) (v : Value) (args : List Value) where
  turn : (a b : ℕ) → a ≡ suc b → (o : Result (Option Value) LuaFault) → o ≡ callee_step heap v → callee_of heap a v args ≡ callee_then o v args (λ h. callee_of heap b h (v ∷ args))
  turn a b e o is = ap (λ a. callee_of heap a v args) e ∙ ap (λ o. callee_then o v args (λ h. callee_of heap b h (v ∷ args))) (sym is)

  pub callee_found : i < n → Ok None ≡ callee_step heap v → callee_of heap (n - i) v args ≡ Ok (v, args)
  callee_found h e = turn (n - i) (n - (i + 1)) (omega arith) (Ok None) e

  pub callee_next : (handler : Value) → i < n → Ok (Some handler) ≡ callee_step heap v → callee_of heap (n - i) v args ≡ callee_of heap (n - (i + 1)) handler (v ∷ args)
  callee_next handler h e = turn (n - i) (n - (i + 1)) (omega arith) (Ok (Some handler)) e

  pub callee_fault : (fault : LuaFault) → i < n → Err fault ≡ callee_step heap v → callee_of heap (n - i) v args ≡ Err fault
  callee_fault fault h e = turn (n - i) (n - (i + 1)) (omega arith) (Err fault) e

  pub callee_long : n ≤ i → callee_of heap (n - i) v args ≡ Err lua.LongChain
  callee_long h = let e : n - i ≡ zero = omega arith in ap (λ a. callee_of heap a v args) e
