-- A chain asks its values one by one.
use Rattle.std.proofs.Common.{◌≡◌, ◌∙◌, ap, sym, refl, ℕ, zero, suc, ◌+◌, ◌-◌, ◌<◌, ◌≤◌, Result, Err, arith}
use Rattle.object_store.specs.declared.value.Value.{Value}
use Rattle.object_store.specs.declared.fault.LuaFault.{LuaFault}
use Rattle.object_store.specs.declared.fault.LuaFault.TheVariants as lua
use Rattle.lua_ops.specs.Metamethods.{Link, Ends, Goes, end_or, chain, chain_limit}

-- one value, and then those that are left
pub chain_step : {A : Type 0} (link : Value → Link A) (m n : ℕ) (object : Value) → n < m → chain link (m - n) object ≡ end_or (link object) (chain link (m - (n + 1)))
chain_step link m n object below =
    let more : m - n ≡ suc (m - (n + 1)) = omega arith in
    ap (λ k. chain link k object) more

-- the value ends the chain
pub chain_ends : {A : Type 0} (link : Value → Link A) (m n : ℕ) (object : Value) (answer : Result A LuaFault) → n < m → Ends answer ≡ link object → chain link (m - n) object ≡ answer
chain_ends link m n object answer below said = chain_step link m n object below ∙ ap (λ l. end_or l (chain link (m - (n + 1)))) (sym said)

-- the value names the one that is asked next
pub chain_goes : {A : Type 0} (link : Value → Link A) (m n : ℕ) (object next : Value) → n < m → Goes next ≡ link object → chain link (m - (n + 1)) next ≡ chain link (m - n) object
chain_goes link m n object next below said = sym (chain_step link m n object below ∙ ap (λ l. end_or l (chain link (m - (n + 1)))) (sym said))

-- no value is left
pub chain_over : {A : Type 0} (link : Value → Link A) (m n : ℕ) (object : Value) → m ≤ n → chain link (m - n) object ≡ Err lua.LongChain
chain_over link m n object over =
    let none : m - n ≡ zero = omega arith in
    ap (λ k. chain link k object) none

pub limit_is : chain_limit ≡ 100
unfolding chain_limit
limit_is = refl
