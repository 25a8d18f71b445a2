-- The turns of a numeric `for`.
use Rattle.std.proofs.Common.{◌≡◌, ◌≢◌, ℕ, zero, suc, ◌+◌, ◌-◌, ◌<◌, ◌≤◌, Result, Ok, Err, Some, List, length, refl, sym, ap, ◌∙◌, arith}
use Rattle.std.specs.Prelude.{ℤ, pos, negsuc, ◌+ℤ◌}
use Rattle.int_ops.specs.Wrapping.{wrapped}
use Rattle.lua_program.specs.declared.expr.Ref.{Ref}
use Rattle.lua_program.specs.declared.stat.RStat.{RStat}
use Rattle.object_store.specs.declared.value.Value.{Value}
use Rattle.object_store.specs.declared.value.Value.TheVariants as V
use Rattle.object_store.specs.declared.fault.LuaFault.TheVariants as lua
use Rattle.lanes_lib.specs.declared.ask.Ask.{Ask}
use Rattle.lanes_lib.specs.declared.ask.Answer.{Answer}
use Rattle.lua_meaning.specs.Run.{World, Run, Next, Leads, reaches}
use Rattle.lua_meaning.specs.Level.{Loaded, Level, Locals, Frame, Flow, Goes}
use Rattle.lua_meaning.specs.Faults.{fault_at}
use Rattle.lua_meaning.specs.Statements.{with_locals, turned, for_turn, for_turns, for_on, counted, more_turns}
use Rattle.lua_machine.specs.declared.machine.Machine.{Machine}
use Rattle.lua_machine.specs.declared.machine.Window.{Window}
use Rattle.lua_machine.specs.declared.machine.FlowTag.{FlowTag}
use Rattle.lua_machine.specs.Does.{frame, world, point, flow, FlowOf}
use Rattle.lua_machine.proofs.Leads.{leads_on, from}

-- ---- the meaning of one turn

module _ (p : Loaded) (l : Level) (x step : ℤ) (r : Ref) (body : List RStat) (f : Frame) (k : Next Flow) where
  -- what follows a turn, before which so many were to follow it
  abbrev pub for_next : ℕ → ℕ → Locals → World → Run
  for_next n zero locals w = k (Ok (Goes locals)) w
  for_next n (suc more) locals w = for_turns p l n more (wrapped (x +ℤ step)) step r body (with_locals f locals) w k

  for_suc : (n more : ℕ) (w : World) → for_turns p l (suc n) more x step r body f w k ≡ for_turn p l r (V.Int x) body f w (turned k (for_next n more))
  for_suc n zero w = refl
  for_suc n (suc more) w = refl

  pub for_at : (n i more : ℕ) (w : World) → i < n → for_turns p l (n - i) more x step r body f w k ≡ for_turn p l r (V.Int x) body f w (turned k (for_next (n - (i + 1)) more))
  for_at n i more w h = at_suc (n - i) (n - (i + 1)) (omega arith)
    where
      at_suc : (a b : ℕ) → a ≡ suc b → for_turns p l a more x step r body f w k ≡ for_turn p l r (V.Int x) body f w (turned k (for_next b more))
      at_suc a b e = ap (λ a. for_turns p l a more x step r body f w k) e ∙ for_suc b more w

  pub for_last : (n more : ℕ) (locals : Locals) (w : World) → more ≡ 0 → for_next n more locals w ≡ k (Ok (Goes locals)) w
  for_last n more locals w e = ap (λ a. for_next n a locals w) e

  pub for_more : (n more : ℕ) (locals : Locals) (w : World) → (more ≡ 0 → ⊥) → for_next n more locals w ≡ for_turns p l n (more - 1) (wrapped (x +ℤ step)) step r body (with_locals f locals) w k
  for_more n more locals w h = let e : more ≡ suc (more - 1) = omega arith in ap (λ a. for_next n a locals w) e

-- ---- one turn of a machine, after others that led to it

module _ {H : Type 0} {asked : H → Ask → Answer → H → Type 0} (p : Loaded) (l : Level) (x step : ℤ) (r : Ref) (body : List RStat) (f : Window) (m m1 m2 : Machine H)
    (count : length m1.stack.values ≡ length m.stack.values) (n i more : ℕ) (h : i < n) (k : Next Flow) (run : Run)
    (before : Leads asked (point m) run (point m1) (Some (for_turns p l (n - i) more x step r body (frame f m1.stack) (world m1) k)))
    (t : FlowTag) (s : FlowOf asked (for_turn p l r (V.Int x) body (frame f m1.stack) (world m1)) m1 f t m2) where
  pub for_turn_leads : Leads asked (point m) run (point m2) (reaches (flow t (length m.stack.values) f m2) (turned k (for_next p l x step r body (frame f m1.stack) k (n - (i + 1)) more)) (world m2))
  for_turn_leads =
      let after = rw count at s.leads (turned k (for_next p l x step r body (frame f m1.stack) k (n - (i + 1)) more)) in
      leads_on before (from (for_at p l x step r body (frame f m1.stack) k n i more (world m1) h) after)

-- ---- the three numbers

module _ (p : Loaded) (l : Level) (r : Ref) (body : List RStat) (f : Frame) (w : World) (k : Next Flow) where
  pub no_start : (a b c : Value) → ((i : ℤ) → a ≡ V.Int i → ⊥) → for_on p l a b c r body f w k ≡ fault_at p 0 lua.NotInteger w k
  no_start V.Nil b c h = refl
  no_start V.False b c h = refl
  no_start V.True b c h = refl
  no_start (V.Int i) b c h = absurd (h i refl)
  no_start (V.Str s) b c h = refl
  no_start (V.Table t) b c h = refl
  no_start (V.Func n) b c h = refl
  no_start (V.Lib n) b c h = refl
  no_start (V.Linda n) b c h = refl
  no_start (V.Lane n) b c h = refl
  no_start (V.Light n) b c h = refl

  pub no_limit : (a : ℤ) (b c : Value) → ((i : ℤ) → b ≡ V.Int i → ⊥) → for_on p l (V.Int a) b c r body f w k ≡ fault_at p 0 lua.NotInteger w k
  no_limit a V.Nil c h = refl
  no_limit a V.False c h = refl
  no_limit a V.True c h = refl
  no_limit a (V.Int i) c h = absurd (h i refl)
  no_limit a (V.Str s) c h = refl
  no_limit a (V.Table t) c h = refl
  no_limit a (V.Func n) c h = refl
  no_limit a (V.Lib n) c h = refl
  no_limit a (V.Linda n) c h = refl
  no_limit a (V.Lane n) c h = refl
  no_limit a (V.Light n) c h = refl

  pub no_step : (a b : ℤ) (c : Value) → ((i : ℤ) → c ≡ V.Int i → ⊥) → for_on p l (V.Int a) (V.Int b) c r body f w k ≡ fault_at p 0 lua.NotInteger w k
  no_step a b V.Nil h = refl
  no_step a b V.False h = refl
  no_step a b V.True h = refl
  no_step a b (V.Int i) h = absurd (h i refl)
  no_step a b (V.Str s) h = refl
  no_step a b (V.Table t) h = refl
  no_step a b (V.Func n) h = refl
  no_step a b (V.Lib n) h = refl
  no_step a b (V.Linda n) h = refl
  no_step a b (V.Lane n) h = refl
  no_step a b (V.Light n) h = refl

  pub zero_step : (a b c : ℤ) → c ≡ pos 0 → for_on p l (V.Int a) (V.Int b) (V.Int c) r body f w k ≡ fault_at p 0 lua.ZeroStep w k
  zero_step a b c e = ap (λ c. for_on p l (V.Int a) (V.Int b) (V.Int c) r body f w k) e

  pub some_step : (a b c : ℤ) → (c ≡ pos 0 → ⊥) → for_on p l (V.Int a) (V.Int b) (V.Int c) r body f w k ≡ counted p l (more_turns a b c) a c r body f w k
  some_step a b (pos zero) h = absurd (h refl)
  some_step a b (pos (suc n)) h = refl
  some_step a b (negsuc n) h = refl

  -- three values of which it is known what they are
  pub numbers_are : (a b c a1 b1 c1 : Value) → a ≡ a1 → b ≡ b1 → c ≡ c1 → for_on p l a b c r body f w k ≡ for_on p l a1 b1 c1 r body f w k
  numbers_are a b c a1 b1 c1 ea eb ec = λ i. for_on p l (ea i) (eb i) (ec i) r body f w k
