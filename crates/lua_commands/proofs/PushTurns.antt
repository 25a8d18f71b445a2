-- The two values of a target that come onto the stack.
use Rattle.std.proofs.Common.{◌≡◌, ◌+◌, Ok, Err, [], ◌∷◌, ◌++◌, length, refl, sym, ap, ◌∙◌, arith, length-append}
use Rattle.std.proofs.Math.Seq.{take-length}
use Rattle.object_store.specs.declared.value.Value.{Value}
use Rattle.lanes_lib.specs.declared.ask.Ask.{Ask}
use Rattle.lanes_lib.specs.declared.ask.Answer.{Answer}
use Rattle.lua_meaning.specs.declared.fault.Fault.{Fault}
use Rattle.lua_meaning.specs.Run.{World, Run, Next, here, lost, and_then}
use Rattle.lua_meaning.specs.Statements.{Target}
use Rattle.lua_machine.specs.Piled.{with_values}
use Rattle.lua_machine.specs.declared.machine.Machine.{Machine}
use Rattle.lua_machine.specs.declared.machine.Done.{Done}
use Rattle.lua_machine.specs.declared.machine.Done.TheVariants.{Well, Failed}
use Rattle.lua_machine.specs.Does.{world, point, OneOf}
use Rattle.lua_machine.specs.Moved.{Pushed}
use Rattle.lua_machine.proofs.Leads.{leads_on, from, reached}
use Rattle.lua_machine.proofs.Pushes.{two_args, two_below}
use Rattle.lua_commands.specs.Targets.{TargetOf}

module _ {H : Type 0} {asked : H → Ask → Answer → H → Type 0} (m m1 m2 : Machine H) (a b : Value)
    (e : m1 ≡ record m { value = a; stack = with_values m.stack (m.stack.values ++ a ∷ []) }) (of : Value → Value → Target) where
  pub two_held : (r : Done) → Pushed (record m1 { value = b }) r m2 → TargetOf asked (λ k. k (Ok (of a b)) (world m)) of m r m2
  two_held Well e2 =
      let pile : m2 ≡ record m { value = b; stack = with_values m.stack ((m.stack.values ++ a ∷ []) ++ b ∷ []) } =
      e2 ∙ ap (λ (x : Machine H). record x { value = b; stack = with_values x.stack (x.stack.values ++ b ∷ []) }) e in
      let n : length ((m.stack.values ++ a ∷ []) ++ b ∷ []) ≡ length m.stack.values + 2 = omega (arith, length-append (m.stack.values ++ a ∷ []) (b ∷ []), length-append m.stack.values (a ∷ [])) in
      record {
        leads = λ k. rw (pile, two_args m.stack.values a b) here;
        stack = rw pile record {
          within = omega (arith, n);
          values = two_below m.stack.values a b ∙ sym (take-length m.stack.values);
          cells = refl;
        };
        count = ap (λ (x : Machine H). length x.stack.values) pile ∙ n;
      }
  two_held Failed e2 = record { leads = λ k. rw (e2, e) lost; stack = tt; count = tt }

module _ {H : Type 0} {asked : H → Ask → Answer → H → Type 0} (m m1 : Machine H) (of : Value → Value → Target) where
  -- a fault of the machine's own
  pub target_fails : (fault : Fault) → m1 ≡ record m { fault = fault } → TargetOf asked (λ k. k (Err fault) (world m)) of m Failed m1
  target_fails fault e = record { leads = λ k. rw e (reached (point m) (Err fault) k (world m)); stack = tt; count = tt }

-- ---- a target after a value

module _ {H : Type 0} {asked : H → Ask → Answer → H → Type 0} (m m1 m2 : Machine H) (of : Value → Value → Target) (begins : Next Value → Run) (ends : Value → World → Next Target → Run) where
  pub target_after : (r : Done) → OneOf asked begins m Well m1 → TargetOf asked (ends m1.value (world m1)) of m1 r m2 → TargetOf asked (λ k. begins (and_then k (λ v w. ends v w k))) of m r m2
  target_after r a b = record {
    leads = λ k. leads_on (a.leads (and_then k (λ v w. ends v w k))) (let l = rw a.stack at b.leads in l k);
    stack = rw a.stack at b.stack;
    count = rw a.stack at b.count;
  }

module _ {H : Type 0} {asked : H → Ask → Answer → H → Type 0} (m m1 : Machine H) (of : Value → Value → Target) (begins : Next Value → Run) (ends : Value → World → Next Target → Run) where
  pub target_without : OneOf asked begins m Failed m1 → TargetOf asked (λ k. begins (and_then k (λ v w. ends v w k))) of m Failed m1
  target_without a = record { leads = λ k. a.leads (and_then k (λ v w. ends v w k)); stack = tt; count = tt }

module _ {H : Type 0} {asked : H → Ask → Answer → H → Type 0} (m m1 : Machine H) (of : Value → Value → Target) where
  -- another name of what is meant
  pub target_named : (a b : Next Target → Run) (r : Done) → ((k : Next Target) → a k ≡ b k) → TargetOf asked b of m r m1 → TargetOf asked a of m r m1
  target_named a b r e x = record { leads = λ k. from (e k) (x.leads k); stack = x.stack; count = x.count }
