-- How statements end.
use Rattle.std.proofs.Common.{◌≡◌, ℕ, length, refl}
use Rattle.lua_meaning.specs.Run.{World, Run, Next, reaches}
use Rattle.lua_meaning.specs.Level.{Flow, Locals}
use Rattle.lua_meaning.specs.Statements.{turned}
use Rattle.lua_machine.specs.Piled.{Piled}
use Rattle.lua_machine.specs.declared.machine.Window.{Window}
use Rattle.lua_machine.specs.declared.machine.FlowTag.{FlowTag}
use Rattle.lua_machine.specs.declared.machine.FlowTag.TheVariants as tag
use Rattle.lua_machine.specs.declared.machine.Machine.{Machine}
use Rattle.lua_machine.specs.Does.{Around, StackFlow, flow}
use Rattle.lua_machine.proofs.Frames.{around_then, over_after}

-- the stack after a statement that comes after another
pub flow_after : (r : FlowTag) (f : Window) (s s1 s2 : Piled) → Around f s s1 → StackFlow r f s1 s2 → StackFlow r f s s2
flow_after tag.Goes f s s1 s2 a b = around_then f s s1 s2 a b
flow_after tag.Breaks f s s1 s2 a b = around_then f s s1 s2 a b
flow_after tag.Jumps f s s1 s2 a b = around_then f s s1 s2 a b
flow_after tag.ReturnsOne f s s1 s2 a b = around_then f s s1 s2 a b
flow_after tag.ReturnsMany f s s1 s2 a b = over_after f s s1 s2 a b
flow_after tag.Fails f s s1 s2 a b = tt

-- the same, where a part between them changed nothing
pub flow_past : (r : FlowTag) (f : Window) (s s1 s2 s3 : Piled) → Around f s s1 → s2 ≡ s1 → StackFlow r f s2 s3 → StackFlow r f s s3
flow_past r f s s1 s2 s3 a e b = flow_after r f s s1 s3 a (rw e at b)

-- after a turn of a loop that neither went on nor broke off
pub turned_passes : {H : Type 0} (r : FlowTag) (n : ℕ) (f : Window) (m : Machine H) (k : Next Flow) (go : Locals → World → Run) (w : World) → (r ≡ tag.Goes → ⊥) → (r ≡ tag.Breaks → ⊥) → reaches (flow r n f m) (turned k go) w ≡ reaches (flow r n f m) k w
turned_passes tag.Goes n f m k go w a b = absurd (a refl)
turned_passes tag.Breaks n f m k go w a b = absurd (b refl)
turned_passes tag.Jumps n f m k go w a b = refl
turned_passes tag.ReturnsOne n f m k go w a b = refl
turned_passes tag.ReturnsMany n f m k go w a b = refl
turned_passes tag.Fails n f m k go w a b = refl
