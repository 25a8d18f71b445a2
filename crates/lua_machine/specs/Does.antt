-- How the values of the machine stand for those of the meaning, and what its functions promise.
use Rattle.std.specs.Prelude.{◌≡◌, ◌≤◌, ◌<◌, ℕ, ◌-◌, ◌+◌, List, [], ◌∷◌, ◌++◌, Result, Ok, Err, length, take, drop, Bool, true, false}
use denote.Ref.{MutBor, Bor}
use Rattle.lua_program.specs.declared.expr.RExpr.{RExpr}
use Rattle.lua_program.specs.declared.stat.RStat.{RStat}
use Rattle.object_store.specs.declared.value.Value.{Value}
use Rattle.object_store.specs.Heap.{Shown}
use Rattle.lanes_lib.specs.declared.ask.Ask.{Ask}
use Rattle.lanes_lib.specs.declared.ask.Answer.{Answer}
use Rattle.lua_meaning.specs.declared.fault.Fault.{Fault}
use Rattle.lua_meaning.specs.declared.fault.Fault.TheVariants as F
use Rattle.lua_meaning.specs.declared.fault.Site.{Site}
use Rattle.lua_meaning.specs.Run.{World, Store, Run, Next, Point, Follows}
use Rattle.lua_meaning.specs.Level.{Loaded, Frame, Locals, Flow, Level}
use Rattle.lua_meaning.specs.Level as L
use Rattle.lua_meaning.specs.Levels.{level}
use Rattle.lua_machine.specs.Piled.{Piled, cut}
use Rattle.lua_machine.specs.declared.machine.Machine.{Machine}
use Rattle.lua_machine.specs.declared.machine.Window.{Window}
use Rattle.lua_machine.specs.declared.machine.Done.{Done}
use Rattle.lua_machine.specs.declared.machine.Done.TheVariants.{Well, Failed}
use Rattle.lua_machine.specs.declared.machine.Got.{Got}
use Rattle.lua_machine.specs.declared.machine.Got.TheVariants as G
use Rattle.lua_machine.specs.declared.machine.Test.{Test}
use Rattle.lua_machine.specs.declared.machine.Test.TheVariants as T
use Rattle.lua_machine.specs.declared.machine.FlowTag.{FlowTag}
use Rattle.lua_machine.specs.declared.machine.FlowTag.TheVariants as tag

-- ---- where a run stands

abbrev pub store_of : Shown → Store
store_of state = record { heap = state.heap; texts = state.texts }

abbrev pub world : {H : Type 0} → Machine H → World
world m = record { store = store_of m.state; left = m.left }

abbrev pub point : {H : Type 0} → Machine H → Point H
point m = (m.host, store_of m.state)

-- ---- frames

abbrev pub range : ℕ → ℕ → List Value → List Value
range from to s = take (to - from) (drop from s)

abbrev pub locals : Window → Piled → Locals
locals f s = record { slots = take f.size (drop f.base s.values); cells = drop f.cells s.cells }

abbrev pub frame : Window → Piled → Frame
frame f s = record {
  me = f.me.number;
  from = f.from;
  dots = range f.dots f.base s.values;
  locals =
      locals f s;
}

-- the window lies on the stack
pub record Fits (f : Window) (s : Piled) : Type 0 where
  pub dots : f.dots ≤ f.base
  pub slots : f.base + f.size ≤ length s.values
  pub cells : f.cells ≤ length s.cells

-- ---- what an answer stands for

abbrev pub unit : {H : Type 0} → Done → Machine H → Result (Unit {0}) Fault
unit Well m = Ok tt
unit Failed m = Err m.fault

abbrev pub one : {H : Type 0} → Done → Machine H → Result Value Fault
one Well m = Ok m.value
one Failed m = Err m.fault

abbrev pub pushed : {H : Type 0} → Done → ℕ → Machine H → Result (List Value) Fault
pushed Well n m = Ok (drop n m.stack.values)
pushed Failed n m = Err m.fault

abbrev pub many : {H : Type 0} → Got → ℕ → Machine H → Result (List Value) Fault
many G.One n m = Ok (m.value ∷ [])
many G.Many n m = Ok (drop n m.stack.values)
many G.Failed n m = Err m.fault

abbrev pub truth : {H : Type 0} → Test → Machine H → Result Bool Fault
truth T.Yes m = Ok true
truth T.No m = Ok false
truth T.Failed m = Err m.fault

abbrev pub flow : {H : Type 0} → FlowTag → ℕ → Window → Machine H → Result Flow Fault
flow tag.Goes n f m = Ok (L.Goes (locals f m.stack))
flow tag.Breaks n f m = Ok (L.Breaks (locals f m.stack))
flow tag.Jumps n f m = Ok (L.Jumps m.leaves m.statement (locals f m.stack))
flow tag.ReturnsOne n f m = Ok (L.Returns (m.value ∷ []))
flow tag.ReturnsMany n f m = Ok (L.Returns (drop n m.stack.values))
flow tag.Fails n f m = Err m.fault

-- ---- what stays on the stack

abbrev pub OnWell : Done → Type 0 → Type 0
OnWell Well P = P
OnWell Failed P = Unit {0}

abbrev pub OnTest : Test → Type 0 → Type 0
OnTest T.Yes P = P
OnTest T.No P = P
OnTest T.Failed P = Unit {0}

-- values stand above this place, and nothing below it was changed
pub record Above (at : ℕ) (s s1 : Piled) : Type 0 where
  pub within : at ≤ length s1.values
  pub values : take at s1.values ≡ take at s.values
  pub cells : s1.cells ≡ s.cells

abbrev pub StackGot : Got → ℕ → Piled → Piled → Type 0
StackGot G.One at s s1 = s1 ≡ cut at s
StackGot G.Many at s s1 = Above at s s1
StackGot G.Failed at s s1 = Unit {0}

-- only the locals of the window were changed
pub record Around (f : Window) (s s1 : Piled) : Type 0 where
  pub count : length s1.values ≡ length s.values
  pub values : take f.base s1.values ≡ take f.base s.values
  pub within : f.cells ≤ length s1.cells
  pub cells : take f.cells s1.cells ≡ take f.cells s.cells

-- values stand above the window
pub record Over (f : Window) (s s1 : Piled) : Type 0 where
  pub count : length s.values ≤ length s1.values
  pub values : take f.base s1.values ≡ take f.base s.values
  pub within : f.cells ≤ length s1.cells
  pub cells : take f.cells s1.cells ≡ take f.cells s.cells

abbrev pub StackFlow : FlowTag → Window → Piled → Piled → Type 0
StackFlow tag.Goes f s s1 = Around f s s1
StackFlow tag.Breaks f s s1 = Around f s s1
StackFlow tag.Jumps f s s1 = Around f s s1
StackFlow tag.ReturnsOne f s s1 = Around f s s1
StackFlow tag.ReturnsMany f s s1 = Over f s s1
StackFlow tag.Fails f s s1 = Unit {0}

-- nothing but the value and the fault was changed
pub record Kept {H : Type 0} (m m1 : Machine H) : Type 0 where
  pub state : store_of m1.state ≡ store_of m.state
  pub left : m1.left ≡ m.left
  pub stack : m1.stack ≡ m.stack
  pub host : m1.host ≡ m.host

-- ---- promises

module _ {H : Type 0} (asked : H → Ask → Answer → H → Type 0) where
  -- from a machine to a machine
  abbrev pub LeadsTo : {A : Type 0} → Machine H → (Next A → Run) → Machine H → Result A Fault →
      Type 0
  LeadsTo m meaning m1 outcome = Follows asked (point m) meaning (point m1) outcome (world m1)

  -- a part did its work, or failed; the stack is as it was
  pub record UnitOf (meaning : Next (Unit {0}) → Run) (m : Machine H) (r : Done)
      (m1 : Machine H) : Type 0 where
    pub leads : LeadsTo m meaning m1 (unit r m1)
    pub stack : OnWell r (m1.stack ≡ m.stack)

  -- a part gave its value, or failed; the stack is as it was
  pub record OneOf (meaning : Next Value → Run) (m : Machine H) (r : Done)
      (m1 : Machine H) : Type 0 where
    pub leads : LeadsTo m meaning m1 (one r m1)
    pub stack : OnWell r (m1.stack ≡ m.stack)

  -- a part has its values on the stack from a place on, or failed
  pub record PushedOf (meaning : Next (List Value) → Run) (m : Machine H) (at : ℕ) (r : Done)
      (m1 : Machine H) : Type 0 where
    pub leads : LeadsTo m meaning m1 (pushed r at m1)
    pub stack : OnWell r (Above at m.stack m1.stack)

  -- a part gave one value, or has its values on the stack from a place on, or failed
  pub record ManyOf (meaning : Next (List Value) → Run) (m : Machine H) (at : ℕ) (r : Got)
      (m1 : Machine H) : Type 0 where
    pub leads : LeadsTo m meaning m1 (many r at m1)
    pub stack : StackGot r at m.stack m1.stack

  -- a condition came out, or failed; the stack is as it was
  pub record TestOf (meaning : Next Bool → Run) (m : Machine H) (r : Test)
      (m1 : Machine H) : Type 0 where
    pub leads : LeadsTo m meaning m1 (truth r m1)
    pub stack : OnTest r (m1.stack ≡ m.stack)

  -- a statement or a block ended
  pub record FlowOf (meaning : Next Flow → Run) (m : Machine H) (f : Window) (r : FlowTag)
      (m1 : Machine H) : Type 0 where
    pub leads : LeadsTo m meaning m1 (flow r (length m.stack.values) f m1)
    pub stack : StackFlow r f m.stack m1.stack

  -- ---- of what stands on a level

  abbrev pub GivesOne : Level → Machine H → Window → RExpr → Done → Machine H → Type 0
  GivesOne l m f e r m1 = OneOf (l.expr e (frame f m.stack) (world m)) m r m1

  abbrev pub GivesMany : Level → Machine H → Window → RExpr → Got → Machine H → Type 0
  GivesMany l m f e r m1 = ManyOf (l.multi e (frame f m.stack) (world m)) m (length m.stack.values)
      r m1

  abbrev pub Calls : Level → Machine H → Site → ℕ → Got → Machine H → Type 0
  Calls l m site at r m1 = ManyOf (l.call m.value (drop at m.stack.values) site (world m)) m at r m1

  abbrev pub Runs : Level → Machine H → Window → RStat → FlowTag → Machine H → Type 0
  Runs l m f s r m1 = FlowOf (l.stmt s (frame f m.stack) (world m)) m f r m1

  -- the functions of the level below do what their level means
  pub record Stands (p : Loaded) (n : ℕ)
      (expr_pre : MutBor (Machine H) → Bor Loaded → Bor Window → Bor RExpr → ℕ → Type 0)
      (expr_post : MutBor (Machine H) → Bor Loaded → Bor Window → Bor RExpr → ℕ → Done →
      MutBor (Machine H) → Type 0)
      (multi_pre : MutBor (Machine H) → Bor Loaded → Bor Window → Bor RExpr → ℕ → Type 0)
      (multi_post : MutBor (Machine H) → Bor Loaded → Bor Window → Bor RExpr → ℕ → Got →
      MutBor (Machine H) → Type 0)
      (call_pre : MutBor (Machine H) → Bor Loaded → Site → ℕ → ℕ → Type 0)
      (call_post : MutBor (Machine H) → Bor Loaded → Site → ℕ → ℕ → Got → MutBor (Machine H) →
      Type 0)
      (stmt_pre : MutBor (Machine H) → Bor Loaded → Bor Window → Bor RStat → ℕ → Type 0)
      (stmt_post : MutBor (Machine H) → Bor Loaded → Bor Window → Bor RStat → ℕ → FlowTag →
      MutBor (Machine H) → Type 0) : Type 0 where
    pub takes_expr : (d : ℕ) → d ≤ n → (m : MutBor (Machine H)) (q : Bor Loaded) (f : Bor Window)
        (e : Bor RExpr) →
        q.now ≡ p → Fits f.now m.now.stack → expr_pre m q f e d
    pub gives_expr : (d : ℕ) → d ≤ n → (m m1 : MutBor (Machine H)) (q : Bor Loaded)
        (f : Bor Window) (e : Bor RExpr) (r : Done) →
        q.now ≡ p → expr_post m q f e d r m1 → GivesOne (level p d) m.now f.now e.now r m1.now
    pub takes_multi : (d : ℕ) → d ≤ n → (m : MutBor (Machine H)) (q : Bor Loaded) (f : Bor Window)
        (e : Bor RExpr) →
        q.now ≡ p → Fits f.now m.now.stack → multi_pre m q f e d
    pub gives_multi : (d : ℕ) → d ≤ n → (m m1 : MutBor (Machine H)) (q : Bor Loaded)
        (f : Bor Window) (e : Bor RExpr) (r : Got) →
        q.now ≡ p → multi_post m q f e d r m1 → GivesMany (level p d) m.now f.now e.now r m1.now
    pub takes_call : (d : ℕ) → d ≤ n → (m : MutBor (Machine H)) (q : Bor Loaded) (site : Site)
        (at : ℕ) →
        q.now ≡ p → at ≤ length m.now.stack.values → call_pre m q site at d
    pub gives_call : (d : ℕ) → d ≤ n → (m m1 : MutBor (Machine H)) (q : Bor Loaded) (site : Site)
        (at : ℕ) (r : Got) →
        q.now ≡ p → call_post m q site at d r m1 → Calls (level p d) m.now site at r m1.now
    pub takes_stmt : (d : ℕ) → d ≤ n → (m : MutBor (Machine H)) (q : Bor Loaded) (f : Bor Window)
        (s : Bor RStat) →
        q.now ≡ p → Fits f.now m.now.stack → stmt_pre m q f s d
    pub gives_stmt : (d : ℕ) → d ≤ n → (m m1 : MutBor (Machine H)) (q : Bor Loaded)
        (f : Bor Window) (s : Bor RStat) (r : FlowTag) →
        q.now ≡ p → stmt_post m q f s d r m1 → Runs (level p d) m.now f.now s.now r m1.now
