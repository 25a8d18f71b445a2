-- Statements (Lua 5.4 manual, section 3.3), by what stands on the level below.
use Rattle.std.specs.Prelude.{ℕ, zero, suc, ◌+◌, ◌-◌, ◌/◌, length, drop, List, [], ◌∷◌, ◌++◌, Result, Ok, Err, Option, Some, None, Bool, true, false, if◌then◌else◌, ℤ, pos, negsuc, ◌+ℤ◌, ◌-ℤ◌, int_lt, nat_abs, slice_get}
use Rattle.int_ops.specs.Wrapping.{wrapped}
use Rattle.lua_program.specs.declared.expr.RExpr.{RExpr, out-RExpr}
use Rattle.lua_program.specs.declared.expr.RExprKind.{RExprKind, out-RExprKind}
use Rattle.lua_program.specs.declared.expr.RExprKind.TheOpen as E
use Rattle.lua_program.specs.declared.expr.RPair.{RPair, out-RPair}
use Rattle.lua_program.specs.declared.expr.RField.{RField}
use Rattle.lua_program.specs.declared.expr.Ref.{Ref}
use Rattle.lua_program.specs.declared.expr.Ref.TheVariants as R
use Rattle.lua_program.specs.declared.program.Proto.{Proto}
use Rattle.lua_program.specs.declared.stat.RStat.{RStat, out-RStat}
use Rattle.lua_program.specs.declared.stat.RStat.TheOpen as S
use Rattle.lua_program.specs.declared.stat.RBranch.{RBranch, out-RBranch}
use Rattle.object_store.specs.declared.value.Value.{Value}
use Rattle.object_store.specs.declared.value.Value.TheVariants as V
use Rattle.object_store.specs.declared.fault.LuaFault.{LuaFault}
use Rattle.object_store.specs.declared.fault.LuaFault.TheVariants as lua
use Rattle.object_store.specs.Value.{is_nil}
use Rattle.lua_meaning.specs.declared.fault.Fault.{Fault}
use Rattle.lua_meaning.specs.declared.fault.Fault.TheVariants as F
use Rattle.lua_meaning.specs.Run.{Run, World, Next, and_then}
use Rattle.lua_meaning.specs.Level.{Loaded, Level, Frame, Locals, CellId, Flow, Goes, Breaks, Jumps, Returns, tick, no_site}
use Rattle.lua_meaning.specs.Names.{is_true, first, filled, put_slot, put_cell, set_cell, local_cell, up_cell, enclosed}
use Rattle.lua_meaning.specs.Faults.{fault_at}
use Rattle.lua_meaning.specs.Operate.{set}
use Rattle.lua_meaning.specs.Expressions.{list, exactly, limited, globals, key_at, function}

abbrev pub with_locals : Frame → Locals → Frame
with_locals f locals = record f { locals = locals }

-- the statement goes on with the next one
abbrev pub goes : Next Flow → Next Locals
goes k (Ok locals) w = k (Ok (Goes locals)) w
goes k (Err e) w = k (Err e) w

-- ---- locals (sections 3.3.7 and 3.5)

-- the value of a captured local, in a new cell
abbrev pub in_cell : (World → Next CellId → Run) → ℕ → Value → Frame → World → Next Locals → Run
in_cell full i v f w k = enclosed full v w (and_then k (λ c w. k (Ok (put_cell i c f.locals)) w))

-- the value of a local, or a new cell with it; for a cell too many there is a fault without a
-- position
abbrev pub declare : Loaded → Frame → Ref → Value → World → Next Locals → Run
declare p f (R.Slot i) v w k = k (put_slot i v f.locals) w
declare p f (R.CellSlot i) v w k = in_cell (fault_at p 0 lua.Full) i v f w k
declare p f (R.Up j) v w k = k (Err F.Broken) w
declare p f (R.Global t) v w k = k (Err F.Broken) w

abbrev pub declare_all : Loaded → List Ref → List Value → Frame → World → Next Locals → Run
declare_all p [] vs f w k = k (Ok f.locals) w
declare_all p (r ∷ rs) vs f w k =
    declare p f r (first vs) w (and_then k (λ locals w.
    declare_all p rs (drop 1 vs) (with_locals f locals) w k))

abbrev pub refs_of : List (Ref × Bool) → List Ref
refs_of [] = []
refs_of (x ∷ xs) = x.0 ∷ refs_of xs

-- a local or an upvalue has a new value
abbrev pub assign : Frame → Ref → Value → World → Next Locals → Run
assign f (R.Slot i) v w k = k (put_slot i v f.locals) w
assign f (R.CellSlot i) v w k =
    set_cell (local_cell f i) v w (and_then k (λ u w. k (Ok f.locals) w))
assign f (R.Up j) v w k =
    set_cell (up_cell w.store.heap f j) v w (and_then k (λ u w. k (Ok f.locals) w))
assign f (R.Global t) v w k = k (Err F.Broken) w

-- ---- assignment (section 3.3.3): the objects and the keys of the targets, the values, then the
-- stores in order

-- what is assigned to: a local or an upvalue, or a key of an object, whose fault is of this line
pub data Target : Type 0 where
  Local : Ref → Target
  Field : Value → Value → ℕ → Target

abbrev pub global_target : ℕ → Result Value Fault → Result Target Fault
global_target line (Ok key) = Ok (Field globals key line)
global_target line (Err e) = Err e

abbrev pub name_target : Loaded → ℕ → Ref → Result Target Fault
name_target p line (R.Global t) = global_target line (key_at p t.place)
name_target p line r = Ok (Local r)

module _ (p : Loaded) (l : Level) where
  abbrev pub target_on : ℕ → E.RExprKind-F RExprKind RField RExpr RPair → Frame → World →
      Next Target → Run
  target_on line (E.Name r place) f w k = k (name_target p line r) w
  target_on line (E.Index two) f w k =
      l.expr (out-RPair two).left f w (and_then k (λ object w.
      l.expr (out-RPair two).right f w (and_then k (λ key w. k (Ok (Field object key line)) w))))
  target_on line e f w k = k (Err F.Broken) w

  abbrev pub target : RExpr → Frame → World → Next Target → Run
  target e f w k = target_on (out-RExpr e).line (out-RExprKind (out-RExpr e).what) f w k

  abbrev pub targets : List Target → List RExpr → Frame → World → Next (List Target) → Run
  targets ts [] f w k = k (Ok ts) w
  targets ts (e ∷ es) f w k = target e f w (and_then k (λ t w. targets (ts ++ t ∷ []) es f w k))

  abbrev pub store : Frame → Target → Value → World → Next Locals → Run
  store f (Local r) v w k = assign f r v w k
  store f (Field object key line) v w k =
      set p l line (no_site f) object key v w (and_then k (λ u w. k (Ok f.locals) w))

  abbrev pub stores : List Target → List Value → Frame → World → Next Locals → Run
  stores [] vs f w k = k (Ok f.locals) w
  stores (t ∷ ts) vs f w k =
      store f t (first vs) w (and_then k (λ locals w. stores ts (drop 1 vs)
      (with_locals f locals) w k))

  abbrev pub assigned : List RExpr → List RExpr → Frame → World → Next Locals → Run
  assigned ts es f w k =
      targets [] ts f w (and_then k (λ ts w.
      exactly l (length ts) [] es f w (and_then k (λ vs w. stores ts vs f w k))))

-- ---- blocks (sections 3.3.1, 3.3.2 and 3.3.4)

-- where a statement that was left goes on
abbrev pub after : Next Flow → (Locals → World → Run) → (ℕ → Locals → World → Run) → Next Flow
after k go jump (Ok (Goes locals)) w = go locals w
after k go jump (Ok (Jumps zero n locals)) w = jump n locals w
after k go jump (Ok (Jumps (suc m) n locals)) w = k (Ok (Jumps m n locals)) w
after k go jump (Ok (Breaks locals)) w = k (Ok (Breaks locals)) w
after k go jump (Ok (Returns vs)) w = k (Ok (Returns vs)) w
after k go jump (Err e) w = k (Err e) w

-- statements one after another, until one doesn't go on; a goto to a label of this block jumps
abbrev pub sequence : Level → (ℕ → Locals → World → Run) → List RStat → Frame → World → Next Flow →
    Run
sequence l jump [] f w k = k (Ok (Goes f.locals)) w
sequence l jump (s ∷ ss) f w k =
    l.stmt s f w (after k (λ locals w. sequence l jump ss (with_locals f locals) w k) jump)

-- A goto goes on after the label, which is a statement of its block. Each goto is a step, so that
-- there are no more of them than steps that are left.
abbrev pub jumped : Level → ℕ → List RStat → Frame → Next Flow → ℕ → Locals → World → Run
jumped l zero ss f k n locals w = k (Err F.Spent) (record w { left = 0 })
jumped l (suc turns) ss f k n locals w =
    sequence l (jumped l turns ss f k) (drop (suc n) ss) (with_locals f locals) w k

abbrev pub block : Level → List RStat → Frame → World → Next Flow → Run
block l ss f w k = sequence l (λ n locals w. jumped l w.left ss f k n locals w) ss f w k

-- ---- loops (sections 3.3.4 and 3.3.5)

-- after a turn: the next one, or `break` ends the loop
abbrev pub turned : Next Flow → (Locals → World → Run) → Next Flow
turned k go (Ok (Goes locals)) w = go locals w
turned k go (Ok (Breaks locals)) w = k (Ok (Goes locals)) w
turned k go (Ok (Jumps m n locals)) w = k (Ok (Jumps m n locals)) w
turned k go (Ok (Returns vs)) w = k (Ok (Returns vs)) w
turned k go (Err e) w = k (Err e) w

-- whether the value of an expression is true
unfoldable pub tested : Level → RExpr → Frame → World → Next Bool → Run
tested l e f w k = l.expr e f w (and_then k (λ v w. k (Ok (is_true v)) w))

-- A turn of a loop is a step, so that there are no more turns than steps that are left.
abbrev pub spent : {A : Type 0} → World → Next A → Run
spent w k = k (Err F.Spent) (record w { left = 0 })

-- one turn: a step, and the body
unfoldable pub turn : Level → List RStat → Frame → World → Next Flow → Run
turn l body f w k = tick w (and_then k (λ u w. block l body f w k))

abbrev pub while_turns : Level → ℕ → RExpr → List RStat → Frame → World → Next Flow → Run
while_turns l zero e body f w k = spent w k
while_turns l (suc n) e body f w k =
    tested l e f w (and_then k (λ truth w.
    if truth then turn l body f w (turned k (λ locals w. while_turns l n e body (with_locals f
    locals) w k))
    else k (Ok (Goes f.locals)) w))

-- the condition sees the locals of the body
abbrev pub repeat_turns : Level → ℕ → RExpr → List RStat → Frame → World → Next Flow → Run
repeat_turns l zero e body f w k = spent w k
repeat_turns l (suc n) e body f w k =
    turn l body f w (turned k (λ locals w.
    tested l e (with_locals f locals) w (and_then k (λ truth w.
    if truth then k (Ok (Goes locals)) w
    else repeat_turns l n e body (with_locals f locals) w k))))

-- ---- the numeric `for`: the number of turns is fixed before the first

-- how many turns follow the first, where there is one, from the lower of two numbers to the higher
abbrev pub steps_between : ℤ → ℤ → ℕ → Option ℕ
steps_between low high size = if int_lt high low then None else Some (nat_abs (high -ℤ low) / size)

abbrev pub more_turns : ℤ → ℤ → ℤ → Option ℕ
more_turns start limit (pos size) = steps_between start limit size
more_turns start limit (negsuc n) = steps_between limit start (suc n)

module _ (p : Loaded) (l : Level) where
  -- each turn has a fresh local
  unfoldable pub for_turn : Ref → Value → List RStat → Frame → World → Next Flow → Run
  for_turn r v body f w k =
      tick w (and_then k (λ u w. declare p f r v w (and_then k (λ locals w. block l body
      (with_locals f locals) w k))))

  abbrev pub for_turns : ℕ → ℕ → ℤ → ℤ → Ref → List RStat → Frame → World → Next Flow → Run
  for_turns zero more i step r body f w k = spent w k
  for_turns (suc n) zero i step r body f w k =
      for_turn r (V.Int i) body f w (turned k (λ locals w. k (Ok (Goes locals)) w))
  for_turns (suc n) (suc more) i step r body f w k =
      for_turn r (V.Int i) body f w (turned k (λ locals w.
      for_turns n more (wrapped (i +ℤ step)) step r body (with_locals f locals) w k))

  abbrev pub counted : Option ℕ → ℤ → ℤ → Ref → List RStat → Frame → World → Next Flow → Run
  counted None start step r body f w k = k (Ok (Goes f.locals)) w
  counted (Some more) start step r body f w k = for_turns w.left more start step r body f w k

  -- the three numbers are integers, and the step isn't 0; the faults have no position
  abbrev pub for_on : Value → Value → Value → Ref → List RStat → Frame → World → Next Flow → Run
  for_on (V.Int start) (V.Int limit) (V.Int (pos zero)) r body f w k = fault_at p 0 lua.ZeroStep w k
  for_on (V.Int start) (V.Int limit) (V.Int step) r body f w k =
      counted (more_turns start limit step) start step r body f w k
  for_on start limit step r body f w k = fault_at p 0 lua.NotInteger w k

  abbrev pub for_step : Option RExpr → Frame → World → Next Value → Run
  for_step None f w k = k (Ok (V.Int (pos 1))) w
  for_step (Some e) f w k = l.expr e f w k

  abbrev pub numeric_for : Ref → RExpr → RExpr → Option RExpr → List RStat → Frame → World →
      Next Flow → Run
  numeric_for r a b c body f w k =
      l.expr a f w (and_then k (λ start w. l.expr b f w (and_then k (λ limit w.
      for_step c f w (and_then k (λ step w. for_on start limit step r body f w k))))))

  -- ---- the generic `for`: a function is called with a state and the value before, until its first
  -- value is nil

  unfoldable pub in_turn : List Ref → List Value → List RStat → Frame → World → Next Flow → Run
  in_turn rs vs body f w k =
      tick w (and_then k (λ u w. declare_all p rs vs f w (and_then k (λ locals w.
      block l body (with_locals f locals) w k))))

  abbrev pub in_turns : ℕ → Value → Value → Value → List Ref → List RStat → Frame → World →
      Next Flow → Run
  in_turns zero go state control rs body f w k = spent w k
  in_turns (suc n) go state control rs body f w k =
      l.call go (state ∷ control ∷ []) (no_site f) w (and_then k (λ vs w.
      if is_nil (first vs) then k (Ok (Goes f.locals)) w
      else in_turn rs vs body f w (turned k (λ locals w.
      in_turns n go state (first vs) rs body (with_locals f locals) w k))))

  abbrev pub generic_for : List Ref → List RExpr → List RStat → Frame → World → Next Flow → Run
  generic_for rs es body f w k =
      exactly l 3 [] es f w (and_then k (λ vs w.
      in_turns w.left (first vs) (first (drop 1 vs)) (first (drop 2 vs)) rs body f w k))

  -- ---- the other statements

  abbrev pub otherwise : Option (List RStat) → Frame → World → Next Flow → Run
  otherwise None f w k = k (Ok (Goes f.locals)) w
  otherwise (Some ss) f w k = block l ss f w k

  abbrev pub branches : List RBranch → Option (List RStat) → Frame → World → Next Flow → Run
  branches [] last f w k = otherwise last f w k
  branches (b ∷ bs) last f w k =
      tested l (out-RBranch b).condition f w (and_then k (λ truth w.
      if truth then block l (out-RBranch b).block f w k else branches bs last f w k))

  abbrev pub local : List (Ref × Bool) → List RExpr → Frame → World → Next Locals → Run
  local ls es f w k =
      exactly l (length ls) [] es f w (and_then k (λ vs w. declare_all p (refs_of ls) vs f w k))

  -- the line of the word `function` of a body
  abbrev pub line_of : Option Proto → ℕ
  line_of None = 0
  line_of (Some proto) = proto.line

  -- the function sees the local that holds it
  abbrev pub local_function : Ref → ℕ → Frame → World → Next Locals → Run
  local_function r n f w k =
      declare p f r V.Nil w (and_then k (λ locals w.
      function p l (with_locals f locals) (line_of (slice_get p.program.protos n)) n w (and_then k
      (λ v w.
      assign (with_locals f locals) r v w k))))

  -- too many values are a fault of the statement, without a position
  abbrev pub return : List RExpr → Frame → World → Next Flow → Run
  return es f w k =
      list l [] es f w (and_then k (λ vs w. limited p 0 vs w (and_then k (λ vs w. k (Ok (Returns
      vs)) w))))

  abbrev pub stmt_on : S.RStat-F RStat RBranch → Frame → World → Next Flow → Run
  stmt_on (S.Local ls es) f w k = local ls es f w (goes k)
  stmt_on (S.Assign ts es) f w k = assigned p l ts es f w (goes k)
  stmt_on (S.Call e) f w k = l.expr e f w (and_then k (λ v w. k (Ok (Goes f.locals)) w))
  stmt_on (S.Do ss) f w k = block l ss f w k
  stmt_on (S.While e body) f w k = while_turns l w.left e body f w k
  stmt_on (S.Repeat body e) f w k = repeat_turns l w.left e body f w k
  stmt_on (S.If bs last) f w k = branches bs last f w k
  stmt_on (S.ForNum r a b c body) f w k = numeric_for r a b c body f w k
  stmt_on (S.ForIn rs es body) f w k = generic_for rs es body f w k
  stmt_on (S.LocalFunction r n) f w k = local_function r n f w (goes k)
  stmt_on (S.Return es) f w k = return es f w k
  stmt_on (S.Break place) f w k = k (Ok (Breaks f.locals)) w
  stmt_on (S.Goto j) f w k = k (Ok (Jumps j.leaves j.statement f.locals)) w
  stmt_on (S.Label spot) f w k = k (Ok (Goes f.locals)) w
