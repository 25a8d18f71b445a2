-- What parts of library functions promise.
use Rattle.std.specs.Prelude.{◌≡◌, ℕ, ◌++◌, List, [], Result, Ok, Err, Option, Some, length, drop}
use Rattle.object_store.specs.declared.value.Value.{Value}
use Rattle.lanes_lib.specs.declared.ask.Ask.{Ask}
use Rattle.lanes_lib.specs.declared.ask.Answer.{Answer}
use Rattle.lua_meaning.specs.declared.fault.Fault.{Fault}
use Rattle.lua_meaning.specs.declared.fault.Site.{Site}
use Rattle.lua_meaning.specs.Run.{Run, Next, Leads, reaches}
use Rattle.lua_meaning.specs.Level.{Loaded, Level}
use Rattle.lua_meaning.specs.Library.{print_rest}
use Rattle.lua_machine.specs.declared.machine.Machine.{Machine}
use Rattle.lua_machine.specs.declared.machine.Done.{Done}
use Rattle.lua_machine.specs.declared.machine.Done.TheVariants.{Well, Failed}
use Rattle.lua_machine.specs.declared.machine.Got.{Got}
use Rattle.lua_machine.specs.Does.{world, point, LeadsTo, ManyOf, OnWell}

-- the bytes that were added to a line
abbrev pub added : {H : Type 0} → Done → List ℕ → List ℕ → Machine H → Result (List ℕ) Fault
added Well line line1 m = Ok (drop (length line) line1)
added Failed line line1 m = Err m.fault

-- the rest of a print, once the line is whole
abbrev pub rested : {H : Type 0} → Loaded → Level → Site → Done → List ℕ → Machine H →
    Next (List Value) → Option Run
rested p l site Well line m k = Some (print_rest p l site line [] (world m) k)
rested p l site Failed line m k = reaches (Err m.fault) k (world m)

module _ {H : Type 0} (asked : H → Ask → Answer → H → Type 0) where
  -- these values stand in place of the arguments
  abbrev pub Gives : List Value → Machine H → ℕ → Got → Machine H → Type 0
  Gives vs m at r m1 = ManyOf asked (λ k. k (Ok vs) (world m)) m at r m1

  -- a part failed as its meaning says
  abbrev pub FailsAs : {A : Type 0} → (Next A → Run) → Machine H → Machine H → Type 0
  FailsAs meaning m m1 = LeadsTo asked m meaning m1 (Err m1.fault)

  -- a text was added to the end of a line, or the part failed
  pub record TextOf (meaning : Next (List ℕ) → Run) (m : Machine H) (line : List ℕ) (r : Done)
      (line1 : List ℕ) (m1 : Machine H) : Type 0 where
    pub leads : LeadsTo asked m meaning m1 (added r line line1 m1)
    pub text : OnWell r (line1 ≡ line ++ drop (length line) line1)
    pub stack : OnWell r (m1.stack ≡ m.stack)

  -- the texts of further arguments of a print were added to the end of a line, or the part failed
  pub record RestOf (p : Loaded) (l : Level) (site : Site) (vs : List Value) (m : Machine H)
      (line : List ℕ) (r : Done) (line1 : List ℕ) (m1 : Machine H) : Type 0 where
    pub leads : (k : Next (List Value)) → Leads asked (point m) (print_rest p l site line vs (world
        m) k) (point m1) (rested p l site r line1 m1 k)
    pub stack : OnWell r (m1.stack ≡ m.stack)
