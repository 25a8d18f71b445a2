-- A whole run: the call of a function with a budget of steps, by the asks and the answers of its
-- host.
use Rattle.std.specs.Prelude.{◌≡◌, ℕ, List, [], ◌∷◌, Result, Ok, Err, Option, Some, None, map, take, length}
use Rattle.std.specs.List.{FoldsTo}
use Rattle.lanes_arena.specs.Names.{named, number_of}
use Rattle.lua_program.specs.declared.program.Program.{Program}
use Rattle.object_store.specs.declared.value.Value.{Value}
use Rattle.object_store.specs.declared.value.Value.TheVariants as V
use Rattle.lanes_lib.specs.declared.ask.Ask.{Ask}
use Rattle.lanes_lib.specs.declared.ask.Answer.{Answer}
use Rattle.lua_meaning.specs.declared.fault.Fault.{Fault}
use Rattle.lua_meaning.specs.declared.fault.Fault.TheVariants as F
use Rattle.lua_meaning.specs.Run.{World, Store, Run, Ended, Asks, Wrote}
use Rattle.lua_meaning.specs.Level.{Loaded}
use Rattle.lua_meaning.specs.Levels.{level}

-- ---- the texts of a program are interned before it runs, one after another

abbrev pub with_text : Store → List ℕ → Store
with_text s t = record s { texts = named s.texts t }

-- the memory when all of them are interned
abbrev pub with_texts : Store → List (List ℕ) → Store
with_texts s [] = s
with_texts s (t ∷ ts) = with_texts (with_text s t) ts

abbrev pub interning : List (List ℕ) → Store → Run → Run
interning [] s next = next
interning (t ∷ ts) s next = Wrote (with_text s t) (interning ts (with_text s t) next)

abbrev pub key_of : List (List ℕ) → List ℕ → Value
key_of texts t = V.Str (record { number = number_of texts t })

abbrev pub loaded : Program → Store → Loaded
loaded program store =
    record {
      program = program;
      keys = map (key_of (with_texts store program.texts).texts) program.texts;
    }

-- ---- runs

-- a call of a function with a budget, on the first of a thousand levels
abbrev pub called_by : Program → Store → Value → List Value → ℕ → Run
called_by program store v args budget =
    (level (loaded program store) 1000).call v args (record { line = 0; outer = 0 })
    (record { store = with_texts store program.texts; left = budget }) Ended

abbrev pub meant : Program → Store → Value → List Value → ℕ → Run
meant program store v args budget =
    interning program.texts store (called_by program store v args budget)

-- a run with the answers of a host: what it asks, and its end, unless the answers run out
abbrev pub play : Run → List Answer → List Ask × Option (Result (List Value) Fault × World)
play (Ended o w) answers = ([], Some (o, w))
play (Asks ask go) [] = (ask ∷ [], None)
play (Asks ask go) (a ∷ answers) = (ask ∷ (play (go a) answers).0, (play (go a) answers).1)
play (Wrote s r) answers = play r answers

abbrev pub means : Program → Store → Value → List Value → ℕ → List Answer →
    List Ask × Option (Result (List Value) Fault × World)
means program store v args budget answers = play (meant program store v args budget) answers

-- With these answers a run that begins with one memory comes to a point at which it is another.
pub data Passes : Store → Run → List Answer → Store → Type 0 where
  stands : {s : Store} {r : Run} → Passes s r [] s
  after_answer : {s t : Store} {ask : Ask} {go : Answer → Run} {a : Answer} {answers : List Answer}
      →
      Passes s (go a) answers t → Passes s (Asks ask go) (a ∷ answers) t
  after_write : {s s1 t : Store} {r : Run} {answers : List Answer} →
      Passes s1 r answers t → Passes s (Wrote s1 r) answers t

abbrev pub answers_in : List (Ask × Answer) → List Answer
answers_in diary = map (λ e. e.1) diary

abbrev pub asks_in : List (Ask × Answer) → List Ask
asks_in diary = map (λ e. e.0) diary

-- the whole run is this diary and this end
abbrev pub Played : Run → List (Ask × Answer) → Result (List Value) Fault → World → Type 0
Played r diary o w = play r (answers_in diary) ≡ (asks_in diary, Some (o, w))

-- for want of memory, the diary is the first part of the run, and the memory is that of its point
pub record IsCutShort (r : Run) (diary : List (Ask × Answer)) (before after : Store) : Type 0 where
  pub asks : take (length diary) (play r (answers_in diary)).0 ≡ asks_in diary
  pub memory : Passes before r (answers_in diary) after

abbrev pub Told : Result (List Value) Fault → World → List (Ask × Answer) → Store → Run → Type 0
Told (Ok vs) w diary s r = Played r diary (Ok vs) w
Told (Err (F.Raised v)) w diary s r = Played r diary (Err (F.Raised v)) w
Told (Err F.Spent) w diary s r = Played r diary (Err F.Spent) w
Told (Err F.Cancelled) w diary s r = Played r diary (Err F.Cancelled) w
Told (Err F.WriteFault) w diary s r = Played r diary (Err F.WriteFault) w
Told (Err F.Broken) w diary s r = Played r diary (Err F.Broken) w
Told (Err F.Memory) w diary s r = IsCutShort r diary s w.store

-- A host's diary leads it from one state to another, and with its answers the meaning is these asks
-- and this end.
pub record Ran {H : Type 0} (asked : H → Ask → Answer → H → Type 0) (h h1 : H) (s : Store) (r : Run)
    (o : Result (List Value) Fault) (w : World) : Type 0 where
  pub diary : List (Ask × Answer)
  pub led : FoldsTo (λ h e h1. asked h e.0 e.1 h1) h diary h1
  pub told : Told o w diary s r
