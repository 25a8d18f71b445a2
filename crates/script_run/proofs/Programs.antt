-- A run with the plain host, as the run of a program.
use Rattle.std.proofs.Common.{◌≡◌, ◌⊎◌, inl, inr, ◌∙◌, ◌<◌, ◌≤◌, ◌+◌, ℕ, arith, List, [], ◌∷◌, Bool, true, false, Result, Ok, Err, Option, ap, sym, subst, refl, true≢false}
use Rattle.std.specs.List.{FoldsTo}
use Rattle.lua_program.specs.declared.program.Program.{Program}
use Rattle.object_store.specs.Heap.{Shown}
use Rattle.object_store.specs.declared.value.Value.{Value}
use Rattle.lanes_lib.specs.declared.ask.Ask.{Ask}
use Rattle.lanes_lib.specs.declared.ask.Ask.TheVariants as ask
use Rattle.lanes_lib.specs.declared.ask.Answer.{Answer}
use Rattle.lanes_lib.specs.declared.ask.Answer.TheVariants as answer
use Rattle.base_lib.specs.declared.open.TheConstants.{BASE, MATH}
use Rattle.base_lib.specs.Open.{opened_libs}
use Rattle.lua_meaning.specs.declared.fault.Fault.{Fault}
use Rattle.lua_meaning.specs.declared.fault.Fault.TheVariants as F
use Rattle.lua_meaning.specs.Run.{Run, Store, World}
use Rattle.lua_meaning.specs.Whole.{Ran}
use Rattle.outside.specs.Faults.{Rose}
use Rattle.linda_core.specs.Holding.{Holding}
use Rattle.plain_host.specs.declared.plain.Plain.{Plain}
use Rattle.plain_host.specs.Plain.{Answers, Seen, seen_of}
use Rattle.plain_host.specs.Writing.{TellsFaults}
use Rattle.script_run.specs.declared.script.ProgramEnd.{ProgramEnd}
use Rattle.script_run.specs.declared.script.ProgramEnd.TheVariants as E
use Rattle.script_run.specs.Opening.{with_libraries, with_function, main_function}
use Rattle.script_run.specs.Running.{RunsProgram, ends, ending}

pub both_opened : (s s1 : Shown) → s1 ≡ opened_libs (BASE + MATH) s → s1 ≡ with_libraries s
unfolding with_libraries
both_opened s s1 e = e

-- ---- a host, by what contracts see of it

module _ {P Q : Type 0} (see : P → Q) (answers : Q → Ask → Answer → Q → Type 0) where
  folds : (d : List (Ask × Answer)) (h h1 : P) → FoldsTo (λ h e h1. answers (see h) e.0 e.1 (see h1)) h d h1 → FoldsTo (λ h e h1. answers h e.0 e.1 h1) (see h) d (see h1)
  folds [] h h1 e = ap see e
  folds (x ∷ d) h h1 e = (see e.0, e.1, folds d e.0 h1 e.2)

  pub seen_ran : (h h1 : P) (s : Store) (r : Run) (o : Result (List Value) Fault) (w : World) → Ran (λ h a b h1. answers (see h) a b (see h1)) h h1 s r o w → Ran answers (see h) (see h1) s r o w
  seen_ran h h1 s r o w ran = record { diary = ran.diary; led = folds ran.diary h h1 ran.led; told = ran.told }

-- ---- the count of faults

record Counts (before : ℕ) (h : Seen) : Type 0 where
  pub later : before ≤ h.faults
  pub rose : h.failed ≡ true → Rose before h.faults
  pub stays : h.failed ≡ false → h.faults ≡ before

rose_on : (a b c : ℕ) → a ≤ b → Rose b c → Rose a c
rose_on a b c h r = omega (arith, h, r)

same_count : (f : ℕ) (h h1 : Seen) → h1.faults ≡ h.faults → h1.failed ≡ h.failed → Counts f h → Counts f h1
same_count f h h1 e d c = record {
  later = subst (λ x. f ≤ x) (sym e) c.later;
  rose = λ x. subst (Rose f) (sym e) (c.rose (sym d ∙ x));
  stays = λ x. e ∙ c.stays (sym d ∙ x);
}

counted : (f : ℕ) (h h1 : Seen) (a : Ask) (b : Answer) → Answers h a b h1 → Counts f h → Counts f h1
counted f h h1 (ask.Print t) answer.Printed x c = same_count f h h1 (ap (λ s. s.faults) x.1) (ap (λ s. s.failed) x.1) c
counted f h h1 (ask.Print t) answer.WriteFault x c = record {
  later = omega (arith, c.later, x.1);
  rose = λ y. rose_on f h.faults h1.faults c.later x.2;
  stays = λ y. absurd (true≢false (sym (ap (λ s. s.failed) x.3) ∙ y));
}
counted f h h1 (ask.Print t) (answer.Linda n) x c = absurd x
counted f h h1 (ask.Print t) answer.TooManyLindas x c = absurd x
counted f h h1 (ask.Print t) (answer.Reply r) x c = absurd x
counted f h h1 (ask.Print t) answer.NotBuilt x c = absurd x
counted f h h1 (ask.Print t) answer.Memory x c = subst (Counts f) (sym x) c
counted f h h1 ask.NewLinda answer.Printed x c = absurd x
counted f h h1 ask.NewLinda answer.WriteFault x c = absurd x
counted f h h1 ask.NewLinda (answer.Linda n) x c = same_count f h h1 (ap (λ s. s.faults) x.1) (ap (λ s. s.failed) x.1) c
counted f h h1 ask.NewLinda answer.TooManyLindas x c = absurd x
counted f h h1 ask.NewLinda (answer.Reply r) x c = absurd x
counted f h h1 ask.NewLinda answer.NotBuilt x c = absurd x
counted f h h1 ask.NewLinda answer.Memory x c = subst (Counts f) (sym x) c
counted f h h1 (ask.Linda call s) answer.Printed x c = absurd x
counted f h h1 (ask.Linda call s) answer.WriteFault x c = absurd x
counted f h h1 (ask.Linda call s) (answer.Linda n) x c = absurd x
counted f h h1 (ask.Linda call s) answer.TooManyLindas x c = absurd x
counted f h h1 (ask.Linda call s) (answer.Reply r) x c = same_count f h h1 (ap (λ s. s.faults) x.1) (ap (λ s. s.failed) x.1) c
counted f h h1 (ask.Linda call s) answer.NotBuilt x c = subst (Counts f) (sym x.1) c
counted f h h1 (ask.Linda call s) answer.Memory x c = subst (Counts f) (sym x) c

counted_all : (f : ℕ) (d : List (Ask × Answer)) (h h1 : Seen) → FoldsTo (λ h e h1. Answers h e.0 e.1 h1) h d h1 → Counts f h → Counts f h1
counted_all f [] h h1 e c = subst (Counts f) e c
counted_all f (x ∷ d) h h1 e c = counted_all f d e.0 h1 e.2 (counted f h e.0 x.0 x.1 e.1 c)

-- ---- a fault of the output ends the program so, and nothing else does

not_written : (texts : List (List ℕ)) (o : Result (List Value) Fault) → ending texts o ≡ E.WriteFault → ⊥
not_written texts (Ok vs) e = cc
not_written texts (Err (F.Raised v)) e = cc
not_written texts (Err F.Spent) e = cc
not_written texts (Err F.Cancelled) e = cc
not_written texts (Err F.WriteFault) e = cc
not_written texts (Err F.Broken) e = cc
not_written texts (Err F.Memory) e = cc

module _ (texts : List (List ℕ)) (o : Result (List Value) Fault) (end : ProgramEnd) where
  had_failed : (failed : Bool) → (end ≡ ends failed texts o) ⊎ ((failed ≡ false) × (end ≡ E.Memory)) → end ≡ E.WriteFault → failed ≡ true
  had_failed true h e = refl
  had_failed false (inl h) e = absurd (not_written texts o (sym h ∙ e))
  had_failed false (inr h) e = absurd (memory_is_none (sym h.1 ∙ e))
    where
      memory_is_none : E.Memory ≡ E.WriteFault → ⊥
      memory_is_none e = cc

  has_ended : (failed : Bool) → (end ≡ ends failed texts o) ⊎ ((failed ≡ false) × (end ≡ E.Memory)) → failed ≡ true → end ≡ E.WriteFault
  has_ended true (inl h) e = h
  has_ended true (inr h) e = absurd (true≢false h.0)
  has_ended false h e = absurd (true≢false (sym e))

pub told : (p : Program) (t t1 : Option (List ℕ)) (f f1 : ℕ) (end : ProgramEnd) → RunsProgram p t t1 f f1 end → TellsFaults f f1 (end ≡ E.WriteFault)
told p t t1 f f1 end r =
    let c = counted_all f r.ran.diary _ _ r.ran.led (record { later = omega arith; rose = λ x. absurd (true≢false (sym x)); stays = λ x. refl }) in
    record {
      later = c.later;
      only = λ e. c.rose (had_failed r.world.store.texts r.result end r.failed r.ended e);
      always = λ h. by r.failed r.ended c.stays h;
    }
  where
    by : (failed : Bool) → (end ≡ ends failed r.world.store.texts r.result) ⊎ ((failed ≡ false) × (end ≡ E.Memory)) → (failed ≡ false → f1 ≡ f) → f < f1 → end ≡ E.WriteFault
    by true e stays h = has_ended r.world.store.texts r.result end true e refl
    by false e stays h = let same = stays refl in absurd (omega (arith, same, h))

-- the host with which a program begins
pub begun : {O : Type 0} (taken : O → Option (List ℕ)) (faults : O → ℕ) (output out : O) (failed : Bool) (lindas : List Holding) → output ≡ out → failed ≡ false → lindas ≡ [] → seen_of (taken output) (faults output) failed lindas ≡ record { taken = taken out; faults = faults out; failed = false; lindas = [] }
begun taken faults output out failed lindas e f l = λ i. seen_of (taken (e i)) (faults (e i)) (f i) (l i)

pub main_added : (s s1 : Shown) (store : Store) → s1 ≡ with_libraries s → store ≡ record { heap = with_function s1.heap main_function; texts = s1.texts } → store ≡ record { heap = with_function (with_libraries s).heap main_function; texts = (with_libraries s).texts }
main_added s s1 store e d =
    let added : Shown → Store = λ x. record { heap = with_function x.heap main_function; texts = x.texts } in
    d ∙ ap added e

-- what contracts see of a plain host
abbrev pub see : {O : Type 0} → (O → Option (List ℕ)) → (O → ℕ) → Plain O → Seen
see taken faults h = seen_of (taken h.output) (faults h.output) h.failed h.lindas.items

-- a run from this host is one from what is seen of it
pub seen_program : {O : Type 0} (taken : O → Option (List ℕ)) (faults : O → ℕ) (h h1 : Plain O) (begin : Seen) (s : Store) (r : Run) (o : Result (List Value) Fault) (w : World) → see taken faults h ≡ begin → Ran (λ h a b h1. Answers (see taken faults h) a b (see taken faults h1)) h h1 s r o w → Ran Answers begin (see taken faults h1) s r o w
seen_program taken faults h h1 begin s r o w e ran = subst (λ x. Ran Answers x (see taken faults h1) s r o w) e (seen_ran (see taken faults) Answers h h1 s r o w ran)
