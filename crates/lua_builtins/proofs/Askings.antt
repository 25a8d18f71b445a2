-- What follows an ask.
use Rattle.std.proofs.Common.{◌≡◌, ◌⊎◌, inl, inr, List, Result, Ok, Err, refl, sym, ap}
use Rattle.object_store.specs.declared.fault.LuaFault.TheVariants as lua
use Rattle.object_store.specs.declared.value.Value.{Value}
use Rattle.lanes_lib.specs.declared.ask.Ask.{Ask}
use Rattle.lanes_lib.specs.declared.ask.Ask.TheVariants as ask
use Rattle.lanes_lib.specs.declared.ask.Answer.{Answer}
use Rattle.lanes_lib.specs.declared.ask.Answer.TheVariants as answer
use Rattle.linda_core.specs.declared.call.LindaReply.{LindaReply}
use Rattle.linda_core.specs.declared.call.LindaReply.TheVariants as reply
use Rattle.lanes_lib.specs.declared.ask.AskFault.{AskFault}
use Rattle.lanes_lib.specs.declared.ask.AskFault.TheVariants as refused
use Rattle.lanes_lib.specs.Face.{Wrong, taken, taken_print, taken_new, taken_linda, taken_reply}
use Rattle.lua_meaning.specs.declared.fault.Site.{Site}
use Rattle.lua_meaning.specs.Run.{World, Next, Leads, reaches}
use Rattle.lua_meaning.specs.Level.{Loaded, Level}
use Rattle.lua_meaning.specs.Library.{refuse, asking}
use Rattle.lua_meaning.specs.Library as spec
use Rattle.lua_machine.specs.declared.machine.Machine.{Machine}
use Rattle.lua_machine.specs.Does.{world, point}
use Rattle.lua_machine.proofs.Leads.{from}
use Rattle.lua_machine.proofs.Failures.{fault_leads, raise_leads, lost_leads}
use Rattle.lua_builtins.specs.declared.asking.AskKind.TheVariants as of
use Rattle.lua_builtins.specs.Asking.{kind_is, Refusing}

-- ---- which answers are taken

pub taken_as_print : (a : Ask) (x : Answer) → kind_is a ≡ of.Print → taken a x ≡ taken_print x
taken_as_print (ask.Print t) x e = refl
taken_as_print ask.NewLinda x e = cc
taken_as_print (ask.Linda call seconds) x e = cc

pub taken_as_new : (a : Ask) (x : Answer) → kind_is a ≡ of.NewLinda → taken a x ≡ taken_new x
taken_as_new (ask.Print t) x e = cc
taken_as_new ask.NewLinda x e = refl
taken_as_new (ask.Linda call seconds) x e = cc

pub taken_as_linda : (a : Ask) (x : Answer) → kind_is a ≡ of.Linda → taken a x ≡ taken_linda x
taken_as_linda (ask.Print t) x e = cc
taken_as_linda ask.NewLinda x e = cc
taken_as_linda (ask.Linda call seconds) x e = refl

-- ---- answers that are none to this ask

pub print_wrong : (a : Answer) → (a ≡ answer.Printed → ⊥) → (a ≡ answer.WriteFault → ⊥) → (a ≡ answer.Memory → ⊥) → taken_print a ≡ Wrong
print_wrong answer.Printed h0 h1 h2 = absurd (h0 refl)
print_wrong answer.WriteFault h0 h1 h2 = absurd (h1 refl)
print_wrong (answer.Linda n) h0 h1 h2 = refl
print_wrong answer.TooManyLindas h0 h1 h2 = refl
print_wrong (answer.Reply n) h0 h1 h2 = refl
print_wrong answer.NotBuilt h0 h1 h2 = refl
print_wrong answer.Memory h0 h1 h2 = absurd (h2 refl)

pub new_wrong : (a : Answer) → ((n : _) → a ≡ answer.Linda n → ⊥) → (a ≡ answer.TooManyLindas → ⊥) → (a ≡ answer.Memory → ⊥) → taken_new a ≡ Wrong
new_wrong answer.Printed h0 h1 h2 = refl
new_wrong answer.WriteFault h0 h1 h2 = refl
new_wrong (answer.Linda n) h0 h1 h2 = absurd (h0 n refl)
new_wrong answer.TooManyLindas h0 h1 h2 = absurd (h1 refl)
new_wrong (answer.Reply n) h0 h1 h2 = refl
new_wrong answer.NotBuilt h0 h1 h2 = refl
new_wrong answer.Memory h0 h1 h2 = absurd (h2 refl)

pub linda_wrong : (a : Answer) → ((n : _) → a ≡ answer.Reply n → ⊥) → (a ≡ answer.NotBuilt → ⊥) → (a ≡ answer.Memory → ⊥) → taken_linda a ≡ Wrong
linda_wrong answer.Printed h0 h1 h2 = refl
linda_wrong answer.WriteFault h0 h1 h2 = refl
linda_wrong (answer.Linda n) h0 h1 h2 = refl
linda_wrong answer.TooManyLindas h0 h1 h2 = refl
linda_wrong (answer.Reply n) h0 h1 h2 = absurd (h0 n refl)
linda_wrong answer.NotBuilt h0 h1 h2 = absurd (h1 refl)
linda_wrong answer.Memory h0 h1 h2 = absurd (h2 refl)

pub reply_wrong : (r : LindaReply) → (r ≡ reply.Sent → ⊥) → ((k : _) (is : _) → r ≡ reply.Got k is → ⊥) → taken_reply r ≡ Wrong
reply_wrong reply.Sent h0 h1 = absurd (h0 refl)
reply_wrong reply.Full h0 h1 = refl
reply_wrong (reply.Got a b) h0 h1 = absurd (h1 a b refl)
reply_wrong reply.Short h0 h1 = refl
reply_wrong (reply.Values a) h0 h1 = refl
reply_wrong (reply.Room a) h0 h1 = refl
reply_wrong (reply.Counts a) h0 h1 = refl
reply_wrong reply.Done h0 h1 = refl
reply_wrong reply.Withdrawn h0 h1 = refl
reply_wrong reply.Barred h0 h1 = refl

-- ---- refusals

module _ {H : Type 0} {asked : H → Ask → Answer → H → Type 0} (m m1 : Machine H) (k : Next (List Value)) (p : Loaded) (l : Level) (site : Site) where
  pub refuse_leads : (f : AskFault) → Refusing p site.line f m m1 → Leads asked (point m) (refuse p l site f (world m) k) (point m1) (reaches (Err m1.fault) k (world m1))
  refuse_leads (refused.Lua f) x = fault_leads m m1 k p site.line f x
  refuse_leads refused.TooManyLindas x = raise_leads m m1 k _ x
  refuse_leads refused.NotBuilt x = raise_leads m m1 k _ x

-- ---- whether there is an ask

said_ok : (a : Ask) (said : Result Ask AskFault) (f : AskFault) → (Ok a ≡ said) ⊎ (Ok a ≡ Err f) → said ≡ Ok a
said_ok a said f (inl e) = sym e
said_ok a said f (inr e) = cc

pub asking_goes : (p : Loaded) (l : Level) (site : Site) (w : World) (k : Next (List Value)) (a : Ask) (said : Result Ask AskFault) (f : AskFault) → (Ok a ≡ said) ⊎ (Ok a ≡ Err f) → asking p l site said w k ≡ spec.asked p l site a w k
asking_goes p l site w k a said f e = ap (λ x. asking p l site x w k) (said_ok a said f e)

-- it is this, or want of memory
abbrev Says : Result Ask AskFault → Result Ask AskFault → Type 0
Says said r = (r ≡ said) ⊎ (r ≡ Err (refused.Lua lua.Memory))

said_err : (f g : AskFault) → ◌≡◌ {A = Result Ask AskFault} (Err f) (Err g) → f ≡ g
said_err f g e = cc

module _ {H : Type 0} {asked : H → Ask → Answer → H → Type 0} (m m1 : Machine H) (k : Next (List Value)) (p : Loaded) (l : Level) (site : Site) (f : AskFault) (x : Refusing p site.line f m m1) where
  pub asking_fails : (said : Result Ask AskFault) → Says said (Err f) → Leads asked (point m) (asking p l site said (world m) k) (point m1) (reaches (Err m1.fault) k (world m1))
  asking_fails said (inl e) = from (ap (λ y. asking p l site y (world m) k) (sym e)) (refuse_leads m m1 k p l site f x)
  asking_fails said (inr e) =
      let d = said_err f (refused.Lua lua.Memory) e in
      let y = rw d at x in lost_leads m m1 k y (asking p l site said (world m) k)
