use Rattle.std.proofs.Common.{Ok}
use Rattle.lua_meaning.specs.Run.{and_then}
use Rattle.lua_meaning.specs.Names.{first}
use Rattle.lua_expressions.proofs.CallTurns.{taken_stack, one_stack}
use Rattle.lua_expressions.proofs.calls.method_one.Goals as goal

pub returns-in-One : goal.returns-in-One
returns-in-One g c = record { leads = λ k. c.in-One.ensures.leads (and_then k (λ vs w. k (Ok (first vs)) w)); stack = one_stack c.args.m.now.stack c.method.new.m.stack c.in-One.ensures.stack }

pub returns-in-Many : goal.returns-in-Many
returns-in-Many g c =
    let taken = rw c.len-at.ensures at c.take_first.ensures in
    record {
      leads = λ k. rw taken (c.in-Many.ensures.leads (and_then k (λ vs w. k (Ok (first vs)) w)));
      stack = rw taken (taken_stack c.args.m.now.stack c.method.new.m.stack c.in-Many.ensures.stack);
    }

pub returns-in-Failed : goal.returns-in-Failed
returns-in-Failed g c = record { leads = λ k. c.in-Failed.ensures.leads (and_then k (λ vs w. k (Ok (first vs)) w)); stack = tt }
