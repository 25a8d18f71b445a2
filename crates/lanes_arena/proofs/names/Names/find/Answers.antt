use Rattle.lanes_arena.proofs.NameLemmas.{found_is}
use Rattle.lanes_arena.proofs.names.Names.find.Goals as goal

pub returns-in-Some : goal.returns-in-Some
returns-in-Some c = found_is (λ t. t.items) c.self.inside.texts.keys _ c.args.text.now _ c.self.view_is c.in-Some.ensures.index

pub returns-in-None : goal.returns-in-None
returns-in-None c = found_is (λ t. t.items) c.self.inside.texts.keys _ c.args.text.now _ c.self.view_is c.in-None.ensures.index
