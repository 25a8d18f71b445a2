use Rattle.std.proofs.Common.{ap, ◌∙◌, length}
use Rattle.script_run.proofs.Programs.{main_added}
use Rattle.script_run.proofs.opening.opened.Goals as goal

pub returns : goal.returns
returns c = record {
  new = c.in_ok-state.state;
  heap = c.in_ok-state.ensures.heap;
  texts = c.in_ok-state.ensures.texts;
  number = c.in_ok-main.ensures.number ∙ ap (λ s. length s.heap.functions) c.in_ok-open_libraries.ensures;
  opened = main_added c.in_ok-state.state c.open_libraries.new.state _ c.in_ok-open_libraries.ensures c.in_ok-main.ensures.store;
}
