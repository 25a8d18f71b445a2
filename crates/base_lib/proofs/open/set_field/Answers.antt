use Rattle.base_lib.proofs.Belonging.{Belongs-with_text}
use Rattle.base_lib.proofs.open.set_field.Goals as goal

pub returns-clause-closed : goal.returns-clause-closed
returns-clause-closed c =
    λ closed fits.
    c.set_pair.ensures.closed (c.in_ok-key.ensures.closed closed) c.in_ok-key.ensures.belongs
    (Belongs-with_text c.args.state.now c.intern.new.self c.as_bytes.result.now c.args.value c.in_ok-key.ensures.heap c.in_ok-key.ensures.texts fits)
