use Rattle.std.proofs.Common.{◌≡◌, sym, ◌∙◌, ap, Some, rules, w64, FitsSigned}
use Rattle.std.proofs.lemmas.Int.{to_z-of_z}
use Rattle.int_ops.specs.Reading as spec
use Rattle.int_ops.specs.Wrapping.{wrapped}
use Rattle.int_ops.proofs.Signs.{wrapped_some}
use Rattle.int_ops.proofs.reading.wrapped_in.Goals as goal

pub returns-in-Some : goal.returns-in-Some
returns-in-Some c =
    let f : FitsSigned w64 c.wrap.result = search rules in
    let w : c.wrap.result ≡ wrapped (spec.signed c.args.minus c.in-Some.number) = c.wrap.ensures in
    ap Some (to_z-of_z w64 c.wrap.result f ∙ w)
    ∙ sym (wrapped_some c.args.minus (spec.number_in c.args.base c.args.digits.now) c.in-Some.number (sym c.in-Some.ensures))
