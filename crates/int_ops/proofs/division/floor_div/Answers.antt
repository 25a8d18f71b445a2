use Rattle.std.proofs.Common.{◌≡◌, sym, ◌∙◌, ap, pos, true, false, rules, int_div, int_rem, FitsSigned, w64, ◌-ℤ◌}
use Rattle.std.proofs.lemmas.Int.{to_z-of_z}
use mir.Val.{of_z}
use Rattle.int_ops.specs.Wrapping.{wrapped, is_cut_upwards}
use Rattle.int_ops.proofs.Floors.{sub_one, same_quotient}
use Rattle.int_ops.proofs.division.floor_div.Goals as goal

pub returns-then-is_above_floor-clause-quotient : goal.returns-then-is_above_floor-clause-quotient
returns-then-is_above_floor-clause-quotient c =
    let a : FitsSigned w64 c.args.a = c.ranges.a in
    let b : FitsSigned w64 c.args.b = c.ranges.b in
    let f : FitsSigned w64 c.sub.result = search rules in
    let h : FitsSigned w64 c.cut_quotient-quotient.result = search rules in
    let q : c.cut_quotient-quotient.result ≡ int_div c.args.a c.args.b = simp to_z-of_z at c.cut_quotient-quotient.ensures in
    let r : c.cut_rest.result ≡ int_rem c.args.a c.args.b = simp to_z-of_z at c.cut_rest.ensures in
    let g : FitsSigned w64 c.cut_rest.result = search rules in
    let t : is_cut_upwards c.cut_rest.result c.args.b ≡ true = sym (simp to_z-of_z at c.if-is_above_floor.ensures) in
    let s : c.sub.result ≡ wrapped (c.cut_quotient-quotient.result -ℤ pos 1) = simp to_z-of_z at c.sub.ensures in
    to_z-of_z w64 c.sub.result f ∙ s ∙ sub_one c.args.a c.args.b c.cut_quotient-quotient.result c.cut_rest.result (λ e. c.if-b-eq0.false (ap (of_z w64) e)) q r t

pub returns-else-is_above_floor-clause-quotient : goal.returns-else-is_above_floor-clause-quotient
returns-else-is_above_floor-clause-quotient c =
    let a : FitsSigned w64 c.args.a = c.ranges.a in
    let b : FitsSigned w64 c.args.b = c.ranges.b in
    let f : FitsSigned w64 c.cut_quotient-quotient.result = search rules in
    let q : c.cut_quotient-quotient.result ≡ int_div c.args.a c.args.b = simp to_z-of_z at c.cut_quotient-quotient.ensures in
    let r : c.cut_rest.result ≡ int_rem c.args.a c.args.b = simp to_z-of_z at c.cut_rest.ensures in
    let g : FitsSigned w64 c.cut_rest.result = search rules in
    let t : is_cut_upwards c.cut_rest.result c.args.b ≡ false = sym (simp to_z-of_z at c.if-is_above_floor.ensures) in
    same_quotient c.args.a c.args.b c.cut_quotient-quotient.result c.cut_rest.result (λ e. c.if-b-eq0.false (ap (of_z w64) e)) f q r t
