use Rattle.std.proofs.Common.{◌≡◌, sym, ◌∙◌, ap, true, false, rules, int_rem, FitsSigned, w64, ◌+ℤ◌}
use Rattle.std.proofs.lemmas.Int.{to_z-of_z}
use mir.Val.{of_z}
use Rattle.int_ops.specs.Wrapping.{wrapped, is_cut_upwards}
use Rattle.int_ops.proofs.Floors.{add_divisor, same_rest}
use Rattle.int_ops.proofs.division.floor_mod.Goals as goal

pub returns-then-is_above_floor-clause-remainder : goal.returns-then-is_above_floor-clause-remainder
returns-then-is_above_floor-clause-remainder c =
    let a : FitsSigned w64 c.args.a = c.ranges.a in
    let b : FitsSigned w64 c.args.b = c.ranges.b in
    let f : FitsSigned w64 c.add.result = search rules in
    let g : FitsSigned w64 c.cut_rest-rest.result = search rules in
    let r : c.cut_rest-rest.result ≡ int_rem c.args.a c.args.b = simp to_z-of_z at c.cut_rest-rest.ensures in
    let t : is_cut_upwards c.cut_rest-rest.result c.args.b ≡ true = sym (simp to_z-of_z at c.if-is_above_floor.ensures) in
    let s : c.add.result ≡ wrapped (c.cut_rest-rest.result +ℤ c.args.b) = simp to_z-of_z at c.add.ensures in
    to_z-of_z w64 c.add.result f ∙ s ∙ add_divisor c.args.a c.args.b c.cut_rest-rest.result (λ e. c.if-b-eq0.false (ap (of_z w64) e)) g c.ranges.b r t

pub returns-else-is_above_floor-clause-remainder : goal.returns-else-is_above_floor-clause-remainder
returns-else-is_above_floor-clause-remainder c =
    let a : FitsSigned w64 c.args.a = c.ranges.a in
    let b : FitsSigned w64 c.args.b = c.ranges.b in
    let f : FitsSigned w64 c.cut_rest-rest.result = search rules in
    let r : c.cut_rest-rest.result ≡ int_rem c.args.a c.args.b = simp to_z-of_z at c.cut_rest-rest.ensures in
    let t : is_cut_upwards c.cut_rest-rest.result c.args.b ≡ false = sym (simp to_z-of_z at c.if-is_above_floor.ensures) in
    same_rest c.args.a c.args.b c.cut_rest-rest.result (λ e. c.if-b-eq0.false (ap (of_z w64) e)) f r t
