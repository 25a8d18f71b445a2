-- The derived `==` of `Value` is `value_eq`, which decides `≡`.
use Rattle.std.proofs.Common.{◌≡◌, Decides, rules}
use Rattle.std.specs.Cmp.{IsEquivalence, decided}
use Rattle.object_store.specs.declared.value.Value.{Value}
use Rattle.object_store.specs.Value.{value_eq}

-- `value_eq` decides whether two values are one
pub value_eq-Decides : (a b : Value) → Decides (value_eq a b) (a ≡ b)
value_eq-Decides a b = search rules

pub value_eq-laws : IsEquivalence value_eq
value_eq-laws = decided value_eq value_eq-Decides
