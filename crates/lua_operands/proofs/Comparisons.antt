-- Comparisons by a handler.
use Rattle.std.proofs.Common.{◌≡◌, refl, Bool, true, false, not}
use Rattle.object_store.specs.declared.value.Value.{Value}
use Rattle.object_store.specs.declared.value.Value.TheVariants as V
use Rattle.object_store.specs.Value.{value_of_bool, is_truthy}
use Rattle.lua_meaning.specs.Names.{is_true}

pub truthy_is : (v : Value) → is_truthy v ≡ is_true v
truthy_is V.Nil = refl
truthy_is V.False = refl
truthy_is V.True = refl
truthy_is (V.Int n) = refl
truthy_is (V.Str n) = refl
truthy_is (V.Table n) = refl
truthy_is (V.Func n) = refl
truthy_is (V.Lib n) = refl
truthy_is (V.Linda n) = refl
truthy_is (V.Lane n) = refl
truthy_is (V.Light n) = refl
