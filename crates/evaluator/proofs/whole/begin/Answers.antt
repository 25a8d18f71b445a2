use Rattle.std.proofs.Common.{◌≡◌, ◌∙◌, ap, sym, refl, drop, map, List, ◌++◌, []}
use Rattle.std.specs.Arc.{arc_value}
use Rattle.lua_meaning.specs.Run.{World, Ended, lost}
use Rattle.lua_meaning.specs.Level.{Loaded}
use Rattle.lua_meaning.specs.Whole.{interning, called_by, loaded, with_texts, key_of}
use Rattle.lua_machine.specs.Does.{store_of, world}
use Rattle.lua_machine.proofs.Leads.{leads_on, from}
use Rattle.evaluator.proofs.Ends.{same_call}
use Rattle.evaluator.proofs.whole.begin.Goals as goal

pub returns-in-Err-fill : goal.returns-in-Err-fill
returns-in-Err-fill g c =
    let code = arc_value c.args.program in
    let s = store_of c.args.m.now.state in
    let texts : c.as_slice.result.now ≡ code.texts = c.as_slice.ensures ∙ ap (λ p. p.texts) c.deref-code.ensures in
    let next = called_by code s c.args.m.now.value c.args.arguments.now c.args.m.now.left in
    rw c.lose-in-Err-fill.ensures (leads_on (from (ap (λ t. interning t s next) (sym texts)) (c.in-Ok.ensures.leads next)) lost)

pub returns : goal.returns
returns g c =
    let code = arc_value c.args.program in
    let s = store_of c.args.m.now.state in
    let m = c.load.new.m in
    let texts : c.as_slice.result.now ≡ code.texts = c.as_slice.ensures ∙ ap (λ p. p.texts) c.deref-code.ensures in
    let next = called_by code s c.args.m.now.value c.args.arguments.now c.args.m.now.left in
    let store : store_of m.state ≡ with_texts s code.texts = c.in-Ok.ensures.store ∙ ap (with_texts s) texts in
    let keys : c.in-Ok.keys.items ≡ (loaded code s).keys = c.in-Ok.ensures.keys ∙ ap (map (key_of m.state.texts)) texts ∙ ap (λ x. map (key_of x) code.texts) (ap (λ x. x.texts) store) in
    let p : c.of-loaded.result ≡ loaded code s = λ j. record { program = c.of-loaded.ensures.program j; keys = (c.of-loaded.ensures.keys ∙ keys) j } in
    let rest = c.in-Ok.ensures.rest in
    let value : m.value ≡ c.args.m.now.value = ap (λ x. x.value) rest in
    let left : m.left ≡ c.args.m.now.left = ap (λ x. x.left) rest in
    let empty : m.stack.values ≡ [] = ap (λ x. x.stack.values) rest ∙ ap (λ x. x.values) c.requires in
    let args : c.fill.new.stack.values ≡ c.args.arguments.now = ap (λ x. x.values) c.in-Ok-fill.ensures ∙ ap (λ l. l ++ c.args.arguments.now) empty in
    let w : World = record { store = with_texts s code.texts; left = c.args.m.now.left } in
    let same : record { store = store_of m.state; left = m.left } ≡ w = λ j. record { store = store j; left = left j } in
    let call = same_call c.of-loaded.result (loaded code s) m.value c.args.m.now.value c.fill.new.stack.values c.args.arguments.now (record { line = 0; outer = 0 }) (record { store = store_of m.state; left = m.left }) w Ended p value args same in
    leads_on (from (ap (λ t. interning t s next) (sym texts)) (c.in-Ok.ensures.leads next)) (from (sym call) (c.call_at.ensures.leads Ended))
