-- The ask of `send`, by the operation that follows the timeout.
use Rattle.std.proofs.Common.{◌≡◌, ◌∙◌, inl, inr, refl, sym, ap, rules, List, Option, Result, Ok, Err, codes, slice_get, drop, ℕ, Bool}
use Rattle.object_store.specs.declared.value.Value.{Value}
use Rattle.linda_core.specs.declared.item.Item.{Item}
use Rattle.linda_core.specs.declared.key.Key.{Key}
use Rattle.linda_core.specs.declared.call.LindaOp.{LindaOp}
use Rattle.linda_core.specs.declared.call.LindaOp.TheVariants as op
use Rattle.lua_ops.specs.Metamethods.{Texts}
use Rattle.lanes_lib.specs.declared.ask.Ask.{Ask}
use Rattle.lanes_lib.specs.declared.ask.AskFault.{AskFault}
use Rattle.lanes_lib.specs.Face.{then_ask, handle, timed, first_key, some_items, unless_timed, linda_ask, send_ask}
use Rattle.lanes_asks.specs.Asks.{Says, send_op}

items-then : (k : Key) (is : Result (List Item) AskFault) (go : LindaOp → Result Ask AskFault) →
    then_ask is (λ is. go (op.Send k is)) ≡ then_ask (then_ask is (λ is. Ok (op.Send k is))) go
items-then k (Ok is) go = refl
items-then k (Err f) go = refl

key-then : (texts : Texts) (key : Result (Key × List Value) AskFault) (go : LindaOp → Result Ask AskFault) →
    then_ask key (λ k. then_ask (some_items texts k.1) (λ is. go (op.Send k.0 is)))
    ≡ then_ask (then_ask key (λ k. then_ask (some_items texts k.1) (λ is. Ok (op.Send k.0 is)))) go
key-then texts (Ok k) go = items-then k.0 (some_items texts k.1) go
key-then texts (Err f) go = refl

-- where the handle and the timeout were read
send_by_op : (texts : Texts) (args : List Value) (n : ℕ) (late : Bool) (rest : List Value) →
    handle (codes "send") (slice_get args 0) ≡ Ok n → timed (drop 1 args) ≡ Ok (late, rest) →
    send_ask texts args ≡ then_ask (send_op texts rest) (λ o. unless_timed late (linda_ask n o))
send_by_op texts args n late rest handled told =
    rw (handled, told) (key-then texts (first_key texts rest) (λ o. unless_timed late (linda_ask n o)))

-- what isn't want of memory is what the face says
said_ok : {A : Type 0} (said : Result A AskFault) (a : A) → Says said (Ok a) → said ≡ Ok a
said_ok said a (inl e) = sym e
said_ok said a (inr e) = search rules

said_fault : {A B : Type 0} (said : Result A AskFault) (f : AskFault) (go : A → Result B AskFault) →
    Says said (Err f) → Says (then_ask said go) (Err f)
said_fault said f go (inl e) = inl (ap (λ (s : Result _ AskFault). then_ask s go) e)
said_fault said f go (inr e) = inr (search rules)

module _ (texts : Texts) (args : List Value) (object : Option Value) (after : List Value) (n : ℕ)
    (late : Bool) (rest : List Value) (first : object ≡ slice_get args 0) (others : after ≡ drop 1 args)
    (handled : Says (handle (codes "send") object) (Ok n)) (told : Ok (late, rest) ≡ timed after) where
  by_op : send_ask texts args ≡ then_ask (send_op texts rest) (λ o. unless_timed late (linda_ask n o))
  by_op =
      send_by_op texts args n late rest
      (rw (← first) (said_ok (handle (codes "send") object) n handled)) (rw (← others) (sym told))

  pub send_answer : (o : LindaOp) (answer : Result Ask AskFault) → Says (send_op texts rest) (Ok o) →
      answer ≡ unless_timed late (linda_ask n o) → Says (send_ask texts args) answer
  send_answer o answer said made =
      inl (made ∙ sym (by_op ∙ ap (λ (s : Result LindaOp AskFault). then_ask s (λ o. unless_timed late (linda_ask n o))) (said_ok (send_op texts rest) o said)))

  pub send_fault : (f : AskFault) → Says (send_op texts rest) (Err f) → Says (send_ask texts args) (Err f)
  send_fault f said =
      rw by_op (said_fault (send_op texts rest) f (λ o. unless_timed late (linda_ask n o)) said)
