use Rattle.std.proofs.Common.{◌≡◌, ◌+◌, refl, sym, ap, subst, ◌∙◌, arith, map, drop, take, Some, ◌∷◌, ◌++◌, []}
use Rattle.lanes_arena.specs.Names.{named}
use Rattle.lua_meaning.specs.Run.{Run, Store, here, lost, wrote}
use Rattle.lua_meaning.specs.Whole.{interning, with_text, with_texts, key_of}
use Rattle.lua_machine.specs.declared.machine.Machine.{Machine}
use Rattle.lua_machine.specs.Does.{point, store_of}
use Rattle.lua_machine.proofs.Leads.{leads_on, from, upto, same_run}
use Rattle.evaluator.proofs.Texts.{Held, holds_more, keys_more, one_more, interning_at, interning_end, with_texts_at, with_texts_end, all_taken, in_state, stored, lost_at}
use Rattle.evaluator.proofs.load.load.Goals as goal

pub loop-text-init : goal.loop-text-init
loop-text-init g c = record { leads = λ next. here; store = refl; keys = c.new-keys.ensures.items; held = tt; rest = refl }

pub loop-text-preserved : goal.loop-text-preserved
loop-text-preserved g c =
    let inv = c.loop-text.invariant in
    let m = c.loop-text.m in
    let s = store_of m.state in
    let ts = c.args.texts.now in
    let i = c.loop-text.text-index in
    let t = c.text-item.result in
    let new = c.intern.new.self in
    let taken : take (i + 1) ts ≡ take i ts ++ t ∷ [] = one_more ts i t (omega arith) c.text-item.is in
    let store : store_of new ≡ with_text s t = stored m.state new t _ c.in-Ok.ensures.heap c.in-Ok.ensures.texts c.as_slice.ensures in
    let texts : new.texts ≡ named s.texts t = ap (λ x. x.texts) store in
    record {
      leads = λ next. leads_on (inv.leads next) (from (interning_at ts i t (omega arith) c.text-item.is s next) (wrote (same_run (ap (λ x. (m.host, x)) store) (ap (λ x. interning (drop (i + 1) ts) x next) (sym store)))));
      store = ap (λ x. with_texts x (drop (i + 1) ts)) store ∙ sym (with_texts_at ts i t (omega arith) c.text-item.is s) ∙ inv.store;
      keys = c.in-Ok-push.ensures.items ∙ ap (λ x. x ++ c.in-Ok.key ∷ []) inv.keys
          ∙ ap (λ k. map (key_of s.texts) (take i ts) ++ k ∷ []) (c.in-Ok.ensures.value ∙ ap (key_of s.texts) c.as_slice.ensures)
          ∙ sym (keys_more s.texts (take i ts) t inv.held)
          ∙ ap (map (key_of (named s.texts t))) (sym taken) ∙ ap (λ x. map (key_of x) (take (i + 1) ts)) (sym texts);
      held = subst (λ x. Held x (take (i + 1) ts)) (sym texts) (subst (λ x. Held (named s.texts t) x) (sym taken) (holds_more s.texts (take i ts) t inv.held));
      rest = in_state c.args.m.now m new inv.rest;
    }

pub returns-in_default-clause-leads : goal.returns-in_default-clause-leads
returns-in_default-clause-leads g c next =
    leads_on (c.loop-text.invariant.leads next) (lost_at (point c.loop-text.m) (c.loop-text.m.host, store_of c.intern.new.self) _ (ap (λ x. (c.loop-text.m.host, store_of x)) c.in_default.ensures.err))

pub returns-in-Err-clause-leads : goal.returns-in-Err-clause-leads
returns-in-Err-clause-leads g c next =
    let s = store_of c.loop-text.m.state in
    let ts = c.args.texts.now in
    let i = c.loop-text.text-index in
    let t = c.text-item.result in
    let h = c.loop-text.m.host in
    let new = c.intern.new.self in
    let store : store_of new ≡ with_text s t = stored c.loop-text.m.state new t _ c.in-Ok.ensures.heap c.in-Ok.ensures.texts c.as_slice.ensures in
    leads_on (c.loop-text.invariant.leads next) (from (interning_at ts i t (omega arith) c.text-item.is s next) (wrote (lost_at (h, with_text s t) (h, store_of new) _ (ap (λ x. (h, x)) store))))

pub returns-clause-leads : goal.returns-clause-leads
returns-clause-leads g c next =
    upto (ap Some (interning_end c.args.texts.now c.loop-text.text-index (store_of c.loop-text.m.state) next (omega arith))) (c.loop-text.invariant.leads next)

pub returns-clause-store : goal.returns-clause-store
returns-clause-store g c =
    sym (with_texts_end c.args.texts.now c.loop-text.text-index (store_of c.loop-text.m.state) (omega arith)) ∙ c.loop-text.invariant.store

pub returns-clause-keys : goal.returns-clause-keys
returns-clause-keys g c =
    c.loop-text.invariant.keys ∙ ap (map (key_of c.loop-text.m.state.texts)) (all_taken c.args.texts.now c.loop-text.text-index (omega arith))

pub returns-clause-rest : goal.returns-clause-rest
returns-clause-rest g c = c.loop-text.invariant.rest
