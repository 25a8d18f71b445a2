-- An entry is appended by the pass that has the lock.
use Rattle.std.proofs.Common.{◌≡◌, ℕ, zero, suc, ◌+◌, ◌%◌, ◌^◌, ◌<◌, ◌≤◌, ◌≢◌, Bool, true, false, true≢false, List, [], ◌∷◌, ◌++◌, length, set, refl, ap, sym, ◌∙◌, subst, arith, length-append}
use Rattle.std.proofs.Math.Nat.{mod-eq_of_lt}
use Rattle.std.specs.Prelude.{slice_index, slice_set}
use mathlib.Core.Option.{some}
use mathlib.Core.List.{IsPrefix}
use lib.ListN.{get_elem?}
use Rattle.atomic_table.specs.Table.{State, Me, Step, Allows}
use Rattle.atomic_table.specs.Table.Act.{keeps}
use Rattle.desk_object.specs.declared.ending.Ending.{Ending}
use Rattle.desk_object.specs.declared.entry.Entry.{Entry}
use Rattle.desk_object.specs.declared.entry.Entry.TheVariants.{Made, Close}
use Rattle.desk_object.specs.Meaning.{Meaning}
use Rattle.desk_object.specs.History.{caller_of, calls_by, is_close, is_closed, AreBelow, IsLegal}
use Rattle.desk_object.proofs.Prefixes.{prefix_self, prefix_more}
use Rattle.desk_object.proofs.Histories.{calls_by-other, below-snoc, last_close, open_made}
use Rattle.history_desk.specs.declared.known.Known.{Known}
use Rattle.history_desk.specs.declared.known.View.{View}
use Rattle.history_desk.specs.declared.known.Place.{Place}
use Rattle.history_desk.specs.declared.known.Place.TheVariants.{Here, Turned, Out}
use Rattle.history_desk.specs.Passes.{has, carries, IsWhole}
use Rattle.history_desk.specs.Rule.{holding, IsPart, AreParts, IsMine, IsKept, Kept}
use Rattle.history_desk.specs.Steps.{with_entry, entry_of, front, Adds}
use Rattle.history_desk.proofs.Views.{each_set, some_set, all_set}
use Rattle.history_desk.proofs.Moves.{held_as, alone, word, carries_all}

-- what the holder of the lock knows as it appends an entry
pub record MayAppend {C A R : Type 0} (m : Meaning C A R) (h : Known A R) (entry : Entry A R) : Type 0 where
  pub own : carries h h.number ≡ true
  pub by : caller_of entry ≡ h.number
  pub unclosed : is_closed h.seen ≡ false
  pub legal : IsLegal m (h.seen ++ entry ∷ [])
  -- a Close is appended by a whole pass that carries number 0, and any other entry where there is room
  pub close : is_close entry ≡ true → IsWhole h × (carries h 0 ≡ true)
  pub room : is_close entry ≡ false → length h.seen < 2 ^ 62

-- another pass that was put together keeps what it is, where an entry of nobody of it is appended
parts_after : {A R : Type 0} (log : List (Entry A R)) (h : Known A R) (entry : Entry A R) (ps : List (Known A R)) → ((n : ℕ) → carries h n ≡ true → caller_of entry ≢ n) → AreParts log h ps → AreParts (log ++ entry ∷ []) h ps
parts_after log h entry [] apart parts = tt
parts_after log h entry (p ∷ ps) apart parts = (
  record {
    seen = prefix_more p.seen log (entry ∷ []) parts.0.seen;
    numbers = parts.0.numbers;
    calls = λ n c. calls_by-other n log entry (apart n (parts.0.numbers n c)) ∙ parts.0.calls n c;
  },
  parts_after log h entry ps apart parts.1,
)

module _ {T Q W C A R : Type 0} (m : Meaning C A R) (content : T → C) where
  pub adds_step : (call_data : Q → A) (reply_data : W → R) (id slots : ℕ) (h : Known A R) (c : List (ℕ × Place T Q W)) (st : Step (Place T Q W)) (e : Entry A R)
      → e ≡ entry_of call_data reply_data h.number (front c) → MayAppend m h e
      → Allows (Kept {T = T} {Q = Q} {W = W} m content) slots id (holding h, c) 0 (λ n. (n + 1) % 2 ^ 64) (Adds call_data reply_data st (holding h, c))
  adds_step call_data reply_data id slots h c st e is may s k len at lt =
      let v : View A R = holding h in
      let f = k.each id v at in
      let same : h.seen ≡ k.log = (f.busy refl).0 in
      let known_next : h.given ≡ k.next = (f.busy refl).1 in
      let log = k.log ++ e ∷ [] in
      let w : View A R = holding (with_entry h e) in
      let seen : h.seen ++ e ∷ [] ≡ log = ap (λ l. l ++ e ∷ []) same in
      let count : length log ≡ length k.log + 1 = length-append k.log (e ∷ []) in
      let yet : is_closed k.log ≡ false = ap is_closed (sym same) ∙ may.unclosed in
      let most = k.most yet in
      let wraps : (length k.log + 1) % 2 ^ 64 ≡ length k.log + 1 = mod-eq_of_lt (omega (arith, most)) in
      let mine_here = f.mine h.number may.own in
      let by = may.by in
      let here_next = mine_here.below in
      let lower : caller_of e < k.next = omega (arith, by, here_next, known_next) in (
        w,
        keeps,
        tt,
        record {
          log = log;
          lock = k.lock;
          next = k.next;
          owner = k.owner;
          parent = k.parent;
          holder = k.holder;
          words = ap (λ ws. slice_set ws 0 ((slice_index ws 0 + 1) % 2 ^ 64)) k.words ∙ (λ i. (wraps ∙ sym count) i ∷ k.lock ∷ k.next ∷ []);
          legal = subst (IsLegal m) seen may.legal;
          most = λ z. (let short = may.room (open_made k.log e z) in let y = ap length same in omega (arith, count, short, y));
          few = k.few;
          callers = below-snoc k.next k.log e k.callers lower;
          home = λ z. absurd (let one = (k.held id v at refl).1 in omega (arith, one, z));
          held = held_as m content s k id v w at refl;
          each = each_set (IsKept log k.next k.owner) s.views id w
              (λ j u ne e'. (let g = k.each j u e' in
              let apart : (n : ℕ) → carries u.known n ≡ true → caller_of e ≢ n = λ n z same_number. ne (sym (g.mine n z).owned ∙ (ap k.owner (sym same_number ∙ by) ∙ mine_here.owned)) in
              record {
                seen = prefix_more u.known.seen k.log (e ∷ []) g.seen;
                busy = λ b. absurd (alone m content s k id v at refl j u ne e' b);
                mine = λ n z. (let o = g.mine n z in record {
                  owned = o.owned;
                  below = o.below;
                  calls = calls_by-other n k.log e (apart n z) ∙ o.calls;
                  closed = λ shut. absurd (
                      let all = may.close (last_close k.log e yet shut) in
                      let low : n < k.next = (let x = o.below in let y = g.given in omega (arith, x, y)) in
                      ne (sym o.owned ∙ (f.mine n (carries_all m content s k id v at all.0 all.1 (suc n) n (omega arith) low)).owned));
                });
                distinct = g.distinct;
                given = g.given;
                callers = g.callers;
                parts = parts_after k.log u.known e u.met apart g.parts;
              }))
              (record {
                seen = subst (λ l. IsPrefix l log) (sym seen) (prefix_self log);
                busy = λ _. (seen, known_next);
                mine = λ n z. (let o = f.mine n z in record { owned = o.owned; below = o.below; calls = ap (calls_by n) (sym seen); closed = λ _. seen });
                distinct = f.distinct;
                given = f.given;
                callers = below-snoc h.given h.seen e f.callers (omega (arith, lower, known_next));
                parts = tt;
              });
          numbered = λ n lt'. some_set (λ (u : View A R). carries u.known n ≡ true) s.views id v w at (λ z. z) (k.owner n) (k.numbered n lt');
          enrolled = λ n some_n lt'. (let o = k.enrolled n some_n lt' in o.0, all_set (λ (u : View A R). has n u.known.enrolled ≡ true) s.views id v w at (λ z. z) (k.owner (k.parent n)) (k.enrolled n some_n lt').1);
        },
        ap (λ (e' : Entry A R). (holding (with_entry h e'), c)) is,
      )
