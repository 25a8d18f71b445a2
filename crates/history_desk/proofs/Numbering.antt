-- Numbers are drawn, go to a pass of their own, and come back with it.
use Rattle.std.proofs.Common.{◌≡◌, ℕ, zero, suc, ◌+◌, ◌%◌, ◌^◌, ◌<◌, ◌≤◌, ◌==◌, ◌≢◌, ◌⊎◌, ⊎_elim, Bool, true, false, true≢false, List, [], ◌∷◌, ◌++◌, length, set, refl, ap, sym, ◌∙◌, subst, arith, cond, max, eq-eqb, ne_eqb}
use Rattle.std.proofs.Math.Nat.{mod-eq_of_lt}
use Rattle.std.proofs.lemmas.Bool.{ltb-true, ltb-false}
use Rattle.std.specs.Prelude.{slice_index, slice_set, ltb}
use mathlib.Core.Option.{some}
use mathlib.Core.List.{IsPrefix}
use lib.ListN.{get_elem?}
use Rattle.atomic_table.specs.Table.{State, Me, Step, Allows, Splits, Joins}
use Rattle.atomic_table.specs.Table.Act.{keeps}
use Rattle.atomic_table.proofs.Lists.{set_else, at_longer, at_last}
use Rattle.desk_object.specs.declared.entry.Entry.{Entry}
use Rattle.desk_object.specs.Meaning.{Meaning}
use Rattle.desk_object.specs.History.{calls_by, is_closed, AreBelow}
use Rattle.desk_object.proofs.Prefixes.{prefix_self, prefix_shorter, prefix_length, prefix_whole}
use Rattle.desk_object.proofs.Histories.{calls_between, below-more}
use Rattle.history_desk.specs.declared.known.Known.{Known}
use Rattle.history_desk.specs.declared.known.View.{View}
use Rattle.history_desk.specs.declared.known.Place.{Place}
use Rattle.history_desk.specs.Passes.{has, AreDistinct, carries, longer, met}
use Rattle.history_desk.specs.Rule.{holding, idle, IsPart, AreParts, IsMine, IsKept, Kept}
use Rattle.history_desk.specs.Steps.{drawn, head_of, tail_of, cut, cut_off, glued, nobody, Draws}
use Rattle.history_desk.proofs.Views.{set_there, each_set, unique, nat_dec, some_set, all_set, at_end, has_cons, has_first, has_rest, has_either, has_left, has_right, not_true, distinct_both}
use Rattle.history_desk.proofs.Moves.{no_busy, held_as, alone, word}

-- passes that were put together stay parts of a pass that carries more
parts_more : {A R : Type 0} (log : List (Entry A R)) (h h' : Known A R) (ps : List (Known A R)) → ((n : ℕ) → carries h n ≡ true → carries h' n ≡ true) → AreParts log h ps → AreParts log h' ps
parts_more log h h' [] more parts = tt
parts_more log h h' (p ∷ ps) more parts = (record { seen = parts.0.seen; numbers = λ n c. more n (parts.0.numbers n c); calls = parts.0.calls }, parts_more log h h' ps more parts.1)

-- of two prefixes of one list: the longer is one of it, and begins with both
pub longer_prefix : {E : Type 0} (xs ys log : List E) → IsPrefix xs log → IsPrefix ys log → IsPrefix (longer xs ys) log × IsPrefix xs (longer xs ys) × IsPrefix ys (longer xs ys)
longer_prefix {E} xs ys log p q = go (ltb (length xs) (length ys)) refl
  where
    go : (b : Bool) → ltb (length xs) (length ys) ≡ b → IsPrefix (longer xs ys) log × IsPrefix xs (longer xs ys) × IsPrefix ys (longer xs ys)
    go true e = rw e (q, prefix_shorter xs ys log p q (let h = ltb-true (length xs) (length ys) e in omega arith), prefix_self ys)
    go false e = rw e (p, prefix_self xs, prefix_shorter ys xs log q p (ltb-false (length xs) (length ys) e))

pub below_longer : {A R : Type 0} (k o : Known A R) → AreBelow k.given k.seen → AreBelow o.given o.seen → AreBelow (max k.given o.given) (longer k.seen o.seen)
below_longer k o p q = elim (ltb (length k.seen) (length o.seen)) as (λ b. AreBelow (max k.given o.given) (cond b o.seen k.seen)) [ true ↦ below-more o.given (max k.given o.given) o.seen (omega arith) q | false ↦ below-more k.given (max k.given o.given) k.seen (omega arith) p ]

module _ {T Q W C A R : Type 0} (m : Meaning C A R) (content : T → C) where
  -- the next number comes into the hand of the holder of the lock
  pub draws_step : (id slots : ℕ) (h : Known A R) (c : List (ℕ × Place T Q W)) (st : Step (Place T Q W))
      → carries h h.number ≡ true → h.given < 2 ^ 62
      → Allows (Kept {T = T} {Q = Q} {W = W} m content) slots id (holding h, c) 2 (λ n. (n + 1) % 2 ^ 64) (Draws st (holding h, c))
  draws_step id slots h c st own short s k len at lt =
      let v : View A R = holding h in
      let f = k.each id v at in
      let same : h.seen ≡ k.log = (f.busy refl).0 in
      let here : h.given ≡ k.next = (f.busy refl).1 in
      let mine_here = f.mine h.number own in
      let below_here : h.number < k.next = (let x = mine_here.below in omega (arith, x, here)) in
      let w : View A R = holding (drawn h) in
      let n0 = k.next in
      let owner : ℕ → ℕ = λ n. cond (n == n0) id (k.owner n) in
      let parent : ℕ → ℕ = λ n. cond (n == n0) h.number (k.parent n) in
      let owner_new : (n : ℕ) → n ≡ n0 → owner n ≡ id = λ n e. ap (λ b. cond b id (k.owner n)) (eq-eqb n n0 e) in
      let owner_old : (n : ℕ) → n < n0 → owner n ≡ k.owner n = λ n lt'. ap (λ b. cond b id (k.owner n)) (ne_eqb n n0 (λ e. omega (arith, e, lt'))) in
      let parent_new : (n : ℕ) → n ≡ n0 → parent n ≡ h.number = λ n e. ap (λ b. cond b h.number (k.parent n)) (eq-eqb n n0 e) in
      let parent_old : (n : ℕ) → n < n0 → parent n ≡ k.parent n = λ n lt'. ap (λ b. cond b h.number (k.parent n)) (ne_eqb n n0 (λ e. omega (arith, e, lt'))) in
      let wraps : (k.next + 1) % 2 ^ 64 ≡ k.next + 1 = mod-eq_of_lt (omega (arith, short, here)) in
      let there : get_elem? (set s.views id w) id ≡ some w = set_there s.views id v w at in
      let low_mine : (j : ℕ) (u : View A R) → IsKept k.log k.next k.owner j u → (n : ℕ) → carries u.known n ≡ true → n < k.next = λ j u g n z. (let x = (g.mine n z).below in let y = g.given in omega (arith, x, y)) in (
        w,
        keeps,
        tt,
        record {
          log = k.log;
          lock = k.lock;
          next = k.next + 1;
          owner = owner;
          parent = parent;
          holder = k.holder;
          words = ap (λ ws. slice_set ws 2 ((slice_index ws 2 + 1) % 2 ^ 64)) k.words ∙ (λ i. length k.log ∷ k.lock ∷ wraps i ∷ []);
          legal = k.legal;
          most = k.most;
          few = omega (arith, short, here);
          callers = below-more k.next (k.next + 1) k.log (omega arith) k.callers;
          home = k.home;
          held = held_as m content s k id v w at refl;
          each = each_set (IsKept k.log (k.next + 1) owner) s.views id w
              (λ j u ne e. (let g = k.each j u e in record {
                seen = g.seen;
                busy = λ b. absurd (alone m content s k id v at refl j u ne e b);
                mine = λ n z. (let o = g.mine n z in record { owned = owner_old n (low_mine j u g n z) ∙ o.owned; below = o.below; calls = o.calls; closed = o.closed });
                distinct = g.distinct;
                given = (let q = g.given in omega (arith, q));
                callers = g.callers;
                parts = g.parts;
              }))
              (record {
                seen = f.seen;
                busy = λ _. (same, ap (λ (n : ℕ). n + 1) here);
                mine = λ n z. ⊎_elim
                    (λ (q : h.given ≡ n). record { owned = owner_new n (sym q ∙ here); below = omega (arith, q); calls = ap (calls_by n) (sym same); closed = λ _. same })
                    (λ (q : carries h n ≡ true). (let o = f.mine n q in record { owned = owner_old n (low_mine id v f n q) ∙ o.owned; below = (let x = o.below in omega (arith, x)); calls = o.calls; closed = o.closed }))
                    (has_cons n h.given h.carried z);
                distinct = (not_true (has h.given h.carried) (λ z. (let x = (f.mine h.given z).below in omega (arith, x))), f.distinct);
                given = omega (arith, here);
                callers = below-more h.given (h.given + 1) h.seen (omega arith) f.callers;
                parts = tt;
              });
          numbered = λ n lt'. ⊎_elim
              (λ (z : n ≡ n0). (w, subst (λ j. get_elem? (set s.views id w) j ≡ some w) (sym (owner_new n z)) there, has_first n h.given h.carried (here ∙ sym z)))
              (λ (z : n ≢ n0). (let low : n < n0 = omega (arith, z, lt') in
              let old = some_set (λ (u : View A R). carries u.known n ≡ true) s.views id v w at (λ q. has_rest n h.given h.carried q) (k.owner n) (k.numbered n low) in
              (old.0, subst (λ j. get_elem? (set s.views id w) j ≡ some old.0) (sym (owner_old n low)) old.1, old.2)))
              (nat_dec n n0);
          enrolled = λ n some_n lt'. ⊎_elim
              (λ (z : n ≡ n0). (
                (let p = parent_new n z in omega (arith, p, below_here, z)),
                λ u e. (let at_own : owner (parent n) ≡ id = ap owner (parent_new n z) ∙ (owner_old h.number below_here ∙ mine_here.owned) in
                    let is : w ≡ u = unique (set s.views id w) id w u there (subst (λ j. get_elem? (set s.views id w) j ≡ some u) at_own e) in
                    subst (λ (x : View A R). has n x.known.enrolled ≡ true) is (has_first n h.given h.enrolled (here ∙ sym z))),
              ))
              (λ (z : n ≢ n0).
              (let low : n < n0 = omega (arith, z, lt') in
              let o = k.enrolled n some_n low in
              let p = parent_old n low in (
                omega (arith, p, o.0),
                λ u e. (let place : owner (parent n) ≡ k.owner (k.parent n) = ap owner p ∙ owner_old (k.parent n) (omega (arith, o.0, low)) in
                    all_set (λ (x : View A R). has n x.known.enrolled ≡ true) s.views id v w at (λ q. has_rest n h.given h.enrolled q) (k.owner (k.parent n)) o.1 u (subst (λ j. get_elem? (set s.views id w) j ≡ some u) place e)),
              )))
              (nat_dec n n0);
        },
        (refl, word m content s k 2 ∙ sym here),
      )

  -- the number that was drawn goes to a pass of its own
  pub splits_step : (id : ℕ) (h : Known A R) → Splits (Kept {T = T} {Q = Q} {W = W} m content) id (holding (drawn h)) (cut (holding (drawn h))) (cut_off (holding (drawn h)))
  splits_step id h s k at =
      let v : View A R = holding (drawn h) in
      let f = k.each id v at in
      let n0 = h.given in
      let ns = h.carried in
      let here : n0 + 1 ≡ k.next = (f.busy refl).1 in
      let l : View A R = cut v in
      let r : View A R = cut_off v in
      let views = set s.views id l in
      let new = length views in
      let mine0 : carries v.known n0 ≡ true = has_first n0 n0 ns refl in
      let rest_mine : (n : ℕ) → has n ns ≡ true → carries v.known n ≡ true = λ n z. has_rest n n0 ns z in
      let not0 : (n : ℕ) → has n ns ≡ true → n ≢ n0 = λ n z e. true≢false (sym (subst (λ x. has x ns ≡ true) e z) ∙ f.distinct.0) in
      let owner : ℕ → ℕ = λ n. cond (n == n0) new (k.owner n) in
      let owner_new : (n : ℕ) → n ≡ n0 → owner n ≡ new = λ n e. ap (λ b. cond b new (k.owner n)) (eq-eqb n n0 e) in
      let owner_old : (n : ℕ) → n ≢ n0 → owner n ≡ k.owner n = λ n e. ap (λ b. cond b new (k.owner n)) (ne_eqb n n0 e) in
      let last : get_elem? (views ++ r ∷ []) new ≡ some r = at_last views r new refl in
      let Kept_at : ℕ → View A R → Type 0 = λ j u. IsKept k.log k.next owner j u in
      let kept_r : IsKept k.log k.next owner new r = record {
        seen = f.seen;
        busy = λ b. absurd (no_busy refl b);
        mine = λ n z. ⊎_elim
            (λ (q : n0 ≡ n). (let o = f.mine n (has_first n n0 ns q) in record { owned = owner_new n (sym q); below = o.below; calls = o.calls; closed = o.closed }))
            (λ q. absurd (true≢false (sym q)))
            (has_cons n n0 [] z);
        distinct = (refl, tt);
        given = f.given;
        callers = f.callers;
        parts = tt;
      } in
      let kept_l : IsKept k.log k.next owner id l = record {
        seen = f.seen;
        busy = f.busy;
        mine = λ n z. (let o = f.mine n (rest_mine n z) in record { owned = owner_old n (not0 n z) ∙ o.owned; below = o.below; calls = o.calls; closed = o.closed });
        distinct = f.distinct.1;
        given = f.given;
        callers = f.callers;
        parts = tt;
      } in
      let others : (j : ℕ) (u : View A R) → j ≢ id → get_elem? s.views j ≡ some u → Kept_at j u = λ j u ne e. (let g = k.each j u e in record {
        seen = g.seen;
        busy = g.busy;
        mine = λ n z. (let o = g.mine n z in record { owned = owner_old n (λ q. ne (sym o.owned ∙ (ap k.owner q ∙ (f.mine n0 mine0).owned))) ∙ o.owned; below = o.below; calls = o.calls; closed = o.closed });
        distinct = g.distinct;
        given = g.given;
        callers = g.callers;
        parts = g.parts;
      }) in
      record {
        log = k.log;
        lock = k.lock;
        next = k.next;
        owner = owner;
        parent = k.parent;
        holder = k.holder;
        words = k.words;
        legal = k.legal;
        most = k.most;
        few = k.few;
        callers = k.callers;
        home = k.home;
        held = λ j u e. ⊎_elim (λ (x : get_elem? views j ≡ some u). held_as m content s k id v l at refl j u x) (λ (x : (j ≡ new) × (r ≡ u)). λ b. absurd (no_busy (ap (λ (y : View A R). y.busy) (sym x.1)) b)) (at_end views r u j e);
        each = λ j u e. ⊎_elim
            (λ (x : get_elem? views j ≡ some u). each_set Kept_at s.views id l others kept_l j u x)
            (λ (x : (j ≡ new) × (r ≡ u)). subst (λ (y : ℕ × View A R). Kept_at y.0 y.1) (λ i. (sym x.0 i, x.1 i)) kept_r)
            (at_end views r u j e);
        numbered = λ n lt. ⊎_elim
            (λ (z : n ≡ n0). (r, subst (λ j. get_elem? (views ++ r ∷ []) j ≡ some r) (sym (owner_new n z)) last, has_first n n0 [] (sym z)))
            (λ (z : n ≢ n0). (
            let keep : carries v.known n ≡ true → carries l.known n ≡ true = λ q. ⊎_elim (λ (x : n0 ≡ n). absurd (z (sym x))) (λ (x : has n ns ≡ true). x) (has_cons n n0 ns q) in
            let old = some_set (λ (u : View A R). carries u.known n ≡ true) s.views id v l at keep (k.owner n) (k.numbered n lt) in
            (old.0, at_longer views (r ∷ []) (owner n) old.0 (subst (λ j. get_elem? views j ≡ some old.0) (sym (owner_old n z)) old.1), old.2)))
            (nat_dec n n0);
        enrolled = λ n some_n lt. (
            let o = k.enrolled n some_n lt in
            let apart : k.parent n ≢ n0 = λ z. omega (arith, z, o.0, lt, here) in (
              o.0,
              λ u e. (let place : owner (k.parent n) ≡ k.owner (k.parent n) = owner_old (k.parent n) apart in
                  let e' : get_elem? (views ++ r ∷ []) (k.owner (k.parent n)) ≡ some u = subst (λ j. get_elem? (views ++ r ∷ []) j ≡ some u) place e in
                  let from = some_set (λ (x : View A R). Unit {0}) s.views id v l at (λ q. q) (k.owner (k.parent n)) (let q = k.numbered (k.parent n) (omega (arith, o.0, lt)) in (q.0, q.1, tt)) in
                  let is : from.0 ≡ u = unique (views ++ r ∷ []) (k.owner (k.parent n)) from.0 u (at_longer views (r ∷ []) (k.owner (k.parent n)) from.0 from.1) e' in
                  subst (λ (x : View A R). has n x.known.enrolled ≡ true) is (all_set (λ (x : View A R). has n x.known.enrolled ≡ true) s.views id v l at (λ q. q) (k.owner (k.parent n)) o.1 from.0 from.1)),
            ));
      }

  -- a pass takes in another
  pub joins_step : (id : ℕ) (v : View A R) (oid : ℕ) (w : View A R) → v.busy ≡ false → w.busy ≡ false
      → Joins (Kept {T = T} {Q = Q} {W = W} m content) id v oid w (glued v w) nobody
  joins_step id v oid w free free' s k at apart there =
      let there' : get_elem? s.views oid ≡ some w = sym (set_else s.views id oid (glued v w) apart) ∙ there in
      let f = k.each id v at in
      let g = k.each oid w there' in
      let b : View A R = glued v w in
      let views = set s.views id b in
      let owner : ℕ → ℕ = λ n. cond (k.owner n == oid) id (k.owner n) in
      let owner_new : (n : ℕ) → k.owner n ≡ oid → owner n ≡ id = λ n e. ap (λ t. cond t id (k.owner n)) (eq-eqb (k.owner n) oid e) in
      let owner_old : (n : ℕ) → k.owner n ≢ oid → owner n ≡ k.owner n = λ n e. ap (λ t. cond t id (k.owner n)) (ne_eqb (k.owner n) oid e) in
      let Kept_at : ℕ → View A R → Type 0 = λ j u. IsKept k.log k.next owner j u in
      let both = longer_prefix v.known.seen w.known.seen k.log f.seen g.seen in
      let whole : (seen : List (Entry A R)) → IsPrefix seen (longer v.known.seen w.known.seen) → seen ≡ k.log → longer v.known.seen w.known.seen ≡ k.log =
      λ seen p e. prefix_whole (longer v.known.seen w.known.seen) k.log both.0 (let x = prefix_length seen (longer v.known.seen w.known.seen) p in let y = ap length e in omega (arith, x, y)) in
      let kept_b : IsKept k.log k.next owner id b = record {
        seen = both.0;
        busy = λ x. absurd (no_busy free x);
        mine = λ n z. ⊎_elim
            (λ (x : carries v.known n ≡ true). (let o = f.mine n x in record {
              owned = owner_old n (λ q. apart (sym q ∙ o.owned)) ∙ o.owned;
              below = (let y = o.below in omega (arith, y));
              calls = o.calls ∙ sym (calls_between n v.known.seen (longer v.known.seen w.known.seen) k.log both.1 both.0 o.calls);
              closed = λ shut. whole v.known.seen both.1 (o.closed shut);
            }))
            (λ (x : carries w.known n ≡ true). (let o = g.mine n x in record {
              owned = owner_new n o.owned;
              below = (let y = o.below in omega (arith, y));
              calls = o.calls ∙ sym (calls_between n w.known.seen (longer v.known.seen w.known.seen) k.log both.2 both.0 o.calls);
              closed = λ shut. whole w.known.seen both.2 (o.closed shut);
            }))
            (has_either n v.known.carried w.known.carried z);
        distinct = distinct_both v.known.carried w.known.carried f.distinct g.distinct (λ n x y. apart (sym (g.mine n y).owned ∙ (f.mine n x).owned));
        given = (let x = f.given in let y = g.given in omega (arith, x, y));
        callers = below_longer v.known w.known f.callers g.callers;
        parts = (
          record { seen = f.seen; numbers = λ n x. has_left n v.known.carried w.known.carried x; calls = λ n x. (f.mine n x).calls },
          (record { seen = g.seen; numbers = λ n x. has_right n v.known.carried w.known.carried x; calls = λ n x. (g.mine n x).calls }, tt),
        );
      } in
      let kept_n : IsKept k.log k.next owner oid nobody = record {
        seen = (k.log, refl);
        busy = λ x. absurd (no_busy refl x);
        mine = λ n z. absurd (true≢false (sym z));
        distinct = tt;
        given = omega arith;
        callers = tt;
        parts = tt;
      } in
      let others : (j : ℕ) (u : View A R) → j ≢ id → j ≢ oid → get_elem? s.views j ≡ some u → Kept_at j u = λ j u ne ne' e. (let q = k.each j u e in record {
        seen = q.seen;
        busy = q.busy;
        mine = λ n z. (let o = q.mine n z in record { owned = owner_old n (λ x. ne' (sym o.owned ∙ x)) ∙ o.owned; below = o.below; calls = o.calls; closed = o.closed });
        distinct = q.distinct;
        given = q.given;
        callers = q.callers;
        parts = q.parts;
      }) in
      record {
        log = k.log;
        lock = k.lock;
        next = k.next;
        owner = owner;
        parent = k.parent;
        holder = k.holder;
        words = k.words;
        legal = k.legal;
        most = k.most;
        few = k.few;
        callers = k.callers;
        home = k.home;
        held = each_set (λ j (u : View A R). u.busy ≡ true → (j ≡ k.holder) × (k.lock ≡ 1)) views oid nobody (λ j u ne e. held_as m content s k id v b at refl j u e) (λ x. absurd (no_busy refl x));
        each = each_set Kept_at views oid nobody (λ j u ne e. each_set (λ i x. i ≢ oid → Kept_at i x) s.views id b (λ i x n e' n'. others i x n n' e') (λ _. kept_b) j u e ne) kept_n;
        numbered = λ n lt. (let old = k.numbered n lt in ⊎_elim
            (λ (z : k.owner n ≡ oid). (
            let is : w ≡ old.0 = unique s.views oid w old.0 there' (subst (λ j. get_elem? s.views j ≡ some old.0) z old.1) in
            (b, subst (λ j. get_elem? (set views oid nobody) j ≡ some b) (sym (owner_new n z)) (set_else views oid id nobody (λ e. apart (sym e)) ∙ set_there s.views id v b at), has_right n v.known.carried w.known.carried (subst (λ (x : View A R). carries x.known n ≡ true) (sym is) old.2))))
            (λ (z : k.owner n ≢ oid). (
            let new = some_set (λ (u : View A R). carries u.known n ≡ true) s.views id v b at (λ q. has_left n v.known.carried w.known.carried q) (k.owner n) old in
            (new.0, subst (λ j. get_elem? (set views oid nobody) j ≡ some new.0) (sym (owner_old n z)) (set_else views oid (k.owner n) nobody z ∙ new.1), new.2)))
            (nat_dec (k.owner n) oid));
        enrolled = λ n some_n lt. (let o = k.enrolled n some_n lt in (
          o.0,
          λ u e. ⊎_elim
              (λ (z : k.owner (k.parent n) ≡ oid). (
              let is : b ≡ u = unique (set views oid nobody) id b u (set_else views oid id nobody (λ q. apart (sym q)) ∙ set_there s.views id v b at) (subst (λ j. get_elem? (set views oid nobody) j ≡ some u) (owner_new (k.parent n) z) e) in
              subst (λ (x : View A R). has n x.known.enrolled ≡ true) is (has_right n v.known.enrolled w.known.enrolled (o.1 w (subst (λ j. get_elem? s.views j ≡ some w) (sym z) there')))))
              (λ (z : k.owner (k.parent n) ≢ oid). (
              let e' : get_elem? views (k.owner (k.parent n)) ≡ some u = sym (set_else views oid (k.owner (k.parent n)) nobody z) ∙ subst (λ j. get_elem? (set views oid nobody) j ≡ some u) (owner_old (k.parent n) z) e in
              all_set (λ (x : View A R). has n x.known.enrolled ≡ true) s.views id v b at (λ q. has_left n v.known.enrolled w.known.enrolled q) (k.owner (k.parent n)) o.1 u e'))
              (nat_dec (k.owner (k.parent n)) oid),
        ));
      }
