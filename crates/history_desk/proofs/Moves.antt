-- The steps of a seat that keep the history and the numbers: taking and giving the lock, and looks.
use Rattle.std.proofs.Common.{◌≡◌, ℕ, zero, suc, ◌+◌, ◌%◌, ◌^◌, ◌<◌, ◌≤◌, ◌==◌, ◌||◌, ◌≢◌, ◌⊎◌, ⊎_elim, Bool, true, false, true≢false, List, [], ◌∷◌, ◌++◌, length, set, refl, ap, sym, ◌∙◌, subst, arith, eq-eqb}
use Rattle.std.specs.Prelude.{slice_index, slice_set, MatchBool}
use mathlib.Core.Option.{Option, none, some, some-injective, some-ne-none}
use mathlib.Core.List.{IsPrefix}
use lib.ListN.{get_elem?}
use Rattle.atomic_table.specs.Table.{State, Me, Step, step, rest, Act, Valid, stepped, carried_after, Allows, opening}
use Rattle.atomic_table.specs.Table.Act.{keeps, takes, gives}
use Rattle.atomic_table.proofs.Lists.{set_here}
use Rattle.std.proofs.lemmas.Bool.Decides.{nat_tests}
use Rattle.desk_object.specs.declared.entry.Entry.{Entry}
use Rattle.desk_object.specs.Meaning.{Meaning}
use Rattle.desk_object.specs.History.{calls_by, is_closed, AreBelow}
use Rattle.desk_object.proofs.Prefixes.{prefix_self, prefix_shorter}
use Rattle.desk_object.proofs.Histories.{none_added, calls_between}
use Rattle.history_desk.specs.declared.known.Known.{Known}
use Rattle.history_desk.specs.declared.known.View.{View}
use Rattle.history_desk.specs.declared.known.Place.{Place}
use Rattle.history_desk.specs.declared.known.Place.TheVariants.{Here, Turned, Out}
use Rattle.history_desk.specs.Passes.{has, AreDistinct, carries, newcomer, AreForeign, Grown, Looked, IsSound, IsWhole}
use Rattle.history_desk.specs.Rule.{idle, holding, founder, IsPart, AreParts, IsMine, IsKept, Rests, Kept}
use Rattle.history_desk.specs.Steps.{IsIdle, IsHolding, Taken, Takes, Looks, Frees, Measures, Asks, IsTakenIn, AreTakenIn, Settles}
use Rattle.history_desk.proofs.Views.{set_there, each_set, some_set, all_set, has_one}

pub no_busy : {b : Bool} → b ≡ false → b ≡ true → ⊥
no_busy e f = true≢false (sym f ∙ e)

-- what is known after a look
abbrev pub looked_at : {A R : Type 0} → List (Entry A R) → ℕ → Known A R → Known A R
looked_at log next k = record { number = k.number; carried = k.carried; enrolled = k.enrolled; given = next; looks = k.looks + 1; seen = log }

-- passes that were put together, where the longer of them begins the history
part_taken_in : {A R : Type 0} (log : List (Entry A R)) (h p : Known A R) → IsPrefix h.seen log → IsPart log h p → IsTakenIn h p
part_taken_in log h p before part le =
    let q = prefix_shorter p.seen h.seen log part.seen before le in
    (q, λ n c. calls_between n p.seen h.seen log q before (part.calls n c))

parts_taken_in : {A R : Type 0} (log : List (Entry A R)) (h : Known A R) (ps : List (Known A R)) → IsPrefix h.seen log → AreParts log h ps → AreTakenIn h ps
parts_taken_in log h [] before parts = tt
parts_taken_in log h (p ∷ ps) before parts = (part_taken_in log h p before parts.0, parts_taken_in log h ps before parts.1)

module _ {T Q W C A R : Type 0} (m : Meaning C A R) (content : T → C) where
  pub opens : (x : T) → content x ≡ m.opening → Kept {T = T} {Q = Q} {W = W} m content (opening (0 ∷ 0 ∷ 1 ∷ []) (Here x ∷ []) founder)
  opens x is = record {
    log = [];
    lock = 0;
    next = 1;
    owner = λ n. 0;
    parent = λ n. 0;
    holder = 0;
    words = refl;
    legal = (m.opening, refl);
    most = λ _. omega arith;
    few = omega arith;
    callers = tt;
    home = λ _. (Here x, refl, (refl, is));
    held = held;
    each = each;
    numbered = numbered;
    enrolled = λ n some_n few. absurd (omega arith);
  }
    where
      held : (j : ℕ) (v : View A R) → get_elem? (founder ∷ []) j ≡ some v → v.busy ≡ true → (j ≡ 0) × (◌≡◌ {A = ℕ} 0 1)
      held zero v e busy = absurd (no_busy refl (ap (λ (u : View A R). u.busy) (some-injective _ _ e) ∙ busy))
      held (suc j) v e busy = absurd (some-ne-none v (sym e))

      one : IsKept {A = A} {R = R} [] 1 (λ n. 0) 0 founder
      one = record {
        seen = ([], refl);
        busy = λ b. absurd (no_busy refl b);
        mine = λ n h. (let z = has_one n 0 h in record { owned = refl; below = omega arith; calls = refl; closed = λ _. refl });
        distinct = (refl, tt);
        given = omega arith;
        callers = tt;
        parts = tt;
      }

      each : (j : ℕ) (v : View A R) → get_elem? (founder ∷ []) j ≡ some v → IsKept [] 1 (λ n. 0) j v
      each zero v e = subst (IsKept [] 1 (λ n. 0) 0) (some-injective _ _ e) one
      each (suc j) v e = absurd (some-ne-none v (sym e))

      numbered : (n : ℕ) → n < 1 → (v : View A R) × (get_elem? (founder ∷ []) 0 ≡ some v) × (carries v.known n ≡ true)
      numbered zero lt = (founder, refl, refl)
      numbered (suc n) lt = absurd (omega arith)

  -- the words, the slot and one view change; the history and the numbers stay
  pub kept_with : (s : State (Place T Q W) (View A R)) (k : Kept {T = T} {Q = Q} {W = W} m content s) (id : ℕ) (v w : View A R) → get_elem? s.views id ≡ some v
      → (words : List ℕ) (homes : List (Option (Place T Q W))) (lock holder : ℕ) → words ≡ length k.log ∷ lock ∷ k.next ∷ []
      → (lock ≡ 0 → (p : Place T Q W) × (get_elem? homes 0 ≡ some (some p)) × Rests m content k.log p)
      → ((j : ℕ) (u : View A R) → get_elem? (set s.views id w) j ≡ some u → u.busy ≡ true → (j ≡ holder) × (lock ≡ 1))
      → IsKept k.log k.next k.owner id w → w.known.carried ≡ v.known.carried → w.known.enrolled ≡ v.known.enrolled
      → Kept {T = T} {Q = Q} {W = W} m content (record { words = words; homes = homes; views = set s.views id w })
  kept_with s k id v w at words homes lock holder are home held kept carried enrolled = record {
    log = k.log;
    lock = lock;
    next = k.next;
    owner = k.owner;
    parent = k.parent;
    holder = holder;
    words = are;
    legal = k.legal;
    most = k.most;
    few = k.few;
    callers = k.callers;
    home = home;
    held = held;
    each = each_set (IsKept k.log k.next k.owner) s.views id w (λ j u ne e. k.each j u e) kept;
    numbered = λ n lt. some_set (λ (u : View A R). carries u.known n ≡ true) s.views id v w at (λ h. ap (has n) carried ∙ h) (k.owner n) (k.numbered n lt);
    enrolled = λ n some_n lt. (let o = k.enrolled n some_n lt in o.0, all_set (λ (u : View A R). has n u.known.enrolled ≡ true) s.views id v w at (λ h. ap (has n) enrolled ∙ h) (k.owner (k.parent n)) (k.enrolled n some_n lt).1);
  }

  -- who has the lock stays
  pub held_as : (s : State (Place T Q W) (View A R)) (k : Kept {T = T} {Q = Q} {W = W} m content s) (id : ℕ) (v w : View A R) → get_elem? s.views id ≡ some v → w.busy ≡ v.busy
      → (j : ℕ) (u : View A R) → get_elem? (set s.views id w) j ≡ some u → u.busy ≡ true → (j ≡ k.holder) × (k.lock ≡ 1)
  held_as s k id v w at same = each_set (λ j (u : View A R). u.busy ≡ true → (j ≡ k.holder) × (k.lock ≡ 1)) s.views id w (λ j u ne e b. k.held j u e b) (λ b. k.held id v at (sym same ∙ b))

  -- nobody else has the lock
  pub alone : (s : State (Place T Q W) (View A R)) (k : Kept {T = T} {Q = Q} {W = W} m content s) (id : ℕ) (v : View A R) → get_elem? s.views id ≡ some v → v.busy ≡ true
      → (j : ℕ) (u : View A R) → j ≢ id → get_elem? s.views j ≡ some u → u.busy ≡ true → ⊥
  alone s k id v at busy j u ne e b = ne ((k.held j u e b).0 ∙ sym (k.held id v at busy).0)

  pub word : (s : State (Place T Q W) (View A R)) (k : Kept {T = T} {Q = Q} {W = W} m content s) (i : ℕ) → slice_index s.words i ≡ slice_index (length k.log ∷ k.lock ∷ k.next ∷ []) i
  word s k i = ap (λ ws. slice_index ws i) k.words

  -- a whole pass that carries number 0 carries every number that was given
  pub carries_all : (s : State (Place T Q W) (View A R)) (k : Kept {T = T} {Q = Q} {W = W} m content s) (id : ℕ) (v : View A R) → get_elem? s.views id ≡ some v → IsWhole v.known → carries v.known 0 ≡ true
      → (bound n : ℕ) → n < bound → n < k.next → carries v.known n ≡ true
  carries_all s k id v at whole zeroth zero n lt few = absurd (omega arith)
  carries_all s k id v at whole zeroth (suc bound) zero lt few = zeroth
  carries_all s k id v at whole zeroth (suc bound) (suc n) lt few =
      let o = k.enrolled (suc n) (omega arith) few in
      let below : k.parent (suc n) < suc n = o.0 in
      let had : carries v.known (k.parent (suc n)) ≡ true = carries_all s k id v at whole zeroth bound (k.parent (suc n)) (omega (arith, below, lt)) (omega (arith, below, few)) in
      let here : k.owner (k.parent (suc n)) ≡ id = ((k.each id v at).mine (k.parent (suc n)) had).owned in
      whole (suc n) (o.1 v (subst (λ j. get_elem? s.views j ≡ some v) (sym here) at))

  looked_is : (s : State (Place T Q W) (View A R)) (k : Kept {T = T} {Q = Q} {W = W} m content s) (id : ℕ) (v : View A R) → get_elem? s.views id ≡ some v → carries v.known v.known.number ≡ true → Looked v.known (looked_at k.log k.next v.known)
  looked_is s k id v at own = let f = k.each id v at in record {
    others = f.seen.0;
    foreign = λ n h. none_added n v.known.seen f.seen.0 (ap (calls_by n) f.seen.1 ∙ (f.mine n h).calls);
    grown = record { seen = sym f.seen.1; looks = refl; given = f.given; number = refl; carried = refl; enrolled = refl };
    closed = λ c. sym ((f.mine v.known.number own).closed c);
  }

  sound_is : (s : State (Place T Q W) (View A R)) (k : Kept {T = T} {Q = Q} {W = W} m content s) (id : ℕ) (v : View A R) → get_elem? s.views id ≡ some v → carries v.known v.known.number ≡ true → IsSound m (looked_at k.log k.next v.known)
  sound_is s k id v at own = let f = k.each id v at in record {
    own = own;
    distinct = f.distinct;
    carried = λ n h. (let b = (f.mine n h).below in let g = f.given in omega (arith, b, g));
    callers = k.callers;
    legal = k.legal;
    all = λ whole zeroth n lt. carries_all s k id v at whole zeroth (suc n) n (omega arith) lt;
  }

  kept_look : (s : State (Place T Q W) (View A R)) (k : Kept {T = T} {Q = Q} {W = W} m content s) (id : ℕ) (v : View A R) → get_elem? s.views id ≡ some v → (b : Bool) → IsKept k.log k.next k.owner id (record { known = looked_at k.log k.next v.known; met = []; busy = b })
  kept_look s k id v at b = let f = k.each id v at in record {
    seen = prefix_self k.log;
    busy = λ _. (refl, refl);
    mine = λ n h. (let o = f.mine n h in record { owned = o.owned; below = (let x = o.below in let g = f.given in omega (arith, x, g)); calls = refl; closed = λ _. refl });
    distinct = f.distinct;
    given = omega arith;
    callers = k.callers;
    parts = tt;
  }

  pub takes_step : (id slots : ℕ) (h : Known A R) (st : Step (Place T Q W)) → carries h h.number ≡ true → Allows (Kept {T = T} {Q = Q} {W = W} m content) slots id (idle h, []) 1 (λ _. 1) (Takes m content st (idle h, []))
  takes_step id slots h st own s k len at lt = go (slice_index s.words 1 == 0) refl
    where
      go : (b : Bool) → (slice_index s.words 1 == 0) ≡ b → (w : View A R) × (a : Act (Place T Q W)) × Valid s.homes [] a × Kept {T = T} {Q = Q} {W = W} m content (stepped s 1 1 id [] w a) × Takes m content st (idle h, []) (slice_index s.words 1) (w, carried_after [] a)
      go true e =
          let zero_word : slice_index s.words 1 ≡ 0 = grind (arith, nat_tests) in
          let free : k.lock ≡ 0 = sym (word s k 1) ∙ zero_word in
          let home = k.home free in
          let w : View A R = holding (looked_at k.log k.next h) in (
            w,
            takes 0 home.0,
            home.1,
            kept_with s k id (idle h) w at (slice_set s.words 1 1) (slice_set s.homes 0 none) 1 id (ap (λ ws. slice_set ws 1 1) k.words)
                (λ z. absurd (omega (arith, z)))
                (each_set (λ j (u : View A R). u.busy ≡ true → (j ≡ id) × (1 ≡ 1)) s.views id w (λ j u ne e' b. absurd (let one = (k.held j u e' b).1 in omega (arith, one, free))) (λ _. (refl, refl)))
                (kept_look s k id (idle h) at true) refl refl,
            rw e (record { looked = looked_is s k id (idle h) at own; sound = sound_is s k id (idle h) at own; slot = home.0; holding = refl; rests = home.2 }),
          )
      go false e =
          let taken : slice_index s.words 1 ≢ 0 = λ z. true≢false (sym (eq-eqb _ _ z) ∙ e) in
          let locked : k.lock ≢ 0 = λ z. taken (word s k 1 ∙ z) in (
            idle h,
            keeps,
            tt,
            kept_with s k id (idle h) (idle h) at (slice_set s.words 1 1) s.homes 1 k.holder (ap (λ ws. slice_set ws 1 1) k.words)
                (λ z. absurd (omega (arith, z)))
                (λ j u e' b. (let o = held_as s k id (idle h) (idle h) at refl j u e' b in (o.0, refl)))
                (k.each id (idle h) at) refl refl,
            rw e refl,
          )

  -- the lock is given up, and the slot goes home
  pub frees_step : (id slots : ℕ) (h : Known A R) (p : Place T Q W) (st : Step (Place T Q W)) → Rests m content h.seen p → 0 < slots
      → Allows (Kept {T = T} {Q = Q} {W = W} m content) slots id (holding h, (0, p) ∷ []) 1 (λ _. 0) (λ _. Frees st (holding h, (0, p) ∷ []) 0)
  frees_step id slots h p st rests one_slot s k len at lt =
      let v : View A R = holding h in
      let w : View A R = idle h in
      let f = k.each id v at in
      let whole = f.busy refl in (
        w,
        gives,
        tt,
        kept_with s k id v w at (slice_set s.words 1 0) (slice_set s.homes 0 (Option.some p)) 0 k.holder (ap (λ ws. slice_set ws 1 0) k.words)
            (λ _. (p, set_here s.homes 0 (Option.some p) (omega (arith, len, one_slot)), subst (λ l. Rests m content l p) whole.0 rests))
            (each_set (λ j (u : View A R). u.busy ≡ true → (j ≡ k.holder) × (◌≡◌ {A = ℕ} 0 1)) s.views id w (λ j u ne e b. absurd (alone s k id v at refl j u ne e b)) (λ b. absurd (no_busy refl b)))
            (record { seen = f.seen; busy = λ b. absurd (no_busy refl b); mine = f.mine; distinct = f.distinct; given = f.given; callers = f.callers; parts = tt })
            refl refl,
        refl,
      )

  -- a load that sees the history as it is
  pub looks_step : (id slots : ℕ) (h : Known A R) (st : Step (Place T Q W)) → carries h h.number ≡ true → Allows (Kept {T = T} {Q = Q} {W = W} m content) slots id (idle h, []) 0 (λ n. n) (Looks m content st (idle h, []))
  looks_step id slots h st own s k len at lt =
      let w : View A R = idle (looked_at k.log k.next h) in (
        w,
        keeps,
        tt,
        kept_with s k id (idle h) w at (slice_set s.words 0 (slice_index s.words 0)) s.homes k.lock k.holder (ap (λ ws. slice_set ws 0 (slice_index ws 0)) k.words) k.home (held_as s k id (idle h) w at refl) (kept_look s k id (idle h) at false) refl refl,
        (looked_is s k id (idle h) at own, sound_is s k id (idle h) at own, refl, word s k 0),
      )

  -- a load that changes nothing
  stays : (s : State (Place T Q W) (View A R)) (k : Kept {T = T} {Q = Q} {W = W} m content s) (id i : ℕ) (v : View A R) → get_elem? s.views id ≡ some v → slice_set s.words i (slice_index s.words i) ≡ length k.log ∷ k.lock ∷ k.next ∷ []
      → Kept {T = T} {Q = Q} {W = W} m content (record { words = slice_set s.words i (slice_index s.words i); homes = s.homes; views = set s.views id v })
  stays s k id i v at are = kept_with s k id v v at (slice_set s.words i (slice_index s.words i)) s.homes k.lock k.holder are k.home (held_as s k id v v at refl) (k.each id v at) refl refl

  -- a load of the length, under the lock
  pub measures_step : (id slots : ℕ) (h : Known A R) (c : List (ℕ × Place T Q W)) (st : Step (Place T Q W)) → Allows (Kept {T = T} {Q = Q} {W = W} m content) slots id (holding h, c) 0 (λ n. n) (Measures st (holding h, c))
  measures_step id slots h c st s k len at lt =
      let same : h.seen ≡ k.log = ((k.each id (holding h) at).busy refl).0 in
      let found : slice_index s.words 0 ≡ length h.seen = word s k 0 ∙ ap length (sym same) in (
        holding h,
        keeps,
        tt,
        stays s k id 0 (holding h) at (ap (λ ws. slice_set ws 0 (slice_index ws 0)) k.words),
        (refl, found, λ o. (let x = k.most (ap is_closed (sym same) ∙ o) in let y = word s k 0 in omega (arith, x, y))),
      )

  -- a load of the next number, under the lock
  pub asks_step : (id slots : ℕ) (h : Known A R) (c : List (ℕ × Place T Q W)) (st : Step (Place T Q W)) → Allows (Kept {T = T} {Q = Q} {W = W} m content) slots id (holding h, c) 2 (λ n. n) (Asks st (holding h, c))
  asks_step id slots h c st s k len at lt =
      let same : h.given ≡ k.next = ((k.each id (holding h) at).busy refl).1 in (
        holding h,
        keeps,
        tt,
        stays s k id 2 (holding h) at (ap (λ ws. slice_set ws 2 (slice_index ws 2)) k.words),
        (refl, word s k 2 ∙ sym same, (let x = word s k 2 in let y = k.few in omega (arith, x, y))),
      )

  -- a load that compares what was put together
  pub settles_step : (id slots : ℕ) (v : View A R) (c : List (ℕ × Place T Q W)) (st : Step (Place T Q W)) → v.busy ≡ false → Allows (Kept {T = T} {Q = Q} {W = W} m content) slots id (v, c) 0 (λ n. n) (Settles st (v, c))
  settles_step id slots v c st free s k len at lt =
      let f = k.each id v at in
      let w : View A R = idle v.known in (
        w,
        keeps,
        tt,
        kept_with s k id v w at (slice_set s.words 0 (slice_index s.words 0)) s.homes k.lock k.holder (ap (λ ws. slice_set ws 0 (slice_index ws 0)) k.words) k.home (held_as s k id v w at (sym free))
            (record { seen = f.seen; busy = λ b. absurd (no_busy refl b); mine = f.mine; distinct = f.distinct; given = f.given; callers = f.callers; parts = tt }) refl refl,
        (
          refl,
          parts_taken_in k.log v.known v.met f.seen f.parts,
          f.distinct,
          λ whole zeroth n few. (let g = f.given in carries_all s k id v at whole zeroth (suc n) n (omega arith) (omega (arith, few, g))),
        ),
      )
