-- The reading of a script agrees with what spells it, and refuses the first token that no script goes on with.
use Rattle.std.proofs.Common.{◌≡◌, inl, inr, refl, sym, ◌∙◌, ap, subst, ℕ, max, ◌<◌, ◌≤◌, true, List, [], ◌∷◌, ◌++◌, length, length-append, append_assoc, append-nil, Option, Some, None, Ok, Err, arith}
use Rattle.std.proofs.lemmas.List.{append_cancel_right}
use Rattle.lua_tokens.specs.declared.place.Place.{Place}
use Rattle.lua_tokens.specs.declared.token.Token.{Token}
use Rattle.lua_tokens.specs.declared.token.Lexeme.TheVariants as l
use Rattle.lua_tree.specs.declared.stat.Stat.{Stat}
use Rattle.lua_tree.specs.declared.stat.Tree.{Tree}
use Rattle.lua_grammar.specs.declared.measured.Measured.{Measured}
use Rattle.lua_grammar.specs.Tokens.{finish, name, const_name}
use Rattle.lua_grammar.specs.Erasure.{tree_of}
use Rattle.lua_grammar.specs.Depth.{depth_of}
use Rattle.lua_grammar.specs.Grammar.{Spells, Viable, IsRefused, IsDeeper, IsAttribute}
use Rattle.lua_grammar.specs.Next.{is}
use Rattle.lua_grammar.specs.Input.{Outcome, Why, bad, deep, attribute, Stop, and_then, refuse}
use Rattle.lua_grammar.specs.Statements.{parts, nothing_more, whole, script}
use Rattle.lua_grammar.proofs.DepthLaws.{tree_depth}
use Rattle.lua_grammar.proofs.Fronts.{Meets, Fails}
use Rattle.lua_grammar.proofs.Properties.{head, IsName, Alike, AlikeFor, NoEnd, Past, Marked, LocalOk, LocalErr, LocalAt, Kept}
use Rattle.lua_grammar.proofs.Local.{alike_for, left, left_past, past_left, on_miss, on_hit}
use Rattle.lua_grammar.proofs.LocalStat.{parts_local}
use Rattle.lua_grammar.proofs.KeptParts.{block_kept}
use Rattle.lua_grammar.proofs.SoundScript.{spell_script, GoodScript, ReadsScript, script_meets}
use Rattle.lua_grammar.proofs.CompleteScript.{script_reads}

-- ---- the end of a script

at_other : (b : Measured (List Stat)) (x : Token) (xs : List Token) → is l.End x.what ≡ None → whole b (x ∷ xs) ≡ Err (bad, x ∷ xs)
at_other b x xs e = on_miss (is l.End) true (λ _ _. nothing_more b) refuse (x ∷ xs) e

at_end : (b : Measured (List Stat)) (x : Token) (xs : List Token) → is l.End x.what ≡ Some tt → whole b (x ∷ xs) ≡ nothing_more b xs
at_end b x xs e = on_hit (is l.End) true (λ _ _. nothing_more b) refuse x xs tt refl e

at_nothing : (b : Measured (List Stat)) → whole b [] ≡ Err (bad, [])
at_nothing b = on_miss (is l.End) true (λ _ _. nothing_more b) refuse [] tt

-- what is refused after a block
record WholeStops (b : Measured (List Stat)) (us : List Token) (stop : Stop) : Type 0 where
  taken : List Token
  read : us ≡ taken ++ stop.1
  why : stop.0 ≡ bad
  next : (u : List Token) → Alike (head u) (head stop.1) → Alike (head (taken ++ u)) (head us)
  again : (u : List Token) → Alike (head u) (head stop.1) → whole b (taken ++ u) ≡ Err (bad, u)
  ending : stop.1 ≡ [] → us ≡ []

same_stop : {A : Type 0} (s t : Stop) (r : Outcome A) → r ≡ Err s → r ≡ Err t → s ≡ t
same_stop s t r e f = cc

name_no_end : (x : Token) → IsName (Some x) → is l.End x.what ≡ None
name_no_end x n = ap (is l.End) n.1

stops_there : (b : Measured (List Stat)) (x : Token) (xs : List Token) → is l.End x.what ≡ None → WholeStops b (x ∷ xs) (bad, x ∷ xs)
stops_there b x xs e = record { taken = []; read = refl; why = refl; next = λ u h. h; again = other; ending = λ k. cc }
  where
    other : (u : List Token) → Alike (head u) (Some x) → whole b u ≡ Err (bad, u)
    other [] (inl k) = cc
    other [] (inr k) = absurd k.0
    other (y ∷ u) (inl k) = (let same : y ≡ x = cc in at_other b y u (ap (λ (z : Token). is l.End z.what) same ∙ e))
    other (y ∷ u) (inr k) = at_other b y u (name_no_end y k.0)

stops_after : (b : Measured (List Stat)) (x y : Token) (ys : List Token) → is l.End x.what ≡ Some tt → WholeStops b (x ∷ y ∷ ys) (bad, y ∷ ys)
stops_after b x y ys e = record { taken = x ∷ []; read = refl; why = refl; next = λ u h. inl refl; again = other; ending = λ k. cc }
  where
    other : (u : List Token) → Alike (head u) (Some y) → whole b (x ∷ u) ≡ Err (bad, u)
    other [] (inl k) = cc
    other [] (inr k) = absurd k.0
    other (z ∷ u) h = at_end b x (z ∷ u) e

stops_at_nothing : (b : Measured (List Stat)) → WholeStops b [] (bad, [])
stops_at_nothing b = record { taken = []; read = refl; why = refl; next = λ u h. h; again = other; ending = λ k. refl }
  where
    other : (u : List Token) → Alike (head u) None → whole b u ≡ Err (bad, u)
    other [] h = at_nothing b
    other (x ∷ u) (inl k) = cc
    other (x ∷ u) (inr k) = absurd k.1

ok_err : {A : Type 0} (r : Outcome A) (z : A × List Token) (s : Stop) → r ≡ Ok z → r ≡ Err s → ⊥
ok_err r z s k m = cc

whole_stops : (b : Measured (List Stat)) (us : List Token) (stop : Stop) → whole b us ≡ Err stop → WholeStops b us stop
whole_stops b [] stop e = subst (WholeStops b []) (same_stop (bad, []) stop (whole b []) (at_nothing b) e) (stops_at_nothing b)
whole_stops b (x ∷ xs) stop e = by_end (is l.End x.what) refl xs e
  where
    by_end : (o : Option (Unit {0})) → is l.End x.what ≡ o → (xs : List Token) → whole b (x ∷ xs) ≡ Err stop → WholeStops b (x ∷ xs) stop
    by_end None f xs e = subst (WholeStops b (x ∷ xs)) (same_stop (bad, x ∷ xs) stop (whole b (x ∷ xs)) (at_other b x xs f) e) (stops_there b x xs f)
    by_end (Some u) f [] e = (let no : whole b (x ∷ []) ≡ Ok (record { block = record { stats = b.what } }, []) = at_end b x [] f in absurd (ok_err (whole b (x ∷ [])) (record { block = record { stats = b.what } }, []) stop no e))
    by_end (Some u) f (y ∷ ys) e = subst (WholeStops b (x ∷ y ∷ ys)) (same_stop (bad, y ∷ ys) stop (whole b (x ∷ y ∷ ys)) (at_end b x (y ∷ ys) f) e) (stops_after b x y ys f)

-- a script's end leaves no more than it is given
whole_left : (b : Measured (List Stat)) (us : List Token) → length (left (whole b us)) ≤ length us
unfolding left
whole_left b [] = subst (λ r. length (left r) ≤ 0) (sym (at_nothing b)) (omega arith)
whole_left b (x ∷ xs) = by_end (is l.End x.what) refl xs
  where
    by_end : (o : Option (Unit {0})) → is l.End x.what ≡ o → (xs : List Token) → length (left (whole b (x ∷ xs))) ≤ length (x ∷ xs)
    by_end None f xs = subst (λ r. length (left r) ≤ length (x ∷ xs)) (sym (at_other b x xs f)) (omega arith)
    by_end (Some u) f [] = subst (λ r. length (left r) ≤ length (x ∷ [])) (sym (at_end b x [] f)) (omega arith)
    by_end (Some u) f (y ∷ ys) = subst (λ r. length (left r) ≤ length (x ∷ y ∷ ys)) (sym (at_end b x (y ∷ ys) f)) (omega arith)

then_whole_left : (r : Outcome (Measured (List Stat))) → length (left (and_then r whole)) ≤ length (left r)
unfolding left
then_whole_left (Ok x) = whole_left x.0 x.1
then_whole_left (Err stop) = omega arith

-- ---- a refusal by the reader of scripts

record ScriptStops (d : ℕ) (ts : List Token) (stop : Stop) : Type 0 where
  pre : List Token
  read : ts ≡ pre ++ stop.1
  again : (u : List Token) → AlikeFor stop.0 (head u) (head stop.1) → script d (pre ++ u) ≡ Err (stop.0, u)
  marked : stop.0 ≡ attribute → Marked (script d) pre stop

append_left : (u v w : List Token) → u ≡ v ++ w → length w ≤ length u
append_left u v w e = omega (arith, ap length e ∙ length-append v w)

of_block : (d : ℕ) (ts : List Token) (stop : Stop) → LocalErr (parts d).block ts stop → ScriptStops d ts stop
unfolding script
of_block d ts stop e = record {
  pre = e.pre;
  read = e.read;
  again = λ u h. ap (λ r. and_then r whole) (e.again u h);
  marked = λ k.
      let m : Marked (parts d).block e.pre stop = e.marked k in
      let us : List Token = e.pre ++ name const_name m.place ∷ m.after in
      record {
        text = m.text;
        place = m.place;
        after = m.after;
        is = m.is;
        past = past_left (and_then ((parts d).block us) whole) stop.1 (omega (arith, then_whole_left ((parts d).block us), left_past ((parts d).block us) stop.1 m.past));
      };
}

of_end : (d : ℕ) (ts : List Token) (b : Measured (List Stat)) (us : List Token) (stop : Stop) → LocalOk (parts d).block ts (b, us) → WholeStops b us stop → ScriptStops d ts stop
unfolding script
of_end d ts b us stop o w = record {
  pre = o.pre ++ w.taken;
  read = o.read ∙ ap (λ z. o.pre ++ z) w.read ∙ sym (append_assoc o.pre w.taken stop.1);
  again = λ u h.
      let a : Alike (head u) (head stop.1) = alike_for stop.0 (head u) (head stop.1) h in
      ap (λ z. and_then ((parts d).block z) whole) (append_assoc o.pre w.taken u) ∙ ap (λ r. and_then r whole) (o.again (w.taken ++ u) (w.next u a)) ∙ w.again u a ∙ ap (λ y. Err (y, u)) (sym w.why);
  marked = λ k. (let no : bad ≡ attribute = sym w.why ∙ k in cc);
}

script_stops : (d : ℕ) (ts : List Token) (stop : Stop) → script d ts ≡ Err stop → ScriptStops d ts stop
unfolding script
script_stops d ts stop e = by_block ((parts d).block ts) refl ((parts_local d).block ts)
  where
    by_block : (r : Outcome (Measured (List Stat))) → (parts d).block ts ≡ r → LocalAt (parts d).block ts r → ScriptStops d ts stop
    by_block (Ok x) f h = of_end d ts x.0 x.1 stop h (whole_stops x.0 x.1 stop (ap (λ r. and_then r whole) (sym f) ∙ e))
    by_block (Err s) f h = subst (ScriptStops d ts) (same_stop s stop (script d ts) (ap (λ r. and_then r whole) f) e) (of_block d ts s h)

-- ---- more room

script_kept : (d : ℕ) → 1 ≤ d → (ts : List Token) (stop : Stop) → script d ts ≡ Err stop → (stop.0 ≡ deep → ⊥) → (n : ℕ) → d ≤ n → script n ts ≡ Err stop
unfolding script
script_kept d pos ts stop e shallow n le = by_block ((parts d).block ts) refl (block_kept d pos ts)
  where
    by_block : (r : Outcome (Measured (List Stat))) → (parts d).block ts ≡ r → Kept (λ n. (parts n).block) d ts r → script n ts ≡ Err stop
    by_block (Ok x) f k = ap (λ r. and_then r whole) (k n le) ∙ ap (λ r. and_then r whole) (sym f) ∙ e
    by_block (Err (bad, rest)) f k = ap (λ r. and_then r whole) (k n le) ∙ ap (λ r. and_then r whole) (sym f) ∙ e
    by_block (Err (attribute, rest)) f k = ap (λ r. and_then r whole) (k n le) ∙ ap (λ r. and_then r whole) (sym f) ∙ e
    by_block (Err (deep, rest)) f k = absurd (shallow (sym (ap (λ (s : Stop). s.0) (same_stop (deep, rest) stop (script d ts) (ap (λ r. and_then r whole) f) e))))

-- enough room gets past a token that was too deep
record GetsPast (d : ℕ) (ts rest : List Token) : Type 0 where
  n : ℕ
  more : d ≤ n
  past : Past (script n ts) rest

script_past : (d : ℕ) → 1 ≤ d → (ts rest : List Token) → script d ts ≡ Err (deep, rest) → GetsPast d ts rest
unfolding script
script_past d pos ts rest e = by_block ((parts d).block ts) refl (block_kept d pos ts)
  where
    at_whole : (b : Measured (List Stat)) (us : List Token) → (parts d).block ts ≡ Ok (b, us) → GetsPast d ts rest
    at_whole b us f =
        let w : WholeStops b us (deep, rest) = whole_stops b us (deep, rest) (ap (λ r. and_then r whole) (sym f) ∙ e) in
        let no : deep ≡ bad = w.why in cc

    by_block : (r : Outcome (Measured (List Stat))) → (parts d).block ts ≡ r → Kept (λ n. (parts n).block) d ts r → GetsPast d ts rest
    by_block (Ok x) f k = at_whole x.0 x.1 f
    by_block (Err (bad, us)) f k = (let no : bad ≡ deep = ap (λ (s : Stop). s.0) (same_stop (bad, us) (deep, rest) (script d ts) (ap (λ r. and_then r whole) f) e) in cc)
    by_block (Err (attribute, us)) f k = (let no : attribute ≡ deep = ap (λ (s : Stop). s.0) (same_stop (attribute, us) (deep, rest) (script d ts) (ap (λ r. and_then r whole) f) e) in cc)
    by_block (Err (deep, us)) f k =
        let same : (deep, us) ≡ (deep, rest) = same_stop (deep, us) (deep, rest) (script d ts) (ap (λ r. and_then r whole) f) e in
        let n : ℕ = max d k.0 in
        record {
          n = n;
          more = omega arith;
          past = past_left (and_then ((parts n).block ts) whole) rest
              (omega (arith, then_whole_left ((parts n).block ts), left_past ((parts n).block ts) us (k.1 n (omega arith)), ap (λ (s : Stop). length s.1) same));
        }

-- ---- the theorem

abbrev pub EndsWithEnd : List Token → Type 0
EndsWithEnd tokens = (before : List Token) × (last : Place) × (tokens ≡ before ++ finish last ∷ [])

abbrev pub KindOf : Why → ℕ → List Token → Token → Type 0
KindOf deep d before refused = IsDeeper before refused
KindOf bad d before refused = (IsDeeper before refused → ⊥) × (IsAttribute before d refused → ⊥)
KindOf attribute d before refused = (IsDeeper before refused → ⊥) × IsAttribute before d refused

-- what is refused, and why
pub record Refusal (d : ℕ) (tokens : List Token) (why : Why) (rest : List Token) : Type 0 where
  pub before : List Token
  pub refused : Token
  pub after : List Token
  pub rest_is : rest ≡ refused ∷ after
  pub is : IsRefused tokens d before refused after
  pub kind : KindOf why d before refused

-- a tree that is read is spelled by the tokens
pub accepted : (d : ℕ) → 1 ≤ d → (tokens : List Token) (tree : Tree) (rest : List Token) → script d tokens ≡ Ok (tree, rest) → Spells tree tokens × (depth_of tree ≤ d)
accepted d pos tokens tree rest e =
    let m : ReadsScript d tokens tree rest = subst (Meets (ReadsScript d tokens) (Fails (GoodScript d) spell_script tokens)) e (script_meets d pos tokens) in
    (record { written = m.written; last = m.last; formed = m.formed; spelled = m.spelled; shows = m.shows }, omega (arith, m.low, tree_depth m.written, ap depth_of m.shows))

fails_of : (d : ℕ) → 1 ≤ d → (tokens : List Token) (stop : Stop) → script d tokens ≡ Err stop → Fails (GoodScript d) spell_script tokens stop.1
fails_of d pos tokens stop e = subst (Meets (ReadsScript d tokens) (Fails (GoodScript d) spell_script tokens)) e (script_meets d pos tokens)

front_viable : (d : ℕ) (tokens rest : List Token) (f : Fails (GoodScript d) spell_script tokens rest) → Viable f.pre d
front_viable d tokens rest f = record {
  after = f.front.more;
  tree = tree_of f.front.tree.0;
  spells = record { written = f.front.tree.0; last = f.front.tree.1; formed = f.front.good.formed; spelled = f.front.spelled; shows = refl };
  shallow = omega (arith, f.front.good.low, tree_depth f.front.tree.0);
}

viable_more : (tokens : List Token) (d n : ℕ) → d ≤ n → Viable tokens d → Viable tokens n
viable_more tokens d n h v = record { after = v.after; tree = v.tree; spells = v.spells; shallow = omega (arith, h, v.shallow) }

-- what begins with viable tokens is read to the end
viable_reads : (tokens : List Token) (d : ℕ) (v : Viable tokens d) → script d (tokens ++ v.after) ≡ Ok (v.tree, [])
viable_reads tokens d v = script_reads d v.tree (tokens ++ v.after) v.spells v.shallow

same_for : (why : Why) (o : Option Token) → AlikeFor why o o
same_for bad o = inl refl
same_for deep o = inl refl
same_for attribute o = refl

-- no script of this depth goes on with the refused token
not_at : (d : ℕ) (tokens : List Token) (stop : Stop) (x : Token) (after : List Token) → stop.1 ≡ x ∷ after → (s : ScriptStops d tokens stop) → Viable (s.pre ++ x ∷ []) d → ⊥
not_at d tokens stop x after is s v =
    let us : List Token = x ∷ v.after in
    let read : script d (s.pre ++ us) ≡ Ok (v.tree, []) = ap (script d) (sym (append_assoc s.pre (x ∷ []) v.after)) ∙ viable_reads (s.pre ++ x ∷ []) d v in
    let stops : script d (s.pre ++ us) ≡ Err (stop.0, us) = s.again us (subst (λ z. AlikeFor stop.0 (head us) (head z)) (sym is) (same_for stop.0 (Some x))) in
    ok_err (script d (s.pre ++ us)) (v.tree, []) (stop.0, us) read stops

-- tokens that end at the same place
same_front : (tokens a b rest : List Token) → tokens ≡ a ++ rest → tokens ≡ b ++ rest → a ≡ b
same_front tokens a b rest e f = append_cancel_right a b rest (sym e ∙ f)

-- a longer front goes on with the token
longer_front : (a b : List Token) (x : Token) (more rest : List Token) → a ++ x ∷ more ≡ b ++ rest → length rest < length (x ∷ more) → (mid : List Token) × (b ≡ (a ++ x ∷ []) ++ mid)
longer_front [] [] x more rest e h = absurd (omega (arith, h, ap length e))
longer_front [] (y ∷ b) x more rest e h = (b, ap (λ z. z ∷ b) (let same : x ≡ y = cc in sym same))
longer_front (z ∷ a) [] x more rest e h = absurd (omega (arith, h, ap length e, length-append (z ∷ a) (x ∷ more)))
longer_front (z ∷ a) (y ∷ b) x more rest e h =
    let tails : a ++ x ∷ more ≡ b ++ rest = cc in
    let heads : z ≡ y = cc in
    let r = longer_front a b x more rest tails h in
    (r.0, ap (λ t. t ∷ b) (sym heads) ∙ ap (λ t. z ∷ t) r.1)

-- what gets past a token begins a script with it
goes_past : (n : ℕ) → 1 ≤ n → (tokens a : List Token) (x : Token) (more : List Token) → tokens ≡ a ++ x ∷ more → Past (script n tokens) (x ∷ more) → Viable (a ++ x ∷ []) n
goes_past n pos tokens a x more e past = by_result (script n tokens) refl past
  where
    whole_read : (tree : Tree) (rest : List Token) → script n tokens ≡ Ok (tree, rest) → Viable (a ++ x ∷ []) n
    whole_read tree rest f =
        let r : Spells tree tokens × (depth_of tree ≤ n) = accepted n pos tokens tree rest f in
        record { after = more; tree = tree; spells = subst (Spells tree) (e ∙ sym (append_assoc a (x ∷ []) more)) r.0; shallow = r.1 }

    further_read : (stop : Stop) → script n tokens ≡ Err stop → length stop.1 < length (x ∷ more) → Viable (a ++ x ∷ []) n
    further_read stop f lt =
        let g : Fails (GoodScript n) spell_script tokens stop.1 = fails_of n pos tokens stop f in
        let m : (mid : List Token) × (g.pre ≡ (a ++ x ∷ []) ++ mid) = longer_front a g.pre x more stop.1 (sym e ∙ g.read) lt in
        let v : Viable g.pre n = front_viable n tokens stop.1 g in
        record {
          after = m.0 ++ v.after;
          tree = v.tree;
          spells = subst (Spells v.tree) (ap (λ z. z ++ v.after) m.1 ∙ append_assoc (a ++ x ∷ []) m.0 v.after) v.spells;
          shallow = v.shallow;
        }

    by_result : (r : Outcome Tree) → script n tokens ≡ r → Past r (x ∷ more) → Viable (a ++ x ∷ []) n
    by_result (Ok y) f h = whole_read y.0 y.1 f
    by_result (Err stop) f h = further_read stop f h

-- the end of the tokens is not refused

no_end_in : (a before : List Token) (last : Place) → NoEnd a → a ≡ before ++ finish last ∷ [] → ⊥
no_end_in [] [] last n e = cc
no_end_in [] (y ∷ before) last n e = cc
no_end_in (x ∷ a) [] last n e = (let same : x ≡ finish last = cc in n.0 (ap (λ (z : Token). z.what) same))
no_end_in (x ∷ a) (y ∷ before) last n e = (let tails : a ≡ before ++ finish last ∷ [] = cc in no_end_in a before last n.1 tails)

not_at_the_end : (d : ℕ) (tokens : List Token) (why : Why) → EndsWithEnd tokens → script d tokens ≡ Err (why, []) → ⊥
unfolding script
not_at_the_end d tokens why ends e = by_block ((parts d).block tokens) refl ((parts_local d).block tokens)
  where
    all_read : (pre rest : List Token) → tokens ≡ pre ++ rest → rest ≡ [] → NoEnd pre → ⊥
    all_read pre rest f h n = no_end_in pre ends.0 ends.1 n (sym (append-nil pre) ∙ ap (λ z. pre ++ z) (sym h) ∙ sym f ∙ ends.2)

    by_block : (r : Outcome (Measured (List Stat))) → (parts d).block tokens ≡ r → LocalAt (parts d).block tokens r → ⊥
    by_block (Ok x) f h =
        let w : WholeStops x.0 x.1 (why, []) = whole_stops x.0 x.1 (why, []) (ap (λ r. and_then r whole) (sym f) ∙ e) in
        all_read h.pre x.1 h.read (w.ending refl) h.inside
    by_block (Err s) f h =
        let same : s ≡ (why, []) = same_stop s (why, []) (script d tokens) (ap (λ r. and_then r whole) f) e in
        all_read h.pre s.1 h.read (ap (λ (t : Stop). t.1) same) h.inside

module _ (d : ℕ) (pos : 1 ≤ d) (tokens : List Token) (why : Why) (x : Token) (after : List Token) (e : script d tokens ≡ Err (why, x ∷ after)) where
  stops : ScriptStops d tokens (why, x ∷ after)
  stops = script_stops d tokens (why, x ∷ after) e

  before : List Token
  before = stops.pre

  split : tokens ≡ before ++ x ∷ after
  unfolding before
  split = stops.read

  refused_here : IsRefused tokens d before x after
  unfolding before
  refused_here =
      let f : Fails (GoodScript d) spell_script tokens (x ∷ after) = fails_of d pos tokens (why, x ∷ after) e in
      record {
        is = stops.read;
        viable = subst (λ z. Viable z d) (same_front tokens f.pre stops.pre (x ∷ after) f.read stops.read) (front_viable d tokens (x ∷ after) f);
        not_viable = not_at d tokens (why, x ∷ after) x after refl stops;
      }

  -- not at any depth
  hopeless : (why ≡ deep → ⊥) → IsDeeper before x → ⊥
  unfolding before
  hopeless shallow v =
      let n : ℕ = max d v.0 in
      let e2 : script n tokens ≡ Err (why, x ∷ after) = script_kept d pos tokens (why, x ∷ after) e shallow n (omega arith) in
      let s2 : ScriptStops n tokens (why, x ∷ after) = script_stops n tokens (why, x ∷ after) e2 in
      let same : stops.pre ≡ s2.pre = same_front tokens stops.pre s2.pre (x ∷ after) stops.read s2.read in
      not_at n tokens (why, x ∷ after) x after refl s2 (subst (λ z. Viable (z ++ x ∷ []) n) same (viable_more (stops.pre ++ x ∷ []) v.0 n (omega arith) v.1))

  -- a name that is refused elsewhere than for an attribute
  no_attribute : why ≡ bad → IsAttribute before d x → ⊥
  unfolding before
  no_attribute k a =
      let us : List Token = name const_name a.place ∷ a.viable.after in
      let read : script d (stops.pre ++ us) ≡ Ok (a.viable.tree, []) = ap (script d) (sym (append_assoc stops.pre (name const_name a.place ∷ []) a.viable.after)) ∙ viable_reads (stops.pre ++ name const_name a.place ∷ []) d a.viable in
      let alike : AlikeFor why (head us) (Some x) = subst (λ y. AlikeFor y (head us) (Some x)) (sym k) (inr ((const_name, refl), (a.text, ap (λ (z : Token). z.what) a.is))) in
      ok_err (script d (stops.pre ++ us)) (a.viable.tree, []) (why, us) read (stops.again us alike)

  with_attribute : why ≡ attribute → IsAttribute before d x
  unfolding before
  with_attribute k =
      let m : Marked (script d) stops.pre (why, x ∷ after) = stops.marked k in
      let us : List Token = stops.pre ++ name const_name m.place ∷ m.after in
      record {
        text = m.text;
        place = m.place;
        is = (let same : x ≡ name m.text m.place = first_same m.is in same);
        viable = goes_past d pos us stops.pre (name const_name m.place) m.after refl
            (past_left (script d us) (name const_name m.place ∷ m.after) (omega (arith, left_past (script d us) (x ∷ after) m.past, ap length m.is)));
      }
    where
      first_same : {y : Token} {more : List Token} → x ∷ after ≡ y ∷ more → x ≡ y
      first_same e = cc

  deeper : why ≡ deep → IsDeeper before x
  unfolding before
  deeper k =
      let g : GetsPast d tokens (x ∷ after) = script_past d pos tokens (x ∷ after) (e ∙ ap (λ y. Err (y, x ∷ after)) k) in
      (g.n, goes_past g.n (omega (arith, pos, g.more)) tokens stops.pre x after stops.read g.past)

  kind_of : (y : Why) → why ≡ y → KindOf y d before x
  kind_of bad k = (hopeless (λ h. (let no : bad ≡ deep = sym k ∙ h in cc)), no_attribute k)
  kind_of deep k = deeper k
  kind_of attribute k = (hopeless (λ h. (let no : attribute ≡ deep = sym k ∙ h in cc)), with_attribute k)

  refused_as : Refusal d tokens why (x ∷ after)
  refused_as = record { before = before; refused = x; after = after; rest_is = refl; is = refused_here; kind = kind_of why refl }

-- a refusal by the reader names the first token that no script of this depth goes on with, and says why
pub refusal : (d : ℕ) → 1 ≤ d → (tokens : List Token) → EndsWithEnd tokens → (why : Why) (rest : List Token) → script d tokens ≡ Err (why, rest) → Refusal d tokens why rest
refusal d pos tokens ends why [] e = absurd (not_at_the_end d tokens why ends e)
refusal d pos tokens ends why (x ∷ after) e = refused_as d pos tokens why x after e
