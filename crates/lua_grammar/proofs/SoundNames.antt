-- Statements that declare names are read as they are spelled.
use Rattle.std.proofs.Common.{◌≡◌, refl, sym, ◌∙◌, ap, subst, nat_eq, nat_le, ◌≤◌, if◌then◌else◌, Bool, true, false, List, [], ◌∷◌, ◌++◌, Option, Some, None, Ok, Err, arith}
use Rattle.std.proofs.lemmas.Bool.{leb-true}
use Rattle.std.specs.Cmp.Lexicographic.{pointwise, same_text}
use Rattle.lua_tokens.specs.declared.place.Place.{Place}
use Rattle.lua_tokens.specs.declared.token.Token.{Token}
use Rattle.lua_tokens.specs.declared.token.Lexeme.{Lexeme}
use Rattle.lua_tokens.specs.declared.token.Lexeme.TheVariants as l
use Rattle.lua_tokens.specs.declared.sign.Sign.TheVariants as s
use Rattle.lua_tokens.specs.declared.word.Word.TheVariants as w
use Rattle.lua_tree.specs.declared.stat.Stat as declared_stat
use Rattle.lua_tree.specs.declared.stat.Stat.TheVariants as st
use Rattle.lua_grammar.specs.declared.measured.Measured.{Measured}
use Rattle.lua_grammar.specs.Tokens.{token, sign, word, name, const_name}
use Rattle.lua_grammar.specs.Written.{Bytes, Names, end_names, more_names, Attrib, no_attrib, const, Declared, end_declared, more_declared, end_tail, empty, Stat, each, define_local, declare, Body, body, no_params, no_values, values}
use Rattle.lua_grammar.specs.Spelling.{spell, spell_names, spell_attrib, spell_declared, spell_body, spell_stat}
use Rattle.lua_grammar.specs.Erasure.{block_of, expr_of, tail_of, stats_of, names_of, is_const, declared_of}
use Rattle.lua_grammar.specs.Next.{a_name}
use Rattle.lua_grammar.specs.Input.{attribute, refuse, by_attribute, attribute_name, Turn, many}
use Rattle.lua_grammar.specs.Expressions.{Parts, measured, list, function_body}
use Rattle.lua_grammar.specs.Statements.{name_turn, for_names, for_each, attrib, declared_turn, more_declared as more_declared_names, values as values_reader, local_names, local_function, after_local}
use Rattle.lua_grammar.proofs.Shorter.{ShorterParts, name_shrinks, declared_shrinks}
use Rattle.lua_grammar.proofs.Spelled.{Opens, opens_token, opens_then, opens_none, names_app, attrib_app, declared_app, body_app}
use Rattle.lua_grammar.proofs.Found.{name_found}
use Rattle.lua_grammar.proofs.Fronts.{Meets, weaken, then_meets, on_meets, is_meets, TurnOf, loop_meets, Fails, Context, fails_in, stuck}
use Rattle.lua_grammar.proofs.Answered.{here, GoodList, ReadsList, FailsList, spell_list, GoodBody, ReadsBody, SoundParts}
use Rattle.lua_grammar.proofs.SoundArgs.{list_app, list_meets}
use Rattle.lua_grammar.proofs.SoundBody.{body_meets}
use Rattle.lua_grammar.proofs.SoundStat.{GoodStat, ReadsStat, FailsStat, nil_exp, token_in, block_end}

-- ---- rows of names with one more

abbrev and_name : Names → Place → Bytes → Place → Names
and_name end_names p n q = more_names p n q end_names
and_name (more_names x m y ns) p n q = more_names x m y (and_name ns p n q)

names_spelled : (ns : Names) (p : Place) (n : Bytes) (q : Place) (k : List Token) → spell_names (and_name ns p n q) k ≡ spell_names ns (sign s.Comma p ∷ name n q ∷ k)
names_spelled end_names p n q k = refl
names_spelled (more_names x m y ns) p n q k = ap (λ z. sign s.Comma x ∷ name m y ∷ z) (names_spelled ns p n q k)

and_names_of : (ns : Names) (p : Place) (n : Bytes) (q : Place) → names_of (and_name ns p n q) ≡ names_of ns ++ (n, q) ∷ []
and_names_of end_names p n q = refl
and_names_of (more_names x m y ns) p n q = ap (λ z. (m, y) ∷ z) (and_names_of ns p n q)

abbrev and_declared : Declared → Place → Bytes → Place → Attrib → Declared
and_declared end_declared p n q a = more_declared p n q a end_declared
and_declared (more_declared x m y b ds) p n q a = more_declared x m y b (and_declared ds p n q a)

declared_spelled : (ds : Declared) (p : Place) (n : Bytes) (q : Place) (a : Attrib) (k : List Token)
    → spell_declared (and_declared ds p n q a) k ≡ spell_declared ds (sign s.Comma p ∷ name n q ∷ spell_attrib a k)
declared_spelled end_declared p n q a k = refl
declared_spelled (more_declared x m y b ds) p n q a k = ap (λ z. sign s.Comma x ∷ name m y ∷ spell_attrib b z) (declared_spelled ds p n q a k)

and_declared_of : (ds : Declared) (p : Place) (n : Bytes) (q : Place) (a : Attrib) → declared_of (and_declared ds p n q a) ≡ declared_of ds ++ (n, is_const a, q) ∷ []
and_declared_of end_declared p n q a = refl
and_declared_of (more_declared x m y b ds) p n q a = ap (λ z. (m, is_const b, y) ∷ z) (and_declared_of ds p n q a)

module _ (P Q R : Parts) (hp : ShorterParts P) (hq : ShorterParts Q) (hr : ShorterParts R) (sp : SoundParts P) where
  -- ---- `for` with an iterator

  module _ (room : 1 ≤ P.depth) (p : Place) (n : Bytes) (q : Place) (us : List Token) where
    abbrev for_tokens : List Token
    for_tokens = word w.For p ∷ name n q ∷ us

    abbrev for_first : Option Lexeme
    for_first = Some (l.Word w.For)

    abbrev in_for : Names → List Token → List Token
    in_for ns z = word w.For p ∷ name n q ∷ spell_names ns z

    opens_for : (ns : Names) → Opens (in_for ns)
    opens_for ns = opens_then (λ z. word w.For p ∷ name n q ∷ z) (spell_names ns) (λ u v. refl) (names_app ns)

    abbrev short_for : Names → Stat
    short_for ns = each p n q ns here nil_exp end_tail here empty here

    short_good : (ns : Names) → GoodStat P.depth for_first (short_for ns)
    short_good ns = record { formed = (tt, tt, tt); low = omega (arith, room); begins = refl }

    record NamesSoFar (found : List (Bytes × Place)) (rest : List Token) : Type 0 where
      written : Names
      what : found ≡ (n, q) ∷ names_of written
      spelled : us ≡ spell_names written rest

    record AllNames (found : List (Bytes × Place)) (rest : List Token) : Type 0 where
      written : Names
      place : Place
      what : found ≡ (n, q) ∷ names_of written
      spelled : us ≡ spell_names written (word w.In place ∷ rest)

    no_in : (found : List (Bytes × Place)) (rest : List Token) → NamesSoFar found rest → FailsStat P.depth for_first for_tokens rest
    no_in found rest i = stuck (GoodStat P.depth for_first) spell_stat (in_for i.written) (opens_for i.written) (word w.In here ∷ spell nil_exp (word w.Do here ∷ word w.End here ∷ [])) (short_for i.written)
        (short_good i.written) refl for_tokens rest (ap (λ z. word w.For p ∷ name n q ∷ z) i.spelled)

    name_step : (found : List (Bytes × Place)) (rest : List Token) → NamesSoFar found rest → Meets (TurnOf NamesSoFar AllNames) (FailsStat P.depth for_first for_tokens) (name_turn P Q R found rest)
    name_step found rest i =
        let T : Turn (List (Bytes × Place)) (List (Bytes × Place)) → List Token → Type 0 = TurnOf NamesSoFar AllNames in
        let Z : List Token → Type 0 = FailsStat P.depth for_first for_tokens in
        is_meets (l.Sign s.Comma) tt true _ _ T Z rest (no_in found rest i)
        (λ x vs _ e.
        let at_name : us ≡ spell_names i.written (sign s.Comma x ∷ vs) = i.spelled ∙ ap (spell_names i.written) e in
        let z : Z vs = stuck (GoodStat P.depth for_first) spell_stat (λ z. in_for i.written (sign s.Comma x ∷ z)) (opens_then (in_for i.written) (λ z. sign s.Comma x ∷ z) (opens_for i.written) (opens_token (sign s.Comma x)))
        (name [] here ∷ word w.In here ∷ spell nil_exp (word w.Do here ∷ word w.End here ∷ [])) (short_for (and_name i.written x [] here)) (short_good (and_name i.written x [] here))
        (ap (λ z. word w.For p ∷ name n q ∷ z) (names_spelled i.written x [] here _)) for_tokens vs (ap (λ z. word w.For p ∷ name n q ∷ z) at_name) in
        on_meets a_name (λ m. l.Name m) name_found true _ refuse T Z vs z
        (λ m y ws _ _ h. record {
          written = and_name i.written x m y;
          what = ap (λ z. z ++ (m, y) ∷ []) i.what ∙ ap (λ z. (n, q) ∷ z) (sym (and_names_of i.written x m y));
          spelled = at_name ∙ ap (λ z. spell_names i.written (sign s.Comma x ∷ z)) h ∙ sym (names_spelled i.written x m y ws);
        })
        (λ _. z))
        (λ _. is_meets (l.Word w.In) tt true _ refuse T Z rest (no_in found rest i)
        (λ x vs _ e. record { written = i.written; place = x; what = i.what; spelled = i.spelled ∙ ap (spell_names i.written) e })
        (λ _. no_in found rest i))

    pub each_meets : Meets (ReadsStat P.depth for_tokens) (FailsStat P.depth for_first for_tokens) (for_each P Q R n q us)
    unfolding for_each for_names
    each_meets =
        let T : Measured declared_stat.Stat → List Token → Type 0 = ReadsStat P.depth for_tokens in
        let Z : List Token → Type 0 = FailsStat P.depth for_first for_tokens in
        then_meets _ AllNames T Z Z (many (name_turn P Q R) ((n, q) ∷ []) us)
        (loop_meets (name_turn P Q R) (name_shrinks P Q R hp hq hr) NamesSoFar AllNames Z name_step ((n, q) ∷ []) us (record { written = end_names; what = refl; spelled = refl }))
        (λ _ g. g)
        (λ found vs a.
        let F1 : List Token → List Token = λ z. in_for a.written (word w.In a.place ∷ z) in
        let opens1 : Opens F1 = opens_then (in_for a.written) (λ z. word w.In a.place ∷ z) (opens_for a.written) (opens_token (word w.In a.place)) in
        let at1 : for_tokens ≡ F1 vs = ap (λ z. word w.For p ∷ name n q ∷ z) a.spelled in
        let list_in : Context (GoodList P.depth) spell_list (GoodStat P.depth for_first) spell_stat F1 = record {
          opens = opens1;
          close = word w.Do here ∷ word w.End here ∷ [];
          put = λ x. each p n q a.written a.place x.0 x.1 here empty here;
          good = λ x g. record { formed = (g.formed, g.tail, tt); low = omega (arith, g.low, room); begins = refl };
          spelled = λ x g. refl;
        } in
        then_meets _ (ReadsList P.depth vs) T (FailsList P.depth vs) Z (list P vs) (list_meets P hp sp room vs) (λ rest f. fails_in list_in list_app for_tokens vs rest at1 f)
        (λ es ws r.
        let F2 : List Token → List Token = λ z. F1 (spell_list r.written z) in
        let opens2 : Opens F2 = opens_then F1 (spell_list r.written) opens1 (list_app r.written) in
        let at2 : for_tokens ≡ F2 ws = at1 ∙ ap F1 r.spelled in
        token_in T Z (l.Word w.Do) tt ws (stuck (GoodStat P.depth for_first) spell_stat F2 opens2 list_in.close (list_in.put r.written) (list_in.good r.written r.good) refl for_tokens ws at2)
        _ (λ x xs e.
        block_end P sp room for_first (λ z. F2 (word w.Do x ∷ z)) (opens_then F2 (λ z. word w.Do x ∷ z) opens2 (opens_token (word w.Do x)))
        (λ ss y. each p n q a.written a.place r.written.0 r.written.1 x ss y) (λ ss y k. refl)
        (λ ss y g. record { formed = (r.good.formed, r.good.tail, g.formed); low = omega (arith, r.good.low, g.low); begins = refl })
        for_tokens xs (at2 ∙ ap F2 e) _
        (λ b end y r2.
        ap (λ z. st.ForIn z (expr_of r.written.0 ∷ tail_of r.written.1) (block_of (stats_of r2.written)) ∷ []) (sym a.what)
        ∙ ap (λ z. st.ForIn found z (block_of (stats_of r2.written)) ∷ []) (sym r.what) ∙ ap (λ z. st.ForIn found es.what (block_of z) ∷ []) (sym r2.what))
        (λ b end y r2. omega (arith, r.depth, r2.depth)) (λ ss y. refl))))

  -- ---- attributes

  record ReadsAttrib (ts : List Token) (x : Bool) (rest : List Token) : Type 0 where
    written : Attrib
    what : x ≡ is_const written
    spelled : ts ≡ spell_attrib written rest

  abbrev AnyAttrib : Attrib → Type 0
  AnyAttrib a = Unit {0}

  constant_meets : (us : List Token) → Meets (λ q rest. us ≡ name const_name q ∷ rest) (λ rest. rest ≡ us) (attribute_name us)
  unfolding attribute_name
  constant_meets [] = refl
  constant_meets (x ∷ us) = at_name (a_name x.what) refl
    where
      at_text : (n : Bytes) (c : Bool) → pointwise nat_eq n const_name ≡ c → x.what ≡ l.Name n
          → Meets (λ q rest. x ∷ us ≡ name const_name q ∷ rest) (λ rest. rest ≡ x ∷ us) (if c then Ok (x.place, us) else Err (attribute, x ∷ us))
      at_text n true e h = ap (λ z. token z x.place ∷ us) (h ∙ ap l.Name (same_text n const_name (sym e)))
      at_text n false e h = refl

      at_name : (o : Option Bytes) → a_name x.what ≡ o → Meets (λ q rest. x ∷ us ≡ name const_name q ∷ rest) (λ rest. rest ≡ x ∷ us) (by_attribute o x us)
      at_name None e = refl
      at_name (Some n) e = at_text n (pointwise nat_eq n const_name) refl (name_found x.what n e)

  attrib_meets : (ts : List Token) → Meets (ReadsAttrib ts) (Fails AnyAttrib spell_attrib ts) (attrib P Q R ts)
  unfolding attrib
  attrib_meets ts =
      let T : Bool → List Token → Type 0 = ReadsAttrib ts in
      let Z : List Token → Type 0 = Fails AnyAttrib spell_attrib ts in
      is_meets (l.Sign s.Less) tt true _ _ T Z ts (stuck AnyAttrib spell_attrib (λ z. z) opens_none [] no_attrib tt refl ts ts refl)
      (λ p us _ e.
      then_meets _ (λ q rest. us ≡ name const_name q ∷ rest) T (λ rest. rest ≡ us) Z (attribute_name us) (constant_meets us)
      (λ rest h. stuck AnyAttrib spell_attrib (λ z. sign s.Less p ∷ z) (opens_token (sign s.Less p)) (name const_name here ∷ sign s.Greater here ∷ []) (const p here here) tt refl ts rest
      (e ∙ ap (λ z. sign s.Less p ∷ z) (sym h)))
      (λ q vs e1.
      let at1 : ts ≡ sign s.Less p ∷ name const_name q ∷ vs = e ∙ ap (λ z. sign s.Less p ∷ z) e1 in
      token_in T Z (l.Sign s.Greater) tt vs
      (stuck AnyAttrib spell_attrib (λ z. sign s.Less p ∷ name const_name q ∷ z) (λ u v. refl) (sign s.Greater here ∷ []) (const p q here) tt refl ts vs at1)
      _ (λ r ws e2. record { written = const p q r; what = refl; spelled = at1 ∙ ap (λ z. sign s.Less p ∷ name const_name q ∷ z) e2 })))
      (λ _. record { written = no_attrib; what = refl; spelled = refl })

  -- ---- `local`

  abbrev local_first : Option Lexeme
  local_first = Some (l.Word w.Local)

  module _ (p : Place) (n : Bytes) (q : Place) (us : List Token) where
    abbrev local_tokens : List Token
    local_tokens = word w.Local p ∷ name n q ∷ us

    abbrev in_local : Attrib → Declared → List Token → List Token
    in_local a ds z = word w.Local p ∷ name n q ∷ spell_attrib a (spell_declared ds z)

    opens_local : (a : Attrib) (ds : Declared) → Opens (in_local a ds)
    opens_local a ds = opens_then (λ z. word w.Local p ∷ name n q ∷ spell_attrib a z) (spell_declared ds) (opens_then (λ z. word w.Local p ∷ name n q ∷ z) (spell_attrib a) (λ u v. refl) (attrib_app a)) (declared_app ds)

    local_good : (a : Attrib) (ds : Declared) → GoodStat P.depth local_first (declare p n q a ds no_values)
    local_good a ds = record { formed = tt; low = omega arith; begins = refl }

    record DeclaredSoFar (found : List (Bytes × Bool × Place)) (rest : List Token) : Type 0 where
      mark : Attrib
      written : Declared
      what : found ≡ (n, is_const mark, q) ∷ declared_of written
      spelled : us ≡ spell_attrib mark (spell_declared written rest)

    complete : (found : List (Bytes × Bool × Place)) (rest : List Token) → DeclaredSoFar found rest → FailsStat P.depth local_first local_tokens rest
    complete found rest i = stuck (GoodStat P.depth local_first) spell_stat (in_local i.mark i.written) (opens_local i.mark i.written) [] (declare p n q i.mark i.written no_values) (local_good i.mark i.written) refl
        local_tokens rest (ap (λ z. word w.Local p ∷ name n q ∷ z) i.spelled)

    declared_step : (found : List (Bytes × Bool × Place)) (rest : List Token) → DeclaredSoFar found rest
        → Meets (TurnOf DeclaredSoFar DeclaredSoFar) (FailsStat P.depth local_first local_tokens) (declared_turn P Q R found rest)
    declared_step found rest i =
        let T : Turn (List (Bytes × Bool × Place)) (List (Bytes × Bool × Place)) → List Token → Type 0 = TurnOf DeclaredSoFar DeclaredSoFar in
        let Z : List Token → Type 0 = FailsStat P.depth local_first local_tokens in
        is_meets (l.Sign s.Comma) tt true _ _ T Z rest (complete found rest i)
        (λ c vs _ e.
        let at1 : us ≡ spell_attrib i.mark (spell_declared i.written (sign s.Comma c ∷ vs)) = i.spelled ∙ ap (λ z. spell_attrib i.mark (spell_declared i.written z)) e in
        let z : Z vs = stuck (GoodStat P.depth local_first) spell_stat (λ z. in_local i.mark i.written (sign s.Comma c ∷ z))
        (opens_then (in_local i.mark i.written) (λ z. sign s.Comma c ∷ z) (opens_local i.mark i.written) (opens_token (sign s.Comma c)))
        (name [] here ∷ []) (declare p n q i.mark (and_declared i.written c [] here no_attrib) no_values) (local_good i.mark (and_declared i.written c [] here no_attrib))
        (ap (λ z. word w.Local p ∷ name n q ∷ spell_attrib i.mark z) (declared_spelled i.written c [] here no_attrib [])) local_tokens vs (ap (λ z. word w.Local p ∷ name n q ∷ z) at1) in
        on_meets a_name (λ m. l.Name m) name_found true _ refuse T Z vs z
        (λ m y ws _ _ h.
        let F : List Token → List Token = λ z. in_local i.mark i.written (sign s.Comma c ∷ name m y ∷ z) in
        let at2 : us ≡ spell_attrib i.mark (spell_declared i.written (sign s.Comma c ∷ name m y ∷ ws)) = at1 ∙ ap (λ z. spell_attrib i.mark (spell_declared i.written (sign s.Comma c ∷ z))) h in
        let attrib_in : Context AnyAttrib spell_attrib (GoodStat P.depth local_first) spell_stat F = record {
          opens = opens_then (in_local i.mark i.written) (λ z. sign s.Comma c ∷ name m y ∷ z) (opens_local i.mark i.written) (λ u v. refl);
          close = [];
          put = λ a. declare p n q i.mark (and_declared i.written c m y a) no_values;
          good = λ a g. local_good i.mark (and_declared i.written c m y a);
          spelled = λ a g. ap (λ z. word w.Local p ∷ name n q ∷ spell_attrib i.mark z) (declared_spelled i.written c m y a []);
        } in
        then_meets _ (ReadsAttrib ws) T (Fails AnyAttrib spell_attrib ws) Z (attrib P Q R ws) (attrib_meets ws)
        (λ end f. fails_in attrib_in attrib_app local_tokens ws end (ap (λ z. word w.Local p ∷ name n q ∷ z) at2) f)
        (λ a end r. record {
          mark = i.mark;
          written = and_declared i.written c m y r.written;
          what = ap (λ z. z ++ (m, a, y) ∷ []) i.what ∙ ap (λ z. (n, is_const i.mark, q) ∷ (declared_of i.written ++ (m, z, y) ∷ [])) r.what
              ∙ ap (λ z. (n, is_const i.mark, q) ∷ z) (sym (and_declared_of i.written c m y r.written));
          spelled = at2 ∙ ap (λ z. spell_attrib i.mark (spell_declared i.written (sign s.Comma c ∷ name m y ∷ z))) r.spelled
              ∙ ap (spell_attrib i.mark) (sym (declared_spelled i.written c m y r.written end));
        }))
        (λ _. z))
        (λ _. i)

    pub names_meet : Meets (ReadsStat P.depth local_tokens) (FailsStat P.depth local_first local_tokens) (local_names P Q R n q us)
    unfolding local_names more_declared_names values_reader
    names_meet =
        let T : Measured declared_stat.Stat → List Token → Type 0 = ReadsStat P.depth local_tokens in
        let Z : List Token → Type 0 = FailsStat P.depth local_first local_tokens in
        let first_in : Context AnyAttrib spell_attrib (GoodStat P.depth local_first) spell_stat (λ z. word w.Local p ∷ name n q ∷ z) = record {
          opens = λ u v. refl;
          close = [];
          put = λ a. declare p n q a end_declared no_values;
          good = λ a g. local_good a end_declared;
          spelled = λ a g. refl;
        } in
        then_meets _ (ReadsAttrib us) T (Fails AnyAttrib spell_attrib us) Z (attrib P Q R us) (attrib_meets us)
        (λ rest f. fails_in first_in attrib_app local_tokens us rest refl f)
        (λ a vs r0.
        then_meets _ DeclaredSoFar T Z Z (many (declared_turn P Q R) ((n, a, q) ∷ []) vs)
        (loop_meets (declared_turn P Q R) (declared_shrinks P Q R hp hq hr) DeclaredSoFar DeclaredSoFar Z declared_step ((n, a, q) ∷ []) vs
        (record { mark = r0.written; written = end_declared; what = ap (λ z. (n, z, q) ∷ []) r0.what; spelled = r0.spelled }))
        (λ _ g. g)
        (λ found ws i.
        let F : List Token → List Token = in_local i.mark i.written in
        let at1 : local_tokens ≡ F ws = ap (λ z. word w.Local p ∷ name n q ∷ z) i.spelled in
        then_meets _ (λ es end. ReadsStat P.depth local_tokens (measured (st.Local found es.what) es.depth) end) T Z Z _
        (is_meets (l.Sign s.Equal) tt (nat_le 1 P.depth) _ _ (λ es end. ReadsStat P.depth local_tokens (measured (st.Local found es.what) es.depth) end) Z ws (complete found ws i)
        (λ x xs c e.
        let room : 1 ≤ P.depth = leb-true 1 P.depth c in
        let at2 : local_tokens ≡ F (sign s.Equal x ∷ xs) = at1 ∙ ap F e in
        let list_in : Context (GoodList P.depth) spell_list (GoodStat P.depth local_first) spell_stat (λ z. F (sign s.Equal x ∷ z)) = record {
          opens = opens_then F (λ z. sign s.Equal x ∷ z) (opens_local i.mark i.written) (opens_token (sign s.Equal x));
          close = [];
          put = λ y. declare p n q i.mark i.written (values x y.0 y.1);
          good = λ y g. record { formed = (g.formed, g.tail); low = g.low; begins = refl };
          spelled = λ y g. refl;
        } in
        weaken (ReadsList P.depth xs) _ (FailsList P.depth xs) Z (list P xs)
        (λ es end r. record {
          written = declare p n q i.mark i.written (values x r.written.0 r.written.1);
          formed = (r.good.formed, r.good.tail);
          low = r.good.low;
          what = ap (λ z. st.Local z (expr_of r.written.0 ∷ tail_of r.written.1) ∷ []) (sym i.what) ∙ ap (λ z. st.Local found z ∷ []) (sym r.what);
          depth = r.depth;
          spelled = at2 ∙ ap (λ z. F (sign s.Equal x ∷ z)) r.spelled;
          apart = r.no_call;
        })
        (λ end f. fails_in list_in list_app local_tokens xs end at2 f)
        (list_meets P hp sp room xs))
        (λ _. record {
          written = declare p n q i.mark i.written no_values;
          formed = tt;
          low = omega arith;
          what = ap (λ z. st.Local z [] ∷ []) (sym i.what);
          depth = refl;
          spelled = at1;
          apart = λ _. refl;
        }))
        (λ _ g. g) (λ es end r. r)))

  -- ---- `local function`

  abbrev pub empty_body : Body
  empty_body = body here no_params here empty here

  pub local_function_meets : 1 ≤ P.depth → (p q : Place) (us : List Token)
      → Meets (ReadsStat P.depth (word w.Local p ∷ word w.Function q ∷ us)) (FailsStat P.depth local_first (word w.Local p ∷ word w.Function q ∷ us)) (local_function P Q R q us)
  unfolding local_function
  local_function_meets room p q us =
      let ts : List Token = word w.Local p ∷ word w.Function q ∷ us in
      let T : Measured declared_stat.Stat → List Token → Type 0 = ReadsStat P.depth ts in
      let Z : List Token → Type 0 = FailsStat P.depth local_first ts in
      let z : Z us = stuck (GoodStat P.depth local_first) spell_stat (λ z. word w.Local p ∷ word w.Function q ∷ z) (λ u v. refl) (name [] here ∷ spell_body empty_body []) (define_local p q [] here empty_body)
      (record { formed = tt; low = omega (arith, room); begins = refl }) refl ts us refl in
      on_meets a_name (λ n. l.Name n) name_found true _ refuse T Z us z
      (λ n r vs _ _ e.
      let at1 : ts ≡ word w.Local p ∷ word w.Function q ∷ name n r ∷ vs = ap (λ z. word w.Local p ∷ word w.Function q ∷ z) e in
      let body_in : Context (GoodBody P.depth) spell_body (GoodStat P.depth local_first) spell_stat (λ z. word w.Local p ∷ word w.Function q ∷ name n r ∷ z) = record {
        opens = λ u v. refl;
        close = [];
        put = λ b. define_local p q n r b;
        good = λ b g. record { formed = g.formed; low = g.low; begins = refl };
        spelled = λ b g. refl;
      } in
      then_meets _ (ReadsBody P.depth q [] vs) T (Fails (GoodBody P.depth) spell_body vs) Z (function_body P q [] vs) (body_meets P hp sp [] room q vs)
      (λ rest f. fails_in body_in body_app ts vs rest at1 f)
      (λ b rest h. record {
        written = define_local p q n r h.written;
        formed = h.good.formed;
        low = h.good.low;
        what = ap (λ z. st.LocalFunction n r z ∷ []) (sym h.what);
        depth = h.depth;
        spelled = at1 ∙ ap (λ z. word w.Local p ∷ word w.Function q ∷ name n r ∷ z) h.spelled;
        apart = λ _. refl;
      }))
      (λ _. z)

  pub local_meets : (p : Place) (us : List Token) → Meets (ReadsStat P.depth (word w.Local p ∷ us)) (FailsStat P.depth local_first (word w.Local p ∷ us)) (after_local P Q R us)
  unfolding after_local
  local_meets p us =
      let ts : List Token = word w.Local p ∷ us in
      let T : Measured declared_stat.Stat → List Token → Type 0 = ReadsStat P.depth ts in
      let Z : List Token → Type 0 = FailsStat P.depth local_first ts in
      let z : Z us = stuck (GoodStat P.depth local_first) spell_stat (λ z. word w.Local p ∷ z) (opens_token (word w.Local p)) (name [] here ∷ []) (declare p [] here no_attrib end_declared no_values)
      (record { formed = tt; low = omega arith; begins = refl }) refl ts us refl in
      is_meets (l.Word w.Function) tt (nat_le 1 P.depth) _ _ T Z us z
      (λ q vs c e. subst (λ y. Meets (ReadsStat P.depth (word w.Local p ∷ y)) (FailsStat P.depth local_first (word w.Local p ∷ y)) (local_function P Q R q vs)) (sym e) (local_function_meets (leb-true 1 P.depth c) p q vs))
      (λ _. on_meets a_name (λ n. l.Name n) name_found true _ refuse T Z us z
      (λ n q vs _ _ e. subst (λ y. Meets (ReadsStat P.depth (word w.Local p ∷ y)) (FailsStat P.depth local_first (word w.Local p ∷ y)) (local_names P Q R n q vs)) (sym e) (names_meet p n q vs))
      (λ _. z))
