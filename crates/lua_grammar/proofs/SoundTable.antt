-- Table constructors are read as they are spelled.
use Rattle.std.proofs.Common.{◌≡◌, refl, sym, ◌∙◌, ap, subst, ℕ, zero, suc, ◌+◌, max, nat_le, ◌≤◌, true, List, [], ◌∷◌, ◌++◌, arith}
use Rattle.std.proofs.lemmas.Bool.{leb-true}
use Rattle.lua_tokens.specs.declared.place.Place.{Place}
use Rattle.lua_tokens.specs.declared.token.Token.{Token}
use Rattle.lua_tokens.specs.declared.token.Lexeme.TheVariants as l
use Rattle.lua_tokens.specs.declared.sign.Sign.TheVariants as s
use Rattle.lua_tree.specs.declared.expr.Expr.{Expr}
use Rattle.lua_tree.specs.declared.expr.ExprKind.TheVariants as k
use Rattle.lua_tree.specs.declared.expr.Field as declared
use Rattle.lua_tree.specs.declared.expr.Field.TheVariants as f
use Rattle.lua_grammar.specs.declared.measured.Measured.{Measured}
use Rattle.lua_grammar.specs.Tokens.{token, sign, name}
use Rattle.lua_grammar.specs.Written.{Bytes, Separator, comma, semicolon, Exp, atom, nil, Fields, no_fields, last_field, more_fields, Field, single, titled, keyed}
use Rattle.lua_grammar.specs.Spelling.{separator_lexeme, spell, spell_fields, spell_field}
use Rattle.lua_grammar.specs.Formed.{FormedFields, FormedField}
use Rattle.lua_grammar.specs.Erasure.{node, expr_of, fields_of, field_of}
use Rattle.lua_grammar.specs.Next.{a_name}
use Rattle.lua_grammar.specs.Input.{◌>>=◌, expect, Turn, many}
use Rattle.lua_grammar.specs.Expressions.{Parts, measured, nothing, with_one, separated, single_field, named_field, keyed_field, field_turn, table as table_reader, name_leaf}
use Rattle.lua_grammar.proofs.Heights.{fields_height, field_height}
use Rattle.lua_grammar.proofs.Shorter.{ShorterParts, field_shrinks}
use Rattle.lua_grammar.proofs.Spelled.{opens_token, opens_then, opens_none, spell_app, fields_app, field_app}
use Rattle.lua_grammar.proofs.Found.{name_found}
use Rattle.lua_grammar.proofs.Fronts.{Meets, then_meets, on_meets, is_meets, expect_meets, TurnOf, loop_meets, Fails, Context, fails_in, stuck}
use Rattle.lua_grammar.proofs.Answered.{here, Good, ReadsExpr, FailsExpr, spell_table, GoodTable, ReadsTable, SoundParts}

-- ---- fields after which a separator stands, and further ones

abbrev pub IsOpen : Fields → Type 0
IsOpen no_fields = Unit {0}
IsOpen (last_field x) = ⊥
IsOpen (more_fields x y p fs) = IsOpen fs

abbrev pub and_fields : Fields → Fields → Fields
and_fields no_fields g = g
and_fields (last_field x) g = last_field x
and_fields (more_fields x y p fs) g = more_fields x y p (and_fields fs g)

and_spelled : (fs g : Fields) (k : List Token) → IsOpen fs → spell_fields (and_fields fs g) k ≡ spell_fields fs (spell_fields g k)
and_spelled no_fields g k o = refl
and_spelled (last_field x) g k o = absurd o
and_spelled (more_fields x y p fs) g k o = ap (λ z. spell_field x (token (separator_lexeme y) p ∷ z)) (and_spelled fs g k o)

and_of : (fs g : Fields) → IsOpen fs → fields_of (and_fields fs g) ≡ fields_of fs ++ fields_of g
and_of no_fields g o = refl
and_of (last_field x) g o = absurd o
and_of (more_fields x y p fs) g o = ap (λ z. field_of x ∷ z) (and_of fs g o)

and_height : (fs g : Fields) → IsOpen fs → fields_height (and_fields fs g) ≡ max (fields_height fs) (fields_height g)
and_height no_fields g o = omega arith
and_height (last_field x) g o = absurd o
and_height (more_fields x y p fs) g o = omega (arith, and_height fs g o)

and_formed : (fs g : Fields) → IsOpen fs → FormedFields fs → FormedFields g → FormedFields (and_fields fs g)
and_formed no_fields g o h i = i
and_formed (last_field x) g o h i = absurd o
and_formed (more_fields x y p fs) g o h i = (h.0, and_formed fs g o h.1 i)

and_open : (fs : Fields) (x : Field) (y : Separator) (p : Place) → IsOpen fs → IsOpen (and_fields fs (more_fields x y p no_fields))
and_open no_fields x y p o = tt
and_open (last_field z) x y p o = absurd o
and_open (more_fields z w q fs) x y p o = and_open fs x y p o

-- ---- fields so far

record GoodField (d : ℕ) (x : Field) : Type 0 where
  formed : FormedField x
  low : field_height x ≤ d

module _ (P : Parts) (hp : ShorterParts P) (sp : SoundParts P) (ts : List Token) where
  record SoFar (found : Measured (List declared.Field)) (us : List Token) : Type 0 where
    written : Fields
    opened : IsOpen written
    formed : FormedFields written
    low : fields_height written ≤ P.depth
    what : found.what ≡ fields_of written
    depth : found.depth ≡ fields_height written
    spelled : ts ≡ spell_fields written us

  record AllFields (found : Measured (List declared.Field)) (rest : List Token) : Type 0 where
    written : Fields × Place
    good : GoodTable (P.depth + 1) written
    what : found.what ≡ fields_of written.0
    depth : found.depth ≡ fields_height written.0
    spelled : ts ≡ spell_table written rest

  abbrev FailsTable : List Token → Type 0
  FailsTable rest = Fails (GoodTable (P.depth + 1)) spell_table ts rest

  -- one field more in its place
  abbrev in_fields : (fs : Fields) → IsOpen fs → FormedFields fs → fields_height fs ≤ P.depth → Context (GoodField P.depth) spell_field (GoodTable (P.depth + 1)) spell_table (spell_fields fs)
  in_fields fs o h low = record {
    opens = fields_app fs;
    close = sign s.CloseBrace here ∷ [];
    put = λ x. (and_fields fs (last_field x), here);
    good = λ x g. record { formed = and_formed fs (last_field x) o h g.formed; low = omega (arith, and_height fs (last_field x) o, low, g.low) };
    spelled = λ x g. and_spelled fs (last_field x) (sign s.CloseBrace here ∷ []) o;
  }

  abbrev at_fields : (found : Measured (List declared.Field)) (us : List Token) (i : SoFar found us) → Context (GoodField P.depth) spell_field (GoodTable (P.depth + 1)) spell_table (spell_fields i.written)
  at_fields found us i = in_fields i.written i.opened i.formed i.low

  -- closed here
  closed : (found : Measured (List declared.Field)) (us : List Token) → SoFar found us → FailsTable us
  closed found us i = stuck (GoodTable (P.depth + 1)) spell_table (spell_fields i.written) (fields_app i.written) (sign s.CloseBrace here ∷ []) (i.written, here)
      (record { formed = i.formed; low = omega (arith, i.low) }) refl ts us i.spelled

  -- ---- after a field

  record OneMore (found : Measured (List declared.Field)) (x : Measured declared.Field) (us : List Token) : Type 0 where
    vs : List Token
    before : SoFar found vs
    written : Field
    good : GoodField P.depth written
    what : x.what ≡ field_of written
    depth : x.depth ≡ field_height written
    spelled : vs ≡ spell_field written us

  closed_after : (found : Measured (List declared.Field)) (x : Measured declared.Field) (us : List Token) → OneMore found x us → FailsTable us
  closed_after found x us o = fails_in (at_fields found o.vs o.before) field_app ts o.vs us o.before.spelled
      (stuck (GoodField P.depth) spell_field (spell_field o.written) (field_app o.written) [] o.written o.good refl o.vs us o.spelled)

  and_separator : (found : Measured (List declared.Field)) (x : Measured declared.Field) (y : Separator) (p : Place) (us : List Token) → OneMore found x (token (separator_lexeme y) p ∷ us) → SoFar (with_one found x) us
  and_separator found x y p us o = record {
    written = and_fields o.before.written (more_fields o.written y p no_fields);
    opened = and_open o.before.written o.written y p o.before.opened;
    formed = and_formed o.before.written (more_fields o.written y p no_fields) o.before.opened o.before.formed (o.good.formed, tt);
    low = omega (arith, and_height o.before.written (more_fields o.written y p no_fields) o.before.opened, o.before.low, o.good.low);
    what = ap (λ z. z ++ x.what ∷ []) o.before.what ∙ ap (λ z. fields_of o.before.written ++ z ∷ []) o.what ∙ sym (and_of o.before.written (more_fields o.written y p no_fields) o.before.opened);
    depth = omega (arith, and_height o.before.written (more_fields o.written y p no_fields) o.before.opened, o.before.depth, o.depth);
    spelled = o.before.spelled ∙ ap (spell_fields o.before.written) o.spelled ∙ sym (and_spelled o.before.written (more_fields o.written y p no_fields) us o.before.opened);
  }

  and_brace : (found : Measured (List declared.Field)) (x : Measured declared.Field) (p : Place) (us : List Token) → OneMore found x (sign s.CloseBrace p ∷ us) → AllFields (with_one found x) us
  and_brace found x p us o = record {
    written = (and_fields o.before.written (last_field o.written), p);
    good = record {
      formed = and_formed o.before.written (last_field o.written) o.before.opened o.before.formed o.good.formed;
      low = omega (arith, and_height o.before.written (last_field o.written) o.before.opened, o.before.low, o.good.low);
    };
    what = ap (λ z. z ++ x.what ∷ []) o.before.what ∙ ap (λ z. fields_of o.before.written ++ z ∷ []) o.what ∙ sym (and_of o.before.written (last_field o.written) o.before.opened);
    depth = omega (arith, and_height o.before.written (last_field o.written) o.before.opened, o.before.depth, o.depth);
    spelled = o.before.spelled ∙ ap (spell_fields o.before.written) o.spelled ∙ sym (and_spelled o.before.written (last_field o.written) (sign s.CloseBrace p ∷ us) o.before.opened);
  }

  abbrev FieldTurn : Turn (Measured (List declared.Field)) (Measured (List declared.Field)) → List Token → Type 0
  FieldTurn = TurnOf SoFar AllFields

  separated_meets : (found : Measured (List declared.Field)) (x : Measured declared.Field) (us : List Token) → OneMore found x us → Meets FieldTurn FailsTable (separated P (with_one found x) us)
  separated_meets found x us o =
      is_meets (l.Sign s.Comma) tt true _ _ FieldTurn FailsTable us (closed_after found x us o) (λ p vs _ e. and_separator found x comma p vs (subst (OneMore found x) e o))
      (λ _. is_meets (l.Sign s.Semicolon) tt true _ _ FieldTurn FailsTable us (closed_after found x us o) (λ p vs _ e. and_separator found x semicolon p vs (subst (OneMore found x) e o))
      (λ _. is_meets (l.Sign s.CloseBrace) tt true _ _ FieldTurn FailsTable us (closed_after found x us o) (λ p vs _ e. and_brace found x p vs (subst (OneMore found x) e o))
      (λ _. closed_after found x us o)))

  -- ---- one field

  abbrev single_in : (d : ℕ) → Context (Good d 0) spell (GoodField d) spell_field (λ z. z)
  single_in d = record { opens = opens_none; close = []; put = λ e. single e; good = λ e g. record { formed = g.formed; low = g.low }; spelled = λ e g. refl }

  abbrev titled_in : (d : ℕ) (n : Bytes) (p q : Place) → Context (Good d 0) spell (GoodField d) spell_field (λ z. name n p ∷ sign s.Equal q ∷ z)
  titled_in d n p q = record { opens = λ u v. refl; close = []; put = λ e. titled n p q e; good = λ e g. record { formed = g.formed; low = g.low }; spelled = λ e g. refl }

  abbrev key_in : (d : ℕ) (p : Place) → 1 ≤ d → Context (Good d 0) spell (GoodField d) spell_field (λ z. sign s.OpenBracket p ∷ z)
  key_in d p room = record {
    opens = opens_token (sign s.OpenBracket p);
    close = sign s.CloseBracket here ∷ sign s.Equal here ∷ spell (atom nil here) [];
    put = λ e. keyed p e here here (atom nil here);
    good = λ e g. record { formed = (g.formed, tt); low = omega (arith, g.low, room) };
    spelled = λ e g. refl;
  }

  abbrev value_in : (d : ℕ) (p : Place) (x : Exp) (q r : Place) → Good d 0 x → Context (Good d 0) spell (GoodField d) spell_field (λ z. sign s.OpenBracket p ∷ spell x (sign s.CloseBracket q ∷ sign s.Equal r ∷ z))
  value_in d p x q r h = record {
    opens = opens_then (λ z. sign s.OpenBracket p ∷ spell x z) (λ z. sign s.CloseBracket q ∷ sign s.Equal r ∷ z) (opens_then (λ z. sign s.OpenBracket p ∷ z) (spell x) (opens_token (sign s.OpenBracket p)) (spell_app x)) (λ u v. refl);
    close = [];
    put = λ e. keyed p x q r e;
    good = λ e g. record { formed = (h.formed, g.formed); low = omega (arith, h.low, g.low) };
    spelled = λ e g. refl;
  }

  -- an expression that is a field, from these tokens on
  single_meets : 1 ≤ P.depth → (found : Measured (List declared.Field)) (vs : List Token) → SoFar found vs → (e : Measured Expr) (rest : List Token) → ReadsExpr P.depth 0 vs e rest
      → Meets FieldTurn FailsTable (single_field P found e rest)
  single_meets room found vs i e rest h = separated_meets found (measured (f.Item e.what) e.depth) rest (record {
    vs = vs;
    before = i;
    written = single h.0.written;
    good = record { formed = h.0.good.formed; low = h.0.good.low };
    what = ap f.Item h.0.what;
    depth = h.0.depth;
    spelled = h.0.spelled;
  })

  title_meets : 1 ≤ P.depth → (found : Measured (List declared.Field)) (n : Bytes) (p : Place) (us : List Token) → SoFar found (name n p ∷ us) → Meets FieldTurn FailsTable (named_field P found n p us)
  unfolding named_field
  title_meets room found n p us i =
      is_meets (l.Sign s.Equal) tt true _ _ FieldTurn FailsTable us
      (fails_in (at_fields found (name n p ∷ us) i) field_app ts (name n p ∷ us) us i.spelled
      (stuck (GoodField P.depth) spell_field (λ z. name n p ∷ z) (opens_token (name n p)) (sign s.Equal here ∷ spell (atom nil here) []) (titled n p here (atom nil here))
      (record { formed = tt; low = room }) refl (name n p ∷ us) us refl))
      (λ q vs _ e.
      let i' : SoFar found (name n p ∷ sign s.Equal q ∷ vs) = subst (λ z. SoFar found (name n p ∷ z)) e i in
      then_meets _ (ReadsExpr P.depth 0 vs) FieldTurn (FailsExpr P.depth 0 vs) FailsTable (P.expr 0 vs) (sp.expr room 0 (omega arith) vs)
      (λ rest g. fails_in (at_fields found (name n p ∷ sign s.Equal q ∷ vs) i') field_app ts (name n p ∷ sign s.Equal q ∷ vs) rest i'.spelled
      (fails_in (titled_in P.depth n p q) spell_app (name n p ∷ sign s.Equal q ∷ vs) vs rest refl g))
      (λ e rest h. separated_meets found (measured (f.Named n e.what) e.depth) rest (record {
        vs = name n p ∷ sign s.Equal q ∷ vs;
        before = i';
        written = titled n p q h.0.written;
        good = record { formed = h.0.good.formed; low = h.0.good.low };
        what = ap (f.Named n) h.0.what;
        depth = h.0.depth;
        spelled = ap (λ z. name n p ∷ sign s.Equal q ∷ z) h.0.spelled;
      })))
      (λ _.
      then_meets _ (ReadsExpr P.depth 0 (name n p ∷ us)) FieldTurn (FailsExpr P.depth 0 (name n p ∷ us)) FailsTable (P.rest (name_leaf n p) us) (sp.rest room n p us)
      (λ rest g. fails_in (at_fields found (name n p ∷ us) i) field_app ts (name n p ∷ us) rest i.spelled (fails_in (single_in P.depth) spell_app (name n p ∷ us) (name n p ∷ us) rest refl g))
      (λ e rest h. single_meets room found (name n p ∷ us) i e rest h))

  key_meets : 1 ≤ P.depth → (found : Measured (List declared.Field)) (p : Place) (us : List Token) → SoFar found (sign s.OpenBracket p ∷ us) → Meets FieldTurn FailsTable (keyed_field P found us)
  unfolding keyed_field
  key_meets room found p us i =
      let whole : List Token = sign s.OpenBracket p ∷ us in
      let lift : (rest : List Token) → Fails (GoodField P.depth) spell_field whole rest → FailsTable rest = λ rest g. fails_in (at_fields found whole i) field_app ts whole rest i.spelled g in
      then_meets _ (ReadsExpr P.depth 0 us) FieldTurn (FailsExpr P.depth 0 us) FailsTable (P.expr 0 us) (sp.expr room 0 (omega arith) us)
      (λ rest g. lift rest (fails_in (key_in P.depth p room) spell_app whole us rest refl g))
      (λ x vs h.
      let at_key : whole ≡ sign s.OpenBracket p ∷ spell h.0.written vs = ap (λ z. sign s.OpenBracket p ∷ z) h.0.spelled in
      then_meets _ (λ q ws. vs ≡ sign s.CloseBracket q ∷ ws) FieldTurn FailsTable FailsTable (expect (l.Sign s.CloseBracket) vs)
      (expect_meets (l.Sign s.CloseBracket) tt _ FailsTable vs
      (lift vs (stuck (GoodField P.depth) spell_field (λ z. sign s.OpenBracket p ∷ spell h.0.written z) (opens_then (λ z. sign s.OpenBracket p ∷ z) (spell h.0.written) (opens_token (sign s.OpenBracket p)) (spell_app h.0.written))
      (key_in P.depth p room).close (keyed p h.0.written here here (atom nil here)) ((key_in P.depth p room).good h.0.written h.0.good) refl whole vs at_key))
      (λ q ws e. e))
      (λ _ g. g)
      (λ q ws e1.
      let at_bracket : whole ≡ sign s.OpenBracket p ∷ spell h.0.written (sign s.CloseBracket q ∷ ws) = at_key ∙ ap (λ z. sign s.OpenBracket p ∷ spell h.0.written z) e1 in
      then_meets _ (λ r xs. ws ≡ sign s.Equal r ∷ xs) FieldTurn FailsTable FailsTable (expect (l.Sign s.Equal) ws)
      (expect_meets (l.Sign s.Equal) tt _ FailsTable ws
      (lift ws (stuck (GoodField P.depth) spell_field (λ z. sign s.OpenBracket p ∷ spell h.0.written (sign s.CloseBracket q ∷ z))
      (opens_then (λ z. sign s.OpenBracket p ∷ spell h.0.written z) (λ z. sign s.CloseBracket q ∷ z) (opens_then (λ z. sign s.OpenBracket p ∷ z) (spell h.0.written) (opens_token (sign s.OpenBracket p)) (spell_app h.0.written)) (opens_token (sign s.CloseBracket q)))
      (sign s.Equal here ∷ spell (atom nil here) []) (keyed p h.0.written q here (atom nil here)) (record { formed = (h.0.good.formed, tt); low = omega (arith, h.0.good.low, room) }) refl whole ws at_bracket))
      (λ r xs e. e))
      (λ _ g. g)
      (λ r xs e2.
      let at_equal : whole ≡ sign s.OpenBracket p ∷ spell h.0.written (sign s.CloseBracket q ∷ sign s.Equal r ∷ xs) = at_bracket ∙ ap (λ z. sign s.OpenBracket p ∷ spell h.0.written (sign s.CloseBracket q ∷ z)) e2 in
      then_meets _ (ReadsExpr P.depth 0 xs) FieldTurn (FailsExpr P.depth 0 xs) FailsTable (P.expr 0 xs) (sp.expr room 0 (omega arith) xs)
      (λ rest g. lift rest (fails_in (value_in P.depth p h.0.written q r h.0.good) spell_app whole xs rest at_equal g))
      (λ y rest j. separated_meets found (measured (f.Keyed x.what y.what) (max x.depth y.depth)) rest (record {
        vs = whole;
        before = i;
        written = keyed p h.0.written q r j.0.written;
        good = record { formed = (h.0.good.formed, j.0.good.formed); low = omega (arith, h.0.good.low, j.0.good.low) };
        what = ap (λ z. f.Keyed z y.what) h.0.what ∙ ap (f.Keyed (expr_of h.0.written)) j.0.what;
        depth = omega (arith, h.0.depth, j.0.depth);
        spelled = at_equal ∙ ap (λ z. sign s.OpenBracket p ∷ spell h.0.written (sign s.CloseBracket q ∷ sign s.Equal r ∷ z)) j.0.spelled;
      })))))

  any_field : (found : Measured (List declared.Field)) (us : List Token) → SoFar found us → (d : ℕ) → P.depth ≡ d → Meets FieldTurn FailsTable ((P.expr 0 >>= single_field P found) us)
  any_field found us i zero e =
      then_meets (single_field P found) (λ _ _. ⊥) FieldTurn (λ rest. rest ≡ us) FailsTable (P.expr 0 us) (sp.flat e 0 us) (λ rest g. subst FailsTable (sym g) (closed found us i)) (λ x rest h. absurd h)
  any_field found us i (suc d) e =
      let room : 1 ≤ P.depth = omega (arith, e) in
      then_meets (single_field P found) (ReadsExpr P.depth 0 us) FieldTurn (FailsExpr P.depth 0 us) FailsTable (P.expr 0 us) (sp.expr room 0 (omega arith) us)
      (λ rest g. fails_in (at_fields found us i) field_app ts us rest i.spelled (fails_in (single_in P.depth) spell_app us us rest refl g))
      (λ x rest h. single_meets room found us i x rest h)

  field_step : (found : Measured (List declared.Field)) (us : List Token) → SoFar found us → Meets FieldTurn FailsTable (field_turn P found us)
  field_step found us i =
      is_meets (l.Sign s.CloseBrace) tt true _ _ FieldTurn FailsTable us (closed found us i)
      (λ p vs _ e. record {
        written = (i.written, p);
        good = record { formed = i.formed; low = omega (arith, i.low) };
        what = i.what;
        depth = i.depth;
        spelled = i.spelled ∙ ap (spell_fields i.written) e;
      })
      (λ _. on_meets a_name (λ n. l.Name n) name_found (nat_le 1 P.depth) _ _ FieldTurn FailsTable us (closed found us i)
      (λ n p vs c _ e. title_meets (leb-true 1 P.depth c) found n p vs (subst (SoFar found) e i))
      (λ _. is_meets (l.Sign s.OpenBracket) tt (nat_le 1 P.depth) _ _ FieldTurn FailsTable us (closed found us i)
      (λ p vs c e. key_meets (leb-true 1 P.depth c) found p vs (subst (SoFar found) e i))
      (λ _. any_field found us i P.depth refl)))

  pub table_meets : (p : Place) → Meets (ReadsTable (P.depth + 1) p ts) (Fails (GoodTable (P.depth + 1)) spell_table ts) (table_reader P p ts)
  unfolding table_reader
  table_meets p =
      then_meets _ AllFields _ FailsTable _ (many (field_turn P) nothing ts)
      (loop_meets (field_turn P) (field_shrinks P hp) SoFar AllFields FailsTable field_step nothing ts
      (record { written = no_fields; opened = tt; formed = tt; low = omega arith; what = refl; depth = refl; spelled = refl }))
      (λ _ g. g)
      (λ x rest r. record {
        written = r.written;
        good = r.good;
        what = ap (λ z. node (k.Table z) p) r.what;
        depth = ap (λ z. z + 1) r.depth;
        spelled = r.spelled;
      })
