-- A reader that goes by an index or a call, from the step that reads one or nothing.
use Rattle.std.proofs.Common.{◌≡◌, refl, subst, Bool, true, false, if◌then◌else◌, List, [], ◌∷◌, Option, Some, None, Ok, Err}
use Rattle.lua_tokens.specs.declared.place.Place.{Place}
use Rattle.lua_tokens.specs.declared.token.Token.{Token}
use Rattle.lua_tokens.specs.declared.token.Lexeme.{Lexeme}
use Rattle.lua_tokens.specs.declared.token.Lexeme.TheVariants as l
use Rattle.lua_tokens.specs.declared.sign.Sign.TheVariants as s
use Rattle.lua_tree.specs.declared.expr.Expr.{Expr}
use Rattle.lua_grammar.specs.declared.measured.Measured.{Measured}
use Rattle.lua_grammar.specs.declared.measured.Arguments.{Arguments}
use Rattle.lua_grammar.specs.Input.{Outcome, Parser, and_then, ◌>>=◌, pure, refuse, at, on, expect}
use Rattle.lua_grammar.specs.Expressions.{Parts, indexed, on_args, on_index, on_call}
use Rattle.lua_parser.specs.Steps.{index_step, call_step}

-- ---- a reader, and the same that goes on otherwise

pub record GoesOn {A B : Type 0} (k : A → Parser B) (p : Parser B) (p' : Parser A) : Type 0 where
  pub by : (ts : List Token) → p ts ≡ and_then (p' ts) k

module _ {A B : Type 0} (k : A → Parser B) where
  pub on_then : {C : Type 0} (look : Lexeme → Option C) (room : Bool) (p : C → Place → Parser B) (q : Parser B) (p' : C → Place → Parser A) (q' : Parser A)
      → ((c : C) (pl : Place) → GoesOn k (p c pl) (p' c pl)) → GoesOn k q q' → GoesOn k (on look room p q) (on look room p' q')
  unfolding on
  on_then look room p q p' q' hp hq = record { by = at_tokens }
    where
      by_look : (x : Token) (ts : List Token) (o : Option _) (c : Bool) → at c p q o x ts ≡ and_then (at c p' q' o x ts) k
      by_look x ts None c = hq.by (x ∷ ts)
      by_look x ts (Some b) true = (hp b x.place).by ts
      by_look x ts (Some b) false = refl

      at_tokens : (ts : List Token) → on look room p q ts ≡ and_then (on look room p' q' ts) k
      at_tokens [] = hq.by []
      at_tokens (x ∷ ts) = by_look x ts (look x.what) room

  bind_result : {C : Type 0} (r : Outcome C) (f : C → Parser B) (f' : C → Parser A) → ((c : C) → GoesOn k (f c) (f' c)) → and_then r f ≡ and_then (and_then r f') k
  bind_result (Ok x) f f' h = (h x.0).by x.1
  bind_result (Err stop) f f' h = refl

  pub bind_then : {C : Type 0} (p : Parser C) (f : C → Parser B) (f' : C → Parser A) → ((c : C) → GoesOn k (f c) (f' c)) → GoesOn k (p >>= f) (p >>= f')
  bind_then p f f' h = record { by = λ ts. bind_result (p ts) f f' h }

-- ---- nothing was read where the step says so

abbrev pub Same : Measured Expr → Outcome (Measured Expr × Bool) → Type 0
Same e (Ok x) = x.0.1 ≡ false → x.0.0 ≡ e
Same e (Err stop) = Unit {0}

pub record Keeps (e : Measured Expr) (p : Parser (Measured Expr × Bool)) : Type 0 where
  pub kept : (ts : List Token) → Same e (p ts)

module _ (e : Measured Expr) where
  on_same : {C : Type 0} (look : Lexeme → Option C) (room : Bool) (p : C → Place → Parser (Measured Expr × Bool)) (q : Parser (Measured Expr × Bool))
      → ((c : C) (pl : Place) → Keeps e (p c pl)) → Keeps e q → Keeps e (on look room p q)
  unfolding on
  on_same look room p q hp hq = record { kept = at_tokens }
    where
      by_look : (x : Token) (ts : List Token) (o : Option _) (c : Bool) → Same e (at c p q o x ts)
      by_look x ts None c = hq.kept (x ∷ ts)
      by_look x ts (Some b) true = (hp b x.place).kept ts
      by_look x ts (Some b) false = tt

      at_tokens : (ts : List Token) → Same e (on look room p q ts)
      at_tokens [] = hq.kept []
      at_tokens (x ∷ ts) = by_look x ts (look x.what) room

  result_same : {C : Type 0} (r : Outcome C) (f : C → Parser (Measured Expr × Bool)) → ((c : C) → Keeps e (f c)) → Same e (and_then r f)
  result_same (Ok x) f h = (h x.0).kept x.1
  result_same (Err stop) f h = tt

  bind_same : {C : Type 0} (p : Parser C) (f : C → Parser (Measured Expr × Bool)) → ((c : C) → Keeps e (f c)) → Keeps e (p >>= f)
  bind_same p f h = record { kept = λ ts. result_same (p ts) f h }

  moved : (x : Measured Expr) → Keeps e (pure (x, true))
  moved x = record { kept = λ ts c. cc }

  refused : Keeps e refuse
  refused = record { kept = λ ts. tt }

  unmoved : Keeps e (pure (e, false))
  unmoved = record { kept = λ ts c. refl }

module _ (P : Parts) (e : Measured Expr) where
  args_same : (room : Bool) (g : Arguments → Parser (Measured Expr × Bool)) (q : Parser (Measured Expr × Bool)) → ((a : Arguments) → Keeps e (g a)) → Keeps e q → Keeps e (on_args P room g q)
  args_same room g q hg hq =
      on_same e _ _ _ _ (λ _ p. bind_same e _ _ hg) (on_same e _ _ _ _ (λ _ p. bind_same e _ _ (λ a. hg _)) (on_same e _ _ _ _ (λ t p. hg _) hq))

  index_same : Keeps e (index_step P e)
  unfolding index_step
  index_same = on_same e _ _ _ _ (λ _ p. on_same e _ _ _ _ (λ n r. moved e _) (refused e)) (on_same e _ _ _ _ (λ _ p. bind_same e (P.expr 0) _ (λ x. bind_same e (expect (l.Sign s.CloseBracket)) _ (λ _. moved e (indexed e p x)))) (unmoved e))

  call_same : Keeps e (call_step P e)
  unfolding call_step
  call_same = on_same e _ _ _ _ (λ _ p. on_same e _ _ _ _ (λ n r. args_same _ _ _ (λ a. moved e _) (refused e)) (refused e)) (args_same _ _ _ (λ a. moved e _) (unmoved e))

  pub index_kept : (ts us : List Token) (x : Measured Expr) → index_step P e ts ≡ Ok ((x, false), us) → x ≡ e
  index_kept ts us x h = subst (Same e) h (index_same.kept ts) refl

  pub call_kept : (ts us : List Token) (x : Measured Expr) → call_step P e ts ≡ Ok ((x, false), us) → x ≡ e
  call_kept ts us x h = subst (Same e) h (call_same.kept ts) refl

-- ---- by a step

abbrev pub by_step : {A : Type 0} → (Measured Expr → A) → Parser A → Measured Expr × Bool → Parser A
by_step g q r = if r.1 then pure (g r.0) else q

module _ {A : Type 0} (P : Parts) (e : Measured Expr) (g : Measured Expr → A) (q : Parser A) where
  found : (x : Measured Expr) → GoesOn (by_step g q) (pure (g x)) (pure (x, true))
  found x = record { by = λ ts. refl }

  nowhere : GoesOn (by_step g q) refuse refuse
  nowhere = record { by = λ ts. refl }

  other : GoesOn (by_step g q) q (pure (e, false))
  other = record { by = λ ts. refl }

  pub index_by : GoesOn (by_step g q) (on_index P e g q) (index_step P e)
  unfolding index_step
  index_by = on_then (by_step g q) _ _ _ _ _ _ (λ _ p. on_then (by_step g q) _ _ _ _ _ _ (λ n r. found _) nowhere)
      (on_then (by_step g q) _ _ _ _ _ _ (λ _ p. bind_then (by_step g q) (P.expr 0) _ _ (λ x. bind_then (by_step g q) (expect (l.Sign s.CloseBracket)) _ _ (λ _. found (indexed e p x)))) other)

  args_by : (room : Bool) (f : Arguments → Parser A) (f' : Arguments → Parser (Measured Expr × Bool)) (p : Parser A) (p' : Parser (Measured Expr × Bool)) → ((a : Arguments) → GoesOn (by_step g q) (f a) (f' a))
      → GoesOn (by_step g q) p p' → GoesOn (by_step g q) (on_args P room f p) (on_args P room f' p')
  args_by room f f' p p' hf hp = on_then (by_step g q) _ _ _ _ _ _ (λ _ p. bind_then (by_step g q) _ _ _ hf)
      (on_then (by_step g q) _ _ _ _ _ _ (λ _ p. bind_then (by_step g q) _ _ _ (λ x. hf _)) (on_then (by_step g q) _ _ _ _ _ _ (λ t p. hf _) hp))

  pub call_by : GoesOn (by_step g q) (on_call P e g q) (call_step P e)
  unfolding call_step
  call_by = on_then (by_step g q) _ _ _ _ _ _ (λ _ p. on_then (by_step g q) _ _ _ _ _ _ (λ n r. args_by _ _ _ _ _ (λ a. found _) nowhere) nowhere) (args_by _ _ _ _ _ (λ a. found _) other)
