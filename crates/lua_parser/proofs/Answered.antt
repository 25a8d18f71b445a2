-- What the reading of a script answers is what the parser has to answer.
use Rattle.std.proofs.Common.{◌≡◌, inl, inr, refl, sym, ◌∙◌, ap, subst, ℕ, ◌≤◌, List, [], ◌∷◌, length, Some, Ok, Err, arith}
use Rattle.lua_tokens.specs.declared.place.Place.{Place}
use Rattle.lua_tokens.specs.declared.token.Token.{Token}
use Rattle.lua_tokens.specs.declared.token.Lexeme.{Lexeme}
use Rattle.lua_tokens.specs.declared.token.Lexeme.TheVariants as l
use Rattle.lua_tokens.specs.declared.sign.Sign.TheVariants as s
use Rattle.lua_tokens.specs.declared.word.Word.{Word}
use Rattle.lua_tokens.specs.declared.word.Word.TheVariants as w
use Rattle.lua_tree.specs.declared.stat.Tree.{Tree}
use Rattle.lua_grammar.specs.Depth.{depth_of}
use Rattle.lua_grammar.specs.Grammar.{Spells, IsDeeper, IsAttribute}
use Rattle.lua_grammar.specs.Next.{lexeme_number}
use Rattle.lua_grammar.specs.Input.{Outcome, Why, bad, deep, attribute}
use Rattle.lua_grammar.specs.Statements.{script}
use Rattle.lua_grammar.proofs.CompleteScript.{script_reads, one_tree}
use Rattle.lua_grammar.proofs.Exact.{KindOf, Refusal, accepted, refusal}
use Rattle.lua_parser.specs.declared.script.TheConstants.{DEEPEST}
use Rattle.lua_parser.specs.declared.fault.ParseFault.{ParseFault}
use Rattle.lua_parser.specs.declared.fault.ParseFault.TheVariants.{Unexpected, Memory}
use Rattle.lua_parser.specs.Answers.{EndsWithEnd, IsFloatOperator, IsKind, place_of, IsFault, Answers, Finds, OneAnswer, tree, fault, lexeme_fault, fault_of}
use Rattle.lua_parser.proofs.Refused.{one_fault, no_fault}

-- ---- the kind of a refused token

-- neither of the two
abbrev Plain : ℕ → Type 0
Plain n = (n ≡ 29 → ⊥) × (n ≡ 31 → ⊥)

no_word : (x : Word) → Plain (lexeme_number (l.Word x))
no_word w.And = ((λ k. omega (arith, k)), (λ k. omega (arith, k)))
no_word w.Break = ((λ k. omega (arith, k)), (λ k. omega (arith, k)))
no_word w.Do = ((λ k. omega (arith, k)), (λ k. omega (arith, k)))
no_word w.Else = ((λ k. omega (arith, k)), (λ k. omega (arith, k)))
no_word w.Elseif = ((λ k. omega (arith, k)), (λ k. omega (arith, k)))
no_word w.End = ((λ k. omega (arith, k)), (λ k. omega (arith, k)))
no_word w.False = ((λ k. omega (arith, k)), (λ k. omega (arith, k)))
no_word w.For = ((λ k. omega (arith, k)), (λ k. omega (arith, k)))
no_word w.Function = ((λ k. omega (arith, k)), (λ k. omega (arith, k)))
no_word w.Goto = ((λ k. omega (arith, k)), (λ k. omega (arith, k)))
no_word w.If = ((λ k. omega (arith, k)), (λ k. omega (arith, k)))
no_word w.In = ((λ k. omega (arith, k)), (λ k. omega (arith, k)))
no_word w.Local = ((λ k. omega (arith, k)), (λ k. omega (arith, k)))
no_word w.Nil = ((λ k. omega (arith, k)), (λ k. omega (arith, k)))
no_word w.Not = ((λ k. omega (arith, k)), (λ k. omega (arith, k)))
no_word w.Or = ((λ k. omega (arith, k)), (λ k. omega (arith, k)))
no_word w.Repeat = ((λ k. omega (arith, k)), (λ k. omega (arith, k)))
no_word w.Return = ((λ k. omega (arith, k)), (λ k. omega (arith, k)))
no_word w.Then = ((λ k. omega (arith, k)), (λ k. omega (arith, k)))
no_word w.True = ((λ k. omega (arith, k)), (λ k. omega (arith, k)))
no_word w.Until = ((λ k. omega (arith, k)), (λ k. omega (arith, k)))
no_word w.While = ((λ k. omega (arith, k)), (λ k. omega (arith, k)))

no_float : (x : Token) → Plain (lexeme_number x.what) → IsFloatOperator x → ⊥
no_float x h (inl e) = h.0 (ap lexeme_number e)
no_float x h (inr e) = h.1 (ap lexeme_number e)

module _ (before : List Token) (x : Token) (shallow : IsDeeper before x → ⊥) (other : IsAttribute before DEEPEST x → ⊥) where
  plain : Plain (lexeme_number x.what) → IsKind (Unexpected x.place) before x
  plain h = (shallow, no_float x h, other)

  by_lexeme : (y : Lexeme) → x.what ≡ y → IsKind (lexeme_fault y x.place) before x
  by_lexeme (l.Sign s.Slash) e = (shallow, inl e)
  by_lexeme (l.Sign s.Caret) e = (shallow, inr e)
  by_lexeme (l.Word v) e = plain (subst Plain (sym (ap lexeme_number e)) (no_word v))
  by_lexeme _ e = plain (subst Plain (sym (ap lexeme_number e)) ((λ k. omega (arith, k)), (λ k. omega (arith, k))))

kind_of : (before : List Token) (x : Token) (why : Why) → KindOf why DEEPEST before x → IsKind (fault_of why x) before x
kind_of before x bad k = by_lexeme before x k.0 k.1 x.what refl
kind_of before x deep k = k
kind_of before x attribute k = k

by_place : (y : Lexeme) (p : Place) → place_of (lexeme_fault y p) ≡ Some p
by_place (l.Sign s.Slash) p = refl
by_place (l.Sign s.Caret) p = refl
by_place _ p = refl

at_place : (x : Token) (why : Why) → place_of (fault_of why x) ≡ Some x.place
at_place x bad = by_place x.what x.place
at_place x deep = refl
at_place x attribute = refl

-- ---- what is answered

a_fault : (tokens : List Token) (f : ParseFault) → IsFault tokens f → Answers tokens (Err f)
a_fault tokens Memory p = tt
a_fault tokens f p = p

module _ (tokens : List Token) (ends : EndsWithEnd tokens) (why : Why) (rest : List Token) (e : script DEEPEST tokens ≡ Err (why, rest)) where
  refused : Refusal DEEPEST tokens why rest
  refused = refusal DEEPEST (omega arith) tokens ends why rest e

  -- the refused token is there
  pub refused_first : (first : Token) × (after : List Token) × (rest ≡ first ∷ after)
  refused_first = (refused.refused, refused.after, refused.rest_is)

  -- a refusal by the reader is a fault, of the token that was refused
  pub is_fault : (x : Token) (after : List Token) → rest ≡ x ∷ after → IsFault tokens (fault_of why x)
  is_fault x after is = subst (λ z. IsFault tokens (fault_of why z)) same (record {
    before = refused.before;
    refused = refused.refused;
    after = refused.after;
    is = refused.is;
    place = at_place refused.refused why;
    kind = kind_of refused.before refused.refused why refused.kind;
  })
    where
      same : refused.refused ≡ x
      same = (let h : refused.refused ∷ refused.after ≡ x ∷ after = sym refused.rest_is ∙ is in cc)

  -- and then no tree is spelled
  pub finds_none : (it : Tree) → Spells it tokens → depth_of it ≤ DEEPEST → ⊥
  finds_none it s low = (let read : script DEEPEST tokens ≡ Ok (it, []) = script_reads DEEPEST it tokens s low in cc)

  pub refused_stands : 1 ≤ length rest
  refused_stands = omega (arith, ap length refused.rest_is)

  pub answers_fault : (x : Token) (after : List Token) → rest ≡ x ∷ after → (f : ParseFault) → f ≡ fault_of why x → Answers tokens (Err f)
  answers_fault x after is f same = a_fault tokens f (subst (IsFault tokens) (sym same) (is_fault x after is))

  pub only_fault : (f : ParseFault) (it : Tree) → Spells it tokens → depth_of it ≤ DEEPEST → Finds (Err f) it
  only_fault f it s low = absurd (finds_none it s low)

module _ (tokens : List Token) (found : Tree) (rest : List Token) (e : script DEEPEST tokens ≡ Ok (found, rest)) where
  -- a tree that is read is spelled
  pub is_tree : Spells found tokens × (depth_of found ≤ DEEPEST)
  is_tree = accepted DEEPEST (omega arith) tokens found rest e

  pub only_tree : (it : Tree) → Spells it tokens → depth_of it ≤ DEEPEST → found ≡ it
  only_tree it s low = one_tree found it tokens is_tree.0 s

-- ---- one answer

pub one_answer : (tokens : List Token) → EndsWithEnd tokens → OneAnswer tokens
one_answer tokens ends = by_outcome (script DEEPEST tokens) refl
  where
    by_outcome : (r : Outcome Tree) → script DEEPEST tokens ≡ r → OneAnswer tokens
    by_outcome (Ok x) e =
        let s : Spells x.0 tokens × (depth_of x.0 ≤ DEEPEST) = is_tree tokens x.0 x.1 e in
        tree x.0 s.0 s.1 (λ other t. one_tree other x.0 tokens t s.0) (λ f p. no_fault tokens x.0 f s.0 s.1 p)
    by_outcome (Err stop) e =
        let r : (first : Token) × (after : List Token) × (stop.1 ≡ first ∷ after) = refused_first tokens ends stop.0 stop.1 e in
        let p : IsFault tokens (fault_of stop.0 r.0) = is_fault tokens ends stop.0 stop.1 e r.0 r.1 r.2 in
        fault (fault_of stop.0 r.0) p (λ other q. one_fault tokens other (fault_of stop.0 r.0) q p) (finds_none tokens ends stop.0 stop.1 e)
