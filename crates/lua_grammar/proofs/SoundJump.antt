-- `goto` and labels are read as they are spelled.
use Rattle.std.proofs.Common.{◌≡◌, refl, ◌∙◌, ap, true, List, [], ◌∷◌, Some, arith}
use Rattle.lua_tokens.specs.declared.place.Place.{Place}
use Rattle.lua_tokens.specs.declared.token.Token.{Token}
use Rattle.lua_tokens.specs.declared.token.Lexeme.TheVariants as l
use Rattle.lua_tokens.specs.declared.sign.Sign.TheVariants as s
use Rattle.lua_tokens.specs.declared.word.Word.TheVariants as w
use Rattle.lua_tree.specs.declared.stat.Stat as declared
use Rattle.lua_grammar.specs.declared.measured.Measured.{Measured}
use Rattle.lua_grammar.specs.Tokens.{sign, word, name}
use Rattle.lua_grammar.specs.Written.{jump, label}
use Rattle.lua_grammar.specs.Spelling.{spell_stat}
use Rattle.lua_grammar.specs.Next.{a_name}
use Rattle.lua_grammar.specs.Input.{refuse}
use Rattle.lua_grammar.specs.Expressions.{Parts}
use Rattle.lua_grammar.specs.Statements.{after_goto, after_colons}
use Rattle.lua_grammar.proofs.Spelled.{opens_token}
use Rattle.lua_grammar.proofs.Found.{name_found}
use Rattle.lua_grammar.proofs.Fronts.{Meets, on_meets, stuck}
use Rattle.lua_grammar.proofs.Answered.{here}
use Rattle.lua_grammar.proofs.SoundStat.{GoodStat, ReadsStat, FailsStat, token_in}

module _ (P Q R : Parts) (p : Place) (us : List Token) where
  pub goto_meets : Meets (ReadsStat P.depth (word w.Goto p ∷ us)) (FailsStat P.depth (Some (l.Word w.Goto)) (word w.Goto p ∷ us)) (after_goto us)
  unfolding after_goto
  goto_meets =
      let ts : List Token = word w.Goto p ∷ us in
      let T : Measured declared.Stat → List Token → Type 0 = ReadsStat P.depth ts in
      let Z : List Token → Type 0 = FailsStat P.depth (Some (l.Word w.Goto)) ts in
      let z : Z us = stuck (GoodStat P.depth (Some (l.Word w.Goto))) spell_stat (λ z. word w.Goto p ∷ z) (opens_token (word w.Goto p)) (name [] here ∷ []) (jump p [] here)
      (record { formed = tt; low = omega arith; begins = refl }) refl ts us refl in
      on_meets a_name (λ n. l.Name n) name_found true _ refuse T Z us z
      (λ n q vs _ _ e. record {
        written = jump p n q;
        formed = tt;
        low = omega arith;
        what = refl;
        depth = refl;
        spelled = ap (λ z. word w.Goto p ∷ z) e;
        apart = λ _. refl;
      })
      (λ _. z)

  pub label_meets : Meets (ReadsStat P.depth (sign s.ColonColon p ∷ us)) (FailsStat P.depth (Some (l.Sign s.ColonColon)) (sign s.ColonColon p ∷ us)) (after_colons us)
  unfolding after_colons
  label_meets =
      let ts : List Token = sign s.ColonColon p ∷ us in
      let T : Measured declared.Stat → List Token → Type 0 = ReadsStat P.depth ts in
      let Z : List Token → Type 0 = FailsStat P.depth (Some (l.Sign s.ColonColon)) ts in
      let z : Z us = stuck (GoodStat P.depth (Some (l.Sign s.ColonColon))) spell_stat (λ z. sign s.ColonColon p ∷ z) (opens_token (sign s.ColonColon p)) (name [] here ∷ sign s.ColonColon here ∷ []) (label p [] here here)
      (record { formed = tt; low = omega arith; begins = refl }) refl ts us refl in
      on_meets a_name (λ n. l.Name n) name_found true _ refuse T Z us z
      (λ n q vs _ _ e.
      let at : ts ≡ sign s.ColonColon p ∷ name n q ∷ vs = ap (λ z. sign s.ColonColon p ∷ z) e in
      token_in T Z (l.Sign s.ColonColon) tt vs
      (stuck (GoodStat P.depth (Some (l.Sign s.ColonColon))) spell_stat (λ z. sign s.ColonColon p ∷ name n q ∷ z) (λ u v. refl) (sign s.ColonColon here ∷ []) (label p n q here)
      (record { formed = tt; low = omega arith; begins = refl }) refl ts vs at)
      _ (λ r ws e2. record {
        written = label p n q r;
        formed = tt;
        low = omega arith;
        what = refl;
        depth = refl;
        spelled = at ∙ ap (λ z. sign s.ColonColon p ∷ name n q ∷ z) e2;
        apart = λ _. refl;
      }))
      (λ _. z)
