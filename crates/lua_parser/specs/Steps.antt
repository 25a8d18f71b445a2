-- What goes on with an expression, or nothing.
use Rattle.std.specs.Prelude.{ℕ, ◌-◌, Bool, true, false, List, Option, Some, None}
use Rattle.lua_tokens.specs.declared.place.Place.{Place}
use Rattle.lua_tokens.specs.declared.token.Lexeme.TheVariants as l
use Rattle.lua_tokens.specs.declared.sign.Sign.TheVariants as s
use Rattle.lua_tree.specs.declared.expr.Expr.{Expr}
use Rattle.lua_grammar.specs.declared.measured.Measured.{Measured}
use Rattle.lua_grammar.specs.declared.measured.Arguments.{Arguments}
use Rattle.lua_grammar.specs.Written.{Bytes}
use Rattle.lua_grammar.specs.Input.{Parser, ◌>>=◌, pure, expect, many}
use Rattle.lua_grammar.specs.Expressions.{Parts, on_args, on_index, on_call, last_dots, param_turn}
use Rattle.lua_grammar.specs.Statements.{parts}

-- a reader of statements whose parts have this depth
abbrev pub over : {A : Type 0} → ℕ → (Parts → Parts → Parts → A) → A
over d reader = reader (parts d) (parts (d - 1)) (parts (d - 2))

-- arguments, or none
unfoldable pub args_step : Parts → Bool → Parser (Option Arguments)
args_step P room = on_args P room (λ a. pure (Some a)) (pure None)

-- an index of the expression, or the expression alone
unfoldable pub index_step : Parts → Measured Expr → Parser (Measured Expr × Bool)
index_step P e = on_index P e (λ x. (x, true)) (pure (e, false))

-- a call of the expression, or the expression alone
unfoldable pub call_step : Parts → Measured Expr → Parser (Measured Expr × Bool)
call_step P e = on_call P e (λ x. (x, true)) (pure (e, false))

-- an expression in brackets after the bracket
unfoldable pub bracketed : Parts → Parser (Measured Expr)
bracketed P = P.expr 0 >>= λ x. expect (l.Sign s.CloseBracket) >>= λ _. pure x

-- further parameters up to the parenthesis that closes them
unfoldable pub more_params : ℕ → List (Bytes × Place) → Parser (List (Bytes × Place) × Bool)
more_params d found = many (param_turn (parts d)) found

-- the parenthesis that closes parameters after `...`
unfoldable pub dots_end : ℕ → List (Bytes × Place) → Parser (List (Bytes × Place) × Bool)
dots_end d found = last_dots (parts d) found
