-- The readers on small scripts, computed.
use Rattle.std.proofs.Common.{ℕ, zero, suc, ◌≡◌, refl, false, List, [], ◌∷◌, Ok, Err, Option, Some, None, length}
use Rattle.lua_tokens.specs.declared.place.Place.{Place}
use Rattle.lua_tokens.specs.declared.token.Token.{Token}
use Rattle.lua_tokens.specs.declared.sign.Sign.{Sign}
use Rattle.lua_tokens.specs.declared.sign.Sign.TheVariants as s
use Rattle.lua_tokens.specs.declared.word.Word.{Word}
use Rattle.lua_tokens.specs.declared.word.Word.TheVariants as w
use Rattle.lua_tree.specs.declared.stat.Stat.TheVariants as st
use Rattle.lua_tree.specs.declared.stat.Tree.{Tree}
use Rattle.lua_tree.specs.declared.expr.Expr.{Expr}
use Rattle.lua_tree.specs.declared.expr.ExprKind.TheVariants as k
use Rattle.lua_tree.specs.declared.operator.Binary.TheVariants as b
use Rattle.lua_tree.specs.declared.operator.Unary.TheVariants as u
use Rattle.lua_grammar.specs.Tokens.{sign, word, name, finish, const_name}
use Rattle.lua_grammar.specs.Written.{Bytes}
use Rattle.lua_grammar.specs.Erasure.{node, name_node, block_of, pair}
use Rattle.lua_grammar.specs.Input.{Outcome, Why, bad, deep, attribute, on, expect, before, attribute_name, loop, many}
use Rattle.lua_grammar.specs.Expressions.{more_exprs, list, in_parens, suffixes, named_field, keyed_field, table, parameters, function_body, group, operand, climb, from_level, rest_of}
use Rattle.lua_grammar.specs.Statements.{after_do, after_while, after_repeat, condition, after_else, more_arms, after_if, for_step, for_numbers, for_names, for_each, after_for, attrib, more_declared, values, local_names, local_function, after_local, path, defined, after_path, after_function, target_from, target, assigned, prefixes, begun, after_open, after_goto, after_colons, returned, semicolon, after_return, more_stats, block, levels, script}

abbrev here : Place
here = record { at = 0; line = 1 }

abbrev sg : Sign → Token
sg a = sign a here

abbrev wd : Word → Token
wd a = word a here

abbrev x : Bytes
x = 120 ∷ []

abbrev nm : Token
nm = name x here

abbrev var : Expr
var = name_node x here

abbrev over : List Token
over = finish here ∷ []

-- n tokens, and then these
abbrev times : ℕ → Token → List Token → List Token
times zero a k = k
times (suc n) a k = a ∷ times n a k

-- nothing for a script, else how many tokens are left and why
abbrev verdict : Outcome Tree → Option (ℕ × Why)
verdict (Ok y) = None
verdict (Err stop) = Some (length stop.1, stop.0)

-- x = - x .. x
example-1 : verdict (script 60 (nm ∷ sg s.Equal ∷ sg s.Minus ∷ nm ∷ sg s.DotDot ∷ nm ∷ over)) ≡ None
unfolding on expect before attribute_name loop many more_exprs list in_parens suffixes named_field keyed_field table parameters function_body group operand climb from_level rest_of after_do after_while after_repeat condition after_else more_arms after_if for_step for_numbers for_names for_each after_for attrib more_declared values local_names local_function after_local path defined after_path after_function target_from target assigned prefixes begun after_open after_goto after_colons returned semicolon after_return more_stats block levels script
example-1 = refl

-- local x ( f ) ( )
example-2 : verdict (script 60 (wd w.Local ∷ nm ∷ sg s.OpenParen ∷ nm ∷ sg s.CloseParen ∷ sg s.OpenParen ∷ sg s.CloseParen ∷ over)) ≡ None
unfolding on expect before attribute_name loop many more_exprs list in_parens suffixes named_field keyed_field table parameters function_body group operand climb from_level rest_of after_do after_while after_repeat condition after_else more_arms after_if for_step for_numbers for_names for_each after_for attrib more_declared values local_names local_function after_local path defined after_path after_function target_from target assigned prefixes begun after_open after_goto after_colons returned semicolon after_return more_stats block levels script
example-2 = refl

-- x = x ( f ) ( )
example-3 : verdict (script 60 (nm ∷ sg s.Equal ∷ nm ∷ sg s.OpenParen ∷ nm ∷ sg s.CloseParen ∷ sg s.OpenParen ∷ sg s.CloseParen ∷ over)) ≡ None
unfolding on expect before attribute_name loop many more_exprs list in_parens suffixes named_field keyed_field table parameters function_body group operand climb from_level rest_of after_do after_while after_repeat condition after_else more_arms after_if for_step for_numbers for_names for_each after_for attrib more_declared values local_names local_function after_local path defined after_path after_function target_from target assigned prefixes begun after_open after_goto after_colons returned semicolon after_return more_stats block levels script
example-3 = refl

-- f = function ( ) end
example-4 : verdict (script 3 (nm ∷ sg s.Equal ∷ wd w.Function ∷ sg s.OpenParen ∷ sg s.CloseParen ∷ wd w.End ∷ over)) ≡ None
unfolding on expect before attribute_name loop many more_exprs list in_parens suffixes named_field keyed_field table parameters function_body group operand climb from_level rest_of after_do after_while after_repeat condition after_else more_arms after_if for_step for_numbers for_names for_each after_for attrib more_declared values local_names local_function after_local path defined after_path after_function target_from target assigned prefixes begun after_open after_goto after_colons returned semicolon after_return more_stats block levels script
example-4 = refl

-- f = function ( ) end
example-5 : verdict (script 2 (nm ∷ sg s.Equal ∷ wd w.Function ∷ sg s.OpenParen ∷ sg s.CloseParen ∷ wd w.End ∷ over)) ≡ Some (5, deep)
unfolding on expect before attribute_name loop many more_exprs list in_parens suffixes named_field keyed_field table parameters function_body group operand climb from_level rest_of after_do after_while after_repeat condition after_else more_arms after_if for_step for_numbers for_names for_each after_for attrib more_declared values local_names local_function after_local path defined after_path after_function target_from target assigned prefixes begun after_open after_goto after_colons returned semicolon after_return more_stats block levels script
example-5 = refl

-- local function f ( ) end
example-6 : verdict (script 2 (wd w.Local ∷ wd w.Function ∷ nm ∷ sg s.OpenParen ∷ sg s.CloseParen ∷ wd w.End ∷ over)) ≡ None
unfolding on expect before attribute_name loop many more_exprs list in_parens suffixes named_field keyed_field table parameters function_body group operand climb from_level rest_of after_do after_while after_repeat condition after_else more_arms after_if for_step for_numbers for_names for_each after_for attrib more_declared values local_names local_function after_local path defined after_path after_function target_from target assigned prefixes begun after_open after_goto after_colons returned semicolon after_return more_stats block levels script
example-6 = refl

-- local function f ( ) end
example-7 : verdict (script 1 (wd w.Local ∷ wd w.Function ∷ nm ∷ sg s.OpenParen ∷ sg s.CloseParen ∷ wd w.End ∷ over)) ≡ Some (6, deep)
unfolding on expect before attribute_name loop many more_exprs list in_parens suffixes named_field keyed_field table parameters function_body group operand climb from_level rest_of after_do after_while after_repeat condition after_else more_arms after_if for_step for_numbers for_names for_each after_for attrib more_declared values local_names local_function after_local path defined after_path after_function target_from target assigned prefixes begun after_open after_goto after_colons returned semicolon after_return more_stats block levels script
example-7 = refl

-- x = = x
example-8 : verdict (script 60 (nm ∷ sg s.Equal ∷ sg s.Equal ∷ nm ∷ over)) ≡ Some (3, bad)
unfolding on expect before attribute_name loop many more_exprs list in_parens suffixes named_field keyed_field table parameters function_body group operand climb from_level rest_of after_do after_while after_repeat condition after_else more_arms after_if for_step for_numbers for_names for_each after_for attrib more_declared values local_names local_function after_local path defined after_path after_function target_from target assigned prefixes begun after_open after_goto after_colons returned semicolon after_return more_stats block levels script
example-8 = refl

-- local x =
example-9 : verdict (script 60 (wd w.Local ∷ nm ∷ sg s.Equal ∷ over)) ≡ Some (1, bad)
unfolding on expect before attribute_name loop many more_exprs list in_parens suffixes named_field keyed_field table parameters function_body group operand climb from_level rest_of after_do after_while after_repeat condition after_else more_arms after_if for_step for_numbers for_names for_each after_for attrib more_declared values local_names local_function after_local path defined after_path after_function target_from target assigned prefixes begun after_open after_goto after_colons returned semicolon after_return more_stats block levels script
example-9 = refl

-- x = x / x
example-10 : verdict (script 60 (nm ∷ sg s.Equal ∷ nm ∷ sg s.Slash ∷ nm ∷ over)) ≡ Some (3, bad)
unfolding on expect before attribute_name loop many more_exprs list in_parens suffixes named_field keyed_field table parameters function_body group operand climb from_level rest_of after_do after_while after_repeat condition after_else more_arms after_if for_step for_numbers for_names for_each after_for attrib more_declared values local_names local_function after_local path defined after_path after_function target_from target assigned prefixes begun after_open after_goto after_colons returned semicolon after_return more_stats block levels script
example-10 = refl

-- x . x
example-11 : verdict (script 60 (nm ∷ sg s.Dot ∷ nm ∷ over)) ≡ Some (1, bad)
unfolding on expect before attribute_name loop many more_exprs list in_parens suffixes named_field keyed_field table parameters function_body group operand climb from_level rest_of after_do after_while after_repeat condition after_else more_arms after_if for_step for_numbers for_names for_each after_for attrib more_declared values local_names local_function after_local path defined after_path after_function target_from target assigned prefixes begun after_open after_goto after_colons returned semicolon after_return more_stats block levels script
example-11 = refl

-- ( f ) ( )
example-12 : verdict (script 60 (sg s.OpenParen ∷ nm ∷ sg s.CloseParen ∷ sg s.OpenParen ∷ sg s.CloseParen ∷ over)) ≡ None
unfolding on expect before attribute_name loop many more_exprs list in_parens suffixes named_field keyed_field table parameters function_body group operand climb from_level rest_of after_do after_while after_repeat condition after_else more_arms after_if for_step for_numbers for_names for_each after_for attrib more_declared values local_names local_function after_local path defined after_path after_function target_from target assigned prefixes begun after_open after_goto after_colons returned semicolon after_return more_stats block levels script
example-12 = refl

-- ( f ) . x = x
example-13 : verdict (script 60 (sg s.OpenParen ∷ nm ∷ sg s.CloseParen ∷ sg s.Dot ∷ nm ∷ sg s.Equal ∷ nm ∷ over)) ≡ None
unfolding on expect before attribute_name loop many more_exprs list in_parens suffixes named_field keyed_field table parameters function_body group operand climb from_level rest_of after_do after_while after_repeat condition after_else more_arms after_if for_step for_numbers for_names for_each after_for attrib more_declared values local_names local_function after_local path defined after_path after_function target_from target assigned prefixes begun after_open after_goto after_colons returned semicolon after_return more_stats block levels script
example-13 = refl

-- ( f ) = x
example-14 : verdict (script 60 (sg s.OpenParen ∷ nm ∷ sg s.CloseParen ∷ sg s.Equal ∷ nm ∷ over)) ≡ Some (3, bad)
unfolding on expect before attribute_name loop many more_exprs list in_parens suffixes named_field keyed_field table parameters function_body group operand climb from_level rest_of after_do after_while after_repeat condition after_else more_arms after_if for_step for_numbers for_names for_each after_for attrib more_declared values local_names local_function after_local path defined after_path after_function target_from target assigned prefixes begun after_open after_goto after_colons returned semicolon after_return more_stats block levels script
example-14 = refl

-- f ( ) = x
example-15 : verdict (script 60 (nm ∷ sg s.OpenParen ∷ sg s.CloseParen ∷ sg s.Equal ∷ nm ∷ over)) ≡ Some (3, bad)
unfolding on expect before attribute_name loop many more_exprs list in_parens suffixes named_field keyed_field table parameters function_body group operand climb from_level rest_of after_do after_while after_repeat condition after_else more_arms after_if for_step for_numbers for_names for_each after_for attrib more_declared values local_names local_function after_local path defined after_path after_function target_from target assigned prefixes begun after_open after_goto after_colons returned semicolon after_return more_stats block levels script
example-15 = refl

-- local x < const > , x = x
example-16 : verdict (script 60 (wd w.Local ∷ nm ∷ sg s.Less ∷ name const_name here ∷ sg s.Greater ∷ sg s.Comma ∷ nm ∷ sg s.Equal ∷ nm ∷ over)) ≡ None
unfolding on expect before attribute_name loop many more_exprs list in_parens suffixes named_field keyed_field table parameters function_body group operand climb from_level rest_of after_do after_while after_repeat condition after_else more_arms after_if for_step for_numbers for_names for_each after_for attrib more_declared values local_names local_function after_local path defined after_path after_function target_from target assigned prefixes begun after_open after_goto after_colons returned semicolon after_return more_stats block levels script
example-16 = refl

-- local x < x > = x
example-17 : verdict (script 60 (wd w.Local ∷ nm ∷ sg s.Less ∷ nm ∷ sg s.Greater ∷ sg s.Equal ∷ nm ∷ over)) ≡ Some (5, attribute)
unfolding on expect before attribute_name loop many more_exprs list in_parens suffixes named_field keyed_field table parameters function_body group operand climb from_level rest_of after_do after_while after_repeat condition after_else more_arms after_if for_step for_numbers for_names for_each after_for attrib more_declared values local_names local_function after_local path defined after_path after_function target_from target assigned prefixes begun after_open after_goto after_colons returned semicolon after_return more_stats block levels script
example-17 = refl

-- return x x
example-18 : verdict (script 60 (wd w.Return ∷ nm ∷ nm ∷ over)) ≡ Some (2, bad)
unfolding on expect before attribute_name loop many more_exprs list in_parens suffixes named_field keyed_field table parameters function_body group operand climb from_level rest_of after_do after_while after_repeat condition after_else more_arms after_if for_step for_numbers for_names for_each after_for attrib more_declared values local_names local_function after_local path defined after_path after_function target_from target assigned prefixes begun after_open after_goto after_colons returned semicolon after_return more_stats block levels script
example-18 = refl

-- a , f ( ) . x = x
example-19 : verdict (script 3 (nm ∷ sg s.Comma ∷ nm ∷ sg s.OpenParen ∷ sg s.CloseParen ∷ sg s.Dot ∷ nm ∷ sg s.Equal ∷ nm ∷ over)) ≡ Some (7, deep)
unfolding on expect before attribute_name loop many more_exprs list in_parens suffixes named_field keyed_field table parameters function_body group operand climb from_level rest_of after_do after_while after_repeat condition after_else more_arms after_if for_step for_numbers for_names for_each after_for attrib more_declared values local_names local_function after_local path defined after_path after_function target_from target assigned prefixes begun after_open after_goto after_colons returned semicolon after_return more_stats block levels script
example-19 = refl

-- a , f ( ) . x = x
example-20 : verdict (script 4 (nm ∷ sg s.Comma ∷ nm ∷ sg s.OpenParen ∷ sg s.CloseParen ∷ sg s.Dot ∷ nm ∷ sg s.Equal ∷ nm ∷ over)) ≡ None
unfolding on expect before attribute_name loop many more_exprs list in_parens suffixes named_field keyed_field table parameters function_body group operand climb from_level rest_of after_do after_while after_repeat condition after_else more_arms after_if for_step for_numbers for_names for_each after_for attrib more_declared values local_names local_function after_local path defined after_path after_function target_from target assigned prefixes begun after_open after_goto after_colons returned semicolon after_return more_stats block levels script
example-20 = refl

-- x ( )
example-21 : verdict (script 3 (nm ∷ sg s.OpenParen ∷ sg s.CloseParen ∷ over)) ≡ None
unfolding on expect before attribute_name loop many more_exprs list in_parens suffixes named_field keyed_field table parameters function_body group operand climb from_level rest_of after_do after_while after_repeat condition after_else more_arms after_if for_step for_numbers for_names for_each after_for attrib more_declared values local_names local_function after_local path defined after_path after_function target_from target assigned prefixes begun after_open after_goto after_colons returned semicolon after_return more_stats block levels script
example-21 = refl

-- x ( )
example-22 : verdict (script 2 (nm ∷ sg s.OpenParen ∷ sg s.CloseParen ∷ over)) ≡ Some (3, deep)
unfolding on expect before attribute_name loop many more_exprs list in_parens suffixes named_field keyed_field table parameters function_body group operand climb from_level rest_of after_do after_while after_repeat condition after_else more_arms after_if for_step for_numbers for_names for_each after_for attrib more_declared values local_names local_function after_local path defined after_path after_function target_from target assigned prefixes begun after_open after_goto after_colons returned semicolon after_return more_stats block levels script
example-22 = refl

-- x = { x }
example-23 : verdict (script 2 (nm ∷ sg s.Equal ∷ sg s.OpenBrace ∷ nm ∷ sg s.CloseBrace ∷ over)) ≡ Some (3, deep)
unfolding on expect before attribute_name loop many more_exprs list in_parens suffixes named_field keyed_field table parameters function_body group operand climb from_level rest_of after_do after_while after_repeat condition after_else more_arms after_if for_step for_numbers for_names for_each after_for attrib more_declared values local_names local_function after_local path defined after_path after_function target_from target assigned prefixes begun after_open after_goto after_colons returned semicolon after_return more_stats block levels script
example-23 = refl

-- x = { }
example-24 : verdict (script 2 (nm ∷ sg s.Equal ∷ sg s.OpenBrace ∷ sg s.CloseBrace ∷ over)) ≡ None
unfolding on expect before attribute_name loop many more_exprs list in_parens suffixes named_field keyed_field table parameters function_body group operand climb from_level rest_of after_do after_while after_repeat condition after_else more_arms after_if for_step for_numbers for_names for_each after_for attrib more_declared values local_names local_function after_local path defined after_path after_function target_from target assigned prefixes begun after_open after_goto after_colons returned semicolon after_return more_stats block levels script
example-24 = refl

-- x = { x = x ; [ x ] = x , x . x , x }
example-25 : verdict (script 60 (nm ∷ sg s.Equal ∷ sg s.OpenBrace ∷ nm ∷ sg s.Equal ∷ nm ∷ sg s.Semicolon ∷ sg s.OpenBracket ∷ nm ∷ sg s.CloseBracket ∷ sg s.Equal ∷ nm ∷ sg s.Comma ∷ nm ∷ sg s.Dot ∷ nm ∷ sg s.Comma ∷ nm ∷ sg s.CloseBrace ∷ over)) ≡ None
unfolding on expect before attribute_name loop many more_exprs list in_parens suffixes named_field keyed_field table parameters function_body group operand climb from_level rest_of after_do after_while after_repeat condition after_else more_arms after_if for_step for_numbers for_names for_each after_for attrib more_declared values local_names local_function after_local path defined after_path after_function target_from target assigned prefixes begun after_open after_goto after_colons returned semicolon after_return more_stats block levels script
example-25 = refl

-- for x = x , x do break end for x , x in x do end
example-26 : verdict (script 60 (wd w.For ∷ nm ∷ sg s.Equal ∷ nm ∷ sg s.Comma ∷ nm ∷ wd w.Do ∷ wd w.Break ∷ wd w.End ∷ wd w.For ∷ nm ∷ sg s.Comma ∷ nm ∷ wd w.In ∷ nm ∷ wd w.Do ∷ wd w.End ∷ over)) ≡ None
unfolding on expect before attribute_name loop many more_exprs list in_parens suffixes named_field keyed_field table parameters function_body group operand climb from_level rest_of after_do after_while after_repeat condition after_else more_arms after_if for_step for_numbers for_names for_each after_for attrib more_declared values local_names local_function after_local path defined after_path after_function target_from target assigned prefixes begun after_open after_goto after_colons returned semicolon after_return more_stats block levels script
example-26 = refl

-- if x then elseif x then else end
example-27 : verdict (script 60 (wd w.If ∷ nm ∷ wd w.Then ∷ wd w.Elseif ∷ nm ∷ wd w.Then ∷ wd w.Else ∷ wd w.End ∷ over)) ≡ None
unfolding on expect before attribute_name loop many more_exprs list in_parens suffixes named_field keyed_field table parameters function_body group operand climb from_level rest_of after_do after_while after_repeat condition after_else more_arms after_if for_step for_numbers for_names for_each after_for attrib more_declared values local_names local_function after_local path defined after_path after_function target_from target assigned prefixes begun after_open after_goto after_colons returned semicolon after_return more_stats block levels script
example-27 = refl

-- function a . b : c ( a , ... ) return end
example-28 : verdict (script 60 (wd w.Function ∷ nm ∷ sg s.Dot ∷ nm ∷ sg s.Colon ∷ nm ∷ sg s.OpenParen ∷ nm ∷ sg s.Comma ∷ sg s.DotDotDot ∷ sg s.CloseParen ∷ wd w.Return ∷ wd w.End ∷ over)) ≡ None
unfolding on expect before attribute_name loop many more_exprs list in_parens suffixes named_field keyed_field table parameters function_body group operand climb from_level rest_of after_do after_while after_repeat condition after_else more_arms after_if for_step for_numbers for_names for_each after_for attrib more_declared values local_names local_function after_local path defined after_path after_function target_from target assigned prefixes begun after_open after_goto after_colons returned semicolon after_return more_stats block levels script
example-28 = refl

-- while x do repeat until x end
example-29 : verdict (script 60 (wd w.While ∷ nm ∷ wd w.Do ∷ wd w.Repeat ∷ wd w.Until ∷ nm ∷ wd w.End ∷ over)) ≡ None
unfolding on expect before attribute_name loop many more_exprs list in_parens suffixes named_field keyed_field table parameters function_body group operand climb from_level rest_of after_do after_while after_repeat condition after_else more_arms after_if for_step for_numbers for_names for_each after_for attrib more_declared values local_names local_function after_local path defined after_path after_function target_from target assigned prefixes begun after_open after_goto after_colons returned semicolon after_return more_stats block levels script
example-29 = refl

-- return, 58 times (, a name, 58 times )
example-30 : verdict (script 60 (wd w.Return ∷ times 58 (sg s.OpenParen) (nm ∷ times 58 (sg s.CloseParen) over))) ≡ None
unfolding on expect before attribute_name loop many more_exprs list in_parens suffixes named_field keyed_field table parameters function_body group operand climb from_level rest_of after_do after_while after_repeat condition after_else more_arms after_if for_step for_numbers for_names for_each after_for attrib more_declared values local_names local_function after_local path defined after_path after_function target_from target assigned prefixes begun after_open after_goto after_colons returned semicolon after_return more_stats block levels script
example-30 = refl

-- return, 59 times (, a name, 59 times ): the 59th ( is refused
example-31 : verdict (script 60 (wd w.Return ∷ times 59 (sg s.OpenParen) (nm ∷ times 59 (sg s.CloseParen) over))) ≡ Some (62, deep)
unfolding on expect before attribute_name loop many more_exprs list in_parens suffixes named_field keyed_field table parameters function_body group operand climb from_level rest_of after_do after_while after_repeat condition after_else more_arms after_if for_step for_numbers for_names for_each after_for attrib more_declared values local_names local_function after_local path defined after_path after_function target_from target assigned prefixes begun after_open after_goto after_colons returned semicolon after_return more_stats block levels script
example-31 = refl

-- - x .. x
example-32 : script 60 (nm ∷ sg s.Equal ∷ sg s.Minus ∷ nm ∷ sg s.DotDot ∷ nm ∷ over) ≡ Ok (record { block = block_of (st.Assign (var ∷ []) (node (k.Binary b.Concat (pair (node (k.Unary u.Neg var) here) var)) here ∷ []) ∷ []) }, [])
unfolding on expect before attribute_name loop many more_exprs list in_parens suffixes named_field keyed_field table parameters function_body group operand climb from_level rest_of after_do after_while after_repeat condition after_else more_arms after_if for_step for_numbers for_names for_each after_for attrib more_declared values local_names local_function after_local path defined after_path after_function target_from target assigned prefixes begun after_open after_goto after_colons returned semicolon after_return more_stats block levels script
example-32 = refl

-- not x == x
example-33 : script 60 (nm ∷ sg s.Equal ∷ wd w.Not ∷ nm ∷ sg s.EqualEqual ∷ nm ∷ over) ≡ Ok (record { block = block_of (st.Assign (var ∷ []) (node (k.Binary b.Eq (pair (node (k.Unary u.Not var) here) var)) here ∷ []) ∷ []) }, [])
unfolding on expect before attribute_name loop many more_exprs list in_parens suffixes named_field keyed_field table parameters function_body group operand climb from_level rest_of after_do after_while after_repeat condition after_else more_arms after_if for_step for_numbers for_names for_each after_for attrib more_declared values local_names local_function after_local path defined after_path after_function target_from target assigned prefixes begun after_open after_goto after_colons returned semicolon after_return more_stats block levels script
example-33 = refl

-- x .. x .. x groups to the right
example-34 : script 60 (nm ∷ sg s.Equal ∷ nm ∷ sg s.DotDot ∷ nm ∷ sg s.DotDot ∷ nm ∷ over) ≡ Ok (record { block = block_of (st.Assign (var ∷ []) (node (k.Binary b.Concat (pair var (node (k.Binary b.Concat (pair var var)) here))) here ∷ []) ∷ []) }, [])
unfolding on expect before attribute_name loop many more_exprs list in_parens suffixes named_field keyed_field table parameters function_body group operand climb from_level rest_of after_do after_while after_repeat condition after_else more_arms after_if for_step for_numbers for_names for_each after_for attrib more_declared values local_names local_function after_local path defined after_path after_function target_from target assigned prefixes begun after_open after_goto after_colons returned semicolon after_return more_stats block levels script
example-34 = refl

-- x - x - x groups to the left
example-35 : script 60 (nm ∷ sg s.Equal ∷ nm ∷ sg s.Minus ∷ nm ∷ sg s.Minus ∷ nm ∷ over) ≡ Ok (record { block = block_of (st.Assign (var ∷ []) (node (k.Binary b.Sub (pair (node (k.Binary b.Sub (pair var var)) here) var)) here ∷ []) ∷ []) }, [])
unfolding on expect before attribute_name loop many more_exprs list in_parens suffixes named_field keyed_field table parameters function_body group operand climb from_level rest_of after_do after_while after_repeat condition after_else more_arms after_if for_step for_numbers for_names for_each after_for attrib more_declared values local_names local_function after_local path defined after_path after_function target_from target assigned prefixes begun after_open after_goto after_colons returned semicolon after_return more_stats block levels script
example-35 = refl

-- local x ( x ) ( ) is two statements
example-36 : script 60 (wd w.Local ∷ nm ∷ sg s.OpenParen ∷ nm ∷ sg s.CloseParen ∷ sg s.OpenParen ∷ sg s.CloseParen ∷ over) ≡ Ok (record { block = block_of (st.Local ((x, false, here) ∷ []) [] ∷ st.Call (node (k.Call (node (k.Paren var) here) []) here) ∷ []) }, [])
unfolding on expect before attribute_name loop many more_exprs list in_parens suffixes named_field keyed_field table parameters function_body group operand climb from_level rest_of after_do after_while after_repeat condition after_else more_arms after_if for_step for_numbers for_names for_each after_for attrib more_declared values local_names local_function after_local path defined after_path after_function target_from target assigned prefixes begun after_open after_goto after_colons returned semicolon after_return more_stats block levels script
example-36 = refl

-- goto x :: x ::
example-37 : verdict (script 1 (wd w.Goto ∷ nm ∷ sg s.ColonColon ∷ nm ∷ sg s.ColonColon ∷ over)) ≡ None
unfolding on expect before attribute_name loop many more_exprs list in_parens suffixes named_field keyed_field table parameters function_body group operand climb from_level rest_of after_do after_while after_repeat condition after_else more_arms after_if for_step for_numbers for_names for_each after_for attrib more_declared values local_names local_function after_local path defined after_path after_function target_from target assigned prefixes begun after_open after_goto after_colons returned semicolon after_return more_stats block levels script
example-37 = refl

-- goto ::
example-38 : verdict (script 60 (wd w.Goto ∷ sg s.ColonColon ∷ over)) ≡ Some (2, bad)
unfolding on expect before attribute_name loop many more_exprs list in_parens suffixes named_field keyed_field table parameters function_body group operand climb from_level rest_of after_do after_while after_repeat condition after_else more_arms after_if for_step for_numbers for_names for_each after_for attrib more_declared values local_names local_function after_local path defined after_path after_function target_from target assigned prefixes begun after_open after_goto after_colons returned semicolon after_return more_stats block levels script
example-38 = refl

-- :: x
example-39 : verdict (script 60 (sg s.ColonColon ∷ nm ∷ over)) ≡ Some (1, bad)
unfolding on expect before attribute_name loop many more_exprs list in_parens suffixes named_field keyed_field table parameters function_body group operand climb from_level rest_of after_do after_while after_repeat condition after_else more_arms after_if for_step for_numbers for_names for_each after_for attrib more_declared values local_names local_function after_local path defined after_path after_function target_from target assigned prefixes begun after_open after_goto after_colons returned semicolon after_return more_stats block levels script
example-39 = refl

-- :: x : x
example-40 : verdict (script 60 (sg s.ColonColon ∷ nm ∷ sg s.Colon ∷ nm ∷ over)) ≡ Some (3, bad)
unfolding on expect before attribute_name loop many more_exprs list in_parens suffixes named_field keyed_field table parameters function_body group operand climb from_level rest_of after_do after_while after_repeat condition after_else more_arms after_if for_step for_numbers for_names for_each after_for attrib more_declared values local_names local_function after_local path defined after_path after_function target_from target assigned prefixes begun after_open after_goto after_colons returned semicolon after_return more_stats block levels script
example-40 = refl

-- goto x ( x ) ( )
example-41 : verdict (script 60 (wd w.Goto ∷ nm ∷ sg s.OpenParen ∷ nm ∷ sg s.CloseParen ∷ sg s.OpenParen ∷ sg s.CloseParen ∷ over)) ≡ None
unfolding on expect before attribute_name loop many more_exprs list in_parens suffixes named_field keyed_field table parameters function_body group operand climb from_level rest_of after_do after_while after_repeat condition after_else more_arms after_if for_step for_numbers for_names for_each after_for attrib more_declared values local_names local_function after_local path defined after_path after_function target_from target assigned prefixes begun after_open after_goto after_colons returned semicolon after_return more_stats block levels script
example-41 = refl

-- return :: x ::
example-42 : verdict (script 60 (wd w.Return ∷ sg s.ColonColon ∷ nm ∷ sg s.ColonColon ∷ over)) ≡ Some (4, bad)
unfolding on expect before attribute_name loop many more_exprs list in_parens suffixes named_field keyed_field table parameters function_body group operand climb from_level rest_of after_do after_while after_repeat condition after_else more_arms after_if for_step for_numbers for_names for_each after_for attrib more_declared values local_names local_function after_local path defined after_path after_function target_from target assigned prefixes begun after_open after_goto after_colons returned semicolon after_return more_stats block levels script
example-42 = refl

-- goto x :: x ::
example-43 : script 60 (wd w.Goto ∷ nm ∷ sg s.ColonColon ∷ nm ∷ sg s.ColonColon ∷ over) ≡ Ok (record { block = block_of (st.Goto x here ∷ st.Label x here ∷ []) }, [])
unfolding on expect before attribute_name loop many more_exprs list in_parens suffixes named_field keyed_field table parameters function_body group operand climb from_level rest_of after_do after_while after_repeat condition after_else more_arms after_if for_step for_numbers for_names for_each after_for attrib more_declared values local_names local_function after_local path defined after_path after_function target_from target assigned prefixes begun after_open after_goto after_colons returned semicolon after_return more_stats block levels script
example-43 = refl
