-- The fields of a table constructor, one by one.
use Rattle.std.specs.Prelude.{ℕ, List, max, nat_le, Bool, true, false}
use Rattle.lua_tokens.specs.declared.place.Place.{Place}
use Rattle.lua_tokens.specs.declared.token.Lexeme.TheVariants as l
use Rattle.lua_tokens.specs.declared.sign.Sign.TheVariants as s
use Rattle.lua_tree.specs.declared.expr.Expr.{Expr}
use Rattle.lua_tree.specs.declared.expr.Field.{Field}
use Rattle.lua_tree.specs.declared.expr.Field.TheVariants as f
use Rattle.lua_grammar.specs.declared.measured.Measured.{Measured}
use Rattle.lua_grammar.specs.Written.{Bytes}
use Rattle.lua_grammar.specs.Next.{is_sign, a_name}
use Rattle.lua_grammar.specs.Input.{Parser, ◌>>=◌, pure, refuse, on, expect, many}
use Rattle.lua_grammar.specs.Expressions.{Parts, measured, name_leaf, field_turn}
use Rattle.lua_grammar.specs.Statements.{parts}

abbrev pub item : Measured Expr → Measured Field
item e = measured (f.Item e.what) e.depth

abbrev pub named : Bytes → Measured Expr → Measured Field
named n e = measured (f.Named n e.what) e.depth

abbrev pub keyed : Measured Expr → Measured Expr → Measured Field
keyed x e = measured (f.Keyed x.what e.what) (max x.depth e.depth)

-- after the name that begins a field
unfoldable pub name_field : Parts → Bytes → Place → Parser (Measured Field)
name_field P n p =
    on (is_sign s.Equal) true (λ _ _. P.expr 0 >>= λ e. pure (named n e))
    (P.rest (name_leaf n p) >>= λ e. pure (item e))

-- after the bracket that begins a field
unfoldable pub key_field : Parts → Parser (Measured Field)
key_field P =
    P.expr 0 >>= λ x. expect (l.Sign s.CloseBracket) >>= λ _. expect (l.Sign s.Equal) >>= λ _.
    P.expr 0 >>= λ e. pure (keyed x e)

unfoldable pub one_field : Parts → Parser (Measured Field)
one_field P =
    on a_name (nat_le 1 P.depth) (name_field P)
    (on (is_sign s.OpenBracket) (nat_le 1 P.depth) (λ _ _. key_field P)
    (P.expr 0 >>= λ e. pure (item e)))

-- after a field, whether another one may follow
unfoldable pub separator : Parser Bool
separator =
    on (is_sign s.Comma) true (λ _ _. pure true)
    (on (is_sign s.Semicolon) true (λ _ _. pure true)
    (on (is_sign s.CloseBrace) true (λ _ _. pure false) refuse))

-- further fields, of parts of a depth, up to the brace that closes the table
unfoldable pub more_fields : ℕ → Measured (List Field) → Parser (Measured (List Field))
more_fields d found = many (field_turn (parts d)) found
