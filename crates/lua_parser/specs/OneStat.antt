-- A statement by the token that begins it.
use Rattle.std.specs.Prelude.{ℕ, nat_le, Bool, if◌then◌else◌, [], ◌∷◌, Err}
use Rattle.lua_tokens.specs.declared.place.Place.{Place}
use Rattle.lua_tree.specs.declared.stat.Stat.{Stat}
use Rattle.lua_tree.specs.declared.stat.Stat.TheVariants as st
use Rattle.lua_grammar.specs.declared.measured.Measured.{Measured}
use Rattle.lua_grammar.specs.Written.{Bytes}
use Rattle.lua_grammar.specs.Next.{a_name}
use Rattle.lua_grammar.specs.Input.{Parser, bad, deep, ◌>>=◌, pure, refuse, on}
use Rattle.lua_grammar.specs.Expressions.{measured, name_leaf}
use Rattle.lua_grammar.specs.Statements as spec
use Rattle.lua_parser.specs.Steps.{over}
use Rattle.lua_parser.specs.Starts.{room_of}
use Rattle.lua_parser.specs.declared.start.Kind.{Kind}
use Rattle.lua_parser.specs.declared.start.Kind.TheVariants as kind

-- the next token is a name, and there is room for it
unfoldable pub needs_name : Bool → Parser (Bytes × Place)
needs_name room = on a_name room (λ n p. pure (n, p)) refuse

-- the break, whose word is here
abbrev pub break_at : Place → Measured Stat
break_at p = measured (st.Break p) 0

-- one that a name begins
unfoldable pub name_stat : ℕ → Parser (Measured Stat)
name_stat d =
    needs_name (nat_le 1 d) >>= λ x. over d spec.begun (spec.as_variable (name_leaf x.0 x.1))

-- one of this kind after the token here that begins it
unfoldable pub after_kind : ℕ → Kind → Place → Parser (Measured Stat)
after_kind d kind.Break p = pure (break_at p)
after_kind d kind.Goto p = spec.after_goto
after_kind d kind.Label p = spec.after_colons
after_kind d kind.Paren p = over d spec.after_open p
after_kind d kind.Local p = over d spec.after_local
after_kind d kind.If p = over d spec.after_if
after_kind d kind.For p = over d spec.after_for
after_kind d kind.Function p = over d spec.after_function p
after_kind d kind.While p = over d spec.after_while
after_kind d kind.Repeat p = over d spec.after_repeat
after_kind d kind.Do p = over d spec.after_do

-- one of this kind, which the next token begins, where there is room for it
unfoldable pub one_stat : ℕ → Kind → Parser (Measured Stat)
one_stat d k [] = Err (bad, [])
one_stat d k (x ∷ ts) =
    if nat_le (room_of k) d then after_kind d k x.place ts else Err (deep, x ∷ ts)
