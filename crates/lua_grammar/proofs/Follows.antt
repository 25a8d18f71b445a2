-- What follows a statement: another, or the end of its block.
use Rattle.std.proofs.Common.{◌≡◌, refl, sym, ◌∙◌, ap, subst, Bool, false, List, [], Option, Some}
use Rattle.lua_tokens.specs.declared.token.Token.{Token}
use Rattle.lua_tokens.specs.declared.token.Lexeme.{Lexeme}
use Rattle.lua_tokens.specs.declared.token.Lexeme.TheVariants as l
use Rattle.lua_tokens.specs.declared.sign.Sign.TheVariants as s
use Rattle.lua_tokens.specs.declared.word.Word.TheVariants as w
use Rattle.lua_grammar.specs.Written.{Bytes, Exp, atom, function, variable, group, field, item, call, method, table, unary, binary, Stats, empty, stat, answer, Stat, skip, assign, run, leave, jump, label, nest, loop, repeat, branch, count, each, define, define_local, declare}
use Rattle.lua_grammar.specs.Spelling.{spell, spell_stats, spell_stat, first}
use Rattle.lua_grammar.specs.Formed.{IsPrefix, IsCall, Formed, FormedStats, FormedStat, stat_ends_in_prefix}
use Rattle.lua_grammar.specs.Next.{is_sign}
use Rattle.lua_grammar.proofs.Begins.{stat_first}
use Rattle.lua_grammar.proofs.Complete.{Lacks, Parted}
use Rattle.lua_grammar.proofs.CompleteList.{BlockEnds}
use Rattle.lua_grammar.proofs.CompletePrefix.{variable_prefix}

-- what goes on with no statement, of which is said whether it ends in a prefix
pub record Follows (prefix : Bool) (o : Option Lexeme) : Type 0 where
  pub parted : Parted prefix o
  pub no_comma : Lacks (is_sign s.Comma) o
  pub no_equal : Lacks (is_sign s.Equal) o
  pub no_less : Lacks (is_sign s.Less) o

data Ahead : Type 0 where
  a_semicolon : Ahead
  a_name : Bytes → Ahead
  a_paren : Ahead
  a_break : Ahead
  a_goto : Ahead
  a_label : Ahead
  a_do : Ahead
  a_while : Ahead
  a_repeat : Ahead
  an_if : Ahead
  a_for : Ahead
  a_function : Ahead
  a_local : Ahead
  a_return : Ahead
  the_end : Ahead
  an_end : Ahead
  an_else : Ahead
  an_elseif : Ahead
  an_until : Ahead

abbrev ahead_lexeme : Ahead → Lexeme
ahead_lexeme a_semicolon = l.Sign s.Semicolon
ahead_lexeme (a_name n) = l.Name n
ahead_lexeme a_paren = l.Sign s.OpenParen
ahead_lexeme a_break = l.Word w.Break
ahead_lexeme a_goto = l.Word w.Goto
ahead_lexeme a_label = l.Sign s.ColonColon
ahead_lexeme a_do = l.Word w.Do
ahead_lexeme a_while = l.Word w.While
ahead_lexeme a_repeat = l.Word w.Repeat
ahead_lexeme an_if = l.Word w.If
ahead_lexeme a_for = l.Word w.For
ahead_lexeme a_function = l.Word w.Function
ahead_lexeme a_local = l.Word w.Local
ahead_lexeme a_return = l.Word w.Return
ahead_lexeme the_end = l.End
ahead_lexeme an_end = l.Word w.End
ahead_lexeme an_else = l.Word w.Else
ahead_lexeme an_elseif = l.Word w.Elseif
ahead_lexeme an_until = l.Word w.Until

follows : (x : Ahead) (prefix : Bool) → (ahead_lexeme x ≡ l.Sign s.OpenParen → prefix ≡ false) → Follows prefix (Some (ahead_lexeme x))
follows a_semicolon prefix h = record { parted = record { no_suffix = λ _. record { dot = refl; bracket = refl; colon = refl; paren = refl; brace = refl; text = refl }; no_op = refl }; no_comma = refl; no_equal = refl; no_less = refl }
follows (a_name n) prefix h = record { parted = record { no_suffix = λ _. record { dot = refl; bracket = refl; colon = refl; paren = refl; brace = refl; text = refl }; no_op = refl }; no_comma = refl; no_equal = refl; no_less = refl }
follows a_paren prefix h = record { parted = record { no_suffix = λ t. (let f : prefix ≡ false = h refl in cc); no_op = refl }; no_comma = refl; no_equal = refl; no_less = refl }
follows a_break prefix h = record { parted = record { no_suffix = λ _. record { dot = refl; bracket = refl; colon = refl; paren = refl; brace = refl; text = refl }; no_op = refl }; no_comma = refl; no_equal = refl; no_less = refl }
follows a_goto prefix h = record { parted = record { no_suffix = λ _. record { dot = refl; bracket = refl; colon = refl; paren = refl; brace = refl; text = refl }; no_op = refl }; no_comma = refl; no_equal = refl; no_less = refl }
follows a_label prefix h = record { parted = record { no_suffix = λ _. record { dot = refl; bracket = refl; colon = refl; paren = refl; brace = refl; text = refl }; no_op = refl }; no_comma = refl; no_equal = refl; no_less = refl }
follows a_do prefix h = record { parted = record { no_suffix = λ _. record { dot = refl; bracket = refl; colon = refl; paren = refl; brace = refl; text = refl }; no_op = refl }; no_comma = refl; no_equal = refl; no_less = refl }
follows a_while prefix h = record { parted = record { no_suffix = λ _. record { dot = refl; bracket = refl; colon = refl; paren = refl; brace = refl; text = refl }; no_op = refl }; no_comma = refl; no_equal = refl; no_less = refl }
follows a_repeat prefix h = record { parted = record { no_suffix = λ _. record { dot = refl; bracket = refl; colon = refl; paren = refl; brace = refl; text = refl }; no_op = refl }; no_comma = refl; no_equal = refl; no_less = refl }
follows an_if prefix h = record { parted = record { no_suffix = λ _. record { dot = refl; bracket = refl; colon = refl; paren = refl; brace = refl; text = refl }; no_op = refl }; no_comma = refl; no_equal = refl; no_less = refl }
follows a_for prefix h = record { parted = record { no_suffix = λ _. record { dot = refl; bracket = refl; colon = refl; paren = refl; brace = refl; text = refl }; no_op = refl }; no_comma = refl; no_equal = refl; no_less = refl }
follows a_function prefix h = record { parted = record { no_suffix = λ _. record { dot = refl; bracket = refl; colon = refl; paren = refl; brace = refl; text = refl }; no_op = refl }; no_comma = refl; no_equal = refl; no_less = refl }
follows a_local prefix h = record { parted = record { no_suffix = λ _. record { dot = refl; bracket = refl; colon = refl; paren = refl; brace = refl; text = refl }; no_op = refl }; no_comma = refl; no_equal = refl; no_less = refl }
follows a_return prefix h = record { parted = record { no_suffix = λ _. record { dot = refl; bracket = refl; colon = refl; paren = refl; brace = refl; text = refl }; no_op = refl }; no_comma = refl; no_equal = refl; no_less = refl }
follows the_end prefix h = record { parted = record { no_suffix = λ _. record { dot = refl; bracket = refl; colon = refl; paren = refl; brace = refl; text = refl }; no_op = refl }; no_comma = refl; no_equal = refl; no_less = refl }
follows an_end prefix h = record { parted = record { no_suffix = λ _. record { dot = refl; bracket = refl; colon = refl; paren = refl; brace = refl; text = refl }; no_op = refl }; no_comma = refl; no_equal = refl; no_less = refl }
follows an_else prefix h = record { parted = record { no_suffix = λ _. record { dot = refl; bracket = refl; colon = refl; paren = refl; brace = refl; text = refl }; no_op = refl }; no_comma = refl; no_equal = refl; no_less = refl }
follows an_elseif prefix h = record { parted = record { no_suffix = λ _. record { dot = refl; bracket = refl; colon = refl; paren = refl; brace = refl; text = refl }; no_op = refl }; no_comma = refl; no_equal = refl; no_less = refl }
follows an_until prefix h = record { parted = record { no_suffix = λ _. record { dot = refl; bracket = refl; colon = refl; paren = refl; brace = refl; text = refl }; no_op = refl }; no_comma = refl; no_equal = refl; no_less = refl }

-- ---- the next token

abbrev prefix_ahead : Exp → Ahead
prefix_ahead (variable n p) = a_name n
prefix_ahead (group p e q) = a_paren
prefix_ahead (field e p n q) = prefix_ahead e
prefix_ahead (item e p x q) = prefix_ahead e
prefix_ahead (call e a) = prefix_ahead e
prefix_ahead (method e p n q a) = prefix_ahead e
prefix_ahead _ = a_paren

prefix_first : (e : Exp) → IsPrefix e → Formed e → (k : List Token) → first (spell e k) ≡ Some (ahead_lexeme (prefix_ahead e))
prefix_first (variable n p) i f k = refl
prefix_first (group p e q) i f k = refl
prefix_first (field e p n q) i f k = prefix_first e f.1 f.0 _
prefix_first (item e p x q) i f k = prefix_first e f.1 f.0 _
prefix_first (call e a) i f k = prefix_first e f.1 f.0 _
prefix_first (method e p n q a) i f k = prefix_first e f.1 f.0 _
prefix_first (atom a p) i f k = absurd i
prefix_first (function p b) i f k = absurd i
prefix_first (table p fs q) i f k = absurd i
prefix_first (unary op p e) i f k = absurd i
prefix_first (binary op p x y) i f k = absurd i

pub call_prefix : (e : Exp) → IsCall e → IsPrefix e
call_prefix (call e a) i = tt
call_prefix (method e p n q a) i = tt
call_prefix (variable n p) i = absurd i
call_prefix (field e p n q) i = absurd i
call_prefix (item e p x q) i = absurd i
call_prefix (atom a p) i = absurd i
call_prefix (function p b) i = absurd i
call_prefix (group p e q) i = absurd i
call_prefix (table p fs q) i = absurd i
call_prefix (unary op p e) i = absurd i
call_prefix (binary op p x y) i = absurd i

record IsAhead (o : Option Lexeme) : Type 0 where
  ahead : Ahead
  is : o ≡ Some (ahead_lexeme ahead)

stat_ahead : (x : Stat) (k : List Token) → FormedStat x → IsAhead (first (spell_stat x k))
stat_ahead (skip p) k f = record { ahead = a_semicolon; is = refl }
stat_ahead (assign t ts p e es) k f = record { ahead = prefix_ahead t; is = prefix_first t (variable_prefix t f.1) f.0 _ }
stat_ahead (run e) k f = record { ahead = prefix_ahead e; is = prefix_first e (call_prefix e f.1) f.0 _ }
stat_ahead (leave p) k f = record { ahead = a_break; is = refl }
stat_ahead (jump p n q) k f = record { ahead = a_goto; is = refl }
stat_ahead (label p n q r) k f = record { ahead = a_label; is = refl }
stat_ahead (nest p ss q) k f = record { ahead = a_do; is = refl }
stat_ahead (loop p e q ss r) k f = record { ahead = a_while; is = refl }
stat_ahead (repeat p ss q e) k f = record { ahead = a_repeat; is = refl }
stat_ahead (branch p e q ss arms) k f = record { ahead = an_if; is = refl }
stat_ahead (count p n q r from x to by y ss z) k f = record { ahead = a_for; is = refl }
stat_ahead (each p n q ns r e es x ss y) k f = record { ahead = a_for; is = refl }
stat_ahead (define p e c b) k f = record { ahead = a_function; is = refl }
stat_ahead (define_local p q n r b) k f = record { ahead = a_local; is = refl }
stat_ahead (declare p n q a ds vs) k f = record { ahead = a_local; is = refl }

end_ahead : (o : Option Lexeme) → BlockEnds o → IsAhead o
end_ahead (Some l.End) b = record { ahead = the_end; is = refl }
end_ahead (Some (l.Word w.End)) b = record { ahead = an_end; is = refl }
end_ahead (Some (l.Word w.Else)) b = record { ahead = an_else; is = refl }
end_ahead (Some (l.Word w.Elseif)) b = record { ahead = an_elseif; is = refl }
end_ahead (Some (l.Word w.Until)) b = record { ahead = an_until; is = refl }
end_ahead _ b = absurd b

stats_ahead : (ss : Stats) (k : List Token) → FormedStats ss → BlockEnds (first k) → IsAhead (first (spell_stats ss k))
stats_ahead empty k f b = end_ahead (first k) b
stats_ahead (stat x ss) k f b = stat_ahead x (spell_stats ss k) f.0
stats_ahead (answer p es m) k f b = record { ahead = a_return; is = refl }

no_open : (o : Option Lexeme) → BlockEnds o → o ≡ Some (l.Sign s.OpenParen) → ⊥
no_open o b e = subst BlockEnds e b

-- the rule about a parenthesis after a statement, at what follows the block
apart_from : (x : Stat) (ss : Stats) (k : List Token) → FormedStats (stat x ss) → BlockEnds (first k) → first (spell_stats ss k) ≡ Some (l.Sign s.OpenParen) → stat_ends_in_prefix x ≡ false
apart_from x empty k f b e = absurd (no_open (first k) b e)
apart_from x (stat y ss) k f b e = f.2 (stat_first y (spell_stats ss []) (spell_stats ss k) ∙ e)
apart_from x (answer p es m) k f b e = cc

pub next_follows : (x : Stat) (ss : Stats) (k : List Token) → FormedStats (stat x ss) → BlockEnds (first k) → Follows (stat_ends_in_prefix x) (first (spell_stats ss k))
next_follows x ss k f b =
    let a : IsAhead (first (spell_stats ss k)) = stats_ahead ss k f.1 b in
    subst (Follows (stat_ends_in_prefix x)) (sym a.is) (follows a.ahead (stat_ends_in_prefix x) (λ e. apart_from x ss k f b (a.is ∙ ap Some e)))

-- the end of a block goes on with nothing
pub end_follows : (prefix : Bool) (o : Option Lexeme) → BlockEnds o → Follows prefix o
end_follows prefix o b =
    let a : IsAhead o = end_ahead o b in
    subst (Follows prefix) (sym a.is) (follows a.ahead prefix (λ e. absurd (no_open o b (a.is ∙ ap Some e))))
