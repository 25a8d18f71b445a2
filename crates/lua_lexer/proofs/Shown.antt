-- The bytes of one token.
use Rattle.std.proofs.Common.{◌≡◌, sym, ◌∙◌, ap, subst, ℕ, ◌-◌, ◌≤◌, ◌<◌, false, List, [], ◌++◌, length, take, drop, Some, None, Ok, Err, arith}
use Rattle.std.proofs.lemmas.List.{length-drop, drop_all}
use Rattle.lua_tokens.specs.declared.Lexeme.{Lexeme}
use Rattle.lua_tokens.specs.declared.Lexeme.TheVariants as lexeme
use Rattle.lua_lexer.specs.declared.stop.Why.{Why}
use Rattle.lua_lexer.specs.Bytes.{EndsWith}
use Rattle.lua_lexer.specs.Tokens.{SpelledAt}
use Rattle.lua_lexer.specs.Reading.{spelling, is_finish}
use Rattle.lua_lexer.specs.View.{lex}
use Rattle.lua_lexer.proofs.Runs.{front_cut}
use Rattle.lua_lexer.proofs.Fronts.{Suffix, suffix_drop, suffix_ends, suffix_short}
use Rattle.lua_lexer.proofs.Standing.{nothing_stands, read_end, read_fault, read_spelled}
use Rattle.lua_lexer.proofs.Places.{token_suffix}

pub here_ends : (script here : List ℕ) (at : ℕ) → here ≡ drop at script → EndsWith script here
here_ends script here at e = subst (EndsWith script) (sym e) (suffix_ends script (drop at script) (suffix_drop at script))

pub rest_short : (script here rest : List ℕ) (at : ℕ) (what : Lexeme) → here ≡ drop at script → spelling here ≡ Ok (lex what, rest) → length rest ≤ length script
rest_short script here rest at what e s =
    (let short : length rest ≤ length here = suffix_short here rest (token_suffix (lex what) here rest s) in
    let long : length here ≤ length script = (here_ends script here at e).0 in
    omega (arith, short, long))

-- how far the token goes
pub rest_within : (script here rest : List ℕ) (at : ℕ) (what : Lexeme) → at ≤ length script → here ≡ drop at script → spelling here ≡ Ok (lex what, rest) → at ≤ length script - length rest
rest_within script here rest at what w e s =
    (let short : length rest ≤ length here = suffix_short here rest (token_suffix (lex what) here rest s) in
    let long : length (drop at script) ≡ length script - at = length-drop at script in
    omega (arith, ap length e))

pub shown_fault : (script here : List ℕ) (at : ℕ) (why : Why) (stop : List ℕ) → here ≡ drop at script → spelling here ≡ Err (why, stop) → SpelledAt (drop at script) None
shown_fault script here at why stop e s = subst (λ z. SpelledAt z None) e (read_fault here (why, stop) s).1

pub shown_end : (script here rest : List ℕ) (at : ℕ) (what : Lexeme) → here ≡ drop at script → spelling here ≡ Ok (lex what, rest) → what ≡ lexeme.End → SpelledAt (drop at script) None
shown_end script here rest at what e s f =
    (let empty : here ≡ [] = (read_end here (lex what) rest s (ap (λ z. is_finish (lex z)) f)).0 in
    subst (λ z. SpelledAt z None) e (λ x more h. absurd (nothing_stands here x more empty h.stands)))

pub shown_token : (script here rest bytes : List ℕ) (at : ℕ) (what : Lexeme) → here ≡ drop at script → spelling here ≡ Ok (lex what, rest) → is_finish (lex what) ≡ false → at ≤ length script → bytes ≡ take (length script - length rest - at) (drop at script) → SpelledAt (drop at script) (Some bytes)
shown_token script here rest bytes at what e s f w b =
    (let stands : Suffix here rest = token_suffix (lex what) here rest s in
    let long : length (drop at script) ≡ length script - at = length-drop at script in
    let cut : length script - length rest - at ≡ length here - length rest = omega (arith, ap length e) in
    let front : take (length here - length rest) here ≡ stands.front = front_cut stands.front rest here (sym stands.whole) in
    let whole : bytes ≡ stands.front = b ∙ ap (λ n. take n (drop at script)) cut ∙ ap (take (length here - length rest)) (sym e) ∙ front in
    subst (λ z. SpelledAt z (Some bytes)) e ((lex what, rest, read_spelled here (lex what) rest s f, stands.whole ∙ ap (λ z. z ++ rest) (sym whole))))

pub shown_past : (script all : List ℕ) (at : ℕ) → all ≡ script → length all < at → SpelledAt (drop at script) None
shown_past script all at e s =
    (let beyond : length script ≤ at = omega (arith, s, ap length e) in
    let empty : drop at script ≡ [] = drop_all at script beyond in
    λ x rest h. absurd (nothing_stands (drop at script) x rest empty h.stands))

pub ruleset shown_rules = (here_ends, shown_fault, shown_end, shown_past)
