use Rattle.std.proofs.Common.{◌≡◌, ◌+◌, ◌-◌, sym, refl, ap, subst, arith, true, false, length}
use Rattle.lua_lexer.specs.Bytes.{line_ends, EndsWith}
use Rattle.lua_lexer.specs.Tokens.{Lexes, line}
use Rattle.lua_lexer.specs.View.{lex, marks}
use Rattle.lua_lexer.proofs.Fronts.{suffix_short, suffix_trans, suffix_ends}
use Rattle.lua_lexer.proofs.Places.{finish_seen, first_lines, first_suffix, few_lines, gap_lines, gap_within, gap_suffix, token_suffix, token_shorter, line_placed}
use Rattle.lua_lexer.proofs.Turns.{Goes, goes_more, stops_more, goes_last, stops_read, passed_on}
use Rattle.lua_lexer.proofs.script.all.Goals as goal

pub loop-found-init : goal.loop-found-init
loop-found-init c =
    let e = c.past_first-left.ensures in
    record {
      goes = rw (c.new-found.ensures, e) (λ ms h. h);
      stops = rw e (λ stop h. h);
      lines = rw e (ap (λ z. 1 + z) (first_lines c.args.script.now));
      suffix = rw e (first_suffix c.args.script.now);
    }

pub overflow_sub-left : goal.overflow_sub-left
overflow_sub-left c = gap_within c.loop-found.left.now c.gap-here.result.now c.gap-here.ensures

pub overflow_sub-place : goal.overflow_sub-place
overflow_sub-place c =
    suffix_short c.args.script.now c.gap-here.result.now (suffix_trans c.args.script.now c.loop-found.left.now c.gap-here.result.now c.loop-found.invariant.suffix (gap_suffix c.loop-found.left.now c.gap-here.result.now c.gap-here.ensures))

pub overflow_add-line : goal.overflow_add-line
overflow_add-line c =
    omega (arith, c.loop-found.invariant.lines, few_lines c.args.script.now, c.requires.within, c.line_ends.ensures.count, ap line_ends c.split_at.ensures.front, gap_lines c.loop-found.left.now c.gap-here.result.now c.gap-here.ensures)

pub overflow_cast-line-in-loop-found : goal.overflow_cast-line-in-loop-found
overflow_cast-line-in-loop-found c =
    omega (arith, c.loop-found.invariant.lines, few_lines c.args.script.now, c.requires.within, c.line_ends.ensures.count, ap line_ends c.split_at.ensures.front, gap_lines c.loop-found.left.now c.gap-here.result.now c.gap-here.ensures, c.lines.ensures)

pub overflow_add-line-in-loop-found : goal.overflow_add-line-in-loop-found
overflow_add-line-in-loop-found c =
    omega (arith, c.loop-found.invariant.lines, few_lines c.args.script.now, c.requires.within, c.line_ends.ensures.count, ap line_ends c.split_at.ensures.front, gap_lines c.loop-found.left.now c.gap-here.result.now c.gap-here.ensures, c.lines.ensures)

pub returns-in_err-what : goal.returns-in_err-what
returns-in_err-what c =
    let h = stops_read c.args.script.now c.loop-found.left.now c.gap-here.result.now c.in_err-what.field-0.0 c.loop-found.invariant.stops c.gap-here.ensures c.in_err-what.ensures in
    passed_on c.args.script.now c.from_residual.result c.in_err-what.field-0.0 c.from_residual.ensures.1 h

pub returns-then-last : goal.returns-then-last
returns-then-last c =
    let g = c.gap-here.ensures in
    let p = line_placed c.args.script.now c.loop-found.left.now c.gap-here.result.now c.loop-found.invariant.suffix g in
    let n : c.loop-found.line + c.line_ends.result ≡ line c.args.script.now c.gap-here.result.now =
    omega (arith, p, c.loop-found.invariant.lines, c.line_ends.ensures.count, ap line_ends c.split_at.ensures.front, gap_lines c.loop-found.left.now c.gap-here.result.now g) in
    let t = goes_last c.args.script.now c.loop-found.found (record { what = c.in_ok-what.what; place = record { at = length c.args.script.now - length c.gap-here.result.now; line = c.loop-found.line + c.line_ends.result } })
    c.loop-found.left.now c.gap-here.result.now c.in_ok-what.rest.now c.loop-found.invariant.goes g c.in_ok-what.ensures (finish_seen c.in_ok-what.what true c.if-last.ensures) refl n in
    subst (λ z. Lexes c.args.script.now (marks z)) (sym c.in_ok-push.ensures.pushed) t

pub loop-found-smaller : goal.loop-found-smaller
loop-found-smaller c =
    omega (arith, token_shorter (lex c.in_ok-what.what) c.gap-here.result.now c.in_ok-what.rest.now c.in_ok-what.ensures (finish_seen c.in_ok-what.what false c.if-last.ensures), gap_within c.loop-found.left.now c.gap-here.result.now c.gap-here.ensures)

pub loop-found-preserved : goal.loop-found-preserved
loop-found-preserved c =
    let g = c.gap-here.ensures in
    let p = line_placed c.args.script.now c.loop-found.left.now c.gap-here.result.now c.loop-found.invariant.suffix g in
    let n : c.loop-found.line + c.line_ends.result ≡ line c.args.script.now c.gap-here.result.now =
    omega (arith, p, c.loop-found.invariant.lines, c.line_ends.ensures.count, ap line_ends c.split_at.ensures.front, gap_lines c.loop-found.left.now c.gap-here.result.now g) in
    let t = goes_more c.args.script.now c.loop-found.found (record { what = c.in_ok-what.what; place = record { at = length c.args.script.now - length c.gap-here.result.now; line = c.loop-found.line + c.line_ends.result } })
    c.loop-found.left.now c.gap-here.result.now c.in_ok-what.rest.now c.loop-found.invariant.goes g c.in_ok-what.ensures (finish_seen c.in_ok-what.what false c.if-last.ensures) refl n in
    record {
      goes = subst (λ z. Goes c.args.script.now z c.in_ok-what.rest.now) (sym c.in_ok-push.ensures.pushed) t;
      stops = stops_more c.args.script.now c.loop-found.left.now c.gap-here.result.now c.in_ok-what.rest.now (lex c.in_ok-what.what) c.loop-found.invariant.stops g c.in_ok-what.ensures (finish_seen c.in_ok-what.what false c.if-last.ensures);
      lines = omega (arith, c.lines.ensures, c.loop-found.invariant.lines, c.line_ends.ensures.count, ap line_ends c.split_at.ensures.front, gap_lines c.loop-found.left.now c.gap-here.result.now g);
      suffix = suffix_trans c.args.script.now c.gap-here.result.now c.in_ok-what.rest.now
          (suffix_trans c.args.script.now c.loop-found.left.now c.gap-here.result.now c.loop-found.invariant.suffix (gap_suffix c.loop-found.left.now c.gap-here.result.now g))
          (token_suffix (lex c.in_ok-what.what) c.gap-here.result.now c.in_ok-what.rest.now c.in_ok-what.ensures);
    }

pub spelling-requires : goal.spelling-requires
spelling-requires c =
    let s = suffix_trans c.args.script.now c.loop-found.left.now c.gap-here.result.now c.loop-found.invariant.suffix (gap_suffix c.loop-found.left.now c.gap-here.result.now c.gap-here.ensures) in
    subst (λ z. EndsWith z c.gap-here.result.now) (sym c.requires.same) (suffix_ends c.args.script.now c.gap-here.result.now s)
