use Rattle.std.proofs.Common.{◌≡◌, sym, ◌∙◌, ap, subst, List, ℕ, ◌++◌, Some}
use Rattle.lua_lexer.specs.Spellings.{Quoted, escape}
use Rattle.lua_lexer.specs.View.{piece_bytes}
use Rattle.lua_lexer.proofs.Strings.{string_end, string_open, string_line, string_wrong, string_more, string_after, string_shorter}
use Rattle.lua_lexer.proofs.text.string.Goals as goal

pub loop-found-init : goal.loop-found-init
loop-found-init c = record {
  good = λ value rest h. subst (λ (z : List ℕ). Quoted c.args.quote c.args.bytes.now (z ++ value) rest) (sym c.in_ok-found.ensures.items) h;
  bad = λ stop h. h;
}

pub returns-in_default : goal.returns-in_default
returns-in_default c = string_open c.args.at.now c.args.quote c.args.bytes.now c.loop-found.left.now c.split_plain.result.1.now c.loop-found.invariant.bad c.split_plain.ensures.rest c.in_default.ensures

pub returns-then-first-quote : goal.returns-then-first-quote
returns-then-first-quote c =
    string_end c.args.at.now c.args.quote c.args.bytes.now c.loop-found.found.items c.extend_from_slice.new.self.items c.loop-found.left.now c.split_plain.result.1.now c.in-Some.behind.now c.in-Some.first
    c.loop-found.invariant.good (c.in_ok-extend_from_slice.ensures.items ∙ ap (λ z. c.loop-found.found.items ++ z) c.split_plain.ensures.run) c.split_plain.ensures.rest c.in-Some.ensures c.if-first-quote.true

pub returns-then-first-ne92 : goal.returns-then-first-ne92
returns-then-first-ne92 c =
    string_line c.args.at.now c.args.quote c.args.bytes.now c.loop-found.left.now c.split_plain.result.1.now c.in-Some.behind.now c.in-Some.first
    c.loop-found.invariant.bad c.split_plain.ensures.rest c.in-Some.ensures c.if-first-quote.false c.if-first-ne92.true

pub returns-in_default-escape : goal.returns-in_default-escape
returns-in_default-escape c =
    string_wrong c.args.at.now c.args.quote c.args.bytes.now c.loop-found.left.now c.split_plain.result.1.now c.in-Some.behind.now c.in-Some.first
    c.loop-found.invariant.bad c.split_plain.ensures.rest c.in-Some.ensures c.if-first-ne92.false (sym c.in_default-escape.ensures)

pub loop-found-preserved : goal.loop-found-preserved
loop-found-preserved c =
    let x : escape c.in-Some.behind.now ≡ Some (piece_bytes c.in-Some-escape.piece, c.in-Some-escape.after.now) = sym c.in-Some-escape.ensures in
    record {
      good = string_more c.args.at.now c.args.quote c.args.bytes.now c.loop-found.found.items c.extend_from_slice.new.self.items c.put.new.found.items c.loop-found.left.now c.split_plain.result.1.now c.in-Some.behind.now
          (piece_bytes c.in-Some-escape.piece) c.in-Some-escape.after.now c.in-Some.first
          c.loop-found.invariant.good (c.in_ok-extend_from_slice.ensures.items ∙ ap (λ z. c.loop-found.found.items ++ z) c.split_plain.ensures.run) c.in_ok-put.ensures c.split_plain.ensures.rest c.in-Some.ensures c.if-first-ne92.false x;
      bad = string_after c.args.at.now c.args.quote c.args.bytes.now c.loop-found.left.now c.split_plain.result.1.now c.in-Some.behind.now
          (piece_bytes c.in-Some-escape.piece) c.in-Some-escape.after.now c.in-Some.first
          c.loop-found.invariant.bad c.split_plain.ensures.rest c.in-Some.ensures c.if-first-ne92.false x;
    }

pub loop-found-smaller : goal.loop-found-smaller
loop-found-smaller c =
    string_shorter c.args.at.now c.args.quote c.loop-found.left.now c.split_plain.result.1.now c.in-Some.behind.now (piece_bytes c.in-Some-escape.piece) c.in-Some-escape.after.now c.in-Some.first
    c.split_plain.ensures.rest c.in-Some.ensures (sym c.in-Some-escape.ensures)
