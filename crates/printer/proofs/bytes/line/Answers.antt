-- printer::bytes::line meets its contract. The invariant: the word and the numbers before the one at hand are laid.
use Rattle.std.proofs.Common.{sym, ap, ℕ, ◌+◌, ◌<◌, ◌≤◌, List, ◌++◌, append-nil, length, get_or, take, drop, arith}
use Rattle.std.proofs.lemmas.List.{take_all}
use Rattle.rfc4180.specs.Laid.{Room, Laid}
use Rattle.rfc4180.proofs.Laying.{laid_then, room_first, room_then}
use Rattle.printer.specs.Printed.{line_text}
use Rattle.printer.proofs.Fitting.{field_text, fields, end, line_parts, fields_more, fields_left}
use Rattle.printer.proofs.Laying.{laid_as, room_as}
use Rattle.printer.proofs.bytes.line.Goals as goal

module _ {l : List ℕ} {at : ℕ} (word ns : List ℕ) (r : Room l at (line_text word ns)) where
  room_fields : Room l at (word ++ fields ns)
  room_fields = room_first end (room_as (line_parts word ns) r)

  module _ {k : List ℕ} {mid : ℕ} (i : ℕ) (a : Laid l at (word ++ fields (take i ns)) k mid) where
    -- there is room for the next number, and for the end
    room_field : i < length ns → Room k mid (field_text (get_or ns i 0))
    room_field h = room_first (fields (drop (i + 1) ns)) (room_then (room_as (fields_left word ns i h) room_fields) a)

    all_laid : length ns ≤ i → Laid l at (word ++ fields ns) k mid
    all_laid h = laid_as (ap (λ (x : List ℕ). word ++ fields x) (sym (take_all i ns h))) a

    room_ended : length ns ≤ i → Room k mid end
    room_ended h = room_then (room_as (line_parts word ns) r) (all_laid h)

    -- one number more is laid
    field_laid : {j : List ℕ} {n : ℕ} → i < length ns → Laid k mid (field_text (get_or ns i 0)) j n → Laid l at (word ++ fields (take (i + 1) ns)) j n
    field_laid h b = laid_as (fields_more word ns i h) (laid_then a b)

pub word-end-requires : goal.word-end-requires
word-end-requires c = room_first (fields c.args.numbers.now) (room_fields c.args.text.now c.args.numbers.now c.requires)

pub loop-number-init : goal.loop-number-init
loop-number-init c = rw append-nil c.word-end.ensures

pub field-end-requires : goal.field-end-requires
field-end-requires c = room_field c.args.text.now c.args.numbers.now c.requires c.loop-number.number-index c.loop-number.invariant (omega arith)

pub loop-number-preserved : goal.loop-number-preserved
loop-number-preserved c =
    field_laid c.args.text.now c.args.numbers.now c.requires c.loop-number.number-index c.loop-number.invariant (omega arith) c.field-end.ensures

pub crlf-requires : goal.crlf-requires
crlf-requires c = room_ended c.args.text.now c.args.numbers.now c.requires c.loop-number.number-index c.loop-number.invariant (omega arith)

pub returns : goal.returns
returns c =
    rw line_parts (laid_then (all_laid c.args.text.now c.args.numbers.now c.requires c.loop-number.number-index c.loop-number.invariant (omega arith)) c.crlf.ensures)
