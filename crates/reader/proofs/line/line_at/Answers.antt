-- reader::line::line_at meets its contract.
use Rattle.std.proofs.Common.{sym, ◌∙◌}
use Rattle.numbers.specs.Decides.{decides_true, decides_false}
use Rattle.reader.specs.Lines.{no_record}
use Rattle.reader.proofs.Fields.{field_in}
use Rattle.reader.proofs.Standing.{no_record_at, not_six, six_found, line_row, line_none}
use Rattle.reader.proofs.line.line_at.Goals.{then-same, else-same+then-same-2, else-same+else-same-2}
use Rattle.reader.proofs.line.line_at.Goals as goal

pub returns-in_default : goal.returns-in_default
returns-in_default c = no_record (no_record_at c.in_default.ensures)

pub returns-then-record-ne-FIELDS : goal.returns-then-record-ne-FIELDS
returns-then-record-ne-FIELDS c = no_record (not_six c.in-Some.ensures c.if-record-ne-FIELDS.true)

pub bytes_of-word-requires : goal.bytes_of-word-requires
bytes_of-word-requires c =
    field_in c.args.text.now c.in-Some.record.fields 0 (six_found c.in-Some.ensures c.if-record-ne-FIELDS.false).within

pub actor_line-line-requires : goal.actor_line-line-requires
actor_line-line-requires c = (six_found c.in-Some.ensures c.if-record-ne-FIELDS.false).within

pub channel_line-requires : goal.channel_line-requires
channel_line-requires c = (six_found c.in-Some.ensures c.if-record-ne-FIELDS.false).within

pub returns : goal.returns
returns c =
    let six = six_found c.in-Some.ensures c.if-record-ne-FIELDS.false in let is = c.bytes_of-word.ensures in
    rw c.ok_or.ensures.value (elim c.if-same.branch [
      | then-same w ↦ rw w.line-is (line_row six (sym is ∙ decides_true c.same.ensures w.if-same.true) w.actor_line-line.ensures)
      | else-same+then-same-2 w ↦ rw w.line-is (line_row six (sym is ∙ decides_true w.same-else-same.ensures w.if-same-2.true) w.channel_line.ensures)
      | else-same+else-same-2 w ↦ rw w.line-is
          (line_none six (λ e. decides_false c.same.ensures w.if-same.false (is ∙ e)) (λ e. decides_false w.same-else-same.ensures w.if-same-2.false (is ∙ e)))
    ])
