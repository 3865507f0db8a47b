-- rfc4180::record::record_at meets its contract. The loop's invariant: what is found from the next field on is found of the whole record.
use Rattle.std.proofs.Common.{List, [], ◌∷◌, ◌++◌, ℕ, ◌≤◌, ◌≡◌, ◌∙◌, length, arith, Option}
use Rattle.numbers.specs.Padded.{padded}
use Rattle.rfc4180.specs.declared.record.Found.{Found}
use Rattle.rfc4180.specs.Records.{KEPT, no_span, RecordAt, found, none}
use Rattle.rfc4180.proofs.Records.{length_spans}
use Rattle.rfc4180.proofs.Finding.{RecordFrom, read, unread, reading_none, reading_broken, reading_kept, reading_full, reading_neither, reading_end, reading_more}
use Rattle.rfc4180.proofs.record.record_at.Goals.{then-count-lt-KEPT, else-count-lt-KEPT}
use Rattle.rfc4180.proofs.record.record_at.Goals as goal

-- the whole record is what is found from its first field on
begun : {s : List ℕ} {at : ℕ} → at ≤ length s → (r : Option Found) → RecordFrom s at [] r → RecordAt s at r
begun l r (read p) = rw length_spans (found l p)
begun l r (unread h) = none (λ k. h)

pub returns-then-text-at : goal.returns-then-text-at
returns-then-text-at c = none (λ l fs cs rest p. omega arith)

pub loop-field-init : goal.loop-field-init
loop-field-init c = reading_none c.if-text-at.false (begun c.if-text-at.false)

pub returns-in_err-field : goal.returns-in_err-field
returns-in_err-field c = rw c.from_residual.ensures (reading_broken c.loop-field.invariant c.in_err-field.ensures)

pub returns-in_err-further : goal.returns-in_err-further
returns-in_err-further c =
    rw c.from_residual-in_err-further.ensures (reading_neither c.loop-field.invariant c.in_ok-field.ensures c.in_err-further.ensures)

pub loop-field-preserved : goal.loop-field-preserved
loop-field-preserved c =
    let g = c.loop-field.invariant in
    let e : c.if-count-lt-KEPT.fields ≡ padded KEPT no_span (g.before ++ (c.in_ok-field.field.span ∷ [])) = elim c.if-count-lt-KEPT.branch [
      | then-count-lt-KEPT w ↦ w.fields-is ∙ reading_kept g c.in_ok-field.field.span w.if-count-lt-KEPT.true
      | else-count-lt-KEPT w ↦ w.fields-is ∙ reading_full g c.in_ok-field.field.span w.if-count-lt-KEPT.false
    ] in
    reading_more g c.in_ok-field.ensures e (rw c.in-More.is at c.in_ok-further.ensures)

pub returns-in-End : goal.returns-in-End
returns-in-End c =
    let g = c.loop-field.invariant in
    let e : c.if-count-lt-KEPT.fields ≡ padded KEPT no_span (g.before ++ (c.in_ok-field.field.span ∷ [])) = elim c.if-count-lt-KEPT.branch [
      | then-count-lt-KEPT w ↦ w.fields-is ∙ reading_kept g c.in_ok-field.field.span w.if-count-lt-KEPT.true
      | else-count-lt-KEPT w ↦ w.fields-is ∙ reading_full g c.in_ok-field.field.span w.if-count-lt-KEPT.false
    ] in
    reading_end g c.in_ok-field.ensures e (rw c.in-End.is at c.in_ok-further.ensures)
