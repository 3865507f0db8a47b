use Rattle.std.proofs.Common.{◌-◌, length}
use Rattle.rfc4180.proofs.Finding.{Reading}
use Rattle.rfc4180.proofs.record.record_at.Given as goal

abbrev pub invariant-loop-field : goal.invariant-loop-field
invariant-loop-field l = Reading l.text l.at l.fields l.count l.next

abbrev pub decreases-loop-field : goal.decreases-loop-field
decreases-loop-field l = length l.text - l.next
