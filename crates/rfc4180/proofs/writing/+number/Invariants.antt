use Rattle.rfc4180.proofs.writing.+number.Given as goal

abbrev pub decreases-number : goal.decreases-number
decreases-number l = l.n
