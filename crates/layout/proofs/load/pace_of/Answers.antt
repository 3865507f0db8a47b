-- layout::load::pace_of meets its contract.
use mathlib.Core.Path.{ap}
use native.Mathlib.Omega.{arith}
use borrow.Author.Tests.{ne_eqb}
use Rattle.std.specs.Prelude.{Some}
use lib.ListN.{length-take}
use lib.Seq.{get_or-take}
use Rattle.tables.specs.declared.memory.Head.{Head}
use Rattle.tables.specs.Memory.{FRONT_WORDS}
use Rattle.layout.proofs.Laying.{pace_read}
use Rattle.layout.proofs.load.pace_of.Goals as goal

pub times_at-times-requires : goal.times_at-times-requires
times_at-times-requires c =
    (simp length-take (omega arith), omega (arith, ap (λ (h : Head). h.sink) c.head_of-head.ensures, get_or-take FRONT_WORDS c.args.words.now 4 0 (omega arith), c.requires.1))

pub returns : goal.returns
returns c = rw (ne_eqb _ _ c.if-words-eq0.false) (ap Some (pace_read c.args.words.now c.head_of-head.result c.times_at-times.result c.requires.1 c.head_of-head.ensures c.times_at-times.ensures))
