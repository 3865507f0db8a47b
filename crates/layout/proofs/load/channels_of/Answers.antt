-- layout::load::channels_of meets its contract. The invariant: the channels below k are read.
use mathlib.Core.Path.{ap, ◌∙◌}
use native.Mathlib.Omega.{arith}
use lib.ListN.{length-take, length-drop}
use Rattle.numbers.specs.Joined.{part}
use Rattle.numbers.proofs.Laid.{begun_none, begun_put, begun_all, part_is}
use Rattle.units.specs.Limits.{CHANNELS}
use Rattle.tables.specs.Memory.{CHANNEL_BYTES}
use Rattle.layout.specs.Words.{CHANNEL_WORDS}
use Rattle.layout.specs.Read.{cut_bytes}
use Rattle.layout.specs.Laws.{length_cut}
use Rattle.layout.proofs.load.channels_of.Goals as goal

pub loop-k-preserved : goal.loop-k-preserved
loop-k-preserved c =
    let l = c.loop-k in let w = c.args.words.now in begun_put CHANNEL_BYTES _ (λ j. length_cut (part CHANNEL_WORDS j w)) CHANNELS _ _ l.k (omega arith) (c.bytes_of.ensures ∙ ap cut_bytes (part_is CHANNEL_WORDS l.k w)) l.invariant

pub loop-k-init : goal.loop-k-init
loop-k-init c = begun_none CHANNEL_BYTES _ (λ j. length_cut (part CHANNEL_WORDS j c.args.words.now)) CHANNELS _ c.requires.1

pub bytes_of-requires : goal.bytes_of-requires
bytes_of-requires c = (simp (length-take, length-drop) (omega arith), simp (length-take, length-drop) (omega arith))

pub returns : goal.returns
returns c = begun_all CHANNEL_BYTES _ (λ j. length_cut (part CHANNEL_WORDS j c.args.words.now)) CHANNELS _ _ (omega arith) c.loop-k.invariant
