-- tables::proper::proper_mode meets its contract.
use Rattle.std.proofs.Common.{◌≤◌, mod-lt, ap, arith}
use mathlib.Core.Logic.Iff
use Rattle.numbers.specs.Decides.{decides_and, decides_true}
use Rattle.numbers.specs.Tab.{length_tab}
use Rattle.units.specs.Limits.{ACTORS, CHANNELS}
use Rattle.tables.specs.declared.memory.Head.{Head}
use Rattle.tables.specs.Memory.{head_in}
use Rattle.tables.proofs.proper.proper_mode.Goals as goal

pub returns : goal.returns
returns c =
    let actors = decides_true c.proper_actors.ensures c.if-not-proper_actors.false in
    let few : (head_in c.args.front.now).count ≤ CHANNELS = omega (arith, ap (λ (h : Head). h.count) c.head_of-head.ensures) in
    Iff.trans (decides_and c.listed.result c.unlisted.result c.listed.ensures c.unlisted.ensures) (
      (λ (listed, left).
          record {
            active = mod-lt _ (omega arith);
            actors_long = length_tab ACTORS _;
            channels_long = length_tab CHANNELS _;
            actor = λ i h. (actors i h).actor;
            no_actor_law = λ i h. (actors i h).no_actor_law;
            count = few;
            channel = listed;
            no_channel_law = left;
          }),
      (λ p. (p.channel, p.no_channel_law)),
    )
