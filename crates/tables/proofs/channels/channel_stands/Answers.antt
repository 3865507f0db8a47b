-- tables::channels::channel_stands meets its contract.
use Rattle.std.proofs.Common.{◌≡◌, sym, subst, ◌∙◌, ℕ, ◌<◌, List, [], Bool}
use mathlib.Core.Logic.Iff
use Rattle.numbers.specs.Decides.{Decides}
use Rattle.units.specs.Limits.{CHANNELS}
use Rattle.tables.specs.declared.Channel.{Channel}
use Rattle.tables.specs.Proper.{ProperChannel}
use Rattle.tables.specs.Memory.{channel_in, mode_in}
use Rattle.tables.specs.Parts.{ChannelStands}
use Rattle.tables.proofs.Remembered.{channel_in_law}
use Rattle.tables.proofs.channels.channel_stands.Goals as goal

-- the channel at hand: it is as proper with the other channels as without
proper_at : (f l : List ℕ) (k : ℕ) (c : Channel) (r : Bool) → k < CHANNELS → c ≡ channel_in l k → Decides (ProperChannel (mode_in f []) c) r → Decides (ChannelStands (mode_in f l) k) r
proper_at f l k c r h e d =
    subst (λ (c : Channel). Decides (ProperChannel (mode_in f l) c) r) (e ∙ sym (channel_in_law f l k h))
    (Iff.trans d (
      (λ p. record { from = p.from; to = p.to; from_active = p.from_active; to_active = p.to_active; production = p.production; consumption = p.consumption }),
      (λ p. record { from = p.from; to = p.to; from_active = p.from_active; to_active = p.to_active; production = p.production; consumption = p.consumption }),
    ))

pub returns : goal.returns
returns c = proper_at _ _ _ _ _ c.requires.2 c.channel_at.ensures c.proper_channel.ensures
