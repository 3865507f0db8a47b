-- What is known of a mode in memory that rows can give. Assumes nothing.
use Rattle.std.proofs.Common.{List, [], ◌∷◌, ℕ, zero, suc, ◌<◌, get_or, arith}
use Rattle.std.proofs.Props.{props}
use mathlib.Core.HLevel.{⊥_prop}
use mathlib.Core.Logic.{∥∥₁_elim, ∥∥₁_map}
use Rattle.tables.specs.declared.Channel.{Channel}
use Rattle.tables.specs.declared.memory.InMemory.{InMemory}
use Rattle.tables.specs.Shape.{Mode}
use Rattle.tables.specs.Proper.{ProperRates, ProperChannel, ProperMode}
use Rattle.tables.specs.Stored.{mode_of}

-- a rate that is not 0 stands behind one that is
behind_zero : (l : List ℕ) → ((k : ℕ) × (0 < get_or (0 ∷ l) k 0)) → (k : ℕ) × (0 < get_or l k 0)
behind_zero l (zero, h) = absurd (omega arith)
behind_zero l (suc k, h) = (k, h)

-- where some rate is not 0, this is the first
first_rate : (l : List ℕ) → ∥ ((k : ℕ) × (0 < get_or l k 0)) ∥₁ → (k : ℕ) × (0 < get_or l k 0)
first_rate [] t = absurd (∥∥₁_elim t ⊥_prop (λ (k, h). omega arith))
first_rate (zero ∷ l) t = let (k, h) = first_rate l (∥∥₁_map t (behind_zero l)) in (suc k, h)
first_rate (suc n ∷ l) t = (0, omega arith)

-- what is merely known to be proper is proper: rates, a channel and a mode
rates_known : (n : ℕ) (l : List ℕ) → ∥ ProperRates n l ∥₁ → ProperRates n l
rates_known n l t =
    record {
      long = ∥∥₁_elim t (Prim.hlevel props) (λ p. p.long);
      small = ∥∥₁_elim t (Prim.hlevel props) (λ p. p.small);
      behind = ∥∥₁_elim t (Prim.hlevel props) (λ p. p.behind);
      some = first_rate l (∥∥₁_map t (λ p. p.some));
    }

channel_known : (m : Mode) (c : Channel) → ∥ ProperChannel m c ∥₁ → ProperChannel m c
channel_known m c t =
    record {
      from = ∥∥₁_elim t (Prim.hlevel props) (λ p. p.from);
      to = ∥∥₁_elim t (Prim.hlevel props) (λ p. p.to);
      from_active = ∥∥₁_elim t (Prim.hlevel props) (λ p. p.from_active);
      to_active = ∥∥₁_elim t (Prim.hlevel props) (λ p. p.to_active);
      production = rates_known _ _ (∥∥₁_map t (λ p. p.production));
      consumption = rates_known _ _ (∥∥₁_map t (λ p. p.consumption));
    }

mode_known : (m : Mode) → ∥ ProperMode m ∥₁ → ProperMode m
mode_known m t =
    record {
      active = ∥∥₁_elim t (Prim.hlevel props) (λ p. p.active);
      actors_long = ∥∥₁_elim t (Prim.hlevel props) (λ p. p.actors_long);
      channels_long = ∥∥₁_elim t (Prim.hlevel props) (λ p. p.channels_long);
      actor = ∥∥₁_elim t (Prim.hlevel props) (λ p. p.actor);
      no_actor_law = ∥∥₁_elim t (Prim.hlevel props) (λ p. p.no_actor_law);
      count = ∥∥₁_elim t (Prim.hlevel props) (λ p. p.count);
      channel = λ k h. channel_known m _ (∥∥₁_map t (λ p. p.channel k h));
      no_channel_law = ∥∥₁_elim t (Prim.hlevel props) (λ p. p.no_channel_law);
    }

-- the mode of what stands in memory is proper
pub proper_of : (s : InMemory) → ProperMode (mode_of s)
proper_of s = mode_known _ (∥∥₁_map s.stands (λ p. p.proper))
