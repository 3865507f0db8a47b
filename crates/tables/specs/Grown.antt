-- A mode that grows by an actor or a channel stays proper.
use Rattle.std.specs.Prelude.{◌≡◌, ◌⊎◌, ℕ, ◌+◌, ◌^◌, ◌<◌}
use Rattle.std.proofs.Common.{sym, ap, subst, ◌∙◌, inl, inr, arith, length-set, get_or-set_same, get_or-set_other}
use Rattle.std.proofs.Math.Decide.{ℕ_discrete}
use Rattle.std.proofs.lemmas.Nat.{or_lt}
use Rattle.std.proofs.Math.Pow.{pow-lt}
use Rattle.std.proofs.lemmas.List.{length-replicate, get_or-replicate}
use Rattle.numbers.specs.Bits.{Has, has_adding, bit_zero}
use Rattle.units.specs.Limits.{ACTORS, CHANNELS}
use Rattle.tables.specs.declared.Actor.{Actor}
use Rattle.tables.specs.declared.Channel.{Channel}
use Rattle.tables.specs.Shape.{Mode, no_actor, no_channel, empty_channel, empty_mode, actor_at, channel_at, with_actor, with_channel}
use Rattle.tables.specs.Proper.{ProperActor, ProperRates, ProperChannel, ProperMode}

-- a mode in which nothing is listed
pub empty_proper : ProperMode empty_mode
empty_proper =
    record {
      active = omega arith;
      actors_long = length-replicate ACTORS no_actor;
      channels_long = length-replicate CHANNELS empty_channel;
      actor = λ i hi h. absurd (omega (arith, bit_zero i));
      no_actor_law = λ i hi n. get_or-replicate ACTORS i no_actor no_actor hi;
      count = omega arith;
      channel = λ k h. absurd (omega arith);
      no_channel_law = λ k h l. get_or-replicate CHANNELS k empty_channel no_channel h;
    }

-- a mode with an actor that it did not have
module _ (M : Mode) (g : ProperMode M) (i : ℕ) (A : Actor) (hi : i < ACTORS) (free : Has M.active i → ⊥) where
  -- who was active has another place
  pub aside : (j : ℕ) → Has M.active j → actor_at (with_actor M i A) j ≡ actor_at M j
  aside j h = get_or-set_other M.actors i j A no_actor (λ e. free (subst (λ (k : ℕ). Has M.active k) e h))

  pub actor_mode : ProperActor A → ProperMode (with_actor M i A)
  actor_mode pa =
      record {
        active = or_lt ACTORS M.active (2 ^ i) g.active (pow-lt hi);
        actors_long = length-set M.actors i A ∙ g.actors_long;
        channels_long = g.channels_long;
        actor = λ j hj h. actor_at_law j hj ((has_adding M.active i j).0 h);
        no_actor_law = λ j hj n.
            get_or-set_other M.actors i j A no_actor (λ e. n ((has_adding M.active i j).1 (inl e)))
            ∙ g.no_actor_law j hj (λ h. n ((has_adding M.active i j).1 (inr h)));
        count = g.count;
        channel = λ k h.
            let c = g.channel k h in
            record {
              from = c.from;
              to = c.to;
              from_active = (has_adding M.active i (channel_at M k).from).1 (inr c.from_active);
              to_active = (has_adding M.active i (channel_at M k).to).1 (inr c.to_active);
              production = subst (λ (a : Actor). ProperRates a.phases (channel_at M k).production) (sym (aside (channel_at M k).from c.from_active)) c.production;
              consumption = subst (λ (a : Actor). ProperRates a.phases (channel_at M k).consumption) (sym (aside (channel_at M k).to c.to_active)) c.consumption;
            };
        no_channel_law = g.no_channel_law;
      }
    where
      actor_at_law : (j : ℕ) → j < ACTORS → (j ≡ i) ⊎ Has M.active j → ProperActor (actor_at (with_actor M i A) j)
      actor_at_law j hj (inl e) = rw (e, get_or-set_same M.actors i A no_actor (omega (arith, g.actors_long))) pa
      actor_at_law j hj (inr h) = rw (aside j h) (g.actor j hj h)

-- a mode with a channel that fits it
pub channel_mode : (M : Mode) (c : Channel) → ProperMode M → M.count < CHANNELS → ProperChannel M c → ProperMode (with_channel M c)
channel_mode M c g few pc =
    record {
      active = g.active;
      actors_long = g.actors_long;
      channels_long = length-set M.channels M.count c ∙ g.channels_long;
      actor = g.actor;
      no_actor_law = g.no_actor_law;
      count = omega arith;
      channel = λ k h. channel_at_law k h (ℕ_discrete k M.count);
      no_channel_law = λ k h l. get_or-set_other M.channels M.count k c no_channel (λ e. omega arith) ∙ g.no_channel_law k h (omega arith);
    }
  where
    still : (d : Channel) → ProperChannel M d → ProperChannel (with_channel M c) d
    still d p = record { from = p.from; to = p.to; from_active = p.from_active; to_active = p.to_active; production = p.production; consumption = p.consumption }

    channel_at_law : (k : ℕ) → k < M.count + 1 → Dec (k ≡ M.count) → ProperChannel (with_channel M c) (channel_at (with_channel M c) k)
    channel_at_law k h (yes e) =
        subst (ProperChannel (with_channel M c)) (sym (ap (λ (j : ℕ). channel_at (with_channel M c) j) e ∙ get_or-set_same M.channels M.count c no_channel (omega (arith, g.channels_long)))) (still c pc)
    channel_at_law k h (no n) =
        subst (ProperChannel (with_channel M c)) (sym (get_or-set_other M.channels M.count k c no_channel n)) (still (channel_at M k) (g.channel k (omega (arith, n))))
