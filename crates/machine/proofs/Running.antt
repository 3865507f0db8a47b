-- What a planned mode has: it is ready for a change, and its channels are balanced, fed and given room. Assumes nothing.
use mathlib.Core.Path.{◌≡◌, refl, sym, ap, subst₂, ◌∙◌}
use mathlib.Core.List.{List}
use Prim.Native.Nat.{ℕ, ◌+◌, ◌*◌, ◌<◌}
use native.Mathlib.Omega.{arith}
use lib.ListN.{get_or}
use Rattle.numbers.specs.Sum.{sum, sum_rounds}
use Rattle.units.specs.declared.Tick.{Tick}
use Rattle.units.specs.declared.Firing.{Firing}
use Rattle.units.specs.declared.Token.{Token}
use Rattle.units.specs.Ticks.{tick}
use Rattle.units.specs.Tokens.{token}
use Rattle.units.specs.Firings.{firing}
use Rattle.rate.specs.Rate.{rate_of}
use Rattle.tables.specs.Shape.{Mode, channel_at, Active}
use Rattle.tables.specs.Proper.{ProperMode}
use Rattle.graph.specs.Balance.{firings_of}
use Rattle.channel.specs.declared.End.{End}
use Rattle.channel.specs.Flow.{rates_of, cycle_tokens, Fed, IsSize, Proper}
use Rattle.channel.specs.Laws.{rates_round}
use Rattle.schedule.specs.Starts.{producer_of, consumer_of, FedOn}
use Rattle.schedule.specs.Scheduled.{SizeOn}
use Rattle.schedule.proofs.Sound.{at_actor}
use Rattle.schedule.proofs.Modelled.{ready}
use Rattle.change.specs.Work.{firings_at, tick_at}
use Rattle.change.specs.Running.{Ready}
use Rattle.planning.specs.declared.ModePlan.{ModePlan}
use Rattle.planning.specs.Changes.{running_of}
use Rattle.planning.specs.Plan.{ModePlanned}
use Rattle.planning.proofs.Told.{judgement_of, planned_judged}
use Rattle.planning.proofs.Bounds.{SmallPart, mode_small}
use Rattle.planning.proofs.Running.{mode_ready}

-- the tokens that channel k's producer makes in so many firings, and those that its consumer takes
abbrev pub made_in : Mode → ModePlan → ℕ → ℕ → ℕ
made_in m p k = sum (rate_of (rates_of (producer_of m p.periods k)))

abbrev pub taken_in : Mode → ModePlan → ℕ → ℕ → ℕ
taken_in m p k = sum (rate_of (rates_of (consumer_of m p.periods k)))

pub record Runs (m : Mode) (p : ModePlan) : Type 0 where
  pub ready : Ready (running_of m p)
  -- its numbers are small
  pub small : SmallPart p
  -- on each channel, n iterations make as many tokens as they take
  pub balanced : (k : ℕ) → k < m.count → (n : ℕ)
      → made_in m p k (n * (firings_at p.firings (channel_at m k).from).0) ≡ taken_in m p k (n * (firings_at p.firings (channel_at m k).to).0)
  pub fed : (k : ℕ) → k < m.count → FedOn m p.periods (tick_at p.starts) k
  pub size : (k : ℕ) → k < m.count → SizeOn m p.periods (tick_at p.starts) k (get_or p.sizes k (token 0))

-- the tokens of n times x cycles of an end
cycles : (e : End) → Proper e → (q : Firing) (x n : ℕ) → q.0 ≡ e.phases * x → sum (rate_of (rates_of e)) (n * q.0) ≡ n * (x * (cycle_tokens e).0)
unfolding sum
cycles e h q x n is =
    let same : n * q.0 ≡ 0 + n * x * e.phases = omega (arith, ap (λ (k : ℕ). n * k) is) in
    rw same (sum_rounds (rate_of (rates_of e)) e.phases (rates_round e h) 0 (n * x) ∙ omega arith)

pub mode_runs : (m : Mode) → ProperMode m → (p : ModePlan) → ModePlanned m p → Runs m p
mode_runs m proper p w =
    let (ds, ranked, judged) = planned_judged w proper in
    let x = w.counts in
    let firings : (i : ℕ) → Active m i → get_or p.firings i (firing 0) ≡ firings_of m x i
    = λ i a. ap (λ (l : List Firing). get_or l i (firing 0)) w.firings ∙ at_actor m _ (firing 0) i a in
    let start : (i : ℕ) → Active m i → get_or p.starts i (tick 0) ≡ w.begin i
    = λ i a. ap (λ (l : List Tick). get_or l i (tick 0)) w.starts ∙ at_actor m _ (tick 0) i a in
    let from : (k : ℕ) → k < m.count → Active m (channel_at m k).from = λ k h. ((proper.channel k h).from, (proper.channel k h).from_active) in
    let to : (k : ℕ) → k < m.count → Active m (channel_at m k).to = λ k h. ((proper.channel k h).to, (proper.channel k h).to_active) in
    let paced = (ready m (judgement_of ds p) proper judged).paced in
    record {
      ready = mode_ready m proper p w;
      small = mode_small m p proper w;
      balanced = λ k h r.
          cycles (producer_of m p.periods k) (paced k h).producer _ (x (channel_at m k).from) r (ap (λ (q : Firing). q.0) (firings _ (from k h)))
          ∙ ap (λ (v : Token). r * v.0) (w.balanced.smallest.balances.even k h)
          ∙ sym (cycles (consumer_of m p.periods k) (paced k h).consumer _ (x (channel_at m k).to) r (ap (λ (q : Firing). q.0) (firings _ (to k h))));
      fed = λ k h.
          subst₂ (λ (a b : Tick). Fed (producer_of m p.periods k) a (consumer_of m p.periods k) b) (sym (start _ (from k h))) (sym (start _ (to k h)))
          (w.least.timely k h);
      size = λ k h.
          subst₂ (λ (a b : Tick). IsSize (producer_of m p.periods k) a (consumer_of m p.periods k) b (get_or p.sizes k (token 0)))
          (sym (start _ (from k h))) (sym (start _ (to k h))) (w.sizes.size k h);
    }
