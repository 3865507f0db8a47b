-- What the model reckons is what the rule says. Assumes nothing.
use mathlib.Core.Path.{◌≡◌, refl, sym, subst, ◌∙◌}
use mathlib.Core.Bool.{Bool, true, false, cond}
use mathlib.Core.List.{List}
use mathlib.Core.Logic.{◌⊎◌, inl, inr}
use Prim.Native.Nat.{ℕ, zero, suc, ◌+◌, ◌-◌, ◌≤◌, ◌<◌, zero-le}
use native.Mathlib.Nat.{le_refl}
use native.Mathlib.Numerals.{add-one}
use native.Mathlib.Omega.{arith}
use native.Mathlib.Decide.{dec_le}
use borrow.Author.Tests.{eqb-true, eqb-false, lt-ltb, le-ltb}
use lib.Dec.{eqb, ltb}
use Rattle.numbers.specs.Bits.{Has, hasb, has_decides}
use Rattle.numbers.specs.Decides.{Decides, decides_and, decides_leb, decides_true, decides_false}
use Rattle.numbers.specs.Lowest.{lowest_none, lowest_is, sought, NonePasses, FirstPasses}
use Rattle.numbers.specs.Tab.{length_tab, get_or_tab}
use Rattle.units.specs.Limits.{ACTORS, CHANNELS}
use Rattle.units.specs.declared.Tick.{Tick}
use Rattle.units.specs.Tokens.{token}
use Rattle.tables.specs.Shape.{Mode, channel_at}
use Rattle.tables.specs.Proper.{ProperMode}
use Rattle.std.specs.Prelude.{Ok}
use Rattle.graph.specs.declared.Judgement.{Judgement}
use Rattle.graph.specs.Judged.{Judged}
use Rattle.channel.proofs.Laws.{start_least, size_greatest}
use Rattle.schedule.specs.Starts.{producer_of, consumer_of, Late}
use Rattle.schedule.specs.Scheduled.{SizeOn, Sizes, Scheduled, late, on_time}
use Rattle.schedule.specs.Reached.{start_at, to_depth, Ready, Reached, Fits}
use Rattle.schedule.specs.Model.{with_start, depth_from, starts_from, starts_of, sizes_of, laterb, answer_of, schedule_of}
use Rattle.schedule.proofs.Sound.{numbers_of, judged_ready}
use Rattle.schedule.proofs.Finding.{reached_first, reached_aside, reached_asked, reached_depth, reached_starts, reached_fits, reached_listed}

module _ (m : Mode) (ps : List Tick) (ds : List ℕ) (ready : Ready m ps ds) where
  depth_reached : (d k : ℕ) (l : List Tick) → k ≤ m.count → Reached m ps ds d 0 l → Reached m ps ds d k (depth_from m ps ds d l k)
  unfolding depth_from
  depth_reached d zero l h r = r
  depth_reached d (suc k) l h r =
      subst (λ (n : ℕ). Reached m ps ds d n (cond (eqb (to_depth m ds k) d) (with_start m ps k found) found)) (add-one k)
      (go (eqb (to_depth m ds k) d) refl (depth_reached d k l (omega arith) r))
    where
      found : List Tick
      found = depth_from m ps ds d l k

      go : (x : Bool) → eqb (to_depth m ds k) d ≡ x → Reached m ps ds d k found → Reached m ps ds d (k + 1) (cond x (with_start m ps k found) found)
      go true e p =
          reached_asked m ps ds ready d k found h p (eqb-true _ _ e) _
          (start_least (producer_of m ps k) (consumer_of m ps k) (ready.paced k h) (start_at found (channel_at m k).from))
      go false e p = reached_aside m ps ds ready d k found h p (eqb-false _ _ e)

  starts_reached : (d : ℕ) → Reached m ps ds (suc d) 0 (starts_from m ps ds d)
  unfolding starts_from
  starts_reached zero = reached_first m ps ds ready
  starts_reached (suc d) =
      subst (λ (n : ℕ). Reached m ps ds n 0 (depth_from m ps ds (suc d) (starts_from m ps ds d) m.count)) (add-one (suc d))
      (reached_depth m ps ds ready (suc d) m.count _ (le_refl m.count) (depth_reached (suc d) m.count _ (le_refl m.count) (starts_reached d)))

  pub starts_found : Reached m ps ds ACTORS 0 (starts_of m ps ds)
  starts_found = starts_reached (ACTORS - 1)

-- whether an actor starts later
later_is : (l : List Tick) (active : ℕ) (t : Tick) (i : ℕ) → Decides (Has active i × (t.0 < (start_at l i).0)) (laterb l active t i)
later_is l active t i = decides_and (hasb active i) (ltb t.0 (start_at l i).0) (has_decides active i) (decides_leb (suc t.0) (start_at l i).0)

-- the sizes that are reckoned
sizes_found : (m : Mode) (ps l : List Tick) → Fits m ps l → Sizes m ps (start_at l) (sizes_of m ps l)
sizes_found m ps l fits =
    record {
      long = length_tab CHANNELS _;
      size = λ k h.
          subst (SizeOn m ps (start_at l) k)
          (sym (get_or_tab CHANNELS _ k (token 0) (omega (arith, fits.proper.count)) ∙ rw (lt-ltb k m.count h)))
          (size_greatest (producer_of m ps k) (consumer_of m ps k) (fits.paced k h) _ _ (fits.fed k h));
      no_size = λ k l h. get_or_tab CHANNELS _ k (token 0) l ∙ rw (le-ltb k m.count h);
    }

module _ (m : Mode) (j : Judgement) (proper : ProperMode m) (judged : Judged m (Ok j)) where
  pub ready : Ready m j.periods j.depths
  ready = let (x, p) = numbers_of judged in judged_ready m j proper x p

  -- the answer for starts that are found
  answer_is : (l : List Tick) → Reached m j.periods j.depths ACTORS 0 l → Scheduled m j (answer_of m j l)
  answer_is l r = go (sought f ACTORS 0)
    where
      f : ℕ → Bool
      f = laterb l m.active (start_at l j.sink)

      go : ((a : ℕ) × FirstPasses f ACTORS 0 a) ⊎ NonePasses f ACTORS 0 → Scheduled m j (answer_of m j l)
      go (inl (a, p)) =
          rw (lowest_is f ACTORS ACTORS 0 a p, lt-ltb a ACTORS p.below)
          (late (start_at l) (reached_starts m _ _ ready l r) (record {
            holds = let w = decides_true (later_is l m.active (start_at l j.sink) a) p.passes in ((p.below, w.0), w.1);
            least = λ k w. least k w (dec_le a k);
          }))
        where
          least : (k : ℕ) → Late m (start_at l) j.sink k → Dec (a ≤ k) → a ≤ k
          least k w (yes h) = h
          least k w (no h) = absurd (decides_false (later_is l m.active (start_at l j.sink) k) (p.first k zero-le (omega (arith, h))) (w.0.1, w.1))
      go (inr none) =
          rw (lowest_none f ACTORS ACTORS 0 none)
          (on_time (start_at l) (reached_starts m _ _ ready l r)
          (λ i w. decides_false (later_is l m.active (start_at l j.sink) i) (none i zero-le w.0.0) (w.0.1, w.1))
          (record {
            startup = refl;
            starts = reached_listed m _ _ ready l r;
            sizes = sizes_found m j.periods l (reached_fits m _ _ ready l r);
            tokens = refl;
          }))

  pub schedule_scheduled : Scheduled m j (schedule_of m j)
  unfolding schedule_of
  schedule_scheduled = answer_is _ (starts_found m j.periods j.depths ready)
