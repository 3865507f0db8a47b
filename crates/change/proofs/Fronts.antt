-- What is read from a front and from its works is what its mode has as it runs. Assumes nothing.
use mathlib.Core.Path.{◌≡◌, sym, ap, ap₂, ◌∙◌}
use mathlib.Core.Bool.{Bool, true}
use mathlib.Core.List.{List}
use Prim.Native.Nat.{ℕ, ◌^◌, ◌≤◌, ◌<◌}
use native.Mathlib.Omega.{arith}
use lib.Dec.{leb}
use lib.ListN.{length, get_or}
use Rattle.numbers.specs.Decides.{Decides, leb_is}
use Rattle.numbers.specs.Tab.{get_or_tab, is_tab}
use Rattle.numbers.specs.declared.fraction.Fraction.{Fraction}
use Rattle.units.specs.Limits.{ACTORS}
use Rattle.units.specs.Firings.{firing}
use Rattle.units.specs.Ticks.{tick}
use Rattle.units.specs.declared.Tick.{Tick}
use Rattle.units.specs.declared.Firing.{Firing}
use Rattle.period.specs.Period.{work_of, work_fits, share_of}
use Rattle.tables.specs.declared.Actor.{Actor}
use Rattle.tables.specs.declared.memory.Head.{Head}
use Rattle.tables.specs.declared.memory.Times.{Times}
use Rattle.tables.specs.Shape.{no_actor}
use Rattle.tables.specs.Memory.{front_words, head_in, actor_in, times_in}
use Rattle.tables.proofs.Remembered.{front_head, front_actor, front_times}
use Rattle.change.specs.declared.Prepared.{Prepared}
use Rattle.change.specs.declared.Works.{Works}
use Rattle.change.specs.declared.wait.Side.{Side}
use Rattle.change.specs.Work.{actor_of, firings_at, tick_at, counted_of, no_works}
use Rattle.change.specs.Running.{Running, Fitting, prepared_of, running_in, ReadyFront}
use Rattle.change.specs.Waits.{old_side, new_side}
use Rattle.change.proofs.Loads.{counted_one}

module _ (f : List ℕ) (i : ℕ) (l : i < ACTORS) where
  pub actor_read : {a : Actor} → a ≡ actor_in f i → a ≡ actor_of (running_in f).actors i
  actor_read e = e ∙ sym (get_or_tab ACTORS (actor_in f) i no_actor l)

  pub firings_read : {t : Times} → t ≡ times_in f i → t.firings ≡ firings_at (running_in f).firings i
  firings_read e = ap (λ (t : Times). t.firings) e ∙ sym (get_or_tab ACTORS (λ i. (times_in f i).firings) i (firing 0) l)

  pub start_read : {t : Times} → t ≡ times_in f i → t.start ≡ tick_at (running_in f).starts i
  start_read e = ap (λ (t : Times). t.start) e ∙ sym (get_or_tab ACTORS (λ i. (times_in f i).start) i (tick 0) l)

-- those that start no earlier than a tick, and those that start no later
abbrev pub starts_since : List ℕ → Tick → ℕ → Bool
starts_since f start i = leb start.0 (tick_at (running_in f).starts i).0

abbrev pub starts_until : List ℕ → Tick → ℕ → Bool
starts_until f start i = leb (tick_at (running_in f).starts i).0 start.0

-- the work of actor k
module _ (f : List ℕ) (k : ℕ) (l : k < ACTORS) {a : Actor} {t : Times} (ea : a ≡ actor_in f k) (et : t ≡ times_in f k) where
  pub work_small : Fitting (running_in f) → (work_of a.wcet t.firings).0 < 2 ^ 64
  work_small fits = rw (actor_read f k l ea, firings_read f k l et) (work_fits (fits.wcet k l) (omega (arith, fits.few k l)))

  -- whether it counts, by its start
  module _ (start : Tick) {b : Bool} where
    pub since_is : Decides (start.0 ≤ t.start.0) b → starts_since f start k ≡ b
    since_is d = ap (λ (s : Tick). leb start.0 s.0) (sym (start_read f k l et)) ∙ leb_is _ _ b d

    pub until_is : Decides (t.start.0 ≤ start.0) b → starts_until f start k ≡ b
    until_is d = ap (λ (s : Tick). leb s.0 start.0) (sym (start_read f k l et)) ∙ leb_is _ _ b d

  -- what it adds where it is on processor p and counts
  pub counted : (p : ℕ) (counts : ℕ → Bool) {v : Tick} → a.processor ≡ p → counts k ≡ true → v ≡ work_of a.wcet t.firings → v ≡ counted_of (running_in f).actors (running_in f).firings p counts k
  counted p counts on c e = counted_one (running_in f) p k counts (actor_read f k l ea) (firings_read f k l et) on c e

module _ {p : Prepared} (ready : ReadyFront p) where
  abbrev r : Running
  r = running_in p.front.now

  -- an actor of the mode that is left, and one of the mode that is entered
  module _ (i : ℕ) (l : i < ACTORS) {h : Head} {t : Times} {s : Fraction} (eh : h ≡ head_in p.front.now) (et : t ≡ times_in p.front.now i) where
    side : (of : Works → Tick) → s ≡ share_of (of (get_or p.works.now i no_works)) h.iteration
        → ◌≡◌ {A = Side} (record { start = t.start; asked = s }) (record { start = tick_at r.starts i; asked = share_of (of (get_or r.works i no_works)) r.iteration })
    side of es =
        ap₂ (λ (t : Tick) (s : Fraction). record { start = t; asked = s }) (start_read p.front.now i l et)
        (es ∙ ap₂ (λ (ws : List Works) (h : Head). share_of (of (get_or ws i no_works)) h.iteration) ready.works eh)

    pub old_side_law : s ≡ share_of (get_or p.works.now i no_works).since h.iteration → ◌≡◌ {A = Side} (record { start = t.start; asked = s }) (old_side r i)
    old_side_law = side (λ w. w.since)

    pub new_side_law : s ≡ share_of (get_or p.works.now i no_works).until h.iteration → ◌≡◌ {A = Side} (record { start = t.start; asked = s }) (new_side r i)
    new_side_law = side (λ w. w.until)

-- the mode whose numbers are put into a front runs by them
module _ (h : Head) (actors : List Actor) (firings : List Firing) (periods starts : List Tick) (la : length actors ≡ ACTORS) (lf : length firings ≡ ACTORS) (lp : length periods ≡ ACTORS) (ls : length starts ≡ ACTORS)
    (active : h.active < 2 ^ ACTORS) (sink : h.sink < ACTORS) where
  abbrev times : ℕ → Times
  times i = record { firings = firings_at firings i; period = tick_at periods i; start = tick_at starts i }

  abbrev front : List ℕ
  front = front_words h (actor_of actors) times

  pub running_in_law : running_in front ≡ prepared_of h.active actors h.iteration firings periods starts (tick_at starts h.sink) (tick_at starts h.sink)
  running_in_law =
      let e = front_head h (actor_of actors) times active in
      let t = front_times h (actor_of actors) times in
      let a = sym (is_tab ACTORS (actor_in front) actors no_actor la (λ i l. sym (front_actor h (actor_of actors) times i l))) in
      let f = sym (is_tab ACTORS (λ i. (times_in front i).firings) firings (firing 0) lf (λ i l. ap (λ (x : Times). x.firings) (sym (t i l)))) in
      let p = sym (is_tab ACTORS (λ i. (times_in front i).period) periods (tick 0) lp (λ i l. ap (λ (x : Times). x.period) (sym (t i l)))) in
      let s = sym (is_tab ACTORS (λ i. (times_in front i).start) starts (tick 0) ls (λ i l. ap (λ (x : Times). x.start) (sym (t i l)))) in
      let k : (times_in front (head_in front).sink).start ≡ tick_at starts h.sink = ap (λ (x : Head). (times_in front x.sink).start) e ∙ ap (λ (x : Times). x.start) (t h.sink sink) in
      λ i. prepared_of (e i).active (a i) (e i).iteration (f i) (p i) (s i) (k i) (k i)
