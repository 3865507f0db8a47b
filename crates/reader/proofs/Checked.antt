-- What the table of the rows that were read tells of a row: when refusals 3, 4 and 5 apply to it. Assumes nothing.
use mathlib.Core.Path.{◌≡◌, refl, sym, ap, ◌∙◌}
use mathlib.Core.List.{List}
use mathlib.Core.Logic.Iff
use mathlib.Core.Logic.{◌⊎◌, inl, inr, ⊎_elim, ◌↔◌}
use Prim.Native.Nat.{ℕ, ◌≤◌}
use native.Mathlib.Omega.{arith}
use native.Mathlib.Decide.{ℕ_discrete}
use lib.ListN.{length, get_or}
use Rattle.std.proofs.lemmas.Option.{same_Some}
use Rattle.std.specs.Prelude.{Option, Some, None, Result}
use Rattle.numbers.specs.Every.{Every}
use Rattle.numbers.specs.Padded.{padded, every_padded}
use Rattle.numbers.specs.Bits.{Has}
use Rattle.units.specs.Limits.{CHANNELS, PHASES}
use Rattle.terms.specs.Place.{place_of}
use Rattle.terms.specs.declared.refusal.Reason.{Reason}
use Rattle.tables.specs.declared.Actor.{Actor}
use Rattle.tables.specs.Shape.{Mode, actor_at, mode_at}
use Rattle.reader.specs.declared.line.Entry.{Entry}
use Rattle.reader.specs.declared.line.Entry.TheVariants.{Actor as AnActor, Channel as AChannel}
use Rattle.reader.specs.Rows.{Row, ActorRow, ChannelRow, actor, channel, InRange, ActorInRange, ChannelInRange, Lists, ListedActor, Unfit, Refused3, Refused4, Refused5, by_3, by_4, by_5}
use Rattle.reader.specs.Told.{table_of}
use Rattle.reader.specs.Lines.{line_of}
use Rattle.reader.specs.Checks.{FirstOrNone, refused as first, passes, ActorChecked, ChannelChecked}
use Rattle.reader.proofs.Lookup.{Passed, holds, lists_range, listed_is, listed_stable}
use Rattle.reader.proofs.Homes.{homes_of, home_at, home_is, home_from}

-- the mode with number m, as the rows so far list it
abbrev pub mode_so_far : List Row → ℕ → Mode
mode_so_far rs m = mode_at (table_of rs) (place_of m)

-- a list of rates that does not suit the actor with number a: by its length, or by its rates in memory
abbrev pub Misfit : Mode → ℕ → List ℕ → Type 0
Misfit M a xs = (length xs ≡ (actor_at M (place_of a)).phases → ⊥) ⊎ Every (λ x. x ≡ 0) (padded PHASES 0 xs)

module _ {rs : List Row} (p : Passed rs) where
  -- an actor's row: it has its place in that mode already; it has another home
  module _ (r : ActorRow) (i : ActorInRange r) where
    pub actor_third : Refused3 rs (actor r) ↔ Has (mode_so_far rs r.mode).active (place_of r.actor)
    actor_third = Iff.symm ((holds p).has r.mode r.actor i.mode i.actor)

    pub actor_fourth : Refused4 rs (actor r) ↔ ((h : ℕ) × (home_at rs r.actor ≡ Some h) × (h ≡ r.is.processor → ⊥))
    actor_fourth = (
      (λ (e, l, q, n). (e.is.processor, is e l q, n)),
      (λ (h, z, n). let (e, l, q) = home_from p r.actor i.actor z in (e, l, q, λ k. n (same_Some h e.is.processor (sym z ∙ is e l q) ∙ k))),
    )
      where
        is : (e : ActorRow) → Lists rs e → e.actor ≡ r.actor → home_at rs r.actor ≡ Some e.is.processor
        is e l q = rw (← q) (home_is p l)

  -- the rates of an actor that is listed
  pub unfit : {m a : ℕ} (xs : List ℕ) → ListedActor rs m a → Unfit rs m a xs ↔ Misfit (mode_so_far rs m) a xs
  unfit {m} {a} xs l = ((λ (k, bad). to k bad (ℕ_discrete (length xs) k.by.is.phases)), λ bad. (l, from bad (ℕ_discrete (length xs) l.by.is.phases)))
    where
      is : (k : ListedActor rs m a) → (actor_at (mode_so_far rs m) (place_of a)).phases ≡ k.by.is.phases
      is k = ap (λ (b : Actor). b.phases) (listed_is p k)

      zeros : (k : ListedActor rs m a) → length xs ≡ k.by.is.phases → Every (λ x. x ≡ 0) (padded PHASES 0 xs) ↔ Every (λ x. x ≡ 0) xs
      zeros k e = every_padded PHASES 0 (λ x. x ≡ 0) refl xs (omega (arith, (lists_range p k.lists).phases))

      to : (k : ListedActor rs m a) → (length xs ≡ k.by.is.phases → ⊥) ⊎ Every (λ x. x ≡ 0) xs → Dec (length xs ≡ k.by.is.phases) → Misfit (mode_so_far rs m) a xs
      to k bad (no n) = inl (λ e. n (e ∙ is k))
      to k bad (yes e) = ⊎_elim (λ n. absurd (n e)) (λ z. inr ((zeros k e).1 z)) bad

      from : Misfit (mode_so_far rs m) a xs → Dec (length xs ≡ l.by.is.phases) → (length xs ≡ l.by.is.phases → ⊥) ⊎ Every (λ x. x ≡ 0) xs
      from bad (no n) = inl n
      from bad (yes e) = ⊎_elim (λ n. absurd (n (e ∙ sym (is l)))) (λ z. inr ((zeros l e).0 z)) bad

  -- a channel's row: an end has no place there, or its channels are all there
  module _ (r : ChannelRow) (i : ChannelInRange r) where
    abbrev M : Mode
    M = mode_so_far rs r.mode

    pub channel_third : Refused3 rs (channel r)
        ↔ ((Has M.active (place_of r.from) → ⊥) ⊎ ((Has M.active (place_of r.to) → ⊥) ⊎ (CHANNELS ≤ M.count)))
    channel_third =
        let from = (holds p).has r.mode r.from i.mode i.from in
        let to = (holds p).has r.mode r.to i.mode i.to in
        let count = (holds p).count r.mode i.mode in (
          ⊎_elim (λ n. inl (λ h. n (from.0 h))) (⊎_elim (λ n. inr (inl (λ h. n (to.0 h)))) (λ n. inr (inr (omega arith)))),
          ⊎_elim (λ n. inl (λ l. n (from.1 l))) (⊎_elim (λ n. inr (inl (λ l. n (to.1 l)))) (λ n. inr (inr (omega arith)))),
        )

    -- where refusal 3 does not apply both ends are listed
    pub ends_listed : (Refused3 rs (channel r) → ⊥) → ListedActor rs r.mode r.from × ListedActor rs r.mode r.to
    ends_listed n = (
      listed_stable p i.mode i.from (λ h. n (inl h)),
      listed_stable p i.mode i.to (λ h. n (inr (inl h))),
    )

    pub channel_fifth : (Refused3 rs (channel r) → ⊥) → Refused5 rs (channel r) ↔ (Misfit M r.from r.production ⊎ Misfit M r.to r.consumption)
    channel_fifth n =
        let (from, to) = ends_listed n in (
          ⊎_elim (λ u. inl ((unfit r.production from).0 u)) (λ u. inr ((unfit r.consumption to).0 u)),
          ⊎_elim (λ u. inl ((unfit r.production from).1 u)) (λ u. inr ((unfit r.consumption to).1 u)),
        )

-- how a row is checked in a mode, by the actors' processors
abbrev pub CheckedIn : Mode → List (Option ℕ) → Entry → Result (Unit {0}) Reason → Type 0
CheckedIn M homes (AnActor a is) = ActorChecked M.active (get_or homes a None) a is
CheckedIn M homes (AChannel l) = ChannelChecked M.active M.count (actor_at M l.from).phases (actor_at M l.to).phases l

-- the same answer for the same refusals
same_first : {a b c d e f : Type 0} {x : Result (Unit {0}) Reason} → d ↔ a → e ↔ b → ((d → ⊥) → f ↔ c) → FirstOrNone a b c x → FirstOrNone d e f x
same_first p q r (first (by_3 x)) = first (by_3 (p.1 x))
same_first p q r (first (by_4 x y)) = first (by_4 (λ z. x (p.0 z)) (q.1 y))
same_first p q r (first (by_5 x y z)) = first (by_5 (λ v. x (p.0 v)) (λ v. y (q.0 v)) ((r (λ v. x (p.0 v))).1 z))
same_first p q r (passes w) = passes ((λ v. w.0 (p.0 v)), (λ v. w.1 (q.0 v)), (λ v. w.2 ((r (λ u. w.0 (p.0 u))).0 v)))

-- the refusal of a row, checked after rows that passed, is that of the rules
pub checked_row : {rs : List Row} (p : Passed rs) (r : Row) (i : InRange r) (place : ℕ) (x : Result (Unit {0}) Reason)
    → CheckedIn (mode_at (table_of rs) (line_of r place).mode) (homes_of rs) (line_of r place).entry x
    → FirstOrNone (Refused3 rs r) (Refused4 rs r) (Refused5 rs r) x
checked_row p (actor r) i place x c = same_first (actor_third p r i) (actor_fourth p r i) (λ x. ((λ z. z), (λ z. z))) c
checked_row p (channel r) i place x c = same_first (channel_third p r i) ((λ z. z), (λ z. z)) (λ x. channel_fifth p r i x) c
