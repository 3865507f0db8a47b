-- The refusals of a row, from what the rows before it leave for it.
use Rattle.std.specs.Prelude.{◌≡◌, List, ◌⊎◌, ℕ, ◌*◌, ◌≤◌, ◌<◌, get_or, take, drop, Option, Some, None, Result, Ok, Err}
use Rattle.numbers.specs.Bits.{Has}
use Rattle.numbers.specs.Every.{Every}
use Rattle.units.specs.Limits.{ACTORS, CHANNELS}
use Rattle.terms.specs.declared.refusal.Reason.{Reason}
use Rattle.tables.specs.declared.Actor.{Actor}
use Rattle.tables.specs.Memory.{FRONT_WORDS, head_in, actor_in}
use Rattle.reader.specs.declared.line.Entry.{Entry}
use Rattle.reader.specs.declared.line.Entry.TheVariants.{Actor as AnActor, Channel as AChannel}
use Rattle.reader.specs.declared.line.Line.{Line}
use Rattle.reader.specs.declared.line.Link.{Link}
use Rattle.reader.specs.declared.rates.Rates.{Rates}
use Rattle.reader.specs.Lines.{LineAt}
use Rattle.reader.specs.Rows.{FirstOf, NoneOf}

-- the first of three refusals that applies, or that none does
pub data FirstOrNone (third fourth fifth : Type 0) : Result (Unit {0}) Reason → Type 0 where
  refused : {e : Reason} → FirstOf third fourth fifth e → FirstOrNone third fourth fifth (Err e)
  passes : NoneOf third fourth fifth → FirstOrNone third fourth fifth (Ok tt)

-- of an actor's row, by its place and what it is, in a mode with these actors, by the actor's processor so far: the mode has the actor; it has another
-- processor
abbrev pub ActorChecked : (active : ℕ) → (home : Option ℕ) → (place : ℕ) → Actor → Result (Unit {0}) Reason → Type 0
ActorChecked active home place is = FirstOrNone (Has active place) ((h : ℕ) × (home ≡ Some h) × (h ≡ is.processor → ⊥)) ⊥

-- a list that has not a rate for each phase, or only zeros
abbrev pub Unfits : Rates → ℕ → Type 0
Unfits r phases = (r.count ≡ phases → ⊥) ⊎ Every (λ x. x ≡ 0) r.values

-- of a channel's row, in a mode with these actors and so many channels, by the phases of its ends: the mode has not both ends, or has all the channels that
-- it may have; a list does not fit its actor
abbrev pub ChannelChecked : (active count giver taker : ℕ) → Link → Result (Unit {0}) Reason → Type 0
ChannelChecked active count giver taker l =
    FirstOrNone ((Has active l.from → ⊥) ⊎ ((Has active l.to → ⊥) ⊎ (CHANNELS ≤ count))) ⊥ (Unfits l.production giver ⊎ Unfits l.consumption taker)

-- of a row of either kind, in a mode with this front, by the processor of each actor so far
abbrev pub CheckedBy : List ℕ → List (Option ℕ) → Entry → Result (Unit {0}) Reason → Type 0
CheckedBy f homes (AnActor a is) = ActorChecked (head_in f).active (get_or homes a None) a is
CheckedBy f homes (AChannel l) = ChannelChecked (head_in f).active (head_in f).count (actor_in f l.from).phases (actor_in f l.to).phases l

-- the actors that a row names have a place
abbrev pub Placed : Entry → Type 0
Placed (AnActor a is) = a < ACTORS
Placed (AChannel l) = (l.from < ACTORS) × (l.to < ACTORS)

-- the front of the mode at place m
abbrev pub front_at : List ℕ → ℕ → List ℕ
front_at fronts m = take FRONT_WORDS (drop (FRONT_WORDS * m) fronts)

-- what stands at a place of a text is a row that passes after the rows before it, or it is refused
pub data Judged (text : List ℕ) (at : ℕ) (fronts : List ℕ) (homes : List (Option ℕ)) : Result Line Reason → Type 0 where
  no_line : {e : Reason} → LineAt text at (Err e) → Judged text at fronts homes (Err e)
  stops : {l : Line} {e : Reason} → LineAt text at (Ok l) → CheckedBy (front_at fronts l.mode) homes l.entry (Err e) → Judged text at fronts homes (Err e)
  goes : {l : Line} → LineAt text at (Ok l) → CheckedBy (front_at fronts l.mode) homes l.entry (Ok tt) → Judged text at fronts homes (Ok l)
