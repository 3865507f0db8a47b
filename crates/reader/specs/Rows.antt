-- The rows of a table: what they list, how they are written, and when a row is refused.
use Rattle.std.specs.Prelude.{◌≡◌, cond, ◌⊎◌, ℕ, ◌+◌, ◌≤◌, ◌<◌, eqb, length}
use mathlib.Core.List.{List, [], ◌∷◌, Memᴰ}
use Rattle.numbers.specs.Every.{Every}
use Rattle.rfc4180.specs.Decimal.{decimal, spaced}
use Rattle.rfc4180.specs.Numbers.{Between}
use Rattle.units.specs.Limits.{MODES, ACTORS, CHANNELS, PHASES, MOST_WCET, MOST_RATE, PROCESSORS}
use Rattle.terms.specs.declared.refusal.Reason.{Reason}
use Rattle.terms.specs.declared.refusal.Reason.TheVariants.{Mislisted, Elsewhere, BadRates}
use Rattle.terms.specs.Text.{bytes}
use Rattle.tables.specs.declared.Actor.{Actor}

-- `actor,mode,actor,phases,wcet,processor`: a mode and an actor by their numbers, and what the actor is
pub record ActorRow : Type 0 where
  pub mode : ℕ
  pub actor : ℕ
  pub is : Actor

-- `channel,mode,from,to,production,consumption`: a mode and two actors by their numbers, and the rates of each
pub record ChannelRow : Type 0 where
  pub mode : ℕ
  pub from : ℕ
  pub to : ℕ
  pub production : List ℕ
  pub consumption : List ℕ

pub data Row : Type 0 where
  actor : ActorRow → Row
  channel : ChannelRow → Row

-- the word that begins a row
abbrev pub word : Row → List ℕ
word (actor r) = bytes "actor"
word (channel r) = bytes "channel"

-- the contents of the five fields behind it
abbrev pub behind : Row → List (List ℕ)
behind (actor r) = decimal r.mode ∷ decimal r.actor ∷ decimal r.is.phases ∷ decimal r.is.wcet.0 ∷ decimal r.is.processor ∷ []
behind (channel r) = decimal r.mode ∷ decimal r.from ∷ decimal r.to ∷ spaced r.production ∷ spaced r.consumption ∷ []

-- the contents of a row's six fields
abbrev pub contents : Row → List (List ℕ)
contents r = word r ∷ behind r

-- a list of rates, one at least
abbrev pub Rates : List ℕ → Type 0
Rates xs = (0 < length xs) × Every (λ x. x ≤ MOST_RATE.0) xs

-- the numbers of a row are in their ranges
pub record ActorInRange (r : ActorRow) : Type 0 where
  pub mode : Between 1 MODES r.mode
  pub actor : Between 1 ACTORS r.actor
  pub phases : Between 1 PHASES r.is.phases
  pub wcet : Between 1 MOST_WCET.0 r.is.wcet.0
  pub processor : Between 1 PROCESSORS r.is.processor

pub record ChannelInRange (r : ChannelRow) : Type 0 where
  pub mode : Between 1 MODES r.mode
  pub from : Between 1 ACTORS r.from
  pub to : Between 1 ACTORS r.to
  pub production : Rates r.production
  pub consumption : Rates r.consumption

abbrev pub InRange : Row → Type 0
InRange (actor r) = ActorInRange r
InRange (channel r) = ChannelInRange r

-- one of these rows is this actor's
abbrev pub Lists : List Row → ActorRow → Type 0
Lists rows e = Memᴰ (actor e) rows

-- one of these rows lists actor a in mode m
pub record ListedActor (rows : List Row) (m a : ℕ) : Type 0 where
  pub by : ActorRow
  pub lists : Lists rows by
  pub mode : by.mode ≡ m
  pub actor : by.actor ≡ a

-- how many of these rows list a channel in mode m
unfoldable pub channels : List Row → ℕ → ℕ
channels [] m = 0
channels (actor r ∷ rows) m = channels rows m
channels (channel r ∷ rows) m = cond (eqb r.mode m) (channels rows m + 1) (channels rows m)

-- Refusal 3: an actor listed twice in a mode; a channel end not yet listed in that mode; one channel too many.
abbrev pub Refused3 : List Row → Row → Type 0
Refused3 earlier (actor r) = ListedActor earlier r.mode r.actor
Refused3 earlier (channel r) =
    (ListedActor earlier r.mode r.from → ⊥) ⊎ ((ListedActor earlier r.mode r.to → ⊥) ⊎ (CHANNELS ≤ channels earlier r.mode))

-- Refusal 4: an earlier row, of any mode, has this actor on another processor.
abbrev pub Refused4 : List Row → Row → Type 0
Refused4 earlier (actor r) = (e : ActorRow) × Lists earlier e × (e.actor ≡ r.actor) × (e.is.processor ≡ r.is.processor → ⊥)
Refused4 earlier (channel r) = ⊥

-- a list of rates that is not as long as its actor's phases, or all zero
abbrev pub Unfit : List Row → ℕ → ℕ → List ℕ → Type 0
Unfit earlier m a xs = (l : ListedActor earlier m a) × ((length xs ≡ l.by.is.phases → ⊥) ⊎ Every (λ x. x ≡ 0) xs)

-- Refusal 5: either list of rates is so.
abbrev pub Refused5 : List Row → Row → Type 0
Refused5 earlier (actor r) = ⊥
Refused5 earlier (channel r) = Unfit earlier r.mode r.from r.production ⊎ Unfit earlier r.mode r.to r.consumption

-- the first of three refusals that applies, 3 to 5
pub data FirstOf (third fourth fifth : Type 0) : Reason → Type 0 where
  by_3 : third → FirstOf third fourth fifth Mislisted
  by_4 : (third → ⊥) → fourth → FirstOf third fourth fifth Elsewhere
  by_5 : (third → ⊥) → (fourth → ⊥) → fifth → FirstOf third fourth fifth BadRates

-- none of three applies
abbrev pub NoneOf : Type 0 → Type 0 → Type 0 → Type 0
NoneOf third fourth fifth = (third → ⊥) × (fourth → ⊥) × (fifth → ⊥)

-- a row is refused for this reason
abbrev pub RowRefused : List Row → Row → Reason → Type 0
RowRefused earlier r = FirstOf (Refused3 earlier r) (Refused4 earlier r) (Refused5 earlier r)

-- or it passes
abbrev pub Passes : List Row → Row → Type 0
Passes earlier r = NoneOf (Refused3 earlier r) (Refused4 earlier r) (Refused5 earlier r)
