-- Words of a mode that is not listed, and of one that is. Assumes nothing.
use mathlib.Core.Path.{◌≡◌, refl, sym, ap, ap₂, subst, ◌∙◌}
use mathlib.Core.Bool.{Bool}
use mathlib.Core.List.{List, [], ◌∷◌}
use Prim.Native.Nat.{ℕ, zero, suc, ◌-◌, ◌%◌, ◌^◌, ◌≤◌, ◌<◌}
use native.Mathlib.Decide.{ℕ_discrete}
use native.Mathlib.Omega.{arith}
use borrow.Author.Tests.{le-ltb}
use lib.ListN.{length, get_or, take, drop, length-drop, replicate, length-replicate, get_or-replicate}
use lib.Seq.{ext_get_or, get_or-take, take_all}
use Rattle.numbers.specs.Bits.{Has, bit, bit_zero}
use Rattle.numbers.specs.Decides.{Decides}
use Rattle.numbers.specs.Joined.{joined}
use Rattle.numbers.specs.Tab.{tab, get_or_tab, get_or_replicated}
use Rattle.units.specs.Limits.{ACTORS, CHANNELS}
use Rattle.units.specs.declared.Token.{Token}
use Rattle.units.specs.Ticks.{tick}
use Rattle.units.specs.Tokens.{token}
use Rattle.terms.specs.declared.refusal.Refusal.{Refusal}
use Rattle.tables.specs.Shape.{Mode, no_actor, no_channel, empty_channel, empty_mode}
use Rattle.tables.specs.Proper.{ProperMode}
use Rattle.tables.specs.Grown.{empty_proper}
use Rattle.tables.specs.Memory.{FRONT_WORDS, head_of, mode_in}
use Rattle.change.specs.Running.{prepared_of, running_in}
use Rattle.change.proofs.Fronts.{running_in_law}
use Rattle.planning.specs.declared.ModePlan.{ModePlan}
use Rattle.std.specs.Prelude.{Ok}
use Rattle.planning.specs.Nothing.{empty_part}
use Rattle.planning.specs.Plan.{ModeRefused, ModePlanned}
use Rattle.planning.specs.Changes.{running_of}
use Rattle.planning.specs.Steps.{AnyComes}
use Rattle.planning.proofs.Bounds.{SmallPart, mode_small, empty_small}
use Rattle.planning.proofs.Running.{startup_sink}
use Rattle.planning.proofs.Unique.{part_unique, planned_refused}
use Rattle.layout.specs.Words.{MODE_WORDS, head_with, planned_front, mode_words}
use Rattle.layout.specs.Blocks.{Ended}
use Rattle.layout.specs.Read.{bytes_in, mode_of, part_of}
use Rattle.layout.specs.Laws.{mode_back}
use Rattle.layout.proofs.Planned.{part_back}
use Rattle.planner.specs.Held.{Held}

-- the words of a mode in which nothing is listed are all 0
empty_words : mode_words empty_mode empty_part ≡ replicate MODE_WORDS 0
unfolding mode_words joined tab
empty_words = refl

nobody : (m : Mode) (i : ℕ) → m.active ≡ 0 → Has m.active i → ⊥
nobody m i e h = omega (arith, h, ap (λ (a : ℕ). bit a i) e, bit_zero i)

-- a mode that has no actor has nothing
no_mode : (m : Mode) → ProperMode m → m.active ≡ 0 → m ≡ empty_mode
no_mode m proper e =
    let none : m.count ≡ 0 = go m.count refl in
    let actors : m.actors ≡ replicate ACTORS no_actor
    = ext_get_or no_actor m.actors (replicate ACTORS no_actor) (proper.actors_long ∙ sym (length-replicate ACTORS no_actor))
    (λ i h. proper.no_actor_law i (omega (arith, proper.actors_long)) (nobody m i e) ∙ sym (get_or_replicated ACTORS i no_actor)) in
    let channels : m.channels ≡ replicate CHANNELS empty_channel
    = ext_get_or no_channel m.channels (replicate CHANNELS empty_channel) (proper.channels_long ∙ sym (length-replicate CHANNELS empty_channel))
    (λ k h. let l : k < CHANNELS = omega (arith, proper.channels_long) in proper.no_channel_law k l (omega (arith, none)) ∙ sym (get_or-replicate CHANNELS k empty_channel no_channel l)) in
    λ i. record { active = e i; count = none i; actors = actors i; channels = channels i }
  where
    go : (n : ℕ) → m.count ≡ n → m.count ≡ 0
    go zero f = f
    go (suc n) f = absurd (nobody m _ e (proper.channel 0 (omega arith)).from_active)

-- a mode that is planned has an actor
planned_listed : (m : Mode) (p : ModePlan) → ModePlanned m p → m.active ≡ 0 → ⊥
planned_listed m p w e = nobody m _ e w.balanced.ends.0.0.1

-- behind the last channel of a proper mode there is none, and nothing is planned
module _ (m : Mode) (p : ModePlan) (proper : ProperMode m) where
  ended : ((k : ℕ) → k < CHANNELS → m.count ≤ k → (get_or p.sizes k (token 0) ≡ token 0) × (get_or p.tokens k (token 0) ≡ token 0)) → Ended m p
  ended none =
      record {
        count = proper.count;
        no_channel_law = proper.no_channel_law;
        none_carried = λ k h b i. ((none k h b).0 i).0 ∷ ((none k h b).1 i).0 ∷ [];
      }

  pub planned_ended : ModePlanned m p → Ended m p
  planned_ended w =
      ended (λ k h b. (
        w.sizes.no_size k h b,
        ap (λ (l : List Token). get_or l k (token 0)) w.tokens ∙ get_or_tab CHANNELS _ k (token 0) h ∙ rw (le-ltb k m.count b),
      ))

  pub unplanned_ended : p ≡ empty_part → Ended m p
  unplanned_ended e =
      let none : (k : ℕ) → get_or (replicate CHANNELS (token 0)) k (token 0) ≡ token 0 = λ k. get_or_replicated CHANNELS k (token 0) in
      ended (λ k h b. rw e (none k, none k))

-- a proper mode with what is planned of it, or with nothing where it is not listed
module _ (m : Mode) (p : ModePlan) (n : ℕ) (proper : ProperMode m) (comes : AnyComes m n (Ok p)) where
  pub part_sound : SmallPart p × (p.startup ≡ get_or p.starts p.sink (tick 0))
  part_sound = go (ℕ_discrete m.active 0)
    where
      go : Dec (m.active ≡ 0) → SmallPart p × (p.startup ≡ get_or p.starts p.sink (tick 0))
      go (yes e) = rw (comes.1 e) (empty_small, refl)
      go (no h) = (mode_small m p proper (comes.0 h), startup_sink m proper p (comes.0 h))

  pub part_ended : Ended m p
  part_ended = go (ℕ_discrete m.active 0)
    where
      go : Dec (m.active ≡ 0) → Ended m p
      go (yes e) = unplanned_ended m p proper (comes.1 e)
      go (no h) = planned_ended m p proper (comes.0 h)

  -- all its words are 0 where it is not listed
  pub unlisted_words : m.active ≡ 0 → mode_words m p ≡ replicate MODE_WORDS 0
  unlisted_words e = ap₂ mode_words (no_mode m proper e) (comes.1 e) ∙ empty_words

  pub words_held : Held (mode_words m p)
  words_held =
      let mode = mode_back m proper p in
      let part = part_back m p proper.active part_sound.0 part_sound.1 in
      record {
        proper = rw mode proper;
        listed = rw (mode, part) comes.0;
        unlisted = rw (mode, part) comes.1;
        left = sym (ap₂ mode_words mode part);
      }

  -- it runs by the numbers of its front
  pub planned_runs : running_in (planned_front m p) ≡ running_of m p
  planned_runs =
      let (small, startup) = part_sound in
      running_in_law (head_with (head_of m) p) m.actors p.firings p.periods p.starts proper.actors_long small.firings_long small.periods_long small.starts_long proper.active small.sink
      ∙ ap (prepared_of m.active m.actors p.iteration p.firings p.periods p.starts (get_or p.starts p.sink (tick 0))) (sym startup)

module _ (l : List ℕ) where
  -- words that are all 0 hold a mode that is not listed
  blank_held : l ≡ replicate MODE_WORDS 0 → Held l
  blank_held e = rw (e ∙ sym empty_words) (words_held empty_mode empty_part 1 empty_proper ((λ h. absurd (h refl)), (λ h. refl)))

  -- and those of such a mode are all 0
  held_blank : Held l → (mode_of l).active ≡ 0 → l ≡ replicate MODE_WORDS 0
  held_blank h e = h.left ∙ ap₂ mode_words (no_mode (mode_of l) h.proper e) (h.unlisted e) ∙ empty_words

  -- so a mode whose first word is 0 is held when all its words are
  pub blank_decides : (b : Bool) → length l ≡ MODE_WORDS → get_or l 0 0 ≡ 0 → Decides (l ≡ replicate (length l) 0) b → Decides (Held l) b
  unfolding mode_of
  blank_decides b long first d =
      let zeros = ap (λ (n : ℕ). replicate {A = ℕ} n 0) long in
      let none : (mode_of l).active ≡ 0 = ap (λ (n : ℕ). n % 2 ^ ACTORS) (get_or-take FRONT_WORDS l 0 0 (omega arith) ∙ first) in
      ((λ t. blank_held (d.0 t ∙ zeros)), (λ h. d.1 (held_blank h none ∙ sym zeros)))

  -- and another when it is that of the mode that is read from it, with what is planned of this
  module _ (some : get_or l 0 0 ≡ 0 → ⊥) (m : Mode) (is : m ≡ mode_of l) where
    pub held_proper : Held l → ProperMode m
    held_proper h = subst ProperMode (sym is) h.proper

    held_part : Held l → ModePlanned m (part_of l)
    held_part h = subst (λ (m : Mode). ModePlanned m (part_of l)) (sym is) (h.listed (λ e. some (ap (λ (l : List ℕ). get_or l 0 0) (held_blank h e))))

    pub held_unrefused : {n : ℕ} {r : Refusal} → ModeRefused m n r → Held l → ⊥
    held_unrefused r h = planned_refused (held_part h) r

    pub listed_decides : (p : ModePlan) (b : Bool) → ProperMode m → ModePlanned m p → Decides (l ≡ mode_words m p) b → Decides (Held l) b
    listed_decides p b proper w d = (
      (λ t. subst Held (sym (d.0 t)) (words_held m p 1 proper ((λ n. w), (λ e. absurd (planned_listed m p w e))))),
      (λ h. d.1 (h.left ∙ ap₂ mode_words (sym is) (part_unique (held_part h) w))),
    )

-- the mode that is read from words
pub mode_read : (l c : List ℕ) → length l ≡ MODE_WORDS → c ≡ bytes_in (take (MODE_WORDS - FRONT_WORDS) (drop FRONT_WORDS l)) → mode_in (take FRONT_WORDS l) c ≡ mode_of l
unfolding mode_of
mode_read l c long e =
    ap (mode_in (take FRONT_WORDS l)) (e ∙ ap bytes_in (take_all (MODE_WORDS - FRONT_WORDS) (drop FRONT_WORDS l) (omega (arith, length-drop FRONT_WORDS l))))
