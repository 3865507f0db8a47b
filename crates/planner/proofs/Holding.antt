-- Words that hold a plan, mode by mode. Assumes nothing.
use mathlib.Core.Path.{◌≡◌, sym, ap, ap₂, subst, ◌∙◌}
use mathlib.Core.Bool.{Bool}
use mathlib.Core.List.{List, [], ◌++◌, append-nil}
use Prim.Native.Nat.{ℕ, ◌+◌, ◌-◌, ◌*◌, ◌<◌}
use native.Mathlib.Omega.{arith}
use lib.ListN.{length, get_or, take, drop, length-take, take-append-drop}
use lib.Seq.{take_at, take_all, take-take}
use borrow.Author.Count.{below_more}
use Rattle.numbers.specs.All.{Below}
use Rattle.numbers.specs.Decides.{Decides}
use Rattle.numbers.specs.Filled.{filled_whole}
use Rattle.numbers.specs.Joined.{part, joined_part}
use Rattle.numbers.specs.Tab.{tab, length_tab, get_or_tab, tab_same}
use Rattle.numbers.proofs.Laid.{part_is, parts_joined}
use Rattle.units.specs.Limits.{MODES, ACTORS}
use Rattle.tables.specs.declared.Actor.{Actor}
use Rattle.tables.specs.Shape.{Mode, Table, no_mode, mode_at}
use Rattle.tables.specs.Proper.{ProperMode, ProperTable}
use Rattle.tables.specs.Memory.{FRONT_WORDS, actor_in}
use Rattle.tables.specs.Parts.{AtHome, housed_of}
use Rattle.tables.proofs.Housing.{Housed, housed_next, at_home_all, housed_decides}
use Rattle.change.specs.declared.Timing.{Timing}
use Rattle.change.specs.Running.{Running, Fitting, running_in, Ready}
use Rattle.planning.specs.declared.ModePlan.{ModePlan}
use Rattle.std.specs.Prelude.{Ok, Option, None}
use Rattle.std.specs.Option.{IsSome}
use Rattle.planning.specs.Shape.{Plan}
use Rattle.planning.specs.Nothing.{no_part, empty_part}
use Rattle.planning.specs.Plan.{part_at, IsPart, Planned}
use Rattle.planning.specs.Changes.{running_of, FoundChanges}
use Rattle.planning.specs.Steps.{AnyComes, FoundParts, runnings_of}
use Rattle.planning.proofs.Running.{listed_some, listed_none, mode_ready, small_fitting}
use Rattle.planning.proofs.Coming.{part_comes, plan_comes}
use Rattle.planning.proofs.Unique.{plan_unique}
use Rattle.layout.specs.Words.{MODE_WORDS, WORDS, planned_front, mode_words, mode_words_at, modes_words, changes_words, words_of}
use Rattle.layout.specs.Read.{mode_of, part_of, graph_of, plan_of}
use Rattle.layout.specs.Laws.{length_planned, length_mode_at, length_modes, changes_words_law, graph_front}
use Rattle.planner.specs.Plans.{Stored}
use Rattle.planner.specs.Held.{Held, HeldModes}
use Rattle.planner.specs.Changes.{MODES_WORDS, front_at, runnings_in, Runs}
use Rattle.planner.proofs.Leaving.{leaves_stored, stored_leaves, leaves_proper, holds_leaves}
use Rattle.planner.proofs.Blank.{part_sound, words_held, planned_runs}

-- the words of a mode that they hold
module _ (l : List ℕ) (held : Held l) where
  abbrev m : Mode
  m = mode_of l

  abbrev p : ModePlan
  p = part_of l

  pub held_comes : AnyComes m 1 (Ok p)
  held_comes = (held.listed, held.unlisted)

  front_held : take FRONT_WORDS l ≡ planned_front m p
  unfolding mode_words
  front_held = ap (take FRONT_WORDS) held.left ∙ take_at (planned_front m p) _ FRONT_WORDS (length_planned m p)

  pub running_held : running_in (take FRONT_WORDS l) ≡ running_of m p
  running_held = ap running_in front_held ∙ planned_runs m p 1 held.proper held_comes

-- the modes of words
module _ (words : List ℕ) where
  graph_mode : (k : ℕ) → k < MODES → mode_at (graph_of words) k ≡ mode_of (part MODE_WORDS k words)
  unfolding graph_of
  graph_mode k h = get_or_tab MODES (λ m. mode_of (part MODE_WORDS m words)) k no_mode h

  graph_long : length (graph_of words).modes ≡ MODES
  unfolding graph_of
  graph_long = length_tab MODES _

  plan_part : (k : ℕ) → k < MODES → part_at (plan_of words) k ≡ part_of (part MODE_WORDS k words)
  unfolding plan_of
  plan_part k h = get_or_tab MODES (λ m. part_of (part MODE_WORDS m words)) k no_part h

  parts_long : length (plan_of words).parts ≡ MODES
  unfolding plan_of
  parts_long = length_tab MODES _

  -- the front of a mode begins its words
  front_at_law : (k : ℕ) → take FRONT_WORDS (part MODE_WORDS k words) ≡ front_at words k
  front_at_law k = take-take FRONT_WORDS MODE_WORDS (drop (MODE_WORDS * k) words) (omega arith)

  -- those of a proper table, of which each is held
  module _ (held : HeldModes words) where
    runs_at : (k : ℕ) → k < MODES → running_in (front_at words k) ≡ running_of (mode_of (part MODE_WORDS k words)) (part_of (part MODE_WORDS k words))
    runs_at k h = ap running_in (sym (front_at_law k)) ∙ running_held (part MODE_WORDS k words) (held.mode k h)

    pub held_runs : length words ≡ MODES_WORDS → Runs words
    held_runs long =
        record {
          long = long;
          fitting = λ k h. subst Fitting (sym (runs_at k h)) (small_fitting _ (held.mode k h).proper _ (part_sound _ _ 1 (held.mode k h).proper (held_comes _ (held.mode k h))).0);
          sink = λ k h. rw (sym (front_at_law k) ∙ front_held (part MODE_WORDS k words) (held.mode k h)) (part_sound _ _ 1 (held.mode k h).proper (held_comes _ (held.mode k h))).0.sink;
          ready = λ k h n. subst Ready (sym (runs_at k h)) (mode_ready _ (held.mode k h).proper _ ((held.mode k h).listed (λ e. n (ap (λ (r : Running). r.active) (runs_at k h) ∙ e))));
        }

    pub runnings_held : runnings_in words ≡ runnings_of (graph_of words) (plan_of words).parts
    runnings_held = tab_same MODES _ _ (λ k h. runs_at k h ∙ ap₂ running_of (sym (graph_mode k h)) (sym (plan_part k h)))

    parts_held : FoundParts (graph_of words) (plan_of words).parts MODES
    parts_held =
        filled_whole MODES (IsPart (graph_of words)) empty_part no_part (plan_of words).parts parts_long
        (λ k h. part_comes (graph_of words) held.proper k h (part_at (plan_of words) k)
        (rw (graph_mode k h, plan_part k h) (held_comes (part MODE_WORDS k words) (held.mode k h))))

    -- with the changes between them they are a plan, which leaves them
    module _ (cs : List Timing) where
      abbrev pub plan_with : Plan
      plan_with = record { parts = (plan_of words).parts; changes = cs }

      pub held_planned : FoundChanges (runnings_in words) cs (MODES * MODES) → Planned (graph_of words) plan_with
      held_planned found = plan_comes (graph_of words) held.proper (plan_of words).parts cs parts_held (subst (λ (rs : List Running). FoundChanges rs cs (MODES * MODES)) runnings_held found)

      pub held_words : length words ≡ MODES_WORDS → words ++ changes_words cs ≡ words_of (graph_of words) plan_with
      unfolding words_of
      held_words long =
          ap (λ (l : List ℕ). l ++ changes_words cs)
          (sym (take_all MODES_WORDS words (omega arith))
          ∙ parts_joined MODE_WORDS (mode_words_at (graph_of words) plan_with) words MODES
          (λ k h. (held.mode k h).left ∙ ap₂ mode_words (sym (graph_mode k h)) (sym (plan_part k h))))

-- the modes of words as they are gone through: the first m are held, with their actors on the homes
module _ (words : List ℕ) where
  abbrev pub HeldBelow : ℕ → List (Option ℕ) → Type 0
  HeldBelow m homes = Housed (graph_of words) m homes × Below (λ k. Held (part MODE_WORDS k words)) m

  -- all of them
  pub below_decides : (homes : List (Option ℕ)) (r : Bool) → HeldBelow MODES homes → Decides ((i : ℕ) × (i < ACTORS) × IsSome (get_or homes i None)) r → Decides (HeldModes words) r
  below_decides homes r (housed, held) d =
      let proper = housed_decides (graph_of words) homes r housed (graph_long words) d in
      ((λ t. record { proper = proper.0 t; mode = held }), (λ h. proper.1 h.proper))

  module _ (m : ℕ) (h : m < MODES) where
    pub mode_slice_law : take (MODE_WORDS * m + MODE_WORDS - MODE_WORDS * m) (drop (MODE_WORDS * m) words) ≡ part MODE_WORDS m words
    mode_slice_law = part_is MODE_WORDS m words

    -- the words of its front, by their two ends
    abbrev front : List ℕ
    front = take (MODE_WORDS * m + FRONT_WORDS - MODE_WORDS * m) (drop (MODE_WORDS * m) words)

    actors_at_law : tab ACTORS (actor_in front) ≡ (mode_at (graph_of words) m).actors
    unfolding mode_of
    actors_at_law =
        let wide : MODE_WORDS * m + FRONT_WORDS - MODE_WORDS * m ≡ FRONT_WORDS = omega arith in
        ap (λ (n : ℕ). tab ACTORS (actor_in (take n (drop (MODE_WORDS * m) words)))) wide
        ∙ ap (λ (f : List ℕ). tab ACTORS (actor_in f)) (sym (front_at_law words m)) ∙ ap (λ (m : Mode). m.actors) (sym (graph_mode words m h))

    module _ (homes : List (Option ℕ)) (below : HeldBelow m homes) (held : Held (part MODE_WORDS m words)) where
      mode_proper : ProperMode (mode_at (graph_of words) m)
      mode_proper = subst ProperMode (sym (graph_mode words m h)) held.proper

      pub below_next : {next : List (Option ℕ)} → Below (AtHome homes (tab ACTORS (actor_in front))) ACTORS → next ≡ housed_of homes (tab ACTORS (actor_in front)) → HeldBelow (m + 1) next
      below_next b e = (
        subst (Housed (graph_of words) (m + 1)) (sym (e ∙ ap (housed_of homes) actors_at_law))
            (housed_next (graph_of words) m homes below.0 mode_proper (subst (λ (l : List Actor). Below (AtHome homes l) ACTORS) actors_at_law b)),
        below_more _ m below.1 held,
      )

      pub below_home : HeldModes words → Below (AtHome homes (tab ACTORS (actor_in front))) ACTORS
      below_home p = subst (λ (l : List Actor). Below (AtHome homes l) ACTORS) (sym actors_at_law) (at_home_all (graph_of words) m homes below.0 mode_proper h p.proper)

-- what is planned of a mode of a table comes of it
pub comes_part : (t : Table) → ProperTable t → (k : ℕ) → k < MODES → (p : ModePlan) → IsPart t k p → AnyComes (mode_at t k) 1 (Ok p)
comes_part t proper k h p is = ((λ n. is.listed (listed_some t k proper h n)), (λ e. is.unlisted (λ x. listed_none t k x e)))

-- the words of a planned table hold its modes
module _ (t : Table) (w : Plan) (proper : ProperTable t) where
  pub modes_first : take MODES_WORDS (words_of t w) ≡ modes_words t w
  unfolding words_of
  modes_first = take_at (modes_words t w) (changes_words w.changes) MODES_WORDS (length_modes t w)

  pub modes_graph : graph_of (modes_words t w) ≡ t
  modes_graph = ap graph_of (sym (append-nil (modes_words t w))) ∙ graph_front t w [] proper

  pub modes_held : ((k : ℕ) → k < MODES → IsPart t k (part_at w k)) → HeldModes (modes_words t w)
  modes_held is =
      record {
        proper = subst ProperTable (sym modes_graph) proper;
        mode = λ k h. subst Held (sym (joined_part MODE_WORDS (mode_words_at t w) (length_mode_at t w) MODES k h))
            (words_held (mode_at t k) (part_at w k) 1 (proper.mode k h) (comes_part t proper k h (part_at w k) (is k h)));
      }

-- words that some accepted table leaves, by what stands there
module _ (words : List ℕ) where
  abbrev modes : List ℕ
  modes = take MODES_WORDS words

  pub stored_modes : Stored words → HeldModes modes
  stored_modes s =
      let (t, w, l) = stored_leaves words s in
      subst HeldModes (sym (ap (take MODES_WORDS) l.left ∙ modes_first t w (leaves_proper l))) (modes_held t w (leaves_proper l) l.planned.part)

  module _ (long : length words ≡ WORDS) (held : HeldModes modes) (cs : List Timing) (found : FoundChanges (runnings_in modes) cs (MODES * MODES)) where
    modes_long : length modes ≡ MODES_WORDS
    modes_long = length-take MODES_WORDS words ∙ omega arith

    left : drop MODES_WORDS words ≡ changes_words cs → words ≡ words_of (graph_of modes) (plan_with modes held cs)
    left e = sym (take-append-drop MODES_WORDS words) ∙ ap (λ (l : List ℕ). modes ++ l) e ∙ held_words modes held cs modes_long

    there : Stored words → drop MODES_WORDS words ≡ changes_words cs
    there s =
        let (t, w, l) = stored_leaves words s in
        let graph : t ≡ graph_of modes = sym (ap graph_of (ap (take MODES_WORDS) l.left ∙ modes_first t w (leaves_proper l)) ∙ modes_graph t w (leaves_proper l)) in
        let same = plan_unique t w (plan_with modes held cs) l.planned (subst (λ (t : Table). Planned t (plan_with modes held cs)) (sym graph) (held_planned modes held cs found)) in
        ap (drop MODES_WORDS) l.left ∙ changes_words_law t w ∙ ap (λ (w : Plan). changes_words w.changes) same

    pub held_decides : (b : Bool) → Decides (drop MODES_WORDS words ≡ changes_words cs) b → Decides (Stored words) b
    held_decides b d = (
      (λ y. leaves_stored (holds_leaves (graph_of modes) (plan_with modes held cs) words held.proper (held_planned modes held cs found) (left (d.0 y)))),
      (λ s. d.1 (there s)),
    )
