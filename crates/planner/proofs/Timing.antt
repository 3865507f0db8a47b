-- The modes that words hold as they are kept for changes, and the changes between them, one by one. Assumes nothing.
use mathlib.Core.Path.{◌≡◌, refl, sym, ap, subst, subst₂, ◌∙◌}
use mathlib.Core.Bool.{Bool, true, false, cond}
use mathlib.Core.List.{List, ◌++◌}
use Prim.Native.Nat.{ℕ, ◌*◌, ◌/◌, ◌%◌, ◌<◌}
use native.Mathlib.Omega.{arith}
use borrow.Author.Tests.{eqb-true, eqb-false}
use lib.Dec.{eqb}
use Rattle.std.specs.Option.{unwrap_or}
use Rattle.std.specs.Prelude.{Option, Some, None}
use lib.ListN.{length, get_or}
use lib.Seq.{take_all}
use Rattle.numbers.specs.Decides.{Decides, decides_yes, decides_no}
use Rattle.numbers.specs.Joined.{part, joined_part}
use Rattle.numbers.specs.Tab.{length_tab, get_or_tab}
use Rattle.numbers.proofs.Laid.{Begun, begun_all, parts_joined}
use Rattle.units.specs.Limits.{MODES}
use Rattle.tables.specs.Memory.{FRONT_WORDS, head_in}
use Rattle.change.specs.declared.Timing.{Timing}
use Rattle.change.specs.declared.Prepared.{Prepared}
use Rattle.change.specs.declared.Works.{Works}
use Rattle.change.specs.Running.{Running, running_in, Ready}
use Rattle.planning.specs.Nothing.{no_timing}
use Rattle.planning.specs.Changes.{no_running, running_at, Between, ChangeOf, FoundChanges}
use Rattle.planning.proofs.Reckoned.{changes_of, changes_found}
use Rattle.planning.proofs.Unique.{between_unique}
use Rattle.layout.specs.Words.{CHANGES, CHANGE_WORDS, change_words, change_words_at, changes_words}
use Rattle.planner.specs.Changes.{front_at, runnings_in, works_listed, Worked, Runs, Kept, ChangeFound, ChangeWords, ChangesPut}

-- the modes that words hold, one by one
running_at_law : (words : List ℕ) (k : ℕ) → k < MODES → running_at (runnings_in words) k ≡ running_in (front_at words k)
running_at_law words k h =
    get_or_tab MODES (λ m. running_in (front_at words m)) k no_running h

-- what is kept for changes of mode m
module _ (words : List ℕ) (runs : Runs words) {works : List (Option (List Works))} (worked : Worked words works) (m : ℕ) (h : m < MODES) where
  listed : get_or works m None ≡ works_listed (front_at words m)
  listed = ap (λ (l : List (Option (List Works))). get_or l m None) worked ∙ get_or_tab MODES (λ m. works_listed (front_at words m)) m None h

  pub kept_none : None ≡ get_or works m None → Kept (front_at words m) None
  kept_none e = go (eqb (head_in (front_at words m)).active 0) refl (e ∙ listed)
    where
      go : (b : Bool) → eqb (head_in (front_at words m)).active 0 ≡ b → None ≡ cond b None (Some (running_in (front_at words m)).works) → (head_in (front_at words m)).active ≡ 0
      go true t e = eqb-true _ _ t
      go false t e = absurd cc

  pub kept_some : (p : Prepared) → p.front.now ≡ front_at words m → length p.front.now ≡ FRONT_WORDS → Some p.works.now ≡ get_or works m None → Kept (front_at words m) (Some p)
  kept_some p front long e = go (eqb (head_in (front_at words m)).active 0) refl (e ∙ listed)
    where
      go : (b : Bool) → eqb (head_in (front_at words m)).active 0 ≡ b → Some p.works.now ≡ cond b None (Some (running_in (front_at words m)).works) → Kept (front_at words m) (Some p)
      go true t e = absurd cc
      go false t e =
          let n : (head_in (front_at words m)).active ≡ 0 → ⊥ = eqb-false _ _ t in
          let same : p.works.now ≡ (running_in (front_at words m)).works = cc in (
            n,
            record {
              long = long;
              sink = rw front (runs.sink m h);
              ready = rw front (runs.ready m h n);
              works = same ∙ ap (λ (f : List ℕ). (running_in f).works) (sym front);
            },
            front,
          )

-- the change at place n of all pairs
module _ (words : List ℕ) (n : ℕ) (within : n < CHANGES) where
  change_front : (t : Timing) → Between (running_in (front_at words (n / MODES))) (running_in (front_at words (n % MODES))) (n / MODES) (n % MODES) t → ChangeOf (runnings_in words) n t
  change_front t p =
      subst₂ (λ (r s : Running). Between r s (n / MODES) (n % MODES) t)
      (sym (running_at_law words (n / MODES) (omega arith))) (sym (running_at_law words (n % MODES) (omega arith))) p

  pub change_or_none : (o : Option Timing) → ChangeFound words (n / MODES) (n % MODES) o → ChangeOf (runnings_in words) n (unwrap_or o no_timing)
  change_or_none (Some t) p = change_front t ((λ _ _ _. p.1), (λ f. absurd (f p.0)))
  change_or_none None f = change_front no_timing ((λ x y d. absurd (f (x, y, d))), (λ _. refl))

-- behind these modes stand the changes between them, or not
abbrev pub Stand : List ℕ → List ℕ → Bool → Type 0
Stand modes behind b = (cs : List Timing) × FoundChanges (runnings_in modes) cs (MODES * MODES) × Decides (behind ≡ changes_words cs) b

-- the words of the change at each place
abbrev pub change_in : List ℕ → ℕ → List ℕ
change_in modes = change_words_at (changes_of (runnings_in modes))

module _ (modes : List ℕ) (runs : Runs modes) where
  abbrev changes : List Timing
  changes = changes_of (runnings_in modes)

  found : FoundChanges (runnings_in modes) changes (MODES * MODES)
  found =
      changes_found (runnings_in modes)
      (record {
        long = length_tab MODES (λ m. running_in (front_at modes m));
        ready = λ k h listed. subst Ready (sym (running_at_law modes k h)) (runs.ready k h (λ e. listed (ap (λ (r : Running). r.active) (running_at_law modes k h) ∙ e)));
      })

  -- the change at place n
  change_found : (n : ℕ) → n < CHANGES → {t : Timing} → ChangeOf (runnings_in modes) n t → change_words t ≡ change_in modes n
  change_found n within p =
      ap change_words
      (between_unique (running_at (runnings_in modes) (n / MODES)) (running_at (runnings_in modes) (n % MODES)) (n / MODES) (n % MODES) p (found.each n within))

  -- the words of the change there
  pub words_found : (n : ℕ) → n < CHANGES → {those : List ℕ} → ChangeWords modes n those → those ≡ change_in modes n
  words_found n within (t, p, e) = e ∙ change_found n within p

  -- they are put behind the modes
  pub changes_put : (behind : List ℕ) (n : ℕ) → n ≡ CHANGES → Begun CHANGE_WORDS (change_in modes) CHANGES behind n → ChangesPut modes (modes ++ behind)
  changes_put behind n e l =
      (changes, found, ap (λ (b : List ℕ). modes ++ b) (begun_all CHANGE_WORDS (change_in modes) (λ k. refl) CHANGES behind n e l))

  -- they stand there, or another stands at place n
  pub all_stand : (behind : List ℕ) → length behind ≡ CHANGE_WORDS * CHANGES → ((k : ℕ) → k < CHANGES → part CHANGE_WORDS k behind ≡ change_in modes k) → Stand modes behind true
  all_stand behind long each =
      (changes, found, decides_yes (sym (take_all (CHANGE_WORDS * CHANGES) behind (omega arith)) ∙ parts_joined CHANGE_WORDS (change_in modes) behind CHANGES each))

  pub other_stands : (behind : List ℕ) (n : ℕ) → n < CHANGES → (part CHANGE_WORDS n behind ≡ change_in modes n → ⊥) → Stand modes behind false
  other_stands behind n within differs =
      (changes, found, decides_no (λ e. differs (ap (part CHANGE_WORDS n) e ∙ joined_part CHANGE_WORDS (change_in modes) (λ k. refl) CHANGES n within)))
