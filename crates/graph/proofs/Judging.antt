-- What is found of a mode is what the rules say of it. Assumes nothing.
use mathlib.Core.Path.{◌≡◌, refl}
use mathlib.Core.Bool.{Bool, true, false, cond}
use mathlib.Core.List.{List}
use Prim.Native.Nat.{ℕ, ◌≤◌}
use borrow.Author.Tests.{eqb-true, eqb-false}
use lib.Dec.{eqb}
use lib.ListN.{get_or}
use Rattle.std.specs.Prelude.{Option, None, Some, Err}
use Rattle.units.specs.declared.Tick.{Tick}
use Rattle.units.specs.declared.Firing.{Firing}
use Rattle.units.specs.Limits.{ITERATION_LIMIT}
use Rattle.tables.specs.Shape.{Mode}
use Rattle.tables.specs.Proper.{ProperMode}
use Rattle.graph.specs.declared.Fault.TheVariants.{Unbalanced as IsUnbalanced, Cyclic as IsCyclic}
use Rattle.graph.specs.Order.{Cyclic, Ranked}
use Rattle.graph.specs.Ends.{Ends}
use Rattle.graph.specs.Balance.{Iteration}
use Rattle.graph.specs.Judged.{Judged, cyclic, no_ends, unbalanced, overloaded, sound}
use Rattle.graph.specs.Rounds.{only_of}
use Rattle.graph.specs.Counts.{Counted, counts_of, balancesb}
use Rattle.graph.specs.Lengths.{firings_in, works_in, length_of, shares_in, overloaded_of}
use Rattle.graph.specs.Judge.{loaded, lasting, timed_of, by_counts, balanced_of, by_ends, judge_of}
use Rattle.graph.proofs.Sorted.{sorted, order_ranked, order_cyclic, order_acyclic, ranked_acyclic}
use Rattle.graph.proofs.Multiples.{counts_above, counts_counted, counts_divide, counts_smallest, counts_uneven}
use Rattle.graph.proofs.Lasting.{length_is, above_unbalanced, firings_are, periods_are}
use Rattle.graph.proofs.Shared.{loads_fine, loads_over}
use Rattle.graph.proofs.Bounds.{firsts, lasts, source_found, sink_found, source_none, sink_none}

module _ (m : Mode) (proper : ProperMode m) where
  module _ (ds : List ℕ) (ranked : Ranked m ds) (s t : ℕ) (ends : Ends m s t) where
    acyclic : Cyclic m → ⊥
    acyclic = ranked_acyclic m proper ds ranked

    -- the counts that are found, and what follows from them
    module _ (x : List ℕ) (found : counts_of m ds s ≡ Some x) where
      abbrev X : ℕ → ℕ
      X i = get_or x i 0

      abbrev qs : List Firing
      qs = firings_in m.actors x

      abbrev ws : List Tick
      ws = works_in m.actors qs

      counted : Counted m x
      counted = counts_counted m proper ds ranked s t ends acyclic x found

      module _ (even : balancesb m x m.count ≡ true) where
        by_load : (h : Tick) → Iteration m X h → h.0 ≤ ITERATION_LIMIT.0 → (p : Option ℕ) → overloaded_of (shares_in m.actors ws) h ≡ p → Judged m (loaded m ds s t qs h p)
        by_load h iteration within None e =
            sound X acyclic
            (record {
              ends = ends;
              smallest = counts_smallest m proper ds ranked s t ends acyclic x found even;
              iteration = iteration;
              within = within;
              ranked = ranked;
              firings = firings_are m proper x counted;
              periods = periods_are m proper x counted h;
            })
            (loads_fine m proper x counted h iteration e)
        by_load h iteration within (Some p) e =
            overloaded X acyclic ends (counts_smallest m proper ds ranked s t ends acyclic x found even) iteration within (loads_over m proper x counted h iteration p e)

        by_length : (l : Option Tick) → length_of ws qs m.active ≡ l → Judged m (lasting m ds s t qs ws l)
        by_length None e = unbalanced acyclic ends (above_unbalanced m proper x counted e (counts_divide m proper ds ranked s t ends acyclic x found))
        by_length (Some h) e = let (iteration, within) = length_is m proper x counted (s, (ends.0.0.0, ends.0.0.1)) h e in by_load h iteration within _ refl

        timed_judged : Judged m (timed_of m ds s t x)
        unfolding timed_of
        timed_judged = by_length _ refl

    pub balanced_judged : Judged m (balanced_of m ds s t)
    unfolding balanced_of
    balanced_judged = go (counts_of m ds s) refl
      where
        even : (x : List ℕ) → counts_of m ds s ≡ Some x → (b : Bool) → balancesb m x m.count ≡ b → Judged m (cond b (timed_of m ds s t x) (Err IsUnbalanced))
        even x e true f = timed_judged x e f
        even x e false f = unbalanced acyclic ends (λ y h p i. absurd (counts_uneven m proper ds ranked s t ends acyclic x e f y p))

        go : (c : Option (List ℕ)) → counts_of m ds s ≡ c → Judged m (by_counts m ds s t c)
        go None e = unbalanced acyclic ends (counts_above m proper ds ranked s t ends acyclic e)
        go (Some x) e = even x e _ refl

  ends_judged : (sorted m).left ≡ 0 → (s : Option ℕ) → only_of (firsts m) ≡ s → (t : Option ℕ) → only_of (lasts m) ≡ t → Judged m (by_ends m (sorted m).depths s t)
  ends_judged e (Some s) p (Some t) q = balanced_judged (sorted m).depths (order_ranked m proper e) s t (source_found m proper s p, sink_found m proper t q)
  ends_judged e (Some s) p None q = no_ends (order_acyclic m proper e) (sink_none m proper q)
  ends_judged e None p t q = no_ends (order_acyclic m proper e) (source_none m proper p)

  pub judge_judged : Judged m (judge_of m)
  unfolding judge_of
  judge_judged = go (eqb (sorted m).left 0) refl
    where
      go : (b : Bool) → eqb (sorted m).left 0 ≡ b → Judged m (cond b (by_ends m (sorted m).depths (only_of (firsts m)) (only_of (lasts m))) (Err IsCyclic))
      go true e = ends_judged (eqb-true _ _ e) _ refl _ refl
      go false e = cyclic (order_cyclic m proper (eqb-false _ _ e))
