-- schedule::schedule meets its contract.
use Rattle.std.proofs.Common.{refl}
use Rattle.tables.proofs.Stored.{proper_of}
use Rattle.schedule.specs.Scheduled.{late, on_time}
use Rattle.schedule.specs.Reached.{start_at}
use Rattle.schedule.proofs.Sound.{numbers_of, judged_ready, judged_few}
use Rattle.schedule.proofs.Finding.{reached_starts, reached_fits, reached_listed}
use Rattle.schedule.proofs.schedule.Goals.{Start}
use Rattle.schedule.proofs.schedule.Goals as goal

pub starts_of-starts-requires : goal.starts_of-starts-requires
starts_of-starts-requires c = let (x, p) = numbers_of c.requires in judged_ready _ _ (proper_of c.args.mode.now) x p

pub returns-in-Some : goal.returns-in-Some
returns-in-Some c =
    let (x, p) = numbers_of c.requires in
    let (holds, lowest) = rw c.active.ensures at c.in-Some.ensures in
    late (start_at c.starts_of-starts.result) (reached_starts _ _ _ (judged_ready _ _ (proper_of c.args.mode.now) x p) _ c.starts_of-starts.ensures)
    (record { holds = holds; least = lowest })

pub sizes_of-requires : goal.sizes_of-requires
sizes_of-requires c =
    let (x, p) = numbers_of c.requires in reached_fits _ _ _ (judged_ready _ _ (proper_of c.args.mode.now) x p) _ c.starts_of-starts.ensures

pub tokens_of-requires : goal.tokens_of-requires
tokens_of-requires c = let (x, p) = numbers_of c.requires in judged_few _ _ (proper_of c.args.mode.now) x p

pub returns : goal.returns
returns c =
    let (x, p) = numbers_of c.requires in
    let ready = judged_ready _ _ (proper_of c.args.mode.now) x p in
    on_time (start_at c.starts_of-starts.result) (reached_starts _ _ _ ready _ c.starts_of-starts.ensures)
    (rw c.active.ensures at c.in_default.ensures)
    (record {
      startup = refl;
      starts = reached_listed _ _ _ ready _ c.starts_of-starts.ensures;
      sizes = c.sizes_of.ensures;
      tokens = c.tokens_of.ensures;
    })
