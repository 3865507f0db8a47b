-- reader::rows meets its contract. The invariant: the rows before the place were read.
use Rattle.std.proofs.Common.{◌<◌, arith}
use Rattle.units.specs.Limits.{ACTORS}
use Rattle.reader.proofs.Progress.{progress_none, line_places, judged_line, all_read, front, fronts_long, front_long, channels_part_long, refused_here, further, actor_next, channel_room, channel_next}
use Rattle.reader.proofs.rows.Goals as goal

pub loop-at-init : goal.loop-at-init
loop-at-init c = progress_none _ c.requires

-- it is refused
pub returns-in-Err : goal.returns-in-Err
returns-in-Err c =
    refused_here c.loop-at.invariant c.loop-at-test.true (front c.loop-at.invariant c.in-Err.ensures) c.at_row.ensures c.clear.ensures c.clear_bytes.ensures

-- it passes
pub overflow_mul-f : goal.overflow_mul-f
overflow_mul-f c = omega (arith, (line_places (judged_line c.in-Ok.ensures)).0)

pub overflow_add-front : goal.overflow_add-front
overflow_add-front c = omega (arith, (line_places (judged_line c.in-Ok.ensures)).0)

pub offset_bounds-fronts-f : goal.offset_bounds-fronts-f
offset_bounds-fronts-f c = omega (arith, (line_places (judged_line c.in-Ok.ensures)).0)

pub slice_bounds-front-end : goal.slice_bounds-front-end
slice_bounds-front-end c = omega (arith, (line_places (judged_line c.in-Ok.ensures)).0, fronts_long c.loop-at.invariant)

-- an actor's row
pub list_actor-requires : goal.list_actor-requires
list_actor-requires c =
    let (m, p) = line_places (judged_line c.in-Ok.ensures) in (front_long c.loop-at.invariant c.in-Ok.line.mode m, rw c.in-Actor.is at p)

pub offset_bounds-homes-place : goal.offset_bounds-homes-place
offset_bounds-homes-place c =
    let p : c.in-Actor.place < ACTORS = rw c.in-Actor.is at (line_places (judged_line c.in-Ok.ensures)).1 in omega (arith, p)

pub bounds-homes-place : goal.bounds-homes-place
bounds-homes-place c = rw c.in-Actor.is at (line_places (judged_line c.in-Ok.ensures)).1

pub loop-at-smaller-in-Actor : goal.loop-at-smaller-in-Actor
loop-at-smaller-in-Actor c =
    omega (arith, c.loop-at-test.true, further c.loop-at.invariant c.loop-at-test.true (front c.loop-at.invariant c.in-Ok.ensures))

pub loop-at-preserved-in-Actor : goal.loop-at-preserved-in-Actor
loop-at-preserved-in-Actor c =
    actor_next c.loop-at.invariant c.loop-at-test.true (front c.loop-at.invariant c.in-Ok.ensures) c.in-Actor.is c.list_actor.new.front c.list_actor.ensures

-- a channel's row
pub list_channel-requires : goal.list_channel-requires
list_channel-requires c =
    let (m, p) = line_places (judged_line c.in-Ok.ensures) in
    let ends : (c.in-Channel.link.from < ACTORS) × (c.in-Channel.link.to < ACTORS) = rw c.in-Channel.is at p in (
      front_long c.loop-at.invariant c.in-Ok.line.mode m,
      channels_part_long c.loop-at.invariant c.in-Ok.line.mode m,
      channel_room c.loop-at.invariant c.loop-at-test.true (front c.loop-at.invariant c.in-Ok.ensures) c.in-Channel.is,
      rw c.into.ensures ends.0,
      rw c.into.ensures ends.1,
    )

pub loop-at-smaller : goal.loop-at-smaller
loop-at-smaller c =
    omega (arith, c.loop-at-test.true, further c.loop-at.invariant c.loop-at-test.true (front c.loop-at.invariant c.in-Ok.ensures))

pub loop-at-preserved : goal.loop-at-preserved
loop-at-preserved c =
    channel_next c.loop-at.invariant c.loop-at-test.true (front c.loop-at.invariant c.in-Ok.ensures) c.in-Channel.is c.into.result c.into.ensures
    c.list_channel.new.front c.list_channel.new.channels c.list_channel.ensures.0 c.list_channel.ensures.1

-- no row follows
pub returns : goal.returns
returns c = all_read c.loop-at.invariant c.loop-at-test.false
