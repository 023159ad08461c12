-- Each insertion is that of one of these directories.
use Rattle.export_regions.proofs.Common.{Contains-get_or, arith, contents, get_or, is_some, length, nat_cmp, ◌-◌, ◌<◌, ◌≤◌}
use Rattle.export_regions.proofs.KnownLaws.{one_noted, room_left}
use Rattle.export_regions.proofs.known_dirs.put_all.Goals as goal

pub loop-i-preserved : goal.loop-i-preserved
loop-i-preserved c =
    let some : 0 < c.loop-i.i = c.loop-i-test.true in
    let few : c.loop-i.i ≤ length c.args.way.now = c.loop-i.invariant.within in
    record {
      within = omega (arith, few);
      room = room_left (is_some c.insert_near.result) c.loop-i.i c.loop-i.answers.room c.insert_near.new.self.room c.loop-i.invariant.room c.insert_near.ensures.room;
      noted = one_noted c.args.way.now c.args.told (contents nat_cmp c.args.answers.now) (contents nat_cmp c.loop-i.answers) (contents nat_cmp c.insert_near.new.self) (get_or c.args.way.now (c.loop-i.i - 1) 0) c.loop-i.invariant.noted
          (Contains-get_or c.args.way.now (c.loop-i.i - 1) 0 (omega (arith, some, few))) c.insert_near.ensures.inserted;
    }
