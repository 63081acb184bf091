use Rattle.laws.proofs.Signs.{back64}
use mir.Facts.{to_z-of_z}
use Rattle.versions.proofs.Parts.{put_both}
use borrow.Author.Rules.{rules}
use Rattle.scene.proofs.put_clocks.Goals as goal

pub returns : goal.returns
returns c =
    let fall = rw (back64 c.args.bus.fall (search rules)) at c.put_clock.ensures in
    let rise = rw (back64 c.args.bus.rise (search rules)) at c.put_clock-2.ensures in
    let forced = rw (to_z-of_z c.ranges.forced) at c.put_clock-3.ensures in
    let clock = rw (back64 c.args.bus.clock (search rules)) at c.put_clock-4.ensures in
    put_both (put_both (put_both fall rise) forced) clock
