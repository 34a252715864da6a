use Rattle.std.proofs.Common.{◌≡◌, true, sym, ◌∙◌}
use Rattle.registers.specs.Settings.{settings_in}
use Rattle.single.specs.Settings.{has_room, settings_of}
use Rattle.single.proofs.Stored.{lone_placed}
use Rattle.single.proofs.settings.Settings.put.Goals as goal

pub invariant_of-self : goal.invariant_of-self
invariant_of-self c =
    let room : has_room c.args.register c.args.byte ≡ true = sym c.has_room.ensures ∙ c.if-has_room.true in
    record { lone = lone_placed (settings_of c.args.self.now) (settings_in c.put.new.self) c.args.register c.args.byte c.args.self.now.lone room c.put.ensures }
