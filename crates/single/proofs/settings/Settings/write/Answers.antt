use Rattle.single.specs.Settings.{settings_of}
use Rattle.registers.specs.Settings.{settings_in}
use Rattle.single.proofs.Stored.{lone_written, written}
use Rattle.single.proofs.settings.Settings.write.Goals as goal

pub invariant_of-self : goal.invariant_of-self
invariant_of-self c =
    let was = settings_of c.args.self.now in
    let is = settings_in c.write.new.self in
    let r = c.args.register in
    let b = c.args.byte in
    record { lone = lone_written was is r b c.write.result c.args.self.now.lone (written was is r b _ c.write.result c.role_at.ensures c.write.ensures.answer c.write.ensures.after) }
