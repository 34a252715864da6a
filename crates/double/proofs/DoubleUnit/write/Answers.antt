use Rattle.std.proofs.Common.{◌≡◌, Ok, rules}
use Rattle.double_settings.specs.Registers.{role_at}
use Rattle.double_settings.specs.Settings.{settings_of}
use Rattle.own.specs.State.{own_of}
use Rattle.registers.specs.Roles.{answer_to, stored_as}
use Rattle.double.proofs.DoubleUnit.write.Goals as goal

pub returns-clause-after : goal.returns-clause-after
returns-clause-after c =
    let was = c.args.self.now in
    let r = c.args.register in
    let b = c.args.byte in
    let served : answer_to (role_at r) b ≡ Ok tt = search rules in
    let page : settings_of c.write.new.self ≡ stored_as (role_at r) (settings_of was.settings) r b = search rules in
    λ i. record { strap = was.strap.0; page = page i; marks = c.end_holds.ensures i; own = own_of was.own }
