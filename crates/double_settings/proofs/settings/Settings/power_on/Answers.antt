use Rattle.std.proofs.Common.{ap, ◌∙◌}
use Rattle.registers.specs.Settings.{filled}
use Rattle.double_settings.proofs.PowerOn.{first_settings}
use Rattle.double_settings.proofs.settings.Settings.power_on.Goals as goal

pub returns : goal.returns
returns c = c.power_on.ensures ∙ ap (filled 3 0x88 (λ _. 0)) c.power_on_bytes.ensures ∙ first_settings c.args.strap.0
