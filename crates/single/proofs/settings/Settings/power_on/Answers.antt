use Rattle.std.proofs.Common.{◌∙◌}
use Rattle.single.proofs.Stored.{first_settings, lone_first}
use Rattle.single.proofs.settings.Settings.power_on.Goals as goal

pub invariant_of-result : goal.invariant_of-result
invariant_of-result c = record { lone = lone_first _ (c.power_on.ensures ∙ first_settings) }

pub returns : goal.returns
returns c = c.power_on.ensures ∙ first_settings
