use Rattle.std.proofs.Common.{◌∙◌}
use Rattle.registers.specs.Settings.{overlaid}
use Rattle.registers.proofs.Kept.{codes_none, zero_none}
use Rattle.registers.proofs.store.Store.zero.Goals as goal

pub returns : goal.returns
returns g c =
    (λ i. overlaid g.row.N g.row.FIRST (codes_none g.row.N c.narrowest.result c.narrowest.ensures i) (c.zero.ensures i))
    ∙ zero_none g.row.N g.row.FIRST
