use Rattle.std.proofs.Common.{◌≡◌, drop}
use Rattle.registers.specs.Settings.{filled, settings_in}
use Rattle.registers.proofs.store.Store.power_on.Given as goal

abbrev pub invariant-loop-register : goal.invariant-loop-register
invariant-loop-register g l = filled g.row.N g.row.FIRST (settings_in l.store) (drop l.register-index l.bytes) ≡ filled g.row.N g.row.FIRST (λ _. 0) l.bytes
