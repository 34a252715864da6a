use Rattle.std.proofs.Common.{◌∙◌, rules, tests, arith}
use Rattle.std.proofs.lemmas.Iterator.{YieldsList-from_range}
use Rattle.std.proofs.lemmas.Iterator.Search.{any_from_yields_List}
use Rattle.unit.specs.Levels.{causes}
use Rattle.unit.proofs.Counted.{any_some}
use Rattle.unit.proofs.level.some_cause.Goals as goal

pub returns : goal.returns
returns g c = λ does answers.
    let kind = g.U.Unit.kind in
    let test = causes kind does (g.U.Unit.state c.args.unit.now) in
    any_from_yields_List test _ _ _ c.any.ensures.ran (YieldsList-from_range 0 kind.sources kind.sources (search rules) (omega arith)) (λ x b q r. search (rules, tests))
    ∙ any_some kind.sources test
