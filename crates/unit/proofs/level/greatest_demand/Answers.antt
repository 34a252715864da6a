use Rattle.std.proofs.Common.{ap, ◌∙◌, rules, tests, arith}
use Rattle.std.specs.Option.{unwrap_or}
use Rattle.std.specs.List.{range_with_len}
use Rattle.std.proofs.lemmas.Iterator.{YieldsList-from_range, YieldsList-from_map}
use Rattle.std.proofs.lemmas.Iterator.Consumers.{reduce_from_yields_List}
use Rattle.std.proofs.lemmas.List.Folds.{max_of_map}
use Rattle.unit.specs.Levels.{demand_in}
use Rattle.unit.proofs.Counted.{max_greatest}
use Rattle.unit.proofs.level.greatest_demand.Goals as goal

pub returns : goal.returns
returns g c =
    let kind = g.U.Unit.kind in
    let asks = demand_in kind (g.U.Unit.state c.args.unit.now) c.args.fan in
    c.unwrap_or.ensures
    ∙ ap (λ top. unwrap_or top 0) (reduce_from_yields_List _ c.map.result c.max.result c.max.ensures.ran (YieldsList-from_map _ asks (YieldsList-from_range 0 kind.sources kind.sources (search rules) (omega arith)) c.map.ensures.closure (λ x r q h. search (rules, tests))))
    ∙ max_of_map asks (range_with_len 0 kind.sources)
    ∙ max_greatest kind.sources asks
