use Rattle.std.proofs.Common.{◌≡◌, sym, ap, ◌∙◌, rules}
use Rattle.own.specs.State.{own_of}
use Rattle.single.specs.Kinds.{reported_to, with_temperature}
use Rattle.single.specs.Settings.{settings_of}
use Rattle.single.specs.Sources.{number_of, value_of}
use Rattle.single.proofs.Noted.{to_channel}
use Rattle.single.proofs.loops.note.Goals as goal

pub returns-in-Temperature : goal.returns-in-Temperature
returns-in-Temperature c =
    let s = settings_of c.args.settings.now in
    let was = own_of c.args.own.now in
    let heard : own_of c.hear.new.self ≡ with_temperature s was c.in-Temperature.channel c.in-Temperature.reading = search rules in
    heard ∙ sym (to_channel s was c.in-Temperature.channel c.in-Temperature.reading) ∙ ap (λ r. reported_to s was (number_of r) (value_of r)) (sym c.in-Temperature.is)
