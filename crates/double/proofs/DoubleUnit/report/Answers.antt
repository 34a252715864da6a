use Rattle.std.proofs.Common.{◌≡◌, Ok, ◌∙◌, rules}
use Rattle.std.specs.Result.{result_map_both}
use Rattle.double_settings.specs.Parts.{source_at}
use Rattle.double.specs.Meaning.{state_of}
use Rattle.double.specs.Report.{source_of, value_of}
use Rattle.double.specs.Sources.{served_source}
use Rattle.double.proofs.Reported.{answered, bare, noted_is}
use Rattle.double.proofs.DoubleUnit.report.Goals as goal

pub returns-in_err-new-clause-answer : goal.returns-in_err-new-clause-answer
returns-in_err-new-clause-answer c =
    let out : c.from_residual.result ≡ bare c.new.result = search rules in
    let served : result_map_both source_of (λ e. e) c.new.result ≡ served_source c.args.value (source_at c.args.source) = search rules in
    out ∙ answered c.args.source c.args.value c.new.result served

pub returns-clause-answer : goal.returns-clause-answer
returns-clause-answer c =
    let out : Ok tt ≡ bare c.new.result = search rules in
    let served : result_map_both source_of (λ e. e) c.new.result ≡ served_source c.args.value (source_at c.args.source) = search rules in
    out ∙ answered c.args.source c.args.value c.new.result served

pub returns-clause-after : goal.returns-clause-after
returns-clause-after c =
    let r = c.in_ok-new.field-0 in
    let served : Ok (source_of r) ≡ served_source c.args.value (source_at c.args.source) = search rules in
    let value : value_of r ≡ c.args.value = search rules in
    c.note.ensures ∙ noted_is (state_of c.args.self.now) c.args.source c.args.value r served value
