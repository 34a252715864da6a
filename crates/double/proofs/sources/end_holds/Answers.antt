use Rattle.std.proofs.Common.{◌≡◌, ℕ, Bool, false, ltb, Some, ap, ◌∙◌, sym, arith, get_or}
use Rattle.std.proofs.lemmas.Bool.{cond-true, lt-ltb}
use Rattle.std.proofs.lemmas.Option.{slice_get-get_or}
use Rattle.double_settings.specs.Parts.{source_at, sources}
use Rattle.double_settings.specs.declared.parts.Source.{Source}
use Rattle.double_settings.specs.declared.parts.Fan.TheVariants.{First}
use Rattle.double_settings.specs.declared.parts.FanSource.TheVariants.{Missing}
use Rattle.double_settings.specs.declared.parts.Source.TheVariants.{OfFan}
use Rattle.unit.specs.Parts.{marks_of}
use Rattle.unit.specs.Steps.{ended, put}
use Rattle.unit.proofs.Parts.{ended_all, up_to, up_to_more}
use Rattle.double.proofs.Reported.{number_at}
use Rattle.double.specs.Sources.{ends_hold, of_source, said}
use Rattle.double.proofs.sources.end_holds.Goals as goal

pub loop-source-preserved : goal.loop-source-preserved
loop-source-preserved c =
    let i = c.loop-source.source-index in
    let over : ℕ → Bool = λ n. of_source false (ends_hold c.args.register c.args.byte) n in
    let x : Source = get_or sources i (OfFan First Missing) in
    let is : source_at i ≡ Some x = slice_get-get_or sources i (OfFan First Missing) c.loop-source-test.true in
    let number : c.number.result ≡ i = c.number.ensures.is ∙ number_at i x is in
    let ends : c.ends_hold.result ≡ over i = c.ends_hold.ensures ∙ ap (λ o. said false (ends_hold c.args.register c.args.byte) o) (sym is) in
    c.end.ensures
    ∙ cond-true (ltb c.number.result 11) _ _ (lt-ltb c.number.result 11 c.number.ensures.small)
    ∙ (λ j. put (c.loop-source.invariant j) (number j) (ended (ends j) (c.loop-source.invariant j (number j))))
    ∙ up_to_more (λ n m. ended (over n) m) (marks_of c.args.marks.now) i

pub returns : goal.returns
returns c =
    let over : ℕ → Bool = λ n. of_source false (ends_hold c.args.register c.args.byte) n in
    let done : c.loop-source.source-index ≡ 11 = omega arith in
    c.loop-source.invariant
    ∙ ap (λ i. up_to (λ n m. ended (over n) m) (marks_of c.args.marks.now) i) done
    ∙ ended_all c.args.marks.now over
