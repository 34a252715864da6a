use Rattle.std.proofs.Common.{sym, ap, ◌∙◌}
use Rattle.setup.specs.LastLine.{last_place}
use Rattle.setup.specs.Verdict.{verdict, count_fault}
use Rattle.setup.proofs.Last.{LastLine, trailer_at}
use Rattle.setup.proofs.check_trailer.Goals as goal

pub returns : goal.returns
returns c =
    let list = c.args.list.now in
    let told = c.line_start-start.ensures in
    let last : LastLine list c.line_start-start.result c.last_end-end.result = record { within = told.within; ends = c.last_end-end.ensures; begins = told.begins; single = told.single } in
    c.check_count.ensures
    ∙ ap (λ n. verdict (count_fault (last_place list c.line_start-start.result) n)) c.trailer_count.ensures
    ∙ ap verdict (sym (trailer_at list _ _ last))
