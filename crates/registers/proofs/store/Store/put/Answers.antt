use Rattle.std.proofs.Common.{◌≡◌, ◌-◌, ◌%◌, ◌<◌, ◌≤◌, true, false, length, set, ap, ◌∙◌, rules}
use Rattle.unit.specs.Parts.{bytes_of}
use Rattle.unit.specs.Steps.{put}
use Rattle.registers.specs.Settings.{code_in, has_code, overlaid}
use Rattle.registers.proofs.Kept.{code_set, put_code, put_plain}
use Rattle.registers.proofs.store.Store.put.Goals as goal

pub returns-in_default : goal.returns-in_default
returns-in_default g c =
    let was = c.args.self.now in
    let none : has_code g.row.N g.row.FIRST c.args.register ≡ false = search rules in
    ap (overlaid g.row.N g.row.FIRST (code_in was.codes)) c.put.ensures
    ∙ put_plain g.row.N g.row.FIRST (code_in was.codes) (bytes_of was.page) c.args.register c.args.byte none

pub returns-in-Ok : goal.returns-in-Ok
returns-in-Ok g c =
    let was = c.args.self.now in
    let place = c.in-Some.place in
    let range = c.in-Ok.range in
    let r = c.args.register in
    let b = c.args.byte in
    let code : range.code ≡ b % 16 = search rules in
    let small : b % 16 ≤ 4 = search rules in
    let has : has_code g.row.N g.row.FIRST r ≡ true = search rules in
    let at : place ≡ r - g.row.FIRST = search rules in
    let inside : place < length was.codes = search rules in
    let codes : code_in (set was.codes place range) ≡ put (code_in was.codes) (r - g.row.FIRST) (b % 16) = code_set was.codes place range inside ∙ (λ i. put (code_in was.codes) (at i) (code i)) in
    (λ i. overlaid g.row.N g.row.FIRST (codes i) (c.put-in-Ok.ensures i))
    ∙ put_code g.row.N g.row.FIRST (code_in was.codes) (bytes_of was.page) r b has small
