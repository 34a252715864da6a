use Rattle.std.proofs.Common.{◌≡◌, ◌+◌, ◌-◌, take, drop, Some, sym, ap, ◌∙◌, subst, arith, rules}
use Rattle.std.proofs.lemmas.List.{take_rest}
use Rattle.setup.specs.Lines.{lines, lay_out}
use Rattle.setup.specs.Reading.{first, rest}
use Rattle.setup.proofs.Lined.{Line, ahead_few, some_left, one_ahead}
use Rattle.setup.proofs.reader.Reader.next_text.Goals as goal

pub returns : goal.returns
returns c =
    let list = c.self.inside.list.now in
    let place = c.self.inside.place in
    let told = c.line_length.ensures in
    let size : place.offset + c.line_length.result - place.offset ≡ c.line_length.result = omega arith in
    let line : Line (drop place.offset list) c.line_length.result = subst (λ bs. Line bs c.line_length.result) (take_rest list place.offset) (record { within = told.within; before = told.before; newline = told.newline }) in
    let one = sym c.self.view_is ∙ one_ahead place list c.line_length.result (some_left place list c.args.self.now c.self.view_is (search rules)) line in
    record {
      text = ap (λ n. Some (record { place = place; line = take n (drop place.offset list) })) size ∙ ap first (sym one);
      ahead = ap (λ p. lay_out p (lines (drop p.offset list))) c.place_after-self-inside.ensures ∙ ap rest (sym one);
      counted = search rules;
      within = search rules;
      few = let few = ahead_few place list c.args.self.now c.self.view_is in search rules;
    }
