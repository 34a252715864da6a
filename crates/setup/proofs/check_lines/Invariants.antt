-- the lines ahead have the first fault of all
use Rattle.std.proofs.Common.{◌≡◌}
use Rattle.setup.specs.Lines.{laid}
use Rattle.setup.specs.Reading.{entries}
use Rattle.setup.specs.Verdict.{first_in}
use Rattle.setup.proofs.check_lines.Given as goal

abbrev pub invariant-loop-entry : goal.invariant-loop-entry
invariant-loop-entry l = first_in (entries (l.entry-iterator)) ≡ first_in (entries (laid l.list))
