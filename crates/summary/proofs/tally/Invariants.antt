-- what is noted and the lines ahead make what the list holds, and there are no more lines than bytes
use Rattle.std.proofs.Common.{◌≡◌, ◌+◌, ◌≤◌, length}
use Rattle.setup.specs.Lines.{laid}
use Rattle.summary.specs.Holdings.{holdings, plus}
use Rattle.summary.proofs.tally.Given as goal

abbrev pub invariant-loop-text : goal.invariant-loop-text
invariant-loop-text l = record {
  whole : plus l.summary (holdings l.text-iterator) ≡ holdings (laid l.list);
  few : l.summary.writes + (l.summary.counts + (l.summary.remarks + length l.text-iterator)) ≤ length l.list;
}
