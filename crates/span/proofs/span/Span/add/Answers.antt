use Rattle.std.proofs.Common.{rules}
use Rattle.span.specs.Encloses.{Sums}
use Rattle.span.specs.Spans.{ends}
use Rattle.span.proofs.Contains.{in_sum, moved}
use Rattle.span.proofs.span.Span.add.Goals as goal

pub returns : goal.returns
returns c = record {
  value = search rules;
  ordered = search rules;
  encloses = moved (Sums (ends c.args.self) (ends c.args.other)) _ _ _ _ (in_sum (ends c.args.self) (ends c.args.other)) (search rules) (search rules);
}
