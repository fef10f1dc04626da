use Rattle.std.proofs.Common.{rules}
use Rattle.span.specs.Encloses.{Differences}
use Rattle.span.specs.Spans.{ends}
use Rattle.span.proofs.Contains.{in_difference, moved}
use Rattle.span.proofs.span.Span.subtract.Goals as goal

pub returns : goal.returns
returns c = record {
  value = search rules;
  ordered = search rules;
  encloses = moved (Differences (ends c.args.self) (ends c.args.other)) _ _ _ _ (in_difference (ends c.args.self) (ends c.args.other)) (search rules) (search rules);
}
