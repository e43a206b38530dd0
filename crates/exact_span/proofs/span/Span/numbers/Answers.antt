-- The numbers of a span of positions are in range.
use Rattle.std.proofs.Common.{ap, arith, ◌*◌}
use Rattle.exact_span.proofs.SpanLemmas.{span-in_range}
use Rattle.exact_span.proofs.span.Span.numbers.Goals as goal

pub overflow_add-delay : goal.overflow_add-delay
overflow_add-delay c =
    let in_range =
    span-in_range c.requires.span c.requires.leads in
    omega (arith, in_range.delay_most, ap (λ s. c.args.leads * s) c.samples.ensures)

pub overflow_sub-delay : goal.overflow_sub-delay
overflow_sub-delay c =
    let in_range =
    span-in_range c.requires.span c.requires.leads in
    omega (arith, in_range.delay_least, ap (λ s. c.args.leads * s) c.samples.ensures)

pub overflow_cast-result : goal.overflow_cast-result
overflow_cast-result c =
    let in_range =
    span-in_range c.requires.span c.requires.leads in
    omega (arith, in_range.delay_most, ap (λ s. c.args.leads * s) c.samples.ensures)

pub overflow_add-result : goal.overflow_add-result
overflow_add-result c =
    let in_range =
    span-in_range c.requires.span c.requires.leads in
    omega (arith, in_range.padding_most)

pub overflow_cast-result-2 : goal.overflow_cast-result-2
overflow_cast-result-2 c =
    let in_range =
    span-in_range c.requires.span c.requires.leads in
    omega (arith, in_range.padding_most)

pub returns-clause-delay_most : goal.returns-clause-delay_most
returns-clause-delay_most c =
    let in_range =
    span-in_range c.requires.span c.requires.leads in
    omega (arith, in_range.delay_most, ap (λ s. c.args.leads * s) c.samples.ensures)

pub returns-clause-padding_most : goal.returns-clause-padding_most
returns-clause-padding_most c =
    let in_range =
    span-in_range c.requires.span c.requires.leads in
    omega (arith, in_range.padding_most)
