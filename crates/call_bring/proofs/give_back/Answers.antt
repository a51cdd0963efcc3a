-- `call_bring::give_back` meets its contract: the span is priced, and put at the first place.
use Rattle.rule_resolve.specs.Span.{only_depth}
use Rattle.pool_out.specs.Outs.{listed}
use Rattle.call_bring.specs.Settled.{whole}
use Rattle.pool_out.proofs.Laws.{carries}
use Rattle.call_bring.proofs.Bring.{whole_out}
use Rattle.call_bring.proofs.give_back.Goals as goal

pub returns-clause-given : goal.returns-clause-given
returns-clause-given c = let a = c.args in
    whole_out _ (whole (only_depth a.depth.now) a.bytes.now a.sp a.w) (listed a.outs.now) (listed c.put.new.self) c.requires.1 c.put.ensures.list
    (λ j. record { node = a.sp.node; start = a.sp.start; end = a.sp.end; write = carries a.w c.from.result c.from.ensures j; bytes = c.span_bytes.ensures j; dead = 0 })
