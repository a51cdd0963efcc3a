-- `call_bring::argument_refusal` meets its contract: each test is the condition's own. Assumes nothing.
use Rattle.test_arguments.proofs.Laws.{finite-is}
use Rattle.call_bring.proofs.Laws.{no_store_lem, bad-span, bad-time, arguments_pass}
use Rattle.std.proofs.Common.{ap}
use mathlib.Core.Bool.{not}
use Rattle.call_bring.proofs.argument_refusal.Goals as goal

pub returns-then-stores-s : goal.returns-then-stores-s
returns-then-stores-s c = λ st a b d. no_store_lem st c.args.s c.args.sp c.args.time c.args.stores d c.if-stores-s.true

pub returns-then-not-span_in : goal.returns-then-not-span_in
returns-then-not-span_in c = λ st a b d. bad-span st c.args.s c.args.sp c.args.time c.args.stores d c.if-stores-s.false c.span_in.result (c.span_in.ensures st.tree a b) (ap not c.if-not-span_in.true)

pub returns-then-not-finite : goal.returns-then-not-finite
returns-then-not-finite c = λ st a b d.
    bad-time st c.args.s c.args.sp c.args.time c.args.stores d c.if-stores-s.false c.span_in.result (c.span_in.ensures st.tree a b) (ap not c.if-not-span_in.false) c.finite.result (finite-is c.args.time c.finite.result c.finite.ensures) (ap not c.if-not-finite.true)

pub returns : goal.returns
returns c = λ st a b d.
    arguments_pass st c.args.s c.args.sp c.args.time c.args.stores d c.if-stores-s.false c.span_in.result (c.span_in.ensures st.tree a b) (ap not c.if-not-span_in.false) c.finite.result (finite-is c.args.time c.finite.result c.finite.ensures) (ap not c.if-not-finite.false)
