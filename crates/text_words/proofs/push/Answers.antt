-- `text_words::push` meets its contract, by a law for each kind of number.
use Rattle.std.proofs.Common.{rules, ◌≡◌, ◌*◌, ◌+◌, ◌<◌, ◌≤◌, MatchOption, IsNone, Err}
use Rattle.text_words.proofs.Laws.{push_not, push_err, push_ok}
use Rattle.text_words.proofs.push.Goals as goal

pub returns-then-base-d : goal.returns-then-base-d
returns-then-base-d c = λ o e. push_not _ _ _ c.digit-d.ensures o c.if-base-d.true

pub returns-in_err-n : goal.returns-in_err-n
returns-in_err-n c =
    let r : c.from_residual.result ≡ Err c.in_err-n.field-0.0 = search rules in
    push_err _ _ _ c.digit-d.ensures c.in_err-n.field-0.0 _ _ c.in_err-n.was r c.requires c.if-base-d.false

pub returns : goal.returns
returns c =
    let p : MatchOption c.checked_mul.result (18446744073709551616 ≤ c.in_ok-n.field-0 * c.args.base) (λ x. x ≡ c.in_ok-n.field-0 * c.args.base) = search rules in
    let q : MatchOption c.checked_mul.result (IsNone c.and_then.result)
    (λ x. MatchOption c.and_then.result (18446744073709551616 ≤ x + c.digit-d.result)
    (λ y. (y ≡ x + c.digit-d.result) × (x + c.digit-d.result < 18446744073709551616))) = search rules in
    push_ok _ _ _ c.digit-d.ensures _ _ _ _ _ c.in_ok-n.was c.requires c.if-base-d.false p q c.ok_or.ensures.value
