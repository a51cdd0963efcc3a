-- `text_words::skip_spaces` meets its contract, by what `position` finds.
use Rattle.std.proofs.Common.{rules, tests, arith, ◌≡◌, ◌+◌, ◌-◌, MatchOption, take, drop, length}
use Rattle.std.proofs.lemmas.Iterator.{YieldsList-from_slice}
use Rattle.std.proofs.lemmas.Iterator.Search.{position_from_yields_List}
use Rattle.std.specs.List.{position}
use Rattle.text_words.specs.Words.{other}
use Rattle.text_words.proofs.Laws.{first_found}
use Rattle.text_words.proofs.skip_spaces.Goals as goal

pub returns : goal.returns
returns c =
    let e : c.position.result ≡ position (other 32) (take (length c.args.s.now - c.args.i) (drop c.args.i c.args.s.now)) =
    position_from_yields_List (other 32) _ _ c.position.result c.position.ensures.ran (YieldsList-from_slice (take (length c.args.s.now - c.args.i) (drop c.args.i c.args.s.now)) (search rules)) (λ x b q k. search (rules, tests)) in
    let m : MatchOption c.position.result (c.map_or.result ≡ length c.args.s.now) (λ k. c.map_or.result ≡ c.args.i + k) = search rules in
    first_found (other 32) _ _ _ c.requires (omega arith) _ _ e m
