-- `text_words::next_byte` meets its contract, by what `position` finds.
use Rattle.std.proofs.Common.{rules, tests, ◌≡◌, ◌+◌, ◌-◌, MatchOption, take, drop}
use Rattle.std.proofs.lemmas.Iterator.{YieldsList-from_slice}
use Rattle.std.proofs.lemmas.Iterator.Search.{position_from_yields_List}
use Rattle.std.specs.List.{position}
use Rattle.text_words.specs.Words.{is}
use Rattle.text_words.proofs.Laws.{first_found}
use Rattle.text_words.proofs.next_byte.Goals as goal

pub returns : goal.returns
returns c =
    let e : c.position.result ≡ position (is c.args.b) (take (c.args.z - c.args.i) (drop c.args.i c.args.s.now)) =
    position_from_yields_List (is c.args.b) _ _ c.position.result c.position.ensures.ran (YieldsList-from_slice _ (search rules)) (λ x b q k. search (rules, tests)) in
    let m : MatchOption c.position.result (c.map_or.result ≡ c.args.z) (λ k. c.map_or.result ≡ c.args.i + k) = search rules in
    first_found (is c.args.b) _ _ _ c.requires.0 c.requires.1 _ _ e m
