-- `test_tree::table_rises` meets its contract: what the search answered of the first 1,025 numbers.
use Rattle.std.proofs.Common.{rules, tests, leb, ◌≡◌}
use Rattle.std.proofs.lemmas.Fn.{always_returns_same}
use Rattle.test_tree.proofs.Table.{table_says}
use Rattle.test_tree.proofs.table_rises.Goals as goal

pub returns-then-bytes-le-MOST_BYTES : goal.returns-then-bytes-le-MOST_BYTES
returns-then-bytes-le-MOST_BYTES c =
    let a = c.is_sorted_by.ensures.cases leb (always_returns_same _ (λ x r. r ≡ leb x.0.now x.1.0.now) _ (λ x r f k. (search (rules, tests), search rules))) in
    table_says c.is_sorted_by.result c.args.bytes.now (search rules) (search rules) a
