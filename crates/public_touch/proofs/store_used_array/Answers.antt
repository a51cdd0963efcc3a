-- `public_touch::store_used_array` meets its contract: of 65 spans the first count are the first of them within 65. Assumes nothing.
use mathlib.Core.Path.{◌≡◌}
use native.Mathlib.Omega.{arith}
use lib.ListN.{length}
use Rattle.public_touch.proofs.Array.{take_within}
use Rattle.public_touch.proofs.store_used_array.Goals as goal

pub returns : goal.returns
returns c =
    let long : length c.args.spans ≡ 65 = omega arith in
    rw (take_within c.args.spans c.args.count long c.within-n.ensures) at c.first_used.ensures
