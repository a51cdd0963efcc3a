-- `call_bring::gaps_of` meets its contract: the part of each column is lent on, and its ranges are the store's. Assumes nothing.
use Rattle.std.proofs.Common.{refl, ap, ◌∙◌, ◌*◌, List}
use native.Mathlib.Nat.{add-sub_cancel_left}
use Rattle.model.specs.State.{Range}
use Rattle.model.specs.Store.{ranges}
use Rattle.model.specs.Bring.{gaps}
use Rattle.pool_range.specs.Lent.{seen}
use Rattle.pool_part.specs.Parts.{mid_ranges}
use Rattle.pool_part.proofs.Parts.{ranges-part}
use Rattle.call_bring.proofs.gaps_of.Goals as goal

pub returns-clause-gaps : goal.returns-clause-gaps
unfolding mid_ranges
returns-clause-gaps c = let a = c.args in
    c.store_missing.ensures.gaps _ refl refl refl
    ∙ ap (λ w. gaps a.sp.node (ranges (mid_ranges (128 * a.s) w (seen a.ranges)) 0 a.n) a.sp.start a.sp.end) (add-sub_cancel_left (128 * a.s) 128)
    ∙ ap (λ (rs : List Range). gaps a.sp.node rs a.sp.start a.sp.end) (ranges-part (seen a.ranges) (128 * a.s) 128 a.n c.requires.1)
