-- `call_cut::ranges_across` meets its contract: the part of each column is lent on.
use Prim.Native.Nat.{◌*◌}
use mathlib.Core.Path.{◌≡◌, refl}
use mathlib.Core.List.{[]}
use native.Mathlib.Nat.{add-sub_cancel_left}
use Rattle.model.specs.State.{Ranges}
use Rattle.model.specs.Store.{ranges as ranges_in}
use Rattle.model.specs.Insert.{ranges_across}
use Rattle.shape_state.specs.Lent.{ranges_of}
use Rattle.call_cut.proofs.Stores.{across-part, across-few}
use Rattle.call_cut.proofs.ranges_across.Goals as goal

pub returns : goal.returns
returns c =
    let found : (ranges : Ranges) → ranges.node ≡ c.args.node.now → ranges.start ≡ c.args.start.now → ranges.end ≡ c.args.end.now → c.ranges_across.result ≡ ranges_across c.args.j c.args.k (ranges_in ranges (128 * c.args.s) c.args.n) = λ ranges a b d. across-part c.args.s _ c.args.n c.args.j c.args.k c.ranges_across.result ranges c.args.node.now c.args.start.now c.args.end.now (add-sub_cancel_left (128 * c.args.s) 128) c.requires.1 c.ranges_across.ensures a b d in
    let a = c.args in (
      across-few a.s a.n a.j a.k c.ranges_across.result (ranges_of a.node.now a.start.now a.end.now [] [] [] [])
          (found (ranges_of a.node.now a.start.now a.end.now [] [] [] []) refl refl refl),
      found,
    )
