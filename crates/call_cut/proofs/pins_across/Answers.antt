-- `call_cut::pins_across` meets its contract: the part of each column is lent on.
use Prim.Native.Nat.{◌*◌}
use mathlib.Core.Path.{◌≡◌, refl}
use mathlib.Core.List.{[]}
use native.Mathlib.Nat.{add-sub_cancel_left}
use Rattle.model.specs.State.{Pins}
use Rattle.model.specs.Store.{pins as pins_in}
use Rattle.model.specs.Insert.{pins_across}
use Rattle.shape_state.specs.Lent.{pins_of}
use Rattle.call_cut.proofs.Stores.{pins-across-part, pins-few}
use Rattle.call_cut.proofs.pins_across.Goals as goal

pub returns : goal.returns
returns c =
    let found : (pins : Pins) → pins.node ≡ c.args.node.now → pins.start ≡ c.args.start.now → pins.end ≡ c.args.end.now → c.pins_across.result ≡ pins_across c.args.j c.args.k (pins_in pins (32 * c.args.s) c.args.n) = λ pins a b d. pins-across-part c.args.s _ c.args.n c.args.j c.args.k c.pins_across.result pins c.args.node.now c.args.start.now c.args.end.now (add-sub_cancel_left (32 * c.args.s) 32) c.requires.1 c.pins_across.ensures a b d in
    let a = c.args in (
      pins-few a.s a.n a.j a.k c.pins_across.result (pins_of a.node.now a.start.now a.end.now [])
          (found (pins_of a.node.now a.start.now a.end.now []) refl refl refl),
      found,
    )
