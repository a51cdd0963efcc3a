-- `rust_store::counter_of` meets its contract: each arm's counter is that of its number. Assumes nothing.
use Prim.Native.Nat.{◌≤◌}
use mathlib.Core.Path.{ap, ◌∙◌}
use native.Mathlib.Omega.{arith}
use Rattle.rust_values.proofs.Counter.{by_number, stalls-from}
use Rattle.rust_store.proofs.counter_of.Goals as goal

pub store_held_blocks-requires : goal.store_held_blocks-requires
store_held_blocks-requires c = c.requires

pub store_capacity_blocks-requires : goal.store_capacity_blocks-requires
store_capacity_blocks-requires c = c.requires

pub store_pinned_blocks-requires : goal.store_pinned_blocks-requires
store_pinned_blocks-requires c = c.requires

pub store_available_for_stage-requires : goal.store_available_for_stage-requires
store_available_for_stage-requires c = c.requires

pub source_version-requires : goal.source_version-requires
source_version-requires c = c.requires

pub pin_stalls-requires : goal.pin_stalls-requires
pin_stalls-requires c = c.requires.1

pub returns-in-0 : goal.returns-in-0
returns-in-0 c st same sound = by_number 0 st c.args.s c.in-0.is (c.store_held_blocks.ensures st (record { books = same; sound = sound }))

pub returns-in-1 : goal.returns-in-1
returns-in-1 c st same sound = by_number 1 st c.args.s c.in-1.is (c.store_capacity_blocks.ensures st (record { books = same; sound = sound }))

pub returns-in-2 : goal.returns-in-2
returns-in-2 c st same sound = by_number 2 st c.args.s c.in-2.is (c.store_pinned_blocks.ensures st (record { books = same; sound = sound }))

pub returns-in-3 : goal.returns-in-3
returns-in-3 c st same sound = by_number 3 st c.args.s c.in-3.is (c.store_available_for_stage.ensures st (record { books = same; sound = sound }))

pub returns-in-4 : goal.returns-in-4
returns-in-4 c st same sound = by_number 4 st c.args.s c.in-4.is (c.source_version.ensures st (record { books = same; sound = sound }))

pub returns-in_default : goal.returns-in_default
returns-in_default c = λ st same sound.
    let from : 5 ≤ c.args.which = omega arith in
    c.pin_stalls.ensures st (record { books = same; sound = sound }) ∙ ap (λ o. o.answer) (stalls-from c.args.which st c.args.s from)
