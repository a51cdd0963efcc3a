-- The counters by number, as Rust asks for them. Assumes nothing.
use Rattle.std.specs.Prelude.{ℕ, zero, suc}
use Rattle.model.specs.State.{State}
use Rattle.model.specs.Calls.{Outcome, NoList, held_call, capacity_call, pinned_call, available_call, version_call, stalls_call}

abbrev pub counter_call : ℕ → State → ℕ → Outcome NoList ℕ
counter_call zero st s = held_call st s
counter_call (suc zero) st s = capacity_call st s
counter_call (suc (suc zero)) st s = pinned_call st s
counter_call (suc (suc (suc zero))) st s = available_call st s
counter_call (suc (suc (suc (suc zero)))) st s = version_call st s
counter_call (suc (suc (suc (suc (suc n))))) st s = stalls_call st
