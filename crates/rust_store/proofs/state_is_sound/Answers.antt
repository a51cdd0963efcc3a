-- `rust_store::state_is_sound` meets its contract: what is asked where the state is known, else what the test says. Assumes nothing.
use Rattle.rust_store.proofs.state_is_sound.Goals as goal

pub returns-then-known : goal.returns-then-known
returns-then-known c = c.requires c.if-known.true

pub returns : goal.returns
returns c = c.sound_state.ensures
